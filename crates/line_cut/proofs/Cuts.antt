-- The steps of a cutter.
use Rattle.std.proofs.Common.{◌≡◌, ◌<◌, ℕ, Bool, true, false, not, ◌||◌, List, [], ◌∷◌, ◌++◌, length, take, refl, sym, subst, ap, ◌∙◌, inl, inr, arith, append_assoc, if◌then◌else◌}
use Rattle.std.specs.List.{filter}
use Rattle.std.proofs.lemmas.List.{append-nil, take_all}
use Rattle.std.proofs.lemmas.List.Folds.{list_any-append}
use Rattle.line_cut.specs.declared.limit.Limit.{Limit}
use Rattle.line_cut.specs.declared.next.WholeLine.{WholeLine}
use Rattle.line_cut.specs.declared.next.Next.TheVariants as next
use Rattle.line_cut.specs.Lines.{EndsAt, IsLine, has_feed, is_feed, lines, open_line}
use Rattle.line_cut.specs.Limits.{fits, fitting_lines, is_too_long}
use Rattle.line_cut.specs.Standing.{LineCutterView, StandsFor, Steps, kept_of, spelling}
use Rattle.line_cut.proofs.Splits.{fitting_goes_on, line_lines, line_opens, lines_go_on, lines_none, open_goes_on, open_plain, open_whole}
use Rattle.line_cut.proofs.Texts.{long_stays, none_fits}

abbrev pub holding : Limit → Bool → List ℕ → LineCutterView
holding limit skipping held = record { limit = limit; skipping = skipping; held = held }

chosen : (limit : Limit) (held : List ℕ) → Bool → LineCutterView
chosen limit held b = if b then holding limit true [] else holding limit false held

pub kept_short : (limit : Limit) (bytes : List ℕ) → is_too_long limit (open_line bytes) ≡ false →
    holding limit false (open_line bytes) ≡ kept_of limit bytes
unfolding chosen
kept_short limit bytes short = ap (chosen limit (open_line bytes)) (sym short)

pub kept_long : (limit : Limit) (bytes : List ℕ) → is_too_long limit (open_line bytes) ≡ true →
    holding limit true [] ≡ kept_of limit bytes
unfolding chosen
kept_long limit bytes long = ap (chosen limit (open_line bytes)) (sym long)

-- what a cutter that stands for these bytes keeps
stood_skipping : (kept : LineCutterView) (bytes : List ℕ) → StandsFor kept bytes → kept.skipping ≡ is_too_long kept.limit (open_line bytes)
unfolding chosen
stood_skipping kept bytes stands = ap (λ k. k.skipping) stands ∙ go (is_too_long kept.limit (open_line bytes))
  where
    go : (b : Bool) → (chosen kept.limit (open_line bytes) b).skipping ≡ b
    go true = refl
    go false = refl

stood_held : (kept : LineCutterView) (bytes : List ℕ) → StandsFor kept bytes → is_too_long kept.limit (open_line bytes) ≡ false → kept.held ≡ open_line bytes
unfolding chosen
stood_held kept bytes stands short = ap (λ k. k.held) stands ∙ ap (λ b. (chosen kept.limit (open_line bytes) b).held) short

-- what the cutter tests is whether the open line is too long with these bytes
passed : (old : LineCutterView) (bytes part : List ℕ) → StandsFor old bytes →
    (old.skipping || is_too_long old.limit (old.held ++ part)) ≡ is_too_long old.limit (open_line bytes ++ part)
passed old bytes part stands = go (is_too_long old.limit (open_line bytes)) refl
  where
    go : (b : Bool) → is_too_long old.limit (open_line bytes) ≡ b →
        (old.skipping || is_too_long old.limit (old.held ++ part)) ≡ is_too_long old.limit (open_line bytes ++ part)
    go true long =
        ap (λ b. b || is_too_long old.limit (old.held ++ part)) (stood_skipping old bytes stands ∙ long)
        ∙ sym (long_stays old.limit (open_line bytes) part long)
    go false short =
        ap (λ b. b || is_too_long old.limit (old.held ++ part)) (stood_skipping old bytes stands ∙ short)
        ∙ ap (λ t. is_too_long old.limit (t ++ part)) (stood_held old bytes stands short)

-- what is held, if the line is not too long
held_is : (old : LineCutterView) (bytes part : List ℕ) → StandsFor old bytes →
    (old.skipping || is_too_long old.limit (old.held ++ part)) ≡ false → old.held ≡ open_line bytes
held_is old bytes part stands short = stood_held old bytes stands (go old.skipping refl short)
  where
    go : (b : Bool) → old.skipping ≡ b → (b || is_too_long old.limit (old.held ++ part)) ≡ false → is_too_long old.limit (open_line bytes) ≡ false
    go true is never = absurd (cc)
    go false is never = sym (stood_skipping old bytes stands) ∙ is

pub not_skipping : (kept : LineCutterView) (part : List ℕ) → (kept.skipping || is_too_long kept.limit (kept.held ++ part)) ≡ false → kept.skipping ≡ false
not_skipping kept part short = go kept.skipping refl short
  where
    go : (b : Bool) → kept.skipping ≡ b → (b || is_too_long kept.limit (kept.held ++ part)) ≡ false → kept.skipping ≡ false
    go true is never = absurd (cc)
    go false is never = is

-- a cutter that holds nothing
pub holds_nothing : (inside kept : LineCutterView) → inside ≡ kept → inside.held ≡ [] → kept.skipping ≡ false → kept ≡ holding kept.limit false []
holds_nothing inside kept is none stays =
    ap (λ h. holding kept.limit kept.skipping h) (sym (ap (λ k. k.held) is) ∙ none) ∙ ap (λ s. holding kept.limit s []) stays

-- what is held is changed
pub now_holds : (inside kept : LineCutterView) (skipping : Bool) (held more : List ℕ) → inside ≡ kept → held ≡ more →
    holding inside.limit skipping held ≡ holding kept.limit skipping more
now_holds inside kept skipping held more is holds =
    ap (λ k. holding k.limit skipping held) is ∙ ap (λ h. holding kept.limit skipping h) holds

pub goes_holding : (inside kept : LineCutterView) (held more : List ℕ) → inside ≡ kept → kept.skipping ≡ false → held ≡ more →
    holding inside.limit inside.skipping held ≡ holding kept.limit false more
goes_holding inside kept held more is stays holds =
    ap (λ s. holding inside.limit s held) (ap (λ k. k.skipping) is ∙ stays) ∙ now_holds inside kept false held more is holds

-- the open line with its end
line_behind : (bytes part : List ℕ) → IsLine part → IsLine (open_line bytes ++ part)
line_behind bytes part is = record {
  text = open_line bytes ++ is.text;
  plain = list_any-append is_feed (open_line bytes) is.text ∙ ap (λ b. b || has_feed is.text) (open_plain bytes) ∙ is.plain;
  spelled = ap (λ t. open_line bytes ++ t) is.spelled ∙ sym (append_assoc (open_line bytes) is.text (10 ∷ []));
}

one_line : (line : List ℕ) → IsLine line → lines line ≡ line ∷ []
unfolding lines
one_line line is =
    ap lines (is.spelled ∙ sym (append-nil (is.text ++ 10 ∷ []))) ∙ line_lines is.text [] is.plain ∙ ap (λ t. t ∷ []) (sym is.spelled)

one_opens : (line : List ℕ) → IsLine line → open_line line ≡ []
unfolding open_line
one_opens line is = ap open_line (is.spelled ∙ sym (append-nil (is.text ++ 10 ∷ []))) ∙ line_opens is.text []

-- Of bytes whose end ends a line.
record Ended (bytes part : List ℕ) : Type 0 where
  lines_are : lines (bytes ++ part) ≡ lines bytes ++ (open_line bytes ++ part) ∷ []
  opens : open_line (bytes ++ part) ≡ []

ended : (bytes part : List ℕ) → IsLine part → Ended bytes part
ended bytes part is = record {
  lines_are = lines_go_on bytes part ∙ ap (λ t. lines bytes ++ t) (one_line (open_line bytes ++ part) (line_behind bytes part is));
  opens = open_goes_on bytes part ∙ one_opens (open_line bytes ++ part) (line_behind bytes part is);
}

fitting_ended : (limit : Limit) (bytes part : List ℕ) → IsLine part → (b : Bool) → is_too_long limit (open_line bytes ++ part) ≡ b →
    fitting_lines limit (bytes ++ part) ≡ fitting_lines limit bytes ++ (if b then [] else (open_line bytes ++ part) ∷ [])
fitting_ended limit bytes part is b long =
    let line : List ℕ = open_line bytes ++ part in
    fitting_goes_on limit bytes part
    ∙ ap (λ t. fitting_lines limit bytes ++ filter (fits limit) t) (one_line line (line_behind bytes part is))
    ∙ ap (λ b. fitting_lines limit bytes ++ filter (λ _. not b) (line ∷ [])) long
    ∙ go b
  where
    go : (b : Bool) → fitting_lines limit bytes ++ filter (λ _. not b) ((open_line bytes ++ part) ∷ []) ≡ fitting_lines limit bytes ++ (if b then [] else (open_line bytes ++ part) ∷ [])
    go true = refl
    go false = refl

-- after a line's end nothing is held
stands_ended : (limit : Limit) (bytes part : List ℕ) → IsLine part → StandsFor (holding limit false []) (bytes ++ part)
stands_ended limit bytes part is =
    let opens : open_line (bytes ++ part) ≡ [] = (ended bytes part is).opens in
    ap (λ t. holding limit false t) (sym opens)
    ∙ kept_short limit (bytes ++ part) (ap (is_too_long limit) opens ∙ none_fits limit)

-- a line's end, if the line is too long
pub end_long : (old new : LineCutterView) (piece part : List ℕ) (n : ℕ) → EndsAt piece n → part ≡ take n piece →
    (old.skipping || is_too_long old.limit (old.held ++ part)) ≡ true → new ≡ holding old.limit false [] →
    Steps old new piece (next.TooLong n)
end_long old new piece part n ends front long is bytes stands =
    let whole : is_too_long old.limit (open_line bytes ++ take n piece) ≡ true =
    sym (passed old bytes (take n piece) stands) ∙ ap (λ p. old.skipping || is_too_long old.limit (old.held ++ p)) (sym front) ∙ long in
    let end : Ended bytes (take n piece) = ended bytes (take n piece) ends.is in
    record {
      gives = record { some = ends.some; inside = ends.inside; long = whole; lines = inl (end.lines_are, end.opens) };
      stands = subst (λ k. StandsFor k (bytes ++ take n piece)) (sym is) (stands_ended old.limit bytes (take n piece) ends.is);
      fitting = fitting_ended old.limit bytes (take n piece) ends.is true whole;
    }

-- a line's end, if the line fits
pub end_line : (old new : LineCutterView) (piece part : List ℕ) (n : ℕ) (line : WholeLine) → EndsAt piece n → part ≡ take n piece →
    (old.skipping || is_too_long old.limit (old.held ++ part)) ≡ false → spelling line ≡ old.held ++ part →
    new ≡ holding old.limit false [] →
    Steps old new piece (next.Line line n)
end_line old new piece part n line ends front short spelled is bytes stands =
    let test : (old.skipping || is_too_long old.limit (old.held ++ take n piece)) ≡ false =
    ap (λ p. old.skipping || is_too_long old.limit (old.held ++ p)) (sym front) ∙ short in
    let whole : is_too_long old.limit (open_line bytes ++ take n piece) ≡ false = sym (passed old bytes (take n piece) stands) ∙ test in
    let end : Ended bytes (take n piece) = ended bytes (take n piece) ends.is in
    let same : spelling line ≡ open_line bytes ++ take n piece =
    spelled ∙ ap (λ p. old.held ++ p) front ∙ ap (λ h. h ++ take n piece) (held_is old bytes (take n piece) stands test) in
    record {
      gives = record {
        some = ends.some;
        inside = ends.inside;
        is = same;
        lines = end.lines_are ∙ ap (λ t. lines bytes ++ t ∷ []) (sym same);
        opens = end.opens;
        fits = ap (is_too_long old.limit) same ∙ whole;
      };
      stands = subst (λ k. StandsFor k (bytes ++ take n piece)) (sym is) (stands_ended old.limit bytes (take n piece) ends.is);
      fitting = fitting_ended old.limit bytes (take n piece) ends.is false whole ∙ ap (λ t. fitting_lines old.limit bytes ++ t ∷ []) (sym same);
    }

-- Of bytes after which no line ends.
record Open (bytes piece : List ℕ) : Type 0 where
  none : lines (open_line bytes ++ piece) ≡ []
  lines_are : lines (bytes ++ piece) ≡ lines bytes
  opens : open_line (bytes ++ piece) ≡ open_line bytes ++ piece

opened : (bytes piece : List ℕ) → has_feed piece ≡ false → Open bytes piece
opened bytes piece plain =
    let whole : has_feed (open_line bytes ++ piece) ≡ false =
    list_any-append is_feed (open_line bytes) piece ∙ ap (λ b. b || has_feed piece) (open_plain bytes) ∙ plain in
    let none : lines (open_line bytes ++ piece) ≡ [] = lines_none (open_line bytes ++ piece) whole in
    record {
      none = none;
      lines_are = lines_go_on bytes piece ∙ ap (λ t. lines bytes ++ t) none ∙ append-nil (lines bytes);
      opens = open_goes_on bytes piece ∙ open_whole (open_line bytes ++ piece) whole;
    }

fitting_opened : (limit : Limit) (bytes piece : List ℕ) → has_feed piece ≡ false → fitting_lines limit (bytes ++ piece) ≡ fitting_lines limit bytes ++ []
fitting_opened limit bytes piece plain =
    fitting_goes_on limit bytes piece ∙ ap (λ t. fitting_lines limit bytes ++ filter (fits limit) t) (opened bytes piece plain).none

all_of : (piece : List ℕ) → take (length piece) piece ≡ piece
all_of piece = take_all (length piece) piece (omega arith)

-- no line's end, if the line is too long
pub goes_long : (old new : LineCutterView) (piece : List ℕ) → has_feed piece ≡ false → 0 < length piece →
    (old.skipping || is_too_long old.limit (old.held ++ piece)) ≡ true → new ≡ holding old.limit true [] →
    Steps old new piece (next.TooLong (length piece))
goes_long old new piece plain some long is bytes stands =
    let whole : is_too_long old.limit (open_line bytes ++ piece) ≡ true = sym (passed old bytes piece stands) ∙ long in
    let open_on : Open bytes piece = opened bytes piece plain in
    record {
      gives = record { some = some; inside = omega arith; long = rw (all_of piece) whole; lines = inr (refl, rw (all_of piece) (open_on.lines_are), rw (all_of piece) (open_on.opens)) };
      stands = rw (all_of piece) (subst (λ k. StandsFor k (bytes ++ piece)) (sym is) (kept_long old.limit (bytes ++ piece) (ap (is_too_long old.limit) open_on.opens ∙ whole)));
      fitting = rw (all_of piece) (fitting_opened old.limit bytes piece plain);
    }

-- no line's end, if the line fits
pub goes_on : (old new : LineCutterView) (piece : List ℕ) → has_feed piece ≡ false →
    (old.skipping || is_too_long old.limit (old.held ++ piece)) ≡ false → new ≡ holding old.limit false (old.held ++ piece) →
    Steps old new piece next.Used
goes_on old new piece plain short is bytes stands =
    let whole : is_too_long old.limit (open_line bytes ++ piece) ≡ false = sym (passed old bytes piece stands) ∙ short in
    let open_on : Open bytes piece = opened bytes piece plain in
    let fits_now : is_too_long old.limit (open_line (bytes ++ piece)) ≡ false = ap (is_too_long old.limit) open_on.opens ∙ whole in
    let kept : new ≡ holding old.limit false (open_line (bytes ++ piece)) =
    is ∙ ap (λ t. holding old.limit false t) (ap (λ h. h ++ piece) (held_is old bytes piece stands short) ∙ sym open_on.opens) in
    record {
      gives = record { lines = open_on.lines_are; opens = open_on.opens; fits = λ _. fits_now };
      stands = rw (all_of piece) (subst (λ k. StandsFor k (bytes ++ piece)) (sym kept) (kept_short old.limit (bytes ++ piece) fits_now));
      fitting = rw (all_of piece) (fitting_opened old.limit bytes piece plain);
    }

-- a piece without bytes
pub goes_nowhere : (old : LineCutterView) (piece : List ℕ) → length piece ≡ 0 → Steps old old piece next.Used
goes_nowhere old [] none bytes stands =
    let same : bytes ++ [] ≡ bytes = append-nil bytes in
    record {
      gives = record { lines = ap lines same; opens = ap open_line same ∙ sym (append-nil (open_line bytes)); fits = λ some. absurd (omega arith) };
      stands = subst (λ t. StandsFor old t) (sym same) stands;
      fitting = ap (fitting_lines old.limit) same ∙ sym (append-nil (fitting_lines old.limit bytes));
    }
goes_nowhere old (c ∷ piece) none bytes stands = absurd (omega (arith, none))
