-- An input within the limits is not refused if each of its lines is read.
use Rattle.std.proofs.Common.{◌≡◌, ◌≢◌, ℕ, ◌+◌, ◌<◌, ◌⊎◌, Bool, true, false, cond, List, [], ◌∷◌, ◌++◌, length, inl, inr, Option, Some, None, refl, sym, ap, ◌∙◌, subst, arith, append_assoc, append-nil, length-append}
use Rattle.std.specs.Prelude.{◌||◌}
use Rattle.std.proofs.lemmas.Bool.Decides.{nat_tests}
use Rattle.gps_outside.specs.Told.{Stream, Goes}
use Rattle.gps_outside.specs.ReadSteps.{PassesMore}
use Rattle.line_cut.specs.Limits.{is_too_long}
use Rattle.line_cut.specs.Lines.{has_feed, is_feed, last_lines, lines, open_line}
use Rattle.line_cut.proofs.Splits.{line_lines, line_opens, lines_go_on, lines_none, open_goes_on, open_plain, open_whole}
use Rattle.line_cut.proofs.Texts.{long_stays}
use Rattle.gps_client.specs.declared.line.Line.{Line}
use Rattle.gps_outside.specs.declared.outcome.CommandOutcome.{CommandOutcome}
use Rattle.gps_outside.specs.declared.outcome.CommandOutcome.TheVariants as outcome
use Rattle.class_counts.specs.Counted.{Counted, IsWithin}
use Rattle.class_counts.specs.Lines.{AreRead, EndsBadly, IsBad, IsRead, Refuses, known_lines, limit, whole_lines}
use Rattle.class_counts.specs.Reading.{most_bytes}
use Rattle.gps_outside.specs.Ends.{HasReadAll, HasReadSoFar, IsWithin as HoldsFew}
use Rattle.gps_outside.proofs.Limits.{no_more}

-- a bad line is not among lines that are read
no_bad : (v : Line) (line : List ℕ) → IsRead v line → IsBad line → ⊥
no_bad v line is (inl long) = let e : true ≡ false = sym long ∙ is.fits in absurd (cc)
no_bad v line is (inr none) = none v is.of_value

pub bad_among : (values : List Line) (before : List (List ℕ)) (line : List ℕ) (rest : List (List ℕ)) → AreRead values (before ++ line ∷ rest) → IsBad line → ⊥
bad_among [] [] line rest are bad = absurd are
bad_among (v ∷ values) [] line rest are bad = no_bad v line are.0 bad
bad_among [] (l ∷ before) line rest are bad = absurd are
bad_among (v ∷ values) (l ∷ before) line rest are bad = bad_among values before line rest are.1 bad

-- the same if the line begins one of them
first_read : (values : List Line) (before : List (List ℕ)) (line : List ℕ) (rest : List (List ℕ)) → AreRead values (before ++ line ∷ rest) → is_too_long limit line ≡ false
first_read [] [] line rest are = absurd are
first_read (v ∷ values) [] line rest are = are.0.fits
first_read [] (l ∷ before) line rest are = absurd are
first_read (v ∷ values) (l ∷ before) line rest are = first_read values before line rest are.1

-- bytes with a line feed, split at the first one
abbrev IsSplit : List ℕ → Type 0
IsSplit bytes = (text : List ℕ) × (rest : List ℕ) × (bytes ≡ text ++ 10 ∷ rest) × (has_feed text ≡ false)

or_false : (a b : Bool) → a ≡ false → b ≡ false → (a || b) ≡ false
or_false a b e f = ap (λ x. x || b) e ∙ f

split_first : (bytes : List ℕ) → (has_feed bytes ≡ false) ⊎ IsSplit bytes
split_first [] = inl refl
split_first (c ∷ bytes) = by_test (is_feed c) refl (split_first bytes)
  where
    by_test : (b : Bool) → is_feed c ≡ b → (has_feed bytes ≡ false) ⊎ IsSplit bytes → (has_feed (c ∷ bytes) ≡ false) ⊎ IsSplit (c ∷ bytes)
    by_test true is rest = inr ([], bytes, ap (λ d. d ∷ bytes) (let e : c ≡ 10 = grind (arith, nat_tests) in e), refl)
    by_test false is (inl none) = inl (or_false (is_feed c) (has_feed bytes) is none)
    by_test false is (inr s) = inr (c ∷ s.0, s.1, ap (λ t. c ∷ t) s.2, or_false (is_feed c) (has_feed s.0) is s.3)

plain_both : (a b : List ℕ) → has_feed a ≡ false → has_feed b ≡ false → has_feed (a ++ b) ≡ false
plain_both [] b none more = more
plain_both (c ∷ a) b none more =
    let parts = neither (is_feed c) (has_feed a) none in
    or_false (is_feed c) (has_feed (a ++ b)) parts.0 (plain_both a b parts.1 more)
  where
    neither : (x y : Bool) → (x || y) ≡ false → (x ≡ false) × (y ≡ false)
    neither true y e = absurd (cc)
    neither false y e = (refl, e)

-- an open line, and what comes after it: the next line begins with it
abbrev NextBegins : List ℕ → List ℕ → Type 0
NextBegins line more = (behind : List ℕ) × (rest : List (List ℕ)) × (whole_lines (line ++ more) ≡ (line ++ behind) ∷ rest)

one_last : (line more : List ℕ) → 0 < length line → last_lines (line ++ more) ≡ (line ++ more) ∷ []
one_last [] more some = absurd (omega (arith, some))
one_last (c ∷ line) more some = refl

next_begins : (line more : List ℕ) → has_feed line ≡ false → 0 < length line → NextBegins line more
next_begins line more plain some = elim (split_first more) [
  | inl none ↦
      let all = plain_both line more plain none in (
        more,
        [],
        ap (λ ls. ls ++ last_lines (open_line (line ++ more))) (lines_none (line ++ more) all)
            ∙ ap last_lines (open_whole (line ++ more) all) ∙ one_last line more some,
      )
  | inr s ↦
      let text : List ℕ = line ++ s.0 in
      let is : line ++ more ≡ (text ++ 10 ∷ []) ++ s.1 =
      ap (λ m. line ++ m) s.2 ∙ sym (append_assoc line s.0 (10 ∷ s.1)) ∙ sym (append_assoc text (10 ∷ []) s.1) in
      let head : text ++ 10 ∷ [] ≡ line ++ (s.0 ++ 10 ∷ []) = append_assoc line s.0 (10 ∷ []) in (
        s.0 ++ 10 ∷ [],
        whole_lines s.1,
        ap whole_lines is
            ∙ ap (λ ls. ls ++ last_lines (open_line ((text ++ 10 ∷ []) ++ s.1))) (line_lines text s.1 (plain_both line s.0 plain s.3))
            ∙ ap (λ o. ((text ++ 10 ∷ []) ∷ lines s.1) ++ last_lines o) (line_opens text s.1)
            ∙ ap (λ l. l ∷ whole_lines s.1) head,
      )
]

-- more bytes leave the lines before
goes_on : (first more : List ℕ) → whole_lines (first ++ more) ≡ lines first ++ whole_lines (open_line first ++ more)
goes_on first more =
    ap (λ ls. ls ++ last_lines (open_line (first ++ more))) (lines_go_on first more)
    ∙ ap (λ o. (lines first ++ lines (open_line first ++ more)) ++ last_lines o) (open_goes_on first more)
    ∙ append_assoc (lines first) (lines (open_line first ++ more)) (last_lines (open_line (open_line first ++ more)))

pub not_refused : (values : List Line) (first more : List ℕ) (n : ℕ) → AreRead values (whole_lines (first ++ more)) → EndsBadly (known_lines first) n → ⊥
not_refused values first more n are e = by_test (is_too_long limit (open_line first)) refl
  where
    read : AreRead values (lines first ++ whole_lines (open_line first ++ more))
    read = subst (λ ls. AreRead values ls) (goes_on first more) are

    by_test : (b : Bool) → is_too_long limit (open_line first) ≡ b → ⊥
    by_test false fits =
        let known : lines first ≡ e.before ++ e.line ∷ [] = sym (ap (λ b. lines first ++ cond b (open_line first ∷ []) []) fits ∙ append-nil (lines first)) ∙ e.split in
        let rest : List (List ℕ) = whole_lines (open_line first ++ more) in
        bad_among values e.before e.line rest
        (subst (λ ls. AreRead values ls) (ap (λ k. k ++ rest) known ∙ append_assoc e.before (e.line ∷ []) rest) read) e.bad
    by_test true long =
        let some : 0 < length (open_line first) = grind (arith, nat_tests) in
        let next = next_begins (open_line first) more (open_plain first) some in
        let fits : is_too_long limit (open_line first ++ next.0) ≡ false =
        first_read values (lines first) (open_line first ++ next.0) next.1 (subst (λ ls. AreRead values (lines first ++ ls)) next.2 read) in
        let still : is_too_long limit (open_line first ++ next.0) ≡ true = long_stays limit (open_line first) next.0 long in
        (let bad : true ≡ false = sym still ∙ fits in absurd (cc))

few : (source : Option Stream) → IsWithin source → HoldsFew most_bytes source
few None within = within
few (Some stream) within = within.0

no_bad_so_far : (bytes : List ℕ) (n : ℕ) (source after : Option Stream) → IsWithin source → HasReadSoFar most_bytes bytes source after → Refuses bytes n → ⊥
no_bad_so_far bytes n source after within (inr full) refuses = no_more most_bytes bytes source after (few source within) full.0 full.1
no_bad_so_far bytes n None after within (inl read) refuses = within
no_bad_so_far bytes n (Some stream) None within (inl read) refuses = read.1
no_bad_so_far bytes n (Some stream) (Some after) within (inl read) refuses =
    let left : stream.left ≡ refuses.first ++ (refuses.more ++ after.left) =
    read.1.next ∙ ap (λ b. b ++ after.left) refuses.begins ∙ append_assoc refuses.first refuses.more after.left in
    not_refused within.1.0 refuses.first (refuses.more ++ after.left) n (subst (λ b. AreRead within.1.0 (whole_lines b)) left within.1.1) refuses.ends

no_bad_at_end : (bytes : List ℕ) (n : ℕ) (source after : Option Stream) → IsWithin source → HasReadAll most_bytes bytes source after → EndsBadly (whole_lines bytes) n → ⊥
no_bad_at_end bytes n None after within read e = within
no_bad_at_end bytes n (Some stream) None within read e = read.1
no_bad_at_end bytes n (Some stream) (Some after) within read e =
    bad_among within.1.0 e.before e.line []
    (subst (λ ls. AreRead within.1.0 ls) (ap whole_lines read.1.all ∙ e.split) within.1.1) e.bad

pub within : (o : CommandOutcome) (source after : Option Stream) (sink sink' : Option (List ℕ)) → Counted o source after sink sink' → IsWithin source
    → (o ≢ outcome.Full) × ((n : ℕ) → o ≢ outcome.BadLine n)
within o source after sink sink' counted inside = (
  λ full. let c : Counted outcome.Full source after sink sink' = subst (λ p. Counted p source after sink sink') full counted in
      no_more most_bytes c.bytes source after (few source inside) c.ends.0 c.ends.1,
  λ n bad. let c : Counted (outcome.BadLine n) source after sink sink' = subst (λ p. Counted p source after sink sink') bad counted in
      elim c.ends [
        | inl so_far ↦ no_bad_so_far c.bytes n source after inside so_far.0 so_far.1.0
        | inr whole ↦ no_bad_at_end c.bytes n source after inside whole.0 whole.1.0
      ],
)
