-- The lines of joined bytes.
use Rattle.std.proofs.Common.{◌≡◌, ◌+◌, ℕ, Bool, true, false, ◌||◌, List, [], ◌∷◌, ◌++◌, length, refl, sym, ap, ◌∙◌, append_assoc, eqb-true, if◌then◌else◌}
use Rattle.std.specs.List.{concat, filter}
use Rattle.std.proofs.lemmas.List.{length-append}
use Rattle.std.proofs.lemmas.List.Elements.{filter-append}
use Rattle.std.proofs.lemmas.List.Folds.{list_any-append}
use Rattle.line_cut.specs.declared.limit.Limit.{Limit}
use Rattle.line_cut.specs.Lines.{AreLines, has_feed, is_feed, lines, open_line, with_first}
use Rattle.line_cut.specs.Limits.{fits, fitting_lines}

-- without a line feed there is no line
pub lines_none : (bytes : List ℕ) → has_feed bytes ≡ false → lines bytes ≡ []
unfolding lines
lines_none [] plain = refl
lines_none (c ∷ bytes) plain = go (is_feed c) plain (lines_none bytes)
  where
    go : (b : Bool) → (b || has_feed bytes) ≡ false → (has_feed bytes ≡ false → lines bytes ≡ []) → (if b then (c ∷ []) ∷ lines bytes else with_first c (lines bytes)) ≡ []
    go true none behind = absurd (cc)
    go false none behind = ap (with_first c) (behind none)

pub open_whole : (bytes : List ℕ) → has_feed bytes ≡ false → open_line bytes ≡ bytes
unfolding open_line
open_whole [] plain = refl
open_whole (c ∷ bytes) plain = ap (λ b. if b then open_line bytes else c ∷ bytes) plain

pub open_plain : (bytes : List ℕ) → has_feed (open_line bytes) ≡ false
unfolding open_line
open_plain [] = refl
open_plain (c ∷ bytes) = go (has_feed (c ∷ bytes)) refl (open_plain bytes)
  where
    go : (b : Bool) → has_feed (c ∷ bytes) ≡ b → has_feed (open_line bytes) ≡ false → has_feed (if b then open_line bytes else c ∷ bytes) ≡ false
    go true is behind = behind
    go false is behind = is

record SomeLine (bytes : List ℕ) : Type 0 where
  line : List ℕ
  rest : List (List ℕ)
  is : lines bytes ≡ line ∷ rest

-- with a line feed there is a line
some_line : (bytes : List ℕ) → has_feed bytes ≡ true → SomeLine bytes
unfolding lines
some_line [] some = absurd (cc)
some_line (c ∷ bytes) some = go (is_feed c) refl some (some_line bytes)
  where
    go : (b : Bool) → is_feed c ≡ b → (b || has_feed bytes) ≡ true → (has_feed bytes ≡ true → SomeLine bytes) → SomeLine (c ∷ bytes)
    go true is has behind = record { line = c ∷ []; rest = lines bytes; is = ap (λ b. if b then (c ∷ []) ∷ lines bytes else with_first c (lines bytes)) is }
    go false is has behind =
        let found : SomeLine bytes = behind has in
        record {
          line = c ∷ found.line;
          rest = found.rest;
          is = ap (λ b. if b then (c ∷ []) ∷ lines bytes else with_first c (lines bytes)) is ∙ ap (with_first c) found.is;
        }

with_first-append : (c : ℕ) (line : List ℕ) (first rest more : List (List ℕ)) → first ≡ line ∷ rest → with_first c (first ++ more) ≡ with_first c first ++ more
with_first-append c line first rest more is =
    ap (λ t. with_first c (t ++ more)) is ∙ ap (λ t. with_first c t ++ more) (sym is)

-- a byte that is no line feed, before bytes of whose lines the law holds
with_byte : (c : ℕ) (bytes more : List ℕ) → is_feed c ≡ false → (b : Bool) → has_feed bytes ≡ b →
    with_first c (lines bytes ++ lines (open_line bytes ++ more)) ≡ with_first c (lines bytes) ++ lines ((if b then open_line bytes else c ∷ bytes) ++ more)
unfolding lines
with_byte c bytes more is true some =
    let found : SomeLine bytes = some_line bytes some in
    with_first-append c found.line (lines bytes) found.rest (lines (open_line bytes ++ more)) found.is
with_byte c bytes more is false plain =
    ap (λ t. with_first c (t ++ lines (open_line bytes ++ more))) (lines_none bytes plain)
    ∙ ap (λ t. with_first c (lines (t ++ more))) (open_whole bytes plain)
    ∙ ap (λ b. if b then (c ∷ []) ∷ lines (bytes ++ more) else with_first c (lines (bytes ++ more))) (sym is)
    ∙ ap (λ t. with_first c t ++ lines ((c ∷ bytes) ++ more)) (sym (lines_none bytes plain))

pub lines_go_on : (bytes more : List ℕ) → lines (bytes ++ more) ≡ lines bytes ++ lines (open_line bytes ++ more)
unfolding lines open_line
lines_go_on [] more = refl
lines_go_on (c ∷ bytes) more = go (is_feed c) refl (lines_go_on bytes more)
  where
    go : (b : Bool) → is_feed c ≡ b → lines (bytes ++ more) ≡ lines bytes ++ lines (open_line bytes ++ more) →
        (if b then (c ∷ []) ∷ lines (bytes ++ more) else with_first c (lines (bytes ++ more)))
        ≡ (if b then (c ∷ []) ∷ lines bytes else with_first c (lines bytes)) ++ lines ((if b || has_feed bytes then open_line bytes else c ∷ bytes) ++ more)
    go true is behind = ap (λ rest. (c ∷ []) ∷ rest) behind
    go false is behind = ap (with_first c) behind ∙ with_byte c bytes more is (has_feed bytes) refl

pub open_goes_on : (bytes more : List ℕ) → open_line (bytes ++ more) ≡ open_line (open_line bytes ++ more)
unfolding open_line
open_goes_on [] more = refl
open_goes_on (c ∷ bytes) more = go (has_feed (c ∷ bytes)) refl (open_goes_on bytes more)
  where
    go : (b : Bool) → has_feed (c ∷ bytes) ≡ b → open_line (bytes ++ more) ≡ open_line (open_line bytes ++ more) →
        open_line (c ∷ (bytes ++ more)) ≡ open_line ((if b then open_line bytes else c ∷ bytes) ++ more)
    go true is behind =
        ap (λ b. if b then open_line (bytes ++ more) else c ∷ (bytes ++ more)) (list_any-append is_feed (c ∷ bytes) more ∙ ap (λ b. b || has_feed more) is)
        ∙ behind
    go false is behind = refl

joined_byte : (c : ℕ) (bytes : List ℕ) → concat (lines bytes) ++ open_line bytes ≡ bytes → (b : Bool) → has_feed bytes ≡ b →
    concat (with_first c (lines bytes)) ++ (if b then open_line bytes else c ∷ bytes) ≡ c ∷ bytes
joined_byte c bytes behind true some =
    let found : SomeLine bytes = some_line bytes some in
    ap (λ t. concat (with_first c t) ++ open_line bytes) found.is
    ∙ ap (λ t. c ∷ (concat t ++ open_line bytes)) (sym found.is)
    ∙ ap (λ t. c ∷ t) behind
joined_byte c bytes behind false plain = ap (λ t. concat (with_first c t) ++ (c ∷ bytes)) (lines_none bytes plain)

pub joined : (bytes : List ℕ) → concat (lines bytes) ++ open_line bytes ≡ bytes
unfolding lines open_line
joined [] = refl
joined (c ∷ bytes) = go (is_feed c) (joined bytes)
  where
    go : (b : Bool) → concat (lines bytes) ++ open_line bytes ≡ bytes →
        concat (if b then (c ∷ []) ∷ lines bytes else with_first c (lines bytes)) ++ (if b || has_feed bytes then open_line bytes else c ∷ bytes) ≡ c ∷ bytes
    go true behind = ap (λ t. c ∷ t) behind
    go false behind = joined_byte c bytes behind (has_feed bytes) refl

longer_first : (c : ℕ) (rest : List (List ℕ)) → is_feed c ≡ false → AreLines rest → AreLines (with_first c rest)
longer_first c [] plain are = tt
longer_first c (line ∷ rest) plain are =
    (record { text = c ∷ are.0.text; plain = ap (λ b. b || has_feed are.0.text) plain ∙ are.0.plain; spelled = ap (λ t. c ∷ t) are.0.spelled }, are.1)

pub are_lines : (bytes : List ℕ) → AreLines (lines bytes)
unfolding lines
are_lines [] = tt
are_lines (c ∷ bytes) = go (is_feed c) refl (are_lines bytes)
  where
    go : (b : Bool) → is_feed c ≡ b → AreLines (lines bytes) → AreLines (if b then (c ∷ []) ∷ lines bytes else with_first c (lines bytes))
    go true is behind = (record { text = []; plain = refl; spelled = ap (λ d. d ∷ []) (eqb-true c 10 is) }, behind)
    go false is behind = longer_first c (lines bytes) is behind

-- one line, and bytes after it
pub line_lines : (text rest : List ℕ) → has_feed text ≡ false → lines ((text ++ 10 ∷ []) ++ rest) ≡ (text ++ 10 ∷ []) ∷ lines rest
unfolding lines
line_lines [] rest plain = refl
line_lines (c ∷ text) rest plain = go (is_feed c) plain (line_lines text rest)
  where
    go : (b : Bool) → (b || has_feed text) ≡ false → (has_feed text ≡ false → lines ((text ++ 10 ∷ []) ++ rest) ≡ (text ++ 10 ∷ []) ∷ lines rest) →
        (if b then (c ∷ []) ∷ lines ((text ++ 10 ∷ []) ++ rest) else with_first c (lines ((text ++ 10 ∷ []) ++ rest))) ≡ (c ∷ (text ++ 10 ∷ [])) ∷ lines rest
    go true none behind = absurd (cc)
    go false none behind = ap (with_first c) (behind none)

has_end : (text rest : List ℕ) → has_feed ((text ++ 10 ∷ []) ++ rest) ≡ true
has_end [] rest = refl
has_end (c ∷ text) rest = go (is_feed c) (has_end text rest)
  where
    go : (b : Bool) → has_feed ((text ++ 10 ∷ []) ++ rest) ≡ true → (b || has_feed ((text ++ 10 ∷ []) ++ rest)) ≡ true
    go true behind = refl
    go false behind = behind

pub line_opens : (text rest : List ℕ) → open_line ((text ++ 10 ∷ []) ++ rest) ≡ open_line rest
unfolding open_line
line_opens [] rest = refl
line_opens (c ∷ text) rest =
    ap (λ b. if b then open_line ((text ++ 10 ∷ []) ++ rest) else c ∷ ((text ++ 10 ∷ []) ++ rest)) (has_end (c ∷ text) rest)
    ∙ line_opens text rest

pub only_lines : (split : List (List ℕ)) (rest : List ℕ) → AreLines split → has_feed rest ≡ false → lines (concat split ++ rest) ≡ split
only_lines [] rest are plain = lines_none rest plain
only_lines (line ∷ split) rest are plain =
    ap lines (append_assoc line (concat split) rest)
    ∙ ap (λ t. lines (t ++ (concat split ++ rest))) are.0.spelled
    ∙ line_lines are.0.text (concat split ++ rest) are.0.plain
    ∙ ap (λ t. t ∷ lines (concat split ++ rest)) (sym are.0.spelled)
    ∙ ap (λ t. line ∷ t) (only_lines split rest are.1 plain)

pub only_opens : (split : List (List ℕ)) (rest : List ℕ) → AreLines split → has_feed rest ≡ false → open_line (concat split ++ rest) ≡ rest
only_opens [] rest are plain = open_whole rest plain
only_opens (line ∷ split) rest are plain =
    ap open_line (append_assoc line (concat split) rest)
    ∙ ap (λ t. open_line (t ++ (concat split ++ rest))) are.0.spelled
    ∙ line_opens are.0.text (concat split ++ rest)
    ∙ only_opens split rest are.1 plain

pub numbers_go_on : (bytes more : List ℕ) → length (lines (bytes ++ more)) ≡ length (lines bytes) + length (lines (open_line bytes ++ more))
numbers_go_on bytes more = ap length (lines_go_on bytes more) ∙ length-append (lines bytes) (lines (open_line bytes ++ more))

pub fitting_goes_on : (limit : Limit) (bytes more : List ℕ) →
    fitting_lines limit (bytes ++ more) ≡ fitting_lines limit bytes ++ fitting_lines limit (open_line bytes ++ more)
fitting_goes_on limit bytes more = ap (filter (fits limit)) (lines_go_on bytes more) ∙ filter-append (fits limit) (lines bytes) (lines (open_line bytes ++ more))
