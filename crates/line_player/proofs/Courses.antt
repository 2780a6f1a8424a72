-- The course of a text over more lines.
use Rattle.std.proofs.Common.{◌≡◌, ℕ, true, false, List, [], ◌∷◌, ◌++◌, length, fold, nat_lt, Option, Some, None, refl, ◌∙◌, ap, append_assoc}
use Rattle.std.proofs.lemmas.List.{append-nil, map-append}
use Rattle.std.proofs.lemmas.Grind.{fold-append}
use Rattle.line_cut.specs.declared.limit.Limit.{Limit}
use Rattle.line_cut.specs.declared.limit.Limit.TheVariants.{Text, Whole}
use Rattle.line_cut.specs.Limits.{is_too_long, most}
use Rattle.line_cut.specs.Lines.{lines, open_line}
use Rattle.line_cut.proofs.Splits.{lines_go_on}
use Rattle.line_player.specs.Rules.{Effect, Rules, effect_within, text_in}
use Rattle.line_player.specs.Courses.{Course, course_of, course_so_far, ended_texts, gone_on, long_texts, unless, with_line}
use Rattle.line_player.specs.LineSteps.{ended_course}

-- the test of a line's length is that of what is run of it
pub long_is : (limit : Limit) (line : List ℕ) → nat_lt (most limit) (length (text_in limit line)) ≡ is_too_long limit line
long_is (Text n) line = refl
long_is (Whole n) line = refl

pub effect_short : {X : Type 0} (rules : Rules X) (state : X) (line : List ℕ) → is_too_long rules.limit line ≡ false
    → effect_within rules state (text_in rules.limit line) ≡ rules.effect state (text_in rules.limit line)
unfolding effect_within
effect_short rules state line short = rw (long_is rules.limit line, short)

pub effect_long : {X : Type 0} (rules : Rules X) (state : X) (line : List ℕ) → is_too_long rules.limit line ≡ true
    → effect_within rules state (text_in rules.limit line) ≡ None
unfolding effect_within
effect_long rules state line long = rw (long_is rules.limit line, long)

-- an unrefused course goes on with its next line
pub next_line : {X : Type 0} (rules : Rules X) (course : Course X) (text : List ℕ) (effect : Option (Effect X)) → course.refused ≡ None
    → effect_within rules course.state text ≡ effect → with_line rules course text ≡ gone_on course effect
next_line rules course text effect none is = rw (none, is)

-- and a refused one goes no further
pub stops : {X : Type 0} (rules : Rules X) (course : Course X) (number : ℕ) (texts : List (List ℕ)) → course.refused ≡ Some number
    → fold (with_line rules) course texts ≡ course
stops rules course number [] refused = refl
stops rules course number (text ∷ texts) refused =
    ap (λ c. fold (with_line rules) c texts) (ap (λ r. unless r (gone_on course (effect_within rules course.state text)) course) refused)
    ∙ stops rules course number texts refused

pub course_on : {X : Type 0} (rules : Rules X) (a b : List (List ℕ)) → course_of rules (a ++ b) ≡ fold (with_line rules) (course_of rules a) b
course_on rules a b = fold-append _ _ a b

-- one ended line more
pub ended_next : {X : Type 0} (rules : Rules X) (bytes onward line : List ℕ) → lines onward ≡ lines bytes ++ line ∷ []
    → ended_course rules onward ≡ with_line rules (ended_course rules bytes) (text_in rules.limit line)
ended_next rules bytes onward line is =
    rw (is, map-append (text_in rules.limit) (lines bytes) (line ∷ [])) (course_on rules (ended_texts rules bytes) (text_in rules.limit line ∷ []))

pub ended_same : {X : Type 0} (rules : Rules X) (bytes onward : List ℕ) → lines onward ≡ lines bytes → ended_course rules onward ≡ ended_course rules bytes
ended_same rules bytes onward is = rw is

-- what is known of more bytes, as the lines after those that these bytes ended
pub so_far_on : {X : Type 0} (rules : Rules X) (bytes more : List ℕ)
    → course_so_far rules (bytes ++ more)
    ≡ fold (with_line rules) (ended_course rules bytes) (ended_texts rules (open_line bytes ++ more) ++ long_texts rules (open_line (bytes ++ more)))
so_far_on rules bytes more =
    rw (lines_go_on bytes more, map-append (text_in rules.limit) (lines bytes) (lines (open_line bytes ++ more)), append_assoc)
    (course_on rules (ended_texts rules bytes) (ended_texts rules (open_line bytes ++ more) ++ long_texts rules (open_line (bytes ++ more))))

-- a refused line decides what is known of all bytes after it
pub refused_on : {X : Type 0} (rules : Rules X) (bytes more : List ℕ) (number : ℕ) → (ended_course rules bytes).refused ≡ Some number
    → course_so_far rules (bytes ++ more) ≡ ended_course rules bytes
refused_on rules bytes more number refused =
    so_far_on rules bytes more
    ∙ stops rules (ended_course rules bytes) number (ended_texts rules (open_line bytes ++ more) ++ long_texts rules (open_line (bytes ++ more))) refused

-- while the open line is not too long, the ended lines are all that is known
pub so_far_ended : {X : Type 0} (rules : Rules X) (bytes : List ℕ) → is_too_long rules.limit (open_line bytes) ≡ false
    → course_so_far rules bytes ≡ ended_course rules bytes
so_far_ended rules bytes short = rw (short, append-nil (ended_texts rules bytes))

-- an open line that is too long is the next one that is known
pub so_far_long : {X : Type 0} (rules : Rules X) (bytes : List ℕ) → is_too_long rules.limit (open_line bytes) ≡ true
    → course_so_far rules bytes ≡ with_line rules (ended_course rules bytes) (text_in rules.limit (open_line bytes))
so_far_long rules bytes long = rw long (course_on rules (ended_texts rules bytes) (text_in rules.limit (open_line bytes) ∷ []))
