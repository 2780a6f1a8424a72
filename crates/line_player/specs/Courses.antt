-- The course of a text: what its lines write, up to the first refused one, and what its end writes.
use Rattle.std.specs.Prelude.{ℕ, ◌+◌, List, [], ◌∷◌, ◌++◌, map, fold, cond, Option, Some, None, codes}
use Rattle.std.specs.Fmt.{decimal}
use Rattle.line_cut.specs.Limits.{is_too_long}
use Rattle.line_cut.specs.Lines.{last_lines, lines, open_line}
use Rattle.line_player.specs.Rules.{Effect, Rules, effect_within, text_in}

-- a run so far: the state and the output after the lines before the first refused one, their number, and the number of that one, counted from 1
pub record Course (X : Type 0) : Type 0 where
  pub state : X
  pub written : List ℕ
  pub count : ℕ
  pub refused : Option ℕ

abbrev pub new_course : {X : Type 0} → Rules X → Course X
new_course rules = record { state = rules.start; written = []; count = 0; refused = None }

abbrev pub gone_on : {X : Type 0} → Course X → Option (Effect X) → Course X
gone_on course (Some effect) = record { state = effect.state; written = course.written ++ effect.written; count = course.count + 1; refused = None }
gone_on course None = record { state = course.state; written = course.written; count = course.count; refused = Some (course.count + 1) }

-- the lines after a refused one do nothing
abbrev pub unless : {X : Type 0} → Option ℕ → Course X → Course X → Course X
unless None next course = next
unless (Some line) next course = course

abbrev pub with_line : {X : Type 0} → Rules X → Course X → List ℕ → Course X
with_line rules course text = unless course.refused (gone_on course (effect_within rules course.state text)) course

-- the course of these lines
abbrev pub course_of : {X : Type 0} → Rules X → List (List ℕ) → Course X
course_of rules texts = fold (with_line rules) (new_course rules) texts

unfoldable pub bad_line : ℕ → List ℕ
bad_line number = codes "bad line " ++ decimal number ++ codes "\n"

-- what is due of a text that may go on
abbrev pub due_so_far : {X : Type 0} → Course X → Option ℕ → List ℕ
due_so_far course None = course.written
due_so_far course (Some line) = course.written ++ bad_line line

-- what is due of a text that has ended
abbrev pub due_at_end : {X : Type 0} → Rules X → Course X → Option ℕ → List ℕ
due_at_end rules course None = course.written ++ rules.end_writes course.state
due_at_end rules course (Some line) = course.written ++ bad_line line

-- the lines that were ended
abbrev pub ended_texts : {X : Type 0} → Rules X → List ℕ → List (List ℕ)
ended_texts rules bytes = map (text_in rules.limit) (lines bytes)

-- a line that is too long is known before its end was read
abbrev pub long_texts : {X : Type 0} → Rules X → List ℕ → List (List ℕ)
long_texts rules line = cond (is_too_long rules.limit line) (text_in rules.limit line ∷ []) []

-- the lines that are known of bytes to which more may be added
abbrev pub course_so_far : {X : Type 0} → Rules X → List ℕ → Course X
course_so_far rules bytes = course_of rules (ended_texts rules bytes ++ long_texts rules (open_line bytes))

-- the last line may lack its end
abbrev pub whole_course : {X : Type 0} → Rules X → List ℕ → Course X
whole_course rules bytes = course_of rules (ended_texts rules bytes ++ last_lines (open_line bytes))

abbrev pub written_so_far : {X : Type 0} → Rules X → List ℕ → List ℕ
written_so_far rules bytes = due_so_far (course_so_far rules bytes) (course_so_far rules bytes).refused

-- the output of a whole text
abbrev pub output_of : {X : Type 0} → Rules X → List ℕ → List ℕ
output_of rules bytes = due_at_end rules (whole_course rules bytes) (whole_course rules bytes).refused
