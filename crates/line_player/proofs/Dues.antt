-- What is due after what was written: of a piece, and of the text's end.
use Rattle.std.proofs.Common.{◌≡◌, ℕ, ◌≤◌, ◌<◌, List, [], ◌∷◌, length, Some, None, Result, Ok, Err, refl, sym, ◌∙◌, ap, subst, arith}
use Rattle.std.proofs.lemmas.Bool.{le-ltb, lt-ltb}
use Rattle.gps_fixed.specs.declared.no_memory.NoMemory.{NoMemory}
use Rattle.line_cut.specs.Limits.{most}
use Rattle.line_cut.specs.Lines.{last_lines, open_line}
use Rattle.line_cut.specs.Standing.{LineCutterView}
use Rattle.line_player.specs.declared.plays_lines.LineStep.{LineStep}
use Rattle.line_player.specs.declared.plays_lines.LineStep.TheVariants.{Made, Refused}
use Rattle.line_player.specs.Rules.{Rules, effect_within}
use Rattle.line_player.specs.Courses.{Course, ended_texts, gone_on, whole_course, with_line, written_so_far}
use Rattle.line_player.specs.LineSteps.{IsAt, RunsLast, StepDone, ended_course}
use Rattle.line_player.proofs.Courses.{course_on, next_line, so_far_ended}

-- if no line is refused, what was written is what the ended lines write
pub written_is : {X : Type 0} (rules : Rules X) (bytes : List ℕ) (cutter : LineCutterView) (count : ℕ) (stands : X → Type 0) → IsAt rules bytes cutter count stands
    → written_so_far rules bytes ≡ (ended_course rules bytes).written
written_is rules bytes cutter count stands at = rw (so_far_ended rules bytes at.short, at.none)

-- the last line

pub last_some : (line : List ℕ) → 0 < length line → last_lines line ≡ line ∷ []
last_some [] some = absurd (omega (arith, some))
last_some (c ∷ line) some = refl

whole_on : {X : Type 0} (rules : Rules X) (bytes : List ℕ) → 0 < length (open_line bytes)
    → whole_course rules bytes ≡ with_line rules (ended_course rules bytes) (open_line bytes)
whole_on rules bytes some = rw (last_some (open_line bytes) some) (course_on rules (ended_texts rules bytes) (open_line bytes ∷ []))

-- a text is run if it is not too long
effect_is : {X : Type 0} (rules : Rules X) (state : X) (text : List ℕ) → length text ≤ most rules.limit → effect_within rules state text ≡ rules.effect state text
unfolding effect_within
effect_is rules state text within = rw (le-ltb _ _ within)

effect_past : {X : Type 0} (rules : Rules X) (state : X) (text : List ℕ) → most rules.limit < length text → effect_within rules state text ≡ None
unfolding effect_within
effect_past rules state text past = rw (lt-ltb _ _ past)

pub last_line : {X : Type 0} (result : Result LineStep NoMemory) (rules : Rules X) (bytes line : List ℕ) (cutter : LineCutterView) (count : ℕ) (stands stands' : X → Type 0) (due due' : List ℕ)
    → IsAt rules bytes cutter count stands
    → (line ≡ open_line bytes) × (0 < length line) × (length line ≤ most cutter.limit)
    → ((state : X) → stands state → StepDone result rules state line stands' due due')
    → RunsLast result rules bytes count stands' due due'
last_line (Ok Made) rules bytes line cutter count stands stands' due due' at is round =
    let c : Course _ = ended_course rules bytes in
    let t : StepDone (Ok Made) rules c.state line stands' due due' = round c.state at.made in
    let within : length line ≤ most rules.limit = rw at.limit at is.2 in
    let made : whole_course rules bytes ≡ gone_on c (Some t.0) =
    whole_on rules bytes (rw is.0 at is.1) ∙ rw (← is.0)
    (next_line rules c line (Some t.0) at.none (effect_is rules c.state line within ∙ t.1)) in (
      ap (λ x. x.refused) made,
      subst stands' (ap (λ x. x.state) (sym made)) t.2,
      (t.0.written, t.3, ap (λ x. x.written) made),
    )
last_line (Ok Refused) rules bytes line cutter count stands stands' due due' at is round =
    let c : Course _ = ended_course rules bytes in
    let t : StepDone (Ok Refused) rules c.state line stands' due due' = round c.state at.made in
    let within : length line ≤ most rules.limit = rw at.limit at is.2 in
    let made : whole_course rules bytes ≡ gone_on c None =
    whole_on rules bytes (rw is.0 at is.1) ∙ rw (← is.0)
    (next_line rules c line None at.none (effect_is rules c.state line within ∙ t.0)) in
    (rw (made, at.number), t.1, ap (λ x. x.written) made)
last_line (Err fault) rules bytes line cutter count stands stands' due due' at is round = tt

pub last_long : {X : Type 0} (rules : Rules X) (bytes : List ℕ) (cutter : LineCutterView) (count : ℕ) (stands : X → Type 0) (due : List ℕ)
    → IsAt rules bytes cutter count stands → most cutter.limit < length (open_line bytes)
    → RunsLast (Ok Refused) rules bytes count stands due due
last_long rules bytes cutter count stands due at long =
    let c : Course _ = ended_course rules bytes in
    let past : most rules.limit < length (open_line bytes) = rw at.limit at long in
    let made : whole_course rules bytes ≡ gone_on c None =
    whole_on rules bytes (omega (arith, past)) ∙ next_line rules c (open_line bytes) None at.none (effect_past rules c.state (open_line bytes) past) in
    (rw (made, at.number), refl, ap (λ x. x.written) made)
