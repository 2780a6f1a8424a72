-- If nothing outside fails, and no line is refused, a play ends by itself.
use Rattle.std.proofs.Common.{◌≡◌, ℕ, ◌+◌, ◌≤◌, ◌<◌, ◌⊎◌, ◌||◌, inl, inr, Bool, true, false, List, [], ◌∷◌, ◌++◌, length, map, fold, nat_lt, ltb-true, Option, Some, None, refl, sym, ◌∙◌, ap, append_assoc, arith}
use Rattle.std.proofs.lemmas.Bool.{lt-ltb}
use Rattle.std.proofs.lemmas.List.{map-append}
use Rattle.std.proofs.lemmas.List.Folds.{list_any-append}
use Rattle.gps_outside.specs.Told.{Stream}
use Rattle.line_cut.specs.declared.limit.Limit.{Limit}
use Rattle.line_cut.specs.declared.limit.Limit.TheVariants.{Text, Whole}
use Rattle.line_cut.specs.Limits.{is_too_long, most}
use Rattle.line_cut.specs.Lines.{has_feed, is_feed, last_lines, lines, open_line}
use Rattle.line_cut.proofs.Splits.{lines_go_on, lines_none, open_goes_on, open_plain, open_whole}
use Rattle.line_cut.proofs.Texts.{long_stays, text_bounds}
use Rattle.gps_outside.specs.declared.outcome.CommandOutcome.{CommandOutcome}
use Rattle.gps_outside.specs.declared.outcome.CommandOutcome.TheVariants.{Done, ReadFault, TooQuiet, WriteFault, Full, BadLine, NoMemory}
use Rattle.line_player.specs.Rules.{Rules, effect_within, text_in}
use Rattle.line_player.specs.Courses.{Course, course_so_far, ended_texts, whole_course, with_line}
use Rattle.gps_outside.specs.Calls.{SinkCall, SourceCall}
use Rattle.gps_outside.specs.Outcomes.{HasCause, NothingFails}
use Rattle.gps_outside.specs.Ends.{HasReadAll, HasReadSoFar, IsWithin as HoldsFew}
use Rattle.gps_outside.proofs.Statuses.{quiet_long}
use Rattle.gps_outside.proofs.Limits.{no_more}
use Rattle.line_player.specs.Played.{IsWithin, HasPlayed}
use Rattle.line_player.specs.LineSteps.{ended_course}
use Rattle.line_player.proofs.Courses.{course_on, long_is, next_line, so_far_ended, stops}
use Rattle.line_player.proofs.Dues.{last_some}

-- the first line of bytes that begin with some without a line feed
record Begins (front bytes : List ℕ) : Type 0 where
  pub more : List ℕ
  pub others : List (List ℕ)
  pub is : lines bytes ≡ (front ++ more) ∷ others

first_line : (bytes : List ℕ) → has_feed bytes ≡ true → Begins [] bytes
unfolding lines
first_line [] some = absurd (cc)
first_line (c ∷ bytes) some = go (is_feed c) refl some (first_line bytes)
  where
    go : (b : Bool) → is_feed c ≡ b → (b || has_feed bytes) ≡ true → (has_feed bytes ≡ true → Begins [] bytes) → Begins [] (c ∷ bytes)
    go true is has behind = record { more = c ∷ []; others = lines bytes; is = rw is }
    go false is has behind =
        let found : Begins [] bytes = behind has in
        record { more = c ∷ found.more; others = found.others; is = rw (is, found.is) }

begins_with : (front rest : List ℕ) → has_feed front ≡ false → has_feed rest ≡ true → Begins front (front ++ rest)
unfolding lines
begins_with [] rest plain some = first_line rest some
begins_with (c ∷ front) rest plain some = go (is_feed c) refl plain (begins_with front rest)
  where
    go : (b : Bool) → is_feed c ≡ b → (b || has_feed front) ≡ false → (has_feed front ≡ false → has_feed rest ≡ true → Begins front (front ++ rest)) → Begins (c ∷ front) (c ∷ (front ++ rest))
    go true is has behind = absurd (cc)
    go false is has behind =
        let found : Begins front (front ++ rest) = behind has some in
        record { more = found.more; others = found.others; is = rw (is, found.is) }

text_within : (limit : Limit) (line : List ℕ) → length (text_in limit line) ≤ length line
text_within (Text n) line = (text_bounds line).0
text_within (Whole n) line = omega arith

-- the first text of bytes that begin with a line that is too long
record FirstIsLong {X : Type 0} (rules : Rules X) (bytes : List ℕ) : Type 0 where
  pub text : List ℕ
  pub others : List (List ℕ)
  pub is : ended_texts rules bytes ++ last_lines (open_line bytes) ≡ text ∷ others
  pub long : nat_lt (most rules.limit) (length text) ≡ true

first_long : {X : Type 0} (rules : Rules X) (front rest : List ℕ) → has_feed front ≡ false → is_too_long rules.limit front ≡ true → FirstIsLong rules (front ++ rest)
first_long rules front rest plain long = go (has_feed rest) refl
  where
    whole : List ℕ
    whole = front ++ rest

    some : 0 < length whole
    some =
        let past : nat_lt (most rules.limit) (length (text_in rules.limit whole)) ≡ true = long_is rules.limit whole ∙ long_stays rules.limit front rest long in
        omega (arith, ltb-true (most rules.limit) (length (text_in rules.limit whole)) past, text_within rules.limit whole)

    go : (b : Bool) → has_feed rest ≡ b → FirstIsLong rules whole
    go true ends =
        let b : Begins front whole = begins_with front rest plain ends in
        record {
          text = text_in rules.limit (front ++ b.more);
          others = map (text_in rules.limit) b.others ++ last_lines (open_line whole);
          is = rw b.is;
          long = long_is rules.limit (front ++ b.more) ∙ long_stays rules.limit front b.more long;
        }
    go false ends =
        let none : has_feed whole ≡ false = list_any-append is_feed front rest ∙ ap (λ b. b || has_feed rest) plain ∙ ends in
        let past : nat_lt (most rules.limit) (length (text_in rules.limit whole)) ≡ true = long_is rules.limit whole ∙ long_stays rules.limit front rest long in
        record {
          text = whole;
          others = [];
          is = rw (lines_none whole none, open_whole whole none) (last_some whole some);
          long = lt-ltb _ _
              (omega (arith, ltb-true (most rules.limit) (length (text_in rules.limit whole)) past, text_within rules.limit whole));
        }

-- a course that has not refused a line had not before
none_before : {X : Type 0} (rules : Rules X) (course : Course X) (texts : List (List ℕ)) → (fold (with_line rules) course texts).refused ≡ None → course.refused ≡ None
none_before rules course texts none = go course.refused refl
  where
    go : (r : Option ℕ) → course.refused ≡ r → course.refused ≡ None
    go None is = is
    go (Some number) is = absurd (let same : (fold (with_line rules) course texts).refused ≡ Some number = ap (λ c. c.refused) (stops rules course number texts is) ∙ is in cc)

effect_beyond : {X : Type 0} (rules : Rules X) (state : X) (text : List ℕ) → nat_lt (most rules.limit) (length text) ≡ true → effect_within rules state text ≡ None
unfolding effect_within
effect_beyond rules state text long = rw long

-- the whole course of more bytes goes on from the ended lines
whole_more : {X : Type 0} (rules : Rules X) (bytes more : List ℕ)
    → whole_course rules (bytes ++ more)
    ≡ fold (with_line rules) (ended_course rules bytes) (ended_texts rules (open_line bytes ++ more) ++ last_lines (open_line (open_line bytes ++ more)))
whole_more rules bytes more =
    rw (lines_go_on bytes more, map-append (text_in rules.limit) (lines bytes) (lines (open_line bytes ++ more)), append_assoc, open_goes_on bytes more)
    (course_on rules (ended_texts rules bytes) (ended_texts rules (open_line bytes ++ more) ++ last_lines (open_line (open_line bytes ++ more))))

-- what is refused once is refused of more bytes too
unrefused : {X : Type 0} (rules : Rules X) (bytes more : List ℕ) → (whole_course rules (bytes ++ more)).refused ≡ None → (course_so_far rules bytes).refused ≡ None
unrefused rules bytes more none = go (is_too_long rules.limit (open_line bytes)) refl
  where
    texts : List (List ℕ)
    texts = ended_texts rules (open_line bytes ++ more) ++ last_lines (open_line (open_line bytes ++ more))

    gone : (fold (with_line rules) (ended_course rules bytes) texts).refused ≡ None
    gone = ap (λ c. c.refused) (sym (whole_more rules bytes more)) ∙ none

    before : (ended_course rules bytes).refused ≡ None
    before = none_before rules (ended_course rules bytes) texts gone

    go : (b : Bool) → is_too_long rules.limit (open_line bytes) ≡ b → (course_so_far rules bytes).refused ≡ None
    go false short = ap (λ c. c.refused) (so_far_ended rules bytes short) ∙ before
    go true long =
        let f : FirstIsLong rules (open_line bytes ++ more) = first_long rules (open_line bytes) more (open_plain bytes) long in
        let c : Course _ = ended_course rules bytes in
        let first : (with_line rules c f.text).refused ≡ None =
        none_before rules (with_line rules c f.text) f.others (ap (λ t. (fold (with_line rules) c t).refused) (sym f.is) ∙ gone) in
        let refused : (with_line rules c f.text).refused ≡ Some (c.count + 1) =
        ap (λ x. x.refused) (next_line rules c f.text None before (effect_beyond rules c.state f.text f.long)) in
        absurd (cc)

-- a source whose bytes are within the limits

few : {X : Type 0} (rules : Rules X) (limit : ℕ) (source : Option Stream) → IsWithin rules limit source → HoldsFew limit source
few rules limit None within = within
few rules limit (Some stream) within = within.0

-- what was read of it is a beginning of what was left
reads_on : {X : Type 0} (rules : Rules X) (limit : ℕ) (bytes : List ℕ) (source source' : Option Stream)
    → IsWithin rules limit source → HasReadSoFar limit bytes source source' → (course_so_far rules bytes).refused ≡ None
reads_on rules limit bytes None source' within read = absurd within
reads_on rules limit bytes (Some stream) None within (inl read) = absurd read.1
reads_on rules limit bytes (Some stream) (Some after) within (inl read) =
    unrefused rules bytes after.left (ap (λ b. (whole_course rules b).refused) (sym read.1.next) ∙ within.1)
reads_on rules limit bytes (Some stream) source' within (inr read) = absurd (no_more limit bytes (Some stream) source' within.0 read.0 read.1)

reads_all : {X : Type 0} (rules : Rules X) (limit : ℕ) (bytes : List ℕ) (source source' : Option Stream)
    → IsWithin rules limit source → HasReadAll limit bytes source source' → (whole_course rules bytes).refused ≡ None
reads_all rules limit bytes None source' within read = absurd within
reads_all rules limit bytes (Some stream) None within read = absurd read.1
reads_all rules limit bytes (Some stream) (Some after) within read = ap (λ b. (whole_course rules b).refused) (sym read.1.all) ∙ within.1

pub completes : {X : Type 0} (outcome : CommandOutcome) (rules : Rules X) (limit : ℕ) (source : SourceCall) (sink : SinkCall)
    → HasPlayed outcome rules limit source.before.content source.after.content sink.before.written sink.after.written → HasCause outcome source sink
    → IsWithin rules limit source.before.content → NothingFails source sink
    → (outcome ≡ Done) ⊎ (outcome ≡ NoMemory)
completes Done rules limit source sink played cause within sound = inl refl
completes ReadFault rules limit source sink played cause within sound = absurd (sound.0 cause.0.0)
completes TooQuiet rules limit source sink played cause within sound = absurd (sound.1 (quiet_long source.before.quiets source.after.quiets cause.0.1))
completes WriteFault rules limit source sink played cause within sound = absurd (sound.2 cause.1)
completes Full rules limit source sink played cause within sound =
    absurd (no_more limit played.bytes source.before.content source.after.content (few rules limit source.before.content within) played.ends.0 played.ends.1)
completes (BadLine number) rules limit source sink played cause within sound =
    elim played.ends [
      | inl early ↦ let found = early.1.0 in let none = reads_on rules limit played.bytes source.before.content source.after.content within early.0 in absurd (cc)
      | inr last ↦ let found = last.1.0 in let none = reads_all rules limit played.bytes source.before.content source.after.content within last.0 in absurd (cc)
    ]
completes NoMemory rules limit source sink played cause within sound = inr refl
