-- What is due at the end of a reading.
use Rattle.std.proofs.Common.{◌≡◌, ℕ, ◌+◌, ◌≤◌, Bool, true, false, cond, List, [], ◌∷◌, ◌++◌, length, inl, inr, Option, refl, sym, ap, ◌∙◌, subst, arith, append-nil, length-append}
use Rattle.std.specs.Prelude.{◌==◌, ◌||◌, not}
use Rattle.std.proofs.lemmas.Bool.Decides.{nat_tests}
use Rattle.gps_outside.specs.Told.{Stream, Goes, Appends, AppendsPart}
use Rattle.line_cut.specs.Limits.{is_too_long}
use Rattle.line_cut.specs.Lines.{has_feed, is_feed, last_lines, lines, open_line, with_first}
use Rattle.line_cut.proofs.Splits.{open_plain}
use Rattle.json_line.specs.Json.{line_end}
use Rattle.gps_client.specs.declared.line.Line.{Line}
use Rattle.gps_client.specs.Texts.{IsLineOf, object}
use Rattle.class_counts.specs.declared.counting.Count.{Count}
use Rattle.class_counts.specs.declared.counting.Stop.{Stop}
use Rattle.class_counts.specs.declared.counting.Stop.TheVariants.{Bad, NoMemory as NoMemoryStop}
use Rattle.gps_outside.specs.Calls.{SinkCall, SourceCall}
use Rattle.gps_outside.specs.Outcomes.{HasCause, NoReadFailed}
use Rattle.gps_outside.specs.Ends.{HasReadAll, HasReadSoFar}
use Rattle.gps_outside.specs.declared.outcome.CommandOutcome.{CommandOutcome}
use Rattle.gps_outside.specs.declared.outcome.CommandOutcome.TheVariants.{BadLine}
use Rattle.gps_outside.specs.declared.outcome.CommandOutcome.TheVariants as outcome
use Rattle.class_counts.specs.declared.reading.Reading.TheVariants as reading
use Rattle.class_counts.specs.Counted.{Counted, RefusesNone}
use Rattle.class_counts.specs.Reading.{Reads, most_bytes}
use Rattle.class_counts.specs.Lines.{AreRead, EndsBadly, Refuses, limit, long_line, whole_lines}
use Rattle.class_counts.specs.Standing.{CountStands, Stops}
use Rattle.class_counts.specs.Tallies.{bad_line, kept_number, numbers_text, summary}
use Rattle.class_counts.specs.Writing.{EndsWith, StopsWith, WriteCause, bad_behind}
use Rattle.class_counts.proofs.Tallying.{written}

-- numbers of lines

first_length : (c : ℕ) (ls : List (List ℕ)) → length (with_first c ls) ≡ length ls
first_length c [] = refl
first_length c (l ∷ ls) = refl

few_lines : (bytes : List ℕ) → length (lines bytes) ≤ length bytes
unfolding lines
few_lines [] = omega arith
few_lines (c ∷ bytes) = by_test (is_feed c) (few_lines bytes)
  where
    by_test : (b : Bool) → length (lines bytes) ≤ length bytes → length (cond b ((c ∷ []) ∷ lines bytes) (with_first c (lines bytes))) ≤ length (c ∷ bytes)
    by_test true fewer = omega arith
    by_test false fewer = let same = first_length c (lines bytes) in omega arith

pub as_many : (values : List Line) (ls : List (List ℕ)) → AreRead values ls → length values ≡ length ls
as_many [] [] are = refl
as_many [] (l ∷ ls) are = absurd are
as_many (v ∷ values) [] are = absurd are
as_many (v ∷ values) (l ∷ ls) are = let rest = as_many values ls are.1 in omega arith

long_few : (line : List ℕ) (b : Bool) → length (cond b (line ∷ []) []) ≤ 1
long_few line true = omega arith
long_few line false = omega arith

pub number_small : (bytes : List ℕ) (n : ℕ) → Refuses bytes (n + 1) → n ≤ length bytes
number_small bytes n refuses =
    let e = refuses.ends in
    let known = ap length e.split in
    let parts = length-append e.before (e.line ∷ []) in
    let all = length-append (lines refuses.first) (long_line (open_line refuses.first)) in
    let long = long_few (open_line refuses.first) (is_too_long limit (open_line refuses.first)) in
    let same = as_many e.values e.before e.are in
    let few = few_lines refuses.first in
    let joined = ap length refuses.begins in
    let joined_parts = length-append refuses.first refuses.more in
    let number = e.number in
    omega arith

kept_small : (n good : ℕ) → good ≡ kept_number n → n ≤ most_bytes → kept_number (good + 1) ≡ n + 1
kept_small n good kept small = omega arith

read_so_far_few : (bytes : List ℕ) (source after : Option Stream) → HasReadSoFar most_bytes bytes source after → length bytes ≤ most_bytes
read_so_far_few bytes source after (inl read) = read.0
read_so_far_few bytes source after (inr read) = omega (arith, read.0)

-- a count that stops at these bytes
stopped : (stop : Stop) (count : Count) (bytes : List ℕ) (source after : Option Stream) (sink sink' : Option (List ℕ)) (outcome : CommandOutcome)
    → HasReadSoFar most_bytes bytes source after → Stops stop count bytes → StopsWith stop count.good outcome sink sink'
    → Counted outcome source after sink sink'
stopped Bad count bytes source after sink sink' outcome read stops writes =
    let n : ℕ = stops.0 in
    let few = read_so_far_few bytes source after read in
    let small = number_small bytes n stops.1 in
    let number : kept_number (count.good + 1) ≡ n + 1 = kept_small n count.good stops.2 (omega arith) in
    let text : bad_behind count.good ≡ bad_line (n + 1) = ap bad_line number in
    elim writes [
      | inl whole ↦ subst (λ o. Counted o source after sink sink') (sym (whole.0 ∙ ap (λ (k : ℕ). BadLine k) number))
          (record { bytes = bytes; ends = inl (read, (stops.1, subst (λ t. Goes (Appends t) sink sink') text whole.1)) })
      | inr rest ↦ elim rest [
        | inl part ↦ subst (λ o. Counted o source after sink sink') (sym part.0)
            (record { bytes = bytes; ends = inl (read, (n + 1, stops.1, subst (λ t. Goes (AppendsPart t) sink sink') text part.1)) })
        | inr none ↦ subst (λ o. Counted o source after sink sink') (sym none.0) (record { bytes = bytes; ends = inl (read, none.1) })
      ]
    ]
stopped NoMemoryStop count bytes source after sink sink' outcome read stops writes =
    subst (λ o. Counted o source after sink sink') (sym writes.0) (record { bytes = bytes; ends = inl (read, writes.1) })

-- none of the lines that are known is bad
long_none : (line : List ℕ) → is_too_long limit line ≡ false → long_line line ≡ []
long_none line fits = ap (λ b. cond b (line ∷ []) []) fits

none_refused : (count : Count) (bytes : List ℕ) → CountStands count bytes → RefusesNone bytes
none_refused count bytes so_far = (
  so_far.values,
  subst (λ ls. AreRead so_far.values ls) (sym (ap (λ l. lines bytes ++ l) (long_none (open_line bytes) so_far.fits) ∙ append-nil (lines bytes))) so_far.are,
)

-- the last line lacks its end

any_behind : (text more : List ℕ) → has_feed more ≡ true → has_feed (text ++ more) ≡ true
any_behind [] more has = has
any_behind (c ∷ text) more has = ap (λ b. is_feed c || b) (any_behind text more has) ∙ or_true (is_feed c)
  where
    or_true : (b : Bool) → (b || true) ≡ true
    or_true true = refl
    or_true false = refl

no_value : (bytes : List ℕ) (v : Line) → has_feed bytes ≡ false → IsLineOf v bytes → ⊥
no_value bytes v none is = let has : has_feed bytes ≡ true = ap has_feed is.written ∙ any_behind (object v) line_end refl in (let e : true ≡ false = sym has ∙ none in absurd (cc))

one_last : (line : List ℕ) → not (length line == 0) ≡ true → last_lines line ≡ line ∷ []
one_last [] some = absurd (cc)
one_last (c ∷ line) some = refl

none_last : (line : List ℕ) → not (length line == 0) ≡ false → last_lines line ≡ []
none_last [] none = refl
none_last (c ∷ line) none = absurd (grind (arith, nat_tests))

lacks_end : (count : Count) (bytes : List ℕ) → CountStands count bytes → not (length (open_line bytes) == 0) ≡ true
    → (n : ℕ) × EndsBadly (whole_lines bytes) (n + 1) × (count.good ≡ kept_number n)
lacks_end count bytes so_far some = (
  length so_far.values,
  record {
    before = lines bytes;
    line = open_line bytes;
    split = ap (λ l. lines bytes ++ l) (one_last (open_line bytes) some);
    values = so_far.values;
    are = so_far.are;
    bad = inr (λ v is. no_value (open_line bytes) v (open_plain bytes) is);
    number = refl;
  },
  so_far.good,
)

ended : (test : Bool) (count : Count) (bytes : List ℕ) (source after : Option Stream) (sink sink' : Option (List ℕ)) (outcome : CommandOutcome)
    → HasReadAll most_bytes bytes source after → (stands : CountStands count bytes)
    → not (length (open_line bytes) == 0) ≡ test → EndsWith test count outcome sink sink'
    → Counted outcome source after sink sink'
ended true count bytes source after sink sink' outcome read stands is writes =
    let lacks = lacks_end count bytes stands is in
    let n : ℕ = lacks.0 in
    let same = as_many stands.values (lines bytes) stands.are in
    let few = few_lines bytes in
    let least = read.0 in
    let number : kept_number (count.good + 1) ≡ n + 1 = kept_small n count.good lacks.2 (omega arith) in
    let text : bad_behind count.good ≡ bad_line (n + 1) = ap bad_line number in
    elim writes [
      | inl whole ↦ subst (λ o. Counted o source after sink sink') (sym (whole.0 ∙ ap (λ (k : ℕ). BadLine k) number))
          (record { bytes = bytes; ends = inr (read, (lacks.1, subst (λ t. Goes (Appends t) sink sink') text whole.1)) })
      | inr rest ↦ elim rest [
        | inl part ↦ subst (λ o. Counted o source after sink sink') (sym part.0)
            (record { bytes = bytes; ends = inr (read, inr (n + 1, lacks.1, subst (λ t. Goes (AppendsPart t) sink sink') text part.1)) })
        | inr none ↦ subst (λ o. Counted o source after sink sink') (sym none.0) (record { bytes = bytes; ends = inr (read, none.1) })
      ]
    ]
ended false count bytes source after sink sink' outcome read stands is writes =
    let values : List Line = stands.values in
    let same = as_many values (lines bytes) stands.are in
    let few = few_lines bytes in
    let least = read.0 in
    let text : numbers_text count.tally.numbers ≡ summary values = written count.tally.numbers values stands.tallies (omega arith) in
    let are : AreRead values (whole_lines bytes) =
    subst (λ ls. AreRead values ls) (sym (ap (λ l. lines bytes ++ l) (none_last (open_line bytes) is) ∙ append-nil (lines bytes))) stands.are in
    elim writes [
      | inl whole ↦ subst (λ o. Counted o source after sink sink') (sym whole.0)
          (record { bytes = bytes; ends = (read, (values, are, subst (λ t. Goes (Appends t) sink sink') text whole.1)) })
      | inr rest ↦ elim rest [
        | inl part ↦ subst (λ o. Counted o source after sink sink') (sym part.0)
            (record { bytes = bytes; ends = inr (read, inl (values, are, subst (λ t. Goes (AppendsPart t) sink sink') text part.1)) })
        | inr none ↦ subst (λ o. Counted o source after sink sink') (sym none.0) (record { bytes = bytes; ends = inr (read, none.1) })
      ]
    ]

pub has_cause : (o : CommandOutcome) (source : SourceCall) (sink : SinkCall) → WriteCause o sink.before.faults sink.after.faults → NoReadFailed source
    → HasCause o source sink
has_cause outcome.Done source sink cause sound = (sound, cause)
has_cause outcome.ReadFault source sink cause sound = absurd cause
has_cause outcome.TooQuiet source sink cause sound = absurd cause
has_cause outcome.WriteFault source sink cause sound = (sound, cause)
has_cause outcome.Full source sink cause sound = absurd cause
has_cause (outcome.BadLine number) source sink cause sound = (sound, cause)
has_cause outcome.NoMemory source sink cause sound = (sound, cause)

pub counted_end : (count : Count) (source after : Option Stream) (sink sink' : Option (List ℕ)) (outcome : CommandOutcome)
    → Reads reading.End count source after
    → ((bytes : List ℕ) → CountStands count bytes → EndsWith (not (length (open_line bytes) == 0)) count outcome sink sink')
    → Counted outcome source after sink sink'
counted_end count source after sink sink' outcome reads writes =
    ended (not (length (open_line reads.0) == 0)) count reads.0 source after sink sink' outcome reads.1.0 reads.1.1 refl (writes reads.0 reads.1.1)

pub counted_stop : (stop : Stop) (count : Count) (source after : Option Stream) (sink sink' : Option (List ℕ)) (outcome : CommandOutcome)
    → Reads (reading.Stopped stop) count source after → StopsWith stop count.good outcome sink sink'
    → Counted outcome source after sink sink'
counted_stop stop count source after sink sink' outcome reads writes = stopped stop count reads.0 source after sink sink' outcome reads.1.0 reads.1.1 writes

pub counted_full : (count : Count) (source after : Option Stream) (sink : Option (List ℕ)) → Reads reading.Full count source after
    → Counted outcome.Full source after sink sink
counted_full count source after sink reads = record { bytes = reads.0; ends = (reads.1.0, reads.1.1, (none_refused count reads.0 reads.1.2, refl)) }

pub counted_failed : (count : Count) (source after : Option Stream) (sink : Option (List ℕ)) → Reads reading.Failed count source after
    → Counted outcome.ReadFault source after sink sink
counted_failed count source after sink reads = record { bytes = reads.0; ends = (reads.1.0, reads.1.1, (none_refused count reads.0 reads.1.2, refl)) }

pub counted_quiet : (count : Count) (source after : Option Stream) (sink : Option (List ℕ)) → Reads reading.TooQuiet count source after
    → Counted outcome.TooQuiet source after sink sink
counted_quiet count source after sink reads = record { bytes = reads.0; ends = (reads.1.0, reads.1.1, (none_refused count reads.0 reads.1.2, refl)) }
