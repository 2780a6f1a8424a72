-- What the play of a made script comes to.
use Rattle.std.proofs.Common.{◌≡◌, ℕ, ◌+◌, ◌<◌, ◌≤◌, ◌⊎◌, List, [], ◌++◌, length, Option, Some, None, inl, inr, refl, sym, ap, ◌∙◌, subst, arith, append-nil, length-append}
use Rattle.gps_outside.specs.Counts.{Rose, RoseBy}
use Rattle.gps_outside.specs.Told.{Stream, Goes, Appends, AppendsPart, Passes}
use Rattle.gps_outside.proofs.Writing.{appends_none, part_of}
use Rattle.line_cut.specs.Lines.{lines, open_line}
use Rattle.gps_outside.specs.declared.outcome.CommandOutcome.{CommandOutcome}
use Rattle.gps_outside.specs.declared.outcome.CommandOutcome.TheVariants.{Done, ReadFault, TooQuiet, WriteFault, Full, BadLine, NoMemory}
use Rattle.gps_outside.specs.Calls.{SinkCall, SourceCall}
use Rattle.gps_outside.specs.Outcomes.{HasCause, NothingFailed}
use Rattle.gps_outside.proofs.Statuses.{quiet_long, quiet_never}
use Rattle.line_player.specs.Courses.{whole_course}
use Rattle.line_player.specs.Played.{HasPlayed}
use Rattle.line_player.proofs.Complete.{completes}
use Rattle.replay_script.specs.Workload.{workload_of}
use Rattle.gps_replay.specs.Closings.{closing_rules, closings}
use Rattle.gps_replay.specs.Generated.{Generated, GeneratedCause, default_queue, made}
use Rattle.gps_replay.proofs.Playable.{playable}

-- a source in memory counts nothing
abbrev pub silent : Option Stream → Option Stream → SourceCall
silent before after = record {
  before = record { content = before; faults = 0; quiets = 0 };
  after = record { content = after; faults = 0; quiets = 0 };
}

abbrev unbroken : Option (List ℕ) → Option (List ℕ) → SinkCall
unbroken sink sink' = record { before = record { written = sink; faults = 0 }; after = record { written = sink'; faults = 0 } }

none_failed : (before after : Option Stream) (sink sink' : Option (List ℕ)) → NothingFailed (silent before after) (unbroken sink sink')
none_failed before after sink sink' = ((refl, quiet_never 0), refl)

-- if all was done, the whole script was read
all_read : (script : List ℕ) (after : Option Stream) (most : ℕ) (sink sink' : Option (List ℕ))
    → HasPlayed Done (closing_rules default_queue) most (Some (record { taken = []; left = script })) after sink sink'
    → Goes (Appends (closings default_queue script)) sink sink'
all_read script None most sink sink' played = absurd played.ends.0.1
all_read script (Some stream) most sink sink' played =
    subst (λ b. Goes (Appends (closings default_queue b)) sink sink') (sym played.ends.0.1.all) played.ends.1.1

pub generated : (outcome : CommandOutcome) (script : List ℕ) (most : ℕ) (after : Option Stream) (sink sink' : Option (List ℕ))
    → most ≡ length script
    → HasPlayed outcome (closing_rules default_queue) most (Some (record { taken = []; left = script })) after sink sink'
    → (seed size : ℕ) → script ≡ workload_of seed size → Generated outcome seed size sink sink'
generated outcome script most after sink sink' is played seed size of = record {
  after = after;
  played = subst (λ s. HasPlayed outcome (closing_rules default_queue) (length s) (Some (record { taken = []; left = s })) after sink sink') of
      (subst (λ m. HasPlayed outcome (closing_rules default_queue) m (Some (record { taken = []; left = script })) after sink sink') is played);
  whole = λ done. subst (λ s. Goes (Appends (closings default_queue s)) sink sink') of
      (all_read script after most sink sink' (subst (λ o. HasPlayed o (closing_rules default_queue) most (Some (record { taken = []; left = script })) after sink sink') done played));
}

no_more : (script : List ℕ) (after : Option Stream) (most : ℕ) (sink sink' : Option (List ℕ)) → most ≡ length script
    → HasPlayed Full (closing_rules default_queue) most (Some (record { taken = []; left = script })) after sink sink' → ⊥
no_more script None most sink sink' is played = played.ends.1
no_more script (Some stream) most sink sink' is played =
    let passed = played.ends.1 in
    let left : length script ≡ length (played.bytes ++ passed.0) + length stream.left = ap length passed.1.1.next ∙ length-append (played.bytes ++ passed.0) stream.left in
    let both = length-append played.bytes passed.0 in
    let some : 0 < length passed.0 = passed.1.0 in
    let full = played.ends.0 in
    omega (arith, left, both, some, full, is)

none_refused : (number : ℕ) (script : List ℕ) (after : Option Stream) (most : ℕ) (sink sink' : Option (List ℕ)) → most ≡ length script
    → HasPlayed (BadLine number) (closing_rules default_queue) most (Some (record { taken = []; left = script })) after sink sink'
    → (seed size : ℕ) → size ≤ 10_000 → script ≡ workload_of seed size → ⊥
none_refused number script after most sink sink' is played seed size few of =
    let whole : (whole_course (closing_rules default_queue) script).refused ≡ None =
    ap (λ s. (whole_course (closing_rules default_queue) s).refused) of ∙ playable seed size few in
    let ended : (BadLine number ≡ Done) ⊎ (BadLine number ≡ NoMemory) =
    completes (BadLine number) (closing_rules default_queue) most (silent (Some (record { taken = []; left = script })) after) (unbroken sink sink') played
    (none_failed (Some (record { taken = []; left = script })) after sink sink')
    (omega (arith, is), whole) (λ rose. omega (arith, rose), λ rose. omega (arith, rose), λ rose. omega (arith, rose)) in
    elim ended [
      | inl done ↦ cc
      | inr wanted ↦ cc
    ]

pub caused : (outcome : CommandOutcome) (script : List ℕ) (most : ℕ) (after : Option Stream) (sink : SinkCall)
    → most ≡ length script
    → HasPlayed outcome (closing_rules default_queue) most (Some (record { taken = []; left = script })) after sink.before.written sink.after.written
    → HasCause outcome (silent (Some (record { taken = []; left = script })) after) sink
    → (seed size : ℕ) → size ≤ 10_000 → script ≡ workload_of seed size → GeneratedCause outcome sink
caused Done script most after sink is played cause seed size few of = cause.1
caused ReadFault script most after sink is played cause seed size few of = let rose : Rose 0 0 = cause.0.0 in omega (arith, rose)
caused TooQuiet script most after sink is played cause seed size few of =
    let rose : RoseBy 1000 0 0 = quiet_long 0 0 cause.0.1 in omega (arith, rose)
caused WriteFault script most after sink is played cause seed size few of = cause.1
caused Full script most after sink is played cause seed size few of = no_more script after most sink.before.written sink.after.written is played
caused (BadLine number) script most after sink is played cause seed size few of = none_refused number script after most sink.before.written sink.after.written is played seed size few of
caused NoMemory script most after sink is played cause seed size few of = cause.1

-- out of memory before the first line
pub nothing_played : (seed size : ℕ) (sink : Option (List ℕ)) → Generated NoMemory seed size sink sink
unfolding lines open_line
nothing_played seed size sink = record {
  after = Some (made seed size);
  played = record {
    bytes = [];
    ends = inl (inl (omega arith, record { next = refl; joins = refl }), (tt, part_of [] [] sink sink (appends_none sink)));
  };
  whole = λ done. absurd (cc);
}
