-- How `decode` ends, at each way out of its loop.
use Rattle.std.proofs.Common.{◌≡◌, ℕ, ◌≤◌, ◌⊎◌, inl, inr, List, [], ◌++◌, length, take, Option, Ok, Err, refl, sym, subst, arith}
use Rattle.std.proofs.lemmas.List.{append-nil}
use Rattle.gps_fixed.specs.Moment.{Moment}
use Rattle.gps_report.specs.declared.edge.Symbol.{Symbol}
use Rattle.gps_outside.specs.Told.{Stream, Goes, Stays, Passes, Appends, AppendsPart}
use Rattle.gps_outside.specs.Waiting.{Waits}
use Rattle.gps_outside.specs.Ticks.{Dial, Gives, GivesAll}
use Rattle.gps_outside.specs.ReadSteps.{Budget, FitsRoom, Spends, Hands, HasTaken, TakesAll, TakesSome, PassesMore}
use Rattle.gps_outside.specs.declared.intake.IntakeStep.TheVariants.{Piece, Last, End, Failed, TooQuiet}
use Rattle.gps_outside.proofs.Writing.{part_of, waits_more, waits_on, waits_part, waits_all, none_waits, appends_none}
use Rattle.gps_outside.proofs.ReadSteps.{taken_piece, ends_at_end, ends_full, ends_failed, ends_too_quiet}
use Rattle.device_core.specs.Stream.{piece}
use Rattle.device_core.specs.Reports.{reports_from, device_close}
use Rattle.device_core.specs.Standing.{DeviceKept, StandsFor}
use Rattle.device_core.proofs.Streams.{reports-append}
use Rattle.gps_outside.specs.declared.outcome.CommandOutcome.{CommandOutcome}
use Rattle.gps_outside.specs.declared.outcome.CommandOutcome.TheVariants.{Done, ReadFault, TooQuiet as QuietOutcome, WriteFault, Full, NoMemory}
use Rattle.gps_decode.specs.declared.fault.Fault.{Fault}
use Rattle.gps_decode.specs.declared.fault.Fault.TheVariants.{Sink, NoMemory as NoMemoryFault}
use Rattle.gps_decode.specs.Outcomes.{outcome_of}
use Rattle.gps_decode.specs.Readings.{ArePieces, PassHistory, Reading, bytes_of, stamps_of, stream_of}
use Rattle.gps_decode.specs.Texts.{Texts, texts_of, texts_so_far, texts_to_end}
use Rattle.gps_outside.specs.Ends.{BreaksOff, HasReadSoFar}
use Rattle.gps_decode.specs.Decode.{Decoded, HandsOn, Written}
use Rattle.gps_outside.proofs.Limits.{passes_none}
use Rattle.gps_decode.proofs.UnderWay.{UnderWay, with_next, bytes_next, stream_next, pieces_next, is_piece, passes_history, no_stamps, stamps_on, texts_next, no_texts}

module _ (says : Texts) where
  -- a prefix was written of the lines so far, or of all lines at the source's end
  abbrev BrokeOff : ℕ → List Reading → Option Stream → Option Stream → Option (List ℕ) → Option (List ℕ) → Type 0
  BrokeOff history readings source source' sink sink' =
      BreaksOff history (bytes_of readings) source source'
      (Goes (AppendsPart (texts_so_far says (stream_of readings))) sink sink') (Goes (AppendsPart (texts_to_end says (stream_of readings))) sink sink')

  -- if a fault ends the writing: the lines that were due have the written part at their beginning
  broken_texts : (fault : Fault) (s more : List Symbol) (kept : DeviceKept) (waits waits' : List ℕ) (sink sink' sink'' : Option (List ℕ))
      → Waits (texts_so_far says s) waits sink sink' → HandsOn {X = Unit {0}} says (Err fault) s more kept waits waits' sink' sink''
      → Goes (AppendsPart (texts_so_far says (s ++ more))) sink sink''
  broken_texts Sink s more kept waits waits' sink sink' sink'' wrote h =
      subst (λ l. Goes (AppendsPart l) sink sink'') (sym (texts_next says s more h.0 h.1.0))
      (waits_part (texts_so_far says s ++ texts_of says h.0) (waits ++ texts_of says h.0) sink sink' sink''
      (waits_more (texts_so_far says s) waits (texts_of says h.0) sink sink' wrote) h.1.1)
  broken_texts NoMemoryFault s more kept waits waits' sink sink' sink'' wrote h =
      subst (λ l. Goes (AppendsPart l) sink sink'') (sym (texts_next says s more (reports_from s more) (reports-append [] s more)))
      (part_of (texts_so_far says s) (texts_of says (reports_from s more)) sink sink'' (waits_all (texts_so_far says s) waits sink sink' sink'' wrote h))

  broken_so_far : (fault : Fault) (history : ℕ) (readings : List Reading) (at : Moment) (bytes : List ℕ) (kept : DeviceKept)
      (source after : Option Stream) (waits waits' : List ℕ) (sink sink' sink'' : Option (List ℕ))
      → HasReadSoFar history (bytes_of readings ++ bytes) source after
      → Waits (texts_so_far says (stream_of readings)) waits sink sink'
      → HandsOn {X = Unit {0}} says (Err fault) (stream_of readings) (piece at bytes) kept waits waits' sink' sink''
      → BrokeOff history (with_next readings at bytes) source after sink sink''
  broken_so_far fault history readings at bytes kept source after waits waits' sink sink' sink'' read wrote h =
      inl (
        subst (λ b. HasReadSoFar history b source after) (sym (bytes_next readings at bytes)) read,
        subst (λ t. Goes (AppendsPart (texts_so_far says t)) sink sink'') (sym (stream_next readings at bytes))
            (broken_texts fault (stream_of readings) (piece at bytes) kept waits waits' sink sink' sink'' wrote h),
      )

  -- a command that was broken off by a fault, with the readings up to it
  broken_off : (fault : Fault) (history : ℕ) (readings : List Reading) (at : Moment) (bytes : List ℕ) (kept : DeviceKept)
      (source after : Option Stream) (clock clock' clock'' : Option Dial) (waits waits' : List ℕ) (sink sink' sink'' : Option (List ℕ))
      → ArePieces (with_next readings at bytes) ⊎ PassHistory (with_next readings at bytes)
      → HasReadSoFar history (bytes_of readings ++ bytes) source after
      → Goes (GivesAll (stamps_of readings)) clock clock' → Goes (Gives at) clock' clock''
      → Waits (texts_so_far says (stream_of readings)) waits sink sink'
      → HandsOn {X = Unit {0}} says (Err fault) (stream_of readings) (piece at bytes) kept waits waits' sink' sink''
      → Decoded says (outcome_of fault) history source after clock clock'' sink sink''
  broken_off Sink history readings at bytes kept source after clock clock' clock'' waits waits' sink sink' sink'' reads read all given wrote h = record {
    readings = with_next readings at bytes;
    reads = reads;
    stamps = stamps_on readings at bytes clock clock' clock'' all given;
    ends = broken_so_far Sink history readings at bytes kept source after waits waits' sink sink' sink'' read wrote h;
  }
  broken_off NoMemoryFault history readings at bytes kept source after clock clock' clock'' waits waits' sink sink' sink'' reads read all given wrote h = record {
    readings = with_next readings at bytes;
    reads = reads;
    stamps = stamps_on readings at bytes clock clock' clock'' all given;
    ends = broken_so_far NoMemoryFault history readings at bytes kept source after waits waits' sink sink' sink'' read wrote h;
  }

  pub broken_in_piece : (n history : ℕ) (buf : List ℕ) (budget budget' : Budget) (kept kept' : DeviceKept) (at : Moment) (fault : Fault)
      (source now after : Option Stream) (faults faults' faults'' quiets quiets' quiets'' : ℕ) (clock clock' clock'' : Option Dial) (waits waits' : List ℕ) (sink sink' sink'' : Option (List ℕ))
      → UnderWay says history budget kept source now faults faults' quiets quiets' clock clock' waits sink sink'
      → length buf ≡ 512 → FitsRoom (Piece n) (length buf) → Spends (Piece n) budget budget' → Hands (Piece n) buf now after → faults'' ≡ faults' → quiets'' ≡ quiets'
      → Goes (Gives at) clock' clock''
      → ((stream : List Symbol) → StandsFor kept stream → HandsOn {X = Unit {0}} says (Err fault) stream (piece at (take n buf)) kept' waits waits' sink' sink'')
      → (outcome : CommandOutcome) → outcome ≡ outcome_of fault
      → Decoded says outcome history source after clock clock'' sink sink''
  broken_in_piece n history buf budget budget' kept kept' at fault source now after faults faults' faults'' quiets quiets' quiets'' clock clock' clock'' waits waits' sink sink' sink'' u long fits spent handed same still given lines outcome is =
      let all : HasTaken history (bytes_of u.readings ++ take n buf) budget' source after faults faults'' quiets quiets'' =
      taken_piece n history (bytes_of u.readings) buf budget budget' source now after faults faults' faults'' quiets quiets' quiets'' u.taken fits spent handed same still in
      subst (λ o. Decoded says o history source after clock clock'' sink sink'') (sym is) (broken_off fault history u.readings at (take n buf) kept' source after clock clock' clock'' waits waits' sink sink' sink''
      (inl (pieces_next u.readings (record { at = at; bytes = take n buf }) u.pieces (is_piece n buf at fits long)))
      (inl (let r = all.room in omega arith, all.passed))
      u.stamps given u.wrote (lines (stream_of u.readings) u.stands))

  pub broken_in_last : (n history : ℕ) (buf : List ℕ) (budget budget' : Budget) (kept kept' : DeviceKept) (at : Moment) (fault : Fault)
      (source now after : Option Stream) (faults faults' quiets quiets' : ℕ) (clock clock' clock'' : Option Dial) (waits waits' : List ℕ) (sink sink' sink'' : Option (List ℕ))
      → UnderWay says history budget kept source now faults faults' quiets quiets' clock clock' waits sink sink'
      → length buf ≡ 512 → FitsRoom (Last n) (length buf) → Spends (Last n) budget budget' → Hands (Last n) buf now after
      → Goes (Gives at) clock' clock''
      → ((stream : List Symbol) → StandsFor kept stream → HandsOn {X = Unit {0}} says (Err fault) stream (piece at (take n buf)) kept' waits waits' sink' sink'')
      → (outcome : CommandOutcome) → outcome ≡ outcome_of fault
      → Decoded says outcome history source after clock clock'' sink sink''
  broken_in_last n history buf budget budget' kept kept' at fault source now after faults faults' quiets quiets' clock clock' clock'' waits waits' sink sink' sink'' u long fits spent handed given lines outcome is =
      let all : (length (bytes_of u.readings ++ take n buf) ≡ history) × Goes (PassesMore (bytes_of u.readings ++ take n buf)) source after =
      ends_full n history (bytes_of u.readings) buf budget budget' source now after faults faults' quiets quiets' u.taken fits spent handed in
      subst (λ o. Decoded says o history source after clock clock'' sink sink'') (sym is) (broken_off fault history u.readings at (take n buf) kept' source after clock clock' clock'' waits waits' sink sink' sink''
      (inr (passes_history n u.readings at buf u.pieces fits long))
      (inr all)
      u.stamps given u.wrote (lines (stream_of u.readings) u.stands))

  pub filled : (n history : ℕ) (buf : List ℕ) (budget budget' : Budget) (kept kept' : DeviceKept) (at : Moment)
      (source now after : Option Stream) (faults faults' quiets quiets' : ℕ) (clock clock' clock'' : Option Dial) (waits : List ℕ) (sink sink' sink'' : Option (List ℕ))
      → UnderWay says history budget kept source now faults faults' quiets quiets' clock clock' waits sink sink'
      → length buf ≡ 512 → FitsRoom (Last n) (length buf) → Spends (Last n) budget budget' → Hands (Last n) buf now after
      → Goes (Gives at) clock' clock''
      → ((stream : List Symbol) → StandsFor kept stream → HandsOn {X = Unit {0}} says (Ok tt) stream (piece at (take n buf)) kept' waits [] sink' sink'')
      → Decoded says Full history source after clock clock'' sink sink''
  filled n history buf budget budget' kept kept' at source now after faults faults' quiets quiets' clock clock' clock'' waits sink sink' sink'' u long fits spent handed given lines =
      let s : List Symbol = stream_of u.readings in
      let h : HandsOn {X = Unit {0}} says (Ok tt) s (piece at (take n buf)) kept' waits [] sink' sink'' = lines s u.stands in
      let next : List Reading = with_next u.readings at (take n buf) in
      let read : (length (bytes_of next) ≡ history) × Goes (PassesMore (bytes_of next)) source after =
      subst (λ b. (length b ≡ history) × Goes (PassesMore b) source after) (sym (bytes_next u.readings at (take n buf)))
      (ends_full n history (bytes_of u.readings) buf budget budget' source now after faults faults' quiets quiets' u.taken fits spent handed) in
      record {
        readings = next;
        reads = passes_history n u.readings at buf u.pieces fits long;
        stamps = stamps_on u.readings at (take n buf) clock clock' clock'' u.stamps given;
        ends = (
          read.0,
          read.1,
          subst (λ t. Goes (Appends (texts_so_far says t)) sink sink'') (sym (stream_next u.readings at (take n buf)))
              (subst (λ l. Goes (Appends l) sink sink'') (sym (texts_next says s (piece at (take n buf)) h.1.0 h.1.1.0))
              (none_waits (texts_so_far says s ++ texts_of says h.1.0) [] sink sink'' refl
              (waits_on (texts_so_far says s ++ texts_of says h.1.0) (waits ++ texts_of says h.1.0) [] sink sink' sink''
              (waits_more (texts_so_far says s) waits (texts_of says h.1.0) sink sink' u.wrote) h.1.1.1))),
        );
      }

  pub ended : (history : ℕ) (buf : List ℕ) (budget : Budget) (kept : DeviceKept)
      (source now after : Option Stream) (faults faults' quiets quiets' : ℕ) (clock clock' : Option Dial) (waits : List ℕ) (sink sink' sink'' : Option (List ℕ))
      → UnderWay says history budget kept source now faults faults' quiets quiets' clock clock' waits sink sink'
      → Hands End buf now after
      → ((stream : List Symbol) → StandsFor kept stream → Written {X = Unit {0}} (Ok tt) (texts_of says (device_close stream)) waits [] sink' sink'')
      → Decoded says Done history source after clock clock' sink sink''
  ended history buf budget kept source now after faults faults' quiets quiets' clock clock' waits sink sink' sink'' u handed lines =
      let read : (length (bytes_of u.readings) ≤ history) × Goes (TakesAll (bytes_of u.readings)) source after =
      ends_at_end history (bytes_of u.readings) buf budget source now after faults faults' quiets quiets' u.taken handed in
      record {
        readings = u.readings;
        reads = u.pieces;
        stamps = u.stamps;
        ends = (
          read,
          none_waits (texts_so_far says (stream_of u.readings) ++ texts_of says (device_close (stream_of u.readings))) [] sink sink'' refl
              (waits_on (texts_so_far says (stream_of u.readings) ++ texts_of says (device_close (stream_of u.readings))) (waits ++ texts_of says (device_close (stream_of u.readings))) [] sink sink' sink''
              (waits_more (texts_so_far says (stream_of u.readings)) waits (texts_of says (device_close (stream_of u.readings))) sink sink' u.wrote) (lines (stream_of u.readings) u.stands)),
        );
      }

  at_end_broken : (history : ℕ) (buf : List ℕ) (budget : Budget) (kept : DeviceKept) (fault : Fault)
      (source now after : Option Stream) (faults faults' quiets quiets' : ℕ) (clock clock' : Option Dial) (waits : List ℕ) (sink sink' sink'' : Option (List ℕ))
      → UnderWay says history budget kept source now faults faults' quiets quiets' clock clock' waits sink sink'
      → Hands End buf now after
      → ((stream : List Symbol) → StandsFor kept stream → Written {X = Unit {0}} (Err fault) (texts_of says (device_close stream)) waits [] sink' sink'')
      → Decoded says (outcome_of fault) history source after clock clock' sink sink''
  at_end_broken history buf budget kept Sink source now after faults faults' quiets quiets' clock clock' waits sink sink' sink'' u handed lines =
      let read : (length (bytes_of u.readings) ≤ history) × Goes (TakesAll (bytes_of u.readings)) source after =
      ends_at_end history (bytes_of u.readings) buf budget source now after faults faults' quiets quiets' u.taken handed in
      record {
        readings = u.readings;
        reads = inl u.pieces;
        stamps = u.stamps;
        ends = inr (
          read,
          waits_part (texts_so_far says (stream_of u.readings) ++ texts_of says (device_close (stream_of u.readings))) (waits ++ texts_of says (device_close (stream_of u.readings))) sink sink' sink''
              (waits_more (texts_so_far says (stream_of u.readings)) waits (texts_of says (device_close (stream_of u.readings))) sink sink' u.wrote) (lines (stream_of u.readings) u.stands),
        );
      }
  at_end_broken history buf budget kept NoMemoryFault source now after faults faults' quiets quiets' clock clock' waits sink sink' sink'' u handed lines =
      let read : (length (bytes_of u.readings) ≤ history) × Goes (TakesAll (bytes_of u.readings)) source after =
      ends_at_end history (bytes_of u.readings) buf budget source now after faults faults' quiets quiets' u.taken handed in
      record {
        readings = u.readings;
        reads = inl u.pieces;
        stamps = u.stamps;
        ends = inr (
          read,
          part_of (texts_so_far says (stream_of u.readings)) (texts_of says (device_close (stream_of u.readings))) sink sink''
              (waits_all (texts_so_far says (stream_of u.readings)) waits sink sink' sink'' u.wrote (lines (stream_of u.readings) u.stands)),
        );
      }

  pub broken_at_end : (history : ℕ) (buf : List ℕ) (budget : Budget) (kept : DeviceKept) (fault : Fault)
      (source now after : Option Stream) (faults faults' quiets quiets' : ℕ) (clock clock' : Option Dial) (waits : List ℕ) (sink sink' sink'' : Option (List ℕ))
      → UnderWay says history budget kept source now faults faults' quiets quiets' clock clock' waits sink sink'
      → Hands End buf now after
      → ((stream : List Symbol) → StandsFor kept stream → Written {X = Unit {0}} (Err fault) (texts_of says (device_close stream)) waits [] sink' sink'')
      → (outcome : CommandOutcome) → outcome ≡ outcome_of fault
      → Decoded says outcome history source after clock clock' sink sink''
  broken_at_end history buf budget kept fault source now after faults faults' quiets quiets' clock clock' waits sink sink' sink'' u handed lines outcome is =
      subst (λ o. Decoded says o history source after clock clock' sink sink'') (sym is)
      (at_end_broken history buf budget kept fault source now after faults faults' quiets quiets' clock clock' waits sink sink' sink'' u handed lines)

  pub failed : (history : ℕ) (buf : List ℕ) (budget : Budget) (kept : DeviceKept)
      (source now after : Option Stream) (faults faults' quiets quiets' : ℕ) (clock clock' : Option Dial) (waits : List ℕ) (sink sink' sink'' : Option (List ℕ))
      → UnderWay says history budget kept source now faults faults' quiets quiets' clock clock' waits sink sink'
      → Hands Failed buf now after
      → Goes (Appends waits) sink' sink''
      → Decoded says ReadFault history source after clock clock' sink sink''
  failed history buf budget kept source now after faults faults' quiets quiets' clock clock' waits sink sink' sink'' u handed flushed =
      let read : (length (bytes_of u.readings) ≤ history) × Goes (TakesSome (bytes_of u.readings)) source after =
      ends_failed history (bytes_of u.readings) buf budget source now after faults faults' quiets quiets' u.taken handed in
      record { readings = u.readings; reads = u.pieces; stamps = u.stamps; ends = (read.0, read.1, waits_all (texts_so_far says (stream_of u.readings)) waits sink sink' sink'' u.wrote flushed) }

  pub too_quiet : (history : ℕ) (buf : List ℕ) (budget : Budget) (kept : DeviceKept)
      (source now after : Option Stream) (faults faults' quiets quiets' : ℕ) (clock clock' : Option Dial) (waits : List ℕ) (sink sink' sink'' : Option (List ℕ))
      → UnderWay says history budget kept source now faults faults' quiets quiets' clock clock' waits sink sink'
      → Hands TooQuiet buf now after
      → Goes (Appends waits) sink' sink''
      → Decoded says QuietOutcome history source after clock clock' sink sink''
  too_quiet history buf budget kept source now after faults faults' quiets quiets' clock clock' waits sink sink' sink'' u handed flushed =
      let all : (length (bytes_of u.readings) ≤ history) × Goes (Passes (bytes_of u.readings)) source after =
      ends_too_quiet history (bytes_of u.readings) buf budget source now after faults faults' quiets quiets' u.taken handed in
      record { readings = u.readings; reads = u.pieces; stamps = u.stamps; ends = (all.0, all.1, waits_all (texts_so_far says (stream_of u.readings)) waits sink sink' sink'' u.wrote flushed) }

  -- the sink failed before the next read
  pub not_flushed : (history : ℕ) (budget : Budget) (kept : DeviceKept)
      (source now : Option Stream) (faults faults' quiets quiets' : ℕ) (clock clock' : Option Dial) (waits : List ℕ) (sink sink' sink'' : Option (List ℕ))
      → UnderWay says history budget kept source now faults faults' quiets quiets' clock clock' waits sink sink'
      → Goes (AppendsPart waits) sink' sink''
      → Decoded says WriteFault history source now clock clock' sink sink''
  not_flushed history budget kept source now faults faults' quiets quiets' clock clock' waits sink sink' sink'' u part = record {
    readings = u.readings;
    reads = inl u.pieces;
    stamps = u.stamps;
    ends = inl (
      inl (let r = u.taken.room in omega arith, u.taken.passed),
      waits_part (texts_so_far says (stream_of u.readings)) waits sink sink' sink'' u.wrote part,
    );
  }

  -- the sink failed after a read that brought nothing and lost nothing
  pub unwritten : (history : ℕ) (buf : List ℕ) (budget : Budget) (kept : DeviceKept)
      (source now after : Option Stream) (faults faults' quiets quiets' : ℕ) (clock clock' : Option Dial) (waits : List ℕ) (sink sink' sink'' : Option (List ℕ))
      → UnderWay says history budget kept source now faults faults' quiets quiets' clock clock' waits sink sink'
      → Goes Stays now after
      → Goes (AppendsPart waits) sink' sink''
      → Decoded says WriteFault history source after clock clock' sink sink''
  unwritten history buf budget kept source now after faults faults' quiets quiets' clock clock' waits sink sink' sink'' u same part =
      let all : (length (bytes_of u.readings) ≤ history) × Goes (Passes (bytes_of u.readings)) source after =
      ends_too_quiet history (bytes_of u.readings) buf budget source now after faults faults' quiets quiets' u.taken same in
      record {
        readings = u.readings;
        reads = inl u.pieces;
        stamps = u.stamps;
        ends = inl (inl (all.0, all.1), waits_part (texts_so_far says (stream_of u.readings)) waits sink sink' sink'' u.wrote part);
      }

  -- out of memory before the first read
  pub nothing_done : (history : ℕ) (source : Option Stream) (clock : Option Dial) (sink : Option (List ℕ))
      → Decoded says NoMemory history source source clock clock sink sink
  nothing_done history source clock sink = record {
    readings = [];
    reads = inl tt;
    stamps = no_stamps clock;
    ends = inl (
      inl (omega arith, passes_none source),
      subst (λ l. Goes (AppendsPart l) sink sink) (append-nil (texts_so_far says []))
          (part_of (texts_so_far says []) [] sink sink (subst (λ l. Goes (Appends l) sink sink) (sym (no_texts says)) (appends_none sink))),
    );
  }
