-- What the device gained goes on to the sink, or waits.
use Rattle.std.proofs.Common.{◌≡◌, ℕ, List, [], ◌∷◌, ◌++◌, Option, Result, Ok, Err, refl, sym, ◌∙◌, ap, subst}
use Rattle.gps_report.specs.declared.edge.Symbol.{Symbol}
use Rattle.gps_report.specs.declared.report.Body.{Body}
use Rattle.gps_outside.specs.Told.{Goes, Appends, AppendsPart}
use Rattle.gps_outside.specs.Waiting.{Waits}
use Rattle.gps_outside.proofs.Writing.{part_longer, waits_part, waits_all, waits_none}
use Rattle.device_core.specs.Reports.{reports_from, Gains, GainsWithoutPackets, without_packets}
use Rattle.device_core.specs.Standing.{DeviceKept, StandsFor}
use Rattle.device_core.proofs.Streams.{reports-append}
use Rattle.gps_decode.specs.declared.fault.Fault.{Fault}
use Rattle.gps_decode.specs.declared.fault.Fault.TheVariants.{Sink, NoMemory as NoMemoryFault}
use Rattle.gps_decode.specs.Texts.{Texts, texts_of, texts_by}
use Rattle.gps_decode.specs.Decode.{GaveUp, HandsOn, Written}
use Rattle.gps_report.specs.declared.packet.Packet.{Packet}
use Rattle.gps_report.specs.declared.report.Body.TheVariants.{Packet as PacketBody, Tpv, Sky, Toff, Pps, Device}
use Rattle.gps_decode.specs.declared.texts.Output.{Output}
use Rattle.gps_decode.specs.declared.texts.Output.TheVariants.{Lines, Sentences}

module _ (says : Texts) where
  -- what the device gained was written or waits
  all_handed_on : (result : Result (Unit {0}) Fault) (gained : List Body) (stream more : List Symbol) (kept : DeviceKept) (waited waits : List ℕ) (before after : Option (List ℕ))
      → StandsFor kept (stream ++ more) → Gains stream more gained → Written result (texts_of says gained) waited waits before after
      → HandsOn says result stream more kept waited waits before after
  all_handed_on (Ok _) gained stream more kept waited waits before after stands gains wrote = (stands, (gained, (gains, wrote)))
  all_handed_on (Err Sink) gained stream more kept waited waits before after stands gains wrote = (gained, (gains, wrote))
  all_handed_on (Err NoMemoryFault) gained stream more kept waited waits before after stands gains wrote = wrote

  -- there was no memory for what the device gained
  pub fed_none : (fault : Fault) (stream more : List Symbol) (kept : DeviceKept) (waited waits : List ℕ) (before after : Option (List ℕ))
      → GaveUp fault waited before after → HandsOn {X = Unit {0}} says (Err fault) stream more kept waited waits before after
  fed_none Sink stream more kept waited waits before after gave =
      (reports_from stream more, (reports-append [] stream more, part_longer waited (texts_of says (reports_from stream more)) before after gave))
  fed_none NoMemoryFault stream more kept waited waits before after gave = gave

  -- and at the last nothing waits
  pub flushed : (stream more : List Symbol) (kept : DeviceKept) (waited waits : List ℕ) (before now after : Option (List ℕ))
      → HandsOn {X = Unit {0}} says (Ok tt) stream more kept waited waits before now → Goes (Appends waits) now after
      → HandsOn {X = Unit {0}} says (Ok tt) stream more kept waited [] before after
  flushed stream more kept waited waits before now after h wrote =
      (h.0, (h.1.0, (h.1.1.0, waits_none (waited ++ texts_of says h.1.0) before after (waits_all (waited ++ texts_of says h.1.0) waits before now after h.1.1.1 wrote))))

  pub flushed_part : (stream more : List Symbol) (kept : DeviceKept) (waited waits : List ℕ) (before now after : Option (List ℕ))
      → HandsOn {X = Unit {0}} says (Ok tt) stream more kept waited waits before now → Goes (AppendsPart waits) now after
      → HandsOn {X = Unit {0}} says (Err Sink) stream more kept waited [] before after
  flushed_part stream more kept waited waits before now after h part =
      (h.1.0, (h.1.1.0, waits_part (waited ++ texts_of says h.1.0) waits before now after h.1.1.1 part))

-- the lines of the last epoch, after what waited, and nothing waits
pub closed : (lines waited waits : List ℕ) (before now after : Option (List ℕ))
    → Waits (waited ++ lines) waits before now → Goes (Appends waits) now after → Waits (waited ++ lines) [] before after
closed lines waited waits before now after first wrote =
    waits_none (waited ++ lines) before after (waits_all (waited ++ lines) waits before now after first wrote)

pub closed_part : (lines waited waits : List ℕ) (before now after : Option (List ℕ))
    → Waits (waited ++ lines) waits before now → Goes (AppendsPart waits) now after → Goes (AppendsPart (waited ++ lines)) before after
closed_part lines waited waits before now after first part = waits_part (waited ++ lines) waits before now after first part

pub closed_none : (fault : Fault) (lines waited waits : List ℕ) (before after : Option (List ℕ))
    → GaveUp fault waited before after → Written {X = Unit {0}} (Err fault) lines waited waits before after
closed_none Sink lines waited waits before after gave = part_longer waited lines before after gave
closed_none NoMemoryFault lines waited waits before after gave = gave

-- Packets are not written, so what is written of reports without them is what is written of all.

nothing_of_packets : (output : Output) (packet : Packet) → texts_by output (PacketBody packet) ≡ []
nothing_of_packets Lines packet = refl
nothing_of_packets Sentences packet = refl

texts_quiet : (output : Output) (all : List Body) → texts_of (texts_by output) (without_packets all) ≡ texts_of (texts_by output) all
texts_quiet output [] = refl
texts_quiet output (PacketBody packet ∷ all) =
    texts_quiet output all ∙ ap (λ t. t ++ texts_of (texts_by output) all) (sym (nothing_of_packets output packet))
texts_quiet output (Tpv fix ∷ all) = ap (λ t. texts_by output (Tpv fix) ++ t) (texts_quiet output all)
texts_quiet output (Sky sky ∷ all) = ap (λ t. texts_by output (Sky sky) ++ t) (texts_quiet output all)
texts_quiet output (Toff pair ∷ all) = ap (λ t. texts_by output (Toff pair) ++ t) (texts_quiet output all)
texts_quiet output (Pps pair ∷ all) = ap (λ t. texts_by output (Pps pair) ++ t) (texts_quiet output all)
texts_quiet output (Device first ∷ all) = ap (λ t. texts_by output (Device first) ++ t) (texts_quiet output all)

-- so what the device gained, without its packets, was written or waits
pub handed_on : (output : Output) (result : Result (Unit {0}) Fault) (quiet : List Body) (stream more : List Symbol) (kept : DeviceKept) (waited waits : List ℕ) (before after : Option (List ℕ))
    → StandsFor kept (stream ++ more) → GainsWithoutPackets stream more quiet → Written result (texts_of (texts_by output) quiet) waited waits before after
    → HandsOn (texts_by output) result stream more kept waited waits before after
handed_on output result quiet stream more kept waited waits before after stands gains wrote =
    let W : List ℕ → Type 0 = λ t. Written result t waited waits before after in
    all_handed_on (texts_by output) result gains.0 stream more kept waited waits before after stands gains.1.0
    (subst W (ap (texts_of (texts_by output)) gains.1.1 ∙ texts_quiet output gains.0) wrote)
