-- What a call did outside: its source, its sink and its clock before the call and after it.
use Rattle.std.specs.Prelude.{ℕ, List, Option}
use Rattle.gps_outside.specs.Counts.{Rose, RoseBy}
use Rattle.gps_outside.specs.Told.{Stream}
use Rattle.gps_outside.specs.Ticks.{Dial}
use Rattle.gps_outside.specs.declared.source.Source.{Ghosts as SourceGhosts}
use Rattle.gps_outside.specs.declared.sink.Sink.{Ghosts as SinkGhosts}
use Rattle.gps_outside.specs.declared.clock.Clock.{Ghosts as ClockGhosts}

-- the content of a source, if it is modelled, and what the source counts
pub record SourceState : Type 0 where
  pub content : Option Stream
  pub faults : ℕ
  pub quiets : ℕ

pub record SourceCall : Type 0 where
  pub before : SourceState
  pub after : SourceState

abbrev pub source_state : {S : Type 0} → SourceGhosts S → S → SourceState
source_state ghosts source = record { content = ghosts.content source; faults = ghosts.faults source; quiets = ghosts.quiets source }

abbrev pub source_call : {S : Type 0} → SourceGhosts S → S → S → SourceCall
source_call ghosts before after = record { before = source_state ghosts before; after = source_state ghosts after }

-- the bytes that a sink was given, if they are modelled, and what the sink counts
pub record SinkState : Type 0 where
  pub written : Option (List ℕ)
  pub faults : ℕ

pub record SinkCall : Type 0 where
  pub before : SinkState
  pub after : SinkState

abbrev pub sink_state : {K : Type 0} → SinkGhosts K → K → SinkState
sink_state ghosts sink = record { written = ghosts.written sink; faults = ghosts.faults sink }

abbrev pub sink_call : {K : Type 0} → SinkGhosts K → K → K → SinkCall
sink_call ghosts before after = record { before = sink_state ghosts before; after = sink_state ghosts after }

-- the stamps of a clock, if they are modelled
pub record ClockCall : Type 0 where
  pub before : Option Dial
  pub after : Option Dial

abbrev pub clock_call : {C : Type 0} → ClockGhosts C → C → C → ClockCall
clock_call ghosts before after = record { before = ghosts.stamps before; after = ghosts.stamps after }

-- a read failed
abbrev pub ReadFailed : SourceCall → Type 0
ReadFailed source = Rose source.before.faults source.after.faults

-- n reads or more were quiet
abbrev pub WasQuiet : ℕ → SourceCall → Type 0
WasQuiet n source = RoseBy n source.before.quiets source.after.quiets

-- a write failed
abbrev pub WriteFailed : SinkCall → Type 0
WriteFailed sink = Rose sink.before.faults sink.after.faults

-- the contents of the source and of the sink, each before and after, satisfy P
abbrev pub ContentsSatisfy : (Option Stream → Option Stream → Option (List ℕ) → Option (List ℕ) → Type 0) → SourceCall → SinkCall → Type 0
ContentsSatisfy P source sink = P source.before.content source.after.content sink.before.written sink.after.written
