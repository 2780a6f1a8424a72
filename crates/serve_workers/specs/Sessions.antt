-- What the two threads of a session did.
use Rattle.std.specs.Prelude.{◌≡◌, ℕ, ◌≤◌, List, Option}
use Rattle.gps_lane.specs.Ends.{Taking}
use Rattle.gps_outside.specs.Counts.{Rose}
use Rattle.gps_outside.specs.Told.{Goes, Stream}
use Rattle.gps_lane.specs.Carried.{input_part}
use Rattle.serve_workers.specs.declared.writer.WriterEnd.{WriterEnd}
use Rattle.serve_workers.specs.declared.writer.WriterEnd.TheVariants.{Drained, WriteFault}
use Rattle.serve_workers.specs.Readings.{IsInputPiece, WasRead}
use Rattle.serve_workers.specs.Writing.{Writes}
use Rattle.serve_workers.specs.declared.session.SessionLink.{SessionLink}
use Rattle.serve_workers.specs.declared.session.LinkDone.{LinkDone}
use Rattle.serve_workers.specs.Reading.{Reads, counts}

-- the writer wrote what it received from its lane, and failed exactly if the sink's faults rose
pub record Wrote (end : WriterEnd) (rx rx' : Taking (List ℕ)) (before after : Option (List ℕ)) (faults faults' : ℕ) : Type 0 where
  pub writes : Writes end rx.got rx'.got before after
  pub lane : rx' ≡ record rx { got = rx'.got }
  pub faults_stay : faults ≤ faults'
  pub failed : end ≡ WriteFault → Rose faults faults'
  pub sound : end ≡ Drained → faults' ≡ faults

-- both threads did their work on this link, whose source was read at least once
pub record SessionRuns {S K R : Type 0} (content : S → Option Stream) (faults quiets : S → ℕ) (written : K → Option (List ℕ)) (sink_faults : K → ℕ)
    (link : SessionLink S K R) (run : LinkDone S K R) : Type 0 where
  pub reads : Reads input_part IsInputPiece run.reader.failed run.reader.ending link.pieces run.reader.pieces (content link.source) (content run.reader.source)
      (counts (faults link.source) (quiets link.source)) (counts (faults run.reader.source) (quiets run.reader.source))
  pub read : Goes (WasRead (faults run.reader.source) (quiets run.reader.source)) (content link.source) (content run.reader.source)
  pub wrote : Wrote run.writer.end link.items run.writer.items (written link.sink) (written run.writer.sink) (sink_faults link.sink)
      (sink_faults run.writer.sink)
