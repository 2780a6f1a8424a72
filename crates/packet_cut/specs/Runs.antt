-- Bytes whose stamps are kept once for a run of bytes that follow one another. (This project's own.)
use Rattle.std.specs.Prelude.{◌≡◌, ℕ, ◌-◌, ◌<◌, ◌≤◌, List, [], ◌∷◌, ◌++◌, length, take, drop, nat_lt, if◌then◌else◌}
use Rattle.gps_fixed.specs.Moment.{Moment}
use Rattle.packet_cut.specs.declared.kept.Run.{Run}
use Rattle.packet_cut.specs.declared.kept.RunPlace.{RunPlace}
use Rattle.packet_cut.specs.Packets.{Stamped, stamped, most_pending}

-- each byte with the stamp of its run
unfoldable pub spread : List Run → List ℕ → List Stamped
spread [] bytes = []
spread (run ∷ runs) bytes = stamped run.at (take run.count bytes) ++ spread runs (drop run.count bytes)

-- the runs are those of these bytes, and none of them is empty
unfoldable pub AreRuns : List Run → List ℕ → Type 0
AreRuns [] bytes = bytes ≡ []
AreRuns (run ∷ runs) bytes = (0 < run.count) × (run.count ≤ length bytes) × AreRuns runs (drop run.count bytes)

-- the runs without the first bytes, the given number of them
unfoldable pub runs_after : ℕ → List Run → List Run
runs_after count [] = []
runs_after count (run ∷ runs) =
    if nat_lt count run.count then record { at = run.at; count = run.count - count } ∷ runs else runs_after (count - run.count) runs

-- the runs that bytes of one piece add
abbrev pub run_of : Moment → ℕ → List Run
run_of at count = if nat_lt 0 count then record { at = at; count = count } ∷ [] else []

-- the byte with the given number of bytes before it is at this place of the runs
pub record IsRunPlace (runs : List Run) (count : ℕ) (place : RunPlace) : Type 0 where
  pub run : Run
  pub behind : List Run
  pub found : drop place.run runs ≡ run ∷ behind
  pub inside : place.before < run.count
  pub after : runs_after count runs ≡ record { at = run.at; count = run.count - place.before } ∷ behind

-- if there are any bytes, there is room for all that may ever be pending, and for as many runs
pub record HasRoom (count bytes runs : ℕ) : Type 0 where
  pub for_bytes : 0 < count → most_pending ≤ bytes
  pub for_runs : 0 < count → most_pending ≤ runs

-- what is known of kept bytes and their runs, with the room of each
pub record IsKept (runs : List Run) (bytes : List ℕ) (bytes_room runs_room : ℕ) : Type 0 where
  pub are_runs : AreRuns runs bytes
  pub short : length bytes ≤ most_pending
  pub has_room : HasRoom (length bytes) bytes_room runs_room
