-- When a client is idle: this project's own rule, over the requests and the policy of its session. Times are in
-- nanoseconds of one clock.
use Rattle.std.specs.Prelude.{ℕ, ◌-◌, ◌/◌, ◌&&◌, not, Bool, true, false, List, [], ◌∷◌, ◌++◌, length, drop, min, max, nat_le, if◌then◌else◌}
use Rattle.std.specs.List.{list_any}
use Rattle.gps_report.specs.declared.policy.Policy.{Policy}
use Rattle.gps_command.specs.declared.request.RawCommand.{RawCommand}
use Rattle.gps_command.specs.declared.request.RawCommand.TheVariants.{Words, Long}
use Rattle.gps_command.specs.Policies.{policy_at}
use Rattle.gps_command.specs.Requests.{requests}
use Rattle.idle_client.specs.declared.idle_timer.TheConstants.{FIRST, LATER, LONGEST, SHORTEST}

-- the bytes that one read gave, and when
pub record Read : Type 0 where
  pub bytes : List ℕ
  pub at : ℕ

-- when the link of a client came, and what was read of it, the last read first
pub record Client : Type 0 where
  pub came : ℕ
  pub reads : List Read

-- after one more read
abbrev pub after_read : Client → List ℕ → ℕ → Client
after_read client bytes at = record { came = client.came; reads = record { bytes = bytes; at = at } ∷ client.reads }

-- all bytes of these reads
unfoldable pub bytes_of : List Read → List ℕ
bytes_of [] = []
bytes_of (read ∷ earlier) = bytes_of earlier ++ read.bytes

-- the policy of a session after all requests of these bytes
abbrev pub policy_after_all : List ℕ → Policy
policy_after_all bytes = let asked = requests bytes in policy_at (length asked) asked

abbrev pub watches : Client → Bool
watches client = (policy_after_all (bytes_of client.reads)).enable

-- A request has ended. One of more than 1,024 bytes is skipped, and counts as none.
abbrev pub is_whole : RawCommand → Bool
is_whole (Words text) = true
is_whole Long = false

abbrev pub has_whole : List RawCommand → Bool
has_whole asked = list_any is_whole asked

abbrev pub has_asked : Client → Bool
has_asked client = has_whole (requests (bytes_of client.reads))

-- the requests that a read gives beyond those of the earlier reads
abbrev pub requests_by : Read → List Read → List RawCommand
requests_by read earlier = drop (length (requests (bytes_of earlier))) (requests (bytes_of earlier ++ read.bytes))

-- when the last request ended; if none has, when the link came
unfoldable pub last_asked : ℕ → List Read → ℕ
last_asked came [] = came
last_asked came (read ∷ earlier) = if has_whole (requests_by read earlier) then read.at else last_asked came earlier

abbrev pub seconds_between : ℕ → ℕ → ℕ
seconds_between since now = (now - since) / 1_000_000_000

-- for how many seconds a client that watches nothing may ask nothing
abbrev pub limit : Bool → ℕ
limit asked = if asked then LATER else FIRST

abbrev pub is_idle_by : (watches asked : Bool) (since now : ℕ) → Bool
is_idle_by watches asked since now = not watches && nat_le (limit asked) (seconds_between since now)

-- It watches nothing, and its link came 60 s ago without a request so far, or its last request ended 15 minutes ago.
abbrev pub is_idle : Client → ℕ → Bool
is_idle client now = is_idle_by (watches client) (has_asked client) (last_asked client.came client.reads) now

-- how many seconds are left until it is idle, from 1 to 120; if it watches, 120
abbrev pub wait_by : (watches asked : Bool) (since now : ℕ) → ℕ
wait_by watches asked since now =
    if watches then LONGEST else min (max (limit asked - seconds_between since now) SHORTEST) LONGEST

abbrev pub wait_of : Client → ℕ → ℕ
wait_of client now = wait_by (watches client) (has_asked client) (last_asked client.came client.reads) now
