-- What is left of the door, and what it says of the sessions.
use Rattle.std.proofs.Common.{◌≡◌, ◌<◌, ◌-◌, ◌^◌, ℕ, Bool, true, false, zero, suc, List, [], ◌∷◌, map, length, min, get_or, Option, refl, sym, ◌∙◌, ap, subst, arith}
use Rattle.std.specs.List.{All, AllZip}
use Rattle.book_sessions.specs.MemberView.{MemberView}
use Rattle.gps_lane.specs.Ends.{Taking}
use Rattle.hub_door.specs.Admissions.{Admissions, SessionLanes}
use Rattle.hub_promise.specs.declared.ends.DeviceEnd.{DeviceEnd}
use Rattle.hub_promise.specs.Parts.{AreAdmitted}
use Rattle.report_book.specs.BookView.{BookView}
use Rattle.serve_end.specs.declared.done.DeviceDone.{DeviceDone}
use Rattle.serve_end.specs.declared.done.SessionDone.{SessionDone}
use Rattle.gps_lane.specs.declared.piece.Piece.{Piece}
use Rattle.serve_workers.specs.declared.session.SessionLink.{SessionLink}
use Rattle.serve_workers.specs.declared.session.LinkDone.{LinkDone}
use Rattle.serve_workers.specs.Sessions.{SessionRuns}
use Rattle.gps_serve.specs.AtEnd.{HaveQueue}
use Rattle.gps_serve.specs.Facts.{WorldFacts}
use Rattle.gps_serve.specs.Served.{GateServed}
use Rattle.serve_door.specs.Doors.{IsNewLink, Tended, Way, door_now, lanes_of, way_of}
use Rattle.gps_serve.specs.Lost.{IsNotClosedOutOfMemory, IsNotLostOutOfMemory, LinkIsUncounted, NoneLost}
use Rattle.gps_serve.specs.Readies.{IsLeftOfLink}
use Rattle.gps_serve.proofs.Devices.{zip_length}
use Rattle.gps_serve.proofs.Taking.{links_served}

map_length : {A B : Type 0} (f : A → B) (xs : List A) → length (map f xs) ≡ length xs
map_length f [] = refl
map_length f (x ∷ xs) = let same = map_length f xs in omega (arith, same)

pub gate_served : {G S K R : Type 0} (facts : WorldFacts G S K) (queue : ℕ) (told : Option (List (Way S K))) (gate : G) (full : ℕ)
    (no_memory is_out_of_memory : Bool) (seat : Admissions) (runs : List (LinkDone S K R)) (sessions : List (SessionDone S K R))
    → Tended (IsNewLink facts.sources.content facts.sources.faults facts.sources.quiets facts.sinks.written facts.sinks.faults)
    (SessionRuns facts.sources.content facts.sources.faults facts.sources.quiets facts.sinks.written facts.sinks.faults) queue told
    (door_now (facts.gates.links gate) (facts.gates.faults gate) (facts.gates.quiets gate) seat.drops full no_memory) seat runs
    → AllZip (IsLeftOfLink facts.sources facts.sinks) runs sessions → (is_out_of_memory ≡ false → no_memory ≡ false)
    → GateServed facts told full is_out_of_memory seat.done sessions gate
gate_served facts queue told gate full no_memory is_out_of_memory seat runs sessions tended are so = record {
  drops = seat.drops;
  out_of_memory = no_memory;
  served = map way_of tended.links;
  tends = tended.tends;
  links_are = links_served facts.sources facts.sinks tended.links runs sessions tended.seated.unused tended.seated.each tended.ran are;
  has_memory = so;
}

-- the door was out of memory as a link was dropped
pub link_uncounted : {G S K R : Type 0} (facts : WorldFacts G S K) (queue : ℕ) (told : Option (List (Way S K))) (gate : G) (full : ℕ) (no_memory : Bool) (seat : Admissions)
    (runs : List (LinkDone S K R)) (sessions : List (SessionDone S K R))
    → Tended (IsNewLink facts.sources.content facts.sources.faults facts.sources.quiets facts.sinks.written facts.sinks.faults)
    (SessionRuns facts.sources.content facts.sources.faults facts.sources.quiets facts.sinks.written facts.sinks.faults) queue told
    (door_now (facts.gates.links gate) (facts.gates.faults gate) (facts.gates.quiets gate) seat.drops full no_memory) seat runs
    → AllZip (IsLeftOfLink facts.sources facts.sinks) runs sessions → no_memory ≡ true → LinkIsUncounted told (facts.gates.links gate) (length sessions) full
link_uncounted {G} {S} {K} {R} facts queue told gate full no_memory seat runs sessions tended are short =
    let sources = facts.sources in
    let sinks = facts.sinks in
    let ran = zip_length (SessionRuns sources.content sources.faults sources.quiets sinks.written sinks.faults) tended.links runs tended.ran in
    let left = zip_length (IsLeftOfLink sources sinks) runs sessions are in
    let ways = map_length way_of tended.links in
    let same : length (map way_of tended.links) ≡ length sessions = omega (arith, ran, left, ways) in
    record {
      taken = tended.tends.taken;
      passed = tended.tends.takes.passed;
      more =
          let more = tended.tends.takes.uncounted short in
          let full_is : full ≡ min (length seat.drops) (2 ^ 64 - 1) = tended.tends.takes.full in
          omega (arith, more, full_is, same);
    }

module _ {S K R : Type 0} (queue : ℕ) where
  caps_are : (links : List (SessionLink S K R)) (sessions : List MemberView)
      → map (λ (a : MemberView). a.session.cap) sessions ≡ map (λ (l : SessionLanes). l.cap) (map (lanes_of queue) links) → HaveQueue queue sessions
  caps_are links [] same k d there = absurd (omega arith)
  caps_are [] (a ∷ sessions) same k d there = absurd cc
  caps_are (link ∷ links) (a ∷ sessions) same zero d there = cc same
  caps_are (link ∷ links) (a ∷ sessions) same (suc k) d there = caps_are links sessions (cc same) k d (omega arith)

  -- how many items may wait for each session that was admitted
  pub of_queue : (seat : Admissions) (links : List (SessionLink S K R)) (sessions : List MemberView) (inputs : List (Taking Piece)) → map (lanes_of queue) links ≡ seat.links
      → AreAdmitted seat.links sessions inputs → HaveQueue queue sessions
  of_queue seat links sessions inputs same admitted =
      caps_are links sessions (admitted.caps ∙ ap (map (λ (l : SessionLanes). l.cap)) (sym same))

-- what holds of each end holds of each device's
pub each_end : {S R : Type 0} (P : Option DeviceEnd → Type 0) (devices : List (DeviceDone S R)) (ends : List (Option DeviceEnd))
    → map (λ (d : DeviceDone S R). d.end) devices ≡ ends → All P ends → All (λ (d : DeviceDone S R). P d.end) devices
each_end {S} {R} P devices ends are all k d there =
    by devices k d there (subst (All P) (sym are) all)
  where
    by : (devices : List (DeviceDone S R)) (k : ℕ) (d : DeviceDone S R) → k < length devices → All P (map (λ (d : DeviceDone S R). d.end) devices)
        → P (get_or devices k d).end
    by [] k d there all = absurd (omega arith)
    by (x ∷ devices) zero d there all = all zero d.end (omega arith)
    by (x ∷ devices) (suc k) d there all = by devices k d (omega arith) (λ j e there. all (suc j) e (omega arith))

-- no device was lost, and no session of the book closed, because it was out of memory
pub none_lost_in : {S R : Type 0} (b b' b'' : BookView) (devices : List (DeviceDone S R)) (ends : List (Option DeviceEnd)) → b' ≡ b → b'' ≡ b'
    → map (λ (d : DeviceDone S R). d.end) devices ≡ ends → All IsNotLostOutOfMemory ends → All (λ (a : MemberView). IsNotClosedOutOfMemory a.session.closing) b.sessions
    → NoneLost b'' devices
none_lost_in b b' b'' devices ends is is' are kept sessions = record {
  devices_kept = each_end IsNotLostOutOfMemory devices ends are kept;
  sessions_kept = subst (λ (x : BookView). All (λ (a : MemberView). IsNotClosedOutOfMemory a.session.closing) x.sessions) (sym (is' ∙ is)) sessions;
}
