-- The stamps that a clock may give, if the world tells them.
use Rattle.std.proofs.Common.{◌≡◌, ◌<◌, ◌⊎◌, inl, inr, ℕ, Bool, true, false, List, [], ◌∷◌, length, map, Option, Some, None, IfSome, refl, ap, subst, sym, ◌∙◌}
use Rattle.std.specs.List.{AllZip}
use Rattle.gps_fixed.specs.Moment.{Moment}
use Rattle.gps_lane.specs.Ends.{Putting}
use Rattle.gps_outside.specs.Ticks.{Dial}
use Rattle.gps_outside.specs.Told.{Stream}
use Rattle.gps_world.specs.Opening.{Tells}
use Rattle.hub_door.specs.Admissions.{LinkDrop}
use Rattle.hub_promise.specs.Parts.{InletsView, terms_of}
use Rattle.report_book.specs.BookView.{BookView}
use Rattle.gps_world.specs.OpenInOrder.{dial_of}
use Rattle.serve_end.specs.declared.plan.Plan.{Plan}
use Rattle.serve_end.specs.declared.done.DeviceDone.{DeviceDone}
use Rattle.gps_lane.specs.Carried.{device_part}
use Rattle.gps_lane.specs.declared.piece.Ending.{Ending}
use Rattle.gps_lane.specs.declared.piece.Piece.{Piece}
use Rattle.gps_lane.specs.declared.piece.Piece.TheVariants.{Bytes, Line, Input, Last}
use Rattle.serve_end.specs.Runs.{SourceFacts}
use Rattle.serve_workers.specs.Clocks.{MayGive}
use Rattle.serve_workers.specs.Readings.{Each, HandsOn, IsDevicePiece}
use Rattle.gps_serve.specs.AtEnd.{AtEnd, DaemonSettings, HandedBack, ShowsOutOfMemory, settings_in, settings_of, start_with}
use Rattle.gps_serve.specs.Facts.{WorldFacts}
use Rattle.gps_serve.specs.Served.{DeviceServed, ReaderServed}
use Rattle.serve_door.specs.Doors.{NoneLeft, Tends, Way, door_now}
use Rattle.gps_serve.proofs.Stamps.{stamps_untold}

untold_pieces : (may : Option (List Moment)) (pieces : List Piece) → Each (IsDevicePiece may) pieces → Each (IsDevicePiece None) pieces
untold_pieces may [] each = tt
untold_pieces may (Bytes at bytes ∷ pieces) each = ((each.0.0, tt), untold_pieces may pieces each.1)
untold_pieces may (Line line ∷ pieces) each = absurd each.0
untold_pieces may (Input bytes ∷ pieces) each = absurd each.0
untold_pieces may (Last ending ∷ pieces) each = absurd each.0

untold_hands : (may : Option (List Moment)) (ending : Option Ending) (put put' : List Piece) (before after : Option Stream)
    → HandsOn device_part (IsDevicePiece may) ending put put' before after → HandsOn device_part (IsDevicePiece None) ending put put' before after
untold_hands may ending put put' before after hands =
    record { pieces = hands.pieces; puts = hands.puts; good = untold_pieces may hands.pieces hands.good; took = hands.took }

untold_bytes : {S : Type 0} (may : Option (List Moment)) (facts : SourceFacts S) (tx : Putting Piece) (source : S)
    → ReaderServed (HandsOn device_part (IsDevicePiece may)) facts tx source → ReaderServed (HandsOn device_part (IsDevicePiece None)) facts tx source
untold_bytes may facts tx source served = record {
  first = served.first;
  unread = served.unread;
  ending = served.ending;
  hands = untold_hands may served.ending [] tx.put (facts.content served.first) (facts.content source) served.hands;
  failed = served.failed;
}

untold_devices : {S R : Type 0} (may : Option (List Moment)) (facts : SourceFacts S) (inlets : List InletsView) (devices : List (DeviceDone S R))
    → AllZip (DeviceServed may facts) inlets devices → AllZip (DeviceServed None facts) inlets devices
untold_devices may facts [] [] served = tt
untold_devices may facts [] (d ∷ devices) served = absurd served
untold_devices may facts (x ∷ inlets) [] served = absurd served
untold_devices may facts (x ∷ inlets) (d ∷ devices) served = (
  record {
    source = served.0.source;
    source_is = served.0.source_is;
    bytes = untold_bytes may facts d.bytes_tx served.0.source served.0.bytes;
    bytes_lane = served.0.bytes_lane;
    edges = served.0.edges;
    edges_lane = served.0.edges_lane;
    settled = served.0.settled;
  },
  untold_devices may facts inlets devices served.1,
)

module _ {G S K R : Type 0} (told : DaemonSettings) (facts : WorldFacts G S K) (back : HandedBack G S K R) (b : BookView) where
  untold : (may : Option (List Moment)) (clock : Option Dial) (links : Option (List (Way S K))) → AtEnd (start_with told may clock links) facts back b
      → AtEnd (start_with told None None links) facts back b
  untold may clock links at = record {
    names = at.names;
    limit = at.limit;
    queue = at.queue;
    requests = at.requests;
    inlets = at.inlets;
    done = at.done;
    hub = at.hub;
    devices_are = untold_devices may facts.sources at.inlets back.devices at.devices_are;
    stamps = stamps_untold clock (map (λ (d : DeviceDone S R). d.bytes_tx.put) back.devices) at.stamps;
    inputs_are = at.inputs_are;
    outlets_are = at.outlets_are;
    numbers = at.numbers;
    stopped = at.stopped;
    closed = at.closed;
    units = at.units;
    monitor_numbers = at.monitor_numbers;
    monitors_are = at.monitors_are;
    gate = at.gate;
    gate_is = at.gate_is;
    door = at.door;
    short = at.short;
  }

  -- the clock tells what the world told of it
  pub as_told : (links : Option (List (Way S K))) (stamps shown : Option Dial) → Tells stamps shown
      → AtEnd (start_with told (dial_of shown) shown links) facts back b → AtEnd (start_with told (dial_of stamps) stamps links) facts back b
  as_told links None shown tells at = untold (dial_of shown) shown links at
  as_told links (Some dial) shown tells at =
      subst (λ (s : Option Dial). AtEnd (start_with told (dial_of s) s links) facts back b) tells at

  untold_asked : (links : Option (List (Way S K))) (taken : List (Way S K)) (g : G)
      → (0 < length taken) ⊎ (0 < facts.gates.quiets g) ⊎ (0 < facts.gates.faults g) ⊎ NoneLeft links (facts.gates.links g)
      → (0 < length taken) ⊎ (0 < facts.gates.quiets g) ⊎ (0 < facts.gates.faults g) ⊎ NoneLeft None (facts.gates.links g)
  untold_asked links taken g was =
      elim was [ inl some ↦ inl some | inr (inl quiet) ↦ inr (inl quiet) | inr (inr (inl fault)) ↦ inr (inr (inl fault)) | inr (inr (inr none)) ↦ inr (inr (inr tt)) ]

  untold_tends : (links : Option (List (Way S K))) (g : G) (drops : List LinkDrop) (full : ℕ) (out_of_memory : Bool) (served : List (Way S K)) (done : Bool)
      → Tends links (door_now (facts.gates.links g) (facts.gates.faults g) (facts.gates.quiets g) drops full out_of_memory) served done false
      → Tends None (door_now (facts.gates.links g) (facts.gates.faults g) (facts.gates.quiets g) drops full out_of_memory) served done false
  untold_tends links g drops full out_of_memory served done tends =
      let takes = tends.takes in
      record {
        taken = tends.taken;
        takes = record {
          passed = tt;
          few = takes.few;
          uncounted = takes.uncounted;
          count = takes.count;
          full = takes.full;
          dealt = takes.dealt;
          each = takes.each;
          order = takes.order;
        };
        asked = elim tends.asked [ inl never ↦ inl never | inr was ↦ inr (untold_asked links tends.taken g was) ];
        closed = λ (e : done ≡ true). elim (tends.closed e) [ inl none ↦ inl tt | inr fault ↦ inr fault ];
      }

  untold_short : (links left : Option (List (Way S K))) → ShowsOutOfMemory links left back b → ShowsOutOfMemory None left back b
  untold_short links left short = elim short [
    | inl device ↦ inl device
    | inr (inl reader) ↦ inr (inl reader)
    | inr (inr (inl session)) ↦ inr (inr (inl session))
    | inr (inr (inr (inl input))) ↦ inr (inr (inr (inl input)))
    | inr (inr (inr (inr (inl monitor)))) ↦ inr (inr (inr (inr (inl monitor))))
    | inr (inr (inr (inr (inr link)))) ↦ inr (inr (inr (inr (inr (record { taken = link.taken; passed = tt; more = link.more })))))
  ]

  untold_links : (may : Option (List Moment)) (clock : Option Dial) (links : Option (List (Way S K))) → AtEnd (start_with told may clock links) facts back b
      → AtEnd (start_with told may clock None) facts back b
  untold_links may clock links at = record {
    names = at.names;
    limit = at.limit;
    queue = at.queue;
    requests = at.requests;
    inlets = at.inlets;
    done = at.done;
    hub = at.hub;
    devices_are = at.devices_are;
    stamps = at.stamps;
    inputs_are = at.inputs_are;
    outlets_are = at.outlets_are;
    numbers = at.numbers;
    stopped = at.stopped;
    closed = at.closed;
    units = at.units;
    monitor_numbers = at.monitor_numbers;
    monitors_are = at.monitors_are;
    gate = at.gate;
    gate_is = at.gate_is;
    door = record {
      drops = at.door.drops;
      out_of_memory = at.door.out_of_memory;
      served = at.door.served;
      tends = untold_tends links at.gate at.door.drops back.full at.door.out_of_memory at.door.served at.done at.door.tends;
      links_are = at.door.links_are;
      has_memory = at.door.has_memory;
    };
    short = λ (e : back.no_memory ≡ true). untold_short links (facts.gates.links at.gate) (at.short e);
  }

  -- the door tells what the world told of it
  pub as_linked : (may : Option (List Moment)) (clock : Option Dial) (links shown : Option (List (Way S K))) → Tells links shown
      → AtEnd (start_with told may clock shown) facts back b → AtEnd (start_with told may clock links) facts back b
  as_linked may clock None shown tells at = untold_links may clock shown at
  as_linked may clock (Some links) shown tells at =
      subst (λ (l : Option (List (Way S K))). AtEnd (start_with told may clock l) facts back b) tells at

gives : (stamps : Option Dial) → MayGive (dial_of stamps) stamps
gives None = tt
gives (Some dial) = refl

-- the stamps that a clock tells are those that it may give
pub may_give : (may : Option (List Moment)) (stamps : Option Dial) → may ≡ dial_of stamps → MayGive may stamps
may_give may stamps is = subst (λ m. MayGive m stamps) (sym is) (gives stamps)

told : List (List ℕ) → ℕ → ℕ → ℕ → ℕ → ℕ → DaemonSettings
told names limit requests wait queue tries =
    record { names = names; limit = limit; wait = wait; queue = queue; requests = requests; tries = tries }

same_told : (b : BookView) (first : List InletsView) (plan : Plan) → b.names ≡ plan.names → b.log.limit ≡ plan.limit → b.most_requests ≡ plan.requests
    → settings_of (terms_of b first plan.wait) plan.queue plan.tries ≡ settings_in plan
unfolding told
same_told b first plan names limit requests =
    ap (λ n. told n b.log.limit b.most_requests plan.wait plan.queue plan.tries) names
    ∙ ap (λ l. told plan.names l b.most_requests plan.wait plan.queue plan.tries) limit
    ∙ ap (λ r. told plan.names plan.limit r plan.wait plan.queue plan.tries) requests

-- of a book that was made for the plan
pub told_again : {G S K R : Type 0} (facts : WorldFacts G S K) (back : HandedBack G S K R) (book : Option BookView) (b : BookView) (first : List InletsView) (plan : Plan)
    (stamps shown : Option Dial) (links linked : Option (List (Way S K)))
    → b.names ≡ plan.names → b.log.limit ≡ plan.limit → b.most_requests ≡ plan.requests → Tells stamps shown → Tells links linked
    → IfSome book (AtEnd (start_with (settings_of (terms_of b first plan.wait) plan.queue plan.tries) (dial_of shown) shown linked) facts back)
    → IfSome book (AtEnd (start_with (settings_in plan) (dial_of stamps) stamps links) facts back)
told_again facts back None b first plan stamps shown links linked names limit requests tells tells' so = tt
told_again facts back (Some x) b first plan stamps shown links linked names limit requests tells tells' so =
    as_linked (settings_in plan) facts back x (dial_of stamps) stamps links linked tells'
    (as_told (settings_in plan) facts back x linked stamps shown tells
    (subst (λ (t : DaemonSettings). AtEnd (start_with t (dial_of shown) shown linked) facts back x) (same_told b first plan names limit requests) so))
