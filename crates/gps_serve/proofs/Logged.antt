-- What the log has of a device that has ended: what the hub took of its lane, which is what its reader put there, which is what its source gave.
use Rattle.std.proofs.Common.{◌≡◌, ◌+◌, inl, inr, ℕ, zero, suc, List, [], ◌∷◌, ◌++◌, map, length, Option, Some, None, IfSome, IsSome, refl, sym, ◌∙◌, ap, subst, append-nil}
use Rattle.std.proofs.lemmas.List.Concat.{flat_map-append}
use Rattle.std.specs.List.{AllZip, flat_map, range_with_len, zip}
use Rattle.gps_fixed.specs.Moment.{Moment}
use Rattle.book_log.specs.Entries.{Entry, stream}
use Rattle.gps_lane.specs.Ends.{Taking}
use Rattle.gps_outside.specs.ReadSteps.{TakesAll}
use Rattle.gps_outside.specs.Told.{Goes, Stream}
use Rattle.gps_world.specs.declared.place.Place.{Place}
use Rattle.hub_promise.specs.declared.ends.DeviceEnd.{DeviceEnd}
use Rattle.hub_promise.specs.declared.ends.DeviceEnd.TheVariants.{Ended, NoMemory as LostNoMemory}
use Rattle.hub_promise.specs.DaemonHub.{DeviceFits, whole_log}
use Rattle.hub_promise.specs.Given.{end_by, ending_of, edge_ending, stamped_of}
use Rattle.hub_promise.specs.Parts.{InletsView, device_of, devices_of}
use Rattle.packet_cut.specs.Packets.{bytes_of, stamped}
use Rattle.packet_cut.proofs.StreamLaws.{bytes_of-append, bytes_of-stamped}
use Rattle.serve_end.specs.declared.done.DeviceDone.{DeviceDone}
use Rattle.serve_end.specs.Lanes.{OneMoreAtMost}
use Rattle.serve_end.specs.Runs.{SourceFacts}
use Rattle.gps_lane.specs.Carried.{device_part}
use Rattle.gps_lane.specs.declared.piece.Ending.{Ending}
use Rattle.gps_lane.specs.declared.piece.Ending.TheVariants.{End}
use Rattle.gps_lane.specs.declared.piece.Piece.{Piece}
use Rattle.gps_lane.specs.declared.piece.Piece.TheVariants.{Bytes, Line, Input, Last}
use Rattle.serve_workers.specs.Readings.{Took, last_piece}
use Rattle.gps_serve.specs.Facts.{WorldFacts}
use Rattle.gps_serve.specs.Served.{BytesHeld, DeviceServed, IsFirstOf, SourceHeld}
use Rattle.gps_serve.specs.Logged.{AreModelled, EndedAreLogged, IsLogged, IsLoggedAt, logged_bytes}
use Rattle.gps_serve.specs.Whole.{CameWhole}
use Rattle.gps_serve.proofs.Whole.{TellEnds, both_end, device_whole, tell_ends}

-- the bytes of pieces are those of their stamped bytes
bytes_carried : (pieces : List Piece) → bytes_of (stamped_of pieces) ≡ flat_map device_part pieces
bytes_carried [] = refl
bytes_carried (Bytes at bytes ∷ pieces) =
    bytes_of-append (stamped at bytes) (stamped_of pieces)
    ∙ ap (λ (l : List ℕ). l ++ bytes_of (stamped_of pieces)) (bytes_of-stamped bytes at)
    ∙ ap (λ (l : List ℕ). bytes ++ l) (bytes_carried pieces)
bytes_carried (Line line ∷ pieces) = bytes_carried pieces
bytes_carried (Input bytes ∷ pieces) = bytes_carried pieces
bytes_carried (Last ending ∷ pieces) = bytes_carried pieces

-- the last piece carries none
none_last : (pieces : List Piece) (ending : Ending) → flat_map device_part (pieces ++ last_piece (Some ending)) ≡ flat_map device_part pieces
none_last pieces ending = flat_map-append device_part pieces (last_piece (Some ending)) ∙ append-nil (flat_map device_part pieces)

-- nothing was refused of a device that has ended
none_refused : (refused : List Piece) (bytes edges : Option Ending) (end : Option DeviceEnd) → end ≡ end_by refused bytes edges → end ≡ Some Ended → refused ≡ []
none_refused [] bytes edges end is ended = refl
none_refused (piece ∷ refused) bytes edges end is ended = let lost : end ≡ Some LostNoMemory = is in absurd (cc (lost, ended))

none_of_first : (xs ys : List Piece) → xs ++ ys ≡ [] → xs ≡ []
none_of_first [] ys e = refl
none_of_first (x ∷ xs) ys e = absurd (cc)

-- so its bytes in the log are those of all that the hub took of its lane
taken_logged : (log : List Entry) (d : ℕ) (x : InletsView) (end : Option DeviceEnd) → DeviceFits log d (device_of x end) → end ≡ Some Ended
    → logged_bytes d log ≡ flat_map device_part x.bytes.got
taken_logged log d x end fits ended =
    let none : fits.refused ≡ [] =
    none_of_first fits.refused fits.refused_lines
    (none_refused (fits.refused ++ fits.refused_lines) (ending_of fits.taken) (edge_ending x.edges fits.lines) end fits.ends ended) in
    let all : x.bytes.got ≡ fits.taken = fits.lane ∙ ap (λ (l : List Piece). fits.taken ++ l) none ∙ append-nil fits.taken in
    ap bytes_of fits.bytes ∙ bytes_carried fits.taken ∙ ap (λ (l : List Piece). flat_map device_part l) (sym all)

-- a lane that has told how its source ended gives no further piece
same_lane : (x rx : Taking Piece) (ending : Ending) → OneMoreAtMost x rx → ending_of x.got ≡ Some ending → rx.got ≡ x.got
same_lane x rx ending settled told = elim settled [
  | inl same ↦ same
  | inr one ↦ absurd (cc (one.2, told))
]

-- all that was taken of a source, from which nothing was taken before
taken_are : (bytes held : List ℕ) (end : Option DeviceEnd) (before after : Option Stream) → IsSome before → IfSome before (λ (s : Stream). s.taken ≡ [])
    → Goes (TakesAll bytes) before after → IsFirstOf end (Some held) after → end ≡ Some Ended → bytes ≡ held
taken_are bytes held end None after some unread takes first ended = absurd (cc)
taken_are bytes held end (Some stream) None some unread takes first ended = absurd first
taken_are bytes held end (Some stream) (Some now) some unread takes first ended =
    ap (λ (l : List ℕ). l ++ bytes) (sym unread) ∙ sym takes.joins ∙ first.all ended

module _ {S R : Type 0} (may : Option (List Moment)) (facts : SourceFacts S) where
  -- its source gave them, and no more
  all_given : (log : List Entry) (d : ℕ) (x : InletsView) (done : DeviceDone S R) → DeviceFits log d (device_of x done.end) → DeviceServed may facts x done
      → done.end ≡ Some Ended → IsLogged facts (logged_bytes d log) done
  all_given log d x done fits served ended =
      let tells : TellEnds x done.end = tell_ends log d x done.end fits (inl ended) in
      let whole : CameWhole may facts done = device_whole may facts x done served (λ over. tells) (inl ended) in
      let both = both_end whole.bytes_ending whole.edges_ending done.end whole.end_is ended in
      let before = facts.content whole.bytes.first in
      let after = facts.content whole.source in
      let hands = whole.bytes.hands in
      let same : done.bytes_rx.got ≡ x.bytes.got = same_lane x.bytes done.bytes_rx tells.bytes_ending served.settled.bytes tells.bytes in
      let carried : flat_map device_part x.bytes.got ≡ flat_map device_part hands.pieces =
      ap (λ (l : List Piece). flat_map device_part l) (sym same ∙ whole.bytes_got ∙ hands.puts) ∙ none_last hands.pieces whole.bytes_ending in
      let are : flat_map device_part hands.pieces ≡ logged_bytes d log = sym carried ∙ sym (taken_logged log d x done.end fits ended) in
      let took : Took (Some End) (flat_map device_part hands.pieces) before after =
      subst (λ (e : Ending). Took (Some e) (flat_map device_part hands.pieces) before after) both.0 hands.took in
      record {
        first = whole.bytes.first;
        unread = whole.bytes.unread;
        source = whole.source;
        source_is = whole.source_is;
        takes = subst (λ (l : List ℕ). Goes (TakesAll l) before after) are took;
      }

  -- and the world held them
  all_held : (bytes held : List ℕ) (done : DeviceDone S R) (told : Option (List ℕ)) → IsLogged facts bytes done → done.end ≡ Some Ended → AreModelled facts
      → SourceHeld facts done.end told done.source → told ≡ Some held → bytes ≡ held
  all_held bytes held done told logged ended modelled source_held is =
      let so : SourceHeld facts done.end (Some held) (Some logged.source) =
      subst (λ (s : Option S). SourceHeld facts done.end (Some held) s) logged.source_is
      (subst (λ (t : Option (List ℕ)). SourceHeld facts done.end t done.source) is source_held) in
      taken_are bytes held done.end (facts.content logged.first) (facts.content logged.source) (modelled logged.first) logged.unread.nothing logged.takes so ended

module _ {S R : Type 0} (may : Option (List Moment)) (facts : SourceFacts S) (behind : Place → Option (List ℕ)) (log : List Entry) where
  -- device by device, if their numbers begin with n
  logged_from : (n count : ℕ) (inlets : List InletsView) (places : List Place) (devices : List (DeviceDone S R))
      → AllZip (DeviceFits log) (range_with_len n count) (devices_of inlets (map (λ (done : DeviceDone S R). done.end) devices))
      → AllZip (DeviceServed may facts) inlets devices → AllZip (BytesHeld behind facts) places devices
      → AllZip (IsLoggedAt facts behind log) (range_with_len n (length devices)) (zip places devices)
  logged_from n count inlets [] [] fits served held = tt
  logged_from n count inlets [] (device ∷ devices) fits served held = absurd held
  logged_from n count inlets (place ∷ places) [] fits served held = absurd held
  logged_from n count [] (place ∷ places) (device ∷ devices) fits served held = absurd served
  logged_from n zero (x ∷ inlets) (place ∷ places) (device ∷ devices) fits served held = absurd fits
  logged_from n (suc count) (x ∷ inlets) (place ∷ places) (device ∷ devices) fits served held =
      let given : device.end ≡ Some Ended → IsLogged facts (logged_bytes n log) device = λ ended. all_given may facts log n x device fits.0 served.0 ended in (
        record {
          given = given;
          held = λ bytes ended modelled is. all_held may facts (logged_bytes n log) bytes device (behind place) (given ended) ended modelled held.0 is;
        },
        logged_from (n + 1) count inlets places devices fits.1 served.1 held.1,
      )

pub ended_are_logged : {G S K : Type 0} (R : Type 0) (facts : WorldFacts G S K) → EndedAreLogged R facts
ended_are_logged R facts start back book behind places ends held =
    let log : List Entry = whole_log ends.hub.0 book in (
      log,
      (
        (ends.hub.0, (ends.hub.1.opening, refl)),
        logged_from start.may facts.sources behind log 0 (length book.names) ends.inlets places back.devices ends.hub.1.devices ends.devices_are held,
      ),
    )
