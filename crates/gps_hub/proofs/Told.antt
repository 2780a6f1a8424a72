-- How a device that goes on ends by one more piece of its lanes.
use Rattle.std.proofs.Common.{◌≡◌, ℕ, List, [], ◌∷◌, ◌++◌, Option, Some, None, refl, sym, ap, ◌∙◌, subst, inl, inr, append-nil}
use Rattle.std.specs.Option.{option_or}
use Rattle.book_log.specs.Entries.{Entry}
use Rattle.gps_lane.specs.Ends.{Taking}
use Rattle.report_book.specs.BookView.{BookView}
use Rattle.report_book.specs.declared.fault.BookFault.{BookFault}
use Rattle.report_book.specs.declared.fault.BookFault.TheVariants.{NoMemory}
use Rattle.gps_lane.specs.declared.piece.Ending.{Ending}
use Rattle.gps_lane.specs.declared.piece.Piece.{Piece}
use Rattle.gps_lane.specs.declared.piece.Piece.TheVariants.{Bytes, Line, Input, Last}
use Rattle.hub_promise.specs.declared.ends.DeviceEnd.{DeviceEnd}
use Rattle.hub_promise.specs.declared.ends.DeviceEnd.TheVariants.{NoMemory as LostNoMemory}
use Rattle.hub_promise.specs.DaemonHub.{DeviceFits}
use Rattle.hub_promise.specs.Given.{end_by, ending_in}
use Rattle.hub_promise.specs.Keeping.{Lasts, end_told, told_of}
use Rattle.hub_promise.specs.Parts.{InletsView, device_of}
use Rattle.hub_promise.specs.Steps.{with_bytes, with_edge}
use Rattle.hub_promise.proofs.Devices.{running, told_bytes, told_edge}
use Rattle.gps_hub.specs.declared.pumped.Pumped.{Pumped}
use Rattle.gps_hub.specs.declared.pumped.Pumped.TheVariants.{Fed, Empty, Waiting, Done, Refused}
use Rattle.gps_hub.specs.Pumping.{Looked, TookBytes, TookLine, bytes_stop, line_stop}

-- ---- what was told of how the sources of its lanes ended

module _ (log : List Entry) (d : ℕ) (x : InletsView) (lasts : Lasts) (told : lasts ≡ told_of x) (f : DeviceFits log d (device_of x None)) where
  -- it runs, as its lanes have not both told
  runs : None ≡ end_by [] lasts.bytes lasts.edges
  runs = running log [] d x f ∙ (λ i. end_by [] (sym told i).bytes (sym told i).edges)

  stop_bytes : (piece : Piece) → bytes_stop piece lasts ≡ end_by [] (option_or (ending_in piece) lasts.bytes) lasts.edges
  stop_bytes (Bytes at bytes) = runs
  stop_bytes (Line line) = runs
  stop_bytes (Input bytes) = runs
  stop_bytes (Last ending) = refl

  stop_line : (piece : Piece) → line_stop piece lasts ≡ end_by [] lasts.bytes (option_or (ending_in piece) lasts.edges)
  stop_line (Bytes at bytes) = runs
  stop_line (Line line) = runs
  stop_line (Input bytes) = runs
  stop_line (Last ending) = refl

  pub told_by_bytes : (piece : Piece) (end : Option DeviceEnd) → end ≡ bytes_stop piece lasts → end ≡ end_told (with_bytes piece x)
  told_by_bytes piece end is =
      let next : Lasts = record { bytes = option_or (ending_in piece) lasts.bytes; edges = lasts.edges } in
      let now = told_bytes piece x lasts next refl refl told in
      is ∙ stop_bytes piece ∙ (λ i. end_by [] (now i).bytes (now i).edges)

  pub told_by_line : (piece : Piece) (lane : Taking Piece) (end : Option DeviceEnd) → x.edges ≡ Some lane → end ≡ line_stop piece lasts → end ≡ end_told (with_edge piece x)
  told_by_line piece lane end there is =
      let next : Lasts = record { bytes = lasts.bytes; edges = option_or (ending_in piece) lasts.edges } in
      let now = told_edge piece x lane lasts next there refl refl told in
      is ∙ stop_line piece ∙ (λ i. end_by [] (now i).bytes (now i).edges)

-- ---- what became of a piece

pub refused_bytes : (r : Pumped) (fault : BookFault) (d : ℕ) (piece : Piece) (lasts : Lasts) (end : Option DeviceEnd) (old new : BookView) → r ≡ Refused fault → fault ≡ NoMemory
    → end ≡ Some LostNoMemory → TookBytes r d piece lasts end old new
refused_bytes r fault d piece lasts end old new is memory lost = subst (λ (p : Pumped). TookBytes p d piece lasts end old new) (sym is) (memory, lost)

pub refused_line : (r : Pumped) (fault : BookFault) (d : ℕ) (piece : Piece) (lasts : Lasts) (end : Option DeviceEnd) (old new : BookView) → r ≡ Refused fault → fault ≡ NoMemory
    → end ≡ Some LostNoMemory → TookLine r d piece lasts end old new
refused_line r fault d piece lasts end old new is memory lost = subst (λ (p : Pumped). TookLine p d piece lasts end old new) (sym is) (memory, lost)

-- that was got of a device's lane, or of its edge lane
pub looked_bytes : (r : Pumped) (d : ℕ) (piece : Piece) (x y : InletsView) (lasts : Lasts) (end : Option DeviceEnd) (old new : BookView) → y ≡ with_bytes piece x
    → TookBytes r d piece lasts end old new → Looked r d x y lasts end old new
looked_bytes Fed d piece x y lasts end old new is took = (piece, inl (is, took))
looked_bytes Empty d piece x y lasts end old new is took = absurd took
looked_bytes (Waiting watched) d piece x y lasts end old new is took = absurd took
looked_bytes Done d piece x y lasts end old new is took = absurd took
looked_bytes (Refused fault) d piece x y lasts end old new is took = ((piece, inl is), took.0, took.1)

pub looked_line : (r : Pumped) (d : ℕ) (piece : Piece) (x y : InletsView) (lasts : Lasts) (end : Option DeviceEnd) (old new : BookView)
    → (y ≡ with_edge piece x) × ((lane : Taking Piece) × (x.edges ≡ Some lane)) → TookLine r d piece lasts end old new → Looked r d x y lasts end old new
looked_line Fed d piece x y lasts end old new is took = (piece, inr (is, took))
looked_line Empty d piece x y lasts end old new is took = absurd took
looked_line (Waiting watched) d piece x y lasts end old new is took = absurd took
looked_line Done d piece x y lasts end old new is took = absurd took
looked_line (Refused fault) d piece x y lasts end old new is took = ((piece, inr is.0), took.0, took.1)
