use Rattle.std.proofs.Common.{◌≡◌, ℕ, List, [], Some, None, Option, sym, subst, refl, ap, ◌∙◌, false, inr, ⊎_elim, length, option_to_list}
use Rattle.hub_promise.specs.declared.ends.DeviceEnd.{DeviceEnd}
use Rattle.hub_promise.specs.declared.ends.DeviceEnd.TheVariants.{Ended, ReadFault, NoMemory as LostNoMemory}
use Rattle.gps_lane.specs.declared.piece.Piece.{Piece}
use Rattle.gps_lane.specs.declared.piece.Piece.TheVariants.{Bytes, Line, Input, Last}
use Rattle.gps_lane.specs.Ends.{Taking}
use Rattle.report_book.specs.BookView.{BookView}
use Rattle.book_log.specs.DeviceLogView.{turns_at}
use Rattle.book_log.specs.Entries.{ended, lost}
use Rattle.pps_edges.specs.Scan.{edge_in}
use Rattle.hub_promise.specs.Given.{end_by}
use Rattle.hub_promise.specs.Keeping.{Lasts}
use Rattle.hub_promise.specs.Parts.{InletsView}
use Rattle.hub_promise.specs.Steps.{DeviceStep, MovesOn, stop_entries, with_bytes, with_edge}
use Rattle.hub_promise.proofs.Forward.{moves_onward, quiet_onward}
use Rattle.hub_promise.proofs.Arms.{fed_step, bytes_refused_step, bytes_last_step, bytes_useless_step, edged_step, edges_refused_step, edges_last_step, edges_useless_step, nothing_step}
use Rattle.gps_hub.proofs.device.stop_as.Goals as goal

pub end_device-requires : goal.end_device-requires
end_device-requires g c = record { may = c.requires.may }

pub returns-in-ReadFault : goal.returns-in-ReadFault
returns-in-ReadFault g c =
    let P : DeviceEnd → Type 0 = λ e. MovesOn c.args.book.now c.lose.new.book (stop_entries c.args.d (Some e)) in
    let moves = inr (quiet_onward c.args.book.now c.lose.new.book (lost c.args.d) c.lose.ensures.lost c.lose.ensures.earns) in
    record {
      stops = ⊎_elim (λ (e : c.args.end ≡ ReadFault). subst P (sym e) moves) (λ (e : c.args.end ≡ LostNoMemory). subst P (sym e) moves) c.in-ReadFault.is;
      refusal = tt;
      unchanged = tt;
    }

pub returns-in_ok-end_device-in-Ended-clause-stops : goal.returns-in_ok-end_device-in-Ended-clause-stops
returns-in_ok-end_device-in-Ended-clause-stops g c =
    let P : DeviceEnd → Type 0 = λ e. MovesOn c.args.book.now c.end_device.new.self (stop_entries c.args.d (Some e)) in
    subst P (sym c.in-Ended.is) (inr (moves_onward false false c.args.book.now c.end_device.new.self (ended c.args.d) c.show.ensures.holds c.in_ok-end_device-in-Ended.ensures.ended c.in_ok-end_device-in-Ended.ensures.earns))
