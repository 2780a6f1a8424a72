use Rattle.std.proofs.Common.{◌≡◌, ℕ, List, [], Some, None, Option, sym, subst, refl, ap, ◌∙◌, false, inl, inr, ⊎_elim, length, option_to_list}
use Rattle.hub_promise.specs.declared.ends.DeviceEnd.{DeviceEnd}
use Rattle.hub_promise.specs.declared.ends.DeviceEnd.TheVariants.{Ended, ReadFault, NoMemory as LostNoMemory}
use Rattle.gps_lane.specs.declared.piece.Piece.{Piece}
use Rattle.gps_lane.specs.declared.piece.Piece.TheVariants.{Bytes, Line, Input, Last}
use Rattle.gps_lane.specs.Ends.{Taking}
use Rattle.report_book.specs.BookView.{BookView}
use Rattle.book_log.specs.DeviceLogView.{turns_at}
use Rattle.book_log.specs.Entries.{lost}
use Rattle.pps_edges.specs.Scan.{edge_in}
use Rattle.hub_promise.specs.Given.{end_by}
use Rattle.hub_promise.specs.Keeping.{Lasts}
use Rattle.hub_promise.specs.Parts.{InletsView}
use Rattle.hub_promise.specs.Steps.{DeviceStep, MovesOn, stop_entries, with_bytes, with_edge}
use Rattle.hub_promise.proofs.Forward.{moves_onward, quiet_onward}
use Rattle.hub_promise.proofs.Arms.{fed_step, bytes_refused_step, bytes_last_step, bytes_useless_step, edged_step, edges_refused_step, edges_last_step, edges_useless_step, nothing_step}
use Rattle.gps_hub.specs.Pumping.{edge_entries}
use Rattle.gps_hub.proofs.device.line.Goals as goal

pub returns-in-None-clause-step : goal.returns-in-None-clause-step
returns-in-None-clause-step g c = λ x lane lasts there.
    let P : Option DeviceEnd → Type 0 = λ e. DeviceStep c.args.d c.args.book.now c.args.book.now x (with_edge (Line c.args.line.now) x) e e lasts lasts in
    subst P (sym c.requires.going) (edges_useless_step c.args.book.now c.args.d (Line c.args.line.now) x lane lasts there (ap option_to_list (sym c.in-None.ensures)) refl)

pub returns-in-None-clause-answer : goal.returns-in-None-clause-answer
returns-in-None-clause-answer g c = λ lasts.
    (subst (λ o. MovesOn c.args.book.now c.args.book.now (edge_entries c.args.d o)) c.in-None.ensures (inl (refl, refl)), c.requires.going)

pub edge-requires-clause-may : goal.edge-requires-clause-may
edge-requires-clause-may g c = c.requires.may.edge _ _ refl c.in-Some.ensures
