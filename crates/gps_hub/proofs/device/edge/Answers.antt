use Rattle.std.proofs.Common.{◌≡◌, ℕ, List, [], Some, None, Option, sym, subst, refl, ap, ◌∙◌, false, inr, ⊎_elim, length, option_to_list}
use Rattle.hub_promise.specs.declared.ends.DeviceEnd.{DeviceEnd}
use Rattle.hub_promise.specs.declared.ends.DeviceEnd.TheVariants.{Ended, ReadFault, NoMemory as LostNoMemory}
use Rattle.gps_lane.specs.declared.piece.Piece.{Piece}
use Rattle.gps_lane.specs.declared.piece.Piece.TheVariants.{Bytes, Line, Input, Last}
use Rattle.gps_lane.specs.Ends.{Taking}
use Rattle.report_book.specs.BookView.{BookView}
use Rattle.book_log.specs.DeviceLogView.{turns_at}
use Rattle.book_log.specs.Entries.{lost}
use Rattle.pps_edges.specs.Scan.{edge_in}
use Rattle.hub_promise.specs.Given.{end_by}
use Rattle.hub_promise.specs.Keeping.{Lasts}
use Rattle.hub_promise.specs.Parts.{InletsView}
use Rattle.hub_promise.specs.Steps.{DeviceStep, MovesOn, stop_entries, with_bytes, with_edge}
use Rattle.hub_promise.proofs.Forward.{moves_onward, quiet_onward}
use Rattle.hub_promise.proofs.Arms.{fed_step, bytes_refused_step, bytes_last_step, bytes_useless_step, edged_step, edges_refused_step, edges_last_step, edges_useless_step, nothing_step}
use Rattle.book_log.specs.Entries.{edged}
use Rattle.gps_hub.specs.Pumping.{edge_entries}
use Rattle.gps_hub.proofs.Told.{refused_line}
use Rattle.gps_hub.proofs.device.edge.Goals as goal

pub edge-requires : goal.edge-requires
edge-requires g c = record { may = c.requires.may }

pub returns-in-Ok-clause-step : goal.returns-in-Ok-clause-step
returns-in-Ok-clause-step g c = λ line x lane lasts reads there.
    let P : Option DeviceEnd → Type 0 = λ e. DeviceStep c.args.d c.args.book.now c.edge.new.self x (with_edge (Line line) x) e e lasts lasts in
    subst P (sym c.requires.going)
    (edged_step false (turns_at c.args.book.now.log 1) c.args.book.now c.edge.new.self c.args.d line c.args.edge x lane lasts there reads c.show.ensures.holds c.in-Ok.ensures.edged c.in-Ok.ensures.earns)

pub returns-in-Err-clause-step : goal.returns-in-Err-clause-step
returns-in-Err-clause-step g c = λ line x lane lasts reads there.
    let P : BookView × Option DeviceEnd × Option DeviceEnd → Type 0 = λ t. DeviceStep c.args.d t.0 c.refuse.new.book x (with_edge (Line line) x) t.1 t.2 lasts lasts in
    subst P (λ i. (c.in-Err.ensures.unchanged i, sym c.requires.going i, sym c.refuse.ensures.end i))
    (edges_refused_step c.edge.new.self c.refuse.new.book c.args.d (Line line) x lane lasts lasts there c.refuse.ensures.lost c.refuse.ensures.earns refl refl)

pub returns-in-Ok-clause-answer : goal.returns-in-Ok-clause-answer
returns-in-Ok-clause-answer g c = λ line lasts reads. (
  subst (λ o. MovesOn c.args.book.now c.edge.new.self (edge_entries c.args.d o)) reads
      (inr (moves_onward false (turns_at c.args.book.now.log 1) c.args.book.now c.edge.new.self (edged c.args.d c.args.edge) c.show.ensures.holds c.in-Ok.ensures.edged c.in-Ok.ensures.earns)),
  c.requires.going,
)

pub returns-in-Err-clause-answer : goal.returns-in-Err-clause-answer
returns-in-Err-clause-answer g c = λ line lasts reads.
    refused_line c.refuse.result c.in-Err.fault c.args.d (Line line) lasts c.refuse.new.end c.args.book.now c.refuse.new.book
    c.refuse.ensures.answer c.refuse.ensures.memory c.refuse.ensures.end
