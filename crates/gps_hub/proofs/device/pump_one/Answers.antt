use Rattle.std.proofs.Common.{◌≡◌, ℕ, List, [], Some, None, Option, sym, subst, refl, ap, ◌∙◌, false, inr, ⊎_elim, length, option_to_list}
use Rattle.hub_promise.specs.declared.ends.DeviceEnd.{DeviceEnd}
use Rattle.hub_promise.specs.declared.ends.DeviceEnd.TheVariants.{Ended, ReadFault, NoMemory as LostNoMemory}
use Rattle.gps_lane.specs.declared.piece.Piece.{Piece}
use Rattle.gps_lane.specs.declared.piece.Piece.TheVariants.{Bytes, Line, Input, Last}
use Rattle.gps_lane.specs.Ends.{Taking}
use Rattle.report_book.specs.BookView.{BookView}
use Rattle.book_log.specs.DeviceLogView.{turns_at}
use Rattle.book_log.specs.Entries.{lost}
use Rattle.pps_edges.specs.Scan.{edge_in}
use Rattle.hub_promise.specs.Given.{end_by}
use Rattle.hub_promise.specs.Keeping.{Lasts, LaneIsRead}
use Rattle.hub_promise.specs.Parts.{InletsView}
use Rattle.hub_promise.specs.Steps.{DeviceStep, MovesOn, stop_entries, with_bytes, with_edge}
use Rattle.hub_promise.proofs.Forward.{moves_onward, quiet_onward}
use Rattle.hub_promise.proofs.Arms.{fed_step, bytes_refused_step, bytes_last_step, bytes_useless_step, edged_step, edges_refused_step, edges_last_step, edges_useless_step, nothing_step}
use Rattle.gps_hub.specs.Pumping.{TookBytes, TookLine}
use Rattle.gps_hub.proofs.Told.{looked_bytes, looked_line}
use Rattle.gps_hub.proofs.device.pump_one.Goals as goal

pub returns-in-Nothing-clause-step : goal.returns-in-Nothing-clause-step
returns-in-Nothing-clause-step g c =
    let P : InletsView × Lasts → Type 0 = λ t. DeviceStep c.args.d c.args.book.now c.args.book.now c.args.inlets.now t.0 c.args.end.now c.args.end.now c.args.lasts.now t.1 in
    subst P (λ i. (sym c.in-Nothing.ensures.next i, sym c.in-Nothing.ensures.lasts i)) (nothing_step c.args.book.now c.args.d c.args.inlets.now c.args.end.now c.args.lasts.now)

pub returns-in-Bytes-clause-answer : goal.returns-in-Bytes-clause-answer
returns-in-Bytes-clause-answer g c =
    looked_bytes c.take_bytes.result c.args.d c.in-Bytes.piece c.args.inlets.now c.next.new.self c.args.lasts.now c.take_bytes.new.end c.args.book.now c.take_bytes.new.book c.in-Bytes.ensures.next
    (subst (λ (l : Lasts). TookBytes c.take_bytes.result c.args.d c.in-Bytes.piece l c.take_bytes.new.end c.args.book.now c.take_bytes.new.book) c.in-Bytes.ensures.lasts c.take_bytes.ensures.answer)

pub returns-in-Edges-clause-answer : goal.returns-in-Edges-clause-answer
returns-in-Edges-clause-answer g c =
    looked_line c.take_edge.result c.args.d c.in-Edges.piece c.args.inlets.now c.next.new.self c.args.lasts.now c.take_edge.new.end c.args.book.now c.take_edge.new.book c.in-Edges.ensures.next
    (subst (λ (l : Lasts). TookLine c.take_edge.result c.args.d c.in-Edges.piece l c.take_edge.new.end c.args.book.now c.take_edge.new.book) c.in-Edges.ensures.lasts c.take_edge.ensures.answer)

pub returns-in-Edges-clause-step : goal.returns-in-Edges-clause-step
returns-in-Edges-clause-step g c =
    let d = c.args.d in
    let book = c.take_edge.new.book in
    let end = c.take_edge.new.end in
    let lasts = c.take_edge.new.lasts in
    subst (λ (t : InletsView × Lasts). DeviceStep d c.args.book.now book c.args.inlets.now t.0 c.args.end.now end t.1 lasts) (λ i. (sym c.in-Edges.ensures.next.0 i, c.in-Edges.ensures.lasts i))
    (c.take_edge.ensures.step c.args.inlets.now c.in-Edges.ensures.next.1.0 c.in-Edges.ensures.next.1.1)

pub take_bytes-requires-clause-may : goal.take_bytes-requires-clause-may
take_bytes-requires-clause-may g c = c.requires.may.bytes c.in-Bytes.piece (subst LaneIsRead c.in-Bytes.ensures.next c.show_read.ensures)

pub take_edge-requires-clause-may : goal.take_edge-requires-clause-may
take_edge-requires-clause-may g c =
    let next = c.in-Edges.ensures.next in
    c.requires.may.edge c.in-Edges.piece next.1.0 next.1.1 (subst LaneIsRead next.0 c.show_read-in-Edges.ensures)
