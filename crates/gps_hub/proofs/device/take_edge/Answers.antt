use Rattle.std.proofs.Common.{◌≡◌, ℕ, List, [], Some, None, Option, sym, subst, refl, ap, ◌∙◌, false, inl, inr, ⊎_elim, length, option_to_list}
use Rattle.hub_promise.specs.declared.ends.DeviceEnd.{DeviceEnd}
use Rattle.hub_promise.specs.declared.ends.DeviceEnd.TheVariants.{Ended, ReadFault, NoMemory as LostNoMemory}
use Rattle.gps_lane.specs.declared.piece.Piece.{Piece}
use Rattle.gps_lane.specs.declared.piece.Piece.TheVariants.{Bytes, Line, Input, Last}
use Rattle.gps_lane.specs.Ends.{Taking}
use Rattle.report_book.specs.BookView.{BookView}
use Rattle.book_log.specs.DeviceLogView.{turns_at}
use Rattle.book_log.specs.Entries.{lost}
use Rattle.pps_edges.specs.Scan.{edge_in}
use Rattle.hub_promise.specs.Given.{end_by}
use Rattle.hub_promise.specs.Keeping.{Lasts}
use Rattle.hub_promise.specs.Parts.{InletsView}
use Rattle.hub_promise.specs.Steps.{DeviceStep, MovesOn, stop_entries, with_bytes, with_edge}
use Rattle.hub_promise.proofs.Forward.{moves_onward, quiet_onward}
use Rattle.hub_promise.proofs.Arms.{fed_step, bytes_refused_step, bytes_last_step, bytes_useless_step, edged_step, edges_refused_step, edges_last_step, edges_useless_step, nothing_step}
use Rattle.gps_hub.specs.Pumping.{TookLine}
use Rattle.gps_hub.specs.declared.pumped.Pumped.TheVariants.{Fed}
use Rattle.gps_hub.proofs.device.take_edge.Goals as goal
use Rattle.hub_promise.specs.Giving.{MayGiveEdge}

pub returns-in-Bytes-clause-step : goal.returns-in-Bytes-clause-step
returns-in-Bytes-clause-step g c = λ x lane there.
    let P : Piece × Option DeviceEnd → Type 0 = λ t. DeviceStep c.args.d c.args.book.now c.args.book.now x (with_edge t.0 x) t.1 t.1 c.args.lasts.now c.args.lasts.now in
    subst P (λ i. (sym c.in-Bytes.is i, sym c.requires.going i)) (edges_useless_step c.args.book.now c.args.d (Bytes _ _) x lane c.args.lasts.now there refl refl)

pub returns-clause-step : goal.returns-clause-step
returns-clause-step g c = λ x lane there.
    let P : Piece × Option DeviceEnd → Type 0 = λ t. DeviceStep c.args.d c.args.book.now c.args.book.now x (with_edge t.0 x) t.1 t.1 c.args.lasts.now c.args.lasts.now in
    subst P (λ i. (sym c.in-Input.is i, sym c.requires.going i)) (edges_useless_step c.args.book.now c.args.d (Input c.in-Input.field-0) x lane c.args.lasts.now there refl refl)

pub returns-in-Line-clause-answer : goal.returns-in-Line-clause-answer
returns-in-Line-clause-answer g c =
    subst (λ (p : Piece). TookLine c.line.result c.args.d p c.args.lasts.now c.line.new.end c.args.book.now c.line.new.book) (sym c.in-Line.is)
    (c.line.ensures.answer c.args.lasts.now)

pub returns-in-Last-clause-answer : goal.returns-in-Last-clause-answer
returns-in-Last-clause-answer g c =
    subst (λ (p : Piece). TookLine c.edges_end.result c.args.d p c.args.lasts.now c.edges_end.new.end c.args.book.now c.edges_end.new.book) (sym c.in-Last.is)
    c.edges_end.ensures.answer

pub returns-in-Bytes-clause-answer : goal.returns-in-Bytes-clause-answer
returns-in-Bytes-clause-answer g c =
    subst (λ (p : Piece). TookLine Fed c.args.d p c.args.lasts.now c.args.end.now c.args.book.now c.args.book.now) (sym c.in-Bytes.is) (inl (refl, refl), c.requires.going)

pub returns-clause-answer : goal.returns-clause-answer
returns-clause-answer g c =
    subst (λ (p : Piece). TookLine Fed c.args.d p c.args.lasts.now c.args.end.now c.args.book.now c.args.book.now) (sym c.in-Input.is) (inl (refl, refl), c.requires.going)

pub returns-in-Last-clause-step : goal.returns-in-Last-clause-step
returns-in-Last-clause-step g c = λ x lane there.
    subst (λ (p : Piece). DeviceStep c.args.d c.args.book.now c.edges_end.new.book x (with_edge p x) c.args.end.now c.edges_end.new.end c.args.lasts.now c.edges_end.new.lasts) (sym c.in-Last.is)
    (c.edges_end.ensures.step x lane there)

pub line-requires-clause-may : goal.line-requires-clause-may
line-requires-clause-may g c = subst (λ (p : Piece). MayGiveEdge c.args.d p c.args.book.now) c.in-Line.is c.requires.may

pub edges_end-requires-clause-may : goal.edges_end-requires-clause-may
edges_end-requires-clause-may g c = c.requires.may.end
