use Rattle.std.proofs.Common.{◌≡◌, ℕ, List, [], Some, None, Option, sym, subst, refl, ap, ◌∙◌, false, inl, inr, ⊎_elim, length, option_to_list}
use Rattle.hub_promise.specs.declared.ends.DeviceEnd.{DeviceEnd}
use Rattle.hub_promise.specs.declared.ends.DeviceEnd.TheVariants.{Ended, ReadFault, NoMemory as LostNoMemory}
use Rattle.gps_lane.specs.declared.piece.Piece.{Piece}
use Rattle.gps_lane.specs.declared.piece.Piece.TheVariants.{Bytes, Line, Input, Last}
use Rattle.gps_lane.specs.Ends.{Taking}
use Rattle.report_book.specs.BookView.{BookView}
use Rattle.book_log.specs.DeviceLogView.{turns_at}
use Rattle.book_log.specs.Entries.{lost}
use Rattle.pps_edges.specs.Scan.{edge_in}
use Rattle.hub_promise.specs.Given.{end_by}
use Rattle.hub_promise.specs.Keeping.{Lasts}
use Rattle.hub_promise.specs.Parts.{InletsView}
use Rattle.hub_promise.specs.Steps.{DeviceStep, MovesOn, stop_entries, with_bytes, with_edge}
use Rattle.hub_promise.proofs.Forward.{moves_onward, quiet_onward}
use Rattle.hub_promise.proofs.Arms.{fed_step, bytes_refused_step, bytes_last_step, bytes_useless_step, edged_step, edges_refused_step, edges_last_step, edges_useless_step, nothing_step}
use Rattle.gps_hub.specs.Pumping.{TookBytes}
use Rattle.gps_hub.specs.declared.pumped.Pumped.TheVariants.{Fed}
use Rattle.gps_hub.proofs.device.take_bytes.Goals as goal

pub returns-in-Line-clause-step : goal.returns-in-Line-clause-step
returns-in-Line-clause-step g c = λ x.
    let P : Piece × Option DeviceEnd → Type 0 = λ t. DeviceStep c.args.d c.args.book.now c.args.book.now x (with_bytes t.0 x) t.1 t.1 c.args.lasts.now c.args.lasts.now in
    subst P (λ i. (sym c.in-Line.is i, sym c.requires.going i)) (bytes_useless_step c.args.book.now c.args.d (Line c.in-Line.field-0) x c.args.lasts.now refl refl)

pub returns-clause-step : goal.returns-clause-step
returns-clause-step g c = λ x.
    let P : Piece × Option DeviceEnd → Type 0 = λ t. DeviceStep c.args.d c.args.book.now c.args.book.now x (with_bytes t.0 x) t.1 t.1 c.args.lasts.now c.args.lasts.now in
    subst P (λ i. (sym c.in-Input.is i, sym c.requires.going i)) (bytes_useless_step c.args.book.now c.args.d (Input c.in-Input.field-0) x c.args.lasts.now refl refl)

pub returns-in-Bytes-clause-answer : goal.returns-in-Bytes-clause-answer
returns-in-Bytes-clause-answer g c =
    subst (λ (p : Piece). TookBytes c.feed.result c.args.d p c.args.lasts.now c.feed.new.end c.args.book.now c.feed.new.book) (sym c.in-Bytes.is)
    (c.feed.ensures.answer c.args.lasts.now)

pub returns-in-Last-clause-answer : goal.returns-in-Last-clause-answer
returns-in-Last-clause-answer g c =
    subst (λ (p : Piece). TookBytes c.bytes_end.result c.args.d p c.args.lasts.now c.bytes_end.new.end c.args.book.now c.bytes_end.new.book) (sym c.in-Last.is)
    c.bytes_end.ensures.answer

pub returns-in-Line-clause-answer : goal.returns-in-Line-clause-answer
returns-in-Line-clause-answer g c =
    subst (λ (p : Piece). TookBytes Fed c.args.d p c.args.lasts.now c.args.end.now c.args.book.now c.args.book.now) (sym c.in-Line.is) (inl (refl, refl), c.requires.going)

pub returns-clause-answer : goal.returns-clause-answer
returns-clause-answer g c =
    subst (λ (p : Piece). TookBytes Fed c.args.d p c.args.lasts.now c.args.end.now c.args.book.now c.args.book.now) (sym c.in-Input.is) (inl (refl, refl), c.requires.going)

pub feed-requires-clause-may : goal.feed-requires-clause-may
feed-requires-clause-may g c = c.requires.may.bytes _ _ c.in-Bytes.is

pub bytes_end-requires-clause-may : goal.bytes_end-requires-clause-may
bytes_end-requires-clause-may g c = c.requires.may.end
