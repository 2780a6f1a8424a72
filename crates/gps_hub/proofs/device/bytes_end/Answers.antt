use Rattle.std.proofs.Common.{◌≡◌, ℕ, List, [], Some, None, Option, sym, subst, refl, ap, ◌∙◌, false, inr, ⊎_elim, length, option_to_list}
use Rattle.hub_promise.specs.declared.ends.DeviceEnd.{DeviceEnd}
use Rattle.hub_promise.specs.declared.ends.DeviceEnd.TheVariants.{Ended, ReadFault, NoMemory as LostNoMemory}
use Rattle.gps_lane.specs.declared.piece.Piece.{Piece}
use Rattle.gps_lane.specs.declared.piece.Piece.TheVariants.{Bytes, Line, Input, Last}
use Rattle.gps_lane.specs.Ends.{Taking}
use Rattle.report_book.specs.BookView.{BookView}
use Rattle.book_log.specs.DeviceLogView.{turns_at}
use Rattle.book_log.specs.Entries.{lost}
use Rattle.pps_edges.specs.Scan.{edge_in}
use Rattle.hub_promise.specs.Given.{end_by}
use Rattle.hub_promise.specs.Keeping.{Lasts}
use Rattle.hub_promise.specs.Parts.{InletsView}
use Rattle.hub_promise.specs.Steps.{DeviceStep, MovesOn, stop_entries, with_bytes, with_edge}
use Rattle.hub_promise.proofs.Forward.{moves_onward, quiet_onward}
use Rattle.hub_promise.proofs.Arms.{fed_step, bytes_refused_step, bytes_last_step, bytes_useless_step, edged_step, edges_refused_step, edges_last_step, edges_useless_step, nothing_step}
use Rattle.gps_hub.proofs.Told.{refused_bytes}
use Rattle.gps_hub.proofs.device.bytes_end.Goals as goal

pub returns-in-Ok-clause-step : goal.returns-in-Ok-clause-step
returns-in-Ok-clause-step g c = λ x.
    let edges = ap (λ (l : Lasts). l.edges) c.lasts.view_is in
    let next : Lasts = record { bytes = Some c.args.ending; edges = c.lasts.inside.edges } in
    let P : Option DeviceEnd → Type 0 = λ e. DeviceStep c.args.d c.args.book.now c.stop.new.book x (with_bytes (Last c.args.ending) x) e c.in-Ok.stopped c.args.lasts.now next in
    subst P (sym c.requires.going)
    (bytes_last_step c.args.book.now c.stop.new.book c.args.d c.args.ending x c.in-Ok.stopped c.args.lasts.now next c.in-Ok.ensures.stops refl edges (c.in-Ok.ensures.end ∙ ap (λ o. end_by [] (Some c.args.ending) o) edges))

pub returns-in-Err-clause-step : goal.returns-in-Err-clause-step
returns-in-Err-clause-step g c = λ x.
    let piece = Last c.args.ending in
    let edges = ap (λ (l : Lasts). l.edges) c.lasts.view_is in
    let next : Lasts = record { bytes = Some c.args.ending; edges = c.lasts.inside.edges } in
    let P : BookView × Option DeviceEnd × Option DeviceEnd → Type 0 = λ t. DeviceStep c.args.d t.0 c.refuse.new.book x (with_bytes piece x) t.1 t.2 c.args.lasts.now next in
    subst P (λ i. (c.in-Err.ensures.unchanged i, sym c.requires.going i, sym c.refuse.ensures.end i))
    (bytes_refused_step c.stop.new.book c.refuse.new.book c.args.d piece x c.args.lasts.now next c.refuse.ensures.lost c.refuse.ensures.earns refl edges)

pub returns-in-Ok-clause-answer : goal.returns-in-Ok-clause-answer
returns-in-Ok-clause-answer g c =
    (c.in-Ok.ensures.stops, c.in-Ok.ensures.end ∙ ap (λ o. end_by [] (Some c.args.ending) o) (ap (λ (l : Lasts). l.edges) c.lasts.view_is))

pub returns-in-Err-clause-answer : goal.returns-in-Err-clause-answer
returns-in-Err-clause-answer g c =
    refused_bytes c.refuse.result c.in-Err.fault c.args.d (Last c.args.ending) c.args.lasts.now c.refuse.new.end c.args.book.now c.refuse.new.book
    c.refuse.ensures.answer c.refuse.ensures.memory c.refuse.ensures.end
