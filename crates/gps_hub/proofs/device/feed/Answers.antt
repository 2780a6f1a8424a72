use Rattle.std.proofs.Common.{◌≡◌, ℕ, List, [], Some, None, Option, sym, subst, refl, ap, ◌∙◌, false, inr, ⊎_elim, length, option_to_list}
use Rattle.hub_promise.specs.declared.ends.DeviceEnd.{DeviceEnd}
use Rattle.hub_promise.specs.declared.ends.DeviceEnd.TheVariants.{Ended, ReadFault, NoMemory as LostNoMemory}
use Rattle.gps_lane.specs.declared.piece.Piece.{Piece}
use Rattle.gps_lane.specs.declared.piece.Piece.TheVariants.{Bytes, Line, Input, Last}
use Rattle.gps_lane.specs.Ends.{Taking}
use Rattle.report_book.specs.BookView.{BookView}
use Rattle.book_log.specs.DeviceLogView.{turns_at}
use Rattle.book_log.specs.Entries.{lost, fed}
use Rattle.pps_edges.specs.Scan.{edge_in}
use Rattle.hub_promise.specs.Given.{end_by}
use Rattle.hub_promise.specs.Keeping.{Lasts}
use Rattle.hub_promise.specs.Parts.{InletsView}
use Rattle.hub_promise.specs.Steps.{DeviceStep, MovesOn, stop_entries, with_bytes, with_edge}
use Rattle.hub_promise.proofs.Forward.{moves_onward, quiet_onward}
use Rattle.hub_promise.proofs.Arms.{fed_step, bytes_refused_step, bytes_last_step, bytes_useless_step, edged_step, edges_refused_step, edges_last_step, edges_useless_step, nothing_step}
use Rattle.book_log.specs.Entries.{fed}
use Rattle.gps_hub.proofs.Told.{refused_bytes}
use Rattle.gps_hub.proofs.device.feed.Goals as goal
use Rattle.gps_lane.specs.Lane.{MayKeep}
use Rattle.report_book.specs.Allowing.{MayAdd}

pub feed-requires-clause-may : goal.feed-requires-clause-may
feed-requires-clause-may g c =
    subst (λ (b : List ℕ). MayAdd MayKeep c.args.d (fed c.args.d c.args.at b) c.args.book.now) (sym c.as_slice.ensures.bytes) c.requires.may

pub returns-in-Ok-clause-step : goal.returns-in-Ok-clause-step
returns-in-Ok-clause-step g c = λ x lasts.
    let P : List ℕ × Option DeviceEnd → Type 0 = λ t. DeviceStep c.args.d c.args.book.now c.feed.new.self x (with_bytes (Bytes c.args.at t.0) x) t.1 t.1 lasts lasts in
    subst P (λ i. (c.as_slice.ensures.bytes i, sym c.requires.going i))
    (fed_step false (turns_at c.args.book.now.log (length c.as_slice.result.now)) c.args.book.now c.feed.new.self c.args.d c.args.at c.as_slice.result.now x lasts c.show.ensures.holds c.in-Ok.ensures.fed c.in-Ok.ensures.earns)

pub returns-in-Err-clause-step : goal.returns-in-Err-clause-step
returns-in-Err-clause-step g c = λ x lasts.
    let piece = Bytes c.args.at c.args.bytes.now in
    let P : BookView × Option DeviceEnd × Option DeviceEnd → Type 0 = λ t. DeviceStep c.args.d t.0 c.refuse.new.book x (with_bytes piece x) t.1 t.2 lasts lasts in
    subst P (λ i. (c.in-Err.ensures.unchanged i, sym c.requires.going i, sym c.refuse.ensures.end i))
    (bytes_refused_step c.feed.new.self c.refuse.new.book c.args.d piece x lasts lasts c.refuse.ensures.lost c.refuse.ensures.earns refl refl)

pub returns-in-Ok-clause-answer : goal.returns-in-Ok-clause-answer
returns-in-Ok-clause-answer g c = λ lasts.
    let P : List ℕ → Type 0 = λ b. MovesOn c.args.book.now c.feed.new.self (fed c.args.d c.args.at b) in
    let slice = c.as_slice.result.now in (
      subst P c.as_slice.ensures.bytes
          (inr (moves_onward false (turns_at c.args.book.now.log (length slice)) c.args.book.now c.feed.new.self (fed c.args.d c.args.at slice) c.show.ensures.holds c.in-Ok.ensures.fed c.in-Ok.ensures.earns)),
      c.requires.going,
    )

pub returns-in-Err-clause-answer : goal.returns-in-Err-clause-answer
returns-in-Err-clause-answer g c = λ lasts.
    refused_bytes c.refuse.result c.in-Err.fault c.args.d (Bytes c.args.at c.args.bytes.now) lasts c.refuse.new.end c.args.book.now c.refuse.new.book
    c.refuse.ensures.answer c.refuse.ensures.memory c.refuse.ensures.end
