use Rattle.std.proofs.Common.{◌≡◌, ◌≤◌, inl, inr, Bool, true, not, ◌&&◌, ◌||◌, length, Some, refl, sym, ◌∙◌, ap, subst, arith}
use Rattle.std.specs.List.{All, list_all, list_any}
use Rattle.hub_promise.specs.Given.{is_end}
use Rattle.hub_promise.specs.Keeping.{IsClosed}
use Rattle.serve_end.specs.Runs.{source_facts}
use Rattle.gps_serve.specs.AtEnd.{ShowsOutOfMemory, back_with}
use Rattle.gps_serve.specs.Facts.{sink_facts, world_facts}
use Rattle.gps_serve.specs.Lost.{IsNotLostOutOfMemory, lost_out_of_memory}
use Rattle.gps_serve.specs.Statuses.{TellsNoFault}
use Rattle.serve_floor.specs.Bursts.{HasStopped}
use Rattle.serve_floor.specs.Bursts.{AreAtRest}
use Rattle.gps_serve.proofs.Gates.{each_end, gate_served, link_uncounted, none_lost_in}
use Rattle.report_book.specs.BookView.{BookView}
use Rattle.gps_serve.proofs.Ends.{all_ended_by, at_end_of, devices_by, monitors_by, not_lacked, units_few}
use Rattle.gps_serve.proofs.First.{all_of_each, none_lost, some_lost}
use Rattle.gps_serve.proofs.HadMemory.{devices_had, devices_tell_short, sessions_had, sessions_tell_short}
use Rattle.gps_serve.proofs.Lost.{lost_by_memory, some_lacks}
use Rattle.gps_serve.proofs.Monitors.{some_misses}
use Rattle.gps_serve.proofs.Sessions.{sessions_ready}
use Rattle.gps_serve.proofs.Stamps.{stamps_left}
use Rattle.gps_serve.proofs.Whole.{whole_by}
use Rattle.gps_serve.proofs.gathering.gather.Goals as goal

pub devices_done-devices-requires-clause-ready : goal.devices_done-devices-requires-clause-ready
devices_done-devices-requires-clause-ready g c = devices_by _ _ g.J.HubNaming.terms c.part-book.result.book _ _ c.part-book.ensures.terms c.requires.ran

pub devices_done-devices-requires-clause-ends : goal.devices_done-devices-requires-clause-ends
devices_done-devices-requires-clause-ends g c = c.part-book.ensures.count

pub sessions_done-sessions-requires-clause-ready : goal.sessions_done-sessions-requires-clause-ready
sessions_done-sessions-requires-clause-ready g c = sessions_ready _ _ c.args.numbers.queue _ _ c.args.ended.door.seat _ _ _ c.requires.tended c.part-book.ensures.sessions

pub sessions_done-sessions-requires-clause-none : goal.sessions_done-sessions-requires-clause-none
sessions_done-sessions-requires-clause-none g c = c.args.ended.door.none

pub sessions_done-sessions-requires-clause-empty : goal.sessions_done-sessions-requires-clause-empty
sessions_done-sessions-requires-clause-empty g c = omega (arith, ap length c.args.ended.door.none, c.args.ended.door.room.ok.0)

pub sessions_done-sessions-requires-clause-enough : goal.sessions_done-sessions-requires-clause-enough
sessions_done-sessions-requires-clause-enough g c = c.args.ended.door.enough

pub monitors_done-monitors-requires-clause-ready : goal.monitors_done-monitors-requires-clause-ready
monitors_done-monitors-requires-clause-ready g c =
    monitors_by _ _ g.J.HubNaming.terms c.part-book.result.book _ c.part-book.result.inlets.items _ c.part-book.ensures.terms c.requires.watched
    (λ e. c.threads_out_of_memory-by_threads.ensures.whole (c.was_out_of_memory-no_memory.ensures.threads e))
    c.sessions_done-sessions.ensures.book

pub monitors_done-monitors-requires-clause-few : goal.monitors_done-monitors-requires-clause-few
monitors_done-monitors-requires-clause-few g c =
    subst (λ (x : BookView). length x.units ≤ 16) (sym c.sessions_done-sessions.ensures.book) (units_few _ c.part-book.ensures.holds)

pub returns-clause-at_end : goal.returns-clause-at_end
returns-clause-at_end g c =
    let facts = world_facts g.W.In.Source g.W.Out.ClientSink g.W.Gate.Door in
    let door = c.args.ended.door in
    let links = g.W.Gate.Door.links c.args.first.value in
    let lacks : Bool = c.was_out_of_memory-no_memory.result || (not c.devices_done-devices.result.failed && not c.all_ended-ended.result) in
    let whole = not_lacked c.was_out_of_memory-no_memory.result (not c.devices_done-devices.result.failed && not c.all_ended-ended.result) lacks refl in
    let devices = c.devices_done-devices.result.devices.items in
    let ends_are = c.devices_done-devices.ensures.ends in
    let stopped = subst (All HasStopped) (sym c.part-book.ensures.same.1) c.requires.stopped in
    let back = back_with devices c.sessions_done-sessions.result.items c.monitors_done-monitors.result.items (Some door.gate) door.full lacks in
    let short : lacks ≡ true → ShowsOutOfMemory links (facts.gates.links door.gate) back c.part-book.result.book =
    λ e. elim (some_lacks c.was_out_of_memory-no_memory.result c.devices_done-devices.result.failed c.all_ended-ended.result lacks refl e) [
      | inl seen ↦ elim (c.was_out_of_memory-no_memory.ensures.cause seen) [
        | inl threads ↦ elim (c.threads_out_of_memory-by_threads.ensures.cause threads) [
          | inl link ↦
              inr (inr (inr (inr (inr (link_uncounted facts c.args.numbers.queue links door.gate door.full door.no_memory door.seat _ _
              c.requires.tended c.sessions_done-sessions.ensures.links link)))))
          | inr (inl readers) ↦
              inr (inl (devices_tell_short g.D.Dials.may facts.sources _ _ _
              (devices_by _ _ g.J.HubNaming.terms c.part-book.result.book _ _ c.part-book.ensures.terms c.requires.ran) c.devices_done-devices.ensures.left readers))
          | inr (inr (inl inputs)) ↦
              inr (inr (inr (inl (sessions_tell_short facts.sources facts.sinks _ _ _ _
              (sessions_ready _ _ c.args.numbers.queue _ _ door.seat _ _ _ c.requires.tended c.part-book.ensures.sessions)
              c.sessions_done-sessions.ensures.links inputs))))
          | inr (inr (inr monitors)) ↦
              inr (inr (inr (inr (inl (some_misses c.args.numbers.tries c.requires.watched.monitor_starts _ _ c.requires.watched.by
              c.monitors_done-monitors.ensures.left monitors)))))
        ]
        | inr (inl lost) ↦ inl (lost_by_memory devices _ ends_are (subst (λ ends. list_any lost_out_of_memory ends ≡ true) c.as_slice.ensures.value lost))
        | inr (inr cut) ↦ inr (inr (inl cut))
      ]
      | inr none ↦
          inl (some_lost g.D.Dials.may facts.sources devices (c.devices_done-devices.ensures.untold none.0)
          (whole_by g.D.Dials.may facts.sources _ _ c.part-book.result.inlets.items devices c.part-book.result.ends.items c.part-book.ensures.agrees.1.devices
          c.devices_done-devices.ensures.served ends_are)
          (each_end HasStopped devices _ ends_are stopped)
          (ap (list_all is_end) (ends_are ∙ sym c.as_slice-2.ensures.value) ∙ sym c.all_ended-ended.ensures ∙ none.1))
    ] in
    at_end_of g.J.HubNaming.terms c.args.numbers.queue c.args.numbers.tries g.D.Dials.may g.D.Dials.first links facts back
    c.was_out_of_memory-no_memory.result door.seat c.requires.tended.links door.gate c.part-book.result.book _ _
    c.part-book.result.inlets.items c.part-book.result.sessions.items c.part-book.result.ends.items
    c.part-book.ensures.terms c.part-book.ensures.holds c.part-book.ensures.agrees c.part-book.ensures.sessions c.requires.tended.seated.lanes c.show.ensures.units
    (subst (λ (x : BookView). AreAtRest (length g.J.HubNaming.terms.segments) x.units) (sym c.part-book.ensures.same.0) c.requires.rest)
    c.requires.from
    (subst (λ (x : BookView). All IsClosed x.sessions) (sym c.part-book.ensures.same.0) c.requires.closed)
    stopped
    c.devices_done-devices.ensures.served ends_are c.sessions_done-sessions.ensures.book
    c.sessions_done-sessions.ensures.served c.monitors_done-monitors.ensures.book c.monitors_done-monitors.ensures.served c.monitors_done-monitors.ensures.numbers whole refl
    (gate_served facts c.args.numbers.queue links door.gate door.full door.no_memory lacks door.seat _ _
    c.requires.tended c.sessions_done-sessions.ensures.links (λ e. c.threads_out_of_memory-by_threads.ensures.door (c.was_out_of_memory-no_memory.ensures.threads (whole e))))
    short
    (stamps_left g.D.Dials.first _ devices c.devices_done-devices.ensures.left c.requires.stamped)

pub returns-clause-cause : goal.returns-clause-cause
returns-clause-cause g c =
    let may = g.D.Dials.may in
    let sources = source_facts g.W.In.Source in
    let sinks = sink_facts g.W.Out.ClientSink in
    let devices = c.devices_done-devices.result.devices.items in
    let untold = c.devices_done-devices.ensures.untold in
    let lacks : Bool = c.was_out_of_memory-no_memory.result || (not c.devices_done-devices.result.failed && not c.all_ended-ended.result) in
    let none = not_lacked c.was_out_of_memory-no_memory.result (not c.devices_done-devices.result.failed && not c.all_ended-ended.result) lacks refl in
    record {
      read = c.devices_done-devices.ensures.failed;
      met = c.devices_done-devices.ensures.missed;
      lost = λ e. none_lost may sources devices (untold e)
          (whole_by may sources _ _ c.part-book.result.inlets.items devices c.part-book.result.ends.items c.part-book.ensures.agrees.1.devices
          c.devices_done-devices.ensures.served c.devices_done-devices.ensures.ends);
      told = λ e. all_of_each TellsNoFault devices (untold e);
      door = c.requires.cause;
      sound = c.requires.sound;
      ended = λ e. all_ended_by _ _ c.devices_done-devices.ensures.ends (ap (list_all is_end) (sym c.as_slice-2.ensures.value) ∙ sym c.all_ended-ended.ensures ∙ e);
      kept = λ e. none_lost_in c.part-book.result.book _ _ _ _ c.sessions_done-sessions.ensures.book c.monitors_done-monitors.ensures.book c.devices_done-devices.ensures.ends
          (subst (All IsNotLostOutOfMemory) c.as_slice.ensures.value (c.was_out_of_memory-no_memory.ensures.devices (none e)))
          (c.was_out_of_memory-no_memory.ensures.sessions (none e));
      readers = λ e. record {
        devices_had = devices_had may sources _ _ _
            (devices_by _ _ g.J.HubNaming.terms c.part-book.result.book _ _ c.part-book.ensures.terms c.requires.ran) c.devices_done-devices.ensures.left
            (c.threads_out_of_memory-by_threads.ensures.runs (c.was_out_of_memory-no_memory.ensures.threads (none e)));
        sessions_had = sessions_had sources sinks _ _ _ _
            (sessions_ready _ _ c.args.numbers.queue _ _ c.args.ended.door.seat _ _ _ c.requires.tended c.part-book.ensures.sessions)
            c.sessions_done-sessions.ensures.links
            (c.threads_out_of_memory-by_threads.ensures.links (c.was_out_of_memory-no_memory.ensures.threads (none e)));
      };
    }
