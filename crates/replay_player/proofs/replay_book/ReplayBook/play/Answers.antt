use Rattle.std.proofs.Common.{ℕ, List, Ok, subst, unwrap_or}
use Rattle.book_log.specs.Entries.{edged, ended, fed, lost}
use Rattle.replay_script.specs.declared.event.ScriptEvent.TheVariants as Event
use Rattle.replay_player.specs.declared.event_step.EventStep.TheVariants.{Made, Refused}
use Rattle.replay_player.specs.Effects.{brings, hangs, hears, opens, stores, watches}
use Rattle.replay_player.specs.Playing.{Acts}
use Rattle.replay_player.proofs.Dispatch.{arm, device_refused, nothing_acts, number_refused, still_out}
use Rattle.replay_player.proofs.replay_book.ReplayBook.play.Goals as goal

pub returns-in-Nothing : goal.returns-in-Nothing
returns-in-Nothing c = record {
  acts = λ state plays. arm c.args.queue c.args.event Event.Nothing (Ok Made) state c.args.self.now c.args.out.now c.args.out.now c.in-Nothing.is (nothing_acts c.args.self.now c.args.out.now state plays);
}

pub returns-in-Device : goal.returns-in-Device
returns-in-Device c = record {
  acts = λ state plays.
      arm c.args.queue c.args.event (Event.Device c.in-Device.field-0) (Ok Refused) state c.args.self.now c.args.out.now c.args.out.now c.in-Device.is
      (device_refused c.args.self.now c.in-Device.field-0 c.args.out.now state plays);
}

pub returns-in-Segment : goal.returns-in-Segment
returns-in-Segment c = record {
  acts = λ state plays.
      arm c.args.queue c.args.event (Event.Segment c.in-Segment.unit c.in-Segment.first) (Ok Refused) state c.args.self.now c.args.out.now c.args.out.now c.in-Segment.is
      (number_refused c.args.self.now c.in-Segment.unit c.in-Segment.first c.args.out.now state plays);
}

pub returns-in-Feed : goal.returns-in-Feed
returns-in-Feed c = record {
  acts = λ state plays.
      let P : List ℕ → Type 0 = λ b. Acts c.feed.result (brings c.in-Feed.device (fed c.in-Feed.device c.in-Feed.at b) state) c.feed.new.self c.args.out.now c.args.out.now in
      arm c.args.queue c.args.event (Event.Feed c.in-Feed.device c.in-Feed.at c.in-Feed.bytes) c.feed.result state c.feed.new.self c.args.out.now c.args.out.now c.in-Feed.is
      (subst P c.as_slice.ensures (still_out c.feed.result (brings c.in-Feed.device (fed c.in-Feed.device c.in-Feed.at c.as_slice.result.now) state) c.feed.new.self c.args.out.now (c.feed.ensures.acts state plays)));
}

pub returns-in-Input : goal.returns-in-Input
returns-in-Input c = record {
  acts = λ state plays.
      let P : List ℕ → Type 0 = λ b. Acts c.input.result (hears c.in-Input.session b state) c.input.new.self c.args.out.now c.args.out.now in
      arm c.args.queue c.args.event (Event.Input c.in-Input.session c.in-Input.bytes) c.input.result state c.input.new.self c.args.out.now c.args.out.now c.in-Input.is
      (subst P c.as_slice-in-Input.ensures (still_out c.input.result (hears c.in-Input.session c.as_slice-in-Input.result.now state) c.input.new.self c.args.out.now (c.input.ensures.acts state plays)));
}

pub returns-in-Edge : goal.returns-in-Edge
returns-in-Edge c = record {
  acts = λ state plays.
      arm c.args.queue c.args.event (Event.Edge c.in-Edge.device c.in-Edge.edge) c.edge.result state c.edge.new.self c.args.out.now c.args.out.now c.in-Edge.is
      (still_out c.edge.result (brings c.in-Edge.device (edged c.in-Edge.device c.in-Edge.edge) state) c.edge.new.self c.args.out.now (c.edge.ensures.acts state plays));
}

pub returns-in-End : goal.returns-in-End
returns-in-End c = record {
  acts = λ state plays.
      arm c.args.queue c.args.event (Event.End c.in-End.device) c.end_device.result state c.end_device.new.self c.args.out.now c.args.out.now c.in-End.is
      (still_out c.end_device.result (brings c.in-End.device (ended c.in-End.device) state) c.end_device.new.self c.args.out.now (c.end_device.ensures.acts state plays));
}

pub returns-in-Lose : goal.returns-in-Lose
returns-in-Lose c = record {
  acts = λ state plays.
      arm c.args.queue c.args.event (Event.Lose c.in-Lose.device) c.lose_device.result state c.lose_device.new.self c.args.out.now c.args.out.now c.in-Lose.is
      (still_out c.lose_device.result (brings c.in-Lose.device (lost c.in-Lose.device) state) c.lose_device.new.self c.args.out.now (c.lose_device.ensures.acts state plays));
}

pub returns-in-Open : goal.returns-in-Open
returns-in-Open c = record {
  acts = λ state plays.
      arm c.args.queue c.args.event (Event.Open c.in-Open.session c.in-Open.cap) c.open_with.result state c.open_with.new.self c.args.out.now c.args.out.now c.in-Open.is
      (still_out c.open_with.result (opens c.in-Open.session (unwrap_or c.in-Open.cap c.args.queue) state) c.open_with.new.self c.args.out.now (c.open_with.ensures.acts state plays));
}

pub returns-in-Hang : goal.returns-in-Hang
returns-in-Hang c = record {
  acts = λ state plays.
      arm c.args.queue c.args.event (Event.Hang c.in-Hang.session) c.hang.result state c.hang.new.self c.args.out.now c.args.out.now c.in-Hang.is
      (still_out c.hang.result (hangs c.in-Hang.session state) c.hang.new.self c.args.out.now (c.hang.ensures.acts state plays));
}

pub returns-in-Monitor : goal.returns-in-Monitor
returns-in-Monitor c = record {
  acts = λ state plays.
      arm c.args.queue c.args.event (Event.Monitor c.in-Monitor.monitor c.in-Monitor.unit) c.watch.result state c.watch.new.self c.args.out.now c.args.out.now c.in-Monitor.is
      (still_out c.watch.result (watches c.in-Monitor.monitor c.in-Monitor.unit state) c.watch.new.self c.args.out.now (c.watch.ensures.acts state plays));
}

pub returns-in-Store : goal.returns-in-Store
returns-in-Store c = record {
  acts = λ state plays.
      arm c.args.queue c.args.event (Event.Store c.in-Store.unit c.in-Store.steps) c.store.result state c.store.new.self c.args.out.now c.args.out.now c.in-Store.is
      (still_out c.store.result (stores c.in-Store.unit c.in-Store.steps state) c.store.new.self c.args.out.now (c.store.ensures.acts state plays));
}
