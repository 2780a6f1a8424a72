use Rattle.std.proofs.Common.{◌∙◌, length, sym, ap, arith}
use Rattle.serve_door.specs.Doors.{link_at, links_at}
use Rattle.serve_workers.proofs.Zips.{ran_begin, ran_each, ran_next}
use Rattle.serve_door.proofs.seated.Sessions.join_all.Goals as goal

pub sessions-init : goal.sessions-init
sessions-init g c =
    let all = c.into_iter-session-iterator.ensures.into_iter_gives.0 in
    record {
      ran = ran_begin _ _ _ _ (ap links_at all) c.args.self.none;
      count = omega (arith, ap length c.args.self.none, c.args.self.runs.ok.0, ap length all, c.args.self.seated.ok.0);
      room = c.args.self.room;
    }

pub sessions-preserved : goal.sessions-preserved
sessions-preserved g c = record {
  ran = ran_next _ _ _ _ _ _ _ _ c.sessions.invariant.ran (ap links_at c.in-Some.ensures.steps.0) c.join.ensures c.push_reserved.ensures.items;
  count = omega (arith, c.push_reserved.ensures.len, c.sessions.invariant.count, ap length c.in-Some.ensures.steps.0);
  room = omega (arith, c.push_reserved.ensures.capacity, c.sessions.invariant.room);
}

pub returns-clause-runs : goal.returns-clause-runs
returns-clause-runs g c =
    ran_each _ link_at _ _ _ c.sessions.invariant.ran (sym c.sessions.session-iterator.rest.ok.0 ∙ c.in-None.ensures.steps.0)
