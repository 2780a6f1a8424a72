use Rattle.std.proofs.Common.{rules, ◌≡◌, ◌<◌, length, arith}
use Rattle.serve_door.proofs.Released.{ends_at, unused_at}
use Rattle.serve_door.proofs.seated.release_at.Goals as goal

pub release-requires-clause-ends : goal.release-requires-clause-ends
release-requires-clause-ends g c =
    let there : c.args.session < length c.args.seated.now.items = omega (arith, c.if-session-len.false, c.len.ensures, c.args.seated.now.ok.0) in
    let is : c.in-Ok.number ≡ c.args.session = search rules in
    ends_at c.args.seated.now.items c.args.seat.now c.args.session c.in-Ok.number c.index_mut.result.now c.requires.lanes there c.index_mut.ensures.value is

pub release-requires-clause-unused : goal.release-requires-clause-unused
release-requires-clause-unused g c =
    let there : c.args.session < length c.args.seated.now.items = omega (arith, c.if-session-len.false, c.len.ensures, c.args.seated.now.ok.0) in
    unused_at c.args.seated.now.items c.args.seat.now c.args.session c.index_mut.result.now c.requires.lanes there c.index_mut.ensures.value
