use Rattle.std.proofs.Common.{◌≤◌, length, subst, sym, arith, rules, List}
use Rattle.replay_player.specs.UnitMonitorView.{UnitMonitorView}
use Rattle.replay_player.specs.Playing.{Opens}
use Rattle.replay_player.proofs.Opening.{stage_opens}
use Rattle.replay_player.proofs.replay_book.ReplayBook.new.Goals as goal

pub returns : goal.returns
returns c =
    let few : length c.args.names ≤ 8 = let f = c.len-devices.ensures.few in let n = c.len-devices.ensures.count in omega arith in
    let W : List UnitMonitorView → Type 0 = λ l. Opens c.args.names c.args.firsts (record { devices = c.len-devices.result; book = c.in_ok-book.book; watchers = l }) in
    record { opens = subst W (sym c.new-2.ensures.items) (stage_opens c.len-devices.result c.args.names c.args.limit c.args.firsts c.in_ok-book.book c.requires.firsts (search rules) few c.in_ok-book.ensures.new) }
