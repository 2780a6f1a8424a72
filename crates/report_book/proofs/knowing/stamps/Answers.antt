use Rattle.std.proofs.Common.{◌≡◌, ℕ, List, ◌++◌, length, map, ◌∙◌, subst, arith}
use Rattle.std.specs.List.{range_with_len}
use Rattle.book_log.specs.History.{active}
use Rattle.report_book.proofs.Reading.{stamp_read}
use Rattle.report_book.proofs.knowing.stamps.Goals as goal

pub devices-preserved : goal.devices-preserved
devices-preserved c = λ before stands.
    c.in_ok-push.ensures.items
    ∙ stamp_read c.devices.device (before ++ c.args.log.now.log) c.devices.firsts.items c.active.result (c.devices.invariant before stands) (c.active.ensures before stands)

pub returns : goal.returns
returns c = λ before stands.
    let e : c.devices.device ≡ length c.args.names.now = omega arith in
    let N : ℕ → Type 0 = λ n. c.devices.firsts.items ≡ map (λ d. active d (before ++ c.args.log.now.log)) (range_with_len 0 n) in
    subst N e (c.devices.invariant before stands)
