use Rattle.std.proofs.Common.{rules, ◌≡◌, [], ◌++◌, length, ap, ◌∙◌}
use Rattle.report_book.proofs.Reading.{read_stamps, stamps_long}
use Rattle.report_book.proofs.knowing.stamps_known.Goals as goal

pub returns-clause-known : goal.returns-clause-known
returns-clause-known c = λ before stands.
    let fixes : c.of.result.fixes ≡ [] = search rules in
    let skies : c.of.result.skies ≡ [] = search rules in
    read_stamps (length c.args.names.now) (before ++ c.args.log.now.log) c.of.result (c.of.ensures.firsts ∙ c.in_ok-firsts.ensures before stands) (c.of.ensures.last ∙ c.last_stamp-last.ensures.stands before stands)
    fixes skies

pub returns-clause-count : goal.returns-clause-count
returns-clause-count c =
    let before = c.requires.holds.some.0 in
    ap length c.of.ensures.firsts ∙ stamps_long (length c.args.names.now) (before ++ c.args.log.now.log) c.in_ok-firsts.firsts.items (c.in_ok-firsts.ensures before c.requires.holds.some.1)
