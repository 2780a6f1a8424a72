use Rattle.std.proofs.Common.{◌∙◌, sym}
use Rattle.gps_help.proofs.Options.{after_first}
use Rattle.gps_help.proofs.command_name.+option_among.Goals as goal

pub returns-else-eq : goal.returns-else-eq
returns-else-eq t c =
    c.option_among.ensures
    ∙ after_first _ c.args.flag.now c.args.options.now c.flag.result.now c.in-len1-up.len_at_least c.flag.ensures (sym c.eq.ensures ∙ c.if-eq.false)
