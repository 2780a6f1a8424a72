use Rattle.std.proofs.Common.{None, map, refl, string_bytes}
use Rattle.gps_help.specs.Causes.{IsCauseBefore}
use Rattle.gps_help.specs.declared.cause.Cause.TheVariants.{NoSuchCommand}
use Rattle.gps_help.proofs.Causes.{first_named, of_word}
use Rattle.gps_help.proofs.refusal.fault_without_command.Goals as goal

pub returns-else-asks_help-clause-cause : goal.returns-else-asks_help-clause-cause
unfolding IsCauseBefore
returns-else-asks_help-clause-cause c =
    of_word (map string_bytes c.args.words.now) None 0 c.in-Some.word.now (NoSuchCommand c.near.result) c.in-Some.ensures.word
    (first_named (map string_bytes c.args.words.now) c.in-Some.word.now c.in-Some.ensures.word c.requires, refl)
