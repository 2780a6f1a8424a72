use Rattle.std.proofs.Common.{None, map, string_bytes, sym}
use Rattle.gps_help.specs.Causes.{IsCauseBefore}
use Rattle.gps_help.specs.declared.cause.Cause.TheVariants.{NoSuchCommand, Stray}
use Rattle.gps_help.proofs.Causes.{of_word}
use Rattle.gps_help.proofs.refusal.help_fault.Goals as goal

pub returns-in-Some-clause-cause : goal.returns-in-Some-clause-cause
unfolding IsCauseBefore
returns-in-Some-clause-cause c = of_word (map string_bytes c.args.words.now) None 2 c.in-Some.field-0.now Stray c.in-Some.ensures.word c.requires

pub returns-in-None-of-clause-cause : goal.returns-in-None-of-clause-cause
unfolding IsCauseBefore
returns-in-None-of-clause-cause c =
    of_word (map string_bytes c.args.words.now) None 1 c.in-Some-word_at.word.now (NoSuchCommand c.near.result)
    c.in-Some-word_at.ensures.word (sym c.in-None-of.ensures, c.requires)
