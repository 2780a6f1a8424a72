use Rattle.command_laws.proofs.Numbers.{numbers}
use Rattle.command_laws.proofs.Piped.{lines_after_decode}
use Rattle.command_laws.proofs.laws.lines_reads_what_decode_wrote.Goals as goal

pub returns : goal.returns
returns c = record { texts = numbers; runs = lines_after_decode }
