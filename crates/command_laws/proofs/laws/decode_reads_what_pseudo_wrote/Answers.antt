use Rattle.command_laws.proofs.Again.{again}
use Rattle.command_laws.proofs.Piped.{decode_after_pseudo}
use Rattle.command_laws.proofs.laws.decode_reads_what_pseudo_wrote.Goals as goal

pub returns : goal.returns
returns c = record { texts = again; runs = decode_after_pseudo }
