use Rattle.command_laws.proofs.Cut.{given_back, lines_back}
use Rattle.command_laws.proofs.fixes.sentences_of_fixes_give_them_back.Goals as goal

pub returns : goal.returns
returns c = record { reports = given_back; lines = lines_back }
