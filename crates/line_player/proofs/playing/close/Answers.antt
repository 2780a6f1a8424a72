use Rattle.std.proofs.Common.{◌≡◌, Ok}
use Rattle.line_player.specs.declared.lines.Round.TheVariants.{Run}
use Rattle.line_player.proofs.Ending.{end_written}
use Rattle.line_player.proofs.playing.close.Goals as goal

pub returns-in-Ok-Run-clause-wrote : goal.returns-in-Ok-Run-clause-wrote
returns-in-Ok-Run-clause-wrote g c =
    let is : c.finish.result ≡ Ok Run = let ok = c.in-Ok-Run.is in let run = c.in-Ok-Run.field-0-is in cc in
    λ bytes at. end_written c.write_end.result _ _ _ _ _ _ _ (rw is at (c.finish.ensures.due bytes at)) c.write_end.ensures.wrote
