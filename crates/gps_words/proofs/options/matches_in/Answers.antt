use Rattle.std.proofs.Common.{map, string_bytes}
use Rattle.clap.specs.Faults.{fault_of}
use Rattle.clap.specs.Simple.{app_of}
use Rattle.gps_words.proofs.Readings.{kinds_found, rows_in}
use Rattle.gps_words.proofs.options.matches_in.Goals as goal

pub returns-in-Ok-clause-rows : goal.returns-in-Ok-clause-rows
returns-in-Ok-clause-rows c =
    rows_in (app_of c.args.command) (map string_bytes c.args.words.now) c.in-Ok.matches c.requires c.in-Ok.ensures.matches

pub returns-in-Err-clause-refused : goal.returns-in-Err-clause-refused
returns-in-Err-clause-refused c = λ is.
    kinds_found (fault_of (app_of c.args.command) (map string_bytes c.args.words.now)) c.in-Err.error (c.fault.ensures (cc)) (c.in-Err.ensures.kinds c.requires)
