use Rattle.std.proofs.Common.{◌≡◌, Err, false, IfOk, map, string_bytes, subst}
use Rattle.clap.specs.Simple.{matches_of}
use Rattle.clap.specs.Words.{found_of, rows_of}
use Rattle.gps_words.specs.Options.{are_taken}
use Rattle.gps_words.specs.declared.command.WordsFault.TheVariants.{Refused}
use Rattle.gps_words.proofs.serve.matches.Goals as goal

pub returns-clause-rows : goal.returns-clause-rows
returns-clause-rows c =
    subst (λ app. IfOk c.matches_in.result (λ m. rows_of (found_of m) ≡ matches_of app (map string_bytes c.args.words.now)))
    c.in_ok-command.ensures c.matches_in.ensures.rows

pub returns-clause-refused : goal.returns-clause-refused
returns-clause-refused c =
    subst (λ app. c.matches_in.result ≡ Err Refused → are_taken app (map string_bytes c.args.words.now) ≡ false)
    c.in_ok-command.ensures c.matches_in.ensures.refused
