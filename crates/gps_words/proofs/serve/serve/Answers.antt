use Rattle.std.proofs.Common.{◌∙◌, ap, map, option_map, refl, string_bytes, sym}
use Rattle.clap.specs.Words.{found_of, rows_of}
use Rattle.gps_words.specs.Serve.{serve_app, serve_in, shown}
use Rattle.gps_words.proofs.Readings.{read_is, read_refused}
use Rattle.gps_words.proofs.serve.serve.Goals as goal

pub returns-in-Ok-Some-clause-ok : goal.returns-in-Ok-Some-clause-ok
returns-in-Ok-Some-clause-ok c =
    read_is serve_app serve_app serve_in (map string_bytes c.args.words.now) (rows_of (found_of c.in_ok-matches.matches))
    refl c.in_ok-matches.ensures.taken c.in_ok-matches.ensures.rows
    ∙ sym c.in-Ok-Some.ensures ∙ ap (λ o. option_map shown o) c.in-Ok-Some.field-0-is

pub returns-in-Ok-None-clause-refused : goal.returns-in-Ok-None-clause-refused
returns-in-Ok-None-clause-refused c = λ _.
    read_is serve_app serve_app serve_in (map string_bytes c.args.words.now) (rows_of (found_of c.in_ok-matches.matches))
    refl c.in_ok-matches.ensures.taken c.in_ok-matches.ensures.rows
    ∙ sym c.in-Ok-None.ensures ∙ ap (λ o. option_map shown o) c.in-Ok-None.field-0-is

pub returns-in_err-matches-clause-refused : goal.returns-in_err-matches-clause-refused
returns-in_err-matches-clause-refused c = λ refused.
    let same = rw refused at c.from_residual.ensures.1 in
    read_refused serve_app serve_app serve_in (map string_bytes c.args.words.now) refl (c.matches.ensures.refused (cc (same, c.in_err-matches.is)))
