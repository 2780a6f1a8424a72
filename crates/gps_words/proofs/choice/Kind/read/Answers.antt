use Rattle.std.proofs.Common.{◌∙◌, Err, ap, sym}
use Rattle.clap.specs.Simple.{app_of}
use Rattle.gps_words.specs.Forms.{app_for, line_in}
use Rattle.gps_words.proofs.Readings.{form_is_simple, none_of, read_is, read_refused, some_of}
use Rattle.gps_words.proofs.choice.Kind.read.Goals as goal

pub matches_in-requires : goal.matches_in-requires
matches_in-requires c = form_is_simple c.args.self (app_of c.in_ok-command.command) (c.in_ok-command.ensures ∙ c.form.ensures)

pub returns-clause-ok : goal.returns-clause-ok
returns-clause-ok c =
    read_is (app_for c.args.self) (app_of c.in_ok-command.command) (line_in c.args.self) _ _ (c.in_ok-command.ensures ∙ c.form.ensures)
    c.in_ok-matches.ensures.taken c.in_ok-matches.ensures.rows
    ∙ sym c.line_in.ensures ∙ some_of c.line_in.result _ c.in_ok-line.line c.in_ok-line.ensures.value

pub returns-in_err-matches-clause-refused : goal.returns-in_err-matches-clause-refused
returns-in_err-matches-clause-refused c = λ refused.
    let same = rw refused at c.from_residual-in_err-matches.ensures.1 in
    read_refused (app_for c.args.self) (app_of c.in_ok-command.command) (line_in c.args.self) _ (c.in_ok-command.ensures ∙ c.form.ensures)
    (c.in_err-matches.ensures.refused (ap (λ e. Err e) (sym same)))

pub returns-in_err-line-clause-refused : goal.returns-in_err-line-clause-refused
returns-in_err-line-clause-refused c = λ refused.
    read_is (app_for c.args.self) (app_of c.in_ok-command.command) (line_in c.args.self) _ _ (c.in_ok-command.ensures ∙ c.form.ensures)
    c.in_ok-matches.ensures.taken c.in_ok-matches.ensures.rows
    ∙ sym c.line_in.ensures ∙ none_of c.line_in.result _ _ c.in_err-line.ensures.value
