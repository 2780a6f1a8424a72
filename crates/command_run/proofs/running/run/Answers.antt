use Rattle.std.proofs.Common.{◌≡◌, ◌∙◌, ℕ, ◌⊎◌, ap, subst, sym}
use Rattle.gps_outside.specs.Calls.{sink_call, sink_state, source_call, source_state}
use Rattle.gps_outside.specs.Outcomes.{StatusHasCause}
use Rattle.command_run.proofs.Commands.{caused, complete, done_by, refused_by, two_or_seven}
use Rattle.command_run.proofs.running.run.Goals as goal

pub returns-clause-refused : goal.returns-clause-refused
returns-clause-refused g c = λ two. c.run_words.ensures.refused (refused_by c.run_words.result (sym c.status.ensures ∙ two))

pub returns-clause-only : goal.returns-clause-only
returns-clause-only g c = λ none.
    subst (λ (s : ℕ). (s ≡ 2) ⊎ (s ≡ 7)) (sym c.status.ensures) (two_or_seven c.run_words.result (c.run_words.ensures.only none))

pub returns-clause-does : goal.returns-clause-does
returns-clause-does g c = λ command asked.
    let done = done_by _ _ _ command c.run_words.result (c.run_words.ensures.does command asked) in
    (done.0, c.status.ensures ∙ done.1, done.2)

pub returns-clause-cause : goal.returns-clause-cause
returns-clause-cause g c =
    subst
    (λ (s : ℕ). StatusHasCause s (source_call g.S.Source c.args.source.now c.run_words.new.source) (sink_call g.K.Sink c.args.sink.now c.run_words.new.sink))
    (sym c.status.ensures)
    (caused _ _ _ _ c.run_words.result c.run_words.ensures.only
    (λ none. let same = c.run_words.ensures.untouched none in (ap (λ s. source_state g.S.Source s) same.0, ap (λ k. sink_state g.K.Sink k) same.1))
    c.run_words.ensures.does)

pub returns-clause-complete : goal.returns-clause-complete
returns-clause-complete g c = λ command asked within sound.
    subst (λ (s : ℕ). (s ≡ 0) ⊎ (s ≡ 7)) (sym c.status.ensures)
    (complete _ _ _ command c.run_words.result (c.run_words.ensures.does command asked) within sound)
