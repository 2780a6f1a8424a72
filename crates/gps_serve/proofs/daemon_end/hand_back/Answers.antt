use Rattle.std.proofs.Common.{◌≡◌, ◌∙◌, Bool, Some, IfErr, IfOk, IfSome, ap, refl, subst, sym}
use Rattle.gps_serve.specs.AtEnd.{back_with}
use Rattle.gps_serve.specs.HandingBack.{EndHasCause, StoppedFor, back_by, book_by, status_by}
use Rattle.gps_serve.proofs.Causes.{none_counted}
use Rattle.gps_serve.proofs.Outcome.{end_has_cause, none_left, outcome_range, stop_range, stopped_has_cause}
use Rattle.gps_world.specs.declared.opening.Stop.TheVariants.{Input, Listen}
use Rattle.gps_serve.proofs.daemon_end.hand_back.Goals as goal

pub returns-in-Ok-clause-book : goal.returns-in-Ok-clause-book
returns-in-Ok-clause-book g c = ap book_by (sym c.in-Ok.is)

pub returns-in-Ok-clause-back : goal.returns-in-Ok-clause-back
returns-in-Ok-clause-back g c =
    let end = c.in-Ok.end in
    ap (λ (m : Bool). back_with end.devices.items end.sessions.items end.monitors.items (Some end.gate) end.full m) c.is_out_of_memory.ensures
    ∙ ap back_by (sym c.in-Ok.is)

pub returns-in-Ok-clause-status : goal.returns-in-Ok-clause-status
returns-in-Ok-clause-status g c = c.status.ensures ∙ ap status_by (sym c.in-Ok.is)

pub returns-in-Ok-clause-range : goal.returns-in-Ok-clause-range
returns-in-Ok-clause-range g c = outcome_range c.in-Ok.end.outcome c.status.result c.status.ensures

pub returns-in-Ok-clause-cause : goal.returns-in-Ok-clause-cause
returns-in-Ok-clause-cause g c =
    let cause = subst (λ e. IfOk e (EndHasCause g.W.In.Source.faults g.W.Gate.Door.faults)) c.in-Ok.is c.requires.cause in
    end_has_cause g.W.In.Source.faults g.W.Gate.Door.faults _ _ c.in-Ok.end _ cause c.status.ensures c.is_out_of_memory.ensures refl refl refl refl

pub returns-in-Err-clause-book : goal.returns-in-Err-clause-book
returns-in-Err-clause-book g c = ap book_by (sym c.in-Err.is)

pub returns-in-Err-clause-back : goal.returns-in-Err-clause-back
returns-in-Err-clause-back g c =
    none_left _ _ _ c.in-Err.unserved.gate _ _ c.new.ensures.items c.new-in-Err.ensures.items c.new-in-Err-2.ensures.items c.stopped_out_of_memory.ensures
    ∙ ap back_by (sym c.in-Err.is)

pub returns-in-Err-clause-status : goal.returns-in-Err-clause-status
returns-in-Err-clause-status g c = c.stopped_status.ensures ∙ ap status_by (sym c.in-Err.is)

pub returns-in-Err-clause-range : goal.returns-in-Err-clause-range
returns-in-Err-clause-range g c = stop_range c.in-Err.unserved.stop c.stopped_status.result c.stopped_status.ensures

pub returns-in-Err-clause-cause : goal.returns-in-Err-clause-cause
returns-in-Err-clause-cause g c =
    let sound = subst (λ e. IfErr e (λ unserved. IfSome unserved.gate (λ gate. g.W.Gate.Door.faults gate ≡ 0))) c.in-Err.is c.requires.sound in
    stopped_has_cause g.W.In.Source.faults g.W.Gate.Door.faults _ _ c.in-Err.unserved.stop _ refl c.new.ensures.items c.new-in-Err.ensures.items
    (none_counted g.W.Gate.Door.faults _ c.in-Err.unserved.gate refl sound)
    c.stopped_status.ensures c.stopped_out_of_memory.ensures
    (λ e. subst (StoppedFor Input) (sym c.in-Err.is) e) (λ e. subst (StoppedFor Listen) (sym c.in-Err.is) e)
