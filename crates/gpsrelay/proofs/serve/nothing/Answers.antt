use Rattle.std.proofs.Common.{◌≡◌, true, refl, sym, ◌∙◌, ap}
use Rattle.gpsrelay.proofs.Serving.{refused_has_cause, refused_status, refused_with}
use Rattle.gpsrelay.proofs.serve.nothing.Goals.{in-NoMemory, in-Refused}
use Rattle.gpsrelay.proofs.serve.nothing.Goals as goal

pub returns-clause-status : goal.returns-clause-status
returns-clause-status g c = refused_status c.args.fault c.match-fault.status (elim c.match-fault.branch [
  | in-Refused w ↦ w.status-is ∙ ap refused_with (sym w.in-Refused.is)
  | in-NoMemory w ↦ w.status-is ∙ ap (λ n. (n, true)) w.status.ensures ∙ ap refused_with (sym w.in-NoMemory.is)
])

pub returns-clause-cause : goal.returns-clause-cause
returns-clause-cause g c =
    let is : c.match-fault.status ≡ refused_with c.args.fault = elim c.match-fault.branch [
      | in-Refused w ↦ w.status-is ∙ ap refused_with (sym w.in-Refused.is)
      | in-NoMemory w ↦ w.status-is ∙ ap (λ n. (n, true)) w.status.ensures ∙ ap refused_with (sym w.in-NoMemory.is)
    ] in
    refused_has_cause g.W.In.Source.faults g.W.Gate.Door.faults c.args.fault c.match-fault.status _ refl c.new.ensures.items c.new-2.ensures.items refl refl refl is
