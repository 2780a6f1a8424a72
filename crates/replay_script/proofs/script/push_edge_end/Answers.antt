use Rattle.std.proofs.Common.{◌≡◌, List, ℕ, ◌++◌, codes, sym, ap, ◌∙◌, append_assoc}
use Rattle.std.proofs.lemmas.Result.{on_ok_weaker}
use Rattle.replay_script.specs.Workload.{edge_end, edge_number}
use Rattle.replay_script.proofs.script.push_edge_end.Goals as goal

behind : (out first second third : List ℕ) → ((out ++ first) ++ second) ++ third ≡ out ++ (first ++ second ++ third)
behind out first second third =
    append_assoc (out ++ first) second third ∙ append_assoc out first (second ++ third) ∙ ap (λ t. out ++ t) (sym (append_assoc first second third))

pub returns : goal.returns
unfolding edge_end
returns c =
    on_ok_weaker c.extend_from_slice-2.result
    (λ last.
    last
    ∙ ap (λ t. t ++ codes "\n") (c.in_ok-push_edge_number.ensures ∙ ap (λ t. t ++ edge_number c.args.t) c.in_ok-extend_from_slice.ensures.ok)
    ∙ behind c.args.out.now (codes ".000000000#") (edge_number c.args.t) (codes "\n"))
    c.extend_from_slice-2.ensures.ok
