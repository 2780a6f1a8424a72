use Rattle.std.proofs.Common.{◌≡◌, List, ℕ, ◌++◌, ap, ◌∙◌, append_assoc}
use Rattle.std.proofs.lemmas.Result.{on_ok_weaker}
use Rattle.replay_script.specs.TextLines.{text_prefix}
use Rattle.replay_script.proofs.script.push_text_prefix.Goals as goal

-- a text that grew goes on from where it began
more : (out text next held longer : List ℕ) → held ≡ out ++ text → longer ≡ held ++ next → longer ≡ out ++ (text ++ next)
more out text next held longer so_far added = added ∙ ap (λ l. l ++ next) so_far ∙ append_assoc out text next

pub returns : goal.returns
unfolding text_prefix
returns c =
    let out = c.args.out.now in
    let device = more out _ _ _ _ c.in_ok-extend_from_slice.ensures.ok c.in_ok-push_decimal.ensures in
    let space = more out _ _ _ _ device c.in_ok-extend_from_slice-2.ensures.ok in
    let second = more out _ _ _ _ space c.in_ok-push_whole_second.ensures in
    on_ok_weaker c.extend_from_slice-3.result (λ last. more out _ _ _ _ second last) c.extend_from_slice-3.ensures.ok
