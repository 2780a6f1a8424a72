use Rattle.std.proofs.Common.{◌≡◌, ◌++◌, List, ℕ, refl, ap, ◌∙◌}
use Rattle.std.proofs.lemmas.Result.{on_ok_weaker}
use Rattle.replay_script.specs.TextLines.{prefixed_line, prefixed_lines, text_prefix}
use Rattle.replay_script.specs.Workload.{receiver_lines, text_line}
use Rattle.replay_script.proofs.script.push_receiver.Goals as goal

same_lines : (device t : ℕ) (r g l : List ℕ) → prefixed_lines (text_prefix device t) r g l ≡ receiver_lines device t r g l
unfolding prefixed_line prefixed_lines text_prefix receiver_lines text_line
same_lines device t r g l = refl

pub returns : goal.returns
returns c =
    let lines = c.args.bodies.now in
    let prefix = c.as_slice.ensures ∙ (c.in_ok-push_text_prefix.ensures ∙ ap (λ p. p ++ text_prefix c.args.device c.args.t) c.clear.ensures) in
    on_ok_weaker c.push_prefixed_lines.result
    (λ last.
    last
    ∙ ap (λ p. c.args.out.now ++ prefixed_lines p lines.rmc lines.gga lines.gll) prefix
    ∙ ap (λ text. c.args.out.now ++ text) (same_lines c.args.device c.args.t lines.rmc lines.gga lines.gll))
    c.push_prefixed_lines.ensures
