-- At most 1,024 bytes are kept.
use Rattle.std.proofs.Common.{◌≤◌, ℕ, zero, suc, List, [], ◌∷◌, length, arith}
use Rattle.std.proofs.lemmas.Bool.{cond_both}
use Rattle.gps_command.specs.declared.request.Quote.TheVariants.{Outside}
use Rattle.gps_command.specs.Kept.{CommandCutterView, StandsFor, kept_from, kept_skipping}
use Rattle.gps_command.specs.Requests.{long_length, open_length}
use Rattle.gps_command.proofs.Begins.{begins_by}

abbrev Few : CommandCutterView → Type 0
Few kept = length kept.held ≤ 1024

few_kept : (k : ℕ) (b : List ℕ) → Few (kept_from k b)
unfolding kept_from
few_kept k [] = omega arith
few_kept (suc k) (c ∷ b) = few_kept k b
few_kept zero (c ∷ b) = begins_by c b _ _ _ _ Few (λ g. few_kept 0 b)
    (λ g l. cond_both _ _ kept_skipping Few (λ f. few_kept (long_length b) b) (λ f. omega arith))
    (λ g l e. few_kept (open_length Outside (c ∷ b)) b) (λ g l e. omega arith)

pub most_kept : (kept : CommandCutterView) (bytes : List ℕ) → StandsFor kept bytes → length kept.held ≤ 1024
most_kept kept bytes stands = rw stands (few_kept 0 bytes)
