-- A piece, line by line.
use Rattle.std.proofs.Common.{◌≡◌, ℕ, List, [], ◌++◌, take, drop, Some, None, Ok, Err, refl, sym, ap, ◌∙◌, subst, append_assoc, append-nil, take-append-drop}
use Rattle.class_counts.specs.declared.counting.Count.{Count}
use Rattle.class_counts.specs.declared.counting.Stop.{Stop}
use Rattle.class_counts.specs.Standing.{CountStands, Stops, CountSteps}

-- the beginning of the piece was counted
pub record Feeding (before now : Count) (piece rest : List ℕ) : Type 0 where
  pub done : List ℕ
  pub split : piece ≡ done ++ rest
  pub stands : (bytes : List ℕ) → CountStands before bytes → CountStands now (bytes ++ done)

pub begun : (count : Count) (piece : List ℕ) → Feeding count count piece piece
begun count piece = record {
  done = [];
  split = refl;
  stands = λ bytes so_far. subst (λ b. CountStands count b) (sym (append-nil bytes)) so_far;
}

pub goes_on : (before now next : Count) (piece rest : List ℕ) (n : ℕ) → Feeding before now piece rest
    → ((bytes : List ℕ) → CountStands now bytes → CountSteps (Ok (Some n)) next bytes rest)
    → Feeding before next piece (drop n rest)
goes_on before now next piece rest n so_far round = record {
  done = so_far.done ++ take n rest;
  split = so_far.split ∙ ap (λ r. so_far.done ++ r) (sym (take-append-drop n rest)) ∙ sym (append_assoc so_far.done (take n rest) (drop n rest));
  stands = λ bytes at_first. subst (λ b. CountStands next b) (append_assoc bytes so_far.done (take n rest)) (round (bytes ++ so_far.done) (so_far.stands bytes at_first));
}

whole : (bytes done rest piece : List ℕ) → piece ≡ done ++ rest → (bytes ++ done) ++ rest ≡ bytes ++ piece
whole bytes done rest piece split = append_assoc bytes done rest ∙ ap (λ p. bytes ++ p) (sym split)

pub at_end : (before now next : Count) (piece rest : List ℕ) → Feeding before now piece rest
    → ((bytes : List ℕ) → CountStands now bytes → CountSteps (Ok None) next bytes rest)
    → (bytes : List ℕ) → CountStands before bytes → CountStands next (bytes ++ piece)
at_end before now next piece rest so_far round bytes at_first =
    subst (λ b. CountStands next b) (whole bytes so_far.done rest piece so_far.split) (round (bytes ++ so_far.done) (so_far.stands bytes at_first))

pub stopped : (stop : Stop) (before now next : Count) (piece rest : List ℕ) → Feeding before now piece rest
    → ((bytes : List ℕ) → CountStands now bytes → CountSteps (Err stop) next bytes rest)
    → (bytes : List ℕ) → CountStands before bytes → Stops stop next (bytes ++ piece)
stopped stop before now next piece rest so_far round bytes at_first =
    subst (λ b. Stops stop next b) (whole bytes so_far.done rest piece so_far.split) (round (bytes ++ so_far.done) (so_far.stands bytes at_first))
