-- A sentence that was written from its `$` on.
use Rattle.std.proofs.Common.{◌≡◌, ℕ, List, [], ◌∷◌, ◌++◌, length, drop, ap, ◌∙◌}
use Rattle.std.proofs.Math.Seq.{drop-append_seam}
use Rattle.std.proofs.lemmas.List.{append_assoc}
use Rattle.pseudo_nmea.specs.Sentences.{ending, sentence}

pub ended : (old one two after body : List ℕ) (from : ℕ) → one ≡ old ++ 36 ∷ [] → from ≡ length one → two ≡ one ++ body
    → after ≡ two ++ ending (drop from two) → after ≡ old ++ sentence body
unfolding sentence
ended old one two after body from begun place written closed =
    let behind : drop from two ≡ body = ap (λ n. drop n two) place ∙ ap (λ t. drop (length one) t) written ∙ drop-append_seam one body in
    let begin : two ≡ old ++ 36 ∷ body = written ∙ ap (λ o. o ++ body) begun ∙ append_assoc old (36 ∷ []) body in
    closed ∙ ap (λ b. two ++ ending b) behind ∙ ap (λ t. t ++ ending body) begin ∙ append_assoc old (36 ∷ body) (ending body)
