-- The body of a sentence, read back from its spelling.
use Rattle.std.proofs.Common.{◌≡◌, ◌==◌, ℕ, true, not, List, [], ◌∷◌, ◌++◌, take, refl, ap, ◌∙◌}
use Rattle.std.specs.List.{list_all}
use Rattle.std.proofs.Math.Seq.{take-append_seam}
use Rattle.nmea_frame.specs.Sentence.{is_body_byte, Parts, AreParts, spelling, line_end, body_of}
use Rattle.nmea_frame.proofs.Lists.{both, prefix_len-body}

no_star : (c : ℕ) → is_body_byte c ≡ true → not (c == 42) ≡ true
no_star c e = (both (not (c == 36)) _ ((both _ _ e).1)).1

no_stars : (body : List ℕ) → list_all is_body_byte body ≡ true → list_all (λ c. not (c == 42)) body ≡ true
no_stars [] e = refl
no_stars (c ∷ body) e =
    let h : (is_body_byte c ≡ true) × (list_all is_body_byte body ≡ true) = both (is_body_byte c) (list_all is_body_byte body) e in
    rw (no_star c (h.0)) (no_stars body (h.1))

pub body-spelling : (p : Parts) → AreParts p → body_of (spelling p) ≡ p.body
body-spelling p are =
    let rest : List ℕ = p.high ∷ p.low ∷ line_end p.has_return in
    ap (λ k. take k (p.body ++ 42 ∷ rest)) (prefix_len-body (λ c. not (c == 42)) p.body 42 rest (no_stars p.body (are.printable)) refl)
    ∙ take-append_seam p.body (42 ∷ rest)
