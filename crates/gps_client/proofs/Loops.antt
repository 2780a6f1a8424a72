-- Reading items one after another, as a loop does.
use Rattle.std.proofs.Common.{◌≡◌, ℕ, suc, ◌-◌, ◌+◌, ◌<◌, List, [], ◌∷◌, ◌++◌, Option, Some, None, refl, sym, ap, ◌∙◌, append_assoc, arith, codes}
use Rattle.gps_client.specs.Reading.{Reading, ◌>>=◌, behind, items_at, next_at}

-- what was read before, and what is still read
abbrev pub with_front : {X : Type 0} → List X → Option (List X × List ℕ) → Option (List X × List ℕ)
with_front front read = read >>= λ p. Some (front ++ p.0, p.1)

abbrev pub beside : {X : Type 0} → X → Option (List X × List ℕ) → Option ((X × List X) × List ℕ)
beside x read = read >>= λ y. Some ((x, y.0), y.1)

abbrev pub consed : {X : Type 0} → Option ((X × List X) × List ℕ) → Option (List X × List ℕ)
consed read = read >>= λ p. Some (p.0.0 ∷ p.0.1, p.1)

regroup : {X : Type 0} (front : List X) (x : X) (read : Option (List X × List ℕ)) → with_front front (consed (beside x read)) ≡ with_front (front ++ x ∷ []) read
regroup front x (Some y) = ap (λ xs. Some (xs, y.1)) (sym (append_assoc front (x ∷ []) y.0))
regroup front x None = refl

pub goes_on : {X : Type 0} (item : Reading X) (front : List X) (most i : ℕ) (text : List ℕ) (total : Option (List X × List ℕ)) → i < most → with_front front (items_at (most - i) item text) ≡ total
    → (rest : List ℕ) (x : X) (after : List ℕ) → behind (codes ",") text ≡ Some rest → item rest ≡ Some (x, after) → with_front (front ++ x ∷ []) (items_at (most - (i + 1)) item after) ≡ total
goes_on {X} item front most i text total within so_far rest x after comma read =
    let k : most - i ≡ suc (most - (i + 1)) = omega (arith, within) in
    let more : Reading (List X) = items_at (most - (i + 1)) item in
    sym (regroup front x (more after))
    ∙ (ap (λ (r : Option (X × List ℕ)). with_front front (consed (r >>= λ a. beside a.0 (more a.1)))) (sym read)
    ∙ (ap (λ (b : Option (List ℕ)). with_front front (next_at b item more text)) (sym comma)
    ∙ (ap (λ n. with_front front (items_at n item text)) (sym k) ∙ so_far)))
