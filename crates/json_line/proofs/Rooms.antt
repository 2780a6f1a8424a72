-- Satellites that are made in a room before they are added to the line.
use Rattle.std.proofs.Common.{◌≡◌, ℕ, ◌++◌, List, [], ◌∷◌, ap, ◌∙◌, sym, append_assoc}

-- one more item behind what the line and the room have
pub one_more : (line before made items : List ℕ) (byte : ℕ) (text : List ℕ) → line ++ made ≡ before ++ items
    → line ++ ((made ++ byte ∷ []) ++ text) ≡ before ++ (items ++ byte ∷ text)
one_more line before made items byte text e =
    ap (λ l. line ++ l) (append_assoc made (byte ∷ []) text)
    ∙ (sym (append_assoc line made (byte ∷ text))
    ∙ (ap (λ l. l ++ byte ∷ text) e
    ∙ append_assoc before items (byte ∷ text)))
