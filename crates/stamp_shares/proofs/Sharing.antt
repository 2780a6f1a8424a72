-- What one stamp more is to the shares.
use Rattle.std.proofs.Common.{◌≡◌, ◌≢◌, ◌<◌, ℕ, Bool, true, false, ◌==◌, List, [], ◌∷◌, ◌++◌, refl, sym, ap, ◌∙◌, subst, ⊎_elim, arith, eqb, eq-eqb, ne_eqb, if◌then◌else◌}
use Rattle.gps_fixed.specs.Moment.{Moment}
use Rattle.stamp_shares.specs.declared.view.Given.{Given}
use Rattle.stamp_shares.specs.declared.view.ShareView.{ShareView}
use Rattle.stamp_shares.specs.Shares.{given_to, stamps_for, with_stamp}

-- the stamps of one more for this share, or not
one_more : (whose : ℕ) (first : Given) (given : List Given) (last : Moment) (b : Bool) (rest : List Moment)
    → stamps_for whose (given ++ record { whose = whose; stamp = last } ∷ []) ≡ rest ++ last ∷ []
    → (if b then first.stamp ∷ stamps_for whose (given ++ record { whose = whose; stamp = last } ∷ []) else stamps_for whose (given ++ record { whose = whose; stamp = last } ∷ []))
    ≡ (if b then first.stamp ∷ rest else rest) ++ last ∷ []
one_more whose first given last true rest e = ap (λ l. first.stamp ∷ l) e
one_more whose first given last false rest e = e

only_one : (whose : ℕ) (stamp : Moment) → stamps_for whose (record { whose = whose; stamp = stamp } ∷ []) ≡ stamp ∷ []
only_one whose stamp = ap (λ b. if b then stamp ∷ [] else []) (eq-eqb whose whose refl)

-- a stamp that was given to this share is its last one
pub given_more : (whose : ℕ) (given : List Given) (stamp : Moment)
    → stamps_for whose (given ++ record { whose = whose; stamp = stamp } ∷ []) ≡ stamps_for whose given ++ stamp ∷ []
given_more whose [] stamp = only_one whose stamp
given_more whose (g ∷ given) stamp = one_more whose g given stamp (g.whose == whose) (stamps_for whose given) (given_more whose given stamp)

not_mine : (whose other : ℕ) (stamp : Moment) → other ≢ whose → stamps_for whose (record { whose = other; stamp = stamp } ∷ []) ≡ []
not_mine whose other stamp apart = ap (λ b. if b then stamp ∷ [] else []) (ne_eqb other whose apart)

same_else : (b : Bool) (first : Moment) (longer rest : List Moment) → longer ≡ rest → (if b then first ∷ longer else longer) ≡ (if b then first ∷ rest else rest)
same_else b first longer rest e = ap (λ l. if b then first ∷ l else l) e

-- a stamp that was given to another share
pub given_else : (whose other : ℕ) (given : List Given) (stamp : Moment) → other ≢ whose
    → stamps_for whose (given ++ record { whose = other; stamp = stamp } ∷ []) ≡ stamps_for whose given
given_else whose other [] stamp apart = not_mine whose other stamp apart
given_else whose other (g ∷ given) stamp apart =
    same_else (g.whose == whose) g.stamp (stamps_for whose (given ++ record { whose = other; stamp = stamp } ∷ [])) (stamps_for whose given) (given_else whose other given stamp apart)
