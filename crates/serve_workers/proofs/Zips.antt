-- Two lists side by side, each of which grows by one.
use Rattle.std.proofs.Common.{◌≡◌, List, [], ◌∷◌, ◌++◌, map, refl, sym, ◌∙◌, subst, append_assoc, length, arith}
use Rattle.std.proofs.lemmas.List.{append-nil}
use Rattle.std.specs.List.{AllZip}
use Rattle.serve_workers.specs.Joining.{RanSoFar}

pub zip_more : {A B : Type 0} (R : A → B → Type 0) (xs : List A) (ys : List B) (x : A) (y : B) → AllZip R xs ys → R x y → AllZip R (xs ++ x ∷ []) (ys ++ y ∷ [])
zip_more R [] [] x y zip r = (r, tt)
zip_more R [] (b ∷ ys) x y zip r = absurd zip
zip_more R (a ∷ xs) [] x y zip r = absurd zip
zip_more R (a ∷ xs) (b ∷ ys) x y zip r = (zip.0, zip_more R xs ys x y zip.1 r)

pub zip_grown : {A B : Type 0} (R : A → B → Type 0) (xs xs' : List A) (ys ys' : List B) (x : A) (y : B) → AllZip R xs ys → R x y → xs' ≡ xs ++ x ∷ [] → ys' ≡ ys ++ y ∷ []
    → AllZip R xs' ys'
zip_grown R xs xs' ys ys' x y zip r xs_are ys_are =
    subst (AllZip R xs') (sym ys_are) (subst (λ l. AllZip R l (ys ++ y ∷ [])) (sym xs_are) (zip_more R xs ys x y zip r))

pub ran_none : {L Run : Type 0} (Runs : L → Run → Type 0) (links : List L) → RanSoFar Runs links links []
ran_none Runs links = record { done = []; split = refl; ran = tt }

pub ran_more : {L Run : Type 0} (Runs : L → Run → Type 0) (links left : List L) (link : L) (runs : List Run) (run : Run)
    → RanSoFar Runs links (link ∷ left) runs → Runs link run → RanSoFar Runs links left (runs ++ run ∷ [])
ran_more Runs links left link runs run so r = record {
  done = so.done ++ link ∷ [];
  split = so.split ∙ sym (append_assoc so.done (link ∷ []) left);
  ran = zip_more Runs so.done runs link run so.ran r;
}

pub ran_all : {L Run : Type 0} (Runs : L → Run → Type 0) (links : List L) (runs : List Run) → RanSoFar Runs links [] runs → AllZip Runs links runs
ran_all Runs links runs so = subst (λ l. AllZip Runs l runs) (sym (so.split ∙ append-nil so.done)) so.ran

pub ran_end : {L Run : Type 0} (Runs : L → Run → Type 0) (links left : List L) (runs : List Run) → RanSoFar Runs links left runs → length left ≡ 0
    → AllZip Runs links runs
ran_end Runs links [] runs so none = ran_all Runs links runs so
ran_end Runs links (link ∷ left) runs so none = absurd (omega (arith, none))

pub ran_each : {X L Run : Type 0} (Runs : L → Run → Type 0) (link : X → L) (links : List L) (left : List X) (runs : List Run)
    → RanSoFar Runs links (map link left) runs → length left ≡ 0 → AllZip Runs links runs
ran_each Runs link links [] runs so none = ran_all Runs links runs so
ran_each Runs link links (x ∷ left) runs so none = absurd (omega (arith, none))

-- from the iterator's beginning on
pub ran_begin : {L Run : Type 0} (Runs : L → Run → Type 0) (links left : List L) (runs : List Run) → left ≡ links → runs ≡ [] → RanSoFar Runs links left runs
ran_begin Runs links left runs is none =
    subst (λ r. RanSoFar Runs links left r) (sym none) (subst (λ l. RanSoFar Runs links l []) (sym is) (ran_none Runs links))

pub ran_next : {L Run : Type 0} (Runs : L → Run → Type 0) (links left left' : List L) (link : L) (runs runs' : List Run) (run : Run)
    → RanSoFar Runs links left runs → left ≡ link ∷ left' → Runs link run → runs' ≡ runs ++ run ∷ [] → RanSoFar Runs links left' runs'
ran_next Runs links left left' link runs runs' run so is r more =
    subst (RanSoFar Runs links left') (sym more) (ran_more Runs links left' link runs run (subst (λ l. RanSoFar Runs links l runs) is so) r)

-- what was started on the first of these and what came of that
pub through : {A B C : Type 0} (P : A → B → Type 0) (Q : A → C → Type 0) (xs : List A) (ys : List B) (zs : List C)
    → AllZip P xs ys → AllZip (λ y z. (x : A) → P x y → Q x z) ys zs → AllZip Q xs zs
through P Q [] [] [] p q = tt
through P Q [] [] (z ∷ zs) p q = absurd q
through P Q [] (y ∷ ys) zs p q = absurd p
through P Q (x ∷ xs) [] zs p q = absurd p
through P Q (x ∷ xs) (y ∷ ys) [] p q = absurd q
through P Q (x ∷ xs) (y ∷ ys) (z ∷ zs) p q = (q.0 x p.0, through P Q xs ys zs p.1 q.1)
