-- Devices and units are declared.
use Rattle.std.proofs.Common.{◌≡◌, ◌≤◌, ◌<◌, ◌*◌, ℕ, zero, suc, Bool, true, false, ◌&&◌, ◌||◌, not, nat_eq, nat_le, nat_lt, List, [], ◌∷◌, ◌++◌, length, set, Some, None, refl, ap, ◌∙◌, length-append, arith}
use Rattle.std.specs.List.{list_all, list_any}
use Rattle.std.specs.Cmp.Lexicographic.{pointwise}
use Rattle.std.proofs.lemmas.Bool.{le-leb, leb-true, ltb-true, lt-ltb, le-ltb}
use Rattle.gps_report.specs.Name.{are_distinct}
use Rattle.replay_player.specs.Effects.{allowed, declares, most_devices, numbers, quietly}
use Rattle.replay_player.specs.Playing.{IsDeclared, declared_state}

both_true : (x y : Bool) → (x && y) ≡ true → (x ≡ true) × (y ≡ true)
both_true true true is = (refl, refl)
both_true true false is = absurd (cc)
both_true false y is = absurd (cc)

not_true : (x : Bool) → not x ≡ true → x ≡ false
not_true true is = absurd (cc)
not_true false is = refl

neither : (x y : Bool) → (x || y) ≡ false → (x ≡ false) × (y ≡ false)
neither true y is = absurd (cc)
neither false y is = (refl, is)

distinct_push : (names : List (List ℕ)) (name : List ℕ) → are_distinct names ≡ true → list_any (λ other. pointwise nat_eq other name) names ≡ false → are_distinct (names ++ name ∷ []) ≡ true
distinct_push [] name distinct new = refl
distinct_push (first ∷ names) name distinct new =
    let parts = both_true (not (list_any (pointwise nat_eq first) names)) (are_distinct names) distinct in
    let here = neither (pointwise nat_eq first name) (list_any (λ other. pointwise nat_eq other name) names) new in
    let was = not_true (list_any (pointwise nat_eq first) names) parts.0 in
    ap (λ b. not b && are_distinct (names ++ name ∷ [])) (none_more names was here.0) ∙ distinct_push names name parts.1 here.1
  where
    none_more : (names : List (List ℕ)) → list_any (pointwise nat_eq first) names ≡ false → pointwise nat_eq first name ≡ false → list_any (pointwise nat_eq first) (names ++ name ∷ []) ≡ false
    none_more [] was here = ap (λ b. b || false) here
    none_more (other ∷ names) was here =
        let parts = neither (pointwise nat_eq first other) (list_any (pointwise nat_eq first) names) was in
        ap (λ b. b || list_any (pointwise nat_eq first) (names ++ name ∷ [])) parts.0 ∙ none_more names parts.1 here

pub names_push : (limit : ℕ) (names : List (List ℕ)) (name : List ℕ) (firsts : List ℕ) → IsDeclared limit names firsts
    → (nat_lt (length names) most_devices && not (list_any (λ other. pointwise nat_eq other name) names)) ≡ true → IsDeclared limit (names ++ name ∷ []) firsts
names_push limit names name firsts is test =
    let parts = both_true (nat_lt (length names) most_devices) (not (list_any (λ other. pointwise nat_eq other name) names)) test in
    let low : length names < 8 = ltb-true (length names) most_devices parts.0 in
    let long : length (names ++ name ∷ []) ≤ 8 = omega (arith, low, length-append names (name ∷ [])) in
    let old = both_true (nat_le (length names) 8) (are_distinct names) is.are_names in
    record {
      least = is.least;
      most = is.most;
      are_names = ap (λ b. b && are_distinct (names ++ name ∷ [])) (le-leb (length (names ++ name ∷ [])) 8 long)
          ∙ distinct_push names name old.1 (not_true (list_any (λ other. pointwise nat_eq other name) names) parts.1);
      are_firsts = is.are_firsts;
    }

pub few_names : (limit : ℕ) (names : List (List ℕ)) (firsts : List ℕ) → IsDeclared limit names firsts → length names ≤ 8
few_names limit names firsts is = leb-true (length names) 8 (both_true (nat_le (length names) 8) (are_distinct names) is.are_names).0

pub declared_so : (names : List (List ℕ)) (firsts : List ℕ) (name : List ℕ) → (nat_lt (length names) most_devices && not (list_any (λ other. pointwise nat_eq other name) names)) ≡ true
    → declares name (declared_state names firsts) ≡ Some (quietly (declared_state (names ++ name ∷ []) firsts))
unfolding declares
declared_so names firsts name test = ap (λ b. allowed b (quietly (declared_state (names ++ name ∷ []) firsts))) test

pub not_declared : (names : List (List ℕ)) (firsts : List ℕ) (name : List ℕ) → (nat_lt (length names) most_devices && not (list_any (λ other. pointwise nat_eq other name) names)) ≡ false
    → declares name (declared_state names firsts) ≡ None
unfolding declares
not_declared names firsts name test = ap (λ b. allowed b (quietly (declared_state (names ++ name ∷ []) firsts))) test

set_passes : (firsts : List ℕ) (u first : ℕ) → first ≤ 1_073_741_823 → list_all (λ (x : ℕ). nat_le x 1_073_741_823) firsts ≡ true → list_all (λ (x : ℕ). nat_le x 1_073_741_823) (set firsts u first) ≡ true
set_passes [] u first low all = refl
set_passes (x ∷ firsts) zero first low all =
    let parts = both_true (nat_le x 1_073_741_823) (list_all (λ (x : ℕ). nat_le x 1_073_741_823) firsts) all in
    ap (λ b. b && list_all (λ (x : ℕ). nat_le x 1_073_741_823) firsts) (le-leb first 1_073_741_823 low) ∙ parts.1
set_passes (x ∷ firsts) (suc u) first low all =
    let parts = both_true (nat_le x 1_073_741_823) (list_all (λ (x : ℕ). nat_le x 1_073_741_823) firsts) all in
    ap (λ b. b && list_all (λ (x : ℕ). nat_le x 1_073_741_823) (set firsts u first)) parts.0 ∙ set_passes firsts u first low parts.1

pub firsts_set : (limit : ℕ) (names : List (List ℕ)) (firsts : List ℕ) (u first : ℕ) → IsDeclared limit names firsts → first ≤ 1_073_741_823 → IsDeclared limit names (set firsts u first)
firsts_set limit names firsts u first is low = record { least = is.least; most = is.most; are_names = is.are_names; are_firsts = set_passes firsts u first low is.are_firsts }

pub numbered_so : (names : List (List ℕ)) (firsts : List ℕ) (u first : ℕ) → u < 2 * length names → numbers u first (declared_state names firsts) ≡ Some (quietly (declared_state names (set firsts u first)))
unfolding numbers
numbered_so names firsts u first below = ap (λ b. allowed b (quietly (declared_state names (set firsts u first)))) (lt-ltb u (2 * length names) below)

pub not_numbered : (names : List (List ℕ)) (firsts : List ℕ) (u first : ℕ) → 2 * length names ≤ u → numbers u first (declared_state names firsts) ≡ None
unfolding numbers
not_numbered names firsts u first above = ap (λ b. allowed b (quietly (declared_state names (set firsts u first)))) (le-ltb u (2 * length names) above)
