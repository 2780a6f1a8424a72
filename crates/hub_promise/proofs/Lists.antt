-- Lists of sessions and of devices, one of which has changed.
use Rattle.std.proofs.Common.{◌≡◌, ◌≢◌, ◌<◌, ◌≤◌, ℕ, zero, suc, ◌+◌, Bool, true, false, cond, List, [], ◌∷◌, ◌++◌, length, map, get_or, set, Option, Some, None, refl, sym, ap, ◌∙◌, subst, arith, nat_eq, get_or-set_same, get_or-set_other, length-set}
use Rattle.std.specs.Prelude.{count_by, slice_get}
use Rattle.std.specs.List.{All, AllZip, range_with_len}
use Rattle.std.proofs.lemmas.Bool.{eqb-true}
use Rattle.std.proofs.lemmas.List.Sums.{sum_by-cons}
use Rattle.std.proofs.lemmas.Option.{slice_get-get_or}
use Rattle.book_log.specs.Entries.{Entry}
use Rattle.book_log.proofs.Histories.{IsQuiet, same}
use Rattle.book_sessions.specs.MemberView.{MemberView}
use Rattle.book_sessions.specs.Roster.{was_watched}
use Rattle.hub_promise.specs.declared.ends.DeviceEnd.{DeviceEnd}
use Rattle.hub_promise.specs.DaemonHub.{DeviceFits}
use Rattle.hub_promise.specs.Parts.{InletsView, device_of, devices_of}
use Rattle.hub_promise.proofs.Devices.{device_quiet}

pub zip_maps : {A B : Type 0} (R : A → A → Type 0) (f : A → B) → ((x y : A) → R x y → f y ≡ f x) → (xs ys : List A) → AllZip R xs ys → map f ys ≡ map f xs
zip_maps R f each [] [] zip = refl
zip_maps R f each [] (y ∷ ys) zip = absurd zip
zip_maps R f each (x ∷ xs) [] zip = absurd zip
zip_maps R f each (x ∷ xs) (y ∷ ys) zip =
    let first = each x y zip.0 in
    let rest = zip_maps R f each xs ys zip.1 in
    λ i. first i ∷ rest i

pub zip_length : {A B : Type 0} (R : A → B → Type 0) (xs : List A) (ys : List B) → AllZip R xs ys → length ys ≡ length xs
zip_length R [] [] zip = refl
zip_length R [] (y ∷ ys) zip = absurd zip
zip_length R (x ∷ xs) [] zip = absurd zip
zip_length R (x ∷ xs) (y ∷ ys) zip = ap suc (zip_length R xs ys zip.1)

pub zip_at : {A B : Type 0} (R : A → B → Type 0) (xs : List A) (ys : List B) (s : ℕ) (a : A) (b : B) → AllZip R xs ys → s < length xs → R (get_or xs s a) (get_or ys s b)
zip_at R [] ys s a b zip lt = absurd (omega arith)
zip_at R (x ∷ xs) [] s a b zip lt = absurd zip
zip_at R (x ∷ xs) (y ∷ ys) zero a b zip lt = zip.0
zip_at R (x ∷ xs) (y ∷ ys) (suc s) a b zip lt = zip_at R xs ys s a b zip.1 (omega arith)

pub zip_all : {A : Type 0} (R : A → A → Type 0) (P : A → Type 0) → ((x y : A) → R x y → P x → P y) → (xs ys : List A) → AllZip R xs ys → All P xs → All P ys
zip_all R P each xs ys zip all k d lt =
    let n = zip_length R xs ys zip in
    each _ _ (zip_at R xs ys k d d zip (omega arith)) (all k d (omega arith))

weight_same : (x : MemberView) (xs : List MemberView) (y : MemberView) (ys : List MemberView) → y.watched ≡ x.watched → count_by was_watched ys ≡ count_by was_watched xs → count_by was_watched (y ∷ ys) ≡ count_by was_watched (x ∷ xs)
weight_same x xs y ys e rest =
    sum_by-cons (λ (a : MemberView). cond a.watched 1 0) y ys ∙ (λ i. cond {A = ℕ} (e i) 1 0 + rest i) ∙ sym (sum_by-cons (λ (a : MemberView). cond a.watched 1 0) x xs)

pub zip_watched : (R : MemberView → MemberView → Type 0) → ((x y : MemberView) → R x y → y.watched ≡ x.watched) → (xs ys : List MemberView) → AllZip R xs ys → count_by was_watched ys ≡ count_by was_watched xs
zip_watched R each [] [] zip = refl
zip_watched R each [] (y ∷ ys) zip = absurd zip
zip_watched R each (x ∷ xs) [] zip = absurd zip
zip_watched R each (x ∷ xs) (y ∷ ys) zip = weight_same x xs y ys (each x y zip.0) (zip_watched R each xs ys zip.1)

weight_grows : (a b : Bool) → (a ≡ true → b ≡ true) → cond {A = ℕ} a 1 0 ≤ cond {A = ℕ} b 1 0
weight_grows false b grows = omega arith
weight_grows true true grows = omega arith
weight_grows true false grows = let e : false ≡ true = grows refl in absurd (cc)

pub set_watched : (xs : List MemberView) (s : ℕ) (next : MemberView) → ((free : MemberView) → (get_or xs s free).watched ≡ true → next.watched ≡ true)
    → count_by was_watched xs ≤ count_by was_watched (set xs s next)
set_watched [] s next grows = omega arith
set_watched (x ∷ xs) zero next grows =
    let w = weight_grows x.watched next.watched (grows x) in
    let one = sum_by-cons (λ (a : MemberView). cond a.watched 1 0) x xs in
    let other = sum_by-cons (λ (a : MemberView). cond a.watched 1 0) next xs in
    omega arith
set_watched (x ∷ xs) (suc s) next grows =
    let rest = set_watched xs s next grows in
    let one = sum_by-cons (λ (a : MemberView). cond a.watched 1 0) x xs in
    let other = sum_by-cons (λ (a : MemberView). cond a.watched 1 0) x (set xs s next) in
    omega arith

pub push_watched : (xs : List MemberView) (y : MemberView) → count_by was_watched xs ≤ count_by was_watched (xs ++ y ∷ [])
push_watched [] y = omega arith
push_watched (x ∷ xs) y =
    let rest = push_watched xs y in
    let one = sum_by-cons (λ (a : MemberView). cond a.watched 1 0) x xs in
    let other = sum_by-cons (λ (a : MemberView). cond a.watched 1 0) x (xs ++ y ∷ []) in
    omega arith

-- ---- a list that is zipped with the numbers from n on

-- what holds of the item at a place
numbered_from : {X : Type 0} (R : ℕ → X → Type 0) (n count : ℕ) (xs : List X) (k : ℕ) (x : X) → AllZip R (range_with_len n count) xs → k < count → R (n + k) (get_or xs k x)
numbered_from R n zero xs k x zip lt = absurd (omega arith)
numbered_from R n (suc count) [] k x zip lt = absurd zip
numbered_from R n (suc count) (y ∷ xs) zero x zip lt = let e : n ≡ n + zero = omega arith in subst (λ j. R j y) e zip.0
numbered_from R n (suc count) (y ∷ xs) (suc k) x zip lt =
    let e : (n + 1) + k ≡ n + suc k = omega arith in
    subst (λ j. R j (get_or xs k x)) e (numbered_from R (n + 1) count xs k x zip.1 (omega arith))

pub numbered_at : {X : Type 0} (R : ℕ → X → Type 0) (count : ℕ) (xs : List X) (k : ℕ) (x : X) → AllZip R (range_with_len 0 count) xs → k < count → R k (get_or xs k x)
numbered_at R count xs k x zip lt = let e : 0 + k ≡ k = omega arith in subst (λ j. R j (get_or xs k x)) e (numbered_from R 0 count xs k x zip lt)

pub numbered_length : {X : Type 0} (R : ℕ → X → Type 0) (n count : ℕ) (xs : List X) → AllZip R (range_with_len n count) xs → length xs ≡ count
numbered_length R n zero [] zip = refl
numbered_length R n zero (y ∷ xs) zip = absurd zip
numbered_length R n (suc count) [] zip = absurd zip
numbered_length R n (suc count) (y ∷ xs) zip = ap suc (numbered_length R (n + 1) count xs zip.1)

-- it is enough if it holds of each
numbered_all : {X : Type 0} (R : ℕ → X → Type 0) (n count : ℕ) (xs : List X) → length xs ≡ count → ((k : ℕ) (x : X) → k < count → R (n + k) (get_or xs k x))
    → AllZip R (range_with_len n count) xs
numbered_all R n zero [] same each = tt
numbered_all R n zero (y ∷ xs) same each = absurd (omega arith)
numbered_all R n (suc count) [] same each = absurd (omega arith)
numbered_all R n (suc count) (y ∷ xs) same each =
    let e : n + zero ≡ n = omega arith in (
      subst (λ j. R j y) e (each zero y (omega arith)),
      numbered_all R (n + 1) count xs (omega arith)
          (λ k x lt. let f : n + suc k ≡ (n + 1) + k = omega arith in subst (λ j. R j (get_or xs k x)) f (each (suc k) x (omega arith))),
    )

pub numbered_by : {X : Type 0} (R : ℕ → X → Type 0) (count : ℕ) (xs : List X) → length xs ≡ count → ((k : ℕ) (x : X) → k < count → R k (get_or xs k x))
    → AllZip R (range_with_len 0 count) xs
numbered_by R count xs same each =
    numbered_all R 0 count xs same (λ k x lt. let e : k ≡ 0 + k = omega arith in subst (λ j. R j (get_or xs k x)) e (each k x lt))

-- one item was set, and what held of each other goes on to hold in another way
pub numbered_set : {X : Type 0} (R Q : ℕ → X → Type 0) (count : ℕ) (xs : List X) (d : ℕ) (y : X) → ((e : ℕ) (x : X) → nat_eq d e ≡ false → R e x → Q e x) → Q d y
    → AllZip R (range_with_len 0 count) xs → AllZip Q (range_with_len 0 count) (set xs d y)
numbered_set {X} R Q count xs d y others mine zip =
    numbered_by Q count (set xs d y) (length-set xs d y ∙ numbered_length R 0 count xs zip) (λ e x lt. by_number e x lt (nat_eq d e) refl)
  where
    by_number : (e : ℕ) (x : X) → e < count → (b : Bool) → nat_eq d e ≡ b → Q e (get_or (set xs d y) e x)
    by_number e x lt true is =
        let one : d ≡ e = eqb-true d e is in
        let there : e < length xs = let n = numbered_length R 0 count xs zip in omega arith in
        subst (λ j. Q e (get_or (set xs j y) e x)) (sym one) (subst (Q e) (sym (get_or-set_same xs e y x there)) (subst (λ j. Q j y) one mine))
    by_number e x lt false is =
        let other : e ≢ d = λ eq. let t : nat_eq d e ≡ true = ap (λ j. nat_eq d j) eq ∙ same d in absurd (cc) in
        subst (Q e) (sym (get_or-set_other xs d e y x other)) (others e (get_or xs e x) is (numbered_at R count xs e x zip lt))

-- ---- the devices of a hub

pub devices_length : (inlets : List InletsView) (ends : List (Option DeviceEnd)) → length ends ≡ length inlets → length (devices_of inlets ends) ≡ length inlets
devices_length [] ends same = refl
devices_length (x ∷ inlets) [] same = absurd (omega arith)
devices_length (x ∷ inlets) (end ∷ ends) same = ap suc (devices_length inlets ends (omega arith))

pub devices_at : (inlets : List InletsView) (ends : List (Option DeviceEnd)) (d : ℕ) (x : InletsView) (end : Option DeviceEnd) → length ends ≡ length inlets → d < length inlets
    → get_or (devices_of inlets ends) d (device_of x end) ≡ device_of (get_or inlets d x) (get_or ends d end)
devices_at [] ends d x end same lt = absurd (omega arith)
devices_at (y ∷ inlets) [] d x end same lt = absurd (omega arith)
devices_at (y ∷ inlets) (e ∷ ends) zero x end same lt = refl
devices_at (y ∷ inlets) (e ∷ ends) (suc d) x end same lt = devices_at inlets ends d x end (omega arith) (omega arith)

pub device_there : (inlets : List InletsView) (ends : List (Option DeviceEnd)) (d : ℕ) (x : InletsView) (end : Option DeviceEnd) → length ends ≡ length inlets → d < length inlets
    → slice_get (devices_of inlets ends) d ≡ Some (device_of (get_or inlets d x) (get_or ends d end))
device_there inlets ends d x end same lt =
    let there : d < length (devices_of inlets ends) = let n = devices_length inlets ends same in omega arith in
    slice_get-get_or (devices_of inlets ends) d (device_of x end) there ∙ ap Some (devices_at inlets ends d x end same lt)

devices_set : (inlets : List InletsView) (ends : List (Option DeviceEnd)) (d : ℕ) (y : InletsView) (end : Option DeviceEnd)
    → devices_of (set inlets d y) (set ends d end) ≡ set (devices_of inlets ends) d (device_of y end)
devices_set [] ends d y end = refl
devices_set (x ∷ inlets) [] zero y end = refl
devices_set (x ∷ inlets) [] (suc d) y end = refl
devices_set (x ∷ inlets) (e ∷ ends) zero y end = refl
devices_set (x ∷ inlets) (e ∷ ends) (suc d) y end = ap (λ l. device_of x e ∷ l) (devices_set inlets ends d y end)

-- one of them fits the log
pub device_fits : (log : List Entry) (count : ℕ) (inlets : List InletsView) (ends : List (Option DeviceEnd)) (d : ℕ) (x : InletsView) (end : Option DeviceEnd)
    → length inlets ≡ count → length ends ≡ count → d < count → AllZip (DeviceFits log) (range_with_len 0 count) (devices_of inlets ends)
    → DeviceFits log d (device_of (get_or inlets d x) (get_or ends d end))
device_fits log count inlets ends d x end n m lt fit =
    subst (DeviceFits log d) (devices_at inlets ends d x end (omega arith) (omega arith)) (numbered_at (DeviceFits log) count (devices_of inlets ends) d (device_of x end) fit lt)

-- the log went on by entries of one of them
pub devices_on : (log entries : List Entry) (count d : ℕ) (inlets : List InletsView) (ends : List (Option DeviceEnd)) (y : InletsView) (end : Option DeviceEnd)
    → ((e : ℕ) → nat_eq d e ≡ false → IsQuiet e entries) → DeviceFits (log ++ entries) d (device_of y end)
    → AllZip (DeviceFits log) (range_with_len 0 count) (devices_of inlets ends)
    → AllZip (DeviceFits (log ++ entries)) (range_with_len 0 count) (devices_of (set inlets d y) (set ends d end))
devices_on log entries count d inlets ends y end quiet mine fit =
    subst (AllZip (DeviceFits (log ++ entries)) (range_with_len 0 count)) (sym (devices_set inlets ends d y end))
    (numbered_set (DeviceFits log) (DeviceFits (log ++ entries)) count (devices_of inlets ends) d (device_of y end)
    (λ e x other f. device_quiet log entries e x (quiet e other) f) mine fit)
