-- Which device is watched: the one of the name that the request has, or the only one.
use Rattle.std.proofs.Common.{◌≡◌, ◌<◌, ◌==◌, ℕ, zero, suc, Bool, true, false, not, List, [], ◌∷◌, ◌++◌, Option, Some, None, length, get_or, nat_eq, refl, sym, ap, subst, ◌∙◌, inl, inr, arith}
use Rattle.std.specs.Prelude.{slice_index_or}
use Rattle.std.specs.List.{list_all, list_any}
use Rattle.std.specs.Cmp.Lexicographic.{bytes_decides, pointwise}
use Rattle.std.proofs.lemmas.Bool.{and_from, and_parts, cases_Bool, cases_lt, eq-eqb, eqb-false, eqb-true, not-true, or_parts}
use Rattle.std.proofs.lemmas.List.{get_or_past}
use Rattle.std.proofs.lemmas.List.Folds.{list_all-append}
use Rattle.gps_report.specs.Name.{are_distinct, is_name}
use Rattle.gps_report.specs.declared.report.Body.{Body}
use Rattle.gps_report.specs.declared.report.Body.TheVariants as body
use Rattle.gps_report.specs.declared.report.Report.{Report}
use Rattle.watch_policy.specs.Selection.{watches}
use Rattle.device_core.specs.Reports.{device_close, gained}
use Rattle.book_log.specs.Entries.{Entry, Got, Ended, Lost, GoesOn, device_of, stream}
use Rattle.book_log.specs.Readings.{first_stamp, of_device}
use Rattle.book_log.specs.History.{announced, history_after, reports_at}
use Rattle.upstream_laws.specs.Carried.{AreNames, is_watched}
use Rattle.upstream_laws.specs.Across.{IsTheDevice, OneDeviceIsTheOnlyOne}

-- of the devices of these reports device d is watched, and no other
abbrev pub same_truth : Bool → Bool → Bool
same_truth true b = b
same_truth false true = false
same_truth false false = true

abbrev pub WatchesOnly : Option (List ℕ) → List (List ℕ) → ℕ → List Report → Type 0
WatchesOnly device names d reports = list_all (λ report. same_truth (is_watched device names report) (report.device == d)) reports ≡ true

differs : (x y : List ℕ) → (x ≡ y → ⊥) → pointwise nat_eq x y ≡ false
differs x y apart = elim (cases_Bool (pointwise nat_eq x y)) [ inl same ↦ absurd (apart ((bytes_decides x y).0 same)) | inr other ↦ other ]

-- names apart
none_is : (x : List ℕ) (names : List (List ℕ)) (k : ℕ) → list_any (pointwise nat_eq x) names ≡ false → k < length names → x ≡ get_or names k [] → ⊥
none_is x [] k none inside same = absurd (omega arith)
none_is x (name ∷ names) zero none inside same =
    let apart : pointwise nat_eq x name ≡ false = (or_parts (pointwise nat_eq x name) (list_any (pointwise nat_eq x) names) none).0 in
    let equal : pointwise nat_eq x name ≡ true = (bytes_decides x name).1 same in cc
none_is x (name ∷ names) (suc k) none inside same =
    none_is x names k (or_parts (pointwise nat_eq x name) (list_any (pointwise nat_eq x) names) none).1 (omega arith) same

first_apart : (name : List ℕ) (names : List (List ℕ)) → are_distinct (name ∷ names) ≡ true → (list_any (pointwise nat_eq name) names ≡ false) × (are_distinct names ≡ true)
first_apart name names distinct =
    let parts : (not (list_any (pointwise nat_eq name) names) ≡ true) × (are_distinct names ≡ true) =
    and_parts (not (list_any (pointwise nat_eq name) names)) (are_distinct names) distinct in
    (not-true (list_any (pointwise nat_eq name) names) parts.0, parts.1)

same_place : (names : List (List ℕ)) (k d : ℕ) → are_distinct names ≡ true → k < length names → d < length names → get_or names d [] ≡ get_or names k [] → k ≡ d
same_place [] k d distinct inside at same = absurd (omega arith)
same_place (name ∷ names) zero zero distinct inside at same = refl
same_place (name ∷ names) zero (suc d) distinct inside at same = absurd (none_is name names d (first_apart name names distinct).0 (omega arith) (sym same))
same_place (name ∷ names) (suc k) zero distinct inside at same = absurd (none_is name names k (first_apart name names distinct).0 (omega arith) same)
same_place (name ∷ names) (suc k) (suc d) distinct inside at same =
    ap suc (same_place names k d (first_apart name names distinct).1 (omega arith) (omega arith) same)

some_byte : (name : List ℕ) → is_name name ≡ true → name ≡ [] → ⊥
some_byte [] is e = cc
some_byte (b ∷ name) is e = cc

-- the device of this name, and no other
module _ (names : List (List ℕ)) (d : ℕ) (distinct : are_distinct names ≡ true) (at : d < length names) (is : is_name (get_or names d []) ≡ true) where
  one_report : (k : ℕ) → same_truth (watches (Some (get_or names d [])) (slice_index_or names k [])) (k == d) ≡ true
  one_report k = elim (cases_Bool (k == d)) [
    | inl same ↦
        let equal : k ≡ d = eqb-true k d same in
        let watched : pointwise nat_eq (get_or names d []) (get_or names k []) ≡ true =
        (bytes_decides (get_or names d []) (get_or names k [])).1 (ap (λ n. get_or names n []) (sym equal)) in
        rw (same, watched) refl
    | inr other ↦
        let apart : pointwise nat_eq (get_or names d []) (get_or names k []) ≡ false = differs (get_or names d []) (get_or names k []) (λ e. elsewhere k (eqb-false k d other) e) in
        rw (other, apart) refl
  ]
    where
      elsewhere : (k : ℕ) → (k ≡ d → ⊥) → get_or names d [] ≡ get_or names k [] → ⊥
      elsewhere k apart e = elim (cases_lt k (length names)) [
        | inl inside ↦ apart (same_place names k d distinct inside at e)
        | inr past ↦ some_byte (get_or names d []) is (e ∙ get_or_past names k [] past)
      ]

  pub named : (reports : List Report) → WatchesOnly (Some (get_or names d [])) names d reports
  named [] = refl
  named (report ∷ reports) = and_from _ _ (one_report report.device) (named reports)

-- the only device
only_of : (names : List (List ℕ)) (e : ℕ) (bodies : List Body) → e < 1 → WatchesOnly None names 0 (of_device e bodies)
only_of names e [] first = refl
only_of names e (b ∷ bodies) first = and_from _ _ (eq-eqb e 0 (omega arith)) (only_of names e bodies first)

only_entry : (names : List (List ℕ)) (before : List Entry) (entry : Entry) → device_of entry < 1 → WatchesOnly None names 0 (reports_at before entry)
only_entry names before (Got e x) first = only_of names e (announced (first_stamp (stream e before)) x ++ gained (stream e before) x) first
only_entry names before (Ended e) first = only_of names e (device_close (stream e before) ++ body.Device None ∷ []) first
only_entry names before (Lost e) first = refl

only_after : (names : List (List ℕ)) (before log : List Entry) → GoesOn 1 before log → WatchesOnly None names 0 (history_after before log)
unfolding history_after GoesOn
only_after names before [] on = refl
only_after names before (entry ∷ log) on =
    list_all-append (λ report. same_truth (is_watched None names report) (report.device == 0)) (reports_at before entry) (history_after (before ++ entry ∷ []) log)
    ∙ and_from _ _ (only_entry names before entry on.0) (only_after names (before ++ entry ∷ []) log on.2)

pub alone : OneDeviceIsTheOnlyOne
alone names log is = only_after names [] log is

pub watches_it : (device : Option (List ℕ)) (names : List (List ℕ)) (d : ℕ) (reports : List Report) → AreNames device names → IsTheDevice device names d reports
    → WatchesOnly device names d reports
watches_it None names d reports are is = is
watches_it (Some name) names d reports are is =
    subst (λ n. WatchesOnly (Some n) names d reports) (sym is.2) (named names d is.0 is.1 (subst (λ n. is_name n ≡ true) is.2 are.device_is) reports)
