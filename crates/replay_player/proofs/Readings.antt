-- One load of a monitor goes on with its reading or ends it, as the values say.
use Rattle.std.proofs.Common.{◌≡◌, ◌≢◌, ℕ, ◌/◌, ◌<◌, Bool, true, false, ◌&&◌, ◌||◌, List, [], ◌∷◌, ◌++◌, length, take, drop, refl, sym, ap, ◌∙◌, arith, length-append}
use Rattle.std.specs.Prelude.{slice_index, ◌==◌, if◌then◌else◌}
use Rattle.std.proofs.lemmas.Bool.{ne_eqb}
use Rattle.std.proofs.lemmas.Bool.Decides.{nat_tests}
use Rattle.std.proofs.lemmas.List.{get_or-append_right}
use Rattle.std.proofs.Math.Seq.{take-append_seam}
use Rattle.shm_segment.specs.Samples.{sample_of}
use Rattle.shm_monitor.specs.declared.reading.Reading.{Reading}
use Rattle.shm_monitor.specs.declared.reading.Reading.TheVariants.{Taken, NotReady, Clash}
use Rattle.shm_monitor.specs.Readings.{EndsAs, IsTwelve}
use Rattle.replay_player.specs.Loads.{is_whole, compared, end_of}

-- the parts of twelve values
module _ (before valid after : ℕ) (body : List ℕ) (nine : length body ≡ 9) where
  abbrev twelve : List ℕ
  twelve = before ∷ valid ∷ (body ++ after ∷ [])

  long : length twelve ≡ 12
  long = let parts = length-append body (after ∷ []) in omega arith

  last : slice_index twelve 11 ≡ after
  last = get_or-append_right body (after ∷ []) 9 9 0 nine (omega arith)

  between : take 9 (drop 2 twelve) ≡ body
  between = ap (λ (n : ℕ). take n (body ++ after ∷ [])) (sym nine) ∙ take-append_seam body (after ∷ [])

  twelve_whole : is_whole twelve ≡ true
  twelve_whole = ap (λ (n : ℕ). (n == 2 && slice_index twelve 1 == 0) || n == 12) long

  twelve_end : end_of twelve ≡ compared body before after
  twelve_end =
      ap (λ (n : ℕ). if n == 2 then NotReady before valid else compared (take 9 (drop 2 twelve)) before (slice_index twelve 11)) long
      ∙ (λ i. compared (between i) before (last i))

equal : (body : List ℕ) (count : ℕ) → compared body count count ≡ Taken (record { number = count / 2; sample = sample_of body })
equal body count =
    let same : (count == count) ≡ true = grind (arith, nat_tests) in
    ap (λ (b : Bool). if b then Taken (record { number = count / 2; sample = sample_of body }) else Clash count count) same

different : (body : List ℕ) (before after : ℕ) → before ≢ after → compared body before after ≡ Clash before after
different body before after differ =
    ap (λ (b : Bool). if b then Taken (record { number = before / 2; sample = sample_of body }) else Clash before after) (ne_eqb before after differ)

-- a reading that ends
pub ends_as : (reading : Reading) (values : List ℕ) → EndsAs reading values → (is_whole values ≡ true) × (end_of values ≡ reading)
ends_as (Taken pair) values ends =
    let made : IsTwelve values ends.0 ends.1 ends.0 = ends.2 in
    let whole : is_whole (ends.0 ∷ made.0 ∷ (ends.1 ++ ends.0 ∷ [])) ≡ true = twelve_whole ends.0 made.0 ends.0 ends.1 made.2 in
    let given : Taken (record { number = ends.0 / 2; sample = sample_of ends.1 }) ≡ Taken pair = λ i. Taken (record { number = sym ends.3 i; sample = sym ends.4 i }) in
    (ap is_whole made.3 ∙ whole, ap end_of made.3 ∙ twelve_end ends.0 made.0 ends.0 ends.1 made.2 ∙ equal ends.1 ends.0 ∙ given)
ends_as (NotReady count valid) values ends =
    (ap is_whole ends.1 ∙ ap (λ (v : ℕ). is_whole (count ∷ v ∷ [])) ends.0, ap end_of ends.1)
ends_as (Clash before after) values ends =
    let made : IsTwelve values before ends.0 after = ends.1 in
    (ap is_whole made.3 ∙ twelve_whole before made.0 after ends.0 made.2, ap end_of made.3 ∙ twelve_end before made.0 after ends.0 made.2 ∙ different ends.0 before after ends.2)

-- a reading that goes on
pub goes_on : (values : List ℕ) (value : ℕ) → length values < 11 → (length values ≡ 1 → 0 < value) → is_whole (values ++ value ∷ []) ≡ false
goes_on [] value few ready = refl
goes_on (count ∷ []) value few ready =
    let some : 0 < value = ready refl in
    ap (λ (b : Bool). b || false) (ne_eqb value 0 (λ none. omega arith))
goes_on (count ∷ valid ∷ body) value few ready =
    let n : ℕ = length (count ∷ valid ∷ (body ++ value ∷ [])) in
    let parts = length-append body (value ∷ []) in
    ap (λ (b : Bool). (b && slice_index (count ∷ valid ∷ (body ++ value ∷ [])) 1 == 0) || n == 12) (ne_eqb n 2 (λ two. omega arith))
    ∙ ne_eqb n 12 (λ all. omega arith)
