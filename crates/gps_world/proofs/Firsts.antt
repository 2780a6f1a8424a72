-- The first source of a place.
use Rattle.std.proofs.Common.{◌≡◌, ◌≢◌, ℕ, suc, ◌+◌, ◌<◌, ◌≤◌, Bool, true, false, not, cond, true≢false, List, [], ◌∷◌, length, Option, Some, None, IfSome, refl, sym, ◌∙◌, ap, subst, arith, slice_index_or, option_map, if◌then◌else◌}
use Rattle.std.proofs.lemmas.Option.{none-some}
use Rattle.std.specs.List.{prefix_len, remove}
use Rattle.std.specs.Option.{option_and_then}
use Rattle.std.specs.Cmp.Lexicographic.{same_text}
use Rattle.gps_outside.specs.Told.{Stream}
use Rattle.gps_world.specs.declared.place.Place.{Place}
use Rattle.gps_world.specs.declared.place.Place.TheVariants.{File, Tcp, Gpsd}
use Rattle.gps_world.specs.Opening.{IsAllLeft}
use Rattle.gps_world.specs.Places.{same_place}
use Rattle.gps_world.specs.MemoryWorlds.{source_at, without_first, differs, HaveSources, bytes_at}

pub same_is : (one two : Place) → same_place one two ≡ true → one ≡ two
same_is (File one) (File two) e = ap File (same_text one two (sym e))
same_is (Tcp one) (Tcp two) e = ap Tcp (same_text one two (sym e))
same_is (Gpsd one) (Gpsd two) e = ap Gpsd (same_text one two (sym e))
same_is (File one) (Tcp two) e = absurd (true≢false (sym e))
same_is (File one) (Gpsd two) e = absurd (true≢false (sym e))
same_is (Tcp one) (File two) e = absurd (true≢false (sym e))
same_is (Tcp one) (Gpsd two) e = absurd (true≢false (sym e))
same_is (Gpsd one) (File two) e = absurd (true≢false (sym e))
same_is (Gpsd one) (Tcp two) e = absurd (true≢false (sym e))

apart : (one two three : Place) → three ≢ two → same_place one two ≡ true → (these : Bool) → same_place one three ≡ these → these ≡ false
apart one two three differ same true e = absurd (differ (sym (same_is one three e) ∙ same_is one two same))
apart one two three differ same false e = refl

held : (content : Option Stream) → IfSome content (λ (stream : Stream). stream.taken ≡ []) → IsAllLeft (option_map (λ (stream : Stream). stream.left) content) content
held None nothing = tt
held (Some stream) nothing = ap (λ (taken : List ℕ). Some (record { taken = taken; left = stream.left })) nothing

module _ {I : Type 0} where
  -- what `take_first` gives and leaves, if k sources of other places come before
  abbrev pub TakesFirst : Option I → List (Place × I) → List (Place × I) → ℕ → Place × I → Type 0
  TakesFirst source rest places k gave = (source ≡ Some gave.1) × (rest ≡ remove places k)

  found_step : (same : Bool) (first : Place × I) (rest : List (Place × I)) (k next : ℕ) (source : Option I) (without : List (Place × I)) (gave : Place × I)
      → next ≡ suc k
      → (k < length rest → gave ≡ slice_index_or rest k gave → TakesFirst source without rest k gave)
      → cond (not same) next 0 < length (first ∷ rest)
      → gave ≡ slice_index_or (first ∷ rest) (cond (not same) next 0) gave
      → TakesFirst (if same then Some first.1 else source) (if same then rest else first ∷ without) (first ∷ rest) (cond (not same) next 0) gave
  found_step true first rest k next source without gave e on less is = (ap (λ (p : Place × I). Some p.1) (sym is), refl)
  found_step false first rest k next source without gave e on less is =
      let h : TakesFirst source without rest k gave = on (omega (arith, less, e)) (is ∙ ap (λ n. slice_index_or (first ∷ rest) n gave) e) in
      (h.0, ap (λ l. first ∷ l) h.1 ∙ ap (λ n. remove (first ∷ rest) n) (sym e))

  missing_step : (same : Bool) (first : Place × I) (rest : List (Place × I)) (k next : ℕ) (source : Option I) (without : List (Place × I))
      → next ≡ suc k
      → (length rest ≤ k → (source ≡ None) × (without ≡ rest))
      → length (first ∷ rest) ≤ cond (not same) next 0
      → ((if same then Some first.1 else source) ≡ None) × ((if same then rest else first ∷ without) ≡ first ∷ rest)
  missing_step true first rest k next source without e on less = absurd (omega (arith, less))
  missing_step false first rest k next source without e on less =
      let h : (source ≡ None) × (without ≡ rest) = on (omega (arith, less, e)) in
      (h.0, ap (λ l. first ∷ l) h.1)

  pub found_takes : (place : Place) (places : List (Place × I)) (gave : Place × I)
      → prefix_len (differs place) places < length places
      → gave ≡ slice_index_or places (prefix_len (differs place) places) gave
      → TakesFirst (source_at place places) (without_first place places) places (prefix_len (differs place) places) gave
  unfolding source_at without_first
  found_takes place [] gave less is = absurd (omega (arith, less))
  found_takes place (first ∷ rest) gave less is =
      found_step (same_place first.0 place) first rest (prefix_len (differs place) rest) (1 + prefix_len (differs place) rest) (source_at place rest) (without_first place rest) gave
      (omega arith) (λ l e. found_takes place rest gave l e) less is

  pub missing_takes : (place : Place) (places : List (Place × I))
      → length places ≤ prefix_len (differs place) places
      → (source_at place places ≡ None) × (without_first place places ≡ places)
  unfolding source_at without_first
  missing_takes place [] less = (refl, refl)
  missing_takes place (first ∷ rest) less =
      missing_step (same_place first.0 place) first rest (prefix_len (differs place) rest) (1 + prefix_len (differs place) rest) (source_at place rest) (without_first place rest)
      (omega arith) (λ l. missing_takes place rest l) less

  have_step : (P : I → Type 0) (same : Bool) (first : Place × I) (rest without : List (Place × I))
      → (HaveSources P rest → HaveSources P without)
      → HaveSources P (first ∷ rest) → HaveSources P (if same then rest else first ∷ without)
  have_step P true first rest without on have = have.1
  have_step P false first rest without on have = (have.0, on have.1)

  pub have_rest : (P : I → Type 0) (place : Place) (places : List (Place × I)) → HaveSources P places → HaveSources P (without_first place places)
  unfolding without_first
  have_rest P place [] have = have
  have_rest P place (first ∷ rest) have = have_step P (same_place first.0 place) first rest (without_first place rest) (have_rest P place rest) have

  first_step : (P : I → Type 0) (same : Bool) (first : Place × I) (source : Option I) (gave : I)
      → (source ≡ Some gave → P gave)
      → P first.1 → (if same then Some first.1 else source) ≡ Some gave → P gave
  first_step P true first source gave on have is = subst (λ (o : Option I). IfSome o P) is have
  first_step P false first source gave on have is = on is

  pub have_first : (P : I → Type 0) (place : Place) (places : List (Place × I)) (gave : I) → HaveSources P places → source_at place places ≡ Some gave → P gave
  unfolding source_at
  have_first P place [] gave have is = absurd (none-some gave is)
  have_first P place (first ∷ rest) gave have is =
      first_step P (same_place first.0 place) first (source_at place rest) gave (have_first P place rest gave have.1) have.0 is

  -- the sources of another place stay
  other_step : (same these : Bool) (first : Place × I) (rest without : List (Place × I)) (other : Place)
      → (same ≡ true → these ≡ false) → these ≡ same_place first.0 other
      → source_at other without ≡ source_at other rest
      → source_at other (if same then rest else first ∷ without) ≡ (if these then Some first.1 else source_at other rest)
  unfolding source_at
  other_step true true first rest without other apart is on = absurd (true≢false (apart refl))
  other_step true false first rest without other apart is on = refl
  other_step false these first rest without other apart is on =
      ap (λ b. if b then Some first.1 else source_at other without) (sym is) ∙ ap (λ o. if these then Some first.1 else o) on

  pub other_stays : (place other : Place) (places : List (Place × I)) → other ≢ place → source_at other (without_first place places) ≡ source_at other places
  unfolding source_at without_first
  other_stays place other [] differ = refl
  other_stays place other (first ∷ rest) differ =
      other_step (same_place first.0 place) (same_place first.0 other) first rest (without_first place rest) other
      (λ e. apart first.0 place other differ e (same_place first.0 other) refl) refl (other_stays place other rest differ)

  pub bytes_stay : (content : I → Option Stream) (place other : Place) (places : List (Place × I))
      → other ≢ place → bytes_at content (without_first place places) other ≡ bytes_at content places other
  bytes_stay content place other places differ =
      ap (λ o. option_and_then (λ source. option_map (λ (stream : Stream). stream.left) (content source)) o) (other_stays place other places differ)

  pub holds_all : (content : I → Option Stream) (place : Place) (places : List (Place × I)) (source : I)
      → source_at place places ≡ Some source
      → IfSome (content source) (λ (stream : Stream). stream.taken ≡ [])
      → IsAllLeft (bytes_at content places place) (content source)
  holds_all content place places source is nothing =
      rw is (held (content source) nothing)
