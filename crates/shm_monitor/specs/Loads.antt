-- How a monitor's view changes by each of its loads, and what the load shows.
use Rattle.std.specs.Prelude.{◌≡◌, ℕ, ◌+◌, ◌*◌, ◌/◌, ◌^◌, ◌<◌, ◌≤◌, List, [], ◌∷◌, ◌++◌, length, ◌==◌, nat_le, if◌then◌else◌}
use Rattle.std.specs.List.{All}
use Rattle.shm_segment.specs.declared.view.KnownSamples.{KnownSamples}
use Rattle.shm_segment.specs.declared.view.Load.{Load}
use Rattle.shm_segment.specs.declared.view.Numbered.{Numbered}
use Rattle.shm_segment.specs.declared.view.View.{View}
use Rattle.shm_segment.specs.Samples.{IsBody, sample_of}
use Rattle.shm_segment.specs.Words.{published_after}
use Rattle.shm_segment.specs.Views.{nothing}
use Rattle.shm_segment.specs.Rule.{IsPublished, last_from}

abbrev pub load : ℕ → ℕ → ℕ → Load
load told word value = record { told = told; word = word; value = value }

-- the view after one more load of this word, with these pairs and this reading
abbrev pub loaded : View → ℕ → ℕ → List Numbered → List ℕ → View
loaded v word value taken reading =
    record {
      role = v.role;
      first = v.first;
      known = v.known;
      met = v.met;
      taken = taken;
      kept = v.kept ++ load v.known.stores word value ∷ [];
      reading = reading;
    }

-- the first count begins a reading
abbrev pub counted : View → ℕ → View
counted v count = loaded v 1 count v.taken (count ∷ [])

-- twice the last taken number is not above it, nor twice any number that a met notice reaches
pub record IsFirstCount (v : View) (count : ℕ) : Type 0 where
  pub last : 2 * last_from 0 v.taken ≤ count
  pub told : 2 * (v.first + published_after v.known.stores) ≤ count
  pub fits : count < 2 ^ 32

-- a valid of 0 ends the reading
abbrev pub validated : View → ℕ → View
validated v valid = loaded v 9 valid v.taken (if valid == 0 then [] else v.reading ++ valid ∷ [])

abbrev pub read : View → ℕ → ℕ → View
read v word value = loaded v word value v.taken (v.reading ++ value ∷ [])

-- the pairs after the second count: with one more if it equals the first
abbrev pub taken_after : List Numbered → List ℕ → ℕ → List Numbered
taken_after taken (count ∷ valid ∷ body) again =
    if again == count then taken ++ record { number = again / 2; sample = sample_of body } ∷ [] else taken
taken_after taken reading again = taken

abbrev pub recounted : View → ℕ → View
recounted v again = loaded v 1 again (taken_after v.taken v.reading again) []

-- the valid of the reading was not 0; if both counts are equal its body is that of a sample, and its number is not below the last
pub record IsLastCount (last count valid : ℕ) (body : List ℕ) (again : ℕ) : Type 0 where
  pub ready : 0 < valid
  pub fits : again < 2 ^ 32
  pub whole : again ≡ count → IsBody body × (last ≤ again / 2)

-- of two, that after more stores
abbrev pub later_of : KnownSamples → KnownSamples → KnownSamples
later_of k l = if nat_le k.stores l.stores then l else k

-- a load at which the pairs and the notice that is met agree
abbrev pub agreed : View → View
agreed v =
    record { role = v.role; first = v.first; known = later_of v.known v.met; met = nothing; taken = v.taken; kept = v.kept; reading = v.reading }

-- each pair whose number these stores reach is the sample of its number in this list
abbrev pub Agrees : ℕ → KnownSamples → List Numbered → Type 0
Agrees first k taken =
    All (λ (pair : Numbered). pair.number ≤ first + published_after k.stores → IsPublished first k.samples k.stores pair) taken

-- what the second count of a reading shows
abbrev pub IsRecounted : View → ℕ → Type 0
IsRecounted v again = (count valid : ℕ) (body : List ℕ) → v.reading ≡ count ∷ valid ∷ body → length body ≡ 9 → IsLastCount (last_from 0 v.taken) count valid body again
