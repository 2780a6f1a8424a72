-- What each kind of seat of a hand-off segment knows, and how each step changes the view of its seat.
use Rattle.std.specs.Prelude.{ℕ, ◌+◌, ◌/◌, List, [], ◌∷◌, ◌++◌, Option, Some, None, ◌==◌, if◌then◌else◌}
use Rattle.shm_segment.specs.declared.sample.Sample.{Sample}
use Rattle.shm_segment.specs.declared.view.KnownSamples.{KnownSamples}
use Rattle.shm_segment.specs.declared.view.Numbered.{Numbered}
use Rattle.shm_segment.specs.Samples.{sample_of}
use Rattle.shm_segment.specs.Views.{known, nothing}
use Rattle.shm_consumer.specs.declared.view.Access.{Access}
use Rattle.shm_consumer.specs.declared.view.Access.TheVariants.{Load, Store}
use Rattle.shm_consumer.specs.declared.view.Role.{Role}
use Rattle.shm_consumer.specs.declared.view.Role.TheVariants.{Opens, Gives, Takes, Notices, Spent}
use Rattle.shm_consumer.specs.declared.view.View.{View}

-- a seat that has consumed nothing and reads nothing
abbrev pub idle : Role → ℕ → KnownSamples → View
idle role first k =
    record { role = role; first = first; known = k; consumed = []; made = []; reading = []; read = None }

-- the first seat, before the giver and the taker are parted
abbrev pub opener : ℕ → View
opener first = idle Opens first nothing

-- the giver after this many stores of these samples
abbrev pub giver : ℕ → List Sample → ℕ → View
giver first samples stores = idle Gives first (known samples stores)

-- a taker that has consumed nothing
abbrev pub newcomer : ℕ → View
newcomer first = idle Takes first nothing

abbrev pub notice : ℕ → List Sample → ℕ → View
notice first samples stores = idle Notices first (known samples stores)

-- what a seat leaves that was joined to another
abbrev pub spent : View
spent = idle Spent 0 nothing

-- the giver's seat and the taker's, cut off the first
abbrev pub giver_of : View → View
giver_of v = giver v.first [] 0

abbrev pub newcomer_of : View → View
newcomer_of v = newcomer v.first

-- a notice of what the giver published
abbrev pub notice_of : View → View
notice_of v = notice v.first v.known.samples v.known.stores

-- after the first store of this sample
abbrev pub begun : View → Sample → View
begun v sample = giver v.first (v.known.samples ++ sample ∷ []) (v.known.stores + 1)

-- after any other store of the giver
abbrev pub stored : View → View
stored v = giver v.first v.known.samples (v.known.stores + 1)

-- the taker's view after one more of its steps, with this reading and this pair read
abbrev pub after : View → Access → List ℕ → Option Numbered → View
after v access reading read =
    record {
      role = v.role;
      first = v.first;
      known = v.known;
      consumed = v.consumed;
      made = v.made ++ access ∷ [];
      reading = reading;
      read = read;
    }

-- the first count begins a reading, and drops one that was not ended
abbrev pub counted : View → ℕ → View
counted v count = after v (Load 1 count) (count ∷ []) None

-- a valid of 0 ends the reading
abbrev pub validated : View → ℕ → View
validated v valid = after v (Load 9 valid) (if valid == 0 then [] else v.reading ++ valid ∷ []) None

abbrev pub fetched : View → ℕ → ℕ → View
fetched v word value = after v (Load word value) (v.reading ++ value ∷ []) None

-- what was read between two equal counts: the sample of the body, whose number is half of the count
abbrev pub pair_of : ℕ → List ℕ → Numbered
pair_of count body = record { number = count / 2; sample = sample_of body }

-- the pair read, after this second count
abbrev pub pair_after : List ℕ → ℕ → Option Numbered
pair_after (count ∷ valid ∷ body) again = if again == count then Some (pair_of count body) else None
pair_after reading again = None

abbrev pub recounted : View → ℕ → View
recounted v again = after v (Load 1 again) [] (pair_after v.reading again)

-- the pairs with one more, if there is one
abbrev pub consumed_with : Option Numbered → List Numbered → List Numbered
consumed_with None pairs = pairs
consumed_with (Some pair) pairs = pairs ++ pair ∷ []

-- the pair that was read is consumed
abbrev pub cleared : View → View
cleared v =
    record {
      role = v.role;
      first = v.first;
      known = v.known;
      consumed = consumed_with v.read v.consumed;
      made = v.made ++ Store 9 0 ∷ [];
      reading = [];
      read = None;
    }

-- a view that takes a notice in
abbrev pub with_notice : View → View → View
with_notice v w =
    record {
      role = v.role;
      first = v.first;
      known = w.known;
      consumed = v.consumed;
      made = v.made;
      reading = v.reading;
      read = v.read;
    }
