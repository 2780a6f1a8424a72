-- What each kind of seat knows, and how the publisher's seat changes.
use Rattle.std.specs.Prelude.{ℕ, ◌+◌, List, [], ◌∷◌, ◌++◌}
use Rattle.shm_segment.specs.declared.sample.Sample.{Sample}
use Rattle.shm_segment.specs.declared.view.KnownSamples.{KnownSamples}
use Rattle.shm_segment.specs.declared.view.Load.{Load}
use Rattle.shm_segment.specs.declared.view.Numbered.{Numbered}
use Rattle.shm_segment.specs.declared.view.Role.TheVariants.{Publishes, Notices, Monitors, Accounts, Spent}
use Rattle.shm_segment.specs.declared.view.View.{View}

abbrev pub known : List Sample → ℕ → KnownSamples
known samples stores = record { samples = samples; stores = stores }

abbrev pub nothing : KnownSamples
nothing = known [] 0

-- the publisher after this many stores of these samples
abbrev pub publisher : ℕ → List Sample → ℕ → View
publisher first samples stores =
    record { role = Publishes; first = first; known = known samples stores; met = nothing; taken = []; kept = []; reading = [] }

abbrev pub notice : ℕ → List Sample → ℕ → View
notice first samples stores =
    record { role = Notices; first = first; known = known samples stores; met = nothing; taken = []; kept = []; reading = [] }

-- a monitor that has taken nothing and knows of nothing
abbrev pub newcomer : ℕ → View
newcomer first =
    record { role = Monitors; first = first; known = nothing; met = nothing; taken = []; kept = []; reading = [] }

abbrev pub account : ℕ → List Numbered → List Load → View
account first taken kept =
    record { role = Accounts; first = first; known = nothing; met = nothing; taken = taken; kept = kept; reading = [] }

-- what a seat leaves that was joined to another
abbrev pub spent : View
spent = record { role = Spent; first = 0; known = nothing; met = nothing; taken = []; kept = []; reading = [] }

-- after the first store of this sample
abbrev pub begun : View → Sample → View
begun v sample = publisher v.first (v.known.samples ++ sample ∷ []) (v.known.stores + 1)

-- after any other store
abbrev pub stored : View → View
stored v = publisher v.first v.known.samples (v.known.stores + 1)

-- after a load that made the samples agree with an account
abbrev pub heard : View → View
heard v = publisher v.first v.known.samples v.known.stores

-- a notice of what the publisher published
abbrev pub notice_of : View → View
notice_of v = notice v.first v.known.samples v.known.stores

abbrev pub newcomer_of : View → View
newcomer_of v = newcomer v.first

abbrev pub account_of : View → View
account_of v = account v.first v.taken v.kept

-- a view that takes an account in
abbrev pub with_account : View → View → View
with_account v w =
    record { role = v.role; first = v.first; known = v.known; met = v.met; taken = w.taken; kept = w.kept; reading = v.reading }

-- a view that takes a notice in
abbrev pub with_notice : View → View → View
with_notice v w =
    record { role = v.role; first = v.first; known = v.known; met = w.known; taken = v.taken; kept = v.kept; reading = v.reading }
