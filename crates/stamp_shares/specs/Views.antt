-- What each kind of seat of the table of stamps knows.
use Rattle.std.specs.Prelude.{◌≡◌, ℕ, true, false, List, [], ◌∷◌, ◌++◌}
use Rattle.atomic_table.specs.Seated.{TableId}
use Rattle.atomic_table.specs.Table.{Me}
use Rattle.stamp_shares.specs.declared.view.Given.{Given}
use Rattle.stamp_shares.specs.declared.view.SeatView.{SeatView}
use Rattle.stamp_shares.specs.declared.view.ShareView.{ShareView}
use Rattle.stamp_shares.specs.Shares.{new_share}

-- the first seat
abbrev pub opening_view : SeatView
opening_view = record { gives = true; given = []; counts = true; begun = 0; shares = [] }

-- the seat that gives
abbrev pub giving : List Given → SeatView
giving given = record { gives = true; given = given; counts = false; begun = 0; shares = [] }

-- the seat that begins shares, and takes in those that have ended
abbrev pub counting : ℕ → List ShareView → SeatView
counting begun shares = record { gives = false; given = []; counts = true; begun = begun; shares = shares }

-- the seat of one share
abbrev pub holding : ShareView → SeatView
holding share = record { gives = false; given = []; counts = false; begun = 0; shares = share ∷ [] }

-- a seat that knows nothing
abbrev pub nothing : SeatView
nothing = record { gives = false; given = []; counts = false; begun = 0; shares = [] }

-- a seat that takes in the shares of another
abbrev pub gathering : SeatView → SeatView → SeatView
gathering v w = record { gives = v.gives; given = v.given; counts = v.counts; begun = v.begun; shares = v.shares ++ w.shares }

-- the share that a seat holds
abbrev pub first_share : List ShareView → ShareView
first_share [] = new_share 0
first_share (share ∷ shares) = share

abbrev pub share_in : SeatView → ShareView
share_in v = first_share v.shares

-- seats of this table
abbrev pub IsGiver : TableId → TableId → Me (Unit {0}) SeatView → Type 0
IsGiver table at me = (at ≡ table) × (me ≡ (giving me.0.given, []))

abbrev pub IsCounter : TableId → TableId → Me (Unit {0}) SeatView → Type 0
IsCounter table at me = (at ≡ table) × (me ≡ (counting me.0.begun me.0.shares, []))

abbrev pub IsHolder : TableId → TableId → Me (Unit {0}) SeatView → Type 0
IsHolder table at me = (at ≡ table) × (me ≡ (holding (share_in me.0), []))
