-- Stamps that are given one after another, each to one of several shares.
use Rattle.std.specs.Prelude.{◌≡◌, ℕ, ◌==◌, List, [], ◌∷◌, ◌++◌, map, if◌then◌else◌}
use Rattle.gps_fixed.specs.Moment.{Moment}
use Rattle.stamp_shares.specs.declared.view.Given.{Given}
use Rattle.stamp_shares.specs.declared.view.ShareView.{ShareView}

-- the stamps that were given to this one, in order
abbrev pub stamps_for : ℕ → List Given → List Moment
stamps_for whose [] = []
stamps_for whose (g ∷ given) = if g.whose == whose then g.stamp ∷ stamps_for whose given else stamps_for whose given

-- all of them
abbrev pub stamps_in : List Given → List Moment
stamps_in given = map (λ (g : Given). g.stamp) given

-- the share has what was given to it
abbrev pub IsShareOf : List Given → ShareView → Type 0
IsShareOf given share = share.stamps ≡ stamps_for share.whose given

abbrev pub AreShares : List Given → List ShareView → Type 0
AreShares given [] = Unit {0}
AreShares given (share ∷ shares) = IsShareOf given share × AreShares given shares

-- a share to which nothing was given
abbrev pub new_share : ℕ → ShareView
new_share whose = record { whose = whose; stamps = [] }

abbrev pub with_stamp : Moment → ShareView → ShareView
with_stamp stamp share = record { whose = share.whose; stamps = share.stamps ++ stamp ∷ [] }

abbrev pub given_to : Moment → ShareView → Given
given_to stamp share = record { whose = share.whose; stamp = stamp }

-- how many shares were begun, numbered from 0 on, and those that have ended, in the order in which they did
pub record Roll : Type 0 where
  pub begun : ℕ
  pub ended : List ShareView
