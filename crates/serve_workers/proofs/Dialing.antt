-- A clock keeps the stamps that it may give, and gives one after another.
use Rattle.std.proofs.Common.{◌≡◌, List, [], ◌∷◌, ◌++◌, Option, Some, None, refl, sym, ◌∙◌, ap, subst}
use Rattle.std.proofs.lemmas.List.{map-append}
use Rattle.std.specs.List.{IsAmong}
use Rattle.gps_fixed.specs.Moment.{Moment}
use Rattle.gps_outside.specs.Told.{Goes}
use Rattle.gps_outside.specs.Ticks.{Dial, Gives, GivesAll}
use Rattle.gps_outside.proofs.Dials.{gives_more}
use Rattle.gps_outside.proofs.Going.{goes_on}
use Rattle.stamp_shares.specs.declared.view.Given.{Given}
use Rattle.stamp_shares.specs.declared.view.ShareView.{ShareView}
use Rattle.stamp_shares.specs.Shares.{given_to, stamps_in}
use Rattle.serve_workers.specs.Clocks.{Gave, IsAllowed, MayGive}

pub gives_allowed : (may : Option (List Moment)) (at : Moment) (before after : Option Dial)
    → MayGive may before → Goes (Gives at) before after → IsAllowed may at
gives_allowed None at before after told gives = tt
gives_allowed (Some may) at None after told gives = absurd told
gives_allowed (Some may) at (Some x) None told gives = absurd gives
gives_allowed (Some may) at (Some x) (Some y) told gives = subst (λ l. IsAmong l at) told gives.allowed

pub may_still : (may : Option (List Moment)) (at : Moment) (before after : Option Dial)
    → MayGive may before → Goes (Gives at) before after → MayGive may after
may_still None at before after told gives = tt
may_still (Some may) at None after told gives = absurd told
may_still (Some may) at (Some x) None told gives = absurd gives
may_still (Some may) at (Some x) (Some y) told gives = gives.same ∙ told

nothing_yet : (now : Option Dial) → Goes (GivesAll []) now now
nothing_yet None = tt
nothing_yet (Some dial) = refl

-- a clock that is not shared yet
pub none_gave : (given : List Given) (first now : Option Dial) → first ≡ now → given ≡ [] → Goes (GivesAll (stamps_in given)) first now
none_gave given first now same none =
    subst (λ l. Goes (GivesAll (stamps_in l)) first now) (sym none) (subst (λ d. Goes (GivesAll []) d now) (sym same) (nothing_yet now))

-- one stamp more
pub gave_more : (given given' : List Given) (at : Moment) (share : ShareView) (first before after : Option Dial) → given' ≡ given ++ given_to at share ∷ []
    → Goes (GivesAll (stamps_in given)) first before → Goes (Gives at) before after → Goes (GivesAll (stamps_in given')) first after
gave_more given given' at share first before after is all one =
    subst (λ l. Goes (GivesAll l) first after) (sym (ap stamps_in is ∙ map-append (λ (g : Given). g.stamp) given (given_to at share ∷ [])))
    (goes_on (GivesAll (stamps_in given)) (Gives at) (GivesAll (stamps_in given ++ at ∷ [])) first before after (gives_more (stamps_in given) at) all one)

pub gave : (given : List Given) (first now : Option Dial) → Goes (GivesAll (stamps_in given)) first now → Gave first (stamps_in given)
gave given None now goes = tt
gave given (Some dial) None goes = absurd goes
gave given (Some dial) (Some now) goes = (now, goes)
