-- What holds of a content that is modelled, step after step.
use Rattle.std.proofs.Common.{Option, Some, None, inl, refl}
use Rattle.gps_outside.specs.Told.{Goes, MayLose, Stream}

pub goes_as : {X : Type 0} (P Q : X → X → Type 0) (a b : Option X)
    → ((x y : X) → P x y → Q x y)
    → Goes P a b → Goes Q a b
goes_as P Q None b same p = tt
goes_as P Q (Some x) None same p = absurd p
goes_as P Q (Some x) (Some y) same p = same x y p

pub goes_on : {X : Type 0} (P Q R : X → X → Type 0) (a b c : Option X)
    → ((x y z : X) → P x y → Q y z → R x z)
    → Goes P a b → Goes Q b c → Goes R a c
goes_on P Q R None b c step p q = tt
goes_on P Q R (Some x) None c step p q = absurd p
goes_on P Q R (Some x) (Some y) None step p q = absurd q
goes_on P Q R (Some x) (Some y) (Some z) step p q = step x y z p q

-- what is left need not be lost
pub loses_nothing : (now : Option Stream) → Goes MayLose now now
loses_nothing None = tt
loses_nothing (Some now) = record { same = refl; lost = inl refl }
