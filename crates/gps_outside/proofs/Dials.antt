-- A clock that gives the stamps of a list in order.
use Rattle.std.proofs.Common.{◌≡◌, ℕ, ◌+◌, ◌<◌, List, [], ◌∷◌, ◌++◌, length, get_or, drop, inl, refl, sym, subst, arith}
use Rattle.std.proofs.lemmas.Grind.{common_steps}
use Rattle.gps_fixed.specs.Moment.{Moment}
use Rattle.gps_outside.specs.Ticks.{Dial, Gives, GivesAll}

abbrev pub dial_at : ℕ → List Moment → Moment → Dial
dial_at at stamps last = record { may = stamps ++ last ∷ []; left = drop at stamps }

pub gives_at : (at : ℕ) (stamps : List Moment) (last stamp : Moment)
    → at < length stamps → stamp ≡ get_or stamps at stamp
    → Gives stamp (dial_at at stamps last) (dial_at (at + 1) stamps last)
gives_at at stamps last stamp inside is = record {
  allowed = (at, (grind (arith, common_steps), grind (arith, common_steps)));
  same = refl;
  next = inl (grind (arith, common_steps));
}

-- one stamp more
pub gives_more : (stamps : List Moment) (stamp : Moment) (x y z : Dial)
    → GivesAll stamps x y → Gives stamp y z → GivesAll (stamps ++ stamp ∷ []) x z
gives_more [] stamp x y z same given = (z, (subst (λ d. Gives stamp d z) (sym same) given, refl))
gives_more (first ∷ stamps) stamp x y z all last =
    (all.0, (all.1.0, gives_more stamps stamp all.0 y z all.1.1 last))
