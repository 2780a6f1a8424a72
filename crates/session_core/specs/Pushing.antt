-- The results of a push, case by case.
use Rattle.session_core.specs.declared.outlet.Push.{Push}
use Rattle.session_core.specs.declared.outlet.Push.TheVariants.{Done, Full}

-- a fact for each answer of a push
abbrev pub MatchPush : Push → Type 0 → Type 0 → Type 0
MatchPush Done done full = done
MatchPush Full done full = full
