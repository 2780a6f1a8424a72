-- The end of a script without an event so far: it writes what it would write on the stage of its declarations.
use Rattle.std.proofs.Common.{◌≡◌, ◌∙◌, ℕ, Bool, true, false, cond, List, [], ◌∷◌, ◌++◌, fold, length, replicate, refl, sym, ap, subst, Result, Ok, Err, OnOk}
use Rattle.std.specs.List.{range_with_len}
use Rattle.book_log.specs.Entries.{ended, stops_in}
use Rattle.replay_player.specs.Ends.{all_ended, closing_lines, closings_at_end, ended_at, last_lines, shut, written_at_end}
use Rattle.replay_player.specs.Playing.{declared_state, state_of}
use Rattle.replay_player.specs.States.{State, came, most_units}

abbrev begun : State → State
begun s = record s { begun = true }

by_test : (t : Bool) (s : State) (d : ℕ) → begun (cond t s (came (ended d) s)) ≡ begun (cond t (begun s) (came (ended d) (begun s)))
unfolding came
by_test true s d = refl
by_test false s d = refl

one_more : (a b : State) (d : ℕ) → begun a ≡ begun b → begun (ended_at a d) ≡ begun (ended_at b d)
one_more a b d same = by_test (stops_in d a.log) a d ∙ ap (λ s. begun (ended_at s d)) same ∙ sym (by_test (stops_in d b.log) b d)

all_more : (ds : List ℕ) (a b : State) → begun a ≡ begun b → begun (fold ended_at a ds) ≡ begun (fold ended_at b ds)
all_more [] a b same = same
all_more (d ∷ ds) a b same = all_more ds (ended_at a d) (ended_at b d) (one_more a b d same)

pub written_same : (names : List (List ℕ)) (firsts : List ℕ)
    → written_at_end (state_of names [] firsts [] (replicate most_units 0) []) ≡ written_at_end (declared_state names firsts)
written_same names firsts =
    ap (λ s. last_lines (shut s))
    (all_more (range_with_len 0 (length names)) (state_of names [] firsts [] (replicate most_units 0) []) (declared_state names firsts) refl)

pub closed_same : (names : List (List ℕ)) (firsts : List ℕ)
    → closings_at_end (state_of names [] firsts [] (replicate most_units 0) []) ≡ closings_at_end (declared_state names firsts)
closed_same names firsts =
    ap (λ s. closing_lines (shut s))
    (all_more (range_with_len 0 (length names)) (state_of names [] firsts [] (replicate most_units 0) []) (declared_state names firsts) refl)
