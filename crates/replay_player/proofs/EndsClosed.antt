-- At a script's end the closing line of each session is written, without its items.
use Rattle.std.proofs.Common.{◌≡◌, ◌<◌, ℕ, ◌+◌, List, [], ◌∷◌, ◌++◌, length, drop, slice_get, Some, Result, Ok, Err, OnOk, refl, sym, ap, ◌∙◌, subst, append-nil, append_assoc, arith}
use Rattle.std.specs.List.{flat_map, range_with_len}
use Rattle.gps_fixed.specs.declared.no_memory.NoMemory.{NoMemory}
use Rattle.replay_player.specs.Clients.{Client, items_of}
use Rattle.replay_player.specs.Ending.{HaveStopped}
use Rattle.replay_player.specs.Ends.{all_closed, all_ended, closings_at_end, counted, end_line, published, shut}
use Rattle.replay_player.specs.Playing.{Attends, BookStandsFor, ReplayBookView}
use Rattle.replay_player.specs.States.{State, units_in}
use Rattle.replay_player.proofs.EndsDevices.{have_stopped}
use Rattle.replay_player.proofs.EndsDrained.{drop_all, drop_at}
use Rattle.replay_player.proofs.Seating.{long_same}
use Rattle.replay_player.proofs.Taking.{client_there}

-- the line of a client
abbrev line_at : State → ℕ → Client → List ℕ
line_at state n c = end_line n c.run.closing (counted (items_of state.names state.log c))

-- the lines of those below n are written: what is left to write is the same as at first
abbrev pub ClosedSoFar : ReplayBookView → ℕ → List ℕ → List ℕ → Type 0
ClosedSoFar s n out out' = (state : State) → BookStandsFor s state
    → out' ++ all_closed state.names state.log n (drop n state.clients) ≡ out ++ all_closed state.names state.log 0 state.clients

pub none_closed : (s : ReplayBookView) (out : List ℕ) → ClosedSoFar s 0 out out
none_closed s out = λ state plays. refl

pub one_more_closed : (s : ReplayBookView) (n : ℕ) (out out' out'' : List ℕ) → n < length s.book.sessions → ClosedSoFar s n out out'
    → ((state : State) (c : Client) → BookStandsFor s state → slice_get state.clients n ≡ Some c → out'' ≡ out' ++ line_at state n c) → ClosedSoFar s (n + 1) out out''
unfolding all_closed
one_more_closed s n out out' out'' below so_far step = λ state plays.
    let found = client_there s state n plays below in
    let c = found.0 in
    let there : slice_get state.clients n ≡ Some c = found.1 in
    let rest = all_closed state.names state.log (n + 1) (drop (n + 1) state.clients) in
    ap (λ l. l ++ rest) (step state c plays there)
    ∙ append_assoc out' (line_at state n c) rest
    ∙ ap (λ l. out' ++ all_closed state.names state.log n l) (sym (drop_at n state.clients c there))
    ∙ so_far state plays

pub every_one_closed : (s : ReplayBookView) (n : ℕ) (out out' : List ℕ) → n ≡ length s.book.sessions → ClosedSoFar s n out out'
    → (state : State) → BookStandsFor s state → out' ≡ out ++ all_closed state.names state.log 0 state.clients
unfolding all_closed
every_one_closed s n out out' all so_far state plays =
    let C : State → Type 0 = λ st. length s.book.sessions ≡ length st.clients in
    let long : C state = subst C plays.is (long_same (Attends s.book.names plays.before s.book.log.log) s.book.sessions plays.clients plays.standing.clients_are) in
    let none : drop n state.clients ≡ [] = drop_all n state.clients (omega (arith, all, long)) in
    sym (append-nil out') ∙ ap (λ l. out' ++ all_closed state.names state.log n l) (sym none) ∙ so_far state plays

pub whole_closed : (s ended closed : ReplayBookView) (out out' out'' : List ℕ) (done : Result (Unit {0}) NoMemory)
    → ((state : State) → BookStandsFor s state → BookStandsFor ended (all_ended state))
    → ((state : State) → BookStandsFor ended state → HaveStopped state → BookStandsFor closed (shut state))
    → ((state : State) → BookStandsFor closed state → out' ≡ out ++ all_closed state.names state.log 0 state.clients)
    → ((state : State) → BookStandsFor closed state → OnOk done (out'' ≡ out' ++ flat_map (published state) (range_with_len 0 (units_in state))))
    → (state : State) → BookStandsFor s state → OnOk done (out'' ≡ out ++ closings_at_end state)
whole_closed s ended closed out out' out'' (Err fault) ends shuts closes shows state plays = tt
whole_closed s ended closed out out' out'' (Ok u) ends shuts closes shows state plays =
    let at = shut (all_ended state) in
    let stands : BookStandsFor closed at = shuts (all_ended state) (ends state plays) (have_stopped state) in
    let lines = all_closed at.names at.log 0 at.clients in
    let rest = flat_map (published at) (range_with_len 0 (units_in at)) in
    shows at stands ∙ ap (λ l. l ++ rest) (closes at stands) ∙ append_assoc out lines rest
