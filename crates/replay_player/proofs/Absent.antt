-- If there is no such session, unit or monitor, the line is refused.
use Rattle.std.proofs.Common.{◌≡◌, ◌≢◌, ℕ, false, ◌&&◌, ◌||◌, not, nat_lt, nat_eq, List, [], ◌∷◌, ◌++◌, length, slice_get, None, Ok, option_and_then, option_map, refl, sym, ap, ◌∙◌, subst, inl, inr, arith}
use Rattle.std.proofs.lemmas.Bool.{ltb-false, ne_eqb}
use Rattle.session_core.specs.declared.mark.Close.TheVariants.{HungUp}
use Rattle.book_sessions.specs.Roster.{most_live, most_opened}
use Rattle.replay_player.specs.declared.event_step.EventStep.TheVariants.{Refused}
use Rattle.replay_player.specs.Clients.{Client, after_take, closed, is_open, next_taken, opened, served}
use Rattle.replay_player.specs.Effects.{allowed, changes, hangs, hears, opens, item_lines, quietly, takes, with_client}
use Rattle.replay_player.specs.Playing.{Acts, Attends, BookStandsFor, ReplayBookView, state_of}
use Rattle.replay_player.specs.States.{State, live_in}
use Rattle.replay_player.proofs.Seating.{long_same, zip_at}

-- no client of this number
no_client : (s : ReplayBookView) (state : State) (n : ℕ) → BookStandsFor s state → nat_lt n (length s.book.sessions) ≡ false → slice_get state.clients n ≡ None
no_client s state n plays none =
    let P : State → Type 0 = λ st. slice_get st.clients n ≡ None in
    subst P plays.is (elim (zip_at (Attends s.book.names plays.before s.book.log.log) s.book.sessions plays.clients n plays.standing.clients_are) [
      | inl both ↦ absurd (let past = ltb-false n (length s.book.sessions) none in let there = both.there in omega (arith, past, there))
      | inr neither ↦ neither.second
    ])

changes_none : (s : ReplayBookView) (state : State) (n : ℕ) (next : Client → Client) → BookStandsFor s state → nat_lt n (length s.book.sessions) ≡ false → changes n next state ≡ None
changes_none s state n next plays none =
    ap (λ o. option_and_then (λ (c : Client). allowed (is_open c) (quietly (with_client n (next c) state))) o) (no_client s state n plays none)

pub hears_none : (s : ReplayBookView) (state : State) (n : ℕ) (piece : List ℕ) → BookStandsFor s state → nat_lt n (length s.book.sessions) ≡ false → Acts (Ok Refused) (hears n piece state) s [] []
unfolding hears
hears_none s state n piece plays none = (changes_none s state n (served state.names state.log piece) plays none, refl)

pub hangs_none : (s : ReplayBookView) (state : State) (n : ℕ) → BookStandsFor s state → nat_lt n (length s.book.sessions) ≡ false → Acts (Ok Refused) (hangs n state) s [] []
unfolding hangs
hangs_none s state n plays none = (changes_none s state n (closed state.log HungUp) plays none, refl)

pub takes_none : (s : ReplayBookView) (state : State) (n most : ℕ) (out : List ℕ) → BookStandsFor s state → nat_lt n (length s.book.sessions) ≡ false → Acts (Ok Refused) (takes n most state) s out out
unfolding takes
takes_none s state n most out plays none = (
  ap (λ o. option_map (λ (c : Client). record {
    state = with_client n (after_take most state.names state.log c) state;
    written = item_lines n (next_taken most state.names state.log c);
  }) o) (no_client s state n plays none),
  refl,
)

pub opens_none : (s : ReplayBookView) (state : State) (n cap : ℕ) → BookStandsFor s state → n ≢ length s.book.sessions → Acts (Ok Refused) (opens n cap state) s [] []
unfolding opens
opens_none s state n cap plays other =
    let P : State → Type 0 = λ st. Acts (Ok Refused) (opens n cap st) s [] [] in
    let at = state_of s.book.names (plays.before ++ s.book.log.log) plays.firsts plays.clients plays.stores plays.watches in
    let long : length s.book.sessions ≡ length plays.clients = long_same (Attends s.book.names plays.before s.book.log.log) s.book.sessions plays.clients plays.standing.clients_are in
    let test : nat_eq n (length plays.clients) ≡ false = ne_eqb n (length plays.clients) (λ same. other (same ∙ sym long)) in
    subst P plays.is
    (ap (λ b. allowed (b && not (nat_eq (live_in at) most_live || nat_eq (length plays.clients) most_opened)) (quietly (record at { clients = plays.clients ++ opened cap (plays.before ++ s.book.log.log) ∷ [] }))) test, refl)
