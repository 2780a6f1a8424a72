-- What the end of a script makes of its sessions.
use Rattle.std.proofs.Common.{◌≡◌, ◌⊎◌, inl, inr, ℕ, ◌+◌, ◌≤◌, Bool, true, false, cond, List, [], ◌∷◌, ◌++◌, length, drop, fold, Option, Some, None, refl, sym, ap, ◌∙◌, subst, arith}
use Rattle.std.specs.Prelude.{slice_get}
use Rattle.std.specs.List.{range_with_len}
use Rattle.line_cut.specs.Lines.{line_cut}
use Rattle.session_core.specs.declared.mark.Close.{Close}
use Rattle.session_core.specs.declared.mark.Close.TheVariants.{DaemonEnd, Overrun}
use Rattle.book_log.specs.Entries.{Entry, ended, stops_in}
use Rattle.book_log.specs.History.{history, history_after}
use Rattle.book_sessions.specs.Spreading.{Due}
use Rattle.session_runs.specs.Following.{shut_run}
use Rattle.session_runs.specs.Runs.{SessionRun, items_over}
use Rattle.replay_player.specs.Clients.{Client, closed, items_of, lines_due, overrun_at, overrun_by, room_of, told}
use Rattle.replay_player.specs.Ending.{HaveStopped}
use Rattle.replay_player.specs.Ends.{all_ended, ended_at}
use Rattle.replay_player.specs.States.{State, came}
use Rattle.replay_player.proofs.EndsDevices.{have_stopped}
use Rattle.replay_laws.specs.Accounts.{EndsIf, IsLast, course_after}
use Rattle.replay_laws.specs.Outputs.{end_state, last_state}
use Rattle.replay_laws.specs.Readings.{readings_of}
use Rattle.replay_laws.proofs.Answering.{Fills, fills, items_closed}
use Rattle.replay_laws.proofs.AnsweredLaws.{has_stretch}
use Rattle.replay_laws.proofs.Printed.{Reaches, lines_reach}
use Rattle.replay_laws.proofs.Sessions.{Mapped, Told, at_mapped}
use Rattle.replay_laws.proofs.Written.{Wrote, came_wrote}

-- ---- reports that come to one session

-- what reports leave of it
record AreSame (c d : Client) : Type 0 where
  stretches : d.run.stretches ≡ c.run.stretches
  cap : d.cap ≡ c.cap
  taken : d.taken ≡ c.taken

told_same : (names : List (List ℕ)) (log entries : List Entry) (c : Client) → AreSame c (told names log (history_after log entries) c)
unfolding told
told_same names log entries c = record { stretches = refl; cap = refl; taken = refl }

told_closed : (names : List (List ℕ)) (log entries : List Entry) (c : Client) (closing : ℕ × Close) → c.run.closing ≡ Some closing
    → (told names log (history_after log entries) c).run ≡ c.run
unfolding told
told_closed names log entries c closing at =
    let dues : List Due = drop (room_of names log c) (lines_due names log (history_after log entries) c) in
    let stays : overrun_by c.run.closing dues ≡ Some closing = ap (λ (x : Option (ℕ × Close)). overrun_by x dues) at in
    ap (λ (x : Option (ℕ × Close)). record c.run { closing = x }) (stays ∙ sym at)

told_open : (names : List (List ℕ)) (log entries : List Entry) (c : Client) → c.run.closing ≡ None
    → (told names log (history_after log entries) c).run.closing ≡ overrun_at (drop (room_of names log c) (lines_due names log (history_after log entries) c))
unfolding told
told_open names log entries c free =
    ap (λ (x : Option (ℕ × Close)). overrun_by x (drop (room_of names log c) (lines_due names log (history_after log entries) c))) free

-- ---- from the last line on

-- an overrun closed it
record IsFull (names : List (List ℕ)) (log : List Entry) (was d : Client) : Type 0 where
  place : ℕ
  closes : d.run.closing ≡ Some (place, Overrun)
  full : was.taken + d.cap ≤ length (items_of names log d)

abbrev Still : List (List ℕ) → List Entry → Client → Client → Option (ℕ × Close) → Type 0
Still names log was d None = (d.run.closing ≡ None) ⊎ IsFull names log was d
Still names log was d (Some closing) = d.run ≡ was.run

record Ends (from : State) (names : List (List ℕ)) (log : List Entry) (s : ℕ) (d : Client) : Type 0 where
  was : Client
  there : slice_get from.clients s ≡ Some was
  same : AreSame was d
  still : Still names log was d was.run.closing

-- at first
begins : (from : State) (s : ℕ) (d : Client) → slice_get from.clients s ≡ Some d → Ends from from.names from.log s d
begins from s d there = record { was = d; there = there; same = record { stretches = refl; cap = refl; taken = refl }; still = by_closing d.run.closing refl }
  where
    by_closing : (o : Option (ℕ × Close)) → d.run.closing ≡ o → Still from.names from.log d d o
    by_closing None free = inl free
    by_closing (Some closing) at = refl

-- reports come
goes_on : (from : State) (names : List (List ℕ)) (log entries : List Entry) (rows : List (List ℕ)) (s : ℕ) (d : Client) → Told names log rows s d
    → ((was : Client) → slice_get from.clients s ≡ Some was → 1 ≤ length was.run.stretches) → Ends from names log s d
    → Ends from names (log ++ entries) s (told names log (history_after log entries) d)
goes_on from names log entries rows s d is some ends =
    record {
      was = was;
      there = ends.there;
      same = record { stretches = same.stretches ∙ ends.same.stretches; cap = same.cap ∙ ends.same.cap; taken = same.taken ∙ ends.same.taken };
      still = by_closing was.run.closing refl ends.still;
    }
  where
    was : Client
    was = ends.was

    next : Client
    next = told names log (history_after log entries) d

    same : AreSame d next
    same = told_same names log entries d

    longer : List Entry
    longer = log ++ entries

    some_left : 1 ≤ length d.run.stretches
    some_left = subst (λ (l : List _). 1 ≤ length l) (sym ends.same.stretches) (some was ends.there)

    by_now : d.run.closing ≡ None → (o : Option (ℕ × Close)) → overrun_at (drop (room_of names log d) (lines_due names log (history_after log entries) d)) ≡ o
        → next.run.closing ≡ o → (next.run.closing ≡ None) ⊎ IsFull names longer was next
    by_now free None is_now closes = inl closes
    by_now free (Some closing) is_now closes =
        let f : Fills names longer d next closing.1 = fills names log entries rows s d next closing.0 closing.1 free is is_now same.stretches closes same.cap some_left in
        let taken : d.taken ≡ was.taken = ends.same.taken in
        inr (record {
          place = closing.0;
          closes = closes ∙ ap (λ (w : Close). Some (closing.0, w)) f.cause;
          full = subst (λ (n : ℕ). n + next.cap ≤ length (items_of names longer next)) taken f.full;
        })

    by_full : IsFull names log was d → IsFull names longer was next
    by_full full =
        let run : next.run ≡ d.run = told_closed names log entries d (full.place, Overrun) full.closes in
        let items : items_of names longer next ≡ items_of names log d =
        ap (items_over names longer) run ∙ items_closed names log entries d.run (full.place, Overrun) full.closes is.inside in
        let size : length (items_of names longer next) ≡ length (items_of names log d) = ap (λ (l : List (List ℕ)). length l) items in
        let cap : next.cap ≡ d.cap = same.cap in
        let most : was.taken + d.cap ≤ length (items_of names log d) = full.full in
        record { place = full.place; closes = ap (λ (r : SessionRun). r.closing) run ∙ full.closes; full = omega (arith, size, cap, most) }

    by_closing : (o : Option (ℕ × Close)) → was.run.closing ≡ o → Still names log was d o → Still names longer was next o
    by_closing None at (inl free) =
        by_now free (overrun_at (drop (room_of names log d) (lines_due names log (history_after log entries) d))) refl (told_open names log entries d free)
    by_closing None at (inr full) = inr (by_full full)
    by_closing (Some closing) at run =
        let is_closed : d.run.closing ≡ Some closing = ap (λ (r : SessionRun). r.closing) run ∙ at in
        told_closed names log entries d closing is_closed ∙ run

-- all of them
record Later (from state : State) (rows : List (List ℕ)) : Type 0 where
  wrote : Wrote state rows
  each : (s : ℕ) (d : Client) → slice_get state.clients s ≡ Some d → Ends from state.names state.log s d

came_later : (from : State) (rows : List (List ℕ)) (entries : List Entry) (state : State) → ((s : ℕ) (was : Client) → slice_get from.clients s ≡ Some was → 1 ≤ length was.run.stretches)
    → Later from state rows → Later from (came entries state) rows
unfolding came
came_later from rows entries state some later =
    record {
      wrote = came_wrote rows entries state later.wrote;
      each = λ s e there.
          (let m : Mapped (told state.names state.log (history_after state.log entries)) state.clients s e =
          at_mapped (told state.names state.log (history_after state.log entries)) state.clients s e there in
          subst (λ (x : Client). Ends from state.names (state.log ++ entries) s x) m.is
          (goes_on from state.names state.log entries rows s m.from (later.wrote.sessions.told s m.from m.there) (some s) (later.each s m.from m.there)));
    }

ended_later : (from : State) (rows : List (List ℕ)) (devices : List ℕ) (state : State) → ((s : ℕ) (was : Client) → slice_get from.clients s ≡ Some was → 1 ≤ length was.run.stretches)
    → Later from state rows → Later from (fold ended_at state devices) rows
ended_later from rows [] state some later = later
ended_later from rows (d ∷ devices) state some later = ended_later from rows devices (ended_at state d) some (by_stop (stops_in d state.log))
  where
    by_stop : (b : Bool) → Later from (cond b state (came (ended d) state)) rows
    by_stop true = later
    by_stop false = came_later from rows (ended d) state some later

-- and they are closed
pub last_sessions : (queue : ℕ) (script : List ℕ) (s : ℕ) (c : Client) → slice_get (end_state queue script).clients s ≡ Some c → IsLast queue script s c
last_sessions queue script s c there = by_end m.from m.is (later.each s m.from m.there)
  where
    from : State
    from = last_state queue script

    late : State
    late = all_ended from

    written : Reaches (readings_of queue (line_cut script)) [] (course_after queue (line_cut script))
    written = lines_reach queue (line_cut script)

    later : Later from late written.all
    later =
        ended_later from written.all (range_with_len 0 (length from.names)) from (λ k was at. has_stretch queue (line_cut script) k was at)
        (record { wrote = written.wrote; each = λ k d at. begins from k d at })

    m : Mapped (closed late.log DaemonEnd) late.clients s c
    m = at_mapped (closed late.log DaemonEnd) late.clients s c there

    stopped : HaveStopped late
    stopped = have_stopped from

    by_end : (d : Client) → closed late.log DaemonEnd d ≡ c → Ends from late.names late.log s d → IsLast queue script s c
    by_end d is ends =
        subst (IsLast queue script s) is
        (record {
          was = ends.was;
          there = ends.there;
          stretches = kept d.run.closing ∙ ends.same.stretches;
          cap = ends.same.cap;
          taken = ends.same.taken;
          closing = by_closing ends.was.run.closing refl ends.still;
        })
      where
        last : Client
        last = closed late.log DaemonEnd d

        kept : (o : Option (ℕ × Close)) → (shut_run late.log DaemonEnd o d.run).stretches ≡ d.run.stretches
        kept None = refl
        kept (Some closing) = refl

        by_closing : (o : Option (ℕ × Close)) → ends.was.run.closing ≡ o → Still late.names late.log ends.was d o → EndsIf (end_state queue script) ends.was last o
        by_closing None at (inl free) =
            let run : last.run ≡ shut_run late.log DaemonEnd None d.run = ap (λ (x : Option (ℕ × Close)). shut_run late.log DaemonEnd x d.run) free in
            record { place = length (history late.log); why = DaemonEnd; closing = ap (λ (r : SessionRun). r.closing) run; cause = (stopped, refl) }
        by_closing None at (inr full) =
            let run : last.run ≡ d.run = ap (λ (x : Option (ℕ × Close)). shut_run late.log DaemonEnd x d.run) full.closes in
            let size : length (items_of late.names late.log last) ≡ length (items_of late.names late.log d) = ap (λ (r : SessionRun). length (items_over late.names late.log r)) run in
            let most : ends.was.taken + d.cap ≤ length (items_of late.names late.log d) = full.full in
            record {
              place = full.place;
              why = Overrun;
              closing = ap (λ (r : SessionRun). r.closing) run ∙ full.closes;
              cause = subst (λ (n : ℕ). ends.was.taken + d.cap ≤ n) (sym size) most;
            }
        by_closing (Some closing) at run =
            let is_closed : d.run.closing ≡ Some closing = ap (λ (r : SessionRun). r.closing) run ∙ at in
            ap (λ (x : Option (ℕ × Close)). shut_run late.log DaemonEnd x d.run) is_closed ∙ run

-- no device is declared there
came_names : (entries : List Entry) (state : State) → (came entries state).names ≡ state.names
unfolding came
came_names entries state = refl

ended_names : (devices : List ℕ) (state : State) → (fold ended_at state devices).names ≡ state.names
ended_names [] state = refl
ended_names (d ∷ devices) state = ended_names devices (ended_at state d) ∙ by_stop (stops_in d state.log)
  where
    by_stop : (b : Bool) → (cond b state (came (ended d) state)).names ≡ state.names
    by_stop true = refl
    by_stop false = came_names (ended d) state

pub end_names : (queue : ℕ) (script : List ℕ) → (end_state queue script).names ≡ (last_state queue script).names
end_names queue script = ended_names (range_with_len 0 (length (last_state queue script).names)) (last_state queue script)
