-- Over exact outlets, what is put of what is due, and where it closes the session.
use Rattle.std.proofs.Common.{◌≡◌, ◌<◌, ◌≤◌, ◌↔◌, ⊎_elim, ℕ, zero, suc, ◌+◌, ◌-◌, true, List, [], ◌∷◌, ◌++◌, length, map, take, slice_get, Option, Some, None, option_map, refl, sym, ap, ◌∙◌, subst, length-append, append_assoc, append-nil, arith}
use Rattle.std.proofs.lemmas.Bool.{cases_lt}
use Rattle.std.proofs.lemmas.Option.{slice_get_past}
use Rattle.gps_report.specs.declared.report.Report.{Report}
use Rattle.session_core.specs.declared.mark.Close.{Close}
use Rattle.session_core.specs.declared.mark.Close.TheVariants.{Overrun}
use Rattle.session_core.specs.declared.outlet.Push.{Push}
use Rattle.session_core.specs.declared.outlet.Push.TheVariants.{Done, Full}
use Rattle.session_core.specs.Pushing.{MatchPush}
use Rattle.session_core.specs.SessionView.{SessionView, closed_at, given}
use Rattle.session_core.specs.Holding.{Selection}
use Rattle.book_sessions.specs.Answering.{MayAnswer}
use Rattle.book_sessions.specs.Spreading.{Due, Reported, Reports, ReportsBy, TakesByRoom, TakesDue, due, overrun_at, room_of}

none_taken : (room : ℕ) (kept : List (List ℕ)) → kept ≡ kept ++ map (λ (d : Due). d.line) (take room [])
none_taken zero kept = sym (append-nil kept)
none_taken (suc room) kept = sym (append-nil kept)

-- so far as there is room
pub record PutByRoom (dues : List Due) (old new : SessionView) : Type 0 where
  pub kept : new.kept ≡ old.kept ++ map (λ (d : Due). d.line) (take (room_of old) dues)
  pub closing : new.closing ≡ option_map overrun_at (slice_get dues (room_of old))

by_room : (dues : List Due) (old new : SessionView) → old.closing ≡ None → TakesDue true dues old new → PutByRoom dues old new
by_room [] old new is_open same = record {
  kept = ap (λ s. s.kept) same ∙ none_taken (room_of old) old.kept;
  closing = ap (λ s. s.closing) same ∙ is_open;
}
by_room (d ∷ more) old new is_open steps = by_push steps.0 steps.1 steps.2 (λ mid still later. by_room more mid new still later)
  where
    by_push : (push : Push) → MayAnswer true old push → MatchPush push (TakesDue true more (given d.line old) new) (new ≡ closed_at d.place Overrun old)
        → ((mid : SessionView) → mid.closing ≡ None → TakesDue true more mid new → PutByRoom more mid new) → PutByRoom (d ∷ more) old new
    by_push Done may step goes_on =
        let mid : SessionView = given d.line old in
        let fits : length old.kept < old.cap = ⊎_elim (λ (fits : length old.kept < old.cap). fits)
        (λ (full : old.cap ≤ length old.kept). let never : Done ≡ Full = (may.exactly refl).1 full in absurd cc)
        (cases_lt (length old.kept) old.cap) in
        let rest = goes_on mid is_open step in
        let room : room_of old ≡ suc (room_of mid) = omega (arith, length-append old.kept (d.line ∷ []), fits) in
        let K : ℕ → Type 0 = λ n. new.kept ≡ old.kept ++ map (λ (d : Due). d.line) (take n (d ∷ more)) in
        let C : ℕ → Type 0 = λ n. new.closing ≡ option_map overrun_at (slice_get (d ∷ more) n) in
        record {
          kept = subst K (sym room) (rest.kept ∙ append_assoc old.kept (d.line ∷ []) (map (λ (d : Due). d.line) (take (room_of mid) more)));
          closing = subst C (sym room) rest.closing;
        }
    by_push Full may now goes_on =
        let full : old.cap ≤ length old.kept = may.full refl in
        let room : room_of old ≡ 0 = omega (arith, full) in
        let K : ℕ → Type 0 = λ n. new.kept ≡ old.kept ++ map (λ (d : Due). d.line) (take n (d ∷ more)) in
        let C : ℕ → Type 0 = λ n. new.closing ≡ option_map overrun_at (slice_get (d ∷ more) n) in
        record {
          kept = subst K (sym room) (ap (λ s. s.kept) now ∙ sym (append-nil old.kept));
          closing = subst C (sym room) (ap (λ s. s.closing) now);
        }

some_there : (dues : List Due) (n : ℕ) → n < length dues → (d : Due) × (slice_get dues n ≡ Some d)
some_there [] n within = absurd (omega arith)
some_there (d ∷ dues) zero within = (d, refl)
some_there (d ∷ dues) (suc n) within = some_there dues n (omega arith)

stays_open : (dues : List Due) (old new : SessionView) → PutByRoom dues old new → length old.kept ≤ old.cap → (new.closing ≡ None) ↔ (length old.kept + length dues ≤ old.cap)
stays_open dues old new put fits = (
  λ still. ⊎_elim
      (λ (beyond : room_of old < length dues).
      let there = some_there dues (room_of old) beyond in
      let never : Some (overrun_at there.0) ≡ None = sym (put.closing ∙ ap (option_map overrun_at) there.1) ∙ still in
      absurd cc)
      (λ (few : length dues ≤ room_of old). omega (arith, few, fits))
      (cases_lt (room_of old) (length dues)),
  λ few. put.closing ∙ ap (option_map overrun_at) (slice_get_past dues (room_of old) (omega (arith, few, fits))),
)

pub overrun_is_by_room : (lines : Selection) (first : ℕ) (reports : List Report) (old new : SessionView) → old.closing ≡ None → Reports true lines first reports old new
    → TakesByRoom (due lines old.policy first reports) old new
overrun_is_by_room lines first reports old new is_open given_all =
    let R : Option (ℕ × Close) → Type 0 = λ c. ReportsBy c true lines first reports old new in
    let reported : Reported true lines first reports old new = subst R is_open given_all in
    let put = by_room (due lines old.policy first reports) old new is_open reported.takes in
    record { kept = put.kept; closing = put.closing; stays_open = stays_open (due lines old.policy first reports) old new put }
