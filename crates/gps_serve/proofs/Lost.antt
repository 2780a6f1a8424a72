-- A device is lost, or a session closed, for lack of memory only if the daemon says that it was out of memory.
use Rattle.std.proofs.Common.{◌≡◌, ◌<◌, ◌≤◌, ◌+◌, ◌||◌, ◌&&◌, ◌⊎◌, inl, inr, ℕ, Bool, true, false, zero, suc, List, [], ◌∷◌, length, map, get_or, slice_get, Option, Some, None, refl, sym, ◌∙◌, ap, subst, arith}
use Rattle.std.specs.Prelude.{not}
use Rattle.std.specs.List.{All, list_any}
use Rattle.std.specs.Option.{option_and_then}
use Rattle.std.proofs.lemmas.Bool.{cases_lt}
use Rattle.book_sessions.specs.MemberView.{MemberView}
use Rattle.hub_promise.specs.declared.ends.DeviceEnd.{DeviceEnd}
use Rattle.hub_promise.specs.declared.ends.DeviceEnd.TheVariants.{Ended, ReadFault, NoMemory as LostNoMemory}
use Rattle.serve_end.specs.declared.done.DeviceDone.{DeviceDone}
use Rattle.serve_end.specs.Failing.{AnyOf}
use Rattle.gps_serve.specs.Lost.{IsNotClosedOutOfMemory, IsNotLostOutOfMemory, WasClosedOutOfMemory, WasLostOutOfMemory, closed_out_of_memory, lost_out_of_memory}

-- if neither of two holds, each does not
pub neither : (a b : Bool) → (a || b) ≡ false → (a ≡ false) × (b ≡ false)
neither true b e = absurd (cc)
neither false b e = (refl, e)

-- if one of two holds, the first does or the second
pub either : (a b : Bool) → (a || b) ≡ true → (a ≡ true) ⊎ (b ≡ true)
either true b e = inl refl
either false b e = inr e

-- if not both hold, one of them does not
pub one_false : (a b : Bool) → (a && b) ≡ false → (a ≡ false) ⊎ (b ≡ false)
one_false true b e = inr e
one_false false b e = inl refl

is_false : (b : Bool) → not b ≡ true → b ≡ false
is_false true e = absurd (cc)
is_false false e = refl

is_true : (b : Bool) → not b ≡ false → b ≡ true
is_true true e = refl
is_true false e = absurd (cc)

-- if nothing was out of memory, no device was lost and no session was closed for it
pub none_of_book : (threads lost cut by_book all : Bool) → by_book ≡ (lost || cut) → all ≡ (threads || by_book) → all ≡ false → (lost ≡ false) × (cut ≡ false)
none_of_book threads lost cut by_book all book_is all_is e = neither lost cut (sym book_is ∙ (neither threads by_book (sym all_is ∙ e)).1)

-- if no thread was out of memory, neither does the door's, nor a reader, and each monitor made all its readings
pub none_of_threads : (door devices sessions whole readers threads all : Bool) → readers ≡ (devices || sessions) → threads ≡ (readers || not whole)
    → all ≡ (door || threads) → all ≡ false → (door ≡ false) × (devices ≡ false) × (sessions ≡ false) × (whole ≡ true)
none_of_threads door devices sessions whole readers threads all readers_is threads_is all_is e =
    let outer = neither door threads (sym all_is ∙ e) in
    let inner = neither readers (not whole) (sym threads_is ∙ outer.1) in
    let each = neither devices sessions (sym readers_is ∙ inner.0) in
    (outer.0, each.0, each.1, is_true whole inner.1)

-- if a thread was out of memory, the door's does, or a reader, or a monitor did not make all its readings
pub some_of_threads : (door devices sessions whole readers threads all : Bool) → readers ≡ (devices || sessions) → threads ≡ (readers || not whole)
    → all ≡ (door || threads) → all ≡ true → (door ≡ true) ⊎ (devices ≡ true) ⊎ (sessions ≡ true) ⊎ (whole ≡ false)
some_of_threads door devices sessions whole readers threads all readers_is threads_is all_is e = elim (either door threads (sym all_is ∙ e)) [
  | inl here ↦ inl here
  | inr some ↦ elim (either readers (not whole) (sym threads_is ∙ some)) [
    | inl reader ↦ elim (either devices sessions (sym readers_is ∙ reader)) [ inl device ↦ inr (inl device) | inr session ↦ inr (inr (inl session)) ]
    | inr monitor ↦ inr (inr (inr (is_false whole monitor)))
  ]
]

-- if the daemon was out of memory, that was seen, or neither a source failed nor has each device ended
pub some_lacks : (no_memory read_fault ended is_out_of_memory : Bool) → is_out_of_memory ≡ (no_memory || (not read_fault && not ended)) → is_out_of_memory ≡ true
    → (no_memory ≡ true) ⊎ ((read_fault ≡ false) × (ended ≡ false))
some_lacks true read_fault ended is_out_of_memory is e = inl refl
some_lacks false true ended is_out_of_memory is e = absurd (cc (is, e))
some_lacks false false true is_out_of_memory is e = absurd (cc (is, e))
some_lacks false false false is_out_of_memory is e = inr (refl, refl)

pub none_lost : (ends : List (Option DeviceEnd)) → list_any lost_out_of_memory ends ≡ false → All IsNotLostOutOfMemory ends
none_lost [] none k d there lost = absurd (omega arith)
none_lost (end ∷ ends) none zero d there lost =
    let so : lost_out_of_memory end ≡ true = ap lost_out_of_memory lost in
    let not : lost_out_of_memory end ≡ false = (neither (lost_out_of_memory end) (list_any lost_out_of_memory ends) none).0 in
    absurd (cc (so, not))
none_lost (end ∷ ends) none (suc k) d there lost =
    none_lost ends (neither (lost_out_of_memory end) (list_any lost_out_of_memory ends) none).1 k d (omega arith) lost

lost_by : (end : Option DeviceEnd) → lost_out_of_memory end ≡ true → end ≡ Some LostNoMemory
lost_by None lost = absurd (cc)
lost_by (Some Ended) lost = absurd (cc)
lost_by (Some ReadFault) lost = absurd (cc)
lost_by (Some LostNoMemory) lost = refl

closing_at : (sessions : List MemberView) (k : ℕ) (a : MemberView) → k < length sessions
    → option_and_then (λ (one : MemberView). one.session.closing) (slice_get sessions k) ≡ (get_or sessions k a).session.closing
closing_at [] k a there = absurd (omega arith)
closing_at (one ∷ sessions) zero a there = refl
closing_at (one ∷ sessions) (suc k) a there = closing_at sessions k a (omega arith)

-- no session before this number was closed because it was out of memory
abbrev pub NoneClosedOutOfMemory : ℕ → List MemberView → Type 0
NoneClosedOutOfMemory n sessions = (k : ℕ) (a : MemberView) → k < n → k < length sessions → IsNotClosedOutOfMemory (get_or sessions k a).session.closing

pub none_before : (sessions : List MemberView) → NoneClosedOutOfMemory 0 sessions
none_before sessions k a before there = absurd (omega arith)

not_cut : (sessions : List MemberView) (k : ℕ) (a : MemberView) → k < length sessions
    → closed_out_of_memory (option_and_then (λ (one : MemberView). one.session.closing) (slice_get sessions k)) ≡ false → IsNotClosedOutOfMemory (get_or sessions k a).session.closing
not_cut sessions k a there none place cut =
    let so : closed_out_of_memory (get_or sessions k a).session.closing ≡ true = ap closed_out_of_memory cut in
    let not : closed_out_of_memory (get_or sessions k a).session.closing ≡ false = ap closed_out_of_memory (sym (closing_at sessions k a there)) ∙ none in
    absurd (cc (so, not))

-- a session more
pub none_more : (sessions : List MemberView) (n : ℕ) → NoneClosedOutOfMemory n sessions
    → closed_out_of_memory (option_and_then (λ (one : MemberView). one.session.closing) (slice_get sessions n)) ≡ false → NoneClosedOutOfMemory (n + 1) sessions
none_more sessions n before none k a within there =
    elim (cases_lt k n) [
      | inl less ↦ before k a less there
      | inr more ↦
          let same : k ≡ n = omega (arith, within, more) in
          not_cut sessions k a there (subst (λ m. closed_out_of_memory (option_and_then (λ (one : MemberView). one.session.closing) (slice_get sessions m)) ≡ false) (sym same) none)
    ]

-- the session of this number was closed for it
pub cut_at : (sessions : List MemberView) (n : ℕ) → closed_out_of_memory (option_and_then (λ (one : MemberView). one.session.closing) (slice_get sessions n)) ≡ true
    → AnyOf WasClosedOutOfMemory sessions
cut_at [] n cut = absurd (cc)
cut_at (one ∷ sessions) zero cut = inl cut
cut_at (one ∷ sessions) (suc n) cut = inr (cut_at sessions n cut)

-- a device was lost for it
pub lost_by_memory : {S R : Type 0} (devices : List (DeviceDone S R)) (ends : List (Option DeviceEnd)) → map (λ (d : DeviceDone S R). d.end) devices ≡ ends
    → list_any lost_out_of_memory ends ≡ true → AnyOf WasLostOutOfMemory devices
lost_by_memory [] [] are lost = absurd (cc)
lost_by_memory [] (end ∷ ends) are lost = absurd (cc)
lost_by_memory (device ∷ devices) [] are lost = absurd (cc)
lost_by_memory (device ∷ devices) (end ∷ ends) are lost = elim (either (lost_out_of_memory end) (list_any lost_out_of_memory ends) lost) [
  | inl this ↦ inl (
      let here : device.end ≡ end = cc are in
      here ∙ lost_by end this
      )
  | inr later ↦ inr (lost_by_memory devices ends (cc are) later)
]

-- all of them
pub none_cut : (sessions : List MemberView) (n : ℕ) → length sessions ≤ n → NoneClosedOutOfMemory n sessions → All (λ (a : MemberView). IsNotClosedOutOfMemory a.session.closing) sessions
none_cut sessions n all none k a there = none k a (omega (arith, all, there)) there
