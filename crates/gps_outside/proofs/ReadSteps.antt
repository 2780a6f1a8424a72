-- A reading of a source, step by step.
use Rattle.std.proofs.Common.{◌≡◌, ℕ, ◌+◌, ◌-◌, ◌≤◌, ◌<◌, List, [], ◌++◌, Option, Some, None, length, take, drop, sym, ◌∙◌, ap, subst, append_assoc, refl, zero-add, arith}
use Rattle.std.proofs.lemmas.List.{take-append-drop, take-take, append-nil}
use Rattle.std.proofs.lemmas.Grind.{common_steps}
use Rattle.std.specs.Prelude.{zero, suc}
use native.Mathlib.Numerals.{unary_clauses}
use Rattle.gps_outside.specs.Counts.{RoseBy, many_more, one_more}
use Rattle.gps_outside.specs.Told.{Stream, Goes, Stays, Passes, IsAtEnd, MayLose}
use Rattle.gps_outside.specs.declared.intake.IntakeStep.TheVariants.{Piece, Quiet, Last, End, Failed, TooQuiet}
use Rattle.gps_outside.specs.declared.whole.ReadEnd.TheVariants.{AtEnd, Full, Failed as EndsFailed, TooQuiet as EndsTooQuiet}
use Rattle.gps_outside.specs.ReadSteps.{Budget, FitsRoom, Spends, Hands, HasTaken, IsQuietSometimes, PassesMore, TakesAll, TakesSome, ReadsToEnd}
use Rattle.gps_outside.proofs.Going.{goes_as, goes_on}

-- of a piece that is longer than the room, more than the room's part passes
pub passes_more : (n room : ℕ) (buf : List ℕ) (before after : Option Stream)
    → room < n → n ≤ length buf
    → Goes (Passes (take n buf)) before after
    → Goes (PassesMore (take room buf)) before after
passes_more n room buf before after over fits passed =
    let head : take room (take n buf) ≡ take room buf = take-take room n buf (omega arith) in
    let whole : take room buf ++ drop room (take n buf) ≡ take n buf =
    ap (λ front. front ++ drop room (take n buf)) (sym head) ∙ take-append-drop room (take n buf) in
    let some : 0 < length (drop room (take n buf)) = grind (arith, common_steps) in
    goes_as (Passes (take n buf)) (PassesMore (take room buf)) before after
    (λ x y p. (drop room (take n buf), (some, subst (λ bytes. Passes bytes x y) (sym whole) p)))
    passed

pub one_more_of_many : (n count before now : ℕ) → count ≡ many_more n before → now ≡ one_more count → now ≡ many_more (n + 1) before
unfolding many_more
one_more_of_many n count before now so next =
    let h : now ≡ one_more (many_more n before) = next ∙ ap one_more so in
    simp unary_clauses (simp unary_clauses at h)

-- a count that rose n times, one at a time, rose by n
pub rose_by_many : (n before : ℕ) → RoseBy n before (many_more n before)
unfolding many_more
rose_by_many zero before = omega arith
rose_by_many (suc n) before = let h : RoseBy n before (many_more n before) = rose_by_many n before in omega (arith, h)

pub taken_none : (limit : ℕ) (budget : Budget) (now : Option Stream) (faults quiets : ℕ)
    → budget ≡ record { room = limit; quiets = 0 }
    → HasTaken limit [] budget now now faults faults quiets quiets
unfolding many_more
taken_none limit budget None faults quiets new = record {
  passed = tt;
  room = zero-add budget.room ∙ ap (λ b. b.room) new;
  no_fault = refl;
  quiet = subst (λ n. quiets ≡ many_more n quiets) (sym (ap (λ b. b.quiets) new)) refl;
}
taken_none limit budget (Some stream) faults quiets new = record {
  passed = record { next = refl; joins = sym (append-nil stream.taken) };
  room = zero-add budget.room ∙ ap (λ b. b.room) new;
  no_fault = refl;
  quiet = subst (λ n. quiets ≡ many_more n quiets) (sym (ap (λ b. b.quiets) new)) refl;
}

passes_on : (piece more : List ℕ) (x y z : Stream) → Passes piece x y → Passes more y z → Passes (piece ++ more) x z
passes_on piece more x y z p q = record {
  next = p.next ∙ ap (λ left. piece ++ left) q.next ∙ sym (append_assoc piece more z.left);
  joins = q.joins ∙ ap (λ taken. taken ++ more) p.joins ∙ append_assoc x.taken piece more;
}

pub taken_piece : (n limit : ℕ) (bytes buf : List ℕ) (b b' : Budget) (before now after : Option Stream) (faults faults' faults'' quiets quiets' quiets'' : ℕ)
    → HasTaken limit bytes b before now faults faults' quiets quiets'
    → FitsRoom (Piece n) (length buf) → Spends (Piece n) b b' → Hands (Piece n) buf now after → faults'' ≡ faults' → quiets'' ≡ quiets'
    → HasTaken limit (bytes ++ take n buf) b' before after faults faults'' quiets quiets''
taken_piece n limit bytes buf b b' before now after faults faults' faults'' quiets quiets' quiets'' taken fits spent handed same still = record {
  passed = goes_on (Passes bytes) (Passes (take n buf)) (Passes (bytes ++ take n buf)) before now after (passes_on bytes (take n buf)) taken.passed handed;
  room =
      let r : b'.room ≡ b.room - n = ap (λ budget. budget.room) spent.1 in
      let h = taken.room in
      grind (arith, common_steps);
  no_fault = same ∙ taken.no_fault;
  quiet = still ∙ taken.quiet ∙ ap (λ n. many_more n quiets) (sym (ap (λ budget. budget.quiets) spent.1));
}

pub taken_quiet : (limit : ℕ) (bytes buf : List ℕ) (b b' : Budget) (before now after : Option Stream) (faults faults' faults'' quiets quiets' quiets'' : ℕ)
    → HasTaken limit bytes b before now faults faults' quiets quiets'
    → Spends Quiet b b' → Hands Quiet buf now after → faults'' ≡ faults' → quiets'' ≡ one_more quiets'
    → HasTaken limit bytes b' before after faults faults'' quiets quiets''
taken_quiet limit bytes buf b b' before now after faults faults' faults'' quiets quiets' quiets'' taken spent handed same next = record {
  passed = goes_on (Passes bytes) Stays (Passes bytes) before now after (λ x y z p q. subst (Passes bytes x) q p) taken.passed handed;
  room =
      let r : b'.room ≡ b.room = ap (λ budget. budget.room) spent.1 in
      let h = taken.room in
      omega arith;
  no_fault = same ∙ taken.no_fault;
  quiet =
      one_more_of_many b.quiets quiets' quiets quiets'' taken.quiet next ∙ ap (λ n. many_more n quiets) (sym (ap (λ budget. budget.quiets) spent.1));
}

pub ends_at_end : (limit : ℕ) (bytes buf : List ℕ) (b : Budget) (before now after : Option Stream) (faults faults' quiets quiets' : ℕ)
    → HasTaken limit bytes b before now faults faults' quiets quiets' → Hands End buf now after
    → ReadsToEnd AtEnd limit bytes before after
ends_at_end limit bytes buf b before now after faults faults' quiets quiets' taken handed = (
  let h = taken.room in omega arith,
  goes_on (Passes bytes) IsAtEnd (TakesAll bytes) before now after
      (λ x y z p q. record {
        all = p.next ∙ ap (λ left. bytes ++ left) q.none ∙ append-nil bytes;
        joins = ap (λ s. s.taken) (sym q.same) ∙ p.joins;
        none = ap (λ s. s.left) (sym q.same) ∙ q.none;
      })
      taken.passed handed,
)

pub ends_full : (n limit : ℕ) (bytes buf : List ℕ) (b b' : Budget) (before now after : Option Stream) (faults faults' quiets quiets' : ℕ)
    → HasTaken limit bytes b before now faults faults' quiets quiets'
    → FitsRoom (Last n) (length buf) → Spends (Last n) b b' → Hands (Last n) buf now after
    → ReadsToEnd Full limit (bytes ++ take n buf) before after
ends_full n limit bytes buf b b' before now after faults faults' quiets quiets' taken fits spent handed = (
  let h = taken.room in let e = spent.0 in grind (arith, common_steps),
  goes_on (Passes bytes) (PassesMore (take n buf)) (PassesMore (bytes ++ take n buf)) before now after
      (λ x y z p q. (q.0, (q.1.0, rw append_assoc (passes_on bytes (take n buf ++ q.0) x y z p q.1.1))))
      taken.passed handed,
)

pub ends_failed : (limit : ℕ) (bytes buf : List ℕ) (b : Budget) (before now after : Option Stream) (faults faults' quiets quiets' : ℕ)
    → HasTaken limit bytes b before now faults faults' quiets quiets' → Hands Failed buf now after
    → ReadsToEnd EndsFailed limit bytes before after
ends_failed limit bytes buf b before now after faults faults' quiets quiets' taken handed = (
  let h = taken.room in omega arith,
  goes_on (Passes bytes) MayLose (TakesSome bytes) before now after
      (λ x y z p q. record { rest = y.left; next = p.next; joins = q.same ∙ p.joins; kept = q.lost })
      taken.passed handed,
)

pub ends_too_quiet : (limit : ℕ) (bytes buf : List ℕ) (b : Budget) (before now after : Option Stream) (faults faults' quiets quiets' : ℕ)
    → HasTaken limit bytes b before now faults faults' quiets quiets' → Hands TooQuiet buf now after
    → ReadsToEnd EndsTooQuiet limit bytes before after
ends_too_quiet limit bytes buf b before now after faults faults' quiets quiets' taken handed = (
  let h = taken.room in omega arith,
  goes_on (Passes bytes) Stays (Passes bytes) before now after (λ x y z p q. subst (Passes bytes x) q p) taken.passed handed,
)

-- the thousandth quiet comes after 999
pub quiet_sometimes : (limit : ℕ) (bytes : List ℕ) (b : Budget) (before now : Option Stream) (faults faults' quiets quiets' : ℕ)
    → HasTaken limit bytes b before now faults faults' quiets quiets' → b.quiets < 1000
    → IsQuietSometimes quiets quiets'
quiet_sometimes limit bytes b before now faults faults' quiets quiets' taken few = (b.quiets, (few, taken.quiet))

pub quiet_at_last : (limit : ℕ) (bytes : List ℕ) (b b' : Budget) (before now : Option Stream) (faults faults' quiets quiets' quiets'' : ℕ)
    → HasTaken limit bytes b before now faults faults' quiets quiets' → Spends TooQuiet b b' → quiets'' ≡ one_more quiets'
    → quiets'' ≡ many_more 1000 quiets
quiet_at_last limit bytes b b' before now faults faults' quiets quiets' quiets'' taken spent next =
    subst (λ n. quiets'' ≡ many_more n quiets) spent.0 (one_more_of_many b.quiets quiets' quiets quiets'' taken.quiet next)
