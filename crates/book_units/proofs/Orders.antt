-- The samples of one unit keep their order: by a new sample, by a turn and by a step.
use Rattle.std.proofs.Common.{◌≡◌, ◌≢◌, ℕ, ◌+◌, ◌≤◌, Bool, true, false, cond, List, [], ◌∷◌, ◌++◌, length, take, drop, refl, sym, ap, ◌∙◌, subst, arith, inl, inr, get_or, ◌<◌, length-append, length-take, length-drop}
use Rattle.std.proofs.lemmas.List.{append_assoc, append-nil, take-append-drop, take-append-le, drop-append-le}
use Rattle.std.specs.Prelude.{nat_lt}
use Rattle.shm_segment.specs.declared.publisher.Phase.{Phase}
use Rattle.shm_segment.specs.declared.publisher.Phase.TheVariants.{Idle, ToInvalid, ToOdd, ToBody, ToEven, ToValid}
use Rattle.shm_segment.specs.declared.sample.Sample.{Sample}
use Rattle.shm_segment.specs.Publishing.{Publishing, count_of, beginning, samples_next, next_of}
use Rattle.book_units.specs.declared.unit.UnitStep.{UnitStep}
use Rattle.book_units.specs.declared.unit.UnitStep.TheVariants.{Stored, Empty, Spent}
use Rattle.book_units.specs.Changes.{UnitGains, UnitTurns, turned}
use Rattle.book_units.specs.Steps.{Begins, IsReady, StoresAs, PublishesAs, Steps}
use Rattle.book_units.specs.Units.{UnitView, RoomView, IsUnit, IsInOrder, room_view, unstored, begun_by, all_of, published_by, left_of, since_turn}

-- samples that join the waiting ones come last, and none before them moves
pub gained : (u : UnitView) (more : List Sample) → IsUnit u → UnitGains more u (record u { waiting = u.waiting ++ more })
gained u more keeps =
    let reach = keeps.carry in
    let all : all_of (record u { waiting = u.waiting ++ more }) ≡ all_of u ++ more = sym (append_assoc (begun_by u.publisher) u.waiting more) in
    let within : u.from ≤ length (all_of u) = omega arith in
    let since : since_turn (record u { waiting = u.waiting ++ more }) ≡ since_turn u ++ more =
    ap (λ (l : List Sample). drop u.from l) all ∙ drop-append-le u.from (all_of u) more within in
    let long = length-drop u.from (all_of u) in
    let low : u.carry ≤ length (since_turn u) = omega arith in
    record {
      becomes = refl;
      all = all;
      since = since;
      carried = ap (λ (l : List Sample). take u.carry l) since ∙ take-append-le u.carry (since_turn u) more low;
    }

-- a unit that is seen by its parts
pub gained_seen : (v : RoomView) (p : Publishing) (waiting longer : List Sample) (from carry spare : ℕ) (more : List Sample)
    → room_view p waiting from carry spare ≡ v → IsUnit (record { publisher = p; waiting = waiting; from = from; carry = carry }) → longer ≡ waiting ++ more
    → UnitGains more v.unit (record { publisher = p; waiting = longer; from = from; carry = carry })
gained_seen v p waiting longer from carry spare more is keeps joined =
    let at_once : UnitGains more (room_view p waiting from carry spare).unit (record { publisher = p; waiting = waiting ++ more; from = from; carry = carry }) =
    gained (record { publisher = p; waiting = waiting; from = from; carry = carry }) more keeps in
    let P : RoomView → Type 0 = λ w. UnitGains more w.unit (record { publisher = p; waiting = waiting ++ more; from = from; carry = carry }) in
    let Q : List Sample → Type 0 = λ l. UnitGains more v.unit (record { publisher = p; waiting = l; from = from; carry = carry }) in
    subst Q (sym joined) (subst P is at_once)

-- nothing joins
pub gained_none : (u : UnitView) → UnitGains [] u u
gained_none u =
    record {
      becomes = let P : List Sample → Type 0 = λ l. u ≡ record u { waiting = l } in subst P (sym (append-nil u.waiting)) refl;
      all = sym (append-nil (all_of u));
      since = sym (append-nil (since_turn u));
      carried = refl;
    }

-- one after another
pub gained_more : (x y z : UnitView) (more further : List Sample) → UnitGains more x y → UnitGains further y z → UnitGains (more ++ further) x z
gained_more x y z more further first second =
    record {
      becomes = second.becomes ∙ ap (λ (v : UnitView). record v { waiting = v.waiting ++ further }) first.becomes ∙ (let P : List Sample → Type 0 = λ l. record x { waiting = (x.waiting ++ more) ++ further } ≡ record x { waiting = l } in subst P (append_assoc x.waiting more further) refl);
      all = second.all ∙ ap (λ (l : List Sample). l ++ further) first.all ∙ append_assoc (all_of x) more further;
      since = second.since ∙ ap (λ (l : List Sample). l ++ further) first.since ∙ append_assoc (since_turn x) more further;
      carried = second.carried ∙ first.carried;
    }

-- no more are published than have had their first store
published_within : (u : UnitView) → IsUnit u → published_by u ≤ length u.publisher.samples
published_within u keeps = let long = keeps.publishing.count in omega arith

-- the samples since the turn are the published ones, and then those that are left
pub in_order : (u : UnitView) → IsUnit u → IsInOrder u
in_order u keeps =
    let from_low = keeps.from in
    let short : published_by u ≤ length u.publisher.samples = published_within u keeps in
    let begun_long = length-append u.publisher.samples (unstored u.publisher.phase u.publisher.begun) in
    let some_begun : published_by u ≤ length (begun_by u.publisher) = omega arith in
    let first : take (published_by u) (all_of u) ≡ take (published_by u) u.publisher.samples =
    take-append-le (published_by u) (begun_by u.publisher) u.waiting some_begun ∙ take-append-le (published_by u) u.publisher.samples (unstored u.publisher.phase u.publisher.begun) short in
    let long = length-take (published_by u) u.publisher.samples in
    let within : u.from ≤ length (take (published_by u) u.publisher.samples) = omega arith in
    ap (λ (l : List Sample). drop u.from l) (sym (take-append-drop (published_by u) (all_of u)) ∙ ap (λ (l : List Sample). l ++ left_of u) first) ∙ drop-append-le u.from (take (published_by u) u.publisher.samples) (left_of u) within

-- a turn carries what is left
pub turns : (u : UnitView) → UnitTurns u (turned u)
turns u = record { becomes = refl; all = refl; carried = take_whole (left_of u); since = refl }
  where
    take_whole : (l : List Sample) → take (length l) l ≡ l
    take_whole l = Rattle.std.proofs.lemmas.List.take_all (length l) l (omega arith)

-- the first store of a begun sample adds it to the list, and no other store adds one
stored_begun : (samples : List Sample) (begun : Sample) (phase : Phase) → phase ≢ Idle → samples_next phase samples begun ++ unstored (next_of phase) begun ≡ samples ++ unstored phase begun
stored_begun samples begun Idle busy = absurd (busy refl)
stored_begun samples begun ToInvalid busy = append-nil (samples ++ begun ∷ [])
stored_begun samples begun ToOdd busy = refl
stored_begun samples begun (ToBody place) busy = by_case (nat_lt place 8)
  where
    by_case : (b : Bool) → samples ++ unstored (cond b (ToBody (place + 1)) ToEven) begun ≡ samples ++ []
    by_case true = refl
    by_case false = refl
stored_begun samples begun ToEven busy = refl
stored_begun samples begun ToValid busy = refl

stored_all : (ready new : UnitView) (word value : ℕ) → ready.publisher.phase ≢ Idle → StoresAs ready (Stored word value) new → all_of new ≡ all_of ready
stored_all ready new word value busy stores =
    let P : UnitView → Type 0 = λ v. all_of v ≡ all_of ready in
    let p = ready.publisher in
    let same : begun_by new.publisher ≡ begun_by p =
    ap (λ (q : Publishing). begun_by q) stores.0.becomes ∙ stored_begun p.samples p.begun p.phase busy in
    subst P (sym stores.1) (ap (λ (l : List Sample). l ++ ready.waiting) same)

begun_all : (old ready : UnitView) → old.publisher.phase ≡ Idle → Begins old ready → all_of ready ≡ all_of old
begun_all old ready idle (sample, waits, is) =
    let P : UnitView → Type 0 = λ v. all_of v ≡ all_of old in
    let none : unstored old.publisher.phase old.publisher.begun ≡ [] = ap (λ (f : Phase). unstored f old.publisher.begun) idle in
    let all_old : all_of old ≡ old.publisher.samples ++ sample ∷ ready.waiting =
    ap (λ (l : List Sample). (old.publisher.samples ++ l) ++ old.waiting) none ∙ ap (λ (l : List Sample). l ++ old.waiting) (append-nil old.publisher.samples) ∙ ap (λ (l : List Sample). old.publisher.samples ++ l) waits in
    subst P (sym is) (append_assoc old.publisher.samples (sample ∷ []) ready.waiting ∙ sym all_old)

-- by a step no sample is lost, taken twice or moved
unmoved : (step : UnitStep) (old new : UnitView) → PublishesAs old step new → all_of new ≡ all_of old → new.from ≡ old.from → new.carry ≡ old.carry → Steps step old new
unmoved step old new does all from carry =
    let since : since_turn new ≡ since_turn old = ap (λ (n : ℕ). drop n (all_of new)) from ∙ ap (λ (l : List Sample). drop old.from l) all in
    record {
      does = does;
      all = all;
      since = since;
      carried = ap (λ (n : ℕ). take n (since_turn new)) carry ∙ ap (λ (l : List Sample). take old.carry l) since;
    }

pub steps : (step : UnitStep) (old new : UnitView) → PublishesAs old step new → Steps step old new
steps (Stored word value) old new (ready, is_ready, stores) = by_case is_ready
  where
    same_all : {A : Type 0} (f : UnitView → A) → ((u : UnitView) (p : Publishing) → f (record u { publisher = p }) ≡ f u) → f new ≡ f ready
    same_all f stays = ap f stores.1 ∙ stays ready new.publisher

    by_case : IsReady old ready → Steps (Stored word value) old new
    by_case (inl (busy, is)) =
        let Q : UnitView → Type 0 = λ v. v.publisher.phase ≢ Idle in
        let now_busy = subst Q (sym is) busy in
        unmoved (Stored word value) old new (ready, is_ready, stores) (stored_all ready new word value now_busy stores ∙ ap (λ (v : UnitView). all_of v) is) (same_all (λ v. v.from) (λ u p. refl) ∙ ap (λ (v : UnitView). v.from) is) (same_all (λ v. v.carry) (λ u p. refl) ∙ ap (λ (v : UnitView). v.carry) is)
    by_case (inr (idle, free, begins)) =
        let sample = begins.0 in
        let is : ready ≡ record old { publisher = beginning old.publisher sample; waiting = ready.waiting } = begins.2 in
        let Q : UnitView → Type 0 = λ v. v.publisher.phase ≢ Idle in
        let now_busy = subst Q (sym is) (λ e. absurd (cc)) in
        unmoved (Stored word value) old new (ready, is_ready, stores) (stored_all ready new word value now_busy stores ∙ begun_all old ready idle begins) (same_all (λ v. v.from) (λ u p. refl) ∙ ap (λ (v : UnitView). v.from) is) (same_all (λ v. v.carry) (λ u p. refl) ∙ ap (λ (v : UnitView). v.carry) is)
steps Empty old new (idle, none, is) = unmoved Empty old new (idle, none, is) (ap (λ (v : UnitView). all_of v) is) (ap (λ (v : UnitView). v.from) is) (ap (λ (v : UnitView). v.carry) is)
steps Spent old new (idle, some, full, is) = unmoved Spent old new (idle, some, full, is) (ap (λ (v : UnitView). all_of v) is) (ap (λ (v : UnitView). v.from) is) (ap (λ (v : UnitView). v.carry) is)

-- the first of the waiting samples, and those after it
pub first_and_rest : (xs ys : List Sample) (x : Sample) → 0 < length xs → x ≡ get_or xs 0 x → ys ≡ drop 1 xs → xs ≡ x ∷ ys
first_and_rest [] ys x some at rest = absurd (omega (arith, some))
first_and_rest (y ∷ xs) ys x some at rest = ap (λ (s : Sample). s ∷ xs) (sym at) ∙ ap (λ (l : List Sample). x ∷ l) (sym rest)

pub begins_and_stores : (v : RoomView) (p q : Publishing) (waiting rest : List Sample) (from carry spare : ℕ) (sample : Sample) (step : UnitStep) (new : UnitView)
    → room_view p waiting from carry spare ≡ v → p.phase ≡ Idle → count_of p ≢ 2_147_483_646 → q ≡ beginning p sample → waiting ≡ sample ∷ rest
    → StoresAs (record { publisher = q; waiting = rest; from = from; carry = carry }) step new → Steps step v.unit new
begins_and_stores v p q waiting rest from carry spare sample Empty new is idle free begun waits stores = absurd stores
begins_and_stores v p q waiting rest from carry spare sample Spent new is idle free begun waits stores = absurd stores
begins_and_stores v p q waiting rest from carry spare sample (Stored word value) new is idle free begun waits stores =
    let old : UnitView = record { publisher = p; waiting = waiting; from = from; carry = carry } in
    let ready : UnitView = record { publisher = q; waiting = rest; from = from; carry = carry } in
    let begins : Begins old ready = (sample, waits, ap (λ (r : Publishing). let u : UnitView = record { publisher = r; waiting = rest; from = from; carry = carry } in u) begun) in
    let is_ready : IsReady old ready = inr (idle, free, begins) in
    let P : RoomView → Type 0 = λ w. Steps (Stored word value) w.unit new in
    subst P is (steps (Stored word value) old new (ready, is_ready, stores))

-- what a unit keeps, it keeps by a turn
pub turned_keeps : (u : UnitView) → IsUnit u → IsUnit (turned u)
turned_keeps u keeps =
    let short : published_by u ≤ length u.publisher.samples = published_within u keeps in
    let begun_long = length-append u.publisher.samples (unstored u.publisher.phase u.publisher.begun) in
    let all_long = length-append (begun_by u.publisher) u.waiting in
    let left_long = length-drop (published_by u) (all_of u) in
    record { publishing = keeps.publishing; from = omega arith; carry = omega arith; few = keeps.few }
