-- The door, asked again and again.
use Rattle.std.proofs.Common.{◌≡◌, ◌<◌, ◌≤◌, ◌+◌, ◌-◌, ◌^◌, ◌⊎◌, inl, inr, ℕ, Bool, true, false, suc, List, [], ◌∷◌, ◌++◌, map, length, min, Option, Some, None, refl, sym, ◌∙◌, ap, subst, append_assoc, arith}
use Rattle.std.proofs.lemmas.List.{append-nil, length-append, map-append}
use Rattle.gps_outside.specs.Counts.{Rose, one_more}
use Rattle.gps_outside.specs.Links.{HasNoLink, PassLinks}
use Rattle.gps_outside.specs.Told.{Goes, Stays}
use Rattle.gps_outside.proofs.Going.{goes_as, goes_on}
use Rattle.serve_workers.specs.declared.session.SessionLink.{SessionLink}
use Rattle.hub_door.specs.Admissions.{LinkDrop}
use Rattle.serve_door.specs.Doors.{Dealt, Deals, DoorNow, Drops, IsDropped, IsSublist, NoneLeft, Taken, Tally, Tends, WasAsked, Way, door_now, tally, way_of}

no_more : {L : Type 0} (links after : List L) → [] ≡ links ++ after → after ≡ []
no_more [] after is = sym is
no_more (link ∷ links) after is = absurd cc

none_after : {L : Type 0} (more : List L) (x y : List L) → x ≡ [] → PassLinks more x y → y ≡ []
none_after more x y none passed = no_more more y (sym none ∙ passed)

-- if no link is left, no more came
none_still : {L : Type 0} (told left left' : Option (List L)) (more : List L) → NoneLeft told left → Goes (PassLinks more) left left' → NoneLeft told left'
none_still None left left' more none passed = tt
none_still (Some links) None left' more none passed = absurd none
none_still (Some links) (Some x) None more none passed = absurd passed
none_still (Some links) (Some x) (Some y) more none passed = none_after more x y none passed

none_now : {L : Type 0} (told left left' : Option (List L)) (taken : List L) → Goes (PassLinks taken) told left → Goes HasNoLink left left' → NoneLeft told left'
none_now None left left' taken passed none = tt
none_now (Some links) None left' taken passed none = absurd passed
none_now (Some links) (Some x) None taken passed none = absurd none
none_now (Some links) (Some x) (Some y) taken passed none = sym none.same ∙ none.none

passed_on : {L : Type 0} (taken more : List L) (a b c : Option (List L)) → Goes (PassLinks taken) a b → Goes (PassLinks more) b c → Goes (PassLinks (taken ++ more)) a c
passed_on taken more a b c first then =
    goes_on (PassLinks taken) (PassLinks more) (PassLinks (taken ++ more)) a b c
    (λ x y z p q. p ∙ ap (λ l. taken ++ l) q ∙ sym (append_assoc taken more z)) first then

none_passed : {L : Type 0} (a b : Option (List L)) → Goes Stays a b → Goes (PassLinks []) a b
none_passed a b stays = goes_as Stays (PassLinks []) a b (λ x y p. p) stays

closed_passed : {L : Type 0} (a b : Option (List L)) → Goes HasNoLink a b → Goes (PassLinks []) a b
closed_passed a b none = goes_as HasNoLink (PassLinks []) a b (λ x y p. p.same) none

pub begun : {L : Type 0} (told : Option (List L)) → Goes (PassLinks []) told told
begun None = tt
begun (Some links) = refl

-- one link more was taken, and dropped
one_more_taken : {X : Type 0} (xs ys : List X) (y : X) → IsSublist xs ys → IsSublist xs (ys ++ y ∷ [])
one_more_taken [] ys y sub = tt
one_more_taken (x ∷ xs) [] y sub = absurd sub
one_more_taken (x ∷ xs) (z ∷ ys) y sub = elim sub [ inl same ↦ inl (same.0, one_more_taken xs ys y same.1) | inr later ↦ inr (one_more_taken (x ∷ xs) ys y later) ]

-- one link more was taken, and is that of a session
both_more : {X : Type 0} (xs ys : List X) (y : X) → IsSublist xs ys → IsSublist (xs ++ y ∷ []) (ys ++ y ∷ [])
both_more [] [] y sub = inl (refl, tt)
both_more [] (z ∷ ys) y sub = inr (both_more [] ys y tt)
both_more (x ∷ xs) [] y sub = absurd sub
both_more (x ∷ xs) (z ∷ ys) y sub = elim sub [ inl same ↦ inl (same.0, both_more xs ys y same.1) | inr later ↦ inr (both_more (x ∷ xs) ys y later) ]

-- one link more was taken, and what came of it
module _ {X : Type 0} (way : X) where
  seats_one : (n : ℕ) (taken sessions : List X) (drops : List LinkDrop) → Dealt n taken sessions drops → Dealt n (taken ++ way ∷ []) (sessions ++ way ∷ []) drops
  seats_one n [] sessions drops dealt = inl ([], ap (λ l. l ++ way ∷ []) dealt.0, (refl, dealt.1))
  seats_one n (x ∷ taken) sessions drops dealt = elim dealt [
    | inl seated ↦ inl (seated.0 ++ way ∷ [], ap (λ l. l ++ way ∷ []) seated.1, seats_one (suc n) taken seated.0 drops seated.2)
    | inr (inl dropped) ↦ inr (inl (dropped.0, dropped.1, dropped.2, dropped.3, seats_one n taken sessions dropped.1 dropped.4))
    | inr (inr was_out_of_memory) ↦ inr (inr (seats_one n taken sessions drops was_out_of_memory))
  ]

  drops_one : (n held : ℕ) (taken sessions : List X) (drops drops' : List LinkDrop) → Drops (n + length sessions) held drops drops' → Dealt n taken sessions drops
      → Dealt n (taken ++ way ∷ []) sessions drops'
  drops_one n held [] sessions drops drops' one dealt =
      let none : n + length sessions ≡ n = let m = ap length dealt.0 in omega (arith, m) in
      inr (inl (one.drop, [], one.list ∙ ap (λ l. l ++ one.drop ∷ []) dealt.1, subst (λ m. IsDropped m one.drop) none one.is, (dealt.0, refl)))
  drops_one n held (x ∷ taken) sessions drops drops' one dealt = elim dealt [
    | inl seated ↦
        let same : n + length sessions ≡ suc n + length seated.0 = let m = ap length seated.1 in omega (arith, m) in
        inl (seated.0, seated.1, drops_one (suc n) held taken seated.0 drops drops' (subst (λ m. Drops m held drops drops') same one) seated.2)
    | inr (inl dropped) ↦
        let next : Drops (n + length sessions) held dropped.1 (dropped.1 ++ one.drop ∷ []) = record { drop = one.drop; is = one.is; held_is = one.held_is; list = refl } in
        inr (inl (
          dropped.0,
          dropped.1 ++ one.drop ∷ [],
          one.list ∙ ap (λ l. l ++ one.drop ∷ []) dropped.2,
          dropped.3,
          drops_one n held taken sessions dropped.1 (dropped.1 ++ one.drop ∷ []) next dropped.4,
        ))
    | inr (inr was_out_of_memory) ↦ inr (inr (drops_one n held taken sessions drops drops' one was_out_of_memory))
  ]

  lacks_one : (n : ℕ) (taken sessions : List X) (drops : List LinkDrop) → Dealt n taken sessions drops → Dealt n (taken ++ way ∷ []) sessions drops
  lacks_one n [] sessions drops dealt = inr (inr dealt)
  lacks_one n (x ∷ taken) sessions drops dealt = elim dealt [
    | inl seated ↦ inl (seated.0, seated.1, lacks_one (suc n) taken seated.0 drops seated.2)
    | inr (inl dropped) ↦ inr (inl (dropped.0, dropped.1, dropped.2, dropped.3, lacks_one n taken sessions dropped.1 dropped.4))
    | inr (inr was_out_of_memory) ↦ inr (inr (lacks_one n taken sessions drops was_out_of_memory))
  ]

module _ {S K : Type 0} (told : Option (List (Way S K))) where
  len_one : (taken : List (Way S K)) (way : Way S K) → length (taken ++ way ∷ []) ≡ length taken + 1
  len_one taken way = length-append taken (way ∷ [])

  -- nothing was taken
  taken_same : (x y : DoorNow S K) (links links' taken : List (Way S K)) → Taken told x links taken → Goes (PassLinks []) x.left y.left → y.drops ≡ x.drops → y.full ≡ x.full
      → y.no_memory ≡ x.no_memory → links' ≡ links → Taken told y links' taken
  taken_same x y links links' taken so passed drops full memory same =
      subst (λ l. Taken told y l taken) (sym same) (
      record {
        passed = subst (λ l. Goes (PassLinks l) told y.left) (append-nil taken) (passed_on taken [] told x.left y.left so.passed passed);
        few = let few = so.few in let n = ap length drops in omega (arith, few, n);
        uncounted = λ (e : y.no_memory ≡ true). let before = so.uncounted (sym memory ∙ e) in let n = ap length drops in omega (arith, before, n);
        count = λ (e : y.no_memory ≡ false). so.count (sym memory ∙ e) ∙ ap (λ (l : List LinkDrop). length links + length l) (sym drops);
        full = full ∙ so.full ∙ ap (λ (l : List LinkDrop). min (length l) (2 ^ 64 - 1)) (sym drops);
        dealt = subst (Dealt 0 taken links) (sym drops) so.dealt;
        each = so.each;
        order = so.order;
      }
      )

  -- a link was taken
  taken_more : (held : ℕ) (x y : DoorNow S K) (links links' taken : List (Way S K)) (way : Way S K) → Taken told x links taken → Goes (PassLinks (way ∷ [])) x.left y.left
      → Deals held way links links' (tally x.drops x.full x.no_memory) (tally y.drops y.full y.no_memory) → Taken told y links' (taken ++ way ∷ [])
  taken_more held x y links links' taken way so passed deals =
      let on = passed_on taken (way ∷ []) told x.left y.left so.passed passed in
      let more = len_one taken way in
      elim deals [
        | inl seated ↦
            let grown : length links' ≡ length links + 1 = ap length seated.0 ∙ len_one links way in
            let drops : y.drops ≡ x.drops = ap (λ (t : Tally). t.drops) seated.1 in
            let full : y.full ≡ x.full = ap (λ (t : Tally). t.full) seated.1 in
            let memory : y.no_memory ≡ x.no_memory = ap (λ (t : Tally). t.no_memory) seated.1 in
            let n : length y.drops ≡ length x.drops = ap length drops in
            record {
              passed = on;
              few = let few = so.few in omega (arith, few, more, grown, n);
              uncounted = λ (e : y.no_memory ≡ true). let before = so.uncounted (sym memory ∙ e) in omega (arith, before, more, grown, n);
              count = λ (e : y.no_memory ≡ false). let before = so.count (sym memory ∙ e) in omega (arith, before, more, grown, n);
              full = full ∙ so.full ∙ ap (λ (l : List LinkDrop). min (length l) (2 ^ 64 - 1)) (sym drops);
              dealt = subst (λ l. Dealt 0 (taken ++ way ∷ []) l y.drops) (sym seated.0)
                  (subst (Dealt 0 (taken ++ way ∷ []) (links ++ way ∷ [])) (sym drops) (seats_one way 0 taken links x.drops so.dealt));
              each = λ (e : length (taken ++ way ∷ []) ≡ length links').
                  seated.0 ∙ ap (λ l. l ++ way ∷ []) (so.each (omega (arith, e, more, grown)));
              order = subst (λ l. IsSublist l (taken ++ way ∷ [])) (sym seated.0) (both_more links taken way so.order);
            }
        | inr (inl crowded) ↦
            let same : length links' ≡ length links = ap length crowded.0 in
            let full : y.full ≡ one_more x.full = crowded.1 in
            let memory : y.no_memory ≡ x.no_memory = crowded.2 in
            let one : Drops (length links) held x.drops y.drops = crowded.3 in
            let none_before : length links ≡ 0 + length links = omega arith in
            let n : length y.drops ≡ length x.drops + 1 = ap length one.list ∙ length-append x.drops (one.drop ∷ []) in
            record {
              passed = on;
              few = let few = so.few in omega (arith, few, more, same, n);
              uncounted = λ (e : y.no_memory ≡ true). let before = so.uncounted (sym memory ∙ e) in omega (arith, before, more, same, n);
              count = λ (e : y.no_memory ≡ false). let before = so.count (sym memory ∙ e) in omega (arith, before, more, same, n);
              full = let before : x.full ≡ min (length x.drops) (2 ^ 64 - 1) = so.full in omega (arith, full, before, n);
              dealt = subst (λ l. Dealt 0 (taken ++ way ∷ []) l y.drops) (sym crowded.0) (drops_one way 0 held taken links x.drops y.drops (subst (λ m. Drops m held x.drops y.drops) none_before one) so.dealt);
              each = λ (e : length (taken ++ way ∷ []) ≡ length links'). let few = so.few in absurd (omega (arith, e, more, same, few));
              order = subst (λ l. IsSublist l (taken ++ way ∷ [])) (sym crowded.0) (one_more_taken links taken way so.order);
            }
        | inr (inr was_out_of_memory) ↦
            let same : length links' ≡ length links = ap length was_out_of_memory.0 in
            let drops : y.drops ≡ x.drops = was_out_of_memory.1 in
            let n : length y.drops ≡ length x.drops = ap length drops in
            record {
              passed = on;
              few = let few = so.few in omega (arith, few, more, same, n);
              uncounted = λ (e : y.no_memory ≡ true). let few = so.few in omega (arith, few, more, same, n);
              count = λ (e : y.no_memory ≡ false). absurd (cc (e, was_out_of_memory.3));
              full = was_out_of_memory.2 ∙ so.full ∙ ap (λ (l : List LinkDrop). min (length l) (2 ^ 64 - 1)) (sym drops);
              dealt = subst (λ l. Dealt 0 (taken ++ way ∷ []) l y.drops) (sym was_out_of_memory.0)
                  (subst (Dealt 0 (taken ++ way ∷ []) links) (sym drops) (lacks_one way 0 taken links x.drops so.dealt));
              each = λ (e : length (taken ++ way ∷ []) ≡ length links'). let few = so.few in absurd (omega (arith, e, more, same, few));
              order = subst (λ l. IsSublist l (taken ++ way ∷ [])) (sym was_out_of_memory.0) (one_more_taken links taken way so.order);
            }
      ]

  closed_still : (x y : DoorNow S K) (more : List (Way S K)) → NoneLeft told x.left ⊎ (0 < x.faults) → Goes (PassLinks more) x.left y.left → x.faults ≤ y.faults
      → NoneLeft told y.left ⊎ (0 < y.faults)
  closed_still x y more so passed stay = elim so [ inl none ↦ inl (none_still told x.left y.left more none passed) | inr some ↦ inr (omega (arith, some, stay)) ]

  -- a link came
  pub asked_link : (held : ℕ) (x y : DoorNow S K) (links links' : List (Way S K)) (way : Way S K) (done done' to_ask : Bool) → Tends told x links done to_ask
      → Goes (PassLinks (way ∷ [])) x.left y.left → Deals held way links links' (tally x.drops x.full x.no_memory) (tally y.drops y.full y.no_memory) → x.faults ≤ y.faults
      → done' ≡ done → Tends told y links' done' false
  asked_link held x y links links' way done done' to_ask so passed deals stay same = record {
    taken = so.taken ++ way ∷ [];
    takes = taken_more held x y links links' so.taken way so.takes passed deals;
    asked = inr (inl (let more = len_one so.taken way in omega (arith, more)));
    closed = λ (e : done' ≡ true). closed_still x y (way ∷ []) (so.closed (sym same ∙ e)) passed stay;
  }

  -- no link came
  pub asked_quiet : (x y : DoorNow S K) (links links' : List (Way S K)) (done done' to_ask : Bool) → Tends told x links done to_ask
      → Goes Stays x.left y.left → Rose x.quiets y.quiets → y.drops ≡ x.drops → y.full ≡ x.full → y.no_memory ≡ x.no_memory → links' ≡ links → x.faults ≤ y.faults → done' ≡ done
      → Tends told y links' done' false
  asked_quiet x y links links' done done' to_ask so stays rose drops full memory same stay is = record {
    taken = so.taken;
    takes = taken_same x y links links' so.taken so.takes (none_passed x.left y.left stays) drops full memory same;
    asked = inr (inr (inl (omega (arith, rose))));
    closed = λ (e : done' ≡ true). closed_still x y [] (so.closed (sym is ∙ e)) (none_passed x.left y.left stays) stay;
  }

  -- it has closed
  pub asked_closed : (x y : DoorNow S K) (links links' : List (Way S K)) (done done' to_ask : Bool) → Tends told x links done to_ask
      → Goes HasNoLink x.left y.left → y.drops ≡ x.drops → y.full ≡ x.full → y.no_memory ≡ x.no_memory → links' ≡ links → Tends told y links' done' false
  asked_closed x y links links' done done' to_ask so none drops full memory same = record {
    taken = so.taken;
    takes = taken_same x y links links' so.taken so.takes (closed_passed x.left y.left none) drops full memory same;
    asked = inr (inr (inr (inr (none_now told x.left y.left so.taken so.takes.passed none))));
    closed = λ (e : done' ≡ true). inl (none_now told x.left y.left so.taken so.takes.passed none);
  }

  -- it has failed
  pub asked_failed : (x y : DoorNow S K) (links links' : List (Way S K)) (done done' to_ask : Bool) → Tends told x links done to_ask
      → Goes Stays x.left y.left → Rose x.faults y.faults → y.drops ≡ x.drops → y.full ≡ x.full → y.no_memory ≡ x.no_memory → links' ≡ links → Tends told y links' done' false
  asked_failed x y links links' done done' to_ask so stays rose drops full memory same = record {
    taken = so.taken;
    takes = taken_same x y links links' so.taken so.takes (none_passed x.left y.left stays) drops full memory same;
    asked = inr (inr (inr (inl (omega (arith, rose)))));
    closed = λ (e : done' ≡ true). inr (omega (arith, rose));
  }

  -- it was asked before, whether it is to be asked again or not
  pub tends_any : (x : DoorNow S K) (links : List (Way S K)) (done to_ask : Bool) → Tends told x links done false → Tends told x links done to_ask
  tends_any x links done to_ask so = record {
    taken = so.taken;
    takes = so.takes;
    asked = elim so.asked [ inl never ↦ absurd (cc never) | inr was ↦ inr was ];
    closed = so.closed;
  }

  -- before it is asked
  pub tends_none : (x : DoorNow S K) (done : Bool) → x.left ≡ told → x.drops ≡ [] → x.full ≡ 0 → x.no_memory ≡ false → done ≡ false → Tends told x [] done true
  tends_none x done left drops full had open_still = record {
    taken = [];
    takes = record {
      passed = subst (λ l. Goes (PassLinks []) told l) (sym left) (begun told);
      few = let n = ap length drops in omega (arith, n);
      uncounted = λ (e : x.no_memory ≡ true). absurd (cc (e, had));
      count = λ (e : x.no_memory ≡ false). let n = ap length drops in omega (arith, n);
      full = let n : length x.drops ≡ 0 = ap length drops in let none : x.full ≡ 0 = full in omega (arith, n, none);
      dealt = (refl, drops);
      each = λ (e : 0 ≡ 0). refl;
      order = tt;
    };
    asked = inl refl;
    closed = λ (e : done ≡ true). absurd (cc (e, open_still));
  }

-- if the door, its counts and the sessions are the same
pub still_tends : {G S K : Type 0} (links : G → Option (List (Way S K))) (faults quiets : G → ℕ) (told : Option (List (Way S K))) (gate gate' : G) (was now : Tally)
    (ways ways' : List (Way S K)) (done done' to_ask : Bool)
    → Tends told (door_now (links gate) (faults gate) (quiets gate) was.drops was.full was.no_memory) ways done to_ask → gate' ≡ gate → now ≡ was → ways' ≡ ways → done' ≡ done
    → Tends told (door_now (links gate') (faults gate') (quiets gate') now.drops now.full now.no_memory) ways' done' to_ask
still_tends {G} {S} {K} links faults quiets told gate gate' was now ways ways' done done' to_ask so same_gate same ways_are done_is =
    subst (λ (d : Bool). Tends told (door_now (links gate') (faults gate') (quiets gate') now.drops now.full now.no_memory) ways' d to_ask) (sym done_is)
    (subst (λ (w : List (Way S K)). Tends told (door_now (links gate') (faults gate') (quiets gate') now.drops now.full now.no_memory) w done to_ask) (sym ways_are)
    (subst (λ (t : Tally). Tends told (door_now (links gate') (faults gate') (quiets gate') t.drops t.full t.no_memory) ways done to_ask) (sym same)
    (subst (λ (g : G). Tends told (door_now (links g) (faults g) (quiets g) was.drops was.full was.no_memory) ways done to_ask) (sym same_gate) so)))

-- what came of a link, told from before the threads that had ended were joined
pub deals_from : {S K : Type 0} (held : ℕ) (way : Way S K) (old mid new : List (Way S K)) (was between now : Tally) → Deals held way mid new between now → mid ≡ old → between ≡ was
    → Deals held way old new was now
deals_from {S} {K} held way old mid new was between now deals same count =
    subst (λ (l : List (Way S K)). Deals held way l new was now) same (subst (λ (t : Tally). Deals held way mid new t now) count deals)

-- a session more
pub ways_more : {S K R : Type 0} (links : List (SessionLink S K R)) (link : SessionLink S K R) → map way_of (links ++ link ∷ []) ≡ map way_of links ++ way_of link ∷ []
ways_more links link = map-append way_of links (link ∷ [])
