-- Each move of an end keeps the order of the lane.
use Rattle.std.proofs.Common.{◌≡◌, ◌≢◌, ◌⊎◌, inl, inr, ℕ, zero, suc, true, false, true≢false, List, [], ◌∷◌, ◌++◌, length, set, sym, refl, ap, ◌∙◌, subst, ⊎_elim, append_assoc, append-nil, arith, Option, None, Some, MatchOption}
use mathlib.Core.Option.{some, some-ne-none}
use lib.ListN.{get_elem?}
use Rattle.crossbeam_queue.specs.Fifo.{Held, Pushes, Pops, Forks, Merges, Learns}
use Rattle.crossbeam_queue.proofs.Lists.{at_set, at_snoc}
use Rattle.session_core.specs.declared.subject.Subject.{Subject}
use Rattle.session_core.specs.Naming.{untold}
use Rattle.gps_lane.specs.declared.order.Flow.{Flow}
use Rattle.gps_lane.specs.declared.order.LaneLog.{LaneLog}
use Rattle.gps_lane.specs.Lane.{flow, log, nothing, with_items, AllFit, Begins, EndsWith, Fits, FlowBegins, IsInOrder}
use Rattle.gps_fixed.specs.Lists.{IsPrefix}

-- what an end of a queue knows
abbrev Items : Type 0 → Type 0
Items T = LaneLog (Flow T)

module _ {X : Type 0} where
  at_end : (l : List (LaneLog X)) (a b : LaneLog X) (j : ℕ) → get_elem? l j ≢ some b → get_elem? (l ++ a ∷ []) j ≡ some b → j ≡ length l
  at_end [] a b zero n e = refl
  at_end [] a b (suc j) n e = absurd (some-ne-none b (sym e))
  at_end (x ∷ xs) a b zero n e = absurd (n e)
  at_end (x ∷ xs) a b (suc j) n e = ap suc (at_end xs a b j n e)

  abbrev pub All : (ℕ → LaneLog X → Type 0) → List (LaneLog X) → Type 0
  All F views = (end : ℕ) (v : LaneLog X) → get_elem? views end ≡ some v → F end v

  pub all_set : (F : ℕ → LaneLog X → Type 0) (views : List (LaneLog X)) (end : ℕ) (w : LaneLog X) → F end w
      → ((j : ℕ) (u : LaneLog X) → j ≢ end → get_elem? views j ≡ some u → F j u) → All F (set views end w)
  all_set F views end w mine others j u e =
      ⊎_elim (λ (x : (j ≡ end) × (w ≡ u)). subst (λ (y : ℕ × LaneLog X). F y.0 y.1) (λ i. (sym x.0 i, x.1 i)) mine)
      (λ (x : (j ≢ end) × (get_elem? views j ≡ some u)). others j u x.0 x.1) (at_set views end j w u e)

  -- one end alone
  pub one_fits : (put got : X) → AllFit 0 0 put got (log true true put got ∷ [])
  one_fits put got =
      all_set (Fits 0 0 put got) (log true true put got ∷ []) 0 (log true true put got) ((λ _. (refl, refl)), λ _. (refl, refl))
      (λ j u other e. absurd (other (at_end [] _ u j (λ x. some-ne-none u (sym x)) e)))

  -- the role of getting passes to a new end
  pub parted : (writer reader : ℕ) (put got : X) (views : List (LaneLog X)) (end : ℕ) (v : LaneLog X) (x y : X)
      → v.gets ≡ true → AllFit writer reader put got views → get_elem? views end ≡ some v
      → AllFit writer (length (set views end (log v.puts false v.put x))) put got (set views end (log v.puts false v.put x) ++ log false true y v.got ∷ [])
  parted writer reader put got views end v x y may fits at =
      let l : LaneLog X = log v.puts false v.put x in
      let r : LaneLog X = log false true y v.got in
      let mine = fits end v at in
      let vs : List (LaneLog X) = set views end l in
      let Old : ℕ → LaneLog X → Type 0 = λ j u. (u.puts ≡ true → (j ≡ writer) × (u.put ≡ put)) × (u.gets ≢ true) in
      let old : All Old vs =
      all_set Old views end l (mine.0, λ p. true≢false (sym p))
      (λ j u other e. ((fits j u e).0, λ p. other (((fits j u e).1 p).0 ∙ sym (mine.1 may).0))) in
      λ j u e. ⊎_elim (λ found. ((old j u found).0, λ p. absurd ((old j u found).1 p)))
      (λ (is : r ≡ u). (
        (λ p. absurd (true≢false (sym (ap (λ (z : LaneLog X). z.puts) is ∙ p)))),
        λ p. (at_end vs r u j (λ found. (old j u found).1 p) e, ap (λ (z : LaneLog X). z.got) (sym is) ∙ (mine.1 may).1),
      ))
      (at_snoc vs r u j e)

  -- and from another end to this one
  pub joined : (writer reader : ℕ) (put got : X) (views : List (LaneLog X)) (end : ℕ) (v : LaneLog X) (other : ℕ) (u : LaneLog X) (x y : X)
      → u.gets ≡ true → AllFit writer reader put got views → get_elem? views end ≡ some v → ¬ (other ≡ end)
      → get_elem? (set views end (log v.puts true v.put u.got)) other ≡ some u
      → AllFit writer end put got (set (set views end (log v.puts true v.put u.got)) other (log false false x y))
  joined writer reader put got views end v other u x y may fits at two at' =
      let both : LaneLog X = log v.puts true v.put u.got in
      let mine = fits end v at in
      let vs : List (LaneLog X) = set views end both in
      let was : get_elem? views other ≡ some u = ⊎_elim (λ found. absurd (two found.0)) (λ found. found.1) (at_set views end other both u at') in
      let theirs = (fits other u was).1 may in
      let Now : ℕ → LaneLog X → Type 0 = λ j z. j ≢ other → Fits writer end put got j z in
      let now : All Now vs =
      all_set Now views end both (λ _. (mine.0, λ _. (refl, theirs.1)))
      (λ j z _ e apart. ((fits j z e).0, λ p. absurd (apart (((fits j z e).1 p).0 ∙ sym theirs.0)))) in
      all_set (Fits writer end put got) vs other (log false false x y) ((λ p. absurd (true≢false (sym p))), λ p. absurd (true≢false (sym p)))
      (λ j z apart e. now j z e apart)

  -- an end that has both roles knows something else from now on
  pub tied : (writer reader : ℕ) (put got : X) (views : List (LaneLog X)) (end : ℕ) (v : LaneLog X) (x : X)
      → v.puts ≡ true → v.gets ≡ true → AllFit writer reader put got views → get_elem? views end ≡ some v
      → AllFit end end x x (set views end (log true true x x))
  tied writer reader put got views end v x puts gets fits at =
      let mine = fits end v at in
      all_set (Fits end end x x) views end (log true true x x) ((λ _. (refl, refl)), λ _. (refl, refl))
      (λ j u other e. (
        (λ p. absurd (other (((fits j u e).0 p).0 ∙ sym (mine.0 puts).0))),
        λ p. absurd (other (((fits j u e).1 p).0 ∙ sym (mine.1 gets).0)),
      ))

module _ {T : Type 0} where
  -- what begins something that is due has such beginnings
  pub begins_less : (due : Subject → List T → Type 0) (about : Subject) (first more : List T) → Begins due about (first ++ more) → Begins due about first
  begins_less due about [] more b = inl refl
  begins_less due about (x ∷ first) more (inl none) = absurd cc
  begins_less due about (x ∷ first) more (inr b) = inr (more ++ b.0, subst (due about) (append_assoc (x ∷ first) more b.0) b.1)

module _ {T : Type 0} (due : Subject → List T → Type 0) where
  pub begins : IsInOrder due [] (log true true nothing nothing ∷ [])
  begins = (0, 0, untold, [], [], refl, inl refl, one_fits nothing nothing)

  -- the two ends of a new lane, which is about something
  pub parts : (end : ℕ) (v : Items T) (about : Subject) → v ≡ log true true nothing nothing
      → Forks (IsInOrder due) end v (log true false (flow about []) nothing) (log false true nothing (flow about []))
  parts end v about is items views h at =
      let l : Items T = log true false (flow about []) nothing in
      let r : Items T = log false true nothing (flow about []) in
      let vs : List (Items T) = set views end l in
      let mine = h.7 end v at in
      let puts : v.puts ≡ true = ap (λ (u : Items T). u.puts) is in
      let gets : v.gets ≡ true = ap (λ (u : Items T). u.gets) is in
      let put : [] ≡ h.3 = sym (ap (λ (u : Items T). u.put.items) is) ∙ ap (λ (f : Flow T). f.items) (mine.0 puts).1 in
      let got : [] ≡ h.4 = sym (ap (λ (u : Items T). u.got.items) is) ∙ ap (λ (f : Flow T). f.items) (mine.1 gets).1 in
      let none : [] ≡ [] ++ items = put ∙ h.5 ∙ ap (λ l. l ++ items) (sym got) in
      let Old : ℕ → Items T → Type 0 = λ j u. (u.puts ≡ true → (j ≡ end) × (u.put ≡ flow about [])) × (u.gets ≢ true) in
      let old : All Old vs =
      all_set Old views end l ((λ _. (refl, refl)), λ p. true≢false (sym p))
      (λ j u other e. ((λ p. absurd (other (((h.7 j u e).0 p).0 ∙ sym (mine.0 puts).0))), λ p. other (((h.7 j u e).1 p).0 ∙ sym (mine.1 gets).0))) in (
        end,
        length vs,
        about,
        [],
        [],
        none,
        inl refl,
        λ j u e. ⊎_elim (λ found. ((old j u found).0, λ p. absurd ((old j u found).1 p)))
            (λ (same : r ≡ u). (
              (λ p. absurd (true≢false (sym (ap (λ (z : Items T). z.puts) same ∙ p)))),
              λ p. (at_end vs r u j (λ found. (old j u found).1 p) e, ap (λ (z : Items T). z.got) (sym same)),
            ))
            (at_snoc vs r u j e),
      )

  pub puts : (n end : ℕ) (v : Items T) (x : T) → v.puts ≡ true → FlowBegins due (with_items (x ∷ []) v.put)
      → Pushes (IsInOrder due) n end v x (λ w. w ≡ log v.puts v.gets (with_items (x ∷ []) v.put) v.got)
  puts n end v x may lets items views _ h at =
      let w : Items T = log v.puts v.gets (with_items (x ∷ []) v.put) v.got in
      let mine = h.7 end v at in
      let put = h.3 ++ x ∷ [] in
      let more : with_items (x ∷ []) v.put ≡ flow h.2 put = ap (with_items (x ∷ [])) (mine.0 may).1 in (
        w,
        (
          h.0,
          h.1,
          h.2,
          put,
          h.4,
          ap (λ l. l ++ x ∷ []) h.5 ∙ append_assoc h.4 items (x ∷ []),
          subst (λ (f : Flow T). FlowBegins due f) more lets,
          all_set (Fits h.0 h.1 (flow h.2 put) (flow h.2 h.4)) views end w ((λ _. ((mine.0 may).0, more)), mine.1)
              (λ j u other e. ((λ p. absurd (other (((h.7 j u e).0 p).0 ∙ sym (mine.0 may).0))), (h.7 j u e).1)),
        ),
        refl,
      )

  pub gets : (end : ℕ) (v : Items T) → v.gets ≡ true
      → Pops (IsInOrder due) end v (λ x w. (w ≡ log v.puts v.gets v.put (with_items (x ∷ []) v.got)) × (v.puts ≡ true → IsPrefix w.got.items w.put.items)
      × FlowBegins due (with_items (x ∷ []) v.got))
  gets end v may x items views h at =
      let w : Items T = log v.puts v.gets v.put (with_items (x ∷ []) v.got) in
      let mine = h.7 end v at in
      let got = h.4 ++ x ∷ [] in
      let more : with_items (x ∷ []) v.got ≡ flow h.2 got = ap (with_items (x ∷ [])) (mine.1 may).1 in
      let order : h.3 ≡ got ++ items = h.5 ∙ sym (append_assoc h.4 (x ∷ []) items) in
      let first : Begins due h.2 got = begins_less due h.2 got items (subst (Begins due h.2) order h.6) in (
        w,
        (
          h.0,
          h.1,
          h.2,
          h.3,
          got,
          order,
          h.6,
          all_set (Fits h.0 h.1 (flow h.2 h.3) (flow h.2 got)) views end w (mine.0, λ _. ((mine.1 may).0, more))
              (λ j u other e. ((h.7 j u e).0, λ p. absurd (other (((h.7 j u e).1 p).0 ∙ sym (mine.1 may).0)))),
        ),
        (
          refl,
          (λ puts. (
            items,
            ap (λ (f : Flow T). f.items) (mine.0 puts).1 ∙ order ∙ ap (λ (f : Flow T). (f.items ++ x ∷ []) ++ items) (sym (mine.1 may).1),
          )),
          subst (λ (f : Flow T). FlowBegins due f) (sym more) first,
        ),
      )

  -- the role of getting passes to a new end
  pub forks : (end : ℕ) (v : Items T) → v.gets ≡ true → Forks (IsInOrder due) end v (log v.puts false v.put nothing) (log false true nothing v.got)
  forks end v may items views h at = (
    h.0,
    length (set views end (log v.puts false v.put nothing)),
    h.2,
    h.3,
    h.4,
    h.5,
    h.6,
    parted h.0 h.1 (flow h.2 h.3) (flow h.2 h.4) views end v nothing nothing may h.7 at,
  )

  -- and from another end to this one
  pub merges : (end : ℕ) (v : Items T) (other : ℕ) (u : Items T) → u.gets ≡ true
      → Merges (IsInOrder due) end v other u (log v.puts true v.put u.got) (log false false nothing nothing)
  merges end v other u may items views h at two at' =
      (h.0, end, h.2, h.3, h.4, h.5, h.6, joined h.0 h.1 (flow h.2 h.3) (flow h.2 h.4) views end v other u nothing nothing may h.7 at two at')

  -- what the lane holds is the last of what was put
  pub holds_last : (end : ℕ) (v : Items T) → v.puts ≡ true → Learns (IsInOrder due) end v (λ items. EndsWith items v.put.items)
  holds_last end v may items views h at = (h.4, ap (λ (f : Flow T). f.items) ((h.7 end v at).0 may).1 ∙ h.5)

  -- if one end puts and gets, it knows what the lane holds
  pub holds_rest : (end : ℕ) (v : Items T) → v.gets ≡ true → Learns (IsInOrder due) end v (λ items. v.puts ≡ true → v.put.items ≡ v.got.items ++ items)
  holds_rest end v may items views h at puts =
      let mine = h.7 end v at in
      ap (λ (f : Flow T). f.items) (mine.0 puts).1 ∙ h.5 ∙ ap (λ (f : Flow T). f.items ++ items) (sym (mine.1 may).1)

  -- what a pop leaves of an end that gets
  abbrev pub Popped : Option T → Items T → Items T → Type 0
  Popped result v w =
      MatchOption result ((w ≡ v) × Held 0 (λ items. v.puts ≡ true → v.put.items ≡ v.got.items ++ items))
      (λ x. (w ≡ log v.puts v.gets v.put (with_items (x ∷ []) v.got)) × (v.puts ≡ true → IsPrefix w.got.items w.put.items)
      × FlowBegins due (with_items (x ∷ []) v.got))

  pub still_gets : (result : Option T) (v w : Items T) → Popped result v w → v.gets ≡ true → w.gets ≡ true
  still_gets None v w popped may = ap (λ (y : Items T). y.gets) popped.0 ∙ may
  still_gets (Some x) v w popped may = ap (λ (y : Items T). y.gets) popped.0 ∙ may

  nothing_left : (items put got : List T) → length items ≡ 0 → put ≡ got ++ items → put ≡ got
  nothing_left [] put got none e = e ∙ append-nil got
  nothing_left (x ∷ items) put got none e = absurd (omega (arith, none))

  pub all_got : (v w : Items T) → Popped None v w → v.puts ≡ true → w.put.items ≡ w.got.items
  all_got v w popped puts =
      ap (λ (y : Items T). y.put.items) popped.0 ∙ nothing_left popped.1.0 v.put.items v.got.items popped.1.1 (popped.1.2 puts)
      ∙ sym (ap (λ (y : Items T). y.got.items) popped.0)

  pub got_first : (result : Option T) (v w : Items T) → Popped result v w → v.puts ≡ true → IsPrefix w.got.items w.put.items
  got_first None v w popped puts = ([], all_got v w popped puts ∙ sym (append-nil w.got.items))
  got_first (Some x) v w popped puts = popped.1 puts

  -- what was got goes on beginning something that is due
  pub still_due : (result : Option T) (v w : Items T) → Popped result v w → FlowBegins due v.got → FlowBegins due w.got
  still_due None v w popped was = subst (λ (y : Items T). FlowBegins due y.got) (sym popped.0) was
  still_due (Some x) v w popped was = subst (λ (y : Items T). FlowBegins due y.got) (sym popped.0) popped.2
