-- Each kind of step keeps the rule of the table of stamps.
use Rattle.std.proofs.Common.{◌≡◌, ◌≢◌, ◌<◌, ◌≤◌, ◌+◌, ◌⊎◌, ◌==◌, ℕ, zero, suc, Bool, true, false, List, [], ◌∷◌, ◌++◌, length, set, refl, sym, ap, ◌∙◌, subst, inl, inr, ⊎_elim, arith, eqb, eq-eqb, ne_eqb, if◌then◌else◌}
use mathlib.Core.Option.{some, some-injective, some-ne-none}
use mathlib.Core.Logic.{dite}
use native.Mathlib.Decide.{ℕ_discrete}
use lib.ListN.{get_elem?}
use Rattle.atomic_table.proofs.Lists.{at_set, set_else}
use Rattle.atomic_table.specs.Table.{Me, Allows, Splits, Joins}
use Rattle.atomic_table.specs.Table.{keeps as no_slot}
use Rattle.gps_fixed.specs.Moment.{Moment}
use Rattle.stamp_shares.specs.declared.view.Given.{Given}
use Rattle.stamp_shares.specs.declared.view.SeatView.{SeatView}
use Rattle.stamp_shares.specs.declared.view.ShareView.{ShareView}
use Rattle.stamp_shares.specs.Shares.{AreShares, IsShareOf, given_to, new_share, stamps_for, with_stamp}
use Rattle.stamp_shares.specs.Views.{counting, gathering, giving, holding, nothing, opening_view, share_in}
use Rattle.stamp_shares.specs.Rule.{Belong, Belongs, Facts, Fits, HoldsOf, ShareHolds}
use Rattle.stamp_shares.proofs.Sharing.{given_else, given_more}

-- an element of a list that was made longer: one of before, or the last
at_end : {A : Type 0} (l : List A) (a b : A) (j : ℕ) → get_elem? (l ++ a ∷ []) j ≡ some b
    → ((j ≢ length l) × (get_elem? l j ≡ some b)) ⊎ ((j ≡ length l) × (a ≡ b))
at_end [] a b zero e = inr (refl, some-injective a b e)
at_end [] a b (suc j) e = absurd (some-ne-none b (sym e))
at_end (x ∷ xs) a b zero e = inl ((λ h. omega arith), e)
at_end (x ∷ xs) a b (suc j) e = ⊎_elim (λ t. let n = t.0 in inl ((λ h. n (omega arith)), t.1)) (λ t. inr (ap suc t.0, t.1)) (at_end xs a b j e)

length_set : {A : Type 0} (l : List A) (i : ℕ) (a : A) → length (set l i a) ≡ length l
length_set [] i a = refl
length_set (x ∷ xs) zero a = refl
length_set (x ∷ xs) (suc i) a = ap suc (length_set xs i a)

inside : {A : Type 0} (l : List A) (j : ℕ) (a : A) → get_elem? l j ≡ some a → j < length l
inside [] j a e = absurd (some-ne-none a (sym e))
inside (x ∷ xs) zero a e = omega arith
inside (x ∷ xs) (suc j) a e = let h = inside xs j a e in omega arith

-- each view fits
abbrev AllFit : Facts → List SeatView → Type 0
AllFit x views = (seat : ℕ) (v : SeatView) → get_elem? views seat ≡ some v → Fits x seat v

-- one seat changes
fits_set : (x y : Facts) (views : List SeatView) (seat : ℕ) (w : SeatView)
    → AllFit x views → Fits y seat w → ((j : ℕ) (u : SeatView) → j ≢ seat → Fits x j u → Fits y j u) → AllFit y (set views seat w)
fits_set x y views seat w fits mine others j u e =
    ⊎_elim (λ (h : (j ≡ seat) × (w ≡ u)). subst (λ (z : ℕ × SeatView). Fits y z.0 z.1) (λ i. (sym h.0 i, h.1 i)) mine)
    (λ (h : (j ≢ seat) × (get_elem? views j ≡ some u)). others j u h.0 (fits j u h.1)) (at_set views seat j w u e)

-- one seat changes, and one more is there
fits_split : (x y : Facts) (views : List SeatView) (seat : ℕ) (v w z : SeatView)
    → get_elem? views seat ≡ some v
    → AllFit x views → Fits y seat w → Fits y (length views) z → ((j : ℕ) (u : SeatView) → j ≢ seat → j < length views → Fits x j u → Fits y j u)
    → AllFit y (set views seat w ++ z ∷ [])
fits_split x y views seat v w z at fits mine new others j u e =
    ⊎_elim
    (λ (h : (j ≢ length (set views seat w)) × (get_elem? (set views seat w) j ≡ some u)).
    ⊎_elim (λ (k : (j ≡ seat) × (w ≡ u)). subst (λ (q : ℕ × SeatView). Fits y q.0 q.1) (λ i. (sym k.0 i, k.1 i)) mine)
    (λ (k : (j ≢ seat) × (get_elem? views j ≡ some u)). others j u k.0 (inside views j u k.1) (fits j u k.1)) (at_set views seat j w u h.1))
    (λ (h : (j ≡ length (set views seat w)) × (z ≡ u)).
    subst (λ (q : ℕ × SeatView). Fits y q.0 q.1) (λ i. (sym (h.0 ∙ length_set views seat w) i, h.1 i)) new)
    (at_end (set views seat w) z u j e)

-- where a share goes
moved : (ℕ → ℕ) → ℕ → ℕ → ℕ → ℕ
moved holder whose to d = if d == whose then to else holder d

moved_there : (holder : ℕ → ℕ) (whose to : ℕ) → moved holder whose to whose ≡ to
unfolding moved
moved_there holder whose to = ap (λ b. if b then to else holder whose) (eq-eqb whose whose refl)

moved_else : (holder : ℕ → ℕ) (whose to d : ℕ) → d ≢ whose → moved holder whose to d ≡ holder d
unfolding moved
moved_else holder whose to d apart = ap (λ b. if b then to else holder d) (ne_eqb d whose apart)

-- where the shares of a seat go
handed : (ℕ → ℕ) → ℕ → ℕ → ℕ → ℕ
handed holder from to d = if holder d == from then to else holder d

handed_there : (holder : ℕ → ℕ) (from to d : ℕ) → holder d ≡ from → handed holder from to d ≡ to
unfolding handed
handed_there holder from to d is = ap (λ b. if b then to else holder d) (eq-eqb (holder d) from is)

handed_else : (holder : ℕ → ℕ) (from to d : ℕ) → holder d ≢ from → handed holder from to d ≡ holder d
unfolding handed
handed_else holder from to d apart = ap (λ b. if b then to else holder d) (ne_eqb (holder d) from apart)

belong_as : (x y : Facts) (seat seat' : ℕ) (shares : List ShareView) → ((share : ShareView) → Belongs x seat share → Belongs y seat' share) → Belong x seat shares → Belong y seat' shares
belong_as x y seat seat' [] step all = tt
belong_as x y seat seat' (share ∷ shares) step all = (step share all.0, belong_as x y seat seat' shares step all.1)

belong_both : (x : Facts) (seat : ℕ) (first second : List ShareView) → Belong x seat first → Belong x seat second → Belong x seat (first ++ second)
belong_both x seat [] second one two = two
belong_both x seat (share ∷ first) second one two = (one.0, belong_both x seat first second one.1 two)

pub nothing_fits : (x : Facts) (seat : ℕ) → Fits x seat nothing
nothing_fits x seat = record { gives = λ is. absurd cc; counts = λ is. absurd cc; shares = tt }

-- at the start
pub opens : ShareHolds (opening_view ∷ [])
opens = record { facts = first; none = λ whose some. refl; fits = λ seat v at. only seat v at }
  where
    first : Facts
    first = record { given = []; begun = 0; giver = 0; counter = 0; holder = λ d. 0 }

    only : (seat : ℕ) (v : SeatView) → get_elem? (opening_view ∷ []) seat ≡ some v → Fits first seat v
    only zero v at = subst (Fits first 0) (some-injective _ _ at) (record { gives = λ is. (refl, refl); counts = λ is. (refl, refl); shares = tt })
    only (suc seat) v at = absurd (some-ne-none v (sym at))

-- the seat that begins shares is cut off the first one
pub counter_cut : (seat : ℕ) → Splits {S = Unit {0}} HoldsOf seat opening_view (giving []) (counting 0 [])
counter_cut seat s h at =
    let x = h.facts in
    let mine = h.fits seat opening_view at in
    let gives = mine.gives refl in
    let counts = mine.counts refl in
    let y : Facts = record { given = x.given; begun = x.begun; giver = x.giver; counter = length s.views; holder = x.holder } in
    record {
      facts = y;
      none = h.none;
      fits = fits_split x y s.views seat opening_view (giving []) (counting 0 []) at h.fits
          (record { gives = λ is. gives; counts = λ is. absurd cc; shares = tt })
          (record { gives = λ is. absurd cc; counts = λ is. (refl, counts.1); shares = tt })
          (λ j u apart there f. record {
            gives = f.gives;
            counts = λ is. absurd (apart ((f.counts is).0 ∙ sym counts.0));
            shares = belong_as x y j j u.shares (λ share b. record { here = b.here; begun = b.begun; is = b.is }) f.shares;
          });
    }

-- a share is begun
pub begins : (seat begun : ℕ) (ended : List ShareView)
    → Splits {S = Unit {0}} HoldsOf seat (counting begun ended) (counting (begun + 1) ended) (holding (new_share begun))
begins seat begun ended s h at =
    let x = h.facts in
    let mine = h.fits seat (counting begun ended) at in
    let counts = mine.counts refl in
    let new = length s.views in
    let y : Facts = record { given = x.given; begun = x.begun + 1; giver = x.giver; counter = x.counter; holder = moved x.holder begun new } in
    let same : begun ≡ x.begun = counts.1 in
    let on : (j : ℕ) (share : ShareView) → Belongs x j share → Belongs y j share =
    (λ j share b. let low = b.begun in record {
      here = moved_else x.holder begun new share.whose (λ e. omega (arith, same, low, e)) ∙ b.here;
      begun = omega (arith, low);
      is = b.is;
    }) in
    record {
      facts = y;
      none = λ whose most. h.none whose (omega (arith, most));
      fits = fits_split x y s.views seat (counting begun ended) (counting (begun + 1) ended) (holding (new_share begun)) at h.fits
          (record { gives = λ is. absurd cc; counts = λ is. (counts.0, ap (λ n. n + 1) same); shares = belong_as x y seat seat ended (on seat) mine.shares })
          (record {
            gives = λ is. absurd cc;
            counts = λ is. absurd cc;
            shares = (record { here = moved_there x.holder begun new; begun = omega (arith, same); is = sym (h.none begun (omega (arith, same))) }, tt);
          })
          (λ j u apart there f. record {
            gives = f.gives;
            counts = λ is. absurd (apart ((f.counts is).0 ∙ sym counts.0));
            shares = belong_as x y j j u.shares (on j) f.shares;
          });
    }

-- a seat that holds nothing is cut off
pub vacates : (seat : ℕ) (v : SeatView) → Splits {S = Unit {0}} HoldsOf seat v v nothing
vacates seat v s h at =
    record {
      facts = h.facts;
      none = h.none;
      fits = fits_split h.facts h.facts s.views seat v v nothing at h.fits (h.fits seat v at) (nothing_fits h.facts (length s.views)) (λ j u apart there f. f);
    }

-- two seats change
fits_join : (x y : Facts) (views : List SeatView) (seat other : ℕ) (w z : SeatView)
    → AllFit x views → Fits y seat w → Fits y other z → ((j : ℕ) (u : SeatView) → j ≢ seat → j ≢ other → Fits x j u → Fits y j u)
    → AllFit y (set (set views seat w) other z)
fits_join x y views seat other w z fits mine yours others j u e =
    ⊎_elim (λ (h : (j ≡ other) × (z ≡ u)). subst (λ (q : ℕ × SeatView). Fits y q.0 q.1) (λ i. (sym h.0 i, h.1 i)) yours)
    (λ (h : (j ≢ other) × (get_elem? (set views seat w) j ≡ some u)).
    ⊎_elim (λ (k : (j ≡ seat) × (w ≡ u)). subst (λ (q : ℕ × SeatView). Fits y q.0 q.1) (λ i. (sym k.0 i, k.1 i)) mine)
    (λ (k : (j ≢ seat) × (get_elem? views j ≡ some u)). others j u k.0 h.0 (fits j u k.1)) (at_set views seat j w u h.1))
    (at_set (set views seat w) other j z u e)

-- the shares of a seat are taken in
pub takes_in : (seat : ℕ) (v : SeatView) (other : ℕ) (w : SeatView) → Joins {S = Unit {0}} HoldsOf seat v other w (gathering v w) nothing
takes_in seat v other w s h at apart theirs =
    let x = h.facts in
    let there : get_elem? s.views other ≡ some w = sym (set_else s.views seat other (gathering v w) apart) ∙ theirs in
    let mine = h.fits seat v at in
    let yours = h.fits other w there in
    let y : Facts = record { given = x.given; begun = x.begun; giver = x.giver; counter = x.counter; holder = handed x.holder other seat } in
    let on : (j : ℕ) → j ≢ other → (share : ShareView) → Belongs x j share → Belongs y j share =
    (λ j not share b. record { here = handed_else x.holder other seat share.whose (λ e. not (sym b.here ∙ e)) ∙ b.here; begun = b.begun; is = b.is }) in
    record {
      facts = y;
      none = h.none;
      fits = fits_join x y s.views seat other (gathering v w) nothing h.fits
          (record {
            gives = mine.gives;
            counts = mine.counts;
            shares = belong_both y seat v.shares w.shares
                (belong_as x y seat seat v.shares (on seat (λ e. apart (sym e))) mine.shares)
                (belong_as x y other seat w.shares (λ share b. record { here = handed_there x.holder other seat share.whose b.here; begun = b.begun; is = b.is }) yours.shares);
          })
          (nothing_fits y other)
          (λ j u not not' f. record { gives = f.gives; counts = f.counts; shares = belong_as x y j j u.shares (on j not') f.shares });
    }

-- the seat that gives, with what it took in
abbrev pub giving_to : List Given → List ShareView → SeatView
giving_to given shares = record { gives = true; given = given; counts = false; begun = 0; shares = shares }

-- a stamp is given to the share that was taken in, which is cut off again
pub gives : (seat : ℕ) (given : List Given) (share : ShareView) (stamp : Moment)
    → Splits {S = Unit {0}} HoldsOf seat (giving_to given (share ∷ [])) (giving (given ++ given_to stamp share ∷ [])) (holding (with_stamp stamp share))
gives seat given share stamp s h at =
    let x = h.facts in
    let mine = h.fits seat (giving_to given (share ∷ [])) at in
    let gave = mine.gives refl in
    let held = mine.shares.0 in
    let new = length s.views in
    let same : given ≡ x.given = gave.1 in
    let y : Facts = record { given = x.given ++ given_to stamp share ∷ []; begun = x.begun; giver = x.giver; counter = x.counter; holder = moved x.holder share.whose new } in
    let on : (j : ℕ) → j ≢ seat → (other : ShareView) → Belongs x j other → Belongs y j other =
    (λ j not other b.
    let apart : other.whose ≢ share.whose = (λ e. not (sym b.here ∙ ap x.holder e ∙ held.here)) in
    record {
      here = moved_else x.holder share.whose new other.whose apart ∙ b.here;
      begun = b.begun;
      is = b.is ∙ sym (given_else other.whose share.whose x.given stamp (λ e. apart (sym e)));
    }) in
    record {
      facts = y;
      none = λ whose most.
          let low = held.begun in
          given_else whose share.whose x.given stamp (λ e. omega (arith, e, low, most)) ∙ h.none whose most;
      fits = fits_split x y s.views seat (giving_to given (share ∷ [])) (giving (given ++ given_to stamp share ∷ [])) (holding (with_stamp stamp share)) at h.fits
          (record { gives = λ is. (gave.0, ap (λ l. l ++ given_to stamp share ∷ []) same); counts = λ is. absurd cc; shares = tt })
          (record {
            gives = λ is. absurd cc;
            counts = λ is. absurd cc;
            shares = (
              record {
                here = moved_there x.holder share.whose new;
                begun = held.begun;
                is = ap (λ l. l ++ stamp ∷ []) held.is ∙ sym (given_more share.whose x.given stamp);
              },
              tt,
            );
          })
          (λ j u apart there f. record {
            gives = λ is. absurd (apart ((f.gives is).0 ∙ sym gave.0));
            counts = f.counts;
            shares = belong_as x y j j u.shares (on j apart) f.shares;
          });
    }

are_shares : (x : Facts) (seat : ℕ) (given : List Given) (shares : List ShareView) → given ≡ x.given → Belong x seat shares → AreShares given shares
are_shares x seat given [] same all = tt
are_shares x seat given (share ∷ shares) same all =
    (all.0.is ∙ ap (stamps_for share.whose) (sym same), are_shares x seat given shares same all.1)

-- a load at which the shares that were taken in are what was given to them
pub shows : (slots seat : ℕ) (given : List Given) (shares : List ShareView)
    → Allows {S = Unit {0}} HoldsOf slots seat (giving_to given shares, []) 0 (λ n. n)
    (λ _ (after : Me (Unit {0}) SeatView). (after ≡ (giving given, [])) × AreShares given shares)
shows slots seat given shares s h homes at small =
    let x = h.facts in
    let mine = h.fits seat (giving_to given shares) at in
    let gave = mine.gives refl in (
      giving given,
      no_slot,
      tt,
      record {
        facts = x;
        none = h.none;
        fits = fits_set x x s.views seat (giving given) h.fits (record { gives = λ is. gave; counts = λ is. absurd cc; shares = tt }) (λ j u apart f. f);
      },
      (refl, are_shares x seat given shares gave.1 mine.shares),
    )

-- the same at seats that are so
pub counter_cut_as : (seat : ℕ) (v : SeatView) → v ≡ opening_view → Splits {S = Unit {0}} HoldsOf seat v (giving v.given) (counting v.begun [])
counter_cut_as seat v is =
    subst (λ (u : SeatView). Splits {S = Unit {0}} HoldsOf seat u (giving u.given) (counting u.begun [])) (sym is) (counter_cut seat)

pub begins_as : (seat : ℕ) (v : SeatView) → v ≡ counting v.begun v.shares
    → Splits {S = Unit {0}} HoldsOf seat v (counting (v.begun + 1) v.shares) (holding (new_share v.begun))
begins_as seat v is =
    subst (λ (u : SeatView). Splits {S = Unit {0}} HoldsOf seat u (counting (u.begun + 1) u.shares) (holding (new_share u.begun))) (sym is)
    (begins seat v.begun v.shares)

pub gives_as : (seat : ℕ) (v : SeatView) (given : List Given) (share : ShareView) (stamp : Moment) → v ≡ giving_to given (share ∷ [])
    → Splits {S = Unit {0}} HoldsOf seat v (giving (v.given ++ given_to stamp (share_in v) ∷ [])) (holding (with_stamp stamp (share_in v)))
gives_as seat v given share stamp is =
    subst (λ (u : SeatView). Splits {S = Unit {0}} HoldsOf seat u (giving (u.given ++ given_to stamp (share_in u) ∷ [])) (holding (with_stamp stamp (share_in u)))) (sym is)
    (gives seat given share stamp)

pub shows_as : (slots seat : ℕ) (me : Me (Unit {0}) SeatView) (given : List Given) (shares : List ShareView) → me ≡ (giving_to given shares, [])
    → Allows {S = Unit {0}} HoldsOf slots seat me 0 (λ n. n)
    (λ _ (after : Me (Unit {0}) SeatView). (after ≡ (giving me.0.given, [])) × AreShares me.0.given me.0.shares)
shows_as slots seat me given shares is =
    subst (λ (u : Me (Unit {0}) SeatView). Allows {S = Unit {0}} HoldsOf slots seat u 0 (λ n. n) (λ _ (after : Me (Unit {0}) SeatView). (after ≡ (giving u.0.given, [])) × AreShares u.0.given u.0.shares)) (sym is)
    (shows slots seat given shares)
