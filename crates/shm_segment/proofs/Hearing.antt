-- The publisher's steps besides its stores: a notice and a monitor's seat are cut off its seat, and it hears an account.
use Rattle.std.proofs.Common.{◌≡◌, ◌≢◌, ℕ, List, [], refl, sym, ap, ◌∙◌, subst, arith}
use Rattle.std.proofs.lemmas.List.Elements.{All-nil}
use Rattle.atomic_table.specs.Table.{Me, Allows, Splits, Joins}
use Rattle.shm_segment.specs.declared.sample.Sample.{Sample}
use Rattle.shm_segment.specs.declared.view.Role.TheVariants.{Publishes}
use Rattle.shm_segment.specs.declared.view.View.{View}
use Rattle.shm_segment.specs.Views.{publisher, spent, notice_of, newcomer_of, with_account, heard}
use Rattle.shm_segment.specs.Rule.{IsSound, IsPublished, WasShown, Fits, HoldsOf, IsBorneOut}
use Rattle.shm_segment.proofs.Storing.{publisher_fits}
use Rattle.shm_segment.proofs.Looking.{looks, splits, joins, nothing_told}

module _ (first seat : ℕ) (samples : List Sample) (stores : ℕ) where
  -- K10: a notice
  pub gives_notice : Splits {S = Unit {0}} (HoldsOf first) seat (publisher first samples stores) (publisher first samples stores) (notice_of (publisher first samples stores))
  gives_notice =
      splits first seat (publisher first samples stores) (notice_of (publisher first samples stores))
      (λ writer s m new fits.
      record {
        first_same = λ _. refl;
        publishes = λ is. absurd (cc);
        told = fits.told;
        met = nothing_told s m;
        taken = All-nil (IsPublished first s m);
        rises = tt;
        last_below = omega arith;
        kept = All-nil (WasShown first s m);
        running = tt;
      })

  -- K10: a monitor's seat
  pub gives_seat : Splits {S = Unit {0}} (HoldsOf first) seat (publisher first samples stores) (publisher first samples stores) (newcomer_of (publisher first samples stores))
  gives_seat =
      splits first seat (publisher first samples stores) (newcomer_of (publisher first samples stores))
      (λ writer s m new fits.
      record {
        first_same = λ _. refl;
        publishes = λ is. absurd (cc);
        told = nothing_told s m;
        met = nothing_told s m;
        taken = All-nil (IsPublished first s m);
        rises = tt;
        last_below = omega arith;
        kept = All-nil (WasShown first s m);
        running = tt;
      })

  -- K11: the publisher takes an account in
  pub takes_account : (other : ℕ) (w : View) → w.role ≢ Publishes → Joins {S = Unit {0}} (HoldsOf first) seat (publisher first samples stores) other w (with_account (publisher first samples stores) w) spent
  takes_account other w no_publisher =
      joins first seat (publisher first samples stores) other w (with_account (publisher first samples stores) w) refl no_publisher
      (λ writer s m fits theirs.
      record {
        first_same = λ _. refl;
        publishes = fits.publishes;
        told = fits.told;
        met = fits.met;
        taken = theirs.taken;
        rises = theirs.rises;
        last_below = theirs.last_below;
        kept = theirs.kept;
        running = tt;
      })

-- K12: the publisher's samples bear the account out
pub hears : (first slots seat : ℕ) (v : View) → v.role ≡ Publishes
    → Allows {S = Unit {0}} (HoldsOf first) slots seat (v, []) 0 (λ n. n) (λ _ (after : Me (Unit {0}) View). (after ≡ (heard v, [])) × IsBorneOut v.first v.known v.taken v.kept)
hears first slots seat v role =
    looks first slots seat 0 v (λ _. heard v) (λ _. IsBorneOut v.first v.known v.taken v.kept) (λ _. sym role)
    (λ writer samples stores sound fits.
    let mine = fits.publishes role in
    let same : v.first ≡ first = fits.first_same (λ is. cc) in
    subst
    (λ (x : ℕ × ℕ × List Sample × ℕ). IsSound x.1 x.2 x.3 → Fits x.0 x.1 x.2 x.3 seat v → Fits x.0 x.1 x.2 x.3 seat (heard v) × IsBorneOut v.first v.known v.taken v.kept)
    (λ i. (mine.0 i, same i, mine.1 i, mine.2 i))
    (λ sound' fits'. (publisher_fits seat v.first v.known.samples v.known.stores sound'.reaches, record { pairs = fits'.taken; rises = fits'.rises; shown = fits'.kept }))
    sound fits)

-- the same at a seat whose view the publisher keeps
module _ (first seat : ℕ) (me : Me (Unit {0}) View) (same : me.0.first ≡ first) (is : me ≡ (publisher me.0.first me.0.known.samples me.0.known.stores, [])) where
  view : me.0 ≡ publisher first me.0.known.samples me.0.known.stores
  view = ap (λ (m : Me (Unit {0}) View). m.0) is ∙ ap (λ (f : ℕ). publisher f me.0.known.samples me.0.known.stores) same

  pub gives_notice_as : Splits {S = Unit {0}} (HoldsOf first) seat me.0 me.0 (notice_of me.0)
  gives_notice_as = subst (λ (v : View). Splits {S = Unit {0}} (HoldsOf first) seat v v (notice_of v)) (sym view) (gives_notice first seat me.0.known.samples me.0.known.stores)

  pub gives_seat_as : Splits {S = Unit {0}} (HoldsOf first) seat me.0 me.0 (newcomer_of me.0)
  gives_seat_as = subst (λ (v : View). Splits {S = Unit {0}} (HoldsOf first) seat v v (newcomer_of v)) (sym view) (gives_seat first seat me.0.known.samples me.0.known.stores)

  pub takes_account_as : (other : ℕ) (w : View) → w.role ≢ Publishes → Joins {S = Unit {0}} (HoldsOf first) seat me.0 other w (with_account me.0 w) spent
  takes_account_as other w no_publisher = subst (λ (v : View). Joins {S = Unit {0}} (HoldsOf first) seat v other w (with_account v w) spent) (sym view) (takes_account first seat me.0.known.samples me.0.known.stores other w no_publisher)

pub hears_as : (first slots seat : ℕ) (me : Me (Unit {0}) View) → me.0.role ≡ Publishes → me.1 ≡ []
    → Allows {S = Unit {0}} (HoldsOf first) slots seat me 0 (λ n. n) (λ _ (after : Me (Unit {0}) View). (after ≡ (heard me.0, [])) × IsBorneOut me.0.first me.0.known me.0.taken me.0.kept)
hears_as first slots seat me role none =
    subst (λ (u : Me (Unit {0}) View). Allows {S = Unit {0}} (HoldsOf first) slots seat u 0 (λ n. n) (λ _ (after : Me (Unit {0}) View). (after ≡ (heard u.0, [])) × IsBorneOut u.0.first u.0.known u.0.taken u.0.kept))
    (λ i. (me.0, sym none i)) (hears first slots seat me.0 role)
