-- The stamps of the devices' pieces, from the shares of their readers.
use Rattle.std.proofs.Common.{◌≡◌, ◌+◌, ◌≤◌, ℕ, suc, List, [], ◌∷◌, ◌++◌, map, length, Option, Some, None, refl, sym, ◌∙◌, ap, subst, length-append, arith}
use Rattle.std.proofs.lemmas.List.{map-append}
use Rattle.std.specs.List.{AllZip}
use Rattle.gps_fixed.specs.Moment.{Moment}
use Rattle.gps_outside.specs.Ticks.{Dial}
use Rattle.hub_promise.specs.Parts.{InletsView}
use Rattle.gps_lane.specs.declared.piece.Piece.{Piece}
use Rattle.gps_lane.specs.Carried.{stamps_of}
use Rattle.serve_workers.specs.Clocks.{Gave}
use Rattle.serve_workers.specs.Stamping.{StampsPieces, given_on}
use Rattle.serve_end.specs.declared.done.DeviceDone.{DeviceDone}
use Rattle.serve_end.specs.declared.device.DeviceRun.{DeviceRun}
use Rattle.serve_end.specs.Runs.{SourceFacts}
use Rattle.stamp_shares.specs.declared.view.Given.{Given}
use Rattle.stamp_shares.specs.declared.view.ShareView.{ShareView}
use Rattle.stamp_shares.specs.Shares.{AreShares, IsShareOf, new_share, stamps_for, stamps_in}
use Rattle.gps_serve.specs.declared.readers.DeviceWork.{DeviceWork}
use Rattle.gps_serve.specs.declared.starts.DeviceStart.{DeviceStart}
use Rattle.gps_serve.specs.Dealt.{AreEmpty, AreNumbered, Pairs, SharesUsed, UsedSoFar, UsesItsShare, UsesShare, puts_of}
use Rattle.serve_workers.specs.Joining.{RanSoFar}
use Rattle.gps_serve.specs.Runs.{IsLeftOf}
use Rattle.gps_serve.specs.Stamps.{HasStampsFor, HaveStampsFrom, StampsAreGiven}
use Rattle.gps_serve.specs.Starts.{IsFreshDevice}
use Rattle.gps_serve.specs.Works.{ReadersAre}
use Rattle.serve_workers.proofs.Zips.{ran_begin, ran_end, ran_next}

-- the stamps of a share are those that were given for its device
one_dealt : (given : List Given) (device : ℕ) (share : ShareView) (put put' : List Piece) → put ≡ [] → IsShareOf given share
    → StampsPieces 1 (new_share device) share put put' → HasStampsFor given device put'
one_dealt given device share put put' empty of uses =
    let is : IsShareOf given (given_on (uses.used ++ uses.late) (new_share device)) = subst (IsShareOf given) uses.given of in
    let mine : stamps_of put' ≡ uses.used = uses.pieces ∙ ap (λ l. stamps_of l ++ uses.used) empty in
    (uses.late, (uses.few, sym is ∙ ap (λ l. l ++ uses.late) (sym mine)))

module _ {S R : Type 0} where
  pairs_more : (runs runs' : List (DeviceRun S R)) (shares shares' : List ShareView) (pairs : List (DeviceRun S R × ShareView)) (run : DeviceRun S R) (share : ShareView)
      → Pairs runs shares pairs → runs' ≡ runs ++ run ∷ [] → shares' ≡ shares ++ share ∷ [] → Pairs runs' shares' (pairs ++ (run, share) ∷ [])
  pairs_more runs runs' shares shares' pairs run share are more more' = record {
    runs_are = map-append (λ (pair : DeviceRun S R × ShareView). pair.0) pairs ((run, share) ∷ []) ∙ ap (λ l. l ++ run ∷ []) are.runs_are ∙ sym more;
    shares_are = map-append (λ (pair : DeviceRun S R × ShareView). pair.1) pairs ((run, share) ∷ []) ∙ ap (λ l. l ++ share ∷ []) are.shares_are ∙ sym more';
  }

module _ {S R D : Type 0} where
  numbered_more : (number : ℕ) (works : List (DeviceWork S D R)) (work : DeviceWork S D R) → AreNumbered number works
      → work.bytes.share.value ≡ new_share (number + length works) → AreNumbered number (works ++ work ∷ [])
  numbered_more number [] work all is = (is ∙ ap new_share (omega arith), tt)
  numbered_more number (first ∷ works) work all is =
      (all.0, numbered_more (suc number) works work all.1 (is ∙ ap new_share (omega arith)))

  -- one more reader
  pub numbered_next : (number begun : ℕ) (works works' : List (DeviceWork S D R)) (work : DeviceWork S D R) → AreNumbered number works
      → begun ≡ number + length works → work.bytes.share.value ≡ new_share begun → works' ≡ works ++ work ∷ [] → AreNumbered number works'
  numbered_next number begun works works' work all count is more =
      subst (AreNumbered number) (sym more) (numbered_more number works work all (is ∙ ap new_share count))

  pub count_next : (number begun begun' : ℕ) (works works' : List (DeviceWork S D R)) (work : DeviceWork S D R)
      → begun ≡ number + length works → begun' ≡ begun + 1 → works' ≡ works ++ work ∷ [] → begun' ≡ number + length works'
  count_next number begun begun' works works' work count next more =
      omega (arith, count, next, ap length more, length-append works (work ∷ []))

  pub none_numbered : (number : ℕ) (works : List (DeviceWork S D R)) → works ≡ [] → AreNumbered number works
  none_numbered number works none = subst (AreNumbered number) (sym none) tt

  pub none_counted : (number : ℕ) (works : List (DeviceWork S D R)) → works ≡ [] → number ≡ number + length works
  none_counted number works none = omega (arith, ap length none)

  -- before the first reader has ended
  pub none_used : (works left : List (DeviceWork S D R)) (runs : List (DeviceRun S R)) (shares : List ShareView) → left ≡ works → runs ≡ [] → shares ≡ []
      → UsedSoFar works left runs shares
  none_used works left runs shares is no_run no_share = record {
    pairs = [];
    are = record { runs_are = sym no_run; shares_are = sym no_share };
    used = ran_begin UsesItsShare works left [] is refl;
  }

  -- one more reader has ended
  pub used_next : (works left left' : List (DeviceWork S D R)) (work : DeviceWork S D R) (runs runs' : List (DeviceRun S R)) (run : DeviceRun S R)
      (shares shares' : List ShareView) (share : ShareView)
      → UsedSoFar works left runs shares → left ≡ work ∷ left' → UsesShare work run share → runs' ≡ runs ++ run ∷ [] → shares' ≡ shares ++ share ∷ []
      → UsedSoFar works left' runs' shares'
  used_next works left left' work runs runs' run shares shares' share so is uses more more' = record {
    pairs = so.pairs ++ (run, share) ∷ [];
    are = pairs_more runs runs' shares shares' so.pairs run share so.are more more';
    used = ran_next UsesItsShare works left left' work so.pairs (so.pairs ++ (run, share) ∷ []) (run, share) so.used is uses refl;
  }

  pub used_end : (works left : List (DeviceWork S D R)) (runs : List (DeviceRun S R)) (shares : List ShareView) → UsedSoFar works left runs shares → length left ≡ 0
      → SharesUsed works runs shares
  used_end works left runs shares so none = record { pairs = so.pairs; are = so.are; used = ran_end UsesItsShare works left so.pairs so.used none }

  each_dealt : (given : List Given) (device : ℕ) (starts : List (DeviceStart S R)) (works : List (DeviceWork S D R)) (pairs : List (DeviceRun S R × ShareView))
      → AllZip ReadersAre starts works → AreNumbered device works → AllZip UsesItsShare works pairs → AreEmpty starts
      → AreShares given (map (λ (pair : DeviceRun S R × ShareView). pair.1) pairs)
      → HaveStampsFrom device given (puts_of (map (λ (pair : DeviceRun S R × ShareView). pair.0) pairs))
  each_dealt given device [] [] [] are numbered used empty shares = tt
  each_dealt given device [] [] (pair ∷ pairs) are numbered used empty shares = absurd used
  each_dealt given device [] (work ∷ works) pairs are numbered used empty shares = absurd are
  each_dealt given device (start ∷ starts) [] pairs are numbered used empty shares = absurd are
  each_dealt given device (start ∷ starts) (work ∷ works) [] are numbered used empty shares = absurd used
  each_dealt given device (start ∷ starts) (work ∷ works) (pair ∷ pairs) are numbered used empty shares = (
    one_dealt given device pair.1 start.bytes.put pair.0.bytes.pieces.put empty.0 shares.0
        (subst (λ (first : ShareView). StampsPieces 1 first pair.1 start.bytes.put pair.0.bytes.pieces.put) numbered.0 (used.0 start are.0)),
    each_dealt given (suc device) starts works pairs are.1 numbered.1 used.1 empty.1 shares.1,
  )

  -- the clock's stamps were dealt to the devices
  pub dealt : (clock : Option Dial) (given : List Given) (starts : List (DeviceStart S R)) (works : List (DeviceWork S D R)) (runs : List (DeviceRun S R))
      (shares : List ShareView) → AllZip ReadersAre starts works → AreNumbered 0 works → SharesUsed works runs shares → AreShares given shares
      → Gave clock (stamps_in given) → AreEmpty starts → StampsAreGiven clock (puts_of runs)
  dealt clock given starts works runs shares are numbered uses of gave empty = record {
    given = given;
    by_clock = gave;
    each = subst (λ (l : List (DeviceRun S R)). HaveStampsFrom 0 given (puts_of l)) uses.are.runs_are
        (each_dealt given 0 starts works uses.pairs are numbered uses.used empty (subst (AreShares given) (sym uses.are.shares_are) of));
  }

module _ {S R : Type 0} where
  -- nothing was put into a new lane
  pub empty_first : (facts : SourceFacts S) (starts : List (DeviceStart S R)) (first : List InletsView) → AllZip (IsFreshDevice facts) starts first → AreEmpty starts
  empty_first facts [] first fresh = tt
  empty_first facts (start ∷ starts) [] fresh = absurd fresh
  empty_first facts (start ∷ starts) (x ∷ first) fresh = (fresh.0.bytes.put, empty_first facts starts first fresh.1)

  -- what is left of the devices has what their readers put
  pub puts_left : (runs : List (DeviceRun S R)) (devices : List (DeviceDone S R)) → AllZip IsLeftOf runs devices
      → puts_of runs ≡ map (λ (d : DeviceDone S R). d.bytes_tx.put) devices
  puts_left [] [] left = refl
  puts_left [] (d ∷ devices) left = absurd left
  puts_left (run ∷ runs) [] left = absurd left
  puts_left (run ∷ runs) (d ∷ devices) left =
      ap (λ (l : List Piece). l ∷ puts_of runs) (sym (ap (λ tx. tx.put) left.0.bytes_tx))
      ∙ ap (λ (l : List (List Piece)). d.bytes_tx.put ∷ l) (puts_left runs devices left.1)

  pub stamps_left : (clock : Option Dial) (runs : List (DeviceRun S R)) (devices : List (DeviceDone S R)) → AllZip IsLeftOf runs devices
      → StampsAreGiven clock (puts_of runs) → StampsAreGiven clock (map (λ (d : DeviceDone S R). d.bytes_tx.put) devices)
  stamps_left clock runs devices left = subst (StampsAreGiven clock) (puts_left runs devices left)

-- a clock that tells nothing
pub stamps_untold : (clock : Option Dial) (devices : List (List Piece)) → StampsAreGiven clock devices → StampsAreGiven None devices
stamps_untold clock devices are = record { given = are.given; by_clock = tt; each = are.each }
