-- What stays of the end that puts, if its lane may have been closed.
use Rattle.std.proofs.Common.{◌≡◌, Bool, ap, sym, ◌∙◌}
use Rattle.gps_lane.specs.Ends.{Putting}

module _ {T : Type 0} (tx mid tx' : Putting T) where
  -- it was closed or not, and then it was again
  pub still_same : (closed : Bool) → mid ≡ record tx { is_open = mid.is_open } → tx' ≡ record mid { is_open = closed } → tx' ≡ record tx { is_open = tx'.is_open }
  still_same closed first last =
      last ∙ ap (λ (p : Putting T). record p { is_open = closed }) first ∙ ap (λ b. record tx { is_open = b }) (sym (ap (λ (p : Putting T). p.is_open) last))

module _ {T : Type 0} (tx tx' : Putting T) where
  -- more was put into it, and nothing else changed
  pub more_put : tx' ≡ record tx { put = tx'.put } → tx' ≡ record tx { put = tx'.put; is_open = tx'.is_open }
  more_put same = same ∙ ap (λ b. record tx { put = tx'.put; is_open = b }) (sym (ap (λ (p : Putting T). p.is_open) same))
