-- The stretches of a run in order.
use Rattle.std.proofs.Common.{◌≡◌, inl, inr, ℕ, ◌+◌, List, ◌++◌, length, Option, Some, None, is_some, refl, sym, ap, ◌∙◌, subst, arith}
use Rattle.session_core.specs.declared.mark.Close.{Close}
use Rattle.session_core.specs.Stretches.{Stretch, AreInOrder, end_of}
use Rattle.book_log.specs.History.{history, history_after}
use Rattle.session_runs.specs.Runs.{closed_from}
use Rattle.session_runs.specs.Laws.{RunsAreInOrder}
use Rattle.session_runs.proofs.Joined.{order_joined, order_later}
use Rattle.session_runs.proofs.Whole.{end_placed, whole_history, whole_length}

some_placed : (base : ℕ) (c : Option (ℕ × Close)) → is_some (closed_from base c) ≡ is_some c
some_placed base None = refl
some_placed base (Some closing) = refl

pub in_order : RunsAreInOrder
in_order names before log s r (inl x) =
    let base : ℕ = length (history before) in
    let end : ℕ = end_of s.closing (history_after before log) in
    let agrees = x.holding.agrees in
    let end_is : end_of r.closing (history (before ++ log)) ≡ base + end =
    ap (λ c. end_of c (history (before ++ log))) x.closing
    ∙ ap (λ h. end_of (closed_from base s.closing) h) (whole_history before log)
    ∙ end_placed s.closing (history before) (history_after before log) in
    let Order : ℕ → Type 0 = λ n. AreInOrder n r.stretches in
    let Run : List Stretch → Type 0 = λ l. AreInOrder (base + end) l in
    record {
      order = subst Order (sym end_is) (subst Run (sym x.joined) (order_joined base end x.earlier x.later x.order (order_later end x.earlier x.later agrees.order)));
      within = omega (arith, end_is, whole_length before log, agrees.within);
      closed = ap is_some x.closing ∙ some_placed base s.closing;
    }
in_order names before log s r (inr x) =
    let end_is : end_of r.closing (history (before ++ log)) ≡ x.place = ap (λ c. end_of c (history (before ++ log))) x.closing in
    let Order : ℕ → Type 0 = λ n. AreInOrder n r.stretches in
    record {
      order = subst Order (sym end_is) x.order;
      within = omega (arith, end_is, whole_length before log, x.within);
      closed = ap is_some x.closing ∙ sym (ap is_some x.now);
    }
