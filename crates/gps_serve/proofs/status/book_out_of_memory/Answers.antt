use Rattle.std.proofs.Common.{◌∙◌, ◌≡◌, inl, inr, true, false, ap, sym, arith, rules}
use Rattle.gps_serve.specs.Lost.{closed_out_of_memory}
use Rattle.gps_serve.proofs.Lost.{cut_at, either, neither, none_before, none_cut, none_more}
use Rattle.gps_serve.proofs.status.book_out_of_memory.Goals as goal

pub sessions-init : goal.sessions-init
sessions-init g c = record { all = search rules; kept = λ e. none_before _; cut = λ (e : false ≡ true). absurd cc }

pub sessions-preserved : goal.sessions-preserved
sessions-preserved g c = record {
  all = c.sessions.invariant.all;
  kept = λ (e : c.either-is_out_of_memory.result ≡ false).
      let none = neither _ _ (sym c.either-is_out_of_memory.ensures ∙ e) in
      none_more _ _ (c.sessions.invariant.kept none.0) (ap closed_out_of_memory (sym c.closing.ensures) ∙ sym c.closed_out_of_memory.ensures ∙ none.1);
  cut = λ (e : c.either-is_out_of_memory.result ≡ true). elim (either _ _ (sym c.either-is_out_of_memory.ensures ∙ e)) [
    | inl before ↦ c.sessions.invariant.cut before
    | inr now ↦ cut_at _ _ (ap closed_out_of_memory (sym c.closing.ensures) ∙ sym c.closed_out_of_memory.ensures ∙ now)
  ];
}

pub returns : goal.returns
returns g c = record {
  kept = λ (e : c.sessions.is_out_of_memory ≡ false).
      let test = c.sessions-test.false in
      none_cut _ _ (omega (arith, test, c.sessions.invariant.all)) (c.sessions.invariant.kept e);
  cut = c.sessions.invariant.cut;
}
