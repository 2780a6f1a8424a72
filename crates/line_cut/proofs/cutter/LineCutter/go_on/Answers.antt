use Rattle.std.proofs.Common.{◌++◌, [], true, sym, ap, ◌∙◌, rules}
use Rattle.line_cut.proofs.Cuts.{goes_holding, goes_long, goes_on, not_skipping, now_holds}
use Rattle.line_cut.proofs.cutter.LineCutter.go_on.Goals as goal

pub returns-then-is_passed_with-clause-steps : goal.returns-then-is_passed_with-clause-steps
returns-then-is_passed_with-clause-steps c =
    goes_long c.args.self.now _ c.args.piece.now c.requires (search rules)
    (sym c.is_passed_with.ensures ∙ c.if-is_passed_with.true) (now_holds _ _ true _ [] c.self.view_is c.clear.ensures.items)

pub returns-clause-steps : goal.returns-clause-steps
returns-clause-steps c =
    let fits = sym c.is_passed_with.ensures ∙ c.if-is_passed_with.false in
    goes_on c.args.self.now _ c.args.piece.now c.requires fits
    (goes_holding _ _ _ _ c.self.view_is (not_skipping c.args.self.now c.args.piece.now fits)
    (c.in_ok-extend_from_slice.ensures.items ∙ ap (λ k. k.held ++ c.args.piece.now) c.self.view_is))
