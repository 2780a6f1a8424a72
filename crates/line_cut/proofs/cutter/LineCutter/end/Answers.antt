use Rattle.std.proofs.Common.{◌≡◌, ◌++◌, [], false, length, rules, sym, ap, ◌∙◌}
use Rattle.std.proofs.lemmas.List.{nil_from_length}
use Rattle.line_cut.proofs.Cuts.{end_line, end_long, goes_holding, holds_nothing, not_skipping, now_holds}
use Rattle.line_cut.proofs.cutter.LineCutter.end.Goals as goal

pub returns-then-is_passed_with-clause-steps : goal.returns-then-is_passed_with-clause-steps
returns-then-is_passed_with-clause-steps c =
    end_long c.args.self.now _ c.args.piece.now c.split_at.result.0.now c.args.len c.requires c.split_at.ensures.front
    (sym c.is_passed_with.ensures ∙ c.if-is_passed_with.true) (now_holds _ _ false _ [] c.self.view_is c.clear.ensures.items)

pub returns-then-is_empty-clause-steps : goal.returns-then-is_empty-clause-steps
returns-then-is_empty-clause-steps c =
    let fits = sym c.is_passed_with.ensures ∙ c.if-is_passed_with.false in
    let zero : length c.self.inside.held.items ≡ 0 = search rules in
    let nothing = holds_nothing _ _ c.self.view_is (nil_from_length c.self.inside.held.items zero) (not_skipping c.args.self.now c.split_at.result.0.now fits) in
    end_line c.args.self.now _ c.args.piece.now c.split_at.result.0.now c.args.len _ c.requires c.split_at.ensures.front fits
    (ap (λ h. h ++ c.split_at.result.0.now) (sym (ap (λ k. k.held) nothing))) nothing

pub returns-clause-steps : goal.returns-clause-steps
returns-clause-steps c =
    let fits = sym c.is_passed_with.ensures ∙ c.if-is_passed_with.false in
    end_line c.args.self.now _ c.args.piece.now c.split_at.result.0.now c.args.len _ c.requires c.split_at.ensures.front fits
    (c.from_vec-line.ensures ∙ ap (λ v. v.items) c.replace.ensures.value ∙ c.in_ok-extend_from_slice.ensures.items ∙ ap (λ k. k.held ++ c.split_at.result.0.now) c.self.view_is)
    (goes_holding _ _ _ [] c.self.view_is (not_skipping c.args.self.now c.split_at.result.0.now fits) (ap (λ v. v.items) c.replace.ensures.after ∙ c.new.ensures.items))
