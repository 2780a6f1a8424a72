use Rattle.std.proofs.Common.{drop, subst, sym, ap, refl, ◌∙◌}
use Rattle.std.proofs.lemmas.List.{take_rest}
use Rattle.ubx_frame.specs.Window.{IsDecided}
use Rattle.ubx_frame.proofs.Windows.{told}
use Rattle.ubx_frame.proofs.finder.FrameFinder.at.Goals as goal

pub returns-in-Some-clause-shape : goal.returns-in-Some-clause-shape
returns-in-Some-clause-shape c =
    let decided : IsDecided c.in-Some.len (drop c.args.place c.args.self.now) =
    subst (IsDecided c.in-Some.len) (take_rest c.self.inside.bytes.now c.args.place ∙ ap (drop c.args.place) c.self.view_is) c.in-Some.ensures in
    told c.args.self.now c.args.place c.in-Some.len _ _ _ decided refl refl (sym c.if-is_right.true ∙ c.is_right.ensures.right)

pub returns-in-Some-2-clause-shape : goal.returns-in-Some-2-clause-shape
returns-in-Some-2-clause-shape c =
    let decided : IsDecided c.in-Some.len (drop c.args.place c.args.self.now) =
    subst (IsDecided c.in-Some.len) (take_rest c.self.inside.bytes.now c.args.place ∙ ap (drop c.args.place) c.self.view_is) c.in-Some.ensures in
    told c.args.self.now c.args.place c.in-Some.len _ _ _ decided refl refl (sym c.if-is_right.false ∙ c.is_right.ensures.right)
