use Rattle.std.proofs.Common.{◌≡◌, List, ℕ, true, sym, ◌∙◌}
use Rattle.std.specs.List.{list_all}
use Rattle.ubx_frame.specs.Frame.{is_byte}
use Rattle.ubx_frame.proofs.Frames.{bytes_from_fits, whole_only_if, whole_if, pending_only_if, pending_if}
use Rattle.ubx_frame.proofs.frame.frame_at.Goals as goal

pub returns : goal.returns
returns c =
    let bytes : List ℕ = c.args.bytes.now in
    let all : list_all is_byte c.args.bytes.now ≡ true = bytes_from_fits c.args.bytes.now c.type_inv.bytes in
    let is = c.shape_at.ensures in
    record {
      shape = is;
      whole = λ n. ((λ h. whole_only_if c.args.bytes.now n all (sym is ∙ h)), (λ h. is ∙ whole_if c.args.bytes.now n h));
      pending = ((λ h. pending_only_if c.args.bytes.now all (sym is ∙ h)), (λ h. is ∙ pending_if c.args.bytes.now h));
    }
