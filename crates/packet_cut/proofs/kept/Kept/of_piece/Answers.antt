use Rattle.std.proofs.Common.{◌≡◌, ◌++◌, ap, ◌∙◌, length, arith}
use Rattle.packet_cut.specs.Runs.{run_of}
use Rattle.packet_cut.proofs.Runs.{kept_piece, piece_spread}
use Rattle.packet_cut.proofs.kept.Kept.of_piece.Goals as goal

pub invariant_of-result : goal.invariant_of-result
invariant_of-result c =
    let size : c.len.result ≡ length c.args.bytes.items = omega (arith, c.len.ensures, c.args.bytes.ok.0) in
    kept_piece c.args.room.items _ c.args.at c.args.bytes.items _ _ _ c.requires.no_runs
    (c.add_run.ensures.items ∙ ap (λ n. c.args.room.items ++ run_of c.args.at n) size) c.requires.short c.requires.room c.add_run.ensures.room

pub returns : goal.returns
returns c =
    let size : c.len.result ≡ length c.args.bytes.items = omega (arith, c.len.ensures, c.args.bytes.ok.0) in
    piece_spread c.args.room.items _ c.args.at c.args.bytes.items c.requires.no_runs
    (c.add_run.ensures.items ∙ ap (λ n. c.args.room.items ++ run_of c.args.at n) size)
