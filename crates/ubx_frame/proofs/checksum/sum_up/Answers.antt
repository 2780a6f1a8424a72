use Rattle.std.proofs.Common.{fold, ◌+◌, ◌-◌, ◌≤◌, length, take, drop, length-drop, refl, ap, ◌∙◌, arith}
use Rattle.std.proofs.lemmas.List.{take-append-drop, take_all}
use Rattle.ubx_frame.specs.Checksum.{after_byte, sums_of}
use Rattle.ubx_frame.proofs.Rows.{row_added, rows_end}
use Rattle.ubx_frame.proofs.checksum.sum_up.Goals as goal

pub rounds-preserved : goal.rounds-preserved
rounds-preserved c =
    let bytes = c.args.covered.now in
    let at = c.rounds.at in
    let within : at + 64 ≤ length bytes = omega (arith, c.rounds-test.true, c.rounds.invariant.within) in
    record {
      within = within;
      rows =
          row_added _ _ _ _ bytes (at + 48) (at + 64) (omega arith) within c.add_row-in-rounds-3.ensures.columns c.add_row-in-rounds-3.ensures.earlier
          (row_added _ _ _ _ bytes (at + 32) (at + 48) (omega arith) (omega (arith, within)) c.add_row-in-rounds-2.ensures.columns c.add_row-in-rounds-2.ensures.earlier
          (row_added _ _ _ _ bytes (at + 16) (at + 32) (omega arith) (omega (arith, within)) c.add_row-in-rounds.ensures.columns c.add_row-in-rounds.ensures.earlier
          (row_added _ _ _ _ bytes at (at + 16) (omega arith) (omega (arith, within)) c.add_row.ensures.columns c.add_row.ensures.earlier c.rounds.invariant.rows)));
    }

pub rows-preserved : goal.rows-preserved
rows-preserved c =
    let within : c.rows.at + 16 ≤ length c.args.covered.now = omega (arith, c.rows-test.true, c.rows.invariant.within) in
    record {
      within = within;
      rows = row_added _ _ _ _ c.args.covered.now c.rows.at (c.rows.at + 16) refl within c.add_row-in-rows.ensures.columns c.add_row-in-rows.ensures.earlier c.rows.invariant.rows;
    }

pub returns : goal.returns
returns c =
    let reach : length (drop c.rows.at c.args.covered.now) ≤ length c.args.covered.now - c.rows.at = omega (arith, length-drop c.rows.at c.args.covered.now) in
    c.add_each.ensures
    ∙ ap (fold after_byte c.join.result) (take_all (length c.args.covered.now - c.rows.at) (drop c.rows.at c.args.covered.now) reach)
    ∙ rows_end c.join.result c.rows.columns c.rows.earlier (take c.rows.at c.args.covered.now) (drop c.rows.at c.args.covered.now)
    c.join.ensures.a c.join.ensures.b c.rows.invariant.rows
    ∙ ap sums_of (take-append-drop c.rows.at c.args.covered.now)
