use Rattle.std.proofs.Common.{refl, ◌∙◌, ap}
use Rattle.gps_lane.specs.Ends.{Putting}
use Rattle.gps_lane.specs.declared.piece.Piece.{Piece}
use Rattle.line_cut.specs.Lines.{text_of}
use Rattle.serve_workers.proofs.Cutting.{begun, line_put, passed_over, all_put, first_put, first_put_closed, steps_as}
use Rattle.serve_workers.proofs.LineSourcing.{line_begins, line_short}
use Rattle.serve_workers.proofs.edges.put_lines.Goals as goal

pub cuts-init : goal.cuts-init
cuts-init g c = record { limit = refl; cuts = λ bytes stands. begun bytes _ _ _ stands; lane = refl }

pub returns-in-NoMemory-clause-puts : goal.returns-in-NoMemory-clause-puts
returns-in-NoMemory-clause-puts g c bytes stands = rw c.in-NoMemory.ensures.puts (first_put bytes _ _ _ _ _ _ (c.cuts.invariant.cuts bytes stands))

pub returns-in-Closed-clause-puts : goal.returns-in-Closed-clause-puts
returns-in-Closed-clause-puts g c bytes stands = rw c.in-Closed.ensures.puts (first_put_closed bytes _ _ _ _ _ _ (c.cuts.invariant.cuts bytes stands))

pub cuts-preserved-in-Done : goal.cuts-preserved-in-Done
cuts-preserved-in-Done g c = record {
  limit = c.in-Ok-Line.ensures.limit ∙ c.cuts.invariant.limit;
  cuts = λ bytes stands.
      line_put bytes _ _ _ _ _ _ _ c.in-Ok-Line.line c.in-Ok-Line.used _ (c.cuts.invariant.cuts bytes stands) (c.cuts.invariant.limit ∙ c.requires.limit)
      (steps_as _ _ _ _ _ c.in-Ok-Line.field-0-is c.in-Ok-Line.ensures.steps) (c.text_of.ensures ∙ ap text_of c.as_slice.ensures) c.in-Done.ensures.puts;
  lane = c.put_line.ensures.lane ∙ ap (λ (end : Putting Piece). record end { put = c.put_line.new.pieces.put }) c.cuts.invariant.lane;
}

pub cuts-preserved-in-Done-2 : goal.cuts-preserved-in-Done-2
cuts-preserved-in-Done-2 g c = record {
  limit = c.in-Ok-Line.ensures.limit ∙ c.cuts.invariant.limit;
  cuts = λ bytes stands.
      line_put bytes _ _ _ _ _ _ _ c.in-Ok-Line.line c.in-Ok-Line.used _ (c.cuts.invariant.cuts bytes stands) (c.cuts.invariant.limit ∙ c.requires.limit)
      (steps_as _ _ _ _ _ c.in-Ok-Line.field-0-is c.in-Ok-Line.ensures.steps) (c.text_of.ensures ∙ ap text_of c.as_slice.ensures) c.in-Done.ensures.puts;
  lane = c.put_line.ensures.lane ∙ ap (λ (end : Putting Piece). record end { put = c.put_line.new.pieces.put }) c.cuts.invariant.lane;
}

pub cuts-preserved : goal.cuts-preserved
cuts-preserved g c = record {
  limit = c.in-Ok-TooLong.ensures.limit ∙ c.cuts.invariant.limit;
  cuts = λ bytes stands.
      passed_over bytes _ _ _ _ _ _ c.in-Ok-TooLong.used (c.cuts.invariant.cuts bytes stands) (c.cuts.invariant.limit ∙ c.requires.limit)
      (steps_as _ _ _ _ _ c.in-Ok-TooLong.field-0-is c.in-Ok-TooLong.ensures.steps);
  lane = c.cuts.invariant.lane;
}

pub returns-in-Ok-Used-clause-puts : goal.returns-in-Ok-Used-clause-puts
returns-in-Ok-Used-clause-puts g c bytes stands =
    all_put bytes _ _ _ _ _ _ (c.cuts.invariant.cuts bytes stands) (c.cuts.invariant.limit ∙ c.requires.limit) (steps_as _ _ _ _ _ c.in-Ok-Used.field-0-is c.in-Ok-Used.ensures.steps)

pub returns-in-Err-clause-puts : goal.returns-in-Err-clause-puts
returns-in-Err-clause-puts g c bytes stands = first_put bytes _ _ _ _ _ _ (c.cuts.invariant.cuts bytes stands)

pub put_line-requires-clause-due : goal.put_line-requires-clause-due
put_line-requires-clause-due g c =
    let from = c.requires.from in
    line_begins _ _ from.0 _ _ _ _ c.in-Ok-Line.line c.in-Ok-Line.used _ c.cuts.invariant.lane from.2 (c.cuts.invariant.cuts from.0 from.1)
    (c.cuts.invariant.limit ∙ c.requires.limit) (steps_as _ _ _ _ _ c.in-Ok-Line.field-0-is c.in-Ok-Line.ensures.steps) (c.text_of.ensures ∙ ap text_of c.as_slice.ensures)

pub put_line-requires-clause-short : goal.put_line-requires-clause-short
put_line-requires-clause-short g c =
    let from = c.requires.from in
    line_short from.0 _ _ _ _ _ _ c.in-Ok-Line.line c.in-Ok-Line.used _ (c.cuts.invariant.cuts from.0 from.1)
    (c.cuts.invariant.limit ∙ c.requires.limit) (steps_as _ _ _ _ _ c.in-Ok-Line.field-0-is c.in-Ok-Line.ensures.steps) (c.text_of.ensures ∙ ap text_of c.as_slice.ensures)
