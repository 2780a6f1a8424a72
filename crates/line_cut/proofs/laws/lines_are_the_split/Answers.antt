use Rattle.line_cut.proofs.Splits.{are_lines, joined, only_lines, only_opens, open_plain}
use Rattle.line_cut.proofs.laws.lines_are_the_split.Goals as goal

pub returns : goal.returns
returns c = record {
  joined = joined;
  lines = are_lines;
  opens = open_plain;
  only = λ split rest are plain. (only_lines split rest are plain, only_opens split rest are plain);
}
