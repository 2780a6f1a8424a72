-- The lines of an edges file that are put into a lane: those of at most 64 bytes without their line end.
use Rattle.std.specs.Prelude.{ℕ, List, [], ◌++◌, length, map, nat_le, if◌then◌else◌}
use Rattle.line_cut.specs.declared.limit.Limit.{Limit}
use Rattle.line_cut.specs.declared.limit.Limit.TheVariants.{Text}
use Rattle.line_cut.specs.Lines.{text_of, open_line, last_lines}
use Rattle.line_cut.specs.Limits.{fitting_lines}

abbrev pub edge_limit : Limit
edge_limit = Text 64

-- the lines that have their line end
abbrev pub edge_lines : List ℕ → List (List ℕ)
edge_lines bytes = map text_of (fitting_lines edge_limit bytes)

-- the last line, if it lacks its line end
abbrev pub last_edge_line : List ℕ → List (List ℕ)
last_edge_line bytes = if nat_le (length (open_line bytes)) 64 then last_lines (open_line bytes) else []

-- all lines, if no more bytes come
abbrev pub all_edge_lines : List ℕ → List (List ℕ)
all_edge_lines bytes = edge_lines bytes ++ last_edge_line bytes
