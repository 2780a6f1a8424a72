-- The lines that close a run: one for each session, and one for each unit that had a sample.
use Rattle.std.specs.Prelude.{ℕ, ◌+◌, ◌==◌, List, [], ◌++◌, codes, if◌then◌else◌}
use Rattle.book_units.specs.declared.unit.UnitState.{UnitState}
use Rattle.session_core.specs.declared.mark.Close.{Close}
use Rattle.session_core.specs.declared.mark.Close.TheVariants.{HungUp, ReadFault, DaemonEnd, TooManyRequests, Overrun, NoMemory}
use Rattle.output_lines.specs.declared.closing.SessionEnd.{SessionEnd}
use Rattle.output_lines.specs.declared.closing.SessionEnd.TheVariants.{Drained, WriteFault}
use Rattle.output_lines.specs.Words.{line_end, numbered}

-- whether all items were written
abbrev pub end_word : SessionEnd → List ℕ
end_word Drained = codes "drained"
end_word WriteFault = codes "writefault"

-- why the session was closed
abbrev pub cause_word : Close → List ℕ
cause_word HungUp = codes "hungup"
cause_word ReadFault = codes "readfault"
cause_word DaemonEnd = codes "daemonend"
cause_word TooManyRequests = codes "toomany"
cause_word Overrun = codes "overrun"
cause_word NoMemory = codes "nomemory"

-- sS drained WHY N, if N items were pushed
unfoldable pub closing_line : ℕ → SessionEnd → Close → ℕ → List ℕ
closing_line session end why items =
    numbered (codes "s") session ++ codes " " ++ end_word end ++ codes " " ++ cause_word why ++ numbered (codes " ") items ++ line_end

-- uU published P count C left L
unfoldable pub unit_line : ℕ → UnitState → List ℕ
unit_line unit state =
    numbered (codes "u") unit ++ numbered (codes " published ") state.published ++ numbered (codes " count ") state.count
    ++ numbered (codes " left ") state.left ++ line_end

-- the line of a unit that had a sample, and nothing of another
unfoldable pub unit_text : ℕ → UnitState → List ℕ
unit_text unit state = if state.published + state.left == 0 then [] else unit_line unit state
