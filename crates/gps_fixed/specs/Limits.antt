-- The numbers that bound what is read and kept, where clauses of several crates name them. (This project's own.)
use Rattle.std.specs.Prelude.{ℕ}

-- the most bytes and edges that `--history` may allow one generation of the history
abbrev pub most_history : ℕ
most_history = 33_554_432

-- the most items that `--queue` may let wait for a session
abbrev pub most_queue : ℕ
most_queue = 65_536

-- the most bytes that come in one piece
abbrev pub longest_piece : ℕ
longest_piece = 512
