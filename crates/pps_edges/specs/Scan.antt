-- How a line of an edge is read, part by part. What the lines are is said in EdgeLine.antt.
use Rattle.std.specs.Prelude.{ℕ, pos, Bool, ◌&&◌, List, length, not, cond, nat_eq, nat_le, nat_lt, Option, Some, None, take, drop, codes}
use Rattle.std.specs.List.{list_all, prefix_len}
use Rattle.std.specs.Str.Parse.{digits_value}
use Rattle.std.specs.Cmp.Lexicographic.{pointwise}
use Rattle.gps_report.specs.declared.edge.Edge.{Edge}
use Rattle.gps_report.specs.declared.edge.EdgeKind.{EdgeKind}
use Rattle.gps_report.specs.declared.edge.EdgeKind.TheVariants.{Assert, Clear}
use Rattle.pps_edges.specs.EdgeLine.{is_digit}

abbrev pub is_not : ℕ → ℕ → Bool
is_not mark byte = not (nat_eq byte mark)

unfoldable pub up_to_first : ℕ → List ℕ → List ℕ
up_to_first mark text = take (prefix_len (is_not mark) text) text

unfoldable pub past_first : ℕ → List ℕ → List ℕ
past_first mark text = drop 1 (drop (prefix_len (is_not mark) text) text)

-- the number that 1 to 10 digits write
unfoldable pub number_in : List ℕ → Option ℕ
number_in text = cond (nat_lt 0 (length text) && nat_le (length text) 10 && list_all is_digit text) (Some (digits_value 10 text)) None

-- the number that nine digits write
unfoldable pub nine_in : List ℕ → Option ℕ
nine_in text = cond (nat_eq (length text) 9 && list_all is_digit text) (Some (digits_value 10 text)) None

-- the seconds, the nanoseconds and the sequence number, if all three are read
abbrev pub captured : EdgeKind → Option ℕ → Option ℕ → Option ℕ → Option Edge
captured kind (Some sec) (Some nsec) (Some seq) =
    cond (nat_le seq 4_294_967_295) (Some (record { kind = kind; seq = seq; at = record { sec = pos sec; nsec = nsec } })) None
captured kind _ _ _ = None

unfoldable pub capture_in : EdgeKind → List ℕ → Option Edge
capture_in kind text =
    captured kind (number_in (up_to_first 46 text)) (nine_in (up_to_first 35 (past_first 46 text))) (number_in (past_first 35 (past_first 46 text)))

unfoldable pub begins : List ℕ → List ℕ → Bool
begins word text = pointwise nat_eq (take (length word) text) word

unfoldable pub edge_in : List ℕ → Option Edge
edge_in line =
    cond (begins (codes "assert ") line) (capture_in Assert (drop 7 line))
    (cond (begins (codes "clear ") line) (capture_in Clear (drop 6 line)) None)
