-- The text of a captured edge: `assert` or `clear`, a space, the seconds, a point, nine digits of nanoseconds, `#` and the sequence
-- number, as `assert 1186592699.388832443#75`. The form is that in which Linux shows what RFC 2783 captures; which lines are in it is
-- this project's own.
use Rattle.std.specs.Prelude.{ℕ, pos, Bool, true, ◌&&◌, ◌≡◌, ◌<◌, ◌≤◌, List, ◌∷◌, ◌++◌, length, nat_le, codes}
use Rattle.std.specs.List.{list_all}
use Rattle.std.specs.Str.Parse.{digits_value}
use Rattle.gps_report.specs.declared.edge.Edge.{Edge}
use Rattle.gps_report.specs.declared.edge.EdgeKind.{EdgeKind}
use Rattle.gps_report.specs.declared.edge.EdgeKind.TheVariants.{Assert, Clear}

abbrev pub is_digit : ℕ → Bool
is_digit byte = nat_le 48 byte && nat_le byte 57

-- the kind and the three runs of digits of a line
pub record Parts : Type 0 where
  pub kind : EdgeKind
  pub seconds : List ℕ
  pub nanoseconds : List ℕ
  pub sequence : List ℕ

-- at most n digits, and at least one
pub record IsNumber (most : ℕ) (text : List ℕ) : Type 0 where
  pub some : 0 < length text
  pub few : length text ≤ most
  pub digits : list_all is_digit text ≡ true

pub record AreParts (p : Parts) : Type 0 where
  pub seconds : IsNumber 10 p.seconds
  pub nanoseconds : IsNumber 9 p.nanoseconds
  pub nine : length p.nanoseconds ≡ 9
  pub sequence : IsNumber 10 p.sequence
  pub fits : digits_value 10 p.sequence ≤ 4_294_967_295

abbrev pub word : EdgeKind → List ℕ
word Assert = codes "assert "
word Clear = codes "clear "

-- 46 is the point and 35 the `#`
abbrev pub spelling : Parts → List ℕ
spelling p = word p.kind ++ (p.seconds ++ 46 ∷ (p.nanoseconds ++ 35 ∷ p.sequence))

abbrev pub edge_from : Parts → Edge
edge_from p = record {
  kind = p.kind;
  seq = digits_value 10 p.sequence;
  at = record { sec = pos (digits_value 10 p.seconds); nsec = digits_value 10 p.nanoseconds };
}

abbrev pub IsEdgeLine : List ℕ → Type 0
IsEdgeLine line = (p : Parts) × AreParts p × (line ≡ spelling p)

-- the line in which this edge is written
abbrev pub IsLineOf : Edge → List ℕ → Type 0
IsLineOf edge line = (p : Parts) × AreParts p × (line ≡ spelling p) × (edge ≡ edge_from p)
