-- A text that serde_json takes for UTF-8, and std's test of it.
use Rattle.std.proofs.Common.{◌≡◌, ◌<◌, ℕ, List, [], ◌∷◌, Some, length, arith}
use Rattle.serde_json.specs.Data.{Data}
use Rattle.serde_json.proofs.OnLiterals.{serde_json_on_literals}
use Rattle.serde_json.specs.Read.{read}
use Rattle.std.proofs.lemmas.Str.{IsUtf8-from_is_utf8, is_utf8-from_IsUtf8}

pub ruleset utf8 = (IsUtf8-from_is_utf8, is_utf8-from_IsUtf8)

-- an empty text has no value
pub not_empty : (text : List ℕ) (value : Data) → read text ≡ Some value → 0 < length text
unfolding serde_json_on_literals
not_empty [] value is = absurd (cc)
not_empty (c ∷ text) value is = omega arith
