-- JSON texts as this daemon writes them: objects without spaces, their members in a fixed order with `class` first (after gpsd_json(5)).
use Rattle.std.specs.Prelude.{ℕ, ℤ, pos, Bool, true, false, List, [], ◌∷◌, ◌++◌, Option, Some, None, codes}
use Rattle.std.specs.Fmt.{signed_decimal}
use Rattle.std.specs.List.{flat_map}
use Rattle.gps_fixed.specs.Moment.{Moment}
use Rattle.gps_fixed.specs.Text.{iso_of, scaled_text}
use Rattle.json_line.specs.declared.names.Key.{Key}
use Rattle.json_line.specs.Names.{label_of}

-- a member, and one that is absent if there is no value
unfoldable pub member : Key → List ℕ → List ℕ
member key value = label_of key ++ value

unfoldable pub member_if : {X : Type 0} → Key → (X → List ℕ) → Option X → List ℕ
member_if key text None = []
member_if key text (Some x) = label_of key ++ text x

-- texts: names need no escapes
unfoldable pub quoted : List ℕ → List ℕ
quoted text = codes "\"" ++ text ++ codes "\""

unfoldable pub truth : Bool → List ℕ
truth true = codes "true"
truth false = codes "false"

-- numbers: with a sign, and with the given number of decimals
unfoldable pub signed : ℤ → List ℕ
signed n = signed_decimal n

unfoldable pub fixed : ℕ → ℤ → List ℕ
fixed decimals n = scaled_text decimals n

-- hundredths, with two decimals
unfoldable pub hundredths : ℕ → List ℕ
hundredths n = scaled_text 2 (pos n)

-- a time, after ISO 8601
unfoldable pub time : Moment → List ℕ
time at = codes "\"" ++ iso_of at ++ codes "\""

-- the texts of a list, each but the first after a comma
unfoldable pub behind_commas : {X : Type 0} → (X → List ℕ) → List X → List ℕ
behind_commas text items = flat_map (λ x. codes "," ++ text x) items

unfoldable pub separated : {X : Type 0} → (X → List ℕ) → List X → List ℕ
separated text [] = []
separated text (x ∷ more) = text x ++ behind_commas text more

unfoldable pub array : {X : Type 0} → (X → List ℕ) → List X → List ℕ
array text items = codes "[" ++ separated text items ++ codes "]"

-- how an object ends, and how a line does
abbrev pub closing : List ℕ
closing = codes "}"

abbrev pub line_end : List ℕ
line_end = 13 ∷ 10 ∷ []
