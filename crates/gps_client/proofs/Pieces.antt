-- A text that is cut after its end.
use Rattle.std.proofs.Common.{◌≡◌, ℕ, ◌<◌, arith, List, [], length, take, drop, take_all, sym}
use Rattle.std.proofs.lemmas.List.{drop_all}

pub all_taken : (len : ℕ) (text : List ℕ) → length text < len → text ≡ take len text
all_taken len text h = sym (take_all len text (omega (arith, h)))

pub all_dropped : (len : ℕ) (text : List ℕ) → length text < len → [] ≡ drop len text
all_dropped len text h = sym (drop_all len text (omega (arith, h)))
