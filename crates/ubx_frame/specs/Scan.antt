-- Where a list of bytes begins with a frame, in steps. The law that ties it to the sets of frames is a contract of `frame_at`.
--
use Rattle.std.specs.Prelude.{ℕ, ◌+◌, ◌*◌, ◌==◌, ◌&&◌, Bool, false, cond, nat_lt, List, [], ◌∷◌, length, take, drop}
use Rattle.ubx_frame.specs.declared.frame.Shape.{Shape}
use Rattle.ubx_frame.specs.declared.frame.Shape.TheVariants.{Whole, Pending, No}
use Rattle.ubx_frame.specs.Checksum.{sums_of}

-- whether the list begins with the right checksum of what comes before it
unfoldable pub is_right : List ℕ → List ℕ → Bool
is_right covered (ck_a ∷ ck_b ∷ more) = (sums_of covered).a == ck_a && (sums_of covered).b == ck_b
is_right covered (ck_a ∷ []) = false
is_right covered [] = false

-- after the sync characters, if the payload has n bytes
unfoldable pub shape_of_length : ℕ → List ℕ → Shape
shape_of_length len rest =
    cond (nat_lt 2048 len) No
    (cond (nat_lt (length rest) (len + 6)) Pending
    (cond (is_right (take (len + 4) rest) (drop (len + 4) rest)) (Whole (len + 8)) No))

unfoldable pub shape_behind_sync : List ℕ → Shape
shape_behind_sync [] = Pending
shape_behind_sync (class ∷ []) = Pending
shape_behind_sync (class ∷ id ∷ []) = Pending
shape_behind_sync (class ∷ id ∷ low ∷ []) = Pending
shape_behind_sync (class ∷ id ∷ low ∷ high ∷ tail) = shape_of_length (low + 256 * high) (class ∷ id ∷ low ∷ high ∷ tail)

unfoldable pub shape_behind_first : List ℕ → Shape
shape_behind_first [] = Pending
shape_behind_first (second ∷ rest) = cond (second == 0x62) (shape_behind_sync rest) No

unfoldable pub shape_of : List ℕ → Shape
shape_of [] = Pending
shape_of (first ∷ rest) = cond (first == 0xb5) (shape_behind_first rest) No
