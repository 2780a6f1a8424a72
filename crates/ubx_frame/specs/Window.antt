-- A part of a list of bytes whose sums are known, and when a list has all the bytes of a frame. (This project's own.)
use Rattle.std.specs.Prelude.{◌≡◌, ℕ, ◌+◌, ◌-◌, ◌≤◌, List, length, take, drop, fold, cond}
use Rattle.ubx_frame.specs.declared.frame.Shape.TheVariants.{Whole, No}
use Rattle.ubx_frame.specs.declared.window.Window.{Window}
use Rattle.ubx_frame.specs.Checksum.{after_byte}
use Rattle.ubx_frame.specs.Scan.{is_right, shape_of}

-- the sums after the part are those before it with its bytes added
pub record IsWindow (window : Window) (bytes : List ℕ) : Type 0 where
  pub order : window.from ≤ window.to
  pub inside : window.to ≤ length bytes
  pub sums : window.after ≡ fold after_byte window.before (take (window.to - window.from) (drop window.from bytes))

-- the list has all the bytes of a frame with a payload of this length, so that its checksum decides
pub record IsDecided (len : ℕ) (bytes : List ℕ) : Type 0 where
  pub inside : len + 8 ≤ length bytes
  pub shape : shape_of bytes ≡ cond (is_right (take (len + 4) (drop 2 bytes)) (drop (len + 6) bytes)) (Whole (len + 8)) No
