-- A link that a listener gave: two halves of one connection. Source: accept(2).
use Rattle.std.specs.Prelude.{◌≡◌, ℕ, ◌≤◌, ◌<◌, [], Some}
use Rattle.wire.specs.Wires.{Wire}

-- Its number is one that the listener has given in this call: no link from before this call has it, and none from after it will.
-- Both halves have it, and no byte of the link was read or written yet.
pub record IsNewLink (before after : ℕ) (inward outward : Wire) : Type 0 where
  pub number : ℕ
  pub later : before ≤ number
  pub earlier : number < after
  pub inward_is : inward.link ≡ Some number
  pub outward_is : outward.link ≡ Some number
  pub unread : inward.bytes ≡ []
  pub unwritten : outward.bytes ≡ []
