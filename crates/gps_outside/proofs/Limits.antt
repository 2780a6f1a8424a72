-- What a command reads of a source, within its limit.
use Rattle.std.proofs.Common.{◌≡◌, ℕ, ◌+◌, ◌<◌, List, [], ◌++◌, length, Option, Some, None, refl, sym, ◌∙◌, ap, length-append, arith}
use Rattle.std.proofs.lemmas.List.{append-nil}
use Rattle.gps_outside.specs.Told.{Stream, Goes, Passes}
use Rattle.gps_outside.specs.ReadSteps.{PassesMore}
use Rattle.gps_outside.specs.Ends.{IsWithin}

-- a source that holds no more than may be taken has no byte beyond it
pub no_more : (most : ℕ) (bytes : List ℕ) (before after : Option Stream)
    → IsWithin most before → length bytes ≡ most → Goes (PassesMore bytes) before after → ⊥
no_more most bytes None after within full passed = within
no_more most bytes (Some stream) None within full passed = passed
no_more most bytes (Some stream) (Some rest) within full passed =
    let left : length stream.left ≡ length (bytes ++ passed.0) + length rest.left =
    ap length passed.1.1.next ∙ length-append (bytes ++ passed.0) rest.left in
    let both : length (bytes ++ passed.0) ≡ length bytes + length passed.0 = length-append bytes passed.0 in
    let some : 0 < length passed.0 = passed.1.0 in
    omega (arith, within, full)

-- nothing was read
pub passes_none : (source : Option Stream) → Goes (Passes []) source source
passes_none None = tt
passes_none (Some stream) = record { next = refl; joins = sym (append-nil stream.taken) }
