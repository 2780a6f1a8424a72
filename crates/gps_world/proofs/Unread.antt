-- Sources from which nothing was taken, opened one after another.
use Rattle.std.proofs.Common.{◌≡◌, sym, subst, ℕ, List, [], ◌∷◌, ◌++◌, Option, Some, None}
use Rattle.std.specs.Option.{option_to_list}
use Rattle.gps_outside.specs.Links.{IsUnread}
use Rattle.gps_outside.specs.Told.{Stream}
use Rattle.gps_world.specs.OpenInOrder.{AreUnread, sources_in}

pub one_more : {S : Type 0} (content : S → Option Stream) (faults quiets : S → ℕ) (sources : List S) (source : S) → AreUnread content faults quiets sources
    → IsUnread (content source) (faults source) (quiets source) → AreUnread content faults quiets (sources ++ source ∷ [])
one_more content faults quiets [] source are is = (is, tt)
one_more content faults quiets (first ∷ sources) source are is = (are.0, one_more content faults quiets sources source are.1 is)

pub next_more : {S : Type 0} (content : S → Option Stream) (faults quiets : S → ℕ) (sources : List (Option S)) (source : Option S)
    → AreUnread content faults quiets (sources_in sources) → AreUnread content faults quiets (option_to_list source)
    → AreUnread content faults quiets (sources_in (sources ++ source ∷ []))
next_more content faults quiets [] None are is = tt
next_more content faults quiets [] (Some source) are is = is
next_more content faults quiets (None ∷ sources) source are is = next_more content faults quiets sources source are is
next_more content faults quiets (Some first ∷ sources) source are is = (are.0, next_more content faults quiets sources source are.1 is)

pub none_unread : {S : Type 0} (content : S → Option Stream) (faults quiets : S → ℕ) {sources : List S} → sources ≡ [] → AreUnread content faults quiets sources
none_unread {S} content faults quiets none = let P : List S → Type 0 = λ l. AreUnread content faults quiets l in subst P (sym none) tt
