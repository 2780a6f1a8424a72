-- What the pieces of a lane carry stays what its source holds.
use Rattle.std.proofs.Common.{◌≡◌, inl, inr, ℕ, List, [], ◌∷◌, ◌++◌, Option, Some, None, refl, sym, ap, ◌∙◌, subst, append_assoc, append-nil}
use Rattle.std.specs.List.{flat_map}
use Rattle.std.proofs.lemmas.List.Concat.{flat_map-append}
use Rattle.session_core.specs.declared.subject.Subject.{Subject}
use Rattle.gps_lane.specs.Lane.{Begins}
use Rattle.gps_fixed.specs.Lists.{IsPrefix}
use Rattle.gps_lane.specs.declared.piece.Ending.{Ending}
use Rattle.gps_lane.specs.declared.piece.Piece.{Piece}
use Rattle.gps_lane.specs.declared.piece.Piece.TheVariants.{Last}
use Rattle.gps_lane.specs.Carried.{device_part, input_part, line_part}
use Rattle.gps_lane.specs.EdgeLines.{all_edge_lines}
use Rattle.gps_lane.specs.Held.{AreDue, AreHeld, CarryHeld}

-- what fewer pieces carry begins what all carry
fewer : {X : Type 0} (part : Piece → List X) (held : List X) (first more : List Piece) → IsPrefix (flat_map part (first ++ more)) held → IsPrefix (flat_map part first) held
fewer part held first more all = (
  flat_map part more ++ all.0,
  all.1 ∙ ap (λ l. l ++ all.0) (flat_map-append part first more) ∙ append_assoc (flat_map part first) (flat_map part more) all.0,
)

-- no pieces carry what the source holds, and the first of pieces that do
none_held : (source : Option (List ℕ)) → AreHeld source []
none_held None = tt
none_held (Some held) = record { device = (held, refl); input = (held, refl); lines = (all_edge_lines held, refl) }

fewer_held : (source : Option (List ℕ)) (pieces more : List Piece) → AreHeld source (pieces ++ more) → AreHeld source pieces
fewer_held None pieces more all = tt
fewer_held (Some held) pieces more all =
    record {
      device = fewer device_part held pieces more all.device;
      input = fewer input_part held pieces more all.input;
      lines = fewer line_part (all_edge_lines held) pieces more all.lines;
    }

-- pieces that begin what is due carry what the source holds
pub begun_held : (about : Subject) (pieces : List Piece) → Begins AreDue about pieces → AreDue about pieces
begun_held about pieces (inl none) = subst (AreDue about) (sym none) (none_held about.source)
begun_held about pieces (inr more) = fewer_held about.source pieces more.0 more.1

-- pieces that carry what the source holds are due
pub held_begins : (about : Subject) (pieces : List Piece) → AreDue about pieces → Begins AreDue about pieces
held_begins about pieces held = inr ([], subst (AreDue about) (sym (append-nil pieces)) held)

none_more : {X : Type 0} (part : Piece → List X) (held : List X) (pieces : List Piece) (piece : Piece) → part piece ≡ [] → IsPrefix (flat_map part pieces) held
    → IsPrefix (flat_map part (pieces ++ piece ∷ [])) held
none_more part held pieces piece none begins = (
  begins.0,
  begins.1 ∙ ap (λ l. l ++ begins.0) (sym (flat_map-append part pieces (piece ∷ []) ∙ ap (λ l. flat_map part pieces ++ (l ++ [])) none ∙ append-nil (flat_map part pieces))),
)

-- how the source ended may be put at any time
with_last : (source : Option (List ℕ)) (pieces : List Piece) (ending : Ending) → AreHeld source pieces → AreHeld source (pieces ++ Last ending ∷ [])
with_last None pieces ending held = tt
with_last (Some all) pieces ending held =
    record {
      device = none_more device_part all pieces (Last ending) refl held.device;
      input = none_more input_part all pieces (Last ending) refl held.input;
      lines = none_more line_part (all_edge_lines all) pieces (Last ending) refl held.lines;
    }

pub last_begins : (about : Subject) (pieces : List Piece) (ending : Ending) → Begins AreDue about pieces → Begins AreDue about (pieces ++ Last ending ∷ [])
last_begins about pieces ending begins = held_begins about (pieces ++ Last ending ∷ []) (with_last about.source pieces ending (begun_held about pieces begins))
