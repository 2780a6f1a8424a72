-- What a reader puts is what its source holds, in order.
use Rattle.std.proofs.Common.{◌≡◌, ℕ, List, [], ◌∷◌, ◌++◌, Option, Some, None, refl, sym, ap, ◌∙◌, subst, append_assoc, append-nil}
use Rattle.std.specs.List.{flat_map}
use Rattle.std.proofs.lemmas.List.Concat.{flat_map-append}
use Rattle.gps_fixed.specs.Moment.{Moment}
use Rattle.session_core.specs.declared.subject.Subject.{Subject}
use Rattle.gps_lane.specs.Ends.{Putting}
use Rattle.gps_lane.specs.Lane.{Begins}
use Rattle.gps_fixed.specs.Lists.{IsPrefix}
use Rattle.gps_outside.specs.Told.{Stream, Goes, Stays, Passes}
use Rattle.gps_lane.specs.declared.piece.Piece.{Piece}
use Rattle.gps_lane.specs.declared.piece.Piece.TheVariants.{Bytes, Line, Input, Last}
use Rattle.gps_lane.specs.Carried.{device_bytes, input_bytes, lines_of}
use Rattle.gps_lane.specs.EdgeLines.{all_edge_lines}
use Rattle.gps_lane.specs.Held.{AreDue, AreHeld, CarryHeld}
use Rattle.gps_lane.proofs.Held.{held_begins}
use Rattle.serve_workers.specs.Readings.{Each, IsDevicePiece, IsInputPiece}
use Rattle.serve_workers.specs.Sourced.{Carries, FromSource, LinesFrom, held_in}
use Rattle.serve_workers.proofs.LineStepping.{no_lines_yet}

no_input : (may : Option (List Moment)) (put : List Piece) → Each (IsDevicePiece may) put → input_bytes put ≡ []
no_input may [] each = refl
no_input may (Bytes at bytes ∷ put) each = no_input may put each.1
no_input may (Line line ∷ put) each = absurd each.0
no_input may (Input bytes ∷ put) each = absurd each.0
no_input may (Last ending ∷ put) each = absurd each.0

no_device : (put : List Piece) → Each IsInputPiece put → device_bytes put ≡ []
no_device [] each = refl
no_device (Bytes at bytes ∷ put) each = absurd each.0
no_device (Line line ∷ put) each = absurd each.0
no_device (Input bytes ∷ put) each = no_device put each.1
no_device (Last ending ∷ put) each = absurd each.0

no_lines : (may : Option (List Moment)) (put : List Piece) → Each (IsDevicePiece may) put → lines_of put ≡ []
no_lines may [] each = refl
no_lines may (Bytes at bytes ∷ put) each = no_lines may put each.1
no_lines may (Line line ∷ put) each = absurd each.0
no_lines may (Input bytes ∷ put) each = absurd each.0
no_lines may (Last ending ∷ put) each = absurd each.0

no_line : (put : List Piece) → Each IsInputPiece put → lines_of put ≡ []
no_line [] each = refl
no_line (Bytes at bytes ∷ put) each = absurd each.0
no_line (Line line ∷ put) each = absurd each.0
no_line (Input bytes ∷ put) each = no_line put each.1
no_line (Last ending ∷ put) each = absurd each.0

begins_none : {X : Type 0} (held none : List X) → none ≡ [] → IsPrefix none held
begins_none held none is = (held, ap (λ l. l ++ held) (sym is))

pub device_carries : (may : Option (List Moment)) (held : List ℕ) (put : List Piece) → Each (IsDevicePiece may) put → IsPrefix (device_bytes put) held → CarryHeld held put
device_carries may held put each begins = record {
  device = begins;
  input = begins_none held (input_bytes put) (no_input may put each);
  lines = begins_none (all_edge_lines held) (lines_of put) (no_lines may put each);
}

pub input_carries : (held : List ℕ) (put : List Piece) → Each IsInputPiece put → IsPrefix (input_bytes put) held → CarryHeld held put
input_carries held put each begins = record {
  device = begins_none held (device_bytes put) (no_device put each);
  input = begins;
  lines = begins_none (all_edge_lines held) (lines_of put) (no_line put each);
}

module _ (part : Piece → List ℕ) (P : Piece → Type 0) where
  each_more : (put : List Piece) (piece : Piece) → Each P put → P piece → Each P (put ++ piece ∷ [])
  each_more [] piece each good = (good, tt)
  each_more (x ∷ put) piece each good = (each.0, each_more put piece each.1 good)

  -- one more piece of what a read gave
  pub from_more : (about : Option (List ℕ)) (put : List Piece) (piece : Piece) (bytes : List ℕ) (before after : Option Stream) → FromSource part P about put before
      → Goes (Passes bytes) before after → part piece ≡ bytes → P piece → FromSource part P about (put ++ piece ∷ []) after
  from_more None put piece bytes before after from passes is good = tt
  from_more (Some held) put piece bytes None after from passes is good = absurd from
  from_more (Some held) put piece bytes (Some x) None from passes is good = absurd passes
  from_more (Some held) put piece bytes (Some x) (Some y) from passes is good = (
    each_more put piece from.0 good,
    from.1 ∙ ap (λ l. flat_map part put ++ l) passes.next ∙ sym (append_assoc (flat_map part put) bytes y.left)
        ∙ ap (λ l. (flat_map part put ++ l) ++ y.left) (sym (append-nil (part piece) ∙ is)) ∙ ap (λ l. l ++ y.left) (sym (flat_map-append part put (piece ∷ []))),
  )

  -- a read gave nothing
  pub from_stays : (about : Option (List ℕ)) (put : List Piece) (before after : Option Stream) → FromSource part P about put before → Goes Stays before after
      → FromSource part P about put after
  from_stays None put before after from stays = tt
  from_stays (Some held) put None after from stays = absurd from
  from_stays (Some held) put (Some x) None from stays = absurd stays
  from_stays (Some held) put (Some x) (Some y) from stays = (from.0, from.1 ∙ ap (λ (s : Stream). flat_map part put ++ s.left) stays)

  from_held : (about : Option (List ℕ)) (put : List Piece) (now : Option Stream) → Carries part P → FromSource part P about put now → AreHeld about put
  from_held None put now carries from = tt
  from_held (Some held) put None carries from = absurd from
  from_held (Some held) put (Some x) carries from = carries held put from.0 (x.left, from.1)

  -- so it may be put
  pub from_begins : (about : Subject) (put : List Piece) (now : Option Stream) → Carries part P → FromSource part P about.source put now → Begins AreDue about put
  from_begins about put now carries from = held_begins about put (from_held about.source put now carries from)

  -- it was put
  pub from_put : (tx tx' : Putting Piece) (piece : Piece) (now : Option Stream) → tx' ≡ record tx { put = tx.put ++ piece ∷ [] }
      → FromSource part P tx.about.source (tx.put ++ piece ∷ []) now → FromSource part P tx'.about.source tx'.put now
  from_put tx tx' piece now is from = subst (λ (t : Putting Piece). FromSource part P t.about.source t.put now) (sym is) from

  -- nothing is told of what the lane is about
  pub from_untold : (about : Option (List ℕ)) (put : List Piece) (now : Option Stream) → about ≡ None → FromSource part P about put now
  from_untold about put now untold = subst (λ a. FromSource part P a put now) (sym untold) tt

  -- nothing was put into a lane about what its source holds
  pub from_new : (about : Option (List ℕ)) (put : List Piece) (now : Option Stream) → about ≡ held_in now → put ≡ [] → FromSource part P about put now
  from_new about put now is none =
      let F : Option (List ℕ) × List Piece → Type 0 = λ t. FromSource part P t.0 t.1 now in
      subst F (λ i. (sym is i, sym none i)) (by now)
    where
      by : (now : Option Stream) → FromSource part P (held_in now) [] now
      by None = tt
      by (Some x) = (tt, refl)

-- the same of lines
pub lines_new : (about : Option (List ℕ)) (put : List Piece) (now : Option Stream) → about ≡ held_in now → put ≡ [] → LinesFrom about put [] now
lines_new about put now is none =
    let F : Option (List ℕ) × List Piece → Type 0 = λ t. LinesFrom t.0 t.1 [] now in
    subst F (λ i. (sym is i, sym none i)) (by now)
  where
    by : (now : Option Stream) → LinesFrom (held_in now) [] [] now
    by None = tt
    by (Some x) = record { device = refl; input = refl; lines = sym no_lines_yet; all = refl }

-- what may be put is so of the same end and the same piece
pub same_begins : (tx tx' : Putting Piece) (piece piece' : Piece) → tx' ≡ tx → piece' ≡ piece → Begins AreDue tx.about (tx.put ++ piece ∷ [])
    → Begins AreDue tx'.about (tx'.put ++ piece' ∷ [])
same_begins tx tx' piece piece' is same begins =
    subst (λ (t : Putting Piece × Piece). Begins AreDue t.0.about (t.0.put ++ t.1 ∷ [])) (λ i. (sym is i, sym same i)) begins
