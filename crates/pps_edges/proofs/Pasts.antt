-- One more edge after a past.
use Rattle.std.proofs.Common.{◌≡◌, Bool, true, false, cond, List, [], ◌∷◌, ◌++◌, Option, Some, None, refl, sym, ap, ◌∙◌, append-nil}
use Rattle.std.specs.List.{filter, last_or}
use Rattle.std.proofs.lemmas.Bool.{cond-false, cond-true}
use Rattle.std.proofs.lemmas.List.Elements.{filter-append}
use Rattle.gps_report.specs.declared.edge.Edge.{Edge}
use Rattle.pps_edges.specs.Pulse.{is_assert, last_assert}

last_behind : (before : Option Edge) (edges : List Edge) (edge : Edge) → last_or before (edges ++ edge ∷ []) ≡ Some edge
last_behind before [] edge = refl
last_behind before (first ∷ edges) edge = last_behind (Some first) edges edge

by_kind : (assert : Bool) (edges : List Edge) (edge : Edge) → last_or None (edges ++ cond assert (edge ∷ []) []) ≡ cond assert (Some edge) (last_or None edges)
by_kind true edges edge = last_behind None edges edge
by_kind false edges edge = ap (last_or None) (append-nil edges)

-- an assert edge is the last one, and a clear edge leaves the last one
pub goes_on : (past : List Edge) (edge : Edge) → last_assert (past ++ edge ∷ []) ≡ cond (is_assert edge.kind) (Some edge) (last_assert past)
unfolding last_assert
goes_on past edge =
    ap (last_or None) (filter-append (λ e. is_assert e.kind) past (edge ∷ []))
    ∙ by_kind (is_assert edge.kind) (filter (λ e. is_assert e.kind) past) edge

pub takes_assert : (past : List Edge) (edge : Edge) → is_assert edge.kind ≡ true → Some edge ≡ last_assert (past ++ edge ∷ [])
takes_assert past edge kind = sym (goes_on past edge ∙ cond-true _ _ _ kind)

pub passes_clear : (kept : Option Edge) (past : List Edge) (edge : Edge) → is_assert edge.kind ≡ false → kept ≡ last_assert past → kept ≡ last_assert (past ++ edge ∷ [])
passes_clear kept past edge kind stands = stands ∙ sym (goes_on past edge ∙ cond-false _ _ _ kind)
