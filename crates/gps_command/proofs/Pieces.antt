-- One more piece of the input: the requests that it ends, and what is kept then.
use Rattle.std.proofs.Common.{◌≡◌, ◌<◌, ◌≤◌, ◌+◌, ℕ, List, [], ◌∷◌, ◌++◌, length, drop, slice_index_or, sym, ◌∙◌, refl, arith, add-one, drop-cons, append_assoc}
use Rattle.std.proofs.lemmas.List.{append-nil, drop_all}
use Rattle.gps_command.specs.declared.cutter.Stand.{Stand}
use Rattle.gps_command.specs.declared.request.RawCommand.{RawCommand}
use Rattle.gps_command.specs.Kept.{Gains, CommandCutterView, StandsFor, kept_from, kept_open}
use Rattle.gps_command.specs.Requests.{requests, requests_from}
use Rattle.gps_command.specs.Steps.{ended_by, ends_at, kept_after, next_at}
use Rattle.gps_command.proofs.Growths.{Grows, grown}

at_start : (bytes : List ℕ) (x : ℕ) → Grows x (requests_from 0 bytes) (kept_from 0 bytes) (requests_from 0 (bytes ++ x ∷ [])) (kept_from 0 (bytes ++ x ∷ []))
at_start bytes x = grown 0 bytes x (omega arith)

kept_more : (bytes piece : List ℕ) → kept_from 0 (bytes ++ piece) ≡ kept_after (kept_from 0 bytes) piece
unfolding kept_after
kept_more bytes [] = rw append-nil
kept_more bytes (c ∷ piece) = rw (← append_assoc bytes (c ∷ []) piece, kept_more (bytes ++ c ∷ []) piece, (at_start bytes c).kept)

requests_more : (bytes piece : List ℕ) → requests (bytes ++ piece) ≡ requests bytes ++ ended_by (kept_from 0 bytes) piece
unfolding ended_by
requests_more bytes [] = simp append-nil
requests_more bytes (c ∷ piece) =
    rw (← append_assoc bytes (c ∷ []) piece, requests_more (bytes ++ c ∷ []) piece, (at_start bytes c).kept, (at_start bytes c).ended)
    (append_assoc (requests_from 0 bytes) _ _)

pub stands_for_none : StandsFor (kept_open []) []
unfolding kept_from
stands_for_none = refl

-- the loop over a piece: what was ended so far and what the rest ends is what the piece ends
pub record Going (old : CommandCutterView) (piece : List ℕ) (stand : Stand) (held : List ℕ) (out : List RawCommand) (rest : List ℕ) : Type 0 where
  pub ended : out ++ ended_by (record { stand = stand; held = held }) rest ≡ ended_by old piece
  pub kept : kept_after (record { stand = stand; held = held }) rest ≡ kept_after old piece

pub begins : (old : CommandCutterView) (piece held : List ℕ) (out : List RawCommand) → held ≡ old.held → out ≡ [] → Going old piece old.stand held out piece
begins old piece held out h o = rw (h, o) (record { ended = refl; kept = refl })

going_on : (old : CommandCutterView) (piece : List ℕ) (stand : Stand) (held : List ℕ) (out : List RawCommand) (c : ℕ) (rest : List ℕ)
    → Going old piece stand held out (c ∷ rest)
    → Going old piece (next_at stand held c).stand (next_at stand held c).held (out ++ ends_at stand held c) rest
unfolding ended_by kept_after
going_on old piece stand held out c rest g = record {
  ended = append_assoc out (ends_at stand held c) _ ∙ g.ended;
  kept = g.kept;
}

pub goes_on : (old : CommandCutterView) (piece : List ℕ) (stand stand1 : Stand) (held held1 : List ℕ) (out out1 : List RawCommand) (i d : ℕ)
    → i < length piece → Going old piece stand held out (drop i piece)
    → stand1 ≡ (next_at stand held (slice_index_or piece i d)).stand
    → held1 ≡ (next_at stand held (slice_index_or piece i d)).held
    → out1 ≡ out ++ ends_at stand held (slice_index_or piece i d)
    → Going old piece stand1 held1 out1 (drop (i + 1) piece)
goes_on old piece stand stand1 held held1 out out1 i d h g s l o =
    let split : drop i piece ≡ slice_index_or piece i d ∷ drop (i + 1) piece = rw add-one (drop-cons piece i d h) in
    rw (s, l, o) (going_on old piece stand held out _ (drop (i + 1) piece) (rw split at g))

ended_at : (old : CommandCutterView) (piece : List ℕ) (stand : Stand) (held : List ℕ) (out : List RawCommand) → Going old piece stand held out []
    → (bytes : List ℕ) → StandsFor old bytes
    → Gains bytes piece out × StandsFor (record { stand = stand; held = held }) (bytes ++ piece)
unfolding ended_by kept_after
ended_at old piece stand held out g bytes stands = (
  requests_more bytes piece ∙ rw (← stands, ← g.ended, append-nil),
  g.kept ∙ rw (stands, kept_more bytes piece),
)

pub ends_here : (old : CommandCutterView) (piece : List ℕ) (stand : Stand) (held : List ℕ) (out : List RawCommand) (i : ℕ) → length piece ≤ i
    → Going old piece stand held out (drop i piece) → (bytes : List ℕ) → StandsFor old bytes
    → Gains bytes piece out × StandsFor (record { stand = stand; held = held }) (bytes ++ piece)
ends_here old piece stand held out i h g = ended_at old piece stand held out (rw (drop_all i piece h) at g)

-- a piece that is the whole input
pub all_gained : (kept : CommandCutterView) (piece : List ℕ) (out : List RawCommand) (after : CommandCutterView) → StandsFor kept []
    → ((bytes : List ℕ) → StandsFor kept bytes → Gains bytes piece out × StandsFor after (bytes ++ piece))
    → out ≡ requests piece
unfolding requests_from
all_gained kept piece out after stands gains = sym (gains [] stands).0
