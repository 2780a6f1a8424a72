-- What one more byte does to what is kept, and the request that it ends, if any: the cutter's own step, which no
-- public clause names.
use Rattle.std.specs.Prelude.{ℕ, List, [], ◌∷◌, ◌++◌, ◌&&◌, ◌==◌, length, nat_lt, if◌then◌else◌}
use Rattle.gps_command.specs.declared.cutter.Stand.{Stand}
use Rattle.gps_command.specs.declared.cutter.Stand.TheVariants.{Open, Skipping}
use Rattle.gps_command.specs.declared.request.Quote.{Quote}
use Rattle.gps_command.specs.declared.request.Quote.TheVariants.{Outside}
use Rattle.gps_command.specs.declared.request.RawCommand.{RawCommand}
use Rattle.gps_command.specs.declared.request.RawCommand.TheVariants.{Words, Long}
use Rattle.gps_command.specs.Kept.{CommandCutterView}
use Rattle.gps_command.specs.Requests.{ends, is_gap, is_line_feed, quote_after}

-- after a byte of the line of a request that is too long
abbrev pub after_long : ℕ → Stand
after_long c = if is_line_feed c then Open Outside else Skipping

-- a byte within a request, or before one if nothing is held
abbrev pub by_open : {X : Type 0} → Quote → List ℕ → ℕ → X → X → X → X → X
by_open quote held c gap ended longer long =
    if (length held == 0) && is_gap c then gap
    else (if ends quote c then ended else (if nat_lt (length held) 1024 then longer else long))

abbrev pub next_at : Stand → List ℕ → ℕ → CommandCutterView
next_at Skipping held c = record { stand = after_long c; held = held }
next_at (Open quote) held c =
    by_open quote held c
    (record { stand = Open quote; held = held })
    (record { stand = Open Outside; held = [] })
    (record { stand = Open (quote_after quote c); held = held ++ c ∷ [] })
    (record { stand = after_long c; held = [] })

abbrev pub ends_at : Stand → List ℕ → ℕ → List RawCommand
ends_at Skipping held c = []
ends_at (Open quote) held c = by_open quote held c [] (Words held ∷ []) [] (Long ∷ [])

unfoldable pub kept_after : CommandCutterView → List ℕ → CommandCutterView
kept_after kept [] = kept
kept_after kept (c ∷ piece) = kept_after (next_at kept.stand kept.held c) piece

unfoldable pub ended_by : CommandCutterView → List ℕ → List RawCommand
ended_by kept [] = []
ended_by kept (c ∷ piece) = ends_at kept.stand kept.held c ++ ended_by (next_at kept.stand kept.held c) piece
