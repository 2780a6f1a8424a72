-- What of the input is kept until more comes: the request that it leaves open, or that the line of a request
-- that was too long goes on.
use Rattle.std.specs.Prelude.{ℕ, zero, suc, ◌≡◌, ◌++◌, List, [], ◌∷◌, drop, fold, if◌then◌else◌}
use Rattle.std.specs.List.{list_any}
use Rattle.gps_command.specs.declared.cutter.Stand.{Stand}
use Rattle.gps_command.specs.declared.cutter.Stand.TheVariants.{Open, Skipping}
use Rattle.gps_command.specs.declared.request.Quote.{Quote}
use Rattle.gps_command.specs.declared.request.Quote.TheVariants.{Outside}
use Rattle.gps_command.specs.declared.request.RawCommand.{RawCommand}
use Rattle.gps_command.specs.Requests.{by_begin, is_line_feed, long_length, open_length, quote_after, requests}

pub record CommandCutterView : Type 0 where
  pub stand : Stand
  pub held : List ℕ

-- where the byte after these is
abbrev pub quote_of : List ℕ → Quote
quote_of held = fold quote_after Outside held

-- an open request; without bytes, none
abbrev pub kept_open : List ℕ → CommandCutterView
kept_open held = record { stand = Open (quote_of held); held = held }

-- the rest of a line whose request was too long
abbrev pub kept_skipping : CommandCutterView
kept_skipping = record { stand = Skipping; held = [] }

-- what the bytes leave, if the first `skip` of them belong to what went before
unfoldable pub kept_from : ℕ → List ℕ → CommandCutterView
kept_from skip [] = kept_open []
kept_from (suc skip) (c ∷ bytes) = kept_from skip bytes
kept_from zero (c ∷ bytes) =
    by_begin c bytes
    (kept_from 0 bytes)
    (if list_any is_line_feed (drop 1023 bytes) then kept_from (long_length bytes) bytes else kept_skipping)
    (kept_from (open_length Outside (c ∷ bytes)) bytes)
    (kept_open (c ∷ bytes))

-- what is kept is what these bytes leave
abbrev pub StandsFor : CommandCutterView → List ℕ → Type 0
StandsFor kept bytes = kept ≡ kept_from 0 bytes

-- a piece after these bytes ends these requests
abbrev pub Gains : List ℕ → List ℕ → List RawCommand → Type 0
Gains bytes piece gained = requests (bytes ++ piece) ≡ requests bytes ++ gained
