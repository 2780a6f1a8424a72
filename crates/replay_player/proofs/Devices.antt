-- The events of devices.
use Rattle.std.proofs.Common.{ℕ, Bool, true, List, [], Result, Ok, Err, OnOk}
use Rattle.gps_fixed.specs.declared.no_memory.NoMemory.{NoMemory}
use Rattle.book_log.specs.Entries.{Entry}
use Rattle.report_book.specs.BookView.{BookView, turned_if}
use Rattle.report_book.specs.declared.fault.BookFault.{BookFault}
use Rattle.report_book.specs.Moves.{AddsQuietly, Earns, Moves}
use Rattle.report_book.specs.Refusals.{RefusesAs, RefusesOnly, device_fault}
use Rattle.report_book.specs.Standing.{BookHolds}
use Rattle.replay_player.specs.declared.event_step.EventStep.{EventStep}
use Rattle.replay_player.specs.Effects.{brings}
use Rattle.replay_player.specs.Playing.{Acts, ComesTo, BookStandsFor, ReplayBookView}
use Rattle.replay_player.specs.States.{State, came}
use Rattle.replay_player.proofs.Bringing.{brought, brought_quietly}
use Rattle.replay_player.proofs.Refusing.{brings_by, only_as}

made : (s : ReplayBookView) (b : BookView) (turns : Bool) (entries : List Entry) (result : Result (Unit {0}) BookFault) (state : State) → BookHolds s.book → BookStandsFor s state
    → OnOk result (Moves true turns s.book b entries) → OnOk result (Earns (turned_if turns s.book) b entries) → OnOk result (BookStandsFor (record s { book = b }) (came entries state))
made s b turns entries (Ok u) state held plays moves earns = brought s b turns entries state held moves earns plays
made s b turns entries (Err fault) state held plays moves earns = tt

made_quietly : (s : ReplayBookView) (b : BookView) (entries : List Entry) (result : Result (Unit {0}) BookFault) (state : State) → BookStandsFor s state
    → OnOk result (AddsQuietly s.book b entries) → OnOk result (BookStandsFor (record s { book = b }) (came entries state))
made_quietly s b entries (Ok u) state plays adds = brought_quietly s b entries state adds plays
made_quietly s b entries (Err fault) state plays adds = tt

pub entries_act : (s : ReplayBookView) (b : BookView) (turns : Bool) (d : ℕ) (entries : List Entry) (result : Result (Unit {0}) BookFault) (round : Result EventStep NoMemory) → BookHolds s.book
    → OnOk result (Moves true turns s.book b entries) → OnOk result (Earns (turned_if turns s.book) b entries) → RefusesAs (device_fault s.book d) result → ComesTo result round
    → (state : State) → BookStandsFor s state → Acts round (brings d entries state) (record s { book = b }) [] []
entries_act s b turns d entries result round held moves earns refuses comes state plays =
    brings_by s (record s { book = b }) state d entries result round held plays comes refuses (made s b turns entries result state held plays moves earns)

pub loss_acts : (s : ReplayBookView) (b : BookView) (d : ℕ) (entries : List Entry) (result : Result (Unit {0}) BookFault) (round : Result EventStep NoMemory) → BookHolds s.book
    → OnOk result (AddsQuietly s.book b entries) → RefusesOnly (device_fault s.book d) result → ComesTo result round
    → (state : State) → BookStandsFor s state → Acts round (brings d entries state) (record s { book = b }) [] []
loss_acts s b d entries result round held adds refuses comes state plays =
    brings_by s (record s { book = b }) state d entries result round held plays comes (only_as (device_fault s.book d) result refuses) (made_quietly s b entries result state plays adds)
