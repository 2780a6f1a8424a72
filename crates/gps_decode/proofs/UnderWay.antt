-- How far the reading of `decode` has come: what was read so far, and what was written or waits.
use Rattle.std.proofs.Common.{◌≡◌, ℕ, ◌⊎◌, inl, inr, false, true, List, [], ◌∷◌, ◌++◌, length, take, Option, Some, None, Ok, refl, sym, ◌∙◌, ap, subst, arith}
use Rattle.std.proofs.lemmas.Bool.{false≢true}
use Rattle.std.proofs.lemmas.List.{append-nil, map-append}
use Rattle.std.proofs.lemmas.List.Concat.{flat_map-append}
use Rattle.std.proofs.lemmas.Grind.{common_steps}
use Rattle.gps_fixed.specs.Moment.{Moment}
use Rattle.gps_report.specs.declared.edge.Symbol.{Symbol}
use Rattle.gps_report.specs.declared.report.Body.{Body}
use Rattle.gps_outside.specs.Told.{Stream, Goes, Passes}
use Rattle.gps_outside.specs.Waiting.{Waits}
use Rattle.gps_outside.specs.Ticks.{Dial, Gives, GivesAll}
use Rattle.gps_outside.specs.Counts.{one_more}
use Rattle.gps_outside.specs.ReadSteps.{Budget, FitsRoom, Spends, Hands, HasTaken}
use Rattle.gps_outside.specs.declared.intake.IntakeStep.TheVariants.{Piece, Quiet, Last}
use Rattle.gps_outside.proofs.Going.{goes_on}
use Rattle.gps_outside.proofs.Dials.{gives_more}
use Rattle.gps_outside.proofs.Writing.{begun as nothing_waits, waits_more, waits_on}
use Rattle.gps_outside.proofs.ReadSteps.{taken_none, taken_piece, taken_quiet}
use Rattle.device_core.specs.Stream.{piece}
use Rattle.device_core.specs.Reports.{reports_from, device_reports, Gains}
use Rattle.device_core.specs.Standing.{DeviceKept, StandsFor}
use Rattle.gps_decode.specs.Readings.{ArePieces, IsPiece, PassHistory, Reading, bytes_of, stamps_of, stream_of}
use Rattle.gps_decode.specs.Texts.{Texts, texts_of, texts_so_far}
use Rattle.gps_decode.specs.Decode.{HandsOn}

-- one reading more
abbrev pub with_next : List Reading → Moment → List ℕ → List Reading
with_next readings at bytes = readings ++ record { at = at; bytes = bytes } ∷ []

pub bytes_next : (readings : List Reading) (at : Moment) (bytes : List ℕ) → bytes_of (with_next readings at bytes) ≡ bytes_of readings ++ bytes
bytes_next readings at bytes =
    flat_map-append (λ reading. reading.bytes) readings (record { at = at; bytes = bytes } ∷ []) ∙ ap (λ l. bytes_of readings ++ l) (append-nil bytes)

stamps_next : (readings : List Reading) (at : Moment) (bytes : List ℕ) → stamps_of (with_next readings at bytes) ≡ stamps_of readings ++ at ∷ []
stamps_next readings at bytes = map-append (λ reading. reading.at) readings (record { at = at; bytes = bytes } ∷ [])

pub stream_next : (readings : List Reading) (at : Moment) (bytes : List ℕ) → stream_of (with_next readings at bytes) ≡ stream_of readings ++ piece at bytes
stream_next readings at bytes =
    flat_map-append (λ reading. piece reading.at reading.bytes) readings (record { at = at; bytes = bytes } ∷ [])
    ∙ ap (λ l. stream_of readings ++ l) (append-nil (piece at bytes))

pub pieces_next : (readings : List Reading) (reading : Reading) → ArePieces readings → IsPiece reading → ArePieces (readings ++ reading ∷ [])
pieces_next [] reading all last = (last, tt)
pieces_next (first ∷ readings) reading all last = (all.0, pieces_next readings reading all.1 last)

-- the bytes of one read into a buffer of 512
pub is_piece : (n : ℕ) (buf : List ℕ) (at : Moment) → FitsRoom (Piece n) (length buf) → length buf ≡ 512 → IsPiece (record { at = at; bytes = take n buf })
is_piece n buf at fits long = grind (arith, common_steps)

-- and those of them that lie within the history
pub passes_history : (n : ℕ) (readings : List Reading) (at : Moment) (buf : List ℕ) → ArePieces readings
    → FitsRoom (Last n) (length buf) → length buf ≡ 512 → PassHistory (with_next readings at (take n buf))
passes_history n readings at buf pieces fits long = record {
  front = readings;
  last = record { at = at; bytes = take n buf };
  all = refl;
  pieces = pieces;
  part = grind (arith, common_steps);
}

pub no_stamps : (clock : Option Dial) → Goes (GivesAll []) clock clock
no_stamps None = tt
no_stamps (Some dial) = refl

-- the stamps of one reading more
pub stamps_on : (readings : List Reading) (at : Moment) (bytes : List ℕ) (clock clock' clock'' : Option Dial)
    → Goes (GivesAll (stamps_of readings)) clock clock' → Goes (Gives at) clock' clock''
    → Goes (GivesAll (stamps_of (with_next readings at bytes))) clock clock''
stamps_on readings at bytes clock clock' clock'' all given =
    subst (λ s. Goes (GivesAll s) clock clock'') (sym (stamps_next readings at bytes))
    (goes_on (GivesAll (stamps_of readings)) (Gives at) (GivesAll (stamps_of readings ++ at ∷ [])) clock clock' clock''
    (gives_more (stamps_of readings) at) all given)

-- a write of what waits that failed had something to write
pub had_some : {A B C : Type 0} → A ⊎ B → (A → false ≡ true) → (B → C) → C
had_some (inl a) none kept = absurd (false≢true (none a))
had_some (inr b) none kept = kept b

-- over what is written of a report
module _ (says : Texts) where
  texts_join : (a b : List Body) → texts_of says (a ++ b) ≡ texts_of says a ++ texts_of says b
  texts_join a b = flat_map-append says a b

  pub texts_next : (stream more : List Symbol) (out : List Body) → Gains stream more out → texts_so_far says (stream ++ more) ≡ texts_so_far says stream ++ texts_of says out
  texts_next stream more out gains = ap (texts_of says) gains ∙ texts_join (device_reports stream) out

  -- So far these readings were handed on, the device stands for their stream, and its lines were written but for those that wait.
  pub record UnderWay (history : ℕ) (budget : Budget) (kept : DeviceKept) (source source' : Option Stream) (faults faults' quiets quiets' : ℕ) (clock clock' : Option Dial) (waits : List ℕ) (sink sink' : Option (List ℕ)) : Type 0 where
    pub readings : List Reading
    pub pieces : ArePieces readings
    pub taken : HasTaken history (bytes_of readings) budget source source' faults faults' quiets quiets'
    pub stamps : Goes (GivesAll (stamps_of readings)) clock clock'
    pub stands : StandsFor kept (stream_of readings)
    pub wrote : Waits (texts_so_far says (stream_of readings)) waits sink sink'

  pub no_texts : texts_so_far says [] ≡ []
  unfolding reports_from
  no_texts = refl

  pub begun : (history : ℕ) (budget : Budget) (kept : DeviceKept) (source : Option Stream) (faults quiets : ℕ) (clock : Option Dial) (waits : List ℕ) (sink : Option (List ℕ))
      → budget ≡ record { room = history; quiets = 0 } → StandsFor kept [] → waits ≡ []
      → UnderWay history budget kept source source faults faults quiets quiets clock clock waits sink sink
  begun history budget kept source faults quiets clock waits sink new stands none = record {
    readings = [];
    pieces = tt;
    taken = taken_none history budget source faults quiets new;
    stamps = no_stamps clock;
    stands = stands;
    wrote = subst (λ w. Waits (texts_so_far says []) w sink sink) (sym none) (subst (λ l. Waits l [] sink sink) (sym no_texts) (nothing_waits [] sink));
  }

  pub after_piece : (n history : ℕ) (buf : List ℕ) (budget budget' : Budget) (kept kept' : DeviceKept) (at : Moment)
      (source now after : Option Stream) (faults faults' faults'' quiets quiets' quiets'' : ℕ) (clock clock' clock'' : Option Dial) (waits waits' : List ℕ) (sink sink' sink'' : Option (List ℕ))
      → UnderWay history budget kept source now faults faults' quiets quiets' clock clock' waits sink sink'
      → length buf ≡ 512 → FitsRoom (Piece n) (length buf) → Spends (Piece n) budget budget' → Hands (Piece n) buf now after → faults'' ≡ faults' → quiets'' ≡ quiets'
      → Goes (Gives at) clock' clock''
      → ((stream : List Symbol) → StandsFor kept stream → HandsOn {X = Unit {0}} says (Ok tt) stream (piece at (take n buf)) kept' waits waits' sink' sink'')
      → UnderWay history budget' kept' source after faults faults'' quiets quiets'' clock clock'' waits' sink sink''
  after_piece n history buf budget budget' kept kept' at source now after faults faults' faults'' quiets quiets' quiets'' clock clock' clock'' waits waits' sink sink' sink'' u long fits spent handed same still given lines =
      let s : List Symbol = stream_of u.readings in
      let h : HandsOn {X = Unit {0}} says (Ok tt) s (piece at (take n buf)) kept' waits waits' sink' sink'' = lines s u.stands in
      record {
        readings = with_next u.readings at (take n buf);
        pieces = pieces_next u.readings (record { at = at; bytes = take n buf }) u.pieces (is_piece n buf at fits long);
        taken = subst (λ b. HasTaken history b budget' source after faults faults'' quiets quiets'') (sym (bytes_next u.readings at (take n buf)))
            (taken_piece n history (bytes_of u.readings) buf budget budget' source now after faults faults' faults'' quiets quiets' quiets'' u.taken fits spent handed same still);
        stamps = stamps_on u.readings at (take n buf) clock clock' clock'' u.stamps given;
        stands = subst (λ t. StandsFor kept' t) (sym (stream_next u.readings at (take n buf))) h.0;
        wrote = subst (λ t. Waits (texts_so_far says t) waits' sink sink'') (sym (stream_next u.readings at (take n buf)))
            (subst (λ l. Waits l waits' sink sink'') (sym (texts_next s (piece at (take n buf)) h.1.0 h.1.1.0))
            (waits_on (texts_so_far says s ++ texts_of says h.1.0) (waits ++ texts_of says h.1.0) waits' sink sink' sink''
            (waits_more (texts_so_far says s) waits (texts_of says h.1.0) sink sink' u.wrote) h.1.1.1));
      }

  pub after_quiet : (history : ℕ) (buf : List ℕ) (budget budget' : Budget) (kept : DeviceKept)
      (source now after : Option Stream) (faults faults' faults'' quiets quiets' quiets'' : ℕ) (clock clock' : Option Dial) (waits : List ℕ) (sink sink' : Option (List ℕ))
      → UnderWay history budget kept source now faults faults' quiets quiets' clock clock' waits sink sink'
      → Spends Quiet budget budget' → Hands Quiet buf now after → faults'' ≡ faults' → quiets'' ≡ one_more quiets'
      → UnderWay history budget' kept source after faults faults'' quiets quiets'' clock clock' waits sink sink'
  after_quiet history buf budget budget' kept source now after faults faults' faults'' quiets quiets' quiets'' clock clock' waits sink sink' u spent handed same next = record {
    readings = u.readings;
    pieces = u.pieces;
    taken = taken_quiet history (bytes_of u.readings) buf budget budget' source now after faults faults' faults'' quiets quiets' quiets'' u.taken spent handed same next;
    stamps = u.stamps;
    stands = u.stands;
    wrote = u.wrote;
  }

  -- what waited was written before the next read, or goes on waiting
  pub ready_or_flushed : (history : ℕ) (budget : Budget) (kept : DeviceKept)
      (source now : Option Stream) (faults faults' quiets quiets' : ℕ) (clock clock' : Option Dial) (waits waits' : List ℕ) (sink sink' sink'' : Option (List ℕ))
      → UnderWay history budget kept source now faults faults' quiets quiets' clock clock' waits sink sink'
      → Waits waits waits' sink' sink''
      → UnderWay history budget kept source now faults faults' quiets quiets' clock clock' waits' sink sink''
  ready_or_flushed history budget kept source now faults faults' quiets quiets' clock clock' waits waits' sink sink' sink'' u wrote = record {
    readings = u.readings;
    pieces = u.pieces;
    taken = u.taken;
    stamps = u.stamps;
    stands = u.stands;
    wrote = waits_on (texts_so_far says (stream_of u.readings)) waits waits' sink sink' sink'' u.wrote wrote;
  }
