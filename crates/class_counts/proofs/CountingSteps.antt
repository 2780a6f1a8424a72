-- The reading of an input, step by step.
use Rattle.std.proofs.Common.{◌≡◌, ℕ, ◌≤◌, inl, inr, List, [], ◌++◌, length, take, Option, arith}
use Rattle.gps_outside.specs.Told.{Stream}
use Rattle.gps_outside.specs.Counts.{one_more}
use Rattle.gps_outside.specs.ReadSteps.{Budget, FitsRoom, Spends, Hands, HasTaken}
use Rattle.gps_outside.specs.declared.intake.IntakeStep.TheVariants.{Piece, Quiet, Last}
use Rattle.gps_outside.specs.declared.intake.IntakeStep.TheVariants as step
use Rattle.gps_outside.proofs.ReadSteps.{taken_none, taken_piece, taken_quiet, ends_at_end, ends_full, ends_failed, ends_too_quiet}
use Rattle.class_counts.specs.declared.counting.Count.{Count}
use Rattle.class_counts.specs.declared.counting.Stop.{Stop}
use Rattle.class_counts.specs.declared.reading.Reading.TheVariants.{End, Stopped, Full, Failed, TooQuiet}
use Rattle.class_counts.specs.Reading.{Reads, most_bytes}
use Rattle.class_counts.specs.Standing.{CountStands, Stops}

-- So far these bytes were handed on, and none of their lines is bad.
pub record UnderWay (count : Count) (budget : Budget) (source now : Option Stream) (faults faults' quiets quiets' : ℕ) : Type 0 where
  pub bytes : List ℕ
  pub taken : HasTaken most_bytes bytes budget source now faults faults' quiets quiets'
  pub stands : CountStands count bytes

pub begun : (count : Count) (budget : Budget) (source : Option Stream) (faults quiets : ℕ)
    → budget ≡ record { room = most_bytes; quiets = 0 } → CountStands count [] → UnderWay count budget source source faults faults quiets quiets
begun count budget source faults quiets new stands = record { bytes = []; taken = taken_none most_bytes budget source faults quiets new; stands = stands }

pub after_piece : (n : ℕ) (buf : List ℕ) (budget budget' : Budget) (count count' : Count) (source now after : Option Stream) (faults faults' faults'' quiets quiets' quiets'' : ℕ)
    → UnderWay count budget source now faults faults' quiets quiets'
    → FitsRoom (Piece n) (length buf) → Spends (Piece n) budget budget' → Hands (Piece n) buf now after → faults'' ≡ faults' → quiets'' ≡ quiets'
    → ((bytes : List ℕ) → CountStands count bytes → CountStands count' (bytes ++ take n buf))
    → UnderWay count' budget' source after faults faults'' quiets quiets''
after_piece n buf budget budget' count count' source now after faults faults' faults'' quiets quiets' quiets'' u fits spent handed same still feeds = record {
  bytes = u.bytes ++ take n buf;
  taken = taken_piece n most_bytes u.bytes buf budget budget' source now after faults faults' faults'' quiets quiets' quiets'' u.taken fits spent handed same still;
  stands = feeds u.bytes u.stands;
}

pub after_quiet : (buf : List ℕ) (budget budget' : Budget) (count : Count) (source now after : Option Stream) (faults faults' faults'' quiets quiets' quiets'' : ℕ)
    → UnderWay count budget source now faults faults' quiets quiets'
    → Spends Quiet budget budget' → Hands Quiet buf now after → faults'' ≡ faults' → quiets'' ≡ one_more quiets'
    → UnderWay count budget' source after faults faults'' quiets quiets''
after_quiet buf budget budget' count source now after faults faults' faults'' quiets quiets' quiets'' u spent handed same next = record {
  bytes = u.bytes;
  taken = taken_quiet most_bytes u.bytes buf budget budget' source now after faults faults' faults'' quiets quiets' quiets'' u.taken spent handed same next;
  stands = u.stands;
}

pub stopped_in_piece : (stop : Stop) (n : ℕ) (buf : List ℕ) (budget budget' : Budget) (count count' : Count) (source now after : Option Stream) (faults faults' faults'' quiets quiets' quiets'' : ℕ)
    → UnderWay count budget source now faults faults' quiets quiets'
    → FitsRoom (Piece n) (length buf) → Spends (Piece n) budget budget' → Hands (Piece n) buf now after → faults'' ≡ faults' → quiets'' ≡ quiets'
    → ((bytes : List ℕ) → CountStands count bytes → Stops stop count' (bytes ++ take n buf))
    → Reads (Stopped stop) count' source after
stopped_in_piece stop n buf budget budget' count count' source now after faults faults' faults'' quiets quiets' quiets'' u fits spent handed same still stops =
    let all : HasTaken most_bytes (u.bytes ++ take n buf) budget' source after faults faults'' quiets quiets'' =
    taken_piece n most_bytes u.bytes buf budget budget' source now after faults faults' faults'' quiets quiets' quiets'' u.taken fits spent handed same still in
    (u.bytes ++ take n buf, (inl (let r = all.room in omega arith, all.passed), stops u.bytes u.stands))

pub stopped_in_last : (stop : Stop) (n : ℕ) (buf : List ℕ) (budget budget' : Budget) (count count' : Count) (source now after : Option Stream) (faults faults' quiets quiets' : ℕ)
    → UnderWay count budget source now faults faults' quiets quiets'
    → FitsRoom (Last n) (length buf) → Spends (Last n) budget budget' → Hands (Last n) buf now after
    → ((bytes : List ℕ) → CountStands count bytes → Stops stop count' (bytes ++ take n buf))
    → Reads (Stopped stop) count' source after
stopped_in_last stop n buf budget budget' count count' source now after faults faults' quiets quiets' u fits spent handed stops =
    (u.bytes ++ take n buf, (inr (ends_full n most_bytes u.bytes buf budget budget' source now after faults faults' quiets quiets' u.taken fits spent handed), stops u.bytes u.stands))

pub filled : (n : ℕ) (buf : List ℕ) (budget budget' : Budget) (count count' : Count) (source now after : Option Stream) (faults faults' quiets quiets' : ℕ)
    → UnderWay count budget source now faults faults' quiets quiets'
    → FitsRoom (Last n) (length buf) → Spends (Last n) budget budget' → Hands (Last n) buf now after
    → ((bytes : List ℕ) → CountStands count bytes → CountStands count' (bytes ++ take n buf))
    → Reads Full count' source after
filled n buf budget budget' count count' source now after faults faults' quiets quiets' u fits spent handed feeds =
    let read = ends_full n most_bytes u.bytes buf budget budget' source now after faults faults' quiets quiets' u.taken fits spent handed in
    (u.bytes ++ take n buf, (read.0, read.1, feeds u.bytes u.stands))

pub ended : (buf : List ℕ) (budget : Budget) (count : Count) (source now after : Option Stream) (faults faults' quiets quiets' : ℕ)
    → UnderWay count budget source now faults faults' quiets quiets' → Hands step.End buf now after → Reads End count source after
ended buf budget count source now after faults faults' quiets quiets' u handed =
    (u.bytes, (ends_at_end most_bytes u.bytes buf budget source now after faults faults' quiets quiets' u.taken handed, u.stands))

pub failed : (buf : List ℕ) (budget : Budget) (count : Count) (source now after : Option Stream) (faults faults' quiets quiets' : ℕ)
    → UnderWay count budget source now faults faults' quiets quiets' → Hands step.Failed buf now after → Reads Failed count source after
failed buf budget count source now after faults faults' quiets quiets' u handed =
    let read = ends_failed most_bytes u.bytes buf budget source now after faults faults' quiets quiets' u.taken handed in
    (u.bytes, (read.0, read.1, u.stands))

pub too_quiet : (buf : List ℕ) (budget : Budget) (count : Count) (source now after : Option Stream) (faults faults' quiets quiets' : ℕ)
    → UnderWay count budget source now faults faults' quiets quiets' → Hands step.TooQuiet buf now after → Reads TooQuiet count source after
too_quiet buf budget count source now after faults faults' quiets quiets' u handed =
    let read = ends_too_quiet most_bytes u.bytes buf budget source now after faults faults' quiets quiets' u.taken handed in
    (u.bytes, (read.0, read.1, u.stands))
