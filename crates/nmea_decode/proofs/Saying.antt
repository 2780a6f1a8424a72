-- What a sentence says, from its address and its fields.
use Rattle.std.proofs.Common.{◌≡◌, ℕ, ◌-◌, Bool, true, cond, List, length, take, drop, length-drop, take_all, Result, OnOk, sym, subst, arith}
use Rattle.gps_report.specs.declared.note.Note.{Note}
use Rattle.gps_report.specs.declared.note.NoteKind.TheVariants.{Other}
use Rattle.gps_report.specs.Note.{empty_note}
use Rattle.nmea_decode.specs.Kinds.{is_address}
use Rattle.nmea_decode.specs.Notes.{plainly, said_at, said_by}

-- the slice after the talker is all that is there
rest_is : (address : List ℕ) → take (length address - 2) (drop 2 address) ≡ drop 2 address
rest_is address = take_all (length address - 2) (drop 2 address) (let long = length-drop 2 address in omega arith)

pub named_at : {T E : Type 0} (address text : List ℕ) (result : Result T E) (note : Note) → is_address address ≡ true
    → OnOk result (note ≡ (said_by (take (length address - 2) (drop 2 address)) (take 2 address) text).note)
    → OnOk result (note ≡ (said_at address text).note)
named_at address text result note is read =
    subst (λ (b : Bool). OnOk result (note ≡ (cond b (said_by (drop 2 address) (take 2 address) text) (plainly (empty_note Other))).note)) (sym is)
    (subst (λ (name : List ℕ). OnOk result (note ≡ (said_by name (take 2 address) text).note)) (rest_is address) read)
