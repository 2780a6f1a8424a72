use Rattle.std.proofs.Common.{◌≡◌, ℕ, ◌-◌, ◌<◌, List, length, take, drop, ap, subst, arith}
use Rattle.std.specs.Prelude.{IfOk, OnErr}
use Rattle.gps_report.specs.declared.note.Note.{Note}
use Rattle.ubx_frame.specs.Frame.{class_of, id_of, payload_of}
use Rattle.ubx_decode.specs.Message.{entries_by_kind, kind_of, note_by_kind, note_of}
use Rattle.ubx_decode.proofs.Fitting.{frame_fits, ok_fits}
use Rattle.ubx_decode.proofs.Short.{all_bytes}
use Rattle.ubx_decode.proofs.message.note_of_frame.Goals as goal

-- what lies between the header and the checksum is the payload
inner : (frame : List ℕ) → take (length frame - 2 - 6) (drop 6 frame) ≡ payload_of frame
inner frame = ap (λ n. take n (drop 6 frame)) (omega arith)

pub returns-clause-note : goal.returns-clause-note
unfolding note_of
returns-clause-note c =
    subst (λ payload. IfOk c.note_of_message.result (λ (note : Note). note ≡ note_by_kind (kind_of (class_of c.args.frame.now) (id_of c.args.frame.now) payload) payload))
    (inner c.args.frame.now) c.note_of_message.ensures.note

pub returns-clause-fits : goal.returns-clause-fits
returns-clause-fits c =
    ok_fits c.note_of_message.result (note_of c.args.frame.now) (returns-clause-note c)
    (frame_fits c.args.frame.now (all_bytes c.args.frame.now c.type_inv.frame))

pub returns-clause-memory : goal.returns-clause-memory
returns-clause-memory c =
    subst (λ payload. OnErr c.note_of_message.result (0 < entries_by_kind (kind_of (class_of c.args.frame.now) (id_of c.args.frame.now) payload) payload))
    (inner c.args.frame.now) c.note_of_message.ensures.memory
