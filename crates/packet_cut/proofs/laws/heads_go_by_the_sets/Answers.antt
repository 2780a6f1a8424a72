use Rattle.std.proofs.Common.{◌≤◌, length, take, refl}
use Rattle.nmea_frame.specs.Sentence.{IsSentence, IsProperPrefix as BeginsSentence}
use Rattle.nmea_frame.specs.Scan.{shape_of as sentence_shape}
use Rattle.nmea_frame.proofs.Theorem.{whole_exact, pending_exact as sentence_pending}
use Rattle.ubx_frame.specs.Frame.{IsFrame, IsProperPrefix as BeginsFrame}
use Rattle.ubx_frame.specs.Scan.{shape_of as frame_shape}
use Rattle.ubx_frame.proofs.Frames.{whole_if, whole_only_if, pending_if, pending_only_if}
use Rattle.packet_cut.specs.Heads.{head_of}
use Rattle.packet_cut.proofs.HeadLaws.{sentence_exact, frame_exact, pending_exact}
use Rattle.packet_cut.proofs.laws.heads_go_by_the_sets.Goals as goal

pub returns : goal.returns
unfolding head_of
returns c = record {
  sentence = λ bytes n. sentence_exact bytes (sentence_shape bytes) (frame_shape bytes) refl refl (λ k. (k ≤ length bytes) × IsSentence (take k bytes))
      (λ k. whole_exact bytes (sentence_shape bytes) refl k) n;
  frame = λ bytes all n. frame_exact bytes (sentence_shape bytes) (frame_shape bytes) refl refl (λ k. (k ≤ length bytes) × IsFrame (take k bytes))
      (λ k. (whole_only_if bytes k all, whole_if bytes k)) n;
  pending = λ bytes all. pending_exact bytes (sentence_shape bytes) (frame_shape bytes) refl refl (BeginsSentence bytes) (BeginsFrame bytes)
      (sentence_pending bytes (sentence_shape bytes) refl) (pending_only_if bytes all, pending_if bytes);
}
