-- The head is exact, since both shapes are.
use Rattle.std.proofs.Common.{◌≤◌, length, take, ap, ◌∙◌}
use Rattle.nmea_frame.specs.Sentence.{IsSentence, IsProperPrefix as BeginsSentence}
use Rattle.ubx_frame.specs.Frame.{IsFrame, IsProperPrefix as BeginsFrame}
use Rattle.packet_cut.specs.Heads.{first_of, head_of}
use Rattle.packet_cut.proofs.HeadLaws.{sentence_exact, frame_exact, pending_exact}
use Rattle.packet_cut.proofs.head.head_at.Goals as goal

pub returns : goal.returns
unfolding head_of
returns c =
    let s = c.sentence_at.ensures in
    let f = c.frame_at.ensures in
    record {
      head = c.first_of.ensures ∙ ap (λ x. first_of x c.frame_at.result) (s.shape) ∙ ap (first_of _) (f.shape);
      sentence = λ n. rw (c.first_of.ensures) (sentence_exact c.args.bytes.now c.sentence_at.result c.frame_at.result (s.shape) (f.shape)
          (λ k. (k ≤ length c.args.bytes.now) × IsSentence (take k c.args.bytes.now)) (s.whole) n);
      frame = λ n. rw (c.first_of.ensures) (frame_exact c.args.bytes.now c.sentence_at.result c.frame_at.result (s.shape) (f.shape)
          (λ k. (k ≤ length c.args.bytes.now) × IsFrame (take k c.args.bytes.now)) (f.whole) n);
      pending = rw (c.first_of.ensures) (pending_exact c.args.bytes.now c.sentence_at.result c.frame_at.result (s.shape) (f.shape)
          (BeginsSentence c.args.bytes.now) (BeginsFrame c.args.bytes.now) (s.pending) (f.pending));
    }
