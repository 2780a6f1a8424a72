-- What a list of bytes begins with, if sentences of NMEA 0183 and frames of the u-blox protocol come mixed
-- (this project's own rule, after gpsd's). The shapes are those of the crates nmea_frame and ubx_frame.
use Rattle.std.specs.Prelude.{ℕ, List}
use Rattle.nmea_frame.specs.declared.sentence.Shape.{Shape as SentenceShape}
use Rattle.nmea_frame.specs.declared.sentence.Shape.TheVariants.{Whole as WholeSentence, Pending as PendingSentence, No as NoSentence}
use Rattle.nmea_frame.specs.Scan.{shape_of as sentence_shape}
use Rattle.ubx_frame.specs.declared.frame.Shape.{Shape as FrameShape}
use Rattle.ubx_frame.specs.declared.frame.Shape.TheVariants.{Whole as WholeFrame, Pending as PendingFrame, No as NoFrame}
use Rattle.ubx_frame.specs.Scan.{shape_of as frame_shape}
use Rattle.gps_report.specs.declared.packet.PacketKind.TheVariants.{Nmea, Ubx}
use Rattle.packet_cut.specs.declared.head.Head.{Head}
use Rattle.packet_cut.specs.declared.head.Head.TheVariants.{Packet, Pending, Junk}

-- a sentence or a frame is a packet; else the beginning of either is pending; else the first byte is junk
abbrev pub first_of : SentenceShape → FrameShape → Head
first_of (WholeSentence n) frame = Packet Nmea n
first_of PendingSentence (WholeFrame n) = Packet Ubx n
first_of PendingSentence PendingFrame = Pending
first_of PendingSentence NoFrame = Pending
first_of NoSentence (WholeFrame n) = Packet Ubx n
first_of NoSentence PendingFrame = Pending
first_of NoSentence NoFrame = Junk

unfoldable pub head_of : List ℕ → Head
head_of bytes = first_of (sentence_shape bytes) (frame_shape bytes)
