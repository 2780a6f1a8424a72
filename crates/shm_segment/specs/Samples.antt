-- A sample and the nine words of its body. Source: the NTP reference clock driver 28, the fields of its shared memory segment; the precision of a
-- negative power as a word of two's complement.
use Rattle.std.specs.Prelude.{◌≡◌, ℕ, ◌/◌, List, [], ◌∷◌, pos, unsigned_abs, slice_index, FitsSigned}
use Rattle.std.specs.Int.{w8, w64, cast_signed, cast_unsigned}
use Rattle.gps_fixed.specs.Moment.{IsMoment}
use Rattle.shm_segment.specs.declared.sample.Sample.{Sample}

-- both stamps and the precision are in the range of their types
pub record IsSample (s : Sample) : Type 0 where
  pub reference : IsMoment s.reference.sec s.reference.nsec
  pub host : IsMoment s.host.sec s.host.nsec
  pub precision : FitsSigned w8 s.precision

-- clockTimeStampSec, clockTimeStampUSec, receiveTimeStampSec, receiveTimeStampUSec, leap, precision, nsamples, clockTimeStampNSec, receiveTimeStampNSec
abbrev pub body_of : Sample → List ℕ
body_of s =
    unsigned_abs s.reference.sec ∷ s.reference.nsec / 1000 ∷ unsigned_abs s.host.sec ∷ s.host.nsec / 1000 ∷ 0 ∷ cast_unsigned w64 s.precision ∷ 3 ∷ s.reference.nsec ∷ s.host.nsec ∷ []

-- what a body says: its seconds, its nanoseconds and its precision
abbrev pub sample_of : List ℕ → Sample
sample_of body =
    record {
      reference = record { sec = pos (slice_index body 0); nsec = slice_index body 7 };
      host = record { sec = pos (slice_index body 2); nsec = slice_index body 8 };
      precision = cast_signed w64 (slice_index body 5);
    }

-- the body of some sample
abbrev pub IsBody : List ℕ → Type 0
IsBody body = (s : Sample) × IsSample s × (body ≡ body_of s)

abbrev pub no_sample : Sample
no_sample =
    record { reference = record { sec = pos 0; nsec = 0 }; host = record { sec = pos 0; nsec = 0 }; precision = pos 0 }
