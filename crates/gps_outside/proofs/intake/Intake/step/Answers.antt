use Rattle.std.proofs.Common.{arith}
use Rattle.gps_outside.proofs.ReadSteps.{passes_more}
use Rattle.gps_outside.proofs.intake.Intake.step.Goals as goal

pub returns-in-Got-2-clause-bytes : goal.returns-in-Got-2-clause-bytes
returns-in-Got-2-clause-bytes g c =
    passes_more c.in-Got.n _ _ _ _ c.if-n-self.false (omega (arith, c.in-Got.ensures.fits.1, c.read.auto.buf)) c.in-Got.ensures.bytes
