use Rattle.std.proofs.Common.{subst}
use Rattle.device_core.specs.Standing.{DeviceKept, StandsFor}
use Rattle.device_core.proofs.Devices.{gains_edge, committed_is}
use Rattle.device_core.proofs.device.Device.draft_edge.Goals as goal

pub returns-clause-gains : goal.returns-clause-gains
returns-clause-gains c = λ stream s.
    let P : DeviceKept → Type 0 = λ k. StandsFor k stream in
    gains_edge (record { bytes = c.self.inside.cutter; epochs = c.self.inside.epochs.now; edge = c.self.inside.pulses; toff = c.self.inside.toff })
    c.args.edge c.take.result c.in_ok-out.out.items c.take.ensures.gains c.in_ok-out.ensures stream
    (subst P (committed_is c.self.inside.draft c.self.inside.cutter c.self.inside.epochs.now c.self.inside.epochs.back c.self.inside.pulses c.self.inside.toff
    c.commit.new.self c.args.self.now.now c.self.invariant c.self.view_is c.commit.ensures) s)
