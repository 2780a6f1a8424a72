use Rattle.std.proofs.Common.{subst, rules}
use Rattle.packet_cut.specs.Standing.{IsCut}
use Rattle.device_core.specs.Going.{TookAll}
use Rattle.device_core.specs.Standing.{DeviceKept, StandsFor}
use Rattle.device_core.proofs.Devices.{stands_fed, committed_is}
use Rattle.device_core.proofs.device.Device.draft_feed.Goals as goal

pub returns-in-Ok-clause-stands : goal.returns-in-Ok-clause-stands
returns-in-Ok-clause-stands c = λ stream s.
    let P : DeviceKept → Type 0 = λ k. StandsFor k stream in
    let cut : IsCut c.self.inside.cutter c.args.at c.args.bytes.now c.in_ok-packets.packets.items c.in_ok-packets.field-0.change = search rules in
    let took : TookAll c.self.inside.epochs.now c.take_packets.new.epochs.now c.self.inside.toff c.in-Ok.toff c.in_ok-packets.packets.items c.in-Ok.out.items = search rules in
    stands_fed (record { bytes = c.self.inside.cutter; epochs = c.self.inside.epochs.now; edge = c.self.inside.pulses; toff = c.self.inside.toff })
    c.take_packets.new.epochs.now c.in-Ok.toff c.args.at c.args.bytes.now c.in_ok-packets.packets.items c.in_ok-packets.field-0.change c.in-Ok.out.items
    cut took stream
    (subst P (committed_is c.self.inside.draft c.self.inside.cutter c.self.inside.epochs.now c.self.inside.epochs.back c.self.inside.pulses c.self.inside.toff
    c.commit.new.self c.args.self.now.now c.self.invariant c.self.view_is c.commit.ensures) s)
