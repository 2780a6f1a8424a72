use Rattle.std.proofs.Common.{subst, rules, map}
use Rattle.packet_cut.specs.Packets.{placed_packet}
use Rattle.packet_cut.specs.Standing.{IsCut}
use Rattle.device_core.specs.Going.{TookAllQuietly}
use Rattle.device_core.specs.Standing.{DeviceKept, StandsFor}
use Rattle.device_core.proofs.Devices.{stands_fed, committed_is}
use Rattle.device_core.proofs.Quiet.{gains_quietly}
use Rattle.device_core.proofs.device.Device.draft_feed_without_packets.Goals as goal

pub returns-in-Ok-clause-gains : goal.returns-in-Ok-clause-gains
returns-in-Ok-clause-gains c = λ stream s.
    let P : DeviceKept → Type 0 = λ k. StandsFor k stream in
    let packets = map (placed_packet c.in_ok-bytes.bytes.items) c.in_ok-bytes.placed.items in
    let cut : IsCut c.self.inside.cutter c.args.at c.args.bytes.now packets c.in_ok-bytes.field-0.change = search rules in
    let took : TookAllQuietly c.self.inside.epochs.now c.take_all_placed.new.epochs.now c.self.inside.toff c.in-Ok.toff packets c.in-Ok.out.items = search rules in
    gains_quietly (record { bytes = c.self.inside.cutter; epochs = c.self.inside.epochs.now; edge = c.self.inside.pulses; toff = c.self.inside.toff })
    c.take_all_placed.new.epochs.now c.in-Ok.toff c.args.at c.args.bytes.now packets c.in_ok-bytes.field-0.change c.in-Ok.out.items
    cut took stream
    (subst P (committed_is c.self.inside.draft c.self.inside.cutter c.self.inside.epochs.now c.self.inside.epochs.back c.self.inside.pulses c.self.inside.toff
    c.commit.new.self c.args.self.now.now c.self.invariant c.self.view_is c.commit.ensures) s)

pub returns-in-Ok-clause-stands : goal.returns-in-Ok-clause-stands
returns-in-Ok-clause-stands c = λ stream s.
    let P : DeviceKept → Type 0 = λ k. StandsFor k stream in
    let packets = map (placed_packet c.in_ok-bytes.bytes.items) c.in_ok-bytes.placed.items in
    let cut : IsCut c.self.inside.cutter c.args.at c.args.bytes.now packets c.in_ok-bytes.field-0.change = search rules in
    let took : TookAllQuietly c.self.inside.epochs.now c.take_all_placed.new.epochs.now c.self.inside.toff c.in-Ok.toff packets c.in-Ok.out.items = search rules in
    stands_fed (record { bytes = c.self.inside.cutter; epochs = c.self.inside.epochs.now; edge = c.self.inside.pulses; toff = c.self.inside.toff })
    c.take_all_placed.new.epochs.now c.in-Ok.toff c.args.at c.args.bytes.now packets c.in_ok-bytes.field-0.change took.all
    cut took.took stream
    (subst P (committed_is c.self.inside.draft c.self.inside.cutter c.self.inside.epochs.now c.self.inside.epochs.back c.self.inside.pulses c.self.inside.toff
    c.commit.new.self c.args.self.now.now c.self.invariant c.self.view_is c.commit.ensures) s)
