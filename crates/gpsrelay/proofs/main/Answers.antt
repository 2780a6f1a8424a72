use denote.Param.Send.{sendable}
use Rattle.std.proofs.rt.LibcRuntime.TheSendSync as runtime
use Rattle.serve_messages.proofs.lookup.DaemonMachine.TheSendSync as machine
use Rattle.serve_messages.proofs.messages.Voice.TheSendSync as voice
use Rattle.gpsrelay.proofs.Sending.{link_sink_send, telling_source_send}
use Rattle.gpsrelay.proofs.main.Goals as goal

pub run_daemon-status-requires-send-W-In : goal.run_daemon-status-requires-send-W-In
run_daemon-status-requires-send-W-In g c κs within =
    search (sendable, telling_source_send, machine.the_field_send, machine.the_send, voice.the_field_send, voice.the_send, runtime.the_field_send, runtime.the_send) depth 20

pub run_daemon-status-requires-send-W-Out : goal.run_daemon-status-requires-send-W-Out
run_daemon-status-requires-send-W-Out g c κs within =
    search (sendable, link_sink_send, machine.the_field_send, machine.the_send, runtime.the_field_send, runtime.the_send) depth 20
