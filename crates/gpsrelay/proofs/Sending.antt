-- What the daemon's threads are given may go to another thread. A list that exists in proofs alone owns nothing, so it may, and so may all that has one.
use denote.RattleType.{RattleType}
use denote.Param.Send.{IsSend, sendable}
use Rattle.std.proofs.alloc.Global.TheSendSync as heap
use Rattle.std.proofs.option.Option.TheSendSync as option
use Rattle.std.proofs.time.Duration.TheSendSync as duration
use Rattle.std.proofs.rt.LibcRuntime.TheSendSync as runtime
use Rattle.gps_fixed.proofs.bytes.Bytes.TheSendSync as bytes
use Rattle.gps_outside.proofs.listening.Listening.TheSendSync as listening
use Rattle.gps_outside.proofs.real_source.RealSource.TheSendSync as real_source
use Rattle.gps_outside.proofs.kept_pipe.KeptPipe.TheSendSync as kept_pipe
use Rattle.gps_upstream.proofs.upstream.Upstream.TheSendSync as upstream
use Rattle.gps_world.proofs.daemon.DaemonFault.TheSendSync as daemon_fault
use Rattle.gps_world.proofs.deadline.Deadline.TheSendSync as deadline
use Rattle.gps_world.proofs.head_source.HeadSource.TheSendSync as head_source
use Rattle.gps_world.proofs.loss.Loss.TheSendSync as loss
use Rattle.gps_world.proofs.opener.Opener.TheSendSync as opener
use Rattle.gps_world.proofs.place.Place.TheSendSync as place
use Rattle.cycle_gap.proofs.cycle_source.CycleSource.TheSendSync as cycle
use Rattle.serve_messages.proofs.link_count.Seat.TheSendSync as seat
use Rattle.serve_messages.proofs.link_count.Ticket.TheSendSync as ticket
use Rattle.serve_messages.proofs.lookup.Lookups.TheSendSync as lookups
use Rattle.serve_messages.proofs.lookup.DaemonMachine.TheSendSync as machine
use Rattle.serve_messages.proofs.messages.Messages.TheSendSync as messages
use Rattle.serve_messages.proofs.messages.Voice.TheSendSync as voice
use Rattle.serve_messages.proofs.stopping.StopRequest.TheSendSync as stop
use Rattle.serve_messages.proofs.told_device.ToldDevice.TheSendSync as told
use Rattle.ghost_list.specs.contracts.ghost_list.GhostList.{the_row}
use Rattle.wire.specs.contracts.outward.Outward.{the_row as outward_row}
use Rattle.wire.proofs.outward.Outlet.TheSendSync as outlet
use Rattle.gps_outside.specs.contracts.link_sink.LinkSink.{the_row as link_sink_row}
use Rattle.gps_outside.specs.contracts.real_sink.RealSink.{the_row as real_sink_row}
use Rattle.gps_world.specs.contracts.daemon.Connection.{the_field as connection_of, the_row as connection_row}
use Rattle.gps_world.specs.contracts.daemon.State.{the_field as daemon_state_of, the_row as daemon_state_row}
use Rattle.gps_world.specs.contracts.daemon.Daemon.{the_field as daemon_of, the_row as daemon_row}
use Rattle.gps_world.specs.contracts.opener.Inlet.{the_field as inlet_of, the_row as inlet_row}
use Rattle.gps_world.specs.contracts.opener.Found.{the_field as found_of, the_row as found_row}
use Rattle.gps_world.specs.contracts.reading.Again.{the_field as again_of, the_row as again_row}
use Rattle.gps_world.specs.contracts.reading.State.{the_field as reading_state_of, the_row as reading_state_row}
use Rattle.gps_world.specs.contracts.reading.Reading.{the_field as reading_of, the_row as reading_row}
use Rattle.gps_world.specs.contracts.real_input.RealInput.{the_row as real_input_row}
use Rattle.serve_messages.specs.contracts.telling_source.TellingSource.{the_row as telling_source_row}
use Rattle.std.specs.declared.fs.files.Files.{Ghosts as FilesGhosts}
use Rattle.std.specs.declared.fs.File.{File}
use Rattle.std.specs.declared.io.traits.Read.{Ghosts as ReadGhosts}
use Rattle.std.specs.declared.io.traits.Write.{Ghosts as WriteGhosts}
use Rattle.std.specs.declared.io.traits.Seek.{Ghosts as SeekGhosts}
use Rattle.std.specs.declared.net.handle.Net.{Ghosts as NetGhosts}
use Rattle.std.specs.declared.net.handle.OpenListener.{Ghosts as OpenListenerGhosts}
use Rattle.std.specs.declared.net.tcp.TcpStream.{TcpStream}
use Rattle.std.specs.declared.fd.AsRawFd.{Ghosts as AsRawFdGhosts}
use Rattle.std.specs.declared.time.Clock.{Ghosts as ClockGhosts}
use Rattle.std.specs.declared.clone.Clone.{Ghosts as CloneGhosts}

pub ghost_send : (A : RattleType) → IsSend (the_row A)
ghost_send A = record { owned = λ d vs x. ((λ a. (tt, (((λ b. (tt, ((λ c. (tt, tt)), tt))), tt), tt))), tt); leaving = λ k d w. tt }

pub outward_send : IsSend outward_row
outward_send = search (sendable, ghost_send, outlet.the_field_send, option.the_field_send) depth 14

pub link_sink_send : (R : RattleType) → IsSend R → IsSend (link_sink_row R)
link_sink_send R is = search (sendable, outward_send, heap.the_field_send, option.the_field_send, duration.the_field_send) depth 14

pub real_sink_send : IsSend real_sink_row
real_sink_send = search (sendable, outward_send) depth 14

connection_field : (M D S : RattleType) (files : FilesGhosts M.Denot File D.Denot) (read : ReadGhosts D.Denot) (net : NetGhosts M.Denot TcpStream S.Denot)
    (listener : OpenListenerGhosts S.Denot TcpStream) (fd : AsRawFdGhosts S.Denot) (clock : ClockGhosts M.Denot) (clone : CloneGhosts M.Denot)
    → IsSend M → IsSend (connection_of M D S files read net listener fd clock clone).row
connection_field M D S files read net listener fd clock clone is = search (sendable, upstream.the_send, head_source.the_field_send, head_source.the_send, real_sink_send, option.the_field_send, deadline.the_field_send, deadline.the_send) depth 20

connection_send : (M D S : RattleType) (files : FilesGhosts M.Denot File D.Denot) (read : ReadGhosts D.Denot) (net : NetGhosts M.Denot TcpStream S.Denot)
    (listener : OpenListenerGhosts S.Denot TcpStream) (fd : AsRawFdGhosts S.Denot) (clock : ClockGhosts M.Denot) (clone : CloneGhosts M.Denot)
    → IsSend M → IsSend (connection_row M D S files read net listener fd clock clone)
connection_send M D S files read net listener fd clock clone is = search (sendable, connection_field) depth 8

daemon_state_field : (M D S : RattleType) (files : FilesGhosts M.Denot File D.Denot) (read : ReadGhosts D.Denot) (net : NetGhosts M.Denot TcpStream S.Denot)
    (listener : OpenListenerGhosts S.Denot TcpStream) (fd : AsRawFdGhosts S.Denot) (clock : ClockGhosts M.Denot) (clone : CloneGhosts M.Denot)
    → IsSend M → IsSend (daemon_state_of M D S files read net listener fd clock clone).row
daemon_state_field M D S files read net listener fd clock clone is = search (sendable, bytes.the_send, listening.the_field_send, listening.the_send, connection_field, connection_send, daemon_fault.the_field_send, daemon_fault.the_send) depth 20

daemon_state_send : (M D S : RattleType) (files : FilesGhosts M.Denot File D.Denot) (read : ReadGhosts D.Denot) (net : NetGhosts M.Denot TcpStream S.Denot)
    (listener : OpenListenerGhosts S.Denot TcpStream) (fd : AsRawFdGhosts S.Denot) (clock : ClockGhosts M.Denot) (clone : CloneGhosts M.Denot)
    → IsSend M → IsSend (daemon_state_row M D S files read net listener fd clock clone)
daemon_state_send M D S files read net listener fd clock clone is = search (sendable, daemon_state_field) depth 8

daemon_field : (M D S : RattleType) (files : FilesGhosts M.Denot File D.Denot) (read : ReadGhosts D.Denot) (net : NetGhosts M.Denot TcpStream S.Denot)
    (listener : OpenListenerGhosts S.Denot TcpStream) (fd : AsRawFdGhosts S.Denot) (clock : ClockGhosts M.Denot) (clone : CloneGhosts M.Denot)
    → IsSend M → IsSend (daemon_of M D S files read net listener fd clock clone).row
daemon_field M D S files read net listener fd clock clone is = search (sendable, daemon_state_field, daemon_state_send) depth 20

daemon_send : (M D S : RattleType) (files : FilesGhosts M.Denot File D.Denot) (read : ReadGhosts D.Denot) (net : NetGhosts M.Denot TcpStream S.Denot)
    (listener : OpenListenerGhosts S.Denot TcpStream) (fd : AsRawFdGhosts S.Denot) (clock : ClockGhosts M.Denot) (clone : CloneGhosts M.Denot)
    → IsSend M → IsSend (daemon_row M D S files read net listener fd clock clone)
daemon_send M D S files read net listener fd clock clone is = search (sendable, daemon_field) depth 8

inlet_field : (M D S : RattleType) (files : FilesGhosts M.Denot File D.Denot) (read : ReadGhosts D.Denot) (net : NetGhosts M.Denot TcpStream S.Denot)
    (listener : OpenListenerGhosts S.Denot TcpStream) (fd : AsRawFdGhosts S.Denot) (clock : ClockGhosts M.Denot) (clone : CloneGhosts M.Denot)
    → IsSend M → IsSend (inlet_of M D S files read net listener fd clock clone).row
inlet_field M D S files read net listener fd clock clone is = search (sendable, real_source.the_send, daemon_field, daemon_send) depth 20

inlet_send : (M D S : RattleType) (files : FilesGhosts M.Denot File D.Denot) (read : ReadGhosts D.Denot) (net : NetGhosts M.Denot TcpStream S.Denot)
    (listener : OpenListenerGhosts S.Denot TcpStream) (fd : AsRawFdGhosts S.Denot) (clock : ClockGhosts M.Denot) (clone : CloneGhosts M.Denot)
    → IsSend M → IsSend (inlet_row M D S files read net listener fd clock clone)
inlet_send M D S files read net listener fd clock clone is = search (sendable, inlet_field) depth 8

found_field : (M D S : RattleType) (files : FilesGhosts M.Denot File D.Denot) (read : ReadGhosts D.Denot) (net : NetGhosts M.Denot TcpStream S.Denot)
    (listener : OpenListenerGhosts S.Denot TcpStream) (fd : AsRawFdGhosts S.Denot) (clock : ClockGhosts M.Denot) (clone : CloneGhosts M.Denot)
    → IsSend M → IsSend (found_of M D S files read net listener fd clock clone).row
found_field M D S files read net listener fd clock clone is = search (sendable, inlet_field, inlet_send) depth 20

found_send : (M D S : RattleType) (files : FilesGhosts M.Denot File D.Denot) (read : ReadGhosts D.Denot) (net : NetGhosts M.Denot TcpStream S.Denot)
    (listener : OpenListenerGhosts S.Denot TcpStream) (fd : AsRawFdGhosts S.Denot) (clock : ClockGhosts M.Denot) (clone : CloneGhosts M.Denot)
    → IsSend M → IsSend (found_row M D S files read net listener fd clock clone)
found_send M D S files read net listener fd clock clone is = search (sendable, found_field) depth 8

again_field : (M D S : RattleType) (files : FilesGhosts M.Denot File D.Denot) (read : ReadGhosts D.Denot) (net : NetGhosts M.Denot TcpStream S.Denot)
    (listener : OpenListenerGhosts S.Denot TcpStream) (fd : AsRawFdGhosts S.Denot) (clock : ClockGhosts M.Denot) (clone : CloneGhosts M.Denot)
    → IsSend M → IsSend (again_of M D S files read net listener fd clock clone).row
again_field M D S files read net listener fd clock clone is = search (sendable, opener.the_field_send, opener.the_send, place.the_field_send, place.the_send, duration.the_field_send, option.the_field_send, found_field, found_send) depth 20

again_send : (M D S : RattleType) (files : FilesGhosts M.Denot File D.Denot) (read : ReadGhosts D.Denot) (net : NetGhosts M.Denot TcpStream S.Denot)
    (listener : OpenListenerGhosts S.Denot TcpStream) (fd : AsRawFdGhosts S.Denot) (clock : ClockGhosts M.Denot) (clone : CloneGhosts M.Denot)
    → IsSend M → IsSend (again_row M D S files read net listener fd clock clone)
again_send M D S files read net listener fd clock clone is = search (sendable, again_field) depth 8

reading_state_field : (M D S : RattleType) (files : FilesGhosts M.Denot File D.Denot) (read : ReadGhosts D.Denot) (net : NetGhosts M.Denot TcpStream S.Denot)
    (listener : OpenListenerGhosts S.Denot TcpStream) (fd : AsRawFdGhosts S.Denot) (clock : ClockGhosts M.Denot) (clone : CloneGhosts M.Denot)
    → IsSend M → IsSend (reading_state_of M D S files read net listener fd clock clone).row
reading_state_field M D S files read net listener fd clock clone is = search (sendable, found_field, found_send) depth 20

reading_state_send : (M D S : RattleType) (files : FilesGhosts M.Denot File D.Denot) (read : ReadGhosts D.Denot) (net : NetGhosts M.Denot TcpStream S.Denot)
    (listener : OpenListenerGhosts S.Denot TcpStream) (fd : AsRawFdGhosts S.Denot) (clock : ClockGhosts M.Denot) (clone : CloneGhosts M.Denot)
    → IsSend M → IsSend (reading_state_row M D S files read net listener fd clock clone)
reading_state_send M D S files read net listener fd clock clone is = search (sendable, reading_state_field) depth 8

reading_field : (M D S : RattleType) (files : FilesGhosts M.Denot File D.Denot) (read : ReadGhosts D.Denot) (net : NetGhosts M.Denot TcpStream S.Denot)
    (listener : OpenListenerGhosts S.Denot TcpStream) (fd : AsRawFdGhosts S.Denot) (clock : ClockGhosts M.Denot) (clone : CloneGhosts M.Denot)
    → IsSend M → IsSend (reading_of M D S files read net listener fd clock clone).row
reading_field M D S files read net listener fd clock clone is = search (sendable, reading_state_field, reading_state_send, option.the_field_send, again_field, again_send, loss.the_field_send, loss.the_send) depth 20

reading_send : (M D S : RattleType) (files : FilesGhosts M.Denot File D.Denot) (read : ReadGhosts D.Denot) (net : NetGhosts M.Denot TcpStream S.Denot)
    (listener : OpenListenerGhosts S.Denot TcpStream) (fd : AsRawFdGhosts S.Denot) (clock : ClockGhosts M.Denot) (clone : CloneGhosts M.Denot)
    → IsSend M → IsSend (reading_row M D S files read net listener fd clock clone)
reading_send M D S files read net listener fd clock clone is = search (sendable, reading_field) depth 8

real_input_send : (M D S : RattleType) (files : FilesGhosts M.Denot File D.Denot) (read_file : ReadGhosts File) (write_file : WriteGhosts File)
    (seek_file : SeekGhosts File) (read : ReadGhosts D.Denot) (net : NetGhosts M.Denot TcpStream S.Denot) (read_stream : ReadGhosts TcpStream)
    (write_stream : WriteGhosts TcpStream) (stream_fd : AsRawFdGhosts TcpStream) (listener : OpenListenerGhosts S.Denot TcpStream)
    (fd : AsRawFdGhosts S.Denot) (clock : ClockGhosts M.Denot) (clone : CloneGhosts M.Denot)
    → IsSend M → IsSend (real_input_row M D S files read_file write_file seek_file read net read_stream write_stream stream_fd listener fd clock clone)
real_input_send M D S files read_file write_file seek_file read net read_stream write_stream stream_fd listener fd clock clone is =
    search (sendable, reading_field, reading_send) depth 20

pub telling_source_send : (M V D S : RattleType) (files : FilesGhosts M.Denot File D.Denot) (read : ReadGhosts D.Denot) (net : NetGhosts M.Denot TcpStream S.Denot)
    (listener : OpenListenerGhosts S.Denot TcpStream) (fd : AsRawFdGhosts S.Denot) (clock : ClockGhosts M.Denot) (clone : CloneGhosts M.Denot)
    → IsSend M → IsSend V → IsSend (telling_source_row M V D S files read net listener fd clock clone)
telling_source_send M V D S files read net listener fd clock clone machine_is voice_is =
    search (
      sendable,
      cycle.the_send,
      real_input_send,
      option.the_field_send,
      told.the_field_send,
      told.the_send,
      ticket.the_field_send,
      ticket.the_send,
      seat.the_field_send,
      seat.the_send,
      stop.the_field_send,
      stop.the_send,
    ) depth 20
