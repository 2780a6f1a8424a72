-- Packets and reports come across: what is handed on of a session's bytes are the packets of the device there, and so its fixes and skies.
--
use Rattle.std.specs.Prelude.{◌≡◌, ◌==◌, ◌<◌, ℕ, true, List, [], ◌++◌, length, Option, Some, None, slice_index_or}
use Rattle.gps_report.specs.Name.{are_distinct}
use Rattle.std.specs.List.{list_all}
use Rattle.gps_report.specs.declared.edge.Symbol.{Symbol}
use Rattle.gps_report.specs.declared.packet.Packet.{Packet}
use Rattle.gps_report.specs.declared.report.Report.{Report}
use Rattle.packet_cut.specs.Packets.{Stamped, bytes_of}
use Rattle.device_core.specs.Stream.{bytes_in, packets_in}
use Rattle.session_core.specs.Stretches.{between}
use Rattle.book_log.specs.Entries.{Entry, IsLog, stream}
use Rattle.book_log.specs.History.{history}
use Rattle.book_replies.specs.ReplyDataView.{ReplyDataView}
use Rattle.book_replies.specs.Replies.{opening_reply}
use Rattle.upstream_laws.specs.Head.{behind, fresh}
use Rattle.upstream_laws.specs.Lines.{IsHead}
use Rattle.upstream_laws.specs.Joined.{HasAll, HasFirst, joined}
use Rattle.upstream_laws.specs.Alike.{AreAlike, BeginsAlike}
use Rattle.upstream_laws.specs.Carried.{AreNames, carried, session_bytes, watch_reply}

-- What is handed on of these bytes are these packets, joined. Cut again, with any stamps, they are the same packets; and those of a part of
-- the bytes are the first of them.
pub record ComesAcross (bytes : List ℕ) (packets : List Packet) : Type 0 where
  pub handed : behind fresh bytes ≡ joined packets
  pub whole : (again : List Stamped) → bytes_of again ≡ behind fresh bytes → HasAll packets again
  pub part : (front rest : List ℕ) (again : List Stamped) → bytes ≡ front ++ rest → bytes_of again ≡ behind fresh front → HasFirst packets again

-- what a session that asked once is written before the packets is a head
abbrev pub RepliesAreHead : Type 0
RepliesAreHead = (device : Option (List ℕ)) (names : List (List ℕ)) (known : ReplyDataView) → AreNames device names
    → IsHead (opening_reply ++ watch_reply device names known)

-- a session that asked once: the packets of the device after the mark
abbrev pub PacketsComeAcross : Type 0
PacketsComeAcross = (device : Option (List ℕ)) (names : List (List ℕ)) (opening mark end : ℕ) (known : ReplyDataView) (log : List Entry)
    → AreNames device names
    → ComesAcross (session_bytes device names opening mark end known log) (carried device names (between mark end (history log)))

-- Device d is the one of the name that the request has; or, without a name, the only one that reports.
abbrev pub IsTheDevice : Option (List ℕ) → List (List ℕ) → ℕ → List Report → Type 0
IsTheDevice None names d reports = list_all (λ report. report.device == d) reports ≡ true
IsTheDevice (Some name) names d reports = (are_distinct names ≡ true) × (d < length names) × (name ≡ slice_index_or names d [])

-- what later entries add to the history
abbrev pub reports_since : List Entry → List Entry → List Report
reports_since before later = between (length (history before)) (length (history (before ++ later))) (history (before ++ later))

-- what is carried of it are the packets that its stream gains
abbrev pub CarriedAreItsPackets : Type 0
CarriedAreItsPackets = (device : Option (List ℕ)) (names : List (List ℕ)) (d : ℕ) (before later : List Entry)
    → AreNames device names
    → IsTheDevice device names d (history (before ++ later))
    → packets_in (stream d before) ++ carried device names (reports_since before later) ≡ packets_in (stream d (before ++ later))

-- Asked before the first byte of device d, and with all its packets: the same fixes and skies.
abbrev pub ReportsComeAcross : Type 0
ReportsComeAcross = (device : Option (List ℕ)) (names : List (List ℕ)) (opening : ℕ) (known : ReplyDataView) (before later : List Entry)
    (d : ℕ) (again : List Symbol)
    → AreNames device names
    → IsTheDevice device names d (history (before ++ later))
    → stream d before ≡ []
    → bytes_of (bytes_in again)
    ≡ behind fresh (session_bytes device names opening (length (history before)) (length (history (before ++ later))) known (before ++ later))
    → AreAlike again (stream d (before ++ later))

-- and of a beginning of the bytes, wherever the session ended, the first of them
abbrev pub FirstReportsComeAcross : Type 0
FirstReportsComeAcross = (device : Option (List ℕ)) (names : List (List ℕ)) (opening end : ℕ) (known : ReplyDataView) (before later : List Entry)
    (d : ℕ) (front rest : List ℕ) (again : List Symbol)
    → AreNames device names
    → IsTheDevice device names d (history (before ++ later))
    → stream d before ≡ []
    → session_bytes device names opening (length (history before)) end known (before ++ later) ≡ front ++ rest
    → bytes_of (bytes_in again) ≡ behind fresh front
    → BeginsAlike again (stream d (before ++ later))

-- of a daemon with one device it is the only one
abbrev pub OneDeviceIsTheOnlyOne : Type 0
OneDeviceIsTheOnlyOne = (names : List (List ℕ)) (log : List Entry) → IsLog 1 log → IsTheDevice None names 0 (history log)
