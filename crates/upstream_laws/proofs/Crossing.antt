-- What is handed on of a session's bytes.
use Rattle.std.proofs.Common.{◌≡◌, ℕ, List, ◌++◌, length, map, sym, ap, ◌∙◌, take, append_assoc, ◌-◌, drop}
use Rattle.gps_report.specs.declared.packet.Packet.{Packet}
use Rattle.device_core.specs.Stream.{bytes_in}
use Rattle.session_core.specs.Stretches.{between}
use Rattle.book_log.specs.Entries.{stream}
use Rattle.book_log.specs.History.{history}
use Rattle.book_replies.specs.Replies.{opening_reply}
use Rattle.upstream_laws.specs.Head.{behind, fresh, taken}
use Rattle.upstream_laws.specs.Lines.{IsHead}
use Rattle.upstream_laws.specs.Joined.{AreWhole, HasAll, HasFirst, joined}
use Rattle.upstream_laws.specs.Carried.{carried, session_bytes, watch_reply}
use Rattle.upstream_laws.specs.Across.{CarriedAreItsPackets, ComesAcross, FirstReportsComeAcross, PacketsComeAcross, ReportsComeAcross}
use Rattle.upstream_laws.proofs.Taking.{behind-append}
use Rattle.upstream_laws.proofs.HeadTheorem.{head_off}
use Rattle.upstream_laws.proofs.Cutting.{cut_back, prefix_back}
use Rattle.upstream_laws.proofs.Streams.{alike, begins_alike}
use Rattle.upstream_laws.proofs.Neat.{replies_are_head}
use Rattle.upstream_laws.proofs.Watched.{watches_it}
use Rattle.upstream_laws.proofs.Carrying.{all_of_device, further, gained_packets, packets_are_whole, replies_and_packets}

-- after any head
pub across : (bytes head : List ℕ) (packets : List Packet) → IsHead head → AreWhole packets → bytes ≡ head ++ joined packets → ComesAcross bytes packets
across bytes head packets is whole joins = record {
  handed = handed;
  whole = λ again e. cut_back packets whole again (e ∙ handed);
  part = λ front rest again divides e.
      prefix_back packets whole (behind fresh front) (behind (taken fresh front) rest)
      (sym handed ∙ ap (behind fresh) divides ∙ behind-append fresh front rest) again e;
}
  where
    handed : behind fresh bytes ≡ joined packets
    handed = ap (behind fresh) joins ∙ head_off head (joined packets) is

pub packets_come_across : PacketsComeAcross
packets_come_across device names opening mark end known log are =
    across (session_bytes device names opening mark end known log) (opening_reply ++ watch_reply device names known)
    (carried device names (between mark end (history log))) (replies_are_head device names known are) (packets_are_whole device names mark end log)
    (replies_and_packets device names opening mark end known log)

pub reports_come_across : ReportsComeAcross
reports_come_across device names opening known before later d again are only none e =
    let mark : ℕ = length (history before) in
    let end : ℕ = length (history (before ++ later)) in
    let all : HasAll (carried device names (between mark end (history (before ++ later)))) (bytes_in again) =
    (packets_come_across device names opening mark end known (before ++ later) are).whole (bytes_in again) e in
    alike again (stream d (before ++ later)) (all.packets_are ∙ ap (map (λ p. (p.kind, p.bytes))) (all_of_device device names d before later (watches_it device names d (history (before ++ later)) are only) none))

pub first_reports_come_across : FirstReportsComeAcross
first_reports_come_across device names opening stop known before later d front rest again are only none divides e =
    let mark : ℕ = length (history before) in
    let end : ℕ = length (history (before ++ later)) in
    let more : List ℕ = joined (carried device names (drop (stop - mark) (drop mark (history (before ++ later))))) in
    let whole : session_bytes device names opening mark end known (before ++ later) ≡ front ++ (rest ++ more) =
    further device names opening mark stop known (before ++ later) ∙ ap (λ t. t ++ more) divides ∙ append_assoc front rest more in
    let first : HasFirst (carried device names (between mark end (history (before ++ later)))) (bytes_in again) =
    (packets_come_across device names opening mark end known (before ++ later) are).part front (rest ++ more) (bytes_in again) whole e in
    begins_alike again (stream d (before ++ later)) first.k
    (first.packets_are ∙ ap (λ packets. map (λ p. (p.kind, p.bytes)) (take first.k packets))
    (all_of_device device names d before later (watches_it device names d (history (before ++ later)) are only) none))

pub carried_are_its_packets : CarriedAreItsPackets
carried_are_its_packets device names d before later are only =
    gained_packets device names d before later (watches_it device names d (history (before ++ later)) are only)
