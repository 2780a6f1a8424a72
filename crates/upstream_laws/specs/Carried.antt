-- What a session is written that asks once for the packets of a device as they came: two replies, and then the packets. The request is a
-- WATCH object of gpsd_json(5) with `raw` 2.
use Rattle.std.specs.Prelude.{◌≡◌, ◌≤◌, ℕ, Bool, true, false, cond, List, [], ◌∷◌, ◌++◌, length, IfSome, Option, Some, None, slice_index_or, codes}
use Rattle.std.specs.List.{concat, flat_map, list_all}
use Rattle.gps_report.specs.Name.{is_name}
use Rattle.gps_report.specs.declared.packet.Packet.{Packet}
use Rattle.gps_report.specs.declared.policy.Policy.{Policy}
use Rattle.gps_report.specs.declared.report.Report.{Report}
use Rattle.watch_policy.specs.Selection.{watches}
use Rattle.session_core.specs.SessionView.{opening_policy}
use Rattle.session_core.specs.Stretches.{Stretch, answer_stretch, items_to}
use Rattle.book_batch.specs.Lines.{line_for}
use Rattle.book_log.specs.Entries.{Entry}
use Rattle.book_log.specs.History.{history}
use Rattle.book_replies.specs.ReplyDataView.{ReplyDataView}
use Rattle.book_replies.specs.Replies.{opening_reply, reply_to}
use Rattle.gps_command.specs.declared.command.Command.TheVariants as command
use Rattle.upstream_laws.specs.Alike.{packet_in}

-- the request, of one device or of all
unfoldable pub request : Option (List ℕ) → List ℕ
request None = codes "?WATCH={\"raw\":2};" ++ 10 ∷ []
request (Some name) = codes "?WATCH={\"raw\":2,\"device\":\"" ++ name ++ codes "\"};" ++ 10 ∷ []

-- what is watched after it
abbrev pub packets_policy : Option (List ℕ) → Policy
packets_policy device = record { enable = true; json = false; nmea = false; raw = 2; pps = false; device = device }

abbrev pub is_watched : Option (List ℕ) → List (List ℕ) → Report → Bool
is_watched device names report = watches device (slice_index_or names report.device [])

-- the packets among reports, of the device that is watched, or of all devices
abbrev pub carried : Option (List ℕ) → List (List ℕ) → List Report → List Packet
carried device names reports = flat_map (λ report. cond (is_watched device names report) (packet_in report.body) []) reports

-- the devices at the moment of the request, and the policy
abbrev pub watch_reply : Option (List ℕ) → List (List ℕ) → ReplyDataView → List ℕ
watch_reply device names known = reply_to known names (packets_policy device) (command.Watch None)

-- it opened at a place of the history, and asked once at another
abbrev pub asked_once : Option (List ℕ) → List (List ℕ) → ℕ → ℕ → ReplyDataView → List Stretch
asked_once device names opening mark known =
    answer_stretch opening opening_policy opening_reply ∷ answer_stretch mark (packets_policy device) (watch_reply device names known) ∷ []

-- the bytes of a session's items, up to a place of the history
abbrev pub written : List (List ℕ) → List Stretch → ℕ → List Report → List ℕ
written names stretches end reports = concat (items_to (line_for names) end stretches reports)

abbrev pub session_bytes : Option (List ℕ) → List (List ℕ) → (opening mark end : ℕ) → ReplyDataView → List Entry → List ℕ
session_bytes device names opening mark end known log = written names (asked_once device names opening mark known) end (history log)

-- the names of at most eight devices, and of the one that is watched
pub record AreNames (device : Option (List ℕ)) (names : List (List ℕ)) : Type 0 where
  pub names_are : list_all is_name names ≡ true
  pub few : length names ≤ 8
  pub device_is : IfSome device (λ name. is_name name ≡ true)
