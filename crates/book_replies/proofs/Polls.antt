-- A request that is ?POLL begins as one does, and no reply but that to it shows reports.
use Rattle.std.proofs.Common.{◌≡◌, ℕ, Bool, true, false, ◌||◌, cond, List, [], ◌∷◌, ◌++◌, take, drop, Option, Some, None, is_some, Result, Ok, Err, codes, refl, sym, ap, ◌∙◌, subst}
use Rattle.std.specs.List.{list_all, list_any}
use Rattle.std.specs.Str.{bytes_eq}
use Rattle.std.proofs.lemmas.Slice.Eq.{bytes_eq-Decides}
use Rattle.serde_json.specs.Data.{Data}
use Rattle.watch_policy.specs.Change.{change_in}
use Rattle.watch_policy.specs.declared.change.Change.{Change}
use Rattle.gps_command.specs.Commands.{command_in, is_trailing, json_of, object_command, object_text, trimmed, watch_by, watch_in, words_command}
use Rattle.gps_command.specs.Policies.{policy_with}
use Rattle.gps_command.specs.declared.command.Command.{Command}
use Rattle.gps_command.specs.declared.command.Command.TheVariants.{Version, Devices, Poll, Watch}
use Rattle.gps_command.specs.declared.request.RawCommand.{RawCommand}
use Rattle.gps_command.specs.declared.request.RawCommand.TheVariants.{Words, Long}
use Rattle.gps_report.specs.declared.policy.CommandFault.{CommandFault}
use Rattle.gps_report.specs.declared.policy.Policy.{Policy}
use Rattle.book_replies.specs.ReplyDataView.{ReplyDataView}
use Rattle.book_replies.specs.Replies.{answer_of, answered, reply_by}
use Rattle.book_replies.specs.Polling.{PollsAloneShowReports, begins_as_poll, is_poll, poll_text, polls_by, without_reports}
use Rattle.book_replies.specs.declared.answering.Answer.{Answer}

-- a text begins with what trimming leaves of it
trimmed_front : (text : List ℕ) → (rest : List ℕ) × (text ≡ trimmed text ++ rest)
unfolding trimmed
trimmed_front [] = ([], refl)
trimmed_front (c ∷ text) = by (list_all is_trailing (c ∷ text)) (trimmed_front text)
  where
    by : (drops : Bool) → (rest : List ℕ) × (text ≡ trimmed text ++ rest) → (rest : List ℕ) × (c ∷ text ≡ cond drops [] (c ∷ trimmed text) ++ rest)
    by true more = (c ∷ text, refl)
    by false more = (more.0, ap (λ l. c ∷ l) more.1)

watch_polls_not : (change : Option Change) → polls_by (watch_by change) ≡ true → false ≡ true
watch_polls_not None is = is
watch_polls_not (Some change) is = is

object_polls_not : (value : Option Data) → polls_by (watch_in value) ≡ true → false ≡ true
object_polls_not None is = is
object_polls_not (Some value) is = watch_polls_not (change_in value) is

behind_watch_polls_not : (object : Option (List ℕ)) → polls_by (object_command object) ≡ true → false ≡ true
behind_watch_polls_not None is = is
behind_watch_polls_not (Some object) is = object_polls_not (json_of object) is

by_tests : (version devices poll watch : Bool) (object : Option (List ℕ))
    → polls_by (cond version (Ok Version) (cond devices (Ok Devices) (cond poll (Ok Poll) (cond watch (Ok (Watch None)) (object_command object))))) ≡ true → poll ≡ true
by_tests true devices poll watch object is = absurd (cc)
by_tests false true poll watch object is = absurd (cc)
by_tests false false true watch object is = refl
by_tests false false false true object is = is
by_tests false false false false object is = behind_watch_polls_not object is

words_poll : (text : List ℕ) → polls_by (words_command text) ≡ true → bytes_eq text (codes "?POLL") ≡ true
words_poll text is =
    by_tests (bytes_eq text (codes "?VERSION")) (bytes_eq text (codes "?DEVICES")) (bytes_eq text (codes "?POLL")) (bytes_eq text (codes "?WATCH")) (object_text text) is

begins : (rest : List ℕ) → is_some (poll_text (codes "?POLL" ++ rest)) ≡ true
begins rest = refl

poll_begins : (request : RawCommand) → is_poll request ≡ true → begins_as_poll request ≡ true
poll_begins Long is = is
poll_begins (Words text) is =
    let front = trimmed_front text in
    let word : trimmed text ≡ codes "?POLL" = (bytes_eq-Decides (trimmed text) (codes "?POLL")).0 (words_poll (trimmed text) is) in
    let P : List ℕ → Type 0 = λ t. is_some (poll_text t) ≡ true in
    subst P (sym (front.1 ∙ ap (λ t. t ++ front.0) word)) (begins front.0)

not_poll : (poll begins : Bool) → (poll ≡ true → begins ≡ true) → begins ≡ false → poll ≡ false
not_poll false begins means is = refl
not_poll true begins means is = sym (means refl) ∙ is

none_of_two : (a b : Bool) → (a || b) ≡ false → (a ≡ false) × (b ≡ false)
none_of_two false false is = (refl, refl)
none_of_two false true is = absurd (cc)
none_of_two true b is = absurd (cc)

none_polls_in : (requests : List RawCommand) → list_any begins_as_poll requests ≡ false → list_any is_poll requests ≡ false
none_polls_in [] is = refl
none_polls_in (request ∷ requests) is =
    let parts = none_of_two (begins_as_poll request) (list_any begins_as_poll requests) is in
    ap (λ b. b || list_any is_poll requests) (not_poll (is_poll request) (begins_as_poll request) (poll_begins request) parts.0) ∙ none_polls_in requests parts.1

pub none_polls : (requests : List RawCommand) (result : Bool) → result ≡ list_any begins_as_poll requests → result ≡ false → list_any is_poll requests ≡ false
none_polls requests result is none = none_polls_in requests (sym is ∙ none)

same_reply : (known : ReplyDataView) (names : List (List ℕ)) (policy : Policy) (command : Result Command CommandFault) → polls_by command ≡ false
    → reply_by (without_reports known) names policy command ≡ reply_by known names policy command
same_reply known names policy (Ok Version) is = refl
same_reply known names policy (Ok Devices) is = refl
same_reply known names policy (Ok Poll) is = absurd (cc)
same_reply known names policy (Ok (Watch change)) is = refl
same_reply known names policy (Err fault) is = refl

pub polls_alone : PollsAloneShowReports
unfolding answered
polls_alone known names policy [] none = refl
polls_alone known names policy (request ∷ requests) none =
    let parts = none_of_two (is_poll request) (list_any is_poll requests) none in
    let next = policy_with policy request in
    ap (λ (line : List ℕ). record { policy = next; reply = line } ∷ answered (without_reports known) names next requests) (same_reply known names next (command_in request) parts.0)
    ∙ ap (λ (more : List Answer). answer_of known names policy request ∷ more) (polls_alone known names next requests parts.1)
