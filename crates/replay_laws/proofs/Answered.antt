-- What each session of a script has after its lines: how its requests were answered, and why it was closed.
use Rattle.std.proofs.Common.{◌≡◌, ◌⊎◌, inl, inr, ℕ, zero, suc, ◌+◌, ◌-◌, ◌<◌, ◌≤◌, min, Bool, true, false, cond, List, [], ◌∷◌, ◌++◌, length, map, take, drop, Option, Some, None, refl, sym, ap, ◌∙◌, subst, append-nil, arith, nat_le, nat_eq}
use Rattle.std.specs.Prelude.{slice_get, unwrap_or}
use Rattle.std.proofs.lemmas.Bool.Decides.{nat_tests}
use Rattle.std.proofs.lemmas.List.{length-append, length-map, length-take}
use Rattle.gps_command.specs.Requests.{requests}
use Rattle.gps_command.specs.declared.request.RawCommand.{RawCommand}
use Rattle.gps_command.specs.Policies.{policy_with}
use Rattle.gps_report.specs.declared.policy.Policy.{Policy}
use Rattle.gps_report.specs.declared.report.Report.{Report}
use Rattle.session_core.specs.declared.mark.Close.{Close}
use Rattle.session_core.specs.declared.mark.Close.TheVariants.{HungUp, TooManyRequests, Overrun}
use Rattle.session_core.specs.SessionView.{opening_policy, usual_requests}
use Rattle.session_core.specs.Stretches.{Stretch, answer_stretch, end_of, items_to}
use Rattle.book_batch.specs.Lines.{line_for}
use Rattle.book_log.specs.Entries.{Entry}
use Rattle.book_log.specs.History.{history, history_after}
use Rattle.book_replies.specs.declared.answering.Answer.{Answer}
use Rattle.book_replies.specs.ReplyDataView.{ReplyDataView}
use Rattle.book_replies.specs.Replies.{answer_of, answered, opening_reply, reply}
use Rattle.book_sessions.specs.Answering.{stretch_at}
use Rattle.book_sessions.specs.Spreading.{Due}
use Rattle.report_book.specs.Knowing.{known_in}
use Rattle.session_runs.specs.Runs.{SessionRun, items_over}
use Rattle.session_runs.specs.Following.{closed_run, opened_run, shut_run}
use Rattle.replay_script.specs.Events.{event_in}
use Rattle.replay_script.specs.declared.event.ScriptEvent.{ScriptEvent}
use Rattle.replay_script.specs.declared.event.ScriptEvent.TheVariants.{Open, Input, Hang}
use Rattle.replay_player.specs.Clients.{Client, answerable, answers_to, asked_by, closed, is_open, items_of, kept_of, lines_due, opened, overrun_at, overrun_by, policy_of, refusal, room_of, served, told}
use Rattle.replay_player.specs.States.{State}
use Rattle.replay_laws.specs.Accounts.{ClosesFor, Comes, HasCause, HasCauseIf, IsAnswered, IsOpenedIn, course_after, entries_by, log_of, sent_by, sent_to, state_after}
use Rattle.replay_laws.specs.Readings.{readings_of}
use Rattle.replay_laws.proofs.Filling.{answers_count, kept_count}
use Rattle.replay_laws.proofs.Hearing.{Hears, Piece, above, hears_closing, hears_more, hears_nothing, hears_reports, none_of, piece_of, within_of}
use Rattle.replay_laws.proofs.Printed.{Reaches, lines_reach}
use Rattle.replay_laws.proofs.Sessions.{Mapped, Told}
use Rattle.replay_laws.proofs.States.{is_within}
use Rattle.replay_laws.proofs.Steps.{Beyond, IsNew, Keeps, Step, Was, Way, hangs_up}
use Rattle.replay_laws.proofs.Answering.{get_longer, get_past, IsPast, get_either, get_taken, get_mapped, never, comes_longer, comes_last, EndsBefore, EndsHere, last_or, line_gives, answered_on, cause_on, items_closed, Fills, fills}

-- ---- a session after some lines

pub record Attends (queue : ℕ) (names : List (List ℕ)) (log : List Entry) (texts : List (List ℕ)) (s : ℕ) (c : Client) : Type 0 where
  pub sent : c.heard ≡ sent_to s texts
  pub hears : Hears names log (sent_to s texts) c.run
  pub opened : IsOpenedIn queue texts s c
  pub answers : (k : ℕ) (stretch : Stretch) → slice_get c.run.stretches (suc k) ≡ Some stretch → IsAnswered names texts s k stretch
  pub hung : (before : List (List ℕ)) → Comes texts before (Hang s) → c.run.closing ≡ Some (length (history (log_of before)), HungUp)
  pub cause : HasCauseIf queue names log texts s c c.run.closing

-- none of these lines is refused
pub record Plays (queue : ℕ) (texts : List (List ℕ)) : Type 0 where
  pub refused : (course_after queue texts).refused ≡ None
  pub count : (course_after queue texts).count ≡ length texts
  pub log : (state_after queue texts).log ≡ log_of texts
  pub few : length (state_after queue texts).names ≤ 8
  pub fresh : (state_after queue texts).begun ≡ false → (state_after queue texts).clients ≡ []
  pub each : (s : ℕ) (c : Client) → slice_get (state_after queue texts).clients s ≡ Some c → Attends queue (state_after queue texts).names (state_after queue texts).log texts s c
  pub unsent : (s : ℕ) → length (state_after queue texts).clients ≤ s → sent_to s texts ≡ []
  pub unhung : (s : ℕ) → length (state_after queue texts).clients ≤ s → (before : List (List ℕ)) → Comes texts before (Hang s) → ⊥

answer_at : (known : ReplyDataView) (names : List (List ℕ)) (policy : Policy) (asked : List RawCommand) (k : ℕ) (a : Answer) → slice_get (answered known names policy asked) k ≡ Some a
    → (request : RawCommand) × (slice_get asked k ≡ Some request) × (a.reply ≡ reply known names a.policy request)
unfolding answered
answer_at known names policy [] k a there = absurd (cc)
answer_at known names policy (request ∷ asked) zero a there =
    let same : answer_of known names policy request ≡ a = cc in
    (request, refl, subst (λ (x : Answer). x.reply ≡ reply known names x.policy request) same refl)
answer_at known names policy (request ∷ asked) (suc k) a there = answer_at known names (policy_with policy request) asked k a there

module _ (queue : ℕ) (texts : List (List ℕ)) (text : List ℕ) (event : ScriptEvent) (next : State) (plays : Plays queue texts) (event_is : event_in text ≡ Some event)
    (onward_is : state_after queue (texts ++ text ∷ []) ≡ next) where
  abbrev state : State
  state = state_after queue texts

  abbrev onward : List (List ℕ)
  onward = texts ++ text ∷ []

  sends : (s : ℕ) (piece : List ℕ) → sent_by s event ≡ piece → sent_to s onward ≡ sent_to s texts ++ piece
  sends s piece is = line_gives (sent_by s) texts text event event_is ∙ ap (λ (b : List ℕ). sent_to s texts ++ b) is

  sends_nothing : (s : ℕ) → sent_by s event ≡ [] → sent_to s onward ≡ sent_to s texts
  sends_nothing s is = sends s [] is ∙ append-nil (sent_to s texts)

  -- the lines that hang it up
  hung_or : (s : ℕ) (before : List (List ℕ)) → Comes onward before (Hang s) → Comes texts before (Hang s) ⊎ ((before ≡ texts) × (event ≡ Hang s))
  hung_or s before line = by_end (last_or texts text before line.text line.after line.lines)
    where
      by_end : EndsBefore texts before line.text ⊎ EndsHere texts before text line.text → Comes texts before (Hang s) ⊎ ((before ≡ texts) × (event ≡ Hang s))
      by_end (inl p) = inl (record { text = line.text; after = p.after; lines = p.is; event_is = line.event_is })
      by_end (inr p) =
          let both : Some event ≡ Some (Hang s) = sym event_is ∙ ap event_in p.text_is ∙ line.event_is in
          let is : event ≡ Hang s = cc in
          inr (p.before_is, is)

  not_hung : (s : ℕ) → hangs_up s event ≡ false → (before : List (List ℕ)) → Comes onward before (Hang s) → Comes texts before (Hang s)
  not_hung s unhung before line = by_end (hung_or s before line)
    where
      by_end : Comes texts before (Hang s) ⊎ ((before ≡ texts) × (event ≡ Hang s)) → Comes texts before (Hang s)
      by_end (inl was) = was
      by_end (inr here) =
          let itself : nat_eq s s ≡ true = grind (arith, nat_tests) in
          let wrong : true ≡ false = sym itself ∙ sym (ap (hangs_up s) here.1) ∙ unhung in
          absurd (cc)

  opened_on : (s : ℕ) (c d : Client) → d.cap ≡ c.cap → ((x : Stretch) → slice_get c.run.stretches 0 ≡ Some x → slice_get d.run.stretches 0 ≡ Some x) → IsOpenedIn queue texts s c
      → IsOpenedIn queue onward s d
  opened_on s c d cap keep is =
      record {
        before = is.before;
        cap = is.cap;
        line = comes_longer texts is.before (Open s is.cap) text is.line;
        cap_is = cap ∙ is.cap_is;
        opening = keep (answer_stretch (length (history (log_of is.before))) opening_policy opening_reply) is.opening;
      }

  moved : (s : ℕ) (d : Client) (log : List Entry) → next.names ≡ state.names → next.log ≡ log → Attends queue state.names log onward s d → Attends queue next.names next.log onward s d
  moved s d log names at a =
      subst (λ (n : List (List ℕ)). Attends queue n next.log onward s d) (sym names) (subst (λ (l : List Entry). Attends queue state.names l onward s d) (sym at) a)

  cause_if : (s : ℕ) (log longer : List Entry) (c d : Client) (o : Option (ℕ × Close)) → d.run ≡ c.run → d.cap ≡ c.cap → items_of state.names longer d ≡ items_of state.names log c
      → HasCauseIf queue state.names log texts s c o → HasCauseIf queue state.names longer onward s d o
  cause_if s log longer c d None run cap items has = tt
  cause_if s log longer c d (Some closing) run cap items has = cause_on queue state.names log longer texts text s c d closing.0 closing.1 run cap items has

  -- this line closed it
  closed_here : (s : ℕ) (c d : Client) (longer : List Entry) (place : ℕ) (why : Close) → slice_get state.clients s ≡ Some c → c.run.closing ≡ None → slice_get next.clients s ≡ Some d
      → ClosesFor state.names longer texts text s c d place why → HasCause queue state.names longer onward s d place why
  closed_here s c d longer place why there free after cause =
      record {
        before = texts;
        text = text;
        was = c;
        line = record {
          after = [];
          lines = refl;
          there = there;
          free = free;
          now = d;
          after_it = ap (λ (x : State). slice_get x.clients s) onward_is ∙ after;
          run = refl;
        };
        cause = cause;
      }

  kept : (s : ℕ) (c d : Client) → slice_get state.clients s ≡ Some c → Keeps event state next s c d → Attends queue state.names state.log onward s d
  kept s c d there k =
      let was : Attends queue state.names state.log texts s c = plays.each s c there in
      let same : sent_to s onward ≡ sent_to s texts = sends_nothing s k.unsent in
      let run : d.run ≡ c.run = k.run in
      record {
        sent = k.heard ∙ was.sent ∙ sym same;
        hears = subst (λ (r : SessionRun). Hears state.names state.log (sent_to s onward) r) (sym run)
            (subst (λ (b : List ℕ). Hears state.names state.log b c.run) (sym same) was.hears);
        opened = opened_on s c d k.cap (λ x e. ap (λ (r : SessionRun). slice_get r.stretches 0) run ∙ e) was.opened;
        answers = λ j stretch e.
            answered_on state.names texts text s j stretch [] (sends s [] k.unsent)
            (was.answers j stretch (ap (λ (r : SessionRun). slice_get r.stretches (suc j)) (sym run) ∙ e));
        hung = λ before line. ap (λ (r : SessionRun). r.closing) run ∙ was.hung before (not_hung s k.unhung before line);
        cause = subst (λ (o : Option (ℕ × Close)). HasCauseIf queue state.names state.log onward s d o) (sym (ap (λ (r : SessionRun). r.closing) run))
            (cause_if s state.log state.log c d c.run.closing run k.cap (ap (items_over state.names state.log) run) was.cause);
      }

  is_told : (s : ℕ) (c : Client) → slice_get state.clients s ≡ Some c → sent_by s event ≡ [] → hangs_up s event ≡ false
      → slice_get next.clients s ≡ Some (told state.names state.log (history_after state.log (entries_by event)) c)
      → Attends queue state.names (state.log ++ entries_by event) onward s (told state.names state.log (history_after state.log (entries_by event)) c)
  unfolding told
  is_told s c there unsent unhung after =
      record {
        sent = was.sent ∙ sym same;
        hears = subst (λ (b : List ℕ). Hears state.names longer b d.run) (sym same) (hears_reports state.names state.log (entries_by event) reports (sent_to s texts) c was.hears);
        opened = opened_on s c d refl (λ x e. e) was.opened;
        answers = λ j stretch e. answered_on state.names texts text s j stretch [] (sends s [] unsent) (was.answers j stretch e);
        hung = λ before line. ap (λ (o : Option (ℕ × Close)). overrun_by o dues) (was.hung before (not_hung s unhung before line));
        cause = by_closing c.run.closing refl was.cause;
      }
    where
      was : Attends queue state.names state.log texts s c
      was = plays.each s c there

      same : sent_to s onward ≡ sent_to s texts
      same = sends_nothing s unsent

      longer : List Entry
      longer = state.log ++ entries_by event

      reports : List Report
      reports = history_after state.log (entries_by event)

      dues : List Due
      dues = drop (room_of state.names state.log c) (lines_due state.names state.log reports c)

      d : Client
      d = record c { run = record c.run { closing = overrun_by c.run.closing dues } }

      written : Reaches (readings_of queue texts) [] (course_after queue texts)
      written = lines_reach queue texts

      told_was : Told state.names state.log written.all s c
      told_was = written.wrote.sessions.told s c there

      by_now : c.run.closing ≡ None → (o : Option (ℕ × Close)) → overrun_at dues ≡ o → d.run.closing ≡ o → HasCauseIf queue state.names longer onward s d o
      by_now free None is closes = tt
      by_now free (Some closing) is closes =
          let f : Fills state.names longer c d closing.1 =
          fills state.names state.log (entries_by event) written.all s c d closing.0 closing.1 free told_was is refl closes refl was.hears.some in
          let why_is : closing.1 ≡ Overrun = f.cause in
          closed_here s c d longer closing.0 closing.1 there free after
          (subst (λ (w : Close). ClosesFor state.names longer texts text s c d closing.0 w) (sym why_is) f.full)

      by_closing : (o : Option (ℕ × Close)) → c.run.closing ≡ o → HasCauseIf queue state.names state.log texts s c o → HasCauseIf queue state.names longer onward s d (overrun_by c.run.closing dues)
      by_closing None free has =
          let closes : d.run.closing ≡ overrun_at dues = ap (λ (x : Option (ℕ × Close)). overrun_by x dues) free in
          subst (λ (x : Option (ℕ × Close)). HasCauseIf queue state.names longer onward s d x) (sym closes) (by_now free (overrun_at dues) refl closes)
      by_closing (Some closing) at has =
          let stays : overrun_by c.run.closing dues ≡ Some closing = ap (λ (x : Option (ℕ × Close)). overrun_by x dues) at in
          let run : d.run ≡ c.run = ap (λ (x : Option (ℕ × Close)). record c.run { closing = x }) (stays ∙ sym at) in
          let items : items_of state.names longer d ≡ items_of state.names state.log c =
          ap (items_over state.names longer) run ∙ items_closed state.names state.log (entries_by event) c.run closing at told_was.inside in
          subst (λ (x : Option (ℕ × Close)). HasCauseIf queue state.names longer onward s d x) (sym stays)
          (cause_on queue state.names state.log longer texts text s c d closing.0 closing.1 run refl items has)

  is_served : (s : ℕ) (c : Client) (bytes : List ℕ) → slice_get state.clients s ≡ Some c → event ≡ Input s bytes → is_open c ≡ true
      → slice_get next.clients s ≡ Some (served state.names state.log bytes c) → Attends queue state.names state.log onward s (served state.names state.log bytes c)
  unfolding served
  is_served s c bytes there is free after =
      record {
        sent = ap (λ (b : List ℕ). b ++ bytes) was.sent ∙ sym sends_bytes;
        hears = subst (λ (b : List ℕ). Hears state.names state.log b d.run) (sym sends_bytes) hears;
        opened = opened_on s c d refl (λ x e. get_longer c.run.stretches added 0 x e) was.opened;
        answers = λ k stretch e. by_place k stretch (get_either c.run.stretches added (suc k) stretch e);
        hung = λ before line. absurd (still_open before (not_hung s (ap (hangs_up s) is) before line));
        cause = by_test (nat_le (length answers) count) refl;
      }
    where
      was : Attends queue state.names state.log texts s c
      was = plays.each s c there

      unclosed : c.run.closing ≡ None
      unclosed = none_of c.run.closing free

      place : ℕ
      place = length (history state.log)

      count : ℕ
      count = answerable state.names state.log c

      answers : List Answer
      answers = answers_to state.names state.log bytes c

      added : List Stretch
      added = map (stretch_at place) (take count answers)

      closing : Option (ℕ × Close)
      closing = cond (nat_le (length answers) count) None (Some (place, refusal state.names state.log c))

      d : Client
      d = record c { run = record { stretches = c.run.stretches ++ added; closing = closing }; heard = c.heard ++ bytes }

      sends_bytes : sent_to s onward ≡ sent_to s texts ++ bytes
      sends_bytes =
          let itself : nat_eq s s ≡ true = grind (arith, nat_tests) in
          sends s bytes (ap (sent_by s) is ∙ ap (λ (b : Bool). cond b bytes []) itself)

      p : Piece state.names state.log (sent_to s texts) bytes c
      p = piece_of state.names state.log (sent_to s texts) bytes c was.sent

      hears : Hears state.names state.log (sent_to s texts ++ bytes) d.run
      hears = hears_more state.names state.log (sent_to s texts) bytes c free was.sent was.hears

      long : length c.run.stretches ≡ 1 + length (requests (sent_to s texts))
      long = was.hears.whole unclosed

      joined : length (requests (sent_to s texts ++ bytes)) ≡ length (requests (sent_to s texts)) + length p.more
      joined = ap (λ (l : List RawCommand). length l) p.requests_are ∙ length-append (requests (sent_to s texts)) p.more

      still_open : (before : List (List ℕ)) → Comes texts before (Hang s) → ⊥
      still_open before line = never c.run.closing (length (history (log_of before)), HungUp) unclosed (was.hung before line)

      new_answer : (k j : ℕ) (stretch : Stretch) (a : Answer) → suc k ≡ length c.run.stretches + j → slice_get (take count answers) j ≡ Some a → stretch_at place a ≡ stretch
          → IsAnswered state.names onward s k stretch
      new_answer k j stretch a at there same =
          let known : ReplyDataView = known_in (length state.names) state.log in
          let here : slice_get (answered known state.names (policy_of c) p.more) j ≡ Some a =
          ap (λ (l : List Answer). slice_get l j) (sym p.answers_are) ∙ get_taken count answers j a there in
          let one = answer_at known state.names (policy_of c) p.more j a here in
          let number : k ≡ length (requests (sent_to s texts)) + j = omega (arith, at, long) in
          let within : j < length p.more = is_within p.more j one.0 one.1 in
          let log : state.log ≡ log_of texts = plays.log in
          record {
            before = texts;
            bytes = bytes;
            line = comes_last texts (Input s bytes) text (event_is ∙ ap (λ (e : ScriptEvent). Some e) is);
            waits = omega (arith, number);
            ends = omega (arith, joined, number, within);
            request = one.0;
            is =
                ap (λ (b : List ℕ). slice_get (requests b) k) sends_bytes
                ∙ ap (λ (l : List RawCommand). slice_get l k) p.requests_are
                ∙ get_past (requests (sent_to s texts)) p.more j k number
                ∙ one.1;
            place = ap (λ (x : Stretch). x.place) (sym same) ∙ ap (λ (l : List Entry). length (history l)) log;
            reply =
                subst (λ (x : Stretch). x.reply ≡ Some (reply (known_in (length state.names) (log_of texts)) state.names x.policy one.0)) same
                (ap (λ (l : List ℕ). Some l) one.2 ∙ ap (λ (l : List Entry). Some (reply (known_in (length state.names) l) state.names a.policy one.0)) log);
          }

      by_place : (k : ℕ) (stretch : Stretch) → (slice_get c.run.stretches (suc k) ≡ Some stretch) ⊎ IsPast c.run.stretches added (suc k) stretch
          → IsAnswered state.names onward s k stretch
      by_place k stretch (inl e) = answered_on state.names texts text s k stretch bytes sends_bytes (was.answers k stretch e)
      by_place k stretch (inr past) =
          let m : Mapped (stretch_at place) (take count answers) past.place stretch = get_mapped (stretch_at place) (take count answers) past.place stretch past.there in
          new_answer k past.place stretch m.from past.at m.there m.is

      -- it is closed by this piece
      asked : ℕ
      asked = asked_by c

      room : ℕ
      room = room_of state.names state.log c

      part : length (take count answers) ≡ min count (length answers)
      part = length-take count answers

      size : length (c.run.stretches ++ added) ≡ length c.run.stretches + length (take count answers)
      size = length-append c.run.stretches added ∙ ap (λ (n : ℕ). length c.run.stretches + n) (length-map (take count answers) (stretch_at place))

      over : nat_le (length answers) count ≡ false → count < length answers
      over test = above (length answers) count test

      too_many : nat_le (length answers) count ≡ false → nat_le (usual_requests - asked) room ≡ true → ClosesFor state.names state.log texts text s c d place TooManyRequests
      too_many test first =
          let past : count < length answers = over test in
          let least : usual_requests - asked ≤ room = within_of (usual_requests - asked) room first in
          let sum : length (requests (sent_to s onward)) ≡ length (requests (sent_to s texts ++ bytes)) = ap (λ (b : List ℕ). length (requests b)) sends_bytes in
          let each : length answers ≡ length p.more = p.each in
          let few : length c.run.stretches ≤ 1 + usual_requests = was.hears.few in
          let some : 1 ≤ length c.run.stretches = was.hears.some in
          (omega (arith, size, part, past, least, few, some), omega (arith, sum, joined, each, past, least, long))

      overrun : nat_le (length answers) count ≡ false → nat_le (usual_requests - asked) room ≡ false → d.run.closing ≡ Some (place, refusal state.names state.log c)
          → ClosesFor state.names state.log texts text s c d place Overrun
      overrun test first closes =
          let past : count < length answers = over test in
          let least : room < usual_requests - asked = above (usual_requests - asked) room first in
          let written : Reaches (readings_of queue texts) [] (course_after queue texts) = lines_reach queue texts in
          let told_was : Told state.names state.log written.all s c = written.wrote.sessions.told s c there in
          let items : List (List ℕ) = items_of state.names state.log c in
          let kept_were : length (kept_of state.names state.log c) + c.taken ≡ length items = kept_count c.taken items told_was.few in
          let before : length items ≡ length (items_to (line_for state.names) place c.run.stretches (history state.log)) =
          ap (λ (o : Option (ℕ × Close)). length (items_to (line_for state.names) (end_of o (history state.log)) c.run.stretches (history state.log))) unclosed in
          let now : length (items_of state.names state.log d) ≡ length (items_to (line_for state.names) place (c.run.stretches ++ added) (history state.log)) =
          ap (λ (o : Option (ℕ × Close)). length (items_to (line_for state.names) (end_of o (history state.log)) (c.run.stretches ++ added) (history state.log))) closes in
          let gained : length (items_to (line_for state.names) place (c.run.stretches ++ added) (history state.log))
          ≡ length (items_to (line_for state.names) place c.run.stretches (history state.log)) + length (take count answers) =
          answers_count (line_for state.names) (history state.log) place c.run.stretches (take count answers) in
          omega (arith, kept_were, before, now, gained, part, past, least)

      by_refusal : nat_le (length answers) count ≡ false → d.run.closing ≡ Some (place, refusal state.names state.log c) → (b : Bool) → nat_le (usual_requests - asked) room ≡ b
          → ClosesFor state.names state.log texts text s c d place (cond b TooManyRequests Overrun)
      by_refusal test closes true first = too_many test first
      by_refusal test closes false first = overrun test first closes

      by_test : (b : Bool) → nat_le (length answers) count ≡ b → HasCauseIf queue state.names state.log onward s d d.run.closing
      by_test true test =
          let closes : d.run.closing ≡ None = ap (λ (b : Bool). cond b None (Some (place, refusal state.names state.log c))) test in
          subst (λ (o : Option (ℕ × Close)). HasCauseIf queue state.names state.log onward s d o) (sym closes) tt
      by_test false test =
          let closes : d.run.closing ≡ Some (place, refusal state.names state.log c) = ap (λ (b : Bool). cond b None (Some (place, refusal state.names state.log c))) test in
          subst (λ (o : Option (ℕ × Close)). HasCauseIf queue state.names state.log onward s d o) (sym closes)
          (closed_here s c d state.log place (refusal state.names state.log c) there unclosed after (by_refusal test closes (nat_le (usual_requests - asked) room) refl))

  is_hung : (s : ℕ) (c : Client) → slice_get state.clients s ≡ Some c → event ≡ Hang s → is_open c ≡ true
      → slice_get next.clients s ≡ Some (closed state.log HungUp c) → Attends queue state.names state.log onward s (closed state.log HungUp c)
  is_hung s c there is free after =
      record {
        sent = was.sent ∙ sym same;
        hears = subst (λ (b : List ℕ). Hears state.names state.log b d.run) (sym same) (hears_closing state.names state.log (sent_to s texts) HungUp c.run was.hears);
        opened = opened_on s c d refl (λ x e. ap (λ (l : List Stretch). slice_get l 0) stretches ∙ e) was.opened;
        answers = λ k stretch e.
            answered_on state.names texts text s k stretch [] (sends s [] unsent)
            (was.answers k stretch (ap (λ (l : List Stretch). slice_get l (suc k)) (sym stretches) ∙ e));
        hung = λ before line. by_line before (hung_or s before line);
        cause = subst (λ (o : Option (ℕ × Close)). HasCauseIf queue state.names state.log onward s d o) (sym closes)
            (closed_here s c d state.log place HungUp there unclosed after (
              event_is ∙ ap (λ (e : ScriptEvent). Some e) is,
              ap (λ (l : List Entry). length (history l)) log,
              ap (λ (l : List Stretch). length l) stretches ∙ was.hears.whole unclosed,
            ));
      }
    where
      was : Attends queue state.names state.log texts s c
      was = plays.each s c there

      unclosed : c.run.closing ≡ None
      unclosed = none_of c.run.closing free

      place : ℕ
      place = length (history state.log)

      log : state.log ≡ log_of texts
      log = plays.log

      d : Client
      d = closed state.log HungUp c

      run : d.run ≡ closed_run state.log HungUp c.run
      run = ap (λ (o : Option (ℕ × Close)). shut_run state.log HungUp o c.run) unclosed

      stretches : d.run.stretches ≡ c.run.stretches
      stretches = ap (λ (r : SessionRun). r.stretches) run

      closes : d.run.closing ≡ Some (place, HungUp)
      closes = ap (λ (r : SessionRun). r.closing) run

      unsent : sent_by s event ≡ []
      unsent = ap (sent_by s) is

      same : sent_to s onward ≡ sent_to s texts
      same = sends_nothing s unsent

      by_line : (before : List (List ℕ)) → Comes texts before (Hang s) ⊎ ((before ≡ texts) × (event ≡ Hang s)) → d.run.closing ≡ Some (length (history (log_of before)), HungUp)
      by_line before (inl line) = absurd (never c.run.closing (length (history (log_of before)), HungUp) unclosed (was.hung before line))
      by_line before (inr here) = closes ∙ ap (λ (l : List Entry). Some (length (history l), HungUp)) log ∙ ap (λ (l : List (List ℕ)). Some (length (history (log_of l)), HungUp)) (sym here.0)

  is_new : (s : ℕ) (cap : Option ℕ) → event ≡ Open s cap → length state.clients ≤ s → Attends queue state.names state.log onward s (opened (unwrap_or cap queue) state.log)
  is_new s cap is past =
      record {
        sent = sym none;
        hears = subst (λ (b : List ℕ). Hears state.names state.log b (opened_run state.log)) (sym none) (hears_nothing state.names state.log);
        opened = record {
          before = texts;
          cap = cap;
          line = comes_last texts (Open s cap) text (event_is ∙ ap (λ (e : ScriptEvent). Some e) is);
          cap_is = refl;
          opening = ap (λ (l : List Entry). Some (answer_stretch (length (history l)) opening_policy opening_reply)) plays.log;
        };
        answers = λ k stretch e. absurd (cc);
        hung = λ before line. absurd (plays.unhung s past before (not_hung s (ap (hangs_up s) is) before line));
        cause = tt;
      }
    where
      none : sent_to s onward ≡ []
      none = sends_nothing s (ap (sent_by s) is) ∙ plays.unsent s past

  attends : (s : ℕ) (d : Client) → Step queue event state next → slice_get next.clients s ≡ Some d → Attends queue next.names next.log onward s d
  attends s d step there = by_how (step.how s d there)
    where
      by_way : (c : Client) → slice_get state.clients s ≡ Some c → next.names ≡ state.names → Way event state next s c d → Attends queue next.names next.log onward s d
      by_way c was names (inl (inl k)) = moved s d state.log names k.log (kept s c d was k)
      by_way c was names (inl (inr t)) =
          moved s d (state.log ++ entries_by event) names t.log
          (subst (λ (x : Client). Attends queue state.names (state.log ++ entries_by event) onward s x) t.is
          (is_told s c was t.unsent t.unhung (there ∙ ap (λ (x : Client). Some x) (sym t.is))))
      by_way c was names (inr (inl t)) =
          moved s d state.log names t.log
          (subst (λ (x : Client). Attends queue state.names state.log onward s x) t.is
          (is_served s c t.bytes was t.event_is t.free (there ∙ ap (λ (x : Client). Some x) (sym t.is))))
      by_way c was names (inr (inr t)) =
          moved s d state.log names t.log
          (subst (λ (x : Client). Attends queue state.names state.log onward s x) t.is
          (is_hung s c was t.event_is t.free (there ∙ ap (λ (x : Client). Some x) (sym t.is))))

      by_how : Was event state next s d ⊎ IsNew queue event state next s d → Attends queue next.names next.log onward s d
      by_how (inl w) = by_way w.c w.there w.names w.way
      by_how (inr n) =
          moved s d state.log n.names n.log
          (subst (λ (x : Client). Attends queue state.names state.log onward s x) n.is (is_new s n.cap n.event_is n.past))

  pub next_plays : Step queue event state next → (course_after queue onward).refused ≡ None → (course_after queue onward).count ≡ length onward → Plays queue onward
  next_plays step refused count =
      record {
        refused = refused;
        count = count;
        log = ap (λ (x : State). x.log) onward_is ∙ step.log ∙ ap (λ (l : List Entry). l ++ entries_by event) plays.log ∙ sym (line_gives entries_by texts text event event_is);
        few = subst (λ (x : State). length x.names ≤ 8) (sym onward_is) (step.few plays.few);
        fresh = subst (λ (x : State). x.begun ≡ false → x.clients ≡ []) (sym onward_is) step.fresh;
        each = subst (λ (x : State). (s : ℕ) (c : Client) → slice_get x.clients s ≡ Some c → Attends queue x.names x.log onward s c) (sym onward_is) (λ s d there. attends s d step there);
        unsent = subst (λ (x : State). (s : ℕ) → length x.clients ≤ s → sent_to s onward ≡ []) (sym onward_is)
            (λ s past. let b : Beyond event state s = step.beyond s past in sends_nothing s b.unsent ∙ plays.unsent s b.past);
        unhung = subst (λ (x : State). (s : ℕ) → length x.clients ≤ s → (before : List (List ℕ)) → Comes onward before (Hang s) → ⊥) (sym onward_is)
            (λ s past before line. let b : Beyond event state s = step.beyond s past in plays.unhung s b.past before (not_hung s b.unhung before line));
      }
