-- What stays of a session and its answers from one line of a script to the next.
use Rattle.std.proofs.Common.{◌≡◌, ◌⊎◌, inl, inr, ℕ, zero, suc, ◌+◌, ◌-◌, ◌<◌, ◌≤◌, List, [], ◌∷◌, ◌++◌, length, map, take, drop, Option, Some, None, refl, sym, ap, ◌∙◌, subst, append-nil, append_assoc, arith}
use Rattle.std.specs.Prelude.{slice_get}
use Rattle.std.specs.List.{flat_map}
use Rattle.std.specs.Option.{option_to_list}
use Rattle.std.proofs.lemmas.List.{length-append}
use Rattle.std.proofs.lemmas.List.Concat.{flat_map-append}
use Rattle.gps_command.specs.Requests.{requests}
use Rattle.gps_command.specs.declared.request.RawCommand.{RawCommand}
use Rattle.gps_report.specs.declared.policy.Policy.{Policy}
use Rattle.gps_report.specs.declared.report.Report.{Report}
use Rattle.session_core.specs.declared.mark.Close.{Close}
use Rattle.session_core.specs.declared.mark.Close.TheVariants.{HungUp, ReadFault, DaemonEnd, TooManyRequests, Overrun, NoMemory}
use Rattle.session_core.specs.SessionView.{opening_policy}
use Rattle.session_core.specs.Stretches.{Stretch, AreInOrder, end_of, items_to, last_watched, selected}
use Rattle.session_core.proofs.Growth.{items_stay}
use Rattle.book_batch.specs.Lines.{line_for}
use Rattle.book_log.specs.Entries.{Entry}
use Rattle.book_log.specs.History.{history, history_after}
use Rattle.book_log.proofs.HistoryLaws.{whole_history}
use Rattle.book_replies.specs.Replies.{reply}
use Rattle.session_runs.specs.Runs.{SessionRun, items_over}
use Rattle.session_runs.proofs.Sending.{requests_more}
use Rattle.replay_script.specs.Events.{event_in}
use Rattle.replay_script.specs.declared.event.ScriptEvent.{ScriptEvent}
use Rattle.replay_script.specs.declared.event.ScriptEvent.TheVariants.{Input}
use Rattle.replay_player.specs.Clients.{Client, closed, items_of, kept_of, lines_due, overrun_at, policy_of, room_of}
use Rattle.replay_laws.specs.Accounts.{ClosesFor, Comes, HasCause, IsAnswered, of_line_event, sent_to}
use Rattle.replay_laws.proofs.Filling.{Overran, kept_count, one_line, overran}
use Rattle.replay_laws.proofs.Growing.{IsInside, items_up_to}
use Rattle.replay_laws.proofs.Sessions.{Mapped, Told, at_mapped}

-- ---- lists by number

pub get_longer : {X : Type 0} (xs ys : List X) (k : ℕ) (x : X) → slice_get xs k ≡ Some x → slice_get (xs ++ ys) k ≡ Some x
get_longer [] ys k x there = absurd (cc)
get_longer (z ∷ xs) ys zero x there = there
get_longer (z ∷ xs) ys (suc k) x there = get_longer xs ys k x there

pub get_past : {X : Type 0} (xs ys : List X) (j k : ℕ) → k ≡ length xs + j → slice_get (xs ++ ys) k ≡ slice_get ys j
get_past [] ys j k at = ap (λ (n : ℕ). slice_get ys n) (let same : k ≡ j = omega (arith, at) in same)
get_past (z ∷ xs) ys j zero at = absurd (omega (arith, at))
get_past (z ∷ xs) ys j (suc k) at = get_past xs ys j k (omega (arith, at))

-- an element of two lists joined is one of the first, or one of the second
pub record IsPast {X : Type 0} (xs ys : List X) (k : ℕ) (x : X) : Type 0 where
  pub place : ℕ
  pub at : k ≡ length xs + place
  pub there : slice_get ys place ≡ Some x

pub get_either : {X : Type 0} (xs ys : List X) (k : ℕ) (x : X) → slice_get (xs ++ ys) k ≡ Some x → (slice_get xs k ≡ Some x) ⊎ IsPast xs ys k x
get_either [] ys k x there = inr (record { place = k; at = omega arith; there = there })
get_either (z ∷ xs) ys zero x there = inl there
get_either (z ∷ xs) ys (suc k) x there = shifted (get_either xs ys k x there)
  where
    shifted : (slice_get xs k ≡ Some x) ⊎ IsPast xs ys k x → (slice_get xs k ≡ Some x) ⊎ IsPast (z ∷ xs) ys (suc k) x
    shifted (inl e) = inl e
    shifted (inr p) = inr (record { place = p.place; at = (let was : k ≡ length xs + p.place = p.at in omega (arith, was)); there = p.there })

pub get_taken : {X : Type 0} (n : ℕ) (xs : List X) (k : ℕ) (x : X) → slice_get (take n xs) k ≡ Some x → slice_get xs k ≡ Some x
get_taken zero xs k x there = absurd (cc)
get_taken (suc n) [] k x there = there
get_taken (suc n) (z ∷ xs) zero x there = there
get_taken (suc n) (z ∷ xs) (suc k) x there = get_taken n xs k x there

pub get_mapped : {X Y : Type 0} (f : X → Y) (xs : List X) (k : ℕ) (y : Y) → slice_get (map f xs) k ≡ Some y → Mapped f xs k y
get_mapped f xs k y there = at_mapped f xs k y there

-- a session is open or closed
pub never : (o : Option (ℕ × Close)) (closing : ℕ × Close) → o ≡ None → o ≡ Some closing → ⊥
never None closing none some = cc
never (Some other) closing none some = cc

-- ---- the last of some lines

pub comes_longer : (texts before : List (List ℕ)) (event : ScriptEvent) (text : List ℕ) → Comes texts before event → Comes (texts ++ text ∷ []) before event
comes_longer texts before event text line =
    record {
      text = line.text;
      after = line.after ++ text ∷ [];
      lines = ap (λ (l : List (List ℕ)). l ++ text ∷ []) line.lines ∙ append_assoc before (line.text ∷ line.after) (text ∷ []);
      event_is = line.event_is;
    }

pub comes_last : (texts : List (List ℕ)) (event : ScriptEvent) (text : List ℕ) → event_in text ≡ Some event → Comes (texts ++ text ∷ []) texts event
comes_last texts event text is = record { text = text; after = []; lines = refl; event_is = is }

pub record EndsBefore (xs before : List (List ℕ)) (x : List ℕ) : Type 0 where
  pub after : List (List ℕ)
  pub is : xs ≡ before ++ x ∷ after

pub record EndsHere (xs before : List (List ℕ)) (t x : List ℕ) : Type 0 where
  pub before_is : before ≡ xs
  pub text_is : t ≡ x

pub no_element : (bs : List (List ℕ)) (x : List ℕ) (after : List (List ℕ)) → [] ≡ bs ++ x ∷ after → ⊥
no_element [] x after e = cc
no_element (b ∷ bs) x after e = cc

pub last_or : (xs : List (List ℕ)) (t : List ℕ) (before : List (List ℕ)) (x : List ℕ) (after : List (List ℕ)) → xs ++ t ∷ [] ≡ before ++ x ∷ after
    → EndsBefore xs before x ⊎ EndsHere xs before t x
last_or [] t [] x after e = inr (record { before_is = refl; text_is = (let same : t ≡ x = cc in same) })
last_or [] t (b ∷ bs) x after e = let rest : [] ≡ bs ++ x ∷ after = cc in absurd (no_element bs x after rest)
last_or (y ∷ ys) t [] x after e = let same : y ≡ x = cc in inl (record { after = ys; is = ap (λ (z : List ℕ). z ∷ ys) same })
last_or (y ∷ ys) t (b ∷ bs) x after e =
    let head : y ≡ b = cc in
    let tail : ys ++ t ∷ [] ≡ bs ++ x ∷ after = cc in
    shifted head (last_or ys t bs x after tail)
  where
    shifted : y ≡ b → EndsBefore ys bs x ⊎ EndsHere ys bs t x → EndsBefore (y ∷ ys) (b ∷ bs) x ⊎ EndsHere (y ∷ ys) (b ∷ bs) t x
    shifted head (inl p) = let is : ys ≡ bs ++ x ∷ p.after = p.is in inl (record { after = p.after; is = λ i. head i ∷ is i })
    shifted head (inr p) = let is : bs ≡ ys = p.before_is in inr (record { before_is = λ i. sym head i ∷ is i; text_is = p.text_is })

-- what a line gives besides those before it
pub line_gives : {X : Type 0} (f : ScriptEvent → List X) (texts : List (List ℕ)) (text : List ℕ) (event : ScriptEvent) → event_in text ≡ Some event
    → flat_map (of_line_event f) (texts ++ text ∷ []) ≡ flat_map (of_line_event f) texts ++ f event
line_gives f texts text event is =
    flat_map-append (of_line_event f) texts (text ∷ [])
    ∙ ap (λ (l : List _). flat_map (of_line_event f) texts ++ l)
    (append-nil (of_line_event f text) ∙ ap (λ (o : Option ScriptEvent). flat_map f (option_to_list o)) is ∙ append-nil (f event))

-- ---- what stays as it was

pub answered_on : (names texts : List (List ℕ)) (text : List ℕ) (s k : ℕ) (stretch : Stretch) (piece : List ℕ) → sent_to s (texts ++ text ∷ []) ≡ sent_to s texts ++ piece
    → IsAnswered names texts s k stretch → IsAnswered names (texts ++ text ∷ []) s k stretch
answered_on names texts text s k stretch piece sends is =
    let more = requests_more (sent_to s texts) piece in
    record {
      before = is.before;
      bytes = is.bytes;
      line = comes_longer texts is.before (Input s is.bytes) text is.line;
      waits = is.waits;
      ends = is.ends;
      request = is.request;
      is =
          ap (λ (b : List ℕ). slice_get (requests b) k) sends
          ∙ ap (λ (l : List RawCommand). slice_get l k) more.1
          ∙ get_longer (requests (sent_to s texts)) more.0 k is.request is.is;
      place = is.place;
      reply = is.reply;
    }

pub cause_on : (queue : ℕ) (names : List (List ℕ)) (log longer : List Entry) (texts : List (List ℕ)) (text : List ℕ) (s : ℕ) (c d : Client) (place : ℕ) (why : Close)
    → d.run ≡ c.run → d.cap ≡ c.cap → items_of names longer d ≡ items_of names log c → HasCause queue names log texts s c place why
    → HasCause queue names longer (texts ++ text ∷ []) s d place why
cause_on queue names log longer texts text s c d place why run cap items has =
    let line = has.line in
    record {
      before = has.before;
      text = has.text;
      was = has.was;
      line = record {
        after = line.after ++ text ∷ [];
        lines = ap (λ (l : List (List ℕ)). l ++ text ∷ []) line.lines ∙ append_assoc has.before (has.text ∷ line.after) (text ∷ []);
        there = line.there;
        free = line.free;
        now = line.now;
        after_it = line.after_it;
        run = line.run ∙ sym run;
      };
      cause = by_cause why has.cause;
    }
  where
    by_cause : (w : Close) → ClosesFor names log has.before has.text s has.was c place w → ClosesFor names longer has.before has.text s has.was d place w
    by_cause HungUp cause = (cause.0, cause.1, ap (λ (r : SessionRun). length r.stretches) run ∙ cause.2)
    by_cause TooManyRequests cause = (ap (λ (r : SessionRun). length r.stretches) run ∙ cause.0, cause.1)
    by_cause Overrun cause =
        let size : length (items_of names longer d) ≡ length (items_of names log c) = ap (λ (l : List (List ℕ)). length l) items in
        omega (arith, size, cap, cause)
    by_cause ReadFault cause = cause
    by_cause DaemonEnd cause = cause
    by_cause NoMemory cause = cause

-- the items of a closed run stay
pub items_closed : (names : List (List ℕ)) (log entries : List Entry) (r : SessionRun) (closing : ℕ × Close) → r.closing ≡ Some closing → IsInside (history log) r
    → items_over names (log ++ entries) r ≡ items_over names log r
items_closed names log entries r closing at inside =
    let h : List Report = history log in
    let more : List Report = history_after log entries in
    let end_is : end_of r.closing h ≡ closing.0 = ap (λ (o : Option (ℕ × Close)). end_of o h) at in
    let order : AreInOrder closing.0 r.stretches = subst (λ (n : ℕ). AreInOrder n r.stretches) end_is inside.order in
    let within : closing.0 ≤ length h = subst (λ (n : ℕ). n ≤ length h) end_is inside.within in
    ap (λ (l : List Report). items_to (line_for names) (end_of r.closing l) r.stretches l) (whole_history log entries)
    ∙ ap (λ (o : Option (ℕ × Close)). items_to (line_for names) (end_of o (h ++ more)) r.stretches (h ++ more)) at
    ∙ items_stay (line_for names) closing.0 r.stretches h more within order
    ∙ ap (λ (n : ℕ). items_to (line_for names) n r.stretches h) (sym end_is)

-- reports close a session whose outlet is full
pub record Fills (names : List (List ℕ)) (longer : List Entry) (c d : Client) (why : Close) : Type 0 where
  pub cause : why ≡ Overrun
  pub full : c.taken + d.cap ≤ length (items_of names longer d)

pub fills : (names : List (List ℕ)) (log entries : List Entry) (rows : List (List ℕ)) (s : ℕ) (c d : Client) (place : ℕ) (why : Close) → c.run.closing ≡ None → Told names log rows s c
    → overrun_at (drop (room_of names log c) (lines_due names log (history_after log entries) c)) ≡ Some (place, why)
    → d.run.stretches ≡ c.run.stretches → d.run.closing ≡ Some (place, why) → d.cap ≡ c.cap → 1 ≤ length c.run.stretches → Fills names (log ++ entries) c d why
fills names log entries rows s c d place why free is over same closes cap some = by_stretches c.run.stretches refl
  where
    h : List Report
    h = history log

    more : List Report
    more = history_after log entries

    lines : Policy → Report → List (List ℕ)
    lines = line_for names

    by_stretches : (l : List Stretch) → c.run.stretches ≡ l → Fills names (log ++ entries) c d why
    by_stretches [] are = let none : length c.run.stretches ≡ 0 = ap (λ (l : List Stretch). length l) are in absurd (omega (arith, none, some))
    by_stretches (stretch ∷ rest) are =
        let end_is : end_of c.run.closing h ≡ length h = ap (λ (o : Option (ℕ × Close)). end_of o h) free in
        let order : AreInOrder (length h) (stretch ∷ rest) =
        subst (λ (l : List Stretch). AreInOrder (length h) l) are (subst (λ (n : ℕ). AreInOrder n c.run.stretches) end_is is.inside.order) in
        let policy : policy_of c ≡ last_watched stretch.policy rest = ap (last_watched opening_policy) are in
        let o : Overran lines (policy_of c) (length h) more (room_of names log c) place why = overran lines (one_line names) (policy_of c) (length h) more (room_of names log c) place why over in
        let long : length (h ++ more) ≡ length h + length more = length-append h more in
        let to : place ≤ length (h ++ more) = omega (arith, long, o.to) in
        let items : List (List ℕ) = items_of names log c in
        let before : items ≡ items_to lines (length h) (stretch ∷ rest) h =
        ap (λ (n : ℕ). items_to lines n c.run.stretches h) end_is ∙ ap (λ (l : List Stretch). items_to lines (length h) l h) are in
        let gained : List (List ℕ) = selected lines (last_watched stretch.policy rest) (take (place - length h) more) in
        let now : items_of names (log ++ entries) d ≡ items_to lines (length h) (stretch ∷ rest) h ++ gained =
        ap (λ (l : List Report). items_to lines (end_of d.run.closing l) d.run.stretches l) (whole_history log entries)
        ∙ ap (λ (x : Option (ℕ × Close)). items_to lines (end_of x (h ++ more)) d.run.stretches (h ++ more)) closes
        ∙ ap (λ (l : List Stretch). items_to lines place l (h ++ more)) (same ∙ are)
        ∙ items_up_to lines place stretch rest h more order o.from to in
        let size : length (items_of names (log ++ entries) d) ≡ length (items_to lines (length h) (stretch ∷ rest) h ++ gained) = ap (λ (l : List (List ℕ)). length l) now in
        let parts : length (items_to lines (length h) (stretch ∷ rest) h ++ gained) ≡ length (items_to lines (length h) (stretch ∷ rest) h) + length gained =
        length-append (items_to lines (length h) (stretch ∷ rest) h) gained in
        let was : length items ≡ length (items_to lines (length h) (stretch ∷ rest) h) = ap (λ (l : List (List ℕ)). length l) before in
        let counted : room_of names log c ≤ length gained =
        subst (λ (p : Policy). room_of names log c ≤ length (selected lines p (take (place - length h) more))) policy o.count in
        let kept : length (kept_of names log c) + c.taken ≡ length items = kept_count c.taken items is.few in
        record { cause = o.cause; full = omega (arith, size, parts, was, counted, kept, cap) }
