-- The shut: if each line of the book says that its device has stopped, each session is closed.
use Rattle.std.proofs.Common.{◌≡◌, ◌<◌, ◌≤◌, ℕ, suc, ◌+◌, true, ◌||◌, ◌&&◌, List, [], ◌∷◌, ◌++◌, length, get_or, Option, Some, None, refl, sym, ap, ◌∙◌, subst, inl, inr, ◌⊎◌, ⊎_elim, arith}
use Rattle.std.specs.Prelude.{is_some}
use Rattle.std.specs.List.{All, AllZip, list_all}
use Rattle.std.proofs.lemmas.List.Sums.{AllPass-from_list_all}
use Rattle.book_log.specs.Entries.{Entry}
use Rattle.book_log.specs.Standing.{DeviceStateView, StandsFor, has_stopped}
use Rattle.book_log.proofs.Histories.{same}
use Rattle.book_sessions.specs.MemberView.{MemberView}
use Rattle.book_sessions.specs.Roster.{Shuts, ShutsBy}
use Rattle.gps_lane.specs.Ends.{Taking}
use Rattle.report_book.specs.BookView.{BookView}
use Rattle.report_book.specs.Moves.{ShutsAll}
use Rattle.report_book.specs.Standing.{BookHolds}
use Rattle.gps_lane.specs.Carried.{input_bytes}
use Rattle.gps_lane.specs.declared.piece.Piece.{Piece}
use Rattle.session_core.specs.declared.mark.Close.{Close}
use Rattle.session_core.specs.declared.mark.Close.TheVariants.{DaemonEnd}
use Rattle.session_runs.specs.Accounts.{AccountIn}
use Rattle.session_runs.specs.Following.{shut_run}
use Rattle.session_runs.specs.Runs.{SessionRun}
use Rattle.session_runs.proofs.Accounting.{shut_accounts}
use Rattle.session_runs.proofs.Zipping.{zip_both, zip_keep}
use Rattle.hub_promise.specs.declared.ends.DeviceEnd.{DeviceEnd}
use Rattle.hub_promise.specs.DaemonHub.{AllStop, ClosesFor, MayGoOn, SessionFits}
use Rattle.hub_promise.specs.Given.{is_end, is_loss}
use Rattle.hub_promise.specs.Keeping.{HubKeeps, IsClosed, Lasts}
use Rattle.hub_promise.specs.Parts.{HubView, Terms, parts_of}
use Rattle.hub_promise.proofs.Lists.{zip_at, zip_length, zip_maps, zip_watched}
use Rattle.hub_promise.proofs.Going.{device_now, line_stopped, no_lanes, some_line, stopped_line}
use Rattle.hub_promise.proofs.Clients.{clients_stay, tables_stay}

abbrev AllEnded : BookView → Type 0
AllEnded book = list_all (λ (line : DeviceStateView). has_stopped line.stage) book.log.present.lines ≡ true

-- each device has stopped in the log if each line says so
pub stop_there : (book : BookView) (before : List Entry) → BookHolds book → StandsFor book.log.opening before → AllEnded book → AllStop (length book.names) (before ++ book.log.log)
stop_there book before held stands all d lt =
    let lines = book.log.present.lines in
    let within : d < length lines = subst (λ (n : ℕ). d < n) held.names lt in
    let free = some_line lines d within in
    let at = (held.log.over before stands).present.lines d free within in
    let stopped = AllPass-from_list_all (λ (line : DeviceStateView). has_stopped line.stage) lines all d free within in
    (λ i. sym at.ended i || sym at.lost i) ∙ stopped_line (get_or lines d free).stage stopped

all_lines : (lines : List DeviceStateView) → ((d : ℕ) (free : DeviceStateView) → d < length lines → has_stopped (get_or lines d free).stage ≡ true) → list_all (λ (line : DeviceStateView). has_stopped line.stage) lines ≡ true
all_lines [] each = refl
all_lines (x ∷ lines) each = ap (λ b. b && list_all (λ (line : DeviceStateView). has_stopped line.stage) lines) (each 0 x (omega arith)) ∙ all_lines lines (λ d free lt. each (suc d) free (omega arith))

pub ended_there : (book : BookView) (before : List Entry) → BookHolds book → StandsFor book.log.opening before → AllStop (length book.names) (before ++ book.log.log) → AllEnded book
ended_there book before held stands stop =
    all_lines book.log.present.lines (λ d free within.
    let at = (held.log.over before stands).present.lines d free within in
    line_stopped (get_or book.log.present.lines d free).stage ((λ i. at.ended i || at.lost i) ∙ stop d (subst (λ (n : ℕ). d < n) (sym held.names) within)))

-- what the shut leaves of a session
record ShutKeeps (count : ℕ) (log : List Entry) (a b : MemberView) : Type 0 where
  name : b.session.name ≡ a.session.name
  cap : b.session.cap ≡ a.session.cap
  watched : b.watched ≡ a.watched
  closed : IsClosed b
  cause : (x : Taking Piece) (r : SessionRun) → ClosesFor count log x a.session r.closing → ClosesFor count log x b.session (shut_run log DaemonEnd a.session.closing r).closing

shut_keeps : (c : Option (ℕ × Close)) (count : ℕ) (log : List Entry) (place : ℕ) (a b : MemberView) → AllStop count log → a.session.closing ≡ c → ShutsBy c place DaemonEnd a b → ShutKeeps count log a b
shut_keeps None count log place a b stop is shuts =
    record {
      name = ap (λ (t : MemberView). t.session.name) shuts.becomes;
      cap = ap (λ (t : MemberView). t.session.cap) shuts.becomes;
      watched = ap (λ (t : MemberView). t.watched) shuts.becomes;
      closed = ap (λ (t : MemberView). is_some t.session.closing) shuts.becomes;
      cause = λ x r was. subst (λ (o : Option (ℕ × Close)). ClosesFor count log x b.session (shut_run log DaemonEnd o r).closing) (sym is) (stop, refl);
    }
shut_keeps (Some closing) count log place a b stop is shuts =
    record {
      name = ap (λ (t : MemberView). t.session.name) shuts;
      cap = ap (λ (t : MemberView). t.session.cap) shuts;
      watched = ap (λ (t : MemberView). t.watched) shuts;
      closed = ap (λ (t : MemberView). is_some t.session.closing) shuts ∙ ap (λ (o : Option (ℕ × Close)). is_some o) is;
      cause = λ x r was. subst (λ (o : Option (ℕ × Close)). ClosesFor count log x b.session (shut_run log DaemonEnd o r).closing) (sym is)
          (subst (λ (t : MemberView). ClosesFor count log x t.session r.closing) (sym shuts) was);
    }

pub hub_shut : (terms : Terms) (h : HubView) (lasts : List Lasts) (book : BookView) → HubKeeps terms h lasts → BookHolds book
    → list_all (λ (line : DeviceStateView). has_stopped line.stage) h.book.log.present.lines ≡ true → ShutsAll h.book book
    → HubKeeps terms (record h { book = book; is_shut = true }) lasts
hub_shut terms h lasts book k held all shuts =
    let shut : BookView = record h.book { sessions = book.sessions } in
    let is : shut ≡ book = λ i. record { names = sym shuts.same.names i; most_requests = sym shuts.same.requests i; log = sym shuts.same.log i; sessions = book.sessions; units = sym shuts.same.units i } in
    let P : BookView → Type 0 = λ b. ShutsAll h.book b → BookHolds b → HubKeeps terms (record h { book = b; is_shut = true }) lasts in
    let forgotten = k.over.0 in
    let log : List Entry = forgotten ++ h.book.log.log in
    let count : ℕ = length h.book.names in
    let stop : AllStop count log = stop_there h.book forgotten k.holds k.over.1.hub.opening all in
    let old = h.book.sessions in
    let new = book.sessions in
    let keeps = shut_zip count log old new stop shuts.sessions in
    let names = zip_maps (ShutKeeps count log) (λ (a : MemberView). a.session.name) (λ a b o. o.name) old new keeps in
    subst P is (λ mine holds.
    let accounts = shut_accounts h.book shut forgotten k.holds k.over.1.hub.opening mine in
    let A : MemberView → MemberView → Type 0 = λ a b. (r : SessionRun) (taken : List (List ℕ)) (bytes : List ℕ) → AccountIn h.book forgotten a r taken bytes
    → AccountIn shut forgotten b (shut_run log DaemonEnd a.session.closing r) taken bytes in
    let B : MemberView → MemberView → Type 0 = λ a b. A a b × ShutKeeps count log a b in
    let F : MemberView → Taking Piece → Type 0 = SessionFits h.book.names forgotten h.book.log.log in
    record {
      holds = holds;
      terms_are = k.terms_are;
      count = k.count;
      ends_count = k.ends_count;
      told = k.told;
      admitted = record {
        outlets = tables_stay old new names ∙ k.admitted.outlets;
        caps = zip_maps (ShutKeeps count log) (λ (a : MemberView). a.session.cap) (λ a b o. o.cap) old new keeps ∙ k.admitted.caps;
        inputs_are = k.admitted.inputs_are;
      };
      closed = λ _. all_closed count log old new keeps;
      read = k.read;
      clients = clients_stay terms old new h.inputs names k.clients;
      over = (
        forgotten,
        record {
          hub = record {
            opening = k.over.1.hub.opening;
            devices = k.over.1.hub.devices;
            sessions = zip_keep F B F
                (λ a b x r f. record { run = shut_run log DaemonEnd a.session.closing f.run; account = r.0 f.run [] (input_bytes x.got) f.account; cause = r.1.cause x f.run f.cause })
                old new h.inputs (zip_both A (ShutKeeps count log) B (λ a b c o. (c, o)) old new accounts keeps) k.over.1.hub.sessions;
            units = k.over.1.hub.units;
            waits = ⊎_elim
                (λ (m : MayGoOn (parts_of h)). inl (subst (λ (n : ℕ). (h.wait ≤ n) ⊎ (h.door.done ≡ true)) (sym (zip_watched (ShutKeeps count log) (λ a b o. o.watched) old new keeps)) m))
                (λ (e : log ≡ []). inr e) k.over.1.hub.waits;
          };
          shut = λ _. stop;
        },
      );
    }) shuts held
  where
    shut_zip : (count : ℕ) (log : List Entry) (xs ys : List MemberView) → AllStop count log → AllZip (Shuts h.book.log.length DaemonEnd) xs ys → AllZip (ShutKeeps count log) xs ys
    shut_zip count log [] [] stop zip = tt
    shut_zip count log [] (y ∷ ys) stop zip = zip
    shut_zip count log (x ∷ xs) [] stop zip = zip
    shut_zip count log (x ∷ xs) (y ∷ ys) stop zip = (shut_keeps x.session.closing count log h.book.log.length x y stop refl zip.0, shut_zip count log xs ys stop zip.1)

    all_closed : (count : ℕ) (log : List Entry) (xs ys : List MemberView) → AllZip (ShutKeeps count log) xs ys → All IsClosed ys
    all_closed count log xs ys zip s d lt = let n = zip_length (ShutKeeps count log) xs ys zip in (zip_at (ShutKeeps count log) xs ys s d d zip (omega arith)).closed

-- each device has stopped if each line of the book says so
pub all_stopped : (terms : Terms) (h : HubView) (lasts : List Lasts) → HubKeeps terms h lasts → list_all (λ (line : DeviceStateView). has_stopped line.stage) h.book.log.present.lines ≡ true
    → All (λ (end : Option DeviceEnd). is_some end ≡ true) h.ends
all_stopped terms h lasts k all d end lt =
    let within : d < length h.book.names = let n = k.ends_count in omega arith in
    let fits = device_now terms h lasts d no_lanes end k within in
    stopped_end (get_or h.ends d end) ((λ i. sym fits.ended i || sym fits.lost i) ∙ stop_there h.book k.over.0 k.holds k.over.1.hub.opening all d within)
  where
    stopped_end : (o : Option DeviceEnd) → (is_end o || is_loss o) ≡ true → is_some o ≡ true
    stopped_end None e = absurd (cc)
    stopped_end (Some found) e = refl
