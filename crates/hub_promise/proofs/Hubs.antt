-- What always holds of a hub goes on to hold after each call.
use Rattle.std.proofs.Common.{◌≡◌, ◌≢◌, ◌<◌, ◌≤◌, ℕ, zero, suc, ◌+◌, Bool, true, false, ◌||◌, List, [], ◌∷◌, ◌++◌, length, map, get_or, set, Option, Some, None, refl, sym, ap, ◌∙◌, subst, inl, inr, ◌⊎◌, ⊎_elim, append-nil, append_assoc, arith, nat_eq, get_or-set_same, get_or-set_other, length-set}
use Rattle.std.specs.Prelude.{count_by, is_some, slice_get, slice_set}
use Rattle.std.specs.List.{All, AllZip, range_with_len}
use Rattle.std.proofs.Math.Seq.{map-set_same}
use Rattle.std.proofs.lemmas.List.{get_or-map, map-append}
use Rattle.std.proofs.lemmas.List.Elements.{All-set, All-nil}
use Rattle.std.proofs.lemmas.Option.{slice_get-get_or}
use Rattle.book_log.specs.Entries.{Entry, has_end, has_lost}
use Rattle.book_log.specs.History.{history, history_after}
use Rattle.book_log.specs.Standing.{StandsFor}
use Rattle.book_log.proofs.Histories.{IsQuiet, history-append}
use Rattle.book_sessions.specs.MemberView.{MemberView}
use Rattle.book_sessions.specs.Roster.{was_watched}
use Rattle.book_units.specs.Changes.{EachUnit}
use Rattle.book_units.specs.Samples.{samples_of}
use Rattle.book_units.specs.Units.{UnitView, all_of, segment_of}
use Rattle.book_units.proofs.Given.{joined}
use Rattle.gps_lane.specs.Ends.{Taking}
use Rattle.report_book.specs.BookView.{BookView}
use Rattle.report_book.specs.Standing.{BookHolds}
use Rattle.gps_lane.specs.declared.piece.Piece.{Piece}
use Rattle.session_core.specs.declared.mark.Close.{Close}
use Rattle.session_core.specs.SessionView.{SessionView}
use Rattle.session_runs.specs.Accounts.{CarriesOn}
use Rattle.session_runs.specs.Following.{forgotten_if}
use Rattle.session_runs.proofs.Zipping.{zip_both, zip_keep, zip_set}
use Rattle.hub_promise.specs.declared.ends.DeviceEnd.{DeviceEnd}
use Rattle.hub_promise.specs.DaemonHub.{AllStop, DeviceFits, MayGoOn, SessionFits, UnitFits, whole_log}
use Rattle.hub_promise.specs.Given.{is_end, is_loss}
use Rattle.hub_promise.specs.Keeping.{HubKeeps, IsClosed, KeepsOver, LaneIsRead, Lasts, told_of, ServesClient}
use Rattle.hub_promise.specs.Parts.{AreAdmitted, HubDevice, HubView, InletsView, LaneNames, Terms, device_of, devices_of, names_of, parts_of, terms_of}
use Rattle.hub_promise.specs.Steps.{Abides, ClosesBy, DeviceStep, MovesOn, Onward, SessionStep, UnitHasMore}
use Rattle.hub_promise.proofs.Lists.{device_fits, devices_on, numbered_at, numbered_by, push_watched, set_watched, zip_all, zip_at, zip_length, zip_maps, zip_watched}
use Rattle.hub_promise.proofs.Sessions.{session_onward}
use Rattle.session_core.specs.Naming.{table_of}
use Rattle.gps_lane.specs.Held.{AreDue}
use Rattle.hub_promise.proofs.Clients.{clients_stay, serves_on, tables_stay}

pub map_length : {A B : Type 0} (f : A → B) (xs : List A) → length (map f xs) ≡ length xs
map_length f [] = refl
map_length f (x ∷ xs) = ap suc (map_length f xs)

-- the devices go on if they went on before
go_on : (wait wait' : ℕ) (watched watched' : ℕ) (done : Bool) → watched ≤ watched' → (wait ≤ watched) ⊎ (done ≡ true) → (wait ≤ watched') ⊎ (done ≡ true)
go_on wait wait' watched watched' done more = ⊎_elim (λ (e : wait ≤ watched). inl (omega arith)) (λ (e : done ≡ true). inr e)

-- a closed session stays closed
stays_closed : (c : Option (ℕ × Close)) (old new : SessionView) → ClosesBy c old new → is_some c ≡ true → is_some new.closing ≡ true
stays_closed None old new closes is = absurd (cc)
stays_closed (Some closing) old new closes is = ap (λ (o : Option (ℕ × Close)). is_some o) closes.1

abides_closed : (a b : MemberView) → Abides a b → IsClosed a → IsClosed b
abides_closed a b abides is = stays_closed a.session.closing a.session b.session abides.closes is

unit_goes : (u : ℕ) (log entries : List Entry) (x y : UnitView) → UnitFits log u x → all_of y ≡ all_of x ++ samples_of u (history_after log entries) → UnitFits (log ++ entries) u y
unit_goes u log entries x y fits more =
    more ∙ ap (λ l. l ++ samples_of u (history_after log entries)) fits ∙ sym (joined u (history log) (history_after log entries)) ∙ ap (samples_of u) (sym (history-append [] log entries))

-- each unit goes on
units_go : (log entries : List Entry) (old new : List UnitView) → EachUnit (λ u. UnitHasMore (samples_of u (history_after log entries))) old new
    → AllZip (UnitFits log) (range_with_len 0 (length old)) old → AllZip (UnitFits (log ++ entries)) (range_with_len 0 (length new)) new
units_go log entries old new more fit =
    let size = more.count in
    numbered_by (UnitFits (log ++ entries)) (length new) new refl
    (λ u x lt. let there : u < length old = omega arith in
    unit_goes u log entries (get_or old u x) (get_or new u x) (numbered_at (UnitFits log) (length old) old u x fit there) (more.each u x there))

-- entries of one device came
module _ (h : HubView) (d : ℕ) (book : BookView) (y : InletsView) (end : Option DeviceEnd) where
  abbrev after : HubView
  after = record h { book = book; inlets = set h.inlets d y; ends = set h.ends d end }

  moved_over : (entries forgotten : List Entry) → Onward h.book book entries → ((e : ℕ) → nat_eq d e ≡ false → IsQuiet e entries)
      → DeviceFits (whole_log forgotten h.book ++ entries) d (device_of y end) → MayGoOn (parts_of h) → (AllStop (length h.book.names) (whole_log forgotten h.book) → ⊥)
      → KeepsOver forgotten h → (onward : List Entry) × KeepsOver onward after
  moved_over entries forgotten onward quiet mine may running k =
      let goes = onward.goes forgotten k.hub.opening in
      let log : List Entry = whole_log forgotten h.book in
      let next : List Entry = forgotten_if onward.turns forgotten h.book.log.log in
      let whole : next ++ book.log.log ≡ log ++ entries = goes.whole in
      let count : length book.names ≡ length h.book.names = ap length goes.names in
      let R : MemberView → MemberView → Type 0 = λ a b. CarriesOn h.book forgotten book next a b × Abides a b in
      let D : List Entry × ℕ → Type 0 = λ t. AllZip (DeviceFits t.0) (range_with_len 0 t.1) (devices_of (set h.inlets d y) (set h.ends d end)) in
      let U : List Entry → Type 0 = λ w. AllZip (UnitFits w) (range_with_len 0 (length book.units)) book.units in (
        next,
        record {
          hub = record {
            opening = goes.stands;
            devices = subst D (λ i. (sym whole i, sym count i)) (devices_on log entries (length h.book.names) d h.inlets h.ends y end quiet mine k.hub.devices);
            sessions =
                zip_keep (SessionFits h.book.names forgotten h.book.log.log) R (SessionFits book.names next book.log.log)
                (λ a b x r f. session_onward h.book book forgotten next entries a b x running r.0 r.1 f) h.book.sessions book.sessions h.inputs
                (zip_both (CarriesOn h.book forgotten book next) Abides R (λ a b c o. (c, o)) h.book.sessions book.sessions (onward.carries forgotten k.hub.opening) onward.abides) k.hub.sessions;
            units = subst U (sym whole) (units_go log entries h.book.units book.units (onward.units forgotten k.hub.opening) k.hub.units);
            waits = inl (go_on h.wait h.wait (count_by was_watched h.book.sessions) (count_by was_watched book.sessions) h.door.done
                (let same = zip_watched Abides (λ a b o. o.watched) h.book.sessions book.sessions onward.abides in omega arith) may);
          };
          shut = λ is. absurd (running (k.shut is));
        },
      )

  still_over : (entries forgotten : List Entry) → book ≡ h.book → entries ≡ [] → ((e : ℕ) → nat_eq d e ≡ false → IsQuiet e entries)
      → DeviceFits (whole_log forgotten h.book ++ entries) d (device_of y end) → KeepsOver forgotten h → KeepsOver forgotten after
  still_over entries forgotten same none quiet mine k =
      let log : List Entry = whole_log forgotten h.book in
      let whole : log ++ entries ≡ log = ap (λ l. log ++ l) none ∙ append-nil log in
      let D : List Entry → Type 0 = λ w. AllZip (DeviceFits w) (range_with_len 0 (length h.book.names)) (devices_of (set h.inlets d y) (set h.ends d end)) in
      let P : BookView → Type 0 = λ b. KeepsOver forgotten (record h { book = b; inlets = set h.inlets d y; ends = set h.ends d end }) in
      subst P (sym same) (record {
        hub = record {
          opening = k.hub.opening;
          devices = subst D whole (devices_on log entries (length h.book.names) d h.inlets h.ends y end quiet mine k.hub.devices);
          sessions = k.hub.sessions;
          units = k.hub.units;
          waits = k.hub.waits;
        };
        shut = k.shut;
      })

  -- a device that runs has not stopped in the log
  not_all : (log : List Entry) (x : HubDevice) → x.end ≡ None → d < length h.book.names → DeviceFits log d x → AllStop (length h.book.names) log → ⊥
  not_all log x runs lt f stop =
      let no_end : has_end d log ≡ false = f.ended ∙ ap is_end runs in
      let no_loss : has_lost d log ≡ false = f.lost ∙ ap is_loss runs in
      let stopped : has_end d log || has_lost d log ≡ true = stop d lt in
      absurd (cc (no_end, no_loss, stopped))

  step_over : (x : InletsView) (was : Option DeviceEnd) (before last : Lasts) → was ≡ None → DeviceStep d h.book book x y was end before last
      → length h.inlets ≡ length h.book.names → length h.ends ≡ length h.book.names → d < length h.book.names
      → get_or h.inlets d x ≡ x → get_or h.ends d was ≡ was → before ≡ told_of x → MayGoOn (parts_of h)
      → (over : (forgotten : List Entry) × KeepsOver forgotten h) → (onward : List Entry) × KeepsOver onward after
  step_over x was before last runs step n m lt here there told may over =
      let log : List Entry = whole_log over.0 h.book in
      let was_fit : DeviceFits log d (device_of x was) =
      subst (DeviceFits log d) (λ i. device_of (here i) (there i)) (device_fits log (length h.book.names) h.inlets h.ends d x was n m lt over.1.hub.devices) in
      let fit = step.fits log told was_fit in
      ⊎_elim (λ (t : (book ≡ h.book) × (step.entries ≡ [])). (over.0, still_over step.entries over.0 t.0 t.1 step.quiet fit over.1))
      (λ (onward : Onward h.book book step.entries). moved_over step.entries over.0 onward step.quiet fit may (not_all log (device_of x was) runs lt was_fit) over.1) step.adds

-- what the entries of devices leave of a book and its sessions
record Leaves (old new : BookView) : Type 0 where
  names : new.names ≡ old.names
  limit : new.log.limit ≡ old.log.limit
  requests : new.most_requests ≡ old.most_requests
  segments : map segment_of new.units ≡ map segment_of old.units
  session_names : map (λ (a : MemberView). a.session.name) new.sessions ≡ map (λ (a : MemberView). a.session.name) old.sessions
  caps : map (λ (a : MemberView). a.session.cap) new.sessions ≡ map (λ (a : MemberView). a.session.cap) old.sessions
  closed : All IsClosed old.sessions → All IsClosed new.sessions

moves_leave : (old new : BookView) (entries : List Entry) → BookHolds old → MovesOn old new entries → Leaves old new
moves_leave old new entries held moves =
    ⊎_elim
    (λ (t : (new ≡ old) × (entries ≡ [])). subst (λ (b : BookView). Leaves old b) (sym t.0)
    (record { names = refl; limit = refl; requests = refl; segments = refl; session_names = refl; caps = refl; closed = λ all. all }))
    (λ (onward : Onward old new entries).
    record {
      names = (onward.goes held.log.some.0 held.log.some.1).names;
      limit = onward.limit;
      requests = onward.requests;
      segments = onward.segments;
      session_names = zip_maps Abides (λ (a : MemberView). a.session.name) (λ a b o. o.name) old.sessions new.sessions onward.abides;
      caps = zip_maps Abides (λ (a : MemberView). a.session.cap) (λ a b o. o.cap) old.sessions new.sessions onward.abides;
      closed = zip_all Abides IsClosed abides_closed old.sessions new.sessions onward.abides;
    })
    moves

-- what is kept of the lanes' endings
pub last_told : (inlets : List InletsView) (lasts : List Lasts) (d : ℕ) (x : InletsView) (l : Lasts) → d < length inlets → get_or inlets d x ≡ x → get_or lasts d l ≡ l
    → lasts ≡ map told_of inlets → l ≡ told_of x
last_told inlets lasts d x l lt here now told = sym now ∙ ap (λ ls. get_or ls d l) told ∙ get_or-map told_of inlets d x l lt ∙ ap told_of here

lasts_set : (inlets : List InletsView) (d : ℕ) (y : InletsView) (last : Lasts) → last ≡ told_of y → set (map told_of inlets) d last ≡ map told_of (set inlets d y)
lasts_set [] d y last is = refl
lasts_set (x ∷ inlets) zero y last is = ap (λ l. l ∷ map told_of inlets) is
lasts_set (x ∷ inlets) (suc d) y last is = ap (λ l. told_of x ∷ l) (lasts_set inlets d y last is)

-- something came of one device
pub hub_device : (terms : Terms) (h : HubView) (lasts : List Lasts) (d : ℕ) (book : BookView) (x y : InletsView) (was end : Option DeviceEnd) (before last : Lasts)
    → HubKeeps terms h lasts → d < length h.book.names → get_or h.inlets d x ≡ x → get_or h.ends d was ≡ was → get_or lasts d before ≡ before → was ≡ None
    → MayGoOn (parts_of h) → BookHolds book → names_of y ≡ names_of x → LaneIsRead y → DeviceStep d h.book book x y was end before last
    → HubKeeps terms (record h { book = book; inlets = set h.inlets d y; ends = set h.ends d end }) (set lasts d last)
hub_device terms h lasts d book x y was end before last k lt here there now runs may held names read step =
    let left = moves_leave h.book book step.entries k.holds step.adds in
    let count : length book.names ≡ length h.book.names = ap length left.names in
    let lanes : map names_of (set h.inlets d y) ≡ map names_of h.inlets = map-set_same names_of h.inlets d y x (names ∙ ap names_of (sym here)) in
    let told = last_told h.inlets lasts d x before (let n = k.count in omega arith) here now k.told in
    record {
      holds = held;
      terms_are =
          (λ i. record { names = left.names i; limit = left.limit i; requests = left.requests i; lanes = lanes i; segments = left.segments i; wait = h.wait }) ∙ k.terms_are;
      count = length-set h.inlets d y ∙ k.count ∙ sym count;
      ends_count = length-set h.ends d end ∙ k.ends_count ∙ sym count;
      told = ap (λ l. set l d last) k.told ∙ lasts_set h.inlets d y last (step.told told);
      admitted = record { outlets = tables_stay h.book.sessions book.sessions left.session_names ∙ k.admitted.outlets; caps = left.caps ∙ k.admitted.caps; inputs_are = k.admitted.inputs_are };
      closed = λ is. left.closed (k.closed is);
      read = All-set LaneIsRead h.inlets d y read k.read;
      clients = clients_stay terms h.book.sessions book.sessions h.inputs left.session_names k.clients;
      over = step_over h d book y end x was before last runs step k.count k.ends_count lt here there told may k.over;
    }

-- the session at a place
pub member_at : (sessions : List MemberView) (s : ℕ) (free was : MemberView) → s < length sessions → slice_get sessions s ≡ Some was → get_or sessions s free ≡ was
member_at sessions s free was lt there = ap (member_or was) (sym (slice_get-get_or sessions s free lt) ∙ there)
  where
    member_or : MemberView → Option MemberView → MemberView
    member_or other None = other
    member_or other (Some a) = a

-- something came of one session
module _ (h : HubView) (s : ℕ) (next : MemberView) (y : Taking Piece) where
  abbrev answered_book : BookView
  answered_book = record h.book { sessions = slice_set h.book.sessions s next }

  session_over : (x : Taking Piece) (was : MemberView) → ((free : MemberView) → get_or h.book.sessions s free ≡ was) → s < length h.book.sessions → get_or h.inputs s x ≡ x
      → (was.watched ≡ true → next.watched ≡ true)
      → ((before : List Entry) → StandsFor h.book.log.opening before → SessionFits h.book.names before h.book.log.log was x → SessionFits h.book.names before h.book.log.log next y)
      → (forgotten : List Entry) → KeepsOver forgotten h → KeepsOver forgotten (record h { book = answered_book; inputs = set h.inputs s y })
  session_over x was there lt here watched fits forgotten k =
      let F : MemberView → Taking Piece → Type 0 = SessionFits h.book.names forgotten h.book.log.log in
      let was_fit : F was x =
      subst (λ (t : MemberView × Taking Piece). F t.0 t.1) (λ i. (there was i, here i)) (zip_at F h.book.sessions h.inputs s was x k.hub.sessions lt) in
      let grows = λ (free : MemberView) (e : (get_or h.book.sessions s free).watched ≡ true). watched (ap (λ (a : MemberView). a.watched) (sym (there free)) ∙ e) in
      record {
        hub = record {
          opening = k.hub.opening;
          devices = k.hub.devices;
          sessions = zip_set F h.book.sessions h.inputs s next y (fits forgotten k.hub.opening was_fit) k.hub.sessions;
          units = k.hub.units;
          waits = ⊎_elim
              (λ (m : MayGoOn (parts_of h)). inl (go_on h.wait h.wait (count_by was_watched h.book.sessions) (count_by was_watched answered_book.sessions) h.door.done (set_watched h.book.sessions s next grows) m))
              (λ (e : whole_log forgotten h.book ≡ []). inr e) k.hub.waits;
        };
        shut = k.shut;
      }

pub hub_session : (terms : Terms) (h : HubView) (lasts : List Lasts) (s : ℕ) (book : BookView) (x y : Taking Piece)
    → HubKeeps terms h lasts → s < length h.book.sessions → get_or h.inputs s x ≡ x → BookHolds book → y.about ≡ x.about → AreDue y.about y.got
    → SessionStep s h.book book x y → HubKeeps terms (record h { book = book; inputs = set h.inputs s y }) lasts
hub_session terms h lasts s book x y k lt here held about heard step =
    let answered : BookView = answered_book h s step.next y in
    let is : answered ≡ book = λ i. record { names = sym step.same.names i; most_requests = sym step.same.requests i; log = sym step.same.log i; sessions = sym step.sets i; units = sym step.same.units i } in
    let there = λ (free : MemberView). member_at h.book.sessions s free step.was lt step.there in
    let was_is = there step.was in
    let P : BookView → Type 0 = λ b. BookHolds b → HubKeeps terms (record h { book = b; inputs = set h.inputs s y }) lasts in
    subst P is
    (λ holds.
    record {
      holds = holds;
      terms_are = k.terms_are;
      count = k.count;
      ends_count = k.ends_count;
      told = k.told;
      admitted = record {
        outlets = map-set_same (λ (a : MemberView). table_of a.session.name) h.book.sessions s step.next step.was
            (ap table_of (step.name ∙ ap (λ (a : MemberView). a.session.name) (sym was_is))) ∙ k.admitted.outlets;
        caps = map-set_same (λ (a : MemberView). a.session.cap) h.book.sessions s step.next step.was (step.cap ∙ ap (λ (a : MemberView). a.session.cap) (sym was_is)) ∙ k.admitted.caps;
        inputs_are = map-set_same (λ (t : Taking Piece). t.lane) h.inputs s y x (step.lane ∙ ap (λ (t : Taking Piece). t.lane) (sym here)) ∙ k.admitted.inputs_are;
      };
      closed = λ shut. All-set IsClosed h.book.sessions s step.next (step.stays_closed (subst IsClosed was_is (k.closed shut s step.was lt))) (k.closed shut);
      read = k.read;
      clients = zip_set (ServesClient terms) h.book.sessions h.inputs s step.next y
          (serves_on terms step.was step.next x y step.name about heard
          (subst (λ (t : MemberView × Taking Piece). ServesClient terms t.0 t.1) (λ i. (was_is i, here i)) (zip_at (ServesClient terms) h.book.sessions h.inputs s step.was x k.clients lt)))
          k.clients;
      over = (k.over.0, session_over h s step.next y x step.was there lt here step.watched step.fits k.over.0 k.over.1);
    }) held
