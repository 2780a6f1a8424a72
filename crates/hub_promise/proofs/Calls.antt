-- A unit's step, the door, an admission, the beginning and the end.
use Rattle.std.proofs.Common.{◌≡◌, ◌≢◌, ◌<◌, ◌≤◌, ℕ, ◌+◌, Bool, true, false, List, [], ◌∷◌, ◌++◌, length, map, get_or, set, Option, None, refl, sym, ap, ◌∙◌, subst, inl, inr, ◌⊎◌, ⊎_elim, arith, nat_eq, get_or-set_same, get_or-set_other, length-set, Some}
use Rattle.std.specs.Prelude.{count_by, slice_set}
use Rattle.std.specs.List.{All, AllZip, range_with_len}
use Rattle.std.proofs.Math.Seq.{map-set_same}
use Rattle.std.proofs.lemmas.List.Elements.{All-head, All-tail}
use Rattle.std.proofs.lemmas.List.{map-append}
use Rattle.book_log.specs.Entries.{Entry}
use Rattle.book_sessions.specs.MemberView.{MemberView, opened}
use Rattle.book_sessions.specs.Roster.{was_watched}
use Rattle.book_units.specs.Samples.{samples_of}
use Rattle.book_units.specs.Steps.{PublishesAs}
use Rattle.book_units.specs.Units.{UnitView, all_of, segment_of}
use Rattle.book_units.specs.declared.unit.UnitStep.{UnitStep}
use Rattle.book_units.specs.declared.unit.UnitStep.TheVariants.{Stored, Empty, Spent}
use Rattle.gps_lane.specs.Ends.{Taking}
use Rattle.atomic_table.specs.Seated.{TableId}
use Rattle.hub_door.specs.Admissions.{SessionLanes, admitting, finished, link_of, none_yet}
use Rattle.report_book.specs.BookView.{BookView}
use Rattle.report_book.specs.Moves.{Admits, PublishesAt}
use Rattle.report_book.specs.Standing.{BookHolds}
use Rattle.gps_lane.specs.Carried.{input_bytes}
use Rattle.gps_lane.specs.declared.piece.Piece.{Piece}
use Rattle.session_core.specs.Naming.{OutletName, of_table, table_of}
use Rattle.session_runs.specs.Accounts.{Account}
use Rattle.session_runs.specs.Following.{opened_run}
use Rattle.session_runs.proofs.Whole.{nothing_after}
use Rattle.session_runs.proofs.Accounting.{admitted_account}
use Rattle.session_runs.proofs.Zipping.{zip_push}
use Rattle.shm_segment.specs.Publishing.{Publishing}
use Rattle.hub_promise.specs.declared.ends.DeviceEnd.{DeviceEnd}
use Rattle.hub_promise.specs.DaemonHub.{DaemonHub, DeviceFits, MayGoOn, SessionFits, UnitFits, whole_log}
use Rattle.hub_promise.specs.Given.{edge_ending, ending_of}
use Rattle.hub_promise.specs.Keeping.{HubKeeps, IsUnused, Lasts, NothingGot, fresh_lasts, no_end, told_of, ServesClient}
use Rattle.hub_promise.specs.Parts.{HubView, InletsView, Terms, device_of, devices_of, names_of, parts_of, terms_of, subject_of}
use Rattle.hub_promise.proofs.Reading.{log_is, logs_read, none_read, none_held}
use Rattle.hub_promise.proofs.Hubs.{map_length}
use Rattle.hub_promise.proofs.Lists.{numbered_at, numbered_set, push_watched}

step_segment : (step : UnitStep) (old new : UnitView) → PublishesAs old step new → segment_of new ≡ segment_of old
step_segment (Stored word value) old new does =
    ap (λ (p : Publishing). p.segment) does.2.0.becomes
    ∙ ⊎_elim (λ t. ap segment_of t.1) (λ t. ap segment_of t.2.2) does.1
step_segment Empty old new does = ap segment_of does.2
step_segment Spent old new does = ap segment_of does.3

pub hub_publish : (terms : Terms) (h : HubView) (lasts : List Lasts) (u : ℕ) (step : UnitStep) (book : BookView)
    → HubKeeps terms h lasts → u < length h.book.units → BookHolds book → PublishesAt u step h.book book → HubKeeps terms (record h { book = book }) lasts
hub_publish terms h lasts u step book k lt held p =
    let next = p.units.next in
    let stepped : BookView = record h.book { units = slice_set h.book.units u next } in
    let is : stepped ≡ book = λ i. record { names = sym p.names i; most_requests = sym p.requests i; log = sym p.log i; sessions = sym p.sessions i; units = sym p.units.units i } in
    let P : BookView → Type 0 = λ b. BookHolds b → HubKeeps terms (record h { book = b }) lasts in
    let log : List Entry = whole_log k.over.0 h.book in
    let segments = map-set_same segment_of h.book.units u next next (step_segment step (get_or h.book.units u next) next (p.units.steps next).does) in
    subst P is (λ holds.
    record {
      holds = holds;
      terms_are = (λ i. record { names = h.book.names; limit = h.book.log.limit; requests = h.book.most_requests; lanes = map names_of h.inlets; segments = segments i; wait = h.wait }) ∙ k.terms_are;
      count = k.count;
      ends_count = k.ends_count;
      told = k.told;
      admitted = k.admitted;
      closed = k.closed;
      read = k.read;
      clients = k.clients;
      over = (
        k.over.0,
        record {
          hub = record {
            opening = k.over.1.hub.opening;
            devices = k.over.1.hub.devices;
            sessions = k.over.1.hub.sessions;
            units = subst (λ (n : ℕ). AllZip (UnitFits log) (range_with_len 0 n) (set h.book.units u next)) (sym (length-set h.book.units u next))
                (numbered_set (UnitFits log) (UnitFits log) (length h.book.units) h.book.units u next (λ v x other fit. fit)
                ((p.units.steps next).all ∙ numbered_at (UnitFits log) (length h.book.units) h.book.units u next k.over.1.hub.units lt) k.over.1.hub.units);
            waits = k.over.1.hub.waits;
          };
          shut = k.over.1.shut;
        },
      );
    }) held

pub hub_done : (terms : Terms) (h : HubView) (lasts : List Lasts) → HubKeeps terms h lasts → HubKeeps terms (record h { door = finished h.door }) lasts
hub_done terms h lasts k =
    record {
      holds = k.holds;
      terms_are = k.terms_are;
      count = k.count;
      ends_count = k.ends_count;
      told = k.told;
      admitted = k.admitted;
      closed = k.closed;
      read = k.read;
      clients = k.clients;
      over = (
        k.over.0,
        record {
          hub = record {
            opening = k.over.1.hub.opening;
            devices = k.over.1.hub.devices;
            sessions = k.over.1.hub.sessions;
            units = k.over.1.hub.units;
            waits = inl (inr refl);
          };
          shut = k.over.1.shut;
        },
      );
    }

pub hub_admit : (terms : Terms) (h : HubView) (lasts : List Lasts) (book : BookView) (outlet : TableId) (cap : ℕ) (x : Taking Piece) → HubKeeps terms h lasts → BookHolds book
    → Admits (of_table outlet (subject_of terms x.about.source)) cap h.book book → x.got ≡ []
    → HubKeeps terms (record h { book = book; inputs = h.inputs ++ x ∷ []; door = admitting (link_of outlet cap x.lane) h.door; is_shut = false }) lasts
hub_admit terms h lasts book outlet cap x k held admits none =
    let name : OutletName = of_table outlet (subject_of terms x.about.source) in
    let newcomer : MemberView = opened name cap h.book.most_requests h.book.log.length in
    let grown : BookView = record h.book { sessions = h.book.sessions ++ newcomer ∷ [] } in
    let is : grown ≡ book = λ i. record { names = sym admits.same.names i; most_requests = sym admits.same.requests i; log = sym admits.same.log i; sessions = sym admits.sessions i; units = sym admits.same.units i } in
    let P : BookView → Type 0 = λ b. Admits name cap h.book b → BookHolds b
    → HubKeeps terms (record h { book = b; inputs = h.inputs ++ x ∷ []; door = admitting (link_of outlet cap x.lane) h.door; is_shut = false }) lasts in
    let link = link_of outlet cap x.lane in
    let forgotten = k.over.0 in
    let log : List Entry = forgotten ++ h.book.log.log in
    subst P is (λ mine holds.
    let account = admitted_account name cap h.book grown forgotten k.holds k.over.1.hub.opening mine in
    record {
      holds = holds;
      terms_are = k.terms_are;
      count = k.count;
      ends_count = k.ends_count;
      told = k.told;
      admitted = record {
        outlets = map-append (λ (a : MemberView). table_of a.session.name) h.book.sessions (newcomer ∷ []) ∙ ap (λ l. l ++ Some outlet ∷ []) k.admitted.outlets ∙ sym (map-append (λ (l : SessionLanes). Some l.outlet) h.door.links (link ∷ []));
        caps = map-append (λ (a : MemberView). a.session.cap) h.book.sessions (newcomer ∷ []) ∙ ap (λ l. l ++ cap ∷ []) k.admitted.caps ∙ sym (map-append (λ (l : SessionLanes). l.cap) h.door.links (link ∷ []));
        inputs_are = map-append (λ (t : Taking Piece). t.lane) h.inputs (x ∷ []) ∙ ap (λ l. l ++ x.lane ∷ []) k.admitted.inputs_are ∙ sym (map-append (λ (l : SessionLanes). l.input) h.door.links (link ∷ []));
      };
      closed = λ e. absurd (cc);
      read = k.read;
      clients = zip_push (ServesClient terms) h.book.sessions h.inputs newcomer x (record { table = outlet; name = refl; heard = none_held x none }) k.clients;
      over = (
        forgotten,
        record {
          hub = record {
            opening = k.over.1.hub.opening;
            devices = k.over.1.hub.devices;
            sessions = zip_push (SessionFits h.book.names forgotten h.book.log.log) h.book.sessions h.inputs newcomer x
                (record { run = opened_run log; account = subst (λ (b : List ℕ). Account h.book.names forgotten h.book.log.log newcomer (opened_run log) [] b) (sym (ap input_bytes none)) account; cause = tt })
                k.over.1.hub.sessions;
            units = k.over.1.hub.units;
            waits = ⊎_elim
                (λ (m : MayGoOn (parts_of h)). inl (⊎_elim (λ (e : h.wait ≤ count_by was_watched h.book.sessions). let more = push_watched h.book.sessions newcomer in inl (omega arith)) (λ (e : h.door.done ≡ true). inr e) m))
                (λ (e : log ≡ []). inr e) k.over.1.hub.waits;
          };
          shut = λ e. absurd (cc);
        },
      );
    }) admits held

-- ---- the beginning

fresh_fits : (d : ℕ) (x : InletsView) → NothingGot x → DeviceFits [] d (device_of x None)
fresh_fits d x none =
    record {
      taken = [];
      refused = [];
      lines = [];
      refused_lines = [];
      lane = none.0;
      edge_lane = none.1;
      few = omega arith;
      bytes = refl;
      edges = refl;
      ends = refl;
      ended = refl;
      lost = refl;
    }

fresh_devices : (n : ℕ) (inlets : List InletsView) → All NothingGot inlets → AllZip (DeviceFits []) (range_with_len n (length inlets)) (devices_of inlets (map no_end inlets))
fresh_devices n [] none = tt
fresh_devices n (x ∷ inlets) none = (fresh_fits n x (All-head NothingGot x inlets none), fresh_devices (n + 1) inlets (All-tail NothingGot x inlets none))

fresh_units : (n : ℕ) (units : List UnitView) → All (λ (u : UnitView). all_of u ≡ []) units → AllZip (UnitFits []) (range_with_len n (length units)) units
fresh_units n [] none = tt
fresh_units n (u ∷ units) none =
    let P : UnitView → Type 0 = λ x. all_of x ≡ [] in
    (All-head P u units none ∙ sym (ap (samples_of n) (nothing_after [])), fresh_units (n + 1) units (All-tail P u units none))

fresh_told : (inlets : List InletsView) → All NothingGot inlets → map fresh_lasts inlets ≡ map told_of inlets
fresh_told [] none = refl
fresh_told (x ∷ inlets) none =
    let mine = All-head NothingGot x inlets none in
    let one : fresh_lasts x ≡ told_of x = λ i. record { bytes = ending_of (sym mine.0 i); edges = edge_ending x.edges (sym mine.1 i) } in
    let rest = fresh_told inlets (All-tail NothingGot x inlets none) in
    λ i. one i ∷ rest i

pub hub_new : (terms : Terms) (book : BookView) (inlets : List InletsView) (wait : ℕ) → BookHolds book → IsUnused book → terms ≡ terms_of book inlets wait → length inlets ≡ length book.names → All NothingGot inlets
    → HubKeeps terms (record { book = book; inlets = inlets; ends = map no_end inlets; inputs = []; door = none_yet; wait = wait; is_shut = false }) (map fresh_lasts inlets)
hub_new terms book inlets wait held unused is count none =
    let D : List Entry × ℕ → Type 0 = λ t. AllZip (DeviceFits t.0) (range_with_len 0 t.1) (devices_of inlets (map no_end inlets)) in
    record {
      holds = held;
      terms_are = sym is;
      count = count;
      ends_count = map_length no_end inlets ∙ count;
      told = fresh_told inlets none;
      admitted = record { outlets = ap (map (λ (a : MemberView). table_of a.session.name)) unused.sessions; caps = ap (map (λ (a : MemberView). a.session.cap)) unused.sessions; inputs_are = refl };
      closed = λ e. absurd (cc);
      read = none_read inlets none;
      clients = subst (λ (l : List MemberView). AllZip (ServesClient terms) l []) (sym unused.sessions) tt;
      over = (
        [],
        record {
          hub = record {
            opening = unused.opening;
            devices = subst D (λ i. (sym unused.log i, count i)) (fresh_devices 0 inlets none);
            sessions = subst (λ (l : List MemberView). AllZip (SessionFits book.names [] book.log.log) l []) (sym unused.sessions) tt;
            units = subst (λ (l : List Entry). AllZip (UnitFits l) (range_with_len 0 (length book.units)) book.units) (sym unused.log) (fresh_units 0 book.units unused.units);
            waits = inr unused.log;
          };
          shut = λ e. absurd (cc);
        },
      );
    }

pub hub_agrees : (terms : Terms) (h : HubView) (lasts : List Lasts) → HubKeeps terms h lasts → DaemonHub (parts_of h)
hub_agrees terms h lasts k =
    let log : List Entry = whole_log k.over.0 h.book in (
      k.over.0,
      k.over.1.hub,
      logs_read log (range_with_len 0 (length h.book.names)) h.inlets h.ends k.over.1.hub.devices k.read,
      log_is h.book k.over.0 k.holds k.over.1.hub.opening,
    )
