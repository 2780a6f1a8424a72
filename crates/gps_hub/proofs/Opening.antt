-- A session is admitted, or is not.
use Rattle.std.proofs.Common.{◌≡◌, ℕ, ◌≤◌, ◌||◌, ◌⊎◌, inl, inr, Bool, true, false, cond, nat_eq, List, [], ◌∷◌, ◌++◌, length, map, Option, Some, None, refl, sym, ap, ◌∙◌, subst, arith, eqb-true}
use Rattle.std.specs.Prelude.{Result, Ok, Err}
use Rattle.std.specs.List.{list_all}
use Rattle.std.proofs.lemmas.List.Sums.{count_by-le-length}
use Rattle.atomic_table.specs.Seated.{TableId}
use Rattle.book_log.specs.DeviceLogView.{DeviceLogView}
use Rattle.book_log.specs.Standing.{has_stopped}
use Rattle.book_sessions.specs.MemberView.{MemberView, is_open}
use Rattle.book_sessions.specs.Roster.{live_in, most_live, most_opened}
use Rattle.gps_lane.specs.Ends.{Putting, Taking}
use Rattle.hub_door.specs.Admissions.{LinkDrop, SessionLanes, admitting, dropping, link_of}
use Rattle.report_book.specs.BookView.{BookView}
use Rattle.report_book.specs.Moves.{Admits}
use Rattle.report_book.specs.Refusals.{RefusesWith, crowd_fault}
use Rattle.report_book.specs.Standing.{BookHolds}
use Rattle.report_book.specs.declared.fault.BookFault.{BookFault}
use Rattle.report_book.specs.declared.fault.BookFault.TheVariants.{TooManySessions, NoMemory}
use Rattle.gps_lane.specs.declared.piece.Piece.{Piece}
use Rattle.session_core.specs.Naming.{of_table, table_of}
use Rattle.hub_promise.specs.Keeping.{HubKeeps, Lasts}
use Rattle.hub_promise.specs.Parts.{AreAdmitted, HubView, Terms, subject_of}
use Rattle.hub_promise.proofs.Calls.{hub_admit}
use Rattle.hub_promise.proofs.Hubs.{map_length}
use Rattle.hub_promise.proofs.Shutting.{ended_there, hub_shut}
use Rattle.gps_hub.specs.Admitting.{IsCrowded, RefusesLink, ShutIf, fault_or_memory}

-- each device of a book that was shut has stopped
pub shut_ended : (terms : Terms) (h : HubView) (lasts : List Lasts) → HubKeeps terms h lasts → h.is_shut ≡ true → list_all (λ line. has_stopped line.stage) h.book.log.present.lines ≡ true
shut_ended terms h lasts k is = ended_there h.book k.over.0 k.holds k.over.1.hub.opening (k.over.1.shut is)

-- with one more session
abbrev opened_hub : HubView → TableId → ℕ → Taking Piece → BookView → Bool → HubView
opened_hub h outlet room x book is_shut = record h { book = book; inputs = h.inputs ++ x ∷ []; door = admitting (link_of outlet room x.lane) h.door; is_shut = is_shut }

pub opened_keeps : (terms : Terms) (h : HubView) (lasts : List Lasts) (mid book : BookView) (outlet : TableId) (cap : ℕ) (x : Taking Piece)
    → HubKeeps terms h lasts → BookHolds mid → BookHolds book → Admits (of_table outlet (subject_of terms x.about.source)) cap h.book mid → ShutIf h.is_shut mid book → x.got ≡ []
    → HubKeeps terms (record h { book = book; inputs = h.inputs ++ x ∷ []; door = admitting (link_of outlet cap x.lane) h.door }) lasts
opened_keeps terms h lasts mid book outlet room x k mid_holds holds admits shuts none =
    by_shut h.is_shut refl shuts (hub_admit terms h lasts mid outlet room x k mid_holds admits none)
  where
    by_shut : (b : Bool) → h.is_shut ≡ b → ShutIf b mid book → HubKeeps terms (opened_hub h outlet room x mid false) lasts → HubKeeps terms (opened_hub h outlet room x book h.is_shut) lasts
    by_shut false is same admitted =
        let P : BookView × Bool → Type 0 = λ t. HubKeeps terms (opened_hub h outlet room x t.0 t.1) lasts in
        subst P (λ i. (sym same i, sym is i)) admitted
    by_shut true is shut admitted =
        let L : DeviceLogView → Type 0 = λ l. list_all (λ line. has_stopped line.stage) l.present.lines ≡ true in
        let P : Bool → Type 0 = λ b. HubKeeps terms (opened_hub h outlet room x book b) lasts in
        subst P (sym is)
        (hub_shut terms (opened_hub h outlet room x mid false) lasts book admitted holds (subst L (sym admits.same.log) (shut_ended terms h lasts k is)) shut)

-- the number of a new session is that of those that were admitted before it
pub numbered : (links : List SessionLanes) (sessions : List MemberView) (inputs : List (Taking Piece)) → AreAdmitted links sessions inputs → length sessions ≡ length links
numbered links sessions inputs admitted =
    sym (map_length (λ (a : MemberView). table_of a.session.name) sessions) ∙ ap length admitted.outlets ∙ map_length (λ (l : SessionLanes). Some l.outlet) links

pub refuses_again : (X O I : Type 0) (o now : Option BookFault) (outlet : O) (input : I) (fault : BookFault) → o ≡ now → RefusesWith {X = X} o (Err (outlet, fault)) → RefusesLink {X = X} now (Err (outlet, input, fault))
refuses_again X O I o now outlet input fault same refused = by_fault now (subst (λ (t : Option BookFault). RefusesWith {X = X} t (Err (outlet, fault))) same refused)
  where
    fault_in : BookFault → Result X (O × BookFault) → BookFault
    fault_in other (Ok x) = other
    fault_in other (Err refusal) = refusal.1

    by_fault : (t : Option BookFault) → RefusesWith {X = X} t (Err (outlet, fault)) → RefusesLink {X = X} t (Err (outlet, input, fault))
    by_fault (Some found) again = (outlet, input, ap (λ f. Err (outlet, input, f)) (ap (fault_in found) again.1))
    by_fault None again = again

pub not_refused : (X O I : Type 0) (o now : Option BookFault) (x : X) → o ≡ now → RefusesWith {X = X} {O = O} o (Ok x) → RefusesLink {X = X} {O = O} {I = I} now (Ok x)
not_refused X O I o now x same refused = by_fault now (subst (λ (t : Option BookFault). RefusesWith {X = X} {O = O} t (Ok x)) same refused)
  where
    by_fault : (t : Option BookFault) → RefusesWith {X = X} {O = O} t (Ok x) → RefusesLink {X = X} {O = O} {I = I} t (Ok x)
    by_fault (Some found) again = absurd (cc (again.1))
    by_fault None again = tt

-- if the number of live sessions or of opened ones is at its limit, at least 64 were opened
many : (live opened : ℕ) → live ≤ opened → nat_eq live most_live || nat_eq opened most_opened ≡ true → 64 ≤ opened
many live opened few is = by_live (nat_eq live most_live) refl is
  where
    by_live : (b : Bool) → nat_eq live most_live ≡ b → b || nat_eq opened most_opened ≡ true → 64 ≤ opened
    by_live true same is = omega (arith, few, eqb-true live most_live same)
    by_live false other is = let all : nat_eq opened most_opened ≡ true = is in omega (arith, eqb-true opened most_opened all)

which : (live opened : ℕ) → nat_eq live most_live || nat_eq opened most_opened ≡ true → (live ≡ most_live) ⊎ (opened ≡ most_opened)
which live opened is = by_live (nat_eq live most_live) refl is
  where
    by_live : (b : Bool) → nat_eq live most_live ≡ b → b || nat_eq opened most_opened ≡ true → (live ≡ most_live) ⊎ (opened ≡ most_opened)
    by_live true same is = inl (eqb-true live most_live same)
    by_live false other is = inr (eqb-true opened most_opened is)

pub crowded : (b : BookView) → IsCrowded (fault_or_memory (crowd_fault b)) b
crowded b = by_crowd (nat_eq (live_in b.sessions) most_live || nat_eq (length b.sessions) most_opened) refl
  where
    by_crowd : (full : Bool) → nat_eq (live_in b.sessions) most_live || nat_eq (length b.sessions) most_opened ≡ full
        → IsCrowded (fault_or_memory (cond full (Some (TooManySessions (live_in b.sessions) (length b.sessions))) None)) b
    by_crowd true is = record {
      bound = which (live_in b.sessions) (length b.sessions) is;
      some = many (live_in b.sessions) (length b.sessions) (count_by-le-length is_open b.sessions) is;
    }
    by_crowd false is = tt

-- a link was dropped
pub hub_drop : (terms : Terms) (h : HubView) (lasts : List Lasts) (drop : LinkDrop) → HubKeeps terms h lasts → HubKeeps terms (record h { door = dropping drop h.door }) lasts
hub_drop terms h lasts drop k = record {
  holds = k.holds;
  terms_are = k.terms_are;
  count = k.count;
  ends_count = k.ends_count;
  told = k.told;
  admitted = k.admitted;
  closed = k.closed;
  read = k.read;
  clients = k.clients;
  over = (k.over.0, record { hub = k.over.1.hub; shut = k.over.1.shut });
}

-- the fault of a refusal
pub fault_of : (X O : Type 0) (o : Option BookFault) (outlet : O) (fault : BookFault) → RefusesWith {X = X} o (Err (outlet, fault)) → fault ≡ fault_or_memory o
fault_of X O (Some found) outlet fault refused = ap (fault_in found) refused.1
  where
    fault_in : BookFault → Result X (O × BookFault) → BookFault
    fault_in other (Ok x) = other
    fault_in other (Err refusal) = refusal.1
fault_of X O None outlet fault refused = refused
