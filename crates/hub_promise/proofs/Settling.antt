-- The lanes of a closed session are settled: it goes on fitting the log, whatever is still got of its input lane.
use Rattle.std.proofs.Common.{◌≡◌, ◌<◌, ◌≤◌, ℕ, true, List, [], ◌∷◌, ◌++◌, length, get_or, set, Option, Some, None, refl, sym, ap, ◌∙◌, subst, append-nil, append_assoc, drop, arith}
use Rattle.std.specs.Prelude.{is_some, option_and_then, option_to_list, nat_lt, slice_get, Result, IsOk}
use Rattle.std.specs.Option.{option_or}
use Rattle.std.proofs.lemmas.Bool.Decides.{nat_tests}
use Rattle.std.proofs.lemmas.List.{get_or-map}
use Rattle.std.proofs.lemmas.List.Concat.{flat_map-append}
use Rattle.atomic_table.specs.Seated.{TableId}
use Rattle.book_log.specs.Entries.{Entry}
use Rattle.book_sessions.specs.MemberView.{MemberView}
use Rattle.gps_lane.specs.Ends.{Taking}
use Rattle.gps_fixed.specs.Lists.{IsPrefix}
use Rattle.hub_door.specs.Admissions.{SessionLanes, link_of}
use Rattle.report_book.specs.BookView.{BookView}
use Rattle.report_book.specs.Refusals.{RefusesOnly, missing, missing_session}
use Rattle.report_book.specs.declared.fault.BookFault.{BookFault}
use Rattle.gps_lane.specs.Carried.{input_bytes, input_part}
use Rattle.gps_lane.specs.declared.piece.Ending.{Ending}
use Rattle.gps_lane.specs.declared.piece.Piece.{Piece}
use Rattle.session_core.specs.declared.mark.Close.{Close}
use Rattle.session_core.specs.declared.subject.Subject.{Subject}
use Rattle.session_core.specs.Naming.{OutletName, alone, of_table, table_of}
use Rattle.session_runs.specs.Accounts.{Account}
use Rattle.session_runs.proofs.Accounting.{closed_hears}
use Rattle.hub_promise.specs.DaemonHub.{SessionFits}
use Rattle.hub_promise.specs.Given.{TellsOnce, ending_in, ending_of}
use Rattle.hub_promise.specs.Keeping.{HubKeeps, IsClosed, Lasts}
use Rattle.hub_promise.specs.Parts.{AreAdmitted, HubView, Terms}
use Rattle.hub_promise.specs.Steps.{GetsMore, SessionStep}
use Rattle.hub_promise.proofs.Going.{closed_at}
use Rattle.hub_promise.proofs.Hubs.{hub_session, map_length, member_at}
use Rattle.hub_promise.proofs.Sessions.{cause_on, nobody, still_step}
use Rattle.gps_lane.specs.Held.{AreDue}

-- ---- a lane tells once how its source ended

untold_both : (later first : Option Ending) → option_or later first ≡ None → (later ≡ None) × (first ≡ None)
untold_both None first e = (refl, e)
untold_both (Some x) first e = absurd (cc)

told_later : (later first : Option Ending) → is_some (option_or later first) ≡ true → first ≡ None → is_some later ≡ true
told_later None first told none = let not = ap is_some none in absurd (cc)
told_later (Some x) first told none = refl

back_none : (xs ys : List Piece) → xs ++ ys ≡ [] → ys ≡ []
back_none [] ys e = e
back_none (x ∷ xs) ys e = absurd (cc)

front_none : (xs ys : List Piece) → xs ++ ys ≡ [] → xs ≡ []
front_none [] ys e = refl
front_none (x ∷ xs) ys e = absurd (cc)

none_after : (x : Piece) (xs : List Piece) → length (x ∷ xs) ≤ 1 → xs ≡ []
none_after x [] few = refl
none_after x (y ∷ xs) few = absurd (omega arith)

abbrev first_or : Piece → List Piece → Piece
first_or free [] = free
first_or free (x ∷ xs) = x

nothing_later : (first rest pieces last : List Piece) → first ++ rest ≡ pieces ++ last → length last ≤ 1 → ending_of pieces ≡ None → is_some (ending_of first) ≡ true → rest ≡ []
nothing_later [] rest pieces last is few untold told = absurd (cc)
nothing_later (f ∷ first) rest [] [] is few untold told = absurd (cc)
nothing_later (f ∷ first) rest [] (l ∷ last) is few untold told = back_none first rest (ap (drop 1) is ∙ none_after l last few)
nothing_later (f ∷ first) rest (p ∷ pieces) last is few untold told =
    let both = untold_both (ending_of pieces) (ending_in p) untold in
    let same : ending_in f ≡ None = ap (λ l. ending_in (first_or f l)) is ∙ both.1 in
    nothing_later first rest pieces last (ap (drop 1) is) few both.0 (told_later (ending_of first) (ending_in f) told same)

-- a lane into which at most one piece was put after those that do not tell how its source ended
pub tells_once : (put pieces last : List Piece) → put ≡ pieces ++ last → length last ≤ 1 → ending_of pieces ≡ None → TellsOnce put
tells_once put pieces last is few untold first rest parts told = nothing_later first rest pieces last (sym parts ∙ is) few untold told

-- ---- what is got of it

pub gets_none : (x : Taking Piece) → GetsMore x x
gets_none x = record { more = []; gets = λ i. record { lane = x.lane; about = x.about; got = sym (append-nil x.got) i }; untold = λ told. refl }

-- one more piece, or none
pub gets_one : (put : List Piece) (x y : Taking Piece) (piece : Option Piece) → TellsOnce put → y ≡ record x { got = x.got ++ option_to_list piece } → IsPrefix y.got put → GetsMore x y
gets_one put x y piece once gets begins = record {
  more = option_to_list piece;
  gets = gets;
  untold = λ told.
      front_none (option_to_list piece) begins.0
      (once x.got (option_to_list piece ++ begins.0)
      (begins.1 ∙ ap (λ (t : Taking Piece). t.got ++ begins.0) gets ∙ append_assoc x.got (option_to_list piece) begins.0) told);
}

got_still : (x y : Taking Piece) (gets : GetsMore x y) → is_some (ending_of x.got) ≡ true → y.got ≡ x.got
got_still x y gets told = ap (λ (t : Taking Piece). t.got) gets.gets ∙ ap (λ l. x.got ++ l) (gets.untold told) ∙ append-nil x.got

pub gets_on : (x y z : Taking Piece) → GetsMore x y → GetsMore y z → GetsMore x z
gets_on x y z one two = record {
  more = one.more ++ two.more;
  gets = two.gets ∙ ap (λ (t : Taking Piece). record t { got = t.got ++ two.more }) one.gets ∙ (λ i. record { lane = x.lane; about = x.about; got = append_assoc x.got one.more two.more i });
  untold = λ told.
      let none = one.untold told in
      let later = two.untold (ap (λ l. is_some (ending_of l)) (got_still x y one told) ∙ told) in
      λ i. none i ++ later i;
}

-- ---- a closed session goes on fitting the log

pub fits_on : (names : List (List ℕ)) (before log : List Entry) (a : MemberView) (x y : Taking Piece) → IsClosed a → GetsMore x y → SessionFits names before log a x → SessionFits names before log a y
fits_on names before log a x y closed gets f =
    let bytes : input_bytes y.got ≡ input_bytes x.got ++ input_bytes gets.more = ap (λ (t : Taking Piece). input_bytes t.got) gets.gets ∙ flat_map-append input_part x.got gets.more in
    record {
      run = f.run;
      account = subst (λ (b : List ℕ). Account names before log a f.run [] b) (sym bytes) (closed_hears names before log a f.run [] (input_bytes x.got) (input_bytes gets.more) closed f.account);
      cause = cause_on f.run.closing (length names) (before ++ log) x y a.session gets.more (ap (λ (t : Taking Piece). t.got) gets.gets) gets.untold f.cause;
    }

pub settled_step : (book : BookView) (s : ℕ) (x y : Taking Piece) → s < length book.sessions → ((free : MemberView) → IsClosed (get_or book.sessions s free)) → GetsMore x y → SessionStep s book book x y
settled_step book s x y lt closed gets =
    let still = still_step book s x lt in
    let was_closed : IsClosed still.was = subst IsClosed (member_at book.sessions s nobody still.was lt still.there) (closed nobody) in
    record {
      same = still.same;
      was = still.was;
      there = still.there;
      next = still.next;
      sets = still.sets;
      name = still.name;
      cap = still.cap;
      watched = still.watched;
      stays_closed = still.stays_closed;
      lane = ap (λ (t : Taking Piece). t.lane) gets.gets;
      fits = λ before stands f. fits_on book.names before book.log.log still.next x y (still.stays_closed was_closed) gets (still.fits before stands f);
    }

pub hub_settled : (terms : Terms) (h : HubView) (lasts : List Lasts) (s : ℕ) (x y : Taking Piece) → HubKeeps terms h lasts → s < length h.book.sessions
    → ((free : MemberView) → IsClosed (get_or h.book.sessions s free)) → get_or h.inputs s x ≡ x → GetsMore x y → AreDue y.about y.got → HubKeeps terms (record h { inputs = set h.inputs s y }) lasts
hub_settled terms h lasts s x y k lt closed here gets heard =
    hub_session terms h lasts s h.book x y k lt here k.holds (ap (λ (t : Taking Piece). t.about) gets.gets) heard (settled_step h.book s x y lt closed gets)

-- a session whose closing was found
pub closed_one : (sessions : List MemberView) (s : ℕ) (found : Option (ℕ × Close)) → s < length sessions → found ≡ option_and_then (λ (a : MemberView). a.session.closing) (slice_get sessions s)
    → is_some found ≡ true → (free : MemberView) → IsClosed (get_or sessions s free)
closed_one sessions s None lt is some free = absurd (cc)
closed_one sessions s (Some closing) lt is some free = closed_at sessions s closing lt (sym is) free

-- ---- its outlet

session_is : (b : BookView) (s : ℕ) → s < length b.sessions → missing_session b s ≡ None
session_is b s within =
    let there : nat_lt s (length b.sessions) ≡ true = grind (arith, nat_tests) in
    ap missing there

-- the outlet of a session of the book is settled
pub settles : {X : Type 0} → (b : BookView) (s : ℕ) (result : Result X BookFault) → s < length b.sessions → RefusesOnly (missing_session b s) result → IsOk result
settles b s result within refuses = subst (λ fault. RefusesOnly fault result) (session_is b s within) refuses

abbrev table_or : TableId → OutletName → TableId
table_or free alone = free
table_or free (of_table table about) = table

abbrev about_or : Subject → OutletName → Subject
about_or free alone = free
about_or free (of_table table about) = about

-- the far end of an outlet, after one more item or none
pub far_end : (old new : Taking (List ℕ)) (item : Option (List ℕ)) → new.got ≡ old.got ++ option_to_list item
    → of_table new.lane new.about ≡ of_table old.lane old.about → new ≡ record old { got = old.got ++ option_to_list item }
far_end old new item got name =
    let lane : new.lane ≡ old.lane = ap (table_or old.lane) name in
    let about : new.about ≡ old.about = ap (about_or old.about) name in
    λ i. record { lane = lane i; about = about i; got = got i }

-- ---- the lanes of a session that was admitted

module _ (links : List SessionLanes) (sessions : List MemberView) (inputs : List (Taking Piece)) (admitted : AreAdmitted links sessions inputs) (s : ℕ) (lt : s < length links) where
  pub session_there : s < length sessions
  session_there =
      let n = map_length (λ (a : MemberView). table_of a.session.name) sessions in
      let m = map_length (λ (l : SessionLanes). Some l.outlet) links in
      let same = ap length admitted.outlets in
      omega arith

  pub input_there : s < length inputs
  input_there =
      let n = map_length (λ (x : Taking Piece). x.lane) inputs in
      let m = map_length (λ (l : SessionLanes). l.input) links in
      let same = ap length admitted.inputs_are in
      omega arith

  pub outlet_named : (lane : TableId) → ((free : SessionLanes) → lane ≡ (get_or links s free).outlet) → (free : MemberView) → Some lane ≡ table_of (get_or sessions s free).session.name
  outlet_named lane named free =
      let link = link_of lane 0 lane in
      ap Some (named link)
      ∙ sym (get_or-map (λ (l : SessionLanes). Some l.outlet) links s link (Some lane) lt)
      ∙ ap (λ (l : List (Option TableId)). get_or l s (Some lane)) (sym admitted.outlets)
      ∙ get_or-map (λ (a : MemberView). table_of a.session.name) sessions s free (Some lane) session_there

  pub input_named : (lane : TableId) → ((free : SessionLanes) → lane ≡ (get_or links s free).input) → (x : Taking Piece) → (get_or inputs s x).lane ≡ lane
  input_named lane named x =
      let link = link_of lane 0 lane in
      sym (get_or-map (λ (t : Taking Piece). t.lane) inputs s x lane input_there)
      ∙ ap (λ (l : List TableId). get_or l s lane) admitted.inputs_are
      ∙ get_or-map (λ (l : SessionLanes). l.input) links s link lane lt
      ∙ sym (named link)
