-- What a look at a device or a session answers, from what it did to the lanes.
use Rattle.std.proofs.Common.{length-set, ◌≡◌, ◌<◌, ◌≤◌, ℕ, zero, suc, Bool, true, false, List, [], ◌∷◌, ◌++◌, length, get_or, set, Option, Some, None, refl, sym, ap, ◌∙◌, subst, inl, inr, ◌⊎◌, ⊎_elim, arith, get_or-set_same, get_or-set_other}
use Rattle.std.specs.Prelude.{is_some, option_and_then, slice_get, slice_set, option_map, IfNone, MatchOption}
use Rattle.std.proofs.lemmas.List.{get_or_default, set-get_or}
use Rattle.std.proofs.lemmas.Option.{slice_get-get_or}
use Rattle.book_log.specs.Entries.{Entry}
use Rattle.book_sessions.specs.MemberView.{MemberView}
use Rattle.book_sessions.specs.Roster.{IsOpenAt}
use Rattle.gps_lane.specs.Ends.{Taking}
use Rattle.report_book.specs.BookView.{BookView}
use Rattle.report_book.specs.Moves.{HangsUp}
use Rattle.session_core.specs.declared.mark.Close.{Close}
use Rattle.session_core.specs.declared.mark.Close.TheVariants.{NoMemory as CloseNoMemory}
use Rattle.gps_lane.specs.declared.piece.Piece.{Piece}
use Rattle.hub_promise.specs.declared.ends.DeviceEnd.{DeviceEnd}
use Rattle.hub_promise.specs.DaemonHub.{DeviceFits, MayGoOn}
use Rattle.hub_promise.specs.Keeping.{IsClosed, Lasts, end_told, told_of}
use Rattle.hub_promise.specs.Parts.{HubView, InletsView, device_of, names_of, parts_of}
use Rattle.hub_promise.specs.Steps.{with_bytes, with_edge, with_got}
use Rattle.hub_promise.proofs.Going.{no_lanes}
use Rattle.hub_promise.proofs.Lists.{device_there}
use Rattle.gps_hub.specs.declared.pumped.Pumped.{Pumped}
use Rattle.gps_hub.specs.declared.pumped.Pumped.TheVariants.{Fed, Empty, Waiting, Done, Refused}
use Rattle.gps_hub.specs.Pumping.{ClosedBy, DeviceHasStopped, DevicePumped, GetsInput, GotOne, HasDevice, KeepsOtherInputs, KeepsOthers, Looked, LookedAt, SessionPumped, TakesOne, TookInput}
use Rattle.gps_hub.proofs.Told.{told_by_bytes, told_by_line}

pub none_of : {X : Type 0} (o : Option X) → false ≡ is_some o → o ≡ None
none_of None e = refl
none_of (Some end) e = absurd (cc)

pub running_is : (ends : List (Option DeviceEnd)) (at : ℕ) (seen end : Option DeviceEnd) → at < length ends → seen ≡ get_or ends at seen → end ≡ get_or ends at end → false ≡ is_some seen → end ≡ None
running_is ends at seen end lt s e none = e ∙ get_or_default ends at end seen lt ∙ sym s ∙ none_of seen none

pub match_none : {X : Type 0} (r : Option X) (P : Type 0) (Q : X → Type 0) → MatchOption r P Q → ((x : X) → r ≡ Some x → ⊥) → P
match_none None P Q is not = is
match_none (Some x) P Q is not = absurd (not x refl)

pub none_so : {X : Type 0} {P Q : Type 0} (r : Option X) → IfNone r P → (P → Q) → IfNone r Q
none_so None is so = so is
none_so (Some x) is so = tt

edge_names : (piece : Piece) (o : Option (Taking Piece)) → option_map (λ (y : Taking Piece). y.lane) (option_map (with_got piece) o) ≡ option_map (λ (y : Taking Piece). y.lane) o
edge_names piece None = refl
edge_names piece (Some x) = refl

edges_held : (piece : Piece) (o : Option (Taking Piece)) → option_map (λ (y : Taking Piece). y.about.source) (option_map (with_got piece) o) ≡ option_map (λ (y : Taking Piece). y.about.source) o
edges_held piece None = refl
edges_held piece (Some x) = refl

one_names : (x y : InletsView) → GotOne x y → names_of y ≡ names_of x
one_names x y one =
    ⊎_elim (λ (e : y ≡ with_bytes one.0 x). ap names_of e)
    (λ (e : y ≡ with_edge one.0 x). ap names_of e ∙ (λ i. record { bytes = x.bytes.lane; held = x.bytes.about.source; edges = edge_names one.0 x.edges i; held_edges = edges_held one.0 x.edges i })) one.1

got_one : (d : ℕ) (x y : InletsView) (lasts : Lasts) (end : Option DeviceEnd) (old new : BookView) → Looked Fed d x y lasts end old new → GotOne x y
got_one d x y lasts end old new (piece, inl (is, took)) = (piece, inl is)
got_one d x y lasts end old new (piece, inr ((is, lane), took)) = (piece, inr is)

pub looked_names : (r : Pumped) (d : ℕ) (x y : InletsView) (lasts : Lasts) (end : Option DeviceEnd) (old new : BookView) → Looked r d x y lasts end old new → names_of y ≡ names_of x
looked_names Fed d x y lasts end old new looked = one_names x y (got_one d x y lasts end old new looked)
looked_names Empty d x y lasts end old new looked = ap names_of looked
looked_names (Waiting watched) d x y lasts end old new looked = absurd looked
looked_names Done d x y lasts end old new looked = absurd looked
looked_names (Refused fault) d x y lasts end old new looked = one_names x y looked.0

set_at : {A : Type 0} (xs : List A) (d : ℕ) (x y : A) → get_or xs d x ≡ x → y ≡ x → set xs d y ≡ xs
set_at xs d x y here same = ap (set xs d) (same ∙ sym here) ∙ set-get_or xs d x

module _ (h : HubView) (d : ℕ) (book : BookView) (x y : InletsView) (was end : Option DeviceEnd) (lt : d < length h.inlets) (both : length h.ends ≡ length h.inlets) (here : get_or h.inlets d x ≡ x) (there : get_or h.ends d was ≡ was) where
  abbrev after : HubView
  after = record h { book = book; inlets = set h.inlets d y; ends = set h.ends d end }

  before_is : HasDevice h d (device_of x was)
  before_is = device_there h.inlets h.ends d x was both lt ∙ (λ i. Some (device_of (here i) (there i)))

  after_is : HasDevice after d (device_of y end)
  after_is =
      let n = length-set h.inlets d y in
      let m = length-set h.ends d end in
      let ends_lt : d < length h.ends = omega arith in
      device_there (set h.inlets d y) (set h.ends d end) d y end (omega arith) (omega arith)
      ∙ (λ i. Some (device_of (get_or-set_same h.inlets d y y lt i) (get_or-set_same h.ends d end end ends_lt i)))

  took_one : (log : List Entry) (lasts : Lasts) → lasts ≡ told_of x → DeviceFits log d (device_of x None) → Looked Fed d x y lasts end h.book book → TakesOne d x y end h.book book
  took_one log lasts told f (piece, inl (is, (moves, stop))) = record {
    piece = piece;
    gets = inl (is, moves);
    ends = told_by_bytes log d x lasts told f piece end stop ∙ ap end_told (sym is);
  }
  took_one log lasts told f (piece, inr ((is, (lane, has)), (moves, stop))) = record {
    piece = piece;
    gets = inr ((is, (lane, has)), moves);
    ends = told_by_line log d x lasts told f piece lane end has stop ∙ ap end_told (sym is);
  }

  pub device_pumped : (r : Pumped) (log : List Entry) (lasts : Lasts) → lasts ≡ told_of x → DeviceFits log d (device_of x None) → MayGoOn (parts_of h) → was ≡ None
      → Looked r d x y lasts end h.book book → (r ≡ Empty → (book ≡ h.book) × (end ≡ was)) → DevicePumped r d h after
  device_pumped Fed log lasts told f may runs looked empty =
      ((may, (device_of x was, before_is, runs)), (device_of x was, device_of y end, before_is, after_is, took_one log lasts told f looked))
  device_pumped Empty log lasts told f may runs looked empty =
      let still = empty refl in (
        (may, (device_of x was, before_is, runs)),
        (λ i. record {
          book = still.0 i;
          inlets = set_at h.inlets d x y here looked i;
          ends = set_at h.ends d was end there still.1 i;
          inputs = h.inputs;
          door = h.door;
          wait = h.wait;
          is_shut = h.is_shut;
        }),
      )
  device_pumped (Waiting watched) log lasts told f may runs looked empty = absurd looked
  device_pumped Done log lasts told f may runs looked empty = absurd looked
  device_pumped (Refused fault) log lasts told f may runs looked empty =
      ((may, (device_of x was, before_is, runs)), (device_of x was, device_of y end, before_is, after_is, looked.0, looked.2), looked.1)

  pub other_devices : KeepsOthers d h after
  other_devices = record { lanes = y; end = end; same = refl }

-- a session that was hung up is closed for that reason
pub hung_closed : (s : ℕ) (why : Close) (old new : BookView) → s < length old.sessions → HangsUp s why old new → (a : MemberView) × (slice_get new.sessions s ≡ Some a) × ClosedBy why a
hung_closed s why old new lt hangs =
    let next = hangs.session.0 in
    let there : s < length (slice_set old.sessions s next) = let n = length-set old.sessions s next in omega arith in (
      next,
      ap (λ (l : List MemberView). slice_get l s) hangs.session.1 ∙ slice_get-get_or (slice_set old.sessions s next) s next there
          ∙ ap Some (get_or-set_same old.sessions s next next lt),
      (old.log.length, ap (λ (a : MemberView). a.session.closing) (hangs.session.2 next).becomes),
    )

-- a session whose closing was found
pub closed_there : (sessions : List MemberView) (s : ℕ) (found : Option (ℕ × Close)) → found ≡ option_and_then (λ (a : MemberView). a.session.closing) (slice_get sessions s)
    → is_some found ≡ true → (a : MemberView) × (slice_get sessions s ≡ Some a) × IsClosed a
closed_there sessions s found is some = by_one (slice_get sessions s) refl is
  where
    not_some : (o : Option (ℕ × Close)) → o ≡ None → is_some o ≡ true → ⊥
    not_some None none is_there = absurd (cc)
    not_some (Some closing) none is_there = absurd (cc)

    by_one : (o : Option MemberView) → slice_get sessions s ≡ o → found ≡ option_and_then (λ (a : MemberView). a.session.closing) o
        → (a : MemberView) × (slice_get sessions s ≡ Some a) × IsClosed a
    by_one None there none = absurd (not_some found none some)
    by_one (Some a) there same = (a, there, ap is_some (sym same) ∙ some)

module _ (h : HubView) (s : ℕ) (book : BookView) (x y : Taking Piece) (lt : s < length h.inputs) (there : s < length h.book.sessions) (here : get_or h.inputs s x ≡ x) where
  abbrev heard : HubView
  heard = record h { book = book; inputs = set h.inputs s y }

  gets_there : (piece : Piece) → y ≡ with_got piece x → GetsInput piece s h heard
  gets_there piece one = (x, slice_get-get_or h.inputs s x lt ∙ ap Some here, ap (set h.inputs s) one)

  pub session_pumped : (r : Pumped) → IsOpenAt s h.book.sessions → LookedAt r x y s h.book book → (r ≡ Empty → book ≡ h.book) → SessionPumped r s h heard
  session_pumped Fed goes looked empty = (goes, (looked.0, gets_there looked.0 looked.1, looked.2))
  session_pumped Empty goes looked empty = (
    goes,
    (λ i. record {
      book = empty refl i;
      inlets = h.inlets;
      ends = h.ends;
      inputs = set_at h.inputs s x y here looked i;
      door = h.door;
      wait = h.wait;
      is_shut = h.is_shut;
    }),
  )
  session_pumped (Waiting watched) goes looked empty = absurd looked
  session_pumped Done goes looked empty = absurd looked
  session_pumped (Refused fault) goes looked empty =
      (goes, (looked.0.0, gets_there looked.0.0 looked.0.1), looked.1, looked.2, hung_closed s CloseNoMemory h.book book there looked.2)

  pub other_inputs : KeepsOtherInputs s h heard
  other_inputs = record { lane = y; same = refl }

-- nothing changed
same_set : {A : Type 0} (xs : List A) (k : ℕ) (x : A) → xs ≡ slice_set xs k (get_or xs k x)
same_set [] k x = refl
same_set (y ∷ xs) zero x = refl
same_set (y ∷ xs) (suc k) x = ap (λ l. y ∷ l) (same_set xs k x)

pub inputs_stay : (s : ℕ) (old new : HubView) → new ≡ old → KeepsOtherInputs s old new
inputs_stay s old new same =
    let free : Taking Piece = no_lanes.bytes in
    subst (KeepsOtherInputs s old) (sym same) (record { lane = get_or old.inputs s free; same = λ i. record old { inputs = same_set old.inputs s free i } })

pub others_stay : (d : ℕ) (old new : HubView) → new ≡ old → KeepsOthers d old new
others_stay d old new same =
    subst (KeepsOthers d old) (sym same) (record {
      lanes = get_or old.inlets d no_lanes;
      end = get_or old.ends d None;
      same = λ i. record old { inlets = same_set old.inlets d no_lanes i; ends = same_set old.ends d None i };
    })

-- a device that was seen to have stopped
pub stopped_there : (h : HubView) (d at : ℕ) (seen : Option DeviceEnd) → d < length h.inlets → length h.ends ≡ length h.inlets → at ≡ d → seen ≡ get_or h.ends at seen
    → true ≡ is_some seen → DeviceHasStopped h d
stopped_there h d at seen lt both same is stopped = (
  device_of (get_or h.inlets d no_lanes) (get_or h.ends d seen),
  device_there h.inlets h.ends d no_lanes seen both lt,
  ap is_some (sym (is ∙ ap (λ k. get_or h.ends k seen) same)) ∙ sym stopped,
)

-- a piece that was got was taken
pub looked_at : (r : Pumped) (piece : Piece) (x y : Taking Piece) (s : ℕ) (old new : BookView) → y ≡ with_got piece x → TookInput r piece s old new → LookedAt r x y s old new
looked_at Fed piece x y s old new is took = (piece, is, took)
looked_at Empty piece x y s old new is took = absurd took
looked_at (Waiting watched) piece x y s old new is took = absurd took
looked_at Done piece x y s old new is took = absurd took
looked_at (Refused fault) piece x y s old new is took = ((piece, is), took.0, took.1)
