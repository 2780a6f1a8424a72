-- What one read does, put together: the asking, and then the reading.
use Rattle.std.proofs.Common.{◌≡◌, ◌≢◌, ℕ, ◌+◌, ◌≤◌, ◌⊎◌, inl, inr, List, [], ◌++◌, Option, Some, None, refl, sym, ap, ◌∙◌, subst, arith}
use Rattle.std.proofs.lemmas.List.{append-nil}
use Rattle.gps_outside.specs.declared.source.ReadStep.{ReadStep}
use Rattle.gps_outside.specs.declared.source.ReadStep.TheVariants as answers
use Rattle.gps_outside.specs.Counts.{Rose}
use Rattle.gps_outside.specs.Reads.{CountsQuiet as ReadCountsQuiet, FailsOnly as ReadFailsOnly, FitsBuffer as FitsRead, Reads}
use Rattle.gps_outside.specs.Told.{Stream, Goes, Stays, MayLose, Appends, AppendsPart}
use Rattle.gps_outside.specs.ReadSteps.{TakesAll}
use Rattle.gps_outside.proofs.Going.{goes_as}
use Rattle.upstream_laws.specs.declared.stage.Stage.{Stage}
use Rattle.upstream_laws.specs.declared.stage.Stage.TheVariants as stages
use Rattle.upstream_laws.specs.Head.{Stand, fresh, taken, behind}
use Rattle.gps_upstream.specs.declared.head.Head.{Head}
use Rattle.gps_upstream.specs.declared.head.Head.TheVariants as heads
use Rattle.gps_upstream.specs.declared.reading.HeadStep.{HeadStep}
use Rattle.gps_upstream.specs.declared.reading.HeadStep.TheVariants as steps
use Rattle.gps_upstream.specs.Reading.{CountsQuiet, FailsOnly, FitsBuffer, Gives, Moves, StandsAt, handed_on}
use Rattle.upstream_laws.specs.Carried.{request}
use Rattle.gps_upstream.specs.Upward.{IsOpen, Upward, content_by, content_of, faults_by, faults_of, head_at}
use Rattle.gps_upstream.specs.Calls.{answer_of, got_of, Asks, AsksBy, DoesRead, GivenBy, HasEnded, HasFault, HasNothingLeft, IfGot, IsAsked, IsGiven, IsUnsent, LeavesSink, Took}
use Rattle.gps_upstream.proofs.Contents.{reads, told}

-- the head of a daemon that was asked
open_not_bad : (h : Head) → IsOpen h → h ≢ heads.Bad
open_not_bad heads.Start is e = is
open_not_bad heads.Reading is e = cc
open_not_bad heads.Done is e = cc
open_not_bad heads.Bad is e = is
open_not_bad heads.Unsent is e = is

open_no_fault : (h : Head) → IsOpen h → faults_by h ≡ 0
open_no_fault heads.Start is = absurd is
open_no_fault heads.Reading is = refl
open_no_fault heads.Done is = refl
open_no_fault heads.Bad is = absurd is
open_no_fault heads.Unsent is = absurd is

at_not_start : (t : Stage) → head_at t ≢ heads.Start
at_not_start stages.Inside e = cc
at_not_start stages.Behind e = cc
at_not_start stages.Nowhere e = cc

at_sent : (t : Stage) → head_at t ≢ heads.Unsent
at_sent stages.Inside e = cc
at_sent stages.Behind e = cc
at_sent stages.Nowhere e = cc

at_good : (t : Stage) → t ≢ stages.Nowhere → head_at t ≢ heads.Bad
at_good stages.Inside not e = cc
at_good stages.Behind not e = cc
at_good stages.Nowhere not e = not refl

fits_read : (s : HeadStep) (room : ℕ) → FitsBuffer s room → FitsRead (answer_of s) room
fits_read (steps.Got n) room f = f
fits_read steps.Bad room f = tt
fits_read steps.End room f = tt
fits_read steps.Quiet room f = tt
fits_read steps.Failed room f = tt

moves_took : (s : HeadStep) (raw : List ℕ) (x y : Stream) → Moves s raw x y → Took raw x y
moves_took (steps.Got n) raw x y p = p.joins
moves_took steps.Bad raw x y p = p.joins
moves_took steps.End raw x y p = p.joins
moves_took steps.Quiet raw x y p = p.joins
moves_took steps.Failed raw x y p = p.joins

hands : (s : HeadStep) (buffer : List ℕ) → handed_on s buffer ≡ got_of (answer_of s) buffer
hands (steps.Got n) buffer = refl
hands steps.Bad buffer = refl
hands steps.End buffer = refl
hands steps.Quiet buffer = refl
hands steps.Failed buffer = refl

-- the facts of one reading of the head, and of what follows it
pub record ReadsOn (s : HeadStep) (room : ℕ) (buffer : List ℕ) (old new : Upward) : Type 0 where
  pub is_open : IsOpen old.head
  pub at : new.head ≡ head_at new.stand.stage
  pub fits : FitsBuffer s room
  pub gives : Gives s buffer old.stand new.stand old.source new.source
  pub faults_stay : old.source_faults ≤ new.source_faults
  pub quiets_stay : old.quiets ≤ new.quiets
  pub failed : s ≡ steps.Failed → Rose old.source_faults new.source_faults
  pub quiet : s ≡ steps.Quiet → Rose old.quiets new.quiets
  pub fails_only : FailsOnly s old.source_faults new.source_faults
  pub counts_quiet : CountsQuiet s old.quiets new.quiets
  pub device : new.device ≡ old.device
  pub written : new.written ≡ old.written
  pub sink_faults : new.sink_faults ≡ old.sink_faults

bad_rose : (s : HeadStep) (t : Stage) → StandsAt s t → s ≡ steps.Bad → faults_by (head_at t) ≡ 1
bad_rose steps.Bad t at e = ap (λ (u : Stage). faults_by (head_at u)) at
bad_rose (steps.Got n) t at e = absurd (cc)
bad_rose steps.End t at e = absurd (cc)
bad_rose steps.Quiet t at e = absurd (cc)
bad_rose steps.Failed t at e = absurd (cc)

bad_at : (s : HeadStep) (t : Stage) → StandsAt s t → s ≡ steps.Bad → head_at t ≡ heads.Bad
bad_at steps.Bad t at e = ap head_at at
bad_at (steps.Got n) t at e = absurd (cc)
bad_at steps.End t at e = absurd (cc)
bad_at steps.Quiet t at e = absurd (cc)
bad_at steps.Failed t at e = absurd (cc)

failed_by : (s : HeadStep) → answer_of s ≡ answers.Failed → (s ≡ steps.Bad) ⊎ (s ≡ steps.Failed)
failed_by steps.Bad e = inl refl
failed_by steps.Failed e = inr refl
failed_by (steps.Got n) e = absurd (cc)
failed_by steps.End e = absurd (cc)
failed_by steps.Quiet e = absurd (cc)

quiet_by : (s : HeadStep) → answer_of s ≡ answers.Quiet → s ≡ steps.Quiet
quiet_by steps.Quiet e = refl
quiet_by steps.Bad e = absurd (cc)
quiet_by steps.Failed e = absurd (cc)
quiet_by (steps.Got n) e = absurd (cc)
quiet_by steps.End e = absurd (cc)

good_no_fault : (t : Stage) → t ≢ stages.Nowhere → faults_by (head_at t) ≡ 0
good_no_fault stages.Inside not = refl
good_no_fault stages.Behind not = refl
good_no_fault stages.Nowhere not = absurd (not refl)

same_faults : (a b k a' k' : ℕ) → a' ≡ a → k' ≡ k → b ≡ 0 → a' + k' + b ≡ a + k + 0
same_faults a b k a' k' p q e = omega arith

-- unless the source failed or the head is bad, nothing is counted
no_more_faults : (s : HeadStep) (t : Stage) (a b k a' k' : ℕ) → StandsAt s t → b ≡ faults_by (head_at t) → FailsOnly s a a' → k' ≡ k
    → ReadFailsOnly (answer_of s) (a + k + 0) (a' + k' + b)
no_more_faults (steps.Got n) t a b k a' k' at is same sunk = same_faults a b k a' k' same sunk (is ∙ ap (λ (u : Stage). faults_by (head_at u)) at)
no_more_faults steps.Bad t a b k a' k' at is same sunk = tt
no_more_faults steps.End t a b k a' k' at is same sunk = same_faults a b k a' k' same sunk (is ∙ good_no_fault t at)
no_more_faults steps.Quiet t a b k a' k' at is same sunk = same_faults a b k a' k' same sunk (is ∙ good_no_fault t at)
no_more_faults steps.Failed t a b k a' k' at is same sunk = tt

quiets_by : (s : HeadStep) (q q' : ℕ) → CountsQuiet s q q' → ReadCountsQuiet (answer_of s) q q'
quiets_by (steps.Got n) q q' is = is
quiets_by steps.Bad q q' is = is
quiets_by steps.End q q' is = is
quiets_by steps.Quiet q q' is = is
quiets_by steps.Failed q q' is = is

rose_bad : (a b k a' k' : ℕ) → a ≤ a' → k' ≡ k → b ≡ 1 → Rose (a + k + 0) (a' + k' + b)
rose_bad a b k a' k' p q e = omega arith

rose_source : (a b k a' k' : ℕ) → Rose a a' → k' ≡ k → Rose (a + k + 0) (a' + k' + b)
rose_source a b k a' k' p q = omega arith

stay_source : (a b k a' k' : ℕ) → a ≤ a' → k' ≡ k → a + k + 0 ≤ a' + k' + b
stay_source a b k a' k' p q = omega arith

module _ (s : HeadStep) (room : ℕ) (buffer : List ℕ) (old new : Upward) (r : ReadsOn s room buffer old new) where
  no_fault : faults_of old ≡ old.source_faults + old.sink_faults + 0
  no_fault = ap (λ n. old.source_faults + old.sink_faults + n) (open_no_fault old.head r.is_open)

  stay : faults_of old ≤ faults_of new
  stay = rw no_fault (stay_source old.source_faults (faults_by new.head) old.sink_faults new.source_faults new.sink_faults r.faults_stay r.sink_faults)

  bad_now : s ≡ steps.Bad → faults_by new.head ≡ 1
  bad_now e = ap (λ (h : Head). faults_by h) r.at ∙ bad_rose s new.stand.stage r.gives.stage e

  rise : answer_of s ≡ answers.Failed → Rose (faults_of old) (faults_of new)
  rise e =
      rw no_fault
      (elim (failed_by s e) as (λ _. Rose (old.source_faults + old.sink_faults + 0) (faults_of new)) [
        | inl is ↦ rose_bad old.source_faults (faults_by new.head) old.sink_faults new.source_faults new.sink_faults r.faults_stay r.sink_faults (bad_now is)
        | inr is ↦ rose_source old.source_faults (faults_by new.head) old.sink_faults new.source_faults new.sink_faults (r.failed is) r.sink_faults
      ])

  only_failed : ReadFailsOnly (answer_of s) (faults_of old) (faults_of new)
  only_failed =
      rw no_fault
      (no_more_faults s new.stand.stage old.source_faults (faults_by new.head) old.sink_faults new.source_faults new.sink_faults
      r.gives.stage (ap (λ (h : Head). faults_by h) r.at) r.fails_only r.sink_faults)

  leaves : LeavesSink old new
  leaves = record {
    written = r.written;
    sink_faults = r.sink_faults;
    started = λ e. at_not_start new.stand.stage (sym r.at ∙ e);
    sent = λ _ e. at_sent new.stand.stage (sym r.at ∙ e);
  }

  asks_by : (h : Head) → IsOpen h → AsksBy h old new
  asks_by heads.Start is = absurd is
  asks_by heads.Reading is = leaves
  asks_by heads.Done is = leaves
  asks_by heads.Bad is = absurd is
  asks_by heads.Unsent is = absurd is

  bad_head : s ≡ steps.Bad → new.head ≡ heads.Bad
  bad_head e = r.at ∙ bad_at s new.stand.stage r.gives.stage e

  why : answer_of s ≡ answers.Failed → HasFault old new
  why e =
      elim (failed_by s e) as (λ _. HasFault old new) [
        | inl is ↦ inr (inr (record { before = open_not_bad old.head r.is_open; after = bad_head is }))
        | inr is ↦ inr (inl (r.failed is))
      ]

given_at : (t : Stage) (asked first : List ℕ) (written : Option (List ℕ)) → written ≡ Some (first ++ asked) → GivenBy (head_at t) asked first written
given_at stages.Inside asked first written e = e
given_at stages.Behind asked first written e = e
given_at stages.Nowhere asked first written e = e

given_open : (h : Head) (asked first : List ℕ) (written : Option (List ℕ)) → IsOpen h → GivenBy h asked first written → written ≡ Some (first ++ asked)
given_open heads.Start asked first written is e = absurd is
given_open heads.Reading asked first written is e = e
given_open heads.Done asked first written is e = e
given_open heads.Bad asked first written is e = absurd is
given_open heads.Unsent asked first written is e = absurd is

-- what was given stays given
given_on : (old new : Upward) (first : List ℕ)
    → IsOpen old.head → new.head ≡ head_at new.stand.stage → new.device ≡ old.device → new.written ≡ old.written
    → IsGiven first old → IsGiven first new
given_on old new first is_open at device written given =
    let whole : new.written ≡ Some (first ++ request new.device) =
    written ∙ given_open old.head (request old.device) first old.written is_open given ∙ ap (λ d. Some (first ++ request d)) (sym device) in
    subst (λ (h : Head). GivenBy h (request new.device) first new.written) (sym at) (given_at new.stand.stage (request new.device) first new.written whole)

got_at : (s : HeadStep) (h : Head) (t : Stage) → h ≡ head_at t → StandsAt s t → IfGot (answer_of s) (h ≡ heads.Done)
got_at (steps.Got n) h t e at = e ∙ ap head_at at
got_at steps.Bad h t e at = tt
got_at steps.End h t e at = tt
got_at steps.Quiet h t e at = tt
got_at steps.Failed h t e at = tt

ended_at : (s : HeadStep) (buffer : List ℕ) (old new : Upward) → new.head ≡ head_at new.stand.stage
    → Gives s buffer old.stand new.stand old.source new.source → answer_of s ≡ answers.End → HasEnded old new
ended_at steps.End buffer old new at g e =
    inl (record {
      good = λ bad. at_good new.stand.stage g.stage (sym at ∙ bad);
      sent = λ unsent. at_sent new.stand.stage (sym at ∙ unsent);
      none = goes_as (TakesAll g.raw) HasNothingLeft old.source new.source (λ x y p. p.none) g.moved;
    })
ended_at (steps.Got n) buffer old new at g e = absurd (cc)
ended_at steps.Bad buffer old new at g e = absurd (cc)
ended_at steps.Quiet buffer old new at g e = absurd (cc)
ended_at steps.Failed buffer old new at g e = absurd (cc)

pub does_read : (s : HeadStep) (room : ℕ) (buffer : List ℕ) (old new : Upward) → ReadsOn s room buffer old new → DoesRead (answer_of s) room buffer old new
does_read s room buffer old new r = record {
  fits = fits_read s room r.fits;
  bytes = reads s buffer old.head new.head old.stand new.stand old.source new.source r.is_open r.at r.gives;
  faults_stay = stay s room buffer old new r;
  quiets_stay = r.quiets_stay;
  failed = rise s room buffer old new r;
  quiet = λ e. r.quiet (quiet_by s e);
  fails_only = only_failed s room buffer old new r;
  counts_quiet = quiets_by s old.quiets new.quiets r.counts_quiet;
  device = r.device;
  asked = asks_by s room buffer old new r old.head r.is_open;
  given = λ first given. given_on old new first r.is_open r.at r.device r.written given;
  got = got_at s new.head new.stand.stage r.at r.gives.stage;
  cause = why s room buffer old new r;
  ended = ended_at s buffer old new r.at r.gives;
  handed = record {
    raw = r.gives.raw;
    took = goes_as (Moves s r.gives.raw) (Took r.gives.raw) old.source new.source (moves_took s r.gives.raw) r.gives.moved;
    stand = r.gives.stand;
    handed = r.gives.handed ∙ hands s buffer;
  };
}

appends_some : (asked first : List ℕ) (before after : Option (List ℕ)) → before ≡ Some first → Goes (Appends asked) before after → after ≡ Some (first ++ asked)
appends_some asked first None after e p = absurd (cc)
appends_some asked first (Some x) None e p = absurd p
appends_some asked first (Some x) (Some y) e p = let same : x ≡ first = cc in ap (λ l. Some l) (p ∙ ap (λ l. l ++ asked) same)

appends_front : (asked first : List ℕ) (before after : Option (List ℕ))
    → before ≡ Some first → Goes (AppendsPart asked) before after
    → GivenBy heads.Unsent asked first after
appends_front asked first None after e p = absurd (cc)
appends_front asked first (Some x) None e p = absurd p
appends_front asked first (Some x) (Some y) e p = let same : x ≡ first = cc in (p.0, (p.1.0, ap (λ l. Some l) (p.1.1 ∙ ap (λ l. l ++ p.0) same)))

same_content : (stand : Stand) (c : Option Stream) → content_by heads.Reading stand c ≡ content_by heads.Start stand c
same_content stand None = refl
same_content stand (Some s) = refl

-- The first call: before it the daemon was not asked; the request was written, and now the head is read.
pub record FirstAsks (old mid : Upward) : Type 0 where
  pub before : old.head ≡ heads.Start
  pub between : mid.head ≡ heads.Reading
  pub device : mid.device ≡ old.device
  pub source : mid.source ≡ old.source
  pub source_faults : mid.source_faults ≡ old.source_faults
  pub quiets : mid.quiets ≡ old.quiets
  pub stand : mid.stand ≡ old.stand
  pub written : Goes (Appends (request old.device)) old.written mid.written
  pub sink_faults : mid.sink_faults ≡ old.sink_faults

asks_at : (h : Head) (old new : Upward) → h ≡ heads.Start → IsAsked old new → AsksBy h old new
asks_at h old new e is = subst (λ (x : Head). AsksBy x old new) (sym e) (inl is)

asks_not : (h : Head) (old new : Upward) → h ≡ heads.Start → IsUnsent old new → AsksBy h old new
asks_not h old new e is = subst (λ (x : Head). AsksBy x old new) (sym e) (inr is)

left_from : (mid new : Upward) → mid.head ≡ heads.Reading → Asks mid new → LeavesSink mid new
left_from mid new e asks = subst (λ (h : Head). AsksBy h mid new) e asks

module _ (result : ReadStep) (room : ℕ) (buffer : List ℕ) (old mid new : Upward) (f : FirstAsks old mid) (d : DoesRead result room buffer mid new) where
  content_same : content_of mid ≡ content_of old
  content_same =
      ap (λ (h : Head). content_by h mid.stand mid.source) f.between
      ∙ ap (λ (s : Stand). content_by heads.Reading s mid.source) f.stand
      ∙ ap (λ (c : Option Stream). content_by heads.Reading old.stand c) f.source
      ∙ same_content old.stand old.source
      ∙ ap (λ (h : Head). content_by h old.stand old.source) (sym f.before)

  faults_first : faults_of mid ≡ faults_of old
  faults_first =
      let start : faults_by old.head ≡ 0 = ap (λ (h : Head). faults_by h) f.before in
      let asked : faults_by mid.head ≡ 0 = ap (λ (h : Head). faults_by h) f.between in
      let source = f.source_faults in
      let sink = f.sink_faults in
      omega arith

  leaves_mid : LeavesSink mid new
  leaves_mid = left_from mid new f.between d.asked

  written_first : Goes (Appends (request old.device)) old.written new.written
  written_first = subst (λ (w : Option (List ℕ)). Goes (Appends (request old.device)) old.written w) (sym leaves_mid.written) f.written

  sent_first : new.head ≢ heads.Unsent
  sent_first = leaves_mid.sent (λ e. let b = f.between in cc)

  given_first : (first : List ℕ) → IsGiven first old → IsGiven first new
  given_first first given =
      let start : old.written ≡ Some first = subst (λ (h : Head). GivenBy h (request old.device) first old.written) f.before given in
      let whole : mid.written ≡ Some (first ++ request mid.device) =
      appends_some (request old.device) first old.written mid.written start f.written ∙ ap (λ n. Some (first ++ request n)) (sym f.device) in
      d.given first (subst (λ (h : Head). GivenBy h (request mid.device) first mid.written) (sym f.between) whole)

  why_first : HasFault mid new → HasFault old new
  why_first (inl sink) = let b = f.between in let start = sink.start in absurd (cc)
  why_first (inr (inl rose)) = inr (inl (subst (λ n. Rose n new.source_faults) f.source_faults rose))
  why_first (inr (inr bad)) = inr (inr (record { before = λ e. (let b = f.before in cc); after = bad.after }))

  not_over : (mid.head ≡ heads.Bad) ⊎ (mid.head ≡ heads.Unsent) → ⊥
  not_over (inl e) = let b = f.between in cc
  not_over (inr e) = let b = f.between in cc

  ended_first : HasEnded mid new → HasEnded old new
  ended_first (inl ended) = inl (record {
    good = ended.good;
    sent = ended.sent;
    none = subst (λ (c : Option Stream). Goes HasNothingLeft c new.source) f.source ended.none;
  })
  ended_first (inr was) = absurd (not_over was.over)

  pub first_read : DoesRead result room buffer old new
  first_read = record {
    fits = d.fits;
    bytes = subst (λ (c : Option Stream). Reads result buffer c (content_of new)) content_same d.bytes;
    faults_stay = let a = faults_first in let b = d.faults_stay in omega arith;
    quiets_stay = let a = f.quiets in let b = d.quiets_stay in omega arith;
    failed = λ e. let a = faults_first in let b = d.failed e in omega arith;
    quiet = λ e. subst (λ n. Rose n new.quiets) f.quiets (d.quiet e);
    fails_only = subst (λ n. ReadFailsOnly result n (faults_of new)) faults_first d.fails_only;
    counts_quiet = subst (λ n. ReadCountsQuiet result n new.quiets) f.quiets d.counts_quiet;
    device = d.device ∙ f.device;
    asked = asks_at old.head old new f.before (record { whole = written_first; started = leaves_mid.started; sent = sent_first });
    given = given_first;
    got = d.got;
    cause = λ e. why_first (d.cause e);
    ended = λ e. ended_first (d.ended e);
    handed = record {
      raw = d.handed.raw;
      took = subst (λ (c : Option Stream). Goes (Took d.handed.raw) c new.source) f.source d.handed.took;
      stand = d.handed.stand ∙ ap (λ (s : Stand). taken s d.handed.raw) f.stand;
      handed = ap (λ (s : Stand). behind s d.handed.raw) (sym f.stand) ∙ d.handed.handed;
    };
  }

-- the request could not be written
pub record FirstFails (old new : Upward) : Type 0 where
  pub before : old.head ≡ heads.Start
  pub after : new.head ≡ heads.Unsent
  pub device : new.device ≡ old.device
  pub source : new.source ≡ old.source
  pub source_faults : new.source_faults ≡ old.source_faults
  pub quiets : new.quiets ≡ old.quiets
  pub stand : new.stand ≡ old.stand
  pub written : Goes (AppendsPart (request old.device)) old.written new.written
  pub rose : Rose old.sink_faults new.sink_faults
  pub sink_faults : old.sink_faults ≤ new.sink_faults

stays_told : (c : Option Stream) → Goes Stays c c
stays_told None = tt
stays_told (Some s) = refl

unsent_told : (stand : Stand) (c : Option Stream) → Goes MayLose (content_by heads.Start stand c) (content_by heads.Unsent stand c)
unsent_told stand c =
    told Stays MayLose heads.Start heads.Unsent stand stand c c
    (λ x y p e. (e ∙ ap (λ (s : Stream). taken fresh s.taken) p, record { same = ap (λ (s : Stream). behind fresh s.taken) (sym p); lost = inr refl }))
    (stays_told c)

pub took_none : (c : Option Stream) → Goes (Took []) c c
took_none None = tt
took_none (Some s) = sym (append-nil s.taken)

module _ (room : ℕ) (buffer : List ℕ) (old new : Upward) (f : FirstFails old new) where
  bytes_lost : Goes MayLose (content_of old) (content_of new)
  bytes_lost =
      let was : content_of old ≡ content_by heads.Start old.stand old.source = ap (λ (h : Head). content_by h old.stand old.source) f.before in
      let is : content_of new ≡ content_by heads.Unsent old.stand old.source =
      ap (λ (h : Head). content_by h new.stand new.source) f.after
      ∙ ap (λ (s : Stand). content_by heads.Unsent s new.source) f.stand
      ∙ ap (λ (c : Option Stream). content_by heads.Unsent old.stand c) f.source in
      subst (λ (c : Option Stream). Goes MayLose c (content_of new)) (sym was)
      (subst (λ (c : Option Stream). Goes MayLose (content_by heads.Start old.stand old.source) c) (sym is) (unsent_told old.stand old.source))

  rise_sink : Rose (faults_of old) (faults_of new)
  rise_sink =
      let start : faults_by old.head ≡ 0 = ap (λ (h : Head). faults_by h) f.before in
      let source = f.source_faults in
      let sink = f.rose in
      omega arith

  stay_first : faults_of old ≤ faults_of new
  stay_first =
      let start : faults_by old.head ≡ 0 = ap (λ (h : Head). faults_by h) f.before in
      let source = f.source_faults in
      let sink = f.sink_faults in
      omega arith

  given_unsent : (first : List ℕ) → IsGiven first old → IsGiven first new
  given_unsent first given =
      let start : old.written ≡ Some first = subst (λ (h : Head). GivenBy h (request old.device) first old.written) f.before given in
      let part : GivenBy heads.Unsent (request new.device) first new.written =
      subst (λ (n : Option (List ℕ)). GivenBy heads.Unsent (request n) first new.written) (sym f.device)
      (appends_front (request old.device) first old.written new.written start f.written) in
      subst (λ (h : Head). GivenBy h (request new.device) first new.written) (sym f.after) part

  pub fails_first : DoesRead answers.Failed room buffer old new
  fails_first = record {
    fits = tt;
    bytes = bytes_lost;
    faults_stay = stay_first;
    quiets_stay = let a = f.quiets in omega arith;
    failed = λ _. rise_sink;
    quiet = λ e. absurd (cc);
    fails_only = tt;
    counts_quiet = f.quiets;
    device = f.device;
    asked = asks_not old.head old new f.before (record { part = f.written; unsent = f.after; rose = f.rose; source = f.source; stand = f.stand });
    given = given_unsent;
    got = tt;
    cause = λ _. inl (record { start = f.before; unsent = f.after; rose = f.rose });
    ended = λ e. absurd (cc);
    handed = record {
      raw = [];
      took = subst (λ (c : Option Stream). Goes (Took []) old.source c) (sym f.source) (took_none old.source);
      stand = f.stand;
      handed = refl;
    };
  }
