-- One read, as the parts of an object show it.
use Rattle.std.proofs.Common.{◌≡◌, ◌≢◌, ℕ, ◌≤◌, ◌⊎◌, inl, inr, Bool, true, false, List, [], Option, Some, None, IfSome, ◌+◌, refl, sym, ap, subst, if◌then◌else◌, arith}
use Rattle.gps_outside.specs.declared.source.ReadStep.{ReadStep}
use Rattle.gps_outside.specs.declared.source.ReadStep.TheVariants as answers
use Rattle.gps_outside.specs.Counts.{Rose}
use Rattle.gps_outside.specs.Links.{IsUnread}
use Rattle.gps_outside.specs.Told.{Stream, Goes, IsAtEnd, Appends, AppendsPart}
use Rattle.upstream_laws.specs.declared.stage.Stage.{Stage}
use Rattle.upstream_laws.specs.declared.stage.Stage.TheVariants as stages
use Rattle.upstream_laws.specs.Head.{Stand, fresh, taken, behind}
use Rattle.gps_upstream.specs.declared.head.Head.{Head}
use Rattle.gps_upstream.specs.declared.head.Head.TheVariants as heads
use Rattle.gps_upstream.specs.declared.upstream.Asked.{Asked}
use Rattle.gps_upstream.specs.declared.upstream.Asked.TheVariants as askings
use Rattle.gps_upstream.specs.declared.reading.HeadStep.{HeadStep}
use Rattle.gps_upstream.specs.declared.reading.HeadStep.TheVariants as steps
use Rattle.gps_upstream.specs.Reading.{CountsQuiet, FailsOnly, FitsBuffer, Gives}
use Rattle.upstream_laws.specs.Carried.{request}
use Rattle.gps_upstream.specs.Upward.{IsOpen, Upward, content_by, handed, head_at, head_by, left_by, same_stand, seen}
use Rattle.gps_upstream.specs.Calls.{answer_of, AsksBy, DoesRead, LeavesSink}
use Rattle.gps_upstream.proofs.Calls.{does_read, first_read, fails_first, took_none}

pub whole_open : (a : Asked) (t : Stage) → IsOpen (head_by a t) → a ≡ askings.Whole
whole_open askings.NotYet t is = absurd is
whole_open askings.Whole t is = refl
whole_open askings.Unsent t is = absurd is

good_at : (t : Stage) → IsOpen (head_at t) → t ≢ stages.Nowhere
good_at stages.Inside is e = cc
good_at stages.Behind is e = cc
good_at stages.Nowhere is e = is

pub good_open : (a : Asked) (t : Stage) → IsOpen (head_by a t) → t ≢ stages.Nowhere
good_open askings.NotYet t is = absurd is
good_open askings.Whole t is = good_at t is
good_open askings.Unsent t is = absurd is

not_start : (t : Stage) → head_at t ≡ heads.Start → ⊥
not_start stages.Inside e = cc
not_start stages.Behind e = cc
not_start stages.Nowhere e = cc

pub start_is : (a : Asked) (t : Stage) → head_by a t ≡ heads.Start → a ≡ askings.NotYet
start_is askings.NotYet t e = refl
start_is askings.Whole t e = absurd (not_start t e)
start_is askings.Unsent t e = absurd (cc)

-- a new source that tells its bytes makes it tell
pub fresh_told : (c : Option Stream) (left : List ℕ)
    → c ≡ Some (record { taken = []; left = left })
    → content_by heads.Start fresh c ≡ Some (record { taken = []; left = behind fresh left })
unfolding same_stand
fresh_told None left e = cc
fresh_told (Some s) left e = ap (λ (x : Option Stream). content_by heads.Start fresh x) e

told_none : (b : Bool) (x : Stream) → x.taken ≡ [] → IfSome (if b then Some x else None) (λ (s : Stream). s.taken ≡ [])
told_none true x e = e
told_none false x e = tt

unread_told : (c : Option Stream) → IfSome c (λ (s : Stream). s.taken ≡ []) → IfSome (content_by heads.Start fresh c) (λ (s : Stream). s.taken ≡ [])
unread_told None is = tt
unread_told (Some s) is = told_none (same_stand fresh (taken fresh s.taken)) (handed heads.Start fresh s) (ap (λ l. behind fresh l) is)

pub fresh_unread : (c : Option Stream) (f q k : ℕ) → IsUnread c f q → k ≡ 0 → IsUnread (content_by heads.Start fresh c) (f + k + 0) q
fresh_unread c f q k is none = record {
  nothing = unread_told c is.nothing;
  no_fault = let source = is.no_fault in omega arith;
  no_quiet = is.no_quiet;
}

-- a daemon that was asked just now
pub open_fresh : (s : Stand) → s ≡ fresh → IsOpen (head_by askings.Whole s.stage)
open_fresh s e = subst (λ (t : Stand). IsOpen (head_by askings.Whole t.stage)) (sym e) tt

pub read_seen : (s : HeadStep) (room : ℕ) (buffer : List ℕ) (device : Option (List ℕ)) (a : Asked) (old new : Stand)
    → (c d : Option Stream) (f f' q q' : ℕ) (w : Option (List ℕ)) (k : ℕ)
    → IsOpen (head_by a old.stage)
    → FitsBuffer s room → Gives s buffer old new c d
    → f ≤ f' → q ≤ q' → (s ≡ steps.Failed → Rose f f') → (s ≡ steps.Quiet → Rose q q')
    → FailsOnly s f f' → CountsQuiet s q q'
    → DoesRead (answer_of s) room buffer (seen device a old c f q w k) (seen device a new d f' q' w k)
read_seen s room buffer device a old new c d f f' q q' w k is_open fits gives faults quiets failed quiet fails_only counts_quiet =
    does_read s room buffer (seen device a old c f q w k) (seen device a new d f' q' w k) (record {
      is_open = is_open;
      at = ap (λ (x : Asked). head_by x new.stage) (whole_open a old.stage is_open);
      fits = fits;
      gives = gives;
      faults_stay = faults;
      quiets_stay = quiets;
      failed = failed;
      quiet = quiet;
      fails_only = fails_only;
      counts_quiet = counts_quiet;
      device = refl;
      written = refl;
      sink_faults = refl;
    })

pub first_seen : (result : ReadStep) (room : ℕ) (buffer : List ℕ) (device : Option (List ℕ)) (a : Asked) (s : Stand)
    → (c : Option Stream) (f q : ℕ) (w w' : Option (List ℕ)) (k k' : ℕ) (new : Upward)
    → head_by a s.stage ≡ heads.Start → s ≡ fresh
    → Goes (Appends (request device)) w w' → k' ≡ k
    → DoesRead result room buffer (seen device askings.Whole s c f q w' k') new
    → DoesRead result room buffer (seen device a s c f q w k) new
first_seen result room buffer device a s c f q w w' k k' new start is written same d =
    first_read result room buffer (seen device a s c f q w k) (seen device askings.Whole s c f q w' k') new
    (record {
      before = start;
      between = ap (λ (t : Stand). head_by askings.Whole t.stage) is;
      device = refl;
      source = refl;
      source_faults = refl;
      quiets = refl;
      stand = refl;
      written = written;
      sink_faults = same;
    })
    d

pub unsent_seen : (room : ℕ) (buffer : List ℕ) (device : Option (List ℕ)) (a : Asked) (s : Stand)
    → (c : Option Stream) (f q : ℕ) (w w' : Option (List ℕ)) (k k' : ℕ)
    → head_by a s.stage ≡ heads.Start
    → Goes (AppendsPart (request device)) w w' → k ≤ k' → Rose k k'
    → DoesRead answers.Failed room buffer (seen device a s c f q w k) (seen device askings.Unsent s c f q w' k')
unsent_seen room buffer device a s c f q w w' k k' start written more rose =
    fails_first room buffer (seen device a s c f q w k) (seen device askings.Unsent s c f q w' k')
    (record {
      before = start;
      after = refl;
      device = refl;
      source = refl;
      source_faults = refl;
      quiets = refl;
      stand = refl;
      written = written;
      rose = rose;
      sink_faults = more;
    })

none_told : (b : Bool) (x : Stream) → x.left ≡ [] → Goes IsAtEnd (if b then Some x else None) (if b then Some x else None)
none_told true x e = record { same = refl; none = e }
none_told false x e = tt

none_left : (h : Head) (bytes : List ℕ) → (h ≡ heads.Bad) ⊎ (h ≡ heads.Unsent) → left_by h bytes ≡ []
none_left h bytes (inl e) = ap (λ (x : Head). left_by x bytes) e
none_left h bytes (inr e) = ap (λ (x : Head). left_by x bytes) e

over_told : (h : Head) (stand : Stand) (c : Option Stream) → (h ≡ heads.Bad) ⊎ (h ≡ heads.Unsent) → Goes IsAtEnd (content_by h stand c) (content_by h stand c)
over_told h stand None is = tt
over_told h stand (Some s) is = none_told (same_stand stand (taken fresh s.taken)) (handed h stand s) (none_left h (behind stand s.left) is)

over_leaves : (u : Upward) → (u.head ≡ heads.Bad) ⊎ (u.head ≡ heads.Unsent) → LeavesSink u u
over_leaves u (inl e) = record { written = refl; sink_faults = refl; started = λ s. cc; sent = λ s. s }
over_leaves u (inr e) = record { written = refl; sink_faults = refl; started = λ s. cc; sent = λ s. s }

over_asks : (u : Upward) → (u.head ≡ heads.Bad) ⊎ (u.head ≡ heads.Unsent) → AsksBy u.head u u
over_asks u (inl e) = subst (λ (h : Head). AsksBy h u u) (sym e) (over_leaves u (inl e))
over_asks u (inr e) = subst (λ (h : Head). AsksBy h u u) (sym e) (over_leaves u (inr e))

pub over_read : (room : ℕ) (buffer : List ℕ) (u : Upward) → (u.head ≡ heads.Bad) ⊎ (u.head ≡ heads.Unsent) → DoesRead answers.End room buffer u u
over_read room buffer u is = record {
  fits = tt;
  bytes = over_told u.head u.stand u.source is;
  faults_stay = omega arith;
  quiets_stay = omega arith;
  failed = λ e. absurd (cc);
  quiet = λ e. absurd (cc);
  fails_only = refl;
  counts_quiet = refl;
  device = refl;
  asked = over_asks u is;
  given = λ first given. given;
  got = tt;
  cause = λ e. absurd (cc);
  ended = λ _. inr (record { over = is; same = refl });
  handed = record { raw = []; took = took_none u.source; stand = refl; handed = refl };
}
