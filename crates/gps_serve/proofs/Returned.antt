-- What the hub knows of the sessions holds of their lanes as they are handed back.
use Rattle.std.proofs.Common.{◌≡◌, ℕ, Bool, true, zero, suc, List, [], ◌∷◌, ◌++◌, ◌⊎◌, inl, inr, map, length, get_or, is_some, Option, Some, None, refl, sym, ◌∙◌, ap, subst, arith}
use Rattle.std.proofs.lemmas.List.{append-nil}
use Rattle.std.proofs.lemmas.List.Concat.{flat_map-append}
use Rattle.std.specs.List.{All, AllZip}
use Rattle.book_log.specs.Entries.{Entry}
use Rattle.book_sessions.specs.MemberView.{MemberView}
use Rattle.gps_lane.specs.Ends.{Taking}
use Rattle.hub_promise.specs.declared.ends.DeviceEnd.{DeviceEnd}
use Rattle.hub_promise.proofs.Sessions.{cause_on}
use Rattle.hub_promise.specs.DaemonHub.{DaemonHub, DaemonHubOver, SessionFits}
use Rattle.hub_promise.specs.Keeping.{IsClosed}
use Rattle.hub_promise.specs.Parts.{InletsView, devices_of}
use Rattle.report_book.specs.BookView.{BookView}
use Rattle.serve_end.specs.declared.done.SessionDone.{SessionDone}
use Rattle.gps_lane.specs.Carried.{input_bytes, input_part}
use Rattle.gps_lane.specs.declared.piece.Piece.{Piece}
use Rattle.serve_end.specs.Lanes.{OneMoreAtMost}
use Rattle.serve_end.specs.Runs.{SourceFacts}
use Rattle.session_runs.specs.Accounts.{Account}
use Rattle.session_runs.proofs.Accounting.{closed_hears}
use Rattle.gps_serve.specs.Served.{InputServed}
use Rattle.gps_serve.specs.Readies.{InputLeft}

fits_still : (names : List (List ℕ)) (before log : List Entry) (a : MemberView) (x y : Taking Piece) → IsClosed a → OneMoreAtMost x y → SessionFits names before log a x
    → SessionFits names before log a y
fits_still names before log a x y closed more fits = elim more [
  | inl same ↦ record {
    run = fits.run;
    account = subst (λ bytes. Account names before log a fits.run [] bytes) (ap input_bytes (sym same)) fits.account;
    cause = cause_on fits.run.closing (length names) (before ++ log) x y a.session [] (same ∙ sym (append-nil x.got)) (λ told. refl) fits.cause;
  }
  | inr one ↦
      let bytes : input_bytes y.got ≡ input_bytes x.got ++ input_bytes (one.0 ∷ []) = ap input_bytes one.1 ∙ flat_map-append input_part x.got (one.0 ∷ []) in
      record {
        run = fits.run;
        account = subst (λ b. Account names before log a fits.run [] b) (sym bytes)
            (closed_hears names before log a fits.run [] (input_bytes x.got) (input_bytes (one.0 ∷ [])) closed fits.account);
        cause = cause_on fits.run.closing (length names) (before ++ log) x y a.session (one.0 ∷ []) one.1 (λ told. let not = ap is_some one.2 in absurd (cc (not, told))) fits.cause;
      }
]

module _ {S K R : Type 0} (sources : SourceFacts S) where
  all_fit : (names : List (List ℕ)) (before log : List Entry) (sessions : List MemberView) (inputs : List (Taking Piece)) (done : List (SessionDone S K R))
      → All IsClosed sessions → AllZip (InputLeft sources) inputs done → AllZip (SessionFits names before log) sessions inputs
      → AllZip (SessionFits names before log) sessions (map (λ (s : SessionDone S K R). s.input_rx) done)
  all_fit names before log [] [] [] closed left fits = tt
  all_fit names before log [] [] (s ∷ done) closed left fits = absurd left
  all_fit names before log [] (x ∷ inputs) done closed left fits = absurd fits
  all_fit names before log (a ∷ sessions) [] done closed left fits = absurd fits
  all_fit names before log (a ∷ sessions) (x ∷ inputs) [] closed left fits = absurd left
  all_fit names before log (a ∷ sessions) (x ∷ inputs) (s ∷ done) closed left fits = (
    fits_still names before log a x s.input_rx (closed zero a (omega arith)) left.0.settled fits.0,
    all_fit names before log sessions inputs done (λ k d there. closed (suc k) d (omega arith)) left.1 fits.1,
  )

  pub hub_returned : (b : BookView) (inlets : List InletsView) (ends : List (Option DeviceEnd)) (inputs : List (Taking Piece)) (done : Bool) (wait : ℕ) (sessions : List (SessionDone S K R))
      → All IsClosed b.sessions → AllZip (InputLeft sources) inputs sessions
      → DaemonHub (record { book = b; devices = devices_of inlets ends; inputs = inputs; done = done; wait = wait })
      → DaemonHub (record { book = b; devices = devices_of inlets ends; inputs = map (λ (s : SessionDone S K R). s.input_rx) sessions; done = done; wait = wait })
  hub_returned b inlets ends inputs done wait sessions closed left hub = (
    hub.0,
    record {
      opening = hub.1.opening;
      devices = hub.1.devices;
      sessions = all_fit b.names hub.0 b.log.log b.sessions inputs sessions closed left hub.1.sessions;
      units = hub.1.units;
      waits = hub.1.waits;
    },
    hub.2,
    hub.3,
  )

  pub all_read : (inputs : List (Taking Piece)) (done : List (SessionDone S K R)) → AllZip (InputLeft sources) inputs done → All (λ (s : SessionDone S K R). InputServed sources s) done
  all_read inputs [] left k d there = absurd (omega arith)
  all_read [] (s ∷ done) left k d there = absurd left
  all_read (x ∷ inputs) (s ∷ done) left zero d there = left.0.served
  all_read (x ∷ inputs) (s ∷ done) left (suc k) d there = all_read inputs done left.1 k d (omega arith)
