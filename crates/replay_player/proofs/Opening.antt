-- A new book stands for the state in which its devices and units were declared.
use Rattle.std.proofs.Common.{◌≡◌, ◌≤◌, ℕ, zero, suc, List, [], length, slice_index, replicate, get_or, refl, sym, ap, ◌∙◌, subst, arith}
use Rattle.std.specs.List.{All, AllZip}
use Rattle.shm_segment.specs.declared.sample.Sample.{Sample}
use Rattle.book_log.specs.History.{history}
use Rattle.book_sessions.specs.MemberView.{MemberView}
use Rattle.book_units.specs.Samples.{samples_of}
use Rattle.report_book.specs.BookView.{BookView}
use Rattle.report_book.specs.Moves.{IsNewBook}
use Rattle.session_runs.proofs.Whole.{nothing_after}
use Rattle.replay_player.specs.Books.{IsStoredAt}
use Rattle.replay_player.proofs.Books.{new_book}
use Rattle.replay_player.specs.Playing.{Attends, Opens}
use Rattle.replay_player.specs.States.{most_units}
use Rattle.replay_player.proofs.Bringing.{same_state}

no_stores : (n u : ℕ) → get_or (replicate n zero) u zero ≡ zero
no_stores zero u = refl
no_stores (suc n) zero = refl
no_stores (suc n) (suc u) = no_stores n u

pub stage_opens : (devices : ℕ) (names : List (List ℕ)) (limit : ℕ) (firsts : List ℕ) (b : BookView) → All (λ first. first ≤ 1_073_741_823) firsts → length firsts ≡ 16 → length names ≤ 8
    → IsNewBook names limit firsts b → Opens names firsts (record { devices = devices; book = b; watchers = [] })
stage_opens devices names limit firsts b bounds many few is =
    let A : List MemberView → Type 0 = λ l. AllZip (Attends b.names [] b.log.log) l [] in
    record {
      before = [];
      firsts = firsts;
      clients = [];
      stores = replicate most_units 0;
      watches = [];
      standing = record {
        stands = is.log.opening;
        requests = is.most_requests;
        clients_are = subst A (sym is.sessions) tt;
        units_are = λ u within.
            let none : samples_of u (history b.log.log) ≡ [] = ap (λ l. samples_of u (history l)) is.log.log ∙ ap (samples_of u) (nothing_after []) in
            let P : List Sample → Type 0 = λ l. IsStoredAt u (slice_index firsts u) l (slice_index (replicate most_units 0) u) b in
            let Q : ℕ → Type 0 = λ n. IsStoredAt u (slice_index firsts u) [] n b in
            subst P (sym none) (subst Q (sym (no_stores most_units u)) (new_book names limit firsts b bounds is u within));
        many = refl;
        few = omega arith;
        watches_are = tt;
      };
      is = same_state b.names names b.log.log [] firsts [] [] (replicate most_units 0) [] is.names_are is.log.log refl;
    }
