-- Bytes with the stamps of runs: without the first ones, and with more behind them.
use Rattle.std.proofs.Common.{◌≡◌, ◌≤◌, ◌<◌, ◌+◌, ◌-◌, ℕ, zero, suc, true, false, List, [], ◌∷◌, ◌++◌, length, take, drop, get_or, refl, inl, inr, sym, subst, ap, arith, ◌∙◌, append_assoc}
use Rattle.std.specs.Prelude.{nat_lt}
use Rattle.std.proofs.lemmas.Bool.{cases_lt, lt-ltb, le-ltb}
use Rattle.std.proofs.lemmas.List.{length-append, length-drop, length-take-le, drop_all, drop_more, drop-take, drop-drop, drop-map, drop-append-le, take-append-le, append-nil, get_or-drop, take_all, take-append-drop}
use Rattle.std.proofs.Math.Seq.{drop-append-add}
use Rattle.gps_fixed.specs.Moment.{Moment}
use Rattle.packet_cut.specs.declared.kept.Run.{Run}
use Rattle.packet_cut.specs.declared.kept.RunPlace.{RunPlace}
use Rattle.packet_cut.specs.Packets.{Stamped, stamped, bytes_of, most_pending}
use Rattle.packet_cut.specs.Runs.{spread, AreRuns, runs_after, run_of, IsRunPlace, HasRoom, IsKept}
use Rattle.packet_cut.specs.Standing.{stamp_in}
use Rattle.packet_cut.proofs.StreamLaws.{bytes_of-append, bytes_of-stamped, length-bytes_of, length-stamped}

-- ---- the bytes of the runs
pub spread_bytes : (runs : List Run) (bytes : List ℕ) → AreRuns runs bytes → bytes_of (spread runs bytes) ≡ bytes
unfolding spread AreRuns
spread_bytes [] bytes are = sym are
spread_bytes (run ∷ runs) bytes are =
    bytes_of-append (stamped run.at (take run.count bytes)) (spread runs (drop run.count bytes))
    ∙ ap (λ t. t ++ bytes_of (spread runs (drop run.count bytes))) (bytes_of-stamped (take run.count bytes) run.at)
    ∙ ap (λ t. take run.count bytes ++ t) (spread_bytes runs (drop run.count bytes) are.2)
    ∙ take-append-drop run.count bytes

pub spread_length : (runs : List Run) (bytes : List ℕ) → AreRuns runs bytes → length (spread runs bytes) ≡ length bytes
spread_length runs bytes are = sym (length-bytes_of (spread runs bytes)) ∙ ap length (spread_bytes runs bytes are)

-- each run has a byte
pub runs_few : (runs : List Run) (bytes : List ℕ) → AreRuns runs bytes → length runs ≤ length bytes
unfolding AreRuns
runs_few [] bytes are = omega arith
runs_few (run ∷ runs) bytes are =
    omega (arith, are.0, are.1, runs_few runs (drop run.count bytes) are.2, length-drop run.count bytes)

pub nothing_is_kept : AreRuns [] []
unfolding AreRuns
nothing_is_kept = refl

pub nothing_spread : (bytes : List ℕ) → spread [] bytes ≡ []
unfolding spread
nothing_spread bytes = refl

-- ---- without the first bytes
pub are_after : (count : ℕ) (runs : List Run) (bytes : List ℕ) → AreRuns runs bytes → AreRuns (runs_after count runs) (drop count bytes)
unfolding AreRuns runs_after
are_after count [] bytes are = drop_all count bytes (omega (arith, ap length are))
are_after count (run ∷ runs) bytes are = elim (cases_lt count run.count) [
  | inl less ↦
      let test : nat_lt count run.count ≡ true = lt-ltb count run.count less in
      let behind : drop (run.count - count) (drop count bytes) ≡ drop run.count bytes =
      drop-drop (run.count - count) count bytes ∙ ap (λ n. drop n bytes) (omega (arith, less)) in
      rw test (omega (arith, less), omega (arith, less, are.1, length-drop count bytes), subst (AreRuns runs) (sym behind) are.2)
  | inr more ↦
      let test : nat_lt count run.count ≡ false = le-ltb count run.count more in
      let behind : drop (count - run.count) (drop run.count bytes) ≡ drop count bytes =
      drop-drop (count - run.count) run.count bytes ∙ ap (λ n. drop n bytes) (omega (arith, more)) in
      rw test (subst (AreRuns (runs_after (count - run.count) runs)) behind (are_after (count - run.count) runs (drop run.count bytes) are.2))
]

pub spread_after : (count : ℕ) (runs : List Run) (bytes : List ℕ) → AreRuns runs bytes
    → spread (runs_after count runs) (drop count bytes) ≡ drop count (spread runs bytes)
unfolding spread AreRuns runs_after
spread_after count [] bytes are = sym (drop_all count [] (omega arith))
spread_after count (run ∷ runs) bytes are =
    let size : length (stamped run.at (take run.count bytes)) ≡ run.count =
    length-stamped run.at (take run.count bytes) ∙ length-take-le run.count bytes are.1 in
    elim (cases_lt count run.count) [
      | inl less ↦
          let test : nat_lt count run.count ≡ true = lt-ltb count run.count less in
          let whole : run.count ≡ count + (run.count - count) = omega (arith, less) in
          let behind : drop (run.count - count) (drop count bytes) ≡ drop run.count bytes =
          drop-drop (run.count - count) count bytes ∙ ap (λ n. drop n bytes) (sym whole) in
          let cut : take (run.count - count) (drop count bytes) ≡ drop count (take run.count bytes) =
          sym (ap (λ n. drop count (take n bytes)) whole ∙ drop-take count (run.count - count) bytes) in
          rw (test, cut, behind)
          (ap (λ t. t ++ spread runs (drop run.count bytes)) (sym (drop-map (λ byte. (run.at, byte)) count (take run.count bytes)))
          ∙ sym (drop-append-le count (stamped run.at (take run.count bytes)) (spread runs (drop run.count bytes)) (omega (arith, size, less))))
      | inr more ↦
          let test : nat_lt count run.count ≡ false = le-ltb count run.count more in
          let behind : drop (count - run.count) (drop run.count bytes) ≡ drop count bytes =
          drop-drop (count - run.count) run.count bytes ∙ ap (λ n. drop n bytes) (omega (arith, more)) in
          let whole : count ≡ length (stamped run.at (take run.count bytes)) + (count - run.count) = omega (arith, size, more) in
          rw test
          (ap (spread (runs_after (count - run.count) runs)) (sym behind)
          ∙ spread_after (count - run.count) runs (drop run.count bytes) are.2
          ∙ sym (ap (λ n. drop n (stamped run.at (take run.count bytes) ++ spread runs (drop run.count bytes))) whole
          ∙ drop-append-add (stamped run.at (take run.count bytes)) (spread runs (drop run.count bytes)) (count - run.count)))
    ]

-- ---- with more behind them
runs_of_some : (at : Moment) (byte : ℕ) (more : List ℕ) → run_of at (length (byte ∷ more)) ≡ record { at = at; count = length (byte ∷ more) } ∷ []
runs_of_some at byte more =
    let test : nat_lt 0 (length (byte ∷ more)) ≡ true = lt-ltb 0 (length (byte ∷ more)) (omega arith) in rw test refl

one_run : (at : Moment) (more : List ℕ) → AreRuns (run_of at (length more)) more
unfolding AreRuns
one_run at [] = refl
one_run at (byte ∷ more) =
    rw (runs_of_some at byte more) (omega arith, omega arith, drop_all (length (byte ∷ more)) (byte ∷ more) (omega arith))

pub are_more : (runs : List Run) (bytes : List ℕ) (at : Moment) (more : List ℕ) → AreRuns runs bytes → AreRuns (runs ++ run_of at (length more)) (bytes ++ more)
unfolding AreRuns
are_more [] bytes at more are = rw are (one_run at more)
are_more (run ∷ runs) bytes at more are = (
  are.0,
  omega (arith, are.1, length-append bytes more),
  subst (AreRuns (runs ++ run_of at (length more))) (sym (drop-append-le run.count bytes more are.1)) (are_more runs (drop run.count bytes) at more are.2),
)

one_spread : (at : Moment) (more : List ℕ) → spread (run_of at (length more)) more ≡ stamped at more
unfolding spread
one_spread at [] = refl
one_spread at (byte ∷ more) =
    ap (λ t. spread t (byte ∷ more)) (runs_of_some at byte more)
    ∙ append-nil (stamped at (take (length (byte ∷ more)) (byte ∷ more)))
    ∙ ap (stamped at) (take_all (length (byte ∷ more)) (byte ∷ more) (omega arith))

pub spread_more : (runs : List Run) (bytes : List ℕ) (at : Moment) (more : List ℕ) → AreRuns runs bytes
    → spread (runs ++ run_of at (length more)) (bytes ++ more) ≡ spread runs bytes ++ stamped at more
unfolding spread AreRuns
spread_more [] bytes at more are = rw are (one_spread at more)
spread_more (run ∷ runs) bytes at more are =
    ap (λ t. stamped run.at t ++ spread (runs ++ run_of at (length more)) (drop run.count (bytes ++ more))) (take-append-le run.count bytes more are.1)
    ∙ ap (λ t. stamped run.at (take run.count bytes) ++ spread (runs ++ run_of at (length more)) t) (drop-append-le run.count bytes more are.1)
    ∙ ap (λ t. stamped run.at (take run.count bytes) ++ t) (spread_more runs (drop run.count bytes) at more are.2)
    ∙ sym (append_assoc (stamped run.at (take run.count bytes)) (spread runs (drop run.count bytes)) (stamped at more))

-- ---- what is kept
pub kept_nothing : (runs : List Run) (bytes : List ℕ) (bytes_room runs_room : ℕ) → runs ≡ [] → bytes ≡ [] → IsKept runs bytes bytes_room runs_room
unfolding AreRuns
kept_nothing runs bytes bytes_room runs_room none none_too = rw (none, none_too)
    (record { are_runs = refl; short = omega arith; has_room = record { for_bytes = λ some. absurd (omega arith); for_runs = λ some. absurd (omega arith) } })

pub kept_piece : (room runs : List Run) (at : Moment) (bytes : List ℕ) (bytes_room given left : ℕ) → room ≡ [] → runs ≡ room ++ run_of at (length bytes)
    → length bytes ≤ most_pending → HasRoom (length bytes) bytes_room given → left ≡ given → IsKept runs bytes bytes_room left
kept_piece room runs at bytes bytes_room given left none are short enough same =
    let all : runs ≡ run_of at (length bytes) = are ∙ ap (λ t. t ++ run_of at (length bytes)) none in
    record { are_runs = subst (λ t. AreRuns t bytes) (sym all) (one_run at bytes); short = short; has_room = subst (HasRoom (length bytes) bytes_room) (sym same) enough }

pub piece_spread : (room runs : List Run) (at : Moment) (bytes : List ℕ) → room ≡ [] → runs ≡ room ++ run_of at (length bytes) → spread runs bytes ≡ stamped at bytes
piece_spread room runs at bytes none are =
    ap (λ t. spread t bytes) (are ∙ ap (λ t. t ++ run_of at (length bytes)) none) ∙ one_spread at bytes

-- the first bytes go and those of a piece come
module _ (kept : List Stamped) (runs : List Run) (bytes : List ℕ) (bytes_room runs_room gone : ℕ) (at : Moment) (more : List ℕ)
    (view : spread runs bytes ≡ kept) (before : IsKept runs bytes bytes_room runs_room) (some : 0 < length kept)
    (short : length (drop gone kept ++ stamped at more) ≤ most_pending) where
  same_length : length bytes ≡ length kept
  same_length = sym (spread_length runs bytes before.are_runs) ∙ ap length view

  after_length : length (drop gone bytes) + length more ≤ most_pending
  after_length =
      omega (arith, same_length, short, length-append (drop gone kept) (stamped at more), length-drop gone kept, length-drop gone bytes, length-stamped at more)

  pub bytes_fit : length (drop gone bytes) + length more ≤ bytes_room
  bytes_fit = omega (arith, after_length, before.has_room.for_bytes (omega (arith, same_length, some)))

  pub runs_fit : 0 < length more → length (runs_after gone runs) < runs_room
  runs_fit new =
      omega (
        arith,
        new,
        after_length,
        runs_few (runs_after gone runs) (drop gone bytes) (are_after gone runs bytes before.are_runs),
        before.has_room.for_runs (omega (arith, same_length, some)),
      )

  pub kept_shifted : (later : List Run) (all : List ℕ) (later_bytes later_runs : ℕ) → later ≡ runs_after gone runs ++ run_of at (length more) → all ≡ drop gone bytes ++ more
      → bytes_room ≤ later_bytes → runs_room ≤ later_runs → IsKept later all later_bytes later_runs
  kept_shifted later all later_bytes later_runs is is_too wider wider_too = record {
    are_runs = rw (is, is_too) (are_more (runs_after gone runs) (drop gone bytes) at more (are_after gone runs bytes before.are_runs));
    short = omega (arith, after_length, ap length is_too, length-append (drop gone bytes) more);
    has_room = record {
      for_bytes = λ any. omega (arith, wider, before.has_room.for_bytes (omega (arith, same_length, some)));
      for_runs = λ any. omega (arith, wider_too, before.has_room.for_runs (omega (arith, same_length, some)));
    };
  }

  pub spread_shifted : (later : List Run) (all : List ℕ) → later ≡ runs_after gone runs ++ run_of at (length more) → all ≡ drop gone bytes ++ more
      → spread later all ≡ drop gone kept ++ stamped at more
  spread_shifted later all is is_too =
      ap (λ t. spread t all) is ∙ ap (spread (runs_after gone runs ++ run_of at (length more))) is_too
      ∙ spread_more (runs_after gone runs) (drop gone bytes) at more (are_after gone runs bytes before.are_runs)
      ∙ ap (λ t. t ++ stamped at more) (spread_after gone runs bytes before.are_runs ∙ ap (drop gone) view)

-- ---- the run of a byte
any_default : (runs : List Run) (at : ℕ) (d e : Run) → at < length runs → get_or runs at d ≡ get_or runs at e
any_default runs at d e within = ap (λ t. get_or t 0 d) (sym (drop_more runs at d within) ∙ drop_more runs at e within)

pub run_passed : (runs : List Run) (count before at : ℕ) (d e : Run) → at < length runs → (get_or runs at d).count ≤ before
    → runs_after before (drop at runs) ≡ runs_after count runs → runs_after (before - (get_or runs at e).count) (drop (at + 1) runs) ≡ runs_after count runs
unfolding runs_after
run_passed runs count before at d e within passed so_far =
    let test : nat_lt before (get_or runs at d).count ≡ false = le-ltb before (get_or runs at d).count passed in
    let step : runs_after before (get_or runs at d ∷ drop (at + 1) runs) ≡ runs_after (before - (get_or runs at d).count) (drop (at + 1) runs) = rw test refl in
    ap (λ r. runs_after (before - r.count) (drop (at + 1) runs)) (any_default runs at e d within)
    ∙ sym step ∙ ap (runs_after before) (sym (drop_more runs at d within)) ∙ so_far

pub run_found : (runs : List Run) (count before at : ℕ) (d : Run) → at < length runs → before < (get_or runs at d).count
    → runs_after before (drop at runs) ≡ runs_after count runs → IsRunPlace runs count (record { run = at; before = before })
unfolding runs_after
run_found runs count before at d within less so_far =
    let test : nat_lt before (get_or runs at d).count ≡ true = lt-ltb before (get_or runs at d).count less in
    let step : runs_after before (get_or runs at d ∷ drop (at + 1) runs)
    ≡ record { at = (get_or runs at d).at; count = (get_or runs at d).count - before } ∷ drop (at + 1) runs = rw test refl in
    record {
      run = get_or runs at d;
      behind = drop (at + 1) runs;
      found = drop_more runs at d within;
      inside = less;
      after = sym so_far ∙ ap (runs_after before) (drop_more runs at d within) ∙ step;
    }

pub runs_over : (runs : List Run) (count before at : ℕ) → length runs ≤ at → runs_after before (drop at runs) ≡ runs_after count runs → runs_after count runs ≡ []
unfolding runs_after
runs_over runs count before at over so_far = sym so_far ∙ ap (runs_after before) (drop_all at runs over)

-- ---- the stamp of a byte
first_stamp : Moment → List Stamped → Moment
first_stamp other [] = other
first_stamp other (byte ∷ more) = byte.0

stamp_first : (stream : List Stamped) (place : ℕ) (at : Moment) → first_stamp at (drop place stream) ≡ stamp_in stream at place
unfolding first_stamp
stamp_first [] zero at = refl
stamp_first [] (suc place) at = refl
stamp_first (byte ∷ stream) zero at = refl
stamp_first (byte ∷ stream) (suc place) at = stamp_first stream place at

first_of_run : (run : Run) (runs : List Run) (bytes : List ℕ) (at : Moment) → AreRuns (run ∷ runs) bytes → first_stamp at (spread (run ∷ runs) bytes) ≡ run.at
unfolding first_stamp spread AreRuns
first_of_run run runs [] at are = absurd (omega (arith, are.0, are.1))
first_of_run run runs (byte ∷ bytes) at are =
    let whole : run.count ≡ suc (run.count - 1) = omega (arith, are.0) in
    ap (λ n. first_stamp at (stamped run.at (take n (byte ∷ bytes)) ++ spread runs (drop run.count (byte ∷ bytes)))) whole

pub stamp_of_run : (runs : List Run) (bytes : List ℕ) (place : ℕ) (at : Moment) (found : RunPlace) (run : Run) → AreRuns runs bytes → IsRunPlace runs place found
    → run ≡ get_or runs found.run run → run.at ≡ stamp_in (spread runs bytes) at place
stamp_of_run runs bytes place at found run are is here =
    let same : run ≡ is.run =
    here ∙ sym (get_or-drop found.run runs 0 run ∙ ap (λ n. get_or runs n run) (omega arith)) ∙ ap (λ t. get_or t 0 run) is.found in
    let known : AreRuns (record { at = is.run.at; count = is.run.count - found.before } ∷ is.behind) (drop place bytes) =
    subst (λ t. AreRuns t (drop place bytes)) is.after (are_after place runs bytes are) in
    ap (λ r. r.at) same
    ∙ sym (first_of_run (record { at = is.run.at; count = is.run.count - found.before }) is.behind (drop place bytes) at known)
    ∙ ap (λ t. first_stamp at (spread t (drop place bytes))) (sym is.after)
    ∙ ap (first_stamp at) (spread_after place runs bytes are)
    ∙ stamp_first (spread runs bytes) place at

pub stamp_behind : (runs : List Run) (bytes : List ℕ) (place : ℕ) (at : Moment) → AreRuns runs bytes → runs_after place runs ≡ [] → at ≡ stamp_in (spread runs bytes) at place
unfolding first_stamp
stamp_behind runs bytes place at are none =
    ap (first_stamp at) (sym (nothing_spread (drop place bytes)) ∙ ap (λ t. spread t (drop place bytes)) (sym none) ∙ spread_after place runs bytes are)
    ∙ stamp_first (spread runs bytes) place at
