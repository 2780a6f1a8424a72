-- What is written for each session: its own lines, whatever is written beside.
use Rattle.std.proofs.Common.{◌≡◌, ◌≢◌, ℕ, zero, suc, ◌+◌, ◌^◌, ◌<◌, ◌≤◌, Bool, true, false, List, [], ◌∷◌, ◌++◌, length, map, take, drop, Some, refl, sym, ap, ◌∙◌, subst, arith, take-append-drop, codes}
use Rattle.std.specs.Prelude.{◌==◌, nat_eq, slice_get, slice_set}
use Rattle.std.specs.List.{AllByRecursion}
use Rattle.std.proofs.lemmas.Bool.{eqb-true, eqb-false}
use Rattle.std.proofs.lemmas.Bool.Decides.{nat_tests}
use Rattle.std.proofs.lemmas.List.{length-append, length-map, length-take-le, map-append, take-append-le}
use Rattle.std.proofs.lemmas.List.Elements.{filter-append}
use Rattle.std.proofs.Math.Seq.{take-append-add}
use Rattle.session_core.specs.declared.mark.Close.{Close}
use Rattle.session_core.specs.Stretches.{end_of}
use Rattle.book_batch.specs.Lines.{line_for}
use Rattle.book_log.specs.Entries.{Entry}
use Rattle.book_log.specs.History.{history, history_after}
use Rattle.output_lines.specs.Items.{item_line}
use Rattle.replay_player.specs.Clients.{Client, after_take, closed, items_of, kept_of, next_taken, opened, told}
use Rattle.replay_laws.specs.Outputs.{is_of}
use Rattle.replay_laws.proofs.Apart.{IsApart, all_dropped, session_apart}
use Rattle.replay_laws.proofs.Growing.{GoesOn, IsInside, closed_run_on, opened_inside, told_on}
use Rattle.replay_laws.proofs.States.{at_last, at_longer, is_within, set_at, set_beside, set_long}
use Rattle.replay_laws.proofs.Chosen.{items_mine, joined_rows, session_rows}

-- ---- one session

pub record Told (names : List (List ℕ)) (log : List Entry) (rows : List (List ℕ)) (s : ℕ) (c : Client) : Type 0 where
  pub inside : IsInside (history log) c.run
  pub few : c.taken ≤ length (items_of names log c)
  pub written : session_rows s rows ≡ map (item_line s) (take c.taken (items_of names log c))

-- what its outlet keeps
pub kept_apart : (names : List (List ℕ)) (log : List Entry) (rows : List (List ℕ)) (s : ℕ) (c : Client) → Told names log rows s c → AllByRecursion IsApart (kept_of names log c)
kept_apart names log rows s c is =
    all_dropped IsApart c.taken (items_of names log c) (session_apart names log (end_of c.run.closing (history log)) c.run.stretches is.inside.replies)

-- its run goes on
pub told_further : (names : List (List ℕ)) (log longer : List Entry) (rows : List (List ℕ)) (s : ℕ) (c next : Client)
    → GoesOn (line_for names) (history log) (history longer) c.run next.run → next.taken ≡ c.taken → Told names log rows s c → Told names longer rows s next
told_further names log longer rows s c next goes same is =
    let items : List (List ℕ) = items_of names log c in
    let long : length (items ++ goes.more) ≡ length items + length goes.more = length-append items goes.more in
    let size : length (items_of names longer next) ≡ length (items ++ goes.more) = ap (λ (l : List (List ℕ)). length l) goes.items in
    let few : c.taken ≤ length items = is.few in
    let taken : take next.taken (items_of names longer next) ≡ take c.taken items =
    ap (λ (n : ℕ). take n (items_of names longer next)) same
    ∙ ap (λ (l : List (List ℕ)). take c.taken l) goes.items
    ∙ take-append-le c.taken items goes.more few in
    record {
      inside = goes.inside;
      few = omega (arith, same, size, long, few);
      written = is.written ∙ ap (λ (l : List (List ℕ)). map (item_line s) l) (sym taken);
    }

-- lines are written that are not its own
pub told_beside : (names : List (List ℕ)) (log : List Entry) (rows more : List (List ℕ)) (s : ℕ) (c : Client) → session_rows s more ≡ [] → Told names log rows s c → Told names log (rows ++ more) s c
told_beside names log rows more s c none is =
    record { inside = is.inside; few = is.few; written = joined_rows (is_of (codes "s") s) rows more none ∙ is.written }

-- items are taken
taken_all : {X : Type 0} (m : ℕ) (xs : List X) → take (length (take m xs)) xs ≡ take m xs
taken_all zero xs = refl
taken_all (suc m) [] = refl
taken_all (suc m) (x ∷ xs) = ap (λ (l : List _). x ∷ l) (taken_all m xs)

taken_few : {X : Type 0} (m : ℕ) (xs : List X) → length (take m xs) ≤ length xs
taken_few m xs =
    let whole : length (take m xs ++ drop m xs) ≡ length xs = ap (λ (l : List _). length l) (take-append-drop m xs) in
    let parts = length-append (take m xs) (drop m xs) in
    omega (arith, whole, parts)

taken_on : {X : Type 0} (a m : ℕ) (xs : List X) → a ≤ length xs → take (a + length (take m (drop a xs))) xs ≡ take a xs ++ take m (drop a xs)
taken_on a m xs few =
    let n : ℕ = length (take m (drop a xs)) in
    let front : length (take a xs) ≡ a = length-take-le a xs few in
    ap (λ (k : ℕ). take (k + n) xs) (sym front)
    ∙ ap (λ (l : List _). take (length (take a xs) + n) l) (sym (take-append-drop a xs))
    ∙ take-append-add (take a xs) (drop a xs) n
    ∙ ap (λ (l : List _). take a xs ++ l) (taken_all m (drop a xs))

pub told_taken : (names : List (List ℕ)) (log : List Entry) (rows : List (List ℕ)) (s most : ℕ) (c : Client) → s < 2 ^ 64 → Told names log rows s c
    → Told names log (rows ++ map (item_line s) (next_taken most names log c)) s (after_take most names log c)
told_taken names log rows s most c low is =
    let items : List (List ℕ) = items_of names log c in
    let next : List (List ℕ) = next_taken most names log c in
    let few : c.taken ≤ length items = is.few in
    let front : length (take c.taken items) ≡ c.taken = length-take-le c.taken items few in
    let whole : length (take c.taken items ++ drop c.taken items) ≡ length items = ap (λ (l : List (List ℕ)). length l) (take-append-drop c.taken items) in
    let parts = length-append (take c.taken items) (drop c.taken items) in
    let less : length next ≤ length (drop c.taken items) = taken_few most (drop c.taken items) in
    record {
      inside = is.inside;
      few = omega (arith, front, whole, parts, less);
      written =
          filter-append (is_of (codes "s") s) rows (map (item_line s) next)
          ∙ ap (λ (l : List (List ℕ)). l ++ session_rows s (map (item_line s) next)) is.written
          ∙ ap (λ (l : List (List ℕ)). map (item_line s) (take c.taken items) ++ l) (items_mine s next low)
          ∙ sym (map-append (item_line s) (take c.taken items) next)
          ∙ ap (λ (l : List (List ℕ)). map (item_line s) l) (sym (taken_on c.taken most items few));
    }

-- ---- all sessions

pub record Sessions (names : List (List ℕ)) (log : List Entry) (clients : List Client) (rows : List (List ℕ)) : Type 0 where
  pub count : length clients ≤ 100_000
  pub told : (s : ℕ) (c : Client) → slice_get clients s ≡ Some c → Told names log rows s c
  pub beyond : (s : ℕ) → s < 2 ^ 64 → length clients ≤ s → session_rows s rows ≡ []

pub low_session : (clients : List Client) (s : ℕ) (c : Client) → length clients ≤ 100_000 → slice_get clients s ≡ Some c → s < 2 ^ 64
low_session clients s c count there = let within : s < length clients = is_within clients s c there in omega (arith, count, within)

pub beside : (names : List (List ℕ)) (log : List Entry) (clients : List Client) (rows more : List (List ℕ)) → ((s : ℕ) → s < 2 ^ 64 → session_rows s more ≡ [])
    → Sessions names log clients rows → Sessions names log clients (rows ++ more)
beside names log clients rows more none are =
    record {
      count = are.count;
      told = λ s c there. told_beside names log rows more s c (none s (low_session clients s c are.count there)) (are.told s c there);
      beyond = λ s low past. joined_rows (is_of (codes "s") s) rows more (none s low) ∙ are.beyond s low past;
    }

no_session : (clients : List Client) → clients ≡ [] → (s : ℕ) (c : Client) → slice_get clients s ≡ Some c → ⊥
no_session [] e s c there = cc
no_session (x ∷ clients) e s c there = cc

-- before the first event there is none
pub unborn : (names other : List (List ℕ)) (log : List Entry) (clients : List Client) (rows : List (List ℕ)) → clients ≡ [] → Sessions names log clients rows → Sessions other log clients rows
unborn names other log clients rows none are =
    record { count = are.count; told = λ s c there. absurd (no_session clients none s c there); beyond = are.beyond }

-- each of them becomes another
pub record Mapped {X Y : Type 0} (f : X → Y) (xs : List X) (k : ℕ) (y : Y) : Type 0 where
  pub from : X
  pub there : slice_get xs k ≡ Some from
  pub is : f from ≡ y

pub at_mapped : {X Y : Type 0} (f : X → Y) (xs : List X) (k : ℕ) (y : Y) → slice_get (map f xs) k ≡ Some y → Mapped f xs k y
at_mapped f [] k y e = absurd (cc)
at_mapped f (x ∷ xs) zero y e = record { from = x; there = refl; is = (let same : f x ≡ y = cc in same) }
at_mapped f (x ∷ xs) (suc k) y e = let m : Mapped f xs k y = at_mapped f xs k y e in record { from = m.from; there = m.there; is = m.is }

pub all_further : (names : List (List ℕ)) (log longer : List Entry) (clients : List Client) (rows : List (List ℕ)) (f : Client → Client)
    → ((c : Client) → IsInside (history log) c.run → GoesOn (line_for names) (history log) (history longer) c.run (f c).run) → ((c : Client) → (f c).taken ≡ c.taken)
    → Sessions names log clients rows → Sessions names longer (map f clients) rows
all_further names log longer clients rows f goes same are =
    let long : length (map f clients) ≡ length clients = length-map clients f in
    record {
      count = omega (arith, long, are.count);
      told = λ s c there.
          (let m : Mapped f clients s c = at_mapped f clients s c there in
          let was : Told names log rows s m.from = are.told s m.from m.there in
          subst (Told names longer rows s) m.is (told_further names log longer rows s m.from (f m.from) (goes m.from was.inside) (same m.from) was));
      beyond = λ s low past. are.beyond s low (omega (arith, long, past));
    }

told_keeps : (names : List (List ℕ)) (log entries : List Entry) (c : Client) → (told names log (history_after log entries) c).taken ≡ c.taken
unfolding told
told_keeps names log entries c = refl

pub all_told : (names : List (List ℕ)) (log entries : List Entry) (clients : List Client) (rows : List (List ℕ)) → Sessions names log clients rows
    → Sessions names (log ++ entries) (map (told names log (history_after log entries)) clients) rows
all_told names log entries clients rows are =
    all_further names log (log ++ entries) clients rows (told names log (history_after log entries)) (told_on names log entries) (told_keeps names log entries) are

pub all_shut : (names : List (List ℕ)) (log : List Entry) (why : Close) (clients : List Client) (rows : List (List ℕ)) → Sessions names log clients rows
    → Sessions names log (map (closed log why) clients) rows
all_shut names log why clients rows are = all_further names log log clients rows (closed log why) (closed_run_on names log why) (λ c. refl) are

-- one of them becomes another
pub set_one : (names : List (List ℕ)) (log : List Entry) (clients : List Client) (rows more : List (List ℕ)) (s : ℕ) (c next : Client) → slice_get clients s ≡ Some c
    → Told names log (rows ++ more) s next → ((j : ℕ) → j < 2 ^ 64 → nat_eq s j ≡ false → session_rows j more ≡ [])
    → Sessions names log clients rows → Sessions names log (slice_set clients s next) (rows ++ more)
set_one names log clients rows more s c next there now none are =
    let long : length (slice_set clients s next) ≡ length clients = set_long clients s next in
    let within : s < length clients = is_within clients s c there in
    record {
      count = omega (arith, long, are.count);
      told = λ j d at. by_place j d at (nat_eq s j) refl;
      beyond = λ j low past.
          (let apart : nat_eq s j ≡ false = (let less : s < j = omega (arith, long, within, past) in grind (arith, nat_tests)) in
          joined_rows (is_of (codes "s") j) rows more (none j low apart) ∙ are.beyond j low (omega (arith, long, past)));
    }
  where
    by_place : (j : ℕ) (d : Client) → slice_get (slice_set clients s next) j ≡ Some d → (b : Bool) → nat_eq s j ≡ b → Told names log (rows ++ more) j d
    by_place j d at true test =
        let here : s ≡ j = grind (arith, nat_tests) in
        let found : slice_get (slice_set clients s next) s ≡ Some next = set_at clients s next c there in
        let moved : slice_get (slice_set clients s next) s ≡ Some d = ap (λ (k : ℕ). slice_get (slice_set clients s next) k) here ∙ at in
        let same : next ≡ d = cc in
        subst (λ (k : ℕ). Told names log (rows ++ more) k d) here (subst (Told names log (rows ++ more) s) same now)
    by_place j d at false test =
        let apart : j ≢ s = λ e. differs j test e in
        let was : slice_get clients j ≡ Some d = sym (set_beside clients s j next apart) ∙ at in
        told_beside names log rows more j d (none j (low_session clients j d are.count was) test) (are.told j d was)
      where
        differs : (k : ℕ) → nat_eq s k ≡ false → k ≡ s → ⊥
        differs k test e = let same : nat_eq s k ≡ true = grind (arith, nat_tests) in cc

-- a new one
pub added : (names : List (List ℕ)) (log : List Entry) (clients : List Client) (rows : List (List ℕ)) (cap : ℕ) → length clients < 100_000
    → Sessions names log clients rows → Sessions names log (clients ++ opened cap log ∷ []) rows
added names log clients rows cap room are =
    let long : length (clients ++ opened cap log ∷ []) ≡ length clients + 1 = length-append clients (opened cap log ∷ []) in
    record {
      count = omega (arith, long, room);
      told = λ j d at. by_place j d at (j == length clients) refl;
      beyond = λ j low past. are.beyond j low (omega (arith, long, past));
    }
  where
    new : Told names log rows (length clients) (opened cap log)
    new =
        let low : length clients < 2 ^ 64 = omega (arith, room) in
        let past : length clients ≤ length clients = omega arith in
        record { inside = opened_inside log; few = omega arith; written = are.beyond (length clients) low past }

    by_place : (j : ℕ) (d : Client) → slice_get (clients ++ opened cap log ∷ []) j ≡ Some d → (b : Bool) → (j == length clients) ≡ b → Told names log rows j d
    by_place j d at true test =
        let here : j ≡ length clients = eqb-true j (length clients) test in
        let last : slice_get (clients ++ opened cap log ∷ []) (length clients) ≡ Some d = ap (λ (k : ℕ). slice_get (clients ++ opened cap log ∷ []) k) (sym here) ∙ at in
        let same : opened cap log ≡ d = at_last clients (opened cap log) d last in
        subst (λ (k : ℕ). Told names log rows k d) (sym here) (subst (Told names log rows (length clients)) same new)
    by_place j d at false test = are.told j d (at_longer clients (opened cap log) d j at (eqb-false j (length clients) test))
