-- Which lines are of a session, of a monitor, or of another kind.
use Rattle.std.proofs.Common.{◌≡◌, ℕ, ◌^◌, ◌<◌, Bool, true, false, cond, List, [], ◌∷◌, ◌++◌, map, refl, sym, ap, ◌∙◌, append-nil, arith, codes}
use Rattle.std.specs.Prelude.{nat_eq}
use Rattle.std.specs.List.{AllByRecursion, concat, filter, flat_map}
use Rattle.std.proofs.lemmas.Bool.Decides.{nat_tests}
use Rattle.std.proofs.lemmas.List.Elements.{filter-append}
use Rattle.shm_monitor.specs.declared.reading.Reading.{Reading}
use Rattle.line_cut.specs.Lines.{AreLines}
use Rattle.output_lines.specs.Items.{item_line}
use Rattle.replay_player.specs.States.{State}
use Rattle.replay_laws.specs.Outputs.{is_of, is_other_line}
use Rattle.replay_laws.specs.Readings.{EndedReading, ended_at, is_by, line_of}
use Rattle.replay_laws.proofs.Apart.{IsApart}
use Rattle.replay_laws.proofs.Rows.{item_is_line, item_of, item_no_other, item_of_no_monitor, reading_is_line, reading_no_other, reading_of, reading_of_no_session}

-- the lines of a session and of a monitor among some lines
abbrev pub session_rows : ℕ → List (List ℕ) → List (List ℕ)
session_rows s rows = filter (is_of (codes "s") s) rows

abbrev pub monitor_rows : ℕ → List (List ℕ) → List (List ℕ)
monitor_rows m rows = filter (is_of (codes "m") m) rows

pub joined_rows : (p : List ℕ → Bool) (one more : List (List ℕ)) → filter p more ≡ [] → filter p (one ++ more) ≡ filter p one
joined_rows p one more none = filter-append p one more ∙ ap (λ (l : List (List ℕ)). filter p one ++ l) none ∙ append-nil (filter p one)

pub lines_joined : (one more : List (List ℕ)) → AreLines one → AreLines more → AreLines (one ++ more)
lines_joined [] more a b = b
lines_joined (row ∷ one) more a b = (a.0, lines_joined one more a.1 b)

pub concat_map : {X : Type 0} (f : X → List ℕ) (xs : List X) → concat (map f xs) ≡ flat_map f xs
concat_map f [] = refl
concat_map f (x ∷ xs) = ap (λ (l : List ℕ). f x ++ l) (concat_map f xs)

-- ---- the lines of items

pub items_lines : (s : ℕ) (items : List (List ℕ)) → AreLines (map (item_line s) items)
items_lines s [] = tt
items_lines s (item ∷ items) = (item_is_line s item, items_lines s items)

pub filtered : (p : List ℕ → Bool) (b : Bool) (row : List ℕ) (rows : List (List ℕ)) → p row ≡ b → filter p (row ∷ rows) ≡ cond b (row ∷ filter p rows) (filter p rows)
filtered p b row rows is = ap (λ (c : Bool). cond c (row ∷ filter p rows) (filter p rows)) is

pub items_mine : (s : ℕ) (items : List (List ℕ)) → s < 2 ^ 64 → session_rows s (map (item_line s) items) ≡ map (item_line s) items
items_mine s [] low = refl
items_mine s (item ∷ items) low =
    let same : nat_eq s s ≡ true = grind (arith, nat_tests) in
    filtered (is_of (codes "s") s) true (item_line s item) (map (item_line s) items) (item_of s s item low low ∙ same)
    ∙ ap (λ (l : List (List ℕ)). item_line s item ∷ l) (items_mine s items low)

pub items_other : (s t : ℕ) (items : List (List ℕ)) → s < 2 ^ 64 → t < 2 ^ 64 → nat_eq t s ≡ false → session_rows s (map (item_line t) items) ≡ []
items_other s t [] low high test = refl
items_other s t (item ∷ items) low high test =
    filtered (is_of (codes "s") s) false (item_line t item) (map (item_line t) items) (item_of s t item low high ∙ test)
    ∙ items_other s t items low high test

pub items_no_monitor : (m s : ℕ) (items : List (List ℕ)) → monitor_rows m (map (item_line s) items) ≡ []
items_no_monitor m s [] = refl
items_no_monitor m s (item ∷ items) =
    filtered (is_of (codes "m") m) false (item_line s item) (map (item_line s) items) (item_of_no_monitor m s item) ∙ items_no_monitor m s items

-- ---- the lines of readings

pub readings_lines : (readings : List EndedReading) → AreLines (map line_of readings)
readings_lines [] = tt
readings_lines (r ∷ readings) = (reading_is_line r.monitor r.reading, readings_lines readings)

pub readings_no_session : (s : ℕ) (readings : List EndedReading) → session_rows s (map line_of readings) ≡ []
readings_no_session s [] = refl
readings_no_session s (r ∷ readings) =
    filtered (is_of (codes "s") s) false (line_of r) (map line_of readings) (reading_of_no_session s r.monitor r.reading) ∙ readings_no_session s readings

-- neither is a line of another kind
pub items_no_other : (s : ℕ) (items : List (List ℕ)) → AllByRecursion IsApart items → filter is_other_line (map (item_line s) items) ≡ []
items_no_other s [] all = refl
items_no_other s (item ∷ items) all =
    filtered is_other_line false (item_line s item) (map (item_line s) items) (item_no_other s item all.0) ∙ items_no_other s items all.1

pub readings_no_other : (readings : List EndedReading) → filter is_other_line (map line_of readings) ≡ []
readings_no_other [] = refl
readings_no_other (r ∷ readings) =
    filtered is_other_line false (line_of r) (map line_of readings) (reading_no_other r.monitor r.reading) ∙ readings_no_other readings

abbrev pub HasLowMonitor : EndedReading → Type 0
HasLowMonitor r = r.monitor < 2 ^ 64

pub readings_chosen : (m : ℕ) (readings : List EndedReading) → m < 2 ^ 64 → AllByRecursion HasLowMonitor readings → monitor_rows m (map line_of readings) ≡ map line_of (filter (is_by m) readings)
readings_chosen m [] low all = refl
readings_chosen m (r ∷ readings) low all = by_monitor (nat_eq r.monitor m) refl (readings_chosen m readings low all.1)
  where
    by_monitor : (b : Bool) → nat_eq r.monitor m ≡ b → monitor_rows m (map line_of readings) ≡ map line_of (filter (is_by m) readings)
        → monitor_rows m (line_of r ∷ map line_of readings) ≡ map line_of (cond (is_by m r) (r ∷ filter (is_by m) readings) (filter (is_by m) readings))
    by_monitor true test next =
        filtered (is_of (codes "m") m) true (line_of r) (map line_of readings) (reading_of m r.monitor r.reading low all.0 ∙ test)
        ∙ ap (λ (l : List (List ℕ)). line_of r ∷ l) next
        ∙ ap (λ (b : Bool). map line_of (cond b (r ∷ filter (is_by m) readings) (filter (is_by m) readings))) (sym test)
    by_monitor false test next =
        filtered (is_of (codes "m") m) false (line_of r) (map line_of readings) (reading_of m r.monitor r.reading low all.0 ∙ test)
        ∙ next
        ∙ ap (λ (b : Bool). map line_of (cond b (r ∷ filter (is_by m) readings) (filter (is_by m) readings))) (sym test)

pub low_monitors : (m u : ℕ) (state : State) (readings : List Reading) → m < 2 ^ 64 → AllByRecursion HasLowMonitor (map (ended_at m u state) readings)
low_monitors m u state [] low = tt
low_monitors m u state (r ∷ readings) low = (low, low_monitors m u state readings low)
