-- The items of two generations joined are those of one history, and so are those of a whole run.
use Rattle.std.proofs.Common.{◌≡◌, ◌≤◌, ℕ, ◌+◌, ◌-◌, List, [], ◌∷◌, ◌++◌, length, take, drop, map, refl, sym, ◌∙◌, ap, subst, append-nil, append_assoc, option_to_list, take_all, arith}
use Rattle.std.proofs.Math.Seq.{take-append-add, drop-append-add}
use Rattle.std.proofs.lemmas.List.{length-append, length-drop, drop-append-le}
use Rattle.std.proofs.lemmas.Grind.{flat_map-append}
use Rattle.gps_report.specs.declared.policy.Policy.{Policy}
use Rattle.gps_report.specs.declared.report.Report.{Report}
use Rattle.session_core.specs.Stretches.{Stretch, between, next_place, selected, items_to, AreInOrder, last_watched, left_of, placed_from, plain_stretch}
use Rattle.session_core.specs.Holding.{Selection}
use Rattle.session_core.specs.Generations.{Generation, AreGenerations, run_reports, run_stretches, run_items}
use Rattle.session_core.proofs.Intervals.{next_within, between_longer}

next_placed : (base end : ℕ) (stretches : List Stretch) → next_place (base + end) (map (placed_from base) stretches) ≡ base + next_place end stretches
next_placed base end [] = refl
next_placed base end (stretch ∷ more) = refl

watched_placed : (base : ℕ) (policy : Policy) (stretches : List Stretch) → last_watched policy (map (placed_from base) stretches) ≡ last_watched policy stretches
watched_placed base policy [] = refl
watched_placed base policy (stretch ∷ more) = watched_placed base stretch.policy more

watched_joined : (base : ℕ) (policy : Policy) (earlier later : List Stretch)
    → last_watched (last_watched policy earlier) later ≡ last_watched policy (earlier ++ map (placed_from base) later)
watched_joined base policy [] later = sym (watched_placed base policy later)
watched_joined base policy (stretch ∷ earlier) later = watched_joined base stretch.policy earlier later

left_joined : (base : ℕ) (earlier later : List Stretch) → left_of (left_of earlier ++ later) ≡ left_of (earlier ++ map (placed_from base) later)
left_joined base [] [] = refl
left_joined base [] (stretch ∷ later) = ap (λ policy. plain_stretch 0 policy ∷ []) (sym (watched_placed base stretch.policy later))
left_joined base (stretch ∷ earlier) later = ap (λ policy. plain_stretch 0 policy ∷ []) (watched_joined base stretch.policy earlier later)

order_placed : (base end : ℕ) (stretches : List Stretch) → AreInOrder end stretches → AreInOrder (base + end) (map (placed_from base) stretches)
order_placed base end [] order = tt
order_placed base end (stretch ∷ more) order = (omega (arith, next_placed base end more, order.0), order_placed base end more order.1)

order_joined : (base end : ℕ) (earlier later : List Stretch) → AreInOrder base earlier → AreInOrder end later
    → AreInOrder (base + end) (earlier ++ map (placed_from base) later)
order_joined base end [] later before behind = order_placed base end later behind
order_joined base end (stretch ∷ []) later before behind = (omega (arith, next_placed base end later, before.0), order_placed base end later behind)
order_joined base end (stretch ∷ second ∷ earlier) later before behind = (before.0, order_joined base end (second ∷ earlier) later before.1 behind)

module _ {R : Type 0} where
  between_moved : (from to : ℕ) (before history : List R) → between (length before + from) (length before + to) (before ++ history) ≡ between from to history
  between_moved from to before history =
      let width : (length before + to) - (length before + from) ≡ to - from = omega arith in
      ap (λ n. take n (drop (length before + from) (before ++ history))) width ∙ ap (take (to - from)) (drop-append-add before history from)

  between_across : (from to : ℕ) (before history : List R) → from ≤ length before
      → between from (length before + to) (before ++ history) ≡ between from (length before) before ++ between 0 to history
  between_across from to before history there =
      let rest = drop from before in
      let all : length rest ≤ length before - from = omega (arith, length-drop from before) in
      let width : (length before + to) - from ≡ length rest + to = omega (arith, length-drop from before, there) in
      let none : to - 0 ≡ to = omega arith in
      ap (λ n. take n (drop from (before ++ history))) width
      ∙ ap (take (length rest + to)) (drop-append-le from before history there)
      ∙ take-append-add rest history to
      ∙ ap (λ l. l ++ take to history) (sym (take_all (length before - from) rest all))
      ∙ ap (λ n. between from (length before) before ++ take n history) (sym none)

module _ {R : Type 0} (lines : Policy → R → List (List ℕ)) where
  items_placed : (end : ℕ) (stretches : List Stretch) (before history : List R)
      → items_to lines (length before + end) (map (placed_from (length before)) stretches) (before ++ history) ≡ items_to lines end stretches history
  items_placed end [] before history = refl
  items_placed end (stretch ∷ more) before history =
      let base = length before in
      let reply = option_to_list stretch.reply in
      let part : between (base + stretch.place) (next_place (base + end) (map (placed_from base) more)) (before ++ history) ≡ between stretch.place (next_place end more) history =
      ap (λ n. between (base + stretch.place) n (before ++ history)) (next_placed base end more) ∙ between_moved stretch.place (next_place end more) before history in
      ap (λ l. (reply ++ selected lines stretch.policy l) ++ items_to lines (base + end) (map (placed_from base) more) (before ++ history)) part
      ∙ ap (λ l. (reply ++ selected lines stretch.policy (between stretch.place (next_place end more) history)) ++ l) (items_placed end more before history)

  -- after any earlier stretches, those of one more generation
  pub generations : (end : ℕ) (earlier later : List Stretch) (before history : List R) → AreInOrder (length before) earlier
      → items_to lines (length before + end) (earlier ++ map (placed_from (length before)) later) (before ++ history)
      ≡ items_to lines (length before) earlier before ++ items_to lines end (left_of earlier ++ later) history
  generations end [] later before history order = items_placed end later before history
  generations end (stretch ∷ []) later before history order =
      let base = length before in
      let reply = option_to_list stretch.reply in
      let old = selected lines stretch.policy (between stretch.place base before) in
      let new = selected lines stretch.policy (between 0 (next_place end later) history) in
      let rest = items_to lines end later history in
      let part : between stretch.place (next_place (base + end) (map (placed_from base) later)) (before ++ history)
      ≡ between stretch.place base before ++ between 0 (next_place end later) history =
      ap (λ n. between stretch.place n (before ++ history)) (next_placed base end later)
      ∙ between_across stretch.place (next_place end later) before history order.0 in
      ap (λ l. (reply ++ selected lines stretch.policy l) ++ items_to lines (base + end) (map (placed_from base) later) (before ++ history)) part
      ∙ ap (λ l. (reply ++ l) ++ items_to lines (base + end) (map (placed_from base) later) (before ++ history))
      (flat_map-append (lines stretch.policy) (between stretch.place base before) (between 0 (next_place end later) history))
      ∙ ap (λ l. (reply ++ (old ++ new)) ++ l) (items_placed end later before history)
      ∙ ap (λ l. l ++ rest) (sym (append_assoc reply old new))
      ∙ append_assoc (reply ++ old) new rest
      ∙ ap (λ l. l ++ (new ++ rest)) (sym (append-nil (reply ++ old)))
  generations end (stretch ∷ second ∷ earlier) later before history order =
      let reply = option_to_list stretch.reply in
      let base = length before in
      let next : second.place ≤ base = next_within base (second ∷ earlier) order.1 in
      let here = reply ++ selected lines stretch.policy (between stretch.place second.place before) in
      ap (λ l. (reply ++ selected lines stretch.policy l) ++ items_to lines (base + end) (second ∷ earlier ++ map (placed_from base) later) (before ++ history))
      (between_longer stretch.place second.place before history order.0 next)
      ∙ ap (λ l. here ++ l) (generations end (second ∷ earlier) later before history order.1)
      ∙ sym (append_assoc here (items_to lines base (second ∷ earlier) before) (items_to lines end (left_of (second ∷ earlier) ++ later) history))

run_from : (lines : Selection) (earlier : List Stretch) (before : List Report) (run : List Generation) → AreInOrder (length before) earlier → AreGenerations run
    → items_to lines (length before) earlier before ++ run_items lines (left_of earlier) run
    ≡ items_to lines (length (before ++ run_reports run)) (earlier ++ run_stretches (length before) run) (before ++ run_reports run)
run_from lines earlier before [] order all =
    append-nil _
    ∙ ap (λ l. items_to lines (length l) earlier l) (sym (append-nil before))
    ∙ ap (λ l. items_to lines (length (before ++ [])) l (before ++ [])) (sym (append-nil earlier))
run_from lines earlier before (generation ∷ more) order all =
    let base = length before in
    let count = length generation.reports in
    let longer = before ++ generation.reports in
    let stretches = earlier ++ map (placed_from base) generation.stretches in
    let size : length longer ≡ base + count = length-append before generation.reports in
    let InOrder : ℕ → Type 0 = λ n. AreInOrder n stretches in
    let ordered : AreInOrder (length longer) stretches = subst InOrder (sym size) (order_joined base count earlier generation.stretches order all.0) in
    let now = items_to lines count (left_of earlier ++ generation.stretches) generation.reports in
    let rest = run_items lines (left_of (left_of earlier ++ generation.stretches)) more in
    sym (append_assoc (items_to lines base earlier before) now rest)
    ∙ ap (λ l. l ++ rest) (sym (generations lines count earlier generation.stretches before generation.reports order))
    ∙ ap (λ n. items_to lines n stretches longer ++ rest) (sym size)
    ∙ ap (λ left. items_to lines (length longer) stretches longer ++ run_items lines left more) (left_joined base earlier generation.stretches)
    ∙ run_from lines stretches longer more ordered all.1
    ∙ ap (λ n. items_to lines (length (longer ++ run_reports more)) (stretches ++ run_stretches n more) (longer ++ run_reports more)) size
    ∙ ap (λ l. items_to lines (length (longer ++ run_reports more)) l (longer ++ run_reports more))
    (append_assoc earlier (map (placed_from base) generation.stretches) (run_stretches (base + count) more))
    ∙ ap (λ l. items_to lines (length l) (earlier ++ (map (placed_from base) generation.stretches ++ run_stretches (base + count) more)) l)
    (append_assoc before generation.reports (run_reports more))

pub whole_run : (lines : Selection) (run : List Generation) → AreGenerations run
    → run_items lines [] run ≡ items_to lines (length (run_reports run)) (run_stretches 0 run) (run_reports run)
whole_run lines run all = run_from lines [] [] run tt all
