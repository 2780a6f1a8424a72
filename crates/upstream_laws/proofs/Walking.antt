-- The head along lines: good lines lead on, WATCH ends the head, and a bad line leads nowhere.
use Rattle.std.proofs.Common.{◌≡◌, ◌≤◌, ◌<◌, ◌+◌, ◌==◌, ◌⊎◌, ℕ, Bool, true, false, not, List, [], ◌∷◌, ◌++◌, Option, Some, None, length, take, refl, sym, ap, ◌∙◌, inl, inr, arith, add_assoc, add-zero}
use Rattle.std.specs.List.{AllByRecursion, concat}
use Rattle.std.proofs.lemmas.Bool.{cases_Bool, cases_lt, and_parts, not-true, eqb-true}
use Rattle.std.proofs.lemmas.List.{append_assoc, append-nil, length-append}
use Rattle.json_line.specs.declared.names.Class.{Class}
use Rattle.json_line.specs.declared.names.Class.TheVariants as class
use Rattle.gps_client.specs.Objects.{class_in}
use Rattle.gps_client.specs.Texts.{Begins}
use Rattle.upstream_laws.specs.declared.stage.Stage.TheVariants.{Inside, Behind, Nowhere}
use Rattle.upstream_laws.specs.Head.{behind_line, bounded, can_begin, fresh, more_head, most, taken, within_line}
use Rattle.upstream_laws.specs.Lines.{CannotBegin, IsEarlier, IsHead, IsLine, is_plain}
use Rattle.upstream_laws.proofs.Beginnings.{CanBegin, begin_of_class, can_back, can_from, class_of_begin}
use Rattle.upstream_laws.proofs.Taking.{behind_other, bounded_few, bounded_many, stand_at, stays_nowhere, step_end, step_on, taken-append}

-- the text of a line
pub walk : (before more : List ℕ) (count : ℕ) (c : Class) → is_plain more ≡ true → Begins c (before ++ more) → count + length more < most
    → taken (stand_at Inside (take 18 before) count) more ≡ stand_at Inside (take 18 (before ++ more)) (count + length more)
walk before [] count c plain begins few = ap (λ t. stand_at Inside (take 18 t) count) (sym (append-nil before)) ∙ ap (stand_at Inside (take 18 (before ++ []))) (sym (add-zero count))
walk before (byte ∷ more) count c plain begins few =
    let parts : (not (byte == 10) ≡ true) × (is_plain more ≡ true) = and_parts (not (byte == 10)) (is_plain more) plain in
    let joined : (before ++ byte ∷ []) ++ more ≡ before ++ byte ∷ more = append_assoc before (byte ∷ []) more in
    let longer : Begins c ((before ++ byte ∷ []) ++ more) = rw joined begins in
    let can : can_begin (take 18 (before ++ byte ∷ [])) ≡ true = can_from c (before ++ byte ∷ []) more longer in
    let once : more_head (stand_at Inside (take 18 before) count) byte ≡ stand_at Inside (take 18 (before ++ byte ∷ [])) (count + 1) =
    step_on before count byte (not-true (byte == 10) parts.0)
    ∙ ap (λ s. stand_at s (take 18 (before ++ byte ∷ [])) (count + 1)) (ap (λ b. bounded (count + 1) (within_line b)) can ∙ bounded_few (count + 1) Inside (omega arith)) in
    let sum : count + 1 + length more ≡ count + length (byte ∷ more) = omega arith in
    ap (λ s. taken s more) once ∙ walk (before ++ byte ∷ []) more (count + 1) c parts.1 longer (omega arith)
    ∙ ap (λ t. stand_at Inside (take 18 t) (count + 1 + length more)) joined ∙ ap (stand_at Inside (take 18 (before ++ byte ∷ more))) sum

-- a whole line
pub walk_line : (c : Class) (line : List ℕ) (count : ℕ) → IsLine c line → count + length line ≤ most
    → taken (stand_at Inside [] count) line ≡ stand_at (bounded (count + length line) (behind_line (Some c))) [] (count + length line)
walk_line c line count is few =
    let long : length line ≡ length is.text + 1 = ap length is.spelled ∙ length-append is.text (10 ∷ []) in
    let sum : count + length is.text + 1 ≡ count + length line = omega arith in
    let text : taken (stand_at Inside [] count) is.text ≡ stand_at Inside (take 18 is.text) (count + length is.text) =
    walk [] is.text count c is.plain is.begins (omega arith) in
    ap (taken (stand_at Inside [] count)) is.spelled ∙ taken-append (stand_at Inside [] count) is.text (10 ∷ [])
    ∙ ap (λ s. taken s (10 ∷ [])) text ∙ step_end is.text (count + length is.text)
    ∙ ap (λ o. stand_at (bounded (count + length is.text + 1) (behind_line o)) [] (count + length is.text + 1)) (class_of_begin c is.text is.begins)
    ∙ ap (λ n. stand_at (bounded n (behind_line (Some c))) [] n) sum

pub walk_earlier : (lines : List (List ℕ)) (count : ℕ) → AllByRecursion IsEarlier lines → count + length (concat lines) < most
    → taken (stand_at Inside [] count) (concat lines) ≡ stand_at Inside [] (count + length (concat lines))
walk_earlier [] count all few = ap (stand_at Inside []) (sym (add-zero count))
walk_earlier (line ∷ lines) count all few =
    let long : length (line ++ concat lines) ≡ length line + length (concat lines) = length-append line (concat lines) in
    let one : taken (stand_at Inside [] count) line ≡ stand_at Inside [] (count + length line) =
    walk_line (all.0).kind line count (all.0).is_line (omega arith)
    ∙ ap (λ s. stand_at s [] (count + length line)) (ap (bounded (count + length line)) (behind_other (all.0).kind (all.0).other) ∙ bounded_few (count + length line) Inside (omega arith)) in
    taken-append (stand_at Inside [] count) line (concat lines) ∙ ap (λ s. taken s (concat lines)) one
    ∙ walk_earlier lines (count + length line) all.1 (omega arith) ∙ ap (stand_at Inside []) (add_assoc count (length line) (length (concat lines)) ∙ ap (λ n. count + n) (sym long))

-- a whole head, and all of it but its last byte
pub head_is_taken : (head : List ℕ) → IsHead head → taken fresh head ≡ stand_at Behind [] (length head)
head_is_taken head is =
    let long : length head ≡ length (concat is.earlier) + length is.last = ap length is.joined ∙ length-append (concat is.earlier) is.last in
    let end : length is.last ≡ length (is.watch).text + 1 = ap length (is.watch).spelled ∙ length-append (is.watch).text (10 ∷ []) in
    let short : length head ≤ most = is.short in
    ap (taken fresh) is.joined ∙ taken-append fresh (concat is.earlier) is.last
    ∙ ap (λ s. taken s is.last) (walk_earlier is.earlier 0 is.others (omega arith))
    ∙ walk_line class.Watch is.last (0 + length (concat is.earlier)) is.watch (omega arith)
    ∙ ap (λ n. stand_at Behind [] n) (let sum : 0 + length (concat is.earlier) + length is.last ≡ length head = omega arith in sum)

pub head_is_open : (head : List ℕ) (is : IsHead head) → (taken fresh (concat is.earlier ++ (is.watch).text)).stage ≡ Inside
head_is_open head is =
    let long : length head ≡ length (concat is.earlier) + length is.last = ap length is.joined ∙ length-append (concat is.earlier) is.last in
    let end : length is.last ≡ length (is.watch).text + 1 = ap length (is.watch).spelled ∙ length-append (is.watch).text (10 ∷ []) in
    let short : length head ≤ most = is.short in
    ap (λ s. s.stage) (taken-append fresh (concat is.earlier) (is.watch).text
    ∙ ap (λ s. taken s (is.watch).text) (walk_earlier is.earlier 0 is.others (omega arith))
    ∙ walk [] (is.watch).text (0 + length (concat is.earlier)) class.Watch (is.watch).plain (is.watch).begins (omega arith))

-- a line that cannot begin as any object does
pub fall : (before part : List ℕ) (count : ℕ) → can_begin (take 18 before) ≡ true → CannotBegin (before ++ part) → count + length part ≤ most
    → (taken (stand_at Inside (take 18 before) count) part).stage ≡ Nowhere
fall before [] count can never few =
    let some : CanBegin before = can_back before can in
    absurd (never some.kind some.rest (rw (append-nil before) some.begins))
fall before (byte ∷ part) count can never few = elim (cases_Bool (byte == 10)) [
  | inl ends ↦ rw (eqb-true byte 10 ends) (at_end (class_in (take 18 before)) refl)
  | inr on ↦ ap (λ s. (taken s part).stage) (step_on before count byte on) ∙ within (can_begin (take 18 (before ++ byte ∷ []))) refl (cases_lt (count + 1) most)
      (λ can' few'. fall (before ++ byte ∷ []) part (count + 1) can' (rw joined never) few')
]
  where
    joined : (before ++ byte ∷ []) ++ part ≡ before ++ byte ∷ part
    joined = append_assoc before (byte ∷ []) part

    at_end : (o : Option Class) → class_in (take 18 before) ≡ o → (taken (more_head (stand_at Inside (take 18 before) count) 10) part).stage ≡ Nowhere
    at_end None is =
        ap (λ s. (taken s part).stage) (step_end before count ∙ ap (λ o. stand_at (bounded (count + 1) (behind_line o)) [] (count + 1)) is)
        ∙ ap (λ s. s.stage) (stays_nowhere part [] (count + 1))
    at_end (Some c) is =
        let b : Begins c before = begin_of_class c before is in
        absurd (never c [] (b.0 ++ (byte ∷ part), append-nil (before ++ byte ∷ part) ∙ ap (λ t. t ++ byte ∷ part) b.1 ∙ append_assoc _ b.0 (byte ∷ part)))

    within : (can : Bool) → can_begin (take 18 (before ++ byte ∷ [])) ≡ can → (count + 1 < most) ⊎ (most ≤ count + 1)
        → (can_begin (take 18 (before ++ byte ∷ [])) ≡ true → count + 1 + length part ≤ most
        → (taken (stand_at Inside (take 18 (before ++ byte ∷ [])) (count + 1)) part).stage ≡ Nowhere)
        → (taken (stand_at (bounded (count + 1) (within_line (can_begin (take 18 (before ++ byte ∷ []))))) (take 18 (before ++ byte ∷ [])) (count + 1)) part).stage ≡ Nowhere
    within false is _ on = rw is (ap (λ s. s.stage) (stays_nowhere part (take 18 (before ++ byte ∷ [])) (count + 1)))
    within true is (inl less) on = rw (is, bounded_few (count + 1) Inside less) (on is (omega arith))
    within true is (inr many) on =
        rw (is, bounded_many (count + 1) many) (ap (λ s. s.stage) (stays_nowhere part (take 18 (before ++ byte ∷ [])) (count + 1)))
