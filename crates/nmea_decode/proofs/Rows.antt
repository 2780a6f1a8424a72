-- Commas in a text that is looked at in rows of sixteen bytes.
use Rattle.std.proofs.Common.{◌≡◌, ℕ, ◌+◌, ◌≤◌, ◌-◌, ◌∙◌, sym, ap, arith, List, ◌++◌, length, take, drop, count_by, cond, take-add, length-drop}
use Rattle.std.proofs.lemmas.List.{take-append-drop, take_all}
use Rattle.std.proofs.lemmas.List.Sums.{sum_by-append}
use Rattle.nmea_decode.specs.Fields.{is_comma}

-- n commas come before a place
pub record Counted (text : List ℕ) (at commas : ℕ) : Type 0 where
  pub within : at ≤ length text
  pub few : commas ≤ at
  pub count : commas ≡ count_by is_comma (take at text)

commas_append : (xs ys : List ℕ) → count_by is_comma (xs ++ ys) ≡ count_by is_comma xs + count_by is_comma ys
commas_append xs ys = sum_by-append (λ c. cond (is_comma c) 1 0) xs ys

pub row_counted : (text : List ℕ) (at commas more : ℕ) → at + 16 ≤ length text → more ≤ 16 → more ≡ count_by is_comma (take 16 (drop at text))
    → Counted text at commas → Counted text (at + 16) (commas + more)
row_counted text at commas more room few is so = record {
  within = room;
  few = omega (arith, few, so.few);
  count =
      ap (λ n. n + more) so.count ∙ ap (λ n. count_by is_comma (take at text) + n) is
      ∙ sym (commas_append (take at text) (take 16 (drop at text))) ∙ ap (count_by is_comma) (sym (take-add at 16 text));
}

pub all_counted : (text : List ℕ) (at commas more : ℕ) → more ≡ count_by is_comma (take (length text - at) (drop at text))
    → Counted text at commas → commas + more ≡ count_by is_comma text
all_counted text at commas more is so =
    let reach : length (drop at text) ≤ length text - at = omega (arith, length-drop at text) in
    ap (λ n. n + more) so.count ∙ ap (λ n. count_by is_comma (take at text) + n) (is ∙ ap (count_by is_comma) (take_all (length text - at) (drop at text) reach))
    ∙ sym (commas_append (take at text) (drop at text)) ∙ ap (count_by is_comma) (take-append-drop at text)
