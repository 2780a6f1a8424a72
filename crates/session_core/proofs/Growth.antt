-- How the items of a session grow with the history and with its marks.
use Rattle.std.proofs.Common.{◌≡◌, ◌≤◌, ℕ, List, [], ◌∷◌, ◌++◌, length, refl, sym, ◌∙◌, ap, le_trans, append-nil, append_assoc, option_to_list}
use Rattle.std.proofs.lemmas.Grind.{flat_map-append}
use Rattle.gps_report.specs.declared.policy.Policy.{Policy}
use Rattle.session_core.specs.Stretches.{Stretch, between, next_place, selected, items_to, AreInOrder, last_watched}
use Rattle.session_core.proofs.Intervals.{next_within, next_marked, between_longer, between_empty, between_to_end}

module _ {R : Type 0} (lines : Policy → R → List (List ℕ)) where
  -- after the end nothing is added
  pub items_stay : (end : ℕ) (stretches : List Stretch) (history more : List R) → end ≤ length history → AreInOrder end stretches
      → items_to lines end stretches (history ++ more) ≡ items_to lines end stretches history
  items_stay end [] history more inside order = refl
  items_stay end (stretch ∷ rest) history more inside order =
      let next : next_place end rest ≤ length history = le_trans (next_within end rest order.1) inside in
      ap (λ part. (option_to_list stretch.reply ++ selected lines stretch.policy part) ++ items_to lines end rest (history ++ more))
      (between_longer stretch.place (next_place end rest) history more order.0 next)
      ∙ ap (λ later. (option_to_list stretch.reply ++ selected lines stretch.policy (between stretch.place (next_place end rest) history)) ++ later)
      (items_stay end rest history more inside order.1)

  -- up to the history's end the last policy selects what is added
  pub items_grow : (stretch : Stretch) (rest : List Stretch) (history more : List R) → AreInOrder (length history) (stretch ∷ rest)
      → items_to lines (length (history ++ more)) (stretch ∷ rest) (history ++ more)
      ≡ items_to lines (length history) (stretch ∷ rest) history ++ selected lines (last_watched stretch.policy rest) more
  items_grow stretch [] history more order =
      let reply = option_to_list stretch.reply in
      let part = between stretch.place (length history) history in
      append-nil _
      ∙ ap (λ l. reply ++ selected lines stretch.policy l) (between_to_end stretch.place history more order.0)
      ∙ ap (λ l. reply ++ l) (flat_map-append (lines stretch.policy) part more)
      ∙ sym (append_assoc reply (selected lines stretch.policy part) (selected lines stretch.policy more))
      ∙ ap (λ l. l ++ selected lines stretch.policy more) (sym (append-nil (reply ++ selected lines stretch.policy part)))
  items_grow stretch (second ∷ rest) history more order =
      let reply = option_to_list stretch.reply in
      let part = between stretch.place second.place history in
      let next : second.place ≤ length history = next_within (length history) (second ∷ rest) order.1 in
      ap (λ l. (reply ++ selected lines stretch.policy l) ++ items_to lines (length (history ++ more)) (second ∷ rest) (history ++ more))
      (between_longer stretch.place second.place history more order.0 next)
      ∙ ap (λ l. (reply ++ selected lines stretch.policy part) ++ l) (items_grow second rest history more order.1)
      ∙ sym (append_assoc (reply ++ selected lines stretch.policy part) (items_to lines (length history) (second ∷ rest) history) (selected lines (last_watched second.policy rest) more))

  -- a mark at the end adds its reply alone
  pub items_marked : (end : ℕ) (stretches : List Stretch) (last : Stretch) (history : List R) → last.place ≡ end
      → items_to lines end (stretches ++ last ∷ []) history ≡ items_to lines end stretches history ++ option_to_list last.reply
  items_marked end [] last history at =
      append-nil _
      ∙ ap (λ l. option_to_list last.reply ++ selected lines last.policy l) (between_empty last.place end history at)
      ∙ append-nil (option_to_list last.reply)
  items_marked end (stretch ∷ rest) last history at =
      let reply = option_to_list stretch.reply in
      ap (λ n. (reply ++ selected lines stretch.policy (between stretch.place n history)) ++ items_to lines end (rest ++ last ∷ []) history) (next_marked end rest last at)
      ∙ ap (λ l. (reply ++ selected lines stretch.policy (between stretch.place (next_place end rest) history)) ++ l) (items_marked end rest last history at)
      ∙ sym (append_assoc (reply ++ selected lines stretch.policy (between stretch.place (next_place end rest) history)) (items_to lines end rest history) (option_to_list last.reply))
