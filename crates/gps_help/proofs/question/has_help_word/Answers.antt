use Rattle.std.proofs.Common.{◌≡◌, ◌∙◌, ℕ, List, Option, Some, None, ap, map, refl, string_bytes, sym}
use Rattle.std.specs.List.{list_any}
use Rattle.std.proofs.lemmas.List.{take-map}
use Rattle.gps_help.specs.Questions.{is_help_word, words_to}
use Rattle.gps_help.proofs.AnyMap.{any_map}
use Rattle.gps_help.proofs.question.has_help_word.Goals as goal

to_map : {X Y : Type 0} (f : X → Y) (stop : Option ℕ) (xs : List X) → words_to stop (map f xs) ≡ map f (words_to stop xs)
to_map f None xs = refl
to_map f (Some place) xs = take-map f place xs

pub returns : goal.returns
returns c =
    c.is_help_asked.ensures
    ∙ ap (λ ws. list_any (λ word. is_help_word (string_bytes word)) ws) c.words_to.ensures
    ∙ sym (any_map is_help_word string_bytes (words_to c.stop_of.result c.args.words.now))
    ∙ ap (λ ws. list_any is_help_word ws) (sym (to_map string_bytes c.stop_of.result c.args.words.now))
    ∙ ap (λ (stop : Option ℕ). list_any is_help_word (words_to stop (map string_bytes c.args.words.now))) c.stop_of.ensures
