-- Device words read one after another.
use Rattle.std.proofs.Common.{◌≡◌, ℕ, ◌+◌, ◌<◌, List, [], ◌∷◌, ◌++◌, length, map, take, drop, slice_index_or, suc, Option, Some, None, refl, sym, ap, append-nil, get_or, ◌∙◌}
use Rattle.std.specs.Prelude.{option_and_then, option_map}
use Rattle.std.specs.List.{flat_map}
use Rattle.std.proofs.Math.Seq.{split_at}
use Rattle.std.proofs.lemmas.List.{map-append, map_more, take_more}
use Rattle.std.proofs.lemmas.List.Concat.{flat_map-append}
use Rattle.gps_words.specs.Devices.{edges_for, edges_of, word_in, words_in}
use Rattle.gps_words.specs.declared.device.DeviceWord.{DeviceWord}

abbrev Words : Type 0
Words = Option (List DeviceWord)

abbrev led_by : Words → Option DeviceWord → Words
led_by words first = option_and_then (λ word. option_map (λ ws. word ∷ ws) words) first

abbrev with_last : Option DeviceWord → Words → Words
with_last last words = option_and_then (λ ws. option_map (λ word. ws ++ word ∷ []) last) words

led_and_last : (first : Option DeviceWord) (words : Words) (last : Option DeviceWord)
    → led_by (with_last last words) first ≡ with_last last (led_by words first)
led_and_last None words last = refl
led_and_last (Some f) None last = refl
led_and_last (Some f) (Some ws) None = refl
led_and_last (Some f) (Some ws) (Some l) = refl

last_alone : (last : Option DeviceWord) → led_by (Some []) last ≡ with_last last (Some [])
last_alone None = refl
last_alone (Some l) = refl

led_nothing : (first : Option DeviceWord) → led_by None first ≡ None
led_nothing None = refl
led_nothing (Some f) = refl

one_more : (texts : List (List ℕ)) (text : List ℕ) → words_in (texts ++ text ∷ []) ≡ with_last (word_in text) (words_in texts)
unfolding words_in
one_more [] text = last_alone (word_in text)
one_more (t ∷ texts) text = ap (λ w. led_by w (word_in t)) (one_more texts text) ∙ led_and_last (word_in t) (words_in texts) (word_in text)

pub word_read : (texts : List (List ℕ)) (text : List ℕ) (words : List DeviceWord) (word : DeviceWord)
    → words_in texts ≡ Some words → word_in text ≡ Some word → words_in (texts ++ text ∷ []) ≡ Some (words ++ word ∷ [])
word_read texts text words word read one =
    one_more texts text ∙ ap (λ w. with_last (word_in text) w) read ∙ ap (λ w. with_last w (Some words)) one

pub no_word : (texts : List (List ℕ)) (text : List ℕ) (rest : List (List ℕ)) → word_in text ≡ None → words_in (texts ++ text ∷ rest) ≡ None
unfolding words_in
no_word [] text rest none = ap (λ w. led_by (words_in rest) w) none
no_word (t ∷ texts) text rest none = ap (λ w. led_by w (word_in t)) (no_word texts text rest none) ∙ led_nothing (word_in t)

-- the edges of more devices
pub edges_join : (words : List DeviceWord) (a b : List (List ℕ)) → edges_of words (a ++ b) ≡ edges_of words a ++ edges_of words b
edges_join words a b = map-append (λ name. edges_for name words) a b

-- the next text of a list is such a word, or is none
pub next_read : {T : Type 0} (shows : T → List ℕ) (texts : List T) (i : ℕ) (d : T) (words : List DeviceWord) (word : DeviceWord)
    → i < length texts → words_in (map shows (take i texts)) ≡ Some words → word_in (shows (slice_index_or texts i d)) ≡ Some word
    → words_in (map shows (take (i + 1) texts)) ≡ Some (words ++ word ∷ [])
next_read shows texts i d words word near read one =
    ap words_in (map_more shows texts i d near) ∙ word_read (map shows (take i texts)) (shows (slice_index_or texts i d)) words word read one

pub next_is_none : {T : Type 0} (shows : T → List ℕ) (texts : List T) (i : ℕ) (d : T)
    → i < length texts → word_in (shows (slice_index_or texts i d)) ≡ None → words_in (map shows texts) ≡ None
next_is_none shows texts i d near none =
    ap (λ t. words_in (map shows t)) (split_at texts i d near)
    ∙ ap words_in (map-append shows (take i texts) (slice_index_or texts i d ∷ drop (suc i) texts))
    ∙ no_word (map shows (take i texts)) (shows (slice_index_or texts i d)) (map shows (drop (suc i) texts)) none

pub none_read : (words : List DeviceWord) → words ≡ [] → words_in [] ≡ Some words
unfolding words_in
none_read words none = ap (λ w. Some w) (sym none)

-- one more of what each makes a list of
pub flat_next : {X A : Type 0} (f : X → List A) (xs : List X) (i : ℕ) (x : X) → i < length xs → x ≡ get_or xs i x
    → flat_map f (take (i + 1) xs) ≡ flat_map f (take i xs) ++ f x
flat_next f xs i x near is =
    ap (flat_map f) (take_more xs i x near) ∙ flat_map-append f (take i xs) (get_or xs i x ∷ [])
    ∙ ap (λ l. flat_map f (take i xs) ++ l) (append-nil (f (get_or xs i x)) ∙ ap f (sym is))
