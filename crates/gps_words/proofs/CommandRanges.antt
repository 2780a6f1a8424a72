-- The numbers of each command lie in their ranges.
use Rattle.std.proofs.Common.{◌≡◌, ◌≤◌, ◌&&◌, ℕ, Bool, true, false, nat_le, cond, refl, subst, sym, ap, codes, arith, List, [], ◌∷◌, Option, Some, None, inl, inr, option_map, option_and_then}
use Rattle.std.proofs.lemmas.Bool.{and_parts}
use Rattle.std.proofs.Common.{leb-true}
use Rattle.clap.specs.Simple.{matches_of}
use Rattle.clap.specs.Walk.{Row, Text, first_of}
use Rattle.gps_words.specs.Asked.{asked_of, kind_named, read_as}
use Rattle.std.specs.Str.{bytes_eq}
use Rattle.gps_words.specs.Decode.{bytes_in, bytes_or, bytes_within}
use Rattle.gps_words.specs.Forms.{app_for, line_in}
use Rattle.gps_words.specs.Generate.{generate_in, seed_in, size_in}
use Rattle.gps_words.specs.Numbers.{digits_after, is_number_text, number_in}
use Rattle.gps_words.specs.Options.{are_taken, read_by}
use Rattle.gps_words.specs.Replay.{history_in, queue_in, replay_in}
use Rattle.gps_words.specs.Within.{IsBytes, IsHistory, IsInRange, IsQueue}
use Rattle.gps_words.specs.declared.choice.Kind.{Kind}
use Rattle.gps_words.specs.declared.choice.Kind.TheVariants as kind
use Rattle.gps_words.specs.declared.command.CommandLine.{CommandLine}
use Rattle.gps_words.specs.declared.command.CommandLine.TheVariants.{Decode, Pseudo, Replay, Generate, Lines}
use Rattle.gps_words.proofs.Within.{chosen, chosen_some, number_range, some_is}

history_range : (rows : List Row) (h : ℕ) → history_in rows ≡ Some h → IsHistory h
history_range rows h is = number_range 16_777_216 1 33_554_432 (first_of (codes "history") rows) h (omega arith) (omega arith) is

by_word : (b : Bool) (text : Text) (n : ℕ) → cond b (Some 9_223_372_036_854_775_807) (number_in 1 33_554_432 text) ≡ Some n → IsBytes n
by_word true text n is = inr (sym (some_is 9_223_372_036_854_775_807 n is))
by_word false text n is = inl (number_range 1 1 33_554_432 (Some text) n (omega arith) (omega arith) is)

bytes_read : (text : Option Text) (n : ℕ) → bytes_or text ≡ Some n → IsBytes n
unfolding bytes_within
bytes_read None n is = let same : 16_777_216 ≡ n = some_is 16_777_216 n is in inl (omega (arith, same), omega (arith, same))
bytes_read (Some text) n is = by_word (bytes_eq text (codes "all")) text n is

bytes_range : (rows : List Row) (n : ℕ) → bytes_in rows ≡ Some n → IsBytes n
bytes_range rows n is = bytes_read (first_of (codes "history") rows) n is

queue_range : (rows : List Row) (q : ℕ) → queue_in rows ≡ Some q → IsQueue q
queue_range rows q is = number_range 4_096 1 65_536 (first_of (codes "queue") rows) q (omega arith) (omega arith) is

size_range : (text : Option (List ℕ)) (n : ℕ) → option_and_then (number_in 1 10_000) text ≡ Some n → (1 ≤ n) × (n ≤ 10_000)
size_range None n is = absurd (cc)
size_range (Some text) n is =
    let m = digits_after 0 text in
    let c = chosen (is_number_text text && nat_le 1 m && nat_le m 10_000) m n is in
    let p = and_parts (is_number_text text && nat_le 1 m) (nat_le m 10_000) c.0 in
    let q = and_parts (is_number_text text) (nat_le 1 m) p.0 in
    (omega (arith, leb-true 1 m q.1, c.1), omega (arith, leb-true m 10_000 p.1, c.1))

-- a command of one number, or of two
by_one : (make : ℕ → CommandLine) (o : Option ℕ) (c : CommandLine) → ((n : ℕ) → o ≡ Some n → IsInRange (make n)) → option_map make o ≡ Some c → IsInRange c
by_one make None c range is = absurd (cc)
by_one make (Some n) c range is = subst (λ d. IsInRange d) (some_is (make n) c is) (range n refl)

by_two : (make : ℕ → ℕ → CommandLine) (o p : Option ℕ) (c : CommandLine) → ((n m : ℕ) → o ≡ Some n → p ≡ Some m → IsInRange (make n m))
    → option_and_then (λ n. option_map (λ m. make n m) p) o ≡ Some c → IsInRange c
by_two make None p c range is = absurd (cc)
by_two make (Some n) None c range is = absurd (cc)
by_two make (Some n) (Some m) c range is = subst (λ d. IsInRange d) (some_is (make n m) c is) (range n m refl refl)

-- what each command's options ask for
line_range : (k : Kind) (rows : List Row) (c : CommandLine) → line_in k rows ≡ Some c → IsInRange c
unfolding line_in replay_in generate_in
line_range kind.Decode rows c is = by_one (λ h. Decode h) (bytes_in rows) c (bytes_range rows) is
line_range kind.Pseudo rows c is = by_one (λ h. Pseudo h) (bytes_in rows) c (bytes_range rows) is
line_range kind.Replay rows c is =
    by_two (λ h q. Replay h q) (history_in rows) (queue_in rows) c (λ h q f g. (history_range rows h f, queue_range rows q g)) is
line_range kind.Generate rows c is =
    by_two (λ s n. Generate s n) (seed_in rows) (size_in rows) c (λ s n f g. size_range (first_of (codes "size") rows) n g) is
line_range kind.Lines rows c is = subst (λ d. IsInRange d) (some_is Lines c is) tt

by_kind : (k : Option Kind) (words : List Text) (c : CommandLine) → read_as k words ≡ Some c → IsInRange c
unfolding read_by
by_kind None words c is = absurd (cc)
by_kind (Some k) words c is =
    let rows = matches_of (app_for k) words in
    line_range k rows c (chosen_some (are_taken (app_for k) words) (line_in k rows) c is)

pub in_range : (words : List Text) (c : CommandLine) → asked_of words ≡ Some c → IsInRange c
in_range [] c is = absurd (cc)
in_range (word ∷ words) c is = by_kind (kind_named word) (word ∷ words) c is
