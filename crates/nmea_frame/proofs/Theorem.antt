-- The scan finds exactly the sentences, and waits exactly on the beginnings of sentence shapes.
use Rattle.std.proofs.Common.{◌≡◌, ◌≤◌, ◌<◌, ◌+◌, ◌==◌, ◌⊎◌, ◌↔◌, ◌&&◌, ℕ, Bool, true, false, cond, List, [], ◌∷◌, ◌++◌, length, take, drop, IsSome, nat_lt, nat_le, refl, inl, inr, sym, ap, arith, ◌∙◌, append_assoc}
use Rattle.std.specs.List.{list_all, prefix_len}
use Rattle.std.proofs.lemmas.Bool.{eqb-true, cases_Bool}
use Rattle.std.proofs.lemmas.Bool.Decides.{nat_tests}
use Rattle.std.proofs.lemmas.List.{length-append, take-append-drop, append-nil, length-take-le}
use Rattle.std.proofs.lemmas.List.Folds.{length-prefix_len, list_all-append}
use Rattle.std.proofs.Math.Seq.{take-append_seam, drop-append_seam, take-length, drop-length}
use Rattle.nmea_frame.specs.Sentence.{is_body_byte, read_sum, line_end, Parts, spelling, AreParts, IsRight, IsSentence, IsProperPrefix}
use Rattle.nmea_frame.specs.Scan.{shape_of, after_dollar, after_body, after_star}
use Rattle.nmea_frame.specs.declared.sentence.Shape.{Shape}
use Rattle.nmea_frame.specs.declared.sentence.Shape.TheVariants.{Whole, Pending, No}
use Rattle.nmea_frame.proofs.Lists.{chosen, both, aligned, prefix_len-body, prefix_len-all, list_all-prefix}
use Rattle.nmea_frame.proofs.Tails.{tail_of, Fits, Ends, Begins, tail_whole, tail_found, tail_lacks, tail_pending}

-- the bytes after `$` are a body, its `*`, and a tail
record Split (text : List ℕ) : Type 0 where
  body : List ℕ
  tail : List ℕ
  same : text ≡ body ++ 42 ∷ tail
  printable : list_all is_body_byte body ≡ true
  some : 0 < length body
  short : length body ≤ 123
  then : after_dollar text ≡ after_star body tail

-- the bytes after `$` are all of a body
record Plain (text : List ℕ) : Type 0 where
  printable : list_all is_body_byte text ≡ true
  short : length text ≤ 123
  then : after_dollar text ≡ Pending

dollar_spelled : (body tail : List ℕ) → list_all is_body_byte body ≡ true → 0 < length body → length body ≤ 123 →
    after_dollar (body ++ 42 ∷ tail) ≡ after_star body tail
unfolding after_dollar after_body
dollar_spelled body tail printable some short =
    rw (prefix_len-body is_body_byte body 42 tail printable refl, take-append_seam, drop-append_seam) (grind (arith, nat_tests))

dollar_plain : (text : List ℕ) → list_all is_body_byte text ≡ true → length text ≤ 123 → after_dollar text ≡ Pending
unfolding after_dollar after_body
dollar_plain text printable short =
    rw (prefix_len-all is_body_byte text printable, take-length, drop-length) (grind (arith, nat_tests))

split_at : (text body rest : List ℕ) → text ≡ body ++ rest → list_all is_body_byte body ≡ true → length body ≤ 123 →
    after_dollar text ≡ after_body body rest → (after_dollar text ≡ No) ⊎ (Plain text ⊎ Split text)
unfolding after_body
split_at text body [] same printable short then =
    let all : text ≡ body = same ∙ append-nil body in
    inr (inl (record { printable = rw all printable; short = rw all short; then = then }))
split_at text body (c ∷ tail) same printable short then =
    elim (cases_Bool ((c == 42) && nat_lt 0 (length body))) [
      | inl passes ↦
          let tests : ((c == 42) ≡ true) × (nat_lt 0 (length body) ≡ true) = both _ _ passes in
          let is : c ≡ 42 = eqb-true c 42 (tests.0) in
          let some : 0 < length body = grind (arith, nat_tests, tests.1) in
          let star : after_dollar text ≡ after_star body tail = then ∙ ap (λ b. cond b (after_star body tail) No) passes in
          inr (inr (record { body = body; tail = tail; same = same ∙ ap (λ x. body ++ x ∷ tail) is; printable = printable; some = some; short = short; then = star }))
      | inr fails ↦ inl (then ∙ ap (λ b. cond b (after_star body tail) No) fails)
    ]

dollar_cases : (text : List ℕ) → (after_dollar text ≡ No) ⊎ (Plain text ⊎ Split text)
unfolding after_dollar
dollar_cases text =
    let len : ℕ = prefix_len is_body_byte text in
    elim (cases_Bool (nat_le len 123)) [
      | inl passes ↦
          let short : length (take len text) ≤ 123 = rw length-prefix_len (grind (arith, nat_tests, passes)) in
          split_at text (take len text) (drop len text) (sym (take-append-drop len text)) (list_all-prefix is_body_byte text) short
          (ap (λ b. cond b (after_body (take len text) (drop len text)) No) passes)
      | inr fails ↦ inl (ap (λ b. cond b (after_body (take len text) (drop len text)) No) fails)
    ]

-- the list begins with a sentence of n bytes
pub record Starts (bytes : List ℕ) (n : ℕ) : Type 0 where
  pub parts : Parts
  pub are : AreParts parts
  pub right : IsRight parts
  pub more : List ℕ
  pub same : bytes ≡ spelling parts ++ more
  pub size : n ≡ length (spelling parts)

length-spelling : (p : Parts) → length (spelling p) ≡ length (p.body) + 4 + length (line_end p.has_return)
length-spelling p = omega (arith, length-append p.body (42 ∷ tail_of p.high p.low p.has_return))

room : (p : Parts) → Fits (length p.body) p.has_return → length (spelling p) ≤ 128
room p fits = omega (arith, length-spelling p)

fits_of : (p : Parts) → length (spelling p) ≤ 128 → Fits (length p.body) p.has_return
fits_of p short = omega (arith, length-spelling p)

line_end-some : (has_return : Bool) → 0 < length (line_end has_return)
line_end-some true = omega arith
line_end-some false = omega arith

starts_of : (text : List ℕ) (n : ℕ) (split : Split text) → Ends (split.body) (split.tail) n → Starts (36 ∷ text) n
starts_of text n split found =
    let p : Parts = record { body = split.body; high = found.high; low = found.low; has_return = found.has_return } in
    let digits : IsSome (read_sum p.high p.low) = rw (found.right) refl in
    record {
      parts = p;
      are = record { some = split.some; printable = split.printable; digits = digits; short = room p (found.fits) };
      right = found.right;
      more = found.more;
      same = ap (λ t. 36 ∷ t) (split.same ∙ ap (λ t. split.body ++ 42 ∷ t) (found.same) ∙ sym (append_assoc (split.body) (42 ∷ tail_of p.high p.low p.has_return) (found.more)));
      size = found.size ∙ sym (length-spelling p);
    }

whole_starts : (bytes : List ℕ) (n : ℕ) → shape_of bytes ≡ Whole n → Starts bytes n
unfolding shape_of
whole_starts [] n e = cc
whole_starts (c ∷ text) n e =
    elim (chosen (c == 36) _ _ _ e) [
      | inl w ↦ rw (eqb-true c 36 (w.0)) (go (dollar_cases text) (w.1))
      | inr w ↦ cc (w.1)
    ]
  where
    go : (after_dollar text ≡ No) ⊎ (Plain text ⊎ Split text) → after_dollar text ≡ Whole n → Starts (36 ∷ text) n
    go (inl no_shape) whole = cc
    go (inr (inl plain)) whole = cc (plain.then)
    go (inr (inr split)) whole = starts_of text n split (tail_found (split.body) (split.tail) n (split.short) (sym (split.then) ∙ whole))

starts_whole : (p : Parts) (more : List ℕ) → AreParts p → IsRight p → shape_of (spelling p ++ more) ≡ Whole (length (spelling p))
unfolding shape_of
starts_whole p more are right =
    let fits : Fits (length p.body) p.has_return = fits_of p (are.short) in
    let short : length p.body ≤ 123 = omega (arith, line_end-some p.has_return) in
    rw append_assoc (
    dollar_spelled p.body (tail_of p.high p.low p.has_return ++ more) (are.printable) (are.some) short
    ∙ tail_whole p.body p.high p.low p.has_return more right fits
    ∙ ap Whole (sym (length-spelling p)))

-- `Whole n` comes only if the first n bytes are a sentence
pub whole_forth : (bytes : List ℕ) (n : ℕ) → shape_of bytes ≡ Whole n → (n ≤ length bytes) × IsSentence (take n bytes)
whole_forth bytes n e =
    let s : Starts bytes n = whole_starts bytes n e in
    let taken : take n bytes ≡ spelling (s.parts) =
    ap (λ k. take k bytes) (s.size) ∙ ap (take (length (spelling (s.parts)))) (s.same) ∙ take-append_seam (spelling (s.parts)) (s.more) in
    (omega (arith, s.size, ap length (s.same), length-append (spelling (s.parts)) (s.more)), (s.parts, (s.are, s.right, taken)))

-- and wherever they are
pub whole_back : (bytes : List ℕ) (n : ℕ) → (n ≤ length bytes) × IsSentence (take n bytes) → shape_of bytes ≡ Whole n
whole_back bytes n h =
    let p : Parts = h.1.0 in
    let taken : take n bytes ≡ spelling p = h.1.1.2 in
    let same : bytes ≡ spelling p ++ drop n bytes = sym (take-append-drop n bytes) ∙ ap (λ t. t ++ drop n bytes) taken in
    let size : length (spelling p) ≡ n = sym (ap length taken) ∙ length-take-le n bytes (h.0) in
    ap shape_of same ∙ starts_whole p (drop n bytes) (h.1.1.0) (h.1.1.1) ∙ ap Whole size

-- the shortest sentence shape with this body
plain_parts : List ℕ → Parts
plain_parts body = record { body = body; high = 48; low = 48; has_return = false }

plain_are : (body : List ℕ) → 0 < length body → list_all is_body_byte body ≡ true → length body ≤ 123 → AreParts (plain_parts body)
unfolding plain_parts
plain_are body some printable short = record { some = some; printable = printable; digits = refl; short = room (plain_parts body) (omega arith) }

plain_prefix : (text : List ℕ) → Plain text → IsProperPrefix (36 ∷ text)
unfolding plain_parts
plain_prefix [] plain = (65 ∷ 42 ∷ 48 ∷ 48 ∷ 10 ∷ [], (omega arith, (plain_parts (65 ∷ []), (plain_are (65 ∷ []) (omega arith) refl (omega arith), refl))))
plain_prefix (c ∷ text) plain = (42 ∷ 48 ∷ 48 ∷ 10 ∷ [], (omega arith, (plain_parts (c ∷ text), (plain_are (c ∷ text) (omega arith) (plain.printable) (plain.short), refl))))

split_prefix : (text : List ℕ) (split : Split text) → Begins (split.body) (split.tail) → IsProperPrefix (36 ∷ text)
split_prefix text split found =
    let p : Parts = record { body = split.body; high = found.high; low = found.low; has_return = found.has_return } in
    let same : text ++ found.more ≡ split.body ++ 42 ∷ tail_of p.high p.low p.has_return =
    ap (λ t. t ++ found.more) (split.same) ∙ append_assoc (split.body) (42 ∷ split.tail) (found.more) ∙ ap (λ t. split.body ++ 42 ∷ t) (found.same) in
    (found.more, (found.some, (p, (record { some = split.some; printable = split.printable; digits = found.digits; short = room p (found.fits) }, ap (λ t. 36 ∷ t) same))))

-- `Pending` comes only at the beginning of a sentence shape
pub pending_forth : (bytes : List ℕ) → shape_of bytes ≡ Pending → IsProperPrefix bytes
unfolding shape_of plain_parts
pending_forth [] e = (36 ∷ 65 ∷ 42 ∷ 48 ∷ 48 ∷ 10 ∷ [], (omega arith, (plain_parts (65 ∷ []), (plain_are (65 ∷ []) (omega arith) refl (omega arith), refl))))
pending_forth (c ∷ text) e =
    elim (chosen (c == 36) _ _ _ e) [
      | inl w ↦ rw (eqb-true c 36 (w.0)) (go (dollar_cases text) (w.1))
      | inr w ↦ cc (w.1)
    ]
  where
    go : (after_dollar text ≡ No) ⊎ (Plain text ⊎ Split text) → after_dollar text ≡ Pending → IsProperPrefix (36 ∷ text)
    go (inl no_shape) pending = cc
    go (inr (inl plain)) pending = plain_prefix text plain
    go (inr (inr split)) pending = split_prefix text split (tail_lacks (split.body) (split.tail) (split.short) (sym (split.then) ∙ pending))

text_pending : (text more : List ℕ) (p : Parts) → AreParts p → 0 < length more → text ++ more ≡ p.body ++ 42 ∷ tail_of p.high p.low p.has_return →
    after_dollar text ≡ Pending
text_pending text more p are some same = go (aligned text more p.body (42 ∷ tail_of p.high p.low p.has_return) same)
  where
    fits : Fits (length p.body) p.has_return
    fits = fits_of p (are.short)

    short : length p.body ≤ 123
    short = omega (arith, fits, line_end-some p.has_return)

    go : ((s : List ℕ) × ((p.body ≡ text ++ s) × (more ≡ s ++ 42 ∷ tail_of p.high p.low p.has_return))) ⊎
        ((s : List ℕ) × ((text ≡ p.body ++ s) × (42 ∷ tail_of p.high p.low p.has_return ≡ s ++ more))) → after_dollar text ≡ Pending
    go (inl (s, (before, rest))) =
        dollar_plain text ((both (list_all is_body_byte text) (list_all is_body_byte s) (sym (list_all-append is_body_byte text s) ∙ sym (ap (list_all is_body_byte) before) ∙ are.printable)).0)
        (omega (arith, ap length before, length-append text s, short))
    go (inr ([], (behind, rest))) =
        let all : text ≡ p.body = behind ∙ append-nil p.body in
        rw all (dollar_plain p.body (are.printable) short)
    go (inr (c ∷ s, (behind, rest))) =
        let is : 42 ≡ c = cc in
        let left : s ++ more ≡ tail_of p.high p.low p.has_return = cc in
        rw (behind, ← is) (dollar_spelled p.body s (are.printable) (are.some) short ∙ tail_pending p.body s p.high p.low p.has_return more left some (are.digits) fits)

-- and at each
pub pending_back : (bytes : List ℕ) → IsProperPrefix bytes → shape_of bytes ≡ Pending
unfolding shape_of
pending_back [] h = refl
pending_back (c ∷ text) (more, (some, (p, (are, same)))) =
    let is : c ≡ 36 = cc in
    let rest : text ++ more ≡ p.body ++ 42 ∷ tail_of p.high p.low p.has_return = cc in
    rw is (text_pending text more p are some rest)

pub whole_exact : (bytes : List ℕ) (s : Shape) → s ≡ shape_of bytes → (n : ℕ) → (s ≡ Whole n) ↔ ((n ≤ length bytes) × IsSentence (take n bytes))
whole_exact bytes s is n = (λ e. whole_forth bytes n (sym is ∙ e), λ h. is ∙ whole_back bytes n h)

pub pending_exact : (bytes : List ℕ) (s : Shape) → s ≡ shape_of bytes → (s ≡ Pending) ↔ IsProperPrefix bytes
pending_exact bytes s is = (λ e. pending_forth bytes (sym is ∙ e), λ h. is ∙ pending_back bytes h)
