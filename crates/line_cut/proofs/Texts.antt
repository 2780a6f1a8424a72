-- Texts of lines that are in two parts.
use Rattle.std.proofs.Common.{◌≡◌, ◌≤◌, ◌<◌, ◌+◌, ◌-◌, ℕ, Bool, true, false, ◌&&◌, ◌==◌, List, [], ◌∷◌, ◌++◌, length, take, get_or, refl, sym, ap, ◌∙◌, arith, append_assoc, nat_lt, if◌then◌else◌}
use Rattle.std.specs.Io.BufRead.{ends_with_byte, strip_last}
use Rattle.std.proofs.lemmas.Bool.{le-ltb, lt-ltb, ltb-true}
use Rattle.std.proofs.lemmas.List.{append-nil, length-append, get_or-append_right, length-take-le}
use Rattle.std.proofs.Math.Seq.{take-append-add}
use Rattle.line_cut.specs.declared.limit.Limit.{Limit}
use Rattle.line_cut.specs.declared.limit.Limit.TheVariants.{Text, Whole}
use Rattle.line_cut.specs.Lines.{text_of}
use Rattle.line_cut.specs.Limits.{is_too_long}

-- a byte at the end of joined bytes is that of the second part
pub ends_append : (byte : ℕ) (held part : List ℕ) → 0 < length part → ends_with_byte byte (held ++ part) ≡ ends_with_byte byte part
ends_append byte held part some =
    let len : length (held ++ part) ≡ length held + length part = length-append held part in
    let whole : nat_lt 0 (length (held ++ part)) ≡ true = lt-ltb 0 (length (held ++ part)) (omega arith) in
    let second : nat_lt 0 (length part) ≡ true = lt-ltb 0 (length part) some in
    let last : get_or (held ++ part) (length (held ++ part) - 1) 0 ≡ get_or part (length part - 1) 0 =
    get_or-append_right held part (length held) (length (held ++ part) - 1) 0 refl (omega arith)
    ∙ ap (λ k. get_or part k 0) (omega arith) in
    ap (λ b. b && (get_or (held ++ part) (length (held ++ part) - 1) 0 == byte)) whole
    ∙ ap (λ d. d == byte) last
    ∙ ap (λ b. b && (get_or part (length part - 1) 0 == byte)) (sym second)

pub ends_first : (byte : ℕ) (held part : List ℕ) → length part ≡ 0 → ends_with_byte byte (held ++ part) ≡ ends_with_byte byte held
ends_first byte held [] none = ap (ends_with_byte byte) (append-nil held)
ends_first byte held (c ∷ part) none = absurd (omega (arith, none))

pub strip_append : (byte : ℕ) (held part : List ℕ) → 0 < length part → strip_last byte (held ++ part) ≡ held ++ strip_last byte part
strip_append byte held part some =
    ap (λ b. if b then take (length (held ++ part) - 1) (held ++ part) else held ++ part) (ends_append byte held part some)
    ∙ go (ends_with_byte byte part)
  where
    cut : take (length (held ++ part) - 1) (held ++ part) ≡ held ++ take (length part - 1) part
    cut =
        let at : length (held ++ part) - 1 ≡ length held + (length part - 1) = omega (arith, length-append held part) in
        ap (λ n. take n (held ++ part)) at ∙ take-append-add held part (length part - 1)

    go : (b : Bool) → (if b then take (length (held ++ part) - 1) (held ++ part) else held ++ part) ≡ held ++ (if b then take (length part - 1) part else part)
    go true = cut
    go false = refl

-- the length of bytes without one such at their end
pub strip_len : (byte : ℕ) (line : List ℕ) → length (strip_last byte line) ≡ (if ends_with_byte byte line then length line - 1 else length line)
strip_len byte line = go (ends_with_byte byte line)
  where
    go : (b : Bool) → length (if b then take (length line - 1) line else line) ≡ (if b then length line - 1 else length line)
    go true = length-take-le (length line - 1) line (omega arith)
    go false = refl

pub text_len : (held part : List ℕ) → 0 < length part →
    length (text_of (held ++ part))
    ≡ (if ends_with_byte 13 (held ++ strip_last 10 part) then (length held + length (strip_last 10 part)) - 1 else length held + length (strip_last 10 part))
text_len held part some =
    ap (λ line. length (strip_last 13 line)) (strip_append 10 held part some)
    ∙ strip_len 13 (held ++ strip_last 10 part)
    ∙ ap (λ n. if ends_with_byte 13 (held ++ strip_last 10 part) then n - 1 else n) (length-append held (strip_last 10 part))

-- one byte less at most
strip_bounds : (byte : ℕ) (line : List ℕ) → (length (strip_last byte line) ≤ length line) × (length line ≤ length (strip_last byte line) + 1)
strip_bounds byte line = go (ends_with_byte byte line) (strip_len byte line)
  where
    go : (b : Bool) → length (strip_last byte line) ≡ (if b then length line - 1 else length line) →
        (length (strip_last byte line) ≤ length line) × (length line ≤ length (strip_last byte line) + 1)
    go true is = (omega arith, omega arith)
    go false is = (omega arith, omega arith)

pub text_bounds : (line : List ℕ) → (length (text_of line) ≤ length line) × (length line ≤ length (text_of line) + 2)
text_bounds line =
    let feed : (length (strip_last 10 line) ≤ length line) × (length line ≤ length (strip_last 10 line) + 1) = strip_bounds 10 line in
    let return : (length (strip_last 13 (strip_last 10 line)) ≤ length (strip_last 10 line)) × (length (strip_last 10 line) ≤ length (strip_last 13 (strip_last 10 line)) + 1) =
    strip_bounds 13 (strip_last 10 line) in
    (omega (arith, feed, return), omega (arith, feed, return))

-- with one byte more
text_grows_one : (line : List ℕ) (c : ℕ) → length (text_of line) ≤ length (text_of (line ++ c ∷ []))
text_grows_one line c =
    rw (strip_append 10 line (c ∷ []) (omega arith)) (go (c == 10))
  where
    feed : (b : Bool) → length (strip_last 10 line) ≡ (if b then length line - 1 else length line) → strip_last 10 line ≡ (if b then take (length line - 1) line else line) →
        length (text_of line) ≤ length (strip_last 13 line)
    feed true size is = omega (arith, strip_bounds 13 (strip_last 10 line), strip_bounds 13 line)
    feed false size is = omega (arith, ap (λ t. length (strip_last 13 t)) is)

    go : (b : Bool) → length (text_of line) ≤ length (strip_last 13 (line ++ (if b then [] else c ∷ [])))
    go true = rw (append-nil line) (feed (ends_with_byte 10 line) (strip_len 10 line) refl)
    go false = omega (arith, text_bounds line, ap length (strip_append 13 line (c ∷ []) (omega arith)), length-append line (strip_last 13 (c ∷ [])))

pub text_grows : (line more : List ℕ) → length (text_of line) ≤ length (text_of (line ++ more))
text_grows line [] = omega (arith, ap (λ t. length (text_of t)) (append-nil line))
text_grows line (c ∷ more) =
    omega (arith, text_grows_one line c, text_grows (line ++ c ∷ []) more, ap (λ t. length (text_of t)) (append_assoc line (c ∷ []) more))

pub long_stays : (limit : Limit) (line more : List ℕ) → is_too_long limit line ≡ true → is_too_long limit (line ++ more) ≡ true
long_stays (Text n) line more long = lt-ltb n (length (text_of (line ++ more))) (omega (arith, ltb-true n (length (text_of line)) long, text_grows line more))
long_stays (Whole n) line more long = lt-ltb n (length (line ++ more)) (omega (arith, ltb-true n (length line) long, length-append line more))

pub none_fits : (limit : Limit) → is_too_long limit [] ≡ false
none_fits (Text n) = le-ltb n 0 (omega arith)
none_fits (Whole n) = le-ltb n 0 (omega arith)
