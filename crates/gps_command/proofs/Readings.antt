-- What is read of gaps, of a request that is too long, and of one that has no end yet.
use Rattle.std.proofs.Common.{◌≡◌, ◌<◌, ◌≤◌, inl, inr, ◌&&◌, ℕ, zero, suc, Bool, true, false, List, [], ◌∷◌, ◌++◌, length, take, drop, ap, sym, ◌∙◌, refl, arith, append_assoc, append-nil}
use Rattle.std.specs.List.{list_all}
use Rattle.std.specs.Io.BufRead.{drop_through}
use Rattle.std.proofs.lemmas.Bool.{cases_Bool}
use Rattle.std.proofs.lemmas.List.{length-append, length-take, take-append-drop, drop-drop}
use Rattle.gps_command.specs.declared.request.Quote.{Quote}
use Rattle.gps_command.specs.declared.request.Quote.TheVariants.{Outside}
use Rattle.gps_command.specs.declared.request.RawCommand.TheVariants.{Long}
use Rattle.gps_command.specs.Requests.{ends, is_gap, is_line_feed, line_length, long_length, open_length, quote_after, requests_from}
use Rattle.gps_command.specs.Texts.{AwaitsEnds, IsBeginning, SkipsGaps, SkipsLong}
use Rattle.gps_command.proofs.Begins.{at_begun, at_gap, at_long}
use Rattle.gps_command.proofs.Opens.{open-le}
use Rattle.gps_command.proofs.Sets.{text_passes}

both : (a b : Bool) → (a && b) ≡ true → (a ≡ true) × (b ≡ true)
both true b h = (refl, h)
both false b h = absurd (cc)

pub skips_gaps : SkipsGaps
unfolding requests_from
skips_gaps [] rest all = refl
skips_gaps (c ∷ gaps) rest all =
    let tests = both (is_gap c) (list_all is_gap gaps) all in
    let read = at_gap c (gaps ++ rest) tests.0 in
    read.0 ∙ skips_gaps gaps rest tests.1

-- no byte of a front ends it, whatever follows the front
front : (quote : Quote) (bytes behind other : List ℕ) → length bytes ≤ open_length quote (bytes ++ behind) → length bytes ≤ open_length quote (bytes ++ other)
unfolding open_length
front quote [] behind other h = omega arith
front quote (c ∷ bytes) behind other h =
    elim (cases_Bool (ends quote c)) [
      | inl e ↦ let none = rw e at h in absurd (omega arith)
      | inr e ↦ let on = rw e at h in rw e (omega (arith, front (quote_after quote c) bytes behind other (omega arith)))
    ]

-- a beginning of a text has no end
beginning_open : (bytes other : List ℕ) → IsBeginning bytes → length bytes ≤ open_length Outside (bytes ++ other)
beginning_open bytes other is =
    let whole : open_length Outside ((bytes ++ is.0) ++ 59 ∷ []) ≡ length (bytes ++ is.0) = text_passes (bytes ++ is.0) [] 59 is.1 refl in
    let same : open_length Outside (bytes ++ (is.0 ++ 59 ∷ [])) ≡ length (bytes ++ is.0) = ap (open_length Outside) (sym (append_assoc bytes is.0 (59 ∷ []))) ∙ whole in
    front Outside bytes (is.0 ++ 59 ∷ []) other (omega (arith, same, length-append bytes is.0))

past : (k : ℕ) (bytes : List ℕ) → requests_from k bytes ≡ requests_from 0 (drop k bytes)
unfolding requests_from
past zero bytes = refl
past (suc k) [] = refl
past (suc k) (c ∷ bytes) = past k bytes

behind_line : (bytes : List ℕ) → drop (line_length bytes) bytes ≡ drop_through 10 bytes
unfolding line_length
behind_line [] = refl
behind_line (c ∷ bytes) = elim (cases_Bool (is_line_feed c)) [ inl f ↦ rw f | inr f ↦ rw f (behind_line bytes) ]

pub skips_long : SkipsLong
skips_long [] is = absurd (omega (arith, is.long))
skips_long (c ∷ bytes) is =
    let front = beginning_open (take 1025 (c ∷ bytes)) (drop 1025 (c ∷ bytes)) is.goes_on in
    let whole : open_length Outside (take 1025 (c ∷ bytes) ++ drop 1025 (c ∷ bytes)) ≡ open_length Outside (c ∷ bytes) = ap (open_length Outside) (take-append-drop 1025 (c ∷ bytes)) in
    let long : 1024 < open_length Outside (c ∷ bytes) = omega (arith, front, whole, length-take 1025 (c ∷ bytes), is.long) in
    (at_long c bytes is.begins long).0
    ∙ ap (λ r. Long ∷ r) (past (long_length bytes) bytes
    ∙ ap (requests_from 0) (sym (drop-drop (line_length (drop 1023 bytes)) 1023 bytes) ∙ behind_line (drop 1023 bytes)))

pub awaits_ends : AwaitsEnds
unfolding requests_from
awaits_ends [] is short begins = refl
awaits_ends (c ∷ bytes) is short begins =
    let all : open_length Outside ((c ∷ bytes) ++ []) ≡ open_length Outside (c ∷ bytes) = ap (open_length Outside) (append-nil (c ∷ bytes)) in
    let front : length (c ∷ bytes) ≤ open_length Outside ((c ∷ bytes) ++ []) = beginning_open (c ∷ bytes) [] is in
    (at_begun c bytes begins (omega (arith, open-le Outside (c ∷ bytes), short)) (omega (arith, front, all))).0
