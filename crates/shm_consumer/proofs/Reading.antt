-- What the words say to the taker: count, valid, and the body at one count.
use Rattle.std.proofs.Common.{◌≡◌, ℕ, zero, suc, ◌+◌, ◌-◌, ◌/◌, ◌%◌, ◌<◌, ◌≤◌, List, [], ◌∷◌, ◌++◌, length, take, Some, refl, sym, ap, ◌∙◌, arith}
use Rattle.std.specs.Prelude.{slice_get, slice_index, slice_index_or}
use Rattle.std.proofs.lemmas.Option.{slice_get-get_or}
use Rattle.shm_segment.specs.declared.sample.Sample.{Sample}
use Rattle.shm_segment.specs.declared.view.Numbered.{Numbered}
use Rattle.shm_segment.specs.Samples.{IsSample, IsBody, body_of, sample_of, no_sample}
use Rattle.shm_segment.specs.Words.{published_after, count_after, body_at, body_after, words_of, body_places}
use Rattle.shm_segment.specs.Rule.{IsSound, IsPublished, last_from}
use Rattle.shm_segment.proofs.Samples.{body_there, sample_back}
use Rattle.shm_segment.proofs.Running.{still_body, half_count}
use Rattle.shm_consumer.specs.Rule.{words_with, IsStill, RisesStrictly}
use Rattle.shm_consumer.specs.Views.{pair_of}

pub word_count : (first : ℕ) (samples : List Sample) (stores valid : ℕ) → slice_index (words_with first samples stores valid) 1 ≡ count_after first stores
unfolding words_of count_after
word_count first samples stores valid = refl

pub word_valid : (first : ℕ) (samples : List Sample) (stores valid : ℕ) → slice_index (words_with first samples stores valid) 9 ≡ valid
unfolding words_of
word_valid first samples stores valid = refl

pub word_body : (first : ℕ) (samples : List Sample) (stores valid place : ℕ) → place < 9 → slice_index (words_with first samples stores valid) (slice_index body_places place) ≡ slice_index (body_after samples stores) place
unfolding words_of body_after
word_body first samples stores valid zero h = refl
word_body first samples stores valid (suc zero) h = refl
word_body first samples stores valid (suc (suc zero)) h = refl
word_body first samples stores valid (suc (suc (suc zero))) h = refl
word_body first samples stores valid (suc (suc (suc (suc zero)))) h = refl
word_body first samples stores valid (suc (suc (suc (suc (suc zero))))) h = refl
word_body first samples stores valid (suc (suc (suc (suc (suc (suc zero)))))) h = refl
word_body first samples stores valid (suc (suc (suc (suc (suc (suc (suc zero))))))) h = refl
word_body first samples stores valid (suc (suc (suc (suc (suc (suc (suc (suc zero)))))))) h = refl
word_body first samples stores valid (suc (suc (suc (suc (suc (suc (suc (suc (suc place))))))))) h = absurd (omega arith)

-- what a body says that was read at one count: the published sample of its number
pub whole : (first : ℕ) (samples : List Sample) (stores last count : ℕ) (body : List ℕ) → IsSound first samples stores → count_after first stores ≡ count → length body ≡ 9 → IsStill samples stores last count body
    → IsBody body × IsPublished first samples stores (pair_of count body)
whole first samples stores last count body sound now long is =
    let p : ℕ = published_after stores in
    let some : 1 ≤ p = is.some in
    let reach = sound.reaches in
    let low : p - 1 < length samples = omega arith in
    let s : Sample = slice_index_or samples (p - 1) no_sample in
    let range : IsSample s = sound.ranges (p - 1) no_sample low in
    let there = slice_get-get_or samples (p - 1) no_sample low in
    let place : p - 1 + 1 ≡ p = omega arith in
    let at : body_at samples p ≡ body_of s = ap (λ (k : ℕ). body_at samples k) (sym place) ∙ body_there samples (p - 1) s there in
    let even : count_after first stores % 2 ≡ 0 = ap (λ (n : ℕ). n % 2) now ∙ is.even in
    let still = still_body first samples stores s even at in
    let same : body ≡ body_of s = is.same ∙ ap (λ (n : ℕ). take n (body_after samples stores)) long ∙ ap (take 9) still in
    let sample : sample_of body ≡ s = ap sample_of same ∙ sample_back s range in
    let half : count / 2 ≡ first + p = ap (λ (n : ℕ). n / 2) (sym now) ∙ half_count first stores in
    let index : count / 2 - first - 1 ≡ p - 1 = omega arith in (
      (s, range, same),
      record {
        above = omega arith;
        reached = omega arith;
        same = ap (λ (k : ℕ). slice_get samples k) index ∙ there ∙ ap (λ (x : Sample). Some x) (sym sample);
      },
    )

pub one : (l : List ℕ) → length l ≡ 1 → (count : ℕ) × (l ≡ count ∷ [])
one [] e = absurd (omega arith)
one (x ∷ []) e = (x, refl)
one (x ∷ y ∷ l) e = absurd (omega arith)

pub two : (l : List ℕ) (n : ℕ) → length l ≡ n + 2 → (count valid : ℕ) × (body : List ℕ) × (l ≡ count ∷ valid ∷ body) × (length body ≡ n)
two [] n e = absurd (omega arith)
two (x ∷ []) n e = absurd (omega arith)
two (x ∷ y ∷ l) n e = (x, y, l, refl, omega arith)

pub last_snoc : (low : ℕ) (xs : List Numbered) (pair : Numbered) → last_from low (xs ++ pair ∷ []) ≡ pair.number
last_snoc low [] pair = refl
last_snoc low (x ∷ xs) pair = last_snoc x.number xs pair

pub rises_snoc : (low : ℕ) (xs : List Numbered) (pair : Numbered) → RisesStrictly low xs → last_from low xs < pair.number → RisesStrictly low (xs ++ pair ∷ [])
rises_snoc low [] pair rises h = (h, tt)
rises_snoc low (x ∷ xs) pair rises h = (rises.0, rises_snoc x.number xs pair rises.1 h)

-- the last of a list whose numbers rise is above the one before it
pub above_snoc : (low : ℕ) (xs : List Numbered) (pair : Numbered) → RisesStrictly low (xs ++ pair ∷ []) → last_from low xs < pair.number
above_snoc low [] pair rises = rises.0
above_snoc low (x ∷ xs) pair rises = above_snoc x.number xs pair rises.1
