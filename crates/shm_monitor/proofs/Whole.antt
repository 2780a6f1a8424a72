-- What the words say to a monitor: count, valid, and the body at one count.
use Rattle.std.proofs.Common.{◌≡◌, ℕ, zero, suc, ◌+◌, ◌-◌, ◌*◌, ◌/◌, ◌%◌, ◌<◌, ◌≤◌, Bool, true, false, ◌&&◌, List, length, take, Some, refl, sym, ap, ◌∙◌, arith}
use Rattle.std.specs.Prelude.{nat_lt, slice_get, slice_index, slice_index_or, if◌then◌else◌, ◌==◌}
use Rattle.std.proofs.lemmas.Bool.Decides.{nat_tests}
use Rattle.std.proofs.lemmas.Option.{slice_get-get_or}
use Rattle.shm_segment.specs.declared.sample.Sample.{Sample}
use Rattle.shm_segment.specs.Samples.{IsSample, IsBody, body_of, sample_of, no_sample}
use Rattle.shm_segment.specs.Words.{published_after, count_at, count_after, body_at, body_after, words_of, body_places}
use Rattle.shm_segment.specs.Rule.{IsSound, IsPublished, IsWhole}
use Rattle.shm_segment.proofs.Samples.{body_there, sample_back}
use Rattle.shm_segment.proofs.Running.{still_body, half_count}

pub word_count : (first : ℕ) (samples : List Sample) (stores : ℕ) → slice_index (words_of first samples stores) 1 ≡ count_after first stores
unfolding words_of count_after
word_count first samples stores = refl

pub word_body : (first : ℕ) (samples : List Sample) (stores place : ℕ) → place < 9 → slice_index (words_of first samples stores) (slice_index body_places place) ≡ slice_index (body_after samples stores) place
unfolding words_of body_after
word_body first samples stores zero h = refl
word_body first samples stores (suc zero) h = refl
word_body first samples stores (suc (suc zero)) h = refl
word_body first samples stores (suc (suc (suc zero))) h = refl
word_body first samples stores (suc (suc (suc (suc zero)))) h = refl
word_body first samples stores (suc (suc (suc (suc (suc zero))))) h = refl
word_body first samples stores (suc (suc (suc (suc (suc (suc zero)))))) h = refl
word_body first samples stores (suc (suc (suc (suc (suc (suc (suc zero))))))) h = refl
word_body first samples stores (suc (suc (suc (suc (suc (suc (suc (suc zero)))))))) h = refl
word_body first samples stores (suc (suc (suc (suc (suc (suc (suc (suc (suc place))))))))) h = absurd (omega arith)

-- a valid that is not 0 says that a sample is published, and that none is being written
pub word_valid : (first : ℕ) (samples : List Sample) (stores : ℕ) → 0 < slice_index (words_of first samples stores) 9 → (count_after first stores % 2 ≡ 0) × (1 ≤ published_after stores)
unfolding words_of count_after
word_valid first samples stores some = by_case (stores % 13 == 0) refl some
  where
    by_case : (b : Bool) → (stores % 13 == 0) ≡ b → 0 < (if b && nat_lt 0 stores then 1 else 0) → (count_at first (stores % 13) ((stores + 1) / 13) % 2 ≡ 0) × (1 ≤ (stores + 1) / 13)
    by_case true test h =
        let position : stores % 13 ≡ 0 = grind (arith, nat_tests) in
        let made = made_some (nat_lt 0 stores) h in
        let low : 0 < stores = grind (arith, nat_tests) in (
          ap (λ (t : ℕ). count_at first t ((stores + 1) / 13) % 2) position ∙ (let e : (2 * (first + (stores + 1) / 13) + 0) % 2 ≡ 0 = omega arith in e),
          omega arith,
        )
      where
        made_some : (c : Bool) → 0 < (if c then 1 else 0) → c ≡ true
        made_some true h = refl
        made_some false h = absurd (omega arith)
    by_case false test h = absurd (omega arith)

-- what a body says that was read at one count: the published sample of its number
pub whole : (first : ℕ) (samples : List Sample) (stores count : ℕ) (body : List ℕ) → IsSound first samples stores → count_after first stores ≡ count → length body ≡ 9 → IsWhole samples stores count body
    → IsBody body × IsPublished first samples stores (record { number = count / 2; sample = sample_of body })
whole first samples stores count body sound now long is =
    let p : ℕ = published_after stores in
    let some : 1 ≤ p = is.some in
    let reach = sound.reaches in
    let low : p - 1 < length samples = omega arith in
    let s : Sample = slice_index_or samples (p - 1) no_sample in
    let range : IsSample s = sound.ranges (p - 1) no_sample low in
    let there = slice_get-get_or samples (p - 1) no_sample low in
    let place : p - 1 + 1 ≡ p = omega arith in
    let at : body_at samples p ≡ body_of s = ap (λ (k : ℕ). body_at samples k) (sym place) ∙ body_there samples (p - 1) s there in
    let even : count_after first stores % 2 ≡ 0 = ap (λ (n : ℕ). n % 2) now ∙ is.even in
    let still = still_body first samples stores s even at in
    let same : body ≡ body_of s = is.same ∙ ap (λ (n : ℕ). take n (body_after samples stores)) long ∙ ap (take 9) still in
    let sample : sample_of body ≡ s = ap sample_of same ∙ sample_back s range in
    let half : count / 2 ≡ first + p = ap (λ (n : ℕ). n / 2) (sym now) ∙ half_count first stores in
    let index : count / 2 - first - 1 ≡ p - 1 = omega arith in (
      (s, range, same),
      record {
        above = omega arith;
        reached = omega arith;
        same = ap (λ (k : ℕ). slice_get samples k) index ∙ there ∙ ap (λ (x : Sample). Some x) (sym sample);
      },
    )
