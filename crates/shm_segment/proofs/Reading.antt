-- What every reader of a segment uses: the length of a body, and that count is a u32.
use Rattle.std.proofs.Common.{◌≡◌, ℕ, ◌≤◌, ◌<◌, ◌^◌, List, length, refl, arith}
use Rattle.shm_segment.specs.declared.sample.Sample.{Sample}
use Rattle.shm_segment.specs.Words.{published_after, count_after, body_after}
use Rattle.shm_segment.specs.Rule.{IsSound}
use Rattle.shm_segment.proofs.Running.{half_count}

pub length_body : (samples : List Sample) (stores : ℕ) → length (body_after samples stores) ≡ 9
unfolding body_after
length_body samples stores = refl

-- count is below 2 ^ 32
pub count_fits : (first : ℕ) (samples : List Sample) (stores : ℕ) → IsSound first samples stores → count_after first stores < 2 ^ 32
count_fits first samples stores sound =
    let half = half_count first stores in
    let reach = sound.reaches in
    let numbers = sound.numbers in
    let p : published_after stores ≤ length samples = omega arith in
    omega arith
