-- Units whose samples are all published, at the end.
use Rattle.std.proofs.Common.{◌≡◌, ℕ, ◌<◌, ◌≤◌, ◌+◌, ◌*◌, ◌/◌, ◌%◌, ◌⊎◌, inl, inr, zero, suc, List, [], ◌∷◌, ◌++◌, length, map, drop, take, replicate, slice_index_or, refl, sym, ◌∙◌, ap, subst, arith}
use Rattle.std.proofs.lemmas.List.{append-nil}
use Rattle.std.specs.List.{All, AllZip}
use Rattle.book_units.specs.Units.{IsNew, IsUnit, UnitView, all_of, begun_by, left_of, published_by, segment_of, unstored}
use Rattle.report_book.specs.BookView.{BookView}
use Rattle.report_book.specs.Moves.{IsNewBook}
use Rattle.shm_segment.specs.declared.publisher.Phase.{Phase}
use Rattle.shm_segment.specs.declared.publisher.Phase.TheVariants.{Idle}
use Rattle.shm_segment.specs.declared.sample.Sample.{Sample}
use Rattle.shm_segment.specs.Publishing.{IsPublishing, Publishing, count_of, position_of}
use Rattle.shm_segment.specs.Seats.{SegmentId}
use Rattle.shm_segment.specs.Words.{count_after, count_at, published_after}
use Rattle.serve_floor.specs.Bursts.{AreAtRest, IsAtRest}
use Rattle.gps_serve.specs.Units.{CountFromZero, UnitServed}

-- a new segment counts from its first number on
pub from_zero : (firsts : List ℕ) (units : List UnitView) → AllZip IsNew firsts units → All (λ (first : ℕ). first ≡ 0) firsts → CountFromZero (map segment_of units)
from_zero [] [] new zeros = tt
from_zero [] (u ∷ units) new zeros = absurd new
from_zero (first ∷ firsts) [] new zeros = absurd new
from_zero (first ∷ firsts) (u ∷ units) new zeros =
    (new.0.0 ∙ zeros zero first (omega arith), from_zero firsts units new.1 (λ k d there. zeros (suc k) d (omega arith)))

count_idle : (first stores : ℕ) → stores % 13 ≡ 0 → first ≡ 0 → count_after first stores ≡ 2 * published_after stores
unfolding count_after
count_idle first stores position is =
    ap (λ t. count_at first t ((stores + 1) / 13)) position ∙ ap (λ f. 2 * (f + (stores + 1) / 13) + 0) is ∙ omega arith

idle_begun : (p : Publishing) → p.phase ≡ Idle → begun_by p ≡ p.samples
idle_begun p idle = ap (λ (phase : Phase). p.samples ++ unstored phase p.begun) idle ∙ append-nil p.samples

drop_all : (xs : List Sample) (n : ℕ) → length xs ≤ n → drop n xs ≡ []
drop_all [] zero few = refl
drop_all [] (suc n) few = refl
drop_all (x ∷ xs) zero few = absurd (omega arith)
drop_all (x ∷ xs) (suc n) few = drop_all xs n (omega arith)

none_left : (u : UnitView) → IsPublishing u.publisher → u.publisher.phase ≡ Idle → u.waiting ≡ [] → left_of u ≡ []
none_left u keeps idle none =
    let position : u.publisher.stores % 13 ≡ 0 = keeps.position ∙ ap position_of idle in
    let all : all_of u ≡ u.publisher.samples = ap (λ w. begun_by u.publisher ++ w) none ∙ append-nil (begun_by u.publisher) ∙ idle_begun u.publisher idle in
    ap (drop (published_by u)) all ∙ drop_all u.publisher.samples (published_by u) (let count = keeps.count in omega (arith, count, position))

pub served : (u : UnitView) → IsUnit u → IsAtRest u → u.publisher.segment.first ≡ 0 → UnitServed u
served u keeps rests first = record {
  count = count_idle u.publisher.segment.first u.publisher.stores (keeps.publishing.position ∙ ap position_of rests.idle) first;
  left = elim rests.none [ inl none ↦ inl (none_left u keeps.publishing rests.idle none) | inr spent ↦ inr spent ];
}

first_zero : (units : List UnitView) (k : ℕ) (d : UnitView) → CountFromZero (map segment_of units) → k < length units
    → (slice_index_or units k d).publisher.segment.first ≡ 0
first_zero [] k d zeros there = absurd (omega arith)
first_zero (u ∷ units) zero d zeros there = zeros.0
first_zero (u ∷ units) (suc k) d zeros there = first_zero units k d zeros.1 (omega arith)

-- all units of a daemon that has ended
pub all_served : (units : List UnitView) (count : ℕ) → All IsUnit units → AreAtRest count units → length units ≤ count → CountFromZero (map segment_of units) → All UnitServed units
all_served units count keeps rests few zeros k d there =
    served (slice_index_or units k d) (keeps k d there) (rests k (omega (arith, there, few)) d) (first_zero units k d zeros there)

zero_front : (n k : ℕ) → All (λ (first : ℕ). first ≡ 0) (take n (replicate k 0))
zero_front zero k i d there = absurd (omega arith)
zero_front (suc n) zero i d there = absurd (omega arith)
zero_front (suc n) (suc k) zero d there = refl
zero_front (suc n) (suc k) (suc i) d there = zero_front n k i d (omega arith)

-- the segments of a new book count from zero
pub new_counts : (names : List (List ℕ)) (limit : ℕ) (b : BookView) → IsNewBook names limit (replicate 16 0) b → CountFromZero (map segment_of b.units)
new_counts names limit b new = from_zero (take (2 * length names) (replicate 16 0)) b.units new.units (zero_front (2 * length names) 16)
