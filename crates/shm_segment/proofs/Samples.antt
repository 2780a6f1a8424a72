-- A body gives its sample back, and a longer list of samples has the same bodies.
use Rattle.std.proofs.Common.{◌≡◌, ℕ, zero, suc, ◌+◌, ◌≤◌, List, [], ◌∷◌, ◌++◌, map, length, Some, refl, ap, ◌∙◌, arith}
use Rattle.std.proofs.lemmas.List.{get_or_append_left, map-append, length-map}
use Rattle.std.proofs.lemmas.Int.{ints}
use Rattle.std.specs.Prelude.{ℤ, pos, unsigned_abs, slice_get, slice_index_or, ◌≤ℤ◌, FitsSigned}
use Rattle.std.specs.Int.{w8, w64, cast_signed, cast_unsigned}
use Rattle.shm_segment.specs.declared.sample.Sample.{Sample}
use Rattle.shm_segment.specs.Samples.{IsSample, body_of, sample_of}
use Rattle.shm_segment.specs.Words.{body_at}

unsigned : (z : ℤ) → pos 0 ≤ℤ z → pos (unsigned_abs z) ≡ z
unsigned z low = omega (arith, ints)

signed : (z : ℤ) → FitsSigned w8 z → cast_signed w64 (cast_unsigned w64 z) ≡ z
signed z fits = omega (arith, ints)

pub sample_back : (s : Sample) → IsSample s → sample_of (body_of s) ≡ s
sample_back s is =
    let reference = unsigned s.reference.sec is.reference.from in
    let host = unsigned s.host.sec is.host.from in
    let precision = signed s.precision is.precision in
    λ i. record { reference = record { sec = reference i; nsec = s.reference.nsec }; host = record { sec = host i; nsec = s.host.nsec }; precision = precision i }

pub slice_get_front : {A : Type 0} → (xs ys : List A) (k : ℕ) (x : A) → slice_get xs k ≡ Some x → slice_get (xs ++ ys) k ≡ Some x
slice_get_front [] ys k x e = absurd (cc)
slice_get_front (y ∷ xs) ys zero x e = e
slice_get_front (y ∷ xs) ys (suc k) x e = slice_get_front xs ys k x e

pub body_more : (samples more : List Sample) (p : ℕ) → p ≤ length samples → body_at (samples ++ more) p ≡ body_at samples p
body_more samples more zero h = refl
body_more samples more (suc p) h =
    ap (λ (l : List (List ℕ)). slice_index_or l p []) (map-append body_of samples more)
    ∙ get_or_append_left (map body_of samples) (map body_of more) [] p (let e = length-map samples body_of in omega arith)

-- the body of the last of a list
pub body_last : (samples : List Sample) (s : Sample) → body_at (samples ++ s ∷ []) (length samples + 1) ≡ body_of s
body_last samples s = ap (λ (k : ℕ). body_at (samples ++ s ∷ []) k) (let e : length samples + 1 ≡ suc (length samples) = omega arith in e) ∙ last samples
  where
    last : (xs : List Sample) → slice_index_or (map body_of (xs ++ s ∷ [])) (length xs) [] ≡ body_of s
    last [] = refl
    last (x ∷ xs) = last xs

-- the body of the sample that is there
pub body_there : (samples : List Sample) (k : ℕ) (s : Sample) → slice_get samples k ≡ Some s → body_at samples (k + 1) ≡ body_of s
body_there samples k s e = ap (λ (n : ℕ). body_at samples n) (let e' : k + 1 ≡ suc k = omega arith in e') ∙ there samples k e
  where
    there : (xs : List Sample) (j : ℕ) → slice_get xs j ≡ Some s → slice_index_or (map body_of xs) j [] ≡ body_of s
    there [] j h = absurd (cc)
    there (x ∷ xs) zero h = let same : x ≡ s = cc in ap body_of same
    there (x ∷ xs) (suc j) h = there xs j h
