-- A head that is taken off by pieces.
use Rattle.std.proofs.Common.{◌≡◌, ◌≢◌, ℕ, Bool, true, false, ◌==◌, if◌then◌else◌, ◌<◌, ◌≤◌, ◌+◌, List, [], ◌∷◌, ◌++◌, length, drop, get_or, refl, sym, ap, ◌∙◌, arith, drop-cons, add-one}
use Rattle.std.proofs.Math.Seq.{drop-length}
use Rattle.upstream_laws.specs.declared.stage.Stage.{Stage}
use Rattle.upstream_laws.specs.declared.stage.Stage.TheVariants.{Inside, Behind, Nowhere}
use Rattle.upstream_laws.specs.Head.{Stand, handed_by, step, step_by, taken, behind, more_head}

-- outside the head a byte changes nothing
pub step_behind : (s : Stand) (byte : ℕ) → s.stage ≡ Behind → step s byte ≡ s
step_behind s byte e = ap (λ t. step_by t s byte) e

pub step_nowhere : (s : Stand) (byte : ℕ) → s.stage ≡ Nowhere → step s byte ≡ s
step_nowhere s byte e = ap (λ t. step_by t s byte) e

pub step_inside : (s : Stand) (byte : ℕ) → s.stage ≡ Inside → step s byte ≡ more_head s byte
step_inside s byte e = ap (λ t. step_by t s byte) e

pub taken_behind : (s : Stand) (bytes : List ℕ) → s.stage ≡ Behind → taken s bytes ≡ s
taken_behind s [] e = refl
taken_behind s (byte ∷ bytes) e = ap (λ t. taken t bytes) (step_behind s byte e) ∙ taken_behind s bytes e

pub taken_nowhere : (s : Stand) (bytes : List ℕ) → s.stage ≡ Nowhere → taken s bytes ≡ s
taken_nowhere s [] e = refl
taken_nowhere s (byte ∷ bytes) e = ap (λ t. taken t bytes) (step_nowhere s byte e) ∙ taken_nowhere s bytes e

-- after the head all is handed on; if there is no head, nothing is
pub all_behind : (s : Stand) (bytes : List ℕ) → s.stage ≡ Behind → behind s bytes ≡ bytes
all_behind s [] e = refl
all_behind s (byte ∷ bytes) e = ap (λ t. handed_by t (byte ∷ bytes) (behind (step s byte) bytes)) e

pub none_nowhere : (s : Stand) (bytes : List ℕ) → s.stage ≡ Nowhere → behind s bytes ≡ []
none_nowhere s [] e = refl
none_nowhere s (byte ∷ bytes) e = ap (λ t. handed_by t (byte ∷ bytes) (behind (step s byte) bytes)) e

pub more_inside : (s : Stand) (byte : ℕ) (bytes : List ℕ) → s.stage ≡ Inside → behind s (byte ∷ bytes) ≡ behind (step s byte) bytes
more_inside s byte bytes e = ap (λ t. handed_by t (byte ∷ bytes) (behind (step s byte) bytes)) e

-- one piece after another
pub taken_both : (s : Stand) (a b : List ℕ) → taken s (a ++ b) ≡ taken (taken s a) b
taken_both s [] b = refl
taken_both s (byte ∷ a) b = taken_both (step s byte) a b

both_from : (s : Stand) (byte : ℕ) (a b : List ℕ) (t : Stage)
    → s.stage ≡ t
    → behind (step s byte) (a ++ b) ≡ behind (step s byte) a ++ behind (taken (step s byte) a) b
    → behind s (byte ∷ (a ++ b)) ≡ behind s (byte ∷ a) ++ behind (taken (step s byte) a) b
both_from s byte a b Inside e on =
    more_inside s byte (a ++ b) e ∙ on ∙ ap (λ l. l ++ behind (taken (step s byte) a) b) (sym (more_inside s byte a e))
both_from s byte a b Behind e on =
    let first : behind s (byte ∷ a) ≡ byte ∷ a = all_behind s (byte ∷ a) e in
    let later : taken (step s byte) a ≡ s = taken_behind s (byte ∷ a) e in
    let split : behind s (byte ∷ a) ++ behind (taken (step s byte) a) b ≡ (byte ∷ a) ++ b =
    ap (λ l. l ++ behind (taken (step s byte) a) b) first ∙ ap (λ t. (byte ∷ a) ++ behind t b) later ∙ ap (λ l. (byte ∷ a) ++ l) (all_behind s b e) in
    all_behind s (byte ∷ (a ++ b)) e ∙ sym split
both_from s byte a b Nowhere e on =
    let first : behind s (byte ∷ a) ≡ [] = none_nowhere s (byte ∷ a) e in
    let later : taken (step s byte) a ≡ s = taken_nowhere s (byte ∷ a) e in
    none_nowhere s (byte ∷ (a ++ b)) e ∙ sym (ap (λ l. l ++ behind (taken (step s byte) a) b) first ∙ ap (λ t. behind t b) later ∙ none_nowhere s b e)

pub behind_both : (s : Stand) (a b : List ℕ) → behind s (a ++ b) ≡ behind s a ++ behind (taken s a) b
behind_both s [] b = refl
behind_both s (byte ∷ a) b = both_from s byte a b s.stage refl (behind_both (step s byte) a b)

picked : (b : Bool) (x y : Stand) (n : ℕ) → x.count ≡ n → y.count ≡ n → (if b then x else y).count ≡ n
picked true x y n p q = p
picked false x y n p q = q

-- each byte of the head counts
pub more_count : (s : Stand) (byte : ℕ) → (more_head s byte).count ≡ s.count + 1
unfolding more_head
more_count s byte = picked (byte == 10) _ _ (s.count + 1) refl refl

-- The first bytes of a piece were taken: the rest of it decides what is still to come.
pub record IsUnderWay (used : ℕ) (piece : List ℕ) (old now : Stand) : Type 0 where
  pub within : used ≤ length piece
  pub stand : taken old piece ≡ taken now (drop used piece)
  pub rest : behind old piece ≡ behind now (drop used piece)
  pub count : now.count ≡ old.count + used

-- one byte more of the head
pub under_way : (used : ℕ) (piece : List ℕ) (old now after : Stand)
    → IsUnderWay used piece old now
    → used < length piece
    → now.stage ≡ Inside
    → after ≡ more_head now (get_or piece used 0)
    → IsUnderWay (used + 1) piece old after
under_way used piece old now after way lt at is =
    let first : drop used piece ≡ get_or piece used 0 ∷ drop (used + 1) piece = rw (add-one) (drop-cons piece used 0 lt) in
    let stepped : step now (get_or piece used 0) ≡ after = step_inside now (get_or piece used 0) at ∙ sym is in
    record {
      within = omega arith;
      stand = way.stand ∙ ap (λ l. taken now l) first ∙ ap (λ t. taken t (drop (used + 1) piece)) stepped;
      rest =
          way.rest
          ∙ ap (λ l. behind now l) first
          ∙ more_inside now (get_or piece used 0) (drop (used + 1) piece) at
          ∙ ap (λ t. behind t (drop (used + 1) piece)) stepped;
      count = ap (λ (t : Stand). t.count) is ∙ more_count now (get_or piece used 0) ∙ (let e = way.count in omega arith);
    }

-- the end of a piece, with this many bytes of it taken
pub record HasTaken (used : ℕ) (piece : List ℕ) (old now : Stand) : Type 0 where
  pub within : used ≤ length piece
  pub stand : now ≡ taken old piece
  pub count : now.count ≡ old.count + used
  pub inside : now.stage ≡ Inside → used ≡ length piece
  pub head : now.stage ≡ Behind → behind old piece ≡ drop used piece
  pub none : now.stage ≢ Behind → behind old piece ≡ []

-- all of the piece was taken
pub all_taken : (piece : List ℕ) (old now : Stand) → IsUnderWay (length piece) piece old now → HasTaken (length piece) piece old now
all_taken piece old now way =
    let end : drop (length piece) piece ≡ [] = drop-length piece in
    let left : behind old piece ≡ [] = way.rest ∙ ap (λ l. behind now l) end in
    record {
      within = way.within;
      stand = sym (way.stand ∙ ap (λ l. taken now l) end);
      count = way.count;
      inside = λ _. refl;
      head = λ _. left ∙ sym end;
      none = λ _. left;
    }

-- outside the head no more of it is
outside_by : (t : Stage) (used : ℕ) (piece : List ℕ) (old now : Stand)
    → IsUnderWay used piece old now → now.stage ≡ t → now.stage ≢ Inside
    → HasTaken used piece old now
outside_by Inside used piece old now way e not = absurd (not e)
outside_by Behind used piece old now way e not = record {
  within = way.within;
  stand = sym (way.stand ∙ taken_behind now (drop used piece) e);
  count = way.count;
  inside = λ i. absurd (not i);
  head = λ _. way.rest ∙ all_behind now (drop used piece) e;
  none = λ n. absurd (n e);
}
outside_by Nowhere used piece old now way e not = record {
  within = way.within;
  stand = sym (way.stand ∙ taken_nowhere now (drop used piece) e);
  count = way.count;
  inside = λ i. absurd (not i);
  head = λ b. absurd (cc);
  none = λ _. way.rest ∙ none_nowhere now (drop used piece) e;
}

pub outside_taken : (used : ℕ) (piece : List ℕ) (old now : Stand) → IsUnderWay used piece old now → now.stage ≢ Inside → HasTaken used piece old now
outside_taken used piece old now way not = outside_by now.stage used piece old now way refl not
