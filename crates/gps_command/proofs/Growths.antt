-- One more byte of the input: what it ends, and what is kept then.
use Rattle.std.proofs.Common.{◌≡◌, ◌<◌, ◌≤◌, ◌+◌, inl, inr, ℕ, zero, suc, Bool, true, false, ◌&&◌, ◌||◌, ◌==◌, List, [], ◌∷◌, ◌++◌, length, drop, cond, ap, ◌∙◌, refl, arith}
use Rattle.std.specs.List.{list_any}
use Rattle.std.proofs.lemmas.Bool.{cases_Bool, cases_lt, le-ltb, lt-ltb, or_parts}
use Rattle.std.proofs.lemmas.Bool.Decides.{nat_tests}
use Rattle.std.proofs.lemmas.List.{drop-append-le, length-drop, length_push, take-append-le}
use Rattle.std.proofs.lemmas.List.Folds.{list_any-append}
use Rattle.std.proofs.lemmas.List.Sums.{fold-append}
use Rattle.std.proofs.Math.Bool.{or-false}
use Rattle.std.proofs.Math.Seq.{drop-append_seam, take-append_seam}
use Rattle.gps_command.specs.declared.cutter.Stand.TheVariants.{Open, Skipping}
use Rattle.gps_command.specs.declared.request.Quote.TheVariants.{Outside}
use Rattle.gps_command.specs.declared.request.RawCommand.{RawCommand}
use Rattle.gps_command.specs.declared.request.RawCommand.TheVariants.{Long}
use Rattle.gps_command.specs.Kept.{CommandCutterView, kept_from, kept_open, kept_skipping, quote_of}
use Rattle.gps_command.specs.Requests.{ends, is_end, is_gap, is_line_feed, line_length, long_length, open_length, quote_after, requests_from}
use Rattle.gps_command.specs.Steps.{ends_at, next_at}
use Rattle.gps_command.proofs.Begins.{at_begun, at_ended, at_gap, at_long, at_past}
use Rattle.gps_command.proofs.Opens.{line-all, line-grows, line-le, line-stays, open-grows, open-le, open-more, open-stays}

-- a byte takes these requests and what is kept to those
pub record Grows (x : ℕ) (before : List RawCommand) (old : CommandCutterView) (after : List RawCommand) (new : CommandCutterView) : Type 0 where
  pub ended : after ≡ before ++ ends_at old.stand old.held x
  pub kept : new ≡ next_at old.stand old.held x

pushed : (x : ℕ) (r : RawCommand) (before after : List RawCommand) (old new : CommandCutterView) → Grows x before old after new
    → Grows x (r ∷ before) old (r ∷ after) new
pushed x r before after old new g = record { ended = ap (λ rs. r ∷ rs) g.ended; kept = g.kept }

abbrev Grown : ℕ → List ℕ → ℕ → Type 0
Grown k b x = Grows x (requests_from k b) (kept_from k b) (requests_from k (b ++ x ∷ [])) (kept_from k (b ++ x ∷ []))

is_some : (n : ℕ) (gap : Bool) → ((suc n == 0) && gap) ≡ false
is_some n gap = let some : (suc n == 0) ≡ false = grind (arith, nat_tests) in rw some

line_kept : (feed : Bool) → cond feed (kept_open []) kept_skipping ≡ record { stand = cond feed (Open Outside) Skipping; held = [] }
line_kept true = refl
line_kept false = refl

-- in the line of a request that is too long
grown_skipping : (x : ℕ) → Grows x [] kept_skipping [] (cond (is_line_feed x) (kept_open []) kept_skipping)
grown_skipping x = record { ended = refl; kept = line_kept (is_line_feed x) }

case_gap : (c : ℕ) (b : List ℕ) (x : ℕ) → is_gap c ≡ true → Grown 0 b x → Grown 0 (c ∷ b) x
case_gap c b x g ih =
    let old = at_gap c b g in
    let new = at_gap c (b ++ x ∷ []) g in
    rw (old.0, old.1, new.0, new.1) ih

case_ended : (c : ℕ) (b : List ℕ) (x n : ℕ) → is_gap c ≡ false → open_length Outside (c ∷ b) ≡ n → n ≤ 1024
    → n < suc (length b) → Grown n b x → Grown 0 (c ∷ b) x
case_ended c b x n g is l e ih =
    let old = at_ended c b n g is l e in
    let new = at_ended c (b ++ x ∷ []) n g (open-stays Outside (c ∷ b) (x ∷ []) (omega (arith, is)) ∙ is) l (omega (arith, length_push b x)) in
    rw (old.0, old.1, new.0, new.1, take-append-le n (c ∷ b) (x ∷ []) (omega arith)) (pushed x _ _ _ _ _ ih)

-- what follows the first 1,024 bytes, with one byte more
dropped_any : (b : List ℕ) (x : ℕ) → 1023 ≤ length b
    → list_any is_line_feed (drop 1023 (b ++ x ∷ [])) ≡ (list_any is_line_feed (drop 1023 b) || is_line_feed x)
dropped_any b x enough =
    rw (drop-append-le 1023 b (x ∷ []) enough, list_any-append is_line_feed (drop 1023 b) (x ∷ []), or-false (is_line_feed x))

-- the line of a request that is too long has ended
case_line : (c : ℕ) (b : List ℕ) (x : ℕ) → is_gap c ≡ false → 1024 < open_length Outside (c ∷ b)
    → list_any is_line_feed (drop 1023 b) ≡ true → Grown (long_length b) b x → Grown 0 (c ∷ b) x
case_line c b x g l f ih =
    let enough : 1023 ≤ length b = omega (arith, open-le Outside (c ∷ b)) in
    let same : long_length (b ++ x ∷ []) ≡ long_length b =
    rw (drop-append-le 1023 b (x ∷ []) enough, line-stays (drop 1023 b) (x ∷ []) f) in
    let old = at_long c b g l in
    let new = at_long c (b ++ x ∷ []) g (omega (arith, open-more Outside (c ∷ b) (x ∷ []))) in
    rw (old.0, old.1, new.0, new.1, same, dropped_any b x enough, f) (pushed x Long _ _ _ _ ih)

-- what is kept after a line that the byte goes on with, or ends
long_kept : (b : List ℕ) (x : ℕ) (any : Bool) → any ≡ is_line_feed x → length b ≤ long_length b
    → cond any (kept_from (long_length b) b) kept_skipping ≡ cond (is_line_feed x) (kept_open []) kept_skipping
long_kept b x any is past = rw (is, (at_past (long_length b) b past).1)

case_skipping : (c : ℕ) (b : List ℕ) (x : ℕ) → is_gap c ≡ false → 1024 < open_length Outside (c ∷ b)
    → list_any is_line_feed (drop 1023 b) ≡ false → Grown 0 (c ∷ b) x
case_skipping c b x g l f =
    let enough : 1023 ≤ length b = omega (arith, open-le Outside (c ∷ b)) in
    let all : length b ≤ long_length b = omega (arith, line-all (drop 1023 b) f, length-drop 1023 b) in
    let grown : line_length (drop 1023 (b ++ x ∷ [])) ≡ length (drop 1023 b) + 1 =
    rw (drop-append-le 1023 b (x ∷ []) enough) (line-grows (drop 1023 b) x f) in
    let past : length (b ++ x ∷ []) ≤ long_length (b ++ x ∷ []) = omega (arith, grown, length-drop 1023 b, length_push b x) in
    let any : list_any is_line_feed (drop 1023 (b ++ x ∷ [])) ≡ is_line_feed x = dropped_any b x enough ∙ rw f in
    let old = at_long c b g l in
    let new = at_long c (b ++ x ∷ []) g (omega (arith, open-more Outside (c ∷ b) (x ∷ []))) in
    rw (old.0, old.1, new.0, new.1, f, (at_past _ b all).0, (at_past _ (b ++ x ∷ []) past).0, long_kept (b ++ x ∷ []) x _ any past)
    (pushed x Long _ _ _ _ (grown_skipping x))

-- the byte ends an open request
case_closes : (c : ℕ) (b : List ℕ) (x : ℕ) → is_gap c ≡ false → open_length Outside (c ∷ b) ≡ suc (length b)
    → suc (length b) ≤ 1024 → ends (quote_of (c ∷ b)) x ≡ true → Grown 0 (c ∷ b) x
case_closes c b x g is l e =
    let end : cond {A = ℕ} (ends (quote_of (c ∷ b)) x) 0 1 ≡ 0 = rw e in
    let same : open_length Outside (c ∷ (b ++ x ∷ [])) ≡ suc (length b) = omega (arith, open-grows Outside (c ∷ b) x is, end) in
    let past = at_past (suc (length b)) (b ++ x ∷ []) (omega (arith, length_push b x)) in
    let old = at_begun c b g (omega (arith, is)) (omega (arith, is)) in
    let new = at_ended c (b ++ x ∷ []) (suc (length b)) g same l (omega (arith, length_push b x)) in
    rw (old.0, old.1, new.0, new.1, past.0, past.1, take-append_seam (c ∷ b) (x ∷ []))
    (record { ended = rw (is_some (length b) (is_gap x), e); kept = rw (is_some (length b) (is_gap x), e) })

-- the byte is one more of an open request
case_longer : (c : ℕ) (b : List ℕ) (x : ℕ) → is_gap c ≡ false → open_length Outside (c ∷ b) ≡ suc (length b)
    → suc (length b) < 1024 → ends (quote_of (c ∷ b)) x ≡ false → Grown 0 (c ∷ b) x
case_longer c b x g is l e =
    let on : cond {A = ℕ} (ends (quote_of (c ∷ b)) x) 0 1 ≡ 1 = rw e in
    let second : open_length Outside (c ∷ (b ++ x ∷ [])) ≡ suc (suc (length b)) = omega (arith, open-grows Outside (c ∷ b) x is, on) in
    let old = at_begun c b g (omega (arith, is)) (omega (arith, is)) in
    let new = at_begun c (b ++ x ∷ []) g (omega (arith, second)) (omega (arith, second, length_push b x)) in
    rw (old.0, old.1, new.0, new.1) (record {
      ended = rw (is_some (length b) (is_gap x), e, lt-ltb _ _ l);
      kept = rw (is_some (length b) (is_gap x), e, lt-ltb _ _ l, fold-append quote_after Outside (c ∷ b) (x ∷ []));
    })

-- the byte is one too many
case_long : (c : ℕ) (b : List ℕ) (x : ℕ) → is_gap c ≡ false → open_length Outside (c ∷ b) ≡ suc (length b)
    → suc (length b) ≡ 1024 → ends (quote_of (c ∷ b)) x ≡ false → Grown 0 (c ∷ b) x
case_long c b x g is l e =
    let full : 1024 ≤ suc (length b) = omega arith in
    let on : cond {A = ℕ} (ends (quote_of (c ∷ b)) x) 0 1 ≡ 1 = rw e in
    let front : 1023 ≡ length b = omega arith in
    let dropped : drop 1023 (b ++ x ∷ []) ≡ x ∷ [] = rw front (drop-append_seam b (x ∷ [])) in
    let any : list_any is_line_feed (drop 1023 (b ++ x ∷ [])) ≡ is_line_feed x = rw dropped (or-false (is_line_feed x)) in
    let one : line_length (drop 1023 (b ++ x ∷ [])) ≡ 0 + 1 = rw dropped (line-grows [] x refl) in
    let past : length (b ++ x ∷ []) ≤ long_length (b ++ x ∷ []) = omega (arith, one, length_push b x) in
    let old = at_begun c b g (omega (arith, is)) (omega (arith, is)) in
    let new = at_long c (b ++ x ∷ []) g (omega (arith, open-grows Outside (c ∷ b) x is, on)) in
    rw (old.0, old.1, new.0, new.1, (at_past _ (b ++ x ∷ []) past).0, long_kept (b ++ x ∷ []) x _ any past) (record {
      ended = rw (is_some (length b) (is_gap x), e, le-ltb _ _ full);
      kept = rw (is_some (length b) (is_gap x), e, le-ltb _ _ full) (line_kept (is_line_feed x));
    })

at_begin : (c : ℕ) (b : List ℕ) (x : ℕ) → ((k : ℕ) → k ≤ length b → Grown k b x) → Grown 0 (c ∷ b) x
at_begin c b x ih =
    elim (cases_Bool (is_gap c)) [
      | inl g ↦ case_gap c b x g (ih 0 (omega arith))
      | inr g ↦ elim (cases_lt 1024 (open_length Outside (c ∷ b))) [
        | inl l ↦ elim (cases_Bool (list_any is_line_feed (drop 1023 b))) [
          | inl f ↦ case_line c b x g l f
              (ih (long_length b) (omega (arith, line-le (drop 1023 b), length-drop 1023 b, open-le Outside (c ∷ b))))
          | inr f ↦ case_skipping c b x g l f
        ]
        | inr l ↦ elim (cases_lt (open_length Outside (c ∷ b)) (suc (length b))) [
          | inl e ↦ case_ended c b x _ g refl l e (ih _ (omega arith))
          | inr e ↦
              let whole : open_length Outside (c ∷ b) ≡ suc (length b) = omega (arith, open-le Outside (c ∷ b)) in
              elim (cases_Bool (ends (quote_of (c ∷ b)) x)) [
                | inl end ↦ case_closes c b x g whole (omega arith) end
                | inr on ↦ elim (cases_lt (suc (length b)) 1024) [
                  | inl room ↦ case_longer c b x g whole room on
                  | inr full ↦ case_long c b x g whole (omega arith) on
                ]
              ]
        ]
      ]
    ]

-- the first byte of the input
first_begins : (x : ℕ) → is_gap x ≡ false → Grown 0 [] x
unfolding requests_from kept_from open_length
first_begins x g =
    let on : is_end x ≡ false = (or_parts _ (is_end x) g).1 in
    let one : open_length Outside (x ∷ []) ≡ 1 = rw on in
    let new = at_begun x [] g (omega (arith, one)) (omega (arith, one)) in
    rw (new.0, new.1) (record { ended = rw (g, on); kept = rw (g, on) })

pub grown : (k : ℕ) (b : List ℕ) (x : ℕ) → k ≤ length b → Grown k b x
unfolding requests_from kept_from
grown zero [] x h =
    elim (cases_Bool (is_gap x)) [
      | inl g ↦ let new = at_gap x [] g in rw (new.0, new.1) (record { ended = rw g; kept = rw g })
      | inr g ↦ first_begins x g
    ]
grown (suc k) [] x h = absurd (omega arith)
grown zero (c ∷ b) x h = at_begin c b x (λ k below. grown k b x below)
grown (suc k) (c ∷ b) x h = grown k b x (omega arith)
