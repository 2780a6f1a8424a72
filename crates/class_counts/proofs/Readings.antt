-- Lines that are read one after another, and the first bad one.
use Rattle.std.proofs.Common.{◌≡◌, ℕ, ◌+◌, ◌-◌, ◌^◌, ◌<◌, true, false, cond, List, [], ◌∷◌, ◌++◌, length, take, drop, min, inl, inr, refl, sym, ap, ◌∙◌, subst, arith, append_assoc, append-nil, take-append-drop, length-append}
use Rattle.line_cut.specs.Standing.{GivesLine, GivesNone, GivesTooLong, StandsFor}
use Rattle.line_cut.specs.Limits.{is_too_long}
use Rattle.line_cut.specs.Lines.{lines, open_line}
use Rattle.gps_client.specs.declared.line.Line.{Line}
use Rattle.gps_client.specs.Texts.{IsLineOf}
use Rattle.class_counts.specs.declared.counting.Count.{Count}
use Rattle.class_counts.specs.Lines.{AreRead, IsRead, Refuses, limit, long_line}
use Rattle.class_counts.specs.declared.counting.Stop.{Stop}
use Rattle.class_counts.specs.declared.counting.Stop.TheVariants.{Bad, NoMemory}
use Rattle.class_counts.specs.Standing.{CountStands, Stops}
use Rattle.class_counts.specs.Tallies.{Tallies, kept_number}

pub are_more : (values : List Line) (read : List (List ℕ)) (v : Line) (line : List ℕ) → AreRead values read → IsRead v line
    → AreRead (values ++ v ∷ []) (read ++ line ∷ [])
are_more [] [] v line are is = (is, tt)
are_more [] (l ∷ read) v line are is = absurd are
are_more (u ∷ values) [] v line are is = absurd are
are_more (u ∷ values) (l ∷ read) v line are is = (are.0, are_more values read v line are.1 is)

kept_more : (n : ℕ) → min (kept_number n + 1) (2 ^ 64 - 1) ≡ kept_number (n + 1)
kept_more n = omega arith

pub nothing_yet : (count : Count) → StandsFor count.cutter [] → count.cutter.limit ≡ limit → Tallies count.tally.numbers [] → count.good ≡ 0
    → CountStands count []
unfolding lines open_line
nothing_yet count cutter is tallies none = record {
  cutter = cutter;
  limit_is = is;
  values = [];
  are = tt;
  tallies = tallies;
  good = none;
  fits = refl;
}

-- the next line is that of a value
pub read_on : (old new : Count) (bytes piece line : List ℕ) (n : ℕ) (v : Line)
    → CountStands old bytes → GivesLine old.cutter.limit bytes piece line n → IsLineOf v line
    → StandsFor new.cutter (bytes ++ take n piece) → new.cutter.limit ≡ old.cutter.limit
    → ((values : List Line) → Tallies old.tally.numbers values → Tallies new.tally.numbers (values ++ v ∷ []))
    → new.good ≡ min (old.good + 1) (2 ^ 64 - 1)
    → CountStands new (bytes ++ take n piece)
read_on old new bytes piece line n v so_far gives of_value stands stays adds good = record {
  cutter = stands;
  limit_is = stays ∙ so_far.limit_is;
  values = so_far.values ++ v ∷ [];
  are = subst (λ ls. AreRead (so_far.values ++ v ∷ []) ls) (sym gives.lines)
      (are_more so_far.values (lines bytes) v line so_far.are (record { of_value = of_value; fits = ap (λ l. is_too_long l line) (sym so_far.limit_is) ∙ gives.fits }));
  tallies = adds so_far.values so_far.tallies;
  good = good ∙ ap (λ g. min (g + 1) (2 ^ 64 - 1)) so_far.good ∙ kept_more (length so_far.values)
      ∙ ap kept_number (sym (length-append so_far.values (v ∷ [])));
  fits = ap (λ l. is_too_long limit l) gives.opens;
}

-- the piece ends no line
pub used_up : (old new : Count) (bytes piece : List ℕ)
    → CountStands old bytes → GivesNone old.cutter.limit bytes piece
    → StandsFor new.cutter (bytes ++ piece) → new.cutter.limit ≡ old.cutter.limit
    → new.tally.numbers ≡ old.tally.numbers → new.good ≡ old.good
    → CountStands new (bytes ++ piece)
used_up old new bytes piece so_far gives stands stays numbers good = record {
  cutter = stands;
  limit_is = stays ∙ so_far.limit_is;
  values = so_far.values;
  are = subst (λ ls. AreRead so_far.values ls) (sym gives.lines) so_far.are;
  tallies = subst (λ ns. Tallies ns so_far.values) (sym numbers) so_far.tallies;
  good = good ∙ so_far.good;
  fits = fits_on piece gives.fits;
}
  where
    fits_on : (p : List ℕ) → (0 < length p → is_too_long old.cutter.limit (open_line (bytes ++ p)) ≡ false) → is_too_long limit (open_line (bytes ++ p)) ≡ false
    fits_on [] fits = ap (λ b. is_too_long limit (open_line b)) (append-nil bytes) ∙ so_far.fits
    fits_on (c ∷ p) fits = ap (λ l. is_too_long l (open_line (bytes ++ c ∷ p))) (sym so_far.limit_is) ∙ fits (omega arith)

-- the bytes as those up to a place of the piece, and those after it
at_place : (bytes piece : List ℕ) (n : ℕ) → bytes ++ piece ≡ (bytes ++ take n piece) ++ drop n piece
at_place bytes piece n = ap (λ p. bytes ++ p) (sym (take-append-drop n piece)) ∙ sym (append_assoc bytes (take n piece) (drop n piece))

long_none : (line : List ℕ) → line ≡ [] → long_line line ≡ []
long_none line none = ap long_line none

long_one : (line : List ℕ) → is_too_long limit line ≡ true → long_line line ≡ line ∷ []
long_one line long = ap (λ b. cond b (line ∷ []) []) long

-- the next line is that of no value
pub bad_met : (old : Count) (bytes piece line : List ℕ) (n : ℕ)
    → CountStands old bytes → GivesLine old.cutter.limit bytes piece line n → ((v : Line) → IsLineOf v line → ⊥)
    → (k : ℕ) × Refuses (bytes ++ piece) (k + 1) × (old.good ≡ kept_number k)
bad_met old bytes piece line n so_far gives none = (
  length so_far.values,
  record {
    first = bytes ++ take n piece;
    more = drop n piece;
    begins = at_place bytes piece n;
    ends = record {
      before = lines bytes;
      line = line;
      split = ap (λ l. lines (bytes ++ take n piece) ++ l) (long_none (open_line (bytes ++ take n piece)) gives.opens) ∙ append-nil (lines (bytes ++ take n piece)) ∙ gives.lines;
      values = so_far.values;
      are = so_far.are;
      bad = inr none;
      number = refl;
    };
  },
  so_far.good,
)

-- the next line is too long
pub long_met : (old : Count) (bytes piece : List ℕ) (n : ℕ)
    → CountStands old bytes → GivesTooLong old.cutter.limit bytes piece n
    → (k : ℕ) × Refuses (bytes ++ piece) (k + 1) × (old.good ≡ kept_number k)
long_met old bytes piece n so_far gives = (
  length so_far.values,
  record {
    first = bytes ++ take n piece;
    more = drop n piece;
    begins = at_place bytes piece n;
    ends = record {
      before = lines bytes;
      line = open_line bytes ++ take n piece;
      split = elim gives.lines [
        | inl ended ↦ ap (λ l. lines (bytes ++ take n piece) ++ l) (long_none (open_line (bytes ++ take n piece)) ended.1) ∙ append-nil (lines (bytes ++ take n piece)) ∙ ended.0
        | inr still ↦ ap (λ ls. ls ++ long_line (open_line (bytes ++ take n piece))) still.1
            ∙ ap (λ l. lines bytes ++ long_line l) still.2
            ∙ ap (λ l. lines bytes ++ l) (long_one (open_line bytes ++ take n piece) long)
      ];
      values = so_far.values;
      are = so_far.are;
      bad = inl long;
      number = refl;
    };
  },
  so_far.good,
)
  where
    long : is_too_long limit (open_line bytes ++ take n piece) ≡ true
    long = ap (λ l. is_too_long l (open_line bytes ++ take n piece)) (sym so_far.limit_is) ∙ gives.long

pub stop_met : (stop : Stop) (old new : Count) (bytes piece line : List ℕ) (n : ℕ)
    → CountStands old bytes → GivesLine old.cutter.limit bytes piece line n → (stop ≡ Bad → (v : Line) → IsLineOf v line → ⊥)
    → new.good ≡ old.good → Stops stop new (bytes ++ piece)
stop_met Bad old new bytes piece line n so_far gives none good =
    let met = bad_met old bytes piece line n so_far gives (none refl) in (met.0, met.1, good ∙ met.2)
stop_met NoMemory old new bytes piece line n so_far gives none good = tt
