-- The stamps of a reader's pieces, step after step.
use Rattle.std.proofs.Common.{◌≡◌, ◌≤◌, ℕ, List, [], ◌∷◌, ◌++◌, length, refl, sym, ◌∙◌, ap, subst, append_assoc, append-nil, arith, Option, Some, None}
use Rattle.std.specs.List.{flat_map}
use Rattle.std.proofs.lemmas.List.{nil_from_length}
use Rattle.std.proofs.lemmas.List.Concat.{flat_map-append}
use Rattle.gps_fixed.specs.Moment.{Moment}
use Rattle.gps_lane.specs.declared.piece.Ending.{Ending}
use Rattle.gps_lane.specs.declared.piece.Piece.{Piece}
use Rattle.gps_lane.specs.declared.piece.Piece.TheVariants.{Bytes, Line, Input, Last}
use Rattle.gps_lane.specs.Carried.{stamp_part, stamps_of}
use Rattle.stamp_shares.specs.declared.view.ShareView.{ShareView}
use Rattle.serve_workers.specs.Readings.{last_piece}
use Rattle.serve_workers.specs.Stamping.{GivenOneAtMost, StampsPieces, given_on}

given_none : (share : ShareView) → share ≡ given_on ([] ++ []) share
given_none share = ap (λ l. record { whose = share.whose; stamps = l }) (sym (append-nil share.stamps))

given_twice : (first second : List Moment) (share : ShareView) → given_on second (given_on first share) ≡ given_on (first ++ second) share
given_twice first second share = ap (λ l. record { whose = share.whose; stamps = l }) (append_assoc share.stamps first second)

-- nothing was given, and nothing put
pub none_stamped : (spare : ℕ) (share : ShareView) (put : List Piece) → StampsPieces spare share share put put
none_stamped spare share put = record { used = []; late = []; few = omega arith; given = given_none share; pieces = sym (append-nil (stamps_of put)) }

-- a piece with its stamp was put
pub one_stamped : (spare : ℕ) (piece : Piece) (before after : ShareView) (put put' : List Piece) → after ≡ given_on (stamp_part piece) before
    → put' ≡ put ++ piece ∷ [] → StampsPieces spare before after put put'
one_stamped spare piece before after put put' given is = record {
  used = stamp_part piece;
  late = [];
  few = omega arith;
  given = given ∙ ap (λ l. given_on l before) (sym (append-nil (stamp_part piece)));
  pieces = ap stamps_of is ∙ flat_map-append stamp_part put (piece ∷ []) ∙ ap (λ l. stamps_of put ++ l) (append-nil (stamp_part piece));
}

-- a stamp for which no piece was put
pub late_stamped : (before after : ShareView) (put : List Piece) → GivenOneAtMost before after → StampsPieces 1 before after put put
late_stamped before after put late = record { used = []; late = late.0; few = late.1.0; given = late.1.1; pieces = sym (append-nil (stamps_of put)) }

part_few : (piece : Piece) → length (stamp_part piece) ≤ 1
part_few (Bytes at bytes) = omega arith
part_few (Line line) = omega arith
part_few (Input bytes) = omega arith
part_few (Last ending) = omega arith

-- its piece was dropped
pub dropped_stamp : (piece : Piece) (before after : ShareView) → after ≡ given_on (stamp_part piece) before → GivenOneAtMost before after
dropped_stamp piece before after given = (stamp_part piece, (part_few piece, given))

-- one step after another
pub stamped_on : (spare : ℕ) (a b c : ShareView) (put mid put' : List Piece)
    → StampsPieces 0 a b put mid → StampsPieces spare b c mid put' → StampsPieces spare a c put put'
stamped_on spare a b c put mid put' one two =
    let none : one.late ≡ [] = nil_from_length one.late (let few = one.few in omega arith) in
    let first : b ≡ given_on one.used a = one.given ∙ ap (λ l. given_on l a) (ap (λ l. one.used ++ l) none ∙ append-nil one.used) in
    record {
      used = one.used ++ two.used;
      late = two.late;
      few = two.few;
      given = two.given ∙ ap (given_on (two.used ++ two.late)) first ∙ given_twice one.used (two.used ++ two.late) a
          ∙ ap (λ l. given_on l a) (sym (append_assoc one.used two.used two.late));
      pieces = two.pieces ∙ ap (λ l. l ++ two.used) one.pieces ∙ append_assoc (stamps_of put) one.used two.used;
    }

no_stamp : (told : Option Ending) → stamps_of (last_piece told) ≡ []
no_stamp None = refl
no_stamp (Some ending) = refl

-- how the source ended has no stamp
pub stamped_last : (spare : ℕ) (told : Option Ending) (a b : ShareView) (put mid put' : List Piece) → put' ≡ mid ++ last_piece told
    → StampsPieces spare a b put mid → StampsPieces spare a b put put'
stamped_last spare told a b put mid put' is so = record {
  used = so.used;
  late = so.late;
  few = so.few;
  given = so.given;
  pieces = ap stamps_of is ∙ flat_map-append stamp_part mid (last_piece told) ∙ ap (λ l. stamps_of mid ++ l) (no_stamp told) ∙ append-nil (stamps_of mid) ∙ so.pieces;
}

-- only how the source ended was put
pub same_stamps : (told : Option Ending) (put put' : List Piece) → put' ≡ put ++ last_piece told → stamps_of put' ≡ stamps_of put
same_stamps told put put' is =
    ap stamps_of is ∙ flat_map-append stamp_part put (last_piece told) ∙ ap (λ l. stamps_of put ++ l) (no_stamp told) ∙ append-nil (stamps_of put)

-- of a reader that read nothing
pub unstamped : (spare : ℕ) (share : ShareView) (put put' : List Piece) → stamps_of put' ≡ stamps_of put → StampsPieces spare share share put put'
unstamped spare share put put' same =
    record { used = []; late = []; few = omega arith; given = given_none share; pieces = same ∙ sym (append-nil (stamps_of put)) }
