-- The members of each object are read exactly.
use Rattle.std.proofs.Common.{◌≡◌, ℕ, true, nat_le, List, [], ◌∷◌, ◌++◌, Option, Some, None, refl, sym, subst, append_assoc, option_map, arith, ℤ, IfSome}
use Rattle.std.specs.Fmt.{decimal}
use Rattle.std.proofs.lemmas.Bool.{and_parts, and_from}
use Rattle.std.proofs.lemmas.Bool.Decides.{nat_tests}
use Rattle.gps_fixed.specs.Iso.{IsWhole as IsWholeStamp}
use Rattle.gps_report.specs.declared.fix.Fix.{Fix}
use Rattle.gps_report.specs.declared.note.Position.{Position}
use Rattle.json_line.specs.declared.names.Class.TheVariants as class
use Rattle.json_line.specs.declared.names.Key.{Key}
use Rattle.json_line.specs.declared.names.Key.TheVariants as key
use Rattle.json_line.specs.Json.{closing, fixed, member, member_if, quoted, time}
use Rattle.json_line.specs.Lines.{position_members, tpv}
use Rattle.json_line.specs.Names.{head_of, label_of}
use Rattle.gps_client.specs.Objects.{object_at, position_at, is_mode, fix_at, tpv_at}
use Rattle.gps_client.specs.Ranges.{IsFix, IsMode, IsName, IsNamedFix, IsPlace, HasNineDigits}
use Rattle.gps_client.specs.Reading.{Reading, behind, ◌then◌, such, member_at, member_if_at, whole_at, fixed_at, time_at, name_at}
use Rattle.gps_client.specs.Texts.{named_tpv}
use Rattle.gps_client.proofs.Fixed.{fixed_value}
use Rattle.gps_client.proofs.Parts.{Begins, optional_text, row_labelled, row_optional, whole_ended, whole_labelled, whole_as}
use Rattle.gps_client.proofs.Quoted.{time_whole, name_whole}
use Rattle.gps_client.proofs.Rows.{IsPart, IsRow, IsWhole, After, AllClear, part_as, part_such, part_then, row_made, row_then, whole_part}
use Rattle.gps_client.proofs.Whole.{IsSmall, whole_value}

pub row_as : {X : Type 0} {labels : List (List ℕ)} {R S : X → Type 0} {t u : X → List ℕ} {r : Reading X} → ((x : X) → R x → S x) → ((x : X) → S x → R x) → ((x : X) → t x ≡ u x) → IsRow labels R t r → IsRow labels S u r
row_as {X} {labels} {R} {S} {t} {u} {r} to from same is = record {
  is_part = part_as to from same is.is_part;
  keeps = λ others away x rest s after. subst (λ z. After others (z ++ rest)) (same x) (is.keeps others away x rest (from x s) after);
}

pub member_row : {X : Type 0} {labels : List (List ℕ)} {R : X → Type 0} {text : X → List ℕ} {value : Reading X} (k : Key) → Begins (label_of k) → IsPart labels R text value → IsRow (label_of k ∷ labels) R (λ x. member k (text x)) (member_at k value)
unfolding member
member_row k begins is = row_labelled (label_of k) begins is

optional_is : {X : Type 0} (k : Key) (text : X → List ℕ) (o : Option X) → optional_text (label_of k) text o ≡ member_if k text o
unfolding member_if
optional_is k text None = refl
optional_is k text (Some x) = refl

pub member_if_row : {X : Type 0} {labels : List (List ℕ)} {R : X → Type 0} {text : X → List ℕ} {value : Reading X} (k : Key) → Begins (label_of k) → IsPart labels R text value
    → IsRow (label_of k ∷ labels) (λ (o : Option X). IfSome o R) (member_if k text) (member_if_at k value)
member_if_row {X} {labels} {R} {text} {value} k begins is = row_as (λ x r. r) (λ x r. r) (optional_is k text) (row_optional (label_of k) begins is)

pub object_whole : {X : Type 0} {labels : List (List ℕ)} {R : X → Type 0} {text : X → List ℕ} {row : Reading X} (head : List ℕ) → ((rest : List ℕ) → AllClear labels (closing ++ rest)) → IsPart labels R text row
    → IsWhole R (λ x. head ++ (text x ++ closing)) (object_at head row)
object_whole head clear is = whole_labelled head (whole_ended closing (λ rest. (refl, clear rest)) is)

pub time_value : IsPart [] IsWholeStamp time time_at
time_value = whole_part time_whole []

pub name_value : IsPart [] IsName quoted name_at
name_value = whole_part name_whole []

-- a fix
mode_value : IsPart [] IsMode decimal (such is_mode whole_at)
mode_value = part_as to from (λ n. refl) (part_such is_mode whole_value)
  where
    to : (n : ℕ) → IsSmall n × (is_mode n ≡ true) → IsMode n
    to n r = let tests = and_parts (nat_le 1 n) (nat_le n 3) r.1 in (grind (arith, nat_tests, tests.0), grind (arith, nat_tests, tests.1))

    from : (n : ℕ) → IsMode n → IsSmall n × (is_mode n ≡ true)
    from n r = (omega (arith, r.1), and_from (nat_le 1 n) (nat_le n 3) (grind (arith, nat_tests, r.0)) (grind (arith, nat_tests, r.1)))

-- a position, whose halves are together
abbrev place_labels : List (List ℕ)
place_labels = label_of key.Lat ∷ label_of key.Lon ∷ []

place_part : IsPart (label_of key.Lon ∷ []) (λ (p : ℤ × ℤ). HasNineDigits 9 p.0 × HasNineDigits 9 p.1) (λ (p : ℤ × ℤ). fixed 9 p.0 ++ member key.Lon (fixed 9 p.1)) (fixed_at 9 then member_at key.Lon (fixed_at 9))
unfolding label_of
place_part = part_then (fixed_value 9) (member_row key.Lon (λ t. refl) (fixed_value 9)) refl

abbrev placed : Option (ℤ × ℤ) → Option Position
placed o = option_map (λ p. record { lat = p.0; lon = p.1 }) o

abbrev halves : Option Position → Option (ℤ × ℤ)
halves o = option_map (λ p. (p.lat, p.lon)) o

position_row : IsRow place_labels (λ (o : Option Position). IfSome o IsPlace) position_members position_at
unfolding position_at position_members member label_of
position_row = row_made (record { back = halves; again = again; to = to; from = from; same = same }) (row_optional (label_of key.Lat) (λ t. refl) place_part)
  where
    Halves : Option (ℤ × ℤ) → Type 0
    Halves o = IfSome o (λ (p : ℤ × ℤ). HasNineDigits 9 p.0 × HasNineDigits 9 p.1)

    again : (o : Option Position) → IfSome o IsPlace → placed (halves o) ≡ o
    again None r = refl
    again (Some p) r = refl

    to : (o : Option (ℤ × ℤ)) → Halves o → IfSome (placed o) IsPlace
    to None r = tt
    to (Some p) r = r

    from : (o : Option Position) → IfSome o IsPlace → Halves (halves o)
    from None r = tt
    from (Some p) r = r

    same : (o : Option (ℤ × ℤ)) → Halves o → optional_text (label_of key.Lat) (λ (p : ℤ × ℤ). fixed 9 p.0 ++ member key.Lon (fixed 9 p.1)) o ≡ position_members (placed o)
    same None r = refl
    same (Some p) r = sym (append_assoc (label_of key.Lat) (fixed 9 p.0) (member key.Lon (fixed 9 p.1)))

abbrev fix_labels : List (List ℕ)
fix_labels = label_of key.Mode ∷ label_of key.Time ∷ label_of key.Lat ∷ label_of key.Lon ∷ label_of key.AltHae ∷ label_of key.AltMsl ∷ label_of key.GeoidSep ∷ label_of key.Track ∷ label_of key.Speed ∷ label_of key.Climb ∷ []

abbrev fix_text : Fix → List ℕ
fix_text fix =
    member key.Mode (decimal fix.mode) ++ (member_if key.Time time fix.time ++ (position_members fix.position ++ (member_if key.AltHae (fixed 3) fix.alt_hae
    ++ (member_if key.AltMsl (fixed 3) fix.alt_msl ++ (member_if key.GeoidSep (fixed 3) fix.geoid_sep ++ (member_if key.Track (fixed 4) fix.track
    ++ (member_if key.Speed (fixed 3) fix.speed ++ member_if key.Climb (fixed 3) fix.climb)))))))

fix_row : IsRow fix_labels IsFix fix_text fix_at
unfolding fix_at label_of
fix_row =
    row_made (record {
      back = λ fix. (fix.mode, (fix.time, (fix.position, (fix.alt_hae, (fix.alt_msl, (fix.geoid_sep, (fix.track, (fix.speed, fix.climb))))))));
      again = λ fix s. refl;
      to = λ x r. record { mode_in = r.0; time_in = r.1.0; position_in = r.1.1.0; alt_hae_in = r.1.1.1.0; alt_msl_in = r.1.1.1.1.0; geoid_sep_in = r.1.1.1.1.1.0; track_in = r.1.1.1.1.1.1.0; speed_in = r.1.1.1.1.1.1.1.0; climb_in = r.1.1.1.1.1.1.1.1 };
      from = λ fix s. (s.mode_in, (s.time_in, (s.position_in, (s.alt_hae_in, (s.alt_msl_in, (s.geoid_sep_in, (s.track_in, (s.speed_in, s.climb_in))))))));
      same = λ x r. refl;
    })
    (row_then (member_row key.Mode (λ t. refl) mode_value)
    (row_then (member_if_row key.Time (λ t. refl) time_value)
    (row_then position_row
    (row_then (member_if_row key.AltHae (λ t. refl) (fixed_value 3))
    (row_then (member_if_row key.AltMsl (λ t. refl) (fixed_value 3))
    (row_then (member_if_row key.GeoidSep (λ t. refl) (fixed_value 3))
    (row_then (member_if_row key.Track (λ t. refl) (fixed_value 4))
    (row_then (member_if_row key.Speed (λ t. refl) (fixed_value 3))
    (member_if_row key.Climb (λ t. refl) (fixed_value 3)) refl) refl) refl) refl) refl) refl) refl) refl)

clear_closing : (rest : List ℕ) → AllClear (label_of key.Device ∷ fix_labels) (closing ++ rest)
unfolding label_of behind
clear_closing rest = (refl, (refl, (refl, (refl, (refl, (refl, (refl, (refl, (refl, (refl, (refl, tt)))))))))))

tpv_text : (t : List ℕ × Fix) → head_of class.Tpv ++ ((member key.Device (quoted t.0) ++ fix_text t.1) ++ closing) ≡ named_tpv t
unfolding tpv
tpv_text t = simp append_assoc

pub tpv_whole : IsWhole IsNamedFix named_tpv tpv_at
unfolding tpv_at label_of
tpv_whole = whole_as (λ x r. r) (λ x r. r) tpv_text (object_whole (head_of class.Tpv) clear_closing (row_then (member_row key.Device (λ t. refl) name_value) fix_row refl).is_part)
