-- Satellites and skies are read exactly.
use Rattle.std.proofs.Common.{◌≡◌, ℕ, ◌≤◌, Bool, true, List, [], ◌∷◌, ◌++◌, Option, Some, None, refl, sym, ap, ◌∙◌, subst, append_assoc, arith, length, codes, IfSome}
use Rattle.std.specs.Prelude.{◌==◌, count_by}
use Rattle.std.specs.Fmt.{decimal}
use Rattle.std.specs.List.{AllByRecursion}
use Rattle.std.proofs.lemmas.Bool.{and_parts, and_from, eqb-true, eq-eqb}
use Rattle.std.proofs.lemmas.List.Sums.{count_by-le-length}
use Rattle.gps_fixed.specs.Iso.{IsWhole as IsWholeStamp}
use Rattle.gps_fixed.specs.Moment.{Moment}
use Rattle.gps_report.specs.declared.satellite.Satellite.{Satellite}
use Rattle.gps_report.specs.declared.fix.Sky.{Sky}
use Rattle.json_line.specs.declared.names.Class.TheVariants as class
use Rattle.json_line.specs.declared.names.Key.TheVariants as key
use Rattle.json_line.specs.Json.{array, closing, hundredths, member, member_if, quoted, signed, time, truth}
use Rattle.json_line.specs.Lines.{gnss_members, satellite, sky}
use Rattle.json_line.specs.Names.{head_of, label_of, satellite_head}
use Rattle.gps_client.specs.declared.sky.Counted.{Counted}
use Rattle.gps_client.specs.Objects.{gnss_at, satellite_row, satellite_at, is_counted, counted_at, sky_row, sky_at}
use Rattle.gps_client.specs.Ranges.{IsNamedSky, IsSatellite, IsSky, IsU8, IsU16, IsU32}
use Rattle.gps_client.specs.Reading.{Reading, behind, such, up_to}
use Rattle.gps_client.specs.Texts.{named_sky}
use Rattle.gps_client.proofs.Fixed.{hundredths_value}
use Rattle.gps_client.proofs.Parts.{optional_text, row_optional, whole_as, whole_list}
use Rattle.gps_client.proofs.Quoted.{truth_whole}
use Rattle.gps_client.proofs.Rowed.{member_row, member_if_row, object_whole, row_as, time_value, name_value}
use Rattle.gps_client.proofs.Rows.{IsPart, IsRow, IsWhole, AllClear, part_as, part_such, part_made, part_then, row_made, row_then, whole_part}
use Rattle.gps_client.proofs.Whole.{IsSmall, whole_value, up_to_value, signed_value}

pub u8_value : IsPart [] IsU8 decimal (up_to 255)
u8_value = part_as (λ n r. omega (arith, r)) (λ n r. omega (arith, r)) (λ n. refl) (up_to_value 255 (omega arith))

u16_value : IsPart [] IsU16 decimal (up_to 65_535)
u16_value = part_as (λ n r. omega (arith, r)) (λ n r. omega (arith, r)) (λ n. refl) (up_to_value 65_535 (omega arith))

u32_value : IsPart [] IsU32 decimal (up_to 4_294_967_295)
u32_value = part_as (λ n r. omega (arith, r)) (λ n r. omega (arith, r)) (λ n. refl) (up_to_value 4_294_967_295 (omega arith))

-- the system of a satellite and its id there
abbrev IsGnss : ℕ × ℕ → Type 0
IsGnss g = IsU8 g.0 × IsU16 g.1

gnss_row : IsRow (label_of key.Gnssid ∷ label_of key.Svid ∷ []) (λ (o : Option (ℕ × ℕ)). IfSome o IsGnss) gnss_members gnss_at
unfolding gnss_at gnss_members member label_of
gnss_row = row_as (λ x r. r) (λ x r. r) same (row_optional (label_of key.Gnssid) (λ t. refl) (part_then u8_value (member_row key.Svid (λ t. refl) u16_value) refl))
  where
    same : (o : Option (ℕ × ℕ)) → optional_text (label_of key.Gnssid) (λ (g : ℕ × ℕ). decimal g.0 ++ member key.Svid (decimal g.1)) o ≡ gnss_members o
    same None = refl
    same (Some g) = sym (append_assoc (label_of key.Gnssid) (decimal g.0) (member key.Svid (decimal g.1)))

abbrev satellite_labels : List (List ℕ)
satellite_labels = label_of key.El ∷ label_of key.Az ∷ label_of key.Ss ∷ label_of key.Used ∷ label_of key.Gnssid ∷ label_of key.Svid ∷ label_of key.Sigid ∷ []

abbrev satellite_text : Satellite → List ℕ
satellite_text s =
    decimal s.prn ++ (member_if key.El signed s.el ++ (member_if key.Az decimal s.az ++ (member_if key.Ss decimal s.ss
    ++ (member key.Used (truth s.used) ++ (gnss_members s.gnss ++ member_if key.Sigid decimal s.signal)))))

satellite_part : IsPart satellite_labels IsSatellite satellite_text satellite_row
unfolding satellite_row label_of
satellite_part =
    part_made (record {
      back = λ s. (s.prn, (s.el, (s.az, (s.ss, (s.used, (s.gnss, s.signal))))));
      again = λ s r. refl;
      to = λ x r. record { prn_in = r.0; el_in = r.1.0; az_in = r.1.1.0; ss_in = r.1.1.1.0; gnss_in = r.1.1.1.1.1.0; signal_in = r.1.1.1.1.1.1 };
      from = λ s r. (r.prn_in, (r.el_in, (r.az_in, (r.ss_in, (tt, (r.gnss_in, r.signal_in))))));
      same = λ x r. refl;
    })
    (part_then u32_value
    (row_then (member_if_row key.El (λ t. refl) signed_value)
    (row_then (member_if_row key.Az (λ t. refl) u32_value)
    (row_then (member_if_row key.Ss (λ t. refl) u32_value)
    (row_then (member_row key.Used (λ t. refl) (whole_part truth_whole []))
    (row_then gnss_row
    (member_if_row key.Sigid (λ t. refl) u8_value) refl) refl) refl) refl) refl) refl)

satellite_closes : (rest : List ℕ) → AllClear satellite_labels (closing ++ rest)
unfolding label_of behind
satellite_closes rest = (refl, (refl, (refl, (refl, (refl, (refl, (refl, tt)))))))

satellite_is : (s : Satellite) → satellite_head ++ (satellite_text s ++ closing) ≡ satellite s
unfolding satellite
satellite_is s = simp append_assoc

satellite_whole : IsWhole IsSatellite satellite satellite_at
unfolding satellite_at
satellite_whole = whole_as (λ x r. r) (λ x r. r) satellite_is (object_whole satellite_head satellite_closes satellite_part)

satellite_begins : (s : Satellite) (rest : List ℕ) → IsSatellite s → behind (codes "]") (satellite s ++ rest) ≡ None
unfolding satellite satellite_head behind
satellite_begins s rest r = refl

-- a sky with its counts
abbrev Row : Type 0
Row = Option Moment × (Option ℕ × (Option ℕ × (Option ℕ × (ℕ × (ℕ × List Satellite)))))

abbrev row_of : Counted → Row
row_of c = (c.sky.time, (c.sky.pdop, (c.sky.hdop, (c.sky.vdop, (c.all, (c.used, c.sky.sats))))))

abbrev IsRowIn : Row → Type 0
IsRowIn r = IfSome r.0 IsWholeStamp × (IfSome r.1.0 IsU32 × (IfSome r.1.1.0 IsU32 × (IfSome r.1.1.1.0 IsU32 × (IsSmall r.1.1.1.1.0 × (IsSmall r.1.1.1.1.1.0 × AllByRecursion IsSatellite r.1.1.1.1.1.1)))))

abbrev row_text : Row → List ℕ
row_text r =
    member_if key.Time time r.0 ++ (member_if key.Pdop hundredths r.1.0 ++ (member_if key.Hdop hundredths r.1.1.0 ++ (member_if key.Vdop hundredths r.1.1.1.0
    ++ (member key.NSat (decimal r.1.1.1.1.0) ++ (member key.USat (decimal r.1.1.1.1.1.0) ++ member key.Satellites (array satellite r.1.1.1.1.1.1))))))

abbrev sky_labels : List (List ℕ)
sky_labels = label_of key.Time ∷ label_of key.Pdop ∷ label_of key.Hdop ∷ label_of key.Vdop ∷ label_of key.NSat ∷ label_of key.USat ∷ label_of key.Satellites ∷ []

counted_row : IsRow sky_labels (λ c. IsRowIn (row_of c)) (λ c. row_text (row_of c)) counted_at
unfolding counted_at label_of
counted_row =
    row_made (record { back = row_of; again = λ c r. refl; to = λ x r. r; from = λ c r. r; same = λ x r. refl })
    (row_then (member_if_row key.Time (λ t. refl) time_value)
    (row_then (member_if_row key.Pdop (λ t. refl) hundredths_value)
    (row_then (member_if_row key.Hdop (λ t. refl) hundredths_value)
    (row_then (member_if_row key.Vdop (λ t. refl) hundredths_value)
    (row_then (member_row key.NSat (λ t. refl) whole_value)
    (row_then (member_row key.USat (λ t. refl) whole_value)
    (member_row key.Satellites (λ t. refl) (whole_part (whole_list IsSatellite satellite satellite_at satellite_whole satellite_begins) [])) refl) refl) refl) refl) refl) refl)

row_such : {X : Type 0} {labels : List (List ℕ)} {R : X → Type 0} {t : X → List ℕ} {r : Reading X} (test : X → Bool) → IsRow labels R t r → IsRow labels (λ x. R x × (test x ≡ true)) t (such test r)
row_such test is = record { is_part = part_such test is.is_part; keeps = λ others away x rest r after. is.keeps others away x rest r.0 after }

abbrev used_in : List Satellite → ℕ
used_in sats = count_by (λ s. s.used) sats

abbrev counted : Sky → Counted
counted s = record { sky = s; all = length s.sats; used = used_in s.sats }

abbrev sky_text : Sky → List ℕ
sky_text s = row_text (row_of (counted s))

few_used : (sats : List Satellite) → used_in sats ≤ length sats
few_used sats = count_by-le-length (λ s. s.used) sats

sky_members : IsRow sky_labels IsSky sky_text sky_row
unfolding sky_row
sky_members = row_made (record { back = counted; again = λ s r. refl; to = to; from = from; same = same }) (row_such is_counted counted_row)
  where
    Range : Counted → Type 0
    Range c = IsRowIn (row_of c) × (is_counted c ≡ true)

    counts : (c : Counted) → is_counted c ≡ true → (c.all ≡ length c.sky.sats) × (c.used ≡ used_in c.sky.sats)
    counts c e = let tests = and_parts (c.all == length c.sky.sats) (c.used == used_in c.sky.sats) e in (eqb-true _ _ tests.0, eqb-true _ _ tests.1)

    to : (c : Counted) → Range c → IsSky c.sky
    to c r = record { time_in = r.0.0; pdop_in = r.0.1.0; hdop_in = r.0.1.1.0; vdop_in = r.0.1.1.1.0; sats_in = r.0.1.1.1.1.1.1; sats_short = subst IsSmall (counts c r.1).0 r.0.1.1.1.1.0 }

    from : (s : Sky) → IsSky s → Range (counted s)
    from s r = (
      (r.time_in, (r.pdop_in, (r.hdop_in, (r.vdop_in, (r.sats_short, (omega (arith, few_used s.sats, r.sats_short), r.sats_in)))))),
      and_from (length s.sats == length s.sats) (used_in s.sats == used_in s.sats) (eq-eqb _ _ refl) (eq-eqb _ _ refl),
    )

    same : (c : Counted) → Range c → row_text (row_of c) ≡ sky_text c.sky
    same c r = let n = counts c r.1 in ap (λ m. row_text (row_of (record { sky = c.sky; all = m; used = c.used }))) n.0 ∙ ap (λ m. row_text (row_of (record { sky = c.sky; all = length c.sky.sats; used = m }))) n.1

sky_closes : (rest : List ℕ) → AllClear (label_of key.Device ∷ sky_labels) (closing ++ rest)
unfolding label_of behind
sky_closes rest = (refl, (refl, (refl, (refl, (refl, (refl, (refl, (refl, tt))))))))

sky_is : (s : List ℕ × Sky) → head_of class.Sky ++ ((member key.Device (quoted s.0) ++ sky_text s.1) ++ closing) ≡ named_sky s
unfolding sky
sky_is s = simp append_assoc

pub sky_whole : IsWhole IsNamedSky named_sky sky_at
unfolding sky_at label_of
sky_whole = whole_as (λ x r. r) (λ x r. r) sky_is (object_whole (head_of class.Sky) sky_closes (row_then (member_row key.Device (λ t. refl) name_value) sky_members refl).is_part)

pub sky_begins : (s : List ℕ × Sky) (rest : List ℕ) → IsNamedSky s → behind (codes "]") (named_sky s ++ rest) ≡ None
unfolding sky head_of behind
sky_begins s rest r = refl
