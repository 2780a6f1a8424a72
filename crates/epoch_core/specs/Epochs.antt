-- The epochs of a device's notes, and the reports that they give. A note begins an epoch if it is the first, if the note before it
-- ends one (UBX-NAV-EOE), or if its tag is another than the last of its variant in the running epoch.
use Rattle.std.specs.Prelude.{ℤ, pos, negsuc, nat_le, Bool, true, false, ◌||◌, cond, List, [], ◌∷◌, ◌++◌, reverse, option_map, option_to_list, unwrap_or, ◌≡◌}
use Rattle.gps_report.specs.declared.note.NoteKind.{NoteKind}
use Rattle.gps_report.specs.declared.note.NoteKind.TheVariants.{Eoe}
use Rattle.gps_report.specs.declared.fix.Sky.{Sky}
use Rattle.gps_report.specs.declared.report.Body.{Body}
use Rattle.gps_report.specs.declared.report.Body.TheVariants.{Packet, Tpv, Sky as SkyBody, Toff, Pps, Device}
use Rattle.epoch_core.specs.declared.heard.Heard.{Heard}
use Rattle.epoch_core.specs.declared.said.Said.{Said}
use Rattle.epoch_core.specs.Days.{Dated, dated}
use Rattle.epoch_core.specs.Quantities.{said, breaks}
use Rattle.epoch_core.specs.Fixes.{fix_of}
use Rattle.epoch_core.specs.Satellites.{satellites}

abbrev pub is_eoe : NoteKind → Bool
is_eoe Eoe = true
is_eoe _ = false

-- the epoch's last note is NAV-EOE
abbrev pub has_ended : List Dated → Bool
has_ended [] = false
has_ended (d ∷ epoch) = is_eoe d.note.kind

-- a note that follows the notes of this epoch begins another
abbrev pub begins : Dated → List Dated → Bool
begins d epoch = has_ended epoch || breaks d.note.tag (said epoch)

abbrev pub joined : Dated → List (List Dated) → List (List Dated)
joined d [] = (d ∷ []) ∷ []
joined d (epoch ∷ earlier) = cond (begins d epoch) ((d ∷ []) ∷ epoch ∷ earlier) ((d ∷ epoch) ∷ earlier)

-- the latest epoch first, and in each the latest note first
unfoldable pub epochs : List Dated → List (List Dated)
epochs [] = []
epochs (d ∷ past) = joined d (epochs past)

unfoldable pub sky_of : List Dated → Sky
sky_of epoch = record {
  time = (said epoch).time;
  pdop = (said epoch).pdop;
  hdop = (said epoch).hdop;
  vdop = (said epoch).vdop;
  sats = satellites epoch;
}

-- what a closed epoch gives
unfoldable pub closing : List Dated → List Body
closing epoch =
    cond (said epoch).has_fix (Tpv (fix_of (said epoch)) ∷ []) []
    ++ cond (said epoch).has_sky (SkyBody (sky_of epoch) ∷ []) []

-- the serial time of an epoch, from the first note that has a time of day at which the day is known; its host stamp is the epoch's first
abbrev pub toff_of : Said → List Body
toff_of s = option_to_list (option_map (λ at. Toff (record { reference = at; host = unwrap_or s.first at })) s.stamped)

abbrev pub toffs : List Dated → List Body
toffs epoch = toff_of (said epoch)

abbrev pub all_closed : List (List Dated) → List Body
all_closed [] = []
all_closed (epoch ∷ earlier) = all_closed earlier ++ toffs epoch ++ closing epoch

-- an epoch is closed if another follows it, or if it has ended
abbrev pub all_told : List (List Dated) → List Body
all_told [] = []
all_told (epoch ∷ earlier) = all_closed earlier ++ toffs epoch ++ cond (has_ended epoch) (closing epoch) []

-- the notes of the epoch that is not closed
abbrev pub running : List (List Dated) → List Dated
running [] = []
running (epoch ∷ earlier) = cond (has_ended epoch) [] epoch

abbrev pub epochs_of : List Heard → List (List Dated)
epochs_of notes = epochs (dated (reverse notes))

-- the reports of a list of notes, as they came
unfoldable pub reports : List Heard → List Body
reports notes = all_told (epochs_of notes)

-- the reports of the epoch that is not closed at the list's end
unfoldable pub left : List Heard → List Body
left notes = closing (running (epochs_of notes))

-- what the reports gain by one more note
abbrev pub Gains : List Heard → Heard → List Body → Type 0
Gains notes heard out = reports (notes ++ heard ∷ []) ≡ reports notes ++ out

abbrev pub is_before_the_last : ℤ → Bool
is_before_the_last (pos sec) = nat_le sec 9_999_999_998
is_before_the_last (negsuc _) = true

-- the whole second after a serial time is a stamp as well
abbrev pub leaves_a_second : Body → Bool
leaves_a_second (Packet packet) = true
leaves_a_second (Tpv fix) = true
leaves_a_second (SkyBody sky) = true
leaves_a_second (Toff pair) = is_before_the_last pair.reference.sec
leaves_a_second (Pps pair) = true
leaves_a_second (Device first) = true

-- a report that is no serial time
abbrev pub is_no_toff : Body → Bool
is_no_toff (Toff pair) = false
is_no_toff _ = true

-- the epochs that are closed: another follows each, or the last has ended
abbrev pub closed : List (List Dated) → List (List Dated)
closed [] = []
closed (epoch ∷ earlier) = cond (has_ended epoch) (epoch ∷ earlier) earlier

-- what the closed epochs give, the earliest first
abbrev pub closings : List (List Dated) → List Body
closings [] = []
closings (epoch ∷ earlier) = closings earlier ++ closing epoch

-- the notes of epochs, one epoch after another
abbrev pub all_notes : List (List Dated) → List Dated
all_notes [] = []
all_notes (epoch ∷ earlier) = epoch ++ all_notes earlier
