-- One note further: what is kept after it, and what it causes, from what was kept before it. The code does these steps; that they are the
-- epochs of the whole list is proved from `Epochs` and `EpochsKept`.
use Rattle.std.specs.Prelude.{ℕ, Bool, ◌||◌, cond, List, [], ◌∷◌, ◌++◌, Option, None, Some, is_some, map}
use Rattle.std.specs.List.{list_any}
use Rattle.std.specs.Option.{option_or}
use Rattle.gps_fixed.specs.Moment.{Moment}
use Rattle.gps_report.specs.declared.note.Note.{Note}
use Rattle.gps_report.specs.declared.fix.Sky.{Sky}
use Rattle.gps_report.specs.declared.report.Body.{Body}
use Rattle.gps_report.specs.declared.report.Body.TheVariants.{Tpv, Sky as SkyBody}
use Rattle.epoch_core.specs.declared.days.Days.{Days}
use Rattle.epoch_core.specs.declared.heard.Heard.{Heard}
use Rattle.epoch_core.specs.declared.said.Said.{Said}
use Rattle.epoch_core.specs.Days.{Dated, carried, given_day}
use Rattle.epoch_core.specs.Quantities.{said, breaks, stamped, tod_tag, itow_tag, is_fix_kind, is_sky_kind}
use Rattle.epoch_core.specs.Fixes.{fix_of}
use Rattle.epoch_core.specs.Satellites.{same_satellite, same_used_id, used_ids_in, marked}
use Rattle.epoch_core.specs.Epochs.{is_eoe, toff_of}
use Rattle.epoch_core.specs.Kept.{Ran, EpochsKept}

unfoldable pub days_after : Days → Note → Days
days_after days note = record {
  day = option_or (given_day note) (carried note.tod days.last_tod days.day);
  last_tod = option_or note.tod days.last_tod;
}

abbrev pub retimed : Option ℕ → Option Moment → Option Moment → Option Moment
retimed None at last = last
retimed (Some tod) at last = at

unfoldable pub said_grown : Said → Note → Moment → Option Moment → Said
said_grown s note first at = record {
  first = option_or s.first (Some first);
  tod_tag = option_or (tod_tag note.tag) s.tod_tag;
  itow_tag = option_or (itow_tag note.tag) s.itow_tag;
  time = retimed note.tod at s.time;
  stamped = option_or s.stamped at;
  status = option_or note.status s.status;
  dim = option_or note.dim s.dim;
  position = option_or note.position s.position;
  alt_hae = option_or note.alt_hae s.alt_hae;
  alt_msl = option_or note.alt_msl s.alt_msl;
  geoid_sep = option_or note.geoid_sep s.geoid_sep;
  track = option_or note.track s.track;
  speed = option_or note.speed s.speed;
  climb = option_or note.climb s.climb;
  pdop = option_or note.pdop s.pdop;
  hdop = option_or note.hdop s.hdop;
  vdop = option_or note.vdop s.vdop;
  has_fix = is_fix_kind note.kind || s.has_fix;
  has_sky = is_sky_kind note.kind || s.has_sky;
}

-- one more element, unless an equal one is kept
abbrev pub added : {X : Type 0} → (X → X → Bool) → List X → X → List X
added same kept x = cond (list_any (λ y. same y x) kept) kept (kept ++ x ∷ [])

abbrev pub all_added : {X : Type 0} → (X → X → Bool) → List X → List X → List X
all_added same kept [] = kept
all_added same kept (x ∷ xs) = all_added same (added same kept x) xs

unfoldable pub nothing_ran : Ran
nothing_ran = record { said = said []; sats = []; used_ids = [] }

unfoldable pub ran_grown : Ran → Dated → Ran
ran_grown r d = record {
  said = said_grown r.said d.note d.first (stamped d);
  sats = all_added same_satellite r.sats d.note.sats;
  used_ids = all_added same_used_id r.used_ids (used_ids_in d.note);
}

unfoldable pub ran_sky : Ran → Sky
ran_sky r = record {
  time = r.said.time;
  pdop = r.said.pdop;
  hdop = r.said.hdop;
  vdop = r.said.vdop;
  sats = map (marked r.used_ids) r.sats;
}

unfoldable pub ran_closing : Ran → List Body
ran_closing r =
    cond r.said.has_fix (Tpv (fix_of r.said) ∷ []) [] ++ cond r.said.has_sky (SkyBody (ran_sky r) ∷ []) []

-- the serial time, if this note is the first of its epoch to have one
unfoldable pub toff_told : Said → Dated → List Body
toff_told s d = cond (is_some s.stamped) [] (toff_of (said_grown s d.note d.first (stamped d)))

unfoldable pub ran_told : Ran → Dated → List Body
ran_told r d = toff_told r.said d ++ cond (is_eoe d.note.kind) (ran_closing (ran_grown r d)) []

unfoldable pub ran_next : Ran → Dated → Ran
ran_next r d = cond (is_eoe d.note.kind) nothing_ran (ran_grown r d)

unfoldable pub ran_before : Ran → Dated → Ran
ran_before r d = cond (breaks d.note.tag r.said) nothing_ran r

unfoldable pub ran_caused : Ran → Dated → List Body
ran_caused r d = cond (breaks d.note.tag r.said) (ran_closing r) [] ++ ran_told (ran_before r d) d

abbrev pub days_kept : EpochsKept → Days
days_kept kept = record { day = kept.day; last_tod = kept.last_tod }

abbrev pub dated_after : EpochsKept → Heard → Dated
dated_after kept h = record { note = h.note; first = h.first; day = (days_after (days_kept kept) h.note).day }

unfoldable pub kept_after : EpochsKept → Heard → EpochsKept
kept_after kept h = record {
  ran = ran_next (ran_before kept.ran (dated_after kept h)) (dated_after kept h);
  day = (days_after (days_kept kept) h.note).day;
  last_tod = (days_after (days_kept kept) h.note).last_tod;
}

unfoldable pub kept_caused : EpochsKept → Heard → List Body
kept_caused kept h = ran_caused kept.ran (dated_after kept h)
