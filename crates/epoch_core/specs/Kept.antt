-- What an Epochs keeps, and which lists of notes it stands for: those of which it keeps what later reports need.
use Rattle.std.specs.Prelude.{ℕ, List, reverse, Option, ◌≡◌}
use Rattle.gps_report.specs.declared.satellite.Satellite.{Satellite}
use Rattle.epoch_core.specs.declared.heard.Heard.{Heard}
use Rattle.epoch_core.specs.declared.said.Said.{Said}
use Rattle.epoch_core.specs.declared.used_id.UsedId.{UsedId}
use Rattle.epoch_core.specs.Days.{Dated, dated, day_known, last_tod}
use Rattle.epoch_core.specs.Quantities.{said}
use Rattle.epoch_core.specs.Satellites.{firsts, same_satellite, same_used_id, all_sats, all_used_ids}
use Rattle.epoch_core.specs.Epochs.{epochs, running}

-- of the running epoch: its quantities, and its satellites and used ids, each once
pub record Ran : Type 0 where
  pub said : Said
  pub sats : List Satellite
  pub used_ids : List UsedId

pub record EpochsKept : Type 0 where
  pub ran : Ran
  pub day : Option ℕ
  pub last_tod : Option ℕ

-- what is kept now, and what was kept at the checkpoint, if there is one
pub record EpochsView : Type 0 where
  pub now : EpochsKept
  pub back : Option EpochsKept

unfoldable pub ran_of : List Dated → Ran
ran_of epoch = record {
  said = said epoch;
  sats = firsts same_satellite (all_sats epoch);
  used_ids = firsts same_used_id (all_used_ids epoch);
}

unfoldable pub kept_of : List Heard → EpochsKept
kept_of past = record { ran = ran_of (running (epochs (dated past))); day = day_known past; last_tod = last_tod past }

abbrev pub StandsFor : EpochsKept → List Heard → Type 0
StandsFor kept notes = kept ≡ kept_of (reverse notes)
