-- Fixes and skies go by the notes and not by their stamps: with one stamp for all notes they are the same.
use Rattle.std.proofs.Common.{◌≡◌, Bool, true, false, ◌||◌, cond, List, [], ◌∷◌, ◌++◌, Option, Some, None, map, reverse, refl, sym, ap, ◌∙◌}
use Rattle.std.specs.List.{list_any}
use Rattle.std.specs.Option.{option_or}
use Rattle.std.proofs.lemmas.List.{reverse-append}
use Rattle.gps_fixed.specs.Moment.{Moment}
use Rattle.gps_report.specs.declared.note.Tag.{Tag}
use Rattle.gps_report.specs.declared.note.Tag.TheVariants.{Tod, Itow}
use Rattle.epoch_core.specs.declared.heard.Heard.{Heard}
use Rattle.epoch_core.specs.declared.said.Said.{Said}
use Rattle.epoch_core.specs.Past.{earliest, latest}
use Rattle.epoch_core.specs.Days.{Dated, carried, dated, day_known, given_day, last_tod}
use Rattle.epoch_core.specs.Quantities.{breaks, is_fix_kind, is_sky_kind, itow_tag, said, stamped, timed, tod_tag}
use Rattle.epoch_core.specs.Fixes.{fix_of, has_no_fix, mode_of}
use Rattle.epoch_core.specs.Satellites.{all_sats, all_used_ids, satellites, used_ids_in}
use Rattle.epoch_core.specs.Epochs.{begins, closed, closing, closings, epochs, epochs_of, has_ended, joined, left, running, sky_of}

-- a note with another stamp
abbrev pub heard_at : Moment → Heard → Heard
heard_at at h = record h { first = at }

abbrev pub dated_at : Moment → Dated → Dated
dated_at at d = record d { first = at }

module _ (at : Moment) where
  latest_at : {X Y : Type 0} (g : X → X) (f : X → Option Y) (past : List X) → latest f (map g past) ≡ latest (λ x. f (g x)) past
  latest_at g f [] = refl
  latest_at g f (x ∷ past) = ap (option_or (f (g x))) (latest_at g f past)

  earliest_at : {X Y : Type 0} (g : X → X) (f : X → Option Y) (past : List X) → earliest f (map g past) ≡ earliest (λ x. f (g x)) past
  earliest_at g f [] = refl
  earliest_at g f (x ∷ past) = ap (λ o. option_or o (f (g x))) (earliest_at g f past)

  any_at : {X : Type 0} (g : X → X) (f : X → Bool) (past : List X) → list_any f (map g past) ≡ list_any (λ x. f (g x)) past
  any_at g f [] = refl
  any_at g f (x ∷ past) = ap (λ b. f (g x) || b) (any_at g f past)

  day_at : (past : List Heard) → day_known (map (heard_at at) past) ≡ day_known past
  unfolding day_known
  day_at [] = refl
  day_at (h ∷ past) =
      ap (λ t. option_or (given_day h.note) (carried h.note.tod t (day_known (map (heard_at at) past)))) (latest_at (heard_at at) (λ x. x.note.tod) past)
      ∙ ap (λ d. option_or (given_day h.note) (carried h.note.tod (last_tod past) d)) (day_at past)

  dated_same : (past : List Heard) → dated (map (heard_at at) past) ≡ map (dated_at at) (dated past)
  unfolding dated
  dated_same [] = refl
  dated_same (h ∷ past) =
      ap (λ d. record { note = h.note; first = at; day = d } ∷ dated (map (heard_at at) past)) (day_at (h ∷ past))
      ∙ ap (λ t. record { note = h.note; first = at; day = day_known (h ∷ past) } ∷ t) (dated_same past)

  -- the quantities but the stamp
  said_at : (epoch : List Dated) → said (map (dated_at at) epoch) ≡ record (said epoch) { first = earliest (λ d. Some d.first) (map (dated_at at) epoch) }
  unfolding said
  said_at epoch = rw (
    latest_at (dated_at at) (λ d. tod_tag d.note.tag) epoch,
    latest_at (dated_at at) (λ d. itow_tag d.note.tag) epoch,
    latest_at (dated_at at) timed epoch,
    earliest_at (dated_at at) stamped epoch,
    latest_at (dated_at at) (λ d. d.note.status) epoch,
    latest_at (dated_at at) (λ d. d.note.dim) epoch,
    latest_at (dated_at at) (λ d. d.note.position) epoch,
    latest_at (dated_at at) (λ d. d.note.alt_hae) epoch,
    latest_at (dated_at at) (λ d. d.note.alt_msl) epoch,
    latest_at (dated_at at) (λ d. d.note.geoid_sep) epoch,
    latest_at (dated_at at) (λ d. d.note.track) epoch,
    latest_at (dated_at at) (λ d. d.note.speed) epoch,
    latest_at (dated_at at) (λ d. d.note.climb) epoch,
    latest_at (dated_at at) (λ d. d.note.pdop) epoch,
    latest_at (dated_at at) (λ d. d.note.hdop) epoch,
    latest_at (dated_at at) (λ d. d.note.vdop) epoch,
    any_at (dated_at at) (λ d. is_fix_kind d.note.kind) epoch,
    any_at (dated_at at) (λ d. is_sky_kind d.note.kind) epoch,
  ) refl

  breaks_same : (tag : Option Tag) (s : Said) (first : Option Moment) → breaks tag (record s { first = first }) ≡ breaks tag s
  unfolding breaks
  breaks_same None s first = refl
  breaks_same (Some (Tod tod)) s first = refl
  breaks_same (Some (Itow itow)) s first = refl

  ended_same : (epoch : List Dated) → has_ended (map (dated_at at) epoch) ≡ has_ended epoch
  ended_same [] = refl
  ended_same (d ∷ epoch) = refl

  begins_same : (d : Dated) (epoch : List Dated) → begins (dated_at at d) (map (dated_at at) epoch) ≡ begins d epoch
  begins_same d epoch =
      ap (λ b. b || breaks d.note.tag (said (map (dated_at at) epoch))) (ended_same epoch)
      ∙ ap (λ s. has_ended epoch || breaks d.note.tag s) (said_at epoch)
      ∙ ap (λ b. has_ended epoch || b) (breaks_same d.note.tag (said epoch) (earliest (λ d. Some d.first) (map (dated_at at) epoch)))

  abbrev all_at : List (List Dated) → List (List Dated)
  all_at es = map (map (dated_at at)) es

  choose_at : (b : Bool) (d : Dated) (epoch : List Dated) (earlier : List (List Dated))
      → cond b ((dated_at at d ∷ []) ∷ map (dated_at at) epoch ∷ all_at earlier) ((dated_at at d ∷ map (dated_at at) epoch) ∷ all_at earlier)
      ≡ all_at (cond b ((d ∷ []) ∷ epoch ∷ earlier) ((d ∷ epoch) ∷ earlier))
  choose_at true d epoch earlier = refl
  choose_at false d epoch earlier = refl

  joined_same : (d : Dated) (es : List (List Dated)) → joined (dated_at at d) (all_at es) ≡ all_at (joined d es)
  joined_same d [] = refl
  joined_same d (epoch ∷ earlier) =
      ap (λ b. cond b ((dated_at at d ∷ []) ∷ map (dated_at at) epoch ∷ all_at earlier) ((dated_at at d ∷ map (dated_at at) epoch) ∷ all_at earlier)) (begins_same d epoch)
      ∙ choose_at (begins d epoch) d epoch earlier

  epochs_same : (past : List Dated) → epochs (map (dated_at at) past) ≡ all_at (epochs past)
  unfolding epochs
  epochs_same [] = refl
  epochs_same (d ∷ past) = ap (joined (dated_at at d)) (epochs_same past) ∙ joined_same d (epochs past)

  reversed : (notes : List Heard) → reverse (map (heard_at at) notes) ≡ map (heard_at at) (reverse notes)
  reversed notes = turned notes
    where
      pushed : (xs : List Heard) (x : Heard) → map (heard_at at) (xs ++ x ∷ []) ≡ map (heard_at at) xs ++ heard_at at x ∷ []
      pushed [] x = refl
      pushed (y ∷ xs) x = ap (λ t. heard_at at y ∷ t) (pushed xs x)

      turned : (notes : List Heard) → reverse (map (heard_at at) notes) ≡ map (heard_at at) (reverse notes)
      turned [] = refl
      turned (h ∷ notes) =
          reverse-append (heard_at at h ∷ []) (map (heard_at at) notes) ∙ ap (λ t. t ++ heard_at at h ∷ []) (turned notes)
          ∙ sym (pushed (reverse notes) h) ∙ ap (map (heard_at at)) (sym (reverse-append (h ∷ []) notes))

  epochs_of_same : (notes : List Heard) → epochs_of (map (heard_at at) notes) ≡ all_at (epochs_of notes)
  epochs_of_same notes =
      ap (λ p. epochs (dated p)) (reversed notes) ∙ ap epochs (dated_same (reverse notes)) ∙ epochs_same (dated (reverse notes))

  -- what a closed epoch gives
  fix_same : (s : Said) (first : Option Moment) → fix_of (record s { first = first }) ≡ fix_of s
  unfolding fix_of mode_of has_no_fix
  fix_same s first = refl

  sats_at : (epoch : List Dated) → all_sats (map (dated_at at) epoch) ≡ all_sats epoch
  sats_at [] = refl
  sats_at (d ∷ epoch) = ap (λ t. t ++ d.note.sats) (sats_at epoch)

  seen_at : (epoch : List Dated) → all_used_ids (map (dated_at at) epoch) ≡ all_used_ids epoch
  seen_at [] = refl
  seen_at (d ∷ epoch) = ap (λ t. t ++ used_ids_in d.note) (seen_at epoch)

  satellites_same : (epoch : List Dated) → satellites (map (dated_at at) epoch) ≡ satellites epoch
  unfolding satellites
  satellites_same epoch = rw (sats_at epoch, seen_at epoch) refl

  closing_same : (epoch : List Dated) → closing (map (dated_at at) epoch) ≡ closing epoch
  unfolding closing sky_of
  closing_same epoch =
      rw (said_at epoch, satellites_same epoch, fix_same (said epoch) (earliest (λ d. Some d.first) (map (dated_at at) epoch))) refl

  closings_same : (es : List (List Dated)) → closings (all_at es) ≡ closings es
  closings_same [] = refl
  closings_same (epoch ∷ earlier) =
      ap (λ t. t ++ closing (map (dated_at at) epoch)) (closings_same earlier) ∙ ap (λ t. closings earlier ++ t) (closing_same epoch)

  closed_same : (es : List (List Dated)) → closed (all_at es) ≡ all_at (closed es)
  closed_same [] = refl
  closed_same (epoch ∷ earlier) =
      ap (λ b. cond b (map (dated_at at) epoch ∷ all_at earlier) (all_at earlier)) (ended_same epoch) ∙ choose (has_ended epoch)
    where
      choose : (b : Bool) → cond b (map (dated_at at) epoch ∷ all_at earlier) (all_at earlier) ≡ all_at (cond b (epoch ∷ earlier) earlier)
      choose true = refl
      choose false = refl

  running_same : (es : List (List Dated)) → running (all_at es) ≡ map (dated_at at) (running es)
  running_same [] = refl
  running_same (epoch ∷ earlier) = ap (λ b. cond b [] (map (dated_at at) epoch)) (ended_same epoch) ∙ choose (has_ended epoch)
    where
      choose : (b : Bool) → cond b [] (map (dated_at at) epoch) ≡ map (dated_at at) (cond b [] epoch)
      choose true = refl
      choose false = refl

  pub closings_at : (notes : List Heard) → closings (closed (epochs_of (map (heard_at at) notes))) ≡ closings (closed (epochs_of notes))
  closings_at notes =
      ap (λ es. closings (closed es)) (epochs_of_same notes) ∙ ap closings (closed_same (epochs_of notes)) ∙ closings_same (closed (epochs_of notes))

  pub left_at : (notes : List Heard) → left (map (heard_at at) notes) ≡ left notes
  unfolding left
  left_at notes =
      ap (λ es. closing (running es)) (epochs_of_same notes) ∙ ap closing (running_same (epochs_of notes)) ∙ closing_same (running (epochs_of notes))
