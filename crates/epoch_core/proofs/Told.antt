-- One note further, on lists: what is kept after it, and what it causes, are those of the longer list.
use Rattle.std.proofs.Common.{◌≡◌, ℕ, Bool, true, false, cond, ◌||◌, List, [], ◌∷◌, ◌++◌, reverse, Option, Some, None, is_some, option_map, option_to_list, unwrap_or, refl, sym, ap, ◌∙◌}
use Rattle.std.specs.Option.{option_or, option_flatten}
use Rattle.std.proofs.lemmas.List.{append_assoc, append-nil, reverse-append}
use Rattle.gps_fixed.specs.Moment.{Moment}
use Rattle.gps_report.specs.declared.note.Tag.{Tag}
use Rattle.gps_report.specs.declared.note.Tag.TheVariants.{Tod, Itow}
use Rattle.gps_report.specs.declared.report.Body.{Body}
use Rattle.gps_report.specs.declared.report.Body.TheVariants.{Tpv, Sky as SkyBody, Toff}
use Rattle.epoch_core.specs.declared.heard.Heard.{Heard}
use Rattle.epoch_core.specs.declared.said.Said.{Said}
use Rattle.epoch_core.specs.Days.{Dated, dated, day_known, last_tod}
use Rattle.epoch_core.specs.Quantities.{said, breaks, stamped, timed}
use Rattle.epoch_core.specs.Fixes.{fix_of}
use Rattle.epoch_core.specs.Past.{latest, earliest}
use Rattle.epoch_core.specs.Satellites.{firsts, same_satellite, same_used_id, all_sats, all_used_ids, used_ids_in, satellites}
use Rattle.epoch_core.specs.Epochs.{is_eoe, has_ended, joined, epochs, sky_of, closing, toff_of, toffs, all_closed, all_told, running, reports, left, Gains}
use Rattle.epoch_core.specs.Kept.{Ran, EpochsKept, ran_of, kept_of, StandsFor}
use Rattle.epoch_core.specs.Steps.{days_after, retimed, said_grown, all_added, nothing_ran, ran_grown, ran_sky, ran_closing, toff_told, ran_told, ran_next, ran_before, ran_caused, dated_after, kept_after, kept_caused}
use Rattle.epoch_core.proofs.Firsts.{firsts_all, satellite_equiv, used_ids_equiv, all_marked_alike}

-- ---- the running epoch grows

retime : (tod : Option ℕ) (at : Option Moment) (rest : Option (Option Moment)) → option_flatten (option_or (option_map (λ t. at) tod) rest) ≡ retimed tod at (option_flatten rest)
retime None at rest = refl
retime (Some t) at rest = refl

said_more : (d : Dated) (epoch : List Dated) → said (d ∷ epoch) ≡ said_grown (said epoch) d.note d.first (stamped d)
unfolding said said_grown
said_more d epoch =
    let s : Said = said_grown (said epoch) d.note d.first (stamped d) in
    ap (λ t. record s { time = t }) (retime d.note.tod (stamped d) (latest timed epoch))

ran_more : (d : Dated) (epoch : List Dated) → ran_of (d ∷ epoch) ≡ ran_grown (ran_of epoch) d
unfolding ran_of ran_grown
ran_more d epoch =
    ap (λ v. record { said = v; sats = firsts same_satellite (all_sats (d ∷ epoch)); used_ids = firsts same_used_id (all_used_ids (d ∷ epoch)) }) (said_more d epoch)
    ∙ ap (λ v. record { said = said_grown (said epoch) d.note d.first (stamped d); sats = v; used_ids = firsts same_used_id (all_used_ids (d ∷ epoch)) })
    (firsts_all same_satellite satellite_equiv (all_sats epoch) d.note.sats)
    ∙ ap (λ v. record { said = said_grown (said epoch) d.note d.first (stamped d); sats = all_added same_satellite (firsts same_satellite (all_sats epoch)) d.note.sats; used_ids = v })
    (firsts_all same_used_id used_ids_equiv (all_used_ids epoch) (used_ids_in d.note))

ran_none : ran_of [] ≡ nothing_ran
unfolding ran_of nothing_ran
ran_none = refl

closes : (epoch : List Dated) → closing epoch ≡ ran_closing (ran_of epoch)
unfolding closing ran_closing ran_of sky_of ran_sky satellites
closes epoch =
    ap (λ v. cond (said epoch).has_fix (Tpv (fix_of (said epoch)) ∷ []) [] ++ cond (said epoch).has_sky (SkyBody (record { time = (said epoch).time; pdop = (said epoch).pdop; hdop = (said epoch).hdop; vdop = (said epoch).vdop; sats = v }) ∷ []) [])
    (all_marked_alike (all_used_ids epoch) (firsts same_satellite (all_sats epoch)))

-- ---- the serial time

first_some : (o : Option Moment) (m : Moment) → (n : Moment) × (option_or o (Some m) ≡ Some n)
first_some None m = (m, refl)
first_some (Some n) m = (n, refl)

abbrev toff_by : Option Moment → Option Moment → List Body
toff_by first at = option_to_list (option_map (λ x. Toff (record { reference = x; host = unwrap_or first x })) at)

toff_stays : (s t : Said) (at first : Moment) → s.stamped ≡ Some at → t.stamped ≡ Some at → s.first ≡ Some first → t.first ≡ Some first → toff_of t ≡ toff_of s
toff_stays s t at first a b c d =
    ap (λ v. toff_by t.first v) b ∙ ap (λ v. toff_by v (Some at)) d
    ∙ sym (ap (λ v. toff_by s.first v) a ∙ ap (λ v. toff_by v (Some at)) c)

tell_case : (s : Said) (d : Dated) (first : Moment) → s.first ≡ Some first → (o : Option Moment) → s.stamped ≡ o → toff_of (said_grown s d.note d.first (stamped d)) ≡ toff_of s ++ toff_told s d
unfolding toff_told said_grown
tell_case s d first c None e =
    let g : Said = said_grown s d.note d.first (stamped d) in
    let z : toff_of s ≡ [] = ap (λ v. toff_by s.first v) e in
    let t : toff_told s d ≡ toff_of g = ap (λ v. cond (is_some v) [] (toff_of g)) e in
    sym (ap (λ v. v ++ toff_told s d) z ∙ t)
tell_case s d first c (Some at) e =
    let g : Said = said_grown s d.note d.first (stamped d) in
    let t : toff_told s d ≡ [] = ap (λ v. cond (is_some v) [] (toff_of g)) e in
    toff_stays s g at first e (ap (λ v. option_or v (stamped d)) e) c (ap (λ v. option_or v (Some d.first)) c)
    ∙ sym (append-nil (toff_of s)) ∙ ap (λ v. toff_of s ++ v) (sym t)

tells : (d : Dated) → (epoch : List Dated) → toffs (d ∷ epoch) ≡ toffs epoch ++ toff_told (said epoch) d
unfolding said toff_told
tells d [] = ap toff_of (said_more d [])
tells d (e ∷ epoch) =
    let f = first_some (earliest (λ x. Some x.first) epoch) e.first in
    ap toff_of (said_more d (e ∷ epoch)) ∙ tell_case (said (e ∷ epoch)) d f.0 f.1 (said (e ∷ epoch)).stamped refl

tells_all : (d : Dated) (epoch : List Dated) → toffs (d ∷ epoch) ++ cond (is_eoe d.note.kind) (closing (d ∷ epoch)) [] ≡ toffs epoch ++ ran_told (ran_of epoch) d
unfolding ran_told ran_of
tells_all d epoch =
    let e : closing (d ∷ epoch) ≡ ran_closing (ran_grown (ran_of epoch) d) = closes (d ∷ epoch) ∙ ap ran_closing (ran_more d epoch) in
    ap (λ v. v ++ cond (is_eoe d.note.kind) (closing (d ∷ epoch)) []) (tells d epoch)
    ∙ ap (λ v. (toffs epoch ++ toff_told (said epoch) d) ++ cond (is_eoe d.note.kind) v []) e
    ∙ append_assoc (toffs epoch) (toff_told (said epoch) d) (cond (is_eoe d.note.kind) (ran_closing (ran_grown (ran_of epoch) d)) [])

never_breaks : (tag : Option Tag) → breaks tag (said []) ≡ false
unfolding breaks said
never_breaks None = refl
never_breaks (Some (Tod t)) = refl
never_breaks (Some (Itow t)) = refl

no_toffs : toffs [] ≡ []
unfolding said
no_toffs = refl

-- ---- one note further

caused_case : (r : Ran) (d : Dated) (b : Bool) → breaks d.note.tag r.said ≡ b → ran_caused r d ≡ cond b (ran_closing r) [] ++ ran_told (cond b nothing_ran r) d
unfolding ran_caused ran_before
caused_case r d b h = ap (λ v. cond v (ran_closing r) [] ++ ran_told (cond v nothing_ran r) d) h

-- the first note of an epoch
alone_told : (d : Dated) → toffs (d ∷ []) ++ cond (is_eoe d.note.kind) (closing (d ∷ [])) [] ≡ ran_told (ran_of []) d
alone_told d = tells_all d [] ∙ ap (λ v. v ++ ran_told (ran_of []) d) no_toffs

alone : (d : Dated) → toffs (d ∷ []) ++ cond (is_eoe d.note.kind) (closing (d ∷ [])) [] ≡ ran_caused (ran_of []) d
unfolding ran_of
alone d = alone_told d ∙ sym (caused_case (ran_of []) d false (never_breaks d.note.tag))

cause_case : (d : Dated) (epoch : List Dated) (earlier : List (List Dated)) (a b : Bool) → breaks d.note.tag (said epoch) ≡ b → all_told (cond (a || b) ((d ∷ []) ∷ epoch ∷ earlier) ((d ∷ epoch) ∷ earlier)) ≡ (all_closed earlier ++ toffs epoch ++ cond a (closing epoch) []) ++ ran_caused (ran_of (cond a [] epoch)) d
unfolding ran_of
cause_case d epoch earlier true b h =
    append_assoc (all_closed earlier ++ toffs epoch ++ closing epoch) (toffs (d ∷ [])) (cond (is_eoe d.note.kind) (closing (d ∷ [])) [])
    ∙ ap (λ v. all_closed earlier ++ toffs epoch ++ closing epoch ++ v) (alone d)
cause_case d epoch earlier false true h =
    let before : List Body = all_closed earlier ++ toffs epoch in
    append_assoc (before ++ closing epoch) (toffs (d ∷ [])) (cond (is_eoe d.note.kind) (closing (d ∷ [])) [])
    ∙ ap (λ v. before ++ closing epoch ++ v) (alone_told d)
    ∙ append_assoc before (closing epoch) (ran_told (ran_of []) d)
    ∙ ap (λ v. before ++ (v ++ ran_told (ran_of []) d)) (closes epoch)
    ∙ ap (λ v. before ++ (ran_closing (ran_of epoch) ++ ran_told v d)) ran_none
    ∙ ap (λ v. before ++ v) (sym (caused_case (ran_of epoch) d true h))
    ∙ ap (λ v. v ++ ran_caused (ran_of epoch) d) (sym (append-nil before))
cause_case d epoch earlier false false h =
    let before : List Body = all_closed earlier ++ toffs epoch in
    append_assoc (all_closed earlier) (toffs (d ∷ epoch)) (cond (is_eoe d.note.kind) (closing (d ∷ epoch)) [])
    ∙ ap (λ v. all_closed earlier ++ v) (tells_all d epoch)
    ∙ sym (append_assoc (all_closed earlier) (toffs epoch) (ran_told (ran_of epoch) d))
    ∙ ap (λ v. before ++ v) (sym (caused_case (ran_of epoch) d false h))
    ∙ ap (λ v. v ++ ran_caused (ran_of epoch) d) (sym (append-nil before))

causes : (d : Dated) → (es : List (List Dated)) → all_told (joined d es) ≡ all_told es ++ ran_caused (ran_of (running es)) d
causes d [] = alone d
causes d (epoch ∷ earlier) = cause_case d epoch earlier (has_ended epoch) (breaks d.note.tag (said epoch)) refl

next_of : (d : Dated) (epoch : List Dated) → ran_of (cond (is_eoe d.note.kind) [] (d ∷ epoch)) ≡ ran_next (ran_of epoch) d
unfolding ran_next
next_of d epoch = split (is_eoe d.note.kind)
  where
    split : (b : Bool) → ran_of (cond b [] (d ∷ epoch)) ≡ cond b nothing_ran (ran_grown (ran_of epoch) d)
    split true = ran_none
    split false = ran_more d epoch

before_case : (r : Ran) (d : Dated) (b : Bool) → breaks d.note.tag r.said ≡ b → ran_before r d ≡ cond b nothing_ran r
unfolding ran_before
before_case r d b h = ap (λ v. cond v nothing_ran r) h

run_case : (d : Dated) (epoch : List Dated) (earlier : List (List Dated)) (a b : Bool) → breaks d.note.tag (said epoch) ≡ b → ran_of (running (cond (a || b) ((d ∷ []) ∷ epoch ∷ earlier) ((d ∷ epoch) ∷ earlier))) ≡ ran_next (ran_before (ran_of (cond a [] epoch)) d) d
unfolding ran_of
run_case d epoch earlier true b h = next_of d [] ∙ ap (λ v. ran_next v d) (sym (before_case (ran_of []) d false (never_breaks d.note.tag)))
run_case d epoch earlier false true h =
    next_of d [] ∙ ap (λ v. ran_next v d) (ran_none ∙ sym (before_case (ran_of epoch) d true h))
run_case d epoch earlier false false h = next_of d epoch ∙ ap (λ v. ran_next v d) (sym (before_case (ran_of epoch) d false h))

runs : (d : Dated) → (es : List (List Dated)) → ran_of (running (joined d es)) ≡ ran_next (ran_before (ran_of (running es)) d) d
unfolding ran_of
runs d [] = next_of d [] ∙ ap (λ v. ran_next v d) (sym (before_case (ran_of []) d false (never_breaks d.note.tag)))
runs d (epoch ∷ earlier) = run_case d epoch earlier (has_ended epoch) (breaks d.note.tag (said epoch)) refl

pub keeps : (past : List Heard) (h : Heard) → kept_of (h ∷ past) ≡ kept_after (kept_of past) h
unfolding kept_of kept_after dated epochs day_known days_after
keeps past h =
    let d : Dated = dated_after (kept_of past) h in
    ap (λ v. record { ran = v; day = d.day; last_tod = last_tod (h ∷ past) }) (runs d (epochs (dated past)))

pub gained : (kept : EpochsKept) (notes : List Heard) (h : Heard) → StandsFor kept notes → Gains notes h (kept_caused kept h) × StandsFor (kept_after kept h) (notes ++ h ∷ [])
unfolding kept_of kept_caused reports dated epochs day_known days_after
gained kept notes h stands =
    let past : List Heard = reverse notes in
    let turned : reverse (notes ++ h ∷ []) ≡ h ∷ past = reverse-append notes (h ∷ []) in
    let d : Dated = dated_after (kept_of past) h in (
      ap (λ p. all_told (epochs (dated p))) turned ∙ causes d (epochs (dated past)) ∙ ap (λ k. all_told (epochs (dated past)) ++ kept_caused k h) (sym stands),
      ap (λ k. kept_after k h) stands ∙ sym (keeps past h) ∙ ap kept_of (sym turned),
    )

pub left_over : (kept : EpochsKept) (notes : List Heard) → StandsFor kept notes → ran_closing kept.ran ≡ left notes
unfolding left kept_of
left_over kept notes stands =
    ap (λ k. ran_closing k.ran) stands ∙ sym (closes (running (epochs (dated (reverse notes)))))
