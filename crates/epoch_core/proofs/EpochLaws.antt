-- Laws of epochs in their own words: they hold all notes in order, and reports are their closings and serial times.
use Rattle.std.proofs.Common.{◌≡◌, refl, ap, ◌∙◌, Bool, true, false, cond, List, [], ◌∷◌, ◌++◌, append-nil, Option, Some, None, option_map, option_to_list, unwrap_or}
use Rattle.std.specs.List.{filter}
use Rattle.std.proofs.lemmas.List.Elements.{filter-append}
use Rattle.gps_report.specs.declared.report.Body.{Body}
use Rattle.gps_report.specs.declared.report.Body.TheVariants.{Tpv, Sky as SkyBody, Toff}
use Rattle.epoch_core.specs.declared.heard.Heard.{Heard}
use Rattle.gps_fixed.specs.Moment.{Moment}
use Rattle.gps_report.specs.declared.fix.Pair.{Pair}
use Rattle.epoch_core.specs.Days.{Dated}
use Rattle.epoch_core.specs.Quantities.{said}
use Rattle.epoch_core.specs.Fixes.{fix_of}
use Rattle.epoch_core.specs.Epochs.{all_closed, all_notes, all_told, begins, closed, closing, closings, epochs, epochs_of, has_ended, is_no_toff, joined, reports, sky_of, toffs}

split_notes : (b : Bool) (d : Dated) (epoch : List Dated) (earlier : List (List Dated))
    → all_notes (cond b ((d ∷ []) ∷ epoch ∷ earlier) ((d ∷ epoch) ∷ earlier)) ≡ d ∷ all_notes (epoch ∷ earlier)
split_notes true d epoch earlier = refl
split_notes false d epoch earlier = refl

joined_notes : (d : Dated) (es : List (List Dated)) → all_notes (joined d es) ≡ d ∷ all_notes es
joined_notes d [] = refl
joined_notes d (epoch ∷ earlier) = split_notes (begins d epoch) d epoch earlier

pub epochs_hold : (past : List Dated) → all_notes (epochs past) ≡ past
unfolding epochs
epochs_hold [] = refl
epochs_hold (d ∷ past) = joined_notes d (epochs past) ∙ ap (λ t. d ∷ t) (epochs_hold past)

no_toff : (make : Moment → Pair) (o : Option Moment) → filter is_no_toff (option_to_list (option_map (λ at. Toff (make at)) o)) ≡ []
no_toff make None = refl
no_toff make (Some at) = refl

no_toffs : (epoch : List Dated) → filter is_no_toff (toffs epoch) ≡ []
no_toffs epoch = no_toff (λ at. record { reference = at; host = unwrap_or (said epoch).first at }) (said epoch).stamped

kept_bodies : (a b : Bool) (fix sky : Body) → is_no_toff fix ≡ true → is_no_toff sky ≡ true
    → filter is_no_toff (cond a (fix ∷ []) [] ++ cond b (sky ∷ []) []) ≡ cond a (fix ∷ []) [] ++ cond b (sky ∷ []) []
kept_bodies true true fix sky f g = ap (λ t. cond t (fix ∷ filter is_no_toff (sky ∷ [])) (filter is_no_toff (sky ∷ []))) f ∙ ap (λ t. fix ∷ cond t (sky ∷ []) []) g
kept_bodies true false fix sky f g = ap (λ t. cond t (fix ∷ []) []) f
kept_bodies false true fix sky f g = ap (λ t. cond t (sky ∷ []) []) g
kept_bodies false false fix sky f g = refl

kept_closing : (epoch : List Dated) → filter is_no_toff (closing epoch) ≡ closing epoch
unfolding closing
kept_closing epoch = kept_bodies (said epoch).has_fix (said epoch).has_sky (Tpv (fix_of (said epoch))) (SkyBody (sky_of epoch)) refl refl

parts : (xs ys zs : List Body) → filter is_no_toff (xs ++ ys ++ zs) ≡ filter is_no_toff xs ++ filter is_no_toff ys ++ filter is_no_toff zs
parts xs ys zs = filter-append is_no_toff (xs ++ ys) zs ∙ ap (λ t. t ++ filter is_no_toff zs) (filter-append is_no_toff xs ys)

all_closed_are : (es : List (List Dated)) → filter is_no_toff (all_closed es) ≡ closings es
all_closed_are [] = refl
all_closed_are (epoch ∷ earlier) =
    parts (all_closed earlier) (toffs epoch) (closing epoch)
    ∙ ap (λ t. t ++ filter is_no_toff (toffs epoch) ++ filter is_no_toff (closing epoch)) (all_closed_are earlier)
    ∙ ap (λ t. closings earlier ++ t ++ filter is_no_toff (closing epoch)) (no_toffs epoch)
    ∙ ap (λ t. t ++ filter is_no_toff (closing epoch)) (append-nil (closings earlier))
    ∙ ap (λ t. closings earlier ++ t) (kept_closing epoch)

ended_part : (b : Bool) (epoch : List Dated) (earlier : List (List Dated))
    → closings earlier ++ filter is_no_toff (cond b (closing epoch) []) ≡ closings (cond b (epoch ∷ earlier) earlier)
ended_part true epoch earlier = ap (λ t. closings earlier ++ t) (kept_closing epoch)
ended_part false epoch earlier = append-nil (closings earlier)

told_are : (es : List (List Dated)) → filter is_no_toff (all_told es) ≡ closings (closed es)
told_are [] = refl
told_are (epoch ∷ earlier) =
    parts (all_closed earlier) (toffs epoch) (cond (has_ended epoch) (closing epoch) [])
    ∙ ap (λ t. t ++ filter is_no_toff (toffs epoch) ++ filter is_no_toff (cond (has_ended epoch) (closing epoch) [])) (all_closed_are earlier)
    ∙ ap (λ t. closings earlier ++ t ++ filter is_no_toff (cond (has_ended epoch) (closing epoch) [])) (no_toffs epoch)
    ∙ ap (λ t. t ++ filter is_no_toff (cond (has_ended epoch) (closing epoch) [])) (append-nil (closings earlier))
    ∙ ended_part (has_ended epoch) epoch earlier

pub reports_are_closings : (notes : List Heard) → filter is_no_toff (reports notes) ≡ closings (closed (epochs_of notes))
unfolding reports
reports_are_closings notes = told_are (epochs_of notes)
