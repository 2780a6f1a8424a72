-- The answer to a POLL is the text of its reports, each with the name of its device.
use Rattle.std.proofs.Common.{◌≡◌, ℕ, Bool, true, List, [], ◌∷◌, ◌++◌, Option, refl, sym, ap, ◌∙◌, codes}
use Rattle.std.specs.List.{list_all, flat_map}
use Rattle.std.specs.Fmt.{decimal}
use Rattle.std.proofs.lemmas.Bool.{and_parts}
use Rattle.std.proofs.lemmas.List.Concat.{flat_map-cons}
use Rattle.gps_fixed.specs.Moment.{Moment}
use Rattle.gps_report.specs.declared.report.Body.{Body}
use Rattle.gps_report.specs.declared.report.Body.TheVariants as body
use Rattle.gps_report.specs.declared.report.Report.{Report}
use Rattle.json_line.specs.declared.names.Class.TheVariants as class
use Rattle.json_line.specs.declared.names.Key.TheVariants as key
use Rattle.json_line.specs.Json.{array, behind_commas, closing, member, member_if, separated, time}
use Rattle.json_line.specs.Lines.{is_sky, is_tpv, name_of, object, object_of, poll}
use Rattle.json_line.specs.Names.{head_of}
use Rattle.gps_client.specs.Polls.{fixes_of, named_fix, polled_of, skies_of}
use Rattle.gps_client.specs.Polls.{named_sky as one_sky}
use Rattle.gps_client.specs.Texts.{named_sky, named_tpv, polled}

-- one report is one item with the same text
abbrev IsOne : {X : Type 0} → (X → List ℕ) → List ℕ → List X → Type 0
IsOne {X} text written items = (x : X) × (items ≡ x ∷ []) × (written ≡ text x)

module _ {X : Type 0} (text : X → List ℕ) (names : List (List ℕ)) (item : Report → List X) (items : List Report → List X) (none : items [] ≡ []) (some : (r : Report) (rs : List Report) → items (r ∷ rs) ≡ item r ++ items rs) (test : Report → Bool) (one : (r : Report) → test r ≡ true → IsOne text (object_of names r) (item r)) where
  behind_same : (rs : List Report) → list_all test rs ≡ true → behind_commas (object_of names) rs ≡ behind_commas text (items rs)
  unfolding behind_commas
  behind_same [] all = ap (flat_map (λ x. codes "," ++ text x)) (sym none)
  behind_same (r ∷ rs) all =
      let parts = and_parts (test r) (list_all test rs) all in
      let o = one r parts.0 in
      flat_map-cons (λ x. codes "," ++ object_of names x) r rs
      ∙ (ap (λ t. (codes "," ++ t) ++ flat_map (λ x. codes "," ++ object_of names x) rs) o.2
      ∙ (ap (λ t. (codes "," ++ text o.0) ++ t) (behind_same rs parts.1)
      ∙ (sym (flat_map-cons (λ x. codes "," ++ text x) o.0 (items rs))
      ∙ ap (flat_map (λ x. codes "," ++ text x)) (sym (some r rs ∙ ap (λ t. t ++ items rs) o.1)))))

  pub array_same : (rs : List Report) → list_all test rs ≡ true → array (object_of names) rs ≡ array text (items rs)
  unfolding array separated
  array_same [] all = ap (λ xs. array text xs) (sym none)
  array_same (r ∷ rs) all =
      let parts = and_parts (test r) (list_all test rs) all in
      let o = one r parts.0 in
      ap (λ t. codes "[" ++ (t ++ behind_commas (object_of names) rs) ++ codes "]") o.2
      ∙ (ap (λ t. codes "[" ++ (text o.0 ++ t) ++ codes "]") (behind_same rs parts.1)
      ∙ ap (λ xs. array text xs) (sym (some r rs ∙ ap (λ t. t ++ items rs) o.1)))

one_fix : (names : List (List ℕ)) (r : Report) → is_tpv r.body ≡ true → IsOne named_tpv (object_of names r) (named_fix (name_of names r.device) r.body)
unfolding object_of object
one_fix names r e = by_body (name_of names r.device) r.body e
  where
    by_body : (name : List ℕ) (b : Body) → is_tpv b ≡ true → IsOne named_tpv (object name b) (named_fix name b)
    by_body name (body.Tpv fix) e = ((name, fix), refl, refl)
    by_body name (body.Packet p) e = absurd cc
    by_body name (body.Sky s) e = absurd cc
    by_body name (body.Toff p) e = absurd cc
    by_body name (body.Pps p) e = absurd cc
    by_body name (body.Device a) e = absurd cc

one_of_skies : (names : List (List ℕ)) (r : Report) → is_sky r.body ≡ true → IsOne named_sky (object_of names r) (one_sky (name_of names r.device) r.body)
unfolding object_of object
one_of_skies names r e = by_body (name_of names r.device) r.body e
  where
    by_body : (name : List ℕ) (b : Body) → is_sky b ≡ true → IsOne named_sky (object name b) (one_sky name b)
    by_body name (body.Sky s) e = ((name, s), refl, refl)
    by_body name (body.Tpv fix) e = absurd cc
    by_body name (body.Packet p) e = absurd cc
    by_body name (body.Toff p) e = absurd cc
    by_body name (body.Pps p) e = absurd cc
    by_body name (body.Device a) e = absurd cc

pub poll_is : (last : Option Moment) (active : ℕ) (fixes skies : List Report) (names : List (List ℕ)) → list_all (λ r. is_tpv r.body) fixes ≡ true → list_all (λ r. is_sky r.body) skies ≡ true
    → poll last active fixes skies names ≡ polled (polled_of last active fixes skies names)
unfolding poll polled
poll_is last active fixes skies names f s =
    ap (λ t. head_of class.Poll ++ member_if key.Time time last ++ member key.Active (decimal active) ++ member key.Tpv t ++ member key.Sky (array (object_of names) skies) ++ closing)
    (array_same named_tpv names (λ r. named_fix (name_of names r.device) r.body) (fixes_of names) refl (λ r rs. refl) (λ r. is_tpv r.body) (one_fix names) fixes f)
    ∙ ap (λ t. head_of class.Poll ++ member_if key.Time time last ++ member key.Active (decimal active) ++ member key.Tpv (array named_tpv (fixes_of names fixes)) ++ member key.Sky t ++ closing)
    (array_same named_sky names (λ r. one_sky (name_of names r.device) r.body) (skies_of names) refl (λ r rs. refl) (λ r. is_sky r.body) (one_of_skies names) skies s)
