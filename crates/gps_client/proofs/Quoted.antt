-- Truths, times and names are read exactly.
use Rattle.std.proofs.Common.{◌≡◌, ℕ, Bool, true, false, ◌&&◌, nat_le, nat_lt, List, [], ◌∷◌, ◌++◌, Option, Some, None, refl, sym, ap, ◌∙◌, subst, length, take, drop, take-append-drop, append_assoc, arith, codes}
use Rattle.std.specs.Prelude.{if◌then◌else◌}
use Rattle.std.specs.List.{list_all, prefix_len}
use Rattle.std.proofs.lemmas.List.{take_at, drop_at}
use Rattle.std.proofs.lemmas.Bool.{and_parts, and_from, cond-true}
use Rattle.std.proofs.lemmas.Bool.Decides.{nat_tests}
use Rattle.gps_fixed.specs.Iso.{IsWhole as IsWholeStamp}
use Rattle.gps_fixed.specs.Moment.{Moment}
use Rattle.gps_fixed.specs.Text.{iso_of}
use Rattle.gps_fixed.proofs.IsoLaws.{says}
use Rattle.gps_report.specs.Name.{is_name, is_name_byte}
use Rattle.json_line.specs.Json.{quoted, time, truth}
use Rattle.gps_client.specs.Ranges.{IsName}
use Rattle.gps_client.specs.Reading.{Reading, ◌>>=◌, such, behind, ended, word_at, or_at, quote, stamp_in, stamp_at, time_at, is_no_quote, unquoted_at, name_at, truth_at}
use Rattle.gps_client.proofs.Parts.{whole_ended, whole_labelled, whole_as}
use Rattle.gps_client.proofs.Rows.{IsWhole, After, bind_some, pair_same, behind_sound, behind_full, whole_part}
use Rattle.gps_client.proofs.Stamps.{stamp_sound, stamp_full}
use Rattle.gps_client.proofs.Whole.{run, chosen}

-- a word that must be there
pub word_sound : {X : Type 0} (word : List ℕ) (value x : X) (b rest : List ℕ) → word_at word value b ≡ Some (x, rest) → (value ≡ x) × (b ≡ word ++ rest)
word_sound word value x b rest e =
    let a = bind_some (behind word b) (λ t. Some (value, t)) (x, rest) e in
    let same = pair_same value x a.0 rest a.2 in
    (same.0, behind_sound word b a.0 a.1 ∙ ap (λ t. word ++ t) same.1)

pub word_full : {X : Type 0} (word : List ℕ) (value : X) (rest : List ℕ) → word_at word value (word ++ rest) ≡ Some (value, rest)
word_full {X} word value rest = ap (λ (o : Option (List ℕ)). o >>= λ t. Some (value, t)) (behind_full word rest)

abbrev pub Any : {X : Type 0} → X → Type 0
Any x = Unit {0}

pub word_whole : {X : Type 0} (word : List ℕ) (value : X) (text : X → List ℕ) → word ≡ text value → ((x : X) → value ≡ x) → IsWhole Any text (word_at word value)
word_whole {X} word value text is only = record {
  sound = λ b x rest e. let g = word_sound word value x b rest e in (tt, g.1 ∙ ap (λ t. t ++ rest) (is ∙ ap text g.0));
  full = λ x rest r. ap (λ t. word_at word value (t ++ rest)) (sym (is ∙ ap text (only x))) ∙ (word_full word value rest ∙ ap (λ y. Some (y, rest)) (only x));
}

-- one of two
pub or_sound : {X : Type 0} (o : Option (X × List ℕ)) (other : Reading X) (b : List ℕ) (P : X → List ℕ → Type 0)
    → ((x : X) (rest : List ℕ) → o ≡ Some (x, rest) → P x rest) → ((x : X) (rest : List ℕ) → other b ≡ Some (x, rest) → P x rest) → (x : X) (rest : List ℕ) → or_at o other b ≡ Some (x, rest) → P x rest
or_sound (Some y) other b P here there x rest e = here x rest e
or_sound None other b P here there x rest e = there x rest e

pub word_says : {X : Type 0} (word : List ℕ) (value : X) (text : X → List ℕ) (b : List ℕ) → word ≡ text value → (x : X) (rest : List ℕ) → word_at word value b ≡ Some (x, rest) → b ≡ text x ++ rest
word_says word value text b is x rest e = let g = word_sound word value x b rest e in g.1 ∙ ap (λ t. t ++ rest) (is ∙ ap text g.0)

pub truth_whole : IsWhole Any truth truth_at
unfolding truth_at truth behind
truth_whole = record { sound = λ b x rest e. (tt, sound b x rest e); full = full }
  where
    sound : (b : List ℕ) (x : Bool) (rest : List ℕ) → truth_at b ≡ Some (x, rest) → b ≡ truth x ++ rest
    sound b = or_sound (word_at (codes "true") true b) (word_at (codes "false") false) b (λ x rest. b ≡ truth x ++ rest)
        (word_says (codes "true") true truth b refl) (word_says (codes "false") false truth b refl)

    full : (x : Bool) (rest : List ℕ) → Any x → truth_at (truth x ++ rest) ≡ Some (x, rest)
    full true rest r = ap (λ o. or_at o (word_at (codes "false") false) (codes "true" ++ rest)) (word_full (codes "true") true rest)
    full false rest r = word_full (codes "false") false rest

-- times
stamp_whole : IsWhole IsWholeStamp iso_of stamp_at
stamp_whole = record { sound = sound; full = full }
  where
    sound : (b : List ℕ) (at : Moment) (rest : List ℕ) → stamp_at b ≡ Some (at, rest) → IsWholeStamp at × (b ≡ iso_of at ++ rest)
    sound b at rest e =
        let a = bind_some (stamp_in (take 24 b)) (λ x. Some (x, drop 24 b)) (at, rest) e in
        let same = pair_same a.0 at (drop 24 b) rest a.2 in
        let is = stamp_sound (take 24 b) a.0 a.1 in
        (subst IsWholeStamp same.0 is.stamp, sym (take-append-drop 24 b) ∙ (ap (λ t. t ++ drop 24 b) (is.written ∙ ap iso_of same.0) ∙ ap (λ t. iso_of at ++ t) same.1))

    full : (at : Moment) (rest : List ℕ) → IsWholeStamp at → stamp_at (iso_of at ++ rest) ≡ Some (at, rest)
    full at rest r =
        let long : length (iso_of at) ≡ 24 = (says at (iso_of at) r.stamp refl).size in
        ap (λ t. stamp_in t >>= λ x. Some (x, drop 24 (iso_of at ++ rest))) (take_at (iso_of at) rest 24 long)
        ∙ (ap (λ (o : Option Moment). o >>= λ x. Some (x, drop 24 (iso_of at ++ rest))) (stamp_full (iso_of at) at (record { stamp = r; written = refl }))
        ∙ ap (λ t. Some (at, t)) (drop_at (iso_of at) rest 24 long))

quote_is_end : (rest : List ℕ) → After [] (quote ++ rest)
quote_is_end rest = (refl, tt)

pub time_whole : IsWhole IsWholeStamp time time_at
unfolding time_at time
time_whole = whole_as (λ x r. r) (λ x r. r) (λ at. sym (append_assoc quote (iso_of at) quote)) (whole_labelled quote (whole_ended quote quote_is_end (whole_part stamp_whole [])))

-- names
no_quotes : (name : List ℕ) → list_all is_name_byte name ≡ true → list_all is_no_quote name ≡ true
no_quotes [] all = refl
no_quotes (c ∷ name) all =
    let parts = and_parts (is_name_byte c) (list_all is_name_byte name) all in
    let one : is_no_quote c ≡ true = grind (arith, nat_tests, parts.0) in
    and_from (is_no_quote c) (list_all is_no_quote name) one (no_quotes name parts.1)

abbrev picked : List ℕ → List ℕ → Option (List ℕ × List ℕ)
picked t rest = if is_name t then Some (t, rest) else None

abbrev closed : Option (List ℕ × List ℕ) → Option (List ℕ × List ℕ)
closed o = o >>= λ x. behind quote x.1 >>= λ t. Some (x.0, t)

name_ended : IsWhole IsName (λ name. name ++ quote) (ended quote (such is_name unquoted_at))
name_ended = record { sound = sound; full = full }
  where
    sound : (b name rest : List ℕ) → ended quote (such is_name unquoted_at) b ≡ Some (name, rest) → IsName name × (b ≡ (name ++ quote) ++ rest)
    sound b name rest e =
        let n = prefix_len is_no_quote b in
        let a = bind_some (such is_name unquoted_at b) (λ x. behind quote x.1 >>= λ t. Some (x.0, t)) (name, rest) e in
        let c = chosen (is_name (take n b)) (take n b) a.0.0 (drop n b) a.0.1 a.1 in
        let d = bind_some (behind quote a.0.1) (λ t. Some (a.0.0, t)) (name, rest) a.2 in
        let same = pair_same a.0.0 name d.0 rest d.2 in
        let first : take n b ≡ name = c.1 ∙ same.0 in
        let last : drop n b ≡ quote ++ rest = c.2 ∙ (behind_sound quote a.0.1 d.0 d.1 ∙ ap (λ t. quote ++ t) same.1) in
        (subst IsName first c.0, sym (take-append-drop n b) ∙ (ap (λ t. t ++ drop n b) first ∙ (ap (λ t. name ++ t) last ∙ sym (append_assoc name quote rest))))

    full : (name rest : List ℕ) → IsName name → ended quote (such is_name unquoted_at) ((name ++ quote) ++ rest) ≡ Some (name, rest)
    full name rest r =
        let tests = and_parts (nat_lt 0 (length name) && nat_le (length name) 64) (list_all is_name_byte name) r in
        let whole : List ℕ = name ++ (quote ++ rest) in
        ap (ended quote (such is_name unquoted_at)) (append_assoc name quote rest)
        ∙ (ap (λ n. closed (picked (take n whole) (drop n whole))) (run is_no_quote name (quote ++ rest) (no_quotes name tests.1) refl)
        ∙ (ap (λ (t : List ℕ). closed (picked t (drop (length name) whole))) (take_at name (quote ++ rest) (length name) refl)
        ∙ (ap (λ (t : List ℕ). closed (picked name t)) (drop_at name (quote ++ rest) (length name) refl)
        ∙ (ap closed (cond-true (is_name name) (Some (name, quote ++ rest)) None r)
        ∙ ap (λ (o : Option (List ℕ)). o >>= λ t. Some (name, t)) (behind_full quote rest)))))

pub name_whole : IsWhole IsName quoted name_at
unfolding name_at quoted
name_whole = whole_as (λ x r. r) (λ x r. r) (λ name. sym (append_assoc quote name quote)) (whole_labelled quote name_ended)
