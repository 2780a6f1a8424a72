-- The list of units with their rooms: a write to one of them, and a walk over all.
use Rattle.std.proofs.Common.{◌≡◌, ◌≢◌, ℕ, zero, suc, ◌+◌, ◌≤◌, ◌<◌, Bool, true, false, cond, eqb, List, [], ◌∷◌, ◌++◌, length, take, drop, map, set, get_or, refl, sym, ap, ◌∙◌, subst, arith, All, OnOk}
use Rattle.std.specs.Prelude.{slice_index, if◌then◌else◌, ◌==◌, Result}
use Rattle.std.specs.List.{AllZip}
use Rattle.std.proofs.lemmas.Bool.{eqb-true, eqb-false}
use Rattle.std.proofs.lemmas.List.{length-map, length-set, length-append, map-append, map-set, get_or-map, get_or-set_same, get_or-set_other, take_all, take_at, drop_all, take_more, drop_more, append-nil}
use Rattle.std.proofs.Math.Seq.{map-set_same}
use Rattle.std.proofs.lemmas.List.Elements.{All-nil, All-push, All-map, All-weaker}
use Rattle.std.proofs.lemmas.List.Edits.{map_over_more}
use Rattle.std.proofs.lemmas.Slice.Zip.{all_zipped_more}
use Rattle.std.proofs.lemmas.Grind.{flat_map-append}
use Rattle.gps_report.specs.declared.report.Report.{Report}
use Rattle.shm_segment.specs.declared.sample.Sample.{Sample}
use Rattle.book_units.specs.declared.unit.UnitStep.{UnitStep}
use Rattle.book_units.specs.Changes.{EachUnit, UnitGains, UnitTurns, turned, turned_with_room}
use Rattle.book_units.specs.Samples.{samples_in, samples_of}
use Rattle.book_units.specs.Steps.{Publishes, Steps}
use Rattle.book_units.specs.Units.{UnitView, RoomView, UnitsView, IsUnit, IsInOrder, HasRoom, IsNew, units_view, segment_of}
use Rattle.book_units.proofs.Orders.{gained_none, gained_more, in_order, turns, turned_keeps}

abbrev unit_in : RoomView → UnitView
unit_in r = r.unit

abbrev room_in : RoomView → ℕ
room_in r = r.spare

-- what indexing gives, at any default
pub unit_at : (rooms : List RoomView) (u : ℕ) (r : RoomView) (x : UnitView) → u < length rooms → r ≡ get_or rooms u r → get_or (map unit_in rooms) u x ≡ r.unit
unit_at rooms u r x within at = get_or-map unit_in rooms u r x within ∙ ap unit_in (sym at)

pub room_at : (rooms : List RoomView) (u : ℕ) (r : RoomView) → u < length rooms → r ≡ get_or rooms u r → get_or (map room_in rooms) u 0 ≡ r.spare
room_at rooms u r within at = get_or-map room_in rooms u r 0 within ∙ ap room_in (sym at)

-- a place with room is one of the units
pub room_within : (rooms : List RoomView) (u : ℕ) → 0 < get_or (map room_in rooms) u 0 → u < length rooms
room_within [] u some = absurd (omega (arith, some))
room_within (r ∷ rooms) zero some = omega arith
room_within (r ∷ rooms) (suc u) some = let h = room_within rooms u some in omega (arith, h)

-- what the list shows after a write to one place
pub units_set : (rooms : List RoomView) (u : ℕ) (next : RoomView) → map unit_in (set rooms u next) ≡ set (map unit_in rooms) u next.unit
units_set rooms u next = map-set unit_in rooms u next

pub unchanged_units : (rooms : List RoomView) (u : ℕ) (r next : RoomView) → r ≡ get_or rooms u r → next.unit ≡ r.unit → map unit_in (set rooms u next) ≡ map unit_in rooms
unchanged_units rooms u r next at same = map-set_same unit_in rooms u next r (same ∙ ap unit_in at)

-- the room after a write to one place
spare_same : (rooms : List RoomView) (u : ℕ) (next : RoomView) → u < length rooms → get_or (map room_in (set rooms u next)) u 0 ≡ next.spare
spare_same rooms u next within =
    let long = length-map rooms room_in in
    ap (λ (l : List ℕ). get_or l u 0) (map-set room_in rooms u next) ∙ get_or-set_same (map room_in rooms) u next.spare 0 (omega arith)

spare_other : (rooms : List RoomView) (u v : ℕ) (next : RoomView) → v ≢ u → get_or (map room_in (set rooms u next)) v 0 ≡ get_or (map room_in rooms) v 0
spare_other rooms u v next other =
    ap (λ (l : List ℕ). get_or l v 0) (map-set room_in rooms u next) ∙ get_or-set_other (map room_in rooms) u v next.spare 0 other

pub spare_grows : (rooms : List RoomView) (u : ℕ) (r next : RoomView) → u < length rooms → r ≡ get_or rooms u r → r.spare ≤ next.spare
    → (v : ℕ) → get_or (map room_in rooms) v 0 ≤ get_or (map room_in (set rooms u next)) v 0
spare_grows rooms u r next within at more v = by_case (eqb v u) refl
  where
    by_case : (b : Bool) → eqb v u ≡ b → get_or (map room_in rooms) v 0 ≤ get_or (map room_in (set rooms u next)) v 0
    by_case true same =
        let e = eqb-true v u same in
        let before = room_at rooms u r within at in
        let after = spare_same rooms u next within in
        let P : ℕ → Type 0 = λ w. get_or (map room_in rooms) w 0 ≤ get_or (map room_in (set rooms u next)) w 0 in
        subst P (sym e) (omega arith)
    by_case false apart =
        let kept = spare_other rooms u v next (eqb-false v u apart) in
        omega arith

pub spare_now : (rooms : List RoomView) (u more : ℕ) (r next : RoomView) {E : Type 0} (result : Result (Unit {0}) E) → u < length rooms → OnOk result (more ≤ next.spare) → OnOk result (more ≤ get_or (map room_in (set rooms u next)) u 0)
spare_now rooms u more r next result within room =
    let P : ℕ → Type 0 = λ n. OnOk result (more ≤ n) in
    subst P (sym (spare_same rooms u next within)) room

-- a sample joins one unit
abbrev given : ℕ → ℕ → Sample → List Sample
given v u sample = if v == u then sample ∷ [] else []

pub put_gains : (rooms : List RoomView) (u : ℕ) (r next : RoomView) (sample : Sample) → u < length rooms → r ≡ get_or rooms u r → UnitGains (sample ∷ []) r.unit next.unit
    → EachUnit (λ v. UnitGains (given v u sample)) (map unit_in rooms) (map unit_in (set rooms u next))
put_gains rooms u r next sample within at gains =
    record {
      count = length-map (set rooms u next) unit_in ∙ length-set rooms u next ∙ sym (length-map rooms unit_in);
      each = λ v x low. each v x (eqb v u) refl;
    }
  where
    each : (v : ℕ) (x : UnitView) (b : Bool) → eqb v u ≡ b → UnitGains (cond b (sample ∷ []) []) (get_or (map unit_in rooms) v x) (get_or (map unit_in (set rooms u next)) v x)
    each v x true same =
        let e = eqb-true v u same in
        let long = length-map rooms unit_in in
        let before = unit_at rooms u r x within at in
        let after : get_or (map unit_in (set rooms u next)) u x ≡ next.unit = ap (λ (l : List UnitView). get_or l u x) (units_set rooms u next) ∙ get_or-set_same (map unit_in rooms) u next.unit x (omega arith) in
        let P : ℕ → Type 0 = λ w. UnitGains (sample ∷ []) (get_or (map unit_in rooms) w x) (get_or (map unit_in (set rooms u next)) w x) in
        let Q : UnitView → Type 0 = λ y. UnitGains (sample ∷ []) y (get_or (map unit_in (set rooms u next)) u x) in
        let R : UnitView → Type 0 = λ y. UnitGains (sample ∷ []) r.unit y in
        subst P (sym e) (subst Q (sym before) (subst R (sym after) gains))
    each v x false apart =
        let kept : get_or (map unit_in (set rooms u next)) v x ≡ get_or (map unit_in rooms) v x = ap (λ (l : List UnitView). get_or l v x) (units_set rooms u next) ∙ get_or-set_other (map unit_in rooms) u v next.unit x (eqb-false v u apart) in
        let P : UnitView → Type 0 = λ y. UnitGains [] (get_or (map unit_in rooms) v x) y in
        subst P (sym kept) (gained_none (get_or (map unit_in rooms) v x))

pub put_room : (rooms : List RoomView) (u : ℕ) (r next : RoomView) (sample : Sample) → u < length rooms → r ≡ get_or rooms u r → next.spare + 1 ≡ r.spare
    → (v : ℕ) → get_or (map room_in (set rooms u next)) v 0 + length (given v u sample) ≡ get_or (map room_in rooms) v 0
put_room rooms u r next sample within at less v = by_case (eqb v u) refl
  where
    by_case : (b : Bool) → eqb v u ≡ b → get_or (map room_in (set rooms u next)) v 0 + length (cond b (sample ∷ []) []) ≡ get_or (map room_in rooms) v 0
    by_case true same =
        let e = eqb-true v u same in
        let before = room_at rooms u r within at in
        let after = spare_same rooms u next within in
        let P : ℕ → Type 0 = λ w. get_or (map room_in (set rooms u next)) w 0 + 1 ≡ get_or (map room_in rooms) w 0 in
        subst P (sym e) (omega arith)
    by_case false apart =
        let kept = spare_other rooms u v next (eqb-false v u apart) in
        omega arith

-- a step of one unit
pub published : (rooms : List RoomView) (u : ℕ) (r next : RoomView) (step : UnitStep) → u < length rooms → r ≡ get_or rooms u r → Steps step r.unit next.unit → Publishes u step (map unit_in rooms) (map unit_in (set rooms u next))
published rooms u r next step within at steps =
    let P : UnitView → Type 0 = λ y. Steps step y next.unit in
    record { next = next.unit; units = units_set rooms u next; steps = λ x. subst P (sym (unit_at rooms u r x within at)) steps }

-- the samples of these reports are added, and there is room for those of the further ones
pub record IsAdded (reports : List Report) (i : ℕ) (old new : UnitsView) : Type 0 where
  pub gains : EachUnit (λ u. UnitGains (samples_of u (take i reports))) old.units new.units
  pub room : HasRoom new.spare (drop i reports)

pub added_none : (reports : List Report) (s : UnitsView) → HasRoom s.spare reports → IsAdded reports 0 s s
added_none reports s room = record { gains = record { count = refl; each = λ u x low. gained_none (get_or s.units u x) }; room = room }

-- the samples of the next report, and of those after it
next_samples : (reports : List Report) (i : ℕ) (r : Report) (u : ℕ) → i < length reports → r ≡ get_or reports i r → samples_of u (drop i reports) ≡ samples_in u r.device r.body ++ samples_of u (drop (i + 1) reports)
next_samples reports i r u low at =
    ap (λ (l : List Report). samples_of u l) (drop_more reports i r low ∙ ap (λ (q : Report). q ∷ drop (i + 1) reports) (sym at))

pub next_room : (reports : List Report) (i : ℕ) (r : Report) (old s : UnitsView) → IsAdded reports i old s → i < length reports → r ≡ get_or reports i r → (u : ℕ) → length (samples_in u r.device r.body) ≤ slice_index s.spare u
next_room reports i r old s added low at u =
    let room = added.room u in
    let long = ap (λ (l : List Sample). length l) (next_samples reports i r u low at) in
    let parts = length-append (samples_in u r.device r.body) (samples_of u (drop (i + 1) reports)) in
    omega arith

pub added_more : (reports : List Report) (i : ℕ) (r : Report) (old s next : UnitsView) → IsAdded reports i old s → i < length reports → r ≡ get_or reports i r
    → EachUnit (λ u. UnitGains (samples_in u r.device r.body)) s.units next.units → ((u : ℕ) → slice_index next.spare u + length (samples_in u r.device r.body) ≡ slice_index s.spare u)
    → IsAdded reports (i + 1) old next
added_more reports i r old s next added low at gains spare =
    record {
      gains = record { count = gains.count ∙ added.gains.count; each = λ u x within. each u x within };
      room = λ u.
          let room = added.room u in
          let now = spare u in
          let long = ap (λ (l : List Sample). length l) (next_samples reports i r u low at) in
          let parts = length-append (samples_in u r.device r.body) (samples_of u (drop (i + 1) reports)) in
          omega arith;
    }
  where
    joined : (u : ℕ) → samples_of u (take (i + 1) reports) ≡ samples_of u (take i reports) ++ samples_in u r.device r.body
    joined u =
        ap (λ (l : List Report). samples_of u l) (take_more reports i r low ∙ ap (λ (q : Report). take i reports ++ q ∷ []) (sym at))
        ∙ flat_map-append (λ (q : Report). samples_in u q.device q.body) (take i reports) (r ∷ [])
        ∙ ap (λ (l : List Sample). samples_of u (take i reports) ++ l) (append-nil (samples_in u r.device r.body))

    each : (u : ℕ) (x : UnitView) → u < length old.units → UnitGains (samples_of u (take (i + 1) reports)) (get_or old.units u x) (get_or next.units u x)
    each u x within =
        let long = added.gains.count in
        let P : List Sample → Type 0 = λ l. UnitGains l (get_or old.units u x) (get_or next.units u x) in
        subst P (sym (joined u)) (gained_more (get_or old.units u x) (get_or s.units u x) (get_or next.units u x) (samples_of u (take i reports)) (samples_in u r.device r.body) (added.gains.each u x within) (gains.each u x (omega arith)))

pub added_all : (reports : List Report) (i : ℕ) (old s : UnitsView) → IsAdded reports i old s → length reports ≤ i → EachUnit (λ u. UnitGains (samples_of u reports)) old.units s.units
added_all reports i old s added past =
    let P : List Report → Type 0 = λ l. EachUnit (λ u. UnitGains (samples_of u l)) old.units s.units in
    subst P (take_all i reports past) added.gains

-- a unit that has turned
pub room_turned : (old new : RoomView) → UnitTurns old.unit new.unit → new.spare ≡ old.spare → new ≡ turned_with_room old
room_turned old new turns same = λ i. record { unit = turns.becomes i; spare = same i }

-- all units have turned
pub all_turned : (rooms : List RoomView) → EachUnit (λ _. UnitTurns) (map unit_in rooms) (map unit_in (map turned_with_room rooms))
all_turned rooms =
    record {
      count = length-map (map turned_with_room rooms) unit_in ∙ length-map rooms turned_with_room ∙ sym (length-map rooms unit_in);
      each = λ u x within. each rooms u x within;
    }
  where
    each : (rooms : List RoomView) (u : ℕ) (x : UnitView) → u < length (map unit_in rooms) → UnitTurns (get_or (map unit_in rooms) u x) (get_or (map unit_in (map turned_with_room rooms)) u x)
    each [] u x within = absurd (omega (arith, within))
    each (r ∷ rooms) zero x within = turns r.unit
    each (r ∷ rooms) (suc u) x within = each rooms u x (omega (arith, within))

pub spare_turned : (rooms : List RoomView) → map room_in (map turned_with_room rooms) ≡ map room_in rooms
spare_turned [] = refl
spare_turned (r ∷ rooms) = ap (λ (l : List ℕ). r.spare ∷ l) (spare_turned rooms)

-- what holds of each unit by itself, if it is seen in the list
pub all_kept : (rooms : List RoomView) (s : UnitsView) → units_view rooms ≡ s → All (λ (r : RoomView). IsUnit r.unit) rooms → All IsUnit s.units
all_kept rooms s is keeps =
    let P : UnitsView → Type 0 = λ v. All IsUnit v.units in
    subst P is (All-map IsUnit unit_in rooms keeps)

pub all_in_order : (rooms : List RoomView) (s : UnitsView) → units_view rooms ≡ s → All (λ (r : RoomView). IsUnit r.unit) rooms → All IsInOrder s.units
all_in_order rooms s is keeps = All-weaker IsUnit IsInOrder in_order s.units (all_kept rooms s is keeps)

-- the same of a list that is seen
pub published_seen : (rooms : List RoomView) (s : UnitsView) (u k : ℕ) (r next : RoomView) (step : UnitStep) → units_view rooms ≡ s → k ≡ u → u < length s.units → r ≡ get_or rooms k r → Steps step r.unit next.unit
    → Publishes u step s.units (map unit_in (set rooms k next))
published_seen rooms s u k r next step is same within at steps =
    let base : u < length (map unit_in rooms) → r ≡ get_or rooms u r → Publishes u step (map unit_in rooms) (map unit_in (set rooms u next)) =
    λ low here. let long = length-map rooms unit_in in published rooms u r next step (omega arith) here steps in
    let P : UnitsView → Type 0 = λ v. u < length v.units → r ≡ get_or rooms u r → Publishes u step v.units (map unit_in (set rooms u next)) in
    let Q : ℕ → Type 0 = λ n. r ≡ get_or rooms n r → Publishes u step s.units (map unit_in (set rooms n next)) in
    subst Q (sym same) (subst P is base within) at

pub put_gains_seen : (rooms : List RoomView) (s : UnitsView) (u : ℕ) (r next : RoomView) (sample : Sample) → units_view rooms ≡ s → 0 < slice_index s.spare u → r ≡ get_or rooms u r → UnitGains (sample ∷ []) r.unit next.unit
    → EachUnit (λ v. UnitGains (given v u sample)) s.units (map unit_in (set rooms u next))
put_gains_seen rooms s u r next sample is some at gains =
    let P : UnitsView → Type 0 = λ v. 0 < slice_index v.spare u → EachUnit (λ w. UnitGains (given w u sample)) v.units (map unit_in (set rooms u next)) in
    subst P is (λ h. put_gains rooms u r next sample (room_within rooms u h) at gains) some

pub put_room_seen : (rooms : List RoomView) (s : UnitsView) (u : ℕ) (r next : RoomView) (sample : Sample) → units_view rooms ≡ s → 0 < slice_index s.spare u → r ≡ get_or rooms u r → next.spare + 1 ≡ r.spare
    → (v : ℕ) → slice_index (map room_in (set rooms u next)) v + length (given v u sample) ≡ slice_index s.spare v
put_room_seen rooms s u r next sample is some at less =
    let P : UnitsView → Type 0 = λ w. 0 < slice_index w.spare u → (v : ℕ) → slice_index (map room_in (set rooms u next)) v + length (given v u sample) ≡ slice_index w.spare v in
    subst P is (λ h. put_room rooms u r next sample (room_within rooms u h) at less) some

pub seen_within : (rooms : List RoomView) (s : UnitsView) (u : ℕ) → units_view rooms ≡ s → u < length s.units → u < length rooms
seen_within rooms s u is within =
    let long = length-map rooms unit_in in
    let count : length (map unit_in rooms) ≡ length s.units = ap (λ (v : UnitsView). length v.units) is in
    omega arith

pub reserved_units : (rooms : List RoomView) (s : UnitsView) (u : ℕ) (r next : RoomView) → units_view rooms ≡ s → r ≡ get_or rooms u r → next.unit ≡ r.unit → map unit_in (set rooms u next) ≡ s.units
reserved_units rooms s u r next is at same = unchanged_units rooms u r next at same ∙ ap (λ (v : UnitsView). v.units) is

pub reserved_grows : (rooms : List RoomView) (s : UnitsView) (u : ℕ) (r next : RoomView) → units_view rooms ≡ s → u < length s.units → r ≡ get_or rooms u r → r.spare ≤ next.spare
    → (v : ℕ) → slice_index s.spare v ≤ slice_index (map room_in (set rooms u next)) v
reserved_grows rooms s u r next is within at more =
    let P : UnitsView → Type 0 = λ w. (v : ℕ) → slice_index w.spare v ≤ slice_index (map room_in (set rooms u next)) v in
    subst P is (spare_grows rooms u r next (seen_within rooms s u is within) at more)

pub segment_seen : (rooms : List RoomView) (s : UnitsView) (u k : ℕ) (r : RoomView) → units_view rooms ≡ s → k ≡ u → u < length s.units → r ≡ get_or rooms k r → segment_of (get_or s.units u r.unit) ≡ segment_of r.unit
segment_seen rooms s u k r is same within at =
    let low = seen_within rooms s u is within in
    let base : r ≡ get_or rooms u r → segment_of (get_or (map unit_in rooms) u r.unit) ≡ segment_of r.unit =
    λ here. ap segment_of (unit_at rooms u r r.unit low here) in
    let P : UnitsView → Type 0 = λ v. r ≡ get_or rooms u r → segment_of (get_or v.units u r.unit) ≡ segment_of r.unit in
    let Q : ℕ → Type 0 = λ n. r ≡ get_or rooms n r → segment_of (get_or s.units u r.unit) ≡ segment_of r.unit in
    subst Q (sym same) (subst P is base) at

-- a walk in which each unit turns
pub turned_more : (xs ys : List RoomView) (i : ℕ) (x next : RoomView) → i < length xs → ys ≡ map turned_with_room (take i xs) ++ drop i xs → x ≡ get_or ys i x → UnitTurns x.unit next.unit → next.spare ≡ x.spare
    → set ys i next ≡ map turned_with_room (take (i + 1) xs) ++ drop (i + 1) xs
turned_more xs ys i x next low so_far at turns same =
    ap (λ (r : RoomView). set ys i r) (room_turned x next turns same) ∙ map_over_more turned_with_room xs ys i x low so_far at

pub turned_all : (xs ys : List RoomView) (i : ℕ) → length xs ≤ i → ys ≡ map turned_with_room (take i xs) ++ drop i xs → ys ≡ map turned_with_room xs
turned_all xs ys i past so_far =
    so_far ∙ ap (λ (l : List RoomView). map turned_with_room l ++ drop i xs) (take_all i xs past) ∙ ap (λ (l : List RoomView). map turned_with_room xs ++ l) (drop_all i xs past) ∙ append-nil (map turned_with_room xs)

pub turned_units : (rooms next : List RoomView) (s : UnitsView) → units_view rooms ≡ s → next ≡ map turned_with_room rooms → EachUnit (λ _. UnitTurns) s.units (map unit_in next)
turned_units rooms next s is turned =
    let P : UnitsView → Type 0 = λ v. EachUnit (λ _. UnitTurns) v.units (map unit_in next) in
    let Q : List RoomView → Type 0 = λ l. EachUnit (λ _. UnitTurns) (map unit_in rooms) (map unit_in l) in
    subst P is (subst Q (sym turned) (all_turned rooms))

pub turned_room : (rooms next : List RoomView) (s : UnitsView) → units_view rooms ≡ s → next ≡ map turned_with_room rooms → map room_in next ≡ s.spare
turned_room rooms next s is turned =
    ap (λ (l : List RoomView). map room_in l) turned ∙ spare_turned rooms ∙ ap (λ (v : UnitsView). v.spare) is

-- new units of the first of these numbers
pub record AreNew (firsts : List ℕ) (i : ℕ) (rooms : List RoomView) : Type 0 where
  pub zip : AllZip IsNew (take i firsts) (map unit_in rooms)
  pub keeps : All (λ (r : RoomView). IsUnit r.unit) rooms

pub new_none : (firsts : List ℕ) → AreNew firsts 0 []
new_none firsts = record { zip = tt; keeps = All-nil (λ (r : RoomView). IsUnit r.unit) }

pub new_more : (firsts : List ℕ) (i : ℕ) (rooms : List RoomView) (first : ℕ) (next : RoomView) → AreNew firsts i rooms → i < length firsts → first ≡ get_or firsts i 0 → IsNew first next.unit → IsUnit next.unit
    → AreNew firsts (i + 1) (rooms ++ next ∷ [])
new_more firsts i rooms first next so_far low at new keeps =
    let zipped : AllZip IsNew (take i firsts ++ first ∷ []) (map unit_in rooms ++ next.unit ∷ []) = all_zipped_more IsNew (take i firsts) (map unit_in rooms) first next.unit so_far.zip new in
    let numbers : take (i + 1) firsts ≡ take i firsts ++ first ∷ [] = take_more firsts i 0 low ∙ ap (λ (n : ℕ). take i firsts ++ n ∷ []) (sym at) in
    let P : List ℕ → Type 0 = λ l. AllZip IsNew l (map unit_in rooms ++ next.unit ∷ []) in
    let Q : List UnitView → Type 0 = λ l. AllZip IsNew (take (i + 1) firsts) l in
    record {
      zip = subst Q (sym (map-append unit_in rooms (next ∷ []))) (subst P (sym numbers) zipped);
      keeps = All-push (λ (r : RoomView). IsUnit r.unit) rooms next so_far.keeps keeps;
    }

pub new_all : (firsts : List ℕ) (i : ℕ) (rooms : List RoomView) → AreNew firsts i rooms → length firsts ≤ i → AllZip IsNew firsts (map unit_in rooms)
new_all firsts i rooms so_far past =
    let P : List ℕ → Type 0 = λ l. AllZip IsNew l (map unit_in rooms) in
    subst P (take_all i firsts past) so_far.zip

-- the whole list was written
pub whole_turned : (xs ys : List RoomView) (n : ℕ) → n ≡ length xs → ys ≡ map turned_with_room xs → take n (ys ++ drop (length ys) xs) ≡ map turned_with_room xs
whole_turned xs ys n count turned =
    let long : length ys ≡ length xs = ap (λ (l : List RoomView). length l) turned ∙ length-map xs turned_with_room in
    take_at ys (drop (length ys) xs) n (long ∙ sym count) ∙ turned

pub all_turned_keep : (xs ys : List RoomView) → ys ≡ map turned_with_room xs → All (λ (r : RoomView). IsUnit r.unit) xs → All (λ (r : RoomView). IsUnit r.unit) ys
all_turned_keep xs ys is keeps =
    let P : List RoomView → Type 0 = λ l. All (λ (r : RoomView). IsUnit r.unit) l in
    subst P (sym is) (All-map (λ (r : RoomView). IsUnit r.unit) turned_with_room xs (All-weaker (λ (r : RoomView). IsUnit r.unit) (λ (r : RoomView). IsUnit (turned r.unit)) (λ r h. turned_keeps r.unit h) xs keeps))

units_turned : (rooms : List RoomView) → map unit_in (map turned_with_room rooms) ≡ map turned (map unit_in rooms)
units_turned [] = refl
units_turned (room ∷ rooms) = ap (λ (l : List UnitView). turned room.unit ∷ l) (units_turned rooms)

pub turned_list : (rooms next : List RoomView) (s : UnitsView) → units_view rooms ≡ s → next ≡ map turned_with_room rooms → map unit_in next ≡ map turned s.units
turned_list rooms next s is turned_is =
    ap (map unit_in) turned_is ∙ units_turned rooms ∙ ap (λ (v : UnitsView). map turned v.units) is
