-- What a session's outlet still held is written after what its writer wrote.
use Rattle.std.proofs.Common.{◌≡◌, ◌≤◌, ◌<◌, ℕ, true, List, [], ◌∷◌, ◌++◌, length, append_assoc, append-nil, Option, None, refl, sym, ◌∙◌, ap, subst, arith}
use Rattle.std.specs.Prelude.{option_to_list}
use Rattle.std.specs.List.{concat}
use Rattle.std.proofs.lemmas.List.Folds.{concat-append}
use Rattle.gps_lane.specs.Ends.{Taking}
use Rattle.gps_fixed.specs.Lists.{IsPrefix}
use Rattle.gps_outside.specs.Counts.{Rose}
use Rattle.gps_outside.specs.Told.{Goes, Appends, AppendsPart}
use Rattle.gps_outside.proofs.Going.{goes_as}
use Rattle.gps_outside.proofs.Writing.{appends_on, part_on}
use Rattle.serve_workers.specs.declared.writer.WriterEnd.{WriterEnd}
use Rattle.serve_workers.specs.declared.writer.WriterEnd.TheVariants.{Drained, WriteFault}
use Rattle.serve_workers.specs.Writing.{Writes, WritesBytes}
use Rattle.serve_workers.proofs.Rounds.{nothing_written}
use Rattle.serve_workers.specs.Sessions.{Wrote}
use Rattle.serve_end.specs.Outlets.{Empties}

bytes_on : (end : WriterEnd) (first second : List (List ℕ)) (before between after : Option (List ℕ))
    → WritesBytes Drained (concat first) before between → WritesBytes end (concat second) between after → WritesBytes end (concat (first ++ second)) before after
bytes_on Drained first second before between after one two =
    rw (concat-append first second) (appends_on (concat first) (concat second) before between after one two)
bytes_on WriteFault first second before between after one two =
    rw (concat-append first second) (part_on (concat first) (concat second) before between after one two)

writes_on : (end : WriterEnd) (got mid now : List (List ℕ)) (before between after : Option (List ℕ))
    → Writes Drained got mid before between → Writes end mid now between after → Writes end got now before after
writes_on end got mid now before between after one two = record {
  fresh = one.fresh ++ two.fresh;
  gets = two.gets ∙ ap (λ l. l ++ two.fresh) one.gets ∙ append_assoc got one.fresh two.fresh;
  wrote = bytes_on end one.fresh two.fresh before between after one.wrote two.wrote;
}

-- a writing that goes on
pub wrote_on : (end : WriterEnd) (rx mid rx' : Taking (List ℕ)) (before between after : Option (List ℕ)) (faults faults' faults'' : ℕ)
    → Wrote Drained rx mid before between faults faults' → Wrote end mid rx' between after faults' faults'' → Wrote end rx rx' before after faults faults''
wrote_on end rx mid rx' before between after faults faults' faults'' one two = record {
  writes = writes_on end rx.got mid.got rx'.got before between after one.writes two.writes;
  lane = two.lane ∙ ap (λ (x : Taking (List ℕ)). record x { got = rx'.got }) one.lane;
  faults_stay = let p = one.faults_stay in let q = two.faults_stay in omega arith;
  failed = λ e. let p = one.faults_stay in let q = two.failed e in omega (arith, q);
  sound = λ e. two.sound e ∙ one.sound refl;
}

pub wrote_none : (rx : Taking (List ℕ)) (now : Option (List ℕ)) (faults : ℕ) → Wrote Drained rx rx now now faults faults
wrote_none rx now faults = record {
  writes = nothing_written rx.got now;
  lane = refl;
  faults_stay = omega arith;
  failed = λ (e : Drained ≡ WriteFault). absurd (cc);
  sound = λ e. refl;
}

one_item : (got : List (List ℕ)) (item : List ℕ) (before after : Option (List ℕ)) → Goes (Appends item) before after → Writes Drained got (got ++ item ∷ []) before after
one_item got item before after wrote = record { fresh = item ∷ []; gets = refl; wrote = rw (append-nil item) wrote }

part_of_item : (got : List (List ℕ)) (item : List ℕ) (before after : Option (List ℕ)) → Goes (AppendsPart item) before after → Writes WriteFault got (got ++ item ∷ []) before after
part_of_item got item before after wrote = record { fresh = item ∷ []; gets = refl; wrote = rw (append-nil item) wrote }

-- one item more was got, and written
pub wrote_item : (rx mid rx' : Taking (List ℕ)) (item : List ℕ) (before between after : Option (List ℕ)) (faults faults' faults'' : ℕ)
    → Wrote Drained rx mid before between faults faults' → rx' ≡ record mid { got = mid.got ++ item ∷ [] }
    → Goes (Appends item) between after → faults'' ≡ faults' → Wrote Drained rx rx' before after faults faults''
wrote_item rx mid rx' item before between after faults faults' faults'' one is wrote same =
    wrote_on Drained rx mid rx' before between after faults faults' faults'' one (record {
      writes = subst (λ (l : List (List ℕ)). Writes Drained mid.got l between after) (sym (ap (λ (x : Taking (List ℕ)). x.got) is))
          (one_item mid.got item between after wrote);
      lane = ap (λ (x : Taking (List ℕ)). record x { got = rx'.got }) is;
      faults_stay = omega (arith, same);
      failed = λ (e : Drained ≡ WriteFault). absurd (cc);
      sound = λ e. same;
    })

-- one item more was got, and a part of it written
pub wrote_part : (rx mid rx' : Taking (List ℕ)) (item : List ℕ) (before between after : Option (List ℕ)) (faults faults' faults'' : ℕ)
    → Wrote Drained rx mid before between faults faults' → rx' ≡ record mid { got = mid.got ++ item ∷ [] }
    → Goes (AppendsPart item) between after → faults' ≤ faults'' → Rose faults' faults'' → Wrote WriteFault rx rx' before after faults faults''
wrote_part rx mid rx' item before between after faults faults' faults'' one is wrote stay rose =
    wrote_on WriteFault rx mid rx' before between after faults faults' faults'' one (record {
      writes = subst (λ (l : List (List ℕ)). Writes WriteFault mid.got l between after) (sym (ap (λ (x : Taking (List ℕ)). x.got) is))
          (part_of_item mid.got item between after wrote);
      lane = ap (λ (x : Taking (List ℕ)). record x { got = rx'.got }) is;
      faults_stay = stay;
      failed = λ e. rose;
      sound = λ (e : WriteFault ≡ Drained). absurd (cc);
    })

first_part : (piece more x y : List ℕ) → AppendsPart piece x y → AppendsPart (piece ++ more) x y
first_part piece more x y p = (p.0, ((p.1.0.0 ++ more, ap (λ l. l ++ more) p.1.0.1 ∙ append_assoc p.0 p.1.0.0 more), p.1.1))

-- one item more was got, or none, and not written, as the sink had failed
pub wrote_less : (rx mid rx' : Taking (List ℕ)) (item : Option (List ℕ)) (before after : Option (List ℕ)) (faults faults' : ℕ)
    → Wrote WriteFault rx mid before after faults faults' → rx' ≡ record mid { got = mid.got ++ option_to_list item } → Wrote WriteFault rx rx' before after faults faults'
wrote_less rx mid rx' item before after faults faults' one is =
    let fresh = one.writes.fresh in
    let more = option_to_list item in
    record {
      writes = record {
        fresh = fresh ++ more;
        gets = ap (λ (x : Taking (List ℕ)). x.got) is ∙ ap (λ l. l ++ more) one.writes.gets ∙ append_assoc rx.got fresh more;
        wrote = rw (concat-append fresh more)
            (goes_as (AppendsPart (concat fresh)) (AppendsPart (concat fresh ++ concat more)) before after (first_part (concat fresh) (concat more)) one.writes.wrote);
      };
      lane = ap (λ (x : Taking (List ℕ)). record x { got = rx'.got }) (is ∙ ap (λ (x : Taking (List ℕ)). record x { got = mid.got ++ more }) one.lane);
      faults_stay = one.faults_stay;
      failed = one.failed;
      sound = one.sound;
    }

-- the writer drained its lane, and the writing goes on
pub drained_on : (was end : WriterEnd) (mid rx' : Taking (List ℕ)) (between after : Option (List ℕ)) (faults' faults'' : ℕ)
    → was ≡ Drained → Wrote end mid rx' between after faults' faults''
    → (rx : Taking (List ℕ)) (before : Option (List ℕ)) (faults : ℕ) → Wrote was rx mid before between faults faults' → Wrote end rx rx' before after faults faults''
drained_on was end mid rx' between after faults' faults'' is two rx before faults one =
    wrote_on end rx mid rx' before between after faults faults' faults'' (subst (λ (e : WriterEnd). Wrote e rx mid before between faults faults') is one) two

-- the writer failed, and one item more was got, or none
pub failed_on : (was : WriterEnd) (mid rx' : Taking (List ℕ)) (item : Option (List ℕ)) (between : Option (List ℕ)) (faults' : ℕ)
    → was ≡ WriteFault → rx' ≡ record mid { got = mid.got ++ option_to_list item }
    → (rx : Taking (List ℕ)) (before : Option (List ℕ)) (faults : ℕ) → Wrote was rx mid before between faults faults' → Wrote was rx rx' before between faults faults'
failed_on was mid rx' item between faults' is more rx before faults one =
    let P : WriterEnd → Type 0 = λ e. Wrote e rx rx' before between faults faults' in
    subst P (sym is) (wrote_less rx mid rx' item before between faults faults' (subst (λ (e : WriterEnd). Wrote e rx mid before between faults faults') is one) more)

-- a part of an item was written
pub part_emptied : (kept : List (List ℕ)) (rx mid rx' : Taking (List ℕ)) (item : List ℕ)
    → mid ≡ record rx { got = mid.got } → rx' ≡ record mid { got = mid.got ++ item ∷ [] } → IsPrefix rx'.got kept → Empties WriteFault kept rx rx'
part_emptied kept rx mid rx' item lane more begins = record {
  lane = ap (λ (x : Taking (List ℕ)). x.lane) more ∙ ap (λ (x : Taking (List ℕ)). x.lane) lane;
  begins = begins;
  all = λ (e : WriteFault ≡ Drained). absurd (cc);
}
