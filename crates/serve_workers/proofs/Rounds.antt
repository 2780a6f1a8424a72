-- The rounds of a writer: what it gathers, and what it writes of that.
use Rattle.std.proofs.Common.{◌≡◌, ℕ, List, [], ◌∷◌, ◌++◌, Option, Some, None, refl, sym, ◌∙◌, ap, subst, append_assoc, append-nil}
use Rattle.std.specs.List.{concat}
use Rattle.std.specs.Option.{option_to_list}
use Rattle.std.proofs.lemmas.List.Folds.{concat-append}
use Rattle.gps_outside.specs.Told.{Goes, Appends, AppendsPart}
use Rattle.gps_outside.proofs.Going.{goes_as}
use Rattle.gps_outside.proofs.Writing.{appends_on, part_on, appends_none}
use Rattle.serve_workers.specs.declared.writer.WriterEnd.{WriterEnd}
use Rattle.serve_workers.specs.declared.writer.WriterEnd.TheVariants.{Drained, WriteFault}
use Rattle.serve_workers.specs.Writing.{Writes, Gathers}

pub nothing_gathered : (before : List ℕ) (got : List (List ℕ)) → Gathers None before before got got
nothing_gathered before got = record { fresh = []; gets = sym (append-nil got); joins = refl }

fresh_on : (got now fresh : List (List ℕ)) (item : List ℕ) → now ≡ got ++ fresh → now ++ item ∷ [] ≡ got ++ (fresh ++ item ∷ [])
fresh_on got now fresh item is = ap (λ l. l ++ item ∷ []) is ∙ append_assoc got fresh (item ∷ [])

bytes_on : (fresh : List (List ℕ)) (item : List ℕ) → concat (fresh ++ item ∷ []) ≡ concat fresh ++ item
bytes_on fresh item = concat-append fresh (item ∷ []) ∙ ap (λ l. concat fresh ++ l) (append-nil item)

-- one item more in the buffer
pub gathered_more : (before joined : List ℕ) (got now : List (List ℕ)) (item : List ℕ)
    → Gathers None before joined got now → Gathers None before (joined ++ item) got (now ++ item ∷ [])
gathered_more before joined got now item g =
    let same : joined ≡ before ++ concat g.fresh = sym (append-nil joined) ∙ g.joins in record {
      fresh = g.fresh ++ item ∷ [];
      gets = fresh_on got now g.fresh item g.gets;
      joins =
          append-nil (joined ++ item) ∙ ap (λ l. l ++ item) same ∙ append_assoc before (concat g.fresh) item
          ∙ ap (λ l. before ++ l) (sym (bytes_on g.fresh item));
    }

-- one item that found no room
pub gathered_over : (before joined : List ℕ) (got now : List (List ℕ)) (item : List ℕ)
    → Gathers None before joined got now → Gathers (Some item) before joined got (now ++ item ∷ [])
gathered_over before joined got now item g =
    let same : joined ≡ before ++ concat g.fresh = sym (append-nil joined) ∙ g.joins in record {
      fresh = g.fresh ++ item ∷ [];
      gets = fresh_on got now g.fresh item g.gets;
      joins =
          ap (λ l. joined ++ l) (append-nil item) ∙ ap (λ l. l ++ item) same ∙ append_assoc before (concat g.fresh) item
          ∙ ap (λ l. before ++ l) (sym (bytes_on g.fresh item));
    }

pub nothing_written : (got : List (List ℕ)) (now : Option (List ℕ)) → Writes Drained got got now now
nothing_written got now = record { fresh = []; gets = sym (append-nil got); wrote = appends_none now }

got_on : (got mid now first second : List (List ℕ)) → mid ≡ got ++ first → now ≡ mid ++ second → now ≡ got ++ (first ++ second)
got_on got mid now first second one two = two ∙ ap (λ l. l ++ second) one ∙ append_assoc got first second

-- The bytes of the items that were got are written, but for those that stand in the buffer.
pub record WrittenBut (joined : List ℕ) (got got' : List (List ℕ)) (before after : Option (List ℕ)) : Type 0 where
  pub fresh : List (List ℕ)
  pub gets : got' ≡ got ++ fresh
  pub done : List ℕ
  pub bytes : concat fresh ≡ done ++ joined
  pub wrote : Goes (Appends done) before after

pub none_written : (joined : List ℕ) (got : List (List ℕ)) (now : Option (List ℕ)) → joined ≡ [] → WrittenBut joined got got now now
none_written joined got now none = record { fresh = []; gets = sym (append-nil got); done = []; bytes = sym none; wrote = appends_none now }

-- the buffer is empty
pub all_written : (joined : List ℕ) (got now : List (List ℕ)) (before after : Option (List ℕ)) → joined ≡ [] → WrittenBut joined got now before after
    → Writes Drained got now before after
all_written joined got now before after none w = record {
  fresh = w.fresh;
  gets = w.gets;
  wrote = subst (λ l. Goes (Appends l) before after) (sym (w.bytes ∙ ap (λ l. w.done ++ l) none ∙ append-nil w.done)) w.wrote;
}

-- what was got since, behind what was written
bytes_of : (over : Option (List ℕ)) (pending joined piece : List ℕ) (got mid now : List (List ℕ)) (before between : Option (List ℕ))
    (w : WrittenBut pending got mid before between) (g : Gathers over pending joined mid now) → piece ≡ joined
    → concat (w.fresh ++ g.fresh) ≡ w.done ++ (piece ++ concat (option_to_list over))
bytes_of over pending joined piece got mid now before between w g same =
    concat-append w.fresh g.fresh ∙ ap (λ l. l ++ concat g.fresh) w.bytes ∙ append_assoc w.done pending (concat g.fresh) ∙ ap (λ l. w.done ++ l) (sym g.joins)
    ∙ ap (λ l. w.done ++ (l ++ concat (option_to_list over))) (sym same)

-- the buffer was written; the item that found no room is still to be
pub buffer_written : (over : Option (List ℕ)) (pending joined piece left : List ℕ) (got mid now : List (List ℕ)) (before between after : Option (List ℕ))
    → piece ≡ joined → left ≡ concat (option_to_list over)
    → WrittenBut pending got mid before between → Gathers over pending joined mid now
    → Goes (Appends piece) between after
    → WrittenBut left got now before after
buffer_written over pending joined piece left got mid now before between after same left_is w g one = record {
  fresh = w.fresh ++ g.fresh;
  gets = got_on got mid now w.fresh g.fresh w.gets g.gets;
  done = w.done ++ piece;
  bytes =
      bytes_of over pending joined piece got mid now before between w g same ∙ sym (append_assoc w.done piece (concat (option_to_list over)))
      ∙ ap (λ l. (w.done ++ piece) ++ l) (sym left_is);
  wrote = appends_on w.done piece before between after w.wrote one;
}

first_part : (piece more x y : List ℕ) → AppendsPart piece x y → AppendsPart (piece ++ more) x y
first_part piece more x y p = (p.0, ((p.1.0.0 ++ more, ap (λ l. l ++ more) p.1.0.1 ∙ append_assoc p.0 p.1.0.0 more), p.1.1))

-- a part of the buffer was written
pub buffer_part_written : (over : Option (List ℕ)) (pending joined piece : List ℕ) (got mid now : List (List ℕ)) (before between after : Option (List ℕ))
    → piece ≡ joined
    → WrittenBut pending got mid before between → Gathers over pending joined mid now
    → Goes (AppendsPart piece) between after
    → Writes WriteFault got now before after
buffer_part_written over pending joined piece got mid now before between after same w g one =
    let more = concat (option_to_list over) in
    record {
      fresh = w.fresh ++ g.fresh;
      gets = got_on got mid now w.fresh g.fresh w.gets g.gets;
      wrote = subst (λ l. Goes (AppendsPart l) before after) (sym (bytes_of over pending joined piece got mid now before between w g same))
          (part_on w.done (piece ++ more) before between after w.wrote
          (goes_as (AppendsPart piece) (AppendsPart (piece ++ more)) between after (first_part piece more) one));
    }

-- an item that found no room was written
pub over_written : (item piece left : List ℕ) (got now : List (List ℕ)) (before after end : Option (List ℕ)) → piece ≡ item → left ≡ []
    → WrittenBut (concat (item ∷ [])) got now before after → Goes (Appends piece) after end
    → WrittenBut left got now before end
over_written item piece left got now before after end same none w one = record {
  fresh = w.fresh;
  gets = w.gets;
  done = w.done ++ piece;
  bytes =
      w.bytes ∙ ap (λ l. w.done ++ l) (append-nil item ∙ sym same) ∙ sym (append-nil (w.done ++ piece)) ∙ ap (λ l. (w.done ++ piece) ++ l) (sym none);
  wrote = appends_on w.done piece before after end w.wrote one;
}

-- a part of it was
pub over_part_written : (item piece : List ℕ) (got now : List (List ℕ)) (before after end : Option (List ℕ)) → piece ≡ item
    → WrittenBut (concat (item ∷ [])) got now before after → Goes (AppendsPart piece) after end
    → Writes WriteFault got now before end
over_part_written item piece got now before after end same w one = record {
  fresh = w.fresh;
  gets = w.gets;
  wrote = subst (λ l. Goes (AppendsPart l) before end) (sym (w.bytes ∙ ap (λ l. w.done ++ l) (append-nil item ∙ sym same)))
      (part_on w.done piece before after end w.wrote one);
}

-- the buffer begins with it
pub begun_with : (item joined : List ℕ) (got now : List (List ℕ)) (before after : Option (List ℕ)) → joined ≡ item
    → WrittenBut (concat (item ∷ [])) got now before after → WrittenBut joined got now before after
begun_with item joined got now before after is w = subst (λ l. WrittenBut l got now before after) (append-nil item ∙ sym is) w

all_is_part : (bytes x y : List ℕ) → Appends bytes x y → AppendsPart bytes x y
all_is_part bytes x y p = (bytes, (([], sym (append-nil bytes)), p))

-- what was written and not delivered is a part of what was due
pub undelivered : (end : WriterEnd) (got now : List (List ℕ)) (before after : Option (List ℕ)) → Writes end got now before after → Writes WriteFault got now before after
undelivered Drained got now before after w = record {
  fresh = w.fresh;
  gets = w.gets;
  wrote = goes_as (Appends (concat w.fresh)) (AppendsPart (concat w.fresh)) before after (all_is_part (concat w.fresh)) w.wrote;
}
undelivered WriteFault got now before after w = w
