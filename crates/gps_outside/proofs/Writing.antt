-- A piece that is written by parts.
use Rattle.std.proofs.Common.{◌≡◌, ℕ, ◌+◌, ◌-◌, ◌≤◌, List, [], ◌++◌, Bool, true, false, Option, Some, None, option_map, length, take, drop, refl, sym, ◌∙◌, ap, append_assoc, arith, length-append, subst}
use Rattle.std.proofs.lemmas.List.{take_rest, take-append-drop, append-nil}
use Rattle.std.proofs.lemmas.Grind.{common_steps}
use Rattle.gps_outside.specs.Told.{Goes, Appends, AppendsPart}
use Rattle.gps_outside.specs.Waiting.{Waits, Sends}
use Rattle.gps_outside.specs.Writes.{WritesAll}
use Rattle.gps_outside.proofs.Going.{goes_as, goes_on}

pub begun : (piece : List ℕ) (now : Option (List ℕ)) → Waits piece piece now now
begun piece None = record { front = []; split = grind (arith, common_steps); wrote = tt }
begun piece (Some x) = record { front = []; split = grind (arith, common_steps); wrote = grind (arith, common_steps) }

-- `take (length rest - n) (drop n rest)` is what `&rest[n..]` shows
pub written_more : (n : ℕ) (piece rest : List ℕ) (before now after : Option (List ℕ))
    → Waits piece rest before now
    → Goes (Appends (take n rest)) now after
    → Waits piece (take (length rest - n) (drop n rest)) before after
written_more n piece rest before now after under wrote = record {
  front = under.front ++ take n rest;
  split = rw (take_rest, append_assoc, take-append-drop) under.split;
  wrote = goes_on (Appends under.front) (Appends (take n rest)) (Appends (under.front ++ take n rest)) before now after
      (λ x y z p q. grind (arith, common_steps)) under.wrote wrote;
}

-- what was written is told by a function, if a sink that is not modelled stays so
pub appended : (piece : List ℕ) (before now : Option (List ℕ)) → Goes (Appends piece) before now → (before ≡ None → now ≡ None)
    → now ≡ option_map (λ bytes. bytes ++ piece) before
appended piece None now wrote unmodelled = unmodelled refl
appended piece (Some bytes) None wrote unmodelled = absurd wrote
appended piece (Some bytes) (Some more) wrote unmodelled = ap Some wrote

-- an empty piece has no rest to write
pub not_empty : (n : ℕ) (piece rest : List ℕ) (before now : Option (List ℕ))
    → Waits piece rest before now
    → (1 ≤ n) × (n ≤ length rest)
    → piece ≡ [] → ⊥
not_empty n piece rest before now under fits none =
    let whole : length piece ≡ length under.front + length rest = ap length under.split ∙ length-append under.front rest in
    let short : length piece ≡ 0 = ap length none in
    omega arith

-- one piece after another
pub appends_on : (piece more : List ℕ) (before now after : Option (List ℕ))
    → Goes (Appends piece) before now → Goes (Appends more) now after → Goes (Appends (piece ++ more)) before after
appends_on piece more before now after first second =
    goes_on (Appends piece) (Appends more) (Appends (piece ++ more)) before now after (λ x y z p q. grind (arith, common_steps)) first second

-- a piece, and then a part of another one, are a part of both together
pub part_on : (piece more : List ℕ) (before now after : Option (List ℕ))
    → Goes (Appends piece) before now → Goes (AppendsPart more) now after → Goes (AppendsPart (piece ++ more)) before after
part_on piece more before now after first second =
    goes_on (Appends piece) (AppendsPart more) (AppendsPart (piece ++ more)) before now after
    (λ x y z p q. (
      piece ++ q.0,
      (
        (q.1.0.0, ap (λ rest. piece ++ rest) q.1.0.1 ∙ sym (append_assoc piece q.0 q.1.0.0)),
        q.1.1 ∙ ap (λ front. front ++ q.0) p ∙ append_assoc x piece q.0,
      ),
    ))
    first second

-- and so are the pieces that are written whole, if more was due
pub part_of : (piece more : List ℕ) (before after : Option (List ℕ))
    → Goes (Appends piece) before after → Goes (AppendsPart (piece ++ more)) before after
part_of piece more before after written =
    goes_as (Appends piece) (AppendsPart (piece ++ more)) before after (λ x y p. (piece, ((more, refl), p))) written

pub appends_none : (now : Option (List ℕ)) → Goes (Appends []) now now
appends_none None = tt
appends_none (Some written) = grind (arith, common_steps)

-- a prefix of a piece is one of a longer piece
pub part_longer : (piece more : List ℕ) (before after : Option (List ℕ))
    → Goes (AppendsPart piece) before after → Goes (AppendsPart (piece ++ more)) before after
part_longer piece more before after part =
    goes_as (AppendsPart piece) (AppendsPart (piece ++ more)) before after
    (λ x y p. (p.0, ((p.1.0.0 ++ more, ap (λ l. l ++ more) p.1.0.1 ∙ append_assoc p.0 p.1.0.0 more), p.1.1)))
    part

-- more follows what waits
pub waits_more : (due rest more : List ℕ) (before after : Option (List ℕ)) → Waits due rest before after → Waits (due ++ more) (rest ++ more) before after
waits_more due rest more before after waits = record {
  front = waits.front;
  split = ap (λ l. l ++ more) waits.split ∙ append_assoc waits.front rest more;
  wrote = waits.wrote;
}

-- of what waited a front was written one after another
pub waits_on : (due rest less : List ℕ) (before now after : Option (List ℕ))
    → Waits due rest before now → Waits rest less now after → Waits due less before after
waits_on due rest less before now after first second = record {
  front = first.front ++ second.front;
  split = first.split ∙ ap (λ l. first.front ++ l) second.split ∙ sym (append_assoc first.front second.front less);
  wrote = appends_on first.front second.front before now after first.wrote second.wrote;
}

-- what waited was written in part
pub waits_part : (due rest : List ℕ) (before now after : Option (List ℕ))
    → Waits due rest before now → Goes (AppendsPart rest) now after → Goes (AppendsPart due) before after
waits_part due rest before now after first part =
    subst (λ l. Goes (AppendsPart l) before after) (sym first.split) (part_on first.front rest before now after first.wrote part)

-- what waited was written
pub waits_all : (due rest : List ℕ) (before now after : Option (List ℕ))
    → Waits due rest before now → Goes (Appends rest) now after → Goes (Appends due) before after
waits_all due rest before now after first all =
    subst (λ l. Goes (Appends l) before after) (sym first.split) (appends_on first.front rest before now after first.wrote all)

-- nothing waits any more
pub waits_none : (due : List ℕ) (before after : Option (List ℕ)) → Goes (Appends due) before after → Waits due [] before after
waits_none due before after all = record { front = due; split = sym (append-nil due); wrote = all }

pub none_waits : (due rest : List ℕ) (before after : Option (List ℕ)) → rest ≡ [] → Waits due rest before after → Goes (Appends due) before after
none_waits due rest before after none waits =
    let whole : due ≡ waits.front = waits.split ∙ ap (λ l. waits.front ++ l) none ∙ append-nil waits.front in
    subst (λ l. Goes (Appends l) before after) (sym whole) waits.wrote

-- what waited was written, and then a piece
pub written_through : (wrote : Bool) (waits piece rest : List ℕ) (before now after : Option (List ℕ))
    → Goes (Appends waits) before now → WritesAll wrote piece now after → rest ≡ [] → Sends wrote (waits ++ piece) rest before after
written_through true waits piece rest before now after first second none =
    subst (λ l. Waits (waits ++ piece) l before after) (sym none)
    (waits_none (waits ++ piece) before after (appends_on waits piece before now after first second))
written_through false waits piece rest before now after first second none = part_on waits piece before now after first second
