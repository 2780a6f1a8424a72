-- The steps of a reader, one after another.
use Rattle.std.proofs.Common.{◌≡◌, ℕ, Bool, ◌+◌, ◌≤◌, List, [], ◌∷◌, ◌++◌, length, take, Option, Some, None, IfSome, ◌⊎◌, subst, inl, inr, refl, sym, ◌∙◌, ap, append_assoc, append-nil, length-append, arith}
use Rattle.std.specs.List.{flat_map}
use Rattle.std.proofs.lemmas.List.{nil_from_length}
use Rattle.std.proofs.lemmas.List.Concat.{flat_map-append}
use Rattle.std.proofs.lemmas.Grind.{common_steps}
use Rattle.std.proofs.lemmas.Option.{none-some, same_Some}
use Rattle.gps_outside.specs.Counts.{Rose}
use Rattle.gps_outside.specs.Told.{Stream, Goes, Stays, Passes, IsAtEnd, MayLose}
use Rattle.gps_outside.specs.ReadSteps.{TakesAll, TakesSome}
use Rattle.gps_outside.specs.Reads.{FitsBuffer, Reads}
use Rattle.gps_outside.specs.declared.source.ReadStep.{ReadStep}
use Rattle.gps_outside.specs.declared.source.ReadStep.TheVariants.{Got, End, Quiet, Failed}
use Rattle.gps_outside.proofs.Going.{goes_as, goes_on}
use Rattle.gps_lane.specs.declared.piece.Ending.{Ending}
use Rattle.gps_lane.specs.declared.piece.Ending.TheVariants as ending
use Rattle.gps_lane.specs.declared.piece.Piece.{Piece}
use Rattle.serve_workers.specs.declared.readers.ReaderStep.{ReaderStep}
use Rattle.serve_workers.specs.declared.readers.ReaderStep.TheVariants.{On, Over, Closed}
use Rattle.serve_workers.specs.Readings.{Each, HandsOn, Meets, StepHasCause, Took, TookIn, TakesMore, ReaderSteps, WasRead, is_fault, last_piece, over}

got_some : (n : ℕ) (buf : List ℕ) (faults quiets : ℕ) (x y : Stream) → (1 ≤ n) × (n ≤ length buf) → Passes (take n buf) x y → WasRead faults quiets x y
got_some n buf faults quiets x y fits passed = inl (grind (arith, common_steps))

-- a read is a reading, whatever it answers
pub was_read : (step : ReadStep) (buf : List ℕ) (before after : Option Stream) (faults faults' quiets quiets' : ℕ)
    → FitsBuffer step (length buf) → Reads step buf before after
    → (step ≡ Failed → Rose faults faults') → (step ≡ Quiet → Rose quiets quiets')
    → Goes (WasRead faults' quiets') before after
was_read (Got n) buf before after faults faults' quiets quiets' fits reads failed quiet =
    goes_as (Passes (take n buf)) (WasRead faults' quiets') before after (λ x y p. got_some n buf faults' quiets' x y fits p) reads
was_read End buf before after faults faults' quiets quiets' fits reads failed quiet =
    goes_as IsAtEnd (WasRead faults' quiets') before after (λ x y p. inr (inr (inr (sym (ap (λ (s : Stream). s.left) p.same) ∙ p.none)))) reads
was_read Quiet buf before after faults faults' quiets quiets' fits reads failed quiet =
    goes_as Stays (WasRead faults' quiets') before after (λ x y p. inr (inl (omega (arith, quiet refl)))) reads
was_read Failed buf before after faults faults' quiets quiets' fits reads failed quiet =
    goes_as MayLose (WasRead faults' quiets') before after (λ x y p. inr (inr (inl (omega (arith, failed refl))))) reads

more_of : (n : ℕ) (buf : List ℕ) (x y : Stream) → n ≤ 512 → Passes (take n buf) x y → TakesMore [] x y
more_of n buf x y fits p = (take n buf, (grind (arith, common_steps), record { rest = y.left; next = p.next; joins = p.joins; kept = inl refl }))

-- bytes that were read and not put
pub dropped : (part : Piece → List ℕ) (P : Piece → Type 0) (n : ℕ) (buf : List ℕ) (put : List Piece) (before after : Option Stream)
    → n ≤ 512 → Goes (Passes (take n buf)) before after → ReaderSteps part P Closed put put before after
dropped part P n buf put before after fits reads = record {
  pieces = [];
  puts = sym (append-nil put);
  good = tt;
  took = goes_as (Passes (take n buf)) (TakesMore []) before after (λ x y p. more_of n buf x y fits p) reads;
}

pub no_memory : (part : Piece → List ℕ) (P : Piece → Type 0) (n : ℕ) (buf : List ℕ) (put : List Piece) (before after : Option Stream)
    → n ≤ 512 → Goes (Passes (take n buf)) before after → ReaderSteps part P (Over ending.NoMemory) put put before after
no_memory part P n buf put before after fits reads = record {
  pieces = [];
  puts = sym (append-nil put);
  good = tt;
  took = goes_as (Passes (take n buf)) (TakesMore []) before after (λ x y p. more_of n buf x y fits p) reads;
}

nothing_more : (x y : Stream) → Stays x y → TakesMore [] x y
nothing_more x y p = (
  [],
  (
    grind (arith, common_steps),
    record {
      rest = x.left;
      next = refl;
      joins = ap (λ (s : Stream). s.taken) (sym p) ∙ sym (append-nil x.taken);
      kept = inl (ap (λ (s : Stream). s.left) (sym p));
    },
  ),
)

-- told to end at a read that gave nothing
pub stopped : (part : Piece → List ℕ) (P : Piece → Type 0) (put : List Piece) (before after : Option Stream)
    → Goes Stays before after → ReaderSteps part P Closed put put before after
stopped part P put before after stays = record {
  pieces = [];
  puts = sym (append-nil put);
  good = tt;
  took = goes_as Stays (TakesMore []) before after nothing_more stays;
}

nothing_passed : (now : Option Stream) → Goes (Passes []) now now
nothing_passed None = tt
nothing_passed (Some now) = record { next = refl; joins = sym (append-nil now.taken) }

-- before the first step
pub no_step : (part : Piece → List ℕ) (P : Piece → Type 0) (put : List Piece) (now : Option Stream) → ReaderSteps part P On put put now now
no_step part P put now = record { pieces = []; puts = sym (append-nil put); good = tt; took = nothing_passed now }

each_on : (P : Piece → Type 0) (first second : List Piece) → Each P first → Each P second → Each P (first ++ second)
each_on P [] second one two = two
each_on P (piece ∷ first) second one two = (one.0, each_on P first second one.1 two)

pub pass_on : (first second : List ℕ) (x y z : Stream) → Passes first x y → Passes second y z → Passes (first ++ second) x z
pass_on first second x y z p q = record {
  next = p.next ∙ ap (λ l. first ++ l) q.next ∙ sym (append_assoc first second z.left);
  joins = q.joins ∙ ap (λ l. l ++ second) p.joins ∙ append_assoc x.taken first second;
}

pub all_on : (first second : List ℕ) (x y z : Stream) → Passes first x y → TakesAll second y z → TakesAll (first ++ second) x z
all_on first second x y z p q = record {
  all = p.next ∙ ap (λ l. first ++ l) q.all;
  joins = q.joins ∙ ap (λ l. l ++ second) p.joins ∙ append_assoc x.taken first second;
  none = q.none;
}

pub some_on : (first second : List ℕ) (x y z : Stream) → Passes first x y → TakesSome second y z → TakesSome (first ++ second) x z
some_on first second x y z p q = record {
  rest = q.rest;
  next = p.next ∙ ap (λ l. first ++ l) q.next ∙ sym (append_assoc first second q.rest);
  joins = q.joins ∙ ap (λ l. l ++ second) p.joins ∙ append_assoc x.taken first second;
  kept = q.kept;
}

more_on : (first second : List ℕ) (x y z : Stream) → Passes first x y → TakesMore second y z → TakesMore (first ++ second) x z
more_on first second x y z p q = (q.0, (q.1.0, rw (append_assoc first second q.0) (some_on first (second ++ q.0) x y z p q.1.1)))

took_on : (round : ReaderStep) (first second : List ℕ) (before now after : Option Stream)
    → Goes (Passes first) before now → TookIn round second now after → TookIn round (first ++ second) before after
took_on On first second before now after one two =
    goes_on (Passes first) (Passes second) (Passes (first ++ second)) before now after (pass_on first second) one two
took_on (Over ending.End) first second before now after one two =
    goes_on (Passes first) (TakesAll second) (TakesAll (first ++ second)) before now after (all_on first second) one two
took_on (Over ending.Failed) first second before now after one two =
    goes_on (Passes first) (TakesSome second) (TakesSome (first ++ second)) before now after (some_on first second) one two
took_on (Over ending.NoMemory) first second before now after one two =
    goes_on (Passes first) (TakesMore second) (TakesMore (first ++ second)) before now after (more_on first second) one two
took_on Closed first second before now after one two =
    goes_on (Passes first) (TakesMore second) (TakesMore (first ++ second)) before now after (more_on first second) one two

pub rounds_on : (part : Piece → List ℕ) (P : Piece → Type 0) (round : ReaderStep) (put mid put' : List Piece) (before now after : Option Stream)
    → ReaderSteps part P On put mid before now → ReaderSteps part P round mid put' now after → ReaderSteps part P round put put' before after
rounds_on part P round put mid put' before now after one two = record {
  pieces = one.pieces ++ two.pieces;
  puts = two.puts ∙ ap (λ l. l ++ two.pieces) one.puts ∙ append_assoc put one.pieces two.pieces;
  good = each_on P one.pieces two.pieces one.good two.good;
  took = rw (flat_map-append part one.pieces two.pieces)
      (took_on round (flat_map part one.pieces) (flat_map part two.pieces) before now after one.took two.took);
}

all_some : (bytes : List ℕ) (x y : Stream) → TakesAll bytes x y → TakesMore bytes x y
all_some bytes x y p = (
  [],
  (
    grind (arith, common_steps),
    record {
      rest = [];
      next = p.all ∙ sym (append-nil bytes) ∙ sym (append-nil (bytes ++ []));
      joins = p.joins ∙ ap (λ l. x.taken ++ l) (sym (append-nil bytes));
      kept = inr p.none;
    },
  ),
)

some_more : (bytes : List ℕ) (x y : Stream) → TakesSome bytes x y → TakesMore bytes x y
some_more bytes x y p = ([], (grind (arith, common_steps), rw (append-nil bytes) p))

took_less : (last : Ending) (bytes : List ℕ) (before after : Option Stream) → Took (Some last) bytes before after → Took None bytes before after
took_less ending.End bytes before after took = goes_as (TakesAll bytes) (TakesMore bytes) before after (all_some bytes) took
took_less ending.Failed bytes before after took = goes_as (TakesSome bytes) (TakesMore bytes) before after (some_more bytes) took
took_less ending.NoMemory bytes before after took = took

-- told to end before the last piece was put
unsaid : (part : Piece → List ℕ) (P : Piece → Type 0) (last : Ending) (put mid : List Piece) (before after : Option Stream)
    → ReaderSteps part P (Over last) put mid before after → HandsOn part P None put mid before after
unsaid part P last put mid before after rounds = record {
  pieces = rounds.pieces;
  puts = rounds.puts ∙ sym (append-nil (put ++ rounds.pieces));
  good = rounds.good;
  took = took_less last (flat_map part rounds.pieces) before after rounds.took;
}

-- Behind a reading the source is closed: what it has left may be lost.
none_left : (y z : Stream) → y.left ≡ [] → (z.left ≡ y.left) ⊎ (z.left ≡ []) → z.left ≡ []
none_left y z none (inl kept) = kept ∙ none
none_left y z none (inr lost) = lost

rest_left : (rest : List ℕ) (y z : Stream) → (y.left ≡ rest) ⊎ (y.left ≡ []) → (z.left ≡ y.left) ⊎ (z.left ≡ []) → (z.left ≡ rest) ⊎ (z.left ≡ [])
rest_left rest y z p (inr lost) = inr lost
rest_left rest y z (inl same) (inl kept) = inl (kept ∙ same)
rest_left rest y z (inr none) (inl kept) = inr (kept ∙ none)

pub all_closed : (bytes : List ℕ) (x y z : Stream) → TakesAll bytes x y → MayLose y z → TakesAll bytes x z
all_closed bytes x y z p q = record { all = p.all; joins = q.same ∙ p.joins; none = none_left y z p.none q.lost }

pub some_closed : (bytes : List ℕ) (x y z : Stream) → TakesSome bytes x y → MayLose y z → TakesSome bytes x z
some_closed bytes x y z p q = record { rest = p.rest; next = p.next; joins = q.same ∙ p.joins; kept = rest_left p.rest y z p.kept q.lost }

more_closed : (bytes : List ℕ) (x y z : Stream) → TakesMore bytes x y → MayLose y z → TakesMore bytes x z
more_closed bytes x y z p q = (p.0, (p.1.0, some_closed (bytes ++ p.0) x y z p.1.1 q))

took_closed : (result : Option Ending) (bytes : List ℕ) (before now after : Option Stream)
    → Took result bytes before now → Goes MayLose now after → Took result bytes before after
took_closed (Some ending.End) bytes before now after took closed =
    goes_on (TakesAll bytes) MayLose (TakesAll bytes) before now after (all_closed bytes) took closed
took_closed (Some ending.Failed) bytes before now after took closed =
    goes_on (TakesSome bytes) MayLose (TakesSome bytes) before now after (some_closed bytes) took closed
took_closed (Some ending.NoMemory) bytes before now after took closed =
    goes_on (TakesMore bytes) MayLose (TakesMore bytes) before now after (more_closed bytes) took closed
took_closed None bytes before now after took closed =
    goes_on (TakesMore bytes) MayLose (TakesMore bytes) before now after (more_closed bytes) took closed

pub steps_closed : (part : Piece → List ℕ) (P : Piece → Type 0) (result : Option Ending) (put put' : List Piece) (before now after : Option Stream)
    → ReaderSteps part P (over result) put put' before now → Goes MayLose now after → ReaderSteps part P (over result) put put' before after
steps_closed part P (Some last) put put' before now after steps closed = record {
  pieces = steps.pieces;
  puts = steps.puts;
  good = steps.good;
  took = took_closed (Some last) (flat_map part steps.pieces) before now after steps.took closed;
}
steps_closed part P None put put' before now after steps closed = record {
  pieces = steps.pieces;
  puts = steps.puts;
  good = steps.good;
  took = took_closed None (flat_map part steps.pieces) before now after steps.took closed;
}

still_read : (faults quiets : ℕ) (x y z : Stream) → WasRead faults quiets x y → MayLose y z → WasRead faults quiets x z
still_read faults quiets x y z (inl some) q = inl (rw q.same some)
still_read faults quiets x y z (inr (inl quiet)) q = inr (inl quiet)
still_read faults quiets x y z (inr (inr (inl fault))) q = inr (inr (inl fault))
still_read faults quiets x y z (inr (inr (inr none))) q = inr (inr (inr (none_left y z none q.lost)))

-- a source that was read, and then closed
pub was_read_closed : (faults faults' quiets quiets' : ℕ) (before now after : Option Stream) → faults' ≡ faults → quiets' ≡ quiets
    → Goes (WasRead faults quiets) before now → Goes MayLose now after → Goes (WasRead faults' quiets') before after
was_read_closed faults faults' quiets quiets' before now after same_faults same_quiets was closed =
    subst (λ f. Goes (WasRead f quiets') before after) (sym same_faults)
    (subst (λ q. Goes (WasRead faults q) before after) (sym same_quiets)
    (goes_on (WasRead faults quiets) MayLose (WasRead faults quiets) before now after (still_read faults quiets) was closed))

-- Before a read the source is closed: what was left may be lost, and then nothing comes.
front_none : (bytes rest : List ℕ) → [] ≡ bytes ++ rest → bytes ≡ []
front_none bytes rest is =
    let both : 0 ≡ length bytes + length rest = ap length is ∙ length-append bytes rest in
    nil_from_length bytes (omega (arith, both))

back_none : (bytes rest : List ℕ) → [] ≡ bytes ++ rest → rest ≡ []
back_none bytes rest is =
    let both : 0 ≡ length bytes + length rest = ap length is ∙ length-append bytes rest in
    nil_from_length rest (omega (arith, both))

gone : (rest : List ℕ) (z : Stream) → rest ≡ [] → (z.left ≡ rest) ⊎ (z.left ≡ []) → z.left ≡ []
gone rest z none (inl same) = same ∙ none
gone rest z none (inr lost) = lost

closed_some : (bytes : List ℕ) (x y z : Stream) → y.taken ≡ x.taken → (y.left ≡ x.left) ⊎ (y.left ≡ []) → TakesSome bytes y z → TakesSome bytes x z
closed_some bytes x y z same (inl kept) q =
    record { rest = q.rest; next = sym kept ∙ q.next; joins = q.joins ∙ ap (λ l. l ++ bytes) same; kept = q.kept }
closed_some bytes x y z same (inr lost) q = record {
  rest = x.left;
  next = ap (λ l. l ++ x.left) (sym (front_none bytes q.rest (sym lost ∙ q.next)));
  joins = q.joins ∙ ap (λ l. l ++ bytes) same;
  kept = inr (gone q.rest z (back_none bytes q.rest (sym lost ∙ q.next)) q.kept);
}

closed_more : (bytes : List ℕ) (x y z : Stream) → MayLose x y → TakesMore bytes y z → TakesMore bytes x z
closed_more bytes x y z p q = (q.0, (q.1.0, closed_some (bytes ++ q.0) x y z p.same p.lost q.1.1))

pub was_read_on : (step : ReadStep) (buf : List ℕ) (first before after : Option Stream) (faults faults' quiets quiets' : ℕ)
    → Goes MayLose first before → FitsBuffer step (length buf) → Reads step buf before after
    → (step ≡ Failed → Rose faults faults') → (step ≡ Quiet → Rose quiets quiets')
    → Goes (WasRead faults' quiets') first after
was_read_on step buf first before after faults faults' quiets quiets' closed fits reads failed quiet =
    goes_on MayLose (WasRead faults' quiets') (WasRead faults' quiets') first before after (λ x y z p q. q) closed
    (was_read step buf before after faults faults' quiets quiets' fits reads failed quiet)

pub dropped_all : (n : ℕ) (buf : List ℕ) (first before after : Option Stream) → Goes MayLose first before → n ≤ 512
    → Goes (Passes (take n buf)) before after → Goes (TakesMore []) first after
dropped_all n buf first before after closed fits reads =
    goes_on MayLose (Passes (take n buf)) (TakesMore []) first before after (λ x y z p q. closed_more [] x y z p (more_of n buf y z fits q)) closed reads

pub nothing_came : (first before after : Option Stream) → Goes MayLose first before → Goes Stays before after → Goes (TakesMore []) first after
nothing_came first before after closed stays =
    goes_on MayLose Stays (TakesMore []) first before after (λ x y z p q. closed_more [] x y z p (nothing_more y z q)) closed stays

pub nothing_was_left : (first before after : Option Stream) → Goes MayLose first before → Goes IsAtEnd before after → Goes (TakesMore []) first after
nothing_was_left first before after closed ends =
    goes_on MayLose IsAtEnd (TakesMore []) first before after (λ x y z p q. closed_more [] x y z p (nothing_more y z q.same)) closed ends

lost_some : (x y : Stream) → MayLose x y → TakesSome [] x y
lost_some x y p = record { rest = x.left; next = refl; joins = p.same ∙ sym (append-nil x.taken); kept = p.lost }

pub nothing_taken : (first before after : Option Stream) → Goes MayLose first before → Goes MayLose before after → Goes (TakesSome []) first after
nothing_taken first before after closed fails =
    goes_on MayLose MayLose (TakesSome []) first before after (λ x y z p q. closed_some [] x y z p.same p.lost (lost_some y z q)) closed fails

pub stays : (now : Option Stream) → Goes Stays now now
stays None = tt
stays (Some now) = refl

-- nothing was put
pub none_put : (part : Piece → List ℕ) (P : Piece → Type 0) (last : Ending) (put : List Piece) (before after : Option Stream)
    → Took (Some last) [] before after → ReaderSteps part P (Over last) put put before after
none_put part P last put before after took = record { pieces = []; puts = sym (append-nil put); good = tt; took = took }

-- the last piece was put, or not
pub handed : (part : Piece → List ℕ) (P : Piece → Type 0) (result : Option Ending) (last : Ending) (put mid : List Piece) (before after : Option Stream)
    → IfSome result (λ said. said ≡ last)
    → ReaderSteps part P (Over last) put mid before after → HandsOn part P result put (mid ++ last_piece result) before after
handed part P None last put mid before after same rounds = rw (append-nil mid) (unsaid part P last put mid before after rounds)
handed part P (Some said) last put mid before after same rounds = record {
  pieces = rounds.pieces;
  puts = ap (λ l. l ++ last_piece (Some said)) rounds.puts;
  good = rounds.good;
  took = rw same rounds.took;
}

-- the same if nothing may have been met, because the reader was told to end
pub handed_by : (part : Piece → List ℕ) (P : Piece → Type 0) (met told : Option Ending) (put mid : List Piece) (before after : Option Stream)
    → IfSome told (λ last. met ≡ Some last)
    → ReaderSteps part P (over met) put mid before after → HandsOn part P told put (mid ++ last_piece told) before after
handed_by part P None None put mid before after same rounds = record {
  pieces = rounds.pieces;
  puts = ap (λ l. l ++ []) rounds.puts;
  good = rounds.good;
  took = rounds.took;
}
handed_by part P None (Some said) put mid before after same rounds = absurd cc
handed_by part P (Some last) None put mid before after same rounds = handed part P None last put mid before after tt rounds
handed_by part P (Some last) (Some said) put mid before after same rounds =
    handed part P (Some said) last put mid before after (sym (same_Some last said same)) rounds

-- a fault that was met, and what was told of it
not_said : {X : Type 0} (told : Option Ending) (last : Ending) → IfSome told (λ said. Some last ≡ Some said) → (last ≡ ending.Failed → X) → told ≡ Some ending.Failed → X
not_said None last same other is = absurd cc
not_said (Some said) last same other is = other (same_Some last said same ∙ same_Some said ending.Failed is)

met_by : (met told : Option Ending) (before now : ℕ) → IfSome told (λ last. met ≡ Some last) → StepHasCause (over met) before now → Meets (is_fault met) told before now
met_by None None before now same cause = record { rose = λ e. absurd cc; same = λ e. cause; said = λ e. absurd cc }
met_by None (Some said) before now same cause = absurd cc
met_by (Some ending.End) told before now same cause = record { rose = λ e. absurd cc; same = λ e. cause; said = not_said told ending.End same (λ e. absurd cc) }
met_by (Some ending.NoMemory) told before now same cause = record { rose = λ e. absurd cc; same = λ e. cause; said = not_said told ending.NoMemory same (λ e. absurd cc) }
met_by (Some ending.Failed) told before now same cause = record { rose = λ e. cause; same = λ e. absurd cc; said = λ e. refl }

pub meets : (met told : Option Ending) (failed : Bool) (before now : ℕ) → failed ≡ is_fault met → IfSome told (λ last. met ≡ Some last)
    → StepHasCause (over met) before now → Meets failed told before now
meets met told failed before now is same cause = subst (λ f. Meets f told before now) (sym is) (met_by met told before now same cause)

-- only the last piece was put, or nothing
pub handed_last : (part : Piece → List ℕ) (P : Piece → Type 0) (told : Option Ending) (last : Ending) (put : List Piece) (before after : Option Stream)
    → IfSome told (λ said. Some last ≡ Some said) → Took (Some last) [] before after → HandsOn part P told put (put ++ last_piece told) before after
handed_last part P told last put before after same took = handed_by part P (Some last) told put put before after same (none_put part P last put before after took)

-- a source that was closed and not read
pub refused : (part : Piece → List ℕ) (P : Piece → Type 0) (result : Option Ending) (put : List Piece) (before after : Option Stream)
    → Goes MayLose before after → IfSome result (λ said. Some ending.NoMemory ≡ Some said) → HandsOn part P result put (put ++ last_piece result) before after
refused part P result put before after closed same =
    handed_last part P result ending.NoMemory put before after same (goes_as MayLose (TakesMore []) before after (λ x y p. some_more [] x y (lost_some x y p)) closed)
