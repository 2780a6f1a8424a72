-- What is kept of the bytes that were handed on, call by call.
use Rattle.std.proofs.Common.{◌≡◌, ◌≢◌, inl, inr, ℕ, Bool, true, false, ◌++◌, ◌∷◌, [], List, Option, None, Some, IfSome, ap, refl, sym, subst, ◌∙◌, append_assoc}
use Rattle.std.proofs.lemmas.List.{append-nil}
use Rattle.std.proofs.lemmas.Option.{none-some}
use Rattle.gps_report.specs.declared.packet.Packet.{Packet}
use Rattle.packet_cut.specs.Packets.{packets_of, rest_from, rest_of, stamped}
use Rattle.packet_cut.specs.Standing.{StandsFor}
use Rattle.gps_outside.specs.declared.source.ReadStep.{ReadStep}
use Rattle.gps_outside.specs.declared.source.ReadStep.TheVariants.{Got, End, Quiet, Failed}
use Rattle.gps_outside.specs.Reads.{Reads}
use Rattle.gps_outside.specs.Told.{Stream, Goes}
use Rattle.cycle_gap.specs.End.{IsRunning, Woven, end_of_epoch, no_stamp, open_in, packets_in}
use Rattle.cycle_gap.specs.End.{nothing, goes_on, frame_follows}
use Rattle.cycle_gap.specs.Handed.{Cycle, HandsOn, Kept, KeepsGap, MayEnd, RunsOn, Stands, Took, got_of}
use Rattle.cycle_gap.proofs.Joining.{open_on, open_with_end, packets_on}

if_gap : (gap : Option ℕ) (P : Type 0) → (gap ≢ None → P) → IfSome gap (λ _. P)
if_gap None P f = tt
if_gap (Some g) P f = f (λ e. none-some g (sym e))

with_gap : (gap : Option ℕ) (P : Type 0) → gap ≢ None → IfSome gap (λ _. P) → P
with_gap None P some h = absurd (some refl)
with_gap (Some g) P some h = h

clash : {P : Type 0} (b : Bool) → b ≡ false → b ≡ true → P
clash true f t = absurd (cc)
clash false f t = absurd (cc)

-- only what is left changed, and the bytes with it are the same
pub left_moved : (kept kept' : Kept) (given given' taken : List ℕ) → kept'.pending ≡ kept.pending → kept'.gap ≡ kept.gap → kept'.is_running ≡ kept.is_running
    → given ++ kept.left ≡ given' ++ kept'.left → Stands kept given taken → Stands kept' given' taken
left_moved kept kept' given given' taken pending gap running same h = record {
  woven = subst (λ t. Woven t taken) same (h.woven);
  pending = subst (λ t. IfSome kept'.gap (λ _. StandsFor kept'.pending (stamped no_stamp t))) same
      (subst (λ o. IfSome kept'.gap (λ _. StandsFor o (stamped no_stamp (given ++ kept.left)))) (sym pending)
      (subst (λ o. IfSome o (λ _. StandsFor kept.pending (stamped no_stamp (given ++ kept.left)))) (sym gap) (h.pending)));
  running = subst (λ t. IfSome kept'.gap (λ _. kept'.is_running ≡ true → IsRunning (packets_in t))) same
      (subst (λ b. IfSome kept'.gap (λ _. b ≡ true → IsRunning (packets_in (given ++ kept.left)))) (sym running)
      (subst (λ o. IfSome o (λ _. kept.is_running ≡ true → IsRunning (packets_in (given ++ kept.left)))) (sym gap) (h.running)));
}

-- a part of what was left was handed on
pub left_handed : (kept kept' : Kept) (piece given taken : List ℕ) → kept'.pending ≡ kept.pending → kept'.gap ≡ kept.gap → kept'.is_running ≡ kept.is_running
    → kept.left ≡ piece ++ kept'.left → Stands kept given taken → Stands kept' (given ++ piece) taken
left_handed kept kept' piece given taken pending gap running parts h =
    left_moved kept kept' given (given ++ piece) taken pending gap running
    (ap (λ t. given ++ t) parts ∙ sym (append_assoc given piece kept'.left)) h

with_none : (given left : List ℕ) → left ≡ [] → given ++ left ≡ given
with_none given left none = ap (λ t. given ++ t) none ∙ append-nil given

-- what is open if nothing is left
open_is : (kept : Kept) (given taken : List ℕ) → kept.left ≡ [] → kept.gap ≢ None → Stands kept given taken → kept.pending ≡ open_in given
open_is kept given taken none some h = with_gap kept.gap _ some (h.pending) ∙ ap (λ t. open_in t) (with_none given kept.left none)

runs_with : (before : Bool) (front more : List Packet) → (before ≡ true → IsRunning front) → RunsOn before more → IsRunning (front ++ more)
runs_with before front more was (inl same) = subst IsRunning (sym (append-nil front) ∙ ap (λ t. front ++ t) (sym same.1)) (was same.0)
runs_with before front more was (inr runs) = record {
  front = front ++ runs.front;
  last = runs.last;
  are = ap (λ t. front ++ t) (runs.are) ∙ sym (append_assoc front runs.front (runs.last ∷ []));
  other = runs.other;
}

-- a piece was handed on
pub passed : (kept kept' : Kept) (piece given taken : List ℕ) → kept.left ≡ [] → kept'.left ≡ [] → KeepsGap kept.gap kept'.gap
    → (kept'.gap ≢ None → kept'.pending ≡ rest_of (kept.pending ++ stamped no_stamp piece))
    → (kept'.gap ≢ None → kept'.is_running ≡ true → RunsOn kept.is_running (packets_of (kept.pending ++ stamped no_stamp piece)))
    → Stands kept given taken → Stands kept' (given ++ piece) (taken ++ piece)
passed kept kept' piece given taken none none' keeps pending running h =
    let all : (given ++ piece) ++ kept'.left ≡ given ++ piece = with_none (given ++ piece) kept'.left none' in
    let before : given ++ kept.left ≡ given = with_none given kept.left none in
    let was : kept'.gap ≢ None → kept.gap ≢ None = λ some e. some (keeps some ∙ e) in
    record {
      woven = subst (λ t. Woven t (taken ++ piece)) (sym all) (goes_on given taken piece (subst (λ t. Woven t taken) before (h.woven)));
      pending = if_gap kept'.gap _ (λ some.
          pending some
          ∙ ap (λ t. rest_of (t ++ stamped no_stamp piece)) (open_is kept given taken none (was some) h)
          ∙ sym (open_on given piece)
          ∙ ap (λ t. open_in t) (sym all));
      running = if_gap kept'.gap _ (λ some on.
          let gained : packets_in (given ++ piece) ≡ packets_in given ++ packets_of (kept.pending ++ stamped no_stamp piece) =
          packets_on given piece
          ∙ ap (λ t. packets_in given ++ packets_of (t ++ stamped no_stamp piece)) (sym (open_is kept given taken none (was some) h)) in
          subst IsRunning (sym gained ∙ ap (λ t. packets_in t) (sym all))
          (runs_with kept.is_running (packets_in given) (packets_of (kept.pending ++ stamped no_stamp piece))
          (λ yes. subst (λ t. IsRunning (packets_in t)) before (with_gap kept.gap _ (was some) (h.running) yes))
          (running some on)));
    }

-- a frame is put in
pub put_in : (kept kept' : Kept) (given taken : List ℕ) → kept.left ≡ [] → MayEnd kept → kept'.left ≡ end_of_epoch → kept'.pending ≡ kept.pending → kept'.is_running ≡ false
    → Stands kept given taken → Stands kept' given taken
put_in kept kept' given taken none may left pending stopped h =
    let before : given ++ kept.left ≡ given = with_none given kept.left none in
    let empty : open_in given ≡ [] = sym (open_is kept given taken none may.gap h) ∙ may.none in
    let runs : IsRunning (packets_in given) = subst (λ t. IsRunning (packets_in t)) before (with_gap kept.gap _ may.gap (h.running) may.running) in
    record {
      woven = subst (λ t. Woven (given ++ t) taken) (sym left) (frame_follows given taken (subst (λ t. Woven t taken) before (h.woven)) empty runs);
      pending = if_gap kept'.gap _ (λ some. pending ∙ may.none ∙ sym (open_with_end given empty) ∙ ap (λ t. open_in (given ++ t)) (sym left));
      running = if_gap kept'.gap _ (λ some on. clash kept'.is_running stopped on);
    }

none_pending : [] ≡ open_in []
unfolding rest_from
none_pending = refl

pub at_start : (kept : Kept) → kept.pending ≡ [] → kept.is_running ≡ false → kept.left ≡ [] → Stands kept [] []
at_start kept pending stopped none = record {
  woven = subst (λ t. Woven t []) (sym none) nothing;
  pending = if_gap kept.gap _ (λ some. pending ∙ none_pending ∙ ap (λ t. open_in t) (sym none));
  running = if_gap kept.gap _ (λ some on. clash kept.is_running stopped on);
}

pub took_nothing : (before after : Option Stream) → before ≡ after → Goes (Took []) before after
took_nothing None after is = tt
took_nothing (Some s) after is = subst (λ o. Goes (Took []) (Some s) o) is (sym (append-nil (s.taken)))

pub took_step : (step : ReadStep) (buffer : List ℕ) (before after : Option Stream) → Reads step buffer before after → Goes (Took (got_of step buffer)) before after
took_step (Got n) buffer None after h = tt
took_step (Got n) buffer (Some x) None h = h
took_step (Got n) buffer (Some x) (Some y) h = h.joins
took_step End buffer None after h = tt
took_step End buffer (Some x) None h = h
took_step End buffer (Some x) (Some y) h = ap (λ (s : Stream). s.taken) (sym (h.same)) ∙ sym (append-nil (x.taken))
took_step Quiet buffer None after h = tt
took_step Quiet buffer (Some x) None h = h
took_step Quiet buffer (Some x) (Some y) h = ap (λ (s : Stream). s.taken) (sym h) ∙ sym (append-nil (x.taken))
took_step Failed buffer None after h = tt
took_step Failed buffer (Some x) None h = h
took_step Failed buffer (Some x) (Some y) h = h.same ∙ sym (append-nil (x.taken))

-- nothing was read, and these bytes of a frame were handed on
pub hands_frame : (got : List ℕ) (before after : Cycle) → Goes (Took []) before.content after.content
    → ((given taken : List ℕ) → Stands before.kept given taken → Stands after.kept (given ++ got) taken) → HandsOn got before after
hands_frame got before after took stands = record {
  raw = [];
  took = took;
  stands = λ given taken h. subst (λ t. Stands after.kept (given ++ got) t) (sym (append-nil taken)) (stands given taken h);
}

-- nothing was read, and nothing was handed on
pub hands_none : (before after : Cycle) → Goes (Took []) before.content after.content → after.kept ≡ before.kept → HandsOn [] before after
hands_none before after took same =
    hands_frame [] before after took
    (λ given taken h. subst (λ k. Stands k (given ++ []) taken) (sym same) (subst (λ t. Stands before.kept t taken) (sym (append-nil given)) h))
