-- What a writer may write: each piece goes on with the bytes of what it received, and these begin what is due.
use Rattle.std.proofs.Common.{◌≡◌, ◌<◌, ℕ, ◌+◌, List, [], ◌∷◌, ◌++◌, length, length-append, Option, Some, None, IfSome, option_map, inl, inr, refl, sym, ◌∙◌, ap, subst, append_assoc, append-nil, arith}
use Rattle.std.specs.List.{concat}
use Rattle.std.specs.Option.{option_to_list}
use Rattle.std.proofs.lemmas.List.Folds.{concat-append}
use Rattle.gps_lane.specs.Ends.{Taking}
use Rattle.gps_lane.specs.Lane.{Begins}
use Rattle.gps_outside.specs.Told.{Goes, Appends}
use Rattle.gps_outside.specs.Waiting.{Waits}
use Rattle.gps_outside.specs.Writes.{AllowsInParts}
use Rattle.gps_outside.proofs.Writing.{appended}
use Rattle.session_core.specs.declared.subject.Subject.{Subject}
use Rattle.session_runs.specs.Due.{IsDue, MayWrite}
use Rattle.serve_workers.specs.Writing.{AllowsDue, Gathers, HasWritten, MayWriteOn}

-- what was written, and then these bytes, are those of the items that were received
abbrev pub HasBut : List ℕ → List (List ℕ) → Option (List ℕ) → Type 0
HasBut more got written = IfSome written (λ bytes. bytes ++ more ≡ concat got)

pub has_but_none : (more : List ℕ) (got : List (List ℕ)) (written : Option (List ℕ)) → more ≡ [] → HasWritten got written → HasBut more got written
has_but_none more got None none has = tt
has_but_none more got (Some bytes) none has = ap (λ l. bytes ++ l) none ∙ append-nil bytes ∙ has

pub has_all : (more : List ℕ) (got : List (List ℕ)) (written : Option (List ℕ)) → more ≡ [] → HasBut more got written → HasWritten got written
has_all more got None none has = tt
has_all more got (Some bytes) none has = sym (ap (λ l. bytes ++ l) none ∙ append-nil bytes) ∙ has

-- more items were received
pub has_more : (pending now : List ℕ) (got fresh got' : List (List ℕ)) (written : Option (List ℕ))
    → got' ≡ got ++ fresh → now ≡ pending ++ concat fresh → HasBut pending got written → HasBut now got' written
has_more pending now got fresh got' None gets joins has = tt
has_more pending now got fresh got' (Some bytes) gets joins has =
    ap (λ l. bytes ++ l) joins ∙ sym (append_assoc bytes pending (concat fresh)) ∙ ap (λ l. l ++ concat fresh) has ∙ sym (concat-append got fresh) ∙ sym (ap concat gets)

pub has_gathered : (over : Option (List ℕ)) (pending joined : List ℕ) (got got' : List (List ℕ)) (written : Option (List ℕ))
    → Gathers over pending joined got got' → HasBut pending got written → HasBut (joined ++ concat (option_to_list over)) got' written
has_gathered over pending joined got got' written g has = has_more pending (joined ++ concat (option_to_list over)) got g.fresh got' written g.gets g.joins has

-- an item was received, and all before it was written
pub has_item : (item : List ℕ) (got got' : List (List ℕ)) (written : Option (List ℕ))
    → got' ≡ got ++ item ∷ [] → HasWritten got written → HasBut (item ++ []) got' written
has_item item got got' written gets has = has_more [] (item ++ []) got (item ∷ []) got' written gets refl (has_but_none [] got written refl has)

-- a piece was written
pub has_sent : (piece more : List ℕ) (got : List (List ℕ)) (before after : Option (List ℕ))
    → HasBut (piece ++ more) got before → Goes (Appends piece) before after → (before ≡ None → after ≡ None) → HasBut more got after
has_sent piece more got None after has wrote unmodelled = subst (λ w. HasBut more got w) (sym (unmodelled refl)) tt
has_sent piece more got (Some bytes) None has wrote unmodelled = absurd wrote
has_sent piece more got (Some bytes) (Some now) has wrote unmodelled = ap (λ l. l ++ more) wrote ∙ append_assoc bytes piece more ∙ has

-- the buffer holds what was gathered, but for the item that found no room
pub has_buffer : (over : Option (List ℕ)) (pending joined piece : List ℕ) (got got' : List (List ℕ)) (written : Option (List ℕ))
    → piece ≡ joined → Gathers over pending joined got got' → HasBut pending got written → HasBut (piece ++ concat (option_to_list over)) got' written
has_buffer over pending joined piece got got' written same g has =
    subst (λ l. HasBut (l ++ concat (option_to_list over)) got' written) (sym same) (has_gathered over pending joined got got' written g has)

-- it was written
pub has_sent_buffer : (over : Option (List ℕ)) (pending joined piece left : List ℕ) (got got' : List (List ℕ)) (before after : Option (List ℕ))
    → piece ≡ joined → left ≡ concat (option_to_list over) → Gathers over pending joined got got' → HasBut pending got before
    → Goes (Appends piece) before after → (before ≡ None → after ≡ None)
    → HasBut left got' after
has_sent_buffer over pending joined piece left got got' before after same left_is g has wrote unmodelled =
    subst (λ l. HasBut l got' after) (sym left_is)
    (has_sent piece (concat (option_to_list over)) got' before after (has_buffer over pending joined piece got got' before same g has) wrote unmodelled)

-- the buffer begins with an item
pub has_begun : (item joined : List ℕ) (got : List (List ℕ)) (written : Option (List ℕ)) → joined ≡ item → HasBut (item ++ []) got written → HasBut joined got written
has_begun item joined got written same has = subst (λ l. HasBut l got written) (append-nil item ∙ sym same) has

-- an item that found no room
pub has_over : (item piece : List ℕ) (got : List (List ℕ)) (written : Option (List ℕ)) → piece ≡ item → HasBut (item ++ []) got written → HasBut (piece ++ []) got written
has_over item piece got written same has = subst (λ l. HasBut (l ++ []) got written) (sym same) has

pub has_sent_over : (item piece left : List ℕ) (got : List (List ℕ)) (before after : Option (List ℕ)) → piece ≡ item → left ≡ [] → HasBut (item ++ []) got before
    → Goes (Appends piece) before after → (before ≡ None → after ≡ None) → HasBut left got after
has_sent_over item piece left got before after same none has wrote unmodelled =
    subst (λ l. HasBut l got after) (sym none) (has_sent piece [] got before after (has_over item piece got before same has) wrote unmodelled)

regrouped : (a b c d e : List ℕ) → (a ++ ((b ++ c) ++ d)) ++ e ≡ ((a ++ b) ++ c) ++ (d ++ e)
regrouped a b c d e =
    append_assoc a ((b ++ c) ++ d) e ∙ ap (λ l. a ++ l) (append_assoc (b ++ c) d e ∙ append_assoc b c (d ++ e))
    ∙ sym (append_assoc (a ++ b) c (d ++ e) ∙ append_assoc a b (c ++ (d ++ e)))

-- of a piece that goes on with what was written: its rest may be written, once a part of it was
may_write : (about : Subject) (got : List (List ℕ)) (piece more part rest : List ℕ) (before now : Option (List ℕ))
    → Begins IsDue about got → HasBut (piece ++ more) got before
    → piece ≡ part ++ rest → 0 < length rest → now ≡ option_map (λ bytes. bytes ++ part) before
    → MayWrite about now rest
may_write about got piece more part rest None now begins has split some is = subst (λ w. MayWrite about w rest) (sym is) tt
may_write about got piece more part rest (Some bytes) now (inl none) has split some is =
    let all : length (concat got) ≡ length bytes + (length piece + length more) =
    ap length (sym has) ∙ length-append bytes (piece ++ more) ∙ ap (λ n. length bytes + n) (length-append piece more) in
    let nothing : length (concat got) ≡ 0 = ap (λ l. length (concat l)) none in
    let parts : length piece ≡ length part + length rest = ap length split ∙ length-append part rest in
    absurd (omega arith)
may_write about got piece more part rest (Some bytes) now (inr due) has split some is =
    subst (λ w. MayWrite about w rest) (sym is) (
      got ++ due.0,
      due.1,
      (
        more ++ concat due.0,
        concat-append got due.0 ∙ ap (λ l. l ++ concat due.0) (sym has ∙ ap (λ l. bytes ++ (l ++ more)) split)
            ∙ regrouped bytes part rest more (concat due.0),
      ),
    )

-- a piece that goes on with what was written may be written, by as many writes as it needs
pub may_send : {K : Type 0} (asks written : K → Option (List ℕ)) (allows : K → List ℕ → Type 0) (sink : K) (about : Subject) (got : List (List ℕ)) (piece more : List ℕ)
    → AllowsDue asks written allows about → asks sink ≡ about.source → Begins IsDue about got → HasBut (piece ++ more) got (written sink)
    → AllowsInParts asks written allows sink piece
may_send asks written allows sink about got piece more allowed client begins has = λ now part rest split some same is.
    allowed now rest (same ∙ client) (may_write about got piece more part rest (written sink) (written now) begins has split some is)

-- of a piece that may be written the rest may be, once the sink was written the first part
pub may_send_rest : {K : Type 0} (asks written : K → Option (List ℕ)) (allows : K → List ℕ → Type 0) (first sink : K) (piece rest : List ℕ)
    → AllowsInParts asks written allows first piece → Waits piece rest (written first) (written sink) → (written first ≡ None → written sink ≡ None) → asks sink ≡ asks first
    → 0 < length rest
    → (now : K) → asks now ≡ asks sink → written now ≡ written sink → allows now rest
may_send_rest asks written allows first sink piece rest allowed waits unmodelled client some now same is =
    allowed now waits.front rest waits.split some (same ∙ client) (is ∙ appended waits.front (written first) (written sink) waits.wrote unmodelled)

-- nothing is written meanwhile
pub goes_on_still : {K : Type 0} (asks written : K → Option (List ℕ)) (allows : K → List ℕ → Type 0) (sink sink' : K) (lane : Taking (List ℕ))
    → MayWriteOn asks written allows sink lane → asks sink' ≡ asks sink → written sink' ≡ written sink → MayWriteOn asks written allows sink' lane
goes_on_still asks written allows sink sink' lane may client still = record {
  client = client ∙ may.client;
  wrote = subst (λ w. HasWritten lane.got w) (sym still) may.wrote;
  allowed = may.allowed;
}

about_of : (lane lane' : Taking (List ℕ)) → lane' ≡ record lane { got = lane'.got } → lane'.about ≡ lane.about
about_of lane lane' same = ap (λ (l : Taking (List ℕ)). l.about) same

-- all that was received was written
pub goes_on : {K : Type 0} (asks written : K → Option (List ℕ)) (allows : K → List ℕ → Type 0) (sink sink' : K) (lane lane' : Taking (List ℕ))
    → MayWriteOn asks written allows sink lane → asks sink' ≡ asks sink → lane' ≡ record lane { got = lane'.got } → HasWritten lane'.got (written sink')
    → MayWriteOn asks written allows sink' lane'
goes_on asks written allows sink sink' lane lane' may client same wrote =
    let about = about_of lane lane' same in record {
      client = client ∙ may.client ∙ sym (ap (λ (s : Subject). s.source) about);
      wrote = wrote;
      allowed = subst (λ (s : Subject). AllowsDue asks written allows s) (sym about) may.allowed;
    }

-- so it may by a writer that may go on, whose lane has given more since
pub may_send_on : {K : Type 0} (asks written : K → Option (List ℕ)) (allows : K → List ℕ → Type 0) (first sink : K) (lane lane' : Taking (List ℕ)) (piece more : List ℕ)
    → MayWriteOn asks written allows first lane → asks sink ≡ asks first → lane' ≡ record lane { got = lane'.got } → Begins IsDue lane'.about lane'.got
    → HasBut (piece ++ more) lane'.got (written sink)
    → AllowsInParts asks written allows sink piece
may_send_on asks written allows first sink lane lane' piece more may client same begins has =
    let about = about_of lane lane' same in
    may_send asks written allows sink lane'.about lane'.got piece more (subst (λ (s : Subject). AllowsDue asks written allows s) (sym about) may.allowed)
    (client ∙ may.client ∙ sym (ap (λ (s : Subject). s.source) about)) begins has

-- one item more was received: it may be written
pub may_send_item : {K : Type 0} (asks written : K → Option (List ℕ)) (allows : K → List ℕ → Type 0) (sink : K) (lane lane' : Taking (List ℕ)) (item : List ℕ)
    → MayWriteOn asks written allows sink lane → lane' ≡ record lane { got = lane.got ++ item ∷ [] } → Begins IsDue lane'.about lane'.got
    → AllowsInParts asks written allows sink item
may_send_item asks written allows sink lane lane' item may next begins =
    let gets : lane'.got ≡ lane.got ++ item ∷ [] = ap (λ (l : Taking (List ℕ)). l.got) next in
    may_send_on asks written allows sink sink lane lane' item [] may refl (next ∙ ap (λ l. record lane { got = l }) (sym gets)) begins
    (has_item item lane.got lane'.got (written sink) gets may.wrote)

has_next : (item : List ℕ) (got : List (List ℕ)) (before : Option (List ℕ))
    → HasWritten got before → HasWritten (got ++ item ∷ []) (option_map (λ bytes. bytes ++ item) before)
has_next item got None has = tt
has_next item got (Some bytes) has =
    ap (λ l. l ++ item) has ∙ ap (λ l. concat got ++ l) (sym (append-nil item)) ∙ sym (concat-append got (item ∷ []))

-- and was
pub sent_item : {K : Type 0} (asks written : K → Option (List ℕ)) (allows : K → List ℕ → Type 0) (sink sink' : K) (lane lane' : Taking (List ℕ)) (item : List ℕ)
    → MayWriteOn asks written allows sink lane → lane' ≡ record lane { got = lane.got ++ item ∷ [] } → asks sink' ≡ asks sink
    → written sink' ≡ option_map (λ bytes. bytes ++ item) (written sink)
    → MayWriteOn asks written allows sink' lane'
sent_item asks written allows sink sink' lane lane' item may next client all =
    let gets : lane'.got ≡ lane.got ++ item ∷ [] = ap (λ (l : Taking (List ℕ)). l.got) next in
    goes_on asks written allows sink sink' lane lane' may client (next ∙ ap (λ l. record lane { got = l }) (sym gets))
    (subst (λ l. HasWritten l (written sink')) (sym gets) (subst (λ w. HasWritten (lane.got ++ item ∷ []) w) (sym all) (has_next item lane.got (written sink) may.wrote)))

-- there was none to receive
pub goes_on_none : {K : Type 0} (asks written : K → Option (List ℕ)) (allows : K → List ℕ → Type 0) (sink : K) (lane lane' : Taking (List ℕ))
    → MayWriteOn asks written allows sink lane → lane' ≡ record lane { got = lane.got ++ [] } → MayWriteOn asks written allows sink lane'
goes_on_none asks written allows sink lane lane' may none =
    subst (λ (l : Taking (List ℕ)). MayWriteOn asks written allows sink l) (sym (none ∙ ap (λ l. record lane { got = l }) (append-nil lane.got))) may
