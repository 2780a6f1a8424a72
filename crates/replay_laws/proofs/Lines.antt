-- No stamp that a line of a script writes lies before 1970.
use Rattle.std.proofs.Common.{ℕ, Bool, true, false, cond, List, [], ◌∷◌, Option, Some, None, IfSome, arith}
use Rattle.std.specs.Prelude.{codes, drop, nat_le, option_and_then, pos, unwrap_or, ◌==◌, if◌then◌else◌}
use Rattle.std.specs.Option.{option_map}
use Rattle.std.specs.Str.{bytes_eq}
use Rattle.std.proofs.lemmas.Int.{ints}
use Rattle.gps_fixed.specs.Moment.{Moment}
use Rattle.gps_report.specs.declared.edge.Edge.{Edge}
use Rattle.gps_report.specs.declared.edge.EdgeKind.{EdgeKind}
use Rattle.gps_report.specs.declared.edge.EdgeKind.TheVariants.{Assert, Clear}
use Rattle.gps_report.specs.Name.{is_name}
use Rattle.pps_edges.specs.Scan.{begins, capture_in, captured, edge_in, nine_in, number_in, past_first, up_to_first}
use Rattle.replay_script.specs.Events.{bytes_event, device_in, edge_at, event_in, feed_in, input_in, monitor_in, number_event, open_alone, open_in, word_event}
use Rattle.replay_script.specs.declared.event.ScriptEvent.{ScriptEvent}
use Rattle.replay_script.specs.declared.event.ScriptEvent.TheVariants.{Nothing, Device, Segment, Feed, Edge as EdgeEvent, End, Lose, Open, Input, Hang, Take, Monitor, Store, Load}
use Rattle.replay_script.specs.Words.{halves, hex_in, number_and_count, numbered, stamp_in, stamp_of, stamped, text_in}
use Rattle.replay_laws.proofs.Stamps.{IsLate}

abbrev pub IsLateEvent : ScriptEvent → Type 0
IsLateEvent (Feed d at bytes) = IsLate at
IsLateEvent (EdgeEvent d edge) = IsLate edge.at
IsLateEvent event = Unit {0}

abbrev Late : Option ScriptEvent → Type 0
Late o = IfSome o IsLateEvent

mapped : {X Y : Type 0} (P : Y → Type 0) (f : X → Y) → ((x : X) → P (f x)) → (o : Option X) → IfSome (option_map f o) P
mapped P f h None = tt
mapped P f h (Some x) = h x

-- of a value that has a property
mapped_of : {X Y : Type 0} (Q : X → Type 0) (P : Y → Type 0) (f : X → Y) → ((x : X) → Q x → P (f x)) → (o : Option X) → IfSome o Q → IfSome (option_map f o) P
mapped_of Q P f h None is = tt
mapped_of Q P f h (Some x) is = h x is

behind : {X Y : Type 0} (P : Y → Type 0) (f : X → Option Y) → ((x : X) → IfSome (f x) P) → (o : Option X) → IfSome (option_and_then f o) P
behind P f h None = tt
behind P f h (Some x) = h x

behind_of : {X Y : Type 0} (Q : X → Type 0) (P : Y → Type 0) (f : X → Option Y) → ((x : X) → Q x → IfSome (f x) P) → (o : Option X) → IfSome o Q → IfSome (option_and_then f o) P
behind_of Q P f h None is = tt
behind_of Q P f h (Some x) is = h x is

either : {X : Type 0} (P : X → Type 0) (b : Bool) (x y : X) → P x → P y → P (if b then x else y)
either P true x y p q = p
either P false x y p q = q

whichever : {X : Type 0} (P : X → Type 0) (b : Bool) (x y : X) → P x → P y → P (cond b x y)
whichever P true x y p q = p
whichever P false x y p q = q

-- ---- stamps
stamp_is : (text : List ℕ) → IfSome (stamp_in text) IsLate
unfolding stamp_in
stamp_is text =
    behind IsLate (λ (p : List ℕ × List ℕ). option_and_then (λ (sec : ℕ). option_map (λ (nsec : ℕ). stamp_of sec nsec) (nine_in p.1)) (number_in p.0))
    (λ p. behind IsLate (λ (sec : ℕ). option_map (λ (nsec : ℕ). stamp_of sec nsec) (nine_in p.1)) (λ sec. mapped IsLate (λ (nsec : ℕ). stamp_of sec nsec) (λ nsec. omega (arith, ints)) (nine_in p.1)) (number_in p.0)) (halves 46 text)

abbrev Stamped : Moment × List ℕ → Type 0
Stamped s = IsLate s.0

stamped_is : (text : List ℕ) → IfSome (stamped text) Stamped
unfolding stamped
stamped_is text =
    behind Stamped (λ (p : List ℕ × List ℕ). option_map (λ (at : Moment). (at, p.1)) (stamp_in p.0)) (λ p. mapped_of IsLate Stamped (λ (at : Moment). (at, p.1)) (λ at late. late) (stamp_in p.0) (stamp_is p.0)) (halves 32 text)

abbrev LateEdge : Edge → Type 0
LateEdge edge = IsLate edge.at

captured_is : (kind : EdgeKind) (sec nsec seq : Option ℕ) → IfSome (captured kind sec nsec seq) LateEdge
captured_is kind None nsec seq = tt
captured_is kind (Some sec) None seq = tt
captured_is kind (Some sec) (Some nsec) None = tt
captured_is kind (Some sec) (Some nsec) (Some seq) =
    whichever (λ (o : Option Edge). IfSome o LateEdge) (nat_le seq 4_294_967_295) (Some (record { kind = kind; seq = seq; at = record { sec = pos sec; nsec = nsec } })) None (omega (arith, ints)) tt

capture_is : (kind : EdgeKind) (text : List ℕ) → IfSome (capture_in kind text) LateEdge
unfolding capture_in
capture_is kind text = captured_is kind (number_in (up_to_first 46 text)) (nine_in (up_to_first 35 (past_first 46 text))) (number_in (past_first 35 (past_first 46 text)))

edge_is : (line : List ℕ) → IfSome (edge_in line) LateEdge
unfolding edge_in
edge_is line =
    let P : Option Edge → Type 0 = λ o. IfSome o LateEdge in
    whichever P (begins (codes "assert ") line) (capture_in Assert (drop 7 line)) (cond (begins (codes "clear ") line) (capture_in Clear (drop 6 line)) None) (capture_is Assert (drop 7 line))
    (whichever P (begins (codes "clear ") line) (capture_in Clear (drop 6 line)) None (capture_is Clear (drop 6 line)) tt)

-- ---- events
device_is : (text : List ℕ) → Late (device_in text)
unfolding device_in
device_is text = either Late (is_name text) (Some (Device text)) None tt tt

-- whatever the bytes are
feed_is : (bytes_in : List ℕ → Option (List ℕ)) (text : List ℕ)
    → Late (option_and_then (λ (d : ℕ × List ℕ). option_and_then (λ (s : Moment × List ℕ). option_map (λ (bytes : List ℕ). Feed d.0 s.0 bytes) (bytes_in s.1)) (stamped d.1)) (numbered text))
feed_is bytes_in text =
    behind IsLateEvent (λ (d : ℕ × List ℕ). option_and_then (λ (s : Moment × List ℕ). option_map (λ (bytes : List ℕ). Feed d.0 s.0 bytes) (bytes_in s.1)) (stamped d.1))
    (λ d. behind_of Stamped IsLateEvent (λ (s : Moment × List ℕ). option_map (λ (bytes : List ℕ). Feed d.0 s.0 bytes) (bytes_in s.1))
    (λ s late. mapped IsLateEvent (λ (bytes : List ℕ). Feed d.0 s.0 bytes) (λ bytes. late) (bytes_in s.1)) (stamped d.1) (stamped_is d.1))
    (numbered text)

input_is : (bytes_in : List ℕ → Option (List ℕ)) (text : List ℕ) → Late (option_and_then (λ (s : ℕ × List ℕ). option_map (λ (bytes : List ℕ). Input s.0 bytes) (bytes_in s.1)) (numbered text))
input_is bytes_in text =
    behind IsLateEvent (λ (s : ℕ × List ℕ). option_map (λ (bytes : List ℕ). Input s.0 bytes) (bytes_in s.1))
    (λ s. mapped IsLateEvent (λ (bytes : List ℕ). Input s.0 bytes) (λ bytes. tt) (bytes_in s.1)) (numbered text)

edge_event_is : (text : List ℕ) → Late (edge_at text)
unfolding edge_at
edge_event_is text = behind IsLateEvent (λ (d : ℕ × List ℕ). option_map (λ (edge : Edge). EdgeEvent d.0 edge) (edge_in d.1)) (λ d. mapped_of LateEdge IsLateEvent (λ (edge : Edge). EdgeEvent d.0 edge) (λ edge late. late) (edge_in d.1) (edge_is d.1)) (numbered text)

open_is : (text : List ℕ) → Late (open_in text)
unfolding open_in
open_is text = by_number (number_in text)
  where
    by_number : (o : Option ℕ) → Late (open_alone text o)
    by_number (Some session) = tt
    by_number None = mapped IsLateEvent (λ (p : ℕ × ℕ). Open p.0 (Some p.1)) (λ p. tt) (number_and_count 1 65_536 text)

monitor_is : (text : List ℕ) → Late (monitor_in text)
unfolding monitor_in
monitor_is text = behind IsLateEvent (λ (m : ℕ × List ℕ). option_map (λ (u : ℕ). Monitor m.0 u) (number_in m.1)) (λ m. mapped IsLateEvent (λ (u : ℕ). Monitor m.0 u) (λ u. tt) (number_in m.1)) (numbered text)

number_event_is : (word rest : List ℕ) → Late (number_event word rest)
unfolding number_event
number_event_is word rest =
    either Late (bytes_eq word (codes "segment")) _ _ (mapped IsLateEvent (λ (p : ℕ × ℕ). Segment p.0 p.1) (λ p. tt) (number_and_count 0 1_073_741_823 rest))
    (either Late (bytes_eq word (codes "edge")) _ _ (edge_event_is rest)
    (either Late (bytes_eq word (codes "end")) _ _ (mapped IsLateEvent (λ (d : ℕ). End d) (λ d. tt) (number_in rest))
    (either Late (bytes_eq word (codes "lose")) _ _ (mapped IsLateEvent (λ (d : ℕ). Lose d) (λ d. tt) (number_in rest))
    (either Late (bytes_eq word (codes "open")) _ _ (open_is rest)
    (either Late (bytes_eq word (codes "hang")) _ _ (mapped IsLateEvent (λ (s : ℕ). Hang s) (λ s. tt) (number_in rest))
    (either Late (bytes_eq word (codes "take")) _ _ (mapped IsLateEvent (λ (p : ℕ × ℕ). Take p.0 p.1) (λ p. tt) (number_and_count 1 65_536 rest))
    (either Late (bytes_eq word (codes "monitor")) _ _ (monitor_is rest)
    (either Late (bytes_eq word (codes "store")) _ _ (mapped IsLateEvent (λ (p : ℕ × ℕ). Store p.0 p.1) (λ p. tt) (number_and_count 1 1_000 rest))
    (either Late (bytes_eq word (codes "load")) (option_map (λ p. Load p.0 p.1) (number_and_count 1 1_000 rest)) None (mapped IsLateEvent (λ (p : ℕ × ℕ). Load p.0 p.1) (λ p. tt) (number_and_count 1 1_000 rest)) tt)))))))))

abbrev LateIfSome : Option (Option ScriptEvent) → Type 0
LateIfSome o = IfSome o Late

bytes_event_is : (word rest : List ℕ) → LateIfSome (bytes_event word rest)
unfolding bytes_event feed_in input_in
bytes_event_is word rest =
    either LateIfSome (bytes_eq word (codes "device")) _ _ (device_is rest)
    (either LateIfSome (bytes_eq word (codes "bytes")) _ _ (feed_is hex_in rest)
    (either LateIfSome (bytes_eq word (codes "text")) _ _ (feed_is (text_in 510 (13 ∷ 10 ∷ [])) rest)
    (either LateIfSome (bytes_eq word (codes "part")) _ _ (input_is (text_in 511 []) rest)
    (either LateIfSome (bytes_eq word (codes "say")) _ _ (input_is (text_in 511 (10 ∷ [])) rest)
    (either LateIfSome (bytes_eq word (codes "input")) _ None (input_is hex_in rest) tt)))))

word_event_is : (word rest : List ℕ) → Late (word_event word rest)
word_event_is word rest = by_bytes (bytes_event word rest) (bytes_event_is word rest)
  where
    by_bytes : (o : Option (Option ScriptEvent)) → LateIfSome o → Late (unwrap_or o (number_event word rest))
    by_bytes None is = number_event_is word rest
    by_bytes (Some event) is = is

pub event_is : (text : List ℕ) → IfSome (event_in text) IsLateEvent
unfolding event_in
event_is [] = tt
event_is (c ∷ line) =
    either Late (c == 35) (Some Nothing) (option_and_then (λ (p : List ℕ × List ℕ). word_event p.0 p.1) (halves 32 (c ∷ line))) tt
    (behind IsLateEvent (λ (p : List ℕ × List ℕ). word_event p.0 p.1) (λ p. word_event_is p.0 p.1) (halves 32 (c ∷ line)))
