-- What the words of `serve` ask for lies in its ranges.
use Rattle.std.proofs.Common.{◌≡◌, ◌≤◌, ◌&&◌, ℕ, Bool, true, false, nat_le, refl, ap, ◌∙◌, arith, List, [], ◌∷◌, length, nat_lt, IfSome, Option, Some, None, option_map, option_and_then, if◌then◌else◌}
use Rattle.std.proofs.lemmas.Bool.{and_parts}
use Rattle.std.proofs.Common.{leb-true, ltb-true}
use Rattle.std.proofs.lemmas.List.{length-map, length-append}
use Rattle.std.proofs.Common.{subst, codes}
use Rattle.std.specs.Str.{bytes_eq}
use Rattle.clap.specs.Simple.{matches_of}
use Rattle.clap.specs.Walk.{Row, Text, all_of, first_of}
use Rattle.gps_words.specs.Numbers.{digits_after, is_number_text, number_if, number_in, number_or}
use Rattle.gps_words.specs.Options.{are_taken, read_by}
use Rattle.gps_words.specs.Replay.{history_in, queue_in}
use Rattle.gps_words.specs.declared.device.DeviceWord.{DeviceWord}
use Rattle.gps_words.specs.declared.device.Target.{Target}
use Rattle.gps_words.specs.declared.device.Target.TheVariants.{Device, Edges}
use Rattle.gps_words.specs.declared.serve.ServeNumbers.{ServeNumbers}
use Rattle.gps_words.specs.Devices.{Lists, are_devices, devices_in, devices_of, input_of, inputs_of, is_address, is_count, lists_of, name_of, names_of, words_in}
use Rattle.gps_words.specs.Serve.{Serve, cycle_gap_in, if_address, listen_in, devices_among, monitor_in, numbers_in, reopen_in, report_in, requests_in, serve_app, serve_asked_of, serve_in, serve_of, stop_in, stop_or, wait_in}
use Rattle.gps_words.specs.Within.{IsBetween, IsPath, IsWithin}

pub some_is : {X : Type 0} (x y : X) → Some x ≡ Some y → x ≡ y
some_is x y is = cc

pub chosen : {X : Type 0} (b : Bool) (x y : X) → (if b then Some x else None) ≡ Some y → (b ≡ true) × (x ≡ y)
chosen true x y is = (refl, some_is x y is)
chosen false x y is = absurd (cc)

pub chosen_some : {X : Type 0} (b : Bool) (o : Option X) (y : X) → (if b then o else None) ≡ Some y → o ≡ Some y
chosen_some true o y is = is
chosen_some false o y is = absurd (cc)

pub number_range : (default least most : ℕ) (text : Option (List ℕ)) (n : ℕ) → least ≤ default → default ≤ most → number_or default least most text ≡ Some n → (least ≤ n) × (n ≤ most)
number_range default least most None n low high is =
    let same : default ≡ n = (chosen true default n is).1 in
    (omega (arith, low, same), omega (arith, high, same))
number_range default least most (Some text) n low high is =
    let m = digits_after 0 text in
    let c = chosen (is_number_text text && nat_le least m && nat_le m most) m n is in
    let p = and_parts (is_number_text text && nat_le least m) (nat_le m most) c.0 in
    let q = and_parts (is_number_text text) (nat_le least m) p.0 in
    (omega (arith, leb-true least m q.1, c.1), omega (arith, leb-true m most p.1, c.1))

pub record InRange (n : ServeNumbers) : Type 0 where
  pub queue_low : 1 ≤ n.queue
  pub queue_high : n.queue ≤ 65_536
  pub requests_low : 1 ≤ n.requests
  pub requests_high : n.requests ≤ 4_294_967_294
  pub history_low : 1 ≤ n.history
  pub history_high : n.history ≤ 33_554_432
  pub wait : n.wait ≤ 64
  pub monitor : n.monitor ≤ 1_000_000
  pub reopen : IfSome n.reopen (IsBetween 1 3_600)
  pub cycle_gap : IfSome n.cycle_gap (IsBetween 1 10_000)
  pub report : IfSome n.report (IsBetween 10 86_400)

-- each of the eight is read
record AreRead (q a h w m : Option ℕ) (r g t : Option (Option ℕ)) (n : ServeNumbers) : Type 0 where
  pub queue : q ≡ Some n.queue
  pub requests : a ≡ Some n.requests
  pub history : h ≡ Some n.history
  pub wait : w ≡ Some n.wait
  pub monitor : m ≡ Some n.monitor
  pub reopen : r ≡ Some n.reopen
  pub cycle_gap : g ≡ Some n.cycle_gap
  pub report : t ≡ Some n.report

-- what was read, if each value was there
read_in_turn : {A B : Type 0} (f : A → Option B) (o : Option A) (b : B) → option_and_then f o ≡ Some b → (a : A) × ((o ≡ Some a) × (f a ≡ Some b))
read_in_turn f None b is = absurd (cc)
read_in_turn f (Some a) b is = (a, (refl, is))

read_last : {A B : Type 0} (f : A → B) (o : Option A) (b : B) → option_map f o ≡ Some b → (a : A) × ((o ≡ Some a) × (f a ≡ b))
read_last f None b is = absurd (cc)
read_last f (Some a) b is = (a, (refl, some_is (f a) b is))

eight : (queue requests history wait monitor : Option ℕ) (reopen gap report : Option (Option ℕ)) (n : ServeNumbers)
    → option_and_then (λ q. option_and_then (λ a. option_and_then (λ h. option_and_then (λ w. option_and_then (λ m. option_and_then (λ r.
    option_and_then (λ g. option_map (λ t.
    record { queue = q; requests = a; history = h; wait = w; monitor = m; reopen = r; cycle_gap = g; report = t })
    report) gap) reopen) monitor) wait) history) requests) queue ≡ Some n
    → AreRead queue requests history wait monitor reopen gap report n
eight queue requests history wait monitor reopen gap report n is =
    let q = read_in_turn _ queue n is in
    let a = read_in_turn _ requests n q.1.1 in
    let h = read_in_turn _ history n a.1.1 in
    let w = read_in_turn _ wait n h.1.1 in
    let m = read_in_turn _ monitor n w.1.1 in
    let r = read_in_turn _ reopen n m.1.1 in
    let g = read_in_turn _ gap n r.1.1 in
    let t = read_last _ report n g.1.1 in
    record {
      queue = q.1.0 ∙ ap (λ (x : ServeNumbers). Some x.queue) t.1.1;
      requests = a.1.0 ∙ ap (λ (x : ServeNumbers). Some x.requests) t.1.1;
      history = h.1.0 ∙ ap (λ (x : ServeNumbers). Some x.history) t.1.1;
      wait = w.1.0 ∙ ap (λ (x : ServeNumbers). Some x.wait) t.1.1;
      monitor = m.1.0 ∙ ap (λ (x : ServeNumbers). Some x.monitor) t.1.1;
      reopen = r.1.0 ∙ ap (λ (x : ServeNumbers). Some x.reopen) t.1.1;
      cycle_gap = g.1.0 ∙ ap (λ (x : ServeNumbers). Some x.cycle_gap) t.1.1;
      report = t.1.0 ∙ ap (λ (x : ServeNumbers). Some x.report) t.1.1;
    }

-- the number of an option that may be left out
between_read : (least most : ℕ) (o : Option ℕ) (r : Option ℕ) → ((n : ℕ) → o ≡ Some n → IsBetween least most n) → option_map (λ n. Some n) o ≡ Some r
    → IfSome r (IsBetween least most)
between_read least most None r range is = absurd (cc)
between_read least most (Some n) r range is = subst (λ x. IfSome x (IsBetween least most)) (some_is (Some n) r is) (range n refl)

between : (least most : ℕ) (text : Option Text) (r : Option ℕ) → least ≤ most → number_if least most text ≡ Some r → IfSome r (IsBetween least most)
between least most None r room is = subst (λ x. IfSome x (IsBetween least most)) (some_is None r is) tt
between least most (Some text) r room is =
    between_read least most (number_in least most text) r (λ n at. number_range least least most (Some text) n (omega arith) room at) is

path_read : (b : Bool) (text : Text) (p : Option Text) → (b ≡ true → IsPath text) → option_map (λ q. Some q) (if b then Some text else None) ≡ Some p → IfSome p IsPath
path_read true text p some is = subst (λ x. IfSome x IsPath) (some_is (Some text) p is) (some refl)
path_read false text p some is = absurd (cc)

stop_path : (text : Option Text) (p : Option Text) → stop_or text ≡ Some p → IfSome p IsPath
stop_path None p is = subst (λ x. IfSome x IsPath) (some_is None p is) tt
stop_path (Some text) p is = path_read (nat_lt 0 (length text)) text p (λ e. ltb-true 0 (length text) e) is

numbers_range : (rows : List Row) (n : ServeNumbers) → numbers_in rows ≡ Some n → InRange n
unfolding numbers_in
numbers_range rows n is =
    let f = eight (queue_in rows) (requests_in rows) (history_in rows) (wait_in rows) (monitor_in rows) (reopen_in rows) (cycle_gap_in rows) (report_in rows)
    n is in
    let q = number_range 4_096 1 65_536 (first_of (codes "queue") rows) n.queue (omega arith) (omega arith) f.queue in
    let a = number_range 65_536 1 4_294_967_294 (first_of (codes "requests") rows) n.requests (omega arith) (omega arith) f.requests in
    let h = number_range 16_777_216 1 33_554_432 (first_of (codes "history") rows) n.history (omega arith) (omega arith) f.history in
    let w = number_range 0 0 64 (first_of (codes "wait") rows) n.wait (omega arith) (omega arith) f.wait in
    let m = number_range 0 0 1_000_000 (first_of (codes "monitor") rows) n.monitor (omega arith) (omega arith) f.monitor in
    record {
      queue_low = q.0;
      queue_high = q.1;
      requests_low = a.0;
      requests_high = a.1;
      history_low = h.0;
      history_high = h.1;
      wait = w.1;
      monitor = m.1;
      reopen = between 1 3_600 (first_of (codes "reopen") rows) n.reopen (omega arith) f.reopen;
      cycle_gap = between 1 10_000 (first_of (codes "cycle-gap") rows) n.cycle_gap (omega arith) f.cycle_gap;
      report = between 10 86_400 (first_of (codes "report") rows) n.report (omega arith) f.report;
    }

-- one input for each name
one_each : (word : DeviceWord) (target : Target) → length (input_of target) ≡ length (name_of word target)
one_each word (Device input) = refl
one_each word (Edges path) = refl

inputs_match : (words : List DeviceWord) → length (inputs_of words) ≡ length (names_of words)
inputs_match [] = refl
inputs_match (word ∷ words) =
    length-append (input_of word.target) (inputs_of words)
    ∙ omega (arith, one_each word word.target, inputs_match words, length-append (name_of word word.target) (names_of words))

pub record AreMatched (l : Lists) : Type 0 where
  pub inputs : length l.inputs ≡ length l.names
  pub edges : length l.edges ≡ length l.names

lists_match : (words : List DeviceWord) → AreMatched (lists_of words)
lists_match words = record { inputs = inputs_match words; edges = length-map (names_of words) _ }

devices_match : (texts : List (List ℕ)) (l : Lists) → devices_in texts ≡ Some l → AreMatched l
unfolding devices_in devices_of
devices_match texts l is = read (words_in texts) l (chosen_some (is_count (length texts)) (option_and_then devices_of (words_in texts)) l is)
  where
    read : (o : Option (List DeviceWord)) (l : Lists) → option_and_then devices_of o ≡ Some l → AreMatched l
    read None l is = absurd (cc)
    read (Some words) l is = subst AreMatched (chosen (are_devices words) (lists_of words) l is).1 (lists_match words)

served : (numbers : Option ServeNumbers) (stop : Option (Option Text)) (devices : Option Lists) (listen : Text) (s : Serve)
    → option_and_then (λ n. option_and_then (λ p. option_and_then (if_address listen n p) devices) stop) numbers ≡ Some s
    → (numbers ≡ Some s.numbers) × (stop ≡ Some s.stop) × (devices ≡ Some s.devices)
served None stop devices listen s is = absurd (cc)
served (Some n) None devices listen s is = absurd (cc)
served (Some n) (Some p) None listen s is = absurd (cc)
served (Some n) (Some p) (Some l) listen s is =
    let same : record { devices = l; listen = listen; numbers = n; stop = p } ≡ s = (chosen (is_address listen) _ s is).1 in
    (ap (λ (x : Serve). Some x.numbers) same, ap (λ (x : Serve). Some x.stop) same, ap (λ (x : Serve). Some x.devices) same)

among : (o : Option (List (List ℕ))) (l : Lists) → option_and_then devices_in o ≡ Some l → AreMatched l
among None l is = absurd (cc)
among (Some texts) l is = devices_match texts l is

pub rows_within : (rows : List Row) (s : Serve) → serve_in rows ≡ Some s → IsWithin s
unfolding serve_in
rows_within rows s is =
    let p = served (numbers_in rows) (stop_in rows) (devices_among rows) (listen_in rows) s is in
    let n = numbers_range rows s.numbers p.0 in
    let l = among (all_of _ rows) s.devices p.2 in
    record {
      inputs = l.inputs;
      edges = l.edges;
      queue_low = n.queue_low;
      queue_high = n.queue_high;
      requests_low = n.requests_low;
      requests_high = n.requests_high;
      history_low = n.history_low;
      history_high = n.history_high;
      wait = n.wait;
      monitor = n.monitor;
      reopen = n.reopen;
      cycle_gap = n.cycle_gap;
      report = n.report;
      stop = stop_path (first_of (codes "stop") rows) s.stop p.1;
    }

read_within : (words : List Text) (s : Serve) → read_by serve_app serve_in words ≡ Some s → IsWithin s
unfolding read_by
read_within words s is = rows_within (matches_of serve_app words) s (chosen_some (are_taken serve_app words) (serve_in (matches_of serve_app words)) s is)

pub words_within : (words : List Text) (s : Serve) → serve_asked_of words ≡ Some s → IsWithin s
words_within [] s is = absurd (cc)
words_within (word ∷ words) s is = read_within (word ∷ words) s (chosen_some (bytes_eq word (codes "serve")) (serve_of (word ∷ words)) s is)
