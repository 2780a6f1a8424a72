-- What the words of `serve` ask for: `serve [--listen HOST:PORT] [--queue N] [--requests N] [--history N] [--wait N] [--monitor N]
-- [--reopen SECONDS] [--cycle-gap MS] [--report SECONDS] [--stop PATH] WORD ..`, with 1 to 16 device words among the options.
use Rattle.std.specs.Prelude.{ℕ, List, [], ◌∷◌, codes, Option, Some, None, option_and_then, option_map, unwrap_or, if◌then◌else◌}
use Rattle.std.specs.Str.{bytes_eq}
use Rattle.clap.specs.Simple.{App, with_rule}
use Rattle.clap.specs.Walk.{Row, Text, all_of, first_of}
use Rattle.gps_words.specs.Devices.{Lists, devices_in, is_address, path_in}
use Rattle.gps_words.specs.Numbers.{number_if, number_or}
use Rattle.gps_words.specs.Options.{bare_app, list_rule, read_by, with_options}
use Rattle.gps_words.specs.Replay.{history_in, queue_in}
use Rattle.gps_words.specs.declared.serve.ServeNumbers.{ServeNumbers}
use Rattle.gps_words.specs.declared.serve.ServeOptions.{ServeOptions}

-- all that the words ask for; the devices are given by three lists of one length
pub record Serve : Type 0 where
  pub devices : Lists
  pub listen : Text
  pub numbers : ServeNumbers
  pub stop : Option Text

-- the options as they are handed on
abbrev pub shown : ServeOptions → Serve
shown options = record {
  devices = record { names = options.names; inputs = options.inputs.items; edges = options.edges.items };
  listen = options.listen;
  numbers = options.numbers;
  stop = options.stop;
}

abbrev pub serve_app : App
serve_app =
    with_rule (with_options (bare_app (codes "serve"))
    (codes "listen" ∷ codes "queue" ∷ codes "requests" ∷ codes "history" ∷ codes "wait" ∷ codes "monitor" ∷ codes "reopen" ∷ codes "cycle-gap"
    ∷ codes "report" ∷ codes "stop" ∷ []))
    (list_rule (codes "device"))

-- `--requests`: how many requests of a session are answered
abbrev pub requests_in : List Row → Option ℕ
requests_in rows = number_or 65_536 1 4_294_967_294 (first_of (codes "requests") rows)

-- `--wait`: how many sessions devices wait for
abbrev pub wait_in : List Row → Option ℕ
wait_in rows = number_or 0 0 64 (first_of (codes "wait") rows)

-- `--monitor`: how many readings each monitor makes
abbrev pub monitor_in : List Row → Option ℕ
monitor_in rows = number_or 0 0 1_000_000 (first_of (codes "monitor") rows)

-- `--reopen`: after how many seconds a place that has ended or failed is opened again; never if it is left out
abbrev pub reopen_in : List Row → Option (Option ℕ)
reopen_in rows = number_if 1 3_600 (first_of (codes "reopen") rows)

-- `--cycle-gap`: after how many milliseconds of silence the sentences of one moment are complete; never if it is left out
abbrev pub cycle_gap_in : List Row → Option (Option ℕ)
cycle_gap_in rows = number_if 1 10_000 (first_of (codes "cycle-gap") rows)

-- `--report`: after how many seconds the daemon says each time what it does; never if it is left out
abbrev pub report_in : List Row → Option (Option ℕ)
report_in rows = number_if 10 86_400 (first_of (codes "report") rows)

unfoldable pub numbers_in : List Row → Option ServeNumbers
numbers_in rows =
    option_and_then (λ queue. option_and_then (λ requests. option_and_then (λ history. option_and_then (λ wait. option_and_then (λ monitor.
    option_and_then (λ reopen. option_and_then (λ cycle_gap. option_map (λ report.
    record { queue = queue; requests = requests; history = history; wait = wait; monitor = monitor; reopen = reopen; cycle_gap = cycle_gap; report = report })
    (report_in rows)) (cycle_gap_in rows)) (reopen_in rows)) (monitor_in rows)) (wait_in rows)) (history_in rows)) (requests_in rows)) (queue_in rows)

-- `--listen`: where clients connect
abbrev pub listen_in : List Row → Text
listen_in rows = unwrap_or (first_of (codes "listen") rows) (codes "127.0.0.1:2947")

abbrev pub devices_among : List Row → Option Lists
devices_among rows = option_and_then devices_in (all_of (codes "device") rows)

-- `--stop`: the path of the file whose first byte or end ends the daemon; there is none if it is left out
abbrev pub stop_or : Option Text → Option (Option Text)
stop_or None = Some None
stop_or (Some text) = option_map (λ path. Some path) (path_in text)

abbrev pub stop_in : List Row → Option (Option Text)
stop_in rows = stop_or (first_of (codes "stop") rows)

abbrev pub if_address : Text → ServeNumbers → Option Text → Lists → Option Serve
if_address listen numbers stop devices =
    if is_address listen then Some (record { devices = devices; listen = listen; numbers = numbers; stop = stop }) else None

-- the options with these numbers and this path of `--stop`
abbrev pub serve_with : List Row → ServeNumbers → Option Text → Option Serve
serve_with rows numbers stop = option_and_then (if_address (listen_in rows) numbers stop) (devices_among rows)

-- the options with these numbers
abbrev pub serve_of_numbers : List Row → ServeNumbers → Option Serve
serve_of_numbers rows numbers = option_and_then (serve_with rows numbers) (stop_in rows)

unfoldable pub serve_in : List Row → Option Serve
serve_in rows = option_and_then (serve_of_numbers rows) (numbers_in rows)

abbrev pub serve_of : List Text → Option Serve
serve_of words = read_by serve_app serve_in words

-- the first word is `serve`, which reads them all
abbrev pub serve_asked_of : List Text → Option Serve
serve_asked_of [] = None
serve_asked_of (word ∷ words) = if bytes_eq word (codes "serve") then serve_of (word ∷ words) else None
