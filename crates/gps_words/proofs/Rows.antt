-- Words written out, and what they ask for.
use Rattle.std.specs.Prelude.{⊤}
use Rattle.std.proofs.Common.{◌≡◌, List, [], ◌∷◌, Option, Some, None, codes, refl}
use Rattle.clap.specs.Walk.{Text}
use Rattle.clap.proofs.OnLiterals.{clap_on_literals}
use Rattle.gps_words.specs.Asked.{asked_of, kind_named}
use Rattle.gps_words.specs.Decode.{bytes_within}
use Rattle.gps_words.specs.Numbers.{digits_after}
use Rattle.gps_fixed.specs.Scaled.{whole_of}
use Rattle.gps_fixed.specs.Numeral.{numeral}
use Rattle.gps_words.specs.Devices.{devices_in, devices_of, edges_end_names, edges_for, halves, is_address, is_port, last_colon, target_in, target_of, word_in, words_in}
use Rattle.gps_words.specs.Generate.{generate_in}
use Rattle.gps_words.specs.Forms.{app_for, line_in}
use Rattle.gps_words.specs.Options.{read_by}
use Rattle.gps_words.specs.Replay.{replay_in}
use Rattle.gps_words.specs.Serve.{Serve, numbers_in, serve_asked_of, serve_in}
use Rattle.gps_words.specs.declared.command.CommandLine.{CommandLine}
use Rattle.gps_words.specs.declared.command.CommandLine.TheVariants.{Decode, Generate, Lines, Pseudo, Replay}
use Rattle.gps_words.specs.declared.device.Input.TheVariants.{File, Tcp, Gpsd}
use Rattle.gps_words.specs.declared.serve.ServeNumbers.{ServeNumbers}

-- what computes the command of words that are written out
unfoldable asked_on_literals : ⊤
unfolding kind_named app_for line_in read_by digits_after bytes_within replay_in generate_in
asked_on_literals = tt

abbrev decode_with : List Text → Option CommandLine
decode_with words = asked_of (codes "decode" ∷ words)

no_word : asked_of [] ≡ None
no_word = refl

unknown_word : asked_of (codes "frob" ∷ []) ≡ None
unfolding kind_named
unknown_word = refl

begun_word : asked_of (codes "decod" ∷ []) ≡ None
unfolding kind_named
begun_word = refl

alone : decode_with [] ≡ Some (Decode 16_777_216)
unfolding clap_on_literals asked_on_literals
alone = refl

value_behind : decode_with (codes "--history" ∷ codes "69" ∷ []) ≡ Some (Decode 69)
unfolding clap_on_literals asked_on_literals
value_behind = refl

value_after_equals : decode_with (codes "--history=5" ∷ []) ≡ Some (Decode 5)
unfolding clap_on_literals asked_on_literals
value_after_equals = refl

ten_digits : decode_with (codes "--history" ∷ codes "0000000070" ∷ []) ≡ Some (Decode 70)
unfolding clap_on_literals asked_on_literals
ten_digits = refl

most : decode_with (codes "--history" ∷ codes "33554432" ∷ []) ≡ Some (Decode 33_554_432)
unfolding clap_on_literals asked_on_literals
most = refl

over_most : decode_with (codes "--history" ∷ codes "33554433" ∷ []) ≡ None
unfolding clap_on_literals asked_on_literals
over_most = refl

nought : decode_with (codes "--history" ∷ codes "0" ∷ []) ≡ None
unfolding clap_on_literals asked_on_literals
nought = refl

all : decode_with (codes "--history" ∷ codes "all" ∷ []) ≡ Some (Decode 9_223_372_036_854_775_807)
unfolding clap_on_literals asked_on_literals
all = refl

all_of_pseudo : asked_of (codes "pseudo" ∷ codes "--history=all" ∷ []) ≡ Some (Pseudo 9_223_372_036_854_775_807)
unfolding clap_on_literals asked_on_literals
all_of_pseudo = refl

all_of_replay : asked_of (codes "replay" ∷ codes "--history=all" ∷ []) ≡ None
unfolding clap_on_literals asked_on_literals
all_of_replay = refl

eleven_digits : decode_with (codes "--history" ∷ codes "00000000070" ∷ []) ≡ None
unfolding clap_on_literals asked_on_literals
eleven_digits = refl

with_plus : decode_with (codes "--history" ∷ codes "+5" ∷ []) ≡ None
unfolding clap_on_literals asked_on_literals
with_plus = refl

with_minus : decode_with (codes "--history" ∷ codes "-5" ∷ []) ≡ None
unfolding clap_on_literals asked_on_literals
with_minus = refl

no_value : decode_with (codes "--history" ∷ []) ≡ None
unfolding clap_on_literals asked_on_literals
no_value = refl

empty_value : decode_with (codes "--history=" ∷ []) ≡ None
unfolding clap_on_literals asked_on_literals
empty_value = refl

twice : decode_with (codes "--history=5" ∷ codes "--history=5" ∷ []) ≡ None
unfolding clap_on_literals asked_on_literals
twice = refl

begun_option : decode_with (codes "--hist" ∷ codes "5" ∷ []) ≡ None
unfolding clap_on_literals asked_on_literals
begun_option = refl

help : decode_with (codes "--help" ∷ []) ≡ None
unfolding clap_on_literals asked_on_literals
help = refl

short_help : decode_with (codes "-h" ∷ []) ≡ None
unfolding clap_on_literals asked_on_literals
short_help = refl

stray_word : decode_with (codes "stdin" ∷ []) ≡ None
unfolding clap_on_literals asked_on_literals
stray_word = refl

generated : asked_of (codes "generate" ∷ codes "--seed" ∷ codes "0" ∷ codes "--size=10000" ∷ []) ≡ Some (Generate 0 10_000)
unfolding clap_on_literals asked_on_literals
generated = refl

no_size : asked_of (codes "generate" ∷ codes "--seed" ∷ codes "1" ∷ []) ≡ None
unfolding clap_on_literals asked_on_literals
no_size = refl

replayed : asked_of (codes "replay" ∷ codes "--queue" ∷ codes "65536" ∷ []) ≡ Some (Replay 16_777_216 65_536)
unfolding clap_on_literals asked_on_literals
replayed = refl

requests_of_replay : asked_of (codes "replay" ∷ codes "--requests=5" ∷ []) ≡ None
unfolding clap_on_literals asked_on_literals
requests_of_replay = refl

option_of_lines : asked_of (codes "lines" ∷ codes "--history=5" ∷ []) ≡ None
unfolding clap_on_literals asked_on_literals
option_of_lines = refl

lines_alone : asked_of (codes "lines" ∷ []) ≡ Some Lines
unfolding clap_on_literals asked_on_literals
lines_alone = refl

-- what computes the devices and the numbers of words that are written out
unfoldable serve_on_literals : ⊤
unfolding read_by digits_after serve_in numbers_in devices_in devices_of words_in word_in target_in target_of halves edges_end_names edges_for is_address last_colon is_port whole_of numeral
serve_on_literals = tt

abbrev served : List Text → Option Serve
served words = serve_asked_of (codes "serve" ∷ words)

abbrev defaults : ServeNumbers
defaults = record { queue = 4_096; requests = 65_536; history = 16_777_216; wait = 0; monitor = 0; reopen = None; cycle_gap = None; report = None }

one_device : served (codes "g=file:x" ∷ []) ≡ Some (record {
  devices = record { names = codes "g" ∷ []; inputs = File (codes "x") ∷ []; edges = None ∷ [] };
  listen = codes "127.0.0.1:2947";
  numbers = defaults;
  stop = None;
})
unfolding clap_on_literals serve_on_literals
one_device = refl

another_daemon : served (codes "g=gpsd:h:2947" ∷ []) ≡ Some (record {
  devices = record { names = codes "g" ∷ []; inputs = Gpsd (codes "h:2947") ∷ []; edges = None ∷ [] };
  listen = codes "127.0.0.1:2947";
  numbers = defaults;
  stop = None;
})
unfolding clap_on_literals serve_on_literals
another_daemon = refl

words_among_options : served (codes "b=tcp:[::1]:80" ∷ codes "--wait" ∷ codes "3" ∷ codes "a=file:=:" ∷ codes "b=edges:y" ∷ codes "--listen=h:65535" ∷ []) ≡ Some (record {
  devices = record { names = codes "b" ∷ codes "a" ∷ []; inputs = Tcp (codes "[::1]:80") ∷ File (codes "=:") ∷ []; edges = Some (codes "y") ∷ None ∷ [] };
  listen = codes "h:65535";
  numbers = record defaults { wait = 3 };
  stop = None;
})
unfolding clap_on_literals serve_on_literals
words_among_options = refl

stopped_and_reopened : served (codes "--stop" ∷ codes "/run/stop" ∷ codes "g=file:x" ∷ codes "--reopen=3600" ∷ []) ≡ Some (record {
  devices = record { names = codes "g" ∷ []; inputs = File (codes "x") ∷ []; edges = None ∷ [] };
  listen = codes "127.0.0.1:2947";
  numbers = record defaults { reopen = Some 3_600 };
  stop = Some (codes "/run/stop");
})
unfolding clap_on_literals serve_on_literals
stopped_and_reopened = refl

most_requests : served (codes "--requests" ∷ codes "4294967294" ∷ codes "g=file:x" ∷ []) ≡ Some (record {
  devices = record { names = codes "g" ∷ []; inputs = File (codes "x") ∷ []; edges = None ∷ [] };
  listen = codes "127.0.0.1:2947";
  numbers = record defaults { requests = 4_294_967_294 };
  stop = None;
})
unfolding clap_on_literals serve_on_literals
most_requests = refl

no_requests : served (codes "--requests=0" ∷ codes "g=file:x" ∷ []) ≡ None
unfolding clap_on_literals serve_on_literals
no_requests = refl

over_most_requests : served (codes "--requests=4294967295" ∷ codes "g=file:x" ∷ []) ≡ None
unfolding clap_on_literals serve_on_literals
over_most_requests = refl

gap_and_report : served (codes "--cycle-gap" ∷ codes "100" ∷ codes "g=file:x" ∷ codes "--report=86400" ∷ []) ≡ Some (record {
  devices = record { names = codes "g" ∷ []; inputs = File (codes "x") ∷ []; edges = None ∷ [] };
  listen = codes "127.0.0.1:2947";
  numbers = record defaults { cycle_gap = Some 100; report = Some 86_400 };
  stop = None;
})
unfolding clap_on_literals serve_on_literals
gap_and_report = refl

no_gap : served (codes "--cycle-gap=0" ∷ codes "g=file:x" ∷ []) ≡ None
unfolding clap_on_literals serve_on_literals
no_gap = refl

over_ten_seconds : served (codes "--cycle-gap=10001" ∷ codes "g=file:x" ∷ []) ≡ None
unfolding clap_on_literals serve_on_literals
over_ten_seconds = refl

reported_too_often : served (codes "--report=9" ∷ codes "g=file:x" ∷ []) ≡ None
unfolding clap_on_literals serve_on_literals
reported_too_often = refl

over_a_day : served (codes "--report=86401" ∷ codes "g=file:x" ∷ []) ≡ None
unfolding clap_on_literals serve_on_literals
over_a_day = refl

no_path_of_stop : served (codes "--stop=" ∷ codes "g=file:x" ∷ []) ≡ None
unfolding clap_on_literals serve_on_literals
no_path_of_stop = refl

at_once : served (codes "--reopen=0" ∷ codes "g=file:x" ∷ []) ≡ None
unfolding clap_on_literals serve_on_literals
at_once = refl

over_an_hour : served (codes "--reopen=3601" ∷ codes "g=file:x" ∷ []) ≡ None
unfolding clap_on_literals serve_on_literals
over_an_hour = refl

all_of_serve : served (codes "--history=all" ∷ codes "g=file:x" ∷ []) ≡ None
unfolding clap_on_literals serve_on_literals
all_of_serve = refl

no_device_word : served [] ≡ None
unfolding clap_on_literals serve_on_literals
no_device_word = refl

bad_listen : served (codes "g=file:x" ∷ codes "--listen" ∷ codes "h:65536" ∷ []) ≡ None
unfolding clap_on_literals serve_on_literals
bad_listen = refl

edges_before_device : devices_in (codes "a=edges:y" ∷ codes "a=file:x" ∷ []) ≡ None
unfolding serve_on_literals
edges_before_device = refl

edges_twice : devices_in (codes "a=file:x" ∷ codes "a=edges:y" ∷ codes "a=edges:z" ∷ []) ≡ None
unfolding serve_on_literals
edges_twice = refl

edges_alone : devices_in (codes "a=file:x" ∷ codes "b=edges:y" ∷ []) ≡ None
unfolding serve_on_literals
edges_alone = refl

device_twice : devices_in (codes "a=file:x" ∷ codes "a=tcp:h:1" ∷ []) ≡ None
unfolding serve_on_literals
device_twice = refl

unknown_kind : devices_in (codes "a=udp:h:1" ∷ []) ≡ None
unfolding serve_on_literals
unknown_kind = refl

no_host : devices_in (codes "a=tcp::1" ∷ []) ≡ None
unfolding serve_on_literals
no_host = refl

two_slashes : devices_in (codes "a=tcp://h:1" ∷ []) ≡ None
unfolding serve_on_literals
two_slashes = refl

no_path : devices_in (codes "a=file:" ∷ []) ≡ None
unfolding serve_on_literals
no_path = refl
