-- The table of the options beside the reading of the words, command by command.
use Rattle.std.proofs.Common.{◌≡◌, ◌&&◌, ◌∙◌, ℕ, Bool, true, false, List, Option, Some, None, refl, ap, sym, codes, is_some, length, nat_lt, option_and_then, option_map, unwrap_or, if◌then◌else◌}
use Rattle.clap.specs.Simple.{App, matches_of}
use Rattle.clap.specs.Walk.{Row, Text, first_of}
use Rattle.gps_words.specs.Decode.{bytes_in, bytes_or, bytes_within}
use Rattle.gps_words.specs.Devices.{Lists, is_address, is_port, last_colon, path_in}
use Rattle.gps_fixed.specs.Numeral.{numeral}
use Rattle.gps_fixed.specs.Scaled.{whole_of}
use Rattle.gps_words.specs.Asked.{kind_named}
use Rattle.gps_words.specs.Forms.{app_for, line_in}
use Rattle.gps_words.specs.Generate.{generate_in, seed_in, size_in}
use Rattle.gps_words.specs.Decode.{decode_in}
use Rattle.gps_words.specs.Lines.{lines_in}
use Rattle.gps_words.specs.Options.{are_taken, read_by}
use Rattle.gps_words.specs.Pseudo.{pseudo_in}
use Rattle.gps_words.specs.Numbers.{number_if, number_in, number_or}
use Rattle.gps_words.specs.Replay.{history_in, queue_in, replay_in}
use Rattle.gps_words.specs.Serve.{Serve, cycle_gap_in, devices_among, if_address, listen_in, monitor_in, numbers_in, reopen_in, report_in, requests_in, serve_in, serve_of_numbers, serve_with, stop_in, stop_or, wait_in}
use Rattle.gps_words.specs.declared.serve.ServeNumbers.{ServeNumbers}
use Rattle.gps_help.specs.Agreement.{IsWrittenByName, TakesWhatIsAccepted, app_by_table, are_right, is_right, name_of, with_name}
use Rattle.gps_help.specs.Options.{flag_of, takes}
use Rattle.gps_help.specs.declared.command_name.CommandName.TheVariants as command
use Rattle.gps_help.specs.declared.option_name.OptionName.{OptionName}
use Rattle.gps_help.specs.declared.option_name.OptionName.TheVariants as option

pub is_written_by_name : IsWrittenByName
unfolding flag_of
is_written_by_name option.Listen = refl
is_written_by_name option.Queue = refl
is_written_by_name option.Requests = refl
is_written_by_name option.History = refl
is_written_by_name option.Wait = refl
is_written_by_name option.Monitor = refl
is_written_by_name option.Reopen = refl
is_written_by_name option.CycleGap = refl
is_written_by_name option.Report = refl
is_written_by_name option.Stop = refl
is_written_by_name option.Bytes = refl
is_written_by_name option.Seed = refl
is_written_by_name option.Size = refl

mapped : {A B : Type 0} (f : A → B) (x : Option A) → is_some (option_map f x) ≡ is_some x
mapped f None = refl
mapped f (Some a) = refl

-- what comes after a first value asks for something or not, whatever that value is
bound : {A B : Type 0} (f : A → Option B) (x : Option A) (b : Bool) → ((a : A) → is_some (f a) ≡ b) → is_some (option_and_then f x) ≡ is_some x && b
bound f None b each = refl
bound f (Some a) b each = each a

and_true : (b : Bool) → b && true ≡ b
and_true true = refl
and_true false = refl

and_false : (b : Bool) → b && false ≡ false
and_false true = refl
and_false false = refl

both : (a b c d : Bool) → a ≡ c → b ≡ d → a && b ≡ c && d
both a b c d left right = ap (λ x. x && b) left ∙ ap (λ x. c && x) right

-- the three ways in which a number is given, and what the table says of them
optional : (default least most : ℕ) (right : Option Text → Bool) → right None ≡ true
    → ((text : Text) → right (Some text) ≡ is_some (number_in least most text)) → (given : Option Text) → is_some (number_or default least most given) ≡ right given
optional default least most right none some None = sym none
optional default least most right none some (Some text) = sym (some text)

absent : (least most : ℕ) (right : Option Text → Bool) → right None ≡ true
    → ((text : Text) → right (Some text) ≡ is_some (number_in least most text)) → (given : Option Text) → is_some (number_if least most given) ≡ right given
absent least most right none some None = sym none
absent least most right none some (Some text) = mapped (λ n. Some n) (number_in least most text) ∙ sym (some text)

needed : (least most : ℕ) (right : Option Text → Bool) → right None ≡ false
    → ((text : Text) → right (Some text) ≡ is_some (number_in least most text)) → (given : Option Text)
    → is_some (option_and_then (number_in least most) given) ≡ right given
needed least most right none some None = sym none
needed least most right none some (Some text) = sym (some text)

bytes : (right : Option Text → Bool) → right None ≡ true → ((text : Text) → right (Some text) ≡ is_some (bytes_within text)) → (given : Option Text)
    → is_some (bytes_or given) ≡ right given
bytes right none some None = sym none
bytes right none some (Some text) = sym (some text)

path : (right : Option Text → Bool) → right None ≡ true → ((text : Text) → right (Some text) ≡ is_some (path_in text)) → (given : Option Text)
    → is_some (stop_or given) ≡ right given
path right none some None = sym none
path right none some (Some text) = mapped (λ path. Some path) (path_in text) ∙ sym (some text)

if_some : (b : Bool) (text : Text) → b ≡ is_some (if b then Some text else None)
if_some true text = refl
if_some false text = refl

address : (right : Option Text → Bool) → right None ≡ true → ((text : Text) → right (Some text) ≡ is_address text) → (given : Option Text)
    → is_address (unwrap_or given (codes "127.0.0.1:2947")) ≡ right given
unfolding is_address is_port last_colon numeral whole_of
address right none some None = refl ∙ sym none
address right none some (Some text) = sym (some text)

-- the order in which the values are read makes no difference to whether they are
shuffled : (q a h w m r c p s d : Bool)
    → (q && (a && (h && (w && (m && (r && (c && p))))))) && (s && (d && true)) ≡ (q && (a && (h && (w && (m && (r && (c && (p && (s && true))))))))) && d
shuffled false a h w m r c p s d = refl
shuffled true false h w m r c p s d = refl
shuffled true true false w m r c p s d = refl
shuffled true true true false m r c p s d = refl
shuffled true true true true false r c p s d = refl
shuffled true true true true true false c p s d = refl
shuffled true true true true true true false p s d = refl
shuffled true true true true true true true false s d = refl
shuffled true true true true true true true true false d = refl
shuffled true true true true true true true true true d = and_true d

nothing : (n s d : Bool) → n && (s && (d && false)) ≡ false
nothing false s d = refl
nothing true false d = refl
nothing true true d = and_false d

ordered : (l q a h w m r c p s d : Bool)
    → (q && (a && (h && (w && (m && (r && (c && p))))))) && (s && (d && l))
    ≡ (l && (q && (a && (h && (w && (m && (r && (c && (p && (s && true)))))))))) && d
ordered true q a h w m r c p s d = shuffled q a h w m r c p s d
ordered false q a h w m r c p s d = nothing (q && (a && (h && (w && (m && (r && (c && p))))))) s d

numbers : (rows : List Row) → is_some (numbers_in rows)
    ≡ is_some (queue_in rows) && (is_some (requests_in rows) && (is_some (history_in rows) && (is_some (wait_in rows) && (is_some (monitor_in rows)
    && (is_some (reopen_in rows) && (is_some (cycle_gap_in rows) && is_some (report_in rows)))))))
unfolding numbers_in
numbers rows =
    bound _ (queue_in rows) _ (λ queue. bound _ (requests_in rows) _ (λ requests. bound _ (history_in rows) _ (λ history.
    bound _ (wait_in rows) _ (λ wait. bound _ (monitor_in rows) _ (λ monitor. bound _ (reopen_in rows) _ (λ reopen.
    bound _ (cycle_gap_in rows) _ (λ cycle_gap. mapped _ (report_in rows))))))))

if_it_is : (rows : List Row) (n : ServeNumbers) (stop : Option Text) (devices : Lists)
    → is_some (if_address (listen_in rows) n stop devices) ≡ is_address (listen_in rows)
if_it_is rows n stop devices = known (is_address (listen_in rows)) _
  where
    known : (b : Bool) (serve : Serve) → is_some (if b then Some serve else None) ≡ b
    known true serve = refl
    known false serve = refl

served : (rows : List Row) → is_some (serve_in rows)
    ≡ is_some (numbers_in rows) && (is_some (stop_in rows) && (is_some (devices_among rows) && is_address (listen_in rows)))
unfolding serve_in
served rows =
    bound (serve_of_numbers rows) (numbers_in rows) _ (λ n. bound (serve_with rows n) (stop_in rows) _
    (λ stop. bound (if_address (listen_in rows) n stop) (devices_among rows) _ (if_it_is rows n stop)))

decode_right : (rows : List Row) → is_some (decode_in rows) ≡ are_right command.Decode rows
unfolding takes
decode_right rows =
    mapped _ (bytes_in rows) ∙ bytes (is_right command.Decode option.Bytes) refl (λ text. refl) (first_of (codes "history") rows)
    ∙ sym (and_true _) ∙ sym (and_true _)

pseudo_right : (rows : List Row) → is_some (pseudo_in rows) ≡ are_right command.Pseudo rows
unfolding takes
pseudo_right rows =
    mapped _ (bytes_in rows) ∙ bytes (is_right command.Pseudo option.Bytes) refl (λ text. refl) (first_of (codes "history") rows)
    ∙ sym (and_true _) ∙ sym (and_true _)

replay_right : (rows : List Row) → is_some (replay_in rows) ≡ are_right command.Replay rows
unfolding replay_in takes
replay_right rows =
    bound _ (history_in rows) _ (λ history. mapped _ (queue_in rows))
    ∙ both _ _ _ _ (optional 16_777_216 1 33_554_432 (is_right command.Replay option.History) refl (λ text. refl) (first_of (codes "history") rows))
    (optional 4_096 1 65_536 (is_right command.Replay option.Queue) refl (λ text. refl) (first_of (codes "queue") rows) ∙ sym (and_true _))
    ∙ sym (and_true _)

generate_right : (rows : List Row) → is_some (generate_in rows) ≡ are_right command.Generate rows
unfolding generate_in takes
generate_right rows =
    bound _ (seed_in rows) _ (λ seed. mapped _ (size_in rows))
    ∙ both _ _ _ _ (needed 0 4_294_967_295 (is_right command.Generate option.Seed) refl (λ text. refl) (first_of (codes "seed") rows))
    (needed 1 10_000 (is_right command.Generate option.Size) refl (λ text. refl) (first_of (codes "size") rows) ∙ sym (and_true _))
    ∙ sym (and_true _)

abbrev given : OptionName → List Row → Bool
given option rows = is_right command.Serve option (first_of (name_of option) rows)

serve_right : (rows : List Row) → is_some (serve_in rows) ≡ are_right command.Serve rows
unfolding takes
serve_right rows =
    served rows
    ∙ both _ _ _ _ (numbers rows
    ∙ both _ _ _ _ (optional 4_096 1 65_536 (is_right command.Serve option.Queue) refl (λ text. refl) (first_of (codes "queue") rows))
    (both _ _ _ _ (optional 65_536 1 4_294_967_294 (is_right command.Serve option.Requests) refl (λ text. refl) (first_of (codes "requests") rows))
    (both _ _ _ _ (optional 16_777_216 1 33_554_432 (is_right command.Serve option.History) refl (λ text. refl) (first_of (codes "history") rows))
    (both _ _ _ _ (optional 0 0 64 (is_right command.Serve option.Wait) refl (λ text. refl) (first_of (codes "wait") rows))
    (both _ _ _ _ (optional 0 0 1_000_000 (is_right command.Serve option.Monitor) refl (λ text. refl) (first_of (codes "monitor") rows))
    (both _ _ _ _ (absent 1 3_600 (is_right command.Serve option.Reopen) refl (λ text. refl) (first_of (codes "reopen") rows))
    (both _ _ _ _ (absent 1 10_000 (is_right command.Serve option.CycleGap) refl (λ text. refl) (first_of (codes "cycle-gap") rows))
    (absent 10 86_400 (is_right command.Serve option.Report) refl (λ text. refl) (first_of (codes "report") rows)))))))))
    (both _ _ _ _ (path (is_right command.Serve option.Stop) refl (λ text. if_some (nat_lt 0 (length text)) text) (first_of (codes "stop") rows))
    (both _ _ _ _ refl (address (is_right command.Serve option.Listen) refl (λ text. refl) (first_of (codes "listen") rows))))
    ∙ ordered (given option.Listen rows) (given option.Queue rows) (given option.Requests rows) (given option.History rows) (given option.Wait rows)
    (given option.Monitor rows) (given option.Reopen rows) (given option.CycleGap rows) (given option.Report rows) (given option.Stop rows)
    (is_some (devices_among rows))

taken : {X : Type 0} (b : Bool) (x : Option X) → is_some (if b then x else None) ≡ b && is_some x
taken true x = refl
taken false x = refl

-- words that clap takes, and whose values are read
read : {X : Type 0} (app : App) (reading : List Row → Option X) (right : List Row → Bool) (words : List Text)
    → ((rows : List Row) → is_some (reading rows) ≡ right rows) → is_some (read_by app reading words) ≡ are_taken app words && right (matches_of app words)
unfolding read_by
read app reading right words each =
    taken (are_taken app words) (reading (matches_of app words)) ∙ ap (λ b. are_taken app words && b) (each (matches_of app words))

pub takes_what_is_accepted : TakesWhatIsAccepted
unfolding kind_named app_for line_in
takes_what_is_accepted command.Decode words =
    read (app_by_table command.Decode) decode_in (are_right command.Decode) (with_name command.Decode words) decode_right
takes_what_is_accepted command.Pseudo words =
    read (app_by_table command.Pseudo) pseudo_in (are_right command.Pseudo) (with_name command.Pseudo words) pseudo_right
takes_what_is_accepted command.Replay words =
    read (app_by_table command.Replay) replay_in (are_right command.Replay) (with_name command.Replay words) replay_right
takes_what_is_accepted command.Generate words =
    read (app_by_table command.Generate) generate_in (are_right command.Generate) (with_name command.Generate words) generate_right
takes_what_is_accepted command.Lines words =
    read (app_by_table command.Lines) lines_in (are_right command.Lines) (with_name command.Lines words) (λ rows. refl)
takes_what_is_accepted command.Serve words =
    read (app_by_table command.Serve) serve_in (are_right command.Serve) (with_name command.Serve words) serve_right
