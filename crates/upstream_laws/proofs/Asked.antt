-- The request is read as it is meant, with any name in it.
use Rattle.std.proofs.Common.{◌≡◌, ◌≤◌, ◌<◌, ◌-◌, ◌&&◌, ℕ, zero, suc, Bool, true, false, not, cond, List, [], ◌∷◌, ◌++◌, Option, Some, None, length, take, nat_le, nat_lt, refl, sym, ap, ◌∙◌, arith, codes}
use Rattle.std.specs.Prelude.{nat_eq, option_and_then, slice_index}
use Rattle.std.specs.List.{list_all}
use Rattle.std.specs.Str.{chars, is_utf8}
use Rattle.std.proofs.lemmas.Bool.{and_from, and_parts, and_right, le-ltb, leb-true, lt-ltb, ltb-true, or_from}
use Rattle.std.proofs.lemmas.List.{append_assoc, length-append}
use Rattle.std.proofs.lemmas.Str.{IsUtf8-from_ascii, is_utf8-from_IsUtf8}
use Rattle.json.specs.Token.{Token}
use Rattle.json.specs.Token as token
use Rattle.json.specs.Lex as lexer
use Rattle.json.specs.Lex.{Class, class, lex, punctuate, tokens}
use Rattle.json.specs.Text.{content, plain}
use Rattle.json.specs.Word.{after_number, is_operator, is_space, word}
use Rattle.json.specs.Json as json
use Rattle.serde_json.specs.Data.{Data}
use Rattle.serde_json.specs.Data as data_of
use Rattle.serde_json.specs.Read.{of_json, read}
use Rattle.serde_json.proofs.OnLiterals.{serde_json_on_literals}
use Rattle.gps_report.specs.Name.{is_name, is_name_byte}
use Rattle.watch_policy.specs.Change.{change_in}
use Rattle.watch_policy.specs.declared.change.Change.{Change}
use Rattle.gps_command.specs.Commands.{is_trailing, json_of, trimmed, watch_in, words_command}
use Rattle.gps_command.specs.Requests.{open_length, requests, requests_from}
use Rattle.gps_command.specs.Texts.{IsInside, IsRequest, IsText, empty_inside, empty_text, inner_byte, plain_byte, whole_string}
use Rattle.gps_command.proofs.Sets.{reads_requests}
use Rattle.upstream_laws.specs.Carried.{request}
use Rattle.upstream_laws.specs.Asking.{IsUnderstood, RequestIsUnderstood}

-- a byte of a name
record IsOrdinary (b : ℕ) : Type 0 where
  printable : 0x21 ≤ b
  ascii : b ≤ 0x7E
  no_quote : nat_eq b 34 ≡ false
  no_backslash : nat_eq b 92 ≡ false

is_false : (b : Bool) → not b ≡ true → b ≡ false
is_false true e = cc
is_false false e = refl

ordinary : (b : ℕ) → is_name_byte b ≡ true → IsOrdinary b
ordinary b is =
    let one : ((nat_le 0x21 b && nat_le b 0x7E && not (nat_eq b 34) && not (nat_eq b 92)) ≡ true) × (not (nat_eq b 61) ≡ true) = and_parts _ _ is in
    let two : ((nat_le 0x21 b && nat_le b 0x7E && not (nat_eq b 34)) ≡ true) × (not (nat_eq b 92) ≡ true) = and_parts _ _ one.0 in
    let three : ((nat_le 0x21 b && nat_le b 0x7E) ≡ true) × (not (nat_eq b 34) ≡ true) = and_parts _ _ two.0 in
    let four : (nat_le 0x21 b ≡ true) × (nat_le b 0x7E ≡ true) = and_parts _ _ three.0 in
    record {
      printable = leb-true 0x21 b four.0;
      ascii = leb-true b 0x7E four.1;
      no_quote = is_false (nat_eq b 34) three.1;
      no_backslash = is_false (nat_eq b 92) two.1;
    }

-- a name within a string: in a request, and in a JSON text
inside_name : (name : List ℕ) → list_all is_name_byte name ≡ true → IsInside name
inside_name [] all = empty_inside
inside_name (b ∷ name) all =
    let parts : (is_name_byte b ≡ true) × (list_all is_name_byte name ≡ true) = and_parts _ _ all in
    let o : IsOrdinary b = ordinary b parts.0 in
    inner_byte b name (ap not (or_from (nat_eq b 34) (nat_eq b 92) o.no_quote o.no_backslash)) (inside_name name parts.1)

content_name : (name rest : List ℕ) → list_all is_name_byte name ≡ true → content plain (name ++ 34 ∷ rest) ≡ Some name
unfolding content
content_name [] rest all = refl
content_name (b ∷ name) rest all =
    let parts : (is_name_byte b ≡ true) × (list_all is_name_byte name ≡ true) = and_parts _ _ all in
    let o : IsOrdinary b = ordinary b parts.0 in
    let not_control : nat_lt b 32 ≡ false = le-ltb b 32 (omega (arith, o.printable)) in
    rw (o.no_quote, o.no_backslash, not_control, content_name name rest parts.1) refl

data InString : Class → Type 0 where
  by_operator : InString lexer.operator
  by_space : InString lexer.space
  by_other : InString lexer.other

in_string : (b : ℕ) → nat_eq b 34 ≡ false → nat_eq b 92 ≡ false → InString (class b)
in_string b quote backslash = rw (quote, backslash) (by (is_operator b) (is_space b))
  where
    by : (o s : Bool) → InString (cond o lexer.operator (cond s lexer.space lexer.other))
    by true s = by_operator
    by false true = by_space
    by false false = by_other

passes : (c : Class) (b : ℕ) (xs : List ℕ) (k : lexer.Mode → List lexer.Lexeme) → InString c → lexer.lex_byte lexer.in_string c b xs k ≡ k lexer.in_string
passes lexer.quote b xs k is = elim is [ ]
passes lexer.backslash b xs k is = elim is [ ]
passes lexer.operator b xs k by_operator = refl
passes lexer.space b xs k by_space = refl
passes lexer.other b xs k by_other = refl

lex_name : (name rest : List ℕ) → list_all is_name_byte name ≡ true → lex lexer.in_string (name ++ 34 ∷ rest) ≡ lex lexer.between rest
unfolding lex
lex_name [] rest all = refl
lex_name (b ∷ name) rest all =
    let parts : (is_name_byte b ≡ true) × (list_all is_name_byte name ≡ true) = and_parts _ _ all in
    let o : IsOrdinary b = ordinary b parts.0 in
    passes (class b) b (name ++ 34 ∷ rest) (λ next. lex next (name ++ 34 ∷ rest)) (in_string b o.no_quote o.no_backslash) ∙ lex_name name rest parts.1

-- the object of a request with a device
abbrev object : List ℕ → List ℕ
object name = codes "{\"raw\":2,\"device\":\"" ++ (name ++ codes "\"}")

digit_word : (rest : List ℕ) → word (50 ∷ 44 ∷ rest) ≡ token.number (codes "2")
unfolding word after_number
digit_word rest =
    let one : length (50 ∷ 44 ∷ rest) - length (44 ∷ rest) ≡ 1 = omega arith in ap (λ n. token.number (take n (50 ∷ 44 ∷ rest))) one

lexed : (name : List ℕ) → list_all is_name_byte name ≡ true → lex lexer.between (object name)
    ≡ lexer.token token.begin_object ∷ lexer.token (token.string (codes "raw")) ∷ lexer.colon ∷ lexer.token (token.number (codes "2")) ∷ lexer.comma
    ∷ lexer.token (token.string (codes "device")) ∷ lexer.colon ∷ lexer.token (token.string name) ∷ lexer.token token.end_object ∷ []
unfolding lex content
lexed name all = rw (content_name name (codes "}") all, lex_name name (codes "}") all, digit_word) refl

tokens_are : (name : List ℕ) → list_all is_name_byte name ≡ true → tokens (object name)
    ≡ token.begin_object ∷ token.key (codes "raw") ∷ token.number (codes "2") ∷ token.key (codes "device") ∷ token.string name ∷ token.end_object ∷ []
unfolding serde_json_on_literals
tokens_are name all = ap (punctuate lexer.fresh) (lexed name all)

value_is : (name : List ℕ) → json.value 127
    (token.begin_object ∷ token.key (codes "raw") ∷ token.number (codes "2") ∷ token.key (codes "device") ∷ token.string name ∷ token.end_object ∷ [])
    ≡ Some (json.object (json.member (codes "raw") (json.number (codes "2")) (json.member (codes "device") (json.string name) json.no_members)), [])
unfolding serde_json_on_literals
value_is name = refl

abbrev object_data : List ℕ → Data
object_data name =
    data_of.object (data_of.member (codes "device") (data_of.string name) (data_of.member (codes "raw") (data_of.number (data_of.unsigned 2)) data_of.no_members))

data_is : (name : List ℕ) → of_json (json.object (json.member (codes "raw") (json.number (codes "2")) (json.member (codes "device") (json.string name) json.no_members)))
    ≡ Some (object_data name)
unfolding serde_json_on_literals
data_is name = refl

abbrev data_by : Option (json.Json × List Token) → Option Data
data_by value = option_and_then of_json (option_and_then (λ p. json.if_last p.0 p.1) value)

read_is : (name : List ℕ) → list_all is_name_byte name ≡ true → read (object name) ≡ Some (object_data name)
read_is name all = ap (λ ts. data_by (json.value 127 ts)) (tokens_are name all) ∙ ap data_by (value_is name) ∙ data_is name

abbrev changed : Option (Option (List ℕ)) → Change
changed device = record { enable = true; json = None; nmea = None; raw = Some 2; pps = None; device = device }

change_is : (name : List ℕ) → is_name name ≡ true → change_in (object_data name) ≡ Some (changed (Some (Some name)))
unfolding serde_json_on_literals
change_is [] is = cc
change_is (c ∷ name) is = rw is refl

-- ASCII is UTF-8
abbrev is_ascii : ℕ → Bool
is_ascii b = nat_lt b 128

ascii_from : (bytes : List ℕ) → list_all is_ascii bytes ≡ true → (i : ℕ) → slice_index bytes i < 128
ascii_from [] all i = omega arith
ascii_from (b ∷ bytes) all zero = ltb-true b 128 (and_parts (is_ascii b) (list_all is_ascii bytes) all).0
ascii_from (b ∷ bytes) all (suc i) = ascii_from bytes (and_parts (is_ascii b) (list_all is_ascii bytes) all).1 i

ascii_name : (name rest : List ℕ) → list_all is_name_byte name ≡ true → list_all is_ascii rest ≡ true → list_all is_ascii (name ++ rest) ≡ true
ascii_name [] rest all more = more
ascii_name (b ∷ name) rest all more =
    let parts : (is_name_byte b ≡ true) × (list_all is_name_byte name ≡ true) = and_parts _ _ all in
    let o : IsOrdinary b = ordinary b parts.0 in
    and_from (is_ascii b) (list_all is_ascii (name ++ rest)) (lt-ltb b 128 (omega (arith, o.ascii))) (ascii_name name rest parts.1 more)

utf8_object : (name : List ℕ) → list_all is_name_byte name ≡ true → is_utf8 (object name) ≡ true
utf8_object name all = is_utf8-from_IsUtf8 (object name) (IsUtf8-from_ascii (object name) (ascii_from (object name) (ascii_name name (codes "\"}") all refl)))

-- nothing is cut off its end
kept : (text : List ℕ) → trimmed (text ++ 125 ∷ []) ≡ text ++ 125 ∷ []
unfolding trimmed
kept [] = refl
kept (c ∷ text) = rw (and_right (is_trailing c) (list_all is_trailing (text ++ 125 ∷ [])) (not_trailing text)) (ap (λ t. c ∷ t) (kept text))
  where
    not_trailing : (text : List ℕ) → list_all is_trailing (text ++ 125 ∷ []) ≡ false
    not_trailing [] = refl
    not_trailing (c ∷ text) = and_right (is_trailing c) (list_all is_trailing (text ++ 125 ∷ [])) (not_trailing text)

-- with a device
abbrev words_of : List ℕ → List ℕ
words_of name = codes "?WATCH=" ++ object name

names_parts : (name : List ℕ) → is_name name ≡ true → (length name ≤ 64) × (list_all is_name_byte name ≡ true)
names_parts name is =
    let parts : ((nat_lt 0 (length name) && nat_le (length name) 64) ≡ true) × (list_all is_name_byte name ≡ true) = and_parts _ _ is in
    (leb-true (length name) 64 (and_parts _ _ parts.0).1, parts.1)

text_of_words : (name : List ℕ) → list_all is_name_byte name ≡ true → IsText (words_of name)
text_of_words name all =
    plain_byte 63 _ refl (plain_byte 87 _ refl (plain_byte 65 _ refl (plain_byte 84 _ refl (plain_byte 67 _ refl (plain_byte 72 _ refl (plain_byte 61 _ refl
    (plain_byte 123 _ refl (whole_string (codes "raw") _ (inside_name (codes "raw") refl)
    (plain_byte 58 _ refl (plain_byte 50 _ refl (plain_byte 44 _ refl (whole_string (codes "device") _ (inside_name (codes "device") refl)
    (plain_byte 58 _ refl (whole_string name _ (inside_name name all) (plain_byte 125 [] refl empty_text)))))))))))))))

is_request : (name : List ℕ) → is_name name ≡ true → IsRequest (words_of name)
is_request name is =
    let parts : (length name ≤ 64) × (list_all is_name_byte name ≡ true) = names_parts name is in
    record {
      whole = text_of_words name parts.1;
      some = omega arith;
      short = omega (arith, length-append name (codes "\"}"), parts.0);
      begins = refl;
    }

trimmed_words : (name : List ℕ) → trimmed (words_of name) ≡ words_of name
trimmed_words name =
    let end : words_of name ≡ (codes "?WATCH={\"raw\":2,\"device\":\"" ++ (name ++ codes "\"")) ++ 125 ∷ [] =
    ap (λ t. codes "?WATCH={\"raw\":2,\"device\":\"" ++ t) (sym (append_assoc name (codes "\"") (125 ∷ []))) in
    ap trimmed end ∙ kept (codes "?WATCH={\"raw\":2,\"device\":\"" ++ (name ++ codes "\"")) ∙ sym end

watch_words : (name : List ℕ) → words_command (words_of name) ≡ watch_in (json_of (object name))
watch_words name = refl

one_device : (name : List ℕ) → is_name name ≡ true → IsUnderstood (Some name)
unfolding request requests_from
one_device name is =
    let parts : (length name ≤ 64) × (list_all is_name_byte name ≡ true) = names_parts name is in
    let joined : request (Some name) ≡ words_of name ++ 59 ∷ 10 ∷ [] =
    ap (λ t. codes "?WATCH={\"raw\":2,\"device\":\"" ++ t)
    (append_assoc name (codes "\"};") (10 ∷ []) ∙ sym (append_assoc name (codes "\"}") (59 ∷ 10 ∷ []))) in
    let json : json_of (object name) ≡ Some (object_data name) = rw (utf8_object name parts.1) (read_is name parts.1) in
    record {
      words = words_of name;
      alone = ap requests joined ∙ reads_requests (words_of name) (10 ∷ []) 59 (is_request name is) refl;
      change = changed (Some (Some name));
      watches = ap words_command (trimmed_words name) ∙ watch_words name ∙ ap watch_in json ∙ rw (change_is name is) refl;
      policy = refl;
    }

-- without a device
no_device : IsUnderstood None
unfolding request requests_from open_length trimmed is_utf8 chars serde_json_on_literals
no_device = record {
  words = codes "?WATCH={\"raw\":2}";
  alone = refl;
  change = changed None;
  watches = refl;
  policy = refl;
}

pub understood : RequestIsUnderstood
understood None is = no_device
understood (Some name) is = one_device name is
