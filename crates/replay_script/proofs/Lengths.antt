-- How long a made script is at most.
use Rattle.std.proofs.Common.{◌≡◌, ◌+◌, ◌*◌, ◌/◌, ◌%◌, ◌^◌, ◌<◌, ◌≤◌, ℕ, zero, suc, List, [], ◌∷◌, ◌++◌, length, codes, sym, subst, arith, length-append}
use Rattle.std.specs.Fmt.{decimal}
use Rattle.std.proofs.lemmas.Fmt.{length-decimal-le}
use Rattle.gps_fixed.specs.Hexadecimal.{upper_digit}
use Rattle.gps_fixed.specs.Text.{digits_in}
use Rattle.nmea_frame.specs.Sentence.{checksum}
use Rattle.replay_script.specs.Sentences.{fraction, gga, gll, gsa, gsv, place, quality, rmc, sentence, time, vtg}
use Rattle.replay_script.specs.Workload.{decimals_at, edge_end, edge_line, edge_number, head, line_cut, receiver_lines, second_lines, seconds, steps, text_line, whole_second, workload_of}

-- a text of that many bytes at most
record Within (most : ℕ) (text : List ℕ) : Type 0 where
  short : length text ≤ most

joins : (a b : ℕ) (x y : List ℕ) → Within a x → Within b y → Within (a + b) (x ++ y)
joins a b x y first second =
    let f = first.short in
    let s = second.short in
    record { short = omega (arith, f, s, length-append x y) }

digits_within : (k n : ℕ) → Within k (digits_in k n)
digits_within zero n = record { short = omega arith }
digits_within (suc k) n = let more = (digits_within k n).short in record { short = omega (arith, more) }

-- sentences

time_within : (second : ℕ) → Within 7 (time second)
unfolding time
time_within second = record { short = omega arith }

place_within : (n : ℕ) → Within 27 (place n)
unfolding place fraction
place_within n = record { short = omega arith }

rmc_within : (second n : ℕ) → Within 63 (rmc second n)
unfolding rmc
rmc_within second n =
    let timed : Within 13 (codes "GPRMC," ++ time second) = joins 6 7 (codes "GPRMC,") (time second) (record { short = omega arith }) (time_within second) in
    let valid : Within 15 (codes "GPRMC," ++ time second ++ codes "A,") = joins 13 2 (codes "GPRMC," ++ time second) (codes "A,") timed (record { short = omega arith }) in
    let placed : Within 42 (codes "GPRMC," ++ time second ++ codes "A," ++ place n) =
    joins 15 27 (codes "GPRMC," ++ time second ++ codes "A,") (place n) valid (place_within n) in
    joins 42 21 (codes "GPRMC," ++ time second ++ codes "A," ++ place n) (codes "0.50,84.40,010624,,,A") placed (record { short = omega arith })

gga_within : (second n : ℕ) → Within 66 (gga second n)
unfolding gga quality
gga_within second n =
    let timed : Within 13 (codes "GPGGA," ++ time second) = joins 6 7 (codes "GPGGA,") (time second) (record { short = omega arith }) (time_within second) in
    let placed : Within 40 (codes "GPGGA," ++ time second ++ place n) = joins 13 27 (codes "GPGGA," ++ time second) (place n) timed (place_within n) in
    joins 40 26 (codes "GPGGA," ++ time second ++ place n) quality placed (record { short = omega arith })

gll_within : (second n : ℕ) → Within 43 (gll second n)
unfolding gll
gll_within second n =
    let placed : Within 33 (codes "GPGLL," ++ place n) = joins 6 27 (codes "GPGLL,") (place n) (record { short = omega arith }) (place_within n) in
    let timed : Within 40 (codes "GPGLL," ++ place n ++ time second) = joins 33 7 (codes "GPGLL," ++ place n) (time second) placed (time_within second) in
    joins 40 3 (codes "GPGLL," ++ place n ++ time second) (codes "A,A") timed (record { short = omega arith })

vtg_within : Within 32 vtg
unfolding vtg
vtg_within = record { short = omega arith }

gsa_within : Within 44 gsa
unfolding gsa
gsa_within = record { short = omega arith }

gsv_within : Within 64 gsv
unfolding gsv
gsv_within = record { short = omega arith }

sentence_within : (k : ℕ) (body : List ℕ) → Within k body → Within (1 + k + 3) (sentence body)
unfolding sentence
sentence_within k body is =
    joins (1 + k) 3 (codes "$" ++ body) (42 ∷ upper_digit (checksum body / 16) ∷ upper_digit (checksum body % 16) ∷ [])
    (joins 1 k (codes "$") body (record { short = omega arith }) is) (record { short = omega arith })

-- lines

device_within : (device : ℕ) → device < 10 → Within 1 (decimal device)
device_within device one = record { short = length-decimal-le 1 device (omega arith) (omega (arith, one)) (omega (arith, one)) }

whole_within : (t : ℕ) → t < 10_000 → Within 10 (whole_second t)
unfolding whole_second
whole_within t early = record { short = length-decimal-le 10 (1_717_243_200 + t) (omega arith) (omega (arith, early)) (omega (arith, early)) }

number_within : (k t : ℕ) → 0 < k → t < 10_000 → t + 1 < 10 ^ k → Within k (edge_number t)
unfolding edge_number
number_within k t some early few = record { short = length-decimal-le k (t + 1) some few (omega (arith, early)) }

edge_end_within : (k t : ℕ) → Within k (edge_number t) → Within (11 + k + 1) (edge_end t)
unfolding edge_end
edge_end_within k t is =
    joins (11 + k) 1 (codes ".000000000#" ++ edge_number t) (codes "\n")
    (joins 11 k (codes ".000000000#") (edge_number t) (record { short = omega arith }) is) (record { short = omega arith })

edge_within : (k device t : ℕ) → device < 10 → t < 10_000 → Within k (edge_number t) → Within (24 + (11 + k + 1)) (edge_line device t)
unfolding edge_line
edge_within k device t one early is =
    let before : Within 6 (codes "edge " ++ decimal device) = joins 5 1 (codes "edge ") (decimal device) (record { short = omega arith }) (device_within device one) in
    let kind : Within 14 (codes "edge " ++ decimal device ++ codes " assert ") = joins 6 8 (codes "edge " ++ decimal device) (codes " assert ") before (record { short = omega arith }) in
    let at : Within 24 (codes "edge " ++ decimal device ++ codes " assert " ++ whole_second t) =
    joins 14 10 (codes "edge " ++ decimal device ++ codes " assert ") (whole_second t) kind (whole_within t early) in
    joins 24 (11 + k + 1) (codes "edge " ++ decimal device ++ codes " assert " ++ whole_second t) (edge_end t) at (edge_end_within k t is)

text_within : (k device t : ℕ) (body : List ℕ) → device < 10 → t < 10_000 → Within k body → Within (28 + (1 + k + 3) + 1) (text_line device t body)
unfolding text_line
text_within k device t body one early is =
    let a : List ℕ = codes "text " ++ decimal device in
    let before : Within 6 a = joins 5 1 (codes "text ") (decimal device) (record { short = omega arith }) (device_within device one) in
    let space : Within 7 (a ++ codes " ") = joins 6 1 a (codes " ") before (record { short = omega arith }) in
    let at : Within 17 (a ++ codes " " ++ whole_second t) = joins 7 10 (a ++ codes " ") (whole_second t) space (whole_within t early) in
    let tenth : Within 28 (a ++ codes " " ++ whole_second t ++ codes ".100000000 ") =
    joins 17 11 (a ++ codes " " ++ whole_second t) (codes ".100000000 ") at (record { short = omega arith }) in
    let said : Within (28 + (1 + k + 3)) (a ++ codes " " ++ whole_second t ++ codes ".100000000 " ++ sentence body) =
    joins 28 (1 + k + 3) (a ++ codes " " ++ whole_second t ++ codes ".100000000 ") (sentence body) tenth (sentence_within k body is) in
    joins (28 + (1 + k + 3)) 1 (a ++ codes " " ++ whole_second t ++ codes ".100000000 " ++ sentence body) (codes "\n") said (record { short = omega arith })

receiver_within : (device t : ℕ) (r g l : List ℕ) → device < 10 → t < 10_000 → Within 63 r → Within 66 g → Within 43 l → Within 510 (receiver_lines device t r g l)
unfolding receiver_lines
receiver_within device t r g l one early rs gs ls =
    let line : List ℕ → List ℕ = text_line device t in
    let first : Within 96 (line r) = text_within 63 device t r one early rs in
    let second : Within 65 (line vtg) = text_within 32 device t vtg one early vtg_within in
    let third : Within 99 (line g) = text_within 66 device t g one early gs in
    let fourth : Within 77 (line gsa) = text_within 44 device t gsa one early gsa_within in
    let fifth : Within 97 (line gsv) = text_within 64 device t gsv one early gsv_within in
    let sixth : Within 76 (line l) = text_within 43 device t l one early ls in
    let two : Within 161 (line r ++ line vtg) = joins 96 65 (line r) (line vtg) first second in
    let three : Within 260 (line r ++ line vtg ++ line g) = joins 161 99 (line r ++ line vtg) (line g) two third in
    let four : Within 337 (line r ++ line vtg ++ line g ++ line gsa) = joins 260 77 (line r ++ line vtg ++ line g) (line gsa) three fourth in
    let five : Within 434 (line r ++ line vtg ++ line g ++ line gsa ++ line gsv) =
    joins 337 97 (line r ++ line vtg ++ line g ++ line gsa) (line gsv) four fifth in
    joins 434 76 (line r ++ line vtg ++ line g ++ line gsa ++ line gsv) (line l) five sixth

cut_within : (device t n : ℕ) → device < 10 → t < 10_000 → Within 510 (line_cut device t n)
unfolding line_cut
cut_within device t n one early =
    receiver_within device t (rmc (43_200 + t) n) (gga (43_200 + t) n) (gll (43_200 + t) n) one early
    (rmc_within (43_200 + t) n) (gga_within (43_200 + t) n) (gll_within (43_200 + t) n)

steps_within : Within 84 steps
unfolding steps
steps_within = record { short = omega arith }

head_within : Within 147 head
unfolding head
head_within = record { short = omega arith }

-- a second whose pulses have a number of k digits
second_within : (k t n : ℕ) → 0 < k → t < 10_000 → t + 1 < 10 ^ k → length (second_lines t n) ≤ 1_176 + 2 * k
unfolding second_lines
second_within k t n some early few =
    let is : Within k (edge_number t) = number_within k t some early few in
    let a = (edge_within k 0 t (omega arith) early is).short in
    let b = (edge_within k 1 t (omega arith) early is).short in
    let c = (cut_within 0 t n (omega arith) early).short in
    let d = (cut_within 1 t n (omega arith) early).short in
    let e = steps_within.short in
    let ab = length-append (edge_line 0 t) (edge_line 1 t) in
    let abc = length-append (edge_line 0 t ++ edge_line 1 t) (line_cut 0 t n) in
    let abcd = length-append (edge_line 0 t ++ edge_line 1 t ++ line_cut 0 t n) (line_cut 1 t n) in
    let whole = length-append (edge_line 0 t ++ edge_line 1 t ++ line_cut 0 t n ++ line_cut 1 t n) steps in
    omega (arith, a, b, c, d, e, ab, abc, abcd, whole)

-- the first second is shorter than those whose pulses have a number of four digits, and the last of 10,000 is longer
all_but_last : (seed t : ℕ) → t + 1 < 10_000 → length (seconds seed (suc t)) + 2 ≤ 1_184 * (t + 1)
unfolding seconds
all_but_last seed zero few =
    let first = second_within 1 0 (decimals_at seed 0) (omega arith) (omega arith) (omega arith) in
    omega (arith, first)
all_but_last seed (suc t) few =
    let before = all_but_last seed t (omega (arith, few)) in
    let last = second_within 4 (suc t) (decimals_at seed (suc t)) (omega arith) (omega (arith, few)) (omega (arith, few)) in
    let both = length-append (seconds seed (suc t)) (second_lines (suc t) (decimals_at seed (suc t))) in
    omega (arith, before, last, both)

seconds_within : (seed size : ℕ) → size ≤ 10_000 → length (seconds seed size) ≤ 1_184 * size
unfolding seconds
seconds_within seed zero few = omega arith
seconds_within seed (suc zero) few = let most = all_but_last seed 0 (omega arith) in omega (arith, most)
seconds_within seed (suc (suc t)) few =
    let before = all_but_last seed t (omega (arith, few)) in
    let last = second_within 5 (suc t) (decimals_at seed (suc t)) (omega arith) (omega (arith, few)) (omega (arith, few)) in
    let both = length-append (seconds seed (suc t)) (second_lines (suc t) (decimals_at seed (suc t))) in
    omega (arith, before, last, both)

pub most : (seed size : ℕ) → size ≤ 10_000 → length (workload_of seed size) ≤ 147 + 1_184 * size
most seed size few =
    let first = head_within.short in
    let rest = seconds_within seed size few in
    omega (arith, first, rest, length-append head (seconds seed size))

pub bounded : (seed size : ℕ) (script : List ℕ) → size ≤ 10_000 → script ≡ workload_of seed size → length script ≤ 147 + 1_184 * size
bounded seed size script few is = subst (λ s. length s ≤ 147 + 1_184 * size) (sym is) (most seed size few)
