-- The script of a workload: two receivers with one second after the other of six sentences and a pulse each, three
-- sessions, the stores of four units and a monitor. This project's own; the numbers are a linear congruential
-- sequence with the constants of the C standard's example of `rand`.
use Rattle.std.specs.Prelude.{ℕ, zero, suc, ◌+◌, ◌*◌, ◌/◌, ◌%◌, ◌^◌, List, [], ◌++◌, codes}
use Rattle.std.specs.Fmt.{decimal}
use Rattle.replay_script.specs.Sentences.{gga, gll, gsa, gsv, rmc, sentence, vtg}

-- x(0) is the seed modulo 2^31, x(i + 1) is 1,103,515,245 x(i) + 12,345 modulo 2^31
unfoldable pub number : ℕ → ℕ → ℕ
number seed zero = seed % 2 ^ 31
number seed (suc i) = (1_103_515_245 * number seed i + 12_345) % 2 ^ 31

-- the five decimals of the minutes in second t
unfoldable pub decimals_at : ℕ → ℕ → ℕ
decimals_at seed t = number seed (t + 1) / 8 % 100_000

-- what a script begins with
unfoldable pub head : List ℕ
head =
    codes "device a\ndevice b\nmonitor 0 0\n"
    ++ codes "open 0\nsay 0 ?WATCH={\"json\":true};\n"
    ++ codes "open 1\nsay 1 ?WATCH={\"nmea\":true,\"device\":\"b\"};\n"
    ++ codes "open 2\nsay 2 ?WATCH={\"pps\":true};\n"

-- the whole second t after 2024-06-01T12:00:00Z
unfoldable pub whole_second : ℕ → List ℕ
whole_second t = decimal (1_717_243_200 + t)

-- pulses are numbered from 1
unfoldable pub edge_number : ℕ → List ℕ
edge_number t = decimal (t + 1)

unfoldable pub edge_end : ℕ → List ℕ
edge_end t = codes ".000000000#" ++ edge_number t ++ codes "\n"

-- the pulse at that second
unfoldable pub edge_line : ℕ → ℕ → List ℕ
edge_line device t = codes "edge " ++ decimal device ++ codes " assert " ++ whole_second t ++ edge_end t

-- a sentence a tenth of a second later
unfoldable pub text_line : ℕ → ℕ → List ℕ → List ℕ
text_line device t body = codes "text " ++ decimal device ++ codes " " ++ whole_second t ++ codes ".100000000 " ++ sentence body ++ codes "\n"

-- the six sentences of a receiver in second t, three of them given
unfoldable pub receiver_lines : ℕ → ℕ → List ℕ → List ℕ → List ℕ → List ℕ
receiver_lines device t rmc_body gga_body gll_body =
    text_line device t rmc_body
    ++ text_line device t vtg
    ++ text_line device t gga_body
    ++ text_line device t gsa
    ++ text_line device t gsv
    ++ text_line device t gll_body

-- the same, with the place whose minutes have these decimals
unfoldable pub line_cut : ℕ → ℕ → ℕ → List ℕ
line_cut device t n = receiver_lines device t (rmc (43_200 + t) n) (gga (43_200 + t) n) (gll (43_200 + t) n)

-- each unit stores a sample, the monitor makes a reading, and each session takes what it has
unfoldable pub steps : List ℕ
steps = codes "store 0 13\nstore 1 13\nstore 2 13\nstore 3 13\nload 0 12\ntake 0 64\ntake 1 64\ntake 2 64\n"

unfoldable pub second_lines : ℕ → ℕ → List ℕ
second_lines t n = edge_line 0 t ++ edge_line 1 t ++ line_cut 0 t n ++ line_cut 1 t n ++ steps

-- the first n seconds
unfoldable pub seconds : ℕ → ℕ → List ℕ
seconds seed zero = []
seconds seed (suc t) = seconds seed t ++ second_lines t (decimals_at seed t)

-- the whole script
abbrev pub workload_of : ℕ → ℕ → List ℕ
workload_of seed size = head ++ seconds seed size
