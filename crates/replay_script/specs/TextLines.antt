-- The text lines of a receiver in one second, which have a common prefix. (This project's own.)
use Rattle.std.specs.Prelude.{ℕ, List, ◌++◌, codes}
use Rattle.std.specs.Fmt.{decimal}
use Rattle.replay_script.specs.Sentences.{gsa, gsv, sentence, vtg}
use Rattle.replay_script.specs.Workload.{whole_second}

-- what each of them begins with
unfoldable pub text_prefix : ℕ → ℕ → List ℕ
text_prefix device t = codes "text " ++ decimal device ++ codes " " ++ whole_second t ++ codes ".100000000 "

unfoldable pub prefixed_line : List ℕ → List ℕ → List ℕ
prefixed_line prefix body = prefix ++ sentence body ++ codes "\n"

-- the six sentences, three of them given
unfoldable pub prefixed_lines : List ℕ → List ℕ → List ℕ → List ℕ → List ℕ
prefixed_lines prefix rmc_body gga_body gll_body =
    prefixed_line prefix rmc_body
    ++ prefixed_line prefix vtg
    ++ prefixed_line prefix gga_body
    ++ prefixed_line prefix gsa
    ++ prefixed_line prefix gsv
    ++ prefixed_line prefix gll_body
