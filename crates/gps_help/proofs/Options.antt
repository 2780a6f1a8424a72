-- If the first option is not written so, the one that is comes after it.
use Rattle.std.proofs.Common.{◌≡◌, ◌≤◌, ◌-◌, false, cond, find, List, [], ◌∷◌, drop, length, Option, Some, sym, ap, ◌∙◌, arith, take}
use Rattle.std.proofs.Math.ListN.{get_or}
use Rattle.std.proofs.lemmas.List.{take_rest}
use Rattle.std.specs.Str.{bytes_eq}
use Rattle.clap.specs.Walk.{Text}
use Rattle.gps_help.specs.Options.{flag_of}
use Rattle.gps_help.specs.declared.option_name.OptionName.{OptionName}

abbrev among : Text → List OptionName → Option OptionName
among flag options = find (λ option. bytes_eq flag (flag_of option)) options

after_one : (other : OptionName) (flag : Text) (options : List OptionName) (first : Text) → 1 ≤ length options
    → first ≡ flag_of (get_or options 0 other) → bytes_eq flag first ≡ false → among flag (drop 1 options) ≡ among flag options
after_one other flag [] first some is differ = absurd (omega arith)
after_one other flag (option ∷ options) first some is differ =
    sym (ap (λ b. cond b (Some option) (among flag options)) (ap (bytes_eq flag) (sym is) ∙ differ))

pub after_first : (other : OptionName) (flag : Text) (options : List OptionName) (first : Text) → 1 ≤ length options
    → first ≡ flag_of (get_or options 0 other) → bytes_eq flag first ≡ false
    → among flag (take (length options - 1) (drop 1 options)) ≡ among flag options
after_first other flag options first some is differ = ap (among flag) (take_rest options 1) ∙ after_one other flag options first some is differ
