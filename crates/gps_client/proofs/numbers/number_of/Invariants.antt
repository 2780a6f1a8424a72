use Rattle.std.proofs.Common.{◌≡◌, true, take}
use Rattle.std.specs.List.{list_all}
use Rattle.std.specs.Char.{is_ascii_digit}
use Rattle.gps_fixed.specs.Numeral.{number}
use Rattle.gps_client.proofs.numbers.number_of.Given as goal

abbrev pub invariant-loop-c : goal.invariant-loop-c
invariant-loop-c l = record { digits : list_all is_ascii_digit (take l.c-index l.digits) ≡ true; value : l.value ≡ number (take l.c-index l.digits) }
