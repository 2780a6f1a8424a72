use Rattle.std.proofs.Common.{◌≡◌, ◌+◌, ◌≤◌, true, take, drop}
use Rattle.std.specs.List.{list_all, prefix_len}
use Rattle.std.specs.Char.{is_ascii_digit}
use Rattle.gps_fixed.specs.Numeral.{number}
use Rattle.gps_fixed.proofs.numeral.leading_digits.Given as goal

abbrev pub invariant-loop-c : goal.invariant-loop-c
invariant-loop-c l = record {
  len : l.len ≡ l.c-index;
  few : l.len ≤ 9;
  run : prefix_len is_ascii_digit l.text ≡ l.c-index + prefix_len is_ascii_digit (drop l.c-index l.text);
  digits : list_all is_ascii_digit (take l.c-index l.text) ≡ true;
  value : l.value ≡ number (take l.c-index l.text);
}
