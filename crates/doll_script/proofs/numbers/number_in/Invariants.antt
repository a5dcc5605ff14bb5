use Rattle.std.proofs.Common.{◌≡◌, ◌≤◌, drop}
use Rattle.std.specs.List.{list_all}
use Rattle.std.specs.Char.{is_ascii_digit}
use Rattle.doll_script.specs.Numbers.{digits_from}
use Rattle.doll_script.proofs.numbers.number_in.Given as goal

-- the digits so far say a number within the limit, and those behind it decide with it
abbrev pub invariant-loop-digit : goal.invariant-loop-digit
invariant-loop-digit l = record {
  number : digits_from l.number (drop l.digit-index l.digits) ≡ digits_from 0 l.digits;
  digits : list_all is_ascii_digit (drop l.digit-index l.digits) ≡ list_all is_ascii_digit l.digits;
  within : l.number ≤ 18446744073709551615;
}
