use Rattle.std.proofs.Common.{◌≡◌, ◌≤◌, ◌^◌, drop}
use Rattle.base_numerals.specs.Numerals.{digits, and_more, decimal_digit}
use Rattle.base_numerals.specs.Capped.{capped}
use Rattle.base_numerals.proofs.decimal.Given as goal

abbrev pub invariant-loop-byte : goal.invariant-loop-byte
invariant-loop-byte l = record {
  same : capped (digits decimal_digit 10 l.bytes) ≡ capped (and_more decimal_digit 10 l.number (drop l.byte-index l.bytes));
  fits : l.number ≤ 2 ^ 32;
}
