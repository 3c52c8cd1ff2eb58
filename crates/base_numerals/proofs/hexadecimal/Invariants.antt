use Rattle.std.proofs.Common.{◌≡◌, ◌≤◌, ◌^◌, drop}
use Rattle.base_numerals.specs.Numerals.{digits, and_more, hexadecimal_digit}
use Rattle.base_numerals.specs.Capped.{capped}
use Rattle.base_numerals.proofs.hexadecimal.Given as goal

abbrev pub invariant-loop-byte : goal.invariant-loop-byte
invariant-loop-byte l = record {
  same : capped (digits hexadecimal_digit 16 l.bytes) ≡ capped (and_more hexadecimal_digit 16 l.number (drop l.byte-index l.bytes));
  fits : l.number ≤ 2 ^ 32;
}
