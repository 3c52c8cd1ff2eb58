-- When the code of a list has an encoding: each of its numbers is a word, and it is short enough for its branches.
use Rattle.std.proofs.Common.{◌≡◌, ℕ, zero, suc, pos, negsuc, ◌+◌, ◌%◌, ◌^◌, ◌<◌, Bool, true, false, List, [], ◌∷◌, arith}
use Rattle.std.proofs.lemmas.Int.{ints}
use Rattle.machine_thumb.specs.Table.{IsOffset}
use Rattle.monitor_steps.specs.Steps.{PrivilegedSteps, End, Const, Copy, Load, Store, Alu, ReadPsp, WritePsp, WriteControl, Test, Repeat, Halt, Return, Go}
use Rattle.monitor_steps.specs.Code.{code_length}
use Rattle.monitor_program.specs.Opening.{times, regions}
use Rattle.monitor_laws.proofs.Encoded.{Fits}
use Rattle.monitor_steps.proofs.CodeParts.{length_even}

-- ---- branches reach

forward : (n : ℕ) → n < 2 ^ 20 → n % 2 ≡ 0 → IsOffset (2 ^ 24) (pos n)
forward n h e = record { from = omega (arith, ints); below = omega (arith, ints, h); even = omega (arith, ints, h, e) }

backward : (n : ℕ) → n < 2 ^ 20 → n % 2 ≡ 1 → IsOffset (2 ^ 24) (negsuc n)
backward n h e = record { from = omega (arith, ints, h); below = omega (arith, ints, h); even = omega (arith, ints, h, e) }

-- every number is a word
abbrev pub Words : PrivilegedSteps → Type 0
Words End = Unit {0}
Words (Const to n k) = (n < 2 ^ 32) × Words k
Words (Copy to from k) = Words k
Words (Load z to base off k) = Words k
Words (Store z from base off k) = Words k
Words (Alu op to a b k) = Words k
Words (ReadPsp to k) = Words k
Words (WritePsp from k) = Words k
Words (WriteControl from k) = Words k
Words (Test c a b y n k) = Words y × Words n × Words k
Words (Repeat left most body k) = Words body × Words k
Words (Halt c k) = Words k
Words (Return k) = Words k
Words (Go to link k) = Words k

-- so short code fits
pub words_fit : (s : PrivilegedSteps) → code_length s < 2 ^ 16 → Words s → Fits s
words_fit End l w = tt
words_fit (Const to n k) l w = (w.0, words_fit k (omega (arith, l)) w.1)
words_fit (Copy to from k) l w = words_fit k (omega (arith, l)) w
words_fit (Load z to base off k) l w = words_fit k (omega (arith, l)) w
words_fit (Store z from base off k) l w = words_fit k (omega (arith, l)) w
words_fit (Alu op to a b k) l w = words_fit k (omega (arith, l)) w
words_fit (ReadPsp to k) l w = words_fit k (omega (arith, l)) w
words_fit (WritePsp from k) l w = words_fit k (omega (arith, l)) w
words_fit (WriteControl from k) l w = words_fit k (omega (arith, l)) w
words_fit (Test c a b y n k) l w =
    let f = length_even y in
    let g = length_even n in (
      forward (code_length y + 4) (omega (arith, l)) (omega (arith, f)),
      forward (code_length n) (omega (arith, l)) g,
      words_fit y (omega (arith, l)) w.0,
      words_fit n (omega (arith, l)) w.1,
      words_fit k (omega (arith, l)) w.2,
    )
words_fit (Repeat left most body k) l w =
    let f = length_even body in (
      forward (code_length body + 6) (omega (arith, l)) (omega (arith, f)),
      backward (code_length body + 13) (omega (arith, l)) (omega (arith, f)),
      words_fit body (omega (arith, l)) w.0,
      words_fit k (omega (arith, l)) w.1,
    )
words_fit (Halt c k) l w = words_fit k (omega (arith, l)) w
words_fit (Return k) l w = words_fit k (omega (arith, l)) w
words_fit (Go to link k) l w = words_fit k (omega (arith, l)) w

-- ---- the tables

pub times_words : (bs : List Bool) (k : PrivilegedSteps) → Words k → Words (times 6 5 bs k)
times_words [] k h = h
times_words (true ∷ bs) k h = times_words bs k h
times_words (false ∷ bs) k h = times_words bs k h

pub regions_words : (n w : ℕ) (k : PrivilegedSteps) → Words k → Words (regions n w k)
regions_words zero w k h = h
regions_words (suc n) w k h = regions_words n (w + 2) k h
