-- One draw more, one choice more, one word more.
use Rattle.std.proofs.Common.{ℕ, suc, ◌+◌, ◌*◌, ◌≡◌, [], ◌∷◌, ◌++◌, map, refl, arith}
use Rattle.std.specs.List.{range_with_len}
use Rattle.machine_devices.specs.Queues.{pushed}
use Rattle.ir_generator.specs.Draws.{stirred, state_after, given, draw}
use Rattle.ir_generator.specs.Choices.{chosen, choices}
use Rattle.ir_generator.proofs.Growing.{taped_more}

pub state_at : (seed j k : ℕ) → j ≡ suc k → state_after seed j ≡ stirred (state_after seed k)
state_at seed j k e = rw e refl

pub state_one : (seed k : ℕ) → state_after seed (k + 1) ≡ stirred (state_after seed k)
state_one seed k = state_at seed (k + 1) k (omega arith)

pub state_behind : (seed k n : ℕ) → state_after seed (k + (n + 1)) ≡ stirred (state_after seed (k + n))
state_behind seed k n = state_at seed (k + (n + 1)) (k + n) (omega arith)

pub state_two : (seed n : ℕ) → state_after seed (2 * (n + 1)) ≡ stirred (stirred (state_after seed (2 * n)))
state_two seed n = rw (state_at seed (2 * (n + 1)) (2 * n + 1) (omega arith), state_one seed (2 * n)) refl

choices_at : (seed size n m : ℕ) → m ≡ suc n
    → choices seed size m ≡ choices seed size n ++ chosen (choices seed size n) (draw seed (2 * n) 4) (draw seed (2 * n + 1) size) ∷ []
choices_at seed size n m e = rw e refl

kind_at : (seed n : ℕ) → draw seed (2 * n) 4 ≡ given (stirred (state_after seed (2 * n))) 4
kind_at seed n = rw (state_one seed (2 * n)) refl

number_at : (seed size n : ℕ) → draw seed (2 * n + 1) size ≡ given (stirred (stirred (state_after seed (2 * n)))) size
number_at seed size n = rw (state_one seed (2 * n + 1), state_one seed (2 * n)) refl

pub choices_next : (seed size n : ℕ)
    → choices seed size (n + 1)
    ≡ choices seed size n ++ chosen (choices seed size n) (given (stirred (state_after seed (2 * n))) 4) (given (stirred (stirred (state_after seed (2 * n)))) size) ∷ []
choices_next seed size n =
    let a = choices_at seed size n (n + 1) (omega arith) in
    let k = kind_at seed n in
    let m = number_at seed size n in
    cc

pub taped_next : (seed size n : ℕ)
    → pushed (map (λ k. draw seed (2 * size + k) 65536) (range_with_len 0 n) ∷ [] ∷ [] ∷ [] ∷ []) 0 (given (stirred (state_after seed (2 * size + n))) 65536)
    ≡ map (λ k. draw seed (2 * size + k) 65536) (range_with_len 0 (n + 1)) ∷ [] ∷ [] ∷ [] ∷ []
taped_next seed size n = taped_more (λ k. draw seed (2 * size + k) 65536) n (given (stirred (state_after seed (2 * size + n))) 65536) (rw (state_one seed (2 * size + n)) refl)
