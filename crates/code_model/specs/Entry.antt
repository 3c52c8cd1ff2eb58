-- The code at a function's entry and at its return. `words` of its frame lie below the return address. A lent local is lent to other
-- compartments for as long as the function runs, by SVC #2 and SVC #3; in an image of one compartment no local is lent.
use Rattle.std.specs.Prelude.{ℕ, zero, suc, ◌-◌, List, [], ◌∷◌, ◌++◌, Bool, true, false, Option, Some, None, nat_le}
use Rattle.machine_thumb.specs.declared.table.Instr.{Instr}
use Rattle.machine_thumb.specs.declared.table.Instr.TheVariants.{AdjustStack, PushPop}
use Rattle.machine_thumb.specs.Table.{svc}
use Rattle.code_model.specs.Places.{Lend}
use Rattle.code_model.specs.Words.{load_home, store_home, byte_into, home_address}

-- SUB SP and ADD SP by a number of words: one instruction reaches 127 words, and two the largest frame
abbrev pub sub_by : (once : Bool) → (words : ℕ) → List Instr
sub_by true w = AdjustStack 1 w ∷ []
sub_by false w = AdjustStack 1 127 ∷ AdjustStack 1 (w - 127) ∷ []

abbrev pub add_by : (once : Bool) → (words : ℕ) → List Instr
add_by true w = AdjustStack 0 w ∷ []
add_by false w = AdjustStack 0 127 ∷ AdjustStack 0 (w - 127) ∷ []

abbrev pub sub_code : (words : ℕ) → List Instr
sub_code w = sub_by (nat_le w 127) w

abbrev pub add_code : (words : ℕ) → List Instr
add_code w = add_by (nat_le w 127) w

-- STR of a register t(k) into each word k of `count` words, from word `from` on
abbrev pub stores_code : (t : ℕ → ℕ) → (count from : ℕ) → List Instr
stores_code t zero k = []
stores_code t (suc n) k = store_home (t k) k ∷ stores_code t n (suc k)

-- PUSH {lr}; SUB SP; the parameters from r0 on into the first words; MOVS r0, #0; and r0 into all the others
unfoldable pub frame_code : (params words : ℕ) → List Instr
frame_code n w = (PushPop 0 1 0 0 ∷ sub_code w) ++ (stores_code (λ k. k) n 0 ++ (byte_into 0 0 ∷ stores_code (λ k. 0) (w - n) n))

-- ADD r0, SP; MOVS r1, #number; SVC #2, for each
abbrev pub lend_code : List Lend → List Instr
lend_code [] = []
lend_code (d ∷ ds) = home_address 0 d.home ∷ byte_into 1 d.number ∷ svc 2 ∷ lend_code ds

abbrev pub enter_code : (params words : ℕ) → List Lend → List Instr
enter_code n w ds = frame_code n w ++ lend_code ds

-- SVC #3, the last one first
abbrev pub unlend_code : List Lend → List Instr
unlend_code [] = []
unlend_code (d ∷ ds) = unlend_code ds ++ svc 3 ∷ []

abbrev pub result_code : Option ℕ → List Instr
result_code None = []
result_code (Some k) = load_home 0 k ∷ []

-- the result into r0; ADD SP; POP {pc}
abbrev pub leave_code : (words : ℕ) → List Lend → (result : Option ℕ) → List Instr
leave_code w ds r = unlend_code ds ++ (result_code r ++ (add_code w ++ PushPop 1 0 1 0 ∷ []))
