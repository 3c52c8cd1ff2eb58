-- The names in a generated firmware are names.
use Rattle.std.proofs.Common.{ℕ, zero, suc, ◌<◌, ◌≤◌, ◌+◌, ◌≡◌, refl, arith, Bool, true}
use Rattle.std.specs.Prelude.{codes}
use Rattle.std.specs.List.{range_with_len, list_all}
use Rattle.std.proofs.lemmas.Grind.{common_steps}
use Rattle.std.specs.Fmt.{digits}
use Rattle.base_names.specs.Names.{is_name, is_reserved, reserved, declaration_words, instruction_words, type_words, operation_words, comparison_words, IsName}
use Rattle.ir_generator.specs.Names.{port_name, global_name, test_name, file_name}

-- what a test of each number of a range says of one of them
pub at_each : (p : ℕ → Bool) (k m n : ℕ) → list_all p (range_with_len k m) ≡ true → k ≤ n → n < k + m → p n ≡ true
at_each p k zero n h l u = absurd (omega arith)
at_each p k (suc m) n h l u = grind (arith, common_steps, at_each p (k + 1) m n)

ports : list_all (λ n. is_name (port_name n)) (range_with_len 0 4) ≡ true
unfolding is_name is_reserved reserved declaration_words instruction_words type_words operation_words comparison_words digits
ports = refl

globals : list_all (λ n. is_name (global_name n)) (range_with_len 0 200) ≡ true
unfolding is_name is_reserved reserved declaration_words instruction_words type_words operation_words comparison_words digits
globals = refl

tests : list_all (λ n. is_name (test_name n)) (range_with_len 0 200) ≡ true
unfolding is_name is_reserved reserved declaration_words instruction_words type_words operation_words comparison_words digits
tests = refl

files : list_all (λ n. is_name (file_name n)) (range_with_len 0 16) ≡ true
unfolding is_name is_reserved reserved declaration_words instruction_words type_words operation_words comparison_words digits
files = refl

pub port_is_name : (n : ℕ) → n < 4 → IsName (port_name n)
port_is_name n h = at_each (λ k. is_name (port_name k)) 0 4 n ports (omega arith) (omega arith)

pub global_is_name : (n : ℕ) → n < 200 → IsName (global_name n)
global_is_name n h = at_each (λ k. is_name (global_name k)) 0 200 n globals (omega arith) (omega arith)

pub test_is_name : (n : ℕ) → n < 200 → IsName (test_name n)
test_is_name n h = at_each (λ k. is_name (test_name k)) 0 200 n tests (omega arith) (omega arith)

pub file_is_name : (n : ℕ) → n < 16 → IsName (file_name n)
file_is_name n h = at_each (λ k. is_name (file_name k)) 0 16 n files (omega arith) (omega arith)

-- the names that are the same in each firmware
pub p_is_name : IsName (codes "p")
unfolding is_name is_reserved reserved declaration_words instruction_words type_words operation_words comparison_words
p_is_name = refl

pub q_is_name : IsName (codes "q")
unfolding is_name is_reserved reserved declaration_words instruction_words type_words operation_words comparison_words
q_is_name = refl

pub v_is_name : IsName (codes "v")
unfolding is_name is_reserved reserved declaration_words instruction_words type_words operation_words comparison_words
v_is_name = refl

pub w_is_name : IsName (codes "w")
unfolding is_name is_reserved reserved declaration_words instruction_words type_words operation_words comparison_words
w_is_name = refl

pub x_is_name : IsName (codes "x")
unfolding is_name is_reserved reserved declaration_words instruction_words type_words operation_words comparison_words
x_is_name = refl

pub b0_is_name : IsName (codes "b0")
unfolding is_name is_reserved reserved declaration_words instruction_words type_words operation_words comparison_words
b0_is_name = refl

pub b1_is_name : IsName (codes "b1")
unfolding is_name is_reserved reserved declaration_words instruction_words type_words operation_words comparison_words
b1_is_name = refl

pub main_is_name : IsName (codes "main")
unfolding is_name is_reserved reserved declaration_words instruction_words type_words operation_words comparison_words
main_is_name = refl

pub s0_is_name : IsName (codes "s0")
unfolding is_name is_reserved reserved declaration_words instruction_words type_words operation_words comparison_words
s0_is_name = refl

pub first_file_is_name : IsName (codes "m.c")
unfolding is_name is_reserved reserved declaration_words instruction_words type_words operation_words comparison_words
first_file_is_name = refl

pub last_file_is_name : IsName (codes "s.c")
unfolding is_name is_reserved reserved declaration_words instruction_words type_words operation_words comparison_words
last_file_is_name = refl

pub ruleset fixed_rules = (p_is_name, q_is_name, v_is_name, w_is_name, x_is_name, b0_is_name, b1_is_name, main_is_name, s0_is_name, first_file_is_name, last_file_is_name)
