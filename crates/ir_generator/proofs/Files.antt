-- The files of a generated firmware, and the names of their functions.
use Rattle.std.proofs.Common.{ℕ, zero, suc, ◌<◌, ◌≤◌, ◌+◌, ◌%◌, ◌≡◌, ◌∙◌, List, [], ◌∷◌, ◌++◌, refl, sym, arith, length, false, map, bytes_eq, None}
use Rattle.std.specs.Prelude.{codes, nat_eq}
use Rattle.std.specs.List.{range_with_len}
use Rattle.base_names.specs.Numbers.{has}
use Rattle.ir_check_scopes.proofs.Order.{first_append}
use Rattle.ir_model.specs.Plain.{PlainFunc, PlainFile, func_names}
use Rattle.ir_model.specs.Typing.{first_failing, func_name_checks, file_checks}
use Rattle.ir_generator.specs.declared.choices.Choice.{Choice}
use Rattle.ir_generator.specs.Names.{test_name, file_name}
use Rattle.ir_generator.specs.Functions.{test_func}
use Rattle.ir_generator.specs.Made.{held_from, test_file, support_file}
use Rattle.ir_generator.proofs.Apart.{equal_numbers, tests_differ, files_differ, absent_behind, absent_append, by_test}

-- a file has no function of another file
skips : (m n : List ℕ) (rest : List (List ℕ)) → bytes_eq m n ≡ false → has rest n ≡ false → has (m ∷ rest) n ≡ false
skips m n rest h k = rw h k

pub held_elsewhere : (cs : List Choice) (k j n : ℕ) → k + length cs ≤ 200 → n < 200 → (n % 16 ≡ j → ⊥) → has (func_names (held_from k j cs)) (test_name n) ≡ false
held_elsewhere [] k j n l u h = refl
held_elsewhere (c ∷ cs) k j n l u h =
    by_test (λ (fs : List PlainFunc). has (func_names (fs ++ held_from (k + 1) j cs)) (test_name n) ≡ false) (nat_eq (k % 16) j) (test_func k c.body ∷ []) []
    (λ t. let same : k % 16 ≡ j = equal_numbers (k % 16) j t in
    skips (test_name k) (test_name n) (func_names (held_from (k + 1) j cs)) (tests_differ k n (omega arith) u (λ e. h (rw (sym e) same))) (held_elsewhere cs (k + 1) j n (omega arith) u h))
    (λ t. held_elsewhere cs (k + 1) j n (omega arith) u h)

-- and none with a name of another kind
pub others_held : (cs : List Choice) (k j : ℕ) (n : List ℕ) → ((i : ℕ) → bytes_eq (test_name i) n ≡ false) → has (func_names (held_from k j cs)) n ≡ false
others_held [] k j n h = refl
others_held (c ∷ cs) k j n h =
    by_test (λ (fs : List PlainFunc). has (func_names (fs ++ held_from (k + 1) j cs)) n ≡ false) (nat_eq (k % 16) j) (test_func k c.body ∷ []) []
    (λ t. skips (test_name k) n (func_names (held_from (k + 1) j cs)) (h k) (others_held cs (k + 1) j n h))
    (λ t. others_held cs (k + 1) j n h)

-- the names of a file's functions are new
one_name : (seen : List (List ℕ)) (k : ℕ) (c : Choice) (fs : List PlainFunc) → has seen (test_name k) ≡ false → first_failing (func_name_checks (seen ++ test_name k ∷ []) fs) ≡ None
    → first_failing (func_name_checks seen (test_func k c.body ∷ fs)) ≡ None
one_name seen k c fs h p = rw h p

pub held_pass : (cs : List Choice) (k j : ℕ) (seen : List (List ℕ)) → k + length cs ≤ 200 → ((n : ℕ) → k ≤ n → n < 200 → n % 16 ≡ j → has seen (test_name n) ≡ false)
    → first_failing (func_name_checks seen (held_from k j cs)) ≡ None
held_pass [] k j seen l h = refl
held_pass (c ∷ cs) k j seen l h =
    by_test (λ (fs : List PlainFunc). first_failing (func_name_checks seen (fs ++ held_from (k + 1) j cs)) ≡ None) (nat_eq (k % 16) j) (test_func k c.body ∷ []) []
    (λ t. one_name seen k c (held_from (k + 1) j cs) (h k (omega arith) (omega arith) (equal_numbers (k % 16) j t))
    (held_pass cs (k + 1) j (seen ++ test_name k ∷ []) (omega arith)
    (λ n a b e. absent_behind seen (test_name k) (test_name n) (h n (omega arith) b e) (tests_differ k n (omega arith) b (λ q. absurd (omega arith))))))
    (λ t. held_pass cs (k + 1) j seen (omega arith) (λ n a b e. h n (omega arith) b e))

-- the names of files and functions before the file of this number
pub record Before (j : ℕ) (es seen : List (List ℕ)) : Type 0 where
  pub files : (i : ℕ) → j ≤ i → i < 16 → has es (file_name i) ≡ false
  pub last : has es (codes "s.c") ≡ false
  pub tests : (n : ℕ) → n < 200 → j ≤ n % 16 → has seen (test_name n) ≡ false
  pub support : has seen (codes "s0") ≡ false

end_passes : (es seen : List (List ℕ)) → has es (codes "s.c") ≡ false → has seen (codes "s0") ≡ false → first_failing (file_checks es seen (support_file ∷ [])) ≡ None
end_passes es seen h k = rw (h, k) refl

file_passes : (cs : List Choice) (j : ℕ) (es seen : List (List ℕ)) (more : List PlainFile) → has es (file_name j) ≡ false → first_failing (func_name_checks seen (held_from 0 j cs)) ≡ None
    → first_failing (file_checks (es ++ file_name j ∷ []) (seen ++ func_names (held_from 0 j cs)) more) ≡ None
    → first_failing (file_checks es seen (test_file cs j ∷ more)) ≡ None
file_passes cs j es seen more h p q =
    rw h (first_append (func_name_checks seen (held_from 0 j cs)) (file_checks (es ++ file_name j ∷ []) (seen ++ func_names (held_from 0 j cs)) more) p ∙ q)

behind : (cs : List Choice) (j : ℕ) (es seen : List (List ℕ)) → length cs ≤ 200 → j < 16 → Before j es seen → Before (j + 1) (es ++ file_name j ∷ []) (seen ++ func_names (held_from 0 j cs))
behind cs j es seen l u b =
    record {
      files = λ i a e. absent_behind es (file_name j) (file_name i) (b.files i (omega arith) e) (files_differ j i u e (λ q. absurd (omega arith)));
      last = absent_behind es (file_name j) (codes "s.c") b.last refl;
      tests = λ n a e. absent_append seen (func_names (held_from 0 j cs)) (test_name n) (b.tests n a (omega arith)) (held_elsewhere cs 0 j n (omega arith) a (λ q. absurd (omega arith)));
      support = absent_append seen (func_names (held_from 0 j cs)) (codes "s0") b.support (others_held cs 0 j (codes "s0") (λ i. refl));
    }

pub files_pass : (cs : List Choice) (m j : ℕ) (es seen : List (List ℕ)) → length cs ≤ 200 → j + m ≤ 16 → Before j es seen
    → first_failing (file_checks es seen (map (test_file cs) (range_with_len j m) ++ support_file ∷ [])) ≡ None
files_pass cs zero j es seen l u b = end_passes es seen b.last b.support
files_pass cs (suc m) j es seen l u b =
    file_passes cs j es seen (map (test_file cs) (range_with_len (j + 1) m) ++ support_file ∷ []) (b.files j (omega arith) (omega arith))
    (held_pass cs 0 j seen (omega arith) (λ n a e q. b.tests n e (omega arith)))
    (files_pass cs m (j + 1) (es ++ file_name j ∷ []) (seen ++ func_names (held_from 0 j cs)) l (omega arith) (behind cs j es seen l (omega arith) b))
