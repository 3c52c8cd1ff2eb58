-- The globals of a generated firmware.
use Rattle.std.proofs.Common.{ℕ, zero, suc, ◌<◌, ◌≤◌, ◌+◌, ◌≡◌, ◌∙◌, List, [], ◌∷◌, ◌++◌, refl, arith, Bool, true, false, map, bytes_eq, None, Some, Option, cond, inl, inr}
use Rattle.std.specs.List.{range_with_len}
use Rattle.base_names.specs.Numbers.{has}
use Rattle.ir_check_scopes.proofs.Order.{first_append}
use Rattle.ir_model.specs.Types.{U32, PlainType}
use Rattle.ir_model.specs.Plain.{PlainGlobal, PlainFirmware}
use Rattle.ir_model.specs.Rules.{global_type}
use Rattle.ir_model.specs.Typing.{first_failing, global_checks, globals_checks}
use Rattle.ir_generator.specs.Names.{global_name}
use Rattle.ir_generator.specs.Made.{global}
use Rattle.ir_generator.proofs.Apart.{globals_differ, absent_behind, there_behind, equal, here_or_later}

abbrev pub names : List PlainGlobal → List (List ℕ)
names gs = map (λ (g : PlainGlobal). g.name) gs

passes : (w : PlainFirmware) (seen : List (List ℕ)) (k : ℕ) → has seen (global_name k) ≡ false → first_failing (global_checks w seen (global k)) ≡ None
passes w seen k h = rw h refl

pub globals_pass : (w : PlainFirmware) (m k : ℕ) (seen : List (List ℕ)) → k + m ≤ 200 → ((n : ℕ) → k ≤ n → n < 200 → has seen (global_name n) ≡ false)
    → first_failing (globals_checks w seen (map global (range_with_len k m))) ≡ None
globals_pass w zero k seen l h = refl
globals_pass w (suc m) k seen l h =
    first_append (global_checks w seen (global k)) (globals_checks w (seen ++ global_name k ∷ []) (map global (range_with_len (k + 1) m))) (passes w seen k (h k (omega arith) (omega arith)))
    ∙ globals_pass w m (k + 1) (seen ++ global_name k ∷ []) (omega arith)
    (λ n a b. absent_behind seen (global_name k) (global_name n) (h n (omega arith) b) (globals_differ k n (omega arith) b (λ e. absurd (omega arith))))

there_now : (a k : ℕ) (ms : List (List ℕ)) → a ≡ k → has (global_name k ∷ ms) (global_name a) ≡ true
there_now a k ms e = rw (e, equal (global_name k)) refl

pub global_there : (m k a : ℕ) → k ≤ a → a < k + m → has (names (map global (range_with_len k m))) (global_name a) ≡ true
global_there zero k a l u = absurd (omega arith)
global_there (suc m) k a l u =
    elim (here_or_later a k l) [
      | inl e ↦ there_now a k (names (map global (range_with_len (k + 1) m))) e
      | inr g ↦ there_behind (global_name k) (global_name a) (names (map global (range_with_len (k + 1) m))) (global_there m (k + 1) a g (omega arith))
    ]

-- each is a word
word_by : (b : Bool) (rest : Option PlainType) (r : Bool) → cond b true r ≡ true → (r ≡ true → rest ≡ Some U32) → cond b (Some U32) rest ≡ Some U32
word_by true rest r h f = refl
word_by false rest r h f = f h

pub global_is_word : (m k : ℕ) (n : List ℕ) → has (names (map global (range_with_len k m))) n ≡ true → global_type (map global (range_with_len k m)) n ≡ Some U32
global_is_word zero k n h = cc
global_is_word (suc m) k n h =
    word_by (bytes_eq (global_name k) n) (global_type (map global (range_with_len (k + 1) m)) n) (has (names (map global (range_with_len (k + 1) m))) n) h (global_is_word m (k + 1) n)

-- none has a name of another kind
pub others_absent : (m k : ℕ) (n : List ℕ) → ((j : ℕ) → bytes_eq (global_name j) n ≡ false) → has (names (map global (range_with_len k m))) n ≡ false
others_absent zero k n h = refl
others_absent (suc m) k n h = rw (h k) (others_absent m (k + 1) n h)
