-- What a generated firmware has for its functions.
use Rattle.std.proofs.Common.{ℕ, zero, suc, ◌<◌, ◌≤◌, ◌+◌, ◌%◌, ◌≡◌, ap, List, [], ◌∷◌, ◌++◌, refl, sym, arith, length, Bool, true, false, cond, map, bytes_eq, Option, Some, inl, inr, min}
use Rattle.std.specs.Prelude.{codes, nat_eq, flat_map}
use Rattle.std.specs.List.{range_with_len}
use Rattle.std.specs.Fmt.{digits}
use Rattle.std.proofs.lemmas.List.{map-append}
use Rattle.base_names.specs.Numbers.{has}
use Rattle.ir_model.specs.declared.firmware.Peripheral.{Peripheral}
use Rattle.ir_model.specs.Types.{PlainType, U32, Pointer, Callee, none, more, nothing, gives}
use Rattle.ir_model.specs.Plain.{PlainFunc, PlainFile, func_names}
use Rattle.base_laws.specs.Lists.{Each}
use Rattle.ir_model.specs.Resolve.{row_from}
use Rattle.ir_model.specs.Rules.{func_type}
use Rattle.ir_generator.specs.declared.choices.Body.{Body}
use Rattle.ir_generator.specs.declared.choices.Choice.{Choice}
use Rattle.ir_generator.specs.Names.{port_name, test_name}
use Rattle.ir_generator.specs.Functions.{test_func, support}
use Rattle.ir_generator.specs.Made.{port, held_from, test_file, support_file, firmware_by}
use Rattle.ir_generator.proofs.Proper.{at_each}
use Rattle.std.specs.List.{list_all}
use Rattle.ir_generator.proofs.Apart.{unequal_numbers, there_left, there_right, there_behind, equal, by_test, here_or_later}
use Rattle.ir_generator.proofs.Globals.{global_there, global_is_word}
use Rattle.ir_generator.proofs.CheckedFunctions.{Offers}

-- the functions of files
abbrev pub drawn : List Choice → (from count : ℕ) → List PlainFunc
drawn cs j m = flat_map (λ (f : PlainFile). f.funcs) (map (test_file cs) (range_with_len j m) ++ support_file ∷ [])

there_in_left : (xs ys : List PlainFunc) (n : List ℕ) → has (func_names xs) n ≡ true → has (func_names (xs ++ ys)) n ≡ true
there_in_left xs ys n h = rw (map-append (λ (f : PlainFunc). f.name) xs ys) (there_left (func_names xs) (func_names ys) n h)

there_in_right : (xs ys : List PlainFunc) (n : List ℕ) → has (func_names ys) n ≡ true → has (func_names (xs ++ ys)) n ≡ true
there_in_right xs ys n h = rw (map-append (λ (f : PlainFunc). f.name) xs ys) (there_right (func_names xs) (func_names ys) n h)

at_first : (a k : ℕ) (fs : List PlainFunc) (b : Body) → a ≡ k → has (func_names (test_func k b ∷ fs)) (test_name a) ≡ true
at_first a k fs b e = rw (e, equal (test_name k)) refl

held_there : (cs : List Choice) (k j a : ℕ) → k ≤ a → a < k + length cs → a % 16 ≡ j → has (func_names (held_from k j cs)) (test_name a) ≡ true
held_there [] k j a l u e = absurd (omega arith)
held_there (c ∷ cs) k j a l u e =
    by_test (λ (fs : List PlainFunc). has (func_names (fs ++ held_from (k + 1) j cs)) (test_name a) ≡ true) (nat_eq (k % 16) j) (test_func k c.body ∷ []) []
    (λ t. elim (here_or_later a k l) [
      | inl q ↦ at_first a k (held_from (k + 1) j cs) c.body q
      | inr g ↦ there_behind (test_name k) (test_name a) (func_names (held_from (k + 1) j cs)) (held_there cs (k + 1) j a g (omega arith) e)
    ])
    (λ t. elim (here_or_later a k l) [
      | inl q ↦ absurd (unequal_numbers (k % 16) j t (rw (sym q) e))
      | inr g ↦ held_there cs (k + 1) j a g (omega arith) e
    ])

drawn_there : (cs : List Choice) (m j a : ℕ) → j ≤ a % 16 → a % 16 < j + m → a < length cs → has (func_names (drawn cs j m)) (test_name a) ≡ true
drawn_there cs zero j a l u v = absurd (omega arith)
drawn_there cs (suc m) j a l u v =
    elim (here_or_later (a % 16) j l) [
      | inl q ↦ there_in_left (held_from 0 j cs) (drawn cs (j + 1) m) (test_name a) (held_there cs 0 j a (omega arith) (omega arith) q)
      | inr g ↦ there_in_right (held_from 0 j cs) (drawn cs (j + 1) m) (test_name a) (drawn_there cs m (j + 1) a g (omega arith) v)
    ]

support_there : (cs : List Choice) (m j : ℕ) → has (func_names (drawn cs j m)) (codes "s0") ≡ true
support_there cs zero j = refl
support_there cs (suc m) j = there_in_right (held_from 0 j cs) (drawn cs (j + 1) m) (codes "s0") (support_there cs m (j + 1))

-- what holds of every function that is drawn and of the support
module _ (P : PlainFunc → Type 0) (each : (n : ℕ) (b : Body) → P (test_func n b)) (last : P support) where
  both : (xs ys : List PlainFunc) → Each P xs → Each P ys → Each P (xs ++ ys)
  both [] ys h k = k
  both (x ∷ xs) ys h k = (h.0, both xs ys h.1 k)

  held_all : (cs : List Choice) (k j : ℕ) → Each P (held_from k j cs)
  held_all [] k j = tt
  held_all (c ∷ cs) k j =
      let rest : Each P (held_from (k + 1) j cs) = held_all cs (k + 1) j in
      by_test (λ (fs : List PlainFunc). Each P (fs ++ held_from (k + 1) j cs)) (nat_eq (k % 16) j) (test_func k c.body ∷ []) [] (λ t. (each k c.body, rest)) (λ t. rest)

  pub drawn_all : (cs : List Choice) (m j : ℕ) → Each P (drawn cs j m)
  drawn_all cs zero j = (last, tt)
  drawn_all cs (suc m) j = both (held_from 0 j cs) (drawn cs (j + 1) m) (held_all cs 0 j) (drawn_all cs m (j + 1))

-- a function of this name has this type
abbrev HasType : List ℕ → PlainType → PlainFunc → Type 0
HasType n t f = bytes_eq f.name n ≡ true → Callee (row_from f.params) f.outcome ≡ t

typed_by : (b r : Bool) (x t : PlainType) (rest : Option PlainType) → cond b true r ≡ true → (b ≡ true → x ≡ t) → (r ≡ true → rest ≡ Some t) → cond b (Some x) rest ≡ Some t
typed_by true r x t rest h f g = ap Some (f refl)
typed_by false r x t rest h f g = g h

has_type : (fs : List PlainFunc) (n : List ℕ) (t : PlainType) → Each (HasType n t) fs → has (func_names fs) n ≡ true → func_type fs n ≡ Some t
has_type [] n t e h = cc
has_type (f ∷ fs) n t e h =
    typed_by (bytes_eq f.name n) (has (func_names fs) n) (Callee (row_from f.params) f.outcome) t (func_type fs n) h e.0 (has_type fs n t e.1)

false_true : {A : Type 0} → false ≡ true → A
false_true h = absurd (let wrong : false ≡ true = h in cc)

ports : list_all (λ k. has (map (λ (q : Peripheral). q.name) (map port (range_with_len 0 4))) (port_name k)) (range_with_len 0 4) ≡ true
unfolding digits
ports = refl

pub offers : (size : ℕ) (cs : List Choice) → length cs ≡ size → Offers (firmware_by size cs) size
offers size cs e =
    record {
      ports = λ k h. at_each (λ i. has (map (λ (q : Peripheral). q.name) (map port (range_with_len 0 4))) (port_name i)) 0 4 k ports (omega arith) (omega arith);
      apart = λ k. refl;
      globals = λ k h. global_there size 0 k (omega arith) (omega arith);
      words = λ k h. global_is_word size 0 _ (global_there size 0 k (omega arith) (omega arith));
      tests = λ k h. drawn_there cs (min size 16) 0 k (omega arith) (omega arith) (omega arith);
      test_types = λ k h. has_type (drawn cs 0 (min size 16)) (test_name k) _ (drawn_all (HasType (test_name k) (Callee (more U32 none) (gives U32))) (λ n b q. refl) (λ q. false_true q) cs (min size 16) 0) (drawn_there cs (min size 16) 0 k (omega arith) (omega arith) (omega arith));
      support = support_there cs (min size 16) 0;
      support_type = has_type (drawn cs 0 (min size 16)) (codes "s0") _ (drawn_all (HasType (codes "s0") (Callee (more (Pointer U32) none) nothing)) (λ n b q. false_true q) (λ q. refl) cs (min size 16) 0) (support_there cs (min size 16) 0);
    }
