-- The length of a list's code, and code that stands one part behind the other.
use Rattle.std.proofs.Common.{◌≡◌, ℕ, pos, negsuc, ◌+◌, ◌%◌, ◌<◌, ◌≤◌, Bool, true, false, List, [], ◌∷◌, ◌++◌, nat_eq, refl, subst, arith}
use Rattle.machine_thumb.specs.declared.table.Instr.{Instr}
use Rattle.machine_thumb.specs.declared.table.Instr.TheVariants.{DataImmediate, BranchWide}
use Rattle.machine_protection.specs.declared.region.Access.TheVariants.{Fetch}
use Rattle.machine_devices.specs.declared.image.Image.{Image}
use Rattle.machine_model.specs.declared.state.ProtectionState.{ProtectionState}
use Rattle.machine_model.specs.State.{PermissionTest}
use Rattle.machine_model.specs.Code.{size, CodeIn}
use Rattle.machine_model.specs.Running.{code_size}
use Rattle.machine_model.proofs.Exec.{code_may_run}
use Rattle.machine_model.proofs.CodeParts.{code_size-append}
use Rattle.monitor_steps.specs.declared.steps.PrivilegedOp.{PrivilegedOp}
use Rattle.monitor_steps.specs.declared.steps.PrivilegedOp.TheVariants.{Add, Sub, And, Or, Shl, Shr}
use Rattle.monitor_steps.specs.Steps.{PrivilegedSteps, End, Const, Copy, Load, Store, Alu, ReadPsp, WritePsp, WriteControl, Test, Repeat, Halt, Return, Go}
use Rattle.monitor_steps.specs.Code.{by_moves, operation_code, two_address_length, operation_length, code_length, code}
use Rattle.monitor_steps.specs.Runs.{HasCode}

by_moves_has_its_length : (h t : Bool) (op to a b : ℕ) → code_size (by_moves op to a b h t) ≡ two_address_length h t
by_moves_has_its_length true t op to a b = refl
by_moves_has_its_length false true op to a b = refl
by_moves_has_its_length false false op to a b = refl

pub operation_has_its_length : (op : PrivilegedOp) (to a b : ℕ) → code_size (operation_code op to a b) ≡ operation_length op (nat_eq to a) (nat_eq to b)
operation_has_its_length Add to a b = refl
operation_has_its_length Sub to a b = refl
operation_has_its_length And to a b = by_moves_has_its_length (nat_eq to a) (nat_eq to b) 0 to a b
operation_has_its_length Or to a b = by_moves_has_its_length (nat_eq to a) (nat_eq to b) 12 to a b
operation_has_its_length Shl to a b = by_moves_has_its_length (nat_eq to a) (nat_eq to b) 2 to a b
operation_has_its_length Shr to a b = by_moves_has_its_length (nat_eq to a) (nat_eq to b) 3 to a b

pub code_has_its_length : (s : PrivilegedSteps) → code_size (code s) ≡ code_length s
code_has_its_length End = refl
code_has_its_length (Const to n k) = omega (arith, code_has_its_length k)
code_has_its_length (Copy to from k) = omega (arith, code_has_its_length k)
code_has_its_length (Load z to base off k) = omega (arith, code_has_its_length k)
code_has_its_length (Store z from base off k) = omega (arith, code_has_its_length k)
code_has_its_length (Alu op to a b k) =
    omega (arith, code_size-append (operation_code op to a b) (code k), operation_has_its_length op to a b, code_has_its_length k)
code_has_its_length (ReadPsp to k) = omega (arith, code_has_its_length k)
code_has_its_length (WritePsp from k) = omega (arith, code_has_its_length k)
code_has_its_length (WriteControl from k) = omega (arith, code_has_its_length k)
code_has_its_length (Test c a b ys ns k) =
    omega (arith, code_size-append (code ys) (BranchWide (pos (code_length ns)) ∷ (code ns ++ code k)), code_size-append (code ns) (code k), code_has_its_length ys, code_has_its_length ns, code_has_its_length k)
code_has_its_length (Repeat left most body k) =
    omega (arith, code_size-append (code body) (DataImmediate 3 left 1 ∷ BranchWide (negsuc (code_length body + 13)) ∷ code k), code_has_its_length body, code_has_its_length k)
code_has_its_length (Halt n k) = omega (arith, code_has_its_length k)
code_has_its_length (Return k) = omega (arith, code_has_its_length k)
code_has_its_length (Go to link k) = omega (arith, code_has_its_length k)

module _ (j : PermissionTest) (i : Image) (Good : ProtectionState → Type 0) where
  -- code in flash that may be fetched under each good protection
  pub flash_has_code : (pc : ℕ) (ys : List Instr) → CodeIn i pc ys → ((p : ProtectionState) → Good p → (a : ℕ) → pc ≤ a → a < pc + code_size ys → j p Fetch a ≡ true) → HasCode j i Good pc ys
  flash_has_code pc [] has may = tt
  flash_has_code pc (y ∷ ys) has may = (
    λ p g. (code_may_run j i p (y ∷ []) pc (has.0, tt) (λ a lo hi. may p g a lo (omega arith))).0,
    flash_has_code (pc + size y) ys has.1 (λ p g a lo hi. may p g a (omega arith) (omega arith)),
  )

  -- of two parts, the first and the second
  pub has_front : (pc : ℕ) (a b : List Instr) → HasCode j i Good pc (a ++ b) → HasCode j i Good pc a
  has_front pc [] b h = tt
  has_front pc (y ∷ a) b h = (h.0, has_front (pc + size y) a b h.1)

  pub has_back : (pc : ℕ) (a b : List Instr) → HasCode j i Good pc (a ++ b) → HasCode j i Good (pc + code_size a) b
  has_back pc [] b h = let e : pc ≡ pc + 0 = omega arith in subst (λ n. HasCode j i Good n b) e h
  has_back pc (y ∷ a) b h =
      let e : pc + size y + code_size a ≡ pc + code_size (y ∷ a) = omega arith in
      subst (λ n. HasCode j i Good n b) e (has_back (pc + size y) a b h.1)

  -- code behind a list's own
  pub behind : (s : PrivilegedSteps) (pc : ℕ) (ys : List Instr) → HasCode j i Good pc (code s ++ ys) → HasCode j i Good (pc + code_length s) ys
  behind s pc ys h = subst (λ n. HasCode j i Good (pc + n) ys) (code_has_its_length s) (has_back pc (code s) ys h)

-- ---- lengths are even

two_even : (a b : Bool) → two_address_length a b % 2 ≡ 0
two_even true b = refl
two_even false true = refl
two_even false false = refl

operation_even : (op : PrivilegedOp) (a b : Bool) → operation_length op a b % 2 ≡ 0
operation_even Add a b = refl
operation_even Sub a b = refl
operation_even And a b = two_even a b
operation_even Or a b = two_even a b
operation_even Shl a b = two_even a b
operation_even Shr a b = two_even a b

pub length_even : (s : PrivilegedSteps) → code_length s % 2 ≡ 0
length_even End = refl
length_even (Const to n k) = let h = length_even k in omega (arith, h)
length_even (Copy to from k) = let h = length_even k in omega (arith, h)
length_even (Load z to base off k) = let h = length_even k in omega (arith, h)
length_even (Store z from base off k) = let h = length_even k in omega (arith, h)
length_even (Alu op to a b k) = let h = length_even k in let e = operation_even op (nat_eq to a) (nat_eq to b) in omega (arith, h, e)
length_even (ReadPsp to k) = let h = length_even k in omega (arith, h)
length_even (WritePsp from k) = let h = length_even k in omega (arith, h)
length_even (WriteControl from k) = let h = length_even k in omega (arith, h)
length_even (Test c a b y n k) = let h = length_even k in let f = length_even y in let g = length_even n in omega (arith, h, f, g)
length_even (Repeat left most body k) = let h = length_even k in let f = length_even body in omega (arith, h, f)
length_even (Halt c k) = let h = length_even k in omega (arith, h)
length_even (Return k) = let h = length_even k in omega (arith, h)
length_even (Go to link k) = let h = length_even k in omega (arith, h)
