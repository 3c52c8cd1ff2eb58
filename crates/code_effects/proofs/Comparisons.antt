-- The code of comparisons.
use Rattle.std.specs.Prelude.{nat_eq, nat_lt, nat_le, not, pos}
use Rattle.std.proofs.Common.{◌≡◌, ℕ, ◌+◌, ◌*◌, ◌^◌, ◌<◌, List, [], ◌∷◌, Bool, true, false, Option, arith}
use Rattle.base_words.specs.declared.conditions.Flags.{Flags}
use Rattle.base_words.specs.Arithmetic.{signed_less, signed_at_most}
use Rattle.base_words.specs.Flags.{holds, compare_flags, result_flags}
use Rattle.base_words.specs.Bytes.{write}
use Rattle.base_words.proofs.Bytes.{read_fits}
use Rattle.machine_devices.specs.declared.image.Image.{Image}
use Rattle.machine_model.specs.State.{PermissionTest}
use Rattle.machine_model.specs.Code.{CodeAt}
use Rattle.machine_model.proofs.Exec.{stay, next_step}
use Rattle.machine_model.proofs.InstructionEffects.{cmp, movs, b_taken, b_not_taken, b}
use Rattle.machine_model.proofs.Transfers.{ldr_sp, str_sp}
use Rattle.ir_model.specs.declared.firmware.CmpOp.{CmpOp}
use Rattle.ir_model.specs.declared.firmware.CmpOp.TheVariants.{Eq, Ne, Ult, Ule, Slt, Sle}
use Rattle.ir_model.specs.Resolved.{NumberedFunc}
use Rattle.ir_model.specs.Step.{compared, bit}
use Rattle.code_model.specs.declared.places.Places.{Places}
use Rattle.code_model.specs.Comparisons.{condition, cmp_code}
use Rattle.code_model.specs.Templates.{inst_items}
use Rattle.code_model.specs.Sizes.{inst_size}
use Rattle.code_effects.specs.Points.{Point, Leads}
use Rattle.code_effects.specs.Frames.{HasFrame, home}
use Rattle.code_effects.specs.Comparisons.{cmp_steps, ComparisonEffects}
use Rattle.code_effects.proofs.Distances.{skips}
use Rattle.code_effects.proofs.Items.{plain_code}
use Rattle.code_effects.proofs.Joined.{landed, leads_by}
use Rattle.code_effects.proofs.Registers.{holds_nothing}

-- the conditions of comparisons
pub record Conditions : Type 0 where
  pub equal : (x y : ℕ) → x < 2 ^ 32 → y < 2 ^ 32 → holds 0 (compare_flags x y) ≡ nat_eq x y
  pub unequal : (x y : ℕ) → x < 2 ^ 32 → y < 2 ^ 32 → holds 1 (compare_flags x y) ≡ not (nat_eq x y)
  pub below : (x y : ℕ) → x < 2 ^ 32 → y < 2 ^ 32 → holds 3 (compare_flags x y) ≡ nat_lt x y
  pub at_most : (x y : ℕ) → x < 2 ^ 32 → y < 2 ^ 32 → holds 9 (compare_flags x y) ≡ nat_le x y
  pub signed_below : (x y : ℕ) → x < 2 ^ 32 → y < 2 ^ 32 → holds 11 (compare_flags x y) ≡ signed_less x y
  pub signed_at_most : (x y : ℕ) → x < 2 ^ 32 → y < 2 ^ 32 → holds 13 (compare_flags x y) ≡ signed_at_most x y

condition_is : Conditions → (op : CmpOp) (x y : ℕ) → x < 2 ^ 32 → y < 2 ^ 32 → holds (condition op) (compare_flags x y) ≡ compared op x y
unfolding compared
condition_is c Eq x y h l = c.equal x y h l
condition_is c Ne x y h l = c.unequal x y h l
condition_is c Ult x y h l = c.below x y h l
condition_is c Ule x y h l = c.at_most x y h l
condition_is c Slt x y h l = c.signed_below x y h l
condition_is c Sle x y h l = c.signed_at_most x y h l

module _ (j : PermissionTest) (i : Image) (p : Point) (o n : ℕ) where
  pub cmp_by : (t : Bool) (op : CmpOp) (to a b : ℕ) → holds (condition op) (compare_flags (home o p a) (home o p b)) ≡ t → HasFrame j i p o n → to < n → a < n → b < n → p.pc < 2 ^ 30 →
      CodeAt j i p.context.protection p.pc (cmp_code op to a b) → Leads j i (cmp_steps t) p (record p { registers = []; pc = p.pc + 16; ram = write 4 (o + 4 * to) (bit t) p.ram }) []
  cmp_by true op to a b0 t room lt la lb low code =
      let va : ℕ = home o p a in
      let vb : ℕ = home o p b0 in
      let g : Flags = compare_flags va vb in
      leads_by j i 6 p _ [] (λ d0 d1 d2 rest f h.
      landed j i 6 _ p.context [] (1 ∷ vb ∷ d2 ∷ rest) p.sp p.lr (p.pc + 2 + 2 + 2 + 2 + 2 + 2 + 2 + 2) (p.pc + 16) (result_flags g 1) (write 4 (o + 4 * to) 1 p.ram) p.queues [] (omega arith) (holds_nothing (1 ∷ vb ∷ d2 ∷ rest) (omega arith))
      (next_step (ldr_sp j i p.context (d0 ∷ d1 ∷ d2 ∷ rest) p.sp p.lr p.pc f p.ram p.queues 0 a o n room la code.0)
      (next_step (ldr_sp j i p.context (va ∷ d1 ∷ d2 ∷ rest) p.sp p.lr (p.pc + 2) f p.ram p.queues 1 b0 o n room lb code.1.0)
      (next_step (cmp j i p.context (va ∷ vb ∷ d2 ∷ rest) p.sp p.lr (p.pc + 2 + 2) f p.ram p.queues 1 0 code.1.1.0)
      (next_step (b_taken j i p.context (va ∷ vb ∷ d2 ∷ rest) p.sp p.lr (p.pc + 2 + 2 + 2) g p.ram p.queues (condition op) (p.pc + 2 + 2 + 2 + 2 + 2 + 2) (pos 2) t (skips (p.pc + 2 + 2 + 2 + 4) 2 _ (omega arith) (omega arith) (omega arith)) code.1.1.1.0)
      (next_step (movs j i p.context (va ∷ vb ∷ d2 ∷ rest) p.sp p.lr (p.pc + 2 + 2 + 2 + 2 + 2 + 2) g p.ram p.queues 0 1 code.1.1.1.1.1.1.0)
      (next_step (str_sp j i p.context (1 ∷ vb ∷ d2 ∷ rest) p.sp p.lr (p.pc + 2 + 2 + 2 + 2 + 2 + 2 + 2) (result_flags g 1) p.ram p.queues 0 to o n room lt code.1.1.1.1.1.1.1.0) (stay j i))))))))
  cmp_by false op to a b0 t room lt la lb low code =
      let va : ℕ = home o p a in
      let vb : ℕ = home o p b0 in
      let g : Flags = compare_flags va vb in
      leads_by j i 7 p _ [] (λ d0 d1 d2 rest f h.
      landed j i 7 _ p.context [] (0 ∷ vb ∷ d2 ∷ rest) p.sp p.lr (p.pc + 2 + 2 + 2 + 2 + 2 + 2 + 2 + 2) (p.pc + 16) (result_flags g 0) (write 4 (o + 4 * to) 0 p.ram) p.queues [] (omega arith) (holds_nothing (0 ∷ vb ∷ d2 ∷ rest) (omega arith))
      (next_step (ldr_sp j i p.context (d0 ∷ d1 ∷ d2 ∷ rest) p.sp p.lr p.pc f p.ram p.queues 0 a o n room la code.0)
      (next_step (ldr_sp j i p.context (va ∷ d1 ∷ d2 ∷ rest) p.sp p.lr (p.pc + 2) f p.ram p.queues 1 b0 o n room lb code.1.0)
      (next_step (cmp j i p.context (va ∷ vb ∷ d2 ∷ rest) p.sp p.lr (p.pc + 2 + 2) f p.ram p.queues 1 0 code.1.1.0)
      (next_step (b_not_taken j i p.context (va ∷ vb ∷ d2 ∷ rest) p.sp p.lr (p.pc + 2 + 2 + 2) g p.ram p.queues (condition op) (pos 2) t code.1.1.1.0)
      (next_step (movs j i p.context (va ∷ vb ∷ d2 ∷ rest) p.sp p.lr (p.pc + 2 + 2 + 2 + 2) g p.ram p.queues 0 0 code.1.1.1.1.0)
      (next_step (b j i p.context (0 ∷ vb ∷ d2 ∷ rest) p.sp p.lr (p.pc + 2 + 2 + 2 + 2 + 2) (result_flags g 0) p.ram p.queues (p.pc + 2 + 2 + 2 + 2 + 2 + 2 + 2) (pos 0) (skips (p.pc + 2 + 2 + 2 + 2 + 2 + 4) 0 _ (omega arith) (omega arith) (omega arith)) code.1.1.1.1.1.0)
      (next_step (str_sp j i p.context (0 ∷ vb ∷ d2 ∷ rest) p.sp p.lr (p.pc + 2 + 2 + 2 + 2 + 2 + 2 + 2) (result_flags g 0) p.ram p.queues 0 to o n room lt code.1.1.1.1.1.1.1.0) (stay j i)))))))))

pub comparison_effects : Conditions → (j : PermissionTest) (i : Image) (g : NumberedFunc) (q : Places) (labels : List (Option ℕ)) (site : Option ℕ) (p : Point) (o n : ℕ) → ComparisonEffects j i g q labels site p o n
unfolding inst_items inst_size
comparison_effects cs j i g q labels site p o n op to a b room lt la lb low code =
    cmp_by j i p o n (compared op (home o p a) (home o p b)) op to a b (condition_is cs op (home o p a) (home o p b) (read_fits 4 (o + 4 * a) p.ram) (read_fits 4 (o + 4 * b) p.ram)) room lt la lb low
    (plain_code j i p.context.protection labels (cmp_code op to a b) p.pc code)
