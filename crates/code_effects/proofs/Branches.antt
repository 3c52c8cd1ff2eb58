-- The code at a block's end.
use Rattle.std.specs.Prelude.{pos, if◌then◌else◌}
use Rattle.std.proofs.Common.{◌≡◌, ℕ, ◌+◌, ◌*◌, ◌^◌, ◌<◌, List, [], ◌∷◌, Bool, true, false, Option, nat_eq, refl, arith}
use Rattle.base_words.specs.declared.conditions.Flags.{Flags}
use Rattle.base_words.specs.Flags.{holds, compare_flags}
use Rattle.base_words.proofs.Bytes.{read_fits}
use Rattle.machine_thumb_asm.specs.Assembly.{place_of}
use Rattle.machine_thumb_asm.specs.Finished.{distance}
use Rattle.machine_devices.specs.declared.image.Image.{Image}
use Rattle.machine_model.specs.State.{PermissionTest}
use Rattle.machine_model.proofs.Exec.{stay, next_step}
use Rattle.machine_model.proofs.InstructionEffects.{cmp_immediate, b_taken, b_not_taken, b_wide}
use Rattle.machine_model.proofs.Transfers.{ldr_sp}
use Rattle.ir_model.specs.Resolved.{NumberedFunc, Jump, Branch}
use Rattle.code_model.specs.declared.places.Places.{Places}
use Rattle.code_model.specs.Templates.{term_items}
use Rattle.code_effects.specs.Points.{Point, Leads}
use Rattle.code_effects.specs.Frames.{HasFrame, home, HasTerm}
use Rattle.code_effects.specs.Branches.{at_block, BranchEffects}
use Rattle.code_effects.proofs.Comparisons.{Conditions}
use Rattle.code_effects.proofs.Distances.{skips, goes_to}
use Rattle.code_effects.proofs.Joined.{landed, leads_by}
use Rattle.code_effects.proofs.Registers.{holds_nothing}

module _ (j : PermissionTest) (i : Image) (g : NumberedFunc) (q : Places) (labels : List (Option ℕ)) (first : ℕ) (p : Point) (o n : ℕ) where
  pub jump : (b : ℕ) → p.pc < 2 ^ 30 → place_of labels (first + b) < 2 ^ 30 → HasTerm j i g q labels first p p.pc (Jump b) → Leads j i 1 p (at_block labels first p b) []
  unfolding term_items
  jump b0 low there code =
      let to : ℕ = place_of labels (first + b0) in
      leads_by j i 1 p _ [] (λ a b c rest f h.
      landed j i 1 _ p.context [] (a ∷ b ∷ c ∷ rest) p.sp p.lr to to f p.ram p.queues [] refl (holds_nothing (a ∷ b ∷ c ∷ rest) (omega arith))
      (next_step (b_wide j i p.context (a ∷ b ∷ c ∷ rest) p.sp p.lr p.pc f p.ram p.queues to (distance p.pc to) (goes_to p.pc to (omega arith) (omega arith)) code.0) (stay j i)))

  branch_by : (t : Bool) (on yes_ no_ : ℕ) → holds 0 (compare_flags (home o p on) 0) ≡ t → HasFrame j i p o n → on < n → p.pc < 2 ^ 30 → place_of labels (first + yes_) < 2 ^ 30 → place_of labels (first + no_) < 2 ^ 30 →
      HasTerm j i g q labels first p p.pc (Branch on yes_ no_) → Leads j i 4 p (at_block labels first p (if t then no_ else yes_)) []
  unfolding term_items
  branch_by true on yes_ no_ t room lt low ly ln code =
      let v : ℕ = home o p on in
      let g0 : Flags = compare_flags v 0 in
      let to : ℕ = place_of labels (first + no_) in
      leads_by j i 4 p _ [] (λ a b c rest f h.
      landed j i 4 _ p.context [] (v ∷ b ∷ c ∷ rest) p.sp p.lr to to g0 p.ram p.queues [] refl (holds_nothing (v ∷ b ∷ c ∷ rest) (omega arith))
      (next_step (ldr_sp j i p.context (a ∷ b ∷ c ∷ rest) p.sp p.lr p.pc f p.ram p.queues 0 on o n room lt code.0)
      (next_step (cmp_immediate j i p.context (v ∷ b ∷ c ∷ rest) p.sp p.lr (p.pc + 2) f p.ram p.queues 0 0 code.1.0)
      (next_step (b_taken j i p.context (v ∷ b ∷ c ∷ rest) p.sp p.lr (p.pc + 2 + 2) g0 p.ram p.queues 0 (p.pc + 2 + 2 + 2 + 4) (pos 2) t (skips (p.pc + 2 + 2 + 4) 2 _ (omega arith) (omega arith) (omega arith)) code.1.1.0)
      (next_step (b_wide j i p.context (v ∷ b ∷ c ∷ rest) p.sp p.lr (p.pc + 2 + 2 + 2 + 4) g0 p.ram p.queues to (distance (p.pc + 2 + 2 + 2 + 4) to) (goes_to (p.pc + 2 + 2 + 2 + 4) to (omega arith) (omega arith)) code.1.1.1.1.0) (stay j i))))))
  branch_by false on yes_ no_ t room lt low ly ln code =
      let v : ℕ = home o p on in
      let g0 : Flags = compare_flags v 0 in
      let to : ℕ = place_of labels (first + yes_) in
      leads_by j i 4 p _ [] (λ a b c rest f h.
      landed j i 4 _ p.context [] (v ∷ b ∷ c ∷ rest) p.sp p.lr to to g0 p.ram p.queues [] refl (holds_nothing (v ∷ b ∷ c ∷ rest) (omega arith))
      (next_step (ldr_sp j i p.context (a ∷ b ∷ c ∷ rest) p.sp p.lr p.pc f p.ram p.queues 0 on o n room lt code.0)
      (next_step (cmp_immediate j i p.context (v ∷ b ∷ c ∷ rest) p.sp p.lr (p.pc + 2) f p.ram p.queues 0 0 code.1.0)
      (next_step (b_not_taken j i p.context (v ∷ b ∷ c ∷ rest) p.sp p.lr (p.pc + 2 + 2) g0 p.ram p.queues 0 (pos 2) t code.1.1.0)
      (next_step (b_wide j i p.context (v ∷ b ∷ c ∷ rest) p.sp p.lr (p.pc + 2 + 2 + 2) g0 p.ram p.queues to (distance (p.pc + 2 + 2 + 2) to) (goes_to (p.pc + 2 + 2 + 2) to (omega arith) (omega arith)) code.1.1.1.0) (stay j i))))))

pub branch_effects : Conditions → (j : PermissionTest) (i : Image) (g : NumberedFunc) (q : Places) (labels : List (Option ℕ)) (first : ℕ) (p : Point) (o n : ℕ) → BranchEffects j i g q labels first p o n
branch_effects cs j i g q labels first p o n = record {
  jump = jump j i g q labels first p o n;
  branch = λ on a b room lt low la lb code. branch_by j i g q labels first p o n (nat_eq (home o p on) 0) on a b (cs.equal (home o p on) 0 (read_fits 4 (o + 4 * on) p.ram) (omega arith)) room lt low la lb code;
}
