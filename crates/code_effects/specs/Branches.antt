-- Beyond the program's claim: only laws, proofs and functions inside the tool cite this file.
-- What the code at a block's end does, where the run stays in the function. Block b of the function is label first + b.
use Rattle.std.specs.Prelude.{ℕ, ◌+◌, ◌^◌, ◌<◌, List, [], Option, nat_eq, if◌then◌else◌}
use Rattle.machine_devices.specs.declared.image.Image.{Image}
use Rattle.machine_thumb_asm.specs.Assembly.{place_of}
use Rattle.machine_model.specs.State.{PermissionTest}
use Rattle.ir_model.specs.Resolved.{NumberedFunc, Jump, Branch}
use Rattle.code_model.specs.declared.places.Places.{Places}
use Rattle.code_effects.specs.Points.{Point, Leads}
use Rattle.code_effects.specs.Frames.{HasFrame, home, HasTerm}

-- at the beginning of a block
abbrev pub at_block : (labels : List (Option ℕ)) → (first : ℕ) → Point → (block : ℕ) → Point
at_block labels first p b = record p { registers = []; pc = place_of labels (first + b) }

module _ (j : PermissionTest) (i : Image) (g : NumberedFunc) (q : Places) (labels : List (Option ℕ)) (first : ℕ) (p : Point) (o n : ℕ) where
  pub record BranchEffects : Type 0 where
    pub jump : (b : ℕ) → p.pc < 2 ^ 30 → place_of labels (first + b) < 2 ^ 30 → HasTerm j i g q labels first p p.pc (Jump b) → Leads j i 1 p (at_block labels first p b) []
    pub branch : (on a b : ℕ) → HasFrame j i p o n → on < n → p.pc < 2 ^ 30 → place_of labels (first + a) < 2 ^ 30 → place_of labels (first + b) < 2 ^ 30 →
        HasTerm j i g q labels first p p.pc (Branch on a b) → Leads j i 4 p (at_block labels first p (if nat_eq (home o p on) 0 then b else a)) []
