-- Beyond the program's claim: only laws, proofs and functions inside the tool cite this file.
-- What the code of comparisons does.
use Rattle.std.specs.Prelude.{ℕ, ◌^◌, ◌<◌, List, [], Bool, true, false, Option}
use Rattle.machine_devices.specs.declared.image.Image.{Image}
use Rattle.machine_model.specs.State.{PermissionTest}
use Rattle.ir_model.specs.declared.firmware.CmpOp.{CmpOp}
use Rattle.ir_model.specs.Resolved.{NumberedFunc, Cmp}
use Rattle.ir_model.specs.Step.{compared, bit}
use Rattle.code_model.specs.declared.places.Places.{Places}
use Rattle.code_effects.specs.Points.{Point, Leads}
use Rattle.code_effects.specs.Frames.{HasFrame, home, HasInst, behind}

-- LDR, LDR, CMP and B; then MOVS and STR, and a further B between them where the comparison is false
abbrev pub cmp_steps : Bool → ℕ
cmp_steps true = 6
cmp_steps false = 7

module _ (j : PermissionTest) (i : Image) (g : NumberedFunc) (q : Places) (labels : List (Option ℕ)) (site : Option ℕ) (p : Point) (o n : ℕ) where
  -- the result is the source's
  abbrev pub ComparisonEffects : Type 0
  ComparisonEffects = (op : CmpOp) (to a b : ℕ) → HasFrame j i p o n → to < n → a < n → b < n → p.pc < 2 ^ 30 → HasInst j i g q labels p p.pc site (Cmp op to a b) →
      Leads j i (cmp_steps (compared op (home o p a) (home o p b))) p (behind o p site (Cmp op to a b) to (bit (compared op (home o p a) (home o p b)))) []
