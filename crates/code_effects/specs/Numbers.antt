-- Beyond the program's claim: only laws, proofs and functions inside the tool cite this file.
-- What the code of numbers, of copies, and of operations on two numbers does.
use Rattle.std.specs.Prelude.{ℕ, ◌^◌, ◌<◌, List, [], Option}
use Rattle.machine_devices.specs.declared.image.Image.{Image}
use Rattle.machine_model.specs.State.{PermissionTest}
use Rattle.ir_model.specs.declared.firmware.BinOp.{BinOp}
use Rattle.ir_model.specs.declared.firmware.BinOp.TheVariants.{Urem, Srem}
use Rattle.ir_model.specs.Resolved.{NumberedFunc, Const, Move, Bin}
use Rattle.ir_model.specs.Step.{binary}
use Rattle.code_model.specs.declared.places.Places.{Places}
use Rattle.code_effects.specs.Points.{Point, Leads}
use Rattle.code_effects.specs.Frames.{HasFrame, home, HasInst, behind}

-- LDR, LDR, the operation, STR; a remainder takes two instructions more
abbrev pub bin_steps : BinOp → ℕ
bin_steps Urem = 6
bin_steps Srem = 6
bin_steps _ = 4

module _ (j : PermissionTest) (i : Image) (g : NumberedFunc) (q : Places) (labels : List (Option ℕ)) (site : Option ℕ) (p : Point) (o n : ℕ) where
  pub record NumberEffects : Type 0 where
    pub const : (to v : ℕ) → HasFrame j i p o n → to < n → v < 2 ^ 32 → HasInst j i g q labels p p.pc site (Const to v) → Leads j i 3 p (behind o p site (Const to v) to v) []
    pub move : (to from : ℕ) → HasFrame j i p o n → to < n → from < n → HasInst j i g q labels p p.pc site (Move to from) → Leads j i 2 p (behind o p site (Move to from) to (home o p from)) []
    -- the result is the source's: of divisions and remainders, also by 0, and of shifts by any amount
    pub bin : (op : BinOp) (to a b : ℕ) → HasFrame j i p o n → to < n → a < n → b < n → HasInst j i g q labels p p.pc site (Bin op to a b) →
        Leads j i (bin_steps op) p (behind o p site (Bin op to a b) to (binary op (home o p a) (home o p b))) []
