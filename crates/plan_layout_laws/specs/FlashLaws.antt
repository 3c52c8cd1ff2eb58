-- Beyond the program's claim: only laws, proofs and functions inside the tool cite this file.
-- Where the blocks of flash lie, for those that use a plan.
use Rattle.std.specs.Prelude.{◌≡◌, ◌≢◌, ℕ, ◌%◌, ◌<◌, length}
use Rattle.base_ranges.specs.Ranges.{IsInside, AreApart}
use Rattle.ir_model.specs.Resolved.{Program}
use Rattle.plan_model.specs.declared.graph.Final.{Final}
use Rattle.plan_model.specs.declared.plan.Board.{Board}
use Rattle.plan_model.specs.declared.plan.Sizes.{Sizes}
use Rattle.plan_model.specs.declared.plan.Spot.{Spot}
use Rattle.plan_model.specs.declared.plan.Plan.{Plan}
use Rattle.plan_model.specs.Boards.{IsBoard}
use Rattle.plan_model.specs.Placement.{Fits, plan_of, compartment_spot}

-- a block inside a memory
abbrev pub IsIn : Spot → (base size : ℕ) → Type 0
IsIn s base size = IsInside s.base s.size base size

-- a block at a multiple of its size
abbrev pub IsAligned : Spot → Type 0
IsAligned s = s.base % s.size ≡ 0

-- two blocks without an address in common
abbrev pub ShareNothing : Spot → Spot → Type 0
ShareNothing s t = AreApart s.base s.size t.base t.size

pub record IsFlashLaid (b : Board) (l : Plan) : Type 0 where
  -- the vectors stand where flash begins
  pub vectors : l.tables.base ≡ b.flash_base
  pub tables_inside : IsIn l.tables b.flash_base b.flash_size
  pub tables_aligned : IsAligned l.tables
  pub inside : (c : ℕ) → c < length l.code → IsIn (compartment_spot l c) b.flash_base b.flash_size
  pub aligned : (c : ℕ) → c < length l.code → IsAligned (compartment_spot l c)
  pub tables_apart : (c : ℕ) → c < length l.code → ShareNothing l.tables (compartment_spot l c)
  pub apart : (c d : ℕ) → c < length l.code → d < length l.code → c ≢ d → ShareNothing (compartment_spot l c) (compartment_spot l d)

abbrev pub FlashIsLaid : Type 0
FlashIsLaid = (p : Program) (f : Final) (s : Sizes) (b : Board) → IsBoard b → Fits p f s b → IsFlashLaid b (plan_of p f s b)
