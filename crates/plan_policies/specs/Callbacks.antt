-- Beyond the program's claim: only laws, proofs and functions inside the tool cite this file.
-- What is known of a callback that puts functions into groups.
use Rattle.std.specs.Prelude.{◌≡◌, ℕ, ◌<◌, ◌≤◌, List}
use Rattle.std.specs.List.{AllZip}
use Rattle.std.specs.Borrow.{Bor}
use Rattle.ir_model.specs.TextLimits.{function_limit}
use Rattle.plan_model.specs.declared.groups.FuncFacts.{FuncFacts}

-- the callback, by when it may be called, and by which answers it gives for facts: it may be called for the facts of `functions`
-- functions, its answers are below `count`, and it answers equal facts equally; both numbers are from 1 to that of the functions that a
-- firmware may have
pub record IsGrouping (functions count : ℕ) (may : Bor FuncFacts → Type 0) (answers : FuncFacts → ℕ → Type 0) : Type 0 where
  pub some_functions : 0 < functions
  pub few_functions : functions ≤ function_limit
  pub some_groups : 0 < count
  pub few_groups : count ≤ function_limit
  pub callable : (f : Bor FuncFacts) → f.now.index < functions → may f
  pub below : (f : FuncFacts) (g : ℕ) → f.index < functions → answers f g → g < count
  pub equally : (f : FuncFacts) (g h : ℕ) → f.index < functions → answers f g → answers f h → g ≡ h

-- the groups of functions in order
abbrev pub AreAnswers : (answers : FuncFacts → ℕ → Type 0) → List FuncFacts → (groups : List ℕ) → Type 0
AreAnswers answers fs gs = AllZip answers fs gs
