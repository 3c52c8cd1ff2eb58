-- Beyond the program's claim: only laws, proofs and functions inside the tool cite this file.
-- Why a firmware gets no image for a board.
use Rattle.std.specs.Prelude.{ℕ}
use Rattle.ir_model.specs.Plain.{PlainFirmware}
use Rattle.ir_model.specs.Resolve.{resolve}
use Rattle.plan_model.specs.declared.groups.FuncFacts.{FuncFacts}
use Rattle.plan_model.specs.declared.groups.Groups.{Groups}
use Rattle.plan_model.specs.declared.needs.Needs.{Needs}
use Rattle.plan_model.specs.declared.plan.Board.{Board}
use Rattle.plan.specs.declared.refusal.PlanningRefusal.{PlanningRefusal}
use Rattle.plan.specs.declared.refusal.PlanningRefusal.TheVariants.{NoMemory}
use Rattle.plan.specs.Refusals.{IsPlanningRefusal}
use Rattle.aces_compiler.specs.Compiled.{AreGroupsBy}

-- it is not planned with the compartments of the answers
pub record IsRefusalByAnswers (w : PlainFirmware) (n : Needs) (b : Board) (answers : FuncFacts → ℕ → Type 0) (r : PlanningRefusal) : Type 0 where
  pub groups : Groups
  pub by_answers : AreGroupsBy w n answers groups
  pub refused : IsPlanningRefusal (resolve w) n groups b r

-- a refusal for want of memory says nothing else
abbrev pub IsCompileRefusal : PlainFirmware → Needs → Board → (answers : FuncFacts → ℕ → Type 0) → PlanningRefusal → Type 0
IsCompileRefusal w n b answers NoMemory = Unit {0}
IsCompileRefusal w n b answers r = IsRefusalByAnswers w n b answers r
