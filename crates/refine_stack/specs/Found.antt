-- Beyond the program's claim: only laws, proofs and functions inside the tool cite this file.
-- The answer, by the list of calls.
use Rattle.std.specs.Prelude.{ℕ, ◌≤◌, List, reverse, get_or}
use Rattle.refine_stack.specs.declared.answer.StackAnswer.{StackAnswer}
use Rattle.refine_stack.specs.declared.answer.StackAnswer.TheVariants.{Cycle, Bound}
use Rattle.refine_stack.specs.Cycles.{HasNoCycle, IsCycle}
use Rattle.refine_stack.specs.declared.calls.Call.{Call}
use Rattle.refine_stack.specs.Listed.{Calls}
use Rattle.refine_stack.specs.Taken.{IsSound, IsClosed}
use Rattle.refine_stack.specs.Worst.{IsWorstChain}

-- the worst chain by what paths take that end in each function
pub record IsFoundBy (frames : List ℕ) (stack : ℕ) (cs : List Call) (main needed : ℕ) (path : List ℕ) : Type 0 where
  pub none : HasNoCycle (Calls cs) main
  pub taken : List ℕ
  pub sound : IsSound frames stack cs main taken
  pub closed : IsClosed frames stack cs taken
  pub first : get_or frames main 0 ≤ get_or taken main 0
  pub worst : IsWorstChain frames stack cs taken main needed (reverse path)

abbrev pub IsAnswerBy : (frames : List ℕ) → (stack : ℕ) → List Call → (main : ℕ) → StackAnswer → Type 0
IsAnswerBy frames stack cs main (Cycle c) = IsCycle (Calls cs) main c
IsAnswerBy frames stack cs main (Bound needed path) = IsFoundBy frames stack cs main needed path
