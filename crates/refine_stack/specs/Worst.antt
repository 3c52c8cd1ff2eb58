-- Beyond the program's claim: only laws, proofs and functions inside the tool cite this file.
-- The path that takes the most, by what paths take that end in each function.
use Rattle.std.specs.Prelude.{◌≡◌, ℕ, ◌+◌, ◌<◌, ◌≤◌, ◌⊎◌, List, [], ◌∷◌, length, reverse, get_or, Contains}
use Rattle.refine_stack.specs.declared.answer.StackAnswer.{StackAnswer}
use Rattle.refine_stack.specs.declared.answer.StackAnswer.TheVariants.{Cycle, Bound}
use Rattle.refine_stack.specs.Bounds.{IsLowest}
use Rattle.refine_stack.specs.declared.calls.Call.{Call}
use Rattle.refine_stack.specs.Taken.{value}

-- the lowest-numbered function that has the most
pub record IsMost (ts : List ℕ) (last : ℕ) : Type 0 where
  pub there : last < length ts
  pub most : (f : ℕ) → get_or ts f 0 ≤ get_or ts last 0
  pub first : (f : ℕ) → f < last → get_or ts f 0 < get_or ts last 0

module _ (frames : List ℕ) (stack : ℕ) (ts : List ℕ) where
  -- the function of a call that gives a function its number, if it is lower
  pub record IsLoweredBy (func : ℕ) (x : Call) (least lower : ℕ) : Type 0 where
    pub most : lower ≤ least
    pub done : x.to ≡ func → 0 < get_or ts x.from 0 → get_or ts func 0 ≡ value frames stack x (get_or ts x.from 0) → lower ≤ x.from
    pub found : (lower ≡ least) ⊎ ((x.from ≡ lower) × (x.to ≡ func) × (0 < get_or ts lower 0) × (get_or ts func 0 ≡ value frames stack x (get_or ts lower 0)))

module _ (frames : List ℕ) (stack : ℕ) (cs : List Call) (ts : List ℕ) where
  -- a call of f gives h its number
  abbrev pub IsGiven : (h f : ℕ) → Type 0
  IsGiven h f = (x : Call) × Contains cs x × (x.from ≡ f) × (x.to ≡ h) × (0 < get_or ts f 0) × (get_or ts h 0 ≡ value frames stack x (get_or ts f 0))

  pub record IsBefore (func before : ℕ) : Type 0 where
    pub lowest : (f : ℕ) → IsGiven func f → before ≤ f
    pub found : (before ≡ length ts) ⊎ IsGiven func before

  abbrev pub IsChainBy : (main : ℕ) → List ℕ → Type 0
  IsChainBy main [] = ⊥
  IsChainBy main (f ∷ []) = f ≡ main
  IsChainBy main (h ∷ f ∷ fs) = IsLowest (IsGiven h) f × IsChainBy main (f ∷ fs)

  abbrev pub IsWorstChain : (main needed : ℕ) → List ℕ → Type 0
  IsWorstChain main needed [] = ⊥
  IsWorstChain main needed (h ∷ fs) = (needed ≡ get_or ts h 0 + 32) × IsMost ts h × IsChainBy main (h ∷ fs)

-- what is answered is the path that takes the most
abbrev pub IsWorstBy : (frames : List ℕ) → (stack : ℕ) → List Call → (main : ℕ) → (ts : List ℕ) → StackAnswer → Type 0
IsWorstBy frames stack cs main ts (Cycle c) = ⊥
IsWorstBy frames stack cs main ts (Bound needed path) = IsWorstChain frames stack cs ts main needed (reverse path)
