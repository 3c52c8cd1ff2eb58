-- The bound on the stack of a firmware in its compartments: what its call paths take at most, and which path takes it.
use Rattle.std.specs.Prelude.{◌≡◌, ℕ, ◌+◌, ◌≤◌, Bool, List, [], ◌∷◌, reverse}
use Rattle.ir_model.specs.Resolved.{Program}
use Rattle.plan_model.specs.declared.needs.Needs.{Needs}
use Rattle.plan_model.specs.declared.groups.Groups.{Groups}
use Rattle.refine_model.specs.StackLimit.{exception_bytes}
use Rattle.refine_stack.specs.Paths.{Calls, frame_bytes, taken_above, IsPath, IsDeepest}
use Rattle.refine_stack.specs.Cycles.{Joins, HasNoCycle}

-- a number has a property, and no lower one has it
pub record IsLowest (P : ℕ → Type 0) (k : ℕ) : Type 0 where
  pub has : P k
  pub lowest : (j : ℕ) → P j → k ≤ j

module _ (p : Program) (n : Needs) (g : Groups) (stack : ℕ) where
  -- a call of f gives, from the most that f comes to, the most that h comes to
  pub record Gives (h f : ℕ) : Type 0 where
    pub crosses : Bool
    pub taken : ℕ
    pub call : Calls n g f h crosses
    pub from : IsDeepest p n g stack f taken
    pub to : IsDeepest p n g stack h (taken_above stack crosses taken + frame_bytes p h)

  -- functions, the last first: behind each that is not `main` stands the lowest-numbered one of which a call gives its most
  abbrev pub IsChain : List ℕ → Type 0
  IsChain [] = ⊥
  IsChain (f ∷ []) = f ≡ p.main
  IsChain (h ∷ f ∷ fs) = IsLowest (Gives h) f × IsChain (f ∷ fs)

  -- a function in which a path ends that needs `needed` bytes, with those of an exception
  abbrev pub IsEnd : (needed : ℕ) → (func : ℕ) → Type 0
  IsEnd needed f = (t : ℕ) × IsDeepest p n g stack f t × (needed ≡ t + exception_bytes)

  -- the chain of the lowest-numbered function in which such a path ends
  abbrev pub IsWorst : (needed : ℕ) → List ℕ → Type 0
  IsWorst needed [] = ⊥
  IsWorst needed (h ∷ fs) = IsLowest (IsEnd needed) h × IsChain (h ∷ fs)

  -- no function that is reached reaches itself; every path leaves room for an exception in `needed` bytes; and the path is the
  -- worst, `main` first
  pub record IsBound (needed : ℕ) (path : List ℕ) : Type 0 where
    pub no_cycle : HasNoCycle (Joins n) p.main
    pub most : (fs : List ℕ) (t : ℕ) → IsPath p n g stack fs t → t + exception_bytes ≤ needed
    pub worst : IsWorst needed (reverse path)

  -- there is a bound of at most the stack's size
  pub record FitsStack : Type 0 where
    pub needed : ℕ
    pub path : List ℕ
    pub bound : IsBound needed path
    pub fits : needed ≤ stack
