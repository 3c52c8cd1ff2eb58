-- Beyond the program's claim: only laws, proofs and functions inside the tool cite this file.
-- How many calls functions need to come to a function. A number is 0 where none is known.
use Rattle.std.specs.Prelude.{◌≡◌, ℕ, zero, suc, ◌+◌, ◌<◌, ◌≤◌, ◌⊎◌, Bool, true, false, List, [], ◌∷◌, ◌++◌, length, get_or, Contains, nat_eq}
use Rattle.refine_stack.specs.Cycles.{IsWalk, IsFirst}
use Rattle.refine_stack.specs.declared.calls.Call.{Call}
use Rattle.refine_stack.specs.Listed.{Calls}

-- `more` further calls lead from a call's target to the function `to`
abbrev pub near : List ℕ → (to more : ℕ) → Call → Bool
near far to zero x = nat_eq x.to to
near far to (suc m) x = nat_eq (get_or far x.to 0) (suc m)

-- the function of a call that is near gets one more than these calls, if it has no number
pub record IsMarked (to more : ℕ) (x : Call) (old new : List ℕ) (changed : Bool) : Type 0 where
  pub keeps : (f : ℕ) → 0 < get_or old f 0 → get_or new f 0 ≡ get_or old f 0
  pub done : near old to more x ≡ true → 0 < get_or new x.from 0
  pub from : (f : ℕ) → (get_or new f 0 ≡ get_or old f 0) ⊎ ((f ≡ x.from) × (get_or old f 0 ≡ 0) × (near old to more x ≡ true) × (get_or new f 0 ≡ more + 1))
  pub same : changed ≡ false → new ≡ old

-- the target of a call that has a number, if it is lower
pub record IsLowered (far : List ℕ) (from more : ℕ) (x : Call) (least lower : ℕ) : Type 0 where
  pub most : lower ≤ least
  pub done : x.from ≡ from → get_or far x.to 0 ≡ more → lower ≤ x.to
  pub found : (lower ≡ least) ⊎ ((x.from ≡ from) × (x.to ≡ lower) × (get_or far lower 0 ≡ more))

-- a function comes to itself, and `main` to it
abbrev pub IsOnCycle : List ℕ → (func main : ℕ) → Type 0
IsOnCycle far func main = (0 < get_or far func 0) × ((func ≡ main) ⊎ (0 < get_or far main 0))

module _ (cs : List Call) where
  -- functions without a number, of which a call is near, get one more than these calls
  pub record IsLevel (to more : ℕ) (old new : List ℕ) (changed : Bool) : Type 0 where
    pub keeps : (f : ℕ) → 0 < get_or old f 0 → get_or new f 0 ≡ get_or old f 0
    pub done : (x : Call) → Contains cs x → near old to more x ≡ true → 0 < get_or new x.from 0
    pub from : (f : ℕ) → get_or old f 0 ≡ 0 →
        (get_or new f 0 ≡ 0) ⊎ ((x : Call) × Contains cs x × (x.from ≡ f) × (near old to more x ≡ true) × (get_or new f 0 ≡ more + 1))
    pub same : changed ≡ false → new ≡ old

  -- each number that is not 0 is how many calls a walk has, and no walk has fewer
  pub record AreFar (to : ℕ) (far : List ℕ) : Type 0 where
    pub sound : (f : ℕ) → 0 < get_or far f 0 → (xs : List ℕ) × IsWalk (Calls cs) f xs to × (length xs + 1 ≡ get_or far f 0)
    pub covers : (f : ℕ) (xs : List ℕ) → IsWalk (Calls cs) f xs to → (0 < get_or far f 0) × (get_or far f 0 ≤ length xs + 1)

  -- the lowest-numbered target of a function's calls that has a number
  pub record IsNext (far : List ℕ) (from more next : ℕ) : Type 0 where
    pub lowest : (x : Call) → Contains cs x → x.from ≡ from → get_or far x.to 0 ≡ more → next ≤ x.to
    pub found : (next ≡ length far) ⊎ ((x : Call) × Contains cs x × (x.from ≡ from) × (x.to ≡ next) × (get_or far next 0 ≡ more))

  -- the shortest cycle through a function, and of these the first
  pub record IsAround (func : ℕ) (path : List ℕ) : Type 0 where
    pub between : List ℕ
    pub is : path ≡ func ∷ (between ++ func ∷ [])
    pub walk : IsWalk (Calls cs) func between func
    pub shortest : (xs : List ℕ) → IsWalk (Calls cs) func xs func → length between ≤ length xs
    pub first : IsFirst (Calls cs) func between func
