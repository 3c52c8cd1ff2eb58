-- Beyond the program's claim: only laws, proofs and functions inside the tool cite this file.
-- What call paths take, by the list of calls; and numbers that are raised until they say it. A number is 0 where no path is known.
use Rattle.std.specs.Prelude.{◌≡◌, ℕ, ◌+◌, ◌<◌, ◌≤◌, ◌⊎◌, Bool, false, List, [], ◌∷◌, get_or, Contains}
use Rattle.refine_stack.specs.Paths.{taken_above}
use Rattle.refine_stack.specs.declared.calls.Call.{Call}
use Rattle.refine_stack.specs.Listed.{call}

-- a number is at least `least` afterwards, and else all are as before
pub record IsRaised (func least : ℕ) (old new : List ℕ) (changed : Bool) : Type 0 where
  pub grows : (x : ℕ) → get_or old x 0 ≤ get_or new x 0
  pub done : least ≤ get_or new func 0
  pub from : (x : ℕ) → (get_or new x 0 ≡ get_or old x 0) ⊎ ((x ≡ func) × (get_or new x 0 ≡ least))
  pub same : changed ≡ false → new ≡ old

-- what a callee's path takes, by what its caller's takes
abbrev pub value : (frames : List ℕ) → (stack : ℕ) → Call → (taken : ℕ) → ℕ
value frames stack x t = taken_above stack x.crosses t + get_or frames x.to 0

-- a call is told a callee's number
pub record IsRelaxed (frames : List ℕ) (stack : ℕ) (x : Call) (old new : List ℕ) (changed : Bool) : Type 0 where
  pub grows : (f : ℕ) → get_or old f 0 ≤ get_or new f 0
  pub done : 0 < get_or old x.from 0 → value frames stack x (get_or old x.from 0) ≤ get_or new x.to 0
  pub from : (f : ℕ) → (get_or new f 0 ≡ get_or old f 0) ⊎ ((f ≡ x.to) × (0 < get_or old x.from 0) × (get_or new f 0 ≡ value frames stack x (get_or old x.from 0)))
  pub same : changed ≡ false → new ≡ old

module _ (frames : List ℕ) (stack : ℕ) (cs : List Call) where
  -- functions, the last first, are a path by these calls from `main`, and it takes `taken` bytes
  abbrev pub IsRoute : (main : ℕ) → List ℕ → (taken : ℕ) → Type 0
  IsRoute main [] t = ⊥
  IsRoute main (f ∷ []) t = (f ≡ main) × (t ≡ get_or frames f 0)
  IsRoute main (h ∷ f ∷ fs) t = (c : Bool) × (u : ℕ) × Contains cs (call f h c) × IsRoute main (f ∷ fs) u × (t ≡ value frames stack (call f h c) u)

  -- each number that is not 0 is what a path takes
  abbrev pub IsSound : (main : ℕ) → List ℕ → Type 0
  IsSound main ts = (f : ℕ) → 0 < get_or ts f 0 → (fs : List ℕ) × IsRoute main (f ∷ fs) (get_or ts f 0)

  -- no call raises a number
  abbrev pub IsClosed : List ℕ → Type 0
  IsClosed ts = (x : Call) → Contains cs x → 0 < get_or ts x.from 0 → value frames stack x (get_or ts x.from 0) ≤ get_or ts x.to 0

  pub record IsRound (main : ℕ) (old new : List ℕ) (changed : Bool) : Type 0 where
    pub grows : (f : ℕ) → get_or old f 0 ≤ get_or new f 0
    pub sound : IsSound main old → IsSound main new
    pub closed : changed ≡ false → IsClosed new
