-- Beyond the program's claim: only laws, proofs and functions inside the tool cite this file.
-- The calls of a firmware as a list, and the bytes of frames.
use Rattle.std.specs.Prelude.{◌≡◌, ℕ, ◌<◌, Bool, List, length, get_or, Contains}
use Rattle.ir_model.specs.Resolved.{Program}
use Rattle.plan_model.specs.declared.needs.SiteNeed.{SiteNeed}
use Rattle.plan_model.specs.declared.groups.Groups.{Groups}
use Rattle.plan_model.specs.Crossing as crossing
use Rattle.need_lists.specs.AnyOf.{AnyOf}
use Rattle.refine_stack.specs.Paths.{frame_bytes}
use Rattle.refine_stack.specs.declared.calls.Call.{Call}

abbrev pub call : (from to : ℕ) → Bool → Call
call f h c = record { from = f; to = h; crosses = c }

-- the call of a function to a target
abbrev pub IsCallTo : (from : ℕ) → (crosses : Bool) → (target : ℕ) → Call → Type 0
IsCallTo f c t x = call f t c ≡ x

-- a call at a site to one of its targets
abbrev pub IsCallAt : Groups → SiteNeed → Call → Type 0
IsCallAt g s x = AnyOf (λ t. IsCallTo s.func (crossing.crosses g s) t x) s.targets

-- both functions are among so many
abbrev pub IsThere : (count : ℕ) → Call → Type 0
IsThere n x = (x.from < n) × (x.to < n)

abbrev pub AreThere : (count : ℕ) → List Call → Type 0
AreThere n cs = (x : Call) → Contains cs x → IsThere n x

-- the bytes of each function's frame
pub record AreFrames (p : Program) (sizes : List ℕ) : Type 0 where
  pub count : length sizes ≡ length p.funcs
  pub each : (f : ℕ) → f < length p.funcs → get_or sizes f 0 ≡ frame_bytes p f

-- a call of the list joins two functions
abbrev pub Calls : List Call → (f h : ℕ) → Type 0
Calls cs f h = (c : Bool) × Contains cs (call f h c)
