-- Call paths, and how many bytes of the stack the frames of one take.
--
-- The position of a path (`StackLimit` of `refine_model`) is the stack's size less what its frames take, as a whole number that may fall
-- below 0. So what is taken is counted here and not the position: it goes on where no stack is left. A stack is eight eighths, so what a
-- crossing rounds down of the position it rounds up of what is taken.
use Rattle.std.specs.Prelude.{◌≡◌, ℕ, ◌+◌, ◌/◌, ◌<◌, ◌≤◌, Bool, true, false, List, [], ◌∷◌, length, Contains}
use Rattle.ir_model.specs.Layout.{rounded_up}
use Rattle.ir_model.specs.Resolved.{Program, func_at}
use Rattle.plan_model.specs.declared.needs.SiteNeed.{SiteNeed}
use Rattle.plan_model.specs.declared.needs.Needs.{Needs}
use Rattle.plan_model.specs.declared.groups.Groups.{Groups}
use Rattle.plan_model.specs.Crossing as crossing
use Rattle.code_model.specs.FrameShape.{frame_size}
use Rattle.refine_model.specs.StackLimit.{exception_bytes}

-- function h is a target of a call of function f, which is a crossing site or is none
pub record Calls (n : Needs) (g : Groups) (f h : ℕ) (crosses : Bool) : Type 0 where
  pub site : SiteNeed
  pub listed : Contains n.sites site
  pub func : site.func ≡ f
  pub target : Contains site.targets h
  pub goes : crossing.crosses g site ≡ crosses

-- the bytes of a function's frame
abbrev pub frame_bytes : Program → (func : ℕ) → ℕ
frame_bytes p f = frame_size (func_at p f)

-- what is taken above a callee's frame, by what its caller and those before it take: at a crossing site the exception takes its bytes,
-- and the callee's frame ends at a whole number of eighths
abbrev pub taken_above : (stack : ℕ) → (crosses : Bool) → (taken : ℕ) → ℕ
taken_above stack false t = t
taken_above stack true t = rounded_up (t + exception_bytes) (stack / 8)

module _ (p : Program) (n : Needs) (g : Groups) (stack : ℕ) where
  -- functions are a call path, given from the last to the first, which is `main`: each is a target of a call of the one that stands
  -- behind it here; and by these calls their frames take so many bytes. Where several calls join two functions there are several such
  -- numbers
  abbrev pub IsPath : List ℕ → (taken : ℕ) → Type 0
  IsPath [] t = ⊥
  IsPath (f ∷ []) t = (f ≡ p.main) × (t ≡ frame_bytes p f)
  IsPath (h ∷ f ∷ fs) t = (c : Bool) × (u : ℕ) × Calls n g f h c × IsPath (f ∷ fs) u × (t ≡ taken_above stack c u + frame_bytes p h)

  -- the most that a path takes that ends in a function: the function's least position is the stack's size less this
  pub record IsDeepest (f taken : ℕ) : Type 0 where
    pub others : List ℕ
    pub is_path : IsPath (f ∷ others) taken
    pub most : (fs : List ℕ) (t : ℕ) → IsPath (f ∷ fs) t → t ≤ taken

-- the functions of the calls are there
abbrev pub SitesAreThere : Program → Needs → Type 0
SitesAreThere p n = (s : SiteNeed) (h : ℕ) → Contains n.sites s → Contains s.targets h → (s.func < length p.funcs) × (h < length p.funcs)
