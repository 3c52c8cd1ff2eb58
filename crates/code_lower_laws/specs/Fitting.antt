-- Beyond the program's claim: only laws, proofs and functions inside the tool cite this file.
-- Functions of typed firmwares are functions that code is made for.
use Rattle.std.specs.Prelude.{◌≡◌, ℕ, ◌<◌, length, Option, IfSome}
use Rattle.std.specs.List.{All}
use Rattle.ir_model.specs.Plain.{PlainFirmware}
use Rattle.ir_model.specs.Resolved.{Program, func_at}
use Rattle.ir_model.specs.Resolve.{resolve}
use Rattle.ir_model.specs.Canonical.{IsWithinLimits}
use Rattle.ir_model.specs.Typing.{IsTyped}
use Rattle.plan_model.specs.CompileLimits.{lent_limit, site_limit}
use Rattle.code_model.specs.declared.places.CallSite.{CallSite}
use Rattle.code_model.specs.declared.places.Places.{Places}
use Rattle.code_model.specs.Fitting.{FuncFits}
use Rattle.code_lower_laws.specs.Reaching.{JumpsInside}

-- places for a function of a program: an address for each global, window and function, an entry for each of its locals, and
-- numbers that are small enough
pub record HasEach (p : Program) (func : ℕ) (q : Places) : Type 0 where
  pub globals : length q.globals ≡ length p.globals
  pub windows : length q.windows ≡ length p.periphs
  pub entries : length q.entries ≡ length p.funcs
  pub sites : All (λ (s : CallSite). s.number < site_limit) q.sites
  pub lends : length q.lends ≡ length (func_at p func).locals
  pub lend_numbers : All (λ (n : Option ℕ). IfSome n (λ k. k < lent_limit)) q.lends

-- with such places, code is made for each function of a typed firmware within the limits
abbrev pub TypedFunctionsFit : Type 0
TypedFunctionsFit =
    (w : PlainFirmware) → IsTyped w → IsWithinLimits w → (f : ℕ) → f < length (resolve w).funcs → (q : Places) → HasEach (resolve w) f q →
    FuncFits q (func_at (resolve w) f)

-- its jumps go to blocks of the function
abbrev pub TypedJumpsInside : Type 0
TypedJumpsInside = (w : PlainFirmware) → IsTyped w → IsWithinLimits w → (f : ℕ) → JumpsInside (func_at (resolve w) f)
