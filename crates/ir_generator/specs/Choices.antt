-- What the functions of a generated firmware do, by two draws each.
use Rattle.std.specs.Prelude.{ℕ, ◌<◌, All, zero, suc, ◌+◌, ◌*◌, ◌%◌, List, [], ◌∷◌, ◌++◌, length, Bool, true, false, ◌&&◌, nat_eq, nat_lt, if◌then◌else◌}
use Rattle.std.proofs.Math.ListN.{get_or}
use Rattle.std.specs.List.{count_by}
use Rattle.ir_generator.specs.declared.choices.Body.{Body}
use Rattle.ir_generator.specs.declared.choices.Body.TheVariants.{Adds, Stores, Calls, Lends}
use Rattle.ir_generator.specs.declared.choices.Choice.{Choice}
use Rattle.ir_generator.specs.Draws.{draw}

-- how many functions lend a local at most
abbrev pub lending_limit : ℕ
lending_limit = 32

-- how many calls deep a function is called at most
abbrev pub calling_limit : ℕ
calling_limit = 3

-- adds to a global: one function deep
abbrev pub adds : (global : ℕ) → Choice
adds a = record { body = Adds a; depth = 1 }

abbrev pub lends : Body → Bool
lends (Adds a) = false
lends (Stores a) = false
lends (Calls a) = false
lends Lends = true

abbrev pub is_lending : Choice → Bool
is_lending c = lends c.body

abbrev pub depth_at : List Choice → ℕ → ℕ
depth_at cs a = (get_or cs a (adds 0)).depth

-- an earlier function that is less deep than that may be called
abbrev pub may_call : List Choice → ℕ → Bool
may_call earlier a = nat_lt a (length earlier) && nat_lt (depth_at earlier a) calling_limit

abbrev pub may_lend : List Choice → Bool
may_lend earlier = nat_lt (count_by is_lending earlier) lending_limit

abbrev pub calls : List Choice → ℕ → Choice
calls earlier a = if may_call earlier a then record { body = Calls a; depth = depth_at earlier a + 1 } else adds a

-- the choice by the kind and the number that were drawn, behind earlier functions
abbrev pub chosen : List Choice → (kind number : ℕ) → Choice
chosen earlier kind a =
    if nat_eq kind 0 then adds a
    else if nat_eq kind 1 then record { body = Stores (a % 4); depth = 1 }
    else if nat_eq kind 2 then calls earlier a
    else if may_lend earlier then record { body = Lends; depth = 2 }
    else adds a

-- the choices of the first so many functions of a firmware
abbrev pub choices : (seed size count : ℕ) → List Choice
choices seed size zero = []
choices seed size (suc n) =
    let earlier : List Choice = choices seed size n in
    earlier ++ chosen earlier (draw seed (2 * n) 4) (draw seed (2 * n + 1) size) ∷ []

-- a body of a firmware of this size names what is there
abbrev pub IsWithin : (size : ℕ) → Body → Type 0
IsWithin size (Adds a) = a < size
IsWithin size (Stores a) = a < 4
IsWithin size (Calls a) = a < size
IsWithin size Lends = Unit {0}

abbrev pub AreWithin : (size : ℕ) → List Choice → Type 0
AreWithin size cs = All (λ c. IsWithin size c.body) cs
