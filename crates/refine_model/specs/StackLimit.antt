-- Within the stack limit: the room that the frames of a source run take on the stack of an image.
--
-- All compartments share one stack. A frame lies directly below its caller's; where a call goes by a crossing site, the
-- exception takes 32 bytes first, and the protection unit closes the stack by eighths, so that the callee's frame ends at
-- a whole number of eighths. A position is what is left of the stack below a frame, in bytes.
use Rattle.std.specs.Prelude.{ℕ, ◌+◌, ◌-◌, ◌*◌, ◌/◌, ◌≤◌, List, [], ◌∷◌, Option, Some, None}
use Rattle.ir_model.specs.Resolved.{Program, func_at}
use Rattle.ir_model.specs.State.{SourceState}
use Rattle.ir_laws.specs.Moves.{Where, wheres_of}
use Rattle.plan_model.specs.declared.needs.Needs.{Needs}
use Rattle.plan_model.specs.declared.groups.Groups.{Groups}
use Rattle.plan_model.specs.Crossing.{site_number}
use Rattle.plan_model.specs.Lending.{lend_count}
use Rattle.code_model.specs.FrameShape.{frame_size}

-- the bytes that the entry of an exception pushes: as many have to be left below each frame
abbrev pub exception_bytes : ℕ
exception_bytes = 32

-- the monitor keeps at most so many loans
abbrev pub loan_limit : ℕ
loan_limit = 32

module _ (p : Program) (n : Needs) (g : Groups) (stack : ℕ) where
  -- where a callee's frame ends, by the number of the crossing site at which it is called, if it is one, and by the position
  -- of its caller
  abbrev pub limit_by : (site : Option ℕ) → (position : ℕ) → ℕ
  limit_by None q = q
  limit_by (Some s) q = (q - exception_bytes) / (stack / 8) * (stack / 8)

  -- the crossing site at which the first of these frames waits, if it waits at one; below the frame of `main` there is none
  abbrev pub site_of : List Where → Option ℕ
  site_of [] = None
  site_of (w ∷ ws) = site_number n g w.func w.block w.place

  -- the position of the first of these frames: the stack's size, less all that they take
  abbrev pub position : List Where → ℕ
  position [] = stack
  position (w ∷ ws) = limit_by (site_of ws) (position ws) - frame_size (func_at p w.func)

  -- how many of these frames' locals are lent
  abbrev pub lent_locals : List Where → ℕ
  lent_locals [] = 0
  lent_locals (w ∷ ws) = lend_count n g w.func + lent_locals ws

  -- behind its entry the first of these frames leaves room for an exception (so no rounding gave 0), and it has not lent too
  -- much
  pub record HasRoom (w : Where) (ws : List Where) : Type 0 where
    pub space : frame_size (func_at p w.func) + exception_bytes ≤ limit_by (site_of ws) (position ws)
    pub loans : lent_locals (w ∷ ws) ≤ loan_limit

  abbrev pub HaveRoom : List Where → Type 0
  HaveRoom [] = Unit {0}
  HaveRoom (w ∷ ws) = HasRoom w ws × HaveRoom ws

  -- of one state
  abbrev pub IsWithinStack : SourceState → Type 0
  IsWithinStack s = HaveRoom (wheres_of s)
