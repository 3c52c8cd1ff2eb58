-- Which objects a compartment may write and read.
use Rattle.std.specs.Prelude.{ℕ, Bool, false, ◌&&◌, [], get_or, nat_eq, Option, Some, None, position}
use Rattle.std.specs.List.{list_any}
use Rattle.std.specs.Int.{bit_at}
use Rattle.ir_model.specs.declared.object.ObjId.{ObjId}
use Rattle.ir_model.specs.declared.object.ObjId.TheVariants.{Global, Periph, Local, Func}
use Rattle.ir_model.specs.Resolved.{Program}
use Rattle.plan_model.specs.declared.needs.Needs.{Needs}
use Rattle.plan_model.specs.declared.graph.DataRegion.{DataRegion}
use Rattle.plan_model.specs.declared.graph.Final.{Final}
use Rattle.plan_model.specs.Lists.{has}
use Rattle.plan_model.specs.Lending.{is_local}
use Rattle.plan_model.specs.InitialGraph.{cover_of}
use Rattle.plan_model.specs.Regions.{is_user}
use Rattle.plan_model.specs.Covers.{is_inside}

-- the bit of a lendable local in a mask, if it is one
abbrev pub is_set : (mask : ℕ) → Option ℕ → Bool
is_set mask None = false
is_set mask (Some i) = nat_eq (bit_at mask i) 1

-- a lendable local whose bit is set
abbrev pub is_in_mask : Needs → (mask func local : ℕ) → Bool
is_in_mask n mask f l = is_set mask (position (is_local f l) n.lendable)

-- a declared peripheral inside one of the compartment's covers
abbrev pub is_covered : Program → Final → (compartment periph : ℕ) → Bool
is_covered p f c q = list_any (is_inside (cover_of p q)) (get_or f.covers c [])

-- what a compartment may write: a global whose data region has it among its writers, a peripheral that one of its covers contains,
-- and a lendable local whose bit is set in its mask
unfoldable pub may_write : Program → Needs → Final → (compartment : ℕ) → ObjId → Bool
may_write p n f c (Global x) = list_any (λ (r : DataRegion). has r.writers c && has r.globals x) f.regions
may_write p n f c (Periph q) = is_covered p f c q
may_write p n f c (Local g l) = is_in_mask n (get_or f.masks c 0) g l
may_write p n f c (Func g) = false

-- what a compartment may read on a closed board: a global of a data region that it uses, a peripheral that it may write, and a
-- lendable local whose bit is set in its read mask; beside these objects it may read all of flash
unfoldable pub may_read : Program → Needs → Final → (compartment : ℕ) → ObjId → Bool
may_read p n f c (Global x) = list_any (λ (r : DataRegion). is_user c r && has r.globals x) f.regions
may_read p n f c (Periph q) = is_covered p f c q
may_read p n f c (Local g l) = is_in_mask n (get_or f.reads c 0) g l
may_read p n f c (Func g) = false
