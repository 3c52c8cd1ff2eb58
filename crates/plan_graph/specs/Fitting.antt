-- Beyond the program's claim: only laws, proofs and functions inside the tool cite this file.
-- Covers and windows within the 32 bits of addresses.
use Rattle.std.specs.Prelude.{◌+◌, ◌<◌, ◌≤◌, ◌^◌, List}
use Rattle.std.specs.List.{All}
use Rattle.ir_model.specs.Resolved.{Program, NumberedWindow}
use Rattle.plan_model.specs.declared.graph.Cover.{Cover}
use Rattle.plan_model.specs.declared.graph.Graph.{Graph}

-- the first address and the end of a cover are within 32 bits
pub record CoverFits (c : Cover) : Type 0 where
  pub base : c.base < 2 ^ 32
  pub end : c.base + c.size ≤ 2 ^ 32

-- the covers of a graph are within 32 bits
abbrev pub Fits : Graph → Type 0
Fits g = All (λ (cs : List Cover). All CoverFits cs) g.covers

-- the first address and the end of a peripheral's window are within 32 bits
pub record WindowFits (w : NumberedWindow) : Type 0 where
  pub base : w.base < 2 ^ 32
  pub end : w.base + w.size ≤ 2 ^ 32

abbrev pub WindowsFit : Program → Type 0
WindowsFit p = All WindowFits p.periphs
