-- Beyond the program's claim: only laws, proofs and functions inside the tool cite this file.
-- A compartment with six peripherals and one data region on a unit with four slots: covers are joined until three are left.
use Rattle.std.specs.Prelude.{◌≡◌, List, [], ◌∷◌, false, true, Some, None}
use Rattle.ir_model.specs.declared.object.ObjId.TheVariants.{Global, Periph}
use Rattle.ir_model.specs.Resolved.{Program}
use Rattle.plan_model.specs.declared.needs.Needs.{Needs}
use Rattle.plan_model.specs.declared.groups.Groups.{Groups}
use Rattle.plan_model.specs.declared.graph.Cover.{Cover}
use Rattle.plan_model.specs.declared.graph.Graph.{Graph}
use Rattle.plan_model.specs.Covers.{joined, with_cover}
use Rattle.plan_model.specs.InitialGraph.{initial_graph}
use Rattle.plan_model.specs.Merging.{next}
use Rattle.plan_model.specs.FinalGraph.{IsFinal, as_final}
use Rattle.plan_model.specs.Permission.{may_write}
use Rattle.example_plan.specs.Written.{need, global, window, data_of, data_region, cover}

-- the last peripheral is not used
abbrev pub program : Program
program =
    data_of (global 4 4 ∷ [])
    (window 0x40000000 1024
    ∷ window 0x40020000 64
    ∷ window 0x40000400 1024
    ∷ window 0x40001000 4096
    ∷ window 0x40010000 32
    ∷ window 0x40010100 32
    ∷ window 0x40010040 64
    ∷ [])

abbrev pub needs : Needs
needs =
    record {
      funcs = need (Global 0 ∷ Periph 0 ∷ Periph 1 ∷ Periph 2 ∷ Periph 3 ∷ Periph 4 ∷ Periph 5 ∷ []) [] (0 ∷ 1 ∷ 2 ∷ 3 ∷ 4 ∷ 5 ∷ []) [] ∷ [];
      sites = [];
      lendable = [];
      closed = false;
    }

abbrev pub groups : Groups
groups = record { of = 0 ∷ []; count = 1 }

abbrev pub graph_of : List Cover → Graph
graph_of cs =
    record {
      groups = groups;
      regions = data_region (0 ∷ []) (0 ∷ []) [] ∷ [];
      unwritten = [];
      covers = cs ∷ [];
      masks = 0 ∷ [];
      reads = 0 ∷ [];
    }

abbrev pub far : Cover
far = cover 0x40020000 64

-- the covers in order of their bases
abbrev pub first : Graph
first =
    graph_of
    (cover 0x40000000 1024
    ∷ cover 0x40000400 1024
    ∷ cover 0x40001000 4096
    ∷ cover 0x40010000 32
    ∷ cover 0x40010100 32
    ∷ far
    ∷ [])

-- the least joined cover has 512 bytes
abbrev pub second : Graph
second = graph_of (cover 0x40000000 1024 ∷ cover 0x40000400 1024 ∷ cover 0x40001000 4096 ∷ cover 0x40010000 512 ∷ far ∷ [])

abbrev pub third : Graph
third = graph_of (cover 0x40000000 2048 ∷ cover 0x40001000 4096 ∷ cover 0x40010000 512 ∷ far ∷ [])

abbrev pub fourth : Graph
fourth = graph_of (cover 0x40000000 8192 ∷ cover 0x40010000 512 ∷ far ∷ [])

pub record ComputesCovers : Type 0 where
  pub initial : initial_graph program needs groups ≡ first
  pub step : next program 4 first ≡ Some second
  pub second_step : next program 4 second ≡ Some third
  pub third_step : next program 4 third ≡ Some fourth
  pub no_further : next program 4 fourth ≡ None
  pub final : IsFinal program needs groups 4 (as_final fourth)
  -- a range that has to be aligned may be much larger than what it holds, and may hold others, which are dropped
  pub across : joined (cover 0x40007fe0 32) (cover 0x40008000 32) ≡ cover 0x40000000 0x10000
  pub dropped : with_cover (cover 0x40000000 32 ∷ cover 0x40000040 32 ∷ cover 0x40000080 32 ∷ cover 0x40001000 32 ∷ []) (joined (cover 0x40000000 32) (cover 0x40000080 32))
      ≡ cover 0x40000000 256 ∷ cover 0x40001000 32 ∷ []
  -- so a compartment may also reach a peripheral that it does not use
  pub beside : may_write program needs (as_final fourth) 0 (Periph 6) ≡ true
