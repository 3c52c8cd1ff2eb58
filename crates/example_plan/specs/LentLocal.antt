-- Beyond the program's claim: only laws, proofs and functions inside the tool cite this file.
-- A local of `main` that is lent through one function to another, which writes it: the least sets of objects, the needs by
-- them, and what they give. The three functions are in a file each.
use Rattle.std.specs.Prelude.{◌≡◌, ℕ, zero, suc, List, [], ◌∷◌, Bool, true, false, Some, None}
use Rattle.ir_model.specs.declared.object.ObjId.TheVariants.{Periph, Local}
use Rattle.ir_model.specs.Types.{U32, Pointer, none, more, nothing}
use Rattle.ir_model.specs.Layout.{one_cell}
use Rattle.ir_model.specs.Resolved.{Program, NumberedFunc, Const, Addr, Load, Store, Call, TheLocal, ThePeriph, Ret}
use Rattle.ir_model.specs.State.{PeriphObject, LocalObject}
use Rattle.ir_laws.specs.Sets.{ObjectSets, Register}
use Rattle.plan_model.specs.declared.needs.Needs.{Needs}
use Rattle.plan_model.specs.declared.groups.Groups.{Groups}
use Rattle.plan_model.specs.declared.graph.Graph.{Graph}
use Rattle.plan_model.specs.PointsTo.{IsLeast}
use Rattle.plan_model.specs.Needs.{AreNeeds}
use Rattle.plan_model.specs.Crossing.{site_numbers_in}
use Rattle.plan_model.specs.Lending.{lend_numbers_in, lend_number, lend_count}
use Rattle.plan_model.specs.InitialGraph.{initial_graph}
use Rattle.plan_model.specs.FinalGraph.{IsFinal, as_final}
use Rattle.plan_model.specs.Permission.{may_write, may_read}
use Rattle.plan_model.specs.Slots.{lend_mask}
use Rattle.plan_model.specs.TableSize.{table_bytes}
use Rattle.example_plan.specs.Written.{need, site, window, cover}

-- registers p, t and v: p is the address of the local, t that of the timer
abbrev pub main : NumberedFunc
main =
    record {
      params = none;
      outcome = nothing;
      regs = Pointer U32 ∷ Pointer U32 ∷ U32 ∷ [];
      locals = one_cell 4 U32 ∷ [];
      blocks = record {
        insts = Addr 0 (TheLocal 0) ∷ Call None 1 (0 ∷ []) ∷ Load 2 0 U32 ∷ Addr 1 (ThePeriph 0) ∷ Store 1 2 U32 ∷ [];
        term = Ret None;
      } ∷ [];
    }

-- hands its pointer on
abbrev pub between : NumberedFunc
between =
    record {
      params = more (Pointer U32) none;
      outcome = nothing;
      regs = Pointer U32 ∷ [];
      locals = [];
      blocks = record { insts = Call None 2 (0 ∷ []) ∷ []; term = Ret None } ∷ [];
    }

-- stores 42 through its pointer
abbrev pub writer : NumberedFunc
writer =
    record {
      params = more (Pointer U32) none;
      outcome = nothing;
      regs = Pointer U32 ∷ U32 ∷ [];
      locals = [];
      blocks = record { insts = Const 1 42 ∷ Store 0 1 U32 ∷ []; term = Ret None } ∷ [];
    }

abbrev pub program : Program
program =
    record {
      globals = [];
      periphs = window 0x40010000 1024 ∷ [];
      funcs = main ∷ between ∷ writer ∷ [];
      files = 0 ∷ 1 ∷ 2 ∷ [];
      main = 0;
    }

-- the pointers of all three functions have the local, and t the timer; nothing else has an object
abbrev pub sets : ObjectSets
sets (Register zero zero) (LocalObject zero zero) = true
sets (Register zero (suc zero)) (PeriphObject zero) = true
sets (Register (suc zero) zero) (LocalObject zero zero) = true
sets (Register (suc (suc zero)) zero) (LocalObject zero zero) = true
sets _ _ = false

abbrev pub needs : (closed : Bool) → Needs
needs closed =
    record {
      funcs = need (Periph 0 ∷ []) (Local 0 0 ∷ []) (0 ∷ []) (1 ∷ [])
          ∷ need [] [] [] (2 ∷ [])
          ∷ need (Local 0 0 ∷ []) [] [] []
          ∷ [];
      sites = site 0 0 1 (1 ∷ []) ∷ site 1 0 0 (2 ∷ []) ∷ [];
      lendable = (0, 0) ∷ [];
      closed = closed;
    }

abbrev pub HasLeastSets : Type 0
HasLeastSets = IsLeast program sets

pub record HasNeeds : Type 0 where
  pub open_board : AreNeeds program sets false (needs false)
  pub closed_board : AreNeeds program sets true (needs true)

-- ---- what the needs give

-- each function is in the compartment of its file
abbrev pub three_files : Groups
three_files = record { of = 0 ∷ 1 ∷ 2 ∷ []; count = 3 }

-- all functions are in one compartment
abbrev pub alone : Groups
alone = record { of = 0 ∷ 0 ∷ 0 ∷ []; count = 1 }

abbrev pub graph : (reads : List ℕ) → Graph
graph rs =
    record {
      groups = three_files;
      regions = [];
      unwritten = [];
      covers = (cover 0x40010000 1024 ∷ []) ∷ [] ∷ [] ∷ [];
      masks = 0 ∷ 0 ∷ 1 ∷ [];
      reads = rs;
    }

pub record ComputesLoans : Type 0 where
  -- only the last function's compartment may write the local; on a closed board that of `main` has it in its read mask too
  pub first : initial_graph program (needs false) three_files ≡ graph (0 ∷ 0 ∷ 0 ∷ [])
  pub closed : initial_graph program (needs true) three_files ≡ graph (1 ∷ 0 ∷ 1 ∷ [])
  pub final : IsFinal program (needs true) three_files 4 (as_final (graph (1 ∷ 0 ∷ 1 ∷ [])))
  pub writer_writes : may_write program (needs false) (as_final (graph (0 ∷ 0 ∷ 0 ∷ []))) 2 (Local 0 0) ≡ true
  pub main_does_not : may_write program (needs false) (as_final (graph (0 ∷ 0 ∷ 0 ∷ []))) 0 (Local 0 0) ≡ false
  pub main_reads : may_read program (needs true) (as_final (graph (1 ∷ 0 ∷ 1 ∷ []))) 0 (Local 0 0) ≡ true
  pub numbers : lend_numbers_in program (needs false) three_files 0 ≡ Some 0 ∷ []
  pub count : lend_count (needs false) three_files 0 ≡ 1
  pub crossings : site_numbers_in (needs false) three_files 1 ≡ Some 1 ∷ []
  pub mask : lend_mask (as_final (graph (0 ∷ 0 ∷ 0 ∷ []))) 2 ≡ 1
  pub tables : table_bytes program (needs false) (as_final (graph (0 ∷ 0 ∷ 0 ∷ []))) 4 ≡ 4316
  -- in one compartment nothing is lent, and no call crosses
  pub not_lent : lend_number (needs false) alone 0 0 ≡ None
  pub no_crossing : site_numbers_in (needs false) alone 1 ≡ None ∷ []
  pub no_mask : lend_mask (as_final (initial_graph program (needs false) alone)) 0 ≡ 0
