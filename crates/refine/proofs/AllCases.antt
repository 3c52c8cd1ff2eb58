-- All cases of a source step.
use Rattle.std.proofs.Common.{◌≡◌, ℕ, List, ◌∷◌, refl, inl}
use Rattle.machine_model.specs.State.{State}
use Rattle.machine_model.specs.RunningCode.{Context}
use Rattle.ir_model.specs.Types.{PlainType}
use Rattle.ir_model.specs.Resolved.{Here, Does, Ends, here, Const, Move, Bin, Cmp, Addr, FAddr, Elem, Field, Load, Store, Call, ICall, Jump, Branch, Ret}
use Rattle.ir_model.specs.State.{Frame, Memory, Running}
use Rattle.ir_laws.specs.Sets.{ObjectSets}
use Rattle.ir_laws.specs.Typed.{HereTyped}
use Rattle.ir_laws.specs.States.{StateFits}
use Rattle.monitor_model.specs.Block.{MonitorBlock}
use Rattle.refine.specs.Builds.{Build, func}
use Rattle.refine.specs.Serving.{CaseServes, CasesServe}
use Rattle.refine.proofs.Premises.{Premises}
use Rattle.refine.proofs.Steps.{Here as HereStands}
use Rattle.refine.proofs.Registers.{const_case, move_case, bin_case, cmp_case, addr_case, faddr_case, elem_case, field_case}
use Rattle.refine.proofs.Branches.{jump_case, branch_case}
use Rattle.refine.proofs.CallCases.{call_case, icall_case}
use Rattle.refine.proofs.Returns.{return_case}
use Rattle.refine.proofs.Loads.{load_case}
use Rattle.refine.proofs.Stores.{store_case}

module _ (k : Build) (Inv : MonitorBlock → Context → List ℕ → Type 0) (sizes : PlainType → ℕ) (S : ObjectSets) (w : Premises k Inv sizes S) (places : ℕ → ℕ) where
  by_here : (fr : Frame) (rest : List Frame) (m : Memory) (t : State) → HereStands k Inv sizes S w places fr rest m t → StateFits k.program sizes S (Running (fr ∷ rest) m) → (h : Here) → here k.program fr.func fr.block fr.place ≡ h → HereTyped k.program sizes (func k fr.func) h → CaseServes k Inv places fr rest m t h
  by_here fr rest m t st sf (Does (Const to v)) e ty = λ nf lies. inl (const_case k Inv sizes S w places fr rest m t st sf.0.0 to v ty e nf)
  by_here fr rest m t st sf (Does (Move to from)) e ty = λ nf lies. inl (move_case k Inv sizes S w places fr rest m t st sf.0.0 to from ty e nf)
  by_here fr rest m t st sf (Does (Bin op to a b)) e ty = λ nf lies. inl (bin_case k Inv sizes S w places fr rest m t st sf.0.0 op to a b ty e nf)
  by_here fr rest m t st sf (Does (Cmp op to a b)) e ty = λ nf lies. inl (cmp_case k Inv sizes S w places fr rest m t st sf.0.0 op to a b ty e nf)
  by_here fr rest m t st sf (Does (Addr to of)) e ty = λ nf lies. inl (addr_case k Inv sizes S w places fr rest m t st sf.0.0 to of ty e nf)
  by_here fr rest m t st sf (Does (FAddr to f)) e ty = λ nf lies. inl (faddr_case k Inv sizes S w places fr rest m t st sf.0.0 to f ty e nf)
  by_here fr rest m t st sf (Does (Elem to base index size)) e ty = λ nf lies. inl (elem_case k Inv sizes S w places fr rest m t st sf.0.0 to base index size ty e nf)
  by_here fr rest m t st sf (Does (Field to base offset)) e ty = λ nf lies. inl (field_case k Inv sizes S w places fr rest m t st sf.0.0 to base offset ty e nf)
  by_here fr rest m t st sf (Does (Load to from ty)) e typed = load_case k Inv sizes S w places fr rest m t st sf to from ty typed e
  by_here fr rest m t st sf (Does (Store to from ty)) e typed = store_case k Inv sizes S w places fr rest m t st sf to from ty typed e
  by_here fr rest m t st sf (Does (Call to h args)) e ty = call_case k Inv sizes S w places fr rest m t st sf.0.0 to h args ty e
  by_here fr rest m t st sf (Does (ICall to r args)) e ty = icall_case k Inv sizes S w places fr rest m t st sf.0.0 to r args ty e
  by_here fr rest m t st sf (Ends (Jump b)) e ty = λ nf lies. inl (jump_case k Inv sizes S w places fr rest m t st sf.0.0 b ty e nf)
  by_here fr rest m t st sf (Ends (Branch on a b)) e ty = λ nf lies. inl (branch_case k Inv sizes S w places fr rest m t st sf.0.0 on a b ty e nf)
  by_here fr rest m t st sf (Ends (Ret r)) e ty = return_case k Inv sizes S w places fr rest m t st sf.0 r ty e

  pub cases_serve : CasesServe k Inv places sizes S
  cases_serve fr rest m t st sf = by_here fr rest m t st sf (here k.program fr.func fr.block fr.place) refl ((w.typed.funcs fr.func).code fr.block fr.place)
