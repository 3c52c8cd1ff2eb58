-- The functions of calls are there.
use Rattle.std.proofs.Common.{ℕ, ◌<◌, length, sym, subst}
use Rattle.ir_model.specs.Types.{PlainType}
use Rattle.ir_model.specs.Resolved.{Program, Const, Move, Bin, Cmp, Addr, FAddr, Elem, Field, Load, Store, Call, ICall, Here, Does, Ends, func_at, here}
use Rattle.ir_model.specs.State.{FunctionObject}
use Rattle.ir_laws.specs.Sets.{ObjectSets, Register, CallsAt}
use Rattle.ir_laws.specs.Typed.{HereTyped}
use Rattle.plan_model.specs.Calls.{IsSiteOf, call_places}
use Rattle.need_laws.specs.Checked.{AreSets}
use Rattle.need_laws.proofs.Listed.{calls_stand}
use Rattle.aces_stack.specs.StackLaws.{NeedsHaveFunctions}
use Rattle.need_lists.proofs.Members.{comes_of}

module _ (p : Program) (sizes : PlainType → ℕ) (S : ObjectSets) (sets : AreSets p S) where
  target_there : (f h : ℕ) (i : Here) → HereTyped p sizes (func_at p f) i → CallsAt p S f i h → h < length p.funcs
  target_there f h (Does (Call to g args)) t c = subst (λ (k : ℕ). k < length p.funcs) (sym c) t.0
  target_there f h (Does (ICall to r args)) t c = sets.there (Register f r) (FunctionObject h) c.0
  target_there f h (Does (Const to n)) t c = absurd c
  target_there f h (Does (Move to from)) t c = absurd c
  target_there f h (Does (Bin op to a b)) t c = absurd c
  target_there f h (Does (Cmp op to a b)) t c = absurd c
  target_there f h (Does (Addr to of)) t c = absurd c
  target_there f h (Does (FAddr to g)) t c = absurd c
  target_there f h (Does (Elem to base j n)) t c = absurd c
  target_there f h (Does (Field to base n)) t c = absurd c
  target_there f h (Does (Load to from u)) t c = absurd c
  target_there f h (Does (Store to from u)) t c = absurd c
  target_there f h (Ends e) t c = absurd c

pub needs_have_functions : NeedsHaveFunctions
needs_have_functions p sizes S closed n typed sets needs s h listed target =
    let c = comes_of (IsSiteOf p S) s (call_places p) n.sites needs.sites listed in
    let r = c.related in
    let calls = r.targets.each h target in
    let f = calls_stand S p c.other.func c.other.block c.other.inst h calls in (
      subst (λ (k : ℕ). k < length p.funcs) (sym r.func) f.func,
      target_there p sizes S sets c.other.func h (here p c.other.func c.other.block c.other.inst) ((typed.funcs c.other.func).code c.other.block c.other.inst) calls,
    )
