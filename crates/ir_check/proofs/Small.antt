-- The functions of a firmware within the limits are small.
use Rattle.std.proofs.Common.{length-append, ◌≡◌, ◌≤◌, List, [], ◌∷◌, length, map, subst, sym, arith, Bor}
use Rattle.std.proofs.lemmas.List.{length-map}
use Rattle.std.proofs.lemmas.List.Elements.{All-nil, All-cons}
use Rattle.std.specs.List.{All}
use Rattle.ir_model.specs.declared.firmware.Block.{Block}
use Rattle.ir_model.specs.declared.firmware.Func.{Func}
use Rattle.ir_model.specs.Plain.{PlainFirmware, func_of, funcs_of, binding_of, lent_funcs}
use Rattle.ir_model.specs.Canonical.{IsWithinLimits}
use Rattle.base_laws.specs.Lists.{Each}
use Rattle.ir_model.specs.TextLimits.{instruction_limit}
use Rattle.ir_model.specs.FewItems.{HasFewItems}
use Rattle.ir_model.proofs.Limits.{Limited, limited, insts_in}
use Rattle.ir_check_scopes.specs.Scopes.{AreSmall}

few_insts : (bs : List Block) → insts_in bs ≤ instruction_limit → All (λ (b : Block). length b.insts ≤ instruction_limit) bs
few_insts [] h = All-nil (λ (b : Block). length b.insts ≤ instruction_limit)
few_insts (b ∷ bs) h = All-cons (λ (b : Block). length b.insts ≤ instruction_limit) b bs (omega arith) (few_insts bs (omega arith))

small_func : (f : Func) → Limited (func_of f) → HasFewItems f
small_func f h =
    let a = length-append (map binding_of f.params) (map binding_of f.regs) in
    let p = length-map f.params binding_of in
    let r = length-map f.regs binding_of in
    let l = length-map f.locals binding_of in
    let h0 = h.bindings.registers in
    let h1 = h.bindings.locals in
    record { registers = omega arith; locals = omega arith; insts = few_insts f.blocks h.insts }

small_funcs : (fs : List (Bor Func)) → Each Limited (lent_funcs fs) → AreSmall fs
small_funcs [] h = All-nil (λ (f : Bor Func). HasFewItems f.now)
small_funcs (f ∷ fs) h = All-cons (λ (f : Bor Func). HasFewItems f.now) f fs (small_func f.now h.0) (small_funcs fs h.1)

pub are_small : (w : PlainFirmware) (fs : List (Bor Func)) → IsWithinLimits w → lent_funcs fs ≡ funcs_of w → AreSmall fs
are_small w fs h e = small_funcs fs (subst (Each Limited) (sym e) (limited w h))
