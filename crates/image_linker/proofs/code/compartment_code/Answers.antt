use Rattle.std.proofs.Common.{◌≡◌, ℕ, List, length, take, IfOk, ap, ◌∙◌, subst, arith}
use Rattle.std.proofs.lemmas.List.{take_all}
use Rattle.machine_thumb_asm.specs.Assembly.{Assembly, AreItems}
use Rattle.machine_thumb_asm.specs.Finished.{assembled}
use Rattle.code_model.specs.CompartmentCode.{members_from}
use Rattle.image_linker.specs.Standing.{standing, first_members, bytes_in}
use Rattle.image_linker.proofs.Standing.{standing_put}
use Rattle.image_linker.proofs.code.compartment_code.Goals as goal

pub finished-requires : goal.finished-requires
finished-requires c =
    let m = c.args.making.now in
    let x = c.args.compartment in
    let a = c.put_functions.new.asm in
    standing_put m x (first_members m x (length m.compartments.now)) a c.in_ok-put_functions.ensures
    (subst (λ (y : Assembly). AreItems (length y.places) y.items) c.asm.view_is c.asm.invariant.1.items)

pub returns : goal.returns
returns c =
    let m = c.args.making.now in
    let x = c.args.compartment in
    let ds = m.compartments.now in
    let whole : take (length ds) ds ≡ ds = take_all (length ds) ds (omega arith) in
    let is : assembled c.put_functions.new.asm ≡ bytes_in m x =
    ap assembled c.in_ok-put_functions.ensures ∙ ap (λ ys. assembled (standing m x (members_from 0 ys x))) whole in
    subst (λ (z : List ℕ). IfOk c.finished.result (λ bytes. bytes.items ≡ z)) is c.finished.ensures
