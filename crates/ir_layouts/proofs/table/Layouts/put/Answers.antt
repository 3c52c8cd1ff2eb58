use Rattle.std.proofs.Common.{sym, map, subst, List, length, ◌∙◌, refl}
use Rattle.ir_model.specs.declared.firmware.StructDecl.{StructDecl}
use Rattle.ir_model.specs.Plain.{struct_of}
use Rattle.ir_layouts.specs.Tables.{IsLaid}
use Rattle.ir_layouts.proofs.Entries.{laid_push, laid_pop}
use Rattle.ir_layouts.proofs.table.Layouts.put.Goals as goal

pub invariant_of-self-2 : goal.invariant_of-self-2
invariant_of-self-2 c =
    laid_push c.self.inside.names c.put_name.new.names c.self.inside.structs.items c.put_name.new.structs.items c.args.next c.args.next.declaration.now.name c.self.invariant
    (subst (λ (x : List StructDecl). IsLaid (map struct_of x) c.args.next) (sym c.self.view_is) c.requires) refl
    (c.in_ok-put_name.ensures.all ∙ c.in_ok-push.ensures.items) c.in_ok-put_name.ensures.grows

pub invariant_of-self-in_err-put_name : goal.invariant_of-self-in_err-put_name
invariant_of-self-in_err-put_name c =
    laid_pop c.self.inside.names c.put_name.new.names c.self.inside.structs.items c.push.new.self.items c.put_name.new.structs.items c.args.next (length c.push.new.self.items) c.self.invariant
    c.in_ok-push.ensures.items refl c.in_err-put_name.ensures.rest c.in_err-put_name.ensures.kept
