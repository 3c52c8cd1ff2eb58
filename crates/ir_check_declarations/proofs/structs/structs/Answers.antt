use Rattle.std.proofs.Common.{◌≡◌, ◌∙◌, ◌+◌, ap, subst, sym, take, drop, ◌++◌, ◌∷◌, [], map, refl, arith, List, None}
use Rattle.ir_model.specs.declared.firmware.StructDecl.{StructDecl}
use Rattle.ir_model.specs.Plain.{struct_of}
use Rattle.ir_model.specs.Typing.{struct_checks, structs_checks, first_failing}
use Rattle.ir_check_scopes.specs.Found.{Refused}
use Rattle.ir_check_scopes.proofs.Order.{first_told, stop_at, go_on}
use Rattle.ir_check_declarations.proofs.StructSteps.{more_structs}
use Rattle.ir_check_declarations.proofs.structs.structs.Goals as goal
use Rattle.base_laws.proofs.Lists.{take_next}

pub returns-in_err-structure-clause-finds : goal.returns-in_err-structure-clause-finds
returns-in_err-structure-clause-finds c =
    let finds : Refused (struct_checks c.args.declared.now (map struct_of (take c.loop-declaration.declaration-index c.args.structs.now)) (struct_of c.declaration-item.result)) c.in_err-structure.field-0.0 =
    subst (λ (ss : List StructDecl). Refused (struct_checks c.args.declared.now (map struct_of ss) (struct_of c.declaration-item.result)) c.in_err-structure.field-0.0) c.loop-declaration.invariant.all c.in_err-structure.ensures.finds in
    first_told (structs_checks c.args.declared.now [] (map struct_of c.args.structs.now)) c.from_residual.result c.in_err-structure.field-0.0 c.from_residual.ensures.1
    (stop_at (λ (ss : List StructDecl). structs_checks c.args.declared.now (map struct_of (take c.loop-declaration.declaration-index c.args.structs.now)) (map struct_of ss))
    (λ (ss : List StructDecl). structs_checks c.args.declared.now ((map struct_of (take c.loop-declaration.declaration-index c.args.structs.now)) ++ struct_of c.declaration-item.result ∷ []) (map struct_of ss))
    (structs_checks c.args.declared.now [] (map struct_of c.args.structs.now)) (c.args.structs.now) c.loop-declaration.declaration-index c.declaration-item.result
    (struct_checks c.args.declared.now (map struct_of (take c.loop-declaration.declaration-index c.args.structs.now)) (struct_of c.declaration-item.result)) c.in_err-structure.field-0.0
    (omega arith) c.declaration-item.is (λ r. refl) c.loop-declaration.invariant.left finds)

pub loop-declaration-preserved : goal.loop-declaration-preserved
loop-declaration-preserved c =
    let finds : first_failing (struct_checks c.args.declared.now (map struct_of (take c.loop-declaration.declaration-index c.args.structs.now)) (struct_of c.declaration-item.result)) ≡ None =
    subst (λ (ss : List StructDecl). first_failing (struct_checks c.args.declared.now (map struct_of ss) (struct_of c.declaration-item.result)) ≡ None) c.loop-declaration.invariant.all c.in_ok-structure.ensures.finds in
    let more : map struct_of (take (c.loop-declaration.declaration-index + 1) c.args.structs.now) ≡ (map struct_of (take c.loop-declaration.declaration-index c.args.structs.now)) ++ struct_of c.declaration-item.result ∷ [] =
    more_structs c.args.structs.now c.loop-declaration.declaration-index c.declaration-item.result (omega arith) c.declaration-item.is in
    record {
      left = subst (λ n. first_failing (structs_checks c.args.declared.now [] (map struct_of c.args.structs.now)) ≡ first_failing (structs_checks c.args.declared.now n (map struct_of (drop (c.loop-declaration.declaration-index + 1) c.args.structs.now)))) (sym more)
          (go_on (λ (ss : List StructDecl). structs_checks c.args.declared.now (map struct_of (take c.loop-declaration.declaration-index c.args.structs.now)) (map struct_of ss))
          (λ (ss : List StructDecl). structs_checks c.args.declared.now ((map struct_of (take c.loop-declaration.declaration-index c.args.structs.now)) ++ struct_of c.declaration-item.result ∷ []) (map struct_of ss))
          (structs_checks c.args.declared.now [] (map struct_of c.args.structs.now)) (c.args.structs.now) c.loop-declaration.declaration-index c.declaration-item.result
          (struct_checks c.args.declared.now (map struct_of (take c.loop-declaration.declaration-index c.args.structs.now)) (struct_of c.declaration-item.result))
          (omega arith) c.declaration-item.is (λ r. refl) c.loop-declaration.invariant.left finds);
      all = c.in_ok-structure.ensures.grows ∙ (ap (λ (ss : List StructDecl). ss ++ c.declaration-item.result ∷ []) c.loop-declaration.invariant.all
          ∙ sym (take_next c.args.structs.now c.loop-declaration.declaration-index c.declaration-item.result (omega arith) c.declaration-item.is));
    }
