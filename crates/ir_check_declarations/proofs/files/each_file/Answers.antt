use Rattle.std.proofs.Common.{◌≡◌, ◌+◌, subst, sym, drop, ◌++◌, ◌∷◌, [], map, refl, arith, List}
use Rattle.ir_model.specs.declared.firmware.FileDecl.{FileDecl}
use Rattle.ir_model.specs.Plain.{PlainFunc, func_of, file_of}
use Rattle.ir_model.specs.Typing.{file_checks, first_failing}
use Rattle.ir_check_declarations.specs.DeclarationParts.{file_part}
use Rattle.ir_check_scopes.proofs.Order.{first_told, stop_at, go_on}
use Rattle.ir_check_declarations.proofs.files.each_file.Goals as goal

pub returns-in_err-file : goal.returns-in_err-file
returns-in_err-file c =
    first_told (file_checks c.args.names.now c.args.seen.now (map file_of c.args.files.now)) c.from_residual.result c.in_err-file.field-0.0 c.from_residual.ensures.1
    (stop_at (λ (fs : List FileDecl). file_checks c.loop-declaration.names c.loop-declaration.seen (map file_of fs))
    (λ (fs : List FileDecl). file_checks (c.loop-declaration.names ++ c.declaration-item.result.name ∷ []) (c.loop-declaration.seen ++ map (λ (f : PlainFunc). f.name) (map func_of c.declaration-item.result.funcs)) (map file_of fs))
    (file_checks c.args.names.now c.args.seen.now (map file_of c.args.files.now)) c.args.files.now c.loop-declaration.declaration-index c.declaration-item.result (file_part c.loop-declaration.names c.loop-declaration.seen (file_of c.declaration-item.result)) c.in_err-file.field-0.0
    (omega arith) c.declaration-item.is (λ r. refl) c.loop-declaration.invariant c.in_err-file.ensures.finds)

pub loop-declaration-preserved : goal.loop-declaration-preserved
loop-declaration-preserved c =
    subst (λ n. first_failing (file_checks c.args.names.now c.args.seen.now (map file_of c.args.files.now)) ≡ first_failing (file_checks n c.file.new.seen (map file_of (drop (c.loop-declaration.declaration-index + 1) c.args.files.now)))) (sym c.in_ok-file.ensures.files)
    (subst (λ m. first_failing (file_checks c.args.names.now c.args.seen.now (map file_of c.args.files.now)) ≡ first_failing (file_checks (c.loop-declaration.names ++ c.declaration-item.result.name ∷ []) m (map file_of (drop (c.loop-declaration.declaration-index + 1) c.args.files.now)))) (sym c.in_ok-file.ensures.funcs)
    (go_on (λ (fs : List FileDecl). file_checks c.loop-declaration.names c.loop-declaration.seen (map file_of fs))
    (λ (fs : List FileDecl). file_checks (c.loop-declaration.names ++ c.declaration-item.result.name ∷ []) (c.loop-declaration.seen ++ map (λ (f : PlainFunc). f.name) (map func_of c.declaration-item.result.funcs)) (map file_of fs))
    (file_checks c.args.names.now c.args.seen.now (map file_of c.args.files.now)) c.args.files.now c.loop-declaration.declaration-index c.declaration-item.result (file_part c.loop-declaration.names c.loop-declaration.seen (file_of c.declaration-item.result))
    (omega arith) c.declaration-item.is (λ r. refl) c.loop-declaration.invariant c.in_ok-file.ensures.finds))
