use Rattle.std.proofs.Common.{◌≡◌, ◌∙◌, ap, map, flat_map, refl, List, [], ◌∷◌, Bor}
use Rattle.ir_model.specs.declared.firmware.Func.{Func}
use Rattle.ir_model.specs.declared.firmware.FileDecl.{FileDecl}
use Rattle.ir_model.specs.Plain.{PlainFunc, PlainGlobal, func_of, global_of, lent_funcs}
use Rattle.ir_check_scopes.specs.Scopes.{lent, declared_funcs}
use Rattle.ir_check_scopes.proofs.LentFuncs.{lent_plain}
use Rattle.ir_check_declarations.proofs.tables.names_below.Goals as goal

names_of_lent : (fs : List (Bor Func)) → map (λ (f : Bor Func). (func_of f.now).name) fs ≡ map (λ (f : PlainFunc). f.name) (lent_funcs fs)
names_of_lent [] = refl
names_of_lent (f ∷ fs) = ap (λ ns. (func_of f.now).name ∷ ns) (names_of_lent fs)

pub returns-clause-bodies : goal.returns-clause-bodies
returns-clause-bodies c = c.in_ok-bodies.ensures ∙ ap (flat_map (λ (f : FileDecl). f.funcs)) c.as_slice.ensures

pub returns-clause-funcs : goal.returns-clause-funcs
returns-clause-funcs c =
    let bodies : lent c.in_ok-bodies.bodies.items ≡ declared_funcs c.args.firmware.now = c.in_ok-bodies.ensures ∙ ap (flat_map (λ (f : FileDecl). f.funcs)) c.as_slice.ensures in
    c.in_ok-funcs.ensures ∙ (names_of_lent c.as_slice-2.result.now ∙ (ap (λ fs. map (λ (f : PlainFunc). f.name) (lent_funcs fs)) c.as_slice-2.ensures.value
    ∙ ap (map (λ (f : PlainFunc). f.name)) (lent_plain c.args.firmware.now c.in_ok-bodies.bodies.items bodies)))

pub returns-clause-globals : goal.returns-clause-globals
returns-clause-globals c = c.in_ok-globals.ensures ∙ ap (λ gs. map (λ (g : PlainGlobal). g.name) (map global_of gs)) c.as_slice-3.ensures
