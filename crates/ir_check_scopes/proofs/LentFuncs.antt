-- The functions that a scope lends are those of its firmware.
use Rattle.std.proofs.Common.{◌≡◌, List, [], ◌∷◌, ◌++◌, map, flat_map, length, Bor, refl, sym, ap, ◌∙◌}
use Rattle.std.proofs.lemmas.List.{map-append, length-map}
use Rattle.ir_model.specs.declared.firmware.Func.{Func}
use Rattle.ir_model.specs.declared.firmware.FileDecl.{FileDecl}
use Rattle.ir_model.specs.declared.firmware.Firmware.{Firmware}
use Rattle.ir_model.specs.Plain.{PlainFile, PlainFunc, func_of, file_of, firmware_of, funcs_of, lent_funcs}
use Rattle.ir_check_scopes.specs.declared.scope.Scope.{Scope}
use Rattle.ir_check_scopes.specs.Scopes.{lent, declared_funcs}

plain_lent : (fs : List (Bor Func)) → lent_funcs fs ≡ map func_of (lent fs)
plain_lent [] = refl
plain_lent (f ∷ fs) = ap (λ gs. func_of f.now ∷ gs) (plain_lent fs)

plain_declared : (fs : List FileDecl) → map func_of (flat_map (λ (f : FileDecl). f.funcs) fs) ≡ flat_map (λ (f : PlainFile). f.funcs) (map file_of fs)
plain_declared [] = refl
plain_declared (f ∷ fs) = map-append func_of f.funcs (flat_map (λ (g : FileDecl). g.funcs) fs) ∙ ap (λ gs. map func_of f.funcs ++ gs) (plain_declared fs)

pub lent_plain : (w : Firmware) (fs : List (Bor Func)) → lent fs ≡ declared_funcs w → lent_funcs fs ≡ funcs_of (firmware_of w)
lent_plain w fs e = plain_lent fs ∙ (ap (map func_of) e ∙ plain_declared w.files)

pub all_lent : (s : Scope) → lent_funcs s.bodies.items ≡ funcs_of (firmware_of s.firmware.now)
all_lent s = lent_plain s.firmware.now s.bodies.items s.all_bodies

-- there are as many as names of them
pub funcs_counted : (s : Scope) → length s.bodies.items ≡ length s.funcs
funcs_counted s =
    sym (ap length s.all_funcs ∙ (length-map (funcs_of (firmware_of s.firmware.now)) (λ (f : PlainFunc). f.name)
    ∙ (ap length (sym (all_lent s)) ∙ length-map s.bodies.items (λ (f : Bor Func). func_of f.now))))
