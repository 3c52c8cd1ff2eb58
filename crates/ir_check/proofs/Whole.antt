-- All checks in two parts.
use Rattle.std.proofs.Common.{◌≡◌, ◌∙◌, ap, sym, subst, [], ◌∷◌, map, ◌++◌, None, Result, Ok, Err, append_assoc}
use Rattle.ir_model.specs.declared.check.CheckKind.TheVariants.{NoMain}
use Rattle.ir_model.specs.declared.check.CheckPlace.TheVariants as place
use Rattle.ir_model.specs.declared.firmware.Peripheral.{Peripheral}
use Rattle.ir_model.specs.Plain.{PlainGlobal, PlainFirmware, funcs_of}
use Rattle.ir_model.specs.Typing.{Checks, check, checks, first_failing, globals_checks, file_checks, funcs_checks, has_main, declared_checks}
use Rattle.ir_check_scopes.specs.declared.fault.CheckFault.{CheckFault}
use Rattle.ir_check_scopes.specs.Found.{Refused, Finds}
use Rattle.ir_check.specs.Parts.{code_part}
use Rattle.ir_check_scopes.proofs.Order.{refused_left, refused_right, first_append}

regroup : (a g f u m : Checks) → (((a ++ g) ++ f) ++ u) ++ m ≡ a ++ (((g ++ f) ++ u) ++ m)
regroup a g f u m =
    ap (λ x. x ++ m) (ap (λ x. x ++ u) (append_assoc a g f) ∙ append_assoc a (g ++ f) u) ∙ append_assoc a ((g ++ f) ++ u) m

in_parts : (w : PlainFirmware) → checks w ≡ declared_checks w ++ code_part w
unfolding checks
in_parts w =
    regroup (declared_checks w) (globals_checks w (map (λ (q : Peripheral). q.name) w.periphs) w.globals)
    (file_checks [] (map (λ (q : Peripheral). q.name) w.periphs ++ map (λ (g : PlainGlobal). g.name) w.globals) w.files)
    (funcs_checks w (funcs_of w)) (check (has_main w) NoMain place.Whole ∷ [])

pub all_left : (w : PlainFirmware) (e : CheckFault) → Refused (declared_checks w) e → Refused (checks w) e
all_left w e h = subst (λ cs. Refused cs e) (sym (in_parts w)) (refused_left (declared_checks w) (code_part w) e h)

all_right : (w v : PlainFirmware) (e : CheckFault) → v ≡ w → first_failing (declared_checks w) ≡ None → Refused (code_part v) e → Refused (checks w) e
all_right w v e q n h = subst (λ cs. Refused cs e) (sym (in_parts w)) (refused_right (declared_checks w) (code_part w) e n (subst (λ x. Refused (code_part x) e) q h))

all_pass : (w v : PlainFirmware) → v ≡ w → first_failing (declared_checks w) ≡ None → first_failing (code_part v) ≡ None → first_failing (checks w) ≡ None
all_pass w v q n h = ap first_failing (in_parts w) ∙ (first_append (declared_checks w) (code_part w) n ∙ subst (λ x. first_failing (code_part x) ≡ None) q h)

-- what the checks of the code find behind declarations without a fault, all checks find
pub all_behind : {T : Type 0} (w v : PlainFirmware) (r : Result T CheckFault) → v ≡ w → first_failing (declared_checks w) ≡ None
    → Finds (code_part v) r → Finds (checks w) r
all_behind w v (Ok x) q n h = all_pass w v q n h
all_behind w v (Err e) q n h = all_right w v e q n h
