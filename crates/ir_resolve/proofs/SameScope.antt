-- Names with their numbers are those of the firmware.
use Rattle.std.proofs.Common.{◌≡◌, ℕ, List, [], ◌∷◌, map, refl, ap, ◌∙◌, Bor}
use Rattle.ir_model.specs.declared.firmware.Func.{Func}
use Rattle.ir_model.specs.Plain.{PlainFunc, func_of}
use Rattle.ir_model.specs.Layout.{Known}
use Rattle.ir_model.specs.Resolve.{Scope}

pub func_names : (fs : List (Bor Func)) → map (λ f. (func_of f.now).name) fs ≡ map (λ (f : PlainFunc). f.name) (map (λ f. func_of f.now) fs)
func_names [] = refl
func_names (f ∷ fs) = ap (λ ns. f.now.name ∷ ns) (func_names fs)

pub same_scope : (k l : List Known) (a b c d e f : List (List ℕ)) → k ≡ l → a ≡ b → c ≡ d → e ≡ f
    → (let s : Scope = record { known = k; globals = a; periphs = c; funcs = e } in s) ≡ (let s : Scope = record { known = l; globals = b; periphs = d; funcs = f } in s)
same_scope k l a b c d e f p q r s =
    ap (λ z. let t : Scope = record { known = z; globals = a; periphs = c; funcs = e } in t) p
    ∙ (ap (λ z. let t : Scope = record { known = l; globals = z; periphs = c; funcs = e } in t) q
    ∙ (ap (λ z. let t : Scope = record { known = l; globals = b; periphs = z; funcs = e } in t) r
    ∙ ap (λ z. let t : Scope = record { known = l; globals = b; periphs = d; funcs = z } in t) s))
