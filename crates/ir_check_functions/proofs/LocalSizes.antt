-- The bytes of a function's locals.
use Rattle.std.proofs.Common.{◌≡◌, ℕ, ◌+◌, ◌<◌, List, map, take, get_or, length, sym, ap, ◌∙◌}
use Rattle.ir_model.specs.declared.firmware.Binding.{Binding}
use Rattle.ir_model.specs.Types.{type_of}
use Rattle.ir_model.specs.Plain.{binding_of}
use Rattle.ir_model.specs.Layout.{Known, shape, rounded_up}
use Rattle.ir_model.specs.Frames.{locals_size}
use Rattle.ir_model.proofs.Locals.{locals_last}
use Rattle.base_laws.proofs.Lists.{take_next}

pub more_size : (ks : List Known) (xs : List Binding) (i : ℕ) (x : Binding) (old new n : ℕ) → i < length xs → x ≡ get_or xs i x → old ≡ locals_size ks (map binding_of (take i xs))
    → n ≡ (shape ks (type_of x.ty)).size → new ≡ old + rounded_up n 4 → new ≡ locals_size ks (map binding_of (take (i + 1) xs))
more_size ks xs i x old new n l e h s g =
    g ∙ (ap (λ m. m + rounded_up n 4) h ∙ (ap (λ m. locals_size ks (map binding_of (take i xs)) + rounded_up m 4) s
    ∙ (sym (locals_last ks (take i xs) x) ∙ ap (λ ys. locals_size ks (map binding_of ys)) (sym (take_next xs i x l e)))))
