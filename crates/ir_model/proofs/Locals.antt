-- The bytes of locals, one local more.
use Rattle.std.proofs.Common.{◌≡◌, ℕ, ◌+◌, List, [], ◌∷◌, ◌++◌, map, sym, ap, ◌∙◌, arith, add_assoc}
use Rattle.ir_model.specs.declared.firmware.Binding.{Binding}
use Rattle.ir_model.specs.Plain.{binding_of}
use Rattle.ir_model.specs.Layout.{Known}
use Rattle.ir_model.specs.Frames.{local_size, locals_size}

nothing_more : (n : ℕ) → n + 0 ≡ 0 + n
nothing_more n = omega arith

pub locals_last : (ks : List Known) (xs : List Binding) (x : Binding) → locals_size ks (map binding_of (xs ++ x ∷ [])) ≡ locals_size ks (map binding_of xs) + local_size ks (binding_of x)
locals_last ks [] x = nothing_more (local_size ks (binding_of x))
locals_last ks (y ∷ xs) x =
    ap (λ n. local_size ks (binding_of y) + n) (locals_last ks xs x)
    ∙ sym (add_assoc (local_size ks (binding_of y)) (locals_size ks (map binding_of xs)) (local_size ks (binding_of x)))
