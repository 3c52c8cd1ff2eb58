-- Parts of code among others, and their bytes.
use Rattle.std.proofs.Common.{◌≡◌, ℕ, suc, ◌+◌, ◌<◌, List, [], ◌∷◌, ◌++◌, length, cond, nat_eq, Option, ap, sym, ◌∙◌, subst, append_assoc, length-append, arith}
use Rattle.std.specs.Prelude.{slice_index}
use Rattle.std.proofs.Math.ListN.{get_or-append}
use Rattle.std.proofs.lemmas.List.{get_or-append-add}
use Rattle.machine_thumb_asm.specs.declared.item.Item.{Item}
use Rattle.machine_thumb_asm.specs.Assembly.{size_of, total}
use Rattle.machine_thumb_asm.specs.Finished.{bytes_at, bytes_from}
use Rattle.machine_thumb_asm.proofs.Decoded.{total_bytes}
use Rattle.machine_devices.specs.declared.image.Image.{Image}
use Rattle.code_model.specs.CompartmentCode.{members_from}
use Rattle.code_model.proofs.Members.{in_front}
use Rattle.image_symbols.specs.Standing.{Has}

-- ---- members behind others

pub members_append : (n : ℕ) (xs ys : List ℕ) (c : ℕ) → members_from n (xs ++ ys) c ≡ members_from n xs c ++ members_from (n + length xs) ys c
members_append n [] ys c = ap (λ m. members_from m ys c) (let e : n ≡ n + 0 = omega arith in e)
members_append n (x ∷ xs) ys c =
    let rest = members_from (suc n) xs c in
    let e : suc n + length xs ≡ n + suc (length xs) = omega arith in
    ap (λ ms. cond (nat_eq x c) (n ∷ ms) ms) (members_append (suc n) xs ys c ∙ ap (λ m. rest ++ members_from m ys c) e)
    ∙ in_front (nat_eq x c) n rest (members_from (n + suc (length xs)) ys c)

-- ---- bytes

pub bytes_append : (ls : List (Option ℕ)) (at : ℕ) (xs ys : List Item) → bytes_from ls at (xs ++ ys) ≡ bytes_from ls at xs ++ bytes_from ls (at + total xs) ys
bytes_append ls at [] ys = ap (λ m. bytes_from ls m ys) (let e : at ≡ at + 0 = omega arith in e)
bytes_append ls at (x ∷ xs) ys =
    let e : at + size_of x + total xs ≡ at + (size_of x + total xs) = omega arith in
    ap (λ bs. bytes_at ls at x ++ bs) (bytes_append ls (at + size_of x) xs ys ∙ ap (λ m. bytes_from ls (at + size_of x) xs ++ bytes_from ls m ys) e)
    ∙ sym (append_assoc (bytes_at ls at x) (bytes_from ls (at + size_of x) xs) (bytes_from ls (at + (size_of x + total xs)) ys))

-- what flash has of a whole, it has of a part
part : (i : Image) (o n : ℕ) (xs ys zs : List ℕ) → length xs ≡ n → Has i o (xs ++ (ys ++ zs)) → Has i (o + n) ys
part i o n xs ys zs e h k l =
    let at : o + n + k ≡ o + (length xs + k) = omega (arith, e) in
    let inside : length xs + k < length (xs ++ (ys ++ zs)) = omega (arith, l, length-append xs (ys ++ zs), length-append ys zs) in
    ap (λ m. slice_index i.flash m) at ∙ (h (length xs + k) inside ∙ (get_or-append-add xs (ys ++ zs) k 0 ∙ get_or-append ys zs 0 k l))

pub middle : (i : Image) (ls : List (Option ℕ)) (o at n : ℕ) (all xs ys zs : List Item) → all ≡ xs ++ (ys ++ zs) → total xs ≡ n → Has i o (bytes_from ls at all) → Has i (o + n) (bytes_from ls (at + n) ys)
middle i ls o at n all xs ys zs e t h =
    let more = bytes_from ls (at + total xs + total ys) zs in
    let split : bytes_from ls at all ≡ bytes_from ls at xs ++ (bytes_from ls (at + total xs) ys ++ more) =
    ap (bytes_from ls at) e ∙ (bytes_append ls at xs (ys ++ zs) ∙ ap (λ bs. bytes_from ls at xs ++ bs) (bytes_append ls (at + total xs) ys zs)) in
    let there : Has i (o + n) (bytes_from ls (at + total xs) ys) =
    part i o n (bytes_from ls at xs) (bytes_from ls (at + total xs) ys) more (total_bytes ls at xs ∙ t) (subst (λ (bs : List ℕ). Has i o bs) split h) in
    subst (λ (m : ℕ). Has i (o + n) (bytes_from ls (at + m) ys)) t there
