-- Pieces that are put one behind the other, and the room that they take.
use Rattle.std.proofs.Common.{◌≡◌, ℕ, ◌+◌, ◌<◌, ◌^◌, List, [], ◌∷◌, ◌++◌, length, get_or, drop, refl, sym, ap, ◌∙◌, arith, append_assoc}
use Rattle.std.proofs.lemmas.List.{drop_more}
use Rattle.machine_thumb.specs.declared.table.Instr.{Instr}
use Rattle.machine_thumb.specs.Table.{InTable, encode, width_of}
use Rattle.machine_thumb.specs.Bytes.{EachInTable}
use Rattle.machine_thumb_asm.specs.declared.item.Item.{Item}
use Rattle.machine_thumb_asm.specs.declared.item.Item.TheVariants.{Plain}
use Rattle.machine_thumb_asm.specs.Assembly.{Assembly, here, total}
use Rattle.code_model.specs.Words.{plain}
use Rattle.code_model.specs.Emitted.{with_more, HasRoom}
use Rattle.machine_thumb_asm.proofs.Items.{total-append}

pub here_more : (a : Assembly) (xs : List Item) → here (with_more a xs) ≡ here a + total xs
here_more a xs = let e = total-append a.items xs in omega arith

pub more_more : (a : Assembly) (xs ys : List Item) → with_more (with_more a xs) ys ≡ with_more a (xs ++ ys)
more_more a xs ys = ap (λ (is : List Item). record a { items = is }) (append_assoc a.items xs ys)

pub room_first : (a : Assembly) (xs ys : List Item) → HasRoom a (xs ++ ys) → HasRoom a xs
room_first a xs ys h = let e = total-append xs ys in let b = h.below in record { below = omega arith }

pub room_rest : (a : Assembly) (xs ys : List Item) → HasRoom a (xs ++ ys) → HasRoom (with_more a xs) ys
room_rest a xs ys h = let e = total-append xs ys in let f = here_more a xs in let b = h.below in record { below = omega arith }

-- the first of two parts of code is put, and then the other
module _ (a : Assembly) (zs xs ys : List Item) (parts : zs ≡ xs ++ ys) where
  pub first_fits : HasRoom a zs → HasRoom a xs
  first_fits h = room_first a xs ys (rw parts at h)

  pub rest_fits : (b : Assembly) → b ≡ with_more a xs → HasRoom a zs → HasRoom b ys
  rest_fits b e h = rw e (room_rest a xs ys (rw parts at h))

  pub both_put : (b c : Assembly) → b ≡ with_more a xs → c ≡ with_more b ys → c ≡ with_more a zs
  both_put b c e f = f ∙ (ap (λ (x : Assembly). with_more x ys) e ∙ (more_more a xs ys ∙ ap (with_more a) (sym parts)))

pub left_fits : (a b : Assembly) (xs ys : List Item) → b ≡ with_more a xs → HasRoom a (xs ++ ys) → HasRoom b ys
left_fits a b xs ys e h = rw e (room_rest a xs ys h)

pub joined : (a b c : Assembly) (xs ys : List Item) → b ≡ with_more a xs → c ≡ with_more b ys → c ≡ with_more a (xs ++ ys)
joined a b c xs ys e f = both_put a (xs ++ ys) xs ys refl b c e f

pub plain-append : (xs ys : List Instr) → plain (xs ++ ys) ≡ plain xs ++ plain ys
plain-append [] ys = refl
plain-append (x ∷ xs) ys = ap (λ is. Plain x ∷ is) (plain-append xs ys)

-- an instruction among others is put, and those behind it are left
module _ (xs : List Instr) (i : ℕ) (d : Instr) (l : i < length xs) where
  pub next_in_table : EachInTable (drop i xs) → InTable (get_or xs i d) × EachInTable (drop (i + 1) xs)
  next_in_table h = rw (drop_more xs i d l) at h

  pub next_room : (a : Assembly) → HasRoom a (plain (drop i xs)) → here a + width_of (encode (get_or xs i d)) < 2 ^ 31
  next_room a h = let e = ap (λ ys. total (plain ys)) (drop_more xs i d l) in let b = h.below in omega arith

  pub next_whole : (a : Assembly) → with_more (with_more a (Plain (get_or xs i d) ∷ [])) (plain (drop (i + 1) xs)) ≡ with_more a (plain (drop i xs))
  next_whole a = more_more a (Plain (get_or xs i d) ∷ []) (plain (drop (i + 1) xs)) ∙ ap (λ ys. with_more a (plain ys)) (sym (drop_more xs i d l))

  pub next_rest : (a : Assembly) → HasRoom a (plain (drop i xs)) → HasRoom (with_more a (Plain (get_or xs i d) ∷ [])) (plain (drop (i + 1) xs))
  next_rest a h = room_rest a (Plain (get_or xs i d) ∷ []) (plain (drop (i + 1) xs)) (rw (drop_more xs i d l) at h)

-- the first instructions are put, and the others are left
module _ (code xs rest : List Instr) (parts : code ≡ xs ++ rest) (a : Assembly) where
  both_parts : plain code ≡ plain xs ++ plain rest
  both_parts = ap plain parts ∙ plain-append xs rest

  pub step_first : HasRoom a (plain code) → HasRoom a (plain xs)
  step_first h = first_fits a (plain code) (plain xs) (plain rest) both_parts h

  pub step_rest : HasRoom a (plain code) → HasRoom (with_more a (plain xs)) (plain rest)
  step_rest h = rest_fits a (plain code) (plain xs) (plain rest) both_parts (with_more a (plain xs)) refl h

  pub step_whole : with_more (with_more a (plain xs)) (plain rest) ≡ with_more a (plain code)
  step_whole = both_put a (plain code) (plain xs) (plain rest) both_parts (with_more a (plain xs)) (with_more (with_more a (plain xs)) (plain rest)) refl refl

pub ruleset putting = (more_more, room_first, room_rest, plain-append)
