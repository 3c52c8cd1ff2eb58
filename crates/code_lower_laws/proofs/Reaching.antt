-- Pieces one behind the other, whose branches reach.
use Rattle.std.proofs.Common.{◌≡◌, ℕ, ◌+◌, ◌≤◌, ◌^◌, List, [], ◌∷◌, ◌++◌, Bool, true, false, if◌then◌else◌, Option, Some, None, refl, sym, arith}
use Rattle.std.proofs.lemmas.Bool.{le-leb, lt-ltb}
use Rattle.std.proofs.lemmas.Option.{none-some}
use Rattle.machine_thumb.specs.declared.table.Instr.{Instr}
use Rattle.machine_thumb_asm.specs.declared.item.Item.{Item}
use Rattle.machine_thumb_asm.specs.declared.item.Item.TheVariants.{Plain, Branch, Half, Word}
use Rattle.machine_thumb_asm.specs.declared.refusal.AsmRefusal.{AsmRefusal}
use Rattle.machine_thumb_asm.specs.declared.refusal.AsmRefusal.TheVariants.{FarBranch}
use Rattle.machine_thumb_asm.specs.Assembly.{branch_size, size_of, total, place_of}
use Rattle.machine_thumb_asm.specs.Finished.{reach, is_near, first_far}
use Rattle.code_model.specs.Words.{plain}
use Rattle.code_model.specs.Templates.{jump_items}

then_on : (b : Bool) (o p : Option AsmRefusal) (e : AsmRefusal) → (o ≡ None → p ≡ None) → (if b then o else Some e) ≡ None → (if b then p else Some e) ≡ None
then_on true o p e on h = on h
then_on false o p e on h = absurd (none-some _ (sym h))

module _ (ps : List (Option ℕ)) where
  pub far-append : (at to : ℕ) (xs ys : List Item) → at + total xs ≡ to → first_far ps at xs ≡ None → first_far ps to ys ≡ None → first_far ps at (xs ++ ys) ≡ None
  far-append at to [] ys e h k = let v : at ≡ to = omega arith in rw v k
  far-append at to (Plain x ∷ xs) ys e h k = far-append (at + size_of (Plain x)) to xs ys (omega arith) h k
  far-append at to (Branch kind l ∷ xs) ys e h k =
      let v : at + branch_size kind + total xs ≡ to = omega arith in
      then_on (is_near (reach kind) at (place_of ps l.number)) (first_far ps (at + branch_size kind) xs) (first_far ps (at + branch_size kind) (xs ++ ys)) (FarBranch at (place_of ps l.number))
      (λ n. far-append (at + branch_size kind) to xs ys v n k) h
  far-append at to (Half w ∷ xs) ys e h k = far-append (at + 2) to xs ys (omega arith) h k
  far-append at to (Word w ∷ xs) ys e h k = far-append (at + 4) to xs ys (omega arith) h k

  pub plain_near : (at : ℕ) (xs : List Instr) → first_far ps at (plain xs) ≡ None
  plain_near at [] = refl
  plain_near at (x ∷ xs) = plain_near (at + size_of (Plain x)) xs

  pub both_near : (at : ℕ) (xs ys : List Instr) → first_far ps at (plain xs ++ plain ys) ≡ None
  both_near at xs ys = far-append at (at + total (plain xs)) (plain xs) (plain ys) refl (plain_near at xs) (plain_near (at + total (plain xs)) ys)

  pub half_near : (at : ℕ) (xs : List Instr) (s : ℕ) (ys : List Instr) → first_far ps at (plain xs ++ Half s ∷ plain ys) ≡ None
  half_near at xs s ys = far-append at (at + total (plain xs)) (plain xs) (Half s ∷ plain ys) refl (plain_near at xs) (plain_near (at + total (plain xs) + 2) ys)

  pub long_near : (at first b : ℕ) → at ≤ place_of ps (first + b) + 2 ^ 20 → place_of ps (first + b) ≤ at + 2 ^ 20 → first_far ps at (jump_items first b) ≡ None
  long_near at first b h l =
      let x = le-leb (at + 4) (place_of ps (first + b) + 2 ^ 24) (omega arith) in
      let y = lt-ltb (place_of ps (first + b)) (at + 4 + 2 ^ 24) (omega arith) in
      rw (x, y) refl
