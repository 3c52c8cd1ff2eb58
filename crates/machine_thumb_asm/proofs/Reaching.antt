-- Pieces that are put one behind the other.
use Rattle.std.proofs.Common.{◌≡◌, ℕ, zero, suc, ◌+◌, ◌%◌, ◌<◌, ◌^◌, Bool, true, false, List, [], ◌∷◌, length, take, if◌then◌else◌, Option, Some, None, refl, sym, ◌∙◌, arith}
use Rattle.std.proofs.Math.ListN.{get_or}
use Rattle.std.proofs.lemmas.Option.{none-some}
use Rattle.machine_thumb.specs.Table.{width_of, encode}
use Rattle.machine_thumb.specs.declared.table.Code.{Code}
use Rattle.machine_thumb.specs.declared.table.Code.TheVariants as code
use Rattle.machine_thumb_asm.specs.declared.item.BranchKind.{BranchKind}
use Rattle.machine_thumb_asm.specs.declared.item.Item.{Item}
use Rattle.machine_thumb_asm.specs.declared.item.Label.{Label}
use Rattle.machine_thumb_asm.specs.declared.item.Item.TheVariants.{Plain, Branch, Half, Word}
use Rattle.machine_thumb_asm.specs.declared.refusal.AsmRefusal.TheVariants.{FarBranch}
use Rattle.machine_thumb_asm.specs.Assembly.{Assembly, branch_size, size_of, total, place_of, IsItem, AreItems, ArePut, GoesSomewhere, IsAssembly}
use Rattle.machine_thumb_asm.specs.Finished.{reach, is_near, first_far}
use Rattle.base_laws.proofs.Options.{some_is}
use Rattle.machine_thumb_asm.proofs.Items.{total_within, branch_even}

code_even : (c : Code) → width_of c % 2 ≡ 0
code_even (code.Half h) = refl
code_even (code.Pair h k) = refl

pub size_even : (i : Item) → size_of i % 2 ≡ 0
size_even (Plain x) = code_even (encode x)
size_even (Branch k to) = branch_even k
size_even (Half h) = refl
size_even (Word w) = refl

pub total_even : (is : List Item) → total is % 2 ≡ 0
total_even [] = refl
total_even (i ∷ is) = let a = size_even i in let b = total_even is in omega arith

-- where a label was put: at an even distance from the base, and below 2^31
pub even_place : (a : Assembly) (l p : ℕ) → IsAssembly a → get_or a.places l None ≡ Some p → (p % 2 ≡ a.base % 2) × (p < 2 ^ 31)
even_place a l p h e =
    let b = h.places l p e in
    let x = total_even (take b.0 a.items) in
    let w = total_within a.items b.0 in
    let r = h.room in
    let q = b.1 in
    (omega arith, omega arith)

pub goes : (a : Assembly) (at : ℕ) (i : Item) → IsAssembly a → at % 2 ≡ a.base % 2 → ArePut a.places (i ∷ []) → GoesSomewhere a.places at i
goes a at (Plain x) h e p = tt
goes a at (Branch kind to) h e p =
    let s = some_is (get_or a.places to.number None) p.0 in
    let v = even_place a to.number s.0 h s.1 in
    rw s.1 (v.0 ∙ sym e, v.1)
goes a at (Half w) h e p = tt
goes a at (Word w) h e p = tt

-- the piece of a number
pub piece_at : (n : ℕ) (is : List Item) (k : ℕ) (d : Item) → AreItems n is → k < length is → IsItem n (get_or is k d)
piece_at n (i ∷ is) zero d h l = h.0
piece_at n (i ∷ is) (suc k) d h l = piece_at n is k d h.1 (omega arith)
piece_at n [] k d h l = absurd (omega arith)

pub first_put : (ps : List (Option ℕ)) (i : Item) (is : List Item) → ArePut ps (i ∷ is) → ArePut ps (i ∷ []) × ArePut ps is
first_put ps (Plain x) is h = (tt, h)
first_put ps (Branch kind to) is h = ((h.0, tt), h.1)
first_put ps (Half w) is h = (tt, h)
first_put ps (Word w) is h = (tt, h)

pub put_piece : (ps : List (Option ℕ)) (is : List Item) (k : ℕ) (d : Item) → ArePut ps is → k < length is → ArePut ps (get_or is k d ∷ [])
put_piece ps (i ∷ is) zero d h l = (first_put ps i is h).0
put_piece ps (i ∷ is) (suc k) d h l = put_piece ps is k d (first_put ps i is h).1 (omega arith)
put_piece ps [] k d h l = absurd (omega arith)

pub even_so_far : (at base : ℕ) (xs ys : List Item) → at + total xs ≡ base + total ys → at % 2 ≡ base % 2
even_so_far at base xs ys e = let x = total_even xs in let y = total_even ys in omega arith

pub near_by : (ps : List (Option ℕ)) (at : ℕ) (kind : BranchKind) (to : Label) → first_far ps at (Branch kind to ∷ []) ≡ None → is_near (reach kind) at (place_of ps to.number) ≡ true
near_by ps at kind to h = by_test (is_near (reach kind) at (place_of ps to.number)) h
  where
    by_test : (b : Bool) → (if b then None else Some (FarBranch at (place_of ps to.number))) ≡ None → b ≡ true
    by_test true h = refl
    by_test false h = absurd (none-some _ (sym h))

pub far-split : (ps : List (Option ℕ)) (at : ℕ) (i : Item) (is : List Item) → first_far ps at (i ∷ is) ≡ None → (first_far ps at (i ∷ []) ≡ None) × (first_far ps (at + size_of i) is ≡ None)
far-split ps at (Plain x) is h = (refl, h)
far-split ps at (Branch kind to) is h = by_test (is_near (reach kind) at (place_of ps to.number)) h
  where
    by_test : (b : Bool) → (if b then first_far ps (at + branch_size kind) is else Some (FarBranch at (place_of ps to.number))) ≡ None
        → ((if b then None else Some (FarBranch at (place_of ps to.number))) ≡ None) × (first_far ps (at + branch_size kind) is ≡ None)
    by_test true h = (refl, h)
    by_test false h = absurd (none-some _ (sym h))
far-split ps at (Half w) is h = (refl, h)
far-split ps at (Word w) is h = (refl, h)

pub near_first : (places : List (Option ℕ)) (at : ℕ) (kind : BranchKind) (to : Label) (more : List Item) → first_far places at (Branch kind to ∷ more) ≡ None →
    (is_near (reach kind) at (place_of places to.number) ≡ true) × (first_far places (at + branch_size kind) more ≡ None)
near_first places at kind to more h = by_test (is_near (reach kind) at (place_of places to.number)) h
  where
    by_test : (b : Bool) → (if b then first_far places (at + branch_size kind) more else Some (FarBranch at (place_of places to.number))) ≡ None → (b ≡ true) × (first_far places (at + branch_size kind) more ≡ None)
    by_test true h = (refl, h)
    by_test false h = absurd (none-some _ (sym h))
