-- Pieces that stand in memory: their parts, and where they stand by their bytes.
use Rattle.std.proofs.Common.{◌≡◌, ℕ, ◌+◌, ◌<◌, ◌≤◌, true, List, [], ◌∷◌, ◌++◌, Option, refl, arith, subst}
use Rattle.machine_thumb.specs.declared.table.Instr.{Instr}
use Rattle.machine_thumb_asm.specs.declared.item.BranchKind.{BranchKind}
use Rattle.machine_thumb_asm.specs.declared.item.BranchKind.TheVariants.{Cond, Short, Long, Link}
use Rattle.machine_thumb_asm.specs.declared.item.Item.{Item}
use Rattle.machine_thumb_asm.specs.declared.item.Item.TheVariants.{Plain, Branch, Half, Word}
use Rattle.machine_thumb_asm.specs.Assembly.{branch_size, total, place_of}
use Rattle.machine_thumb_asm.specs.Finished.{branch}
use Rattle.machine_protection.specs.declared.region.Access.TheVariants.{Fetch}
use Rattle.machine_devices.specs.declared.image.Image.{Image}
use Rattle.machine_model.specs.declared.state.ProtectionState.{ProtectionState}
use Rattle.machine_model.specs.State.{PermissionTest}
use Rattle.machine_model.specs.Code.{size, Lies, Stands, CodeAt}
use Rattle.machine_model.specs.Running.{code_size}
use Rattle.machine_model.proofs.Exec.{code_may_run}
use Rattle.machine_model.proofs.CodeParts.{width-encode}
use Rattle.code_model.specs.Words.{plain}
use Rattle.code_effects.specs.Items.{ItemsIn, ItemsAt}

-- ---- sizes

pub branch_size_is : (kind : BranchKind) (from to : ℕ) → size (branch kind from to) ≡ branch_size kind
branch_size_is (Cond c) from to = refl
branch_size_is Short from to = refl
branch_size_is Long from to = refl
branch_size_is Link from to = refl

pub total-plain : (xs : List Instr) → total (plain xs) ≡ code_size xs
total-plain [] = refl
total-plain (x ∷ xs) = omega (arith, width-encode x, total-plain xs)

-- ---- parts

module _ (i : Image) (labels : List (Option ℕ)) where
  in_at : (xs : List Item) (a b : ℕ) → a ≡ b → ItemsIn i labels a xs → ItemsIn i labels b xs
  in_at xs a b e h = subst (λ (n : ℕ). ItemsIn i labels n xs) e h

  pub parts_in : (xs ys : List Item) (at : ℕ) → ItemsIn i labels at (xs ++ ys) → ItemsIn i labels at xs × ItemsIn i labels (at + total xs) ys
  parts_in [] ys at h = (tt, in_at ys at (at + 0) (omega arith) h)
  parts_in (Plain x ∷ xs) ys at h =
      let r = parts_in xs ys (at + size x) h.1 in
      ((h.0, r.0), in_at ys (at + size x + total xs) _ (omega (arith, width-encode x)) r.1)
  parts_in (Branch kind to ∷ xs) ys at h =
      let r = parts_in xs ys (at + branch_size kind) h.1 in
      ((h.0, r.0), in_at ys (at + branch_size kind + total xs) _ (omega arith) r.1)
  parts_in (Half w ∷ xs) ys at h =
      let r = parts_in xs ys (at + 2) h.1 in
      ((h.0, r.0), in_at ys (at + 2 + total xs) _ (omega arith) r.1)
  parts_in (Word w ∷ xs) ys at h =
      let r = parts_in xs ys (at + 4) h.2 in
      ((h.0, h.1, r.0), in_at ys (at + 4 + total xs) _ (omega arith) r.1)

module _ (j : PermissionTest) (i : Image) (p : ProtectionState) (labels : List (Option ℕ)) where
  pub items_at : (xs : List Item) (a b : ℕ) → a ≡ b → ItemsAt j i p labels a xs → ItemsAt j i p labels b xs
  items_at xs a b e h = subst (λ (n : ℕ). ItemsAt j i p labels n xs) e h

  pub parts_at : (xs ys : List Item) (at : ℕ) → ItemsAt j i p labels at (xs ++ ys) → ItemsAt j i p labels at xs × ItemsAt j i p labels (at + total xs) ys
  parts_at [] ys at h = (tt, items_at ys at (at + 0) (omega arith) h)
  parts_at (Plain x ∷ xs) ys at h =
      let r = parts_at xs ys (at + size x) h.1 in
      ((h.0, r.0), items_at ys (at + size x + total xs) _ (omega (arith, width-encode x)) r.1)
  parts_at (Branch kind to ∷ xs) ys at h =
      let r = parts_at xs ys (at + branch_size kind) h.1 in
      ((h.0, r.0), items_at ys (at + branch_size kind + total xs) _ (omega arith) r.1)
  parts_at (Half w ∷ xs) ys at h =
      let r = parts_at xs ys (at + 2) h.1 in
      ((h.0, r.0), items_at ys (at + 2 + total xs) _ (omega arith) r.1)
  parts_at (Word w ∷ xs) ys at h =
      let r = parts_at xs ys (at + 4) h.2 in
      ((h.0, h.1, r.0), items_at ys (at + 4 + total xs) _ (omega arith) r.1)

  pub plain_code : (xs : List Instr) (at : ℕ) → ItemsAt j i p labels at (plain xs) → CodeAt j i p at xs
  plain_code [] at h = tt
  plain_code (x ∷ xs) at h = (h.0, plain_code xs (at + size x) h.1)

  -- code in front of other pieces
  pub code_first : (xs : List Instr) (ys : List Item) (at : ℕ) → ItemsAt j i p labels at (plain xs ++ ys) → CodeAt j i p at xs × ItemsAt j i p labels (at + code_size xs) ys
  code_first xs ys at h =
      let r = parts_at (plain xs) ys at h in
      (plain_code xs at r.0, items_at ys (at + total (plain xs)) (at + code_size xs) (omega (arith, total-plain xs)) r.1)

  one_may_run : (x : Instr) (at n : ℕ) → Lies i at x → size x ≤ n → ((a : ℕ) → at ≤ a → a < at + n → j p Fetch a ≡ true) → Stands j i p at x
  one_may_run x at n l h m = (code_may_run j i p (x ∷ []) at (l, tt) (λ a low high. m a low (omega arith))).0

  pub may_run : (xs : List Item) (at : ℕ) → ItemsIn i labels at xs → ((a : ℕ) → at ≤ a → a < at + total xs → j p Fetch a ≡ true) → ItemsAt j i p labels at xs
  may_run [] at h m = tt
  may_run (Plain x ∷ xs) at h m =
      let w = width-encode x in
      (one_may_run x at (total (Plain x ∷ xs)) h.0 (omega arith) m, may_run xs (at + size x) h.1 (λ a low high. m a (omega arith) (omega arith)))
  may_run (Branch kind to ∷ xs) at h m =
      let w = branch_size_is kind at (place_of labels to.number) in
      (one_may_run (branch kind at (place_of labels to.number)) at (total (Branch kind to ∷ xs)) h.0 (omega arith) m, may_run xs (at + branch_size kind) h.1 (λ a low high. m a (omega arith) (omega arith)))
  may_run (Half w ∷ xs) at h m = (h.0, may_run xs (at + 2) h.1 (λ a low high. m a (omega arith) (omega arith)))
  may_run (Word w ∷ xs) at h m = (h.0, h.1, may_run xs (at + 4) h.2 (λ a low high. m a (omega arith) (omega arith)))
