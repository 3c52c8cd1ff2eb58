-- Blocks in falling order, seen as the definition's.
use Rattle.std.proofs.Common.{◌≡◌, Bool, true, false, cond, List, [], ◌∷◌, map, nat_lt, refl, ap, ◌∙◌}
use Rattle.plan_model.specs.Lists.{placed, in_order}
use Rattle.plan_model.specs.RamBlocks.{RamBlock, falling}
use Rattle.plan_layout.specs.declared.ram.UsedBlock.{UsedBlock}
use Rattle.plan_layout.specs.Filling.{block_seen}

module _ {X Y : Type 0} (f : X → Y) (p : X → X → Bool) (q : Y → Y → Bool) (same : (a b : X) → p a b ≡ q (f a) (f b)) where
  placed_mapped : (x : X) (ys : List X) → map f (placed p x ys) ≡ placed q (f x) (map f ys)
  placed_mapped x [] = refl
  placed_mapped x (y ∷ ys) = by (p y x) (placed_mapped x ys) ∙ ap (λ b. cond b (f y ∷ placed q (f x) (map f ys)) (f x ∷ f y ∷ map f ys)) (same y x)
    where
      by : (b : Bool) → map f (placed p x ys) ≡ placed q (f x) (map f ys) → map f (cond b (y ∷ placed p x ys) (x ∷ y ∷ ys)) ≡ cond b (f y ∷ placed q (f x) (map f ys)) (f x ∷ f y ∷ map f ys)
      by true ih = ap (λ zs. f y ∷ zs) ih
      by false ih = refl

  in_order_mapped : (xs : List X) → map f (in_order p xs) ≡ in_order q (map f xs)
  in_order_mapped [] = refl
  in_order_mapped (x ∷ xs) = placed_mapped x (in_order p xs) ∙ ap (placed q (f x)) (in_order_mapped xs)

pub falling_seen : (bs : List UsedBlock) → map block_seen (in_order (λ (a b : UsedBlock). nat_lt b.size a.size) bs) ≡ falling (map block_seen bs)
falling_seen bs = in_order_mapped block_seen (λ (a b : UsedBlock). nat_lt b.size a.size) (λ (a b : RamBlock). nat_lt b.size a.size) (λ a b. refl) bs
