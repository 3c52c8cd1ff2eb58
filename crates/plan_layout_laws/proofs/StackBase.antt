-- The stack is placed first where the board asks for it or no block is larger, and what is placed first stands where RAM begins.
use Rattle.std.proofs.Common.{◌≡◌, ℕ, zero, suc, ◌+◌, ◌<◌, ◌≤◌, ◌⊎◌, inl, inr, cond, List, [], ◌∷◌, ◌++◌, length, get_or, map, Option, Some, None, nat_lt, refl, sym, ap, subst, ◌∙◌, le-ltb, arith}
use Rattle.std.specs.Prelude.{unwrap_or}
use Rattle.std.specs.List.{fold, range_with_len}
use Rattle.ir_model.specs.Resolved.{Program}
use Rattle.plan_model.specs.declared.graph.Final.{Final}
use Rattle.plan_model.specs.declared.plan.Board.{Board}
use Rattle.plan_model.specs.declared.plan.Lowest.{Lowest}
use Rattle.plan_model.specs.declared.plan.Lowest.TheVariants.{Largest, Stack}
use Rattle.plan_model.specs.Blocks.{block_size_for, region_bytes}
use Rattle.plan_model.specs.Lists.{numbers_below, placed}
use Rattle.plan_model.specs.RamBlocks.{ForStack, ForMonitor, ForRegion, ForUnwritten, RamBlock, full_block, region_block, unwritten_block, other_blocks, ram_blocks, falling}
use Rattle.plan_model.specs.RamPlacement.{Ram, PlacedBlock, no_tail, tail_for, base_in, spot_at, with_block, with_block_by, empty_ram, stack_first, ram_by, ram_of}
use Rattle.plan_model.specs.Placement.{plan_of, placed_for, no_spot}
use Rattle.plan_layout_laws.specs.StackLowest.{IsStackLargest, StackIsLowest}
use Rattle.plan_layout_laws.proofs.RamApart.{falling_others}
use Rattle.plan_layout_laws.proofs.Uses.{spot_in}
use Rattle.plan_layout_laws.proofs.Within.{all_ordered}
use Rattle.base_laws.specs.Lists.{Each}
use Rattle.base_laws.proofs.Lists.{each_both}

-- ---- what is placed first stays first

record Begins (x : PlacedBlock) (m : Ram) : Type 0 where
  rest : List PlacedBlock
  is : m.blocks ≡ x ∷ rest

one_behind : (x y : PlacedBlock) (m n : Ram) → n.blocks ≡ m.blocks ++ y ∷ [] → Begins x m → Begins x n
one_behind x y m n e h = record { rest = h.rest ++ y ∷ []; is = e ∙ ap (λ (bs : List PlacedBlock). bs ++ y ∷ []) h.is }

module _ (ram : ℕ) (x : PlacedBlock) where
  with_one : (m : Ram) (b : RamBlock) (o : Option ℕ) → Begins x m → Begins x (with_block_by ram m b o)
  with_one m b None h = one_behind x (spot_at (ram + m.used) b) m (with_block_by ram m b None) refl h
  with_one m b (Some k) h = one_behind x (spot_at (base_in (get_or m.tails k no_tail) b) b) m (with_block_by ram m b (Some k)) refl h

  with_all : (m : Ram) (bs : List RamBlock) → Begins x m → Begins x (fold (with_block ram) m bs)
  unfolding with_block
  with_all m [] h = h
  with_all m (b ∷ bs) h = with_all (with_block_by ram m b (tail_for m.tails b)) bs (with_one m b (tail_for m.tails b) h)

-- ---- a block that is not smaller than the others is the first of them in falling order

first_placed : (b : RamBlock) (bs : List RamBlock) → Each (λ c. c.size ≤ b.size) bs → placed (λ (c d : RamBlock). nat_lt d.size c.size) b bs ≡ b ∷ bs
first_placed b [] h = refl
first_placed b (c ∷ cs) h = ap (λ t. cond t (c ∷ placed (λ (d e : RamBlock). nat_lt e.size d.size) b cs) (b ∷ c ∷ cs)) (le-ltb b.size c.size h.0)

module _ (p : Program) (f : Final) (b : Board) where
  abbrev stack_block : RamBlock
  stack_block = full_block ForStack b.stack

  abbrev first : PlacedBlock
  first = spot_at b.ram_base stack_block

  abbrev IsSmall : RamBlock → Type 0
  IsSmall c = c.size ≤ b.stack

  module _ (largest : IsStackLargest p f b) where
    regions_small : (a n : ℕ) → a + n ≤ length f.regions → Each IsSmall (map (region_block p f.regions) (range_with_len a n))
    regions_small a zero l = tt
    regions_small a (suc n) l = (largest (ForRegion a) (omega arith), regions_small (a + 1) n (omega arith))

    unwritten_small : (xs : List ℕ) → f.unwritten ≡ xs → Each IsSmall (unwritten_block p xs)
    unwritten_small [] e = tt
    unwritten_small (x ∷ xs) e =
        let some : 0 < length f.unwritten = subst (λ (ys : List ℕ). 0 < length ys) (sym e) (omega arith) in
        (subst (λ (ys : List ℕ). block_size_for (region_bytes p ys) ≤ b.stack) e (largest ForUnwritten some), tt)

    others_small : Each IsSmall (other_blocks p f)
    others_small =
        (largest ForMonitor tt, each_both IsSmall (map (region_block p f.regions) (numbers_below (length f.regions))) (unwritten_block p f.unwritten) (regions_small 0 (length f.regions) (omega arith)) (unwritten_small f.unwritten refl))

    falls_first : falling (ram_blocks p f b.stack) ≡ stack_block ∷ falling_others p f
    unfolding ram_blocks
    falls_first = first_placed stack_block (falling_others p f) (all_ordered IsSmall (λ (c d : RamBlock). nat_lt d.size c.size) (other_blocks p f) others_small)

  -- behind the empty RAM
  start : Begins first (with_block b.ram_base empty_ram stack_block)
  unfolding with_block
  start = let e : b.ram_base + 0 ≡ b.ram_base = omega arith in record { rest = []; is = ap (λ (n : ℕ). spot_at n stack_block ∷ []) e }

  begins : (l : Lowest) → (l ≡ Stack) ⊎ IsStackLargest p f b → Begins first (ram_by p f b l)
  begins Stack h = with_all b.ram_base first (stack_first b.ram_base b.stack (falling_others p f)) (falling_others p f) (record { rest = []; is = refl })
  begins Largest (inl e) = cc
  begins Largest (inr h) =
      subst (λ (bs : List RamBlock). Begins first (fold (with_block b.ram_base) empty_ram bs)) (sym (falls_first h)) (with_all b.ram_base first (with_block b.ram_base empty_ram stack_block) (falling_others p f) start)

  at_base : (m : Ram) → Begins first m → (placed_for m ForStack).base ≡ b.ram_base
  at_base m h = ap (λ (bs : List PlacedBlock). (unwrap_or (spot_in bs ForStack) no_spot).base) h.is

pub stack_is_lowest : StackIsLowest
unfolding plan_of ram_of
stack_is_lowest p f s b h = at_base p f b (ram_of p f b) (begins p f b b.lowest h)
