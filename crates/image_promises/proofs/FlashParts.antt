-- How much flash a planned image has, and where its blocks lie.
use Rattle.std.proofs.Common.{◌≡◌, ℕ, zero, suc, ◌+◌, ◌<◌, ◌≤◌, List, [], ◌∷◌, length, map, get_or, max, sum, sum_by, refl, sym, ap, ◌∙◌, subst, arith}
use Rattle.std.proofs.lemmas.List.{length-map, get_or-map}
use Rattle.std.proofs.lemmas.List.FromFn.{length-map-range_with_len, get_or-map-range_with_len, fill_by_all}
use Rattle.std.proofs.lemmas.List.Sums.{sum_by-cons}
use Rattle.plan_model.specs.declared.graph.Final.{Final}
use Rattle.plan_model.specs.declared.plan.Board.{Board}
use Rattle.plan_model.specs.declared.plan.Sizes.{Sizes}
use Rattle.plan_model.specs.declared.plan.Spot.{Spot}
use Rattle.plan_model.specs.Lists.{numbers_below}
use Rattle.plan_model.specs.Choices.{greatest}
use Rattle.plan_model.specs.Blocks.{block_size_for}
use Rattle.plan_model.specs.FlashPlacement.{flash_blocks, code_blocks, tables_block, flash_spot, code_spot, flash_needed}
use Rattle.plan_model.specs.Placement.{plan_of, compartment_spot, no_spot, flash_used}
use Rattle.ir_model.specs.Resolved.{Program}
use Rattle.plan_layout.proofs.Before.{before_fits}
use Rattle.base_laws.proofs.Lists.{mapped_twice, sum_first as sum_cons}

-- ---- sums

summed : {A : Type 0} (f : A → ℕ) (xs : List A) → sum_by f xs ≡ sum (map f xs)
summed f [] = refl
summed f (x ∷ xs) = sum_by-cons f x xs ∙ (ap (λ n. f x + n) (summed f xs) ∙ sym (sum_cons (f x) (map f xs)))

-- a list by its numbers
by_numbers : (xs : List ℕ) → map (λ k. get_or xs k 0) (numbers_below (length xs)) ≡ xs
by_numbers xs = sym (fill_by_all (λ k. get_or xs k 0) xs (length xs) 0 refl (λ k lt. refl))

-- a number of a list is at most their sum
pub one_of_sum : (xs : List ℕ) (k : ℕ) → get_or xs k 0 ≤ sum xs
one_of_sum [] zero = omega arith
one_of_sum [] (suc k) = omega arith
one_of_sum (x ∷ xs) zero = let e = sum_cons x xs in omega (arith, e)
one_of_sum (x ∷ xs) (suc k) = let h = one_of_sum xs k in let e = sum_cons x xs in omega (arith, h, e)

-- ---- blocks

module _ (p : Program) (f : Final) (s : Sizes) (b : Board) where
  pub size_is : flash_used (plan_of p f s b) ≡ flash_needed s
  unfolding plan_of flash_blocks
  size_is =
      let spot : ℕ → Spot = code_spot b.flash_base s in
      let spots = map spot (numbers_below (length s.code)) in
      let e = length-map s.code block_size_for in
      let all : map (λ (t : Spot). t.size) spots ≡ code_blocks s =
      mapped_twice (λ (t : Spot). t.size) spot (numbers_below (length s.code))
      ∙ (ap (λ n. map (λ k. get_or (code_blocks s) k 0) (numbers_below n)) (sym e) ∙ by_numbers (code_blocks s)) in
      ap (λ n. tables_block s + n) (summed (λ (t : Spot). t.size) spots ∙ ap sum all) ∙ sym (sum_cons (tables_block s) (code_blocks s))

  pub code_count : length (plan_of p f s b).code ≡ length s.code
  unfolding plan_of
  code_count = length-map-range_with_len (code_spot b.flash_base s) 0 (length s.code)

  pub code_size_is : (c : ℕ) → c < length s.code → (compartment_spot (plan_of p f s b) c).size ≡ block_size_for (get_or s.code c 0)
  unfolding plan_of flash_blocks
  code_size_is c l =
      ap (λ (t : Spot). t.size) (get_or-map-range_with_len (code_spot b.flash_base s) 0 (length s.code) c c no_spot l (omega arith))
      ∙ get_or-map block_size_for s.code c 0 0 l

  pub tables_size_is : (plan_of p f s b).tables.size ≡ max (block_size_for s.tables) (greatest (code_blocks s))
  unfolding plan_of flash_blocks
  tables_size_is = refl

  spot_is : (c : ℕ) → c < length s.code → compartment_spot (plan_of p f s b) c ≡ flash_spot b.flash_base (flash_blocks s) (suc c)
  unfolding plan_of
  spot_is c l = get_or-map-range_with_len (code_spot b.flash_base s) 0 (length s.code) c c no_spot l (omega arith)

  more : {c : ℕ} → c < length s.code → length (code_blocks s) ≡ length s.code → suc c < length (flash_blocks s)
  unfolding flash_blocks
  more l e = omega (arith, l, e)

  -- the blocks end where the image's flash does
  pub code_ends : (c : ℕ) → c < length s.code → (compartment_spot (plan_of p f s b) c).base + (compartment_spot (plan_of p f s b) c).size ≤ b.flash_base + flash_needed s
  code_ends c l =
      let e = spot_is c l in
      let h = before_fits (flash_blocks s) (suc c) (more l (length-map s.code block_size_for)) in
      subst (λ (t : Spot). t.base + t.size ≤ b.flash_base + flash_needed s) (sym e) (omega (arith, h))

  pub tables_end : (plan_of p f s b).tables.size ≤ flash_needed s
  unfolding plan_of flash_blocks
  tables_end = let e = sum_cons (tables_block s) (code_blocks s) in omega (arith, e)
