-- The blocks of flash lie in it, at multiples of their sizes, and apart.
use Rattle.std.proofs.Common.{◌≡◌, ◌≢◌, ℕ, suc, ◌+◌, ◌<◌, ◌≤◌, inl, inr, List, [], ◌∷◌, length, get_or, take, sum, nat_lt, nat_eq, refl, sym, ap, subst, ◌∙◌, ltb-true, eqb-true, le-ltb, cond, max, arith}
use Rattle.std.specs.List.{fold}
use Rattle.std.specs.Prelude.{filter}
use Rattle.std.proofs.lemmas.List.{length-map}
use Rattle.std.proofs.lemmas.List.FromFn.{length-map-range_with_len, get_or-map-range_with_len}
use mathlib.Core.Logic.{⊎_elim}
use Rattle.ir_model.specs.Resolved.{Program}
use Rattle.plan_model.specs.declared.graph.Final.{Final}
use Rattle.plan_model.specs.declared.plan.Board.{Board}
use Rattle.plan_model.specs.declared.plan.Sizes.{Sizes}
use Rattle.plan_model.specs.declared.plan.Spot.{Spot}
use Rattle.plan_model.specs.declared.plan.Plan.{Plan}
use Rattle.plan_model.specs.Boards.{IsBoard}
use Rattle.plan_model.specs.Blocks.{block_size_for}
use Rattle.plan_model.specs.Choices.{greatest}
use Rattle.plan_model.specs.FlashPlacement.{bytes_before, flash_blocks, code_blocks, tables_block, flash_spot, code_spot, flash_needed}
use Rattle.plan_model.specs.Placement.{plan_of, compartment_spot, no_spot}
use Rattle.plan_layout.proofs.Before.{before_fits}
use Rattle.plan_layout_laws.specs.FlashLaws.{IsIn, IsAligned, ShareNothing, IsFlashLaid, FlashIsLaid}
use Rattle.base_laws.proofs.Multiples.{IsMultiple, both, through, no_rest, from_no_rest, sum_of_some}
use Rattle.plan_layout_laws.proofs.Order.{one_first}
use Rattle.plan_layout_laws.proofs.PowersOfTwo.{IsPower, flash_powers, quotient, mebibyte}
use Rattle.base_laws.specs.Lists.{Each}
use Rattle.base_laws.proofs.Lists.{each_at, each_take}

module _ (s : Sizes) (b : Board) (ok : IsBoard b) (room : flash_needed s ≤ b.flash_size) where
  abbrev sizes : List ℕ
  sizes = flash_blocks s

  inside_at : (k : ℕ) → k < length sizes → IsIn (flash_spot b.flash_base sizes k) b.flash_base b.flash_size
  inside_at k l = let fits = before_fits sizes k l in (omega arith, omega arith)

  multiple : (v x : ℕ) → IsPower v → IsPower x → v ≤ x → IsMultiple v x
  multiple v x p q l = let t = quotient v x p q l in record { times = t.0; is = t.1 }

  before_is_multiple : (k : ℕ) → IsPower (get_or sizes k 0) → IsMultiple (get_or sizes k 0) (bytes_before sizes k)
  unfolding bytes_before
  before_is_multiple k p =
      let v = get_or sizes k 0 in
      let powers = flash_powers s in
      both v (sum (filter (λ x. nat_lt v x) sizes)) (sum (filter (λ x. nat_eq x v) (take k sizes)))
      (sum_of_some v (λ x. nat_lt v x) IsPower (λ x q e. let l = ltb-true v x e in multiple v x p q (omega arith)) sizes powers)
      (sum_of_some v (λ x. nat_eq x v) IsPower (λ x q e. let l = eqb-true x v e in multiple v x p q (omega arith)) (take k sizes) (each_take IsPower k sizes powers))

  aligned_at : (k : ℕ) → k < length sizes → IsAligned (flash_spot b.flash_base sizes k)
  aligned_at k l =
      let v = get_or sizes k 0 in
      let p = each_at IsPower sizes 0 k (flash_powers s) l in
      let fits = before_fits sizes k l in
      let most = ok.flash_size.most in
      let small : v ≤ 0x100000 = omega arith in
      let base = through v 0x100000 b.flash_base (multiple v 0x100000 p mebibyte small) (from_no_rest 0x100000 b.flash_base ok.flash_aligned) in
      no_rest v (b.flash_base + bytes_before sizes k) (both v b.flash_base (bytes_before sizes k) base (before_is_multiple k p))

  apart_at : (j k : ℕ) → j < length sizes → k < length sizes → j ≢ k → ShareNothing (flash_spot b.flash_base sizes j) (flash_spot b.flash_base sizes k)
  apart_at j k l h ne = ⊎_elim (λ le. inl (omega arith)) (λ le. inr (omega arith)) (one_first sizes j k l h ne)

-- ---- no block is larger than the first

grows : (m : ℕ) (xs : List ℕ) → m ≤ fold max m xs
grows m [] = omega arith
grows m (x ∷ xs) = let h = grows (max m x) xs in omega arith

at_most : (m n : ℕ) (xs : List ℕ) → fold max m xs ≤ n → Each (λ x. x ≤ n) xs
at_most m n [] l = tt
at_most m n (x ∷ xs) l = let h = grows (max m x) xs in (omega arith, at_most (max m x) n xs l)

none_above : (v : ℕ) (xs : List ℕ) → Each (λ x. x ≤ v) xs → sum (filter (λ x. nat_lt v x) xs) ≡ 0
none_above v [] h = refl
none_above v (x ∷ xs) h = ap (λ c. sum (cond c (x ∷ filter (λ y. nat_lt v y) xs) (filter (λ y. nat_lt v y) xs))) (le-ltb v x h.0) ∙ none_above v xs h.1

nothing_before : (s : Sizes) → bytes_before (flash_blocks s) 0 ≡ 0
unfolding bytes_before flash_blocks
nothing_before s =
    let v = tables_block s in
    let bound : greatest (code_blocks s) ≤ v = omega arith in
    let all : Each (λ x. x ≤ v) (v ∷ code_blocks s) = (omega arith, at_most 0 v (code_blocks s) bound) in
    let zero = none_above v (v ∷ code_blocks s) all in
    omega arith

-- ---- in a plan

module _ (p : Program) (f : Final) (s : Sizes) (b : Board) (ok : IsBoard b) (room : flash_needed s ≤ b.flash_size) where
  abbrev plan : Plan
  plan = plan_of p f s b

  count : length (flash_blocks s) ≡ length s.code + 1
  unfolding flash_blocks
  count = let n = length-map s.code block_size_for in omega arith

  code_count : length plan.code ≡ length s.code
  unfolding plan_of
  code_count = length-map-range_with_len (code_spot b.flash_base s) 0 (length s.code)

  code_at : (c : ℕ) → c < length s.code → compartment_spot plan c ≡ flash_spot b.flash_base (flash_blocks s) (suc c)
  unfolding plan_of
  code_at c l = get_or-map-range_with_len (code_spot b.flash_base s) 0 (length s.code) c c no_spot l (omega arith)

  tables_at : plan.tables ≡ flash_spot b.flash_base (flash_blocks s) 0
  unfolding plan_of
  tables_at = refl

  there : (c : ℕ) → c < length plan.code → c < length s.code
  there c l = let n = code_count in omega arith

  listed : (c : ℕ) → c < length s.code → suc c < length (flash_blocks s)
  listed c l = let n = count in omega arith

  first_listed : 0 < length (flash_blocks s)
  first_listed = let n = count in omega arith

  vectors : plan.tables.base ≡ b.flash_base
  vectors = ap (λ (t : Spot). t.base) tables_at ∙ (let n = nothing_before s in omega arith)

  pub laid : IsFlashLaid b plan
  laid =
      record {
        vectors = vectors;
        tables_inside = subst (λ (t : Spot). IsIn t b.flash_base b.flash_size) (sym tables_at) (inside_at s b ok room 0 first_listed);
        tables_aligned = subst IsAligned (sym tables_at) (aligned_at s b ok room 0 first_listed);
        inside = λ c l. let h = there c l in subst (λ (t : Spot). IsIn t b.flash_base b.flash_size) (sym (code_at c h)) (inside_at s b ok room (suc c) (listed c h));
        aligned = λ c l. let h = there c l in subst IsAligned (sym (code_at c h)) (aligned_at s b ok room (suc c) (listed c h));
        tables_apart = λ c l. let h = there c l in apart_from_tables c h;
        apart = λ c d l m ne. two_apart c d (there c l) (there d m) ne;
      }
    where
      apart_from_tables : (c : ℕ) → c < length s.code → ShareNothing plan.tables (compartment_spot plan c)
      apart_from_tables c h =
          subst (λ (t : Spot). ShareNothing t (compartment_spot plan c)) (sym tables_at)
          (subst (λ (t : Spot). ShareNothing (flash_spot b.flash_base (flash_blocks s) 0) t) (sym (code_at c h)) (apart_at s b ok room 0 (suc c) first_listed (listed c h) (λ e. absurd (omega arith))))

      two_apart : (c d : ℕ) → c < length s.code → d < length s.code → c ≢ d → ShareNothing (compartment_spot plan c) (compartment_spot plan d)
      two_apart c d h i ne =
          subst (λ (t : Spot). ShareNothing t (compartment_spot plan d)) (sym (code_at c h))
          (subst (λ (t : Spot). ShareNothing (flash_spot b.flash_base (flash_blocks s) (suc c)) t) (sym (code_at d i)) (apart_at s b ok room (suc c) (suc d) (listed c h) (listed d i) (λ e. ne (omega arith))))

pub flash_is_laid : FlashIsLaid
flash_is_laid p f s b ok fits = laid p f s b ok fits.flash
