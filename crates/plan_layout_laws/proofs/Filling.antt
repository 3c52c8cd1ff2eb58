-- No address of filled RAM is in two areas; an area is what a block holds, or a tail.
use Rattle.std.proofs.Common.{◌≡◌, ℕ, ◌+◌, ◌<◌, ◌≤◌, ◌⊎◌, inl, inr, Bool, true, false, cond, List, [], ◌∷◌, ◌++◌, length, get_or, set, map, max, Option, Some, None, refl, sym, ap, subst, ◌∙◌, leb-true, arith}
use Rattle.std.specs.List.{fold, position}
use Rattle.std.proofs.lemmas.Bool.{cases_lt}
use Rattle.std.proofs.lemmas.List.{map_push, append-nil, append_assoc}
use mathlib.Core.Logic.{⊎_elim}
use Rattle.ir_model.specs.Layout.{rounded_up}
use Rattle.plan_model.specs.RamBlocks.{RamBlock, ForStack, holds_globals, full_block}
use Rattle.plan_model.specs.RamPlacement.{Tail, Ram, PlacedBlock, no_tail, tail_of, fits, tail_for, spot_at, with_block, with_block_by, with_block_in, with_block_behind, empty_ram, largest_with, stack_first}
use Rattle.plan_layout.proofs.Searches.{position_is}
use Rattle.plan_layout_laws.proofs.Hits.{hit, hit_once, hit_below, hit_above, hit_joined, hit_later, tails_hit, tails_joined, tails_set, held, block_hit}
use Rattle.ir_model.proofs.Counting.{rounded_at_least}

-- a block at its base
pub record Entry : Type 0 where
  pub base : ℕ
  pub block : RamBlock

abbrev pub placed : Entry → PlacedBlock
placed e = spot_at e.base e.block

abbrev pub entries_hit : List Entry → (x : ℕ) → ℕ
entries_hit [] x = 0
entries_hit (e ∷ es) x = hit e.base (e.base + held e.block) x + entries_hit es x

entries_joined : (es ds : List Entry) (x : ℕ) → entries_hit (es ++ ds) x ≡ entries_hit es x + entries_hit ds x
entries_joined [] ds x = omega arith
entries_joined (e ∷ es) ds x = let ih = entries_joined es ds x in omega arith

-- how often an address is in an area of RAM, of those up to now
abbrev areas_hit : Ram → List Entry → (x : ℕ) → ℕ
areas_hit m es x = tails_hit m.tails x + entries_hit es x

pub record Fair (ram : ℕ) (m : Ram) (es : List Entry) : Type 0 where
  pub blocks : m.blocks ≡ map placed es
  pub once : (x : ℕ) → areas_hit m es x ≤ 1
  pub outside : (x : ℕ) → (x < ram) ⊎ (ram + m.used ≤ x) → areas_hit m es x ≡ 0

-- ---- the greatest of a size and the sizes of blocks

pub largest_at_least : (n : ℕ) (bs : List RamBlock) → n ≤ largest_with n bs
largest_at_least n [] = omega arith
largest_at_least n (b ∷ bs) = let l = largest_at_least (max n b.size) bs in omega arith

-- ---- one block more

one_more : (es : List Entry) (base : ℕ) (b : RamBlock) (x : ℕ) → entries_hit (es ++ record { base = base; block = b } ∷ []) x ≡ entries_hit es x + hit base (base + held b) x
one_more es base b x = let j = entries_joined es (record { base = base; block = b } ∷ []) x in omega arith

-- the tail that a block of globals goes to
pub tail_found : (m : Ram) (b : RamBlock) → (holds_globals b.use_of ≡ true → 0 < b.size) → (c : Bool) (k : ℕ) → holds_globals b.use_of ≡ c → cond c (position (fits b.size) m.tails) None ≡ Some k
    → (k < length m.tails) × (fits b.size (get_or m.tails k no_tail) ≡ true) × (0 < b.size)
tail_found m b positive true k h e = let p = position_is (fits b.size) m.tails k no_tail (sym e) in (p.0, p.1, positive h)
tail_found m b positive false k h e = cc

module _ (ram : ℕ) (m : Ram) (es : List Entry) (fair : Fair ram m es) (b : RamBlock) where
  -- behind
  abbrev new_base : ℕ
  new_base = ram + m.used

  abbrev behind_entries : List Entry
  behind_entries = es ++ record { base = new_base; block = b } ∷ []

  behind_areas : (x : ℕ) → areas_hit (with_block_behind ram m b) behind_entries x ≡ areas_hit m es x + hit new_base (new_base + b.size) x
  behind_areas x =
      let t = tails_joined m.tails (tail_of new_base b) x in
      let e = one_more es new_base b x in
      let whole = block_hit new_base b x in
      omega arith

  behind : Fair ram (with_block_behind ram m b) behind_entries
  behind =
      record {
        blocks = ap (λ (bs : List PlacedBlock). bs ++ spot_at new_base b ∷ []) fair.blocks ∙ sym (map_push placed es (record { base = new_base; block = b }));
        once = once;
        outside = outside;
      }
    where
      once : (x : ℕ) → areas_hit (with_block_behind ram m b) behind_entries x ≤ 1
      once x =
          let sum = behind_areas x in
          ⊎_elim
          (λ l. let none = hit_below new_base (new_base + b.size) x l in let old = fair.once x in omega arith)
          (λ h. let none = fair.outside x (inr h) in let new = hit_once new_base (new_base + b.size) x in omega arith)
          (cases_lt x new_base)

      outside : (x : ℕ) → (x < ram) ⊎ (ram + (m.used + b.size) ≤ x) → areas_hit (with_block_behind ram m b) behind_entries x ≡ 0
      outside x o =
          let sum = behind_areas x in
          ⊎_elim
          (λ (l : x < ram). let old = fair.outside x (inl l) in let none = hit_below new_base (new_base + b.size) x (omega arith) in omega arith)
          (λ (h : ram + (m.used + b.size) ≤ x). let old = fair.outside x (inr (omega arith)) in let none = hit_above new_base (new_base + b.size) x (omega arith) in omega arith)
          o

  -- in a tail
  module _ (k : ℕ) (there : k < length m.tails) (room : fits b.size (get_or m.tails k no_tail) ≡ true) (some : 0 < b.size) where
    abbrev tail : Tail
    tail = get_or m.tails k no_tail

    abbrev in_base : ℕ
    in_base = rounded_up tail.from b.size

    abbrev in_entries : List Entry
    in_entries = es ++ record { base = in_base; block = b } ∷ []

    above : tail.from ≤ in_base
    above = rounded_at_least tail.from b.size some

    ends : in_base + b.size ≤ tail.to
    ends = leb-true (in_base + b.size) tail.to room

    in_areas : (x : ℕ) → areas_hit (with_block_in m k tail b) in_entries x + hit tail.from tail.to x ≡ areas_hit m es x + hit in_base tail.to x
    in_areas x =
        let t = tails_joined (set m.tails k (record tail { from = in_base + b.size })) (tail_of in_base b) x in
        let u = tails_set m.tails k (record tail { from = in_base + b.size }) no_tail x there in
        let e = one_more es in_base b x in
        let whole = block_hit in_base b x in
        let split = hit_joined in_base (in_base + b.size) tail.to x (omega arith) ends in
        omega arith

    inside : Fair ram (with_block_in m k tail b) in_entries
    inside =
        record {
          blocks = ap (λ (bs : List PlacedBlock). bs ++ spot_at in_base b ∷ []) fair.blocks ∙ sym (map_push placed es (record { base = in_base; block = b }));
          once = λ x. let sum = in_areas x in let less = hit_later tail.from in_base tail.to x above in let old = fair.once x in omega arith;
          outside = λ x o. let sum = in_areas x in let less = hit_later tail.from in_base tail.to x above in let old = fair.outside x o in omega arith;
        }

  -- wherever it goes
  pub more : (holds_globals b.use_of ≡ true → 0 < b.size) → (e : Entry) × (e.block ≡ b) × Fair ram (with_block ram m b) (es ++ e ∷ [])
  unfolding with_block
  more positive = by (tail_for m.tails b) refl
    where
      by : (o : Option ℕ) → tail_for m.tails b ≡ o → (e : Entry) × (e.block ≡ b) × Fair ram (with_block_by ram m b o) (es ++ e ∷ [])
      by None e = (record { base = new_base; block = b }, refl, behind)
      by (Some k) e =
          let f = tail_found m b positive (holds_globals b.use_of) k refl e in
          (record { base = rounded_up (get_or m.tails k no_tail).from b.size; block = b }, refl, inside k f.0 f.1 f.2)

-- ---- all blocks

-- blocks of globals are not empty
abbrev pub ArePositive : List RamBlock → Type 0
ArePositive [] = Unit {0}
ArePositive (b ∷ bs) = (holds_globals b.use_of ≡ true → 0 < b.size) × ArePositive bs

pub record Filled (ram : ℕ) (m : Ram) (bs : List RamBlock) : Type 0 where
  pub entries : List Entry
  pub are : map (λ (e : Entry). e.block) entries ≡ bs
  pub fair : Fair ram m entries

fill : (ram : ℕ) (m : Ram) (done bs : List RamBlock) → Filled ram m done → ArePositive bs → Filled ram (fold (with_block ram) m bs) (done ++ bs)
fill ram m done [] h p = subst (λ (cs : List RamBlock). Filled ram m cs) (sym (append-nil done)) h
fill ram m done (b ∷ bs) h p =
    let n = more ram m h.entries h.fair b p.0 in
    let next : Filled ram (with_block ram m b) (done ++ b ∷ []) =
    record {
      entries = h.entries ++ n.0 ∷ [];
      are = map_push (λ (e : Entry). e.block) h.entries n.0 ∙ (ap (λ (cs : List RamBlock). cs ++ n.0.block ∷ []) h.are ∙ ap (λ (c : RamBlock). done ++ c ∷ []) n.1);
      fair = n.2;
    } in
    subst (λ (cs : List RamBlock). Filled ram (fold (with_block ram) (with_block ram m b) bs) cs) (append_assoc done (b ∷ []) bs) (fill ram (with_block ram m b) (done ++ b ∷ []) bs next p.1)

pub filled_all : (ram : ℕ) (bs : List RamBlock) → ArePositive bs → Filled ram (fold (with_block ram) empty_ram bs) bs
filled_all ram bs p = fill ram empty_ram [] bs (record { entries = []; are = refl; fair = record { blocks = refl; once = λ x. omega arith; outside = λ x o. refl } }) p

-- ---- behind the stack

module _ (ram stack : ℕ) (bs : List RamBlock) where
  abbrev stack_block : RamBlock
  stack_block = full_block ForStack stack

  abbrev stack_entries : List Entry
  stack_entries = record { base = ram; block = stack_block } ∷ []

  -- the stack and the gap behind it are what is used
  stack_areas : (x : ℕ) → areas_hit (stack_first ram stack bs) stack_entries x ≡ hit ram (ram + largest_with stack bs) x
  stack_areas x =
      let l = largest_at_least stack bs in
      let split = hit_joined ram (ram + stack) (ram + largest_with stack bs) x (omega arith) (omega arith) in
      omega arith

  stack_fair : Fair ram (stack_first ram stack bs) stack_entries
  stack_fair = record { blocks = refl; once = once; outside = outside }
    where
      once : (x : ℕ) → areas_hit (stack_first ram stack bs) stack_entries x ≤ 1
      once x = let sum = stack_areas x in let one = hit_once ram (ram + largest_with stack bs) x in omega arith

      outside : (x : ℕ) → (x < ram) ⊎ (ram + largest_with stack bs ≤ x) → areas_hit (stack_first ram stack bs) stack_entries x ≡ 0
      outside x o =
          let sum = stack_areas x in
          ⊎_elim (λ l. let none = hit_below ram (ram + largest_with stack bs) x l in omega arith) (λ h. let none = hit_above ram (ram + largest_with stack bs) x h in omega arith) o

  pub filled_behind : ArePositive bs → Filled ram (fold (with_block ram) (stack_first ram stack bs) bs) (stack_block ∷ bs)
  filled_behind p = fill ram (stack_first ram stack bs) (stack_block ∷ []) bs (record { entries = stack_entries; are = refl; fair = stack_fair }) p
