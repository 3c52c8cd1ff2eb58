-- One block more, in lists and in RAM.
use Rattle.std.proofs.Common.{◌≡◌, ℕ, ◌+◌, ◌-◌, ◌*◌, ◌/◌, ◌<◌, ◌≤◌, Bool, true, false, ◌&&◌, cond, List, [], ◌∷◌, ◌++◌, length, get_or, set, map, Option, Some, None, nat_lt, refl, sym, ap, ◌∙◌, le-leb, lt-ltb, le-ltb, leb-true, arith}
use Rattle.std.specs.List.{position}
use Rattle.std.proofs.lemmas.List.{map-set, append_assoc}
use Rattle.std.proofs.lemmas.List.FromFn.{map-range_with_len_more}
use Rattle.ir_model.specs.Layout.{rounded_up}
use Rattle.plan_model.specs.Lists.{numbers_below}
use Rattle.plan_model.specs.Blocks.{has_eighths, open_eighths}
use Rattle.ir_model.specs.Resolved.{Program}
use Rattle.plan_model.specs.declared.graph.DataRegion.{DataRegion}
use Rattle.plan_model.specs.declared.graph.Final.{Final}
use Rattle.plan_model.specs.RamBlocks.{RamBlock, ForStack, ForMonitor, holds_globals, full_block, region_block, unwritten_block, other_blocks, ram_blocks}
use Rattle.plan_model.specs.RamPlacement as definition
use Rattle.plan_model.specs.RamPlacement.{Ram, PlacedBlock, no_tail, tail_of, fits, tail_for, spot_at, with_block_in}
use Rattle.plan_layout.specs.declared.ram.UsedBlock.{UsedBlock}
use Rattle.plan_layout.specs.declared.ram.Tail.{Tail}
use Rattle.plan_layout.specs.Filling.{block_seen, tail_seen}
use Rattle.plan_layout.proofs.Searches.{position_is}

-- the same behind other items
pub mapped_behind : {X : Type 0} (first : List X) (f : ℕ → X) (n : ℕ) (before after : List X) (x : X) → before ≡ first ++ map f (numbers_below n) → x ≡ f n → after ≡ before ++ x ∷ [] → after ≡ first ++ map f (numbers_below (n + 1))
mapped_behind first f n before after x b e a =
    a
    ∙ (ap (λ xs. xs ++ x ∷ []) b
    ∙ (ap (λ y. (first ++ map f (numbers_below n)) ++ y ∷ []) e
    ∙ (append_assoc first (map f (numbers_below n)) (f n ∷ [])
    ∙ ap (λ ys. first ++ ys) (sym (map-range_with_len_more f 0 n n (omega arith))))))

-- ---- tails

all_hold : (a b c : Bool) → a ≡ true → b ≡ true → c ≡ true → (a && (b && c)) ≡ true
all_hold a b c e f g = rw (e, f, g) refl

last_fails : (a b c : Bool) → a ≡ true → b ≡ true → c ≡ false → (a && (b && c)) ≡ false
last_fails a b c e f g = rw (e, f, g) refl

abbrev upper : (base size eighths : ℕ) → definition.Tail
upper base size eighths = record { from = base + size / 8 * eighths; to = base + size }

pub tail_there : (base eighths : ℕ) (b : RamBlock) → holds_globals b.use_of ≡ true → 256 ≤ b.size → eighths ≡ open_eighths b.size b.bytes → eighths < 8
    → upper base b.size eighths ∷ [] ≡ tail_of base b
tail_there base eighths b h l e s =
    let o = open_eighths b.size b.bytes in
    let small : o < 8 = omega arith in
    ap (λ n. upper base b.size n ∷ []) e
    ∙ sym (ap (λ (c : Bool). cond c (upper base b.size o ∷ []) []) (all_hold (holds_globals b.use_of) (has_eighths b.size) (nat_lt o 8) h (le-leb 256 b.size l) (lt-ltb o 8 small)))

pub tail_not_there : (base eighths : ℕ) (b : RamBlock) → holds_globals b.use_of ≡ true → 256 ≤ b.size → eighths ≡ open_eighths b.size b.bytes → 8 ≤ eighths → [] ≡ tail_of base b
tail_not_there base eighths b h l e s =
    let o = open_eighths b.size b.bytes in
    let large : 8 ≤ o = omega arith in
    sym (ap (λ (c : Bool). cond c (upper base b.size o ∷ []) []) (last_fails (holds_globals b.use_of) (has_eighths b.size) (nat_lt o 8) h (le-leb 256 b.size l) (le-ltb o 8 large)))

-- by the quotient
pub open_is : (size bytes eighth n : ℕ) → eighth ≡ size / 8 → n ≡ bytes → (n + (eighth - 1)) / eighth ≡ open_eighths size bytes
unfolding open_eighths
open_is size bytes eighth n e f = rw (e, f) refl

-- where a block of globals looks for a tail
pub tail_for_is : (ts : List definition.Tail) (b : RamBlock) (o : Option ℕ) → holds_globals b.use_of ≡ true → o ≡ position (fits b.size) ts → o ≡ tail_for ts b
tail_for_is ts b o h e = e ∙ sym (ap (λ (c : Bool). cond c (position (fits b.size) ts) None) h)

-- and what it finds
pub tail_found : (ts : List definition.Tail) (b : RamBlock) (k : ℕ) → Some k ≡ tail_for ts b → (k < length ts) × (fits b.size (get_or ts k no_tail) ≡ true)
tail_found ts b k e = by (holds_globals b.use_of) e
  where
    by : (c : Bool) → Some k ≡ cond c (position (fits b.size) ts) None → (k < length ts) × (fits b.size (get_or ts k no_tail) ≡ true)
    by true h = position_is (fits b.size) ts k no_tail h
    by false h = cc

-- the block's end in it
pub fits_seen : (size : ℕ) (t : Tail) (u : definition.Tail) → tail_seen t ≡ u → fits size u ≡ true → rounded_up t.from size + size ≤ t.to
fits_seen size t u e f = leb-true (rounded_up t.from size + size) t.to (ap (fits size) e ∙ f)

-- from its base on
pub block_ends : (size base : ℕ) (t : Tail) (u : definition.Tail) → tail_seen t ≡ u → base ≡ rounded_up t.from size → fits size u ≡ true → base + size ≤ t.to
block_ends size base t u e r f = let room = fits_seen size t u e f in omega (arith, r)

-- a block that is put into it
pub in_tail : (used k base : ℕ) (ts us : List Tail) (t : Tail) (b : RamBlock) (ls : List PlacedBlock) → tail_seen t ≡ get_or (map tail_seen ts) k no_tail → base ≡ rounded_up t.from b.size
    → us ≡ set ts k (record { from = base + b.size; to = t.to })
    → (let m : Ram = record { used = used; tails = map tail_seen us ++ tail_of base b; blocks = ls ++ spot_at base b ∷ [] } in m)
    ≡ with_block_in (record { used = used; tails = map tail_seen ts; blocks = ls }) k (get_or (map tail_seen ts) k no_tail) b
in_tail used k base ts us t b ls seen r w =
    let left : ℕ → Tail = λ n. record { from = n + b.size; to = t.to } in
    let lists : map tail_seen us ≡ set (map tail_seen ts) k (tail_seen (left base)) = ap (map tail_seen) w ∙ map-set tail_seen ts k (left base) in
    ap (λ (vs : List definition.Tail). let m : Ram = record { used = used; tails = vs ++ tail_of base b; blocks = ls ++ spot_at base b ∷ [] } in m) lists
    ∙ (ap (λ (n : ℕ). let m : Ram = record { used = used; tails = set (map tail_seen ts) k (tail_seen (left n)) ++ tail_of n b; blocks = ls ++ spot_at n b ∷ [] } in m) r
    ∙ ap (λ (u : definition.Tail). with_block_in (record { used = used; tails = map tail_seen ts; blocks = ls }) k u b) seen)

-- ---- all blocks

-- the monitor's block, and what is put behind it
pub other_blocks_are : (p : Program) (f : Final) (m : UsedBlock) (first regions all : List UsedBlock) (rs : List DataRegion) (un : List ℕ) → first ≡ m ∷ []
    → block_seen m ≡ full_block ForMonitor 1024 → rs ≡ f.regions → un ≡ f.unwritten → map block_seen regions ≡ map block_seen first ++ map (region_block p rs) (numbers_below (length rs))
    → map block_seen all ≡ map block_seen regions ++ unwritten_block p un → map block_seen all ≡ other_blocks p f
other_blocks_are p f m first regions all rs un v b e g r w =
    w
    ∙ (ap (λ (xs : List RamBlock). xs ++ unwritten_block p un) r
    ∙ (ap (λ (xs : List UsedBlock). (map block_seen xs ++ map (region_block p rs) (numbers_below (length rs))) ++ unwritten_block p un) v
    ∙ (ap (λ (x : RamBlock). x ∷ (map (region_block p rs) (numbers_below (length rs)) ++ unwritten_block p un)) b
    ∙ (ap (λ (xs : List DataRegion). full_block ForMonitor 1024 ∷ (map (region_block p xs) (numbers_below (length xs)) ++ unwritten_block p un)) e
    ∙ ap (λ (xs : List ℕ). full_block ForMonitor 1024 ∷ (map (region_block p f.regions) (numbers_below (length f.regions)) ++ unwritten_block p xs)) g))))

-- the stack before them
pub ram_blocks_are : (p : Program) (f : Final) (stack : ℕ) (s : UsedBlock) (others all : List UsedBlock) → all ≡ s ∷ others → block_seen s ≡ full_block ForStack stack → map block_seen others ≡ other_blocks p f
    → map block_seen all ≡ ram_blocks p f stack
unfolding ram_blocks
ram_blocks_are p f stack s others all v a e =
    ap (map block_seen) v ∙ (ap (λ (x : RamBlock). x ∷ map block_seen others) a ∙ ap (λ (xs : List RamBlock). full_block ForStack stack ∷ xs) e)
