-- The ranges that start-up fills, and that no two share an address.
use Rattle.std.proofs.Common.{◌≡◌, ◌≢◌, ℕ, zero, suc, ◌+◌, ◌-◌, ◌*◌, ◌%◌, ◌^◌, ◌<◌, ◌≤◌, inl, inr, List, [], ◌∷◌, ◌++◌, length, map, refl, sym, ap, subst, arith}
use Rattle.std.specs.Prelude.{unwrap_or}
use Rattle.std.specs.List.{range_with_len}
use Rattle.base_laws.specs.Lists.{Each}
use Rattle.base_ranges.specs.Ranges.{IsInside, AreApart}
use Rattle.ir_model.specs.Resolved.{Program}
use Rattle.ir_model.specs.Resolve.{resolve}
use Rattle.plan_model.specs.declared.graph.Final.{Final}
use Rattle.plan_model.specs.declared.plan.Plan.{Plan}
use Rattle.plan_model.specs.Lists.{numbers_below}
use Rattle.plan_model.specs.Boards.{slots_of}
use Rattle.plan_model.specs.Regions.{region_at}
use Rattle.plan_model.specs.Blocks.{block_size_for, region_bytes}
use Rattle.plan_model.specs.TableSize.{words_in}
use Rattle.plan_model.specs.RamBlocks.{RamUse, ForStack, ForMonitor, ForRegion, ForUnwritten}
use Rattle.plan_model.specs.Placement.{region_spot, no_spot}
use Rattle.plan_layout_laws.specs.RamLaws.{HoldsAddress, open_bytes}
use Rattle.plan_layout_laws.specs.RamPlaces.{HasBlock, block_for}
use Rattle.monitor_model.specs.declared.tables.InitRecord.{InitRecord}
use Rattle.monitor_model.specs.Promises.{RangesAreApart}
use Rattle.image_model.specs.LinkedTables.{Filled, filled, filled_unwritten, init_records, words_begin, tables_of}
use Rattle.image_promises.specs.Planned.{planned_tables}
use Rattle.plan.specs.PlannedFirmwares.{plan}
use Rattle.image_promises.proofs.PlannedPremises.{PlannedPremises}
use Rattle.image_promises.proofs.Facts.{PlanLaws}
use Rattle.plan_layout_laws.proofs.PowersOfTwo.{block_positive}
use Rattle.image_promises.proofs.Passing.{apart_from}
use Rattle.image_promises.proofs.OpenBytes.{words_held}

-- ---- each block that is filled, with its use

-- the globals of a use's block
abbrev pub globals_for : Final → RamUse → List ℕ
globals_for f ForStack = []
globals_for f ForMonitor = []
globals_for f (ForRegion r) = (region_at f.regions r).globals
globals_for f ForUnwritten = f.unwritten

-- blocks of globals
abbrev pub IsOfGlobals : RamUse → Type 0
IsOfGlobals ForStack = ⊥
IsOfGlobals ForMonitor = ⊥
IsOfGlobals (ForRegion r) = Unit {0}
IsOfGlobals ForUnwritten = Unit {0}

-- the uses of the blocks that are filled
abbrev unwritten_uses : List ℕ → List RamUse
unwritten_uses [] = []
unwritten_uses (x ∷ xs) = ForUnwritten ∷ []

abbrev pub uses : Final → List RamUse
uses f = map ForRegion (numbers_below (length f.regions)) ++ unwritten_uses f.unwritten

abbrev pub filled_for : Final → Plan → RamUse → Filled
filled_for f l u = record { base = (block_for l u).base; globals = globals_for f u }

regions_filled : (f : Final) (l : Plan) (lo n : ℕ) (bs : List Filled) (us : List RamUse) → bs ≡ map (filled_for f l) us
    → map (λ r. record { base = (region_spot l r).base; globals = (region_at f.regions r).globals }) (range_with_len lo n) ++ bs ≡ map (filled_for f l) (map ForRegion (range_with_len lo n) ++ us)
regions_filled f l lo zero bs us e = e
regions_filled f l lo (suc n) bs us e = ap (λ xs. filled_for f l (ForRegion lo) ∷ xs) (regions_filled f l (lo + 1) n bs us e)

unwritten_filled : (f : Final) (l : Plan) (xs : List ℕ) → f.unwritten ≡ xs → filled_unwritten l xs ≡ map (filled_for f l) (unwritten_uses xs)
unwritten_filled f l [] e = refl
unwritten_filled f l (x ∷ xs) e = ap (λ ys. record { base = (unwrap_or l.unwritten no_spot).base; globals = ys } ∷ []) (sym e)

pub filled_is : (f : Final) (l : Plan) → filled f l ≡ map (filled_for f l) (uses f)
filled_is f l = regions_filled f l 0 (length f.regions) (filled_unwritten l f.unwritten) (unwritten_uses f.unwritten) (unwritten_filled f l f.unwritten refl)

-- ---- the uses are different, and each has its block

pub record IsUse (f : Final) (u : RamUse) : Type 0 where
  pub of_globals : IsOfGlobals u
  pub there : HasBlock f u

abbrev pub AllDiffer : List RamUse → Type 0
AllDiffer [] = Unit {0}
AllDiffer (u ∷ us) = Each (λ v. u ≢ v) us × AllDiffer us

-- the number of the data region that a block is for, or 0
abbrev pub number_of : RamUse → ℕ
number_of (ForRegion r) = r
number_of _ = 0

differ : (k lo n : ℕ) (us : List RamUse) → k < lo → Each (λ v. ForRegion k ≢ v) us → Each (λ v. ForRegion k ≢ v) (map ForRegion (range_with_len lo n) ++ us)
differ k lo zero us lt e = e
differ k lo (suc n) us lt e = (λ q. let m : k ≡ lo = ap number_of q in absurd (omega (arith, lt, m)), differ k (lo + 1) n us (omega (arith, lt)) e)

all_differ : (lo n : ℕ) (us : List RamUse) → ((k : ℕ) → Each (λ v. ForRegion k ≢ v) us) → AllDiffer us → AllDiffer (map ForRegion (range_with_len lo n) ++ us)
all_differ lo zero us e d = d
all_differ lo (suc n) us e d = (differ lo (lo + 1) n us (omega arith) (e lo), all_differ (lo + 1) n us e d)

are_uses : (f : Final) (lo n : ℕ) (us : List RamUse) → lo + n ≤ length f.regions → Each (IsUse f) us → Each (IsUse f) (map ForRegion (range_with_len lo n) ++ us)
are_uses f lo zero us h e = e
are_uses f lo (suc n) us h e = (record { of_globals = tt; there = omega (arith, h) }, are_uses f (lo + 1) n us (omega (arith, h)) e)

pub uses_differ : (f : Final) → AllDiffer (uses f)
uses_differ f = all_differ 0 (length f.regions) (unwritten_uses f.unwritten) (none f.unwritten) (alone f.unwritten)
  where
    none : (xs : List ℕ) (k : ℕ) → Each (λ v. ForRegion k ≢ v) (unwritten_uses xs)
    none [] k = tt
    none (x ∷ xs) k = (λ q. cc, tt)

    alone : (xs : List ℕ) → AllDiffer (unwritten_uses xs)
    alone [] = tt
    alone (x ∷ xs) = (tt, tt)

pub uses_are : (f : Final) → Each (IsUse f) (uses f)
uses_are f = are_uses f 0 (length f.regions) (unwritten_uses f.unwritten) (omega arith) (last f.unwritten refl)
  where
    last : (xs : List ℕ) → f.unwritten ≡ xs → Each (IsUse f) (unwritten_uses xs)
    last [] e = tt
    last (x ∷ xs) e = let m : length f.unwritten ≡ length (x ∷ xs) = ap length e in (record { of_globals = tt; there = omega (arith, m) }, tt)

-- ---- their ranges

-- how many bytes the globals of a use's block take, and how many of the block are open
abbrev pub use_bytes : PlannedPremises → RamUse → ℕ
use_bytes planned u = region_bytes (resolve planned.firmware) (globals_for planned.final u)

abbrev pub open_room : PlannedPremises → RamUse → ℕ
open_room planned u = open_bytes (block_size_for (use_bytes planned u)) (use_bytes planned u)

-- shorter ranges are apart where longer ones from the same addresses are
pub shorter_apart : (b n m c k j : ℕ) → n ≤ m → k ≤ j → AreApart b m c j → AreApart b n c k
shorter_apart b n m c k j h g (inl e) = inl (omega (arith, h, e))
shorter_apart b n m c k j h g (inr e) = inr (omega (arith, g, e))

module _ (law : PlanLaws) (planned : PlannedPremises) where
  open planned use {firmware as w, needs as n, final as f, board as b, is_planned as ok}

  abbrev p : Program
  p = resolve w

  abbrev l : Plan
  l = plan w n f b

  abbrev filling : RamUse → ℕ
  filling u = 4 * words_in p (globals_for f u)

  pub block_size_is : (u : RamUse) → IsUse f u → (block_for l u).size ≡ block_size_for (use_bytes planned u)
  block_size_is ForStack h = absurd h.of_globals
  block_size_is ForMonitor h = absurd h.of_globals
  block_size_is (ForRegion r) h = law.there p f _ b (ForRegion r) h.there
  block_size_is ForUnwritten h = law.there p f _ b ForUnwritten h.there

  pub block_in : (u : RamUse) → IsUse f u → IsInside (block_for l u).base (block_size_for (use_bytes planned u)) b.ram_base b.ram_size × ((block_for l u).base % block_size_for (use_bytes planned u) ≡ 0)
  block_in u h =
      let e = block_size_is u h in
      let q = block_positive (use_bytes planned u) in
      let i = law.inside p f _ b u ok.board ok.fits (omega (arith, e, q)) in
      subst (λ z. IsInside (block_for l u).base z b.ram_base b.ram_size × ((block_for l u).base % z ≡ 0)) e i

  pub small : (u : RamUse) → IsUse f u → block_size_for (use_bytes planned u) < 2 ^ 32
  small u h = let i = (block_in u h).0 in let a = i.1 in let d = ok.board.ram_highest in let m = ok.board.ram_size.most in omega (arith, a, d, m)

  -- a block holds the addresses of its open bytes
  pub holds_it : (u : RamUse) → IsUse f u → (x : ℕ) → (block_for l u).base ≤ x → x < (block_for l u).base + open_room planned u → HoldsAddress p f l u x
  holds_it ForStack h x a c = absurd h.of_globals
  holds_it ForMonitor h x a c = absurd h.of_globals
  holds_it (ForRegion r) h x a c = (a, subst (λ z. x < (region_spot l r).base + open_bytes z (use_bytes planned (ForRegion r))) (sym (block_size_is (ForRegion r) h)) c)
  holds_it ForUnwritten h x a c = (a, subst (λ z. x < (unwrap_or l.unwritten no_spot).base + open_bytes z (use_bytes planned ForUnwritten)) (sym (block_size_is ForUnwritten h)) c)

  -- from another such block
  pub two_apart : (u v : RamUse) → u ≢ v → IsUse f u → IsUse f v → AreApart (block_for l u).base (filling u) (block_for l v).base (filling v)
  two_apart u v ne h k =
      let a = words_held (use_bytes planned u) (small u h) in
      let c = words_held (use_bytes planned v) (small v k) in
      shorter_apart (block_for l u).base (filling u) (open_room planned u) (block_for l v).base (filling v) (open_room planned v) a.0 c.0
      (apart_from (block_for l u).base (open_room planned u) (block_for l v).base (open_room planned v) a.1 c.1
      (λ x s t y z. law.apart p f _ b u v x ne (holds_it u h x s t) (holds_it v k x y z)))

  as_range : (a n c m : ℕ) → AreApart a n c m → AreApart a (a + n - a) c (c + m - c)
  as_range a n c m (inl e) = inl (omega (arith, e))
  as_range a n c m (inr e) = inr (omega (arith, e))

  one_apart : (u : RamUse) (at : ℕ) (us : List RamUse) → IsUse f u → Each (λ v. u ≢ v) us → Each (IsUse f) us
      → Each (λ (k : InitRecord). AreApart (block_for l u).base ((block_for l u).base + filling u - (block_for l u).base) k.at (k.end - k.at)) (init_records p at (map (filled_for f l) us))
  one_apart u at [] h ne e = tt
  one_apart u at (v ∷ vs) h ne e = (as_range (block_for l u).base (filling u) (block_for l v).base (filling v) (two_apart u v ne.0 h e.0), one_apart u (at + filling v) vs h ne.1 e.1)

  all_apart : (at : ℕ) (us : List RamUse) → AllDiffer us → Each (IsUse f) us → RangesAreApart (init_records p at (map (filled_for f l) us))
  all_apart at [] d e = tt
  all_apart at (u ∷ us) d e = (one_apart u (at + filling u) us e.0 d.0 e.1, all_apart (at + filling u) us d.1 e.1)

  pub ranges_are_apart : RangesAreApart (planned_tables w n f b).inits
  unfolding tables_of
  ranges_are_apart =
      let at = words_begin p n f l (slots_of b) in
      subst (λ bs. RangesAreApart (init_records p at bs)) (sym (filled_is f l)) (all_apart at (uses f) (uses_differ f) (uses_are f))
