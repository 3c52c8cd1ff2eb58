-- Cells of objects: where they lie, which values they hold, and when the protection unit lets them be accessed.
use Rattle.std.proofs.Common.{◌≡◌, ℕ, zero, suc, ◌+◌, ◌*◌, ◌%◌, ◌^◌, ◌<◌, ◌≤◌, Bool, true, false, if◌then◌else◌, not, Option, Some, None, List, [], ◌∷◌, length, get_or, filter, nat_eq, nat_lt, refl, ap, ◌∙◌, subst, arith, inl, inr, ⊎_elim}
use Rattle.std.specs.List.{list_any}
use Rattle.std.proofs.lemmas.Bool.Decides.{nat_tests}
use Rattle.base_words.specs.Bytes.{cut}
use Rattle.base_words.proofs.Bytes.{cut_small}
use Rattle.machine_bus.specs.Locations.{location, InRam}
use Rattle.machine_bus.proofs.Offsets.{in_ram}
use Rattle.machine_model.specs.declared.state.ProtectionState.{ProtectionState}
use Rattle.machine_model.specs.State.{State}
use Rattle.machine_model.specs.RunningCode.{Context}
use Rattle.ir_model.specs.Types.{PlainType, U8, U16, U32, Pointer, Array, Callee, width_of, is_integer}
use Rattle.ir_model.specs.Types as types
use Rattle.ir_model.specs.Layout.{CellPlace}
use Rattle.ir_model.specs.Resolved.{Value, Code, At}
use Rattle.ir_model.specs.Signatures.{cell_in}
use Rattle.ir_model.specs.State.{Frame, Memory, Object}
use Rattle.ir_model.specs.Step.{frame_in, is_frame}
use Rattle.ir_laws.specs.Laws.{IsLaidOut}
use Rattle.ir_laws.specs.Cells.{AreCells, IsFound}
use Rattle.ir_laws.specs.Moves.{Where, where_of, wheres}
use Rattle.ir_laws.specs.Sets.{ObjectSets}
use Rattle.ir_laws.specs.Typed.{Fits, number, null, at, code}
use Rattle.plan_model.specs.declared.needs.SiteNeed.{SiteNeed}
use Rattle.plan_model.specs.Crossing.{crosses, stands_at, site_number}
use Rattle.monitor_model.specs.Block.{MonitorBlock}
use Rattle.monitor_model.specs.Threads.{base, stack_end, OffFrame}
use Rattle.refine.specs.Areas.{Area, IsAt}
use Rattle.base_laws.specs.Lists.{Each}
use Rattle.refine.proofs.Areas.{fits_at, cut_zero}
use Rattle.refine.proofs.Thread.{IsSafe}
use Rattle.refine.specs.Builds.{Build, compartment_of, words_at, lends_at, site_at}
use Rattle.refine.specs.Relation.{word_of, areas, held, site_of, beneath, block_of, AllFit}
use Rattle.refine.proofs.Frames.{safe, ceiling_floor}
use Rattle.refine.proofs.Blocks.{all_lent_is, top_least}
use Rattle.refine.proofs.Locals.{is_it}
use Rattle.refine.proofs.Premises.{Premises}
use Rattle.refine.proofs.Steps.{Here as HereStands}
use Rattle.refine.proofs.Registers.{fits_word}
use Rattle.ir_laws.proofs.Layouts.{last_end as after_least}

-- ---- alignment, and where cells end

pub aligned_sum : (t : PlainType) (a b : ℕ) → a % 4 ≡ 0 → b % width_of t ≡ 0 → (a + b) % width_of t ≡ 0
aligned_sum U8 a b h g = omega arith
aligned_sum U16 a b h g = omega arith
aligned_sum U32 a b h g = omega arith
aligned_sum (Pointer t) a b h g = omega arith
aligned_sum (Array n t) a b h g = omega arith
aligned_sum (types.Named n) a b h g = omega arith
aligned_sum (Callee x r) a b h g = omega arith

pub cell_ends : (from to : ℕ) (cs : List CellPlace) (j : ℕ) → IsLaidOut from to cs → j < length cs → (cell_in cs j).at + width_of (cell_in cs j).ty ≤ to
cell_ends from to [] j l h = absurd (omega arith)
cell_ends from to (c ∷ cs) zero l h = after_least (c.at + width_of c.ty) to cs l.1
cell_ends from to (c ∷ cs) (suc j) l h = cell_ends (c.at + width_of c.ty) to cs j l.1 (omega arith)

-- a cell that is found at an offset
pub record Found (cs : List CellPlace) (size c j : ℕ) (t : PlainType) : Type 0 where
  pub below : j < length cs
  pub place : (cell_in cs j).at ≡ c
  pub width : width_of (cell_in cs j).ty ≡ width_of t
  pub ty : (cell_in cs j).ty ≡ t
  pub aligned : c % width_of t ≡ 0
  pub inside : c + width_of t ≤ size

pub found_cell : (cs : List CellPlace) (size c j : ℕ) (t : PlainType) → IsFound cs c t j → AreCells cs → IsLaidOut 0 size cs → Found cs size c j t
found_cell cs size c j t f a l =
    let p = f.place in
    let e : width_of (cell_in cs j).ty ≡ width_of t = ap (λ (y : PlainType). width_of y) f.ty in
    let n = cell_ends 0 size cs j l f.below in
    record {
      below = f.below;
      place = p;
      width = e;
      ty = f.ty;
      aligned = subst (λ (y : ℕ). y % width_of t ≡ 0) p (subst (λ (y : ℕ). (cell_in cs j).at % y ≡ 0) e (a j).aligned);
      inside = omega arith;
    }

-- ---- values fit their cells

small_cell : (t : PlainType) (n : ℕ) → is_integer t ≡ true → n < 2 ^ (8 * width_of t) → cut (width_of t) n ≡ n
small_cell U8 n e h = cut_small 1 n (omega arith)
small_cell U16 n e h = cut_small 2 n (omega arith)
small_cell U32 n e h = cut_small 4 n (omega arith)
small_cell (Pointer t) n e h = cc
small_cell (Array k t) n e h = cc
small_cell (types.Named s) n e h = cc
small_cell (Callee a r) n e h = cc

pub each_at : (P : Area → Type 0) (cs : List Area) (n : ℕ) (c : Area) → Each P cs → IsAt cs n c → P c
each_at P [] n c e i = absurd i
each_at P (d ∷ cs) zero c e i = subst P i e.0
each_at P (d ∷ cs) (suc n) c e i = each_at P cs n c e.1 i

module _ (k : Build) (Inv : MonitorBlock → Context → List ℕ → Type 0) (sizes : PlainType → ℕ) (S : ObjectSets) (w : Premises k Inv sizes S) (places : ℕ → ℕ) where
  pub cell_word : (X : Object → Bool) (t : PlainType) (v : Value) (p : ProtectionState) → Fits k.program sizes X t v → cut (width_of t) (word_of k places v) ≡ word_of k places v
  cell_word X t _ p (number n i h) = small_cell t n i h
  cell_word X t _ p (null h) = cut_zero (width_of t)
  cell_word X _ v p (at o c a b d e) = cut_small 4 (word_of k places (At o c)) (let z = fits_word k Inv sizes S w places X (Pointer _) (At o c) p (at o c a b d e) in omega arith)
  cell_word X _ v p (code g s a h) = cut_small 4 (word_of k places (Code g)) (let z = fits_word k Inv sizes S w places X (Callee _ _) (Code g) p (code g s a h) in omega arith)

  -- ---- one compartment alone: all of the stack is open

  one_group : nat_lt 1 k.groups.count ≡ false → (f : ℕ) → compartment_of k f ≡ 0
  one_group h f = by (nat_lt f (length k.program.funcs)) refl
    where
      beyond : (xs : List ℕ) (n : ℕ) → length xs ≤ n → get_or xs n 0 ≡ 0
      beyond [] n l = refl
      beyond (x ∷ xs) zero l = absurd (omega arith)
      beyond (x ∷ xs) (suc n) l = beyond xs n (omega arith)

      by : (b : Bool) → nat_lt f (length k.program.funcs) ≡ b → compartment_of k f ≡ 0
      by true e = let l : f < length k.program.funcs = grind (arith, nat_tests) in let c = w.linked.code.each f l in let z : k.groups.count ≤ 1 = grind (arith, nat_tests) in omega arith
      by false e = let l : length k.program.funcs ≤ f = grind (arith, nat_tests) in beyond k.groups.of f (let c = w.linked.code.count in omega arith)

  none_cross : nat_lt 1 k.groups.count ≡ false → (f : ℕ) (ts : List ℕ) → list_any (λ t. not (nat_eq (compartment_of k t) (compartment_of k f))) ts ≡ false
  none_cross h f [] = refl
  none_cross h f (t ∷ ts) =
      let a = one_group h t in
      let b = one_group h f in
      let r = none_cross h f ts in
      let e : nat_eq (compartment_of k t) (compartment_of k f) ≡ true = grind (arith, nat_tests) in
      rw e r

  no_sites : nat_lt 1 k.groups.count ≡ false → (ss : List SiteNeed) → filter (crosses k.groups) ss ≡ []
  no_sites h [] = refl
  no_sites h (s ∷ ss) = let c : crosses k.groups s ≡ false = none_cross h s.func s.targets in rw c (no_sites h ss)

  no_site : nat_lt 1 k.groups.count ≡ false → (f b p : ℕ) → site_at k f b p ≡ None
  unfolding site_number
  no_site h f b p = ap (λ (ss : List SiteNeed). Rattle.std.specs.Prelude.position (stands_at f b p) ss) (no_sites h k.needs.sites)

  open_by : (x : Option ℕ) (f : ℕ) (ws : List Where) (b : MonitorBlock) → x ≡ None → (beneath k places x f ws b).top ≡ b.top
  open_by None f ws b e = refl
  open_by (Some s) f ws b e = cc

  all_open : nat_lt 1 k.groups.count ≡ false → (ws : List Where) → (block_of k places ws).top ≡ base k.setting + stack_end k.setting
  all_open h [] = refl
  all_open h (v ∷ ws) =
      (all_lent_is k.setting (places v.number) (beneath k places (site_of k ws) v.func ws (block_of k places ws)) (lends_at k v.func)).top
      ∙ open_by (site_of k ws) v.func ws (block_of k places ws) (none ws) ∙ all_open h ws
    where
      none : (ws : List Where) → site_of k ws ≡ None
      none [] = refl
      none (c ∷ rest) = no_site h c.func c.block c.place

  -- a frame ends inside the stack
  pub frame_ends : (fs : List Frame) (f n : ℕ) (h : Frame) → AllFit k places (wheres fs) → frame_in fs f n ≡ Some h → (k.setting.stack ≤ places n) × (places n + 4 * words_at k f + 4 ≤ stack_end k.setting) × (places n % 8 ≡ 0)
  frame_ends [] f n h fit e = cc
  frame_ends (fr ∷ rest) f n h fit e = by (is_frame fr f n) refl e (λ q. frame_ends rest f n h fit.1 q)
    where
      by : (b : Bool) → is_frame fr f n ≡ b → (if b then Some fr else frame_in rest f n) ≡ Some h →
          (frame_in rest f n ≡ Some h → (k.setting.stack ≤ places n) × (places n + 4 * words_at k f + 4 ≤ stack_end k.setting) × (places n % 8 ≡ 0)) → (k.setting.stack ≤ places n) × (places n + 4 * words_at k f + 4 ≤ stack_end k.setting) × (places n % 8 ≡ 0)
      by true q e ih =
          let t = is_it fr f n q in
          let c = ceiling_floor k places w.facts (site_of k (wheres rest)) (wheres rest) fit.1 in
          let s = safe k places w.facts (wheres rest) fit.1 in
          let i = s.inside in
          let en = fit.0.ends in
          let rm = fit.0.room in
          let a : places fr.number ≡ places n = ap places t.0 in
          let b : words_at k fr.func ≡ words_at k f = ap (words_at k) t.1 in
          let al = fit.0.aligned in
          (omega arith, omega arith, omega arith)
      by false q e ih = ih e

  -- ---- the running frame's open stack, and all others

  module _ (fr : Frame) (rest : List Frame) (m : Memory) (t : State) (st : HereStands k Inv sizes S w places fr rest m t) where
    -- an area of the state keeps off the frame of an exception, and off the monitor's block; it lies in RAM
    pub record Placed (c : Area) : Type 0 where
      pub off_frame : k.setting.stack + 32 ≤ places fr.number → OffFrame k.setting (places fr.number) c.at c.width
      pub safe_at : IsSafe k.setting (places fr.number) c
      pub in_ram_at : location k.setting.image (base k.setting + c.at) ≡ InRam c.at
      pub inside : c.at + c.width ≤ k.setting.image.ram_size
      pub low : base k.setting + c.at < 2 ^ 30

    pub placed_area : (c : Area) (index : ℕ) → 0 < c.width → IsAt (areas k places (wheres (fr ∷ rest))) index c → Placed c
    placed_area c index some i =
        let sf = safe k places w.facts (wheres (fr ∷ rest)) st.fits in
        let s = each_at (IsSafe k.setting (places fr.number)) (areas k places (wheres (fr ∷ rest))) index c sf.each i in
        let rm = st.fits.0.room in
        let fi = fits_at (areas k places (wheres (fr ∷ rest))) (held k places st.statuses (fr ∷ rest) m.globals) index c st.ram st.has i in
        let len = w.law.keeps.as_long _ _ _ st.invariant in
        let rh = w.facts.rules.image.ram_highest in
        let rs = w.facts.rules.image.ram_most in
        record {
          off_frame = λ room. ⊎_elim (λ y. inl (omega arith)) (λ y. inr y) s.0;
          safe_at = s;
          in_ram_at = in_ram k.setting.image (base k.setting + c.at) c.at refl (omega arith);
          inside = omega arith;
          low = omega arith;
        }

    -- an address of the own frame, or of any where there is one compartment alone, is in the open stack
    pub own_open : (o : ℕ) → places fr.number ≤ o → o < places fr.number + 4 * words_at k fr.func + 4 → (k.setting.stack ≤ o) × (base k.setting + o < (block_of k places (wheres (fr ∷ rest))).top)
    own_open o l u =
        let tl = top_least k places (where_of fr) (wheres rest) st.fits in
        let en = st.fits.0.ends in
        let rm = st.fits.0.room in
        (omega arith, omega arith)

    pub any_open : nat_lt 1 k.groups.count ≡ false → (o : ℕ) → k.setting.stack ≤ o → o < stack_end k.setting → (k.setting.stack ≤ o) × (base k.setting + o < (block_of k places (wheres (fr ∷ rest))).top)
    any_open h o l u = let e = all_open h (wheres (fr ∷ rest)) in (l, omega arith)
