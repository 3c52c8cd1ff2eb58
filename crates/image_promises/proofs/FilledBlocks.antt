-- The blocks that start-up fills: one for each use of RAM for globals.
use Rattle.std.proofs.Common.{◌≡◌, ℕ, zero, suc, ◌+◌, ◌<◌, ◌≤◌, inl, inr, List, [], ◌∷◌, ◌++◌, length, map, refl, sym, subst, arith}
use Rattle.std.specs.Prelude.{unwrap_or}
use Rattle.std.specs.List.{range_with_len}
use Rattle.std.proofs.lemmas.Bool.{cases_eq}
use mathlib.Core.Logic.{⊎_elim}
use Rattle.machine_model.specs.Confinement.{AnyOf}
use Rattle.plan_model.specs.declared.graph.Final.{Final}
use Rattle.plan_model.specs.declared.plan.Plan.{Plan}
use Rattle.plan_model.specs.RamBlocks.{RamUse, ForStack, ForMonitor, ForRegion, ForUnwritten}
use Rattle.plan_model.specs.Placement.{no_spot}
use Rattle.image_model.specs.LinkedTables.{Filled, filled, filled_unwritten}
use Rattle.image_promises.proofs.Ranges.{IsUse, filled_for}

among_regions : (Q : Filled → Type 0) (make : ℕ → Filled) (lo n r : ℕ) (bs : List Filled) → lo ≤ r → r < lo + n → Q (make r) → AnyOf Q (map make (range_with_len lo n) ++ bs)
among_regions Q make lo zero r bs a c h = absurd (omega (arith, a, c))
among_regions Q make lo (suc n) r bs a c h =
    ⊎_elim (λ e. inl (subst (λ k. Q (make k)) (sym e) h)) (λ ne. inr (among_regions Q make (lo + 1) n r bs (later lo r a ne) (omega (arith, c)) h)) (cases_eq lo r)
  where
    later : (m k : ℕ) → m ≤ k → (m ≡ k → ⊥) → m + 1 ≤ k
    later m k le ne = grind (arith, le, ne)

behind_regions : (Q : Filled → Type 0) (make : ℕ → Filled) (lo n : ℕ) (bs : List Filled) → AnyOf Q bs → AnyOf Q (map make (range_with_len lo n) ++ bs)
behind_regions Q make lo zero bs h = h
behind_regions Q make lo (suc n) bs h = inr (behind_regions Q make (lo + 1) n bs h)

last_block : (Q : Filled → Type 0) (l : Plan) (xs ys : List ℕ) → xs ≡ ys → 0 < length ys → Q (record { base = (unwrap_or l.unwritten no_spot).base; globals = xs }) → AnyOf Q (filled_unwritten l ys)
last_block Q l xs [] e some h = absurd (omega (arith, some))
last_block Q l xs (y ∷ ys) e some h = inl (subst (λ zs. Q (record { base = (unwrap_or l.unwritten no_spot).base; globals = zs })) e h)

-- the block of a use is one of them
pub is_filled : (Q : Filled → Type 0) (f : Final) (l : Plan) (u : RamUse) → IsUse f u → Q (filled_for f l u) → AnyOf Q (filled f l)
is_filled Q f l ForStack h g = absurd h.of_globals
is_filled Q f l ForMonitor h g = absurd h.of_globals
is_filled Q f l (ForRegion r) h g =
    let lt = h.there in
    among_regions Q (λ k. filled_for f l (ForRegion k)) 0 (length f.regions) r (filled_unwritten l f.unwritten) (omega arith) (omega (arith, lt)) g
is_filled Q f l ForUnwritten h g =
    behind_regions Q (λ k. filled_for f l (ForRegion k)) 0 (length f.regions) (filled_unwritten l f.unwritten) (last_block Q l f.unwritten f.unwritten refl h.there g)
