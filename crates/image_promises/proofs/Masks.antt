-- The masks of compartments have no bit that is no lent local's.
use Rattle.std.proofs.Common.{◌≡◌, ℕ, ◌+◌, ◌^◌, ◌<◌, Bool, true, false, cond, List, [], length, map, take, get_or, nat_lt, ap, sym, ◌∙◌, subst, lit<, arith}
use Rattle.std.proofs.Math.Pow.{pow_mono}
use Rattle.std.proofs.lemmas.List.{length-map, length-take}
use Rattle.std.proofs.lemmas.List.FromFn.{get_or-map-range_with_len}
use Rattle.ir_model.specs.Resolved.{Program, local_at}
use Rattle.plan_model.specs.declared.needs.Needs.{Needs}
use Rattle.plan_model.specs.declared.graph.Final.{Final}
use Rattle.plan_model.specs.Lending.{lent}
use Rattle.plan_model.specs.InitialGraph.{mask_where, mask_of, read_mask_of, initial_graph}
use Rattle.plan_model.specs.Slots.{lend_mask, read_mask}
use Rattle.image_model.specs.LinkedTables.{lend_sizes}
use Rattle.image_promises.proofs.FinalGraphs.{FinalGraph}
use Rattle.image_promises.proofs.Kept.{kept_final}
use Rattle.image_promises.proofs.RegionWords.{bits_below}

mask_below : (n : Needs) (does : ℕ × ℕ → Bool) → mask_where n does < 2 ^ length n.lendable
mask_below n does =
    let bs : List Bool = map does (take 32 n.lendable) in
    let a = bits_below bs in
    let m = length-map (take 32 n.lendable) does in
    let t = length-take 32 n.lendable in
    let up = pow_mono {i = length bs} {j = length n.lendable} (omega (arith, m, t)) in
    omega (arith, a, up)

zero_below : (n : Needs) → 0 < 2 ^ length n.lendable
zero_below n = let up = pow_mono {i = 0} {j = length n.lendable} (omega arith) in omega (arith, up)

reads_below : (n : Needs) (m : ℕ) → m < 2 ^ length n.lendable → (b : Bool) → cond b m 0 < 2 ^ length n.lendable
reads_below n m h true = h
reads_below n m h false = zero_below n

module _ (p : Program) (n : Needs) (f : Final) where
  -- nothing is lent where there is one compartment alone
  lent_below : (m : ℕ) → m < 2 ^ length n.lendable → (b : Bool) → cond b m 0 < 2 ^ length (lend_sizes p (cond b n.lendable []))
  lent_below m h true = subst (λ k. m < 2 ^ k) (sym (length-map n.lendable (λ (x : ℕ × ℕ). (local_at p x.0 x.1).size))) h
  lent_below m h false = lit< tt

module _ (graph : FinalGraph) (c : ℕ) (below : c < graph.final.groups.count) where
  open graph use {program as p, needs as n, final as f, slots, is_final as final}

  from_zero : 0 + c ≡ c
  from_zero = omega arith

  pub mask_is : get_or f.masks c 0 ≡ mask_of n f.groups c
  unfolding initial_graph
  mask_is =
      let k = kept_final p slots (initial_graph p n f.groups) f final in
      ap (λ ms. get_or ms c 0) k.masks ∙ get_or-map-range_with_len (mask_of n f.groups) 0 f.groups.count c c 0 below from_zero

  pub reads_is : get_or f.reads c 0 ≡ read_mask_of n f.groups c
  unfolding initial_graph
  reads_is =
      let k = kept_final p slots (initial_graph p n f.groups) f final in
      ap (λ ms. get_or ms c 0) k.reads ∙ get_or-map-range_with_len (read_mask_of n f.groups) 0 f.groups.count c c 0 below from_zero

  pub mask_few : lend_mask f c < 2 ^ length (lend_sizes p (lent n f.groups))
  mask_few = lent_below p n f (get_or f.masks c 0) (subst (λ m. m < 2 ^ length n.lendable) (sym mask_is) (mask_below n _)) (nat_lt 1 f.groups.count)

  pub reads_few : read_mask f c < 2 ^ length (lend_sizes p (lent n f.groups))
  reads_few = lent_below p n f (get_or f.reads c 0) (subst (λ m. m < 2 ^ length n.lendable) (sym reads_is) (reads_below n _ (mask_below n _) n.closed)) (nat_lt 1 f.groups.count)
