-- How far code reaches: sites stand in the code of their functions, and functions in that of their compartments.
use Rattle.std.proofs.Common.{◌≡◌, ℕ, zero, suc, ◌+◌, ◌<◌, ◌≤◌, Bool, true, false, List, [], ◌∷◌, length, take, get_or, cond, nat_eq, refl, sym, ap, subst, eq-eqb, lit<, arith}
use Rattle.ir_model.specs.Resolved as ir
use Rattle.ir_model.specs.Resolved.{Program, NumberedInst, NumberedTerm, NumberedBlock, NumberedFunc, Does, here_in, no_block}
use Rattle.ir_model.proofs.Counting.{rounded_at_least}
use Rattle.code_model.specs.declared.places.CallSite.{CallSite}
use Rattle.code_model.specs.Places.{crosses}
use Rattle.code_model.specs.Sizes.{inst_size, resume_size, insts_size, blocks_size, function_size, site_offset}
use Rattle.code_model.specs.CompartmentCode.{CodeGroups, CodePlaces, members_from, filled_size, compartment_of, size_of, total_size, compartment_size, entry_of}

-- ---- a call is no longer than its code

resume_at_most : (x : Bool) (i : NumberedInst) → resume_size x (Does i) ≤ inst_size x i
unfolding inst_size
resume_at_most x (ir.Const to v) = omega arith
resume_at_most x (ir.Move to from) = omega arith
resume_at_most x (ir.Bin op to a b) = omega arith
resume_at_most x (ir.Cmp op to a b) = omega arith
resume_at_most x (ir.Addr to of) = omega arith
resume_at_most x (ir.FAddr to f) = omega arith
resume_at_most x (ir.Elem to base index size) = omega arith
resume_at_most x (ir.Field to base offset) = omega arith
resume_at_most x (ir.Load to from t) = omega arith
resume_at_most x (ir.Store to from t) = omega arith
resume_at_most x (ir.Call to f args) = omega arith
resume_at_most x (ir.ICall to h args) = omega arith

module _ (g : NumberedFunc) (sites : List CallSite) (lent : ℕ) where
  insts_reach : (b n k m : ℕ) (is : List NumberedInst) (t : NumberedTerm) → m ≡ n + k → insts_size g sites lent b n (take k is) + resume_size (crosses sites b m) (here_in is t k) ≤ insts_size g sites lent b n is
  insts_reach b n zero m [] t e = omega arith
  insts_reach b n (suc k) m [] t e = omega arith
  insts_reach b n zero m (i ∷ is) t e =
      let s : n ≡ m = omega (arith, e) in
      let r = resume_at_most (crosses sites b m) i in
      let h : resume_size (crosses sites b m) (Does i) ≤ inst_size (crosses sites b n) i = subst (λ j. resume_size (crosses sites b m) (Does i) ≤ inst_size (crosses sites b j) i) (sym s) r in
      omega (arith, h)
  insts_reach b n (suc k) m (i ∷ is) t e = let h = insts_reach b (suc n) k m is t (omega (arith, e)) in omega (arith, h)

  blocks_reach : (from b k m : ℕ) (xs : List NumberedBlock) → m ≡ from + b
      → blocks_size g sites lent from (take b xs) + (insts_size g sites lent m 0 (take k (get_or xs b no_block).insts) + resume_size (crosses sites m k) (here_in (get_or xs b no_block).insts (get_or xs b no_block).term k)) ≤ blocks_size g sites lent from xs
  blocks_reach from zero k m [] e = let h = insts_reach m 0 k k [] (ir.Jump 0) (omega arith) in omega (arith, h)
  blocks_reach from (suc b) k m [] e = let h = insts_reach m 0 k k [] (ir.Jump 0) (omega arith) in omega (arith, h)
  blocks_reach from zero k m (x ∷ xs) e =
      let s : from ≡ m = omega (arith, e) in
      let h = insts_reach m 0 k k x.insts x.term (omega arith) in
      let c : insts_size g sites lent m 0 (take k x.insts) + resume_size (crosses sites m k) (here_in x.insts x.term k) ≤ insts_size g sites lent from 0 x.insts =
      subst (λ j. insts_size g sites lent m 0 (take k x.insts) + resume_size (crosses sites m k) (here_in x.insts x.term k) ≤ insts_size g sites lent j 0 x.insts) (sym s) h in
      omega (arith, c)
  blocks_reach from (suc b) k m (x ∷ xs) e = let h = blocks_reach (suc from) b k m xs (omega (arith, e)) in omega (arith, h)

  pub site_reaches : (b k : ℕ) → site_offset g sites lent b k ≤ function_size g sites lent
  site_reaches b k = let h = blocks_reach 0 b k b g.blocks (omega arith) in omega (arith, h)

-- ---- functions of a compartment

module _ (p : Program) (groups : CodeGroups) where
  fewer : (n c k : ℕ) (ds : List ℕ) → total_size p groups (members_from n (take k ds) c) ≤ total_size p groups (members_from n ds c)
  fewer n c zero [] = omega arith
  fewer n c (suc k) [] = omega arith
  fewer n c zero (d ∷ ds) = omega arith
  fewer n c (suc k) (d ∷ ds) = by (nat_eq d c) (fewer (suc n) c k ds)
    where
      by : (b : Bool) → total_size p groups (members_from (suc n) (take k ds) c) ≤ total_size p groups (members_from (suc n) ds c)
          → total_size p groups (cond b (n ∷ members_from (suc n) (take k ds) c) (members_from (suc n) (take k ds) c)) ≤ total_size p groups (cond b (n ∷ members_from (suc n) ds c) (members_from (suc n) ds c))
      by true h = omega (arith, h)
      by false h = h

  with_it : (n c k f : ℕ) (ds : List ℕ) → k < length ds → get_or ds k 0 ≡ c → f ≡ n + k → total_size p groups (members_from n (take k ds) c) + filled_size (size_of p groups f) ≤ total_size p groups (members_from n ds c)
  with_it n c k f [] l h e = absurd (omega (arith, l))
  with_it n c zero f (d ∷ ds) l h e =
      let s : n ≡ f = omega (arith, e) in
      let here : nat_eq d c ≡ true = eq-eqb d c h in
      let own : filled_size (size_of p groups f) ≤ filled_size (size_of p groups n) = ap_le n f s in
      let h : filled_size (size_of p groups f) ≤ total_size p groups (members_from n (d ∷ ds) c) =
      subst (λ (b : Bool). filled_size (size_of p groups f) ≤ total_size p groups (cond b (n ∷ members_from (suc n) ds c) (members_from (suc n) ds c))) (sym here) (omega (arith, own)) in
      omega (arith, h)
    where
      ap_le : (n f : ℕ) → n ≡ f → filled_size (size_of p groups f) ≤ filled_size (size_of p groups n)
      ap_le n f e = let q : filled_size (size_of p groups n) ≡ filled_size (size_of p groups f) = ap (λ m. filled_size (size_of p groups m)) e in omega (arith, q)
  with_it n c (suc k) f (d ∷ ds) l h e = by (nat_eq d c) (with_it (suc n) c k f ds (omega (arith, l)) h (omega (arith, e)))
    where
      by : (b : Bool) → total_size p groups (members_from (suc n) (take k ds) c) + filled_size (size_of p groups f) ≤ total_size p groups (members_from (suc n) ds c)
          → total_size p groups (cond b (n ∷ members_from (suc n) (take k ds) c) (members_from (suc n) (take k ds) c)) + filled_size (size_of p groups f) ≤ total_size p groups (cond b (n ∷ members_from (suc n) ds c) (members_from (suc n) ds c))
      by true ih = omega (arith, ih)
      by false ih = ih

  -- an entry lies in its compartment's code, or behind it where the compartment has no such function
  pub entry_reaches : (at : CodePlaces) (f : ℕ) → entry_of p groups at f ≤ get_or at.bases (compartment_of p groups f) 0 + compartment_size p groups (compartment_of p groups f)
  entry_reaches at f = let h = fewer 0 (compartment_of p groups f) f groups.compartments in omega (arith, h)

  -- all code of a function lies in its compartment's code
  pub function_reaches : (at : CodePlaces) (f : ℕ) → f < length groups.compartments
      → entry_of p groups at f + size_of p groups f ≤ get_or at.bases (compartment_of p groups f) 0 + compartment_size p groups (compartment_of p groups f)
  function_reaches at f l =
      let h = with_it 0 (compartment_of p groups f) f f groups.compartments l refl (omega arith) in
      let r = rounded_at_least (size_of p groups f) 4 (lit< tt) in
      omega (arith, h, r)
