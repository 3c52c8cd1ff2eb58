-- The sites of a program's needs are calls of its functions.
use Rattle.std.proofs.Common.{◌≡◌, ℕ, suc, ◌<◌, Bool, List, [], ◌∷◌, length, refl, arith}
use Rattle.std.specs.List.{AllZip}
use Rattle.base_laws.specs.Lists.{Each}
use Rattle.ir_model.specs.Resolved as ir
use Rattle.ir_model.specs.Resolved.{Program, NumberedInst, block_at, func_at}
use Rattle.ir_laws.specs.Sets.{ObjectSets}
use Rattle.plan_model.specs.declared.needs.SiteNeed.{SiteNeed}
use Rattle.plan_model.specs.declared.needs.Needs.{Needs}
use Rattle.plan_model.specs.declared.groups.Groups.{Groups}
use Rattle.plan_model.specs.Lists.{numbers_below}
use Rattle.plan_model.specs.Calls.{CallPlace, calls_from, calls_of, call_places, IsSiteOf}
use Rattle.plan_model.specs.Needs.{AreNeeds}
use Rattle.plan_model.specs.Crossing.{crosses, crossing_sites}
use Rattle.image_promises.proofs.KeptItems.{each_filter}
use Rattle.image_promises.proofs.Lists.{below_all}
use Rattle.image_promises.proofs.WordLists.{each_flat}
use Rattle.base_laws.proofs.Lists.{each_of}

abbrev IsOf : ℕ → CallPlace → Type 0
IsOf f c = c.func ≡ f

calls_are_of : (f b k : ℕ) (is : List NumberedInst) → Each (IsOf f) (calls_from f b k is)
calls_are_of f b k [] = tt
calls_are_of f b k (ir.Const to v ∷ is) = calls_are_of f b (suc k) is
calls_are_of f b k (ir.Move to from ∷ is) = calls_are_of f b (suc k) is
calls_are_of f b k (ir.Bin op to x y ∷ is) = calls_are_of f b (suc k) is
calls_are_of f b k (ir.Cmp op to x y ∷ is) = calls_are_of f b (suc k) is
calls_are_of f b k (ir.Addr to of ∷ is) = calls_are_of f b (suc k) is
calls_are_of f b k (ir.FAddr to g ∷ is) = calls_are_of f b (suc k) is
calls_are_of f b k (ir.Elem to base index size ∷ is) = calls_are_of f b (suc k) is
calls_are_of f b k (ir.Field to base offset ∷ is) = calls_are_of f b (suc k) is
calls_are_of f b k (ir.Load to from t ∷ is) = calls_are_of f b (suc k) is
calls_are_of f b k (ir.Store to from t ∷ is) = calls_are_of f b (suc k) is
calls_are_of f b k (ir.Call to g args ∷ is) = (refl, calls_are_of f b (suc k) is)
calls_are_of f b k (ir.ICall to h args ∷ is) = (refl, calls_are_of f b (suc k) is)

zipped : {X Y : Type 0} (R : X → Y → Type 0) (P : X → Type 0) (Q : Y → Type 0) → ((x : X) (y : Y) → R x y → P x → Q y) → (xs : List X) (ys : List Y) → AllZip R xs ys → Each P xs → Each Q ys
zipped R P Q h [] [] z e = tt
zipped R P Q h [] (y ∷ ys) z e = absurd z
zipped R P Q h (x ∷ xs) [] z e = absurd z
zipped R P Q h (x ∷ xs) (y ∷ ys) z e = (h x y z.0 e.0, zipped R P Q h xs ys z.1 e.1)

module _ (p : Program) where
  abbrev IsInside : CallPlace → Type 0
  IsInside c = c.func < length p.funcs

  calls_inside : Each IsInside (call_places p)
  calls_inside =
      each_flat IsInside (calls_of p) (λ f. f < length p.funcs) (λ f l. in_function f l) (numbers_below (length p.funcs)) (below_all 0 (length p.funcs) (length p.funcs) (omega arith))
    where
      turn : (f : ℕ) → f < length p.funcs → (cs : List CallPlace) → Each (IsOf f) cs → Each IsInside cs
      turn f l [] e = tt
      turn f l (c ∷ cs) e = (let s = e.0 in omega (arith, s, l), turn f l cs e.1)

      in_function : (f : ℕ) → f < length p.funcs → Each IsInside (calls_of p f)
      in_function f l =
          each_flat IsInside (λ (b : ℕ). calls_from f b 0 (block_at p f b).insts) (λ b. Unit {0}) (λ b u. turn f l (calls_from f b 0 (block_at p f b).insts) (calls_are_of f b 0 (block_at p f b).insts))
          (numbers_below (length (func_at p f).blocks)) (each_of (λ b. Unit {0}) (λ b. tt) (numbers_below (length (func_at p f).blocks)))

  pub sites_inside : (S : ObjectSets) (closed : Bool) (n : Needs) (g : Groups) → AreNeeds p S closed n → Each (λ (s : SiteNeed). s.func < length p.funcs) (crossing_sites n g)
  sites_inside S closed n g are =
      each_filter (λ (s : SiteNeed). s.func < length p.funcs) (crosses g) n.sites
      (zipped (IsSiteOf p S) IsInside (λ (s : SiteNeed). s.func < length p.funcs) (λ c s i l. let e = i.func in omega (arith, e, l)) (call_places p) n.sites are.sites calls_inside)
