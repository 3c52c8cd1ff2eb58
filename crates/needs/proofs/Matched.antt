-- What the code finds of a function is what the definition says it needs.
use Rattle.std.proofs.Common.{◌≡◌, ◌↔◌, ℕ, ◌≤◌, Bool, true, false, not, List, length, get_or, refl, subst, inl, inr, arith}
use Rattle.std.specs.Prelude.{◌⊎◌, Contains}
use Rattle.std.specs.List.{All}
use Rattle.std.specs.Ordering.{nat_cmp}
use Rattle.std.proofs.lemmas.List.Elements.{Contains-get_or}
use Rattle.ir_model.specs.declared.object.ObjId.{ObjId}
use Rattle.ir_model.specs.declared.object.ObjId.TheVariants.{Global, Periph, Local, Func}
use Rattle.ir_model.specs.Resolved.{Program, NumberedBlock, func_at, global_at}
use Rattle.ir_model.specs.State.{PeriphObject}
use Rattle.ir_model.specs.Objects.{object_by, compare_objects}
use Rattle.ir_laws.specs.Sets.{ObjectSets, IsRead, IsWritten}
use Rattle.plan_model.specs.Lists.{ListsExactly}
use Rattle.plan_model.specs.Calls.{IsCallee}
use Rattle.plan_model.specs.Needs.{IsData, IsWritable}
use Rattle.needs.specs.declared.instructions.Use.{Use}
use Rattle.needs.specs.declared.instructions.Use.TheVariants as uses
use Rattle.needs.specs.declared.instructions.Access.TheVariants.{Read, Write}
use Rattle.needs.specs.Uses.{uses_in}
use Rattle.need_lists.specs.AnyOf.{AnyOf}
use Rattle.needs.specs.Accesses.{Reaches, Calls, is_open}
use Rattle.needs.specs.Bounds.{IsBelow, RegistersAreThere}
use Rattle.need_lists.proofs.Exact.{exactly_by}
use Rattle.needs.proofs.Used.{block_place, any_reads, any_writes, any_calls}

negated : (b : Bool) → (not b ≡ true) ↔ (b ≡ false)
negated true = ((λ e. cc), λ e. cc)
negated false = ((λ e. refl), λ e. refl)

writable : (p : Program) (o : ObjId) → (is_open p Write o ≡ true) ↔ IsWritable p (object_by o)
writable p (Global g) = negated (global_at p g).constant
writable p (Periph q) = ((λ e. tt), λ e. refl)
writable p (Local f l) = ((λ e. tt), λ e. refl)
writable p (Func f) = ((λ e. cc), λ e. absurd e)

is_data : (p : Program) (o : ObjId) → (is_open p Read o ≡ true) ↔ IsData (object_by o)
is_data p (Global g) = ((λ e. tt), λ e. refl)
is_data p (Periph q) = ((λ e. tt), λ e. refl)
is_data p (Local f l) = ((λ e. tt), λ e. refl)
is_data p (Func f) = ((λ e. cc), λ e. absurd e)

pairs : {A B C D : Type 0} → A ↔ B → D ↔ C → (A × C) ↔ (B × D)
pairs s t = ((λ h. (s.0 h.0, t.1 h.1)), λ h. (s.1 h.0, t.0 h.1))

module _ (p : Program) (S : ObjectSets) (f : ℕ) (us : List Use) (same : (u : Use) → Contains us u ↔ Contains (uses_in (func_at p f).blocks) u) where
  pub written_exactly : (os : List ObjId) → ListsExactly compare_objects (λ o. (is_open p Write o ≡ true) × AnyOf (Reaches S f Write (object_by o)) us) os
      → ListsExactly compare_objects (λ o. IsWritable p (object_by o) × IsWritten p S f (object_by o)) os
  written_exactly os e =
      exactly_by compare_objects (λ o. (is_open p Write o ≡ true) × AnyOf (Reaches S f Write (object_by o)) us) (λ o. IsWritable p (object_by o) × IsWritten p S f (object_by o)) os
      (λ o. pairs (writable p o) (any_writes p S f (object_by o) 0 us same)) e

  pub read_exactly : (os : List ObjId) → ListsExactly compare_objects (λ o. (is_open p Read o ≡ true) × AnyOf (Reaches S f Read (object_by o)) us) os
      → ListsExactly compare_objects (λ o. IsData (object_by o) × IsRead p S f (object_by o)) os
  read_exactly os e =
      exactly_by compare_objects (λ o. (is_open p Read o ≡ true) × AnyOf (Reaches S f Read (object_by o)) us) (λ o. IsData (object_by o) × IsRead p S f (object_by o)) os
      (λ o. pairs (is_data p o) (any_reads p S f (object_by o) 0 us same)) e

  pub callees_exactly : (cs : List ℕ) → ListsExactly nat_cmp (λ g. AnyOf (Calls p S f g) us) cs → ListsExactly nat_cmp (IsCallee p S f) cs
  callees_exactly cs e =
      exactly_by nat_cmp (λ g. AnyOf (Calls p S f g) us) (IsCallee p S f) cs (λ g. ((any_calls p S f (PeriphObject 0) g us same).1, (any_calls p S f (PeriphObject 0) g us same).0)) e

pub periphs_exactly : (p : Program) (S : ObjectSets) (f : ℕ) (ws rs : List ObjId) (qs : List ℕ)
    → ListsExactly compare_objects (λ o. IsWritable p (object_by o) × IsWritten p S f (object_by o)) ws → ListsExactly compare_objects (λ o. IsData (object_by o) × IsRead p S f (object_by o)) rs
    → ListsExactly nat_cmp (λ q. Contains ws (Periph q) ⊎ Contains rs (Periph q)) qs → ListsExactly nat_cmp (λ q. IsWritten p S f (PeriphObject q) ⊎ IsRead p S f (PeriphObject q)) qs
periphs_exactly p S f ws rs qs w r e =
    exactly_by nat_cmp (λ q. Contains ws (Periph q) ⊎ Contains rs (Periph q)) (λ q. IsWritten p S f (PeriphObject q) ⊎ IsRead p S f (PeriphObject q)) qs (λ q. (to q, from q)) e
  where
    to : (q : ℕ) → Contains ws (Periph q) ⊎ Contains rs (Periph q) → IsWritten p S f (PeriphObject q) ⊎ IsRead p S f (PeriphObject q)
    to q (inl h) = inl (w.each (Periph q) h).1
    to q (inr h) = inr (r.each (Periph q) h).1

    from : (q : ℕ) → IsWritten p S f (PeriphObject q) ⊎ IsRead p S f (PeriphObject q) → Contains ws (Periph q) ⊎ Contains rs (Periph q)
    from q (inl h) = inl (w.all (Periph q) (tt, h))
    from q (inr h) = inr (r.all (Periph q) (tt, h))

-- ---- the uses of a function

pub same_uses : (p : Program) (f : ℕ) (us : List Use) (bs : List NumberedBlock) → bs ≡ (func_at p f).blocks → ((u : Use) → Contains us u ↔ Contains (uses_in bs) u)
    → (u : Use) → Contains us u ↔ Contains (uses_in (func_at p f).blocks) u
same_uses p f us bs e h u = subst (λ x. Contains us u ↔ Contains (uses_in x) u) e (h u)

smaller : (m n : ℕ) (u : Use) → m ≤ n → IsBelow m u → IsBelow n u
smaller m n (uses.Load r) l h = omega arith
smaller m n (uses.Store r) l h = omega arith
smaller m n (uses.Call g) l h = tt
smaller m n (uses.Indirect r) l h = omega arith

pub all_below : (p : Program) (f n : ℕ) (us : List Use) → RegistersAreThere p → ((u : Use) → Contains us u ↔ Contains (uses_in (func_at p f).blocks) u) → length (func_at p f).regs ≤ n
    → All (IsBelow n) us
all_below p f n us there same l k d h =
    let b = block_place (func_at p f).blocks (get_or us k d) ((same (get_or us k d)).0 (Contains-get_or us k d h)) in
    smaller (length (func_at p f).regs) n (get_or us k d) l (there f b.0 b.1 (get_or us k d) b.2)

pub either : {A B C D : Type 0} → A ↔ (B ⊎ C) → B ↔ D → A ↔ (D ⊎ C)
either {A} {B} {C} {D} s t = ((λ a. to (s.0 a)), λ x. s.1 (from x))
  where
    to : B ⊎ C → D ⊎ C
    to (inl b) = inl (t.0 b)
    to (inr c) = inr c

    from : D ⊎ C → B ⊎ C
    from (inl d) = inl (t.1 d)
    from (inr c) = inr c
