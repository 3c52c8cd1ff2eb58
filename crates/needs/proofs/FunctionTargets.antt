-- Types of registers of a program of the code as the definition's, and the targets of calls through their registers.
use Rattle.std.proofs.Common.{◌≡◌, ◌↔◌, ℕ, ◌<◌, ◌≤◌, true, List, [], ◌∷◌, ◌++◌, ◌+◌, length, get_or, refl, sym, ap, subst, ◌∙◌, inl, inr, arith}
use Rattle.std.specs.Prelude.{◌⊎◌, Contains}
use Rattle.std.specs.Borrow.{Bor}
use Rattle.std.specs.Ordering.{nat_cmp}
use Rattle.std.proofs.lemmas.Bool.{cases_lt}
use Rattle.std.proofs.lemmas.List.{get_or-map, get_or_append_left, get_or_push, length_push}
use Rattle.ir_model.specs.declared.object.ObjId.{ObjId}
use Rattle.ir_model.specs.declared.object.ObjId.TheVariants.{Global, Periph, Local, Func}
use Rattle.ir_model.specs.declared.types.Ty as types
use Rattle.ir_model.specs.Types.{PlainType, U32, type_of}
use Rattle.ir_model.specs.Resolved.{Program, func_at, register_type}
use Rattle.ir_model.specs.State.{FunctionObject}
use Rattle.ir_model.specs.Objects.{object_by, compare_objects}
use Rattle.ir_model.specs.Signatures.{signature}
use Rattle.ir_program.specs.declared.program.Program as programs
use Rattle.ir_program.specs.declared.program.Routine.{Routine}
use Rattle.ir_program.specs.Parts.{routine_of}
use Rattle.ir_program.specs.Seen.{known_of, program_of}
use Rattle.ir_laws.specs.Sets.{ObjectSets, Register}
use Rattle.plan_model.specs.Lists.{ListsExactly}
use Rattle.need_lists.specs.AnyOf.{AnyOf}
use Rattle.needs.specs.Accesses.{IsTarget, HasTargets}
use Rattle.needs.specs.Targets.{IsFunctionOf}
use Rattle.need_lists.proofs.Exact.{pushed, unpushed}

-- a type of a register that was read
pub type_read : (q : programs.Program) (f : ℕ) (r : Routine) (ts : List (Bor types.Ty)) (k : ℕ) (t : Bor types.Ty) → func_at (program_of q) f ≡ routine_of (known_of q) r
    → ts ≡ r.registers → t ≡ get_or ts k t → k < length r.registers → register_type (program_of q) f k ≡ type_of t.now
type_read q f r ts k t e i h l =
    ap (λ g. get_or g.regs k U32) e ∙ (get_or-map (λ (u : Bor types.Ty). type_of u.now) r.registers k t U32 l ∙ ap (λ (u : Bor types.Ty). type_of u.now) (sym (h ∙ ap (λ x. get_or x k t) i)))

-- ---- targets

pub target_pushed : (p : Program) (t : PlainType) (xs ys : List ℕ) (o : ObjId) (g h : ℕ) → o ≡ Func g → signature p g ≡ t → ys ≡ xs ++ g ∷ []
    → Contains ys h ↔ (Contains xs h ⊎ IsFunctionOf p t h o)
target_pushed p t xs ys o g h e s q =
    pushed xs ys g h (IsFunctionOf p t h o) q (λ i. subst (IsFunctionOf p t h) (sym e) (sym i, s)) (λ k. let f : (h ≡ g) × (signature p g ≡ t) = subst (IsFunctionOf p t h) e k in sym f.0)

pub target_left : (p : Program) (t : PlainType) (xs : List ℕ) (o : ObjId) (g h : ℕ) → o ≡ Func g → (signature p g ≡ t → ⊥) → Contains xs h ↔ (Contains xs h ⊎ IsFunctionOf p t h o)
target_left p t xs o g h e s =
    unpushed xs h (IsFunctionOf p t h o) (λ k. let f : (h ≡ g) × (signature p g ≡ t) = subst (IsFunctionOf p t h) e k in s f.1)

module _ (p : Program) (S : ObjectSets) (f r : ℕ) (t : PlainType) (os : List ObjId) (same : register_type p f r ≡ t) (listed : ListsExactly compare_objects (λ o. S (Register f r) (object_by o) ≡ true) os) where
  to_target : (h : ℕ) (o : ObjId) → S (Register f r) (object_by o) ≡ true → IsFunctionOf p t h o → IsTarget p S f r h
  to_target h (Func g) e k = (subst (λ (x : ℕ). S (Register f r) (FunctionObject x) ≡ true) (sym k.0) e, ap (signature p) k.0 ∙ (k.1 ∙ sym same))
  to_target h (Global g) e k = absurd k
  to_target h (Periph g) e k = absurd k
  to_target h (Local g l) e k = absurd k

  pub target_is : (C : Type 0) (h : ℕ) → C ↔ AnyOf (IsFunctionOf p t h) os → C ↔ IsTarget p S f r h
  target_is C h c = (
    (λ k. let a = c.0 k in to_target h a.item (listed.each a.item a.listed) a.holds),
    λ k. c.1 (record { item = Func h; listed = listed.all (Func h) k.0; holds = (refl, k.1 ∙ same) }),
  )

pub targets_pushed : (p : Program) (S : ObjectSets) (f : ℕ) (old new : List (List ℕ)) (ts : List ℕ) → new ≡ old ++ ts ∷ [] → HasTargets p S f old
    → ListsExactly nat_cmp (IsTarget p S f (length old)) ts → HasTargets p S f new
targets_pushed p S f old new ts e has next r h = by (cases_lt r (length old))
  where
    at : (x : List ℕ) → x ≡ get_or new r [] → ListsExactly nat_cmp (IsTarget p S f r) x → ListsExactly nat_cmp (IsTarget p S f r) (get_or new r [])
    at x q l = subst (λ y. ListsExactly nat_cmp (IsTarget p S f r) y) q l

    by : (r < length old) ⊎ (length old ≤ r) → ListsExactly nat_cmp (IsTarget p S f r) (get_or new r [])
    by (inl l) = at (get_or old r []) (sym (ap (λ y. get_or y r []) e ∙ get_or_append_left old (ts ∷ []) [] r l)) (has r l)
    by (inr l) =
        let n : length new ≡ length old + 1 = ap length e ∙ length_push old ts in
        let q : length old ≡ r = omega arith in
        at ts (sym (ap (λ y. get_or y r []) e ∙ get_or_push old ts [] r q)) (subst (λ (k : ℕ). ListsExactly nat_cmp (IsTarget p S f k) ts) q next)
