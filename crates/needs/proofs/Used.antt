-- What a function's instructions use, by their places; and that it reads, writes and calls what its uses do.
use Rattle.std.proofs.Common.{◌≡◌, ◌↔◌, ℕ, zero, suc, List, [], ◌∷◌, get_or, sym, subst, inl, inr}
use Rattle.std.specs.Prelude.{◌⊎◌, Contains}
use Rattle.std.specs.List.{flat_map}
use Rattle.std.proofs.lemmas.List.Elements.{Contains-append_left, Contains-append_right, Contains-append_cases}
use Rattle.ir_model.specs.Resolved.{Program, NumberedInst, Const, Move, Bin, Cmp, Addr, FAddr, Elem, Field, Load, Store, Call, ICall, NumberedTerm, NumberedBlock, no_block, Here, Does, Ends, func_at, here, here_in}
use Rattle.ir_model.specs.State.{Object}
use Rattle.ir_laws.specs.Sets.{ObjectSets, ReadsAt, WritesAt, CallsAt, IsRead, IsWritten}
use Rattle.plan_model.specs.Calls.{IsCallee}
use Rattle.needs.specs.declared.instructions.Use.{Use}
use Rattle.needs.specs.declared.instructions.Use.TheVariants as uses
use Rattle.needs.specs.declared.instructions.Access.TheVariants.{Read, Write}
use Rattle.needs.specs.Uses.{used, uses_in, UsedAt}
use Rattle.need_lists.specs.AnyOf.{AnyOf}
use Rattle.needs.specs.Accesses.{Reaches, Calls}
use Rattle.need_lists.proofs.Parts.{head, cases, in_none}

-- ---- places

inst_listed : (is : List NumberedInst) (t : NumberedTerm) (k : ℕ) (u : Use) → UsedAt (here_in is t k) u → Contains (flat_map used is) u
inst_listed [] t k u h = absurd h
inst_listed (i ∷ is) t zero u h = Contains-append_left (used i) (flat_map used is) u h
inst_listed (i ∷ is) t (suc k) u h = Contains-append_right (used i) (flat_map used is) u (inst_listed is t k u h)

pub block_listed : (bs : List NumberedBlock) (b k : ℕ) (u : Use) → UsedAt (here_in (get_or bs b no_block).insts (get_or bs b no_block).term k) u → Contains (uses_in bs) u
block_listed [] b k u h = absurd h
block_listed (x ∷ bs) zero k u h = Contains-append_left (flat_map used x.insts) (uses_in bs) u (inst_listed x.insts x.term k u h)
block_listed (x ∷ bs) (suc b) k u h = Contains-append_right (flat_map used x.insts) (uses_in bs) u (block_listed bs b k u h)

inst_place : (is : List NumberedInst) (t : NumberedTerm) (u : Use) → Contains (flat_map used is) u → (k : ℕ) × UsedAt (here_in is t k) u
inst_place [] t u h = absurd (in_none u h)
inst_place (i ∷ is) t u h = by (Contains-append_cases (used i) (flat_map used is) u h) (λ r. inst_place is t u r)
  where
    by : Contains (used i) u ⊎ Contains (flat_map used is) u → (Contains (flat_map used is) u → (k : ℕ) × UsedAt (here_in is t k) u) → (k : ℕ) × UsedAt (here_in (i ∷ is) t k) u
    by (inl x) ih = (zero, x)
    by (inr x) ih = let y = ih x in (suc y.0, y.1)

abbrev IsUsedIn : List NumberedBlock → Use → Type 0
IsUsedIn bs u = (b : ℕ) × (k : ℕ) × UsedAt (here_in (get_or bs b no_block).insts (get_or bs b no_block).term k) u

pub block_place : (bs : List NumberedBlock) (u : Use) → Contains (uses_in bs) u → IsUsedIn bs u
block_place [] u h = absurd (in_none u h)
block_place (x ∷ bs) u h = by (Contains-append_cases (flat_map used x.insts) (uses_in bs) u h) (λ r. block_place bs u r)
  where
    by : Contains (flat_map used x.insts) u ⊎ Contains (uses_in bs) u → (Contains (uses_in bs) u → IsUsedIn bs u) → IsUsedIn (x ∷ bs) u
    by (inl y) ih = let z = inst_place x.insts x.term u y in (zero, z.0, z.1)
    by (inr y) ih = let z = ih y in (suc z.0, z.1, z.2)

-- ---- what stands at a place reaches what its use does

pub single : (x u : Use) → Contains (x ∷ []) u → x ≡ u
single x u h = by (cases x u [] h)
  where
    by : (x ≡ u) ⊎ Contains [] u → x ≡ u
    by (inl e) = e
    by (inr r) = absurd (in_none u r)

-- a use that stands at a place
pub record ByUse (P : Use → Type 0) (h : Here) : Type 0 where
  pub use_there : Use
  pub stands : UsedAt h use_there
  pub holds : P use_there

module _ (p : Program) (S : ObjectSets) (f : ℕ) (o : Object) (g : ℕ) where
  reads_use : (h : Here) → ReadsAt S f h o → ByUse (Reaches S f Read o) h
  reads_use (Does (Const to n)) h = absurd h
  reads_use (Does (Move to from)) h = absurd h
  reads_use (Does (Bin op to x y)) h = absurd h
  reads_use (Does (Cmp op to x y)) h = absurd h
  reads_use (Does (Addr to of)) h = absurd h
  reads_use (Does (FAddr to g)) h = absurd h
  reads_use (Does (Elem to base i n)) h = absurd h
  reads_use (Does (Field to base n)) h = absurd h
  reads_use (Does (Load to from t)) h = record { use_there = uses.Load from; stands = head (uses.Load from) []; holds = h }
  reads_use (Does (Store to from t)) h = absurd h
  reads_use (Does (Call to g args)) h = absurd h
  reads_use (Does (ICall to r args)) h = absurd h
  reads_use (Ends t) h = absurd h

  use_reads : (h : Here) (u : Use) → UsedAt h u → (Reaches S f Read o) u → ReadsAt S f h o
  use_reads (Does (Const to n)) u h r = absurd (in_none u h)
  use_reads (Does (Move to from)) u h r = absurd (in_none u h)
  use_reads (Does (Bin op to x y)) u h r = absurd (in_none u h)
  use_reads (Does (Cmp op to x y)) u h r = absurd (in_none u h)
  use_reads (Does (Addr to of)) u h r = absurd (in_none u h)
  use_reads (Does (FAddr to g)) u h r = absurd (in_none u h)
  use_reads (Does (Elem to base i n)) u h r = absurd (in_none u h)
  use_reads (Does (Field to base n)) u h r = absurd (in_none u h)
  use_reads (Does (Load to from t)) u h r = subst (Reaches S f Read o) (sym (single (uses.Load from) u h)) r
  use_reads (Does (Store to from t)) u h r = absurd (subst (Reaches S f Read o) (sym (single (uses.Store to) u h)) r)
  use_reads (Does (Call to g args)) u h r = absurd (subst (Reaches S f Read o) (sym (single (uses.Call g) u h)) r)
  use_reads (Does (ICall to r args)) u h y = absurd (subst (Reaches S f Read o) (sym (single (uses.Indirect r) u h)) y)
  use_reads (Ends t) u h r = absurd h

  writes_use : (h : Here) → WritesAt S f h o → ByUse (Reaches S f Write o) h
  writes_use (Does (Const to n)) h = absurd h
  writes_use (Does (Move to from)) h = absurd h
  writes_use (Does (Bin op to x y)) h = absurd h
  writes_use (Does (Cmp op to x y)) h = absurd h
  writes_use (Does (Addr to of)) h = absurd h
  writes_use (Does (FAddr to g)) h = absurd h
  writes_use (Does (Elem to base i n)) h = absurd h
  writes_use (Does (Field to base n)) h = absurd h
  writes_use (Does (Load to from t)) h = absurd h
  writes_use (Does (Store to from t)) h = record { use_there = uses.Store to; stands = head (uses.Store to) []; holds = h }
  writes_use (Does (Call to g args)) h = absurd h
  writes_use (Does (ICall to r args)) h = absurd h
  writes_use (Ends t) h = absurd h

  use_writes : (h : Here) (u : Use) → UsedAt h u → (Reaches S f Write o) u → WritesAt S f h o
  use_writes (Does (Const to n)) u h r = absurd (in_none u h)
  use_writes (Does (Move to from)) u h r = absurd (in_none u h)
  use_writes (Does (Bin op to x y)) u h r = absurd (in_none u h)
  use_writes (Does (Cmp op to x y)) u h r = absurd (in_none u h)
  use_writes (Does (Addr to of)) u h r = absurd (in_none u h)
  use_writes (Does (FAddr to g)) u h r = absurd (in_none u h)
  use_writes (Does (Elem to base i n)) u h r = absurd (in_none u h)
  use_writes (Does (Field to base n)) u h r = absurd (in_none u h)
  use_writes (Does (Load to from t)) u h r = absurd (subst (Reaches S f Write o) (sym (single (uses.Load from) u h)) r)
  use_writes (Does (Store to from t)) u h r = subst (Reaches S f Write o) (sym (single (uses.Store to) u h)) r
  use_writes (Does (Call to g args)) u h r = absurd (subst (Reaches S f Write o) (sym (single (uses.Call g) u h)) r)
  use_writes (Does (ICall to r args)) u h y = absurd (subst (Reaches S f Write o) (sym (single (uses.Indirect r) u h)) y)
  use_writes (Ends t) u h r = absurd h

  calls_use : (h : Here) → CallsAt p S f h g → ByUse (Calls p S f g) h
  calls_use (Does (Const to n)) h = absurd h
  calls_use (Does (Move to from)) h = absurd h
  calls_use (Does (Bin op to x y)) h = absurd h
  calls_use (Does (Cmp op to x y)) h = absurd h
  calls_use (Does (Addr to of)) h = absurd h
  calls_use (Does (FAddr to x)) h = absurd h
  calls_use (Does (Elem to base i n)) h = absurd h
  calls_use (Does (Field to base n)) h = absurd h
  calls_use (Does (Load to from t)) h = absurd h
  calls_use (Does (Store to from t)) h = absurd h
  calls_use (Does (Call to x args)) h = record { use_there = uses.Call x; stands = head (uses.Call x) []; holds = h }
  calls_use (Does (ICall to r args)) h = record { use_there = uses.Indirect r; stands = head (uses.Indirect r) []; holds = h }
  calls_use (Ends t) h = absurd h

  use_calls : (h : Here) (u : Use) → UsedAt h u → (Calls p S f g) u → CallsAt p S f h g
  use_calls (Does (Const to n)) u h r = absurd (in_none u h)
  use_calls (Does (Move to from)) u h r = absurd (in_none u h)
  use_calls (Does (Bin op to x y)) u h r = absurd (in_none u h)
  use_calls (Does (Cmp op to x y)) u h r = absurd (in_none u h)
  use_calls (Does (Addr to of)) u h r = absurd (in_none u h)
  use_calls (Does (FAddr to x)) u h r = absurd (in_none u h)
  use_calls (Does (Elem to base i n)) u h r = absurd (in_none u h)
  use_calls (Does (Field to base n)) u h r = absurd (in_none u h)
  use_calls (Does (Load to from t)) u h r = absurd (subst (Calls p S f g) (sym (single (uses.Load from) u h)) r)
  use_calls (Does (Store to from t)) u h r = absurd (subst (Calls p S f g) (sym (single (uses.Store to) u h)) r)
  use_calls (Does (Call to x args)) u h r = subst (Calls p S f g) (sym (single (uses.Call x) u h)) r
  use_calls (Does (ICall to r args)) u h y = subst (Calls p S f g) (sym (single (uses.Indirect r) u h)) y
  use_calls (Ends t) u h r = absurd h

  module _ (us : List Use) (same : (u : Use) → Contains us u ↔ Contains (uses_in (func_at p f).blocks) u) where
    pub any_reads : IsRead p S f o ↔ AnyOf (Reaches S f Read o) us
    any_reads = (
      (λ r. let u = reads_use (here p f r.0 r.1) r.2 in record { item = u.use_there; listed = (same u.use_there).1 (block_listed (func_at p f).blocks r.0 r.1 u.use_there u.stands); holds = u.holds }),
      λ a. let b = block_place (func_at p f).blocks a.item ((same a.item).0 a.listed) in (b.0, b.1, use_reads (here p f b.0 b.1) a.item b.2 a.holds),
    )

    pub any_writes : IsWritten p S f o ↔ AnyOf (Reaches S f Write o) us
    any_writes = (
      (λ r. let u = writes_use (here p f r.0 r.1) r.2 in record { item = u.use_there; listed = (same u.use_there).1 (block_listed (func_at p f).blocks r.0 r.1 u.use_there u.stands); holds = u.holds }),
      λ a. let b = block_place (func_at p f).blocks a.item ((same a.item).0 a.listed) in (b.0, b.1, use_writes (here p f b.0 b.1) a.item b.2 a.holds),
    )

    pub any_calls : IsCallee p S f g ↔ AnyOf (Calls p S f g) us
    any_calls = (
      (λ r. let u = calls_use (here p f r.0 r.1) r.2 in record { item = u.use_there; listed = (same u.use_there).1 (block_listed (func_at p f).blocks r.0 r.1 u.use_there u.stands); holds = u.holds }),
      λ a. let b = block_place (func_at p f).blocks a.item ((same a.item).0 a.listed) in (b.0, b.1, use_calls (here p f b.0 b.1) a.item b.2 a.holds),
    )
