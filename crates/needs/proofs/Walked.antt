-- Calls that a walk over a function lists, one instruction, one block and one function more.
use Rattle.std.proofs.Common.{◌≡◌, ℕ, zero, suc, ◌+◌, ◌<◌, ◌≤◌, List, [], ◌∷◌, ◌++◌, length, map, take, get_or, refl, sym, ap, subst, ◌∙◌, inl, inr, arith}
use Rattle.std.specs.Prelude.{◌⊎◌, Contains}
use Rattle.std.specs.List.{AllZip}
use Rattle.std.specs.List.Sorted.{IsStrictlySortedBy}
use Rattle.std.specs.Ordering.{nat_cmp}
use Rattle.std.proofs.lemmas.List.{append_assoc, append-nil, map_more, length-take-le, length-map, get_or-map}
use Rattle.ir_model.specs.Layout.{Known}
use Rattle.ir_model.specs.Resolved.{Program, NumberedInst, Const, Move, Bin, Cmp, Addr, FAddr, Elem, Field, Load, Store, Call, ICall, NumberedTerm, NumberedBlock, NumberedFunc, no_block, Here, Does, here_in, here, func_at, block_at}
use Rattle.ir_program.specs.declared.program.Operation.{Operation}
use Rattle.ir_program.specs.declared.program.Operation.TheVariants as operation
use Rattle.ir_program.specs.declared.program.Program as programs
use Rattle.ir_program.specs.declared.program.Routine.{Routine}
use Rattle.ir_program.specs.declared.program.Sequence.{Sequence}
use Rattle.ir_program.specs.Parts.{operation_of, sequence_of, routine_of}
use Rattle.ir_program.specs.Seen.{known_of, program_of}
use Rattle.ir_laws.specs.Sets.{ObjectSets, CallsAt}
use Rattle.plan_model.specs.declared.needs.SiteNeed.{SiteNeed}
use Rattle.plan_model.specs.Lists.{ListsExactly}
use Rattle.plan_model.specs.Calls.{CallPlace, calls_from, IsSiteOf}
use Rattle.needs.specs.declared.instructions.Use.{Use}
use Rattle.needs.specs.declared.instructions.Use.TheVariants as uses
use Rattle.needs.specs.Uses.{used}
use Rattle.needs.specs.Bounds.{IsBelow}
use Rattle.needs.specs.Sites.{CallsBelow, Adds}
use Rattle.need_lists.proofs.Parts.{head, cases, in_none}
use Rattle.needs.proofs.Funcs.{func_read}
use Rattle.base_laws.proofs.Lists.{zip_pushed}

pub adds_none : (p : Program) (S : ObjectSets) (old : List SiteNeed) → Adds p S old old []
adds_none p S old before h = subst (λ l. AllZip (IsSiteOf p S) l old) (sym (append-nil before)) h

pub adds_more : (p : Program) (S : ObjectSets) (old mid new : List SiteNeed) (a b : List CallPlace) → Adds p S old mid a → Adds p S mid new b → Adds p S old new (a ++ b)
adds_more p S old mid new a b x y before h = subst (λ l. AllZip (IsSiteOf p S) l new) (append_assoc before a b) (y (before ++ a) (x before h))

pub adds_one : (p : Program) (S : ObjectSets) (old new : List SiteNeed) (c : CallPlace) (s : SiteNeed) → new ≡ old ++ s ∷ [] → IsSiteOf p S c s → Adds p S old new (c ∷ [])
adds_one p S old new c s e i before h = subst (λ l. AllZip (IsSiteOf p S) (before ++ c ∷ []) l) (sym e) (zip_pushed (IsSiteOf p S) before old c s h i)

pub same_adds : (p : Program) (S : ObjectSets) (old new : List SiteNeed) (a b : List CallPlace) → a ≡ b → Adds p S old new a → Adds p S old new b
same_adds p S old new a b e x = subst (λ l. Adds p S old new l) e x

-- ---- instructions

calls_joined : (f b m n : ℕ) (is js : List NumberedInst) → n ≡ m + length is → calls_from f b m (is ++ js) ≡ calls_from f b m is ++ calls_from f b n js
calls_joined f b m n [] js e = let q : m ≡ n = omega arith in ap (λ k. calls_from f b k js) q
calls_joined f b m n (Call to g args ∷ is) js e = ap (λ l. record { func = f; block = b; inst = m } ∷ l) (calls_joined f b (suc m) n is js (omega arith))
calls_joined f b m n (ICall to r args ∷ is) js e = ap (λ l. record { func = f; block = b; inst = m } ∷ l) (calls_joined f b (suc m) n is js (omega arith))
calls_joined f b m n (Const to v ∷ is) js e = calls_joined f b (suc m) n is js (omega arith)
calls_joined f b m n (Move to from ∷ is) js e = calls_joined f b (suc m) n is js (omega arith)
calls_joined f b m n (Bin op to x y ∷ is) js e = calls_joined f b (suc m) n is js (omega arith)
calls_joined f b m n (Cmp op to x y ∷ is) js e = calls_joined f b (suc m) n is js (omega arith)
calls_joined f b m n (Addr to of ∷ is) js e = calls_joined f b (suc m) n is js (omega arith)
calls_joined f b m n (FAddr to g ∷ is) js e = calls_joined f b (suc m) n is js (omega arith)
calls_joined f b m n (Elem to base i v ∷ is) js e = calls_joined f b (suc m) n is js (omega arith)
calls_joined f b m n (Field to base v ∷ is) js e = calls_joined f b (suc m) n is js (omega arith)
calls_joined f b m n (Load to from t ∷ is) js e = calls_joined f b (suc m) n is js (omega arith)
calls_joined f b m n (Store to from t ∷ is) js e = calls_joined f b (suc m) n is js (omega arith)

pub calls_more : {X : Type 0} (h : X → NumberedInst) (f b : ℕ) (xs : List X) (i : ℕ) (x : X) → i < length xs → x ≡ get_or xs i x
    → calls_from f b 0 (map h (take i xs)) ++ calls_from f b i (h x ∷ []) ≡ calls_from f b 0 (map h (take (i + 1) xs))
calls_more h f b xs i x l e =
    let le : i ≤ length xs = omega arith in
    let n : length (map h (take i xs)) ≡ i = length-map (take i xs) h ∙ length-take-le i xs le in
    sym (ap (calls_from f b 0) (map_more h xs i x l ∙ ap (λ y. map h (take i xs) ++ h y ∷ []) (sym e))
    ∙ calls_joined f b 0 i (map h (take i xs)) (h x ∷ []) (omega arith))

-- what stands at a place of a block
pub here_there : {X : Type 0} (h : X → NumberedInst) (xs : List X) (t : NumberedTerm) (i : ℕ) (x : X) → i < length xs → x ≡ get_or xs i x → here_in (map h xs) t i ≡ Does (h x)
here_there h [] t i x l e = absurd (omega arith)
here_there h (y ∷ ys) t zero x l e = ap (λ z. Does (h z)) (sym e)
here_there h (y ∷ ys) t (suc i) x l e = here_there h ys t i x (omega arith) e

-- ---- one instruction

pub idle : (p : Program) (S : ObjectSets) (old : List SiteNeed) (l : List CallPlace) → l ≡ [] → Adds p S old old l
idle p S old l e = same_adds p S old old [] l (sym e) (adds_none p S old)

only : (x h : ℕ) → Contains (x ∷ []) h → h ≡ x
only x h i = by (cases x h [] i)
  where
    by : (x ≡ h) ⊎ Contains [] h → h ≡ x
    by (inl e) = sym e
    by (inr r) = absurd (in_none h r)

rises : (g : ℕ) → IsStrictlySortedBy nat_cmp (g ∷ [])
unfolding IsStrictlySortedBy
rises g = (tt, tt)

pub one_target : (g : ℕ) → ListsExactly nat_cmp (λ x. x ≡ g) (g ∷ [])
one_target g = record { rising = rises g; each = λ x h. only g x h; all = λ x e. subst (λ (y : ℕ). Contains (g ∷ []) y) (sym e) (head g []) }

pub site_is : (p : Program) (S : ObjectSets) (f b k : ℕ) (h : Here) (ts : List ℕ) → here p f b k ≡ h → ListsExactly nat_cmp (CallsAt p S f h) ts
    → IsSiteOf p S (record { func = f; block = b; inst = k }) (record { func = f; block = b; inst = k; targets = ts })
site_is p S f b k h ts e l = record { func = refl; block = refl; inst = refl; targets = subst (λ x. ListsExactly nat_cmp (CallsAt p S f x) ts) (sym e) l }

-- the register of a call is there
pub call_below : (ks : List Known) (m n : ℕ) (o : Operation) → m ≡ n → ((u : Use) → Contains (used (operation_of ks o)) u → IsBelow m u) → CallsBelow n o
call_below ks m n (operation.ICall to r args) e h = let l : r < m = h (uses.Indirect r) (head (uses.Indirect r) []) in omega arith
call_below ks m n (operation.Call to f args) e h = tt
call_below ks m n (operation.Const to v) e h = tt
call_below ks m n (operation.Move to from) e h = tt
call_below ks m n (operation.Bin op to a b) e h = tt
call_below ks m n (operation.Cmp op to a b) e h = tt
call_below ks m n (operation.Addr to of) e h = tt
call_below ks m n (operation.FAddr to f) e h = tt
call_below ks m n (operation.Elem to base index t) e h = tt
call_below ks m n (operation.Field to base offset) e h = tt
call_below ks m n (operation.Load to from t) e h = tt
call_below ks m n (operation.Store to from t) e h = tt

-- ---- one block

pub block_read : (q : programs.Program) (f : ℕ) (r : Routine) (s : List Sequence) (b : ℕ) (x : Sequence) → func_at (program_of q) f ≡ routine_of (known_of q) r
    → s ≡ r.blocks → x ≡ get_or s b x → b < length r.blocks → block_at (program_of q) f b ≡ sequence_of (known_of q) x
block_read q f r s b x e i h l =
    ap (λ g. get_or g.blocks b no_block) e ∙ (get_or-map (sequence_of (known_of q)) r.blocks b x no_block l ∙ ap (sequence_of (known_of q)) (sym (h ∙ ap (λ y. get_or y b x) i)))

pub ops_read : (q : programs.Program) (f : ℕ) (s : List Routine) (r : Routine) (t : List Sequence) (b : ℕ) (x : Sequence) (os : List Operation) → s ≡ q.funcs → r ≡ get_or s f r → f < length q.funcs
    → t ≡ (get_or s f r).blocks → x ≡ get_or t b x → b < length (func_at (program_of q) f).blocks → os ≡ (get_or t b x).operations → (block_at (program_of q) f b).insts ≡ map (operation_of (known_of q)) os
ops_read q f s r t b x os i j l g h m o =
    let e = func_read q s f r i j l ∙ ap (routine_of (known_of q)) j in
    let n = ap (λ (y : NumberedFunc). length y.blocks) e ∙ length-map (get_or s f r).blocks (sequence_of (known_of q)) in
    let d : b < length (get_or s f r).blocks = omega arith in
    let k = block_read q f (get_or s f r) t b x e g h d ∙ ap (sequence_of (known_of q)) h in
    ap (λ (y : NumberedBlock). y.insts) k ∙ ap (map (operation_of (known_of q))) (sym o)

pub op_there : (p : Program) (ks : List Known) (f b i : ℕ) (os : List Operation) (o : Operation) → (block_at p f b).insts ≡ map (operation_of ks) os → i < length os → o ≡ get_or os i o
    → here p f b i ≡ Does (operation_of ks o)
op_there p ks f b i os o e l q = ap (λ is. here_in is (block_at p f b).term i) e ∙ here_there (operation_of ks) os (block_at p f b).term i o l q
