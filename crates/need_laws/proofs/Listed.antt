-- What the sets give at a place is listed in the needs by them.
use Rattle.std.proofs.Common.{◌≡◌, ℕ, zero, suc, ◌+◌, ◌<◌, Bool, List, [], ◌∷◌, length, get_or, refl, sym, subst, inl, inr, arith}
use Rattle.std.specs.Prelude.{Contains}
use Rattle.ir_model.specs.declared.object.ObjId.{ObjId}
use Rattle.ir_model.specs.declared.object.ObjId.TheVariants.{Global, Periph, Local, Func}
use Rattle.ir_model.specs.Resolved.{Program, NumberedInst, Const, Move, Bin, Cmp, Addr, FAddr, Elem, Field, Load, Store, Call, ICall, NumberedTerm, Jump, NumberedFunc, no_func, NumberedBlock, no_block, Here, Ends, func_at, block_at, here, here_in}
use Rattle.ir_model.specs.State.{Object, GlobalObject, PeriphObject, LocalObject, FunctionObject}
use Rattle.ir_model.specs.Objects.{object_by}
use Rattle.ir_laws.specs.Sets.{ObjectSets, ReadsAt, WritesAt, CallsAt, IsRead, IsWritten}
use Rattle.plan_model.specs.declared.needs.Needs.{Needs}
use Rattle.plan_model.specs.Lists.{numbers_below}
use Rattle.plan_model.specs.Calls.{CallPlace, calls_from, calls_of, call_places, IsSiteOf}
use Rattle.plan_model.specs.Needs.{need_of, IsData, IsWritable, AreNeeds}
use Rattle.need_laws.specs.Reached.{IsListed, ListsPeriph, HasTarget}
use Rattle.need_lists.proofs.Parts.{head, tail, joined, number_in}
use Rattle.need_lists.proofs.Members.{partner}

-- ---- objects by their numbers

-- the name of an object in the needs: the other way of `object_by`
abbrev pub id_of : Object → ObjId
id_of (GlobalObject g) = Global g
id_of (PeriphObject q) = Periph q
id_of (LocalObject f l) = Local f l
id_of (FunctionObject f) = Func f

pub object_by_id : (o : Object) → object_by (id_of o) ≡ o
object_by_id (GlobalObject g) = refl
object_by_id (PeriphObject q) = refl
object_by_id (LocalObject f l) = refl
object_by_id (FunctionObject f) = refl

-- ---- places that are not there

-- a property that holds of no block's end but of instructions alone
abbrev pub OfInstructions : (Here → Type 0) → Type 0
OfInstructions P = (t : NumberedTerm) → P (Ends t) → ⊥

pub past_last : (P : Here → Type 0) → OfInstructions P → (is : List NumberedInst) (t : NumberedTerm) (k : ℕ) → P (here_in is t k) → k < length is
past_last P e [] t k h = absurd (e t h)
past_last P e (i ∷ is) t zero h = omega arith
past_last P e (i ∷ is) t (suc k) h = let r = past_last P e is t k h in omega arith

block_there : (P : Here → Type 0) → OfInstructions P → (bs : List NumberedBlock) (b k : ℕ) → P (here_in (get_or bs b no_block).insts (get_or bs b no_block).term k) → b < length bs
block_there P e [] b k h = absurd (e (Jump 0) h)
block_there P e (x ∷ bs) zero k h = omega arith
block_there P e (x ∷ bs) (suc b) k h = let r = block_there P e bs b k h in omega arith

func_there : (P : Here → Type 0) → OfInstructions P → (fs : List NumberedFunc) (f b k : ℕ) → P (here_in (get_or (get_or fs f no_func).blocks b no_block).insts (get_or (get_or fs f no_func).blocks b no_block).term k) → f < length fs
func_there P e [] f b k h = absurd (e (Jump 0) h)
func_there P e (x ∷ fs) zero b k h = omega arith
func_there P e (x ∷ fs) (suc f) b k h = let r = func_there P e fs f b k h in omega arith

-- the function, the block and the place of an instruction are there
pub record Stands (p : Program) (f b k : ℕ) : Type 0 where
  pub func : f < length p.funcs
  pub block : b < length (func_at p f).blocks
  pub inst : k < length (block_at p f b).insts

pub stands : (P : Here → Type 0) → OfInstructions P → (p : Program) (f b k : ℕ) → P (here p f b k) → Stands p f b k
stands P e p f b k h =
    record {
      func = func_there P e p.funcs f b k h;
      block = block_there P e (func_at p f).blocks b k h;
      inst = past_last P e (block_at p f b).insts (block_at p f b).term k h;
    }

pub reads_stand : (S : ObjectSets) (p : Program) (f b k : ℕ) (o : Object) → ReadsAt S f (here p f b k) o → Stands p f b k
reads_stand S p f b k o h = stands (λ x. ReadsAt S f x o) (λ t e. e) p f b k h

pub writes_stand : (S : ObjectSets) (p : Program) (f b k : ℕ) (o : Object) → WritesAt S f (here p f b k) o → Stands p f b k
writes_stand S p f b k o h = stands (λ x. WritesAt S f x o) (λ t e. e) p f b k h

pub calls_stand : (S : ObjectSets) (p : Program) (f b k g : ℕ) → CallsAt p S f (here p f b k) g → Stands p f b k
calls_stand S p f b k g h = stands (λ x. CallsAt p S f x g) (λ t e. e) p f b k h

-- ---- call places

abbrev pub place_at : (f b k : ℕ) → CallPlace
place_at f b k = record { func = f; block = b; inst = k }

-- more calls behind those of one instruction
skipped : (f b m : ℕ) (i : NumberedInst) (is : List NumberedInst) (c : CallPlace) → Contains (calls_from f b (suc m) is) c → Contains (calls_from f b m (i ∷ is)) c
skipped f b m (Call to g args) is c h = tail (place_at f b m) c (calls_from f b (suc m) is) h
skipped f b m (ICall to r args) is c h = tail (place_at f b m) c (calls_from f b (suc m) is) h
skipped f b m (Const to n) is c h = h
skipped f b m (Move to from) is c h = h
skipped f b m (Bin op to x y) is c h = h
skipped f b m (Cmp op to x y) is c h = h
skipped f b m (Addr to of) is c h = h
skipped f b m (FAddr to g) is c h = h
skipped f b m (Elem to base i n) is c h = h
skipped f b m (Field to base n) is c h = h
skipped f b m (Load to from t) is c h = h
skipped f b m (Store to from t) is c h = h

call_listed : (p : Program) (S : ObjectSets) (f b m g : ℕ) (is : List NumberedInst) (t : NumberedTerm) (k n : ℕ) → CallsAt p S f (here_in is t k) g → n ≡ m + k
    → Contains (calls_from f b m is) (place_at f b n)
call_listed p S f b m g [] t k n h e = absurd h
call_listed p S f b m g (Call to x args ∷ is) t zero n h e =
    let q : m ≡ n = omega arith in subst (λ (i : ℕ). Contains (calls_from f b m (Call to x args ∷ is)) (place_at f b i)) q (head (place_at f b m) (calls_from f b (suc m) is))
call_listed p S f b m g (ICall to r args ∷ is) t zero n h e =
    let q : m ≡ n = omega arith in subst (λ (i : ℕ). Contains (calls_from f b m (ICall to r args ∷ is)) (place_at f b i)) q (head (place_at f b m) (calls_from f b (suc m) is))
call_listed p S f b m g (Const to x ∷ is) t zero n h e = absurd h
call_listed p S f b m g (Move to from ∷ is) t zero n h e = absurd h
call_listed p S f b m g (Bin op to x y ∷ is) t zero n h e = absurd h
call_listed p S f b m g (Cmp op to x y ∷ is) t zero n h e = absurd h
call_listed p S f b m g (Addr to of ∷ is) t zero n h e = absurd h
call_listed p S f b m g (FAddr to x ∷ is) t zero n h e = absurd h
call_listed p S f b m g (Elem to base i x ∷ is) t zero n h e = absurd h
call_listed p S f b m g (Field to base x ∷ is) t zero n h e = absurd h
call_listed p S f b m g (Load to from u ∷ is) t zero n h e = absurd h
call_listed p S f b m g (Store to from u ∷ is) t zero n h e = absurd h
call_listed p S f b m g (i ∷ is) t (suc k) n h e = skipped f b m i is (place_at f b n) (call_listed p S f b (suc m) g is t k n h (omega arith))

pub call_place : (p : Program) (S : ObjectSets) (f b k g : ℕ) → CallsAt p S f (here p f b k) g → Contains (call_places p) (place_at f b k)
call_place p S f b k g h =
    let s = calls_stand S p f b k g h in
    joined (calls_of p) f (place_at f b k) (numbers_below (length p.funcs)) (number_in f (length p.funcs) s.func)
    (joined (λ (x : ℕ). calls_from f x 0 (block_at p f x).insts) b (place_at f b k) (numbers_below (length (func_at p f).blocks)) (number_in b (length (func_at p f).blocks) s.block)
    (call_listed p S f b 0 g (block_at p f b).insts (block_at p f b).term k k h (omega arith)))

-- ---- what needs list

module _ (p : Program) (S : ObjectSets) (closed : Bool) (n : Needs) (needs : AreNeeds p S closed n) where
  pub read_listed : (f : ℕ) (o : Object) → IsData o → IsRead p S f o → IsListed (need_of n f).read o
  read_listed f o d r =
      let s = reads_stand S p f r.0 r.1 o r.2 in
      let e = object_by_id o in
      (id_of o, (needs.funcs f s.func).read.all (id_of o) (subst (λ (x : Object). IsData x × IsRead p S f x) (sym e) (d, r)), e)

  pub written_listed : (f : ℕ) (o : Object) → IsWritable p o → IsWritten p S f o → IsListed (need_of n f).written o
  written_listed f o w r =
      let s = writes_stand S p f r.0 r.1 o r.2 in
      let e = object_by_id o in
      (id_of o, (needs.funcs f s.func).written.all (id_of o) (subst (λ (x : Object). IsWritable p x × IsWritten p S f x) (sym e) (w, r)), e)

  pub periph_written : (f : ℕ) (o : Object) → IsWritten p S f o → ListsPeriph n f o
  periph_written f (GlobalObject g) r = tt
  periph_written f (PeriphObject q) r = (needs.funcs f (writes_stand S p f r.0 r.1 (PeriphObject q) r.2).func).periphs.all q (inl r)
  periph_written f (LocalObject g l) r = tt
  periph_written f (FunctionObject g) r = tt

  pub periph_read : (f : ℕ) (o : Object) → IsRead p S f o → ListsPeriph n f o
  periph_read f (GlobalObject g) r = tt
  periph_read f (PeriphObject q) r = (needs.funcs f (reads_stand S p f r.0 r.1 (PeriphObject q) r.2).func).periphs.all q (inr r)
  periph_read f (LocalObject g l) r = tt
  periph_read f (FunctionObject g) r = tt

  pub call_has_target : (f b k g : ℕ) → CallsAt p S f (here p f b k) g → HasTarget n f b k g
  call_has_target f b k g h =
      let s = partner (IsSiteOf p S) (place_at f b k) (call_places p) n.sites needs.sites (call_place p S f b k g h) in
      record {
        site = s.other;
        listed = s.listed;
        func = s.related.func;
        block = s.related.block;
        inst = s.related.inst;
        target = s.related.targets.all g h;
      }

  pub callee_listed : (f b k g : ℕ) → CallsAt p S f (here p f b k) g → Contains (need_of n f).callees g
  callee_listed f b k g h = (needs.funcs f (calls_stand S p f b k g h).func).callees.all g (b, k, h)
