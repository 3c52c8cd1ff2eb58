-- While sets are closed, every state of a typed program's run fits, and each step reaches what the sets have.
use Rattle.std.proofs.Common.{◌≡◌, ℕ, zero, suc, ◌+◌, ◌*◌, ◌<◌, ◌≤◌, Bool, true, false, List, [], ◌∷◌, length, Option, Some, None, nat_eq, refl, sym, ap, ◌∙◌, get_or, set, map, subst, arith}
use Rattle.std.specs.Prelude.{if◌then◌else◌}
use Rattle.std.proofs.lemmas.Bool.{eqb-true, and_parts}
use Rattle.std.proofs.lemmas.List.{length-set, length-map}
use Rattle.base_words.specs.Arithmetic.{word}
use Rattle.base_words.specs.Bytes.{cut}
use Rattle.ir_model.specs.Types.{PlainType, U32, Pointer, Callee, PlainTypes, PlainResult, gives, is_integer, width_of}
use Rattle.ir_model.specs.Layout.{CellPlace, Shape, empty, cell_at}
use Rattle.ir_model.specs.Resolved.{Program, Value, Number, Instance, OfGlobal, OfPeriph, OfLocal, TheGlobal, ThePeriph, TheLocal, NumberedGlobal, NumberedInst, Const, Move, Bin, Cmp, Addr, FAddr, Elem, Field, Load, Store, Call, ICall, NumberedTerm, Jump, Branch, Ret, Here, Does, Ends, no_global, func_at, global_at, cells_of_global, cells_of_local, block_at, register_type, here, here_in}
use Rattle.ir_model.specs.Resolved as numbered
use Rattle.ir_model.specs.Resolve.{zero_of}
use Rattle.ir_model.specs.State.{Frame, Memory, NullFault, SourceState, Running, Ended, Object, GlobalObject, PeriphObject, LocalObject, FunctionObject, object_of, SourceTurn, Loaded, Stored, frame_of, entered, zero_cells, zero_local, start}
use Rattle.ir_model.specs.Step.{register, number_in, SourceAct, Sets, Fails, Loads, Stores, Enters, address_of, with_pointer, with_code, act, with_register, onward, is_frame, frame_in, with_local, has_port, cut_to, load_cell, load_local, take_input, load_port, load, store_global, store_cell, store_local, store_port, store, perform, result_register, answered, back_to, jumped, leave, turn_here, source_turn}
use Rattle.ir_model.specs.Signatures.{row_length, signature, widened, cell_in}
use Rattle.ir_model.specs.Typing.{object_limit}
use Rattle.ir_laws.specs.Typed.{KeepsResult, CallTyped, IsThere, IsPlaced, InstTyped, EndTyped, HereTyped, Fits, number, null, at, code, Typed}
use Rattle.ir_laws.specs.Sets.{ObjectSets, Register, Content, Outcome, IsWithin, carries, named_object, ResultFlows, CallFlows, InstFlows, EndFlows, HereFlows, Closed, IsOf, ReadsAt, WritesAt, CallsAt, IsExpected}
use Rattle.ir_laws.specs.States.{CellsFit, FrameFits, AnswerFits, Waits, FramesFit, MemoryFits, StateFits, TurnFits}
use Rattle.ir_laws.proofs.Words.{binary_fits, bit_fits, cut_fits}
use Rattle.ir_laws.proofs.Values.{flow, typed_as, word_of, zero_fits, widen, narrow, entered_length}
use Rattle.ir_laws.proofs.Aligned.{found_at}

-- ---- lists and places

set_each : {A : Type 0} (P : ℕ → A → Type 0) (vs : List A) (k : ℕ) (v d : A) → ((i : ℕ) → P i (get_or vs i d)) → P k v → (i : ℕ) → P i (get_or (set vs k v) i d)
set_each P [] k v d h e i = h i
set_each P (x ∷ vs) zero v d h e zero = e
set_each P (x ∷ vs) zero v d h e (suc i) = h (suc i)
set_each P (x ∷ vs) (suc k) v d h e zero = h zero
set_each P (x ∷ vs) (suc k) v d h e (suc i) = set_each (λ j. P (suc j)) vs k v d (λ j. h (suc j)) e i

does_inside : (is : List NumberedInst) (t : NumberedTerm) (k : ℕ) (i : NumberedInst) → here_in is t k ≡ Does i → k < length is
does_inside [] t k i e = cc
does_inside (j ∷ is) t zero i e = omega arith
does_inside (j ∷ is) t (suc k) i e = let r = does_inside is t k i e in omega arith

pub call_inside : (p : Program) (S : ObjectSets) (f g : ℕ) (is : List NumberedInst) (t : NumberedTerm) (k : ℕ) → CallsAt p S f (here_in is t k) g → k < length is
call_inside p S f g [] t k c = absurd c
call_inside p S f g (i ∷ is) t zero c = omega arith
call_inside p S f g (i ∷ is) t (suc k) c = let r = call_inside p S f g is t k c in omega arith

-- a cell that is found has the type
abbrev FoundCell : List CellPlace → PlainType → Option ℕ → Type 0
FoundCell cs t None = Unit {0}
FoundCell cs t (Some k) = (cell_in cs k).ty ≡ t

found_by : (cs : List CellPlace) (a : ℕ) (t : PlainType) (k : Option ℕ) → cell_at cs a t ≡ k → FoundCell cs t k
found_by cs a t None e = tt
found_by cs a t (Some k) e = (found_at cs a t k e).ty

found_cell : (cs : List CellPlace) (a : ℕ) (t : PlainType) → FoundCell cs t (cell_at cs a t)
found_cell cs a t = found_by cs a t (cell_at cs a t) refl

module _ (p : Program) (sizes : PlainType → ℕ) (S : ObjectSets) (closed : Closed p S) (typed : Typed p sizes) where
  abbrev FitsType : (Object → Bool) → PlainType → Value → Type 0
  FitsType X t v = Fits p sizes X t v

  abbrev Frames : List Frame → Type 0
  Frames fs = FramesFit p sizes S fs

  abbrev Good : Frame → Type 0
  Good fr = FrameFits p sizes S fr

  abbrev Turn : SourceTurn → Type 0
  Turn t = TurnFits p sizes S t

  -- ---- what an instruction asks for

  abbrev GoodAct : (f : ℕ) → Here → SourceAct → Type 0
  GoodAct f h (Sets to v) = FitsType (S (Register f to)) (register_type p f to) v
  GoodAct f h (Fails e) = Unit {0}
  GoodAct f h (Loads to o a t) = ReadsAt S f h (object_of o) × (register_type p f to ≡ widened t) × (carries t ≡ true → IsWithin S (Content (object_of o)) (Register f to))
  GoodAct f h (Stores o a t v) = WritesAt S f h (object_of o) × FitsType (S (Content (object_of o))) t (cut_to t v)
  GoodAct f h (Enters g vs) = CallsAt p S f h g × (g < length p.funcs) × ((k : ℕ) → k < length vs → FitsType (S (Register g k)) (register_type p g k) (get_or vs k (Number 0))) × AnswerFits p sizes S f g (result_register h)

  placed : (Q : SourceAct → Type 0) (X : Object → Bool) (u : PlainType) (v : Value) (go : Instance → ℕ → SourceAct) → FitsType X (Pointer u) v
      → ((o : Instance) (k : ℕ) → X (object_of o) ≡ true → IsPlaced p o → sizes u ≤ object_limit → Q (go o k)) → Q (Fails NullFault) → Q (with_pointer v go)
  placed Q X u v go (number n e l) h z = cc
  placed Q X u v go (null e) h z = z
  placed Q X u v go (at o k e l i s) h z = h o k e i s

  coded : (Q : SourceAct → Type 0) (X : Object → Bool) (a : PlainTypes) (r : PlainResult) (v : Value) (go : ℕ → SourceAct) → FitsType X (Callee a r) v
      → ((g : ℕ) → signature p g ≡ Callee a r → X (FunctionObject g) ≡ true → g < length p.funcs → Q (go g)) → Q (Fails NullFault) → Q (with_code v go)
  coded Q X a r v go (number n e l) h z = cc
  coded Q X a r v go (null e) h z = z
  coded Q X a r v go (code g s e i) h z = h g s e i

  address_fits : (fr : Frame) (of : numbered.Named) (u : PlainType) (X : Object → Bool) → X (named_object fr.func of) ≡ true → IsThere p (func_at p fr.func) of → sizes u ≤ object_limit → FitsType X (Pointer u) (address_of fr of)
  address_fits fr (TheGlobal g) u X e i s = at (OfGlobal g) 0 e (omega arith) i s
  address_fits fr (ThePeriph q) u X e i s = at (OfPeriph q) 0 e (omega arith) i s
  address_fits fr (TheLocal l) u X e i s = at (OfLocal fr.func fr.number l) 0 e (omega arith) i s

  map_at : (regs : List Value) (args : List ℕ) (P : ℕ → Value → Type 0) → ((k : ℕ) → k < length args → P k (get_or regs (get_or args k 0) (Number 0))) → (k : ℕ) → k < length (map (λ r. get_or regs r (Number 0)) args) → P k (get_or (map (λ r. get_or regs r (Number 0)) args) k (Number 0))
  map_at regs [] P h k l = absurd (omega arith)
  map_at regs (a ∷ args) P h zero l = h zero (omega arith)
  map_at regs (a ∷ args) P h (suc k) l = map_at regs args (λ j. P (suc j)) (λ j m. h (suc j) (omega arith)) k (omega arith)

  answer_fits : (f g : ℕ) (to : Option ℕ) → KeepsResult (func_at p f) to (func_at p g).outcome → ResultFlows p S f g to → AnswerFits p sizes S f g to
  answer_fits f g None t h = tt
  answer_fits f g (Some to) t h = (t.1 ∙ ap gives (sym t.2.ty), h)

  call_good : (fr : Frame) (h : Here) (to : Option ℕ) (g : ℕ) (args : List ℕ) → Good fr → g < length p.funcs → CallTyped (func_at p fr.func) to args (func_at p g).params (func_at p g).outcome
      → CallFlows p S fr.func g to args → CallsAt p S fr.func h g → result_register h ≡ to → GoodAct fr.func h (Enters g (map (register fr) args))
  call_good fr h to g args good l t c s e = (
    s,
    l,
    map_at fr.regs args (λ k v. FitsType (S (Register g k)) (register_type p g k) v)
        (λ k m.
        let n : k < row_length (func_at p g).params = subst (λ (x : ℕ). k < x) t.count m in
        flow p sizes (c.arguments k m) (typed_as p sizes ((t.arguments k m).ty ∙ sym ((typed.funcs g).params k n).ty) (good.regs (get_or args k 0)))),
    subst (λ (x : Option ℕ). AnswerFits p sizes S fr.func g x) (sym e) (answer_fits fr.func g to t.outcome c.outcome),
  )

  called_as : (f g : ℕ) (to : Option ℕ) (args : List ℕ) (a : PlainTypes) (r : PlainResult) → signature p g ≡ Callee a r → CallTyped (func_at p f) to args a r → CallTyped (func_at p f) to args (func_at p g).params (func_at p g).outcome
  called_as f g to args a r e c =
      let x : (func_at p g).params ≡ a = cc in
      let y : (func_at p g).outcome ≡ r = cc in
      subst (λ (z : PlainTypes). CallTyped (func_at p f) to args z (func_at p g).outcome) (sym x) (subst (λ (z : PlainResult). CallTyped (func_at p f) to args a z) (sym y) c)

  act_good : (fr : Frame) (i : NumberedInst) → Good fr → InstTyped p sizes (func_at p fr.func) i → InstFlows p S fr.func i → GoodAct fr.func (Does i) (act fr i)
  unfolding act
  act_good fr (Const to n) good t o = typed_as p sizes (sym t.0.ty) (number n refl t.1)
  act_good fr (Move to from) good t o = flow p sizes o (typed_as p sizes (t.2.ty ∙ sym t.1.ty) (good.regs from))
  act_good fr (Bin op to a b) good t o =
      typed_as p sizes (sym t.0.ty) (number _ refl (binary_fits op _ _ (word_of p sizes (typed_as p sizes t.1.ty (good.regs a))) (word_of p sizes (typed_as p sizes t.2.ty (good.regs b)))))
  act_good fr (Cmp op to a b) good t o = typed_as p sizes (sym t.0.ty) (number _ refl (bit_fits _))
  act_good fr (Addr to of) good t o = typed_as p sizes (sym t.held.ty) (address_fits fr of t.target (S (Register fr.func to)) o t.there t.small)
  act_good fr (FAddr to g) good t o = typed_as p sizes (sym t.0.ty) (code g refl o t.1)
  act_good fr (Elem to base i n) good t o =
      placed (GoodAct fr.func (Does (Elem to base i n))) (S (Register fr.func base)) t.part.whole (register fr base) _ (typed_as p sizes t.part.from.ty (good.regs base))
      (λ q k e l s. typed_as p sizes (sym t.part.held.ty) (at q (word (k + number_in (register fr i) * n)) (o (object_of q) e) (omega arith) l (t.part.smaller s))) tt
  act_good fr (Field to base n) good t o =
      placed (GoodAct fr.func (Does (Field to base n))) (S (Register fr.func base)) t.part.whole (register fr base) _ (typed_as p sizes t.part.from.ty (good.regs base))
      (λ q k e l s. typed_as p sizes (sym t.part.held.ty) (at q (word (k + n)) (o (object_of q) e) (omega arith) l (t.part.smaller s))) tt
  act_good fr (Load to from u) good t o =
      placed (GoodAct fr.func (Does (Load to from u))) (S (Register fr.func from)) u (register fr from) _ (typed_as p sizes t.from.ty (good.regs from)) (λ q k e l s. (e, t.held.ty, λ h. o h (object_of q) e)) tt
  act_good fr (Store to from u) good t o =
      placed (GoodAct fr.func (Does (Store to from u))) (S (Register fr.func to)) u (register fr to) _ (typed_as p sizes t.from.ty (good.regs to))
      (λ q k e l s. (e, flow p sizes (λ h. o h (object_of q) e) (narrow p sizes u (register fr from) (typed_as p sizes t.held.ty (good.regs from))))) tt
  act_good fr (Call to g args) good t o = call_good fr (Does (Call to g args)) to g args good t.0 t.1 o refl refl
  act_good fr (ICall to r args) good t o =
      coded (GoodAct fr.func (Does (ICall to r args))) (S (Register fr.func r)) t.params t.outcome (register fr r) _ (typed_as p sizes t.held.ty (good.regs r))
      (λ g s e l. call_good fr (Does (ICall to r args)) to g args good l (called_as fr.func g to args t.params t.outcome s t.call) (o g e (s ∙ sym t.held.ty)) (e, s ∙ sym t.held.ty) refl) tt

  -- ---- frames

  set_good : (fr : Frame) (to : ℕ) (v : Value) → Good fr → FitsType (S (Register fr.func to)) (register_type p fr.func to) v → Good (with_register fr to v)
  set_good fr to v good h =
      record {
        regs = set_each (λ r x. FitsType (S (Register fr.func r)) (register_type p fr.func r) x) fr.regs to v (Number 0) good.regs h;
        locals = good.locals;
        registers = length-set fr.regs to v ∙ good.registers;
        objects = good.objects;
        func = good.func;
        block = good.block;
        place = good.place;
      }

  on_good : (fr : Frame) → fr.place < length (block_at p fr.func fr.block).insts → Good fr → Good (onward fr)
  on_good fr l good = record { regs = good.regs; locals = good.locals; registers = good.registers; objects = good.objects; func = good.func; block = good.block; place = omega arith }

  jump_good : (fr : Frame) (b : ℕ) → b < length (func_at p fr.func).blocks → Good fr → Good (jumped fr b)
  jump_good fr b l good = record { regs = good.regs; locals = good.locals; registers = good.registers; objects = good.objects; func = good.func; block = l; place = omega arith }

  abbrev FoundFrame : (f : ℕ) → Option Frame → Type 0
  FoundFrame f None = Unit {0}
  FoundFrame f (Some fr) = Good fr × (fr.func ≡ f)

  found_frame : (fs : List Frame) (f n : ℕ) → Frames fs → FoundFrame f (frame_in fs f n)
  found_frame [] f n h = tt
  found_frame (fr ∷ fs) f n h = pick (is_frame fr f n) refl (found_frame fs f n h.2)
    where
      pick : (b : Bool) → is_frame fr f n ≡ b → FoundFrame f (frame_in fs f n) → FoundFrame f (if b then Some fr else frame_in fs f n)
      pick true e ih = (h.0, eqb-true fr.func f (and_parts (nat_eq fr.number n) (nat_eq fr.func f) e).1)
      pick false e ih = ih

  abbrev Cells : Object → List CellPlace → List Value → Type 0
  Cells o cs vs = CellsFit p sizes S o cs vs

  local_good : (fr : Frame) (f l : ℕ) (vs : List Value) → fr.func ≡ f → Good fr → Cells (LocalObject f l) (cells_of_local p f l) vs → Good (record fr { locals = set fr.locals l vs })
  local_good fr f l vs e good h =
      record {
        regs = good.regs;
        locals = set_each (λ i xs. Cells (LocalObject fr.func i) (cells_of_local p fr.func i) xs) fr.locals l vs [] good.locals (subst (λ g. Cells (LocalObject g l) (cells_of_local p g l) vs) (sym e) h);
        registers = good.registers;
        objects = length-set fr.locals l vs ∙ good.objects;
        func = good.func;
        block = good.block;
        place = good.place;
      }

  local_waits : (g : ℕ) (fs : List Frame) (f n l : ℕ) (vs : List Value) → Waits p sizes S g fs → Waits p sizes S g (with_local fs f n l vs)
  local_waits g [] f n l vs w = w
  local_waits g (fr ∷ fs) f n l vs w = pick (is_frame fr f n)
    where
      pick : (b : Bool) → Waits p sizes S g (if b then record fr { locals = set fr.locals l vs } ∷ fs else fr ∷ with_local fs f n l vs)
      pick true = w
      pick false = w

  with_local_good : (fs : List Frame) (f n l : ℕ) (vs : List Value) → Frames fs → Cells (LocalObject f l) (cells_of_local p f l) vs → Frames (with_local fs f n l vs)
  with_local_good [] f n l vs h c = tt
  with_local_good (fr ∷ fs) f n l vs h c = pick (is_frame fr f n) refl (with_local_good fs f n l vs h.2 c)
    where
      pick : (b : Bool) → is_frame fr f n ≡ b → Frames (with_local fs f n l vs) → Frames (if b then record fr { locals = set fr.locals l vs } ∷ fs else fr ∷ with_local fs f n l vs)
      pick true e ih = (local_good fr f l vs (eqb-true fr.func f (and_parts (nat_eq fr.number n) (nat_eq fr.func f) e).1) h.0 c, h.1, h.2)
      pick false e ih = (h.0, local_waits fr.func fs f n l vs h.1, ih)

  -- ---- loads and stores of a running frame

  cell_set : (o : Object) (cs : List CellPlace) (vs : List Value) (k : ℕ) (t : PlainType) (v : Value) → (cell_in cs k).ty ≡ t → Cells o cs vs → FitsType (S (Content o)) t v → Cells o cs (set vs k v)
  cell_set o cs vs k t v e c h = record { each = set_each (λ i x. FitsType (S (Content o)) (cell_in cs i).ty x) vs k v (Number 0) c.each (typed_as p sizes (sym e) h); count = length-set vs k v ∙ c.count }

  module _ (fr : Frame) (rest : List Frame) (m : Memory) (gf : Frames (fr ∷ rest)) (gm : MemoryFits p sizes S m) (inside : fr.place < length (block_at p fr.func fr.block).insts) where
    sets : (to : ℕ) (v : Value) → FitsType (S (Register fr.func to)) (register_type p fr.func to) v → Frames (onward (with_register fr to v) ∷ rest)
    sets to v h = (on_good (with_register fr to v) inside (set_good fr to v gf.0 h), gf.1, gf.2)

    passes : Frames (onward fr ∷ rest)
    passes = (on_good fr inside gf.0, gf.1, gf.2)

    module _ (to : ℕ) (t : PlainType) (ty : register_type p fr.func to ≡ widened t) where
      load_cell_good : (o : Object) (cs : List CellPlace) (vs : List Value) (k : Option ℕ) → (carries t ≡ true → IsWithin S (Content o) (Register fr.func to)) → Cells o cs vs → FoundCell cs t k → IsExpected p S (Loaded fr.func o) → Turn (load_cell fr rest m to o vs k)
      load_cell_good o cs vs None s c q n = record { to = tt; did = tt }
      load_cell_good o cs vs (Some k) s c q n = record { to = (sets to (get_or vs k (Number 0)) (typed_as p sizes (sym ty) (widen p sizes t _ (flow p sizes s (typed_as p sizes q (c.each k))))), gm); did = n }

      load_local_good : (f l a : ℕ) (h : Option Frame) → (carries t ≡ true → IsWithin S (Content (LocalObject f l)) (Register fr.func to)) → FoundFrame f h → IsExpected p S (Loaded fr.func (LocalObject f l)) → Turn (load_local p fr rest m to f l a t h)
      load_local_good f l a None s q n = record { to = tt; did = tt }
      load_local_good f l a (Some h) s q n =
          load_cell_good (LocalObject f l) (cells_of_local p f l) (get_or h.locals l []) (cell_at (cells_of_local p f l) a t) s (subst (λ x. Cells (LocalObject x l) (cells_of_local p x l) (get_or h.locals l [])) q.1 (q.0.locals l)) (found_cell (cells_of_local p f l) a t) n

      input_good : (c : List ℕ) (q a : ℕ) (ws : List ℕ) → is_integer t ≡ true → IsExpected p S (Loaded fr.func (PeriphObject q)) → Turn (take_input c fr rest m to q a t ws)
      input_good c q a [] i n = record { to = tt; did = tt }
      input_good c q a (x ∷ ws) i n = record { to = (sets to (Number (cut (width_of t) x)) (typed_as p sizes (sym ty) (widen p sizes t _ (number (cut (width_of t) x) i (cut_fits t x i)))), record { globals = gm.globals; objects = gm.objects }); did = n }

      load_port_good : (c : List ℕ) (q a : ℕ) (b : Bool) → has_port p q a t ≡ b → IsExpected p S (Loaded fr.func (PeriphObject q)) → Turn (load_port c fr rest m to q a t b)
      load_port_good c q a false h n = record { to = tt; did = tt }
      load_port_good c q a true h n = input_good c q a (get_or m.queues q []) (and_parts (is_integer t) _ h).0 n

      load_good : (c : List ℕ) (o : Instance) (a : ℕ) → (carries t ≡ true → IsWithin S (Content (object_of o)) (Register fr.func to)) → IsExpected p S (Loaded fr.func (object_of o)) → Turn (load p c fr rest m to o a t)
      load_good c (OfGlobal g) a s n = load_cell_good (GlobalObject g) (cells_of_global p g) (get_or m.globals g []) (cell_at (cells_of_global p g) a t) s (gm.globals g) (found_cell (cells_of_global p g) a t) n
      load_good c (OfPeriph q) a s n = load_port_good c q a (has_port p q a t) refl n
      load_good c (OfLocal f k l) a s n = load_local_good f l a (frame_in (fr ∷ rest) f k) s (found_frame (fr ∷ rest) f k gf) n

    module _ (t : PlainType) (v : Value) where
      store_global_good : (g : ℕ) (constant : Bool) (k : Option ℕ) → FitsType (S (Content (GlobalObject g))) t v → FoundCell (cells_of_global p g) t k → IsExpected p S (Stored fr.func (GlobalObject g)) → Turn (store_global fr rest m g constant v k)
      store_global_good g constant None h q n = record { to = tt; did = tt }
      store_global_good g true (Some k) h q n = record { to = tt; did = tt }
      store_global_good g false (Some k) h q n =
          record {
            to = (passes, record { globals = set_each (λ i xs. Cells (GlobalObject i) (cells_of_global p i) xs) m.globals g (set (get_or m.globals g []) k v) [] gm.globals (cell_set (GlobalObject g) (cells_of_global p g) (get_or m.globals g []) k t v q (gm.globals g) h); objects = length-set m.globals g (set (get_or m.globals g []) k v) ∙ gm.objects });
            did = n;
          }

      store_cell_good : (f i l : ℕ) (vs : List Value) (k : Option ℕ) → FitsType (S (Content (LocalObject f l))) t v → Cells (LocalObject f l) (cells_of_local p f l) vs → FoundCell (cells_of_local p f l) t k → IsExpected p S (Stored fr.func (LocalObject f l)) → Turn (store_cell fr rest m f i l vs v k)
      store_cell_good f i l vs None h c q n = record { to = tt; did = tt }
      store_cell_good f i l vs (Some k) h c q n = record { to = (with_local_good (onward fr ∷ rest) f i l (set vs k v) passes (cell_set (LocalObject f l) (cells_of_local p f l) vs k t v q c h), gm); did = n }

      store_local_good : (f i l a : ℕ) (x : Option Frame) → FitsType (S (Content (LocalObject f l))) t v → FoundFrame f x → IsExpected p S (Stored fr.func (LocalObject f l)) → Turn (store_local p fr rest m f i l a t v x)
      store_local_good f i l a None h q n = record { to = tt; did = tt }
      store_local_good f i l a (Some x) h q n =
          store_cell_good f i l (get_or x.locals l []) (cell_at (cells_of_local p f l) a t) h (subst (λ y. Cells (LocalObject y l) (cells_of_local p y l) (get_or x.locals l [])) q.1 (q.0.locals l)) (found_cell (cells_of_local p f l) a t) n

      store_port_good : (c : List ℕ) (q a : ℕ) (b : Bool) → IsExpected p S (Stored fr.func (PeriphObject q)) → Turn (store_port c fr rest m q a t v b)
      store_port_good c q a false n = record { to = tt; did = tt }
      store_port_good c q a true n = record { to = (passes, gm); did = n }

      store_good : (c : List ℕ) (o : Instance) (a : ℕ) → FitsType (S (Content (object_of o))) t v → IsExpected p S (Stored fr.func (object_of o)) → Turn (store p c fr rest m o a t v)
      store_good c (OfGlobal g) a h n = store_global_good g (global_at p g).constant (cell_at (cells_of_global p g) a t) h (found_cell (cells_of_global p g) a t) n
      store_good c (OfPeriph q) a h n = store_port_good c q a (has_port p q a t) n
      store_good c (OfLocal f i l) a h n = store_local_good f i l a (frame_in (fr ∷ rest) f i) h (found_frame (fr ∷ rest) f i gf) n

  -- ---- a new frame

  entered_each : (P : ℕ → PlainType → Value → Type 0) (vs : List Value) (ts : List PlainType) → ((k : ℕ) → k < length vs → P k (get_or ts k U32) (get_or vs k (Number 0))) → ((k : ℕ) (t : PlainType) → P k t (zero_of t)) → (k : ℕ) → P k (get_or ts k U32) (get_or (entered vs ts) k (Number 0))
  entered_each P vs [] h z k = z k U32
  entered_each P [] (t ∷ ts) h z zero = z zero t
  entered_each P [] (t ∷ ts) h z (suc k) = entered_each (λ j. P (suc j)) [] ts (λ j l. absurd (omega arith)) (λ j. z (suc j)) k
  entered_each P (v ∷ vs) (t ∷ ts) h z zero = h zero (omega arith)
  entered_each P (v ∷ vs) (t ∷ ts) h z (suc k) = entered_each (λ j. P (suc j)) vs ts (λ j l. h (suc j) (omega arith)) (λ j. z (suc j)) k

  zero_each : (X : Object → Bool) (cs : List CellPlace) (k : ℕ) → FitsType X (cell_in cs k).ty (get_or (zero_cells cs) k (Number 0))
  zero_each X [] k = number 0 refl (omega arith)
  zero_each X (c ∷ cs) zero = zero_fits p sizes X c.ty
  zero_each X (c ∷ cs) (suc k) = zero_each X cs k

  abbrev ZeroRow : (Object → Bool) → List CellPlace → List Value → Type 0
  ZeroRow X cs vs = ((k : ℕ) → FitsType X (cell_in cs k).ty (get_or vs k (Number 0))) × (length vs ≡ length cs)

  zero_rows : (X : ℕ → Object → Bool) (ls : List Shape) (l : ℕ) → ZeroRow (X l) (get_or ls l empty).cells (get_or (map zero_local ls) l [])
  zero_rows X [] l = (λ k. number 0 refl (omega arith), refl)
  zero_rows X (s ∷ ls) zero = (zero_each (X zero) s.cells, length-map s.cells (λ (x : CellPlace). zero_of x.ty))
  zero_rows X (s ∷ ls) (suc l) = zero_rows (λ j. X (suc j)) ls l

  frame_good : (g n : ℕ) (vs : List Value) → g < length p.funcs → ((k : ℕ) → k < length vs → FitsType (S (Register g k)) (register_type p g k) (get_or vs k (Number 0))) → Good (frame_of p g n vs)
  frame_good g n vs l h =
      record {
        regs = entered_each (λ k t v. FitsType (S (Register g k)) t v) vs (func_at p g).regs h (λ k t. zero_fits p sizes (S (Register g k)) t);
        locals = λ i. (let r = zero_rows (λ j. S (Content (LocalObject g j))) (func_at p g).locals i in record { each = r.0; count = r.1 });
        registers = entered_length vs (func_at p g).regs;
        objects = length-map (func_at p g).locals zero_local;
        func = l;
        block = typed.blocks g l;
        place = omega arith;
      }

  -- ---- a step

  perform_good : (c : List ℕ) (fr : Frame) (rest : List Frame) (m : Memory) (i : NumberedInst) (a : SourceAct) → here p fr.func fr.block fr.place ≡ Does i → Frames (fr ∷ rest) → MemoryFits p sizes S m → GoodAct fr.func (Does i) a → Turn (perform p c fr rest m a)
  unfolding perform
  perform_good c fr rest m i (Sets to v) e g w x = record { to = (sets fr rest m g w (does_inside _ _ fr.place i e) to v x, w); did = tt }
  perform_good c fr rest m i (Fails f) e g w x = record { to = tt; did = tt }
  perform_good c fr rest m i (Loads to o a t) e g w x =
      load_good fr rest m g w (does_inside _ _ fr.place i e) to t x.1 c o a x.2 (fr.block, fr.place, subst (λ y. ReadsAt S fr.func y (object_of o)) (sym e) x.0)
  perform_good c fr rest m i (Stores o a t v) e g w x =
      store_good fr rest m g w (does_inside _ _ fr.place i e) t (cut_to t v) c o a x.1 (fr.block, fr.place, subst (λ y. WritesAt S fr.func y (object_of o)) (sym e) x.0)
  perform_good c fr rest m i (Enters f vs) e g w x =
      let s = subst (λ y. CallsAt p S fr.func y f) (sym e) x.0 in
      record {
        to = ((frame_good f m.made vs x.1 x.2, record { calls = s; answer = subst (λ y. AnswerFits p sizes S fr.func f (result_register y)) (sym e) x.3 }, g), record { globals = w.globals; objects = w.objects });
        did = s;
      }

  abbrev Gives : (g : ℕ) → Value → Type 0
  Gives g v = (t : PlainType) → (func_at p g).outcome ≡ gives t → FitsType (S (Outcome g)) t v

  answered_good : (fr : Frame) (g : ℕ) (to : Option ℕ) (v : Value) → Good fr → AnswerFits p sizes S fr.func g to → Gives g v → fr.place < length (block_at p fr.func fr.block).insts → Good (onward (answered fr to v))
  answered_good fr g None v good a h l = on_good fr l good
  answered_good fr g (Some to) v good a h l = on_good (with_register fr to v) l (set_good fr to v good (flow p sizes a.1 (h _ a.0)))

  answered_waits : (fr : Frame) (rest : List Frame) (to : Option ℕ) (v : Value) → Waits p sizes S fr.func rest → Waits p sizes S (answered fr to v).func rest
  answered_waits fr rest None v w = w
  answered_waits fr rest (Some to) v w = w

  back_good : (g : ℕ) (v : Value) (rest : List Frame) (m : Memory) → Waits p sizes S g rest → Frames rest → MemoryFits p sizes S m → Gives g v → Turn (back_to p v rest m)
  back_good g v [] m a r w h = record { to = tt; did = tt }
  back_good g v (fr ∷ rest) m a r w h =
      let to : Option ℕ = result_register (here p fr.func fr.block fr.place) in
      record {
        to = ((answered_good fr g to v r.0 a.answer h (call_inside p S fr.func g _ _ fr.place a.calls), answered_waits fr rest to v r.1, r.2), w);
        did = tt;
      }

  gives_same : (t u : PlainType) (r : PlainResult) → r ≡ gives t → r ≡ gives u → t ≡ u
  gives_same t u r e f = cc

  leave_good : (fr : Frame) (rest : List Frame) (m : Memory) (t : NumberedTerm) → Frames (fr ∷ rest) → MemoryFits p sizes S m → EndTyped p sizes (func_at p fr.func) t → EndFlows p S fr.func t → Turn (leave p fr rest m t)
  unfolding leave
  leave_good fr rest m (Jump b) g w ty o = let l = g.0.block in record { to = ((jump_good fr b (ty (omega arith)) g.0, g.1, g.2), w); did = tt }
  leave_good fr rest m (Branch x a b) g w ty o = record { to = ((jump_good fr _ (pick (nat_eq (number_in (register fr x)) 0)) g.0, g.1, g.2), w); did = tt }
    where
      pick : (z : Bool) → (if z then b else a) < length (func_at p fr.func).blocks
      pick true = ty.2
      pick false = ty.1
  leave_good fr rest m (Ret None) g w ty o = back_good fr.func _ rest m g.1 g.2 w (λ t e. cc)
  leave_good fr rest m (Ret (Some r)) g w ty o = back_good fr.func _ rest m g.1 g.2 w (λ t e. typed_as p sizes (ty.2.ty ∙ gives_same ty.0 t _ ty.1 e) (flow p sizes o (g.0.regs r)))

  turn_good : (c : List ℕ) (fr : Frame) (rest : List Frame) (m : Memory) (h : Here) → here p fr.func fr.block fr.place ≡ h → Frames (fr ∷ rest) → MemoryFits p sizes S m → HereTyped p sizes (func_at p fr.func) h → HereFlows p S fr.func h → Turn (turn_here p c fr rest m h)
  turn_good c fr rest m (Does i) e g w ty o = perform_good c fr rest m i (act fr i) e g w (act_good fr i g.0 ty o)
  turn_good c fr rest m (Ends t) e g w ty o = leave_good fr rest m t g w ty o

  pub step_good : (c : List ℕ) (s : SourceState) → StateFits p sizes S s → Turn (source_turn p c s)
  unfolding source_turn
  step_good c (Running [] m) g = record { to = tt; did = tt }
  step_good c (Running (fr ∷ rest) m) g = turn_good c fr rest m (here p fr.func fr.block fr.place) refl g.0 g.1 ((typed.funcs fr.func).code fr.block fr.place) (closed.code fr.func fr.block fr.place)
  step_good c (Ended e) g = record { to = tt; did = tt }

  -- ---- a run

  named_fits : (X : Object → Bool) (t : PlainType) (v : Value) → FitsType (λ _. true) t v → IsOf X v → FitsType X t v
  named_fits X t v (number n e l) h = number n e l
  named_fits X t v (null e) h = null e
  named_fits X t v (at o k e l i s) h = at o k h l i s
  named_fits X t v (code g s e i) h = code g s h i

  init_of : (gs : List NumberedGlobal) (g : ℕ) → get_or (map (λ (o : NumberedGlobal). o.init) gs) g [] ≡ (get_or gs g no_global).init
  init_of [] g = refl
  init_of (o ∷ gs) zero = refl
  init_of (o ∷ gs) (suc g) = init_of gs g

  pub start_good : (queues : List (List ℕ)) → StateFits p sizes S (start p queues)
  unfolding start
  start_good queues = (
    (frame_good p.main 0 [] typed.main (λ k l. absurd (omega arith)), refl, tt),
    record {
      globals = λ g. record {
        each = λ k.
            subst (λ (vs : List Value). FitsType (S (Content (GlobalObject g))) (cell_in (cells_of_global p g) k).ty (get_or vs k (Number 0))) (sym (init_of p.globals g))
            (named_fits (S (Content (GlobalObject g))) _ _ (typed.cells g k) (closed.cells g k));
        count = ap length (init_of p.globals g) ∙ typed.counts g;
      };
      objects = length-map p.globals (λ (o : NumberedGlobal). o.init);
    },
  )
