-- Instructions that set a register.
use Rattle.std.proofs.Common.{◌≡◌, ℕ, ◌+◌, ◌-◌, ◌*◌, ◌^◌, ◌<◌, Bool, true, List, [], ◌∷◌, length, get_or, refl, sym, ap, ◌∙◌, subst, arith}
use Rattle.std.specs.Prelude.{option_to_list}
use Rattle.std.proofs.lemmas.List.{get_or-map, length-map}
use Rattle.base_words.specs.Bytes.{read, cut}
use Rattle.base_words.specs.Arithmetic.{word}
use Rattle.base_words.proofs.Bytes.{cut_small}
use Rattle.machine_model.specs.declared.state.ProtectionState.{ProtectionState}
use Rattle.machine_model.specs.State.{State, by_mpu}
use Rattle.machine_model.specs.RunningCode.{Context}
use Rattle.ir_model.specs.Types.{PlainType, U8, U16, U32, Pointer, Array, Callee, width_of, is_integer}
use Rattle.ir_model.specs.Types as types
use Rattle.ir_model.specs.declared.firmware.BinOp.{BinOp}
use Rattle.ir_model.specs.declared.firmware.CmpOp.{CmpOp}
use Rattle.ir_model.specs.Resolved.{Value, Number, Code, Null, At, Instance, OfGlobal, Named, TheGlobal, ThePeriph, TheLocal, NumberedInst, Const, Move, Bin, Cmp, Addr, FAddr, Elem, Field, Does, here, register_type}
use Rattle.ir_model.specs.State.{Frame, Memory, Object}
use Rattle.ir_model.specs.Step.{register, number_in, SourceAct, Sets, with_pointer, act, perform, turn_here}
use Rattle.ir_laws.specs.Moves.{where_of, wheres}
use Rattle.ir_laws.specs.Sets.{ObjectSets, Register}
use Rattle.ir_laws.specs.Typed.{Has, InstTyped, Fits, number, null, at, code}
use Rattle.ir_laws.specs.States.{FrameFits}
use Rattle.code_model.specs.Places.{global_address, window_address}
use Rattle.code_model.specs.Templates.{inst_items}
use Rattle.monitor_model.specs.Block.{MonitorBlock}
use Rattle.monitor_model.specs.Threads.{base}
use Rattle.code_effects.specs.Points.{Point}
use Rattle.code_effects.specs.Items.{ItemsAt}
use Rattle.code_effects.specs.Addresses.{named_address, CanName}
use Rattle.code_effects.specs.Sources as effects
use Rattle.code_effects.specs.Sources.{IsNumber, IsSound, Shows}
use Rattle.code_effects.proofs.Registers.{holds_nothing}
use Rattle.refine_model.specs.Refines.{HasFault}
use Rattle.refine.proofs.Thread.{started, fits_after, runs_here}
use Rattle.refine.specs.Owned.{Owns}
use Rattle.refine.specs.Builds.{Build, func, words_at, places_at, labels_at, code_at, site_at, global_starts}
use Rattle.refine.specs.Relation.{word_of, address_of, block_of, Fits as HasPlace, AllFit}
use Rattle.refine.specs.Cases.{Follows, CaseFollows}
use Rattle.refine.proofs.Blocks.{top_least, register_is}
use Rattle.refine.proofs.Premises.{Premises}
use Rattle.refine.proofs.Standing.{owned_inst, next_code, entry_is, entry_low, place_low}
use Rattle.refine.proofs.Steps.{frame_room, keeps_on, Here as HereStands, point_of, whole, place_of_frame}

small_number : (t : PlainType) (n : ℕ) → is_integer t ≡ true → n < 2 ^ (8 * width_of t) → n < 2 ^ 32
small_number U8 n e h = omega arith
small_number U16 n e h = omega arith
small_number U32 n e h = omega arith
small_number (Pointer t) n e h = cc
small_number (Array k t) n e h = cc
small_number (types.Named s) n e h = cc
small_number (Callee a r) n e h = cc

module _ (k : Build) (Inv : MonitorBlock → Context → List ℕ → Type 0) (sizes : PlainType → ℕ) (S : ObjectSets) (w : Premises k Inv sizes S) (places : ℕ → ℕ) where
  -- a function that a value names is there
  abbrev pub NamesFunction : Value → Type 0
  NamesFunction (Code f) = f < length k.program.funcs
  NamesFunction _ = Unit {0}

  pub fits_names : (X : Object → Bool) (t : PlainType) (v : Value) → Fits k.program sizes X t v → NamesFunction v
  fits_names X _ _ (number n i h) = tt
  fits_names X _ _ (null h) = tt
  fits_names X _ _ (at o c a b d e) = tt
  fits_names X _ _ (code g s a h) = h

  -- a value that fits a type stands as a word
  pub fits_word : (X : Object → Bool) (t : PlainType) (v : Value) → ProtectionState → Fits k.program sizes X t v → word_of k places v < 2 ^ 32
  fits_word X t _ p (number n i h) = small_number t n i h
  fits_word X t _ p (null h) = omega arith
  fits_word X _ _ p (at o c a b d e) = omega arith
  fits_word X _ _ p (code g s a h) = let l = entry_low k w.facts.rules w.laws w.linked.code g h p in omega arith

  pub same_word : (f : ℕ) (v : Value) → NamesFunction v → effects.word_of (places_at k f) (address_of k places) v ≡ word_of k places v
  same_word f (Number n) h = refl
  same_word f (Code g) h = ap (λ (e : ℕ). e + 1) (entry_is k w.facts.rules w.laws w.linked.code f g h)
  same_word f Null h = refl
  same_word f (At o c) h = refl

  -- the word of a register of the running frame
  pub register_word : (fr : Frame) (rest : List Frame) (m : Memory) (t : State) (st : HereStands k Inv sizes S w places fr rest m t) → FrameFits k.program sizes S fr → (r : ℕ) → r < length (func k fr.func).regs →
      read 4 (places fr.number + 4 * r) st.ram ≡ word_of k places (register fr r)
  register_word fr rest m t st ff r h =
      register_is k places w.facts fr rest st.statuses m.globals st.ram r (whole k Inv sizes S w places fr ff) h st.has
      ∙ cut_small 4 (word_of k places (register fr r)) (fits_word (S (Register fr.func r)) (register_type k.program fr.func r) (register fr r) st.context.protection (ff.regs r))

  -- where globals, windows and locals stand
  pub global_place : (x : ℕ) → x < length k.program.globals → address_of k places (OfGlobal x) ≡ get_or k.places.globals x 0
  unfolding global_starts
  global_place x h =
      let c = w.linked.globals.count in
      let b = w.linked.globals.from_base x h in
      let g = get_or-map (λ (a : ℕ). a - base k.setting) k.places.globals x 0 0 (omega arith) in
      omega arith

  pub global_count : length (global_starts k) ≡ length k.program.globals
  unfolding global_starts
  global_count = length-map k.places.globals (λ (a : ℕ). a - base k.setting) ∙ w.linked.globals.count

  sp_low : (fr : Frame) (rest : List Frame) (m : Memory) (t : State) → HereStands k Inv sizes S w places fr rest m t → base k.setting + places fr.number + 4 * words_at k fr.func < 2 ^ 30
  sp_low fr rest m t st =
      let tl = top_least k places (where_of fr) (wheres rest) st.fits in
      let en = st.fits.0.ends in
      let tp = w.law.keeps.top_inside _ _ _ st.invariant in
      let f = w.facts.rules.fits in
      let h = w.facts.rules.image.ram_highest in
      let s = w.facts.rules.image.ram_most in
      omega arith

  looked_up : (f : ℕ) → ((places_at k f).globals ≡ k.places.globals) × ((places_at k f).windows ≡ k.places.windows)
  unfolding places_at
  looked_up f = (refl, refl)

  -- the code of the instruction, and of the block's end, at a frame's place may run
  pub owned_by : (c : Frame) (rest : List Frame) → HasPlace k places (where_of c) (wheres rest) → (y : NumberedInst) → FrameFits k.program sizes S c → here k.program c.func c.block c.place ≡ Does y →
      Owns k.setting (block_of k places (wheres (c ∷ rest))).current (labels_at k c.func) (code_at k c.func c.block c.place) (inst_items (func k c.func) (places_at k c.func) (code_at k c.func c.block c.place) (site_at k c.func c.block c.place) y)
  owned_by c rest fit y ff e =
      subst (λ (z : ℕ). Owns k.setting z (labels_at k c.func) (code_at k c.func c.block c.place) (inst_items (func k c.func) (places_at k c.func) (code_at k c.func c.block c.place) (site_at k c.func c.block c.place) y)) (sym fit.current)
      (owned_inst k w.facts.rules w.laws w.linked.code c.func c.block c.place y (place_of_frame k Inv sizes S w places c ff) e)

  pub inst_runs : (c : Frame) (rest : List Frame) (x : Context) (ram : List ℕ) → AllFit k places (wheres (c ∷ rest)) → Inv (block_of k places (wheres (c ∷ rest))) x ram → (y : NumberedInst) → FrameFits k.program sizes S c → here k.program c.func c.block c.place ≡ Does y →
      ItemsAt by_mpu k.setting.image x.protection (labels_at k c.func) (code_at k c.func c.block c.place) (inst_items (func k c.func) (places_at k c.func) (code_at k c.func c.block c.place) (site_at k c.func c.block c.place) y)
  inst_runs c rest x ram fit i y ff e =
      runs_here k.setting Inv w.law w.facts.rules w.laws (block_of k places (wheres (c ∷ rest))) x ram (labels_at k c.func) (code_at k c.func c.block c.place)
      (inst_items (func k c.func) (places_at k c.func) (code_at k c.func c.block c.place) (site_at k c.func c.block c.place) y) i (owned_by c rest fit.0 y ff e)

  -- the code of an instruction that sets a register leads there
  sets_by : (fr : Frame) (rest : List Frame) (m : Memory) (t : State) (st : HereStands k Inv sizes S w places fr rest m t) → FrameFits k.program sizes S fr → (y : NumberedInst) (to : ℕ) (v : Value) → here k.program fr.func fr.block fr.place ≡ Does y →
      act fr y ≡ Sets to v → to < length (func k fr.func).regs → NamesFunction v → IsSound (func k fr.func) (places_at k fr.func) (address_of k places) fr (base k.setting + places fr.number) (length (func k fr.func).regs) (words_at k fr.func) y →
      Follows k Inv places t (turn_here k.program k.groups.of fr rest m (Does y)).to (option_to_list (turn_here k.program k.groups.of fr rest m (Does y)).event)
  unfolding perform
  sets_by fr rest m t st ff y to v e sets lt names sound =
      let f : ℕ = fr.func in
      let i = place_of_frame k Inv sizes S w places fr ff in
      let wh = whole k Inv sizes S w places fr ff in
      let p : Point = point_of k Inv sizes S w places fr rest m t st in
      let o : ℕ = places fr.number in
      let has = inst_runs fr rest st.context st.ram st.fits st.invariant y ff e in
      let shows : Shows (places_at k f) (address_of k places) fr (length (func k f).regs) o p = record { registers = λ r h. register_word fr rest m t st ff r h ∙ sym (same_word f (register fr r) (fits_names (S (Register f r)) (register_type k.program f r) (register fr r) (ff.regs r))) } in
      let low = place_low k w.facts.rules w.laws w.linked.code f fr.block fr.place i st.context.protection in
      let s = w.laws.sources by_mpu k.setting.image (func k f) (places_at k f) (labels_at k f) (site_at k f fr.block fr.place) p o (words_at k f) (address_of k places) fr (length (func k f).regs) y to v sets sound shows
      (w.facts.shapes f).registers (frame_room k Inv sizes S w places fr rest st.context st.ram st.fits st.invariant) low has in
      let a = s.leads.arrives st.low st.flags (holds_nothing st.low st.state_fits.core.low_count) in
      let ft = fits_after k.setting Inv w.law w.facts.rules w.laws s.count _ _ [] st.state_fits a.runs in
      let sm = s.most in
      subst (λ (z : SourceAct). Follows k Inv places t (perform k.program k.groups.of fr rest m z).to (option_to_list (perform k.program k.groups.of fr rest m z).event)) (sym sets)
      (keeps_on k Inv sizes S w places fr rest m st.statuses t to (effects.word_of (places_at k f) (address_of k places) v) s.count v st.context a.low st.lr _ a.flags st.ram [] s.least (omega arith)
      (started k.setting s.count t _ _ [] st.is_state a.runs) ft (sym (next_code k w.facts.rules w.laws w.linked.code f fr.block fr.place y i.func_there e)) st.invariant st.has st.threads st.fits wh lt (ap (λ (z : ℕ). cut 4 z) (same_word f v names)))

  -- a register of numbers holds one
  is_number : (fr : Frame) (r : ℕ) → FrameFits k.program sizes S fr → Has (func k fr.func) r U32 → IsNumber (register fr r)
  is_number fr r ff h = let n = w.numbers k.program sizes S fr r ff h in subst IsNumber (sym n.is) tt

  -- the object that `addr` names
  can_name : (fr : Frame) (rest : List Frame) (m : Memory) (t : State) (st : HereStands k Inv sizes S w places fr rest m t) (of : Named) → Rattle.ir_laws.specs.Typed.IsThere k.program (func k fr.func) of →
      CanName (func k fr.func) (places_at k fr.func) (words_at k fr.func) of × (named_address (func k fr.func) (places_at k fr.func) (base k.setting + places fr.number) of < 2 ^ 32)
      × (address_of k places (effects.object_of fr of) ≡ named_address (func k fr.func) (places_at k fr.func) (base k.setting + places fr.number) of)
  can_name fr rest m t st (TheGlobal x) h =
      let g : global_address (places_at k fr.func) x ≡ get_or k.places.globals x 0 = ap (λ (xs : List ℕ). get_or xs x 0) (looked_up fr.func).0 in
      let e = w.linked.globals.to_end x h in
      let rh = w.facts.rules.image.ram_highest in
      let rm = w.facts.rules.image.ram_most in
      (omega arith, omega arith, global_place x h ∙ sym g)
  can_name fr rest m t st (ThePeriph q) h =
      let g : window_address (places_at k fr.func) q ≡ get_or k.places.windows q 0 = ap (λ (xs : List ℕ). get_or xs q 0) (looked_up fr.func).1 in
      let b = w.linked.windows.bases q h in
      let u = w.windows.each q h in
      let e = u.place.1 in
      (omega arith, omega arith, sym g)
  can_name fr rest m t st (TheLocal l) h =
      let i = (w.facts.shapes fr.func).local_inside l h in
      let s = sp_low fr rest m t st in
      (omega arith, omega arith, refl)

  -- ---- the cases

  module _ (fr : Frame) (rest : List Frame) (m : Memory) (t : State) (st : HereStands k Inv sizes S w places fr rest m t) (ff : FrameFits k.program sizes S fr) where
    -- where a pointer is followed, it is one
    pub pointer_or : (x : Value) (go : Instance → ℕ → SourceAct) (y : NumberedInst) → act fr y ≡ with_pointer x go → (HasFault (turn_here k.program k.groups.of fr rest m (Does y)).to → ⊥) → (o : Instance) × (c : ℕ) × (x ≡ At o c)
    unfolding perform
    pointer_or (At o c) go y e nf = (o, c, refl)
    pointer_or (Number n) go y e nf = absurd (nf (subst (λ (z : SourceAct). HasFault (perform k.program k.groups.of fr rest m z).to) (sym e) tt))
    pointer_or (Code n) go y e nf = absurd (nf (subst (λ (z : SourceAct). HasFault (perform k.program k.groups.of fr rest m z).to) (sym e) tt))
    pointer_or Null go y e nf = absurd (nf (subst (λ (z : SourceAct). HasFault (perform k.program k.groups.of fr rest m z).to) (sym e) tt))

    abbrev regs : ℕ
    regs = length (func k fr.func).regs

    pub const_case : (to v : ℕ) → InstTyped k.program sizes (func k fr.func) (Const to v) → here k.program fr.func fr.block fr.place ≡ Does (Const to v) → CaseFollows k Inv places fr rest m t (Does (Const to v))
    unfolding act
    const_case to v ty e nf = sets_by fr rest m t st ff (Const to v) to (Number v) e refl ty.0.there tt (ty.0.there, ty.1)

    pub move_case : (to from : ℕ) → InstTyped k.program sizes (func k fr.func) (Move to from) → here k.program fr.func fr.block fr.place ≡ Does (Move to from) → CaseFollows k Inv places fr rest m t (Does (Move to from))
    unfolding act
    move_case to from ty e nf =
        sets_by fr rest m t st ff (Move to from) to (register fr from) e refl ty.1.there (fits_names (S (Register fr.func from)) (register_type k.program fr.func from) (register fr from) (ff.regs from)) (ty.1.there, ty.2.there)

    pub bin_case : (op : BinOp) (to a b : ℕ) → InstTyped k.program sizes (func k fr.func) (Bin op to a b) → here k.program fr.func fr.block fr.place ≡ Does (Bin op to a b) → CaseFollows k Inv places fr rest m t (Does (Bin op to a b))
    unfolding act
    bin_case op to a b ty e nf =
        sets_by fr rest m t st ff (Bin op to a b) to _ e refl ty.0.there tt (ty.0.there, ty.1.there, ty.2.there, is_number fr a ff ty.1, is_number fr b ff ty.2)

    pub cmp_case : (op : CmpOp) (to a b : ℕ) → InstTyped k.program sizes (func k fr.func) (Cmp op to a b) → here k.program fr.func fr.block fr.place ≡ Does (Cmp op to a b) → CaseFollows k Inv places fr rest m t (Does (Cmp op to a b))
    unfolding act
    cmp_case op to a b ty e nf =
        sets_by fr rest m t st ff (Cmp op to a b) to _ e refl ty.0.there tt (ty.0.there, ty.1.there, ty.2.there, is_number fr a ff ty.1, is_number fr b ff ty.2)

    pub addr_case : (to : ℕ) (of : Named) → InstTyped k.program sizes (func k fr.func) (Addr to of) → here k.program fr.func fr.block fr.place ≡ Does (Addr to of) → CaseFollows k Inv places fr rest m t (Does (Addr to of))
    unfolding act
    addr_case to of ty e nf =
        let n = can_name fr rest m t st of ty.there in
        sets_by fr rest m t st ff (Addr to of) to (Rattle.ir_model.specs.Step.address_of fr of) e refl ty.held.there (names of) (ty.held.there, n.0, n.1, n.2)
      where
        names : (of : Named) → NamesFunction (Rattle.ir_model.specs.Step.address_of fr of)
        names (TheGlobal x) = tt
        names (ThePeriph x) = tt
        names (TheLocal x) = tt

    pub faddr_case : (to f : ℕ) → InstTyped k.program sizes (func k fr.func) (FAddr to f) → here k.program fr.func fr.block fr.place ≡ Does (FAddr to f) → CaseFollows k Inv places fr rest m t (Does (FAddr to f))
    unfolding act
    faddr_case to f ty e nf =
        let n = entry_is k w.facts.rules w.laws w.linked.code fr.func f ty.1 in
        let l = entry_low k w.facts.rules w.laws w.linked.code f ty.1 st.context.protection in
        sets_by fr rest m t st ff (FAddr to f) to (Code f) e refl ty.0.there ty.1 (ty.0.there, omega arith)

    pub elem_case : (to b index size : ℕ) → InstTyped k.program sizes (func k fr.func) (Elem to b index size) → here k.program fr.func fr.block fr.place ≡ Does (Elem to b index size) → CaseFollows k Inv places fr rest m t (Does (Elem to b index size))
    unfolding act
    elem_case to b index size ty e nf =
        let p = pointer_or (register fr b) (λ o c. Sets to (At o (word (c + number_in (register fr index) * size)))) (Elem to b index size) refl nf in
        sets_by fr rest m t st ff (Elem to b index size) to (At p.0 (word (p.1 + number_in (register fr index) * size))) e
        (ap (λ (x : Value). with_pointer x (λ o c. Sets to (At o (word (c + number_in (register fr index) * size))))) p.2) ty.part.held.there tt
        (ty.part.held.there, ty.part.from.there, ty.by.there, is_number fr index ff ty.by, w.elements k.program sizes S fr to b index size p.0 p.1 ff ty p.2)

    pub field_case : (to b offset : ℕ) → InstTyped k.program sizes (func k fr.func) (Field to b offset) → here k.program fr.func fr.block fr.place ≡ Does (Field to b offset) → CaseFollows k Inv places fr rest m t (Does (Field to b offset))
    unfolding act
    field_case to b offset ty e nf =
        let p = pointer_or (register fr b) (λ o c. Sets to (At o (word (c + offset)))) (Field to b offset) refl nf in
        sets_by fr rest m t st ff (Field to b offset) to (At p.0 (word (p.1 + offset))) e (ap (λ (x : Value). with_pointer x (λ o c. Sets to (At o (word (c + offset))))) p.2) ty.part.held.there tt
        (ty.part.held.there, ty.part.from.there, (let n = ty.near in omega arith))
