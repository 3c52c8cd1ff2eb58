-- Loads: of globals, of windows, and of locals of any live frame.
use Rattle.std.proofs.Common.{◌≡◌, ℕ, suc, ◌+◌, ◌*◌, ◌%◌, ◌^◌, ◌<◌, ◌≤◌, Bool, true, false, if◌then◌else◌, nat_eq, nat_le, Option, Some, None, is_some, List, [], ◌∷◌, length, get_or, set, refl, sym, ap, ◌∙◌, subst, arith, inl, inr, ⊎_elim}
use Rattle.std.specs.Prelude.{option_to_list}
use Rattle.std.proofs.lemmas.Bool.{cases_lt}
use Rattle.std.proofs.lemmas.Bool.Decides.{nat_tests}
use Rattle.std.proofs.lemmas.List.{get_or-map, length-map}
use Rattle.base_words.specs.Bytes.{read, write, cut}
use Rattle.base_words.specs.Arithmetic.{word}
use Rattle.machine_thumb.specs.declared.table.Code.{Code as Halves}
use Rattle.machine_thumb.specs.declared.table.Code.TheVariants as halves
use Rattle.machine_thumb.specs.declared.table.Instr.{Instr}
use Rattle.machine_thumb.specs.Table.{encode}
use Rattle.machine_protection.specs.declared.region.Access.TheVariants.{Read, Fetch}
use Rattle.machine_devices.specs.declared.image.Image.{Image}
use Rattle.base_events.specs.declared.event.Event.{Event}
use Rattle.machine_bus.specs.Locations.{InRam, InWindow}
use Rattle.machine_model.specs.declared.state.ProtectionState.{ProtectionState}
use Rattle.machine_model.specs.State.{State, PermissionTest, by_mpu}
use Rattle.machine_model.specs.Code.{MayFetch, Stands as CodeStands, Lies, Runs}
use Rattle.machine_model.specs.Events.{input_event}
use Rattle.machine_model.specs.RunningCode.{Context, works}
use Rattle.machine_model.proofs.Exec.{onward as behind_run}
use Rattle.ir_model.specs.Types.{PlainType, width_of, is_integer}
use Rattle.ir_model.specs.Layout.{CellPlace, Shape, cell_at, empty}
use Rattle.ir_model.specs.Resolved.{Value, Number, At, Instance, OfGlobal, OfPeriph, OfLocal, NumberedGlobal, NumberedInst, Load, Does, here, global_at, window_at, cells_of_global, cells_of_local, local_at}
use Rattle.ir_model.specs.Signatures.{cell_in}
use Rattle.ir_model.specs.State.{Frame, Memory, SourceTurn, Running, Object, GlobalObject, LocalObject}
use Rattle.ir_model.specs.Step.{register, Loads, with_pointer, act, perform, with_register, frame_in, is_frame, has_port, load, load_cell, load_local, load_port, take_input, onward}
use Rattle.ir_laws.specs.Moves.{where_of, wheres}
use Rattle.ir_laws.specs.Sets.{ObjectSets, Content}
use Rattle.ir_laws.specs.Typed.{CellTyped, Fits}
use Rattle.ir_laws.specs.States.{FrameFits, FramesFit, StateFits, global_shapes}
use Rattle.plan_model.specs.Lending.{lend_number}
use Rattle.plan_model.specs.Needs.{need_of}
use Rattle.need_laws.specs.Reached.{IsListed, ListsPeriph}
use Rattle.code_model.specs.Addresses.{load_at}
use Rattle.code_model.specs.Sizes.{inst_size}
use Rattle.code_model.specs.Templates.{inst_items}
use Rattle.monitor_model.specs.Block.{MonitorBlock}
use Rattle.monitor_model.specs.Threads.{base, OffFrame, IsLentTo}
use Rattle.code_effects.specs.Points.{Point}
use Rattle.code_effects.specs.Frames.{home}
use Rattle.code_effects.specs.Items.{ItemsAt}
use Rattle.code_effects.specs.Accesses.{Reach}
use Rattle.code_effects.proofs.Registers.{holds_nothing, holds_known}
use Rattle.refine_model.specs.Refines.{HasFault}
use Rattle.refine.specs.Areas.{Area, IsWordIn}
use Rattle.refine.specs.Owned.{owner}
use Rattle.refine.proofs.Areas.{loaded_spot}
use Rattle.refine.proofs.Thread.{started, fits_after, at_pc, fits_pc, has_stays}
use Rattle.refine.specs.Builds.{Build, compartment_of, func, words_at, starts_at, places_at, labels_at, code_at, site_at, global_starts}
use Rattle.refine.specs.Relation.{word_of, address_of, areas, held, block_of, AllWhole, global_areas}
use Rattle.refine.specs.Cases.{Follows}
use Rattle.refine.specs.Serving.{Serves, CaseServes}
use Rattle.refine.proofs.Frames.{safe}
use Rattle.refine.proofs.Blocks.{is_open}
use Rattle.refine.proofs.Locals.{is_it, local_spot, global_spot}
use Rattle.refine.specs.Guard.{StackLaw}
use Rattle.refine.specs.Entries.{EndsShort}
use Rattle.refine.proofs.Stops.{load_ends}
use Rattle.refine.proofs.Lends.{later, sooner}
use Rattle.refine.proofs.Premises.{Premises}
use Rattle.refine.proofs.Standing.{next_code}
use Rattle.refine.proofs.Steps.{frame_room, keeps_on, Here as HereStands, point_of, state_of, whole}
use Rattle.refine.proofs.Registers.{register_word, inst_runs, owned_by, pointer_or, global_place, global_count}
use Rattle.refine.proofs.Cells.{each_at, aligned_sum, Found, found_cell, cell_word, placed_area}
use Rattle.refine.proofs.Reaching.{LiesAt, cell_lies, lent_cell, open_cell}
use Rattle.ir_laws.proofs.Layouts.{positive_width}

-- the first halfword of an instruction may be fetched
first_fetched : (j : PermissionTest) (p : ProtectionState) (pc : ℕ) (c : Halves) → MayFetch j p pc c → j p Fetch pc ≡ true
first_fetched j p pc (halves.Half h) m = m
first_fetched j p pc (halves.Pair h n) m = m.0

pub own_code : (j : PermissionTest) (i : Image) (p : ProtectionState) (pc : ℕ) (x : Instr) → CodeStands j i p pc x → j p Fetch pc ≡ true
own_code j i p pc x s = first_fetched j p pc (encode x) s.may_fetch

-- a frame that is found fits
pub found_fits : (k : Build) (sizes : PlainType → ℕ) (S : ObjectSets) (fs : List Frame) (f n : ℕ) (h : Frame) → FramesFit k.program sizes S fs → frame_in fs f n ≡ Some h → FrameFits k.program sizes S h × (h.func ≡ f)
found_fits k sizes S [] f n h fs e = cc
found_fits k sizes S (fr ∷ rest) f n h fs e = by (is_frame fr f n) refl e (λ q. found_fits k sizes S rest f n h fs.2 q)
  where
    by : (b : Bool) → is_frame fr f n ≡ b → (if b then Some fr else frame_in rest f n) ≡ Some h → (frame_in rest f n ≡ Some h → FrameFits k.program sizes S h × (h.func ≡ f)) → FrameFits k.program sizes S h × (h.func ≡ f)
    by true q e ih = let y : fr ≡ h = cc in let t = is_it fr f n q in subst (λ (z : Frame). FrameFits k.program sizes S z × (z.func ≡ f)) y (fs.0, t.1)
    by false q e ih = ih e

pub all_whole : (k : Build) (Inv : MonitorBlock → Context → List ℕ → Type 0) (sizes : PlainType → ℕ) (S : ObjectSets) (w : Premises k Inv sizes S) (places : ℕ → ℕ) (fs : List Frame) → FramesFit k.program sizes S fs → AllWhole k fs
all_whole k Inv sizes S w places [] h = tt
all_whole k Inv sizes S w places (fr ∷ rest) h = (whole k Inv sizes S w places fr h.0, all_whole k Inv sizes S w places rest h.2)

module _ (k : Build) (Inv : MonitorBlock → Context → List ℕ → Type 0) (sizes : PlainType → ℕ) (S : ObjectSets) (w : Premises k Inv sizes S) (places : ℕ → ℕ) where
  module _ (fr : Frame) (rest : List Frame) (m : Memory) (t : State) (st : HereStands k Inv sizes S w places fr rest m t) (sf : StateFits k.program sizes S (Running (fr ∷ rest) m)) where
    -- what one turn of the source comes to
    abbrev pub TurnFollows : SourceTurn → Type 0
    TurnFollows u = (HasFault u.to → ⊥) → Serves k Inv places (wheres (fr ∷ rest)) t u.to (option_to_list u.event)

    abbrev pub block : MonitorBlock
    block = block_of k places (wheres (fr ∷ rest))

    module _ (to from : ℕ) (ty : PlainType) (typed : CellTyped (func k fr.func) from to ty) (e : here k.program fr.func fr.block fr.place ≡ Does (Load to from ty)) where
      abbrev y : NumberedInst
      y = Load to from ty

      abbrev p : Point
      p = point_of k Inv sizes S w places fr rest m t st

      abbrev site : Option ℕ
      site = site_at k fr.func fr.block fr.place

      runs_of : (x : Context) (ram : List ℕ) → Inv block x ram → ItemsAt by_mpu k.setting.image x.protection (labels_at k fr.func) (code_at k fr.func fr.block fr.place) (inst_items (func k fr.func) (places_at k fr.func) (code_at k fr.func fr.block fr.place) site y)
      runs_of x ram i = inst_runs k Inv sizes S w places fr rest x ram st.fits i y sf.0.0 e

      next : code_at k fr.func fr.block fr.place + inst_size (is_some site) y ≡ code_at k fr.func fr.block (suc fr.place)
      next = sym (next_code k w.facts.rules w.laws w.linked.code fr.func fr.block fr.place y sf.0.0.func e)

      -- where the pointer leads
      address : (o : Instance) (c a : ℕ) → register fr from ≡ At o c → address_of k places o + c ≡ a → a < 2 ^ 32 → home (places fr.number) p from ≡ a
      address o c a points addr small =
          register_word k Inv sizes S w places fr rest m t st sf.0.0 from typed.from.there ∙ ap (λ (v : Value). word_of k places v) points ∙ ap word addr ∙ (let z : word a ≡ a = omega arith in z)

      -- what the cell holds
      cell_read : (c : Area) (v : Value) (us : List ℕ) (new : Value) (X : Object → Bool) (ct : PlainType) → c.width ≡ width_of ty → width_of ct ≡ width_of ty → Fits k.program sizes X ct v → IsWordIn (areas k places (wheres (fr ∷ rest))) (held k places st.statuses (fr ∷ rest) m.globals) c (word_of k places v) (word_of k places new) us →
          read (width_of ty) c.at st.ram ≡ word_of k places v
      cell_read c v us new X ct wid wt fits sp =
          ap (λ (z : ℕ). read z c.at st.ram) (sym wid) ∙ loaded_spot (areas k places (wheres (fr ∷ rest))) (held k places st.statuses (fr ∷ rest) m.globals) us c (word_of k places v) (word_of k places new) st.ram st.has sp
          ∙ ap (λ (z : ℕ). cut z (word_of k places v)) (wid ∙ sym wt) ∙ cell_word k Inv sizes S w places X ct v st.context.protection fits

      -- where the protection unit permits it
      direct : (o : Instance) (c : ℕ) (a : Area) (v new : Value) (us : List ℕ) (X : Object → Bool) (ct : PlainType) → register fr from ≡ At o c → address_of k places o + c ≡ base k.setting + a.at → a.width ≡ width_of ty → width_of ct ≡ width_of ty → (base k.setting + a.at) % width_of ty ≡ 0 →
          by_mpu st.context.protection Read (base k.setting + a.at) ≡ true → Fits k.program sizes X ct v → IsWordIn (areas k places (wheres (fr ∷ rest))) (held k places st.statuses (fr ∷ rest) m.globals) a (word_of k places v) (word_of k places new) us →
          Follows k Inv places t (Running (onward (with_register fr to v) ∷ rest) m) []
      direct o c a v new us X ct points addr wid wt al ok fits sp =
          let ws = positive_width ty in
          let pl = placed_area k Inv sizes S w places fr rest m t st a sp.index (omega arith) sp.is_at in
          let lw = pl.low in
          let pa = address o c (base k.setting + a.at) points addr (omega arith) in
          let reach = subst (λ (z : ℕ). Reach by_mpu k.setting.image p Read (width_of ty) z (InRam a.at)) (sym pa) (record { aligned = al; low = omega arith; allowed = ok; leads = pl.in_ram_at }) in
          let rg = (w.facts.shapes fr.func).registers in
          let lt = typed.held.there in
          let lf = typed.from.there in
          let l = (w.laws.loads by_mpu k.setting.image (func k fr.func) (places_at k fr.func) (labels_at k fr.func) site p (places fr.number) (words_at k fr.func)).ram to from a.at ty
          (frame_room k Inv sizes S w places fr rest st.context st.ram st.fits st.invariant) (omega arith) (omega arith) (runs_of st.context st.ram st.invariant) reach in
          let q = l.arrives st.low st.flags (holds_nothing st.low st.state_fits.core.low_count) in
          keeps_on k Inv sizes S w places fr rest m st.statuses t to (read (width_of ty) a.at st.ram) 3 v st.context q.low st.lr _ q.flags st.ram [] (omega arith) (omega arith) (started k.setting 3 t _ _ [] st.is_state q.runs)
          (fits_after k.setting Inv w.law w.facts.rules w.laws 3 _ _ [] st.state_fits q.runs) next st.invariant st.has st.threads st.fits (whole k Inv sizes S w places fr sf.0.0) typed.held.there
          (ap (λ (z : ℕ). cut 4 z) (cell_read a v us new X ct wid wt fits sp))

      -- on a closed board, by a loan
      by_loan : k.setting.stack + 32 ≤ places fr.number → (o : Instance) (c : ℕ) (a : Area) (v new : Value) (us : List ℕ) (X : Object → Bool) (ct : PlainType) → register fr from ≡ At o c → address_of k places o + c ≡ base k.setting + a.at → a.width ≡ width_of ty → width_of ct ≡ width_of ty → (base k.setting + a.at) % width_of ty ≡ 0 →
          IsLentTo k.setting (k.setting.has_read_loan block.current) block (base k.setting + a.at) (width_of ty) → Fits k.program sizes X ct v → IsWordIn (areas k places (wheres (fr ∷ rest))) (held k places st.statuses (fr ∷ rest) m.globals) a (word_of k places v) (word_of k places new) us →
          Follows k Inv places t (Running (onward (with_register fr to v) ∷ rest) m) []
      by_loan room o c a v new us X ct points addr wid wt al lent fits sp =
          let ws = positive_width ty in
          let oc : ℕ = places fr.number in
          let pl = placed_area k Inv sizes S w places fr rest m t st a sp.index (omega arith) sp.is_at in
          let lw = pl.low in
          let pa = address o c (base k.setting + a.at) points addr (omega arith) in
          let rg = (w.facts.shapes fr.func).registers in
          let lt = typed.held.there in
          let lf = typed.from.there in
          let effects = w.laws.loads by_mpu k.setting.image (func k fr.func) (places_at k fr.func) (labels_at k fr.func) site p oc (words_at k fr.func) in
          let b = (effects.before to from ty (frame_room k Inv sizes S w places fr rest st.context st.ram st.fits st.invariant) (omega arith) (runs_of st.context st.ram st.invariant)).arrives st.low st.flags (holds_nothing st.low st.state_fits.core.low_count) in
          let pc : ℕ = code_at k fr.func fr.block fr.place in
          let ft = fits_after k.setting Inv w.law w.facts.rules w.laws 1 _ _ [] st.state_fits b.runs in
          let own = owned_by k Inv sizes S w places fr rest st.fits.0 y sf.0.0 e in
          let stands = (w.laws.loads (owner k.setting block.current) k.setting.image (func k fr.func) (places_at k fr.func) (labels_at k fr.func) site p oc (words_at k fr.func)).access to from pc ty (own.stands st.context.protection) in
          let wd = w.laws.widths.loads ty in
          let lies = subst (λ (z : Instr). Lies k.setting.image (pc + 2) z) wd.1 stands.lies in
          let off = subst (λ (z : ℕ). OffFrame k.setting oc a.at z) wid (pl.off_frame room) in
          let r1 : get_or b.low 1 0 ≡ base k.setting + a.at = b.holds.each 1 (home oc p from) refl ∙ pa in
          let x = w.law.reach.loads block st.context b.low oc st.lr (pc + 2) b.flags st.ram m.queues wd.0 (width_of ty) (base k.setting + a.at) a.at wd.2
          (record { invariant = st.invariant; room = is_open k places (where_of fr) (wheres rest) st.fits room; fits = ft; lies = lies; owned = own_code (owner k.setting block.current) k.setting.image st.context.protection (pc + 2) (load_at ty) stands })
          r1 al pl.in_ram_at off lent in
          let h = x.0 in
          let q : Point = record { context = h.context; registers = []; sp = base k.setting + oc; lr = h.lr; pc = pc; ram = h.memory; queues = m.queues } in
          let after = (w.laws.loads by_mpu k.setting.image (func k fr.func) (places_at k fr.func) (labels_at k fr.func) site q oc (words_at k fr.func)).after to from pc (get_or h.low 0 0) ty
          (frame_room k Inv sizes S w places fr rest h.context h.memory st.fits h.invariant) (omega arith) (runs_of h.context h.memory h.invariant) in
          let first_is : (j : ℕ) → j < 1 → get_or h.low j 0 ≡ get_or (get_or h.low 0 0 ∷ []) j 0 = λ j l. (let z : j ≡ 0 = omega arith in rw z refl) in
          let e4 : pc + 2 + 2 ≡ pc + 4 = omega arith in
          let d = after.arrives h.low h.flags (holds_known (get_or h.low 0 0 ∷ []) h.low h.fits.core.low_count first_is) in
          let r0 = started k.setting 1 t _ _ [] st.is_state b.runs in
          let r2 = at_pc k.setting h.count _ h.context h.low (base k.setting + oc) h.lr _ (pc + 4) h.flags h.memory m.queues [] e4 h.runs in
          let runs = behind_run by_mpu k.setting.image r0 (behind_run by_mpu k.setting.image r2 d.runs) in
          let ft2 = fits_after k.setting Inv w.law w.facts.rules w.laws 1 _ _ [] (fits_pc k.setting h.context h.low (base k.setting + oc) h.lr _ (pc + 4) h.flags h.memory m.queues e4 h.fits) d.runs in
          let sa = safe k places w.facts (wheres (fr ∷ rest)) st.fits in
          let h1 = has_stays k.setting oc st.ram h.memory (areas k places (wheres (fr ∷ rest))) (held k places st.statuses (fr ∷ rest) m.globals) h.stays sa.each st.has in
          keeps_on k Inv sizes S w places fr rest m st.statuses t to (get_or h.low 0 0) (1 + (h.count + 1)) v h.context d.low h.lr _ d.flags h.memory [] (omega arith) (let z = h.within in omega arith) runs ft2 next h.invariant h1 st.threads st.fits
          (whole k Inv sizes S w places fr sf.0.0) typed.held.there (ap (λ (z : ℕ). cut 4 z) (x.1 ∙ cell_read a v us new X ct wid wt fits sp))

      -- a load that is refused ends the machine, with less room than an exception needs, where the stack is guarded
      refused : StackLaw k.setting Inv → places fr.number < k.setting.stack + 32 → (o : Instance) (c : ℕ) (a : Area) (v new : Value) (us : List ℕ) (X : Object → Bool) (ct : PlainType) → register fr from ≡ At o c → address_of k places o + c ≡ base k.setting + a.at → a.width ≡ width_of ty → width_of ct ≡ width_of ty → (base k.setting + a.at) % width_of ty ≡ 0 →
          by_mpu st.context.protection Read (base k.setting + a.at) ≡ false → IsWordIn (areas k places (wheres (fr ∷ rest))) (held k places st.statuses (fr ∷ rest) m.globals) a (word_of k places v) (word_of k places new) us → EndsShort k.setting 16384 t
      refused stack less o c a v new us X ct points addr wid wt al nope sp =
          let ws = positive_width ty in
          let oc : ℕ = places fr.number in
          let pl = placed_area k Inv sizes S w places fr rest m t st a sp.index (omega arith) sp.is_at in
          let lw = pl.low in
          let pa = address o c (base k.setting + a.at) points addr (omega arith) in
          let rg = (w.facts.shapes fr.func).registers in
          let lt = typed.held.there in
          let lf = typed.from.there in
          let effects = w.laws.loads by_mpu k.setting.image (func k fr.func) (places_at k fr.func) (labels_at k fr.func) site p oc (words_at k fr.func) in
          let b = (effects.before to from ty (frame_room k Inv sizes S w places fr rest st.context st.ram st.fits st.invariant) (omega arith) (runs_of st.context st.ram st.invariant)).arrives st.low st.flags (holds_nothing st.low st.state_fits.core.low_count) in
          let pc : ℕ = code_at k fr.func fr.block fr.place in
          let stands = effects.access to from pc ty (runs_of st.context st.ram st.invariant) in
          let wd = w.laws.widths.loads ty in
          let st1 = subst (λ (z : Instr). CodeStands by_mpu k.setting.image st.context.protection (pc + 2) z) wd.1 stands in
          let r1 : get_or b.low 1 0 ≡ base k.setting + a.at = b.holds.each 1 (home oc p from) refl ∙ pa in
          let f0 = st.fits.0 in
          let q = load_ends k.setting Inv w.law w.facts.rules stack block st.context b.low oc st.lr (pc + 2) wd.0 (width_of ty) (base k.setting + a.at) b.flags st.ram m.queues st.invariant f0.aligned f0.room less wd.2 r1 al (omega arith) nope st1 in
          let r0 = started k.setting 1 t _ _ [] st.is_state b.runs in
          sooner k.setting (1 + 1) 16384 t (omega arith) (later k.setting 1 1 t _ r0 q)

      loan_or_end : (o : Instance) (c : ℕ) (a : Area) (v new : Value) (us : List ℕ) (X : Object → Bool) (ct : PlainType) → register fr from ≡ At o c → address_of k places o + c ≡ base k.setting + a.at → a.width ≡ width_of ty → width_of ct ≡ width_of ty → (base k.setting + a.at) % width_of ty ≡ 0 →
          IsLentTo k.setting (k.setting.has_read_loan block.current) block (base k.setting + a.at) (width_of ty) → Fits k.program sizes X ct v → IsWordIn (areas k places (wheres (fr ∷ rest))) (held k places st.statuses (fr ∷ rest) m.globals) a (word_of k places v) (word_of k places new) us →
          Serves k Inv places (wheres (fr ∷ rest)) t (Running (onward (with_register fr to v) ∷ rest) m) []
      loan_or_end o c a v new us X ct points addr wid wt al lent fits sp =
          ⊎_elim (λ less. by less (by_mpu st.context.protection Read (base k.setting + a.at)) refl) (λ room. inl (by_loan room o c a v new us X ct points addr wid wt al lent fits sp)) (cases_lt (places fr.number) (k.setting.stack + 32))
        where
          by : places fr.number < k.setting.stack + 32 → (b : Bool) → by_mpu st.context.protection Read (base k.setting + a.at) ≡ b → Serves k Inv places (wheres (fr ∷ rest)) t (Running (onward (with_register fr to v) ∷ rest) m) []
          by less true z = inl (direct o c a v new us X ct points addr wid wt al z fits sp)
          by less false z = inr (record { reason = λ now next. let r = now.0.room in omega (arith, less, r); ends = λ stack. refused stack less o c a v new us X ct points addr wid wt al z sp })

      -- ---- globals

      global_load : (x c : ℕ) → x < length k.program.globals → register fr from ≡ At (OfGlobal x) c → TurnFollows (load k.program k.groups.of fr rest m to (OfGlobal x) c ty)
      global_load x c h points = by (cell_at (cells_of_global k.program x) c ty) refl
        where
          by : (r : Option ℕ) → cell_at (cells_of_global k.program x) c ty ≡ r → TurnFollows (load_cell fr rest m to (GlobalObject x) (get_or m.globals x []) r)
          by None q nf = absurd (nf tt)
          by (Some j) q nf =
              let cs : List CellPlace = cells_of_global k.program x in
              let size : ℕ = (global_at k.program x).shape.size in
              let f = found_cell cs size c j ty (w.found cs c ty j q) (w.cells.globals x) (w.laid_globals x) in
              let gp = global_place k Inv sizes S w places x h in
              let wp = positive_width ty in
              let ci = f.inside in
              let a : Area = record { at = 0 + get_or (global_starts k) x 0 + (cell_in cs j).at; width = width_of (cell_in cs j).ty } in
              let cp = f.place in
              let at_is : base k.setting + a.at ≡ get_or k.places.globals x 0 + c = omega arith in
              let listed = (w.listed k.program sizes S k.needs.closed k.needs w.needs).loads fr to from ty (OfGlobal x) c sf.0.0 typed e points in
              let may = w.linked.globals.loads fr.func x c sf.0.0.func listed.0 h (omega arith) in
              let may2 : k.setting.may_load block.current (base k.setting + a.at) ≡ true = ap (λ (z : ℕ). k.setting.may_load z (base k.setting + a.at)) st.fits.0.current ∙ ap (λ (z : ℕ). k.setting.may_load (compartment_of k fr.func) z) at_is ∙ may in
              let gl = get_or-map (λ (g : NumberedGlobal). g.shape) k.program.globals x Rattle.ir_model.specs.Resolved.no_global empty h in
              let gn = length-map k.program.globals (λ (g : NumberedGlobal). g.shape) in
              let count : length (global_starts k) ≡ length (global_shapes k.program) = global_count k Inv sizes S w places ∙ sym gn in
              let v : Value = get_or (get_or m.globals x []) j (Number 0) in
              let cells_are : (get_or (global_shapes k.program) x empty).cells ≡ cs = ap (λ (s : Shape). s.cells) gl in
              let sg = global_spot k places w.facts [] st.statuses m.globals x j (Number 0) (cell_in cs j) count (w.contents.globals k.program sizes S m sf.1) tt (omega arith)
              (subst (λ (z : List CellPlace). j < length z) (sym cells_are) f.below) (ap (λ (z : List CellPlace). cell_in z j) cells_are) in
              let al2 : (base k.setting + a.at) % width_of ty ≡ 0 =
              subst (λ (z : ℕ). (base k.setting + a.at) % z ≡ 0) f.width (each_at (λ (d : Area). (base k.setting + d.at) % d.width ≡ 0) (global_areas k) sg.index a w.linked.globals.aligned sg.is_at) in
              let sp = global_spot k places w.facts (fr ∷ rest) st.statuses m.globals x j (Number 0) (cell_in cs j) count (w.contents.globals k.program sizes S m sf.1) (all_whole k Inv sizes S w places (fr ∷ rest) sf.0) (omega arith)
              (subst (λ (z : List CellPlace). j < length z) (sym cells_are) f.below) (ap (λ (z : List CellPlace). cell_in z j) cells_are) in
              inl (direct (OfGlobal x) c a v (Number 0) _ _ (cell_in cs j).ty points (omega arith) f.width f.width al2 (w.law.permits.loads _ _ _ (base k.setting + a.at) st.invariant may2) ((sf.1.globals x).each j) sp)

      -- ---- windows

      port_load : (q c : ℕ) → q < length k.program.periphs → register fr from ≡ At (OfPeriph q) c → TurnFollows (load k.program k.groups.of fr rest m to (OfPeriph q) c ty)
      port_load q c h points = by (is_integer ty) (nat_eq (c % width_of ty) 0) (nat_le (c + width_of ty) (window_at k.program q).size) refl refl refl
        where
          reached : c % width_of ty ≡ 0 → c + width_of ty ≤ (window_at k.program q).size → Reach by_mpu k.setting.image p Read (width_of ty) (home (places fr.number) p from) (InWindow q c)
          reached al ins =
              let b = w.linked.windows.bases q h in
              let u = w.windows.each q h in
              let ut = u.place.1 in
              let wp = positive_width ty in
              let addr : address_of k places (OfPeriph q) + c ≡ (window_at k.program q).base + c = omega arith in
              let pa = address (OfPeriph q) c ((window_at k.program q).base + c) points addr (omega arith) in
              let a4 = w.linked.windows.aligned q h in
              let alb : ((window_at k.program q).base + c) % width_of ty ≡ 0 = ap (λ (z : ℕ). (z + c) % width_of ty) (sym b) ∙ aligned_sum ty (get_or k.places.windows q 0) c a4 al in
              let listed = (w.listed k.program sizes S k.needs.closed k.needs w.needs).loads fr to from ty (OfPeriph q) c sf.0.0 typed e points in
              let may = w.linked.windows.loads fr.func q c sf.0.0.func listed.0 h (omega arith) in
              let ok = w.law.permits.loads _ _ _ ((window_at k.program q).base + c) st.invariant (ap (λ (z : ℕ). k.setting.may_load z ((window_at k.program q).base + c)) st.fits.0.current ∙ may) in
              subst (λ (z : ℕ). Reach by_mpu k.setting.image p Read (width_of ty) z (InWindow q c)) (sym pa) (record { aligned = alb; low = omega arith; allowed = ok; leads = w.linked.windows.leads q c h (omega arith) })

          rg : length (func k fr.func).regs ≤ words_at k fr.func
          rg = (w.facts.shapes fr.func).registers

          take : c % width_of ty ≡ 0 → c + width_of ty ≤ (window_at k.program q).size → (us : List ℕ) → get_or m.queues q [] ≡ us → TurnFollows (take_input k.groups.of fr rest m to q c ty us)
          take al ins [] eq nf =
              let lf = typed.from.there in
              let r = rg in
              let l = ((w.laws.loads by_mpu k.setting.image (func k fr.func) (places_at k fr.func) (labels_at k fr.func) site p (places fr.number) (words_at k fr.func)).nothing to from q c ty
              (frame_room k Inv sizes S w places fr rest st.context st.ram st.fits st.invariant) (omega arith) (runs_of st.context st.ram st.invariant) (reached al ins) eq).reaches st.low st.flags (holds_nothing st.low st.state_fits.core.low_count) in
              inl (record { steps = 2; least = omega arith; within = omega arith; to = l.last; runs = started k.setting 2 t _ _ [] st.is_state l.runs; related = l.over })
          take al ins (u ∷ us) eq nf =
              let lf = typed.from.there in
              let lt = typed.held.there in
              let r = rg in
              let l = (w.laws.loads by_mpu k.setting.image (func k fr.func) (places_at k fr.func) (labels_at k fr.func) site p (places fr.number) (words_at k fr.func)).window to from q c u us ty
              (frame_room k Inv sizes S w places fr rest st.context st.ram st.fits st.invariant) (omega arith) (omega arith) (runs_of st.context st.ram st.invariant) (reached al ins) eq in
              let d = l.arrives st.low st.flags (holds_nothing st.low st.state_fits.core.low_count) in
              let ev : input_event k.setting.image st.ram q c (width_of ty) u ≡ record { compartment = compartment_of k fr.func; periph = q; offset = c; width = width_of ty; write = false; value = cut (width_of ty) u } =
              ap (λ (z : ℕ). record { compartment = z; periph = q; offset = c; width = width_of ty; write = false; value = cut (width_of ty) u }) (w.law.keeps.current _ _ _ st.invariant ∙ st.fits.0.current) in
              let pc : ℕ = code_at k fr.func fr.block fr.place + inst_size (is_some site) y in
              let told : Event = record { compartment = compartment_of k fr.func; periph = q; offset = c; width = width_of ty; write = false; value = cut (width_of ty) u } in
              let end : State = works st.context d.low (base k.setting + places fr.number) st.lr pc d.flags (write 4 (places fr.number + 4 * to) (cut (width_of ty) u) st.ram) (set m.queues q us) in
              let r0 = started k.setting 3 t (state_of k Inv sizes S w places fr rest m t st) end (input_event k.setting.image st.ram q c (width_of ty) u ∷ []) st.is_state d.runs in
              let ft = fits_after k.setting Inv w.law w.facts.rules w.laws 3 (state_of k Inv sizes S w places fr rest m t st) end (input_event k.setting.image st.ram q c (width_of ty) u ∷ []) st.state_fits d.runs in
              inl (keeps_on k Inv sizes S w places fr rest (record m { queues = set m.queues q us }) st.statuses t to (cut (width_of ty) u) 3 (Number (cut (width_of ty) u)) st.context d.low st.lr pc d.flags st.ram (told ∷ []) (omega arith) (omega arith)
              (subst (λ (z : Event). Runs by_mpu k.setting.image 3 t end (z ∷ [])) ev r0) ft next st.invariant st.has st.threads st.fits (whole k Inv sizes S w places fr sf.0.0) typed.held.there refl)

          by : (a b d : Bool) → is_integer ty ≡ a → nat_eq (c % width_of ty) 0 ≡ b → nat_le (c + width_of ty) (window_at k.program q).size ≡ d → TurnFollows (load_port k.groups.of fr rest m to q c ty (has_port k.program q c ty))
          by true true true x z u = rw (x, z, u) (take (grind (arith, nat_tests)) (grind (arith, nat_tests)) (get_or m.queues q []) refl)
          by true true false x z u = rw (x, z, u) (λ nf. absurd (nf tt))
          by true false d x z u = rw (x, z) (λ nf. absurd (nf tt))
          by false b d x z u = rw x (λ nf. absurd (nf tt))

      -- ---- locals

      abbrev pub closed : Bool
      closed = k.setting.image.closed

      local_load : (f n l c : ℕ) → l < length (func k f).locals → register fr from ≡ At (OfLocal f n l) c → TurnFollows (load k.program k.groups.of fr rest m to (OfLocal f n l) c ty)
      local_load f n l c hl points = by_frame (frame_in (fr ∷ rest) f n) refl
        where
          reads_at : (h : Frame) (j : ℕ) → frame_in (fr ∷ rest) f n ≡ Some h → Found (cells_of_local k.program f l) (local_at k.program f l).size c j ty →
              Serves k Inv places (wheres (fr ∷ rest)) t (Running (onward (with_register fr to (get_or (get_or h.locals l []) j (Number 0))) ∷ rest) m) []
          reads_at h j live fo = by closed refl (lend_number k.needs k.groups f l) refl
            where
              ff : FrameFits k.program sizes S h × (h.func ≡ f)
              ff = found_fits k sizes S (fr ∷ rest) f n h sf.0 live

              a : Area
              a = record { at = places n + get_or (starts_at k f) l 0 + (cell_in (cells_of_local k.program f l) j).at; width = width_of (cell_in (cells_of_local k.program f l) j).ty }

              v : Value
              v = get_or (get_or h.locals l []) j (Number 0)

              fits : Fits k.program sizes (S (Content (LocalObject f l))) (cell_in (cells_of_local k.program f l) j).ty v
              fits = subst (λ (g : ℕ). Fits k.program sizes (S (Content (LocalObject g l))) (cell_in (cells_of_local k.program g l) j).ty v) ff.1 ((ff.0.locals l).each j)

              lies : LiesAt k Inv sizes S w places fr rest m t st f n l c ty a
              lies = cell_lies k Inv sizes S w places fr rest m t st f n l c j ty h live hl fo

              sp : IsWordIn (areas k places (wheres (fr ∷ rest))) (held k places st.statuses (fr ∷ rest) m.globals) a (word_of k places v) (word_of k places (Number 0)) (held k places st.statuses (Rattle.ir_model.specs.Step.with_local (fr ∷ rest) f n l (set (get_or h.locals l []) j (Number 0))) m.globals)
              sp = local_spot k places w.facts (fr ∷ rest) st.statuses m.globals f n l j (Number 0) h (cell_in (cells_of_local k.program f l) j) live (all_whole k Inv sizes S w places (fr ∷ rest) sf.0) hl fo.below refl

              listed : IsListed (need_of k.needs fr.func).read (LocalObject f l) × ListsPeriph k.needs fr.func (LocalObject f l)
              listed = (w.listed k.program sizes S k.needs.closed k.needs w.needs).loads fr to from ty (OfLocal f n l) c sf.0.0 typed e points

              reads : by_mpu st.context.protection Read (base k.setting + a.at) ≡ true → Follows k Inv places t (Running (onward (with_register fr to v) ∷ rest) m) []
              reads ok = direct (OfLocal f n l) c a v (Number 0) _ (S (Content (LocalObject f l))) (cell_in (cells_of_local k.program f l) j).ty points lies.address fo.width fo.width lies.aligned ok fits sp

              by : (b : Bool) → closed ≡ b → (x : Option ℕ) → lend_number k.needs k.groups f l ≡ x → Serves k Inv places (wheres (fr ∷ rest)) t (Running (onward (with_register fr to v) ∷ rest) m) []
              by false q x z =
                  let ts = lies.to_stack in
                  let rf = w.facts.rules.fits in
                  inl (reads (w.law.permits.loads _ _ _ (base k.setting + a.at) st.invariant (w.linked.loans.open_loads q block.current a.at (omega arith))))
              by true q (Some number) z =
                  let mask = ap (λ (y : ℕ). k.setting.has_read_loan y number) st.fits.0.current ∙ w.linked.loans.loads q fr.func f l number sf.0.0.func listed.0 z in
                  loan_or_end (OfLocal f n l) c a v (Number 0) _ (S (Content (LocalObject f l))) (cell_in (cells_of_local k.program f l) j).ty points lies.address fo.width fo.width lies.aligned
                  (lent_cell k Inv sizes S w places fr rest m t st (k.setting.has_read_loan block.current) f n l c j number ty h live (subst (λ (y : ℕ). y < length k.program.funcs) ff.1 ff.0.func) hl fo z mask) fits sp
              by true q None z =
                  let o = open_cell k Inv sizes S w places fr rest m t st f n l c j ty h live hl fo z
                  (λ no_lend. (w.own k.program sizes S k.needs.closed k.needs w.needs).loads fr rest f n l h (w.linked.kind ∙ q) sf.0 hl no_lend ((w.accesses k.program sizes S).loads fr to from ty (OfLocal f n l) c sf.0.0 typed e points) live) in
                  inl (reads (w.law.permits.reads_stack _ _ _ a.at st.invariant o.0 o.1))

          by_cell : (h : Frame) → frame_in (fr ∷ rest) f n ≡ Some h → (r : Option ℕ) → cell_at (cells_of_local k.program f l) c ty ≡ r → TurnFollows (load_cell fr rest m to (LocalObject f l) (get_or h.locals l []) r)
          by_cell h live None q nf = absurd (nf tt)
          by_cell h live (Some j) q nf = reads_at h j live (found_cell (cells_of_local k.program f l) (local_at k.program f l).size c j ty (w.found (cells_of_local k.program f l) c ty j q) (w.cells.locals f l) (w.laid_locals f l))

          by_frame : (x : Option Frame) → frame_in (fr ∷ rest) f n ≡ x → TurnFollows (load_local k.program fr rest m to f l c ty x)
          by_frame None q = λ nf. absurd (nf tt)
          by_frame (Some h) q = by_cell h q (cell_at (cells_of_local k.program f l) c ty) refl

      by_instance : (o : Instance) (c : ℕ) → Rattle.ir_laws.specs.Typed.IsPlaced k.program o → register fr from ≡ At o c → TurnFollows (load k.program k.groups.of fr rest m to o c ty)
      by_instance (OfGlobal x) c h points = global_load x c h points
      by_instance (OfPeriph q) c h points = port_load q c h points
      by_instance (OfLocal f n l) c h points = local_load f n l c h points

      pub load_case : CaseServes k Inv places fr rest m t (Does (Load to from ty))
      unfolding perform act
      load_case nf lies =
          let q = pointer_or k Inv sizes S w places fr rest m t st sf.0.0 (register fr from) (λ o c. Loads to o c ty) (Load to from ty) refl nf in
          let pl = (w.pointers k.program sizes S fr from ty q.0 q.1 sf.0.0 typed.from q.2).placed in
          subst (λ (x : Value). TurnFollows (perform k.program k.groups.of fr rest m (with_pointer x (λ o c. Loads to o c ty)))) (sym q.2) (by_instance q.0 q.1 pl q.2) nf
