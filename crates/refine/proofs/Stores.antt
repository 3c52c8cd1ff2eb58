-- Stores: to globals, to windows, and to locals of any live frame.
use Rattle.std.proofs.Common.{◌≡◌, ℕ, suc, ◌+◌, ◌%◌, ◌^◌, ◌<◌, ◌≤◌, Bool, true, false, if◌then◌else◌, nat_eq, nat_le, Option, Some, None, is_some, List, [], ◌∷◌, length, get_or, set, refl, sym, ap, ◌∙◌, subst, arith, inl, inr, ⊎_elim}
use Rattle.std.specs.Prelude.{option_to_list}
use Rattle.std.proofs.lemmas.Bool.{cases_lt}
use Rattle.std.proofs.lemmas.Bool.Decides.{nat_tests}
use Rattle.std.proofs.lemmas.List.{get_or-map, length-map}
use Rattle.base_words.specs.Bytes.{write, cut}
use Rattle.base_words.specs.Arithmetic.{word}
use Rattle.base_words.proofs.Bytes.{length-write, read_below, read_above}
use Rattle.machine_thumb.specs.declared.table.Instr.{Instr}
use Rattle.machine_protection.specs.declared.region.Access.TheVariants.{Write}
use Rattle.base_events.specs.declared.event.Event.{Event}
use Rattle.machine_bus.specs.Locations.{InRam, InWindow}
use Rattle.machine_model.specs.State.{State, by_mpu}
use Rattle.machine_model.specs.Code.{Lies, Stands, Runs}
use Rattle.machine_model.specs.Events.{output_event}
use Rattle.machine_model.specs.RunningCode.{Context, works}
use Rattle.machine_model.proofs.Exec.{onward as behind_run}
use Rattle.ir_model.specs.Types.{PlainType, U32, width_of, is_integer}
use Rattle.ir_model.specs.Layout.{CellPlace, Shape, cell_at, empty}
use Rattle.ir_model.specs.Resolved.{Value, Number, At, Instance, OfGlobal, OfPeriph, OfLocal, NumberedGlobal, NumberedInst, Store, Does, here, global_at, window_at, cells_of_global, cells_of_local, local_at, no_global}
use Rattle.ir_model.specs.Signatures.{cell_in, widened}
use Rattle.ir_model.specs.State.{Frame, Memory, SourceTurn, Running, LocalObject}
use Rattle.ir_model.specs.Step.{register, number_in, Stores, with_pointer, act, perform, with_local, frame_in, is_frame, has_port, cut_to, store, store_global, store_cell, store_local, store_port, onward}
use Rattle.ir_laws.specs.Moves.{where_of, wheres}
use Rattle.ir_laws.specs.Sets.{ObjectSets}
use Rattle.ir_laws.specs.Typed.{CellTyped, IsPlaced}
use Rattle.ir_laws.specs.States.{FrameFits, StateFits, global_shapes}
use Rattle.plan_model.specs.Lending.{lend_number}
use Rattle.plan_model.specs.Needs.{need_of}
use Rattle.need_laws.specs.Reached.{IsListed, ListsPeriph}
use Rattle.code_model.specs.Addresses.{store_at}
use Rattle.code_model.specs.Sizes.{inst_size}
use Rattle.code_model.specs.Templates.{inst_items}
use Rattle.monitor_model.specs.Block.{MonitorBlock}
use Rattle.monitor_model.specs.Threads.{base, OffFrame, IsLentTo}
use Rattle.code_effects.specs.Points.{Point}
use Rattle.code_effects.specs.Frames.{home}
use Rattle.code_effects.specs.Items.{ItemsAt}
use Rattle.code_effects.specs.Accesses.{Reach}
use Rattle.code_effects.proofs.Registers.{holds_nothing, known_holds}
use Rattle.refine_model.specs.Refines.{HasFault}
use Rattle.refine.specs.Areas.{Area, IsWordIn, Has as MemoryHas}
use Rattle.refine.specs.Owned.{owner}
use Rattle.refine.proofs.Areas.{stored_spot}
use Rattle.refine.proofs.Thread.{started, fits_after, at_pc, fits_pc, has_stays}
use Rattle.refine.specs.Builds.{Build, compartment_of, func, words_at, starts_at, places_at, labels_at, code_at, site_at, global_starts}
use Rattle.refine.specs.Relation.{word_of, address_of, areas, held, block_of, AllWhole, global_areas}
use Rattle.refine.specs.Cases.{Follows}
use Rattle.refine.specs.Serving.{Serves, CaseServes}
use Rattle.refine.proofs.Frames.{safe, all_laid}
use Rattle.refine.proofs.Blocks.{is_open}
use Rattle.refine.proofs.Locals.{local_spot, global_spot, stored_value}
use Rattle.refine.specs.Guard.{StackLaw}
use Rattle.refine.specs.Entries.{EndsShort}
use Rattle.refine.proofs.Stops.{store_ends}
use Rattle.refine.proofs.Lends.{later, sooner}
use Rattle.refine.proofs.Premises.{Premises}
use Rattle.refine.proofs.Standing.{next_code}
use Rattle.refine.proofs.Steps.{frame_room, goes_on, Here as HereStands, point_of, state_of}
use Rattle.refine.proofs.Registers.{register_word, inst_runs, owned_by, pointer_or, global_place, global_count}
use Rattle.refine.proofs.Cells.{each_at, aligned_sum, Found, found_cell, placed_area}
use Rattle.refine.proofs.Reaching.{LiesAt, cell_lies, lent_cell, open_cell}
use Rattle.refine.proofs.Loads.{own_code, found_fits, all_whole}
use Rattle.ir_laws.proofs.Moving.{wheres_stay}
use Rattle.ir_laws.proofs.Layouts.{positive_width}

-- the running frame moves on, and is the same otherwise
moved_on : (fr : Frame) (rest : List Frame) (f n : ℕ) (h : Frame) → frame_in (fr ∷ rest) f n ≡ Some h → (g : Frame) × (frame_in (onward fr ∷ rest) f n ≡ Some g) × (g.locals ≡ h.locals)
moved_on fr rest f n h e = by (is_frame fr f n) e
  where
    by : (b : Bool) → (if b then Some fr else frame_in rest f n) ≡ Some h → (g : Frame) × ((if b then Some (onward fr) else frame_in rest f n) ≡ Some g) × (g.locals ≡ h.locals)
    by true e = let y : fr ≡ h = cc in (onward fr, refl, ap (λ (z : Frame). z.locals) y)
    by false e = (h, e, refl)

store_size : (b : Bool) (to from : ℕ) (ty : PlainType) → inst_size b (Store to from ty) ≡ 6
unfolding inst_size
store_size b to from ty = refl

module _ (k : Build) (Inv : MonitorBlock → Context → List ℕ → Type 0) (sizes : PlainType → ℕ) (S : ObjectSets) (w : Premises k Inv sizes S) (places : ℕ → ℕ) where
  module _ (fr : Frame) (rest : List Frame) (m : Memory) (t : State) (st : HereStands k Inv sizes S w places fr rest m t) (sf : StateFits k.program sizes S (Running (fr ∷ rest) m)) where
    abbrev TurnFollows : SourceTurn → Type 0
    TurnFollows u = (HasFault u.to → ⊥) → Serves k Inv places (wheres (fr ∷ rest)) t u.to (option_to_list u.event)

    abbrev block : MonitorBlock
    block = block_of k places (wheres (fr ∷ rest))

    module _ (to from : ℕ) (ty : PlainType) (typed : CellTyped (func k fr.func) to from ty) (e : here k.program fr.func fr.block fr.place ≡ Does (Store to from ty)) where
      abbrev y : NumberedInst
      y = Store to from ty

      abbrev p : Point
      p = point_of k Inv sizes S w places fr rest m t st

      abbrev site : Option ℕ
      site = site_at k fr.func fr.block fr.place

      abbrev value : Value
      value = cut_to ty (register fr from)

      runs_of : ItemsAt by_mpu k.setting.image st.context.protection (labels_at k fr.func) (code_at k fr.func fr.block fr.place) (inst_items (func k fr.func) (places_at k fr.func) (code_at k fr.func fr.block fr.place) site y)
      runs_of = inst_runs k Inv sizes S w places fr rest st.context st.ram st.fits st.invariant y sf.0.0 e

      next : code_at k fr.func fr.block fr.place + inst_size (is_some site) y ≡ code_at k fr.func fr.block (suc fr.place)
      next = sym (next_code k w.facts.rules w.laws w.linked.code fr.func fr.block fr.place y sf.0.0.func e)

      address : (o : Instance) (c a : ℕ) → register fr to ≡ At o c → address_of k places o + c ≡ a → a < 2 ^ 32 → home (places fr.number) p to ≡ a
      address o c a points addr small =
          register_word k Inv sizes S w places fr rest m t st sf.0.0 to typed.from.there ∙ ap (λ (v : Value). word_of k places v) points ∙ ap word addr ∙ (let z : word a ≡ a = omega arith in z)

      held_word : home (places fr.number) p from ≡ word_of k places (register fr from)
      held_word = register_word k Inv sizes S w places fr rest m t st sf.0.0 from typed.held.there

      -- memory has the new word
      has_stored : (a : Area) (fs : List Frame) (gl : List (List Value)) (old : ℕ) → a.width ≡ width_of ty → IsWordIn (areas k places (wheres (fr ∷ rest))) (held k places st.statuses (fr ∷ rest) m.globals) a old (word_of k places value) (held k places st.statuses fs gl) →
          MemoryHas (write (width_of ty) a.at (home (places fr.number) p from) st.ram) (areas k places (wheres (fr ∷ rest))) (held k places st.statuses fs gl)
      has_stored a fs gl old wid sp =
          let h0 = stored_spot (areas k places (wheres (fr ∷ rest))) (held k places st.statuses (fr ∷ rest) m.globals) (held k places st.statuses fs gl) a old (word_of k places value) st.ram (all_laid k places w.facts (wheres (fr ∷ rest)) st.fits) st.has sp in
          let we : write a.width a.at (word_of k places value) st.ram ≡ write (width_of ty) a.at (home (places fr.number) p from) st.ram =
          ap (λ (z : ℕ). write z a.at (word_of k places value) st.ram) wid ∙ sym (stored_value k places ty a.at (register fr from) st.ram) ∙ ap (λ (z : ℕ). write (width_of ty) a.at z st.ram) (sym held_word) in
          subst (λ (z : List ℕ). MemoryHas z (areas k places (wheres (fr ∷ rest))) (held k places st.statuses fs gl)) we h0

      -- where the protection unit permits it
      direct : (o : Instance) (c : ℕ) (a : Area) (n : Memory) (fs : List Frame) (old : ℕ) → register fr to ≡ At o c → address_of k places o + c ≡ base k.setting + a.at → a.width ≡ width_of ty → (base k.setting + a.at) % width_of ty ≡ 0 →
          by_mpu st.context.protection Write (base k.setting + a.at) ≡ true → n.queues ≡ m.queues → wheres fs ≡ where_of (onward fr) ∷ wheres rest →
          IsWordIn (areas k places (wheres (fr ∷ rest))) (held k places st.statuses (fr ∷ rest) m.globals) a old (word_of k places value) (held k places st.statuses fs n.globals) → Follows k Inv places t (Running fs n) []
      direct o c a n fs old points addr wid al ok qs stand sp =
          let ws = positive_width ty in
          let pl = placed_area k Inv sizes S w places fr rest m t st a sp.index (omega arith) sp.is_at in
          let lw = pl.low in
          let pa = address o c (base k.setting + a.at) points addr (omega arith) in
          let reach = subst (λ (z : ℕ). Reach by_mpu k.setting.image p Write (width_of ty) z (InRam a.at)) (sym pa) (record { aligned = al; low = omega arith; allowed = ok; leads = pl.in_ram_at }) in
          let rg = (w.facts.shapes fr.func).registers in
          let lt = typed.held.there in
          let lf = typed.from.there in
          let u : ℕ = home (places fr.number) p from in
          let new : List ℕ = write (width_of ty) a.at u st.ram in
          let l = (w.laws.stores by_mpu k.setting.image (func k fr.func) (places_at k fr.func) (labels_at k fr.func) site p (places fr.number) (words_at k fr.func)).ram to from a.at ty
          (frame_room k Inv sizes S w places fr rest st.context st.ram st.fits st.invariant) (omega arith) (omega arith) runs_of reach in
          let q = l.arrives st.low st.flags (holds_nothing st.low st.state_fits.core.low_count) in
          let pc : ℕ = code_at k fr.func fr.block fr.place + inst_size (is_some site) y in
          let end : State = works st.context q.low (base k.setting + places fr.number) st.lr pc q.flags new m.queues in
          let off = pl.safe_at in
          let inv : Inv block st.context new = w.law.keeps.off_words _ st.context st.ram new st.invariant
          (λ b z l g. ⊎_elim (λ s. read_above b z (width_of ty) a.at u st.ram (omega arith)) (λ s. read_below b z (width_of ty) a.at u st.ram (omega arith)) off.1) (length-write (width_of ty) a.at u st.ram) in
          let runs = subst (λ (z : List (List ℕ)). Runs by_mpu k.setting.image 3 t (works st.context q.low (base k.setting + places fr.number) st.lr pc q.flags new z) []) (sym qs) (started k.setting 3 t (state_of k Inv sizes S w places fr rest m t st) end [] st.is_state q.runs) in
          let ft = subst (λ (z : List (List ℕ)). Rattle.machine_model.specs.Shape.StateFits k.setting.image (works st.context q.low (base k.setting + places fr.number) st.lr pc q.flags new z)) (sym qs) (fits_after k.setting Inv w.law w.facts.rules w.laws 3 (state_of k Inv sizes S w places fr rest m t st) end [] st.state_fits q.runs) in
          goes_on k Inv sizes S w places fr rest n fs st.statuses t fr.block (suc fr.place) 3 st.context q.low st.lr pc q.flags new [] (omega arith) (omega arith) runs ft next inv (has_stored a fs n.globals old wid sp) st.threads st.fits stand

      -- by a loan
      by_loan : k.setting.stack + 32 ≤ places fr.number → (o : Instance) (c : ℕ) (a : Area) (fs : List Frame) (old : ℕ) → register fr to ≡ At o c → address_of k places o + c ≡ base k.setting + a.at → a.width ≡ width_of ty → (base k.setting + a.at) % width_of ty ≡ 0 →
          IsLentTo k.setting (k.setting.has_loan block.current) block (base k.setting + a.at) (width_of ty) → wheres fs ≡ where_of (onward fr) ∷ wheres rest →
          IsWordIn (areas k places (wheres (fr ∷ rest))) (held k places st.statuses (fr ∷ rest) m.globals) a old (word_of k places value) (held k places st.statuses fs m.globals) → Follows k Inv places t (Running fs m) []
      by_loan room o c a fs old points addr wid al lent stand sp =
          let ws = positive_width ty in
          let oc : ℕ = places fr.number in
          let pl = placed_area k Inv sizes S w places fr rest m t st a sp.index (omega arith) sp.is_at in
          let lw = pl.low in
          let pa = address o c (base k.setting + a.at) points addr (omega arith) in
          let rg = (w.facts.shapes fr.func).registers in
          let lt = typed.held.there in
          let lf = typed.from.there in
          let b = ((w.laws.stores by_mpu k.setting.image (func k fr.func) (places_at k fr.func) (labels_at k fr.func) site p oc (words_at k fr.func)).before to from ty
          (frame_room k Inv sizes S w places fr rest st.context st.ram st.fits st.invariant) (omega arith) (omega arith) runs_of).arrives st.low st.flags (holds_nothing st.low st.state_fits.core.low_count) in
          let pc : ℕ = code_at k fr.func fr.block fr.place in
          let mid : State = works st.context b.low (base k.setting + oc) st.lr (pc + 4) b.flags st.ram m.queues in
          let ft = fits_after k.setting Inv w.law w.facts.rules w.laws 2 (state_of k Inv sizes S w places fr rest m t st) mid [] st.state_fits b.runs in
          let own = owned_by k Inv sizes S w places fr rest st.fits.0 y sf.0.0 e in
          let stands = (w.laws.stores (owner k.setting block.current) k.setting.image (func k fr.func) (places_at k fr.func) (labels_at k fr.func) site p oc (words_at k fr.func)).access to from pc ty (own.stands st.context.protection) in
          let wd = w.laws.widths.stores ty in
          let lies = subst (λ (z : Instr). Lies k.setting.image (pc + 4) z) wd.1 stands.lies in
          let off = subst (λ (z : ℕ). OffFrame k.setting oc a.at z) wid (pl.off_frame room) in
          let words : List ℕ = home oc p from ∷ home oc p to ∷ [] in
          let r0 : get_or b.low 0 0 ≡ home oc p from = known_holds words b.low b.holds 0 (omega arith) in
          let r1 : get_or b.low 1 0 ≡ base k.setting + a.at = known_holds words b.low b.holds 1 (omega arith) ∙ pa in
          let x = w.law.reach.stores block st.context b.low oc st.lr (pc + 4) b.flags st.ram m.queues wd.0 (width_of ty) (base k.setting + a.at) a.at wd.2
          (record { invariant = st.invariant; room = is_open k places (where_of fr) (wheres rest) st.fits room; fits = ft; lies = lies; owned = own_code (owner k.setting block.current) k.setting.image st.context.protection (pc + 4) (store_at ty) stands })
          r1 al pl.in_ram_at off lent in
          let six = store_size (is_some site) to from ty in
          let e6 : pc + 4 + 2 ≡ pc + inst_size (is_some site) y = omega arith in
          let runs0 = started k.setting 2 t (state_of k Inv sizes S w places fr rest m t st) mid [] st.is_state b.runs in
          let runs1 = at_pc k.setting x.count _ x.context x.low (base k.setting + oc) x.lr _ (pc + inst_size (is_some site) y) x.flags x.memory m.queues [] e6 x.runs in
          let sa = safe k places w.facts (wheres (fr ∷ rest)) st.fits in
          let h0 = subst (λ (z : ℕ). MemoryHas (write (width_of ty) a.at z st.ram) (areas k places (wheres (fr ∷ rest))) (held k places st.statuses fs m.globals)) (sym r0) (has_stored a fs m.globals old wid sp) in
          let h1 = has_stays k.setting oc (write (width_of ty) a.at (get_or b.low 0 0) st.ram) x.memory (areas k places (wheres (fr ∷ rest))) (held k places st.statuses fs m.globals) x.stays sa.each h0 in
          goes_on k Inv sizes S w places fr rest m fs st.statuses t fr.block (suc fr.place) (2 + x.count) x.context x.low x.lr (pc + inst_size (is_some site) y) x.flags x.memory [] (omega arith) (let z = x.within in omega arith)
          (behind_run by_mpu k.setting.image runs0 runs1) (fits_pc k.setting x.context x.low (base k.setting + oc) x.lr _ (pc + inst_size (is_some site) y) x.flags x.memory m.queues e6 x.fits) next x.invariant h1 st.threads st.fits stand

      -- a store that is refused ends the machine, with less room than an exception needs, where the stack is guarded
      refused : StackLaw k.setting Inv → (o : Instance) (c : ℕ) (a : Area) (fs : List Frame) (old : ℕ) → places fr.number < k.setting.stack + 32 → register fr to ≡ At o c → address_of k places o + c ≡ base k.setting + a.at → (base k.setting + a.at) % width_of ty ≡ 0 →
          by_mpu st.context.protection Write (base k.setting + a.at) ≡ false →
          IsWordIn (areas k places (wheres (fr ∷ rest))) (held k places st.statuses (fr ∷ rest) m.globals) a old (word_of k places value) (held k places st.statuses fs m.globals) → a.width ≡ width_of ty → EndsShort k.setting 16384 t
      refused stack o c a fs old less points addr al nope sp wid =
          let ws = positive_width ty in
          let oc : ℕ = places fr.number in
          let pl = placed_area k Inv sizes S w places fr rest m t st a sp.index (omega arith) sp.is_at in
          let lw = pl.low in
          let pa = address o c (base k.setting + a.at) points addr (omega arith) in
          let rg = (w.facts.shapes fr.func).registers in
          let lt = typed.held.there in
          let lf = typed.from.there in
          let b = ((w.laws.stores by_mpu k.setting.image (func k fr.func) (places_at k fr.func) (labels_at k fr.func) site p oc (words_at k fr.func)).before to from ty
          (frame_room k Inv sizes S w places fr rest st.context st.ram st.fits st.invariant) (omega arith) (omega arith) runs_of).arrives st.low st.flags (holds_nothing st.low st.state_fits.core.low_count) in
          let pc : ℕ = code_at k fr.func fr.block fr.place in
          let mid : State = works st.context b.low (base k.setting + oc) st.lr (pc + 4) b.flags st.ram m.queues in
          let stands = (w.laws.stores by_mpu k.setting.image (func k fr.func) (places_at k fr.func) (labels_at k fr.func) site p oc (words_at k fr.func)).access to from pc ty runs_of in
          let wd = w.laws.widths.stores ty in
          let st1 = subst (λ (z : Instr). Stands by_mpu k.setting.image st.context.protection (pc + 4) z) wd.1 stands in
          let words : List ℕ = home oc p from ∷ home oc p to ∷ [] in
          let r1 : get_or b.low 1 0 ≡ base k.setting + a.at = known_holds words b.low b.holds 1 (omega arith) ∙ pa in
          let f0 = st.fits.0 in
          let e = store_ends k.setting Inv w.law w.facts.rules stack block st.context b.low oc st.lr (pc + 4) wd.0 (width_of ty) (base k.setting + a.at) b.flags st.ram m.queues st.invariant f0.aligned f0.room less wd.2 r1 al (omega arith) nope st1 in
          let runs0 = started k.setting 2 t (state_of k Inv sizes S w places fr rest m t st) mid [] st.is_state b.runs in
          sooner k.setting (2 + 1) 16384 t (omega arith) (later k.setting 2 1 t mid runs0 e)

      loan_or_end : (o : Instance) (c : ℕ) (a : Area) (fs : List Frame) (old : ℕ) → register fr to ≡ At o c → address_of k places o + c ≡ base k.setting + a.at → a.width ≡ width_of ty → (base k.setting + a.at) % width_of ty ≡ 0 →
          IsLentTo k.setting (k.setting.has_loan block.current) block (base k.setting + a.at) (width_of ty) → wheres fs ≡ where_of (onward fr) ∷ wheres rest →
          IsWordIn (areas k places (wheres (fr ∷ rest))) (held k places st.statuses (fr ∷ rest) m.globals) a old (word_of k places value) (held k places st.statuses fs m.globals) → Serves k Inv places (wheres (fr ∷ rest)) t (Running fs m) []
      loan_or_end o c a fs old points addr wid al lent stand sp =
          ⊎_elim (λ less. by less (by_mpu st.context.protection Write (base k.setting + a.at)) refl) (λ room. inl (by_loan room o c a fs old points addr wid al lent stand sp)) (cases_lt (places fr.number) (k.setting.stack + 32))
        where
          by : places fr.number < k.setting.stack + 32 → (b : Bool) → by_mpu st.context.protection Write (base k.setting + a.at) ≡ b → Serves k Inv places (wheres (fr ∷ rest)) t (Running fs m) []
          by less true z = inl (direct o c a m fs old points addr wid al z refl stand sp)
          by less false z = inr (record { reason = λ now next. let r = now.0.room in omega (arith, less, r); ends = λ stack. refused stack o c a fs old less points addr al z sp wid })

      -- ---- globals

      global_store : (x c : ℕ) → x < length k.program.globals → register fr to ≡ At (OfGlobal x) c → TurnFollows (store k.program k.groups.of fr rest m (OfGlobal x) c ty value)
      global_store x c h points = by (cell_at (cells_of_global k.program x) c ty) refl (global_at k.program x).constant refl
        where
          by : (r : Option ℕ) → cell_at (cells_of_global k.program x) c ty ≡ r → (b : Bool) → (global_at k.program x).constant ≡ b → TurnFollows (store_global fr rest m x b value r)
          by None q b z nf = absurd (nf tt)
          by (Some j) q true z nf = absurd (nf tt)
          by (Some j) q false z nf =
              let cs : List CellPlace = cells_of_global k.program x in
              let size : ℕ = (global_at k.program x).shape.size in
              let f = found_cell cs size c j ty (w.found cs c ty j q) (w.cells.globals x) (w.laid_globals x) in
              let gp = global_place k Inv sizes S w places x h in
              let wp = positive_width ty in
              let ci = f.inside in
              let a : Area = record { at = 0 + get_or (global_starts k) x 0 + (cell_in cs j).at; width = width_of (cell_in cs j).ty } in
              let cp = f.place in
              let at_is : base k.setting + a.at ≡ get_or k.places.globals x 0 + c = omega arith in
              let listed = (w.listed k.program sizes S k.needs.closed k.needs w.needs).stores fr to from ty (OfGlobal x) c sf.0.0 typed e points z in
              let may = w.linked.globals.stores fr.func x c sf.0.0.func listed.0 h (omega arith) in
              let may2 : k.setting.may_store block.current (base k.setting + a.at) ≡ true = ap (λ (z : ℕ). k.setting.may_store z (base k.setting + a.at)) st.fits.0.current ∙ ap (λ (z : ℕ). k.setting.may_store (compartment_of k fr.func) z) at_is ∙ may in
              let gl = get_or-map (λ (g : NumberedGlobal). g.shape) k.program.globals x no_global empty h in
              let gn = length-map k.program.globals (λ (g : NumberedGlobal). g.shape) in
              let count : length (global_starts k) ≡ length (global_shapes k.program) = global_count k Inv sizes S w places ∙ sym gn in
              let cells_are : (get_or (global_shapes k.program) x empty).cells ≡ cs = ap (λ (s : Shape). s.cells) gl in
              let sg = global_spot k places w.facts [] st.statuses m.globals x j (Number 0) (cell_in cs j) count (w.contents.globals k.program sizes S m sf.1) tt (omega arith)
              (subst (λ (z : List CellPlace). j < length z) (sym cells_are) f.below) (ap (λ (z : List CellPlace). cell_in z j) cells_are) in
              let al2 : (base k.setting + a.at) % width_of ty ≡ 0 =
              subst (λ (z : ℕ). (base k.setting + a.at) % z ≡ 0) f.width (each_at (λ (d : Area). (base k.setting + d.at) % d.width ≡ 0) (global_areas k) sg.index a w.linked.globals.aligned sg.is_at) in
              let sp = global_spot k places w.facts (fr ∷ rest) st.statuses m.globals x j value (cell_in cs j) count (w.contents.globals k.program sizes S m sf.1) (all_whole k Inv sizes S w places (fr ∷ rest) sf.0) (omega arith)
              (subst (λ (z : List CellPlace). j < length z) (sym cells_are) f.below) (ap (λ (z : List CellPlace). cell_in z j) cells_are) in
              inl (direct (OfGlobal x) c a (record m { globals = set m.globals x (set (get_or m.globals x []) j value) }) (onward fr ∷ rest) _ points (omega arith) f.width al2 (w.law.permits.stores _ _ _ (base k.setting + a.at) st.invariant may2) refl refl sp)

      -- ---- windows

      port_store : (q c : ℕ) → q < length k.program.periphs → register fr to ≡ At (OfPeriph q) c → TurnFollows (store k.program k.groups.of fr rest m (OfPeriph q) c ty value)
      port_store q c h points = by (is_integer ty) (nat_eq (c % width_of ty) 0) (nat_le (c + width_of ty) (window_at k.program q).size) refl refl refl
        where
          number_held : is_integer ty ≡ true → (v : Value) → Rattle.ir_laws.specs.States.IsWord v → number_in (cut_to ty v) ≡ cut (width_of ty) (word_of k places v)
          number_held i v is = subst (λ (z : Value). number_in (cut_to ty z) ≡ cut (width_of ty) (word_of k places z)) (sym is.is) (rw i refl)

          sent : is_integer ty ≡ true → c % width_of ty ≡ 0 → c + width_of ty ≤ (window_at k.program q).size → Follows k Inv places t (Running (onward fr ∷ rest) m)
              (record { compartment = compartment_of k fr.func; periph = q; offset = c; width = width_of ty; write = true; value = number_in value } ∷ [])
          sent i al ins =
              let b = w.linked.windows.bases q h in
              let u = w.windows.each q h in
              let ut = u.place.1 in
              let wp = positive_width ty in
              let addr : address_of k places (OfPeriph q) + c ≡ (window_at k.program q).base + c = omega arith in
              let pa = address (OfPeriph q) c ((window_at k.program q).base + c) points addr (omega arith) in
              let a4 = w.linked.windows.aligned q h in
              let alb : ((window_at k.program q).base + c) % width_of ty ≡ 0 = ap (λ (z : ℕ). (z + c) % width_of ty) (sym b) ∙ aligned_sum ty (get_or k.places.windows q 0) c a4 al in
              let listed = (w.listed k.program sizes S k.needs.closed k.needs w.needs).stores fr to from ty (OfPeriph q) c sf.0.0 typed e points tt in
              let may = w.linked.windows.stores fr.func q c sf.0.0.func listed.0 h (omega arith) in
              let ok = w.law.permits.stores _ _ _ ((window_at k.program q).base + c) st.invariant (ap (λ (z : ℕ). k.setting.may_store z ((window_at k.program q).base + c)) st.fits.0.current ∙ may) in
              let reach = subst (λ (z : ℕ). Reach by_mpu k.setting.image p Write (width_of ty) z (InWindow q c)) (sym pa) (record { aligned = alb; low = omega arith; allowed = ok; leads = w.linked.windows.leads q c h (omega arith) }) in
              let rg = (w.facts.shapes fr.func).registers in
              let lt = typed.held.there in
              let lf = typed.from.there in
              let l = (w.laws.stores by_mpu k.setting.image (func k fr.func) (places_at k fr.func) (labels_at k fr.func) site p (places fr.number) (words_at k fr.func)).window to from q c ty
              (frame_room k Inv sizes S w places fr rest st.context st.ram st.fits st.invariant) (omega arith) (omega arith) runs_of reach in
              let d = l.arrives st.low st.flags (holds_nothing st.low st.state_fits.core.low_count) in
              let ut32 : widened ty ≡ U32 = rw i refl in
              let is = w.numbers k.program sizes S fr from sf.0.0 (record { there = typed.held.there; ty = typed.held.ty ∙ ut32 }) in
              let ev : output_event k.setting.image st.ram q c (width_of ty) (home (places fr.number) p from) ≡ record { compartment = compartment_of k fr.func; periph = q; offset = c; width = width_of ty; write = true; value = number_in value } =
              ap (λ (z : ℕ). record { compartment = z; periph = q; offset = c; width = width_of ty; write = true; value = cut (width_of ty) (home (places fr.number) p from) }) (w.law.keeps.current _ _ _ st.invariant ∙ st.fits.0.current)
              ∙ ap (λ (z : ℕ). record { compartment = compartment_of k fr.func; periph = q; offset = c; width = width_of ty; write = true; value = z }) (ap (λ (z : ℕ). cut (width_of ty) z) held_word ∙ sym (number_held i (register fr from) is)) in
              let pc : ℕ = code_at k fr.func fr.block fr.place + inst_size (is_some site) y in
              let told : Event = record { compartment = compartment_of k fr.func; periph = q; offset = c; width = width_of ty; write = true; value = number_in value } in
              let out : Event = output_event k.setting.image st.ram q c (width_of ty) (home (places fr.number) p from) in
              let end : State = works st.context d.low (base k.setting + places fr.number) st.lr pc d.flags st.ram m.queues in
              let r0 = started k.setting 3 t (state_of k Inv sizes S w places fr rest m t st) end (out ∷ []) st.is_state d.runs in
              let ft = fits_after k.setting Inv w.law w.facts.rules w.laws 3 (state_of k Inv sizes S w places fr rest m t st) end (out ∷ []) st.state_fits d.runs in
              goes_on k Inv sizes S w places fr rest m (onward fr ∷ rest) st.statuses t fr.block (suc fr.place) 3 st.context d.low st.lr pc d.flags st.ram (told ∷ []) (omega arith) (omega arith)
              (subst (λ (z : Event). Runs by_mpu k.setting.image 3 t end (z ∷ [])) ev r0) ft next st.invariant st.has st.threads st.fits refl

          by : (a b d : Bool) → is_integer ty ≡ a → nat_eq (c % width_of ty) 0 ≡ b → nat_le (c + width_of ty) (window_at k.program q).size ≡ d → TurnFollows (store_port k.groups.of fr rest m q c ty value (has_port k.program q c ty))
          by true true true x z u = by_port (has_port k.program q c ty) (rw (x, z, u) refl)
            where
              by_port : (b : Bool) → b ≡ true → TurnFollows (store_port k.groups.of fr rest m q c ty value b)
              by_port true h = λ nf. inl (sent x (grind (arith, nat_tests)) (grind (arith, nat_tests)))
              by_port false h = cc
          by true true false x z u = rw (x, z, u) (λ nf. absurd (nf tt))
          by true false d x z u = rw (x, z) (λ nf. absurd (nf tt))
          by false b d x z u = rw x (λ nf. absurd (nf tt))

      -- ---- locals

      local_store : (f n l c : ℕ) → l < length (func k f).locals → register fr to ≡ At (OfLocal f n l) c → TurnFollows (store k.program k.groups.of fr rest m (OfLocal f n l) c ty value)
      local_store f n l c hl points = by_frame (frame_in (fr ∷ rest) f n) refl
        where
          stores_at : (h : Frame) (j : ℕ) → frame_in (fr ∷ rest) f n ≡ Some h → Found (cells_of_local k.program f l) (local_at k.program f l).size c j ty →
              Serves k Inv places (wheres (fr ∷ rest)) t (Running (with_local (onward fr ∷ rest) f n l (set (get_or h.locals l []) j value)) m) []
          stores_at h j live fo = by (lend_number k.needs k.groups f l) refl
            where
              ff : FrameFits k.program sizes S h × (h.func ≡ f)
              ff = found_fits k sizes S (fr ∷ rest) f n h sf.0 live

              a : Area
              a = record { at = places n + get_or (starts_at k f) l 0 + (cell_in (cells_of_local k.program f l) j).at; width = width_of (cell_in (cells_of_local k.program f l) j).ty }

              fs : List Frame
              fs = with_local (onward fr ∷ rest) f n l (set (get_or h.locals l []) j value)

              lies : LiesAt k Inv sizes S w places fr rest m t st f n l c ty a
              lies = cell_lies k Inv sizes S w places fr rest m t st f n l c j ty h live hl fo

              g : (g : Frame) × (frame_in (onward fr ∷ rest) f n ≡ Some g) × (g.locals ≡ h.locals)
              g = moved_on fr rest f n h live

              whole_frames : AllWhole k (onward fr ∷ rest)
              whole_frames = let a = all_whole k Inv sizes S w places (fr ∷ rest) sf.0 in (record { regs = a.0.regs; locals = a.0.locals }, a.1)

              sp0 : IsWordIn (areas k places (wheres (fr ∷ rest))) (held k places st.statuses (fr ∷ rest) m.globals) a (word_of k places (get_or (get_or g.0.locals l []) j (Number 0))) (word_of k places value) (held k places st.statuses (with_local (onward fr ∷ rest) f n l (set (get_or g.0.locals l []) j value)) m.globals)
              sp0 = local_spot k places w.facts (onward fr ∷ rest) st.statuses m.globals f n l j value g.0 (cell_in (cells_of_local k.program f l) j) g.1 whole_frames hl fo.below refl

              sp : IsWordIn (areas k places (wheres (fr ∷ rest))) (held k places st.statuses (fr ∷ rest) m.globals) a (word_of k places (get_or (get_or h.locals l []) j (Number 0))) (word_of k places value) (held k places st.statuses fs m.globals)
              sp = subst (λ (ls : List (List Value)). IsWordIn (areas k places (wheres (fr ∷ rest))) (held k places st.statuses (fr ∷ rest) m.globals) a (word_of k places (get_or (get_or ls l []) j (Number 0))) (word_of k places value) (held k places st.statuses (with_local (onward fr ∷ rest) f n l (set (get_or ls l []) j value)) m.globals)) g.2 sp0

              listed : IsListed (need_of k.needs fr.func).written (LocalObject f l) × ListsPeriph k.needs fr.func (LocalObject f l)
              listed = (w.listed k.program sizes S k.needs.closed k.needs w.needs).stores fr to from ty (OfLocal f n l) c sf.0.0 typed e points tt

              stand : wheres fs ≡ where_of (onward fr) ∷ wheres rest
              stand = wheres_stay (onward fr ∷ rest) f n l (set (get_or h.locals l []) j value)

              by : (x : Option ℕ) → lend_number k.needs k.groups f l ≡ x → Serves k Inv places (wheres (fr ∷ rest)) t (Running fs m) []
              by (Some number) z =
                  let mask = ap (λ (y : ℕ). k.setting.has_loan y number) st.fits.0.current ∙ w.linked.loans.stores fr.func f l number sf.0.0.func listed.0 z in
                  loan_or_end (OfLocal f n l) c a fs _ points lies.address fo.width lies.aligned
                  (lent_cell k Inv sizes S w places fr rest m t st (k.setting.has_loan block.current) f n l c j number ty h live (subst (λ (y : ℕ). y < length k.program.funcs) ff.1 ff.0.func) hl fo z mask) stand sp
              by None z =
                  let o = open_cell k Inv sizes S w places fr rest m t st f n l c j ty h live hl fo z
                  (λ no_lend. (w.own k.program sizes S k.needs.closed k.needs w.needs).stores fr rest f n l h sf.0 hl no_lend ((w.accesses k.program sizes S).stores fr to from ty (OfLocal f n l) c sf.0.0 typed e points) live) in
                  inl (direct (OfLocal f n l) c a m fs _ points lies.address fo.width lies.aligned (w.law.permits.writes_stack _ _ _ a.at st.invariant o.0 o.1) refl stand sp)

          by_cell : (h : Frame) → frame_in (fr ∷ rest) f n ≡ Some h → (r : Option ℕ) → cell_at (cells_of_local k.program f l) c ty ≡ r → TurnFollows (store_cell fr rest m f n l (get_or h.locals l []) value r)
          by_cell h live None q nf = absurd (nf tt)
          by_cell h live (Some j) q nf = stores_at h j live (found_cell (cells_of_local k.program f l) (local_at k.program f l).size c j ty (w.found (cells_of_local k.program f l) c ty j q) (w.cells.locals f l) (w.laid_locals f l))

          by_frame : (x : Option Frame) → frame_in (fr ∷ rest) f n ≡ x → TurnFollows (store_local k.program fr rest m f n l c ty value x)
          by_frame None q = λ nf. absurd (nf tt)
          by_frame (Some h) q = by_cell h q (cell_at (cells_of_local k.program f l) c ty) refl

      by_instance : (o : Instance) (c : ℕ) → IsPlaced k.program o → register fr to ≡ At o c → TurnFollows (store k.program k.groups.of fr rest m o c ty value)
      by_instance (OfGlobal x) c h points = global_store x c h points
      by_instance (OfPeriph q) c h points = port_store q c h points
      by_instance (OfLocal f n l) c h points = local_store f n l c h points

      pub store_case : CaseServes k Inv places fr rest m t (Does (Store to from ty))
      unfolding perform act
      store_case nf lies =
          let q = pointer_or k Inv sizes S w places fr rest m t st sf.0.0 (register fr to) (λ o c. Stores o c ty (register fr from)) (Store to from ty) refl nf in
          let pl = (w.pointers k.program sizes S fr to ty q.0 q.1 sf.0.0 typed.from q.2).placed in
          subst (λ (x : Value). TurnFollows (perform k.program k.groups.of fr rest m (with_pointer x (λ o c. Stores o c ty (register fr from))))) (sym q.2) (by_instance q.0 q.1 pl q.2) nf
