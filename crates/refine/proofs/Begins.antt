-- Start-up leads to a state that belongs to the source's first state.
use Rattle.std.proofs.Common.{◌≡◌, ℕ, ◌+◌, ◌-◌, ◌*◌, ◌≤◌, List, [], ◌∷◌, length, map, refl, sym, ap, ◌∙◌, subst, arith, ◌⊎◌, inl, inr, ⊎_elim}
use Rattle.base_words.specs.Bytes.{read, cut}
use Rattle.machine_model.specs.State.{State, by_mpu}
use Rattle.machine_model.specs.Reset.{IsReset}
use Rattle.machine_model.specs.Confinement.{AnyOf}
use Rattle.machine_model.specs.RunningCode.{Context, works}
use Rattle.machine_model.proofs.Exec.{onward, stay}
use Rattle.ir_model.specs.Types.{PlainType, none}
use Rattle.ir_model.specs.Resolved.{Value, NumberedGlobal}
use Rattle.ir_model.specs.Signatures.{row_length}
use Rattle.ir_model.specs.State.{Frame, Running, frame_of, start}
use Rattle.ir_laws.specs.Moves.{Where, where_of}
use Rattle.ir_laws.specs.Sets.{ObjectSets}
use Rattle.code_model.specs.Sizes.{entry_size}
use Rattle.code_model.specs.Templates.{entry_items}
use Rattle.monitor_model.specs.declared.tables.InitRecord.{InitRecord}
use Rattle.monitor_model.specs.Block.{MonitorBlock}
use Rattle.monitor_model.specs.Setting.{Setting}
use Rattle.monitor_model.specs.Threads.{base, stack_end, first_block, Copied, Begins}
use Rattle.refine_model.specs.Refines.{step_limit, word_limit}
use Rattle.refine.specs.Areas.{Area, Has}
use Rattle.base_laws.specs.Lists.{Each}
use Rattle.refine.specs.Owned.{Owns, all_lent}
use Rattle.refine.proofs.Areas.{has_join}
use Rattle.refine.proofs.Thread.{at_pc, fits_pc, has_stays}
use Rattle.refine.specs.Builds.{Build, compartment_of, func, words_at, lends_at, places_at, labels_at, code_at}
use Rattle.refine.specs.Relation.{own, object_words, own_words, global_areas, Fits, AllAmple, Related}
use Rattle.refine.specs.Linked.{InFlash}
use Rattle.refine.specs.Cases.{FollowsBy, LiesFirst}
use Rattle.refine.proofs.Frames.{own_has}
use Rattle.refine.proofs.Blocks.{all_lent_is}
use Rattle.refine.proofs.Limits.{words_are}
use Rattle.refine.specs.Entries.{RunsShort, LacksRoom}
use Rattle.refine.specs.Called.{CalleeStands, IsCalled}
use Rattle.refine.proofs.Lends.{behind}
use Rattle.refine.proofs.Callees.{inside}
use Rattle.refine.specs.Begun.{Called}
use Rattle.code_effects.proofs.Registers.{holds_nothing}
use Rattle.code_model.specs.Places.{Lend}
use Rattle.refine.proofs.Premises.{Premises}
use Rattle.refine.proofs.Standing.{owned_entry, first_code}

module _ (k : Build) where
  -- an area that flash has the word of
  one_copied : (c : Area) (v : ℕ) (ns : List InitRecord) (ram : List ℕ) → Copied k.setting ram ns →
      AnyOf (λ (n : InitRecord). (n.at ≤ base k.setting + c.at) × (base k.setting + c.at + c.width ≤ n.end) × (read c.width (n.from - k.setting.image.flash_base + (base k.setting + c.at - n.at)) k.setting.image.flash ≡ cut c.width v)) ns →
      read c.width c.at ram ≡ cut c.width v
  one_copied c v [] ram h a = absurd a
  one_copied c v (n ∷ ns) ram h (inl p) = h.0 c.width c.at p.0 p.1 ∙ p.2
  one_copied c v (n ∷ ns) ram h (inr a) = one_copied c v ns ram h.1 a

  has_copied : (cs : List Area) (vs : List ℕ) (ram : List ℕ) → Copied k.setting ram k.setting.inits → length ram ≡ k.setting.image.ram_size → Each (λ (c : Area). c.at + c.width ≤ k.setting.image.ram_size) cs → InFlash k cs vs → Has ram cs vs
  has_copied [] [] ram h l i f = tt
  has_copied [] (v ∷ vs) ram h l i f = f
  has_copied (c ∷ cs) [] ram h l i f = f
  has_copied (c ∷ cs) (v ∷ vs) ram h l i f = (one_copied c v k.setting.inits ram h f.0, omega (arith, i.0), has_copied cs vs ram h l i.1 f.1)

-- how many steps a call takes does not change where its frame is written in another way
counted : (g : Setting) {Inv : MonitorBlock → Context → List ℕ → Type 0} (from : State) (v pc : ℕ) (ram : List ℕ) (queues : List (List ℕ)) (ds : List Lend) (x o : ℕ) (e : x ≡ o) (c : Called g Inv from (all_lent g x (first_block g) ds) x v pc (stack_end g) [] (g.stub + 1) ram queues) → c.goes.count ≤ 8520 →
    (subst (λ (y : ℕ). Called g Inv from (all_lent g y (first_block g) ds) y v pc (stack_end g) [] (g.stub + 1) ram queues) e c).goes.count ≤ 8520
counted g from v pc ram queues ds x o e c h = h

module _ (k : Build) (Inv : MonitorBlock → Context → List ℕ → Type 0) (sizes : PlainType → ℕ) (S : ObjectSets) (w : Premises k Inv sizes S) (places : ℕ → ℕ) where
  no_params : row_length (func k k.program.main).params ≡ 0
  no_params = let h = w.typed.takes_nothing in let e : (func k k.program.main).params ≡ none = cc in ap row_length e

  abbrev first_place : Where
  first_place = where_of (frame_of k.program k.program.main 0 [])

  -- a state that `main` begins in; or its frame lacks room
  pub begin_step : (queues : List (List ℕ)) (first : State) → IsReset k.setting.image queues first → LiesFirst k Inv places (first_place ∷ []) →
      FollowsBy (Related k places Inv) k.setting.image (step_limit + word_limit * k.setting.words) first (start k.program queues) []
      ⊎ RunsShort k.setting Inv (AllAmple k places (first_place ∷ []) → ⊥) (2 * step_limit + word_limit * k.setting.words) first
  unfolding start
  begin_step queues first reset lies =
      let gs : Setting = k.setting in
      let mn : ℕ = k.program.main in
      let v : ℕ = words_at k mn in
      let sh = w.facts.shapes mn in
      let b = w.law.begins queues first reset in
      let bw = b.within in
      let ev = sh.even in
      let sa = w.facts.rules.stack_aligned in
      let ea = w.facts.rules.eighth_aligned in
      let code = subst (λ (y : ℕ). Owns gs y (labels_at k mn) gs.main (entry_items (func k mn) (places_at k mn))) (sym w.linked.code.main_compartment)
      (subst (λ (y : ℕ). Owns gs (compartment_of k mn) (labels_at k mn) y (entry_items (func k mn) (places_at k mn))) (sym w.linked.code.main) (owned_entry k w.facts.rules w.laws w.linked.code mn w.typed.main)) in
      let stands : CalleeStands gs (func k mn) (places_at k mn) (labels_at k mn) gs.main_compartment v gs.main 0 = record { words = words_are k mn; some = omega (arith, ev); small = sh.few; even = ev; counts = sym no_params; few = omega arith; fewer = omega arith; code = code; lendable = sh.lendable } in
      ⊎_elim (λ c. inl (there b c)) (λ e. inr (behind gs Inv _ (AllAmple k places (first_place ∷ []) → ⊥) b.count 16384 (2 * step_limit + word_limit * gs.words) _ _ lacking (omega (arith, bw)) b.runs e))
      (inside gs Inv w.law w.facts.rules w.laws (func k mn) (places_at k mn) (labels_at k mn) v (first_block gs) 0 (works b.context b.low (base gs + stack_end gs) (gs.stub + 1) gs.main b.flags b.memory queues) b.context (stack_end gs) (gs.stub + 1) gs.main [] b.memory queues (omega arith) b.invariant b.fits
      (record { low = b.low; flags = b.flags; holds = holds_nothing b.low b.fits.core.low_count; runs = stay by_mpu gs.image }) (omega (arith, sa)) (omega arith) (omega arith) stands (omega arith))
    where
      lacking : LacksRoom k.setting (words_at k k.program.main) (stack_end k.setting) (length (first_block k.setting).loans + length (lends_at k k.program.main)) → AllAmple k places (first_place ∷ []) → ⊥
      lacking (inl y) a = let z = a.0.ends in let r = a.0.room in omega (arith, z, r, y)
      lacking (inr y) a =
          let l = a.0.loans in
          let q = (all_lent_is k.setting (places 0) (first_block k.setting) (lends_at k k.program.main)).loans in
          omega (arith, l, q, y)

      there : (b : Begins k.setting Inv queues first) →
          IsCalled k.setting Inv (func k k.program.main) (places_at k k.program.main) (works b.context b.low (base k.setting + stack_end k.setting) (k.setting.stub + 1) k.setting.main b.flags b.memory queues) (first_block k.setting) (stack_end k.setting) (words_at k k.program.main) k.setting.main [] (k.setting.stub + 1) b.memory queues →
          FollowsBy (Related k places Inv) k.setting.image (step_limit + word_limit * k.setting.words) first (Running (frame_of k.program k.program.main 0 [] ∷ []) (record { globals = map (λ (g : NumberedGlobal). g.init) k.program.globals; queues = queues; made = 1 })) []
      there b c =
          let gs : Setting = k.setting in
          let mn : ℕ = k.program.main in
          let o : ℕ = places 0 in
          let v : ℕ = words_at k mn in
          let sh = w.facts.shapes mn in
          let is : places 0 ≡ c.frame = lies c.frame c.frame_ends c.on_stack in
          let fe = c.frame_ends in
          let fo = c.on_stack in
          let ev = sh.even in
          let sa = w.facts.rules.stack_aligned in
          let al1 = all_lent_is gs o (first_block gs) (lends_at k mn) in
          let ll = al1.loans in
          let fw = c.few in
          let short = c.short in
          let fit : Fits k places (where_of (frame_of k.program mn 0 [])) [] = record { ends = omega arith; room = omega arith; lent = λ l. let z = c.lent l in omega arith; aligned = omega arith; some = omega arith; loans = omega arith; current = al1.current ∙ w.linked.code.main_compartment } in
          let nf : Frame = frame_of k.program mn 0 [] in
          let gl : List (List Value) = map (λ (g : NumberedGlobal). g.init) k.program.globals in
          let from : State = works b.context b.low (base gs + stack_end gs) (gs.stub + 1) gs.main b.flags b.memory queues in
          let moved : Called gs Inv from (all_lent gs o (first_block gs) (lends_at k mn)) o v (gs.main + entry_size (func k mn) (length (lends_at k mn))) (stack_end gs) [] (gs.stub + 1) b.memory queues =
          subst (λ (y : ℕ). Called gs Inv from (all_lent gs y (first_block gs) (lends_at k mn)) y v (gs.main + entry_size (func k mn) (length (lends_at k mn))) (stack_end gs) [] (gs.stub + 1) b.memory queues) (sym is) c.called in
          let brief : moved.goes.count ≤ 8520 = counted gs from v (gs.main + entry_size (func k mn) (length (lends_at k mn))) b.memory queues (lends_at k mn) c.frame o (sym is) c.called short in
          let e = moved.goes in
          let bd : gs.main + entry_size (func k mn) (length (lends_at k mn)) ≡ code_at k mn 0 0 = ap (λ (y : ℕ). y + entry_size (func k mn) (length (lends_at k mn))) w.linked.code.main ∙ sym (first_code k w.facts.rules w.laws w.linked.code mn) in
          let len = w.law.keeps.as_long _ _ _ b.invariant in
          let old = has_copied k (global_areas k) (object_words k places gl) b.memory b.copied len w.linked.globals.inside (w.linked.globals.initial places) in
          let old2 = has_stays gs (stack_end gs) b.memory e.memory (global_areas k) (object_words k places gl) e.stays w.facts.globals_off old in
          let len2 = w.law.keeps.as_long _ _ _ e.invariant in
          let rf = w.facts.rules.fits in
          let ow = own_has k places mn o 0 [] (gs.stub + 1) e.memory sh refl (omega arith) (λ i u. absurd (omega arith)) moved.filled.cleared moved.filled.return_address (omega arith) in
          record {
            steps = b.count + e.count;
            least = let y = moved.least in omega arith;
            within = let y = b.within in omega (arith, y, brief);
            to = works e.context e.low (base gs + o) e.lr (code_at k mn 0 0) e.flags e.memory queues;
            runs = onward by_mpu gs.image b.runs (at_pc gs e.count _ e.context e.low (base gs + o) e.lr _ (code_at k mn 0 0) e.flags e.memory queues [] bd e.runs);
            related = record {
              context = e.context;
              low = e.low;
              lr = e.lr;
              flags = e.flags;
              ram = e.memory;
              statuses = [];
              is_state = refl;
              state_fits = fits_pc gs e.context e.low (base gs + o) e.lr _ (code_at k mn 0 0) e.flags e.memory queues bd e.fits;
              invariant = e.invariant;
              has = has_join (own k mn o) (global_areas k) (own_words k places nf (gs.stub + 1)) (object_words k places gl) e.memory ow old2;
              threads = (tt, tt);
              fits = (fit, tt);
            };
          }
