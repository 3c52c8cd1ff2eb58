-- What every case ends with: the machine stands at the next place, and what it holds is what the source holds.
use Rattle.std.proofs.Common.{◌≡◌, ℕ, suc, ◌+◌, ◌*◌, ◌<◌, ◌≤◌, List, [], ◌∷◌, length, get_or, refl, sym, ap, ◌∙◌, subst, arith}
use Rattle.base_words.specs.Bytes.{write, cut}
use Rattle.base_words.proofs.Bytes.{write-cut}
use Rattle.base_words.specs.declared.conditions.Flags.{Flags}
use Rattle.base_events.specs.declared.event.Event.{Event}
use Rattle.machine_model.specs.State.{State, by_mpu}
use Rattle.machine_model.specs.Code.{Runs}
use Rattle.machine_model.specs.Shape.{StateFits}
use Rattle.machine_model.specs.Stack.{Room}
use Rattle.machine_model.specs.RunningCode.{Context, works}
use Rattle.ir_model.specs.Types.{PlainType}
use Rattle.ir_model.specs.Resolved.{Value, Number}
use Rattle.ir_model.specs.State.{Frame, Memory, Running}
use Rattle.ir_model.specs.Step.{with_register}
use Rattle.ir_laws.specs.Moves.{Where, where_of, wheres}
use Rattle.ir_laws.specs.Sets.{ObjectSets}
use Rattle.ir_laws.specs.States.{FrameFits}
use Rattle.monitor_model.specs.Block.{MonitorBlock}
use Rattle.monitor_model.specs.Threads.{base}
use Rattle.code_effects.specs.Points.{Point}
use Rattle.refine.specs.Areas.{Has}
use Rattle.refine.proofs.Areas.{stored_spot}
use Rattle.code_effects.proofs.Kept.{kept_write, kept_none}
use Rattle.refine.proofs.Thread.{at_pc, fits_pc, inv_kept, room}
use Rattle.refine.specs.Builds.{Build, func, words_at, code_at}
use Rattle.refine.specs.Relation.{word_of, areas, held, block_of, AllFit, Wait, IsWhole, Stands, Related}
use Rattle.refine.specs.Cases.{Follows}
use Rattle.refine.proofs.Frames.{all_laid, register_spot}
use Rattle.refine.proofs.Blocks.{top_least}
use Rattle.refine.proofs.Premises.{Premises}
use Rattle.refine.proofs.Standing.{IsPlace}

module _ (k : Build) (Inv : MonitorBlock → Context → List ℕ → Type 0) (sizes : PlainType → ℕ) (S : ObjectSets) (w : Premises k Inv sizes S) (places : ℕ → ℕ) where
  -- frames by where they stand
  pub related_by : (fs : List Frame) (v : Where) (vs : List Where) (m : Memory) (t : State) → wheres fs ≡ v ∷ vs → Stands k places Inv v vs fs m t → Related k places Inv (Running fs m) t
  related_by [] v vs m t e s = cc
  related_by (fr ∷ rest) v vs m t e s =
      let a : v ≡ where_of fr = cc in
      let b : vs ≡ wheres rest = cc in
      subst (λ (x : Where). Stands k places Inv x (wheres rest) (fr ∷ rest) m t) a (subst (λ (x : List Where). Stands k places Inv v x (fr ∷ rest) m t) b s)

  pub refit : (v u : Where) (vs : List Where) → v.func ≡ u.func → v.number ≡ u.number → AllFit k places (v ∷ vs) → AllFit k places (u ∷ vs)
  refit v u vs e n f =
      let a = f.0 in
      subst (λ (y : ℕ). AllFit k places (record { func = y; block = u.block; place = u.place; number = u.number } ∷ vs)) e
      (subst (λ (y : ℕ). AllFit k places (record { func = v.func; block = u.block; place = u.place; number = y } ∷ vs)) n
      (record { ends = a.ends; room = a.room; lent = a.lent; aligned = a.aligned; some = a.some; loans = a.loans; current = a.current }, f.1))

  -- the frame goes on at a place of its function
  pub goes_on : (c : Frame) (rest : List Frame) (n : Memory) (fs : List Frame) (ss : List ℕ) (t : State) (b p count : ℕ) (x : Context) (low : List ℕ) (lr pc : ℕ) (f : Flags) (ram : List ℕ) (es : List Event) → 1 ≤ count → count ≤ 16384 →
      Runs by_mpu k.setting.image count t (works x low (base k.setting + places c.number) lr pc f ram n.queues) es → StateFits k.setting.image (works x low (base k.setting + places c.number) lr pc f ram n.queues) → pc ≡ code_at k c.func b p →
      Inv (block_of k places (wheres (c ∷ rest))) x ram → Has ram (areas k places (wheres (c ∷ rest))) (held k places ss fs n.globals) → Wait k ss (wheres (c ∷ rest)) → AllFit k places (wheres (c ∷ rest)) →
      wheres fs ≡ record { func = c.func; block = b; place = p; number = c.number } ∷ wheres rest → Follows k Inv places t (Running fs n) es
  goes_on c rest n fs ss t b p count x low lr pc f ram es l u runs ft e i has wt fit stand =
      let to : State = works x low (base k.setting + places c.number) lr (code_at k c.func b p) f ram n.queues in
      let v : Where = record { func = c.func; block = b; place = p; number = c.number } in
      record {
        steps = count;
        least = l;
        within = u;
        to = to;
        runs = at_pc k.setting count t x low (base k.setting + places c.number) lr pc (code_at k c.func b p) f ram n.queues es e runs;
        related = related_by fs v (wheres rest) n to stand (record {
          context = x;
          low = low;
          lr = lr;
          flags = f;
          ram = ram;
          statuses = ss;
          is_state = refl;
          state_fits = fits_pc k.setting x low (base k.setting + places c.number) lr pc (code_at k c.func b p) f ram n.queues e ft;
          invariant = i;
          has = has;
          threads = wt;
          fits = refit (where_of c) v (wheres rest) refl refl fit;
        });
      }

  -- ---- one frame's own words

  pub frame_room : (c : Frame) (rest : List Frame) (x : Context) (ram : List ℕ) → AllFit k places (wheres (c ∷ rest)) → Inv (block_of k places (wheres (c ∷ rest))) x ram → Room by_mpu k.setting.image x.protection (base k.setting + places c.number) (places c.number) (words_at k c.func)
  frame_room c rest x ram fit i =
      let f0 = fit.0 in
      let tl = top_least k places (where_of c) (wheres rest) fit in
      let en = f0.ends in
      let a = f0.aligned in
      let r = f0.room in
      room k.setting Inv w.law w.facts.rules w.laws _ x ram (places c.number) (words_at k c.func) i (omega arith) (omega arith) (omega arith)

  -- a register is set in the frame of c
  pub register_stored : (c : Frame) (rest : List Frame) (ss : List ℕ) (gl : List (List Value)) (ram : List ℕ) (r wv : ℕ) (v : Value) → AllFit k places (wheres (c ∷ rest)) → IsWhole k c → r < length (func k c.func).regs → cut 4 wv ≡ cut 4 (word_of k places v) →
      Has ram (areas k places (wheres (c ∷ rest))) (held k places ss (c ∷ rest) gl) → Has (write 4 (places c.number + 4 * r) wv ram) (areas k places (wheres (c ∷ rest))) (held k places ss (with_register c r v ∷ rest) gl)
  register_stored c rest ss gl ram r wv v fit wh lt same has =
      let o : ℕ = places c.number in
      let wr = wh.regs in
      let we : write 4 (o + 4 * r) (word_of k places v) ram ≡ write 4 (o + 4 * r) wv ram = sym (write-cut 4 (o + 4 * r) (word_of k places v) ram) ∙ ap (λ (y : ℕ). write 4 (o + 4 * r) y ram) (sym same) ∙ write-cut 4 (o + 4 * r) wv ram in
      let h1 = stored_spot (areas k places (wheres (c ∷ rest))) (held k places ss (c ∷ rest) gl) (held k places ss (with_register c r v ∷ rest) gl) (record { at = o + 4 * r; width = 4 }) (word_of k places (get_or c.regs r (Number 0))) (word_of k places v) ram
      (all_laid k places w.facts (wheres (c ∷ rest)) fit) has (register_spot k places c rest ss gl r v (w.facts.shapes c.func) wh (omega arith)) in
      subst (λ (y : List ℕ). Has y (areas k places (wheres (c ∷ rest))) (held k places ss (with_register c r v ∷ rest) gl)) we h1

  pub register_invariant : (c : Frame) (rest : List Frame) (x : Context) (ram : List ℕ) (r wv : ℕ) → AllFit k places (wheres (c ∷ rest)) → r < length (func k c.func).regs → Inv (block_of k places (wheres (c ∷ rest))) x ram →
      Inv (block_of k places (wheres (c ∷ rest))) x (write 4 (places c.number + 4 * r) wv ram)
  register_invariant c rest x ram r wv fit lt i =
      let o : ℕ = places c.number in
      let f0 = fit.0 in
      let tl = top_least k places (where_of c) (wheres rest) fit in
      let en = f0.ends in
      let rm = f0.room in
      let rg = (w.facts.shapes c.func).registers in
      let tp = w.law.keeps.top_inside _ _ _ i in
      inv_kept k.setting Inv w.law w.facts.rules w.laws _ x ram (write 4 (o + 4 * r) wv ram) o (o + 4 * words_at k c.func) i (kept_write o (o + 4 * words_at k c.func) ram ram 4 (o + 4 * r) wv (kept_none _ _ ram) (omega arith) (omega arith)) (omega arith) (omega arith)

  -- the word of r0 is kept in a register, as the last of a step
  pub keeps_on : (c : Frame) (rest : List Frame) (n : Memory) (ss : List ℕ) (t : State) (r wv count : ℕ) (v : Value) (x : Context) (low : List ℕ) (lr pc : ℕ) (f : Flags) (ram : List ℕ) (es : List Event) → 1 ≤ count → count ≤ 16384 →
      Runs by_mpu k.setting.image count t (works x low (base k.setting + places c.number) lr pc f (write 4 (places c.number + 4 * r) wv ram) n.queues) es →
      StateFits k.setting.image (works x low (base k.setting + places c.number) lr pc f (write 4 (places c.number + 4 * r) wv ram) n.queues) → pc ≡ code_at k c.func c.block (suc c.place) →
      Inv (block_of k places (wheres (c ∷ rest))) x ram → Has ram (areas k places (wheres (c ∷ rest))) (held k places ss (c ∷ rest) n.globals) → Wait k ss (wheres (c ∷ rest)) → AllFit k places (wheres (c ∷ rest)) → IsWhole k c → r < length (func k c.func).regs →
      cut 4 wv ≡ cut 4 (word_of k places v) → Follows k Inv places t (Running (Rattle.ir_model.specs.Step.onward (with_register c r v) ∷ rest) n) es
  keeps_on c rest n ss t r wv count v x low lr pc f ram es l u runs ft e i has wt fit wh lt same =
      goes_on c rest n (Rattle.ir_model.specs.Step.onward (with_register c r v) ∷ rest) ss t c.block (suc c.place) count x low lr pc f (write 4 (places c.number + 4 * r) wv ram) es l u runs ft e
      (register_invariant c rest x ram r wv fit lt i) (register_stored c rest ss n.globals ram r wv v fit wh lt same has) wt fit refl

  -- ---- the running frame

  abbrev pub Here : (fr : Frame) (rest : List Frame) (m : Memory) (t : State) → Type 0
  Here fr rest m t = Stands k places Inv (where_of fr) (wheres rest) (fr ∷ rest) m t

  -- the thread at its place
  abbrev pub point_of : (fr : Frame) (rest : List Frame) (m : Memory) (t : State) → Here fr rest m t → Point
  point_of fr rest m t st = record { context = st.context; registers = []; sp = base k.setting + places fr.number; lr = st.lr; pc = code_at k fr.func fr.block fr.place; ram = st.ram; queues = m.queues }

  abbrev pub state_of : (fr : Frame) (rest : List Frame) (m : Memory) (t : State) → Here fr rest m t → State
  state_of fr rest m t st = works st.context st.low (base k.setting + places fr.number) st.lr (code_at k fr.func fr.block fr.place) st.flags st.ram m.queues

  pub whole : (fr : Frame) → FrameFits k.program sizes S fr → IsWhole k fr
  whole fr ff = record { regs = ff.registers; locals = w.contents.locals k.program sizes S fr ff }

  pub place_of_frame : (fr : Frame) → FrameFits k.program sizes S fr → IsPlace k w.facts.rules w.laws w.linked.code fr.func fr.block fr.place
  place_of_frame fr ff = record { func_there = ff.func; block_there = ff.block; place_there = ff.place }
