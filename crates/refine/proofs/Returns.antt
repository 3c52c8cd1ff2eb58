-- Returns: within a compartment, across, and from `main`.
use Rattle.std.proofs.Common.{◌≡◌, ℕ, zero, suc, ◌+◌, ◌-◌, ◌*◌, ◌/◌, ◌%◌, ◌^◌, ◌<◌, ◌≤◌, Option, Some, None, is_some, List, [], ◌∷◌, ◌++◌, length, get_or, refl, sym, ap, ◌∙◌, subst, arith, inl, inr, ⊎_elim}
use Rattle.std.proofs.Math.Nat.{div-mul-le_self}
use Rattle.std.proofs.lemmas.Bool.{cases_lt}
use Rattle.std.proofs.lemmas.List.{length-map}
use Rattle.base_words.specs.Bytes.{read, cut}
use Rattle.base_words.specs.declared.conditions.Flags.{Flags}
use Rattle.base_words.proofs.Bytes.{cut_small}
use Rattle.machine_model.specs.State.{State, by_mpu}
use Rattle.machine_model.specs.Code.{Runs}
use Rattle.machine_model.specs.Shape.{StateFits}
use Rattle.machine_model.specs.RunningCode.{Context, works}
use Rattle.machine_model.proofs.Exec.{onward}
use Rattle.ir_model.specs.Types.{PlainType}
use Rattle.ir_model.specs.Resolved.{Value, Call, ICall, Ret, Here, Does, Ends, here}
use Rattle.ir_model.specs.State.{Frame, Memory, Running, Ended, Returned}
use Rattle.ir_model.specs.Step.{register, answered, returned_value, result_register, leave, onward as placed}
use Rattle.ir_laws.specs.Moves.{where_of, wheres}
use Rattle.ir_laws.specs.Sets.{ObjectSets}
use Rattle.ir_laws.specs.Typed.{EndTyped}
use Rattle.ir_laws.specs.States.{FrameFits, FramesFit, Agrees}
use Rattle.code_model.specs.Sizes.{call_size, icall_size, inst_size}
use Rattle.code_model.specs.Templates.{term_items}
use Rattle.monitor_model.specs.Block.{MonitorBlock, entered}
use Rattle.monitor_model.specs.Setting.{Setting}
use Rattle.monitor_model.specs.Threads.{base, stack_end, first_block}
use Rattle.code_effects.specs.Points.{Point, Leads, known}
use Rattle.code_effects.specs.Calls.{IsBelow, keep_steps, kept_in}
use Rattle.code_effects.proofs.Registers.{holds_known}
use Rattle.refine.specs.Areas.{Area, Has as MemoryHas}
use Rattle.refine.specs.Owned.{Owns, all_lent}
use Rattle.refine.proofs.Areas.{has_front, has_rest}
use Rattle.refine.proofs.Thread.{one_part, to_sp, fits_sp, started, has_stays, fits_after}
use Rattle.refine.proofs.ThreadReturns.{result_below_more, IsResult, returns, leaves}
use Rattle.refine.specs.Builds.{Build, compartment_of, func, words_at, starts_at, lends_at, places_at, labels_at, first_at, code_at, behind_at, site_at}
use Rattle.refine.specs.Relation.{own, homes, objects_at, object_words, word_of, words_of, own_words, link_by, waiting_by, waiting_words, statuses_behind, first_or_zero, others, IsStatusBy, Wait, areas, held, ceiling_by, beneath, block_of, AllFit, IsWhole}
use Rattle.refine.specs.Cases.{Follows}
use Rattle.refine.specs.Serving.{Serves, CaseServes}
use Rattle.refine.specs.Called.{part_end}
use Rattle.refine.proofs.Frames.{crossing_room, safe, lower_safe, own_length, length_homes, length_objects}
use Rattle.refine.proofs.Blocks.{all_lent_is, top_least, marks}
use Rattle.refine.proofs.Limits.{words_are}
use Rattle.refine.proofs.Premises.{Premises}
use Rattle.refine.proofs.Standing.{IsPlace, next_code, behind_is, place_low, code_even}
use Rattle.refine.proofs.Steps.{frame_room, keeps_on, goes_on, Here as HereStands, whole}
use Rattle.refine.proofs.Registers.{register_word, inst_runs}
use Rattle.refine.proofs.Branches.{owned_end}

-- what r0 holds is known
first_is : (low : List ℕ) (j : ℕ) → j < 1 → get_or low j 0 ≡ get_or (get_or low 0 0 ∷ []) j 0
first_is low j h = let z : j ≡ 0 = omega arith in rw z refl

-- a call ends where its result is kept
call_ends : (x : Option ℕ) (to : Option ℕ) (h : ℕ) (args : List ℕ) → call_size (is_some x) args ≤ inst_size (is_some x) (Call to h args)
unfolding inst_size
call_ends x to h args = omega arith

icall_ends : (x : Option ℕ) (to : Option ℕ) (h : ℕ) (args : List ℕ) → icall_size (is_some x) args ≤ inst_size (is_some x) (ICall to h args)
unfolding inst_size
icall_ends x to h args = omega arith

even_call : (x : Option ℕ) (args : List ℕ) → call_size (is_some x) args % 2 ≡ 0
even_call None args = omega arith
even_call (Some n) args = omega arith

even_icall : (x : Option ℕ) (args : List ℕ) → icall_size (is_some x) args % 2 ≡ 0
even_icall None args = omega arith
even_icall (Some n) args = omega arith

whole_part : (n e s : ℕ) → s < s + n * e → 1 ≤ n
whole_part zero e s h = let z : 0 * e ≡ 0 = omega arith in absurd (omega (arith, h, z))
whole_part (suc n) e s h = omega arith

module _ (k : Build) (Inv : MonitorBlock → Context → List ℕ → Type 0) (sizes : PlainType → ℕ) (S : ObjectSets) (w : Premises k Inv sizes S) (places : ℕ → ℕ) where
  -- what r0 has to hold for a result that is kept
  abbrev Keeps : (c : Frame) → Option ℕ → (low : List ℕ) → Value → Type 0
  Keeps c None low v = Unit {0}
  Keeps c (Some q) low v = (q < length (func k c.func).regs) × (get_or low 0 0 ≡ word_of k places v)

  -- the code behind a call of c: the result is kept
  record Resumes (c : Frame) (to : Option ℕ) : Type 0 where
    next : code_at k c.func c.block (suc c.place) < 2 ^ 30
    before : behind_at k c.func c.block c.place ≤ code_at k c.func c.block (suc c.place)
    even : behind_at k c.func c.block c.place % 2 ≡ 0
    keeps : (x : Context) (v o sp lr : ℕ) (ram : List ℕ) (queues : List (List ℕ)) (rest : List Frame) → AllFit k places (wheres (c ∷ rest)) → Inv (block_of k places (wheres (c ∷ rest))) x ram → o ≡ places c.number → sp ≡ base k.setting + places c.number → IsBelow (length (func k c.func).regs) to →
        Leads by_mpu k.setting.image (keep_steps to) (record { context = x; registers = known (v ∷ []); sp = sp; lr = lr; pc = behind_at k c.func c.block c.place; ram = ram; queues = queues })
        (record { context = x; registers = []; sp = sp; lr = lr; pc = code_at k c.func c.block (suc c.place); ram = kept_in o to v ram; queues = queues }) []

  -- the places are written in other ways
  lead_at : (c : Frame) (y : Context) (v o sp lr : ℕ) (ram : List ℕ) (queues : List (List ℕ)) (to : Option ℕ) (a b : ℕ) → o ≡ places c.number → sp ≡ base k.setting + places c.number → a ≡ behind_at k c.func c.block c.place → b ≡ code_at k c.func c.block (suc c.place) →
      Leads by_mpu k.setting.image (keep_steps to) (record { context = y; registers = known (v ∷ []); sp = base k.setting + places c.number; lr = lr; pc = a; ram = ram; queues = queues })
      (record { context = y; registers = []; sp = base k.setting + places c.number; lr = lr; pc = b; ram = kept_in (places c.number) to v ram; queues = queues }) [] →
      Leads by_mpu k.setting.image (keep_steps to) (record { context = y; registers = known (v ∷ []); sp = sp; lr = lr; pc = behind_at k c.func c.block c.place; ram = ram; queues = queues })
      (record { context = y; registers = []; sp = sp; lr = lr; pc = code_at k c.func c.block (suc c.place); ram = kept_in o to v ram; queues = queues }) []
  lead_at c y v o sp lr ram queues to a b eo es ea eb l = rw (eo, es, sym ea, sym eb) l

  resumes_call : (c : Frame) (ff : FrameFits k.program sizes S c) (to : Option ℕ) (h : ℕ) (args : List ℕ) → IsPlace k w.facts.rules w.laws w.linked.code c.func c.block (suc c.place) → here k.program c.func c.block c.place ≡ Does (Call to h args) → (p : Context) → Resumes c to
  resumes_call c ff to h args i e p =
      let f : ℕ = c.func in
      let x : Option ℕ = site_at k f c.block c.place in
      let nx = next_code k w.facts.rules w.laws w.linked.code f c.block c.place (Call to h args) ff.func e in
      let bh = behind_is k w.facts.rules w.laws w.linked.code f c.block c.place (Does (Call to h args)) ff.func e in
      let le = call_ends x to h args in
      let ev = code_even k w.facts.rules w.laws w.linked.code f c.block c.place in
      let ec = even_call x args in
      record {
        next = place_low k w.facts.rules w.laws w.linked.code f c.block (suc c.place) i p.protection;
        before = omega arith;
        even = omega arith;
        keeps = λ y v o sp lr ram queues rest fit inv eo es below.
            let q : Point = record { context = y; registers = []; sp = base k.setting + places c.number; lr = lr; pc = code_at k f c.block c.place; ram = ram; queues = queues } in
            let rg = (w.facts.shapes f).registers in
            let l = (w.laws.returned by_mpu k.setting.image (func k f) (places_at k f) (labels_at k f) q (places c.number) (words_at k f)).call (code_at k f c.block c.place) x to h v args
            (frame_room k Inv sizes S w places c rest y ram fit inv) (result_below_more _ _ to rg below) (inst_runs k Inv sizes S w places c rest y ram fit inv (Call to h args) ff e) in
            lead_at c y v o sp lr ram queues to _ _ eo es (sym bh) (sym nx) l;
      }

  resumes_icall : (c : Frame) (ff : FrameFits k.program sizes S c) (to : Option ℕ) (h : ℕ) (args : List ℕ) → IsPlace k w.facts.rules w.laws w.linked.code c.func c.block (suc c.place) → here k.program c.func c.block c.place ≡ Does (ICall to h args) → (p : Context) → Resumes c to
  resumes_icall c ff to h args i e p =
      let f : ℕ = c.func in
      let x : Option ℕ = site_at k f c.block c.place in
      let nx = next_code k w.facts.rules w.laws w.linked.code f c.block c.place (ICall to h args) ff.func e in
      let bh = behind_is k w.facts.rules w.laws w.linked.code f c.block c.place (Does (ICall to h args)) ff.func e in
      let le = icall_ends x to h args in
      let ev = code_even k w.facts.rules w.laws w.linked.code f c.block c.place in
      let ec = even_icall x args in
      record {
        next = place_low k w.facts.rules w.laws w.linked.code f c.block (suc c.place) i p.protection;
        before = omega arith;
        even = omega arith;
        keeps = λ y v o sp lr ram queues rest fit inv eo es below.
            let q : Point = record { context = y; registers = []; sp = base k.setting + places c.number; lr = lr; pc = code_at k f c.block c.place; ram = ram; queues = queues } in
            let rg = (w.facts.shapes f).registers in
            let l = (w.laws.returned by_mpu k.setting.image (func k f) (places_at k f) (labels_at k f) q (places c.number) (words_at k f)).icall (code_at k f c.block c.place) x to h v args
            (frame_room k Inv sizes S w places c rest y ram fit inv) (result_below_more _ _ to rg below) (inst_runs k Inv sizes S w places c rest y ram fit inv (ICall to h args) ff e) in
            lead_at c y v o sp lr ram queues to _ _ eo es (sym bh) (sym nx) l;
      }

  -- the caller goes on
  resume : (c : Frame) (rest : List Frame) (m : Memory) (to : Option ℕ) (v : Value) (t : State) (n : ℕ) (x : Context) (low : List ℕ) (lr : ℕ) (f : Flags) (ram : List ℕ) (ss : List ℕ) → 1 ≤ n → n ≤ 16383 →
      Runs by_mpu k.setting.image n t (works x low (base k.setting + places c.number) lr (behind_at k c.func c.block c.place) f ram m.queues) [] →
      StateFits k.setting.image (works x low (base k.setting + places c.number) lr (behind_at k c.func c.block c.place) f ram m.queues) → Inv (block_of k places (wheres (c ∷ rest))) x ram →
      MemoryHas ram (areas k places (wheres (c ∷ rest))) (held k places ss (c ∷ rest) m.globals) → Keeps c to low v → Wait k ss (wheres (c ∷ rest)) → AllFit k places (wheres (c ∷ rest)) → IsWhole k c → Resumes c to →
      Follows k Inv places t (Running (placed (answered c to v) ∷ rest) m) []
  resume c rest m None v t n x low lr f ram ss l u runs ft i has ks wt fit wh rs =
      let a = (rs.keeps x (get_or low 0 0) (places c.number) (base k.setting + places c.number) lr ram m.queues rest fit i refl refl tt).arrives low f (holds_known (get_or low 0 0 ∷ []) low ft.core.low_count (first_is low)) in
      let r = onward by_mpu k.setting.image runs a.runs in
      goes_on k Inv sizes S w places c rest m (placed c ∷ rest) ss t c.block (suc c.place) (n + 0) x a.low lr _ a.flags ram [] (omega arith) (omega arith) r (fits_after k.setting Inv w.law w.facts.rules w.laws _ _ _ [] ft a.runs) refl i has wt fit refl
  resume c rest m (Some q) v t n x low lr f ram ss l u runs ft i has ks wt fit wh rs =
      let a = (rs.keeps x (get_or low 0 0) (places c.number) (base k.setting + places c.number) lr ram m.queues rest fit i refl refl ks.0).arrives low f (holds_known (get_or low 0 0 ∷ []) low ft.core.low_count (first_is low)) in
      let r = onward by_mpu k.setting.image runs a.runs in
      keeps_on k Inv sizes S w places c rest m ss t q (get_or low 0 0) (n + 1) v x a.low lr _ a.flags ram [] (omega arith) (omega arith) r (fits_after k.setting Inv w.law w.facts.rules w.laws _ _ _ [] ft a.runs) refl i has wt fit wh ks.0 (ap (λ (y : ℕ). cut 4 y) ks.1)

  -- ---- what lies behind a frame's own words

  record Behind (fr : Frame) (l : ℕ) (xs : List Area) (ys ram : List ℕ) : Type 0 where
    link : read 4 (places fr.number + 4 * words_at k fr.func) ram ≡ cut 4 l
    rest_has : MemoryHas ram xs ys

  behind_own : (fr : Frame) (l : ℕ) (xs : List Area) (ys ram : List ℕ) → IsWhole k fr → MemoryHas ram (own k fr.func (places fr.number) ++ xs) (own_words k places fr l ++ ys) → Behind fr l xs ys ram
  behind_own fr l xs ys ram wh has =
      let o : ℕ = places fr.number in
      let sh = w.facts.shapes fr.func in
      let n : ℕ = length (func k fr.func).regs in
      let starts : List ℕ = starts_at k fr.func in
      let ol = own_length k places fr o l sh wh in
      let z : List Area = record { at = o + 4 * words_at k fr.func; width = 4 } ∷ [] in
      let f = has_front (own k fr.func o) xs (own_words k places fr l) ys ram ol has in
      let f1 = has_rest (homes o n) (objects_at o starts (func k fr.func).locals ++ z) (words_of k places fr.regs) (object_words k places fr.locals ++ l ∷ []) ram (length_homes n o ∙ sym wh.regs ∙ sym (length-map fr.regs (word_of k places))) f in
      let f2 = has_rest (objects_at o starts (func k fr.func).locals) z (object_words k places fr.locals) (l ∷ []) ram (length_objects k places o starts (func k fr.func).locals fr.locals sh.starts wh.locals) f1 in
      record { link = f2.0; rest_has = has_rest (own k fr.func o) xs (own_words k places fr l) ys ram ol has }

  kept_result : (fr c : Frame) (r to : Option ℕ) (ram low : List ℕ) → ((a : ℕ) → a < length (func k fr.func).regs → read 4 (places fr.number + 4 * a) ram ≡ word_of k places (register fr a)) → length c.regs ≡ length (func k c.func).regs →
      IsBelow (length (func k fr.func).regs) r → Agrees c r to → IsResult r (places fr.number) ram low → Keeps c to low (returned_value fr r)
  kept_result fr c r None ram low e n b a h = tt
  kept_result fr c None (Some q) ram low e n b a h = absurd a
  kept_result fr c (Some y) (Some q) ram low e n b a h = (omega arith, h ∙ e y b)

  -- the frame below waits at a call
  waits_at : (c : Frame) (ff : FrameFits k.program sizes S c) (g : ℕ) → IsPlace k w.facts.rules w.laws w.linked.code c.func c.block (suc c.place) → (p : Context) (h : Here) → here k.program c.func c.block c.place ≡ h → Rattle.ir_laws.specs.Sets.CallsAt k.program S c.func h g → Resumes c (result_register h)
  waits_at c ff g i p (Does (Call to h args)) e a = resumes_call c ff to h args i e p
  waits_at c ff g i p (Does (ICall to h args)) e a = resumes_icall c ff to h args i e p
  waits_at c ff g i p (Ends t) e a = absurd a
  waits_at c ff g i p (Does _) e a = absurd a

  module _ (fr : Frame) (m : Memory) (t : State) (r : Option ℕ) (ff : FrameFits k.program sizes S fr) (below : IsBelow (length (func k fr.func).regs) r) (e : here k.program fr.func fr.block fr.place ≡ Ends (Ret r)) where
    below_frame : IsBelow (words_at k fr.func) r
    below_frame = result_below_more _ _ r (w.facts.shapes fr.func).registers below

    -- within a compartment
    return_inside : (c : Frame) (rest : List Frame) (to : Option ℕ) (st : HereStands k Inv sizes S w places fr (c ∷ rest) m t) → FrameFits k.program sizes S c → site_at k c.func c.block c.place ≡ None → Agrees c r to → Resumes c to →
        Follows k Inv places t (Running (placed (answered c to (returned_value fr r)) ∷ rest) m) []
    return_inside c rest to st fc site agrees rs =
        let gs : Setting = k.setting in
        let o : ℕ = places fr.number in
        let oc : ℕ = places c.number in
        let v : ℕ = words_at k fr.func in
        let bl : MonitorBlock = block_of k places (wheres (c ∷ rest)) in
        let f0 = st.fits.0 in
        let f1 = st.fits.1.0 in
        let sh = w.facts.shapes fr.func in
        let wh = whole k Inv sizes S w places fr ff in
        let ends : o + 4 * v + 4 ≡ oc = subst (λ (x : Option ℕ). o + 4 * v + 4 ≡ ceiling_by k places x (wheres (c ∷ rest))) site f0.ends in
        let cu : (all_lent gs o bl (lends_at k fr.func)).current ≡ compartment_of k fr.func = subst (λ (x : Option ℕ). (all_lent gs o (beneath k places x fr.func (wheres (c ∷ rest)) bl) (lends_at k fr.func)).current ≡ compartment_of k fr.func) site f0.current in
        let cb : (block_of k places (wheres (fr ∷ c ∷ rest))).current ≡ bl.current = f0.current ∙ sym cu ∙ (all_lent_is gs o bl (lends_at k fr.func)).current in
        let code = subst (λ (z : ℕ). Owns gs z (labels_at k fr.func) (code_at k fr.func fr.block fr.place) (term_items (func k fr.func) (places_at k fr.func) (first_at k fr.func) (Ret r))) cb (owned_end k Inv sizes S w places fr (c ∷ rest) f0 (Ret r) ff e) in
        let inv = subst (λ (x : Option ℕ). Inv (all_lent gs o (beneath k places x fr.func (wheres (c ∷ rest)) bl) (lends_at k fr.func)) st.context st.ram) site st.invariant in
        let has = subst (λ (x : Option ℕ). MemoryHas st.ram (own k fr.func o ++ (waiting_by k places x (wheres (c ∷ rest)) ++ areas k places (wheres (c ∷ rest)))) (own_words k places fr (link_by k places x (wheres (c ∷ rest))) ++ (waiting_words k places x (first_or_zero st.statuses) (wheres (c ∷ rest)) ++ held k places (statuses_behind x st.statuses) (c ∷ rest) m.globals))) site st.has in
        let wt = subst (λ (x : Option ℕ). IsStatusBy x (first_or_zero st.statuses) × Wait k (statuses_behind x st.statuses) (wheres (c ∷ rest))) site st.threads in
        let bh = behind_own fr (link_by k places None (wheres (c ∷ rest))) _ _ st.ram wh has in
        let tl = top_least k places (where_of c) (wheres rest) st.fits.1 in
        let ec = f1.ends in
        let rn = rs.next in
        let rb = rs.before in
        let ohi : base gs + o ≤ bl.top = omega arith in
        let back : read 4 (o + 4 * v) st.ram ≡ behind_at k c.func c.block c.place + 1 = bh.link ∙ cut_small 4 (behind_at k c.func c.block c.place + 1) (omega arith) in
        let l = returns gs Inv w.law w.facts.rules w.laws (func k fr.func) (places_at k fr.func) (labels_at k fr.func) (first_at k fr.func) v (words_are k fr.func) bl st.context st.low o st.lr (code_at k fr.func fr.block fr.place) (behind_at k c.func c.block c.place) st.flags r st.ram m.queues
        inv f0.aligned f0.room ohi f0.lent st.state_fits (omega arith) (marks k places (wheres (c ∷ rest))) below_frame code back rs.even in
        let lg = l.goes in
        let sf = safe k places w.facts (wheres (c ∷ rest)) st.fits.1 in
        let h1 = has_stays gs o st.ram lg.memory (areas k places (wheres (c ∷ rest))) (held k places st.statuses (c ∷ rest) m.globals) lg.stays (lower_safe k places w.facts o oc (areas k places (wheres (c ∷ rest))) (omega arith) sf.each) bh.rest_has in
        let z : base gs + o + 4 * v + 4 ≡ base gs + oc = omega arith in
        let few = st.fits.0.loans in
        let fl : length (all_lent gs o bl (lends_at k fr.func)).loans ≤ 32 = subst (λ (x : Option ℕ). length (all_lent gs o (beneath k places x fr.func (wheres (c ∷ rest)) bl) (lends_at k fr.func)).loans ≤ 32) site few in
        let ll = (all_lent_is gs o bl (lends_at k fr.func)).loans in
        resume c rest m to (returned_value fr r) t lg.count lg.context lg.low lg.lr lg.flags lg.memory st.statuses l.least (let y = lg.within in omega arith)
        (started gs lg.count t _ _ [] st.is_state (to_sp gs lg.count _ lg.context lg.low _ _ lg.lr (behind_at k c.func c.block c.place) lg.flags lg.memory m.queues [] z lg.runs))
        (fits_sp gs lg.context lg.low _ _ lg.lr (behind_at k c.func c.block c.place) lg.flags lg.memory m.queues z lg.fits) lg.invariant h1
        (kept_result fr c r to st.ram lg.low (λ a u. register_word k Inv sizes S w places fr (c ∷ rest) m t st ff a u) fc.registers below agrees l.result) wt.1 st.fits.1 (whole k Inv sizes S w places c fc) rs

    -- across
    return_across : (c : Frame) (rest : List Frame) (to : Option ℕ) (number : ℕ) (st : HereStands k Inv sizes S w places fr (c ∷ rest) m t) → FrameFits k.program sizes S c → site_at k c.func c.block c.place ≡ Some number → Agrees c r to → Resumes c to →
        k.setting.stack + 32 ≤ part_end k.setting (places c.number) → Follows k Inv places t (Running (placed (answered c to (returned_value fr r)) ∷ rest) m) []
    return_across c rest to number st fc site agrees rs deep =
        let gs : Setting = k.setting in
        let o : ℕ = places fr.number in
        let oc : ℕ = places c.number in
        let v : ℕ = words_at k fr.func in
        let bl : MonitorBlock = block_of k places (wheres (c ∷ rest)) in
        let top : ℕ = gs.stack + (oc - 32 - gs.stack) / gs.eighth * gs.eighth in
        let dm = div-mul-le_self (oc - 32 - gs.stack) gs.eighth in
        let f0 = st.fits.0 in
        let f1 = st.fits.1.0 in
        let rm0 = f1.room in
        let rm = crossing_room k places w.facts oc (subst (λ (x : Option ℕ). gs.stack < ceiling_by k places x (wheres (c ∷ rest))) site f0.some) in
        let sh = w.facts.shapes fr.func in
        let wh = whole k Inv sizes S w places fr ff in
        let m1 : MonitorBlock = entered bl (compartment_of k fr.func) (base gs + top) (base gs + oc - 32) in
        let ends : o + 4 * v + 4 ≡ top = subst (λ (x : Option ℕ). o + 4 * v + 4 ≡ ceiling_by k places x (wheres (c ∷ rest))) site f0.ends in
        let code = subst (λ (z : ℕ). Owns gs z (labels_at k fr.func) (code_at k fr.func fr.block fr.place) (term_items (func k fr.func) (places_at k fr.func) (first_at k fr.func) (Ret r))) f0.current (owned_end k Inv sizes S w places fr (c ∷ rest) f0 (Ret r) ff e) in
        let inv = subst (λ (x : Option ℕ). Inv (all_lent gs o (beneath k places x fr.func (wheres (c ∷ rest)) bl) (lends_at k fr.func)) st.context st.ram) site st.invariant in
        let has = subst (λ (x : Option ℕ). MemoryHas st.ram (own k fr.func o ++ (waiting_by k places x (wheres (c ∷ rest)) ++ areas k places (wheres (c ∷ rest)))) (own_words k places fr (link_by k places x (wheres (c ∷ rest))) ++ (waiting_words k places x (first_or_zero st.statuses) (wheres (c ∷ rest)) ++ held k places (statuses_behind x st.statuses) (c ∷ rest) m.globals))) site st.has in
        let wt = subst (λ (x : Option ℕ). IsStatusBy x (first_or_zero st.statuses) × Wait k (statuses_behind x st.statuses) (wheres (c ∷ rest))) site st.threads in
        let bh = behind_own fr (link_by k places (Some number) (wheres (c ∷ rest))) _ _ st.ram wh has in
        let rh = bh.rest_has in
        let status : ℕ = first_or_zero st.statuses in
        let sf = safe k places w.facts (wheres (c ∷ rest)) st.fits.1 in
        let ins = sf.inside in
        let rn = rs.next in
        let rb = rs.before in
        let fl : length (all_lent gs o m1 (lends_at k fr.func)).loans ≤ 32 = subst (λ (x : Option ℕ). length (all_lent gs o (beneath k places x fr.func (wheres (c ∷ rest)) bl) (lends_at k fr.func)).loans ≤ 32) site f0.loans in
        let ll = (all_lent_is gs o m1 (lends_at k fr.func)).loans in
        let l = leaves gs Inv w.law w.facts.rules w.laws (func k fr.func) (places_at k fr.func) (labels_at k fr.func) (first_at k fr.func) v (words_are k fr.func) bl st.context st.low (compartment_of k fr.func) top oc o st.lr (code_at k fr.func fr.block fr.place) (behind_at k c.func c.block c.place) status st.flags r st.ram m.queues
        inv st.state_fits f0.aligned f0.room f0.lent deep ends (let ev = sh.even in let a8 = f0.aligned in omega arith) (omega arith) (omega arith) (omega arith) (omega arith) below_frame code (bh.link ∙ cut_small 4 (gs.stub + 1) w.facts.stub_low) w.facts.stub_even
        (rh.0 ∙ cut_small 4 (behind_at k c.func c.block c.place) (omega arith)) (rh.2.0 ∙ cut_small 4 status wt.0.2) rs.even wt.0.0 wt.0.1 in
        let lg = l.goes in
        let h1 = has_stays gs oc st.ram lg.memory (areas k places (wheres (c ∷ rest))) (held k places (others st.statuses) (c ∷ rest) m.globals) lg.stays sf.each rh.2.2 in
        resume c rest m to (returned_value fr r) t lg.count lg.context lg.low lg.lr lg.flags lg.memory (others st.statuses) l.least (let y = lg.within in omega arith)
        (started gs lg.count t _ _ [] st.is_state lg.runs) lg.fits lg.invariant h1
        (kept_result fr c r to st.ram lg.low (λ a u. register_word k Inv sizes S w places fr (c ∷ rest) m t st ff a u) fc.registers below agrees l.result) wt.1 st.fits.1 (whole k Inv sizes S w places c fc) rs

    -- an eighth has room for an exception's frame where the law of the stack holds, and where the callee has room
    across_or_short : (c : Frame) (rest : List Frame) (to : Option ℕ) (number : ℕ) (st : HereStands k Inv sizes S w places fr (c ∷ rest) m t) → FrameFits k.program sizes S c → site_at k c.func c.block c.place ≡ Some number → Agrees c r to → Resumes c to →
        Serves k Inv places (wheres (fr ∷ c ∷ rest)) t (Running (placed (answered c to (returned_value fr r)) ∷ rest) m) []
    across_or_short c rest to number st fc site agrees rs =
        ⊎_elim shallow (λ deep. inl (return_across c rest to number st fc site agrees rs deep)) (cases_lt (part_end k.setting (places c.number)) (k.setting.stack + 32))
      where
        gs : Setting
        gs = k.setting

        parts : ℕ
        parts = (places c.number - 32 - gs.stack) / gs.eighth

        ends : places fr.number + 4 * words_at k fr.func + 4 ≡ part_end gs (places c.number)
        ends = subst (λ (x : Option ℕ). places fr.number + 4 * words_at k fr.func + 4 ≡ ceiling_by k places x (wheres (c ∷ rest))) site st.fits.0.ends

        some : gs.stack < part_end gs (places c.number)
        some = subst (λ (x : Option ℕ). gs.stack < ceiling_by k places x (wheres (c ∷ rest))) site st.fits.0.some

        not_shallow : part_end gs (places c.number) < gs.stack + 32 → 32 ≤ gs.eighth → ⊥
        not_shallow less deep = let whole = one_part parts gs.eighth (whole_part parts gs.eighth gs.stack some) in omega (arith, less, deep, whole)

        shallow : part_end gs (places c.number) < gs.stack + 32 → Serves k Inv places (wheres (fr ∷ c ∷ rest)) t (Running (placed (answered c to (returned_value fr r)) ∷ rest) m) []
        shallow less = inr (record {
          reason = λ now next. let room = now.0.room in omega (arith, less, room, ends);
          ends = λ stack. absurd (not_shallow less stack.deep);
        })

    -- the end of `main`
    end_step : (st : HereStands k Inv sizes S w places fr [] m t) → Follows k Inv places t (Ended Returned) []
    end_step st =
        let gs : Setting = k.setting in
        let o : ℕ = places fr.number in
        let v : ℕ = words_at k fr.func in
        let f0 = st.fits.0 in
        let en = f0.ends in
        let sh = w.facts.shapes fr.func in
        let wh = whole k Inv sizes S w places fr ff in
        let bh = behind_own fr (gs.stub + 1) _ _ st.ram wh st.has in
        let al = (all_lent_is gs o (first_block gs) (lends_at k fr.func)).current in
        let code = subst (λ (z : ℕ). Owns gs z (labels_at k fr.func) (code_at k fr.func fr.block fr.place) (term_items (func k fr.func) (places_at k fr.func) (first_at k fr.func) (Ret r))) al (owned_end k Inv sizes S w places fr [] f0 (Ret r) ff e) in
        let l = returns gs Inv w.law w.facts.rules w.laws (func k fr.func) (places_at k fr.func) (labels_at k fr.func) (first_at k fr.func) v (words_are k fr.func) (first_block gs) st.context st.low o st.lr (code_at k fr.func fr.block fr.place) gs.stub st.flags r st.ram m.queues
        st.invariant f0.aligned f0.room (omega arith) f0.lent st.state_fits (omega arith) (omega arith) below_frame code (bh.link ∙ cut_small 4 (gs.stub + 1) w.facts.stub_low) w.facts.stub_even in
        let lg = l.goes in
        let z : base gs + o + 4 * v + 4 ≡ base gs + stack_end gs = omega arith in
        let x = w.law.calls.ends lg.context lg.low lg.lr lg.flags lg.memory m.queues lg.invariant (fits_sp gs lg.context lg.low _ _ lg.lr gs.stub lg.flags lg.memory m.queues z lg.fits) in
        let ll = (all_lent_is gs o (first_block gs) (lends_at k fr.func)).loans in
        let fl = f0.loans in
        record {
          steps = lg.count + x.0;
          least = let y = l.least in omega arith;
          within = let y = lg.within in let u = x.2 in omega arith;
          to = x.3;
          runs = onward by_mpu gs.image (started gs lg.count t _ _ [] st.is_state (to_sp gs lg.count _ lg.context lg.low _ _ lg.lr gs.stub lg.flags lg.memory m.queues [] z lg.runs)) x.5;
          related = x.4;
        }

  -- ---- the case

  result_below : (fr : Frame) (r : Option ℕ) → EndTyped k.program sizes (func k fr.func) (Ret r) → IsBelow (length (func k fr.func).regs) r
  result_below fr None ty = tt
  result_below fr (Some r) ty = ty.2.there

  pub return_case : (fr : Frame) (rest : List Frame) (m : Memory) (t : State) → HereStands k Inv sizes S w places fr rest m t → FramesFit k.program sizes S (fr ∷ rest) → (r : Option ℕ) → EndTyped k.program sizes (func k fr.func) (Ret r) → here k.program fr.func fr.block fr.place ≡ Ends (Ret r) →
      CaseServes k Inv places fr rest m t (Ends (Ret r))
  unfolding leave
  return_case fr [] m t st fs r ty e nf lies = inl (end_step fr m t r fs.0 (result_below fr r ty) e st)
  return_case fr (c ∷ rest) m t st fs r ty e nf lies = by (site_at k c.func c.block c.place) refl
    where
      there : IsPlace k w.facts.rules w.laws w.linked.code c.func c.block (suc c.place)
      there = record { func_there = fs.2.0.func; block_there = fs.2.0.block; place_there = let i = (w.returns k.program sizes w.typed).inside S fr c rest fs in omega arith }

      rs : Resumes c (result_register (here k.program c.func c.block c.place))
      rs = waits_at c fs.2.0 fr.func there st.context (here k.program c.func c.block c.place) refl fs.1.calls

      by : (x : Option ℕ) → site_at k c.func c.block c.place ≡ x → Serves k Inv places (wheres (fr ∷ c ∷ rest)) t (Running (placed (answered c (result_register (here k.program c.func c.block c.place)) (returned_value fr r)) ∷ rest) m) []
      by None s = inl (return_inside fr m t r fs.0 (result_below fr r ty) e c rest _ st fs.2.0 s ((w.returns k.program sizes w.typed).agrees S fr c rest r fs e) rs)
      by (Some n) s = across_or_short fr m t r fs.0 (result_below fr r ty) e c rest _ n st fs.2.0 s ((w.returns k.program sizes w.typed).agrees S fr c rest r fs e) rs
