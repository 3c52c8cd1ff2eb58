-- Calls, direct and through a register.
use Rattle.std.proofs.Common.{◌≡◌, ℕ, zero, suc, ◌+◌, ◌-◌, ◌*◌, ◌/◌, ◌%◌, ◌^◌, ◌<◌, ◌≤◌, false, Option, Some, None, is_some, List, [], ◌∷◌, ◌++◌, length, map, get_or, refl, sym, ap, ◌∙◌, subst, arith, inl, inr, ⊎_elim}
use Rattle.std.proofs.Math.Nat.{div-mul-le_self}
use Rattle.std.proofs.lemmas.List.{length-map}
use Rattle.base_laws.specs.Lists.{EachBelow}
use Rattle.base_words.specs.Bytes.{read, cut}
use Rattle.base_words.proofs.Bytes.{read_fits}
use Rattle.machine_model.specs.State.{State}
use Rattle.machine_model.specs.RunningCode.{Context, works}
use Rattle.ir_model.specs.Types.{PlainType, PlainTypes}
use Rattle.ir_model.specs.Resolved.{NumberedFunc, Call, Here, Does, here}
use Rattle.ir_model.specs.Signatures.{in_row, row_length}
use Rattle.ir_model.specs.State.{Frame, Memory, Running, frame_of}
use Rattle.ir_model.specs.Step.{register}
use Rattle.ir_laws.specs.Moves.{where_of, wheres}
use Rattle.ir_laws.specs.Sets.{ObjectSets, CallsAt}
use Rattle.ir_laws.specs.Typed.{Has, CallTyped}
use Rattle.ir_laws.specs.States.{FrameFits}
use Rattle.code_model.specs.Places.{entry_address}
use Rattle.code_model.specs.Sizes.{entry_size, call_size}
use Rattle.code_model.specs.Templates.{inst_items, entry_items}
use Rattle.monitor_model.specs.Block.{MonitorBlock, entered}
use Rattle.monitor_model.specs.Setting.{Setting}
use Rattle.monitor_model.specs.Threads.{base}
use Rattle.refine.specs.Areas.{Has as MemoryHas}
use Rattle.refine.specs.Owned.{Owns, all_lent}
use Rattle.refine.proofs.Areas.{has_join}
use Rattle.refine.proofs.Thread.{at_pc, fits_pc, started, has_stays}
use Rattle.refine.specs.Begun.{Filled}
use Rattle.refine.specs.Begun.{Called, Crossed}
use Rattle.refine.proofs.ThreadCalls.{frame_words}
use Rattle.refine.specs.Builds.{Build, compartment_of, func, words_at, lends_at, places_at, labels_at, entry_at, code_at, behind_at, site_at}
use Rattle.refine.specs.Relation.{own, words_of, own_words, link_by, waiting_by, waiting_words, statuses_behind, first_or_zero, IsStatusBy, Wait, areas, held, ceiling_by, beneath, block_of, Fits as HasPlace, IsAmple}
use Rattle.refine.specs.Cases.{Follows, IsBeyond}
use Rattle.refine.specs.Serving.{Serves}
use Rattle.refine.proofs.Frames.{crossing_room, safe, own_has}
use Rattle.refine.proofs.Blocks.{all_lent_is, top_least, read_cut, below_more}
use Rattle.refine.proofs.Limits.{words_are, times_eight}
use Rattle.refine.specs.Entries.{EndsShort, RunsShort, LacksRoom}
use Rattle.refine.specs.Called.{CalleeStands, IsCalled, IsCrossed}
use Rattle.refine.proofs.Callees.{calls}
use Rattle.refine.proofs.Premises.{Premises}
use Rattle.refine.proofs.Standing.{owned_entry, entry_is, entry_low, first_code, behind_is, place_low}
use Rattle.refine.proofs.Steps.{Here as HereStands, state_of, place_of_frame}
use Rattle.refine.proofs.Registers.{register_word, owned_by}

-- a function's registers begin with its parameters
pub params_there : (g : NumberedFunc) → ((k : ℕ) → k < row_length g.params → Has g k (in_row g.params k)) → row_length g.params ≤ length g.regs
params_there g each = by (row_length g.params) refl
  where
    by : (n : ℕ) → row_length g.params ≡ n → row_length g.params ≤ length g.regs
    by zero e = omega arith
    by (suc n) e = let h = (each n (omega arith)).there in omega arith

pub all_below : (g : NumberedFunc) (ts : PlainTypes) (args : List ℕ) (k : ℕ) → ((j : ℕ) → j < length args → Has g (get_or args j 0) (in_row ts (k + j))) → EachBelow (length g.regs) args
all_below g ts [] k each = tt
all_below g ts (a ∷ more) k each = ((each 0 (omega arith)).there, all_below g ts more (suc k) (λ j l. let z : k + suc j ≡ suc k + j = omega arith in subst (λ (n : ℕ). Has g (get_or more j 0) (in_row ts n)) z (each (suc j) (omega arith))))

module _ (k : Build) (Inv : MonitorBlock → Context → List ℕ → Type 0) (sizes : PlainType → ℕ) (S : ObjectSets) (w : Premises k Inv sizes S) (places : ℕ → ℕ) where
  abbrev pub gs : Setting
  gs = k.setting

  module _ (fr : Frame) (rest : List Frame) (m : Memory) (t : State) (st : HereStands k Inv sizes S w places fr rest m t) (ff : FrameFits k.program sizes S fr) where
    -- arguments, as words of the caller's frame
    arguments_are : (args : List ℕ) → EachBelow (length (func k fr.func).regs) args → (i : ℕ) → i < length args → get_or (frame_words (places fr.number) st.ram args) i 0 ≡ get_or (words_of k places (map (register fr) args)) i 0
    arguments_are [] b i l = absurd (omega arith)
    arguments_are (a ∷ more) b zero l = register_word k Inv sizes S w places fr rest m t st ff a b.0
    arguments_are (a ∷ more) b (suc i) l = arguments_are more b.1 i (omega arith)

    abbrev pub callee_frame : (h : ℕ) (args : List ℕ) → Frame
    callee_frame h args = frame_of k.program h m.made (map (register fr) args)

    -- the new frame's own words
    new_own : (h o l : ℕ) (args new : List ℕ) → EachBelow (length (func k fr.func).regs) args → length args ≤ length (func k h).regs → Filled o (words_at k h) l (frame_words (places fr.number) st.ram args) new → o + 4 * words_at k h + 4 ≤ length new →
        MemoryHas new (own k h o) (own_words k places (callee_frame h args) l)
    new_own h o l args new b few fl fits =
        let n = length-map args (λ (a : ℕ). read 4 (places fr.number + 4 * a) st.ram) in
        own_has k places h o (length args) (map (register fr) args) l new (w.facts.shapes h) (length-map args (register fr)) few
        (λ i u. fl.given i (omega arith) ∙ ap (λ (v : ℕ). cut 4 v) (arguments_are args b i u)) (λ i u v. fl.cleared i (omega arith) v) fl.return_address fits

    -- within the compartment
    pub called_step : (h : ℕ) (args : List ℕ) (link pc : ℕ) → site_at k fr.func fr.block fr.place ≡ None → link ≡ behind_at k fr.func fr.block fr.place + 1 → pc ≡ code_at k h 0 0 → EachBelow (length (func k fr.func).regs) args → length args ≤ length (func k h).regs →
        HasPlace k places (where_of (callee_frame h args)) (wheres (fr ∷ rest)) →
        Called gs Inv (state_of k Inv sizes S w places fr rest m t st) (all_lent gs (places m.made) (block_of k places (wheres (fr ∷ rest))) (lends_at k h)) (places m.made) (words_at k h) pc (places fr.number) (frame_words (places fr.number) st.ram args) link st.ram m.queues →
        Follows k Inv places t (Running (callee_frame h args ∷ fr ∷ rest) (record m { made = suc m.made })) []
    called_step h args link pc site eb ep b few fit c =
        let oc : ℕ = places fr.number in
        let o : ℕ = places m.made in
        let bl : MonitorBlock = block_of k places (wheres (fr ∷ rest)) in
        let nf : Frame = callee_frame h args in
        let e = c.goes in
        let ends : o + 4 * words_at k h + 4 ≡ oc = subst (λ (x : Option ℕ). o + 4 * words_at k h + 4 ≡ ceiling_by k places x (wheres (fr ∷ rest))) site fit.ends in
        let sf = safe k places w.facts (wheres (fr ∷ rest)) st.fits in
        let ins = sf.inside in
        let old = has_stays gs oc st.ram e.memory (areas k places (wheres (fr ∷ rest))) (held k places st.statuses (fr ∷ rest) m.globals) e.stays sf.each st.has in
        let len = w.law.keeps.as_long _ _ _ e.invariant in
        let rf = w.facts.rules.fits in
        let ow = new_own h o link args e.memory b few c.filled (omega arith) in
        let ow2 = subst (λ (l : ℕ). MemoryHas e.memory (own k h o) (own_words k places nf l)) eb ow in
        let has0 = has_join (own k h o) (areas k places (wheres (fr ∷ rest))) (own_words k places nf (behind_at k fr.func fr.block fr.place + 1)) (held k places st.statuses (fr ∷ rest) m.globals) e.memory ow2 old in
        record {
          steps = e.count;
          least = c.least;
          within = e.within;
          to = works e.context e.low (base gs + o) e.lr (code_at k h 0 0) e.flags e.memory m.queues;
          runs = started gs e.count t _ _ [] st.is_state (at_pc gs e.count _ e.context e.low (base gs + o) e.lr pc (code_at k h 0 0) e.flags e.memory m.queues [] ep e.runs);
          related = record {
            context = e.context;
            low = e.low;
            lr = e.lr;
            flags = e.flags;
            ram = e.memory;
            statuses = st.statuses;
            is_state = refl;
            state_fits = fits_pc gs e.context e.low (base gs + o) e.lr pc (code_at k h 0 0) e.flags e.memory m.queues ep e.fits;
            invariant = subst (λ (x : Option ℕ). Inv (all_lent gs o (beneath k places x h (wheres (fr ∷ rest)) bl) (lends_at k h)) e.context e.memory) (sym site) e.invariant;
            has = subst (λ (x : Option ℕ). MemoryHas e.memory (own k h o ++ (waiting_by k places x (wheres (fr ∷ rest)) ++ areas k places (wheres (fr ∷ rest))))
                (own_words k places nf (link_by k places x (wheres (fr ∷ rest))) ++ (waiting_words k places x (first_or_zero st.statuses) (wheres (fr ∷ rest)) ++ held k places (statuses_behind x st.statuses) (fr ∷ rest) m.globals))) (sym site) has0;
            threads = subst (λ (x : Option ℕ). IsStatusBy x (first_or_zero st.statuses) × Wait k (statuses_behind x st.statuses) (wheres (fr ∷ rest))) (sym site) (tt, st.threads);
            fits = (fit, st.fits);
          };
        }

    small_read : (a v : ℕ) (ram : List ℕ) → read 4 a ram ≡ v → v < 2 ^ 32
    small_read a v ram e = let f = read_fits 4 a ram in omega arith

    -- and across
    pub crossed_step : (h : ℕ) (args : List ℕ) (number ret pc top : ℕ) → site_at k fr.func fr.block fr.place ≡ Some number → ret ≡ behind_at k fr.func fr.block fr.place → pc ≡ code_at k h 0 0 → EachBelow (length (func k fr.func).regs) args → length args ≤ length (func k h).regs →
        top ≡ gs.stack + (places fr.number - 32 - gs.stack) / gs.eighth * gs.eighth → HasPlace k places (where_of (callee_frame h args)) (wheres (fr ∷ rest)) →
        Crossed gs Inv (state_of k Inv sizes S w places fr rest m t st) (all_lent gs (places m.made) (entered (block_of k places (wheres (fr ∷ rest))) (compartment_of k h) (base gs + top) (base gs + places fr.number - 32)) (lends_at k h)) (places m.made) (words_at k h) pc (places fr.number)
        (frame_words (places fr.number) st.ram args) ret st.ram m.queues →
        Follows k Inv places t (Running (callee_frame h args ∷ fr ∷ rest) (record m { made = suc m.made })) []
    crossed_step h args number ret pc top site eb ep b few tops fit c =
        let oc : ℕ = places fr.number in
        let o : ℕ = places m.made in
        let bl : MonitorBlock = block_of k places (wheres (fr ∷ rest)) in
        let nf : Frame = callee_frame h args in
        let d = c.called in
        let e = d.goes in
        let rm = crossing_room k places w.facts oc (subst (λ (x : Option ℕ). gs.stack < ceiling_by k places x (wheres (fr ∷ rest))) site fit.some) in
        let dm = div-mul-le_self (oc - 32 - gs.stack) gs.eighth in
        let ends : o + 4 * words_at k h + 4 ≡ gs.stack + (oc - 32 - gs.stack) / gs.eighth * gs.eighth = subst (λ (x : Option ℕ). o + 4 * words_at k h + 4 ≡ ceiling_by k places x (wheres (fr ∷ rest))) site fit.ends in
        let sf = safe k places w.facts (wheres (fr ∷ rest)) st.fits in
        let ins = sf.inside in
        let old = has_stays gs oc st.ram e.memory (areas k places (wheres (fr ∷ rest))) (held k places st.statuses (fr ∷ rest) m.globals) e.stays sf.each st.has in
        let len = w.law.keeps.as_long _ _ _ e.invariant in
        let rf = w.facts.rules.fits in
        let ow = new_own h o (gs.stub + 1) args e.memory b few d.filled (omega arith) in
        let wt : MemoryHas e.memory (record { at = oc - 8; width = 4 } ∷ record { at = oc - 4; width = 4 } ∷ []) (behind_at k fr.func fr.block fr.place ∷ c.status ∷ []) =
        (read_cut (oc - 8) (behind_at k fr.func fr.block fr.place) e.memory (c.saved_return ∙ eb), omega arith, (read_cut (oc - 4) c.status e.memory c.saved_status, omega arith, tt)) in
        let has0 = has_join (own k h o) _ (own_words k places nf (gs.stub + 1)) _ e.memory ow
        (has_join (record { at = oc - 8; width = 4 } ∷ record { at = oc - 4; width = 4 } ∷ []) (areas k places (wheres (fr ∷ rest))) (behind_at k fr.func fr.block fr.place ∷ c.status ∷ []) (held k places st.statuses (fr ∷ rest) m.globals) e.memory wt old) in
        let inv = subst (λ (y : ℕ). Inv (all_lent gs o (entered bl (compartment_of k h) (base gs + y) (base gs + oc - 32)) (lends_at k h)) e.context e.memory) tops e.invariant in
        record {
          steps = e.count;
          least = d.least;
          within = e.within;
          to = works e.context e.low (base gs + o) e.lr (code_at k h 0 0) e.flags e.memory m.queues;
          runs = started gs e.count t _ _ [] st.is_state (at_pc gs e.count _ e.context e.low (base gs + o) e.lr pc (code_at k h 0 0) e.flags e.memory m.queues [] ep e.runs);
          related = record {
            context = e.context;
            low = e.low;
            lr = e.lr;
            flags = e.flags;
            ram = e.memory;
            statuses = c.status ∷ st.statuses;
            is_state = refl;
            state_fits = fits_pc gs e.context e.low (base gs + o) e.lr pc (code_at k h 0 0) e.flags e.memory m.queues ep e.fits;
            invariant = subst (λ (x : Option ℕ). Inv (all_lent gs o (beneath k places x h (wheres (fr ∷ rest)) bl) (lends_at k h)) e.context e.memory) (sym site) inv;
            has = subst (λ (x : Option ℕ). MemoryHas e.memory (own k h o ++ (waiting_by k places x (wheres (fr ∷ rest)) ++ areas k places (wheres (fr ∷ rest))))
                (own_words k places nf (link_by k places x (wheres (fr ∷ rest))) ++ (waiting_words k places x c.status (wheres (fr ∷ rest)) ++ held k places (statuses_behind x (c.status ∷ st.statuses)) (fr ∷ rest) m.globals))) (sym site) has0;
            threads = subst (λ (x : Option ℕ). IsStatusBy x c.status × Wait k (statuses_behind x (c.status ∷ st.statuses)) (wheres (fr ∷ rest))) (sym site) ((c.thread, c.no_pad, small_read (oc - 4) c.status e.memory c.saved_status), st.threads);
            fits = (fit, st.fits);
          };
        }

    -- ---- what is asked of the callee

    pub callee_stands : (h entry : ℕ) (compartment : ℕ) (args : List ℕ) → h < length k.program.funcs → entry_at k h ≡ entry → compartment ≡ compartment_of k h → length args ≡ row_length (func k h).params → length args ≤ 4 →
        CalleeStands gs (func k h) (places_at k h) (labels_at k h) compartment (words_at k h) entry (length (frame_words (places fr.number) st.ram args))
    callee_stands h entry compartment args there ee ec counts few =
        let n = length-map args (λ (a : ℕ). read 4 (places fr.number + 4 * a) st.ram) in
        let sh = w.facts.shapes h in
        let rg = sh.registers in
        let ev = sh.even in
        let pt = params_there (func k h) (w.typed.funcs h).params in
        record {
          words = words_are k h;
          some = omega (arith, ev);
          small = sh.few;
          even = sh.even;
          counts = n ∙ counts;
          few = omega arith;
          fewer = omega arith;
          code = subst (λ (e : ℕ). Owns gs compartment (labels_at k h) e (entry_items (func k h) (places_at k h))) ee
              (subst (λ (c : ℕ). Owns gs c (labels_at k h) (entry_at k h) (entry_items (func k h) (places_at k h))) (sym ec) (owned_entry k w.facts.rules w.laws w.linked.code h there));
          lendable = sh.lendable;
        }

    -- where the frame of a callee has to lie, if it fits
    abbrev pub LiesBelow : (h : ℕ) → Type 0
    LiesBelow h = (o : ℕ) → o + 4 * words_at k h + 4 ≡ ceiling_by k places (site_at k fr.func fr.block fr.place) (wheres (fr ∷ rest)) → gs.stack ≤ o → places m.made ≡ o

    abbrev below_by : Option ℕ → (h : ℕ) → MonitorBlock
    below_by x h = beneath k places x h (wheres (fr ∷ rest)) (block_of k places (wheres (fr ∷ rest)))

    below_loans : (x : Option ℕ) (h : ℕ) → length (below_by x h).loans ≡ length (block_of k places (wheres (fr ∷ rest))).loans
    below_loans None h = refl
    below_loans (Some s) h = refl

    pub new_place : (h : ℕ) (args : List ℕ) (x : Option ℕ) (o : ℕ) → site_at k fr.func fr.block fr.place ≡ x → places m.made ≡ o → o + 4 * words_at k h + 4 ≡ ceiling_by k places x (wheres (fr ∷ rest)) → gs.stack ≤ o → o % 8 ≡ 0 →
        (1 ≤ length (lends_at k h) → gs.stack + 32 ≤ o) → length (block_of k places (wheres (fr ∷ rest))).loans + length (lends_at k h) ≤ 32 → (below_by x h).current ≡ compartment_of k h →
        HasPlace k places (where_of (callee_frame h args)) (wheres (fr ∷ rest))
    new_place h args x o site is ends on al lent few current =
        let a = all_lent_is gs (places m.made) (below_by x h) (lends_at k h) in
        let al1 = a.loans in
        let bl1 = below_loans x h in
        let fl : length (all_lent gs (places m.made) (below_by x h) (lends_at k h)).loans ≤ 32 = omega arith in
        let fc : (all_lent gs (places m.made) (below_by x h) (lends_at k h)).current ≡ compartment_of k h = a.current ∙ current in
        let so : gs.stack < ceiling_by k places x (wheres (fr ∷ rest)) = omega arith in
        let en : places m.made + 4 * words_at k h + 4 ≡ ceiling_by k places x (wheres (fr ∷ rest)) = omega arith in
        record {
          ends = subst (λ (y : Option ℕ). places m.made + 4 * words_at k h + 4 ≡ ceiling_by k places y (wheres (fr ∷ rest))) (sym site) en;
          room = omega arith;
          lent = λ l. let z = lent l in omega arith;
          aligned = ap (λ (y : ℕ). y % 8) is ∙ al;
          some = subst (λ (y : Option ℕ). gs.stack < ceiling_by k places y (wheres (fr ∷ rest))) (sym site) so;
          loans = subst (λ (y : Option ℕ). length (all_lent gs (places m.made) (below_by y h) (lends_at k h)).loans ≤ 32) (sym site) fl;
          current = subst (λ (y : Option ℕ). (all_lent gs (places m.made) (below_by y h) (lends_at k h)).current ≡ compartment_of k h) (sym site) fc;
        }

    abbrev pub here_pc : ℕ
    here_pc = code_at k fr.func fr.block fr.place

    -- where a call's callee begins
    pub begins_at : (h entry : ℕ) → entry_at k h ≡ entry → entry + entry_size (func k h) (length (lends_at k h)) ≡ code_at k h 0 0
    begins_at h entry e = ap (λ (y : ℕ). y + entry_size (func k h) (length (lends_at k h))) (sym e) ∙ sym (first_code k w.facts.rules w.laws w.linked.code h)

    -- ---- the four kinds

    -- the callee within the compartment, whose frame is found where it has to lie
    pub called_there : (h : ℕ) (args : List ℕ) (entry link : ℕ) → site_at k fr.func fr.block fr.place ≡ None → LiesBelow h → link ≡ behind_at k fr.func fr.block fr.place + 1 → entry_at k h ≡ entry → EachBelow (length (func k fr.func).regs) args → length args ≤ length (func k h).regs →
        (block_of k places (wheres (fr ∷ rest))).current ≡ compartment_of k h →
        IsCalled gs Inv (func k h) (places_at k h) (state_of k Inv sizes S w places fr rest m t st) (block_of k places (wheres (fr ∷ rest))) (places fr.number) (words_at k h) entry (frame_words (places fr.number) st.ram args) link st.ram m.queues →
        Follows k Inv places t (Running (callee_frame h args ∷ fr ∷ rest) (record m { made = suc m.made })) []
    called_there h args entry link site lies eb ee b few current c =
        let ends : c.frame + 4 * words_at k h + 4 ≡ ceiling_by k places (site_at k fr.func fr.block fr.place) (wheres (fr ∷ rest)) = subst (λ (y : Option ℕ). c.frame + 4 * words_at k h + 4 ≡ ceiling_by k places y (wheres (fr ∷ rest))) (sym site) c.frame_ends in
        let is : places m.made ≡ c.frame = lies c.frame ends c.on_stack in
        let ac = st.fits.0.aligned in
        let ev = (w.facts.shapes h).even in
        let fe = c.frame_ends in
        let fit = new_place h args None c.frame site is c.frame_ends c.on_stack (omega arith) c.lent c.few current in
        let moved = subst (λ (o : ℕ). Called gs Inv (state_of k Inv sizes S w places fr rest m t st) (all_lent gs o (block_of k places (wheres (fr ∷ rest))) (lends_at k h)) o (words_at k h) (entry + entry_size (func k h) (length (lends_at k h))) (places fr.number) (frame_words (places fr.number) st.ram args) link st.ram m.queues) (sym is) c.called in
        called_step h args link (entry + entry_size (func k h) (length (lends_at k h))) site eb (begins_at h entry ee) b few fit moved

    -- and across
    pub crossed_there : (h number : ℕ) (args : List ℕ) (entry ret : ℕ) → site_at k fr.func fr.block fr.place ≡ Some number → LiesBelow h → ret ≡ behind_at k fr.func fr.block fr.place → entry_at k h ≡ entry → EachBelow (length (func k fr.func).regs) args → length args ≤ length (func k h).regs →
        IsCrossed gs Inv (func k h) (places_at k h) (state_of k Inv sizes S w places fr rest m t st) (block_of k places (wheres (fr ∷ rest))) (places fr.number) (words_at k h) entry (compartment_of k h) (frame_words (places fr.number) st.ram args) ret st.ram m.queues →
        Follows k Inv places t (Running (callee_frame h args ∷ fr ∷ rest) (record m { made = suc m.made })) []
    crossed_there h number args entry ret site lies eb ee b few c =
        let there : c.frame + 4 * words_at k h + 4 ≡ gs.stack + (places fr.number - 32 - gs.stack) / gs.eighth * gs.eighth = c.frame_ends ∙ c.top_is in
        let ends : c.frame + 4 * words_at k h + 4 ≡ ceiling_by k places (site_at k fr.func fr.block fr.place) (wheres (fr ∷ rest)) = subst (λ (y : Option ℕ). c.frame + 4 * words_at k h + 4 ≡ ceiling_by k places y (wheres (fr ∷ rest))) (sym site) there in
        let is : places m.made ≡ c.frame = lies c.frame ends c.on_stack in
        let ev = (w.facts.shapes h).even in
        let sa = w.facts.rules.stack_aligned in
        let te = times_eight ((places fr.number - 32 - gs.stack) / gs.eighth) gs.eighth w.facts.rules.eighth_aligned in
        let fit = new_place h args (Some number) c.frame site is there c.on_stack (omega arith) c.lent c.few refl in
        let moved = subst (λ (o : ℕ). Crossed gs Inv (state_of k Inv sizes S w places fr rest m t st) (all_lent gs o (entered (block_of k places (wheres (fr ∷ rest))) (compartment_of k h) (base gs + c.top) (base gs + places fr.number - 32)) (lends_at k h)) o (words_at k h) (entry + entry_size (func k h) (length (lends_at k h))) (places fr.number) (frame_words (places fr.number) st.ram args) ret st.ram m.queues) (sym is) c.crossed in
        crossed_step h args number ret (entry + entry_size (func k h) (length (lends_at k h))) c.top site eb (begins_at h entry ee) b few c.top_is fit moved

    -- a callee that lacks room leads beyond the stack limit
    pub short_here : (h : ℕ) (args : List ℕ) (x : Option ℕ) → site_at k fr.func fr.block fr.place ≡ x →
        RunsShort gs Inv (LacksRoom gs (words_at k h) (ceiling_by k places x (wheres (fr ∷ rest))) (length (block_of k places (wheres (fr ∷ rest))).loans + length (lends_at k h))) 16384 (state_of k Inv sizes S w places fr rest m t st) →
        RunsShort gs Inv (IsBeyond k Inv places (wheres (fr ∷ rest)) (wheres (callee_frame h args ∷ fr ∷ rest))) 16384 t
    short_here h args x site e = record {
      reason = λ now next. lacking next.0 e.reason;
      ends = λ stack. subst (λ (y : State). EndsShort gs 16384 y) (sym st.is_state) (e.ends stack);
    }
      where
        lacking : IsAmple k places (where_of (callee_frame h args)) (wheres (fr ∷ rest)) → LacksRoom gs (words_at k h) (ceiling_by k places x (wheres (fr ∷ rest))) (length (block_of k places (wheres (fr ∷ rest))).loans + length (lends_at k h)) → ⊥
        lacking a (inl y) =
            let z = subst (λ (y : Option ℕ). places m.made + 4 * words_at k h + 4 ≡ ceiling_by k places y (wheres (fr ∷ rest))) site a.ends in
            let r = a.room in
            omega (arith, z, r, y)
        lacking a (inr y) =
            let l = a.loans in
            let q = (all_lent_is gs (places m.made) (below_by (site_at k fr.func fr.block fr.place) h) (lends_at k h)).loans in
            let b = below_loans (site_at k fr.func fr.block fr.place) h in
            omega (arith, l, q, b, y)

    pub call_inside : (to : Option ℕ) (h : ℕ) (args : List ℕ) → here k.program fr.func fr.block fr.place ≡ Does (Call to h args) → h < length k.program.funcs → CallTyped (func k fr.func) to args (func k h).params (func k h).outcome → site_at k fr.func fr.block fr.place ≡ None →
        LiesBelow h → Serves k Inv places (wheres (fr ∷ rest)) t (Running (callee_frame h args ∷ fr ∷ rest) (record m { made = suc m.made })) []
    call_inside to h args e there ty site lies =
        let f : ℕ = fr.func in
        let oc : ℕ = places fr.number in
        let bl : MonitorBlock = block_of k places (wheres (fr ∷ rest)) in
        let f0 = st.fits.0 in
        let tl = top_least k places (where_of fr) (wheres rest) st.fits in
        let en = f0.ends in
        let rm = f0.room in
        let rg = (w.facts.shapes f).registers in
        let b = all_below (func k f) (func k h).params args 0 (λ j l. let z : j ≡ 0 + j = omega arith in subst (λ (n : ℕ). Has (func k f) (get_or args j 0) (in_row (func k h).params n)) z (ty.arguments j l)) in
        let pt = params_there (func k h) (w.typed.funcs h).params in
        let cn = ty.count in
        let few : length args ≤ length (func k h).regs = omega arith in
        let ei = entry_is k w.facts.rules w.laws w.linked.code f h there in
        let el = entry_low k w.facts.rules w.laws w.linked.code h there st.context.protection in
        let near = place_low k w.facts.rules w.laws w.linked.code f fr.block fr.place (place_of_frame k Inv sizes S w places fr ff) st.context.protection in
        let same = w.inside k.program S k.needs.closed k.needs k.groups f fr.block fr.place h w.needs (subst (λ (y : Here). CallsAt k.program S f y h) (sym e) refl) site in
        let cur : bl.current ≡ compartment_of k h = f0.current ∙ sym same in
        let stands = callee_stands h (entry_address (places_at k f) h) bl.current args there (sym ei) cur cn ty.few in
        let own = subst (λ (x : Option ℕ). Owns gs bl.current (labels_at k f) here_pc (inst_items (func k f) (places_at k f) here_pc x (Call to h args))) site (owned_by k Inv sizes S w places fr rest f0 (Call to h args) ff e) in
        let bh = behind_is k w.facts.rules w.laws w.linked.code f fr.block fr.place (Does (Call to h args)) ff.func e in
        let rs : call_size (is_some (site_at k f fr.block fr.place)) args ≡ call_size false args = ap (λ (x : Option ℕ). call_size (is_some x) args) site in
        ⊎_elim
        (λ c. inl (called_there h args (entry_address (places_at k f) h) (here_pc + call_size false args + 1) site lies (omega arith) (sym ei) b few cur c))
        (λ c. inr (short_here h args None site c))
        (calls gs Inv w.law w.facts.rules w.laws (func k f) (places_at k f) (labels_at k f) (func k h) (places_at k h) (labels_at k h) bl st.context st.low oc (words_at k f) (words_at k h) st.lr here_pc st.flags to h args st.ram m.queues
        st.invariant st.state_fits f0.aligned rm (omega arith) (omega arith) (below_more k places w.facts _ _ args rg b) near (omega arith) own stands f0.loans)
