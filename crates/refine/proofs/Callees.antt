-- Calls: the callee is entered, or lacks room.
use Rattle.std.proofs.Common.{◌≡◌, ℕ, ◌+◌, ◌-◌, ◌*◌, ◌/◌, ◌%◌, ◌^◌, ◌<◌, ◌≤◌, ◌⊎◌, true, false, List, [], length, get_or, set, Option, Some, None, refl, sym, ap, ◌∙◌, subst, arith, inl, inr, ⊎_elim}
use Rattle.std.proofs.Math.Nat.{div-mul-le_self}
use Rattle.std.proofs.lemmas.Bool.{cases_lt}
use Rattle.std.proofs.lemmas.List.{get_or-set_same, length-set, length-map}
use Rattle.base_laws.specs.Lists.{EachBelow}
use Rattle.base_words.specs.Bytes.{read, cut}
use Rattle.base_words.specs.declared.conditions.Flags.{Flags}
use Rattle.machine_thumb.specs.Table.{svc}
use Rattle.machine_model.specs.State.{State, by_mpu}
use Rattle.machine_model.specs.Code.{HoldsHalf, Stands, Runs}
use Rattle.machine_model.specs.Shape.{StateFits}
use Rattle.machine_model.specs.RunningCode.{Context, works}
use Rattle.machine_model.proofs.Exec.{onward}
use Rattle.ir_model.specs.Resolved.{NumberedFunc, Call, ICall}
use Rattle.code_model.specs.declared.places.Places.{Places}
use Rattle.code_model.specs.Sizes.{call_size, icall_size}
use Rattle.code_model.specs.Templates.{lends_of, inst_items}
use Rattle.code_model.specs.Places.{entry_address}
use Rattle.monitor_model.specs.Block.{MonitorBlock, entered}
use Rattle.monitor_model.specs.Setting.{Setting}
use Rattle.monitor_model.specs.Threads.{base, lend_steps, HasRoom, AtInstr, Enters}
use Rattle.monitor_model.specs.Law.{Law}
use Rattle.code_effects.specs.Points.{Point, known, with_r12, Arrives}
use Rattle.code_effects.proofs.Registers.{holds_nothing, known_holds}
use Rattle.refine.specs.CodeLaws.{CodeLaws}
use Rattle.refine.specs.Owned.{owner, Owns, MemoryRules}
use Rattle.refine.proofs.Thread.{one_part, call_owned, runs_here, room, fits_after, fits_sp, stays_at, stays_on}
use Rattle.refine.specs.Begun.{Filled}
use Rattle.refine.proofs.ThreadCalls.{frame_words, frame_words_fit}
use Rattle.refine.specs.Ends.{NoEighth}
use Rattle.refine.specs.Entries.{RunsShort, LacksRoom}
use Rattle.refine.specs.Entered.{IsEntered}
use Rattle.refine.specs.Called.{part_end, CalleeStands, IsCalled, IsCrossed}
use Rattle.refine.proofs.Stops.{entry_stops, call_stops}
use Rattle.refine.proofs.Limits.{times_eight}
use Rattle.refine.proofs.Lends.{later, sooner, behind, halted, entered as enters}

-- no whole part of a distance is left, or one is
no_part : (d e : ℕ) → (d / e ≡ 0) ⊎ (1 ≤ d / e)
no_part d e = ⊎_elim (λ h. inl (omega (arith, h))) (λ h. inr h) (cases_lt (d / e) 1)

module _ (g : Setting) (Inv : MonitorBlock → Context → List ℕ → Type 0) (law : Law g Inv) (rules : MemoryRules g) (laws : CodeLaws) where
  module _ (fn : NumberedFunc) (q : Places) (labels : List (Option ℕ)) (w : ℕ) where
    -- from the callee's first instruction, which `k` steps have led to
    record Begun (s : State) (k : ℕ) (m : MonitorBlock) (oc at : ℕ) (arguments : List ℕ) (lr : ℕ) (x : Context) (low : List ℕ) (f : Flags) (ram : List ℕ) (queues : List (List ℕ)) : Type 0 where
      frame : ℕ
      frame_ends : frame + 4 * w + 4 ≡ oc
      on_stack : g.stack ≤ frame
      is : IsEntered g Inv fn q (works x low (base g + oc) lr at f ram queues) m frame w at arguments lr ram queues

    begun : (s : State) (k : ℕ) (m : MonitorBlock) (oc at : ℕ) (arguments : List ℕ) (lr : ℕ) (x : Context) (low : List ℕ) (f : Flags) (ram : List ℕ) (queues : List (List ℕ)) → k ≤ 6000 → Inv m x ram →
        StateFits g.image (works x low (base g + oc) lr at f ram queues) → Runs by_mpu g.image k s (works x low (base g + oc) lr at f ram queues) [] →
        oc % 8 ≡ 0 → g.stack ≤ oc → base g + oc ≤ m.top → ((n : ℕ) → n < length arguments → get_or low n 0 ≡ get_or arguments n 0) →
        CalleeStands g fn q labels m.current w at (length arguments) → length m.loans ≤ 32 → Begun s k m oc at arguments lr x low f ram queues ⊎ RunsShort g Inv (LacksRoom g w oc (length m.loans + length (lends_of fn q))) 16384 s
    begun s k m oc at arguments lr x low f ram queues most i ft r al lo hi agree c few = ⊎_elim short fits (cases_lt oc (g.stack + (4 * w + 4)))
      where
        short : oc < g.stack + (4 * w + 4) → Begun s k m oc at arguments lr x low f ram queues ⊎ RunsShort g Inv (LacksRoom g w oc (length m.loans + length (lends_of fn q))) 16384 s
        short u =
            let cs = c.counts in
            let cf = c.fewer in
            inr (record {
              reason = inl (omega (arith, u));
              ends = λ stack. sooner g (k + 5) 16384 s (omega (arith, most)) (later g k 5 s _ r
                  (entry_stops g Inv law rules stack laws fn q labels w c.words c.some c.small c.even (omega (arith, cs, cf)) m x low oc lr at f ram queues i ft al lo hi u c.code));
            })

        fits : g.stack + (4 * w + 4) ≤ oc → Begun s k m oc at arguments lr x low f ram queues ⊎ RunsShort g Inv (LacksRoom g w oc (length m.loans + length (lends_of fn q))) 16384 s
        fits u =
            let o : ℕ = oc - (4 * w + 4) in
            let z : base g + oc ≡ base g + o + 4 * w + 4 = omega (arith, u) in
            let ev = c.even in
            let ft1 = fits_sp g x low (base g + oc) (base g + o + 4 * w + 4) lr at f ram queues z ft in
            let small = c.small in
            ⊎_elim
            (λ e. inl (record { frame = o; frame_ends = omega (arith, u); on_stack = omega (arith, u); is = back o z e }))
            (λ e. inr (behind g Inv _ (LacksRoom g w oc (length m.loans + length (lends_of fn q))) k (4 + w + (2 + lend_steps) * 33) 16384 s _
            (λ why. ⊎_elim (λ y. inl (omega (arith, y, u))) (λ y. inr y) why) (omega (arith, most, small)) r (back_end o z e)))
            (enters g Inv law rules laws fn q labels w c.words m x low o lr at f arguments ram queues i ft1 (omega (arith, al, ev, u)) (omega (arith, u)) (omega (arith, z, hi)) c.counts c.fewer agree c.code c.lendable few)
          where
            back : (o : ℕ) → base g + oc ≡ base g + o + 4 * w + 4 → IsEntered g Inv fn q (works x low (base g + o + 4 * w + 4) lr at f ram queues) m o w at arguments lr ram queues → IsEntered g Inv fn q (works x low (base g + oc) lr at f ram queues) m o w at arguments lr ram queues
            back o z e = subst (λ (a : ℕ). IsEntered g Inv fn q (works x low a lr at f ram queues) m o w at arguments lr ram queues) (sym z) e

            back_end : (o : ℕ) → base g + oc ≡ base g + o + 4 * w + 4 → RunsShort g Inv (LacksRoom g w (o + 4 * w + 4) (length m.loans + length (lends_of fn q))) (4 + w + (2 + lend_steps) * 33) (works x low (base g + o + 4 * w + 4) lr at f ram queues) →
                RunsShort g Inv (LacksRoom g w (o + 4 * w + 4) (length m.loans + length (lends_of fn q))) (4 + w + (2 + lend_steps) * 33) (works x low (base g + oc) lr at f ram queues)
            back_end o z e = subst (λ (a : ℕ). RunsShort g Inv (LacksRoom g w (o + 4 * w + 4) (length m.loans + length (lends_of fn q))) (4 + w + (2 + lend_steps) * 33) (works x low a lr at f ram queues)) (sym z) e

    pub inside : (m : MonitorBlock) (n : ℕ) (s : State) (x : Context) (oc lr at : ℕ) (arguments ram : List ℕ) (queues : List (List ℕ)) → n ≤ 8 → Inv m x ram → StateFits g.image s →
        Arrives by_mpu g.image n s (record { context = x; registers = known arguments; sp = base g + oc; lr = lr; pc = at; ram = ram; queues = queues }) [] →
        oc % 8 ≡ 0 → g.stack ≤ oc → base g + oc ≤ m.top → CalleeStands g fn q labels m.current w at (length arguments) → length m.loans ≤ 32 →
        IsCalled g Inv fn q s m oc w at arguments lr ram queues ⊎ RunsShort g Inv (LacksRoom g w oc (length m.loans + length (lends_of fn q))) 16384 s
    inside m n s x oc lr at arguments ram queues nn i ft a al lo hi c few =
        ⊎_elim (λ b. inl (whole b)) (λ e. inr e)
        (begun s n m oc at arguments lr x a.low a.flags ram queues (omega (arith, nn)) i (fits_after g Inv law rules laws n s _ [] ft a.runs) a.runs al lo hi (known_holds arguments a.low a.holds) c few)
      where
        whole : Begun s n m oc at arguments lr x a.low a.flags ram queues → IsCalled g Inv fn q s m oc w at arguments lr ram queues
        whole b =
            let e = b.is in
            let el = e.least in
            let ew = e.within in
            let ef = e.few in
            let small = c.small in
            record {
              frame = b.frame;
              frame_ends = b.frame_ends;
              on_stack = b.on_stack;
              few = ef;
              lent = e.room;
              called = record {
                goes = record {
                  count = n + e.count;
                  within = omega (arith, ew, ef, nn, small);
                  context = e.context;
                  low = e.low;
                  lr = e.lr;
                  flags = e.flags;
                  memory = e.memory;
                  fits = e.fits;
                  runs = onward by_mpu g.image a.runs e.runs;
                  invariant = e.invariant;
                  stays = stays_at g (b.frame + 4 * w + 4) oc ram e.memory b.frame_ends e.stays;
                };
                least = omega (arith, el);
                filled = record { given = e.given; cleared = e.cleared; return_address = e.return_address };
              };
              short = omega (arith, ew, ef, nn, small);
            }

    -- at the SVC
    pub across : (m : MonitorBlock) (n : ℕ) (s : State) (x : Context) (oc lr pc entry site target : ℕ) (arguments ram : List ℕ) (queues : List (List ℕ)) → n ≤ 8 → Inv m x ram → StateFits g.image s →
        Arrives by_mpu g.image n s (record { context = x; registers = known arguments; sp = base g + oc; lr = lr; pc = pc; ram = ram; queues = queues }) [] →
        oc % 8 ≡ 0 → g.stack ≤ oc → base g + oc ≤ m.top → Stands by_mpu g.image x.protection pc (svc 0) → g.has_code m.current pc ≡ true →
        HoldsHalf g.image (pc + 2) site → g.has_target site (pc + 2) entry target ≡ true → get_or x.high 4 0 ≡ entry + 1 → entry % 2 ≡ 0 →
        ((k : ℕ) → k < length arguments → cut 4 (get_or arguments k 0) ≡ get_or arguments k 0) →
        CalleeStands g fn q labels target w entry (length arguments) → length m.loans ≤ 32 →
        IsCrossed g Inv fn q s m oc w entry target arguments (pc + 4) ram queues ⊎ RunsShort g Inv (LacksRoom g w (part_end g oc) (length m.loans + length (lends_of fn q))) 16384 s
    across m n s x oc lr pc entry site target arguments ram queues nn i ft a al lo hi st own half hit r12 even words c few =
        ⊎_elim without (λ room. ⊎_elim (shut room) (opens room) (no_part (oc - 32 - g.stack) g.eighth)) (cases_lt oc (g.stack + 32))
      where
        ft1 : StateFits g.image (works x a.low (base g + oc) lr pc a.flags ram queues)
        ft1 = fits_after g Inv law rules laws n s _ [] ft a.runs

        without : oc < g.stack + 32 → IsCrossed g Inv fn q s m oc w entry target arguments (pc + 4) ram queues ⊎ RunsShort g Inv (LacksRoom g w (part_end g oc) (length m.loans + length (lends_of fn q))) 16384 s
        without u =
            let dm = div-mul-le_self (oc - 32 - g.stack) g.eighth in
            inr (record {
              reason = inl (omega (arith, dm, u));
              ends = λ stack. sooner g (n + 1) 16384 s (omega (arith, nn)) (later g n 1 s _ a.runs (call_stops g Inv law rules stack m x a.low oc lr pc 0 a.flags ram queues i ft1 al lo hi u st));
            })

        op : g.stack + 32 ≤ oc → HasRoom g m oc
        op u = record { aligned = al; low = u; high = hi }

        here : g.stack + 32 ≤ oc → AtInstr g Inv m x a.low oc lr pc a.flags ram queues (svc 0)
        here u = record { invariant = i; room = op u; fits = ft1; lies = st.lies; owned = own }

        shut : g.stack + 32 ≤ oc → (oc - 32 - g.stack) / g.eighth ≡ 0 → IsCrossed g Inv fn q s m oc w entry target arguments (pc + 4) ram queues ⊎ RunsShort g Inv (LacksRoom g w (part_end g oc) (length m.loans + length (lends_of fn q))) 16384 s
        shut u v =
            let z : 0 * g.eighth ≡ 0 = omega arith in
            let e : part_end g oc ≡ g.stack + 0 * g.eighth = ap (λ (d : ℕ). g.stack + d * g.eighth) v in
            inr (record {
              reason = inl (omega (arith, e, z));
              ends = λ stack. sooner g (n + 4096) 16384 s (omega (arith, nn)) (later g n 4096 s _ a.runs
                  (halted g 5 4096 _ NoEighth (stack.calls.no_eighth m x a.low oc lr pc a.flags ram queues site entry target (here u) half hit r12 v)));
            })

        opens : g.stack + 32 ≤ oc → 1 ≤ (oc - 32 - g.stack) / g.eighth → IsCrossed g Inv fn q s m oc w entry target arguments (pc + 4) ram queues ⊎ RunsShort g Inv (LacksRoom g w (part_end g oc) (length m.loans + length (lends_of fn q))) 16384 s
        opens u v =
            let k : ℕ = (oc - 32 - g.stack) / g.eighth in
            let top : ℕ = g.stack + k * g.eighth in
            let op1 = one_part k g.eighth v in
            let ep = rules.some in
            let some : g.stack < top = omega (arith, op1, ep) in
            let dm = div-mul-le_self (oc - 32 - g.stack) g.eighth in
            let under : top ≤ oc - 32 = omega (arith, dm, u) in
            let ent = law.calls.enter m x a.low oc lr pc a.flags ram queues site entry target top (here u) half hit r12 even some refl in
            by k top refl refl some under ent
          where
            by : (k top : ℕ) → top ≡ g.stack + k * g.eighth → k ≡ (oc - 32 - g.stack) / g.eighth → g.stack < top → top ≤ oc - 32 →
                (ent : Enters g Inv (works x a.low (base g + oc) lr pc a.flags ram queues) (entered m target (base g + top) (base g + oc - 32)) a.low oc top entry (pc + 4) ram queues) →
                IsCrossed g Inv fn q s m oc w entry target arguments (pc + 4) ram queues ⊎ RunsShort g Inv (LacksRoom g w (part_end g oc) (length m.loans + length (lends_of fn q))) 16384 s
            by k top tops kis some under ent =
                let v = ent.resumes in
                let vw = v.within in
                let vl = v.least in
                let m1 : MonitorBlock = entered m target (base g + top) (base g + oc - 32) in
                let sa = rules.stack_aligned in
                let te = times_eight k g.eighth rules.eighth_aligned in
                let cf = c.few in
                let agree = λ (d : ℕ) (l : d < length arguments). ent.arguments d (omega (arith, l, cf)) ∙ ap (λ (y : ℕ). cut 4 y) (known_holds arguments a.low a.holds d l) ∙ words d l in
                ⊎_elim (λ b. inl (crossed k top tops kis some under ent b))
                (λ e. inr (record { reason = subst (λ (y : ℕ). LacksRoom g w y (length m.loans + length (lends_of fn q))) (tops ∙ ap (λ (d : ℕ). g.stack + d * g.eighth) kis) e.reason; ends = e.ends }))
                (begun s (n + v.count) m1 top entry arguments v.lr v.context v.low v.flags v.memory queues (omega (arith, nn, vw)) v.invariant v.fits (onward by_mpu g.image a.runs v.runs)
                (omega (arith, tops, sa, te)) (omega (arith, some)) (omega arith) agree c few)
              where
                inside_top : base g + oc ≤ base g + (g.stack + 8 * g.eighth)
                inside_top = let tp = law.keeps.top_inside m x ram i in omega (arith, tp, hi)

                crossed : (k top : ℕ) → top ≡ g.stack + k * g.eighth → k ≡ (oc - 32 - g.stack) / g.eighth → g.stack < top → top ≤ oc - 32 →
                    (ent : Enters g Inv (works x a.low (base g + oc) lr pc a.flags ram queues) (entered m target (base g + top) (base g + oc - 32)) a.low oc top entry (pc + 4) ram queues) →
                    Begun s (n + ent.resumes.count) (entered m target (base g + top) (base g + oc - 32)) top entry arguments ent.resumes.lr ent.resumes.context ent.resumes.low ent.resumes.flags ent.resumes.memory queues →
                    IsCrossed g Inv fn q s m oc w entry target arguments (pc + 4) ram queues
                crossed k top tops kis some under ent b =
                    let v = ent.resumes in
                    let vw = v.within in
                    let e = b.is in
                    let el = e.least in
                    let ew = e.within in
                    let ef = e.few in
                    let small = c.small in
                    let be = b.frame_ends in
                    let bo = b.on_stack in
                    record {
                      room = u;
                      top = top;
                      top_is = tops ∙ ap (λ (d : ℕ). g.stack + d * g.eighth) kis;
                      some = some;
                      frame = b.frame;
                      frame_ends = be;
                      on_stack = bo;
                      few = ef;
                      lent = e.room;
                      crossed = record {
                        called = record {
                          goes = record {
                            count = (n + v.count) + e.count;
                            within = omega (arith, ew, ef, nn, small, vw);
                            context = e.context;
                            low = e.low;
                            lr = e.lr;
                            flags = e.flags;
                            memory = e.memory;
                            fits = e.fits;
                            runs = onward by_mpu g.image (onward by_mpu g.image a.runs v.runs) e.runs;
                            invariant = e.invariant;
                            stays = stays_on g oc (b.frame + 4 * w + 4) oc ram v.memory e.memory v.stays e.stays (omega arith) (omega (arith, be, under));
                          };
                          least = omega (arith, el);
                          filled = subst (λ (l : ℕ). Filled b.frame w l arguments e.memory) ent.link (record { given = e.given; cleared = e.cleared; return_address = e.return_address });
                        };
                        status = ent.status;
                        thread = ent.thread;
                        no_pad = ent.no_pad;
                        saved_return = e.stays.reads 4 (oc - 8) (inr (omega (arith, be, under, u)), ⊎_elim (λ y. inr (omega (arith, y, u, lo))) (λ y. inl (omega (arith, y, inside_top))) rules.apart) ∙ ent.saved_return;
                        saved_status = e.stays.reads 4 (oc - 4) (inr (omega (arith, be, under, u)), ⊎_elim (λ y. inr (omega (arith, y, u, lo))) (λ y. inl (omega (arith, y, inside_top))) rules.apart) ∙ ent.saved_status;
                      };
                    }

  -- ---- the four kinds of calls: `fc`, `qc` and `labels_c` are the caller's, whose frame is at oc

  module _ (fc : NumberedFunc) (qc : Places) (labels_c : List (Option ℕ)) (fn : NumberedFunc) (q : Places) (labels : List (Option ℕ)) where
    pub calls : (m : MonitorBlock) (x : Context) (low : List ℕ) (oc wc w lr pc : ℕ) (f : Flags) (to : Option ℕ) (h : ℕ) (args ram : List ℕ) (queues : List (List ℕ)) → Inv m x ram →
        StateFits g.image (works x low (base g + oc) lr pc f ram queues) → oc % 8 ≡ 0 → g.stack ≤ oc → base g + oc + 4 * wc ≤ m.top → base g + oc ≤ m.top → EachBelow wc args → pc < 2 ^ 30 → entry_address qc h < 2 ^ 30 →
        Owns g m.current labels_c pc (inst_items fc qc pc None (Call to h args)) → CalleeStands g fn q labels m.current w (entry_address qc h) (length (frame_words oc ram args)) → length m.loans ≤ 32 →
        IsCalled g Inv fn q (works x low (base g + oc) lr pc f ram queues) m oc w (entry_address qc h) (frame_words oc ram args) (pc + call_size false args + 1) ram queues
        ⊎ RunsShort g Inv (LacksRoom g w oc (length m.loans + length (lends_of fn q))) 16384 (works x low (base g + oc) lr pc f ram queues)
    calls m x low oc wc w lr pc f to h args ram queues i ft al lo hi hi2 below near near2 code c loans =
        let p : Point = record { context = x; registers = []; sp = base g + oc; lr = lr; pc = pc; ram = ram; queues = queues } in
        let cl = length-map args (λ (a : ℕ). read 4 (oc + 4 * a) ram) in
        let cf = c.few in
        let few : length args ≤ 4 = omega arith in
        let rm = room g Inv law rules laws m x ram oc wc i (omega (arith, al)) lo hi in
        let has = runs_here g Inv law rules laws m x ram labels_c pc _ i code in
        let a = ((laws.within by_mpu g.image fc qc labels_c p oc wc).call to h args rm below few near near2 has).arrives low f (holds_nothing low ft.core.low_count) in
        inside fn q labels w m (length args + 1) _ x oc _ _ (frame_words oc ram args) ram queues (omega arith) i ft a al lo hi2 c loans

    pub icalls : (m : MonitorBlock) (x : Context) (low : List ℕ) (oc wc w lr pc callee : ℕ) (f : Flags) (to : Option ℕ) (h : ℕ) (args ram : List ℕ) (queues : List (List ℕ)) → Inv m x ram →
        StateFits g.image (works x low (base g + oc) lr pc f ram queues) → oc % 8 ≡ 0 → g.stack ≤ oc → base g + oc + 4 * wc ≤ m.top → base g + oc ≤ m.top → h < wc → EachBelow wc args → read 4 (oc + 4 * h) ram ≡ callee + 1 → callee % 2 ≡ 0 →
        Owns g m.current labels_c pc (inst_items fc qc pc None (ICall to h args)) → CalleeStands g fn q labels m.current w callee (length (frame_words oc ram args)) → length m.loans ≤ 32 →
        IsCalled g Inv fn q (works x low (base g + oc) lr pc f ram queues) m oc w callee (frame_words oc ram args) (pc + icall_size false args + 1) ram queues
        ⊎ RunsShort g Inv (LacksRoom g w oc (length m.loans + length (lends_of fn q))) 16384 (works x low (base g + oc) lr pc f ram queues)
    icalls m x low oc wc w lr pc callee f to h args ram queues i ft al lo hi hi2 hw below points even code c loans =
        let p : Point = record { context = x; registers = []; sp = base g + oc; lr = lr; pc = pc; ram = ram; queues = queues } in
        let cl = length-map args (λ (a : ℕ). read 4 (oc + 4 * a) ram) in
        let cf = c.few in
        let few : length args ≤ 4 = omega arith in
        let five = law.keeps.high_five m x ram i in
        let rm = room g Inv law rules laws m x ram oc wc i (omega (arith, al)) lo hi in
        let has = runs_here g Inv law rules laws m x ram labels_c pc _ i code in
        let a = ((laws.within by_mpu g.image fc qc labels_c p oc wc).icall to h callee args rm hw below few five points even has).arrives low f (holds_nothing low ft.core.low_count) in
        let i1 : Inv m (with_r12 x (callee + 1)) ram = law.keeps.any_high m x (set x.high 4 (callee + 1)) ram i (length-set x.high 4 (callee + 1) ∙ five) in
        inside fn q labels w m (length args + 3) _ (with_r12 x (callee + 1)) oc _ _ (frame_words oc ram args) ram queues (omega arith) i1 ft a al lo hi2 c loans

    pub crosses : (m : MonitorBlock) (x : Context) (low : List ℕ) (oc wc w lr pc site target : ℕ) (f : Flags) (to : Option ℕ) (h : ℕ) (args ram : List ℕ) (queues : List (List ℕ)) → Inv m x ram →
        StateFits g.image (works x low (base g + oc) lr pc f ram queues) → oc % 8 ≡ 0 → g.stack ≤ oc → base g + oc + 4 * wc ≤ m.top → base g + oc ≤ m.top → EachBelow wc args → entry_address qc h + 1 < 2 ^ 32 → entry_address qc h % 2 ≡ 0 →
        Owns g m.current labels_c pc (inst_items fc qc pc (Some site) (Call to h args)) → g.has_target site (pc + (8 + 2 * length args) + 2) (entry_address qc h) target ≡ true →
        CalleeStands g fn q labels target w (entry_address qc h) (length (frame_words oc ram args)) → length m.loans ≤ 32 →
        IsCrossed g Inv fn q (works x low (base g + oc) lr pc f ram queues) m oc w (entry_address qc h) target (frame_words oc ram args) (pc + (8 + 2 * length args) + 4) ram queues
        ⊎ RunsShort g Inv (LacksRoom g w (part_end g oc) (length m.loans + length (lends_of fn q))) 16384 (works x low (base g + oc) lr pc f ram queues)
    crosses m x low oc wc w lr pc site target f to h args ram queues i ft al lo hi hi2 below fits even code hit c loans =
        let p : Point = record { context = x; registers = []; sp = base g + oc; lr = lr; pc = pc; ram = ram; queues = queues } in
        let cl = length-map args (λ (a : ℕ). read 4 (oc + 4 * a) ram) in
        let cf = c.few in
        let few : length args ≤ 4 = omega arith in
        let five = law.keeps.high_five m x ram i in
        let v : ℕ = entry_address qc h + 1 in
        let rm = room g Inv law rules laws m x ram oc wc i (omega (arith, al)) lo hi in
        let has = runs_here g Inv law rules laws m x ram labels_c pc _ i code in
        let effects = laws.across by_mpu g.image fc qc labels_c p oc wc in
        let a = (effects.call site to h args rm below few five fits has).arrives low f (holds_nothing low ft.core.low_count) in
        let st = (laws.across (owner g m.current) g.image fc qc labels_c p oc wc).call_stands pc site to h args (code.stands x.protection) in
        let st2 = effects.call_stands pc site to h args has in
        let i1 : Inv m (with_r12 x v) ram = law.keeps.any_high m x (set x.high 4 v) ram i (length-set x.high 4 v ∙ five) in
        let r12 : get_or (set x.high 4 v) 4 0 ≡ v = get_or-set_same x.high 4 v 0 (omega arith) in
        across fn q labels w m (length args + 2) _ (with_r12 x v) oc _ (pc + (8 + 2 * length args)) (entry_address qc h) site target (frame_words oc ram args) ram queues (omega arith) i1 ft a al lo hi2
        st2.0 (call_owned g m.current x.protection (pc + (8 + 2 * length args)) 0 st.0) st.1 hit r12 even (frame_words_fit oc ram args) c loans

    pub icrosses : (m : MonitorBlock) (x : Context) (low : List ℕ) (oc wc w lr pc entry site target : ℕ) (f : Flags) (to : Option ℕ) (h : ℕ) (args ram : List ℕ) (queues : List (List ℕ)) → Inv m x ram →
        StateFits g.image (works x low (base g + oc) lr pc f ram queues) → oc % 8 ≡ 0 → g.stack ≤ oc → base g + oc + 4 * wc ≤ m.top → base g + oc ≤ m.top → h < wc → EachBelow wc args → read 4 (oc + 4 * h) ram ≡ entry + 1 → entry % 2 ≡ 0 →
        Owns g m.current labels_c pc (inst_items fc qc pc (Some site) (ICall to h args)) → g.has_target site (pc + (4 + 2 * length args) + 2) entry target ≡ true →
        CalleeStands g fn q labels target w entry (length (frame_words oc ram args)) → length m.loans ≤ 32 →
        IsCrossed g Inv fn q (works x low (base g + oc) lr pc f ram queues) m oc w entry target (frame_words oc ram args) (pc + (4 + 2 * length args) + 4) ram queues
        ⊎ RunsShort g Inv (LacksRoom g w (part_end g oc) (length m.loans + length (lends_of fn q))) 16384 (works x low (base g + oc) lr pc f ram queues)
    icrosses m x low oc wc w lr pc entry site target f to h args ram queues i ft al lo hi hi2 hw below points even code hit c loans =
        let p : Point = record { context = x; registers = []; sp = base g + oc; lr = lr; pc = pc; ram = ram; queues = queues } in
        let cl = length-map args (λ (a : ℕ). read 4 (oc + 4 * a) ram) in
        let cf = c.few in
        let few : length args ≤ 4 = omega arith in
        let five = law.keeps.high_five m x ram i in
        let v : ℕ = read 4 (oc + 4 * h) ram in
        let rm = room g Inv law rules laws m x ram oc wc i (omega (arith, al)) lo hi in
        let has = runs_here g Inv law rules laws m x ram labels_c pc _ i code in
        let effects = laws.across by_mpu g.image fc qc labels_c p oc wc in
        let a = (effects.icall site to h args rm hw below few has).arrives low f (holds_nothing low ft.core.low_count) in
        let st = (laws.across (owner g m.current) g.image fc qc labels_c p oc wc).icall_stands pc site to h args (code.stands x.protection) in
        let st2 = effects.icall_stands pc site to h args has in
        let i1 : Inv m (with_r12 x v) ram = law.keeps.any_high m x (set x.high 4 v) ram i (length-set x.high 4 v ∙ five) in
        let r12 : get_or (set x.high 4 v) 4 0 ≡ v = get_or-set_same x.high 4 v 0 (omega arith) in
        across fn q labels w m (length args + 2) _ (with_r12 x v) oc _ (pc + (4 + 2 * length args)) entry site target (frame_words oc ram args) ram queues (omega arith) i1 ft a al lo hi2
        st2.0 (call_owned g m.current x.protection (pc + (4 + 2 * length args)) 0 st.0) st.1 hit (r12 ∙ points) even (frame_words_fit oc ram args) c loans
