-- The entry of a function whose frame fits: it is entered, or a lend lacks room.
use Rattle.std.proofs.Common.{◌≡◌, ℕ, suc, ◌+◌, ◌-◌, ◌*◌, ◌%◌, ◌^◌, ◌<◌, ◌≤◌, ◌⊎◌, true, List, [], ◌∷◌, length, get_or, Option, refl, sym, ap, ◌∙◌, subst, arith, inl, inr, ⊎_elim}
use Rattle.std.proofs.lemmas.Bool.{cases_lt}
use Rattle.base_words.specs.declared.conditions.Flags.{Flags}
use Rattle.machine_thumb.specs.Table.{svc}
use Rattle.machine_model.specs.declared.state.End.TheVariants.{Halt}
use Rattle.machine_model.specs.State.{State, by_mpu}
use Rattle.machine_model.specs.Code.{Lies, Stands, Runs}
use Rattle.machine_model.specs.Shape.{StateFits}
use Rattle.machine_model.specs.RunningCode.{Context, works}
use Rattle.machine_model.proofs.Exec.{stay, onward}
use Rattle.ir_model.specs.Resolved.{NumberedFunc}
use Rattle.ir_model.specs.Signatures.{row_length}
use Rattle.code_model.specs.declared.places.Places.{Places}
use Rattle.code_model.specs.FrameShape.{frame_shape}
use Rattle.code_model.specs.Places.{Lend}
use Rattle.code_model.specs.Sizes.{entry_size}
use Rattle.code_model.specs.Templates.{lends_of, entry_items}
use Rattle.monitor_model.specs.Block.{MonitorBlock, lent}
use Rattle.monitor_model.specs.Setting.{Setting}
use Rattle.monitor_model.specs.Threads.{lend_steps, base, Stays, AtInstr}
use Rattle.monitor_model.specs.Law.{Law}
use Rattle.code_effects.specs.Points.{Point}
use Rattle.code_effects.specs.Entry.{no_lend}
use Rattle.code_effects.proofs.Registers.{holds_nothing, known_holds}
use Rattle.monitor_sound.specs.HaltingCalls.{HaltsBy}
use Rattle.refine.specs.CodeLaws.{CodeLaws}
use Rattle.refine.specs.Owned.{owner, Owns, MemoryRules, loan_of, all_lent, Lendable}
use Rattle.refine.proofs.Thread.{call_owned, at_pc, fits_pc, fits_after, runs_here, inv_kept, stays_kept, stays_none, stays_on}
use Rattle.refine.specs.Begun.{Goes}
use Rattle.refine.proofs.Entry.{frames}
use Rattle.refine.specs.Ends.{NamesStack, NoLoan}
use Rattle.refine.specs.Entries.{EndsShort, RunsShort, LacksRoom}
use Rattle.refine.specs.Entered.{IsEntered}
use Rattle.refine.proofs.Stops.{call_stops}

-- an end that comes behind a run
pub later : (g : Setting) (k most : ℕ) (s t : State) → Runs by_mpu g.image k s t [] → EndsShort g most t → EndsShort g (k + most) s
later g k most s t r e = let a = e.least in let b = e.within in record { count = k + e.count; least = omega arith; within = omega arith; last = e.last; end = e.end; over = e.over; names = e.names; runs = onward by_mpu g.image r e.runs }

pub sooner : (g : Setting) (most more : ℕ) (s : State) → most ≤ more → EndsShort g most s → EndsShort g more s
sooner g most more s h e = let b = e.within in record { count = e.count; least = e.least; within = omega arith; last = e.last; end = e.end; over = e.over; names = e.names; runs = e.runs }

-- the same, with its reason
pub behind : (g : Setting) (Inv : MonitorBlock → Context → List ℕ → Type 0) (Why Reason : Type 0) (k most more : ℕ) (s t : State) → (Why → Reason) → k + most ≤ more → Runs by_mpu g.image k s t [] → RunsShort g Inv Why most t → RunsShort g Inv Reason more s
behind g Inv Why Reason k most more s t why h r e = record { reason = why e.reason; ends = λ stack. sooner g (k + most) more s h (later g k most s t r (e.ends stack)) }

pub halted : (g : Setting) (number most : ℕ) (s : State) → NamesStack (Halt number) → HaltsBy g number most s → EndsShort g most s
halted g number most s n h = record { count = h.count; least = h.least; within = h.within; last = h.last; end = Halt number; over = h.over; names = n; runs = h.runs }

module _ (g : Setting) (Inv : MonitorBlock → Context → List ℕ → Type 0) (law : Law g Inv) (rules : MemoryRules g) (laws : CodeLaws) (fn : NumberedFunc) (q : Places) (labels : List (Option ℕ)) where
  -- the loans of a function's locals, from number k on
  record Lent (at k : ℕ) (m : MonitorBlock) (o : ℕ) (from : State) (ds : List Lend) (ram : List ℕ) (queues : List (List ℕ)) : Type 0 where
    few : length m.loans + length ds ≤ 32
    room : 1 ≤ length ds → g.stack + 32 ≤ o
    goes : Goes g Inv ((2 + lend_steps) * length ds) from (all_lent g o m ds) (base g + o) (at + entry_size fn (k + length ds)) o ram queues

  -- or one of them lacks room
  abbrev Lacks : MonitorBlock → (o : ℕ) → List Lend → Type 0
  Lacks m o ds = (o < g.stack + 32) ⊎ (32 < length m.loans + length ds)

  -- at the SVC of one of them
  record AtLend (at k : ℕ) (m : MonitorBlock) (x : Context) (o lr : ℕ) (d : Lend) (from : State) (ram : List ℕ) (queues : List (List ℕ)) : Type 0 where
    low : List ℕ
    flags : Flags
    runs : Runs by_mpu g.image 2 from (works x low (base g + o) lr (at + entry_size fn k + 4) flags ram queues) []
    fits : StateFits g.image (works x low (base g + o) lr (at + entry_size fn k + 4) flags ram queues)
    address : get_or low 0 0 ≡ (loan_of g o d).address
    number : get_or low 1 0 ≡ d.number
    lies : Lies g.image (at + entry_size fn k + 4) (svc 2)
    owned : g.has_code m.current (at + entry_size fn k + 4) ≡ true
    stands : Stands by_mpu g.image x.protection (at + entry_size fn k + 4) (svc 2)
    next : at + entry_size fn k + 4 + 2 ≡ at + entry_size fn (suc k)

  at_lend : (w at k : ℕ) (m : MonitorBlock) (x : Context) (low : List ℕ) (o lr : ℕ) (f : Flags) (d : Lend) (ds : List Lend) (ram : List ℕ) (queues : List (List ℕ)) → Inv m x ram → base g + o ≤ m.top →
      StateFits g.image (works x low (base g + o) lr (at + entry_size fn k) f ram queues) → Owns g m.current labels at (entry_items fn q) → k + length (d ∷ ds) ≡ length (lends_of fn q) →
      get_or (lends_of fn q) k no_lend ≡ d → Lendable g w (d ∷ ds) → base g + o + 4 * w ≤ m.top → AtLend at k m x o lr d (works x low (base g + o) lr (at + entry_size fn k) f ram queues) ram queues
  at_lend w at k m x low o lr f d ds ram queues i hi ft code count is ok t =
      let tp = law.keeps.top_inside m x ram i in
      let kl : k < length (lends_of fn q) = omega arith in
      let rf = rules.fits in
      let rh = rules.image.ram_highest in
      let rm = rules.image.ram_most in
      let p : Point = record { context = x; registers = []; sp = base g + o; lr = lr; pc = at + entry_size fn k; ram = ram; queues = queues } in
      let effects = laws.entry by_mpu g.image fn q labels p o (base g + o) in
      let has = runs_here g Inv law rules laws m x ram labels at (entry_items fn q) i code in
      let low_enough : base g + o + 4 * d.home < 2 ^ 32 = omega (arith, ok.0.1) in
      let small : base g + o + 4 * (get_or (lends_of fn q) k no_lend).home < 2 ^ 32 = subst (λ (y : Lend). base g + o + 4 * y.home < 2 ^ 32) (sym is) low_enough in
      let led = (effects.lend at k kl small has).arrives low f (holds_nothing low ft.core.low_count) in
      let pc1 : ℕ = at + entry_size fn k + 4 in
      let words : List ℕ = (base g + o + 4 * (get_or (lends_of fn q) k no_lend).home) ∷ (get_or (lends_of fn q) k no_lend).number ∷ [] in
      let stands = (laws.entry (owner g m.current) g.image fn q labels p o (base g + o)).lend_stands at k kl (code.stands x.protection) in
      record {
        low = led.low;
        flags = led.flags;
        runs = led.runs;
        fits = fits_after g Inv law rules laws 2 _ _ [] ft led.runs;
        address = known_holds words led.low led.holds 0 (omega arith) ∙ ap (λ (y : Lend). base g + o + 4 * y.home) is;
        number = known_holds words led.low led.holds 1 (omega arith) ∙ ap (λ (y : Lend). y.number) is;
        lies = stands.lies;
        owned = call_owned g m.current x.protection pc1 2 stands;
        stands = effects.lend_stands at k kl has;
        next = effects.next_lend at k;
      }

  lends : (w at k : ℕ) (m : MonitorBlock) (x : Context) (low : List ℕ) (o lr : ℕ) (f : Flags) (ds : List Lend) (ram : List ℕ) (queues : List (List ℕ)) → Inv m x ram → o % 8 ≡ 0 → g.stack ≤ o → base g + o ≤ m.top →
      StateFits g.image (works x low (base g + o) lr (at + entry_size fn k) f ram queues) → Owns g m.current labels at (entry_items fn q) → k + length ds ≡ length (lends_of fn q) →
      ((j : ℕ) → j < length ds → get_or (lends_of fn q) (k + j) no_lend ≡ get_or ds j no_lend) → Lendable g w ds → base g + o + 4 * w ≤ m.top → length m.loans ≤ 32 →
      Lent at k m o (works x low (base g + o) lr (at + entry_size fn k) f ram queues) ds ram queues
      ⊎ RunsShort g Inv (Lacks m o ds) ((2 + lend_steps) * (33 - length m.loans)) (works x low (base g + o) lr (at + entry_size fn k) f ram queues)
  lends w at k m x low o lr f [] ram queues i al lo hi ft code count each ok t few =
      let e : at + entry_size fn k ≡ at + entry_size fn (k + 0) = let z : k ≡ k + 0 = omega arith in ap (λ (n : ℕ). at + entry_size fn n) z in
      inl (record {
        few = omega arith;
        room = λ l. absurd (omega (arith, l));
        goes = record {
          count = 0;
          within = omega arith;
          context = x;
          low = low;
          lr = lr;
          flags = f;
          memory = ram;
          fits = fits_pc g x low (base g + o) lr _ _ f ram queues e ft;
          runs = at_pc g 0 _ x low (base g + o) lr _ _ f ram queues [] e (stay by_mpu g.image);
          invariant = i;
          stays = stays_none g o ram;
        };
      })
  lends w at k m x low o lr f (d ∷ ds) ram queues i al lo hi ft code count each ok t few =
      ⊎_elim without
      (λ room. ⊎_elim
      (lending room
      (λ y low2 lr2 f2 memory j ft2 more. lends w at (suc k) (lent m (loan_of g o d)) y low2 o lr2 f2 ds memory queues j al lo hi ft2 code (omega (arith, count))
      (λ n l. let z : suc k + n ≡ k + suc n = omega arith in ap (λ (v : ℕ). get_or (lends_of fn q) v no_lend) z ∙ each (suc n) (omega (arith, l))) ok.1 t more))
      (full room) (cases_lt (length m.loans) 32))
      (cases_lt o (g.stack + 32))
    where
      from : State
      from = works x low (base g + o) lr (at + entry_size fn k) f ram queues

      pc1 : ℕ
      pc1 = at + entry_size fn k + 4

      is : get_or (lends_of fn q) k no_lend ≡ d
      is = let z0 : k + 0 ≡ k = omega arith in ap (λ (n : ℕ). get_or (lends_of fn q) n no_lend) (sym z0) ∙ each 0 (omega arith)

      led : AtLend at k m x o lr d from ram queues
      led = at_lend w at k m x low o lr f d ds ram queues i hi ft code count is ok t

      -- no room for the exception
      without : o < g.stack + 32 → Lent at k m o from (d ∷ ds) ram queues ⊎ RunsShort g Inv (Lacks m o (d ∷ ds)) ((2 + lend_steps) * (33 - length m.loans)) from
      without u = inr (record {
        reason = inl u;
        ends = λ stack. sooner g (2 + 1) ((2 + lend_steps) * (33 - length m.loans)) from (omega (arith, few))
            (later g 2 1 from _ led.runs (call_stops g Inv law rules stack m x led.low o lr pc1 2 led.flags ram queues i led.fits al lo hi u led.stands));
      })

      here : g.stack + 32 ≤ o → AtInstr g Inv m x led.low o lr pc1 led.flags ram queues (svc 2)
      here u = record { invariant = i; room = record { aligned = al; low = u; high = hi }; fits = led.fits; lies = led.lies; owned = led.owned }

      -- no loan is left
      full : g.stack + 32 ≤ o → 32 ≤ length m.loans → Lent at k m o from (d ∷ ds) ram queues ⊎ RunsShort g Inv (Lacks m o (d ∷ ds)) ((2 + lend_steps) * (33 - length m.loans)) from
      full u v = inr (record {
        reason = inr (omega (arith, v));
        ends = λ stack. sooner g (2 + lend_steps) ((2 + lend_steps) * (33 - length m.loans)) from (omega (arith, few))
            (later g 2 lend_steps from _ led.runs (halted g 6 lend_steps _ NoLoan (stack.calls.no_loan m x led.low o lr pc1 led.flags ram queues (here u) (omega (arith, few, v)))));
      })

      lending : g.stack + 32 ≤ o →
          ((y : Context) (low2 : List ℕ) (lr2 : ℕ) (f2 : Flags) (memory : List ℕ) → Inv (lent m (loan_of g o d)) y memory → StateFits g.image (works y low2 (base g + o) lr2 (at + entry_size fn (suc k)) f2 memory queues) → suc (length m.loans) ≤ 32 →
          Lent at (suc k) (lent m (loan_of g o d)) o (works y low2 (base g + o) lr2 (at + entry_size fn (suc k)) f2 memory queues) ds memory queues
          ⊎ RunsShort g Inv (Lacks (lent m (loan_of g o d)) o ds) ((2 + lend_steps) * (33 - length (lent m (loan_of g o d)).loans)) (works y low2 (base g + o) lr2 (at + entry_size fn (suc k)) f2 memory queues)) →
          length m.loans < 32 → Lent at k m o from (d ∷ ds) ram queues ⊎ RunsShort g Inv (Lacks m o (d ∷ ds)) ((2 + lend_steps) * (33 - length m.loans)) from
      lending u again v =
          let s = law.calls.lend m x led.low o lr pc1 led.flags ram queues (loan_of g o d) (here u) led.address led.number v ok.0.0 (omega (arith, al, rules.image.ram_aligned)) refl (omega arith) (omega (arith, ok.0.1, t)) in
          let runs1 = at_pc g s.count _ s.context s.low (base g + o) s.lr _ _ s.flags s.memory queues [] led.next s.runs in
          let r = again s.context s.low s.lr s.flags s.memory s.invariant (fits_pc g s.context s.low (base g + o) s.lr _ _ s.flags s.memory queues led.next s.fits) (omega (arith, v)) in
          let le = s.within in
          ⊎_elim
          (λ b. inl (joined u s.count s.context s.low s.lr s.flags s.memory (onward by_mpu g.image led.runs runs1) s.stays le b))
          (λ e. inr (behind g Inv _ (Lacks m o (d ∷ ds)) (2 + s.count) ((2 + lend_steps) * (33 - suc (length m.loans))) ((2 + lend_steps) * (33 - length m.loans)) from _
          (λ why. ⊎_elim (λ y. inl y) (λ y. inr (omega (arith, y))) why) (omega (arith, le, v)) (onward by_mpu g.image led.runs runs1) e))
          r
        where
          joined : g.stack + 32 ≤ o → (c : ℕ) (y : Context) (low2 : List ℕ) (lr2 : ℕ) (f2 : Flags) (memory : List ℕ) → Runs by_mpu g.image (2 + c) from (works y low2 (base g + o) lr2 (at + entry_size fn (suc k)) f2 memory queues) [] → Stays g o ram memory → c ≤ lend_steps →
              Lent at (suc k) (lent m (loan_of g o d)) o (works y low2 (base g + o) lr2 (at + entry_size fn (suc k)) f2 memory queues) ds memory queues → Lent at k m o from (d ∷ ds) ram queues
          joined u c y low2 lr2 f2 memory runs stays le b =
              let r = b.goes in
              let rw_ = r.within in
              let fw = b.few in
              let e2 : at + entry_size fn (suc k + length ds) ≡ at + entry_size fn (k + suc (length ds)) = let z : suc k + length ds ≡ k + suc (length ds) = omega arith in ap (λ (n : ℕ). at + entry_size fn n) z in
              record {
                few = omega (arith, fw);
                room = λ l. u;
                goes = record {
                  count = (2 + c) + r.count;
                  within = omega (arith, rw_, le);
                  context = r.context;
                  low = r.low;
                  lr = r.lr;
                  flags = r.flags;
                  memory = r.memory;
                  fits = fits_pc g r.context r.low (base g + o) r.lr _ _ r.flags r.memory queues e2 r.fits;
                  runs = at_pc g _ _ r.context r.low (base g + o) r.lr _ _ r.flags r.memory queues [] e2 (onward by_mpu g.image runs r.runs);
                  invariant = r.invariant;
                  stays = stays_on g o o o ram memory r.memory stays r.stays (omega arith) (omega arith);
                };
              }

  pub entered : (w : ℕ) → (frame_shape fn).words ≡ w → (m : MonitorBlock) (x : Context) (low : List ℕ) (o lr at : ℕ) (f : Flags) (arguments : List ℕ) (ram : List ℕ) (queues : List (List ℕ)) → Inv m x ram →
      StateFits g.image (works x low (base g + o + 4 * w + 4) lr at f ram queues) → o % 8 ≡ 0 → g.stack ≤ o → base g + o + 4 * w + 4 ≤ m.top → length arguments ≡ row_length fn.params → length arguments ≤ w →
      ((k : ℕ) → k < length arguments → get_or low k 0 ≡ get_or arguments k 0) → Owns g m.current labels at (entry_items fn q) → Lendable g w (lends_of fn q) → length m.loans ≤ 32 →
      IsEntered g Inv fn q (works x low (base g + o + 4 * w + 4) lr at f ram queues) m o w at arguments lr ram queues
      ⊎ RunsShort g Inv (LacksRoom g w (o + 4 * w + 4) (length m.loans + length (lends_of fn q))) (4 + w + (2 + lend_steps) * 33) (works x low (base g + o + 4 * w + 4) lr at f ram queues)
  entered w is m x low o lr at f arguments ram queues i ft al lo hi counts fewer agree code ok few =
      let tp = law.keeps.top_inside m x ram i in
      let a = frames g Inv law rules laws fn q labels w is m x low o lr at f arguments ram queues i ft (omega arith) lo hi counts fewer agree code in
      let i2 : Inv m x a.memory = inv_kept g Inv law rules laws m x ram a.memory o (o + 4 * w + 4) i a.kept (omega arith) (omega arith) in
      let ft2 = fits_after g Inv law rules laws a.count _ _ [] ft a.runs in
      let le = a.within in
      let ls = a.least in
      ⊎_elim
      (λ b.
      let y = b.goes in
      let yw = y.within in
      let safe = λ (k : ℕ) (l : k ≤ w). y.stays.reads 4 (o + 4 * k) (inr (omega arith), ⊎_elim (λ z. inr (omega arith)) (λ z. inl (omega arith)) rules.apart) in
      let e : at + entry_size fn (0 + length (lends_of fn q)) ≡ at + entry_size fn (length (lends_of fn q)) = let z : 0 + length (lends_of fn q) ≡ length (lends_of fn q) = omega arith in ap (λ (n : ℕ). at + entry_size fn n) z in
      inl (record {
        few = b.few;
        room = b.room;
        count = a.count + y.count;
        least = omega arith;
        within = omega arith;
        context = y.context;
        low = y.low;
        lr = y.lr;
        flags = y.flags;
        memory = y.memory;
        fits = fits_pc g y.context y.low (base g + o) y.lr _ _ y.flags y.memory queues e y.fits;
        runs = at_pc g _ _ y.context y.low (base g + o) y.lr _ _ y.flags y.memory queues [] e (onward by_mpu g.image a.runs y.runs);
        invariant = y.invariant;
        stays = stays_on g (o + 4 * w + 4) o (o + 4 * w + 4) ram a.memory y.memory (stays_kept g o (o + 4 * w + 4) (o + 4 * w + 4) ram a.memory a.kept (omega arith) (omega arith)) y.stays (omega arith) (omega arith);
        given = λ k l. safe k (omega arith) ∙ a.filled.given k l;
        cleared = λ k l u. safe k (omega arith) ∙ a.filled.cleared k l u;
        return_address = safe w (omega arith) ∙ a.filled.return_address;
      }))
      (λ e. inr (behind g Inv _ (LacksRoom g w (o + 4 * w + 4) (length m.loans + length (lends_of fn q))) a.count ((2 + lend_steps) * (33 - length m.loans)) (4 + w + (2 + lend_steps) * 33) _ _
      (λ why. ⊎_elim (λ y. inl (omega (arith, y))) (λ y. inr y) why) (omega arith) a.runs e))
      (lends w at 0 m x a.after o lr a.flags (lends_of fn q) a.memory queues i2 al lo (omega arith) ft2 code (omega arith)
      (λ j l. let z : 0 + j ≡ j = omega arith in ap (λ (n : ℕ). get_or (lends_of fn q) n no_lend) z) ok (omega arith) few)
