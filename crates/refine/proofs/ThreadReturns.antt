-- Returns, within a compartment and across.
use Rattle.std.proofs.Common.{◌≡◌, ℕ, suc, ◌+◌, ◌-◌, ◌*◌, ◌/◌, ◌%◌, ◌^◌, ◌<◌, ◌≤◌, Bool, true, false, nat_eq, nat_le, if◌then◌else◌, List, [], ◌∷◌, length, get_or, Option, Some, None, sym, ap, ◌∙◌, subst, arith, inl, inr, ⊎_elim}
use Rattle.base_words.specs.Bytes.{read, cut}
use Rattle.base_words.proofs.Bytes.{read_fits, cut_small}
use Rattle.base_words.specs.declared.conditions.Flags.{Flags}
use Rattle.machine_model.specs.State.{State, by_mpu}
use Rattle.machine_model.specs.Exceptions.{is_thread}
use Rattle.machine_model.specs.Shape.{StateFits}
use Rattle.machine_model.specs.Stack.{Room}
use Rattle.machine_model.specs.RunningCode.{Context, works}
use Rattle.machine_model.proofs.Exec.{stay, onward}
use Rattle.ir_model.specs.Resolved.{NumberedFunc, Ret}
use Rattle.code_model.specs.declared.places.Places.{Places}
use Rattle.code_model.specs.FrameShape.{frame_shape}
use Rattle.code_model.specs.Places.{Lend}
use Rattle.code_model.specs.Templates.{lends_of, term_items}
use Rattle.monitor_model.specs.Block.{MonitorBlock, lent, entered}
use Rattle.monitor_model.specs.Setting.{Setting}
use Rattle.monitor_model.specs.Threads.{lend_steps, base, stack_end}
use Rattle.monitor_model.specs.Law.{Law}
use Rattle.code_effects.specs.Points.{Point, AreAsKnown}
use Rattle.code_effects.specs.Calls.{IsBelow, keep_steps}
use Rattle.code_effects.specs.Returns.{return_steps, result_known}
use Rattle.code_effects.proofs.Registers.{holds_nothing, known_holds}
use Rattle.refine.specs.CodeLaws.{CodeLaws}
use Rattle.refine.specs.Owned.{owner, Owns, MemoryRules, loan_of, all_lent}
use Rattle.refine.proofs.Thread.{call_owned, at_pc, to_sp, fits_pc, fits_sp, fits_after, runs_here, room, stays_none, stays_on}
use Rattle.refine.specs.Begun.{Goes}

-- what r0 holds behind a return of word r of a frame
abbrev pub IsResult : Option ℕ → (o : ℕ) → (ram low : List ℕ) → Type 0
IsResult None o ram low = Unit {0}
IsResult (Some r) o ram low = get_or low 0 0 ≡ read 4 (o + 4 * r) ram

result_held : (r : Option ℕ) (o : ℕ) (p : Point) (low : List ℕ) → AreAsKnown (result_known o p r) low → IsResult r o p.ram low
result_held None o p low h = tt
result_held (Some r) o p low h = known_holds (read 4 (o + 4 * r) p.ram ∷ []) low h 0 (omega arith)

result_same : (r : Option ℕ) (o w : ℕ) (old new low : List ℕ) → ((k : ℕ) → k < w → read 4 (o + 4 * k) new ≡ read 4 (o + 4 * k) old) → IsBelow w r → IsResult r o new low → IsResult r o old low
result_same None o w old new low e b h = tt
result_same (Some r) o w old new low e b h = h ∙ e r b

result_cut : (r : Option ℕ) (o : ℕ) (ram low after : List ℕ) → get_or after 0 0 ≡ cut 4 (get_or low 0 0) → IsResult r o ram low → IsResult r o ram after
result_cut None o ram low after e h = tt
result_cut (Some r) o ram low after e h = e ∙ ap (λ (v : ℕ). cut 4 v) h ∙ cut_small 4 (read 4 (o + 4 * r) ram) (read_fits 4 (o + 4 * r) ram)

steps_of : (w : ℕ) (r : Option ℕ) → (1 ≤ return_steps w r) × (return_steps w r ≤ 4)
steps_of w r = by (nat_le w 127) r
  where
    by : (b : Bool) (r : Option ℕ) → (1 ≤ keep_steps r + (if b then 2 else 3)) × (keep_steps r + (if b then 2 else 3) ≤ 4)
    by true None = (omega arith, omega arith)
    by true (Some k) = (omega arith, omega arith)
    by false None = (omega arith, omega arith)
    by false (Some k) = (omega arith, omega arith)

pub result_below_more : (m n : ℕ) (r : Option ℕ) → m ≤ n → IsBelow m r → IsBelow n r
result_below_more m n None l b = tt
result_below_more m n (Some k) l b = omega arith

module _ (g : Setting) (Inv : MonitorBlock → Context → List ℕ → Type 0) where
  -- behind the return
  pub record Left (most : ℕ) (from : State) (m : MonitorBlock) (o sp pc below : ℕ) (r : Option ℕ) (ram : List ℕ) (queues : List (List ℕ)) : Type 0 where
    pub goes : Goes g Inv most from m sp pc below ram queues
    pub least : 1 ≤ goes.count
    pub result : IsResult r o ram goes.low

module _ (g : Setting) (Inv : MonitorBlock → Context → List ℕ → Type 0) (law : Law g Inv) (rules : MemoryRules g) (laws : CodeLaws) (fn : NumberedFunc) (q : Places) (labels : List (Option ℕ)) (first : ℕ) where
  pub unlends : (m : MonitorBlock) (x : Context) (low : List ℕ) (o lr at : ℕ) (f : Flags) (ds : List Lend) (r : Option ℕ) (ram : List ℕ) (queues : List (List ℕ)) → Inv (all_lent g o m ds) x ram → o % 8 ≡ 0 → g.stack ≤ o → base g + o ≤ m.top → (1 ≤ length ds → g.stack + 32 ≤ o) →
      StateFits g.image (works x low (base g + o) lr at f ram queues) → length ds ≤ length (lends_of fn q) → Owns g m.current labels at (term_items fn q first (Ret r)) → m.mark ≤ length m.loans →
      Goes g Inv (lend_steps * length ds) (works x low (base g + o) lr at f ram queues) m (base g + o) (at + 2 * length ds) o ram queues
  unlends m x low o lr at f [] r ram queues i al lo hi more ft few code mark =
      let e : at ≡ at + 2 * 0 = omega arith in
      record {
        count = 0;
        within = omega arith;
        context = x;
        low = low;
        lr = lr;
        flags = f;
        memory = ram;
        fits = fits_pc g x low (base g + o) lr _ _ f ram queues e ft;
        runs = at_pc g 0 _ x low (base g + o) lr _ _ f ram queues [] e (stay by_mpu g.image);
        invariant = i;
        stays = stays_none g o ram;
      }
  unlends m x low o lr at f (d ∷ ds) r ram queues i al lo hi more ft few code mark =
      let room : g.stack + 32 ≤ o = more (omega arith) in
      let u = unlends (lent m (loan_of g o d)) x low o lr at f ds r ram queues i al lo hi (λ l. room) ft (omega arith) code (omega arith) in
      let pc1 : ℕ = at + 2 * length ds in
      let p : Point = record { context = u.context; registers = []; sp = base g + o; lr = u.lr; pc = pc1; ram = u.memory; queues = queues } in
      let stands = (laws.returns (owner g m.current) g.image fn q labels first p o at).unlend_stands r (length ds) (omega arith) (code.stands u.context.protection) in
      let own : g.has_code m.current pc1 ≡ true = call_owned g m.current u.context.protection pc1 3 stands in
      let s = law.calls.unlend m (loan_of g o d) u.context u.low o u.lr pc1 u.flags u.memory queues (record { invariant = u.invariant; room = record { aligned = al; low = room; high = hi }; fits = u.fits; lies = stands.lies; owned = own }) mark in
      let e : pc1 + 2 ≡ at + 2 * suc (length ds) = omega arith in
      record {
        count = u.count + s.count;
        within = let a = u.within in let b = s.within in omega arith;
        context = s.context;
        low = s.low;
        lr = s.lr;
        flags = s.flags;
        memory = s.memory;
        fits = fits_pc g s.context s.low (base g + o) s.lr _ _ s.flags s.memory queues e s.fits;
        runs = at_pc g _ _ s.context s.low (base g + o) s.lr _ _ s.flags s.memory queues [] e (onward by_mpu g.image u.runs s.runs);
        invariant = s.invariant;
        stays = stays_on g o o o ram u.memory s.memory u.stays s.stays (omega arith) (omega arith);
      }

  -- to the word above the frame
  pub returns : (w : ℕ) → (frame_shape fn).words ≡ w → (m : MonitorBlock) (x : Context) (low : List ℕ) (o lr at to : ℕ) (f : Flags) (r : Option ℕ) (ram : List ℕ) (queues : List (List ℕ)) → Inv (all_lent g o m (lends_of fn q)) x ram → o % 8 ≡ 0 → g.stack ≤ o → base g + o ≤ m.top → (1 ≤ length (lends_of fn q) → g.stack + 32 ≤ o) →
      StateFits g.image (works x low (base g + o) lr at f ram queues) → base g + o + 4 * w + 4 ≤ m.top → m.mark ≤ length m.loans → IsBelow w r → Owns g m.current labels at (term_items fn q first (Ret r)) → read 4 (o + 4 * w) ram ≡ to + 1 → to % 2 ≡ 0 →
      Left g Inv (4 + lend_steps * length (lends_of fn q)) (works x low (base g + o) lr at f ram queues) m o (base g + o + 4 * w + 4) to o r ram queues
  returns w is m x low o lr at to f r ram queues i oa ol oh more ft hi mark below code back even =
      let u = unlends m x low o lr at f (lends_of fn q) r ram queues i oa ol oh more ft (omega arith) code mark in
      let tp = law.keeps.top_inside m u.context u.memory u.invariant in
      let p : Point = record { context = u.context; registers = []; sp = base g + o; lr = u.lr; pc = at; ram = u.memory; queues = queues } in
      let has = runs_here g Inv law rules laws m u.context u.memory labels at (term_items fn q first (Ret r)) u.invariant code in
      let rm0 = room g Inv law rules laws m u.context u.memory o (w + 1) u.invariant (omega arith) (omega arith) (omega arith) in
      let rm = subst (λ (n : ℕ). Room by_mpu g.image u.context.protection (base g + o) o (n + 1)) (sym is) rm0 in
      let same = λ (k : ℕ) (l : k ≤ w). u.stays.reads 4 (o + 4 * k) (inr (omega arith), ⊎_elim (λ y. inr (omega arith)) (λ y. inl (omega arith)) rules.apart) in
      let b1 = subst (λ (n : ℕ). IsBelow (n + 1) r) (sym is) (result_below_more w (w + 1) r (omega arith) below) in
      let back1 : read 4 (o + 4 * (frame_shape fn).words) u.memory ≡ to + 1 = ap (λ (n : ℕ). read 4 (o + 4 * n) u.memory) is ∙ same w (omega arith) ∙ back in
      let led = ((laws.returns by_mpu g.image fn q labels first p o at).leave r to rm b1 back1 even has).arrives u.low u.flags (holds_nothing u.low u.fits.core.low_count) in
      let z : base g + o + 4 * ((frame_shape fn).words + 1) ≡ base g + o + 4 * w + 4 = ap (λ (n : ℕ). base g + o + 4 * (n + 1)) is ∙ omega arith in
      let steps = steps_of (frame_shape fn).words r in
      let runs = onward by_mpu g.image u.runs (to_sp g (return_steps (frame_shape fn).words r) _ u.context led.low _ _ u.lr to led.flags u.memory queues [] z led.runs) in
      record {
        goes = record {
          count = u.count + return_steps (frame_shape fn).words r;
          within = let a = u.within in let c = steps.1 in omega arith;
          context = u.context;
          low = led.low;
          lr = u.lr;
          flags = led.flags;
          memory = u.memory;
          fits = fits_after g Inv law rules laws _ _ _ [] ft runs;
          runs = runs;
          invariant = u.invariant;
          stays = u.stays;
        };
        least = let c = steps.0 in omega arith;
        result = result_same r o w ram u.memory led.low (λ k l. same k (omega arith)) below (result_held r o p led.low led.holds);
      }

  -- back to another compartment's function, through the stub
  pub leaves : (w : ℕ) → (frame_shape fn).words ≡ w → (m : MonitorBlock) (x : Context) (low : List ℕ) (c top oc o lr at ret status : ℕ) (f : Flags) (r : Option ℕ) (ram : List ℕ) (queues : List (List ℕ)) →
      let m1 : MonitorBlock = entered m c (base g + top) (base g + oc - 32) in
      Inv (all_lent g o m1 (lends_of fn q)) x ram → StateFits g.image (works x low (base g + o) lr at f ram queues) → o % 8 ≡ 0 → g.stack ≤ o → (1 ≤ length (lends_of fn q) → g.stack + 32 ≤ o) → g.stack + 32 ≤ top → o + 4 * w + 4 ≡ top → top % 8 ≡ 0 → top ≤ oc - 32 → 32 ≤ oc → oc ≤ stack_end g → length (lends_of fn q) ≤ 32 →
      IsBelow w r → Owns g c labels at (term_items fn q first (Ret r)) → read 4 (o + 4 * w) ram ≡ g.stub + 1 → g.stub % 2 ≡ 0 →
      read 4 (oc - 8) ram ≡ ret → read 4 (oc - 4) ram ≡ status → ret % 2 ≡ 0 → is_thread status ≡ true → nat_eq (status / 2 ^ 9 % 2) 1 ≡ false →
      Left g Inv 16000 (works x low (base g + o) lr at f ram queues) m o (base g + oc) ret oc r ram queues
  leaves w is m x low c top oc o lr at ret status f r ram queues i ft ao lo more deep ends at8 under big inside few below code back even sret sstat reven thread no_pad =
      let m1 : MonitorBlock = entered m c (base g + top) (base g + oc - 32) in
      let a = returns w is m1 x low o lr at g.stub f r ram queues i ao lo (omega arith) more ft (omega arith) (omega arith) below code back even in
      let ag = a.goes in
      let z : base g + o + 4 * w + 4 ≡ base g + top = omega arith in
      let keep = λ (k : ℕ) (l : 4 ≤ k) (u : k ≤ 8). ag.stays.reads 4 (oc - k) (inr (omega arith), ⊎_elim (λ y. inr (omega arith)) (λ y. inl (omega arith)) rules.apart) in
      let v = law.calls.leave m c top oc ag.context ag.low ag.lr ag.flags ag.memory queues ret status ag.invariant (record { aligned = at8; low = omega arith; high = omega arith })
      (fits_sp g ag.context ag.low _ _ ag.lr g.stub ag.flags ag.memory queues z ag.fits) (omega arith)
      (keep 8 (omega arith) (omega arith) ∙ sret) (keep 4 (omega arith) (omega arith) ∙ sstat) reven thread no_pad in
      let u = v.resumes in
      record {
        goes = record {
          count = ag.count + u.count;
          within = let y = ag.within in let t = u.within in omega arith;
          context = u.context;
          low = u.low;
          lr = u.lr;
          flags = u.flags;
          memory = u.memory;
          fits = u.fits;
          runs = onward by_mpu g.image (to_sp g ag.count _ ag.context ag.low _ _ ag.lr g.stub ag.flags ag.memory queues [] z ag.runs) u.runs;
          invariant = u.invariant;
          stays = stays_on g o oc oc ram ag.memory u.memory ag.stays u.stays (omega arith) (omega arith);
        };
        least = let y = a.least in omega arith;
        result = result_cut r o ram ag.low u.low v.result a.result;
      }
