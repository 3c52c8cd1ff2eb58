-- Accesses by a loan, in the words of a simulation.
use Rattle.std.proofs.Common.{◌≡◌, ℕ, zero, suc, ◌+◌, ◌-◌, ◌%◌, ◌<◌, ◌≤◌, ◌⊎◌, inl, inr, Bool, true, List, [], ◌∷◌, length, get_or, set, None, refl, sym, ap, ◌∙◌, subst, arith}
use Rattle.base_words.specs.declared.conditions.Flags.{Flags}
use Rattle.base_words.specs.Bytes.{read, write}
use Rattle.base_words.specs.Runs.{run}
use Rattle.machine_thumb.specs.declared.table.Instr.TheVariants.{TransferImmediate}
use Rattle.machine_devices.specs.declared.image.Image.{Image}
use Rattle.machine_devices.specs.Rules.{block_size}
use Rattle.machine_bus.specs.Locations.{location, InRam}
use Rattle.machine_bus.proofs.Offsets.{ram_at}
use Rattle.machine_model.specs.declared.state.CoreRegisters.{CoreRegisters}
use Rattle.machine_model.specs.State.{State}
use Rattle.machine_model.specs.AccessLaw.{free}
use Rattle.machine_model.specs.Confinement.{AnyOf}
use Rattle.machine_model.specs.Shape.{StateFits}
use Rattle.machine_model.specs.Step.{turn, step}
use Rattle.machine_model.specs.RunningCode.{Context, works, IsStore, IsLoad}
use Rattle.monitor_model.specs.declared.tables.Tables.{Tables}
use Rattle.monitor_model.specs.Placed.{Placed}
use Rattle.monitor_model.specs.Block.{MonitorBlock, Loan}
use Rattle.monitor_model.specs.BlockWords.{words_end}
use Rattle.monitor_model.specs.Invariant.{Invariant, InvariantHolds, context_of}
use Rattle.monitor_model.specs.MonitorCode.{MonitorCode}
use Rattle.monitor_model.specs.MonitorLaw.{MonitorLaw}
use Rattle.monitor_model.specs.AccessLaw.{IsLentWhole, IsAlike, HasEffect}
use Rattle.monitor_model.specs.Setting.{Setting, setting_of, has_loan, has_read_loan}
use Rattle.monitor_model.specs.Threads.{access_steps, KeepsOff, OffFrame, IsLentTo, AtInstr, Resumes}
use Rattle.monitor_sound.proofs.ThreadLaws.{ThreadLaws}
use Rattle.monitor_sound.proofs.Outcomes.{HoldsByte}
use Rattle.monitor_sound.proofs.Lent.{lent_store, lent_load, alone, stored_state, load_alone, loaded_state}
use Rattle.monitor_sound.proofs.Places.{room_of, ram_low}
use Rattle.monitor_sound.proofs.Resumed.{works_of, quiet_runs}

-- a loan that holds all of the access holds each byte of it
any_byte : (has : ℕ → Bool) (a w k : ℕ) (ls : List Loan) → k < w → AnyOf (λ (l : Loan). (has l.number ≡ true) × (l.address ≤ a) × (a + w ≤ l.end)) ls → AnyOf (HoldsByte has (a + k)) ls
any_byte has a w k [] lt f = f
any_byte has a w k (l ∷ ls) lt (inl f) = let x = f.1 in let y = f.2 in inl (f.0, (omega (arith, x)), (omega (arith, y, lt)))
any_byte has a w k (l ∷ ls) lt (inr f) = inr (any_byte has a w k ls lt f)

off_sp : (rb c o a w : ℕ) → rb + c ≡ a → (c + w + 32 ≤ o) ⊎ (o ≤ c) → (a + w + 32 ≤ rb + o) ⊎ (rb + o ≤ a)
off_sp rb c o a w e (inl h) = inl (omega (arith, e, h))
off_sp rb c o a w e (inr h) = inr (omega (arith, e, h))

-- the law's ranges as addresses
pub to_stack : (rb st base a w o : ℕ) → rb + st ≡ base → (a + w ≤ st) ⊎ (o ≤ a) → (rb + a + w ≤ base) ⊎ (rb + o ≤ rb + a)
to_stack rb st base a w o e (inl h) = inl (omega (arith, e, h))
to_stack rb st base a w o e (inr h) = inr (omega (arith, h))

pub to_block : (rb b mon a w : ℕ) → rb + b ≡ mon → (a + w ≤ b) ⊎ (b + block_size ≤ a) → (rb + a + w ≤ mon + words_end) ⊎ (mon + block_size ≤ rb + a)
to_block rb b mon a w e (inl h) = inl (omega (arith, e, h))
to_block rb b mon a w e (inr h) = inr (omega (arith, e, h))

module _ (laws : ThreadLaws) (code : MonitorCode) (i : Image) (t : Tables) (p : Placed i t) (law : MonitorLaw i t (code.stub t)) where
  abbrev g : Setting
  g = setting_of code i t

  -- behind the instruction, by its effect
  nothing_run : (s : State) → (run (step i) 0 s).core.pc ≡ s.core.pc
  unfolding run
  nothing_run s = refl

  pub none_run : (s : State) (k : ℕ) → k ≡ 0 → (run (step i) k s).core.pc ≡ s.core.pc
  none_run s k e = ap (λ (n : ℕ). (run (step i) n s).core.pc) e ∙ nothing_run s

  unfoldable pub effected : (s : State) (m : MonitorBlock) (h : InvariantHolds i t m s) (v : State) (x : HasEffect i t m s) → (turn free i s).to ≡ v → v.core.pc ≡ s.core.pc + 2 → v.core.sp ≡ s.core.sp → v.queues ≡ s.queues → v.ending ≡ None →
      (sp pc below : ℕ) → s.core.sp ≡ sp → s.core.pc ≡ pc → i.ram_base + below ≡ sp → Resumes g (Invariant i t) access_steps s m sp (pc + 2) below v.ram s.queues
  effected s m h v x leads next same_sp same_queues on sp pc below is_sp is_pc is_below =
      let u : State = run (step i) x.count s in
      let a : IsAlike i t v u = subst (λ (z : State). IsAlike i t z u) leads x.alike in
      let at_sp : u.core.sp ≡ sp = ap (λ (c : CoreRegisters). c.sp) a.rest ∙ same_sp ∙ is_sp in
      let at_pc : u.core.pc ≡ pc + 2 = ap (λ (c : CoreRegisters). c.pc) a.rest ∙ next ∙ ap (λ (n : ℕ). n + 2) is_pc in
      let is : u ≡ works (context_of u) u.core.low sp u.core.lr (pc + 2) u.core.flags u.ram s.queues = works_of u sp u.core.lr (pc + 2) s.queues at_sp refl at_pc (a.queues ∙ same_queues) (a.ending ∙ on) in
      record {
        count = x.count;
        least = some x.count refl at_pc;
        within = x.within;
        context = context_of u;
        low = u.core.low;
        lr = u.core.lr;
        flags = u.core.flags;
        memory = u.ram;
        fits = subst (λ (z : State). StateFits i z) is x.holds.fits;
        runs = quiet_runs i x.count s (works (context_of u) u.core.low sp u.core.lr (pc + 2) u.core.flags u.ram s.queues) x.quiet is;
        invariant = x.holds.inv;
        stays = record { reads = kept a; as_long = a.as_long };
      }
    where
      -- no run of no steps comes to another address
      some : (k : ℕ) → x.count ≡ k → (run (step i) x.count s).core.pc ≡ pc + 2 → 1 ≤ x.count
      some zero e at = absurd (let z : s.core.pc ≡ pc + 2 = sym (none_run s x.count e) ∙ at in omega (arith, z, is_pc))
      some (suc k) e at = omega (arith, e)

      kept : IsAlike i t v (run (step i) x.count s) → (w a : ℕ) → KeepsOff g below a w → read w a (run (step i) x.count s).ram ≡ read w a v.ram
      kept al w a k =
          let rl = ram_low i t p in
          let mon = p.block_inside.0 in
          let stack : i.ram_base + (t.stack.base - i.ram_base) ≡ t.stack.base = omega (arith, rl) in
          let block : i.ram_base + (t.monitor - i.ram_base) ≡ t.monitor = omega (arith, mon) in
          let here : i.ram_base + a - i.ram_base ≡ a = omega arith in
          let above : v.core.sp ≡ i.ram_base + below = same_sp ∙ is_sp ∙ sym is_below in
          let stack_at : (i.ram_base + a + w ≤ t.stack.base) ⊎ (v.core.sp ≤ i.ram_base + a) =
          subst (λ (n : ℕ). (i.ram_base + a + w ≤ t.stack.base) ⊎ (n ≤ i.ram_base + a)) (sym above) (to_stack i.ram_base (t.stack.base - i.ram_base) t.stack.base a w below stack k.0) in
          subst (λ (n : ℕ). read w n (run (step i) x.count s).ram ≡ read w n v.ram) here
          (al.ram w (i.ram_base + a) (omega arith) stack_at (to_block i.ram_base (t.monitor - i.ram_base) t.monitor a w block k.1))

  module _ (m : MonitorBlock) (x : Context) (low : List ℕ) (o lr pc : ℕ) (f : Flags) (ram : List ℕ) (queues : List (List ℕ)) (op w a c : ℕ)
      (z : AtInstr g (Invariant i t) m x low o lr pc f ram queues (TransferImmediate op 0 1 0))
      (r1 : get_or low 1 0 ≡ a) (aligned : a % w ≡ 0) (there : location i a ≡ InRam c) (off : OffFrame g o c w) where
    abbrev pub s : State
    s = works x low (i.ram_base + o) lr pc f ram queues

    pub held : InvariantHolds i t m s
    held = record { inv = z.invariant; fits = z.fits }

    pub whole_loan : (has : ℕ → Bool) → IsLentTo g has m a w → IsLentWhole i t m has w s
    whole_loan has lent = record {
      aligned = ap (λ (n : ℕ). n % w) r1 ∙ aligned;
      bytes = λ k lt. subst (λ (n : ℕ). AnyOf (HoldsByte has (n + k)) m.loans) (sym r1) (any_byte has a w k m.loans lt lent);
      off_frame = off_sp i.ram_base c o (get_or low 1 0) w ((ram_at i a c there).0 ∙ sym r1) off;
      room = room_of laws code i t p m x low o lr pc f ram queues z.room;
    }

    offset_is : get_or low 1 0 - i.ram_base ≡ c
    offset_is = let e = (ram_at i a c there).0 in omega (arith, e, r1)

    pub stores : IsStore op w → IsLentTo g (has_loan t m.current) m a w →
        Resumes g (Invariant i t) access_steps s m (i.ram_base + o) (pc + 2) o (write w c (get_or low 0 0) ram) queues
    stores is lent =
        let l = whole_loan (has_loan t m.current) lent in
        let e = lent_store laws i t p (code.stub t) law m s held refl op w is z.lies z.owned l in
        let v : State = stored_state laws i t p (code.stub t) law m s held refl op w is z.lies z.owned l in
        let r = effected s m held v e (alone laws i t p (code.stub t) law m s held refl op w is z.lies z.owned l) refl refl refl refl (i.ram_base + o) pc o refl refl refl in
        subst (λ (n : ℕ). Resumes g (Invariant i t) access_steps s m (i.ram_base + o) (pc + 2) o (write w n (get_or low 0 0) ram) queues) offset_is r

    pub loads : IsLoad op w → IsLentTo g (has_read_loan i t m.current) m a w →
        (h : Resumes g (Invariant i t) access_steps s m (i.ram_base + o) (pc + 2) o ram queues) × (get_or h.low 0 0 ≡ read w c ram)
    unfolding effected
    loads is lent =
        let l = whole_loan (has_read_loan i t m.current) lent in
        let e = lent_load laws i t p (code.stub t) law m s held refl op w is z.lies z.owned l in
        let v : State = loaded_state laws i t p (code.stub t) law m s held refl op w is z.lies z.owned l in
        let same = load_alone laws i t p (code.stub t) law m s held refl op w is z.lies z.owned l in
        let alike : IsAlike i t v (run (step i) e.count s) = subst (λ (q : State). IsAlike i t q (run (step i) e.count s)) same e.alike in (
          effected s m held v e same refl refl refl refl (i.ram_base + o) pc o refl refl refl,
          alike.low 0 (omega arith) ∙ first low (read w (get_or low 1 0 - i.ram_base) ram) z.fits.core.low_count ∙ ap (λ (n : ℕ). read w n ram) offset_is,
        )
      where
        first : (l : List ℕ) (n : ℕ) → length l ≡ 8 → get_or (set l 0 n) 0 0 ≡ n
        first [] n h = absurd (omega (arith, h))
        first (y ∷ ys) n h = refl
