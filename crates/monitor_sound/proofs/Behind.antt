-- A thread behind an exception whose handler returns to it.
use Rattle.std.proofs.Common.{◌≡◌, ℕ, zero, suc, ◌+◌, ◌*◌, ◌/◌, ◌%◌, ◌^◌, ◌<◌, ◌≤◌, Bool, true, false, List, [], ◌∷◌, length, get_or, set, length-set, None, nat_eq, refl, sym, ap, ◌∙◌, subst, arith}
use Rattle.base_words.specs.Arithmetic.{word}
use Rattle.base_words.specs.Runs.{run}
use Rattle.machine_devices.specs.declared.image.Image.{Image}
use Rattle.machine_model.specs.declared.state.CoreRegisters.{CoreRegisters}
use Rattle.machine_model.specs.declared.state.FaultStatus.{FaultStatus}
use Rattle.machine_model.specs.State.{State, Turn, by_mpu}
use Rattle.machine_model.specs.Exceptions.{entered, is_thread, flags_of, with_pad}
use Rattle.machine_model.specs.Shape.{StateFits}
use Rattle.machine_model.specs.Step.{turn, step, event}
use Rattle.machine_model.proofs.Runs.{run_fits}
use Rattle.monitor_model.specs.declared.tables.Tables.{Tables}
use Rattle.monitor_model.specs.Placed.{Placed}
use Rattle.monitor_model.specs.Block.{MonitorBlock}
use Rattle.monitor_model.specs.Handlers.{Leads}
use Rattle.monitor_model.specs.Invariant.{IsOrderly, InvariantHolds}
use Rattle.monitor_model.specs.MonitorLaw.{GoesOn, ReturnsBy, Shows}
use Rattle.monitor_model.specs.Outcomes.{Resumes, stacked, status_place}
use Rattle.monitor_sound.proofs.ThreadLaws.{ThreadLaws}

-- so many steps without an event lead from the thread to where it goes on
pub record Behind (i : Image) (t : Tables) (s : State) (m : MonitorBlock) (most : ℕ) (b : MonitorBlock) (psp : ℕ) (memory : List ℕ) : Type 0 where
  pub count : ℕ
  pub least : 1 ≤ count
  pub within : count ≤ suc most
  pub quiet : (k : ℕ) → k < count → event i (run (step i) k s) ≡ None
  pub goes : GoesOn i t s (run (step i) count s) m b psp memory
  pub fits : StateFits i (run (step i) count s)

first_four : (low : List ℕ) (a b c d : ℕ) → length low ≡ 8 → let n : List ℕ = set (set (set (set low 0 a) 1 b) 2 c) 3 d in
    (get_or n 0 0 ≡ a) × (get_or n 1 0 ≡ b) × (get_or n 2 0 ≡ c) × (get_or n 3 0 ≡ d)
first_four [] a b c d h = absurd (omega (arith, h))
first_four (p ∷ []) a b c d h = absurd (omega (arith, h))
first_four (p ∷ q ∷ []) a b c d h = absurd (omega (arith, h))
first_four (p ∷ q ∷ r ∷ []) a b c d h = absurd (omega (arith, h))
first_four (p ∷ q ∷ r ∷ s ∷ low) a b c d h = (refl, refl, refl, refl)

last_set : (high : List ℕ) (a : ℕ) → length high ≡ 5 → get_or (set high 4 a) 4 0 ≡ a
last_set [] a h = absurd (omega (arith, h))
last_set (p ∷ []) a h = absurd (omega (arith, h))
last_set (p ∷ q ∷ []) a h = absurd (omega (arith, h))
last_set (p ∷ q ∷ r ∷ []) a h = absurd (omega (arith, h))
last_set (p ∷ q ∷ r ∷ s ∷ []) a h = absurd (omega (arith, h))
last_set (p ∷ q ∷ r ∷ s ∷ u ∷ high) a h = refl

word_small : (n : ℕ) → n < 2 ^ 32 → word n ≡ n
word_small n h = omega arith

module _ (laws : ThreadLaws) (i : Image) (t : Tables) (p : Placed i t) (s : State) (m : MonitorBlock) (h : InvariantHolds i t m s) where
  silent : (from : State) → step i s ≡ from → event i s ≡ None → (c : ℕ) → ((k : ℕ) → k < c → event i (run (step i) k from) ≡ None) → (k : ℕ) → k < suc c → event i (run (step i) k s) ≡ None
  unfolding run
  silent from to q c f zero lt = q
  silent from to q c f (suc k) lt = subst (λ (x : State). event i (run (step i) k x) ≡ None) (sym to) (f k (omega (arith, lt)))

  pub behind : (n ret most : ℕ) (u : FaultStatus) (b : MonitorBlock) (psp : ℕ) (memory old : List ℕ) → turn by_mpu i s ≡ entered true i n ret u s →
      Leads i t s most (entered true i n ret u s).to (Shows i t (Resumes b psp memory) s m old) → is_thread (stacked i psp memory status_place) ≡ true →
      Behind i t s m most b psp memory
  unfolding run
  behind n ret most u b psp memory old e l th =
      let to : step i s ≡ (entered true i n ret u s).to = ap (λ (x : Turn). x.to) e in
      let le = l.within in
      let g : GoesOn i t s (run (step i) l.count (entered true i n ret u s).to) m b psp memory =
      subst (λ (z : Bool). ReturnsBy z i t s (run (step i) l.count (entered true i n ret u s).to) m b psp memory) th l.holds in
      record {
        count = suc l.count;
        least = omega arith;
        within = omega (arith, le);
        quiet = silent (entered true i n ret u s).to to (ap (λ (x : Turn). x.event) e) l.count (λ k lt. (l.each k lt).quiet);
        goes = subst (λ (x : State). GoesOn i t s (run (step i) l.count x) m b psp memory) (sym to) g;
        fits = run_fits laws.shape by_mpu i p.rules (suc l.count) s h.fits;
      }

  module _ (most : ℕ) (b : MonitorBlock) (psp : ℕ) (memory : List ℕ) (x : Behind i t s m most b psp memory) where
    abbrev pub thread_then : State
    thread_then = run (step i) x.count s

    pub pc_is : thread_then.core.pc ≡ stacked i psp memory 6 / 2 * 2
    pc_is = ap (λ (c : CoreRegisters). c.pc) x.goes.core

    pub sp_is : nat_eq (stacked i psp memory 7 / 2 ^ 9 % 2) 1 ≡ false → psp + 32 < 2 ^ 32 → thread_then.core.sp ≡ psp + 32
    sp_is e small = ap (λ (c : CoreRegisters). c.sp) x.goes.core ∙ ap (λ (k : Bool). with_pad k (word (psp + 32))) e ∙ word_small (psp + 32) small

    pub lr_is : thread_then.core.lr ≡ stacked i psp memory 5
    lr_is = ap (λ (c : CoreRegisters). c.lr) x.goes.core

    pub flags_are : thread_then.core.flags ≡ flags_of (stacked i psp memory 7)
    flags_are = ap (λ (c : CoreRegisters). c.flags) x.goes.core

    pub on_psp : thread_then.core.on_psp ≡ true
    on_psp = ap (λ (c : CoreRegisters). c.on_psp) x.goes.core

    pub other_is : thread_then.core.other_sp ≡ t.monitor + 1024
    other_is = ap (λ (c : CoreRegisters). c.other_sp) x.goes.core ∙ x.goes.msp

    abbrev low_set : List ℕ
    low_set = set (set (set (set x.goes.handler.low 0 (stacked i psp memory 0)) 1 (stacked i psp memory 1)) 2 (stacked i psp memory 2)) 3 (stacked i psp memory 3)

    low_is : thread_then.core.low ≡ low_set
    low_is = ap (λ (c : CoreRegisters). c.low) x.goes.core

    low_eight : length x.goes.handler.low ≡ 8
    low_eight =
        sym (length-set (set (set (set x.goes.handler.low 0 (stacked i psp memory 0)) 1 (stacked i psp memory 1)) 2 (stacked i psp memory 2)) 3 (stacked i psp memory 3)
        ∙ length-set (set (set x.goes.handler.low 0 (stacked i psp memory 0)) 1 (stacked i psp memory 1)) 2 (stacked i psp memory 2)
        ∙ length-set (set x.goes.handler.low 0 (stacked i psp memory 0)) 1 (stacked i psp memory 1)
        ∙ length-set x.goes.handler.low 0 (stacked i psp memory 0))
        ∙ sym (ap length low_is) ∙ x.fits.core.low_count

    pub low_at : (k : ℕ) → k < 4 → get_or thread_then.core.low k 0 ≡ stacked i psp memory k
    low_at k lt =
        let f = first_four x.goes.handler.low (stacked i psp memory 0) (stacked i psp memory 1) (stacked i psp memory 2) (stacked i psp memory 3) low_eight in
        ap (λ (l : List ℕ). get_or l k 0) low_is ∙ by k lt f.0 f.1 f.2 f.3
      where
        by : (k : ℕ) → k < 4 → get_or low_set 0 0 ≡ stacked i psp memory 0 → get_or low_set 1 0 ≡ stacked i psp memory 1 → get_or low_set 2 0 ≡ stacked i psp memory 2 → get_or low_set 3 0 ≡ stacked i psp memory 3 →
            get_or low_set k 0 ≡ stacked i psp memory k
        by zero lt a b c d = a
        by (suc zero) lt a b c d = b
        by (suc (suc zero)) lt a b c d = c
        by (suc (suc (suc zero))) lt a b c d = d
        by (suc (suc (suc (suc k)))) lt a b c d = absurd (omega (arith, lt))

    high_is : thread_then.core.high ≡ set x.goes.handler.high 4 (stacked i psp memory 4)
    high_is = ap (λ (c : CoreRegisters). c.high) x.goes.core

    pub r12_is : get_or thread_then.core.high 4 0 ≡ stacked i psp memory 4
    r12_is =
        let five : length x.goes.handler.high ≡ 5 = sym (length-set x.goes.handler.high 4 (stacked i psp memory 4)) ∙ sym (ap length high_is) ∙ x.fits.core.high_count in
        ap (λ (l : List ℕ). get_or l 4 0) high_is ∙ last_set x.goes.handler.high (stacked i psp memory 4) five

    pub holds_again : IsOrderly t b → InvariantHolds i t b thread_then
    holds_again o = record {
      inv = record {
        is_block = x.goes.is_left.is_block;
        orderly = o;
        thread = x.goes.thread;
        unprivileged = x.goes.unprivileged;
        on_psp = on_psp;
        control = x.goes.control;
        regions = x.goes.regions;
        no_fault = x.goes.no_fault;
        enabled = x.goes.enabled ∙ h.inv.enabled;
        msp = other_is;
        high_five = x.fits.core.high_count;
        as_long = x.fits.ram_count;
      };
      fits = x.fits;
    }
