-- Start-up, in the words of a simulation: from reset to `main`, with the initial words in place.
use Rattle.std.proofs.Common.{◌≡◌, ℕ, ◌+◌, ◌-◌, ◌<◌, ◌≤◌, ◌⊎◌, inl, inr, ⊎_elim, List, [], None, sym, ap, ◌∙◌, subst, arith}
use Rattle.std.proofs.lemmas.Bool.{cases_lt}
use Rattle.base_words.specs.Bytes.{read}
use Rattle.base_words.specs.Runs.{run}
use Rattle.machine_devices.specs.declared.image.Image.{Image}
use Rattle.machine_devices.specs.Rules.{block_size}
use Rattle.machine_model.specs.State.{State}
use Rattle.base_laws.specs.Lists.{Each}
use Rattle.machine_model.specs.Reset.{IsReset}
use Rattle.machine_model.specs.Shape.{StateFits}
use Rattle.machine_model.specs.Step.{step, event}
use Rattle.machine_model.specs.RunningCode.{works}
use Rattle.monitor_model.specs.declared.tables.InitRecord.{InitRecord}
use Rattle.monitor_model.specs.declared.tables.Tables.{Tables}
use Rattle.monitor_model.specs.Placed.{Placed}
use Rattle.monitor_model.specs.Block.{MonitorBlock, first_block}
use Rattle.monitor_model.specs.Invariant.{Invariant, context_of}
use Rattle.monitor_model.specs.MonitorCode.{MonitorCode}
use Rattle.monitor_model.specs.Promises.{RangesAreApart}
use Rattle.monitor_model.specs.Starts.{Starts, StartsFrom, with_all_words}
use Rattle.monitor_model.specs.Setting.{Setting, setting_of}
use Rattle.monitor_model.specs.Threads.{Begins}
use Rattle.monitor_model.specs.Threads as threads
use Rattle.monitor_sound.specs.Simulation.{IsRange}
use Rattle.monitor_sound.proofs.ThreadLaws.{ThreadLaws}
use Rattle.monitor_sound.proofs.Places.{end_is}
use Rattle.monitor_sound.proofs.Resumed.{works_of, quiet_runs}
use Rattle.monitor_sound.proofs.Copied.{all_copied, each_kept}

before : (main pc : ℕ) → pc + 1 ≡ main → pc ≡ main - 1
before main pc e = omega arith

off_range : (rb at end mon a w : ℕ) → rb ≤ mon → at ≤ rb + a → rb + a + w ≤ end → (at + (end - at) ≤ mon) ⊎ (mon + block_size ≤ at) → (a + w ≤ mon - rb + 0) ⊎ (mon - rb + block_size ≤ a)
off_range rb at end mon a w b lo hi (inl h) = inl (omega (arith, b, lo, hi, h))
off_range rb at end mon a w b lo hi (inr h) = inr (omega (arith, b, lo, hi, h))

module _ (laws : ThreadLaws) (code : MonitorCode) (i : Image) (t : Tables) (p : Placed i t) (starts : Starts i t (code.stub t)) (ranges : Each (IsRange i t) t.inits) (apart : RangesAreApart t.inits) where
  abbrev g : Setting
  g = setting_of code i t

  module _ (queues : List (List ℕ)) (first : State) (r : IsReset i queues first) where
    from : StartsFrom i t (code.stub t) first
    from = starts queues first r

    abbrev count : ℕ
    count = from.start_up.count + 3

    abbrev u : State
    u = run (step i) count first

    silent : (k : ℕ) → k < count → event i (run (step i) k first) ≡ None
    silent k lt = ⊎_elim (λ x. from.start_up.quiet k x) (λ x. from.quiet k x lt) (cases_lt k from.start_up.count)

    block_is : first_block t ≡ threads.first_block g
    block_is = ap (λ (a : ℕ). let b : MonitorBlock = record { current = t.main_comp; top = a; mark = 0; saved = []; loans = [] } in b) (sym (end_is i t p))

    is_there : u ≡ works (context_of u) u.core.low (i.ram_base + threads.stack_end g) (code.stub t + 1) (t.main - 1) u.core.flags u.ram queues
    is_there = works_of u (i.ram_base + threads.stack_end g) (code.stub t + 1) (t.main - 1) queues (from.at_main.sp ∙ sym (end_is i t p)) from.at_main.lr (before t.main u.core.pc from.at_main.pc)
        (from.still_begun.queues ∙ r.queues_are) from.at_main.ending

    -- what start-up leaves of a range
    kept : (n : InitRecord) → IsRange i t n →
        ((w a : ℕ) → n.at ≤ i.ram_base + a → i.ram_base + a + w ≤ n.end → read w a (with_all_words i t.inits first.ram) ≡ read w (n.from - i.flash_base + (i.ram_base + a - n.at)) i.flash) →
        (w a : ℕ) → n.at ≤ i.ram_base + a → i.ram_base + a + w ≤ n.end → read w a u.ram ≡ read w (n.from - i.flash_base + (i.ram_base + a - n.at)) i.flash
    kept n r f w a lo hi = from.still_begun.memory.reads w a (off_range i.ram_base n.at n.end t.monitor a w p.block_inside.0 lo hi r.off_block) ∙ f w a lo hi

    pub begins : Begins g (Invariant i t) queues first
    begins = record {
      count = count;
      within = (let x = from.start_up.within in omega (arith, x));
      context = context_of u;
      low = u.core.low;
      flags = u.core.flags;
      memory = u.ram;
      fits = subst (λ (z : State). StateFits i z) is_there from.still_begun.holds.fits;
      runs = quiet_runs i count first (works (context_of u) u.core.low (i.ram_base + threads.stack_end g) (code.stub t + 1) (t.main - 1) u.core.flags u.ram queues) silent is_there;
      invariant = subst (λ (b : MonitorBlock). Invariant i t b (context_of u) u.ram) block_is from.still_begun.holds.inv;
      copied = each_kept i t
          (λ (n : InitRecord). (w a : ℕ) → n.at ≤ i.ram_base + a → i.ram_base + a + w ≤ n.end → read w a (with_all_words i t.inits first.ram) ≡ read w (n.from - i.flash_base + (i.ram_base + a - n.at)) i.flash)
          (λ (n : InitRecord). (w a : ℕ) → n.at ≤ i.ram_base + a → i.ram_base + a + w ≤ n.end → read w a u.ram ≡ read w (n.from - i.flash_base + (i.ram_base + a - n.at)) i.flash)
          t.inits kept ranges (all_copied i t t.inits first.ram r.fits.ram_count ranges apart);
    }
