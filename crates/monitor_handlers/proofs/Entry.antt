-- The state at the handler's first instruction: the frame is pushed, and the monitor's block is as before.
use Rattle.std.proofs.Common.{◌≡◌, ℕ, ◌+◌, ◌-◌, ◌*◌, ◌/◌, ◌%◌, ◌^◌, ◌<◌, ◌≤◌, inl, inr, ⊎_elim, Bool, true, false, List, [], ◌∷◌, length, get_or, None, refl, sym, ap, ◌∙◌, subst, arith}
use Rattle.base_words.specs.Bytes.{read, write_all}
use Rattle.base_words.proofs.Bytes.{length-write_all, read_apart_all, read_all, cut_small}
use Rattle.machine_protection.specs.declared.region.Access.TheVariants.{Write}
use Rattle.machine_protection.specs.Protection.{permits}
use Rattle.machine_devices.specs.declared.image.Image.{Image}
use Rattle.base_ranges.specs.Ranges.{AreApart}
use Rattle.machine_devices.specs.Rules.{block_size}
use Rattle.machine_bus.specs.Locations.{choose}
use Rattle.machine_model.specs.declared.state.ProtectionState.{ProtectionState}
use Rattle.machine_model.specs.declared.state.FaultStatus.{FaultStatus}
use Rattle.machine_model.specs.State.{State, by_mpu}
use Rattle.machine_model.specs.Exceptions.{entered as entry, frame_at, frame_of, vector, return_on_psp, return_on_msp, is_frame_open}
use Rattle.machine_model.specs.EntryFrame.{OpenFrame, OpenFramesAreWords}
use Rattle.machine_model.specs.Shape.{StateFits, StatusFits, EachWord}
use Rattle.machine_model.specs.Code.{live}
use Rattle.monitor_steps.specs.Runs.{Scratch, at}
use Rattle.monitor_model.specs.declared.tables.Tables.{Tables}
use Rattle.monitor_model.specs.Records.{nobody}
use Rattle.monitor_model.specs.Placed.{Placed, IsCompartment}
use Rattle.monitor_model.specs.Block.{MonitorBlock}
use Rattle.monitor_model.specs.BlockWords.{block_word, IsBlock, current}
use Rattle.monitor_model.specs.Invariant.{InvariantHolds}
use Rattle.monitor_model.specs.Reach.{running}
use Rattle.monitor_model.proofs.Invariants.{runs_unprivileged, few_callers}
use Rattle.monitor_confined.specs.Reaches.{ThreadsReach}
use Rattle.monitor_laws.proofs.Effects.{eight}
use Rattle.monitor_laws.proofs.Off.{core}
use Rattle.monitor_handlers.proofs.Blocks.{block_stays}
use Rattle.base_laws.proofs.Lists.{each_at}
use Rattle.monitor_confined.proofs.ThreadSteps.{slot_off}
use Rattle.monitor_confined.proofs.Reaches.{open_inside, current_word}

-- the laws of lower crates that the entry rests on
pub record EntryLaws : Type 0 where
  pub frames : OpenFramesAreWords
  pub reach : ThreadsReach

module _ (laws : EntryLaws) (i : Image) (t : Tables) (p : Placed i t) (s : State) (m : MonitorBlock) (inv : InvariantHolds i t m s) (alive : s.ending ≡ None) (opened : is_frame_open by_mpu i s ≡ true) where
  s_is : s ≡ live s.core s.protection s.status s.ram s.queues
  s_is = ap (λ e. record s { ending = e }) alive

  pub frame : OpenFrame by_mpu i s.core s.protection s.status s.ram s.queues
  frame = laws.frames by_mpu i s.core s.protection s.status s.ram s.queues p.rules inv.fits.core.sp_aligned (subst (λ u. is_frame_open by_mpu i u ≡ true) s_is opened)

  -- ---- the frame's place

  abbrev pub o : ℕ
  o = frame.offset

  abbrev pub psp : ℕ
  psp = frame_at s.core.sp

  pub psp_is : psp ≡ i.ram_base + o
  psp_is = sym frame.frame.words.is_at

  pub o_aligned : o % 4 ≡ 0
  o_aligned = let e = psp_is in let a = frame.aligned in let r = p.rules.ram_aligned in omega (arith, e, a, r)

  pub o_room : o + 32 ≤ i.ram_size
  o_room = let f = frame.frame.words.fits in omega (arith, f)

  -- ---- RAM behind the entry

  abbrev pub memory : ℕ → List ℕ
  memory ret = write_all 4 o (frame_of s.core ret) s.ram

  pub memory_length : (ret : ℕ) → length (memory ret) ≡ i.ram_size
  memory_length ret = length-write_all 4 o (frame_of s.core ret) s.ram ∙ inv.fits.ram_count

  pub return_word : (ret : ℕ) → ret < 2 ^ 32 → read 4 (o + 24) (memory ret) ≡ ret
  return_word ret small =
      let r = o_room in let l = inv.fits.ram_count in
      read_all 4 o (frame_of s.core ret) s.ram 6 (omega arith) (omega (arith, r, l)) ∙ cut_small 4 ret (omega (arith, small))

  -- ---- the block

  may_write : (a : ℕ) → by_mpu s.protection Write a ≡ true → permits s.protection.mpu true Write a ≡ true
  unfolding by_mpu
  may_write a e = subst (λ (u : Bool). permits s.protection.mpu u Write a ≡ true) (runs_unprivileged inv.inv) e

  store_off : (a : ℕ) → by_mpu s.protection Write a ≡ true → AreApart a 1 t.monitor block_size
  store_off a e = ⊎_elim
      (λ f. slot_off i t (running i t s).slots a (each_at (IsCompartment i t) t.comps nobody (current i t s.ram) p.comps (current_word i t m s inv)).slots f)
      (λ f. let lo = f.0 in let hi = open_inside i t m s inv a f.1 in ⊎_elim (λ d. inr (omega (arith, d, lo))) (λ d. inl (omega (arith, d, hi))) p.apart)
      ((laws.reach i t m s p inv).stores a (may_write a e))

  -- no byte of the frame is one of the block
  frame_off : (k : ℕ) → k < 32 → AreApart (psp + k) 1 t.monitor block_size
  frame_off k lt = ⊎_elim (λ x. inl (below x)) (λ x. inr (above x)) (store_off (psp + 4 * (k / 4)) (frame.frame.writes (k / 4) (omega (arith, lt))))
    where
      below : psp + 4 * (k / 4) + 1 ≤ t.monitor → psp + k + 1 ≤ t.monitor
      below x = let a = frame.aligned in let b = p.block_aligned in omega (arith, x, a, b)

      above : t.monitor + 1024 ≤ psp + 4 * (k / 4) → t.monitor + 1024 ≤ psp + k
      above x = omega (arith, x)

  word_stays : (ret off : ℕ) → off + 4 ≤ 544 → block_word i t (memory ret) off ≡ block_word i t s.ram off
  word_stays ret off le = read_apart_all 4 (t.monitor - i.ram_base + off) 4 o (frame_of s.core ret) s.ram (λ j lt k lk e.
      let at = psp_is in let b = p.block_inside.0 in
      ⊎_elim (λ x. omega (arith, x, e, at, b, lt, le)) (λ x. omega (arith, x, e, at, b, lt, le)) (frame_off k lk))

  pub memory_block : (ret : ℕ) → IsBlock i t (memory ret) m
  memory_block ret = block_stays i t s.ram (memory ret) m (few_callers inv.inv.orderly) inv.inv.orderly.few (word_stays ret) inv.inv.is_block

  -- ---- the state

  abbrev pub msp : ℕ
  msp = t.monitor + block_size

  abbrev pub scratch : Scratch
  scratch = record { high = s.core.high; flags = s.core.flags }

  abbrev pub low : ℕ → ℕ
  low k = get_or s.core.low k 0

  abbrev pub in_handler : ProtectionState
  in_handler = record s.protection { handler = true }

  abbrev entered_by : (b : Bool) (other : ℕ) (l : List ℕ) (ret : ℕ) (u : FaultStatus) (pc : ℕ) → State
  entered_by b other l ret u pc =
      live (record { low = l; high = s.core.high; sp = choose b other psp; other_sp = choose b psp other; on_psp = false; lr = choose b return_on_psp return_on_msp; pc = pc; flags = s.core.flags })
      in_handler u (memory ret) s.queues

  -- of an exception with this number, return address and status, whose handler is at an address
  pub entered : (n ret : ℕ) (u : FaultStatus) (pc : ℕ) → vector i n ≡ pc →
      (entry true i n ret u s).to ≡ at return_on_psp s.queues pc scratch (core msp psp in_handler u (memory ret) (low 0) (low 1) (low 2) (low 3) (low 4) (low 5) (low 6) (low 7))
  entered n ret u pc e =
      ap (λ v. (entry true i n ret u v).to) s_is
      ∙ frame.entry n ret u
      ∙ ap (λ b. entered_by b s.core.other_sp s.core.low ret u (vector i n)) inv.inv.on_psp
      ∙ ap (λ x. entered_by true x s.core.low ret u (vector i n)) inv.inv.msp
      ∙ ap (λ l. entered_by true msp l ret u (vector i n)) (eight s.core.low inv.fits.core.low_count)
      ∙ ap (λ v. entered_by true msp (low 0 ∷ low 1 ∷ low 2 ∷ low 3 ∷ low 4 ∷ low 5 ∷ low 6 ∷ low 7 ∷ []) ret u v) e

  pub entered_fits : (ret : ℕ) (u : FaultStatus) (pc : ℕ) → StatusFits u → pc < 2 ^ 32 → pc % 2 ≡ 0 → StateFits i (at return_on_psp s.queues pc scratch (core msp psp in_handler u (memory ret) (low 0) (low 1) (low 2) (low 3) (low 4) (low 5) (low 6) (low 7)))
  entered_fits ret u pc status small even = record {
    core = record {
      low_count = refl;
      high_count = inv.fits.core.high_count;
      low_words = subst EachWord (eight s.core.low inv.fits.core.low_count) inv.fits.core.low_words;
      high_words = inv.fits.core.high_words;
      sp_word = let a = p.block_inside.1 in let h = p.rules.ram_highest in let z = p.rules.ram_most in omega (arith, a, h, z);
      sp_aligned = let a = p.block_aligned in omega (arith, a);
      other_word = let e = psp_is in let r = o_room in let h = p.rules.ram_highest in let z = p.rules.ram_most in omega (arith, e, r, h, z);
      other_aligned = frame.frame.words.aligned;
      lr_word = omega arith;
      pc_word = small;
      pc_even = even;
    };
    status = status;
    unit = inv.fits.unit;
    ram_count = memory_length ret;
    queue_count = inv.fits.queue_count;
  }
