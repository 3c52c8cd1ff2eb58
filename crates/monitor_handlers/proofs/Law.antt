-- The handler of SVC on every sound image.
use Rattle.std.specs.Prelude.{if◌then◌else◌}
use Rattle.std.proofs.Common.{◌≡◌, ℕ, ◌+◌, ◌%◌, ◌<◌, ◌≤◌, ◌⊎◌, inl, inr, ⊎_elim, true, false, List, [], ◌++◌, length, nat_lt, None, refl, sym, ap, ◌∙◌, subst, arith}
use Rattle.std.proofs.lemmas.Bool.{cases_lt, le-ltb, ne_eqb}
use Rattle.base_words.specs.Flags.{holds, compare_flags}
use Rattle.base_words.specs.Bytes.{read}
use Rattle.machine_devices.specs.declared.image.Image.{Image}
use Rattle.machine_devices.specs.Rules.{ObeysRules}
use Rattle.machine_bus.specs.Locations.{Nowhere, location}
use Rattle.machine_bus.proofs.Offsets.{flash_at, in_flash, no_window as none_holds}
use Rattle.machine_bus.proofs.Placed.{holds_nowhere}
use Rattle.machine_model.specs.State.{State, by_mpu}
use Rattle.machine_model.specs.Accessed.{NothingStops}
use Rattle.machine_model.specs.Code.{CodeIn}
use Rattle.machine_model.specs.Running.{code_size}
use Rattle.machine_model.specs.Exceptions.{supervisor_call, return_on_psp, is_frame_open, frame_at}
use Rattle.machine_model.proofs.Exec.{code_parts}
use Rattle.machine_model.proofs.CodeParts.{code_size-append}
use Rattle.monitor_steps.specs.Core.{Core}
use Rattle.monitor_steps.specs.Steps.{PrivilegedSteps, names_low}
use Rattle.monitor_steps.specs.Effect.{Outcome as PrivilegedOutcome, Went, effect}
use Rattle.monitor_steps.specs.Code.{code, code_length}
use Rattle.monitor_steps.specs.Ticks.{ticks}
use Rattle.monitor_steps.specs.Runs.{Scratch, at, MayStart, Shows as PrivilegedShows}
use Rattle.monitor_steps.proofs.Runs.{Laws, effect_of_code}
use Rattle.monitor_steps.proofs.Gives.{gives_effect}
use Rattle.monitor_steps.proofs.CodeParts.{flash_has_code, code_has_its_length}
use Rattle.monitor_model.specs.declared.tables.Tables.{Tables}
use Rattle.monitor_model.specs.Records.{no_site, site_at}
use Rattle.monitor_model.specs.Layout.{tables_size}
use Rattle.monitor_model.specs.Area.{HasTables}
use Rattle.monitor_model.specs.Placed.{Placed}
use Rattle.monitor_model.specs.Sound.{Sound}
use Rattle.monitor_program.specs.Page.{page, stub_address, constants}
use Rattle.monitor_program.specs.CodeSize.{CodeFits}
use Rattle.monitor_program.specs.Constants.{Constants}
use Rattle.monitor_program.specs.TheCode.{monitor_code}
use Rattle.monitor_model.specs.Promises.{OfSoundImages}
use Rattle.monitor_model.specs.Block.{MonitorBlock}
use Rattle.monitor_model.specs.Confined.{IsSvc}
use Rattle.monitor_model.specs.Invariant.{InvariantHolds}
use Rattle.monitor_model.specs.Handlers.{at_svc, Leads}
use Rattle.monitor_model.specs.Outcomes.{Halts, StopsAtBus}
use Rattle.monitor_model.specs.SvcOutcome.{enter_at, by_number, svc_outcome}
use Rattle.monitor_program.specs.Svc.{svc}
use Rattle.monitor_program.proofs.Fields.{few_slots}
use Rattle.monitor_model.specs.MonitorLaw.{Shows, svc_steps}
use Rattle.monitor_laws.proofs.Checked.{none_fails, begins_with, head_is}
use Rattle.monitor_laws.proofs.Effects.{ticks_of}
use Rattle.monitor_laws.proofs.Fetched.{UnitLaws}
use Rattle.monitor_laws.proofs.HandlerRule.{HandlerRule, runs_handle}
use Rattle.monitor_laws.proofs.Opened.{FrameIsOpen}
use Rattle.monitor_laws.proofs.SoundImages.{sound_images_are_placed}
use Rattle.monitor_laws.proofs.SvcNumber.{Called}
use Rattle.monitor_handlers.specs.SvcLaw.{SvcLaw}
use Rattle.monitor_handlers.proofs.Mode.{mode_kept, IsGood}
use Rattle.monitor_handlers.proofs.Targets.{SiteFits, sites_fit}
use Rattle.monitor_handlers.proofs.SvcEncoded.{svc_low}
use Rattle.monitor_handlers.proofs.SvcCode.{offset, room, has_svc, vector_is, offset_even}
use Rattle.monitor_handlers.proofs.Entry as entry
use Rattle.monitor_handlers.proofs.Entry.{EntryLaws}
use Rattle.monitor_handlers.proofs.Returned.{ReturnLaws, concluded}
use Rattle.monitor_handlers.proofs.Calling.{Calling, good_entry, outcome_open, outcome_shut}
use Rattle.monitor_handlers.proofs.Numbers as by
use Rattle.monitor_handlers.proofs.Bus as bus
use Rattle.monitor_handlers.proofs.Frames.{stacked_is}
use Rattle.base_laws.proofs.Lists.{each_at}

-- the laws of lower crates that the law rests on
pub record CallLaws : Type 0 where
  pub unit : UnitLaws
  pub entry : EntryLaws
  pub back : ReturnLaws
  pub list : Laws
  pub code_fits : CodeFits
  pub nothing : NothingStops

-- what a sound image has
pub record IsFit (i : Image) (t : Tables) : Type 0 where
  pub placed : Placed i t
  pub tables : HasTables i t
  pub room : 4096 ≤ tables_size t
  pub behind : List ℕ
  pub has_page : i.flash ≡ page t ++ behind
  pub sites : (n : ℕ) → n < length t.sites → SiteFits t (site_at t n)

pub sound_is_fit : (i : Image) (t : Tables) → ObeysRules i → Sound monitor_code i t → IsFit i t
sound_is_fit i t rules s =
    let p = sound_images_are_placed monitor_code i t rules s in
    let nf = none_fails monitor_code i t s in
    let b = begins_with (page t) i.flash t.base nf.page in
    let h = head_is i t nf.tables in
    record {
      placed = p.0;
      tables = p.1;
      room = let a = h.area in omega (arith, a);
      behind = b.0;
      has_page = b.1;
      sites = λ n lt. each_at (SiteFits t) t.sites no_site n (sites_fit t nf.sites) lt;
    }

-- ---- behind flash nothing lies

behind_flash : (i : Image) (a : ℕ) → ObeysRules i → i.flash_base + length i.flash ≤ a → a < 0x20000000 → location i a ≡ Nowhere
behind_flash i a rules hi lt = holds_nowhere i a 1 rules (inl refl) (omega arith) (λ h. elim h [
  | inl x ↦ (let l = rules.ram_lowest in let y = x.0 in omega (arith, l, y, lt))
  | inr (inl x) ↦ (let y = x.1 in omega (arith, y, hi))
  | inr (inr x) ↦ none_holds i.windows a rules.windows (omega (arith, lt)) x
])

module _ (laws : CallLaws) (i : Image) (t : Tables) (fit : IsFit i t) (s : State) (m : MonitorBlock) (n : ℕ) (inv : InvariantHolds i t m s) (alive : s.ending ≡ None) (few : n < 256) (is_svc : IsSvc i t n s) (opened : is_frame_open by_mpu i s ≡ true) where
  abbrev p : Placed i t
  p = fit.placed

  abbrev k : Constants
  k = constants t

  abbrev stub : ℕ
  stub = stub_address t

  abbrev psp : ℕ
  psp = frame_at s.core.sp

  abbrev o : ℕ
  o = entry.o laws.entry i t p s m inv alive opened

  abbrev memory : List ℕ
  memory = entry.memory laws.entry i t p s m inv alive opened (s.core.pc + 2)

  -- ---- the instruction

  pc_at : (i.flash_base + is_svc.offset ≡ s.core.pc) × (is_svc.offset < length i.flash)
  pc_at = flash_at i s.core.pc is_svc.offset is_svc.is_in_flash

  offset_room : is_svc.offset + 2 ≤ length i.flash
  offset_room = let a = pc_at.0 in let b = pc_at.1 in let e = inv.fits.core.pc_even in let f = p.rules.flash_aligned in let w = p.rules.flash_words in omega (arith, a, b, e, f, w)

  ret_small : s.core.pc + 2 < 0x20000000
  ret_small = let a = pc_at.0 in let b = offset_room in let h = p.rules.flash_highest in let z = p.rules.flash_most in omega (arith, a, b, h, z)

  ret_even : (s.core.pc + 2) % 2 ≡ 0
  ret_even = let e = inv.fits.core.pc_even in omega (arith, e)

  called : Called i (s.core.pc + 2) n
  called = record { offset = is_svc.offset; at = (let a = pc_at.0 in omega (arith, a)); room = offset_room; half = is_svc.is_half; byte = few }

  return_is : read 4 (o + 24) memory ≡ s.core.pc + 2
  return_is = entry.return_word laws.entry i t p s m inv alive opened (s.core.pc + 2) (let a = ret_small in omega (arith, a))

  pub calling : Calling i t s m psp o memory
  calling = record {
    placed = p;
    tables = fit.tables;
    room = fit.room;
    sites = fit.sites;
    invariant = inv;
    at = entry.psp_is laws.entry i t p s m inv alive opened;
    aligned = entry.o_aligned laws.entry i t p s m inv alive opened;
    fits = entry.o_room laws.entry i t p s m inv alive opened;
    is_block = entry.memory_block laws.entry i t p s m inv alive opened (s.core.pc + 2);
    as_long = entry.memory_length laws.entry i t p s m inv alive opened (s.core.pc + 2);
  }

  -- ---- the code

  abbrev pc0 : ℕ
  pc0 = i.flash_base + offset i t p.rules fit.behind fit.has_page p.tables_first laws.code_fits

  code_room : offset i t p.rules fit.behind fit.has_page p.tables_first laws.code_fits + code_length (svc k) ≤ 4096
  code_room = room i t p.rules fit.behind fit.has_page p.tables_first laws.code_fits

  code_there : CodeIn i pc0 (code (svc k))
  code_there = has_svc i t p.rules fit.behind fit.has_page p.tables_first laws.code_fits (few_slots stub t)

  abbrev low : ℕ → ℕ
  low j = entry.low laws.entry i t p s m inv alive opened j

  abbrev first : Core
  first = by.at_first i t stub s m psp o memory calling (low 0) (low 1) (low 2) (low 3) (low 4) (low 5) (low 6) (low 7)

  abbrev scratch : Scratch
  scratch = entry.scratch laws.entry i t p s m inv alive opened

  abbrev from : State
  from = at return_on_psp s.queues pc0 scratch first

  from_is : at_svc i s ≡ from
  from_is = entry.entered laws.entry i t p s m inv alive opened supervisor_call (s.core.pc + 2) s.status pc0 (vector_is i t p.rules fit.behind fit.has_page p.tables_first laws.code_fits)

  -- a list whose code stands there leads as a handler to its outcome
  led : (b : ℕ) (l : PrivilegedSteps) (R : PrivilegedOutcome → Type 0) → names_low l ≡ true → code_length l ≤ code_length (svc k) → CodeIn i pc0 (code l) → by.W i t stub s m psp o memory calling b l [] first R →
      Leads i t s b from (PrivilegedShows by_mpu i (IsGood i) return_on_psp s.queues (effect by_mpu i l first) (pc0 + code_length l)) × R (effect by_mpu i l first)
  led b l R names short stands w = (
    record { count = run.count; within = (let a = run.within in let t = ticks_of i (IsGood i) (HandlerRule i t s) b l first R w in omega (arith, a, t)); each = run.each; holds = run.holds },
    (gives_effect w.gives).0,
  )
    where
      inside : (a : ℕ) → a < pc0 + code_size (code l) → a < i.flash_base + 4096
      inside a h = let e = code_has_its_length l in let r = code_room in omega (arith, h, e, r, short)

      start : MayStart by_mpu i (IsGood i) (HandlerRule i t s) return_on_psp s.queues l pc0 scratch first
      start = record {
        registers_are_low = names;
        below = let h = p.rules.flash_highest in let r = code_room in omega (arith, h, r, short);
        code_stands = flash_has_code by_mpu i (IsGood i) pc0 (code l) stands (λ q g a lo hi. g.fetched a (omega (arith, lo)) (inside a hi));
        good = good_entry i t stub s m psp o memory calling laws.unit;
        fits = entry.entered_fits laws.entry i t p s m inv alive opened (s.core.pc + 2) s.status pc0 inv.fits.status (let h = p.rules.flash_highest in let r = code_room in omega (arith, h, r)) (offset_even i t p.rules fit.behind fit.has_page p.tables_first laws.code_fits);
        safe = (gives_effect w.gives).1;
      }

      run : Leads i t s (ticks by_mpu i l first) from (PrivilegedShows by_mpu i (IsGood i) return_on_psp s.queues (effect by_mpu i l first) (pc0 + code_length l))
      run = runs_handle i t s (IsGood i) (λ q g. g.mode) (ticks by_mpu i l first) from _ (effect_of_code by_mpu i (IsGood i) (HandlerRule i t s) laws.list return_on_psp s.queues l pc0 scratch first p.rules start)

  -- ---- each number

  whole : (b : ℕ) → by.W i t stub s m psp o memory calling b (svc k) [] first (by.Q i t stub s m psp o memory calling (svc_outcome i t stub m psp memory n)) → Leads i t s (b + 1) from (Shows i t (svc_outcome i t stub m psp memory n) s m memory)
  whole b w =
      let l = led b (svc k) (by.Q i t stub s m psp o memory calling (svc_outcome i t stub m psp memory n)) (svc_low stub t) (omega arith) code_there w in
      concluded laws.back i t p s m s.queues refl (IsGood i) memory from (pc0 + code_length (svc k)) b (svc_outcome i t stub m psp memory n) (effect by_mpu i (svc k) first) l.1 (mode_kept true by_mpu i (svc k) first refl) l.0

  by_list : (b : ℕ) → (FrameIsOpen i t o memory → by.W i t stub s m psp o memory calling b (by.numbers i t stub s m psp o memory calling) [] (by.at_number i t stub s m psp o memory calling (s.core.pc + 2) n) (by.Q i t stub s m psp o memory calling (by_number i t stub m psp memory n))) →
      Leads i t s (54 + b + 1) from (Shows i t (svc_outcome i t stub m psp memory n) s m memory)
  by_list b go = whole (54 + b) (by.numbered i t stub s m psp o memory calling b (s.core.pc + 2) n (low 0) (low 1) (low 2) (low 3) (low 4) (low 5) (low 6) (low 7) return_is called go)

  within_steps : (a : ℕ) → a ≤ svc_steps n → Leads i t s a from (Shows i t (svc_outcome i t stub m psp memory n) s m memory) → Leads i t s (svc_steps n) from (Shows i t (svc_outcome i t stub m psp memory n) s m memory)
  within_steps a h l = record { count = l.count; within = (let w = l.within in omega (arith, w, h)); each = l.each; holds = l.holds }

  abbrev Goal : Type 0
  Goal = Leads i t s (svc_steps n) from (Shows i t (svc_outcome i t stub m psp memory n) s m memory)

  steps_large : nat_lt n 2 ≡ false → svc_steps n ≡ 250
  steps_large e = ap (λ b. if b then 4000 else 250) e

  above_three : 3 < n → Goal
  above_three h =
      within_steps 80 (let e = steps_large (le-ltb n 2 (omega (arith, h))) in omega (arith, e))
      (by_list 25 (λ f. subst (λ x. by.W i t stub s m psp o memory calling 25 (by.numbers i t stub s m psp o memory calling) [] (by.at_number i t stub s m psp o memory calling (s.core.pc + 2) n) (by.Q i t stub s m psp o memory calling x)) (sym halts) (by.above i t stub s m psp o memory calling laws.unit f (s.core.pc + 2) n h)))
    where
      halts : by_number i t stub m psp memory n ≡ Halts 1
      halts =
          let a = ne_eqb n 0 (λ e. omega (arith, e, h)) in
          let b = ne_eqb n 1 (λ e. omega (arith, e, h)) in
          let c = ne_eqb n 2 (λ e. omega (arith, e, h)) in
          let d = ne_eqb n 3 (λ e. omega (arith, e, h)) in
          rw (a, b, c, d) refl

  at_three : n ≡ 3 → Goal
  at_three e =
      within_steps 85 (let z : svc_steps n ≡ 250 = ap svc_steps e in omega (arith, z))
      (by_list 30 (λ f. subst (λ x. by.W i t stub s m psp o memory calling 30 (by.numbers i t stub s m psp o memory calling) [] (by.at_number i t stub s m psp o memory calling (s.core.pc + 2) x) (by.Q i t stub s m psp o memory calling (by_number i t stub m psp memory x))) (sym e) (by.three i t stub s m psp o memory calling laws.unit f (s.core.pc + 2))))

  at_two : n ≡ 2 → Goal
  at_two e =
      within_steps 180 (let z : svc_steps n ≡ 250 = ap svc_steps e in omega (arith, z))
      (by_list 125 (λ f. subst (λ x. by.W i t stub s m psp o memory calling 125 (by.numbers i t stub s m psp o memory calling) [] (by.at_number i t stub s m psp o memory calling (s.core.pc + 2) x) (by.Q i t stub s m psp o memory calling (by_number i t stub m psp memory x))) (sym e) (by.two i t stub s m psp o memory calling laws.unit f (s.core.pc + 2))))

  at_one : n ≡ 1 → Goal
  at_one e =
      within_steps 263 (let z : svc_steps n ≡ 4000 = ap svc_steps e in omega (arith, z))
      (by_list 208 (λ f. subst (λ x. by.W i t stub s m psp o memory calling 208 (by.numbers i t stub s m psp o memory calling) [] (by.at_number i t stub s m psp o memory calling (s.core.pc + 2) x) (by.Q i t stub s m psp o memory calling (by_number i t stub m psp memory x))) (sym e) (by.one i t stub s m psp o memory calling laws.unit f (s.core.pc + 2) (subst (λ x. IsSvc i t x s) e is_svc))))

  -- ---- enter, by where the halfword behind the instruction lies

  in_place : n ≡ 0 → is_svc.offset + 2 < length i.flash → Goal
  in_place e lt =
      within_steps 1403 (let z : svc_steps n ≡ 4000 = ap svc_steps e in omega (arith, z))
      (by_list 1348 (λ f. subst (λ x. by.W i t stub s m psp o memory calling 1348 (by.numbers i t stub s m psp o memory calling) [] (by.at_number i t stub s m psp o memory calling (s.core.pc + 2) x) (by.Q i t stub s m psp o memory calling (by_number i t stub m psp memory x))) (sym e)
      (by.enters i t stub s m psp o memory calling laws.unit f (s.core.pc + 2) (is_svc.offset + 2) return_is ret_at ro_even ro_room (in_flash i (s.core.pc + 2) (is_svc.offset + 2) p.rules (sym ret_at) lt))))
    where
      ret_at : s.core.pc + 2 ≡ i.flash_base + (is_svc.offset + 2)
      ret_at = let a = pc_at.0 in omega (arith, a)

      ro_even : (is_svc.offset + 2) % 2 ≡ 0
      ro_even = let a = pc_at.0 in let e = inv.fits.core.pc_even in let f = p.rules.flash_aligned in omega (arith, a, e, f)

      ro_room : is_svc.offset + 2 + 2 ≤ length i.flash
      ro_room = let a = ro_even in let w = p.rules.flash_words in omega (arith, a, w, lt)

  equal_zero : holds 0 (compare_flags 0 0) ≡ true
  equal_zero = laws.list.equal 0 0 (omega arith) (omega arith)

  module _ (zero_is : n ≡ 0) (last : length i.flash ≤ is_svc.offset + 2) where
    nowhere : location i (s.core.pc + 2) ≡ Nowhere
    nowhere = behind_flash i (s.core.pc + 2) p.rules (let a = pc_at.0 in omega (arith, a, last)) ret_small

    called_zero : Called i (s.core.pc + 2) 0
    called_zero = subst (λ x. Called i (s.core.pc + 2) x) zero_is called

    abbrev before : PrivilegedSteps
    before = bus.before laws.nothing equal_zero i t stub s m psp o memory calling (s.core.pc + 2) return_is called_zero ret_even ret_small nowhere

    abbrev the_test : PrivilegedSteps
    the_test = bus.the_test laws.nothing equal_zero i t stub s m psp o memory calling (s.core.pc + 2) return_is called_zero ret_even ret_small nowhere

    parts : code (svc k) ≡ code before ++ code the_test
    parts = bus.code_parts_are laws.nothing equal_zero i t stub s m psp o memory calling (s.core.pc + 2) return_is called_zero ret_even ret_small nowhere

    lengths : code_length before + code_size (code the_test) ≡ code_length (svc k)
    lengths =
        let a = code_has_its_length before in
        let b = code_has_its_length (svc k) in
        let d = ap code_size parts in
        let e = code_size-append (code before) (code the_test) in
        omega (arith, a, b, d, e)

    both_there : CodeIn i pc0 (code before) × CodeIn i (pc0 + code_size (code before)) (code the_test)
    both_there = code_parts i (code before) (code the_test) pc0 (subst (λ l. CodeIn i pc0 l) parts code_there)

    test_there : CodeIn i (pc0 + code_length before) (code the_test)
    test_there = subst (λ x. CodeIn i (pc0 + x) (code the_test)) (code_has_its_length before) both_there.1

    before_led : Leads i t s 68 from (PrivilegedShows by_mpu i (IsGood i) return_on_psp s.queues (effect by_mpu i before first) (pc0 + code_length before)) × bus.Ends laws.nothing equal_zero i t stub s m psp o memory calling (s.core.pc + 2) return_is called_zero ret_even ret_small nowhere (effect by_mpu i before first)
    before_led = led 68 before (bus.Ends laws.nothing equal_zero i t stub s m psp o memory calling (s.core.pc + 2) return_is called_zero ret_even ret_small nowhere) refl (let l = lengths in omega (arith, l)) both_there.0
        (bus.before_within laws.nothing equal_zero i t stub s m psp o memory calling (s.core.pc + 2) return_is called_zero ret_even ret_small nowhere (low 0) (low 1) (low 2) (low 3) (low 4) (low 5) (low 6) (low 7))

    stops_outcome : FrameIsOpen i t o memory → svc_outcome i t stub m psp memory n ≡ StopsAtBus
    stops_outcome f =
        outcome_open i t stub s m psp o memory calling n f
        ∙ ap (λ x. by_number i t stub m psp memory x) zero_is
        ∙ ap (λ r. enter_at i t stub m psp memory (location i r)) (stacked_is i psp o 6 memory calling.at (omega arith) ∙ return_is)
        ∙ ap (λ l. enter_at i t stub m psp memory l) nowhere

    abbrev at_test : Core
    at_test = bus.at_test laws.nothing equal_zero i t stub s m psp o memory calling (s.core.pc + 2) return_is called_zero ret_even ret_small nowhere

    off_flash : Goal
    off_flash = ⊎_elim shut opens before_led.1
      where
        steps : svc_steps n ≡ 4000
        steps = ap svc_steps zero_is

        shut : by.Q i t stub s m psp o memory calling (Halts 4) (effect by_mpu i before first) × (FrameIsOpen i t o memory → ⊥) → Goal
        shut x =
            within_steps 69 (let e = steps in omega (arith, e))
            (subst (λ h. Leads i t s 69 from (Shows i t h s m memory)) (sym (outcome_shut i t stub s m psp o memory calling n x.1))
            (concluded laws.back i t p s m s.queues refl (IsGood i) memory from (pc0 + code_length before) 68 (Halts 4) (effect by_mpu i before first) x.0 (mode_kept true by_mpu i before first refl) before_led.0))

        opens : (effect by_mpu i before first ≡ Went at_test) × FrameIsOpen i t o memory → Goal
        opens x =
            let l : Leads i t s 68 from (PrivilegedShows by_mpu i (IsGood i) return_on_psp s.queues (Went at_test) (pc0 + code_length before)) = subst (λ z. Leads i t s 68 from (PrivilegedShows by_mpu i (IsGood i) return_on_psp s.queues z (pc0 + code_length before))) x.0 before_led.0 in
            let h = l.holds in
            within_steps 71 (let e = steps in omega (arith, e))
            (subst (λ y. Leads i t s 71 from (Shows i t y s m memory)) (sym (stops_outcome x.1))
            (bus.stopped laws.nothing equal_zero i t stub s m psp o memory calling (s.core.pc + 2) return_is called_zero ret_even ret_small nowhere (pc0 + code_length before) test_there (omega arith) (let r = code_room in let z = lengths in omega (arith, r, z)) s.queues h.0 68 from
            (record { count = l.count; within = l.within; each = l.each; holds = h.1 })))

  -- ---- all of it

  one_of : (n : ℕ) → (n ≡ 0) ⊎ ((n ≡ 1) ⊎ ((n ≡ 2) ⊎ ((n ≡ 3) ⊎ (3 < n))))
  one_of n = grind arith

  goal : Goal
  goal = elim (one_of n) [
    | inl e ↦ ⊎_elim (λ lt. in_place e lt) (λ le. off_flash e le) (cases_lt (is_svc.offset + 2) (length i.flash))
    | inr (inl e) ↦ at_one e
    | inr (inr (inl e)) ↦ at_two e
    | inr (inr (inr (inl e))) ↦ at_three e
    | inr (inr (inr (inr h))) ↦ above_three h
  ]

  pub holds_at_entry : Leads i t s (svc_steps n) (at_svc i s) (Shows i t (svc_outcome i t stub m (frame_at s.core.sp) (at_svc i s).ram n) s m (at_svc i s).ram)
  holds_at_entry = subst (λ u. Leads i t s (svc_steps n) u (Shows i t (svc_outcome i t stub m (frame_at s.core.sp) u.ram n) s m u.ram)) (sym from_is) goal

pub svc_keeps_the_law : CallLaws → OfSoundImages monitor_code (λ i t. SvcLaw i t (monitor_code.stub t))
svc_keeps_the_law laws i t rules sound s m n inv alive few is_svc opened = holds_at_entry laws i t (sound_is_fit i t rules sound) s m n inv alive few is_svc opened
