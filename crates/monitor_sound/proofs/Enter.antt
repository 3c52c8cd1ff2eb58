-- Enter, in the words of a simulation: to the callee's first instruction, while the call's frame waits.
use Rattle.std.proofs.Common.{◌≡◌, ℕ, zero, suc, ◌+◌, ◌-◌, ◌*◌, ◌/◌, ◌%◌, ◌^◌, ◌<◌, ◌≤◌, ◌⊎◌, inl, inr, true, false, ◌&&◌, List, length, drop, get_or, Option, Some, None, nat_eq, nat_lt, refl, sym, ap, ◌∙◌, subst, arith}
use Rattle.std.proofs.lemmas.Bool.{false≢true}
use Rattle.std.proofs.lemmas.Bool.Decides.{nat_tests}
use Rattle.base_words.specs.declared.conditions.Flags.{Flags}
use Rattle.base_words.specs.Bytes.{read, cut, write_all}
use Rattle.base_words.specs.Runs.{run}
use Rattle.base_words.proofs.Bytes.{cut_small}
use Rattle.machine_thumb.specs.Table.{svc}
use Rattle.base_ranges.specs.Ranges.{AreApart}
use Rattle.machine_protection.specs.declared.region.Access.TheVariants.{Fetch}
use Rattle.machine_devices.specs.declared.image.Image.{Image}
use Rattle.machine_devices.specs.Rules.{block_size}
use Rattle.machine_bus.specs.Locations.{InFlash, location}
use Rattle.machine_bus.proofs.Offsets.{flash_at}
use Rattle.machine_model.specs.State.{State, by_mpu}
use Rattle.machine_model.specs.Code.{HoldsHalf}
use Rattle.machine_model.specs.Exceptions.{frame_at, is_thread, stacked_status, supervisor_call}
use Rattle.machine_model.specs.Stack.{cut_words}
use Rattle.machine_model.specs.Step.{step}
use Rattle.machine_model.specs.RunningCode.{Context}
use Rattle.monitor_model.specs.declared.tables.TargetRecord.{TargetRecord}
use Rattle.monitor_model.specs.declared.tables.Tables.{Tables}
use Rattle.monitor_model.specs.Records.{site_at, targets_of, last_with_entry, rounded, eighth}
use Rattle.monitor_model.specs.Placed.{Placed, IsEntry}
use Rattle.monitor_model.specs.Block.{MonitorBlock, entered}
use Rattle.monitor_model.specs.Invariant.{Invariant, InvariantHolds, IsOrderly}
use Rattle.monitor_model.specs.MonitorCode.{MonitorCode}
use Rattle.monitor_model.specs.MonitorLaw.{MonitorLaw, svc_steps}
use Rattle.monitor_model.specs.Outcomes.{Resumes as OutcomeResumes, frame_in, stacked, moved_on, r12_place, return_place}
use Rattle.monitor_model.specs.SvcOutcome.{word, callee_frame, new_top, enter_at, svc_outcome}
use Rattle.monitor_model.specs.Setting.{Setting, setting_of, leads_to, has_target}
use Rattle.monitor_model.specs.Threads.{call_steps, KeepsOff, AtInstr, Enters}
use Rattle.monitor_confined.proofs.EnterLaw.{both, enter_change, callee_words, entry_low, rounded_below, IsFound, found_in}
use Rattle.monitor_confined.proofs.EntryWords.{entered_length, frame, frame_offset}
use Rattle.monitor_sound.specs.Accesses.{StubStands}
use Rattle.monitor_sound.proofs.ThreadLaws.{ThreadLaws}
use Rattle.monitor_sound.proofs.Permits.{fetches, top_inside}
use Rattle.monitor_sound.proofs.Memory.{read_off, read_off_all}
use Rattle.monitor_sound.proofs.Frames.{moved}
use Rattle.monitor_sound.proofs.Outcomes.{enters_at, enters}
use Rattle.monitor_sound.proofs.Behind.{Behind, pc_is, sp_is, lr_is, low_at}
use Rattle.monitor_sound.proofs.Room.{Pushed, open_frame, is_svc}
use Rattle.monitor_sound.proofs.Places.{ram_low, whole_top}
use Rattle.monitor_sound.proofs.Resumed.{resumed}
use Rattle.monitor_sound.proofs.CallRules.{at, psp, memory, held, room, words, up, lowest, highest, no_pad, reads_off, called}
use Rattle.machine_model.proofs.StackWords.{get_or-words_at as word_at}
use Rattle.base_laws.proofs.Lists.{each_drop, each_take}

-- the target that the setting speaks of
pub record HasTarget (t : Tables) (n ret entry c : ℕ) : Type 0 where
  pub known : n < length t.sites
  pub returns : (site_at t n).ret ≡ ret
  pub target : TargetRecord
  pub found : last_with_entry (entry + 1) (targets_of t (site_at t n)) ≡ Some target
  pub compartment : target.compartment ≡ c

pub target_of : (t : Tables) (n ret entry c : ℕ) → has_target t n ret entry c ≡ true → HasTarget t n ret entry c
unfolding has_target
target_of t n ret entry c e =
    let o : Option TargetRecord = last_with_entry (entry + 1) (targets_of t (site_at t n)) in
    let a = both (nat_lt n (length t.sites)) (nat_eq (site_at t n).ret ret && leads_to o c) e in
    let b = both (nat_eq (site_at t n).ret ret) (leads_to o c) a.1 in
    let x : n < length t.sites = let z = a.0 in search (nat_tests, arith) in
    let y : (site_at t n).ret ≡ ret = let z = b.0 in search (nat_tests, arith) in
    by x y o refl b.1
  where
    by : n < length t.sites → (site_at t n).ret ≡ ret → (o : Option TargetRecord) → last_with_entry (entry + 1) (targets_of t (site_at t n)) ≡ o → leads_to o c ≡ true → HasTarget t n ret entry c
    by x y None f z = absurd (false≢true z)
    by x y (Some g) f z = record { known = x; returns = y; target = g; found = f; compartment = search (nat_tests, arith) }

pub same_offset : (rb base psp o : ℕ) → rb ≤ base → base ≤ psp → psp + 32 ≡ rb + o → psp - base ≡ o - 32 - (base - rb)
same_offset rb base psp o a b e = omega (arith, a, b, e)

sum_top : (rb base q top : ℕ) → rb ≤ base → top ≡ base - rb + q → base + q ≡ rb + top
sum_top rb base q top a e = omega (arith, a, e)

halved : (e : ℕ) → e % 2 ≡ 0 → (e + 1) / 2 * 2 ≡ e
halved e h = omega arith

status_thread : is_thread (2 ^ 24) ≡ true
status_thread = refl

status_no_pad : nat_eq (2 ^ 24 / 2 ^ 9 % 2) 1 ≡ false
status_no_pad = refl

-- a range below the stack's base, and one from the waiting frame on, are off the callee's frame
under : (rb st top n a w : ℕ) → n ≡ rb + top → st + 32 ≤ top → a + w ≤ st → a + w ≤ n - 32 - rb
under rb st top n a w e deep k = omega (arith, e, deep, k)

over : (rb top n q a : ℕ) → n ≡ rb + top → rb + top ≤ q → q - rb ≤ a → 32 ≤ top → n - 32 - rb + 32 ≤ a
over rb top n q a e le k deep = omega (arith, e, le, k, deep)

-- where two words of the waiting frame lie
at_return : (rb psp o : ℕ) → rb ≤ psp → psp + 32 ≡ rb + o → psp - rb + 4 * 6 ≡ o - 8
at_return rb psp o a e = omega (arith, a, e)

at_status : (rb psp o : ℕ) → rb ≤ psp → psp + 32 ≡ rb + o → psp - rb + 4 * 7 ≡ o - 4
at_status rb psp o a e = omega (arith, a, e)

module _ (laws : ThreadLaws) (code : MonitorCode) (i : Image) (t : Tables) (p : Placed i t) (law : MonitorLaw i t (code.stub t)) (stands : StubStands i t (code.stub t)) where
  abbrev g : Setting
  g = setting_of code i t

  module _ (m : MonitorBlock) (x : Context) (low : List ℕ) (o lr pc : ℕ) (f : Flags) (ram : List ℕ) (queues : List (List ℕ)) (site entry target top : ℕ)
      (z : AtInstr g (Invariant i t) m x low o lr pc f ram queues (svc 0)) (half : HoldsHalf i (pc + 2) site) (hit : has_target t site (pc + 2) entry target ≡ true)
      (r12 : get_or x.high 4 0 ≡ entry + 1) (even : entry % 2 ≡ 0) (some : t.stack.base - i.ram_base < top)
      (tops : top ≡ t.stack.base - i.ram_base + (o - 32 - (t.stack.base - i.ram_base)) / eighth t * eighth t) where
    pub may : by_mpu x.protection Fetch pc ≡ true
    may = fetches laws.unit i t p m x ram z.invariant pc z.owned

    abbrev pub s : State
    s = at laws code i t p law m x low o lr pc f ram queues 0 z.invariant z.room z.fits z.lies may

    abbrev pub q : ℕ
    q = frame_at (i.ram_base + o)

    abbrev pub rm : List ℕ
    rm = memory laws code i t p law m x low o lr pc f ram queues 0 z.invariant z.room z.fits z.lies may

    ws : Pushed i s.core (pc + 2) q rm
    ws = words laws code i t p law m x low o lr pc f ram queues 0 z.invariant z.room z.fits z.lies may

    lo : t.stack.base ≤ q
    lo = lowest laws code i t p law m x low o lr pc f ram queues 0 z.invariant z.room z.fits z.lies may

    hi : q + 32 ≤ m.top
    hi = highest laws code i t p law m x low o lr pc f ram queues 0 z.invariant z.room z.fits z.lies may

    e32 : q + 32 ≡ i.ram_base + o
    e32 = up laws code i t p law m x low o lr pc f ram queues 0 z.invariant z.room z.fits z.lies may

    pub found : HasTarget t site (pc + 2) entry target
    found = target_of t site (pc + 2) entry target hit

    -- the callee's TOP
    top_is : rounded t q ≡ i.ram_base + top
    top_is =
        let d = same_offset i.ram_base t.stack.base q o (ram_low i t p) lo e32 in
        ap (λ (k : ℕ). t.stack.base + k / eighth t * eighth t) d ∙ sum_top i.ram_base t.stack.base ((o - 32 - (t.stack.base - i.ram_base)) / eighth t * eighth t) top (ram_low i t p) tops

    top_below : i.ram_base + top ≤ q
    top_below = subst (λ (k : ℕ). k ≤ q) top_is (rounded_below t.stack.base (eighth t) q lo)

    opens : t.stack.base < rounded t q
    opens = let a = ram_low i t p in let k : t.stack.base < i.ram_base + top = omega (arith, a, some) in subst (λ (n : ℕ). t.stack.base < n) (sym top_is) k

    -- the target is one of those that are placed
    is_found : IsFound (λ (y : TargetRecord). IsEntry t y.entry y.compartment) (targets_of t (site_at t site)) (entry + 1) found.target
    is_found = found_in (λ (y : TargetRecord). IsEntry t y.entry y.compartment) (targets_of t (site_at t site)) (entry + 1) found.target
        (each_take (λ (y : TargetRecord). IsEntry t y.entry y.compartment) (site_at t site).count (drop (site_at t site).first t.targets)
        (each_drop (λ (y : TargetRecord). IsEntry t y.entry y.compartment) (site_at t site).first t.targets p.targets)) found.found

    abbrev pub nt : ℕ
    nt = new_top i t (code.stub t) m q rm

    abbrev pub cf : List ℕ
    cf = callee_frame i t (code.stub t) m q rm found.target

    abbrev pub after : List ℕ
    after = write_all 4 (nt - 32 - i.ram_base) cf (moved_on i q rm)

    abbrev pub b : MonitorBlock
    b = entered m target (i.ram_base + top) (i.ram_base + o - 32)

    block_is : entered m found.target.compartment nt q ≡ b
    block_is =
        let last : q ≡ i.ram_base + o - 32 = (let k = e32 in omega (arith, k)) in
        ap (λ (c : ℕ). entered m c nt q) found.compartment ∙ ap (λ (k : ℕ). entered m target k q) top_is ∙ ap (λ (k : ℕ). entered m target (i.ram_base + top) k) last

    reaches : enter_at i t (code.stub t) m q rm (location i (word i t (code.stub t) m q rm return_place)) ≡ OutcomeResumes b (nt - 32) after
    reaches =
        let here : location i (word i t (code.stub t) m q rm return_place) ≡ InFlash half.offset = ap (λ (a : ℕ). location i a) ws.return_address ∙ half.is_in_flash in
        let listed : last_with_entry (word i t (code.stub t) m q rm r12_place) (targets_of t (site_at t site)) ≡ Some found.target =
        ap (λ (a : ℕ). last_with_entry a (targets_of t (site_at t site))) (ws.r12 ∙ r12) ∙ found.found in
        enters_at i t (code.stub t) m q rm lo hi (no_pad laws code i t p law m x low o lr pc f ram queues 0 z.invariant z.room z.fits z.lies may)
        found.target site half.offset here half.is_half found.known (found.returns ∙ sym ws.return_address) listed opens
        ∙ ap (λ (y : MonitorBlock). OutcomeResumes y (nt - 32) after) block_is

    comes : svc_outcome i t (code.stub t) m q rm 0 ≡ OutcomeResumes b (nt - 32) after
    comes = enters i t (code.stub t) m q rm lo hi (no_pad laws code i t p law m x low o lr pc f ram queues 0 z.invariant z.room z.fits z.lies may) ∙ reaches

    -- the callee's frame
    frame_is : frame_in i (nt - 32) after ≡ cut_words cf
    frame_is =
        callee_words laws.frames i t p (code.stub t) s s m (held laws code i t p law m x low o lr pc f ram queues 0 z.invariant z.room z.fits z.lies may)
        (open_frame laws i t p m s (held laws code i t p law m x low o lr pc f ram queues 0 z.invariant z.room z.fits z.lies may) (room laws code i t p law m x low o lr pc f ram queues 0 z.invariant z.room z.fits z.lies may))
        (is_svc laws i t p m s (held laws code i t p law m x low o lr pc f ram queues 0 z.invariant z.room z.fits z.lies may) (room laws code i t p law m x low o lr pc f ram queues 0 z.invariant z.room z.fits z.lies may) refl 0 z.lies).1
        (record { from_base = lo; below_top = hi }) (top_inside laws.unit i t p m x ram z.invariant) found.target

    word_is : (k : ℕ) → stacked i (nt - 32) after k ≡ get_or (cut_words cf) k 0
    word_is k = ap (λ (l : List ℕ). get_or l k 0) frame_is

    status_is : stacked i (nt - 32) after 7 ≡ 2 ^ 24
    status_is = word_is 7 ∙ cut_small 4 (2 ^ 24) (omega arith)

    y : Behind i t s m (svc_steps 0) b (nt - 32) after
    y = called laws code i t p law m x low o lr pc f ram queues 0 z.invariant z.room z.fits z.lies may b (nt - 32) after comes (ap (λ (n : ℕ). is_thread n) status_is ∙ status_thread)

    ordered : IsOrderly t b
    ordered =
        laws.order i t s (run (step i) y.count s) m b p z.fits.core.sp_aligned z.invariant.orderly
        (enter_change laws.frames i t p (code.stub t) s (run (step i) y.count s) m (held laws code i t p law m x low o lr pc f ram queues 0 z.invariant z.room z.fits z.lies may)
        (open_frame laws i t p m s (held laws code i t p law m x low o lr pc f ram queues 0 z.invariant z.room z.fits z.lies may) (room laws code i t p law m x low o lr pc f ram queues 0 z.invariant z.room z.fits z.lies may))
        (is_svc laws i t p m s (held laws code i t p law m x low o lr pc f ram queues 0 z.invariant z.room z.fits z.lies may) (room laws code i t p law m x low o lr pc f ram queues 0 z.invariant z.room z.fits z.lies may) refl 0 z.lies).1
        (record { from_base = lo; below_top = hi }) (top_inside laws.unit i t p m x ram z.invariant) b (nt - 32) after y.goes reaches)

    held_x : InvariantHolds i t m s
    held_x = held laws code i t p law m x low o lr pc f ram queues 0 z.invariant z.room z.fits z.lies may

    at_top : nt - 32 + 32 ≡ i.ram_base + top
    at_top = let a = top_is in let c = p.rules.ram_lowest in let k : nt ≡ i.ram_base + top = a in omega (arith, k, c)

    low_word : i.ram_base + o < 2 ^ 32
    low_word = z.fits.core.sp_word

    sp_at : (run (step i) y.count s).core.sp ≡ i.ram_base + top
    sp_at =
        let a = at_top in
        let c = top_below in
        let d = e32 in
        let l = low_word in
        sp_is laws i t p s m held_x (svc_steps 0) b (nt - 32) after y (ap (λ (n : ℕ). nat_eq (n / 2 ^ 9 % 2) 1) status_is ∙ status_no_pad) (omega (arith, a, c, d, l)) ∙ at_top

    entry_small : entry < 2 ^ 30
    entry_small =
        let k = entry_low laws.frames i t p (code.stub t) s s m held_x
        (open_frame laws i t p m s held_x (room laws code i t p law m x low o lr pc f ram queues 0 z.invariant z.room z.fits z.lies may))
        (is_svc laws i t p m s held_x (room laws code i t p law m x low o lr pc f ram queues 0 z.invariant z.room z.fits z.lies may) refl 0 z.lies).1
        (record { from_base = lo; below_top = hi }) (top_inside laws.unit i t p m x ram z.invariant) found.target.entry found.target.compartment is_found.fact in
        let e = is_found.has_entry in
        omega (arith, k, e)

    pc_at : (run (step i) y.count s).core.pc ≡ entry
    pc_at =
        let l = entry_small in
        let k : get_or (cut_words cf) 6 0 ≡ entry = cut_small 4 (found.target.entry / 2 * 2) (let e = is_found.has_entry in omega (arith, e, l)) ∙ ap (λ (n : ℕ). n / 2 * 2) is_found.has_entry ∙ halved entry even in
        pc_is laws i t p s m held_x (svc_steps 0) b (nt - 32) after y ∙ ap (λ (n : ℕ). n / 2 * 2) (word_is 6 ∙ k) ∙ (let w : entry / 2 * 2 ≡ entry = omega (arith, even) in w)

    link_at : (run (step i) y.count s).core.lr ≡ code.stub t + 1
    link_at =
        let a = stands.inside in
        let c = p.tables_first in
        let d = p.tables_inside in
        let high = p.rules.flash_highest in
        let most = p.rules.flash_most in
        let fits : code.stub t + 1 < 256 ^ 4 = omega (arith, a, c, d, high, most) in
        lr_is laws i t p s m held_x (svc_steps 0) b (nt - 32) after y ∙ word_is 5 ∙ cut_small 4 (code.stub t + 1) fits

    -- ---- what is left of RAM

    ram_q : i.ram_base ≤ q
    ram_q = let a = ram_low i t p in let c = lo in omega (arith, a, c)

    off_callee : (w a : ℕ) → (a + w ≤ t.stack.base - i.ram_base) ⊎ (q - i.ram_base ≤ a) → AreApart a w (nt - 32 - i.ram_base) 32
    off_callee w a (inl k) = inl (under i.ram_base (t.stack.base - i.ram_base) top nt a w top_is (whole_top i t p top (o - 32 - (t.stack.base - i.ram_base)) some tops) k)
    off_callee w a (inr k) = inr (over i.ram_base top nt q a top_is top_below k deep)
      where
        deep : 32 ≤ top
        deep = let x = whole_top i t p top (o - 32 - (t.stack.base - i.ram_base)) some tops in omega (arith, x)

    moved_off : (w a : ℕ) → (a + w ≤ t.stack.base - i.ram_base) ⊎ (o ≤ a) → read w a (moved_on i q rm) ≡ read w a rm
    moved_off w a k = read_off w a 4 (q - i.ram_base + 4 * 6) (stacked i q rm 6 + 2) rm (inner k)
      where
        inner : (a + w ≤ t.stack.base - i.ram_base) ⊎ (o ≤ a) → AreApart a w (q - i.ram_base + 4 * 6) 4
        inner (inl k) = let c = lo in let d = ram_low i t p in inl (omega (arith, k, c, d))
        inner (inr k) = let c = e32 in let d = ram_q in inr (omega (arith, k, c, d))

    keeps : (w a : ℕ) → KeepsOff g o a w → read w a after ≡ read w a ram
    keeps w a k =
        read_off_all w a (nt - 32 - i.ram_base) cf (moved_on i q rm) (off_callee w a (higher k.0)) ∙ moved_off w a k.0
        ∙ reads_off laws code i t p law m x low o lr pc f ram queues 0 z.invariant z.room z.fits z.lies may w a k.0
      where
        higher : (a + w ≤ t.stack.base - i.ram_base) ⊎ (o ≤ a) → (a + w ≤ t.stack.base - i.ram_base) ⊎ (q - i.ram_base ≤ a)
        higher (inl k) = inl k
        higher (inr k) = let c = e32 in let d = ram_q in inr (omega (arith, k, c, d))

    -- the waiting frame
    waits : Pushed i s.core (pc + 2 + 2) q (moved_on i q rm)
    waits =
        let r = room laws code i t p law m x low o lr pc f ram queues 0 z.invariant z.room z.fits z.lies may in
        let op = open_frame laws i t p m s held_x r in
        let fr = frame laws.frames i p.rules s z.fits op in
        let fit = fr.frame.words.fits in
        let e = frame_offset laws.frames i p.rules s z.fits op in
        let long = entered_length laws.frames i p.rules s z.fits op supervisor_call (pc + 2) s.status in
        let c = is_svc laws i t p m s held_x r refl 0 z.lies in
        let fl = flash_at i pc c.1.offset c.1.is_in_flash in
        let a1 = fl.0 in
        let a2 = fl.1 in
        let high = p.rules.flash_highest in
        let most = p.rules.flash_most in
        moved i s.core (pc + 2) q rm (omega (arith, a1, a2, high, most)) (subst (λ (n : ℕ). q - i.ram_base + 32 ≤ n) (sym long) (subst (λ (n : ℕ). n + 32 ≤ i.ram_size) (sym e) fit)) ws

    -- a word of it is left where it is
    left : (k : ℕ) → k < 8 → read 4 (q - i.ram_base + 4 * k) (run (step i) y.count s).ram ≡ stacked i q (moved_on i q rm) k
    left k lt =
        let a : ℕ = q - i.ram_base + 4 * k in
        let inside = hi in
        let below = top_inside laws.unit i t p m x ram z.invariant in
        let base = lo in
        let rl = ram_low i t p in
        let blk = p.block_inside.0 in
        y.goes.is_left.is_memory.reads 4 a (apart p.apart)
        ∙ read_off_all 4 a (nt - 32 - i.ram_base) cf (moved_on i q rm) (off_callee 4 a (inr (omega arith)))
        ∙ sym (word_at 8 (q - i.ram_base) k (moved_on i q rm) lt)
      where
        apart : (t.monitor + block_size ≤ t.stack.base) ⊎ (t.stack.base + t.stack.size ≤ t.monitor) →
            (q - i.ram_base + 4 * k + 4 ≤ t.monitor - i.ram_base + 0) ⊎ (t.monitor - i.ram_base + block_size ≤ q - i.ram_base + 4 * k)
        apart (inl d) = let base = lo in let rl = ram_low i t p in let blk = p.block_inside.0 in inr (omega (arith, d, base, rl, blk))
        apart (inr d) = let inside = hi in let base = lo in let below = top_inside laws.unit i t p m x ram z.invariant in let rl = ram_low i t p in inl (omega (arith, d, inside, below, rl, lt, base))

    pub enter : Enters g (Invariant i t) s b low o top entry (pc + 4) ram queues
    unfolding resumed
    enter = record {
      resumes = resumed laws code i t p s m held_x (svc_steps 0) call_steps b (nt - 32) after y (omega arith) ordered (i.ram_base + top) entry o ram sp_at pc_at keeps z.fits.ram_count;
      arguments = given;
      link = link_at;
      status = stacked_status f false;
      thread = (laws.status f false).thread;
      no_pad = (laws.status f false).pad_bit;
      saved_return = subst (λ (a : ℕ). read 4 a (run (step i) y.count s).ram ≡ pc + 4) (at_return i.ram_base q o ram_q e32) (left 6 (omega arith) ∙ waits.return_address ∙ (let k : pc + 2 + 2 ≡ pc + 4 = omega arith in k));
      saved_status = subst (λ (a : ℕ). read 4 a (run (step i) y.count s).ram ≡ stacked_status f false) (at_status i.ram_base q o ram_q e32) (left 7 (omega arith) ∙ waits.status);
    }
      where
        given : (k : ℕ) → k < 4 → get_or (run (step i) y.count s).core.low k 0 ≡ cut 4 (get_or low k 0)
        given zero lt = low_at laws i t p s m held_x (svc_steps 0) b (nt - 32) after y 0 lt ∙ word_is 0 ∙ ap (λ (n : ℕ). cut 4 n) (ws.low 0 lt)
        given (suc zero) lt = low_at laws i t p s m held_x (svc_steps 0) b (nt - 32) after y 1 lt ∙ word_is 1 ∙ ap (λ (n : ℕ). cut 4 n) (ws.low 1 lt)
        given (suc (suc zero)) lt = low_at laws i t p s m held_x (svc_steps 0) b (nt - 32) after y 2 lt ∙ word_is 2 ∙ ap (λ (n : ℕ). cut 4 n) (ws.low 2 lt)
        given (suc (suc (suc zero))) lt = low_at laws i t p s m held_x (svc_steps 0) b (nt - 32) after y 3 lt ∙ word_is 3 ∙ ap (λ (n : ℕ). cut 4 n) (ws.low 3 lt)
        given (suc (suc (suc (suc k)))) lt = absurd (omega (arith, lt))
