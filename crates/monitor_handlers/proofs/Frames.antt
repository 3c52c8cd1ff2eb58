-- Frames of the stack: their words, the right to read them, and the return from them.
use Rattle.std.proofs.Common.{◌≡◌, ℕ, zero, suc, ◌+◌, ◌-◌, ◌*◌, ◌/◌, ◌%◌, ◌<◌, ◌≤◌, inl, inr, ⊎_elim, Bool, true, false, List, [], ◌∷◌, length, get_or, nat_eq, refl, ap, ap₂, ◌∙◌, subst, arith}
use Rattle.std.specs.Int.{IsPowerOfTwo}
use Rattle.base_words.specs.Arithmetic.{word}
use Rattle.base_words.specs.Bytes.{read}
use Rattle.machine_thumb.specs.declared.table.Instr.TheVariants.{BranchExchange}
use Rattle.machine_protection.specs.declared.region.Region.{Region}
use Rattle.machine_protection.specs.declared.region.Access.TheVariants.{Read}
use Rattle.machine_protection.specs.declared.words.Rights.TheVariants.{Stack}
use Rattle.machine_protection.specs.Regions.{holds, allows}
use Rattle.machine_protection.specs.Registers.{Registers}
use Rattle.machine_protection.specs.RegionWords.{region_of}
use Rattle.machine_protection.specs.Protection.{permits}
use Rattle.machine_protection.specs.Laws.{RegionsGiveTheirRights}
use Rattle.machine_protection.specs.Configured.{NoneOf, KeptListsPermit, closed_from, OpenEighthsAreHeld}
use Rattle.machine_protection.proofs.Configured.{closed_byte}
use Rattle.machine_devices.specs.declared.image.Image.{Image}
use Rattle.machine_model.specs.declared.state.CoreRegisters.{CoreRegisters}
use Rattle.machine_model.specs.declared.state.ProtectionState.{ProtectionState}
use Rattle.machine_model.specs.declared.state.FaultStatus.{FaultStatus}
use Rattle.machine_model.specs.State.{by_mpu}
use Rattle.machine_model.specs.Act.{Exchanges}
use Rattle.machine_model.specs.Instructions.{act}
use Rattle.machine_model.specs.Tests.{all_open}
use Rattle.machine_model.specs.Exceptions.{return_on_psp, is_thread, leaves}
use Rattle.machine_model.specs.Perform.{perform}
use Rattle.machine_model.specs.Step.{turn}
use Rattle.machine_model.specs.Code.{size, Stands, live}
use Rattle.machine_model.specs.Stack.{Words, words_at, May}
use Rattle.machine_model.specs.Running.{StepsAreActs}
use Rattle.base_laws.specs.Lists.{Each}
use Rattle.monitor_model.specs.declared.tables.CompRecord.{CompRecord}
use Rattle.monitor_model.specs.declared.tables.Tables.{Tables}
use Rattle.monitor_model.specs.Records.{compartment_at, nobody, eighth, stack_end}
use Rattle.monitor_model.specs.Regions.{background, tables_region, stack_region, regions_for}
use Rattle.monitor_model.specs.Placed.{Placed, IsCompartment, IsSlot}
use Rattle.monitor_model.specs.Invariant.{IsTop}
use Rattle.monitor_model.specs.Outcomes.{stacked}
use Rattle.monitor_laws.proofs.Numbers.{times_over}
use Rattle.monitor_laws.proofs.Tables.{size_of_stack}
use Rattle.machine_model.proofs.StackWords.{get_or-words_at as nth_word, behind, head_place, stacked_are}
use Rattle.base_laws.proofs.Lists.{each_at}

-- ---- words

pub words_same : (n o : ℕ) (a b : List ℕ) → ((k : ℕ) → k < n → read 4 (o + 4 * k) a ≡ read 4 (o + 4 * k) b) → words_at n o a ≡ words_at n o b
unfolding words_at
words_same zero o a b h = refl
words_same (suc n) o a b h = ap₂ (λ x xs. x ∷ xs) first (words_same n (o + 4) a b later)
  where
    first : read 4 o a ≡ read 4 o b
    first = let z : o + 4 * 0 ≡ o = omega arith in subst (λ o. read 4 o a ≡ read 4 o b) z (h 0 (omega arith))

    later : (k : ℕ) → k < n → read 4 (o + 4 + 4 * k) a ≡ read 4 (o + 4 + 4 * k) b
    later k lt = let z : o + 4 * suc k ≡ o + 4 + 4 * k = omega arith in subst (λ o. read 4 o a ≡ read 4 o b) z (h (suc k) (omega (arith, lt)))

pub stacked_is : (i : Image) (psp o k : ℕ) (memory : List ℕ) → psp ≡ i.ram_base + o → k < 8 → stacked i psp memory k ≡ read 4 (o + 4 * k) memory
stacked_is i psp o k memory e lt = let z : psp - i.ram_base ≡ o = omega (arith, e) in ap (λ o. get_or (words_at 8 o memory) k 0) z ∙ nth_word 8 o k memory lt

-- ---- words that lie in RAM and may be accessed

may_rest : (i : Image) (q : ProtectionState) (a o n : ℕ) → Words i a o (suc n) → May by_mpu q Read a (suc n) → May by_mpu q Read (word (a + 4)) n
may_rest i q a o n w m = λ k lt.
    let e : word (a + 4) ≡ a + 4 = omega (arith, w.is_at, w.fits, w.low) in
    let y : a + 4 + 4 * k ≡ a + 4 * suc k = omega arith in
    rw (e, y) (m (suc k) (omega (arith, lt)))

open_in_ram : (i : Image) (q : ProtectionState) (n a o : ℕ) → Words i a o n → May by_mpu q Read a n → all_open by_mpu i q Read a n ≡ true
unfolding all_open
open_in_ram i q zero a o w m = refl
open_in_ram i q (suc n) a o w m =
    let e = head_place i a o n w in
    let f : by_mpu q Read a ≡ true = let z : a + 4 * 0 ≡ a = omega arith in subst (λ a. by_mpu q Read a ≡ true) z (m 0 (omega arith)) in
    let g = open_in_ram i q n (word (a + 4)) (o + 4) (behind i a o n w) (may_rest i q a o n w m) in
    rw (e, f, g)

-- ---- the return

-- BX LR, in Handler mode with the return to a thread on PSP in LR
pub returns_turn : StepsAreActs → (i : Image) (c : CoreRegisters) (q : ProtectionState) (u : FaultStatus) (ram : List ℕ) (queues : List (List ℕ)) (o : ℕ) →
    Stands by_mpu i q c.pc (BranchExchange 0 14) → act (BranchExchange 0 14) (c.pc + size (BranchExchange 0 14)) c ≡ Exchanges return_on_psp → q.handler ≡ true → Words i c.other_sp o 8 → May by_mpu (record q { handler = false }) Read c.other_sp 8 →
    turn by_mpu i (live c q u ram queues) ≡ leaves true (is_thread (get_or (words_at 8 o ram) 7 0)) true c.other_sp (words_at 8 o ram) (live c q u ram queues)
unfolding perform
returns_turn steps i c q u ram queues o h e is w m =
    let a = open_in_ram i (record q { handler = false }) 8 c.other_sp o w m in
    let s = stacked_are i 8 c.other_sp o ram w in
    steps by_mpu i c q u ram queues (BranchExchange 0 14) h
    ∙ ap (λ b. perform by_mpu i b (live c q u ram queues)) e
    ∙ rw (is, a, s) refl

-- ---- the right to read

-- the laws of the protection unit
pub record StackLaws : Type 0 where
  pub permit : KeptListsPermit
  pub opened : OpenEighthsAreHeld
  pub rights : RegionsGiveTheirRights

module _ (laws : StackLaws) (i : Image) (t : Tables) (p : Placed i t) where
  no_slot_holds : (gs : List Region) → Each (IsSlot i t) gs → (a : ℕ) → t.stack.base ≤ a → a < stack_end t → NoneOf gs a
  no_slot_holds [] e a lo hi = tt
  no_slot_holds (g ∷ gs) e a lo hi = (off (holds g a) refl, no_slot_holds gs e.1 a lo hi)
    where
      off : (b : Bool) → holds g a ≡ b → holds g a ≡ false
      off true h = absurd (⊎_elim (λ x. omega (arith, x, lo)) (λ x. omega (arith, x, hi)) (e.0 a h).off_stack)
      off false h = h

  -- the stack below TOP
  pub stack_may_read : (c top n : ℕ) → IsTop t n top → c < length t.comps → (m : Registers) → m.control ≡ 5 → m.regions ≡ regions_for i t c top → (a : ℕ) → t.stack.base ≤ a → a < top → permits m true Read a ≡ true
  stack_may_read c top n is inside m on e a lo hi =
      let here : CompRecord = compartment_at t c in
      let comp : IsCompartment i t here = each_at (IsCompartment i t) t.comps nobody c p.comps inside in
      (laws.permit (background i ∷ tables_region t ∷ here.code ∷ stack_region t top ∷ here.slots) m Read a (ap (λ (n : ℕ). nat_eq (n % 2) 1) on) e).1
      (stack_region t top, inl (inl (inl (inr (refl, held, no_slot_holds here.slots comp.slots a lo below_end)))), allowed)
    where
      k : ℕ
      k = is.0

      few : k ≤ 8
      few = let h = is.3 in omega (arith, h)

      most : k * eighth t ≤ 8 * eighth t
      most = grind (arith, few)

      below_end : a < stack_end t
      below_end = let z = (size_of_stack p).eighths in let b = is.1 in let h = most in omega (arith, z, b, h, hi)

      above : (top - t.stack.base) / eighth t ≡ k
      above =
          let d : top - t.stack.base ≡ k * eighth t = (let b = is.1 in omega (arith, b)) in
          ap (λ x. x / eighth t) d ∙ times_over k (eighth t) (let l = (size_of_stack p).least in omega (arith, l))

      power : IsPowerOfTwo t.stack.size
      power = (p.stack.size.0, p.stack_size ∙ p.stack.size.3)

      aligned : t.stack.base % t.stack.size ≡ 0
      aligned = ap₂ (λ b z. b % z) p.stack_base p.stack_size ∙ p.stack.aligned

      held : holds (stack_region t top) a ≡ true
      held =
          ap (λ n. holds (region_of 3 t.stack.base t.stack.size (closed_from n) Stack) a) above
          ∙ (laws.opened 3 t.stack.base t.stack.size k Stack (omega arith) power (let l = (size_of_stack p).least in let z = (size_of_stack p).eighths in omega (arith, l, z)) (let z = (size_of_stack p).most in omega (arith, z)) aligned few a).1
          (lo, subst (λ e. a < e) is.1 hi)

      allowed : allows (stack_region t top) true Read ≡ true
      allowed = laws.rights 3 t.stack.base t.stack.size (closed_from ((top - t.stack.base) / eighth t)) Stack (closed_byte ((top - t.stack.base) / eighth t)) true Read
