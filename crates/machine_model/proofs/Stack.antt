-- Words of RAM by their addresses: pushes, pops and frames.
use Rattle.std.proofs.Common.{◌≡◌, ℕ, zero, suc, ◌+◌, ◌*◌, ◌<◌, ◌≤◌, true, false, List, [], ◌∷◌, Option, Some, refl, ◌∙◌, arith, length}
use Rattle.std.proofs.lemmas.Bool.Decides.{nat_tests}
use Rattle.base_words.specs.Arithmetic.{word}
use Rattle.base_words.specs.Bytes.{write, write_all}
use Rattle.base_words.proofs.Bytes.{length-write, cut_small, read_same, read_below_all}
use Rattle.machine_thumb.specs.declared.table.Instr.{Instr}
use Rattle.machine_protection.specs.declared.region.Access.{Access}
use Rattle.machine_protection.specs.declared.region.Access.TheVariants.{Read, Write}
use Rattle.machine_devices.specs.declared.image.Image.{Image}
use Rattle.machine_model.specs.declared.state.CoreRegisters.{CoreRegisters}
use Rattle.machine_model.specs.declared.state.ProtectionState.{ProtectionState}
use Rattle.machine_model.specs.declared.state.FaultStatus.{FaultStatus}
use Rattle.machine_model.specs.State.{State, PermissionTest}
use Rattle.machine_model.specs.Act.{StoresMany, LoadsMany}
use Rattle.machine_model.specs.Instructions.{act}
use Rattle.machine_model.specs.System.{in_system}
use Rattle.machine_model.specs.declared.answers.Verdict.TheVariants.{ToBus}
use Rattle.machine_model.specs.declared.answers.Verdicts.TheVariants.{AllGood}
use Rattle.machine_model.specs.Tests.{verdict, verdicts, all_open}
use Rattle.machine_model.specs.Exceptions.{push_words}
use Rattle.machine_model.specs.Perform.{perform, get_words, put_words}
use Rattle.machine_model.specs.Stack.{Words, words_at, cut_words, AreWords, May}
use Rattle.machine_model.specs.Code.{size, Stands, live, StepsQuietly}
use Rattle.machine_model.proofs.Exec.{steps_from}
use Rattle.machine_model.proofs.Acts.{turns}
use Rattle.machine_model.proofs.StackWords.{behind, head_place}
use Rattle.machine_model.proofs.ToSystem.{to_bus}

pub head_low : (i : Image) (a o n : ℕ) → Words i a o (suc n) → in_system a ≡ false
head_low i a o n w =
    let h : a < 0x40000000 = omega (arith, w.is_at, w.fits, w.low) in
    search (nat_tests, arith)

-- ---- permission and tests

pub may_first : (j : PermissionTest) (p : ProtectionState) (kind : Access) (a n : ℕ) → May j p kind a (suc n) → j p kind a ≡ true
may_first j p kind a n m = let z : a + 4 * 0 ≡ a = omega arith in rw z at (m 0 (omega arith))

pub may_rest : (j : PermissionTest) (i : Image) (p : ProtectionState) (kind : Access) (a o n : ℕ) → Words i a o (suc n) → May j p kind a (suc n) → May j p kind (word (a + 4)) n
may_rest j i p kind a o n w m = λ k lt.
    let q : word (a + 4) ≡ a + 4 = omega (arith, w.is_at, w.fits, w.low) in
    let y : a + 4 + 4 * k ≡ a + 4 * suc k = omega arith in
    rw (q, y) (m (suc k) (omega arith))

pub word_verdict : (j : PermissionTest) (i : Image) (p : ProtectionState) (kind : Access) (a o n : ℕ) → Words i a o (suc n) → j p kind a ≡ true → verdict j p kind 4 a ≡ ToBus
word_verdict j i p kind a o n w m = to_bus j p kind 4 a w.aligned (omega (arith, w.is_at, w.fits, w.low)) m

pub words_verdict : (j : PermissionTest) (i : Image) (p : ProtectionState) (kind : Access) (n a o : ℕ) → Words i a o n → May j p kind a n → verdicts j i p kind a n ≡ AllGood
unfolding verdicts
words_verdict j i p kind zero a o w m = refl
words_verdict j i p kind (suc n) a o w m =
    let e = head_place i a o n w in
    let v = word_verdict j i p kind a o n w (may_first j p kind a n m) in
    let g = words_verdict j i p kind n (word (a + 4)) (o + 4) (behind i a o n w) (may_rest j i p kind a o n w m) in
    rw (v, e, g)

pub open_in_ram : (j : PermissionTest) (i : Image) (p : ProtectionState) (kind : Access) (n a o : ℕ) → Words i a o n → May j p kind a n → all_open j i p kind a n ≡ true
unfolding all_open
open_in_ram j i p kind zero a o w m = refl
open_in_ram j i p kind (suc n) a o w m =
    let e = head_place i a o n w in
    let f = may_first j p kind a n m in
    let g = open_in_ram j i p kind n (word (a + 4)) (o + 4) (behind i a o n w) (may_rest j i p kind a o n w m) in
    rw (e, f, g)

-- ---- reads and writes

pub pushed_are : (i : Image) (vs : List ℕ) (a o : ℕ) (ram : List ℕ) → Words i a o (length vs) → push_words i a vs ram ≡ write_all 4 o vs ram
unfolding push_words write_all
pushed_are i [] a o ram w = refl
pushed_are i (v ∷ vs) a o ram w =
    let e = head_place i a o (length vs) w in
    rw e (pushed_are i vs (word (a + 4)) (o + 4) (write 4 o v ram) (behind i a o (length vs) w))

pub got_are : (i : Image) (n a o : ℕ) (s : State) → Words i a o n → get_words i a n s ≡ words_at n o s.ram
unfolding get_words words_at
got_are i zero a o s w = refl
got_are i (suc n) a o s w =
    let l = head_low i a o n w in
    let e = head_place i a o n w in
    let f = got_are i n (word (a + 4)) (o + 4) s (behind i a o n w) in
    rw (l, e, f)

pub put_are : (i : Image) (vs : List ℕ) (a o : ℕ) (s : State) → Words i a o (length vs) → put_words i a vs s ≡ record s { ram = write_all 4 o vs s.ram }
unfolding put_words write_all
put_are i [] a o s w = refl
put_are i (v ∷ vs) a o s w =
    let l = head_low i a o (length vs) w in
    let e = head_place i a o (length vs) w in
    rw (l, e) (put_are i vs (word (a + 4)) (o + 4) (record s { ram = write 4 o v s.ram }) (behind i a o (length vs) w))

-- ---- what was written

pub words_written : (vs : List ℕ) (o : ℕ) (ram : List ℕ) → o + 4 * length vs ≤ length ram → words_at (length vs) o (write_all 4 o vs ram) ≡ cut_words vs
unfolding words_at write_all
words_written [] o ram l = refl
words_written (v ∷ vs) o ram l =
    let n = length-write 4 o v ram in
    let e = read_below_all 4 o 4 (o + 4) vs (write 4 o v ram) (omega arith) ∙ read_same 4 o v ram (omega arith) in
    let f = words_written vs (o + 4) (write 4 o v ram) (omega arith) in
    rw (e, f)

pub cut_words-words : (vs : List ℕ) → AreWords vs → cut_words vs ≡ vs
cut_words-words [] h = refl
cut_words-words (v ∷ vs) h =
    let e = cut_small 4 v h.0 in
    let f = cut_words-words vs h.1 in
    rw (e, f)

-- ---- PUSH, POP, STMIA and LDMIA

module _ (j : PermissionTest) (i : Image) (c : CoreRegisters) (p : ProtectionState) (t : FaultStatus) (ram : List ℕ) (queues : List (List ℕ)) (x : Instr) where
  pub stores_many : (a o : ℕ) (vs : List ℕ) (d : CoreRegisters) → Stands j i p c.pc x → act x (c.pc + size x) c ≡ StoresMany a vs d → Words i a o (length vs) → May j p Write a (length vs) →
      StepsQuietly j i (live c p t ram queues) (live d p t (write_all 4 o vs ram) queues)
  unfolding perform
  stores_many a o vs d h e w m =
      let v = words_verdict j i p Write (length vs) a o w m in
      let g = put_are i vs a o (live d p t ram queues) w in
      steps_from (turns j i c p t ram queues x (StoresMany a vs d) h e) (rw (v, g) refl) (rw v refl)

  pub loads_many : (a o n : ℕ) (go : List ℕ → Option CoreRegisters) (d : CoreRegisters) → Stands j i p c.pc x → act x (c.pc + size x) c ≡ LoadsMany a n go → Words i a o n → May j p Read a n →
      go (words_at n o ram) ≡ Some d →
      StepsQuietly j i (live c p t ram queues) (live d p t ram queues)
  unfolding perform
  loads_many a o n go d h e w m f =
      let v = words_verdict j i p Read n a o w m in
      let g = got_are i n a o (live c p t ram queues) w in
      steps_from (turns j i c p t ram queues x (LoadsMany a n go) h e) (rw (v, g, f) refl) (rw (v, g, f) refl)
