-- Sums and differences by name, numbers of 32 bits, r12, and jumps by a low register.
use Rattle.std.proofs.Common.{◌≡◌, ℕ, ◌+◌, ◌-◌, ◌*◌, ◌/◌, ◌%◌, ◌^◌, ◌<◌, true, List, [], get_or, set, get_or-set_same, nat_eq, length, refl, ap, ◌∙◌, arith}
use Rattle.std.proofs.lemmas.Bool.Decides.{nat_tests}
use Rattle.std.proofs.lemmas.List.{set-set}
use Rattle.base_words.specs.declared.conditions.Flags.{Flags}
use Rattle.base_words.specs.Arithmetic.{word, add, subtract}
use Rattle.base_words.specs.Flags.{add_with_carry, add_flags, compare_flags}
use Rattle.machine_thumb.specs.declared.table.Instr.TheVariants.{AddSubRegister, DataImmediate, HighRegister, BranchExchange, TransferImmediate, MoveWide, MoveTop}
use Rattle.machine_devices.specs.declared.image.Image.{Image}
use Rattle.machine_model.specs.State.{PermissionTest}
use Rattle.machine_model.specs.Act.{Loads, Stores, Exchanges}
use Rattle.machine_model.specs.declared.answers.Outcome.TheVariants.{Gives}
use Rattle.machine_model.specs.Instructions.{act}
use Rattle.machine_model.specs.Perform.{perform}
use Rattle.machine_model.specs.Code.{Stands, StepsQuietly, Runs}
use Rattle.machine_model.specs.RunningCode.{Context, body, works, IsLoad, IsStore}
use Rattle.machine_model.proofs.Exec.{steps_from, stay, next_step}
use Rattle.machine_model.proofs.Acts.{turns, changes}
use Rattle.machine_model.proofs.InstructionEffects.{register_low, with_register_low, sum_gives, immediate_gives, movw, movt}
use Rattle.machine_model.proofs.Transfers.{not_return}

-- ---- what a sum gives

gives : (v u : ℕ) (g : Flags) → v ≡ u → Gives v g ≡ Gives u g
gives v u g e = ap (λ n. Gives n g) e

sum_is : (a b : ℕ) → add_with_carry a b 0 ≡ add a b
sum_is a b = ap word (let e : a + b + 0 ≡ a + b = omega arith in e)

difference_is : (a b : ℕ) → b < 2 ^ 32 → add_with_carry a (2 ^ 32 - 1 - b) 1 ≡ subtract a b
difference_is a b h = ap word (let e : a + (2 ^ 32 - 1 - b) + 1 ≡ a + (2 ^ 32 - b) = omega arith in e)

-- a number by its halves
halves_are : (v : ℕ) → v < 2 ^ 32 → v % 2 ^ 16 % 2 ^ 16 + v / 2 ^ 16 * 2 ^ 16 ≡ v
halves_are v h = omega arith

module _ (j : PermissionTest) (i : Image) (x : Context) (low : List ℕ) (sp lr pc : ℕ) (f : Flags) (ram : List ℕ) (queues : List (List ℕ)) where
  -- ADDS d, n, m; SUBS d, n, m
  pub adds : (m n d : ℕ) → Stands j i x.protection pc (AddSubRegister 0 m n d) →
      StepsQuietly j i (works x low sp lr pc f ram queues) (works x (set low d (add (get_or low n 0) (get_or low m 0))) sp lr (pc + 2) (add_flags (get_or low n 0) (get_or low m 0) 0) ram queues)
  adds m n d st = sum_gives j i x low sp lr pc f ram queues 0 m n d (add (get_or low n 0) (get_or low m 0)) (add_flags (get_or low n 0) (get_or low m 0) 0)
      (gives _ _ _ (sum_is (get_or low n 0) (get_or low m 0))) st

  pub subs : (m n d : ℕ) → get_or low m 0 < 2 ^ 32 → Stands j i x.protection pc (AddSubRegister 1 m n d) →
      StepsQuietly j i (works x low sp lr pc f ram queues) (works x (set low d (subtract (get_or low n 0) (get_or low m 0))) sp lr (pc + 2) (compare_flags (get_or low n 0) (get_or low m 0)) ram queues)
  subs m n d h st = sum_gives j i x low sp lr pc f ram queues 1 m n d (subtract (get_or low n 0) (get_or low m 0)) (compare_flags (get_or low n 0) (get_or low m 0))
      (gives _ _ _ (difference_is (get_or low n 0) (get_or low m 0) h)) st

  -- ADDS d, #n; SUBS d, #n
  pub adds_immediate : (d n : ℕ) → Stands j i x.protection pc (DataImmediate 2 d n) →
      StepsQuietly j i (works x low sp lr pc f ram queues) (works x (set low d (add (get_or low d 0) n)) sp lr (pc + 2) (add_flags (get_or low d 0) n 0) ram queues)
  adds_immediate d n st = immediate_gives j i x low sp lr pc f ram queues 2 d n (add (get_or low d 0) n) (add_flags (get_or low d 0) n 0)
      (gives _ _ _ (sum_is (get_or low d 0) n)) st

  pub subs_immediate : (d n : ℕ) → n < 2 ^ 32 → Stands j i x.protection pc (DataImmediate 3 d n) →
      StepsQuietly j i (works x low sp lr pc f ram queues) (works x (set low d (subtract (get_or low d 0) n)) sp lr (pc + 2) (compare_flags (get_or low d 0) n) ram queues)
  subs_immediate d n h st = immediate_gives j i x low sp lr pc f ram queues 3 d n (subtract (get_or low d 0) n) (compare_flags (get_or low d 0) n)
      (gives _ _ _ (difference_is (get_or low d 0) n h)) st

  -- MOV d, m of low registers
  pub mov_low : (m d : ℕ) → m < 8 → d < 8 → Stands j i x.protection pc (HighRegister 2 m d) →
      StepsQuietly j i (works x low sp lr pc f ram queues) (works x (set low d (get_or low m 0)) sp lr (pc + 2) f ram queues)
  unfolding act
  mov_low m d a b st =
      let r = register_low (body x low sp lr pc f) m a in
      let e = with_register_low (body x low sp lr pc f) d (get_or low m 0) b in
      changes j i (body x low sp lr pc f) x.protection x.status ram queues (HighRegister 2 m d) (body x (set low d (get_or low m 0)) sp lr (pc + 2) f) st (rw (r, e) refl)

  -- MOVW and MOVT of r12
  pub movw_r12 : (n : ℕ) → Stands j i x.protection pc (MoveWide 12 n) →
      StepsQuietly j i (works x low sp lr pc f ram queues) (works (record x { high = set x.high 4 n }) low sp lr (pc + 4) f ram queues)
  unfolding act
  movw_r12 n st = changes j i (body x low sp lr pc f) x.protection x.status ram queues (MoveWide 12 n) (body (record x { high = set x.high 4 n }) low sp lr (pc + 4) f) st refl

  pub movt_r12 : (n : ℕ) → Stands j i x.protection pc (MoveTop 12 n) →
      StepsQuietly j i (works x low sp lr pc f ram queues) (works (record x { high = set x.high 4 (get_or x.high 4 0 % 2 ^ 16 + n * 2 ^ 16) }) low sp lr (pc + 4) f ram queues)
  unfolding act
  movt_r12 n st =
      changes j i (body x low sp lr pc f) x.protection x.status ram queues (MoveTop 12 n) (body (record x { high = set x.high 4 (get_or x.high 4 0 % 2 ^ 16 + n * 2 ^ 16) }) low sp lr (pc + 4) f) st refl

  -- BX m that is no exception return
  pub bx_low : (m to : ℕ) → m < 8 → get_or low m 0 ≡ to + 1 → to % 2 ≡ 0 → to < 0xFFFFFFF0 → Stands j i x.protection pc (BranchExchange 0 m) →
      StepsQuietly j i (works x low sp lr pc f ram queues) (works x low sp lr to f ram queues)
  unfolding act perform
  bx_low m to h is even below st =
      let a = not_return x.protection.handler (to + 1) 0xFFFFFFFD (omega arith) in
      let b = not_return x.protection.handler (to + 1) 0xFFFFFFF9 (omega arith) in
      let odd : nat_eq ((to + 1) % 2) 1 ≡ true = search (nat_tests, arith) in
      let d : to + 1 - 1 ≡ to = omega arith in
      let r = register_low (body x low sp lr pc f) m h in
      steps_from (turns j i (body x low sp lr pc f) x.protection x.status ram queues (BranchExchange 0 m) (Exchanges (to + 1)) st (ap Exchanges (r ∙ is))) (rw (a, b, odd, d) refl) (rw (a, b, odd) refl)

  -- what loads and stores by a number ask for
  pub load_act : (op w k n t : ℕ) → IsLoad op w → act (TransferImmediate op k n t) (pc + 2) (body x low sp lr pc f) ≡ Loads w (word (get_or low n 0 + w * k)) (λ u. body x (set low t u) sp lr (pc + 2) f)
  unfolding act
  load_act op w k n t is = is k (get_or low n 0) t (pc + 2) (body x low sp lr pc f)

  pub store_act : (op w k n t : ℕ) → IsStore op w → act (TransferImmediate op k n t) (pc + 2) (body x low sp lr pc f) ≡ Stores w (word (get_or low n 0 + w * k)) (get_or low t 0) (body x low sp lr (pc + 2) f)
  unfolding act
  store_act op w k n t is = is k (get_or low n 0) t (pc + 2) (body x low sp lr pc f)

-- MOVW and MOVT of both halves of a number
set_twice : (l : List ℕ) (d v : ℕ) → d < length l → v < 2 ^ 32 → set (set l d (v % 2 ^ 16)) d (get_or (set l d (v % 2 ^ 16)) d 0 % 2 ^ 16 + v / 2 ^ 16 * 2 ^ 16) ≡ set l d v
set_twice l d v h room =
    let g = get_or-set_same l d (v % 2 ^ 16) 0 h in
    let e = halves_are v room in
    rw (g, e) (set-set l d (v % 2 ^ 16) v)

pub word_into : (j : PermissionTest) (i : Image) (x : Context) (low : List ℕ) (sp lr pc : ℕ) (f : Flags) (ram : List ℕ) (queues : List (List ℕ)) (d v : ℕ) → d < 8 → d < length low → v < 2 ^ 32 →
    Stands j i x.protection pc (MoveWide d (v % 2 ^ 16)) → Stands j i x.protection (pc + 4) (MoveTop d (v / 2 ^ 16)) →
    Runs j i 2 (works x low sp lr pc f ram queues) (works x (set low d v) sp lr (pc + 4 + 4) f ram queues) []
word_into j i x low sp lr pc f ram queues d v h room fits one two =
    let e = set_twice low d v room fits in
    let s = movt j i x (set low d (v % 2 ^ 16)) sp lr (pc + 4) f ram queues d (v / 2 ^ 16) h two in
    next_step (movw j i x low sp lr pc f ram queues d (v % 2 ^ 16) h one) (next_step (rw e at s) (stay j i))

pub word_into_r12 : (j : PermissionTest) (i : Image) (x : Context) (low : List ℕ) (sp lr pc : ℕ) (f : Flags) (ram : List ℕ) (queues : List (List ℕ)) (v : ℕ) → 4 < length x.high → v < 2 ^ 32 →
    Stands j i x.protection pc (MoveWide 12 (v % 2 ^ 16)) → Stands j i x.protection (pc + 4) (MoveTop 12 (v / 2 ^ 16)) →
    Runs j i 2 (works x low sp lr pc f ram queues) (works (record x { high = set x.high 4 v }) low sp lr (pc + 4 + 4) f ram queues) []
word_into_r12 j i x low sp lr pc f ram queues v room fits one two =
    let e = set_twice x.high 4 v room fits in
    let s = movt_r12 j i (record x { high = set x.high 4 (v % 2 ^ 16) }) low sp lr (pc + 4) f ram queues (v / 2 ^ 16) two in
    next_step (movw_r12 j i x low sp lr pc f ram queues (v % 2 ^ 16) one) (next_step (rw e at s) (stay j i))
