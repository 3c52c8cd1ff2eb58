-- The instruction that is decoded is related to its halfwords.
use Rattle.std.proofs.Common.{◌≡◌, ℕ, ◌+◌, ◌*◌, ◌/◌, ◌%◌, ◌^◌, ◌<◌, ◌≤◌, refl, arith, rules, pos, inl, inr, Option, nat_eq, nat_lt}
use Rattle.std.specs.Option.{IfSome}
use Rattle.std.proofs.lemmas.Bool.{cases_Bool, eqb-true, lt-ltb, le-ltb}
use Rattle.std.specs.Prelude.{if◌then◌else◌}
use Rattle.std.proofs.lemmas.Bool.Decides.{nat_tests, leb_tells}
use Rattle.machine_thumb.proofs.Offsets.{Extends-extended, halfwords_of-extended-8, halfwords_of-extended-11, halfwords_of-extended-24}
use Rattle.machine_thumb.specs.Table.{branch_pair, Encodes, encode}
use Rattle.machine_thumb.specs.Decoded.{arithmetic_of, special_of, transfer_of, stack_of, multiple_of, upper_of, narrow_of, move_of, special_register_of, divide_of, wide_of, extended, branch_bits}
use Rattle.machine_thumb.specs.declared.table.Code.{Code}
use Rattle.machine_thumb.specs.declared.table.Code.TheVariants.{Half, Pair}
use Rattle.machine_thumb.specs.declared.table.Instr.{Instr}
use Rattle.machine_thumb.specs.declared.table.Instr.TheVariants.{BranchConditional, CallBranch, BranchLink, BranchWide, StackRelative}

abbrev pub Sound : Code → Option Instr → Type 0
Sound code o = IfSome o (Encodes code)

-- an instruction by a test of a halfword
below_or : (code : Code) (h n : ℕ) (x y : Option Instr) → (h < n → Sound code x) → (n ≤ h → Sound code y) → Sound code (if nat_lt h n then x else y)
below_or code h n x y f g = elim (leb_tells n h) [
  | inl t ↦ rw (le-ltb h n t.1) (g t.1)
  | inr t ↦ rw (lt-ltb h n t.1) (f t.1)
]

arithmetic : (h : ℕ) → h < 0x4000 → Sound (Half h) (arithmetic_of h)
unfolding encode arithmetic_of
arithmetic h below = search (rules, nat_tests)

special : (h : ℕ) → 0x4400 ≤ h → h < 0x4800 → Sound (Half h) (special_of h)
unfolding encode special_of
special h above below = search (rules, nat_tests)

transfer : (h : ℕ) → 0x4000 ≤ h → h < 0x9000 → Sound (Half h) (transfer_of h)
unfolding encode transfer_of
transfer h above below =
    below_or _ h 0x4400 _ _ (λ t. search (rules, nat_tests))
    (λ a. below_or _ h 0x4800 _ _ (λ t. special h a t)
    (λ a. below_or _ h 0x5000 _ _ (λ t. search (rules, nat_tests))
    (λ a. below_or _ h 0x6000 _ _ (λ t. search (rules, nat_tests)) (λ a. search (rules, nat_tests)))))

stack : (h : ℕ) → 0xB000 ≤ h → h < 0xC000 → Sound (Half h) (stack_of h)
unfolding encode stack_of
stack h above below = search (rules, nat_tests)

multiple : (h : ℕ) → 0xC000 ≤ h → h < 0xD000 → Sound (Half h) (multiple_of h)
unfolding encode multiple_of
multiple h above below = search (rules, nat_tests)

move : (h k : ℕ) → 0xF000 ≤ h → h < 0xF800 → k < 0x8000 → Sound (Pair h k) (move_of h k)
unfolding encode move_of
move h k above below second = search (rules, nat_tests)

special_register : (h k : ℕ) → 0xF000 ≤ h → h < 0xF800 → 0x8000 ≤ k → k < 0x9000 → Sound (Pair h k) (special_register_of h k)
unfolding encode special_register_of
special_register h k above below from second = search (rules, nat_tests)

divide : (h k : ℕ) → 0xF800 ≤ h → h < 2 ^ 16 → k < 2 ^ 16 → Sound (Pair h k) (divide_of h k)
unfolding encode divide_of
divide h k above below second = search (rules, nat_tests)

conditional : (h : ℕ) → 0xD000 ≤ h → h < 0xDE00 → Encodes (Half h) (BranchConditional (h / 256 % 16) (extended 128 (h % 256)))
unfolding encode
conditional h above below =
    let x = Extends-extended 128 (h % 256) (omega arith) (omega arith) in
    let f = halfwords_of-extended-8 (h % 256) (omega arith) in
    let e : 0xD000 + h / 256 % 16 * 256 + h % 256 ≡ h = omega arith in
    record { in_table = (omega arith, x.offset); halfwords = rw (f, e) }

plain : (h : ℕ) → 0xE000 ≤ h → h < 0xE800 → Encodes (Half h) (CallBranch 1 0 (extended 1024 (h % 2048)))
unfolding encode
plain h above below =
    let x = Extends-extended 1024 (h % 2048) (omega arith) (omega arith) in
    let f = halfwords_of-extended-11 (h % 2048) (omega arith) in
    let e : 0xE000 + h % 2048 ≡ h = omega arith in
    record {
      in_table = (omega arith, omega arith, x.offset, (λ z. absurd (omega arith)), λ z. refl);
      halfwords = rw (f, e);
    }

-- the bits of a distance, taken from two halfwords, give the halfwords
branch_pair-branch_bits : (second h k : ℕ) → 0xF000 ≤ h → h < 0xF800 → k ≡ second + k / 8192 % 2 * 8192 + k / 2048 % 2 * 2048 + k % 2048 → branch_pair second (branch_bits h k) ≡ Pair h k
branch_pair-branch_bits second h k above below second_is =
    let bits : ℕ = branch_bits h k in
    let s : ℕ = h / 1024 % 2 in
    let j1 : ℕ = k / 8192 % 2 in
    let j2 : ℕ = k / 2048 % 2 in
    let e0 : bits / 2 ^ 23 ≡ s = omega arith in
    let e1 : (bits / 2 ^ 22 % 2 + s + 1) % 2 ≡ j1 = omega arith in
    let e2 : (bits / 2 ^ 21 % 2 + s + 1) % 2 ≡ j2 = omega arith in
    let e3 : bits % 2048 ≡ k % 2048 = omega arith in
    let e4 : bits / 2048 % 1024 ≡ h % 1024 = omega arith in
    let e5 : 0xF000 + s * 1024 + h % 1024 ≡ h = omega arith in
    rw (e0, e1, e2, e3, e4, e5, ← second_is)

link : (h k : ℕ) → 0xF000 ≤ h → h < 0xF800 → 0xC000 ≤ k → k < 2 ^ 16 → k / 4096 % 2 ≡ 1 → Encodes (Pair h k) (BranchLink (extended (2 ^ 23) (branch_bits h k)))
unfolding encode
link h k above below from second set =
    let room : branch_bits h k < 2 ^ 24 = omega arith in
    let x = Extends-extended (2 ^ 23) (branch_bits h k) (omega arith) room in
    let f = halfwords_of-extended-24 (branch_bits h k) room in
    record { in_table = x.offset; halfwords = rw f (branch_pair-branch_bits 0xD000 h k above below (omega arith)) }

far : (h k : ℕ) → 0xF000 ≤ h → h < 0xF800 → 0x8000 ≤ k → k < 0xC000 → k / 4096 % 2 ≡ 1 → Encodes (Pair h k) (BranchWide (extended (2 ^ 23) (branch_bits h k)))
unfolding encode
far h k above below from second set =
    let room : branch_bits h k < 2 ^ 24 = omega arith in
    let x = Extends-extended (2 ^ 23) (branch_bits h k) (omega arith) room in
    let f = halfwords_of-extended-24 (branch_bits h k) room in
    record { in_table = x.offset; halfwords = rw f (branch_pair-branch_bits 0x9000 h k above below (omega arith)) }

stack_relative : (h : ℕ) → 0x9000 ≤ h → h < 0xA000 → Encodes (Half h) (StackRelative (h / 2048 % 2) (h / 256 % 8) 0 (h % 256))
unfolding encode
stack_relative h above below = search (rules, nat_tests)

stack_address : (h : ℕ) → 0xA800 ≤ h → h < 0xB000 → Encodes (Half h) (StackRelative 2 0 (h / 256 % 8) (h % 256))
unfolding encode
stack_address h above below = search (rules, nat_tests)

call : (h : ℕ) → 0xDF00 ≤ h → h < 0xE000 → Encodes (Half h) (CallBranch 0 (h % 256) (pos 0))
unfolding encode
call h above below = search (rules, nat_tests)

upper : (h : ℕ) → 0x9000 ≤ h → h < 0xE800 → Sound (Half h) (upper_of h)
unfolding upper_of
upper h above below =
    below_or _ h 0xA000 _ _ (λ t. stack_relative h above t)
    (λ a. below_or _ h 0xA800 _ _ (λ t. tt)
    (λ a. below_or _ h 0xB000 _ _ (λ t. stack_address h a t)
    (λ a. below_or _ h 0xC000 _ _ (λ t. stack h a t)
    (λ a. below_or _ h 0xD000 _ _ (λ t. multiple h a t)
    (λ a. below_or _ h 0xDE00 _ _ (λ t. conditional h a t)
    (λ a. below_or _ h 0xDF00 _ _ (λ t. tt)
    (λ a. below_or _ h 0xE000 _ _ (λ t. call h a t)
    (λ a. plain h a below))))))))

pub narrow : (h : ℕ) → h < 0xE800 → Sound (Half h) (narrow_of h)
unfolding narrow_of
narrow h below =
    below_or _ h 0x4000 _ _ (λ t. arithmetic h t)
    (λ a. below_or _ h 0x9000 _ _ (λ t. transfer h a t)
    (λ a. upper h a below))

equal_or : (code : Code) (a b : ℕ) (x y : Option Instr) → (a ≡ b → Sound code x) → Sound code y → Sound code (if nat_eq a b then x else y)
equal_or code a b x y f g = elim (cases_Bool (nat_eq a b)) [
  | inl t ↦ rw t (f (eqb-true a b t))
  | inr t ↦ rw t g
]

pub wide : (h k : ℕ) → 0xE800 ≤ h → h < 2 ^ 16 → k < 2 ^ 16 → Sound (Pair h k) (wide_of h k)
unfolding wide_of
wide h k above below second =
    below_or _ h 0xF000 _ _ (λ t. tt)
    (λ a. below_or _ h 0xF800 _ _
    (λ t. below_or _ k 0x8000 _ _ (λ u. move h k a t u)
    (λ b. equal_or _ (k / 4096 % 2) 1 _ _
    (λ e. below_or _ k 0xC000 _ _ (λ u. far h k a t b u e) (λ c. link h k a t c second e))
    (below_or _ k 0x9000 _ _ (λ u. special_register h k a t b u) (λ c. tt))))
    (λ b. divide h k b below second))
