-- What the table leaves out, and how long its instructions are.
use Rattle.std.proofs.Common.{◌≡◌, ◌≢◌, ℕ, ◌+◌, ◌*◌, ◌/◌, ◌%◌, ◌^◌, ◌<◌, ◌≤◌, refl, arith, rules, if◌then◌else◌, ◌⊎◌, inl, inr, None, nat_eq, nat_lt, true, false}
use Rattle.std.proofs.lemmas.Bool.Decides.{nat_tests}
use Rattle.machine_thumb.proofs.Relation.{decoded_code-related}
use Rattle.machine_thumb.proofs.Round.{in_special, in_stack, in_multiple, in_last, in_pair, in_divide, in_special_register, here, past, move_value-move_pair}
use Rattle.machine_thumb.specs.Table.{encode, move_pair}
use Rattle.machine_thumb.specs.Decoded.{decoded, is_general, special_of, stack_of, multiple_of, move_of, special_register_of, divide_of}
use Rattle.machine_thumb.specs.Laws.{IsUndefined, IsSpecial, LeavesOut, IsSelfDelimiting, ShowsItsLength}
use Rattle.machine_thumb.specs.declared.table.Code.{Code}
use Rattle.machine_thumb.specs.declared.table.Code.TheVariants.{Half, Pair}
use Rattle.machine_thumb.specs.declared.table.Instr.TheVariants.{ShiftImmediate, AddSubRegister, AddSubImmediate, DataImmediate, DataRegister, HighRegister, BranchExchange, LoadLiteral, TransferRegister, TransferImmediate, StackRelative, AdjustStack, PushPop, BreakpointNop, TransferMultiple, BranchConditional, CallBranch, BranchLink, BranchWide, MoveWide, MoveTop, Divide, SpecialRegister, Barrier}
use Rattle.machine_thumb.proofs.Codes.{zero_or_one}

half : (h : ℕ) → decoded h 0 ≡ None → IsUndefined (Half h)
half h n i e = let s = decoded_code-related (Half h) 0 i e in cc

pair : (h k : ℕ) → decoded h k ≡ None → IsUndefined (Pair h k)
pair h k n i e = let s = decoded_code-related (Pair h k) 0 i e in cc

undefined_instruction : (imm8 : ℕ) → imm8 < 256 → IsUndefined (Half (0xDE00 + imm8))
undefined_instruction imm8 v =
    let h : ℕ = 0xDE00 + imm8 in
    half h (in_last h 0 None (omega arith) (omega arith) (past h 0xDE00 _ _ _ (omega arith) (here h 0xDF00 _ _ _ (omega arith) refl)))

push_nothing : IsUndefined (Half 0xB400)
unfolding stack_of
push_nothing = half 0xB400 (in_stack 0xB400 0 None (omega arith) (omega arith) refl)

pop_nothing : IsUndefined (Half 0xBC00)
unfolding stack_of
pop_nothing = half 0xBC00 (in_stack 0xBC00 0 None (omega arith) (omega arith) refl)

multiple_none : (h : ℕ) → h % 256 ≡ 0 → multiple_of h ≡ None
unfolding multiple_of
multiple_none h e = rw e

store_nothing : (n : ℕ) → n < 8 → IsUndefined (Half (0xC000 + n * 256))
store_nothing n v = half _ (in_multiple _ 0 None (omega arith) (omega arith) (multiple_none _ (omega arith)))

load_nothing : (n : ℕ) → n < 8 → IsUndefined (Half (0xC800 + n * 256))
load_nothing n v = half _ (in_multiple _ 0 None (omega arith) (omega arith) (multiple_none _ (omega arith)))

base_above : (n list : ℕ) → n < 8 → list < 256 → list / 2 ^ n % 2 ≡ 1 → list % 2 ^ n ≢ 0 → multiple_of (0xC000 + n * 256 + list) ≡ None
unfolding multiple_of
base_above n list a b c e =
    let h : ℕ = 0xC000 + n * 256 + list in
    let e1 : h / 256 % 8 ≡ n = omega arith in
    let e2 : h % 256 ≡ list = omega arith in
    rw (e1, e2) (search (rules, nat_tests))

store_base_above : (n list : ℕ) → n < 8 → list < 256 → list / 2 ^ n % 2 ≡ 1 → list % 2 ^ n ≢ 0 → IsUndefined (Half (0xC000 + n * 256 + list))
store_base_above n list a b c e = half _ (in_multiple _ 0 None (omega arith) (omega arith) (base_above n list a b c e))

high_none : (op m d : ℕ) → op < 3 → m < 16 → d < 16 → (m ≡ 15) ⊎ (d ≡ 15) → special_of (0x4400 + op * 256 + d / 8 * 128 + m * 8 + d % 8) ≡ None
unfolding special_of
high_none op m d a b c e = search (rules, nat_tests)

high_fifteen : (op m d : ℕ) → op < 3 → m < 16 → d < 16 → (m ≡ 15) ⊎ (d ≡ 15) → IsUndefined (Half (0x4400 + op * 256 + d / 8 * 128 + m * 8 + d % 8))
high_fifteen op m d a b c e = half _ (in_special _ 0 None (omega arith) (omega arith) (high_none op m d a b c e))

exchange_none : (op : ℕ) → op < 2 → special_of (0x4700 + op * 128 + 15 * 8) ≡ None
unfolding special_of
exchange_none op a = search (rules, nat_tests)

exchange_fifteen : (op : ℕ) → op < 2 → IsUndefined (Half (0x4700 + op * 128 + 15 * 8))
exchange_fifteen op a = half _ (in_special _ 0 None (omega arith) (omega arith) (exchange_none op a))

compare_none : (m d : ℕ) → m < 8 → d < 8 → special_of (0x4500 + m * 8 + d) ≡ None
unfolding special_of
compare_none m d a b = search (rules, nat_tests)

compare_low : (m d : ℕ) → m < 8 → d < 8 → IsUndefined (Half (0x4500 + m * 8 + d))
compare_low m d a b = half _ (in_special _ 0 None (omega arith) (omega arith) (compare_none m d a b))

not_general : (r : ℕ) → IsSpecial r → is_general r ≡ false
not_general r v = search (rules, nat_tests)

below_sixteen : (r : ℕ) → IsSpecial r → r < 16
below_sixteen r v = grind arith

move_none : (op d value : ℕ) → op < 64 → IsSpecial d → value < 2 ^ 16 → IsUndefined (Pair (0xF000 + op * 16 + value / 2048 % 2 * 1024 + value / 4096) (value / 256 % 8 * 4096 + d * 256 + value % 256))
unfolding move_of
move_none op d value a v b =
    let h : ℕ = 0xF000 + op * 16 + value / 2048 % 2 * 1024 + value / 4096 in
    let k : ℕ = value / 256 % 8 * 4096 + d * 256 + value % 256 in
    let f = move_value-move_pair op d value a (below_sixteen d v) b in
    pair h k (in_pair h k None f.0 f.1 (here k 0x8000 _ _ _ f.2 (rw (f.4, not_general d v))))

move_special : (d value : ℕ) → IsSpecial d → value < 2 ^ 16 → IsUndefined (move_pair 0xF240 d value) × IsUndefined (move_pair 0xF2C0 d value)
move_special d value v b = (move_none 36 d value (omega arith) v b, move_none 44 d value (omega arith) v b)

divide_none : (h k : ℕ) → IsSpecial (h % 16) ⊎ IsSpecial (k / 256 % 16) ⊎ IsSpecial (k % 16) → divide_of h k ≡ None
unfolding divide_of
divide_none h k v = search (rules, nat_tests)

divide_pair : (first n d m : ℕ) → 0xF80 ≤ first → n < 16 → d < 16 → m < 16 → IsSpecial n ⊎ IsSpecial d ⊎ IsSpecial m → IsUndefined (Pair (first * 16 + n) (0xF0F0 + d * 256 + m))
divide_pair first n d m room a b c v =
    let h : ℕ = first * 16 + n in
    let k : ℕ = 0xF0F0 + d * 256 + m in
    let e1 : h % 16 ≡ n = omega arith in
    let e2 : k / 256 % 16 ≡ d = omega arith in
    let e3 : k % 16 ≡ m = omega arith in
    pair h k (in_divide h k None (omega arith) (divide_none h k (rw (e1, e2, e3) v)))

divide_special : (n d m : ℕ) → n < 16 → d < 16 → m < 16 → IsSpecial n ⊎ IsSpecial d ⊎ IsSpecial m →
    IsUndefined (Pair (0xFBB0 + n) (0xF0F0 + d * 256 + m)) × IsUndefined (Pair (0xFB90 + n) (0xF0F0 + d * 256 + m))
divide_special n d m a b c v = (divide_pair 0xFBB n d m (omega arith) a b c v, divide_pair 0xFB9 n d m (omega arith) a b c v)

write_none : (n s : ℕ) → IsSpecial n → s < 256 → special_register_of (0xF380 + n) (0x8800 + s) ≡ None
unfolding special_register_of
write_none n s v a = search (rules, nat_tests)

write_special : (n s : ℕ) → IsSpecial n → s < 256 → IsUndefined (Pair (0xF380 + n) (0x8800 + s))
write_special n s v a =
    let b = below_sixteen n v in
    pair _ _ (in_special_register _ _ None (omega arith) (omega arith) (omega arith) (omega arith) (write_none n s v a))

read_none : (d s : ℕ) → IsSpecial d → s < 256 → special_register_of 0xF3EF (0x8000 + d * 256 + s) ≡ None
unfolding special_register_of
read_none d s v a = search (rules, nat_tests)

read_special : (d s : ℕ) → IsSpecial d → s < 256 → IsUndefined (Pair 0xF3EF (0x8000 + d * 256 + s))
read_special d s v a =
    let b = below_sixteen d v in
    pair _ _ (in_special_register _ _ None (omega arith) (omega arith) (omega arith) (omega arith) (read_none d s v a))

pub leaves_out : LeavesOut
leaves_out = record {
  undefined_instruction = undefined_instruction;
  push_nothing = push_nothing;
  pop_nothing = pop_nothing;
  store_nothing = store_nothing;
  load_nothing = load_nothing;
  store_base_above = store_base_above;
  high_fifteen = high_fifteen;
  exchange_fifteen = exchange_fifteen;
  compare_low = compare_low;
  move_special = move_special;
  divide_special = divide_special;
  write_special = write_special;
  read_special = read_special;
}

by_op : (op : ℕ) (x y : Code) → IsSelfDelimiting x → IsSelfDelimiting y → IsSelfDelimiting (if nat_eq op 0 then x else y)
by_op op x y a b = elim (nat_eq op 0) as (λ t. IsSelfDelimiting (if t then x else y)) [ true ↦ a | false ↦ b ]

pub shows_its_length : ShowsItsLength
unfolding encode
shows_its_length (ShiftImmediate op imm5 m d) v = omega arith
shows_its_length (AddSubRegister op m n d) v = omega arith
shows_its_length (AddSubImmediate op imm3 n d) v = omega arith
shows_its_length (DataImmediate op d imm8) v = omega arith
shows_its_length (DataRegister op m d) v = omega arith
shows_its_length (HighRegister op m d) v = omega arith
shows_its_length (BranchExchange op m) v = omega arith
shows_its_length (LoadLiteral t imm8) v = omega arith
shows_its_length (TransferRegister op m n t) v = omega arith
shows_its_length (TransferImmediate op imm5 n t) v = omega arith
shows_its_length (StackRelative op t d imm8) v =
    let a : 0x9000 + op * 2048 + t * 256 + imm8 < 0xE800 = omega arith in
    let b : 0xA800 + d * 256 + imm8 < 0xE800 = omega arith in
    elim (nat_lt op 2) as (λ x. IsSelfDelimiting (if x then Half (0x9000 + op * 2048 + t * 256 + imm8) else Half (0xA800 + d * 256 + imm8))) [ true ↦ a | false ↦ b ]
shows_its_length (AdjustStack op imm7) v = omega arith
shows_its_length (PushPop op m p list) v = by_op op _ _ (omega arith) (omega arith)
shows_its_length (BreakpointNop op imm8) v = by_op op _ _ (omega arith) (omega arith)
shows_its_length (TransferMultiple op n list) v = omega arith
shows_its_length (BranchConditional cond offset) v = omega arith
shows_its_length (CallBranch op imm8 offset) v = by_op op _ _ (omega arith) (omega arith)
shows_its_length (BranchLink offset) v = omega arith
shows_its_length (BranchWide offset) v = omega arith
shows_its_length (MoveWide d value) v = omega arith
shows_its_length (MoveTop d value) v = omega arith
shows_its_length (Divide op n d m) v = elim (zero_or_one op v.0) [ inl z ↦ rw z (omega arith) | inr z ↦ rw z (omega arith) ]
shows_its_length (SpecialRegister op n d s) v = elim (zero_or_one op v.0) [ inl z ↦ rw z (omega arith) | inr z ↦ rw z (omega arith) ]
shows_its_length (Barrier op) v = omega arith
