-- What instructions ask for keeps the shape of the registers.
use Rattle.std.proofs.Common.{◌≡◌, ℕ, ◌+◌, ◌-◌, ◌*◌, ◌/◌, ◌%◌, ◌^◌, ◌<◌, ◌≤◌, Bool, true, false, List, [], ◌∷◌, ◌++◌, length, set, get_or-set_other, Option, Some, None, nat_eq, nat_lt, refl, ◌∙◌, arith, to_z, of_z, w8, w16, w32}
use Rattle.std.specs.Prelude.{if◌then◌else◌, ℤ}
use Rattle.std.proofs.lemmas.List.{length-set}
use Rattle.std.proofs.lemmas.Nat.{and_le_l, or_lt, xor_lt}
use Rattle.std.proofs.lemmas.Grind.{common_steps}
use Rattle.std.proofs.lemmas.Bool.Decides.{nat_tests}
use Rattle.base_words.specs.declared.conditions.Flags.{Flags}
use Rattle.base_words.specs.Arithmetic.{word, add, moved}
use Rattle.base_words.specs.Flags.{holds}
use Rattle.base_words.proofs.Arithmetic.{unsigned_quotient_fits, signed_quotient_fits, bit_clear_fits, shift_left_fits, shift_right_fits, shift_right_signed_fits, rotate_right_fits}
use Rattle.machine_thumb.specs.Table.{InTable}
use Rattle.machine_thumb.specs.declared.table.Instr.{Instr}
use Rattle.machine_thumb.specs.declared.table.Instr.TheVariants.{ShiftImmediate, AddSubRegister, AddSubImmediate, DataImmediate, DataRegister, HighRegister, BranchExchange, LoadLiteral, TransferRegister, TransferImmediate, StackRelative, AdjustStack, PushPop, BreakpointNop, TransferMultiple, BranchConditional, CallBranch, BranchLink, BranchWide, MoveWide, MoveTop, Divide, SpecialRegister, Barrier}
use Rattle.machine_model.specs.declared.state.CoreRegisters.{CoreRegisters}
use Rattle.machine_model.specs.State.{register, with_register, low_register, at, low_at}
use Rattle.machine_model.specs.Act.{Act, Changes, Loads, Stores, LoadsMany, StoresMany, GetsSpecial, SetsSpecial, Exchanges, Calls, Halts, Stops}
use Rattle.machine_model.specs.declared.answers.Outcome.{Outcome}
use Rattle.machine_model.specs.declared.answers.Outcome.TheVariants.{Gives, Tests}
use Rattle.machine_model.specs.DataOperations.{after_outcome, shift_by, immediate_amount, add_or_subtract, immediate, operation}
use Rattle.machine_model.specs.Instructions.{act, jump, exchange, high_operation, load_into, store_from, transfer, transfer_immediate, stack_relative, adjusted_stack, listed, values_of, filled, with_link, push, last_of, popped, push_or_pop, store_multiple, load_multiple}
use Rattle.machine_model.specs.Stack.{AreWords}
use Rattle.machine_model.specs.Shape.{EachWord, CoreFits}

-- ---- choices

pub if_below : (b : Bool) (x y n : ℕ) → x < n → y < n → (if b then x else y) < n
if_below true x y n h g = h
if_below false x y n h g = g

pub if_core : (b : Bool) (x y : CoreRegisters) → CoreFits x → CoreFits y → CoreFits (if b then x else y)
if_core true x y h g = h
if_core false x y h g = g

abbrev OutcomeFits : Outcome → Type 0
OutcomeFits (Gives v f) = v < 2 ^ 32
OutcomeFits (Tests f) = Unit {0}

if_outcome : (b : Bool) (x y : Outcome) → OutcomeFits x → OutcomeFits y → OutcomeFits (if b then x else y)
if_outcome true x y h g = h
if_outcome false x y h g = g

abbrev pub MaybeFits : Option CoreRegisters → Type 0
MaybeFits None = Unit {0}
MaybeFits (Some c) = CoreFits c

if_maybe : (b : Bool) (x y : Option CoreRegisters) → MaybeFits x → MaybeFits y → MaybeFits (if b then x else y)
if_maybe true x y h g = h
if_maybe false x y h g = g

abbrev pub ActFits : Act → Type 0
ActFits (Changes c) = CoreFits c
ActFits (Loads w a go) = (w ≤ 4) × (a < 2 ^ 32) × ((v : ℕ) → v < 2 ^ 32 → CoreFits (go v))
ActFits (Stores w a v c) = (a < 2 ^ 32) × (v < 2 ^ 32) × CoreFits c
ActFits (LoadsMany a n go) = (a < 2 ^ 32) × ((vs : List ℕ) → AreWords vs → MaybeFits (go vs))
ActFits (StoresMany a vs c) = (a < 2 ^ 32) × AreWords vs × CoreFits c
ActFits (GetsSpecial n d c) = CoreFits c
ActFits (SetsSpecial n v c) = (v < 2 ^ 32) × CoreFits c
ActFits (Exchanges v) = v < 2 ^ 32
ActFits (Calls next) = Unit {0}
ActFits (Halts n) = Unit {0}
ActFits (Stops r) = Unit {0}

if_act : (b : Bool) (x y : Act) → ActFits x → ActFits y → ActFits (if b then x else y)
if_act true x y h g = h
if_act false x y h g = g

-- the address of an instruction
abbrev pub IsPlace : ℕ → Type 0
IsPlace n = (n < 2 ^ 32) × (n % 2 ≡ 0)

if_place : (b : Bool) (x y : ℕ) → IsPlace x → IsPlace y → IsPlace (if b then x else y)
if_place true x y h g = h
if_place false x y h g = g

if_act_by : (b : Bool) (x y : Act) → (b ≡ true → ActFits x) → ActFits y → ActFits (if b then x else y)
if_act_by true x y h g = h refl
if_act_by false x y h g = g

if_maybe_by : (b : Bool) (x y : Option CoreRegisters) → (b ≡ true → MaybeFits x) → MaybeFits y → MaybeFits (if b then x else y)
if_maybe_by true x y h g = h refl
if_maybe_by false x y h g = g

pub odd_before : (v : ℕ) → nat_eq (v % 2) 1 ≡ true → (v - 1) % 2 ≡ 0
odd_before v e = grind (arith, nat_tests)

moved_place : (a : ℕ) (z : ℤ) → a % 2 ≡ 0 → of_z w32 z % 2 ≡ 0 → IsPlace (moved a z)
moved_place a z h g = (omega arith, omega arith)

-- ---- registers

pub set_words : (l : List ℕ) (k v : ℕ) → EachWord l → v < 2 ^ 32 → EachWord (set l k v)
set_words l k v h f = λ i. grind (arith, common_steps, h i, get_or-set_other l k i v 0)

pub low_fits : (c : CoreRegisters) (next k v : ℕ) → CoreFits c → IsPlace next → v < 2 ^ 32 → CoreFits (low_at c next k v)
low_fits c next k v h n f = record {
  low_count = length-set c.low k v ∙ h.low_count;
  high_count = h.high_count;
  low_words = set_words c.low k v h.low_words f;
  high_words = h.high_words;
  sp_word = h.sp_word;
  sp_aligned = h.sp_aligned;
  other_word = h.other_word;
  other_aligned = h.other_aligned;
  lr_word = h.lr_word;
  pc_word = n.0;
  pc_even = n.1;
}

pub at_fits : (c : CoreRegisters) (next : ℕ) → CoreFits c → IsPlace next → CoreFits (at c next)
at_fits c next h n = record {
  low_count = h.low_count;
  high_count = h.high_count;
  low_words = h.low_words;
  high_words = h.high_words;
  sp_word = h.sp_word;
  sp_aligned = h.sp_aligned;
  other_word = h.other_word;
  other_aligned = h.other_aligned;
  lr_word = h.lr_word;
  pc_word = n.0;
  pc_even = n.1;
}

pub flags_fit : (c : CoreRegisters) (f : Flags) → CoreFits c → CoreFits (record c { flags = f })
flags_fit c f h = record {
  low_count = h.low_count;
  high_count = h.high_count;
  low_words = h.low_words;
  high_words = h.high_words;
  sp_word = h.sp_word;
  sp_aligned = h.sp_aligned;
  other_word = h.other_word;
  other_aligned = h.other_aligned;
  lr_word = h.lr_word;
  pc_word = h.pc_word;
  pc_even = h.pc_even;
}

pub link_fits : (c : CoreRegisters) (v : ℕ) → CoreFits c → v < 2 ^ 32 → CoreFits (record c { lr = v })
link_fits c v h f = record {
  low_count = h.low_count;
  high_count = h.high_count;
  low_words = h.low_words;
  high_words = h.high_words;
  sp_word = h.sp_word;
  sp_aligned = h.sp_aligned;
  other_word = h.other_word;
  other_aligned = h.other_aligned;
  lr_word = f;
  pc_word = h.pc_word;
  pc_even = h.pc_even;
}

pub stack_fits : (c : CoreRegisters) (v : ℕ) → CoreFits c → v < 2 ^ 32 → v % 4 ≡ 0 → CoreFits (record c { sp = v })
stack_fits c v h f a = record {
  low_count = h.low_count;
  high_count = h.high_count;
  low_words = h.low_words;
  high_words = h.high_words;
  sp_word = f;
  sp_aligned = a;
  other_word = h.other_word;
  other_aligned = h.other_aligned;
  lr_word = h.lr_word;
  pc_word = h.pc_word;
  pc_even = h.pc_even;
}

high_fits : (c : CoreRegisters) (k v : ℕ) → CoreFits c → v < 2 ^ 32 → CoreFits (record c { high = set c.high k v })
high_fits c k v h f = record {
  low_count = h.low_count;
  high_count = length-set c.high k v ∙ h.high_count;
  low_words = h.low_words;
  high_words = set_words c.high k v h.high_words f;
  sp_word = h.sp_word;
  sp_aligned = h.sp_aligned;
  other_word = h.other_word;
  other_aligned = h.other_aligned;
  lr_word = h.lr_word;
  pc_word = h.pc_word;
  pc_even = h.pc_even;
}

pub register_fits : (c : CoreRegisters) (k : ℕ) → CoreFits c → register c k < 2 ^ 32
register_fits c k h =
    if_below (nat_lt k 8) _ _ (2 ^ 32) (h.low_words k)
    (if_below (nat_lt k 13) _ _ (2 ^ 32) (h.high_words (k - 8))
    (if_below (nat_eq k 13) _ _ (2 ^ 32) h.sp_word
    (if_below (nat_eq k 14) _ _ (2 ^ 32) h.lr_word h.pc_word)))

pub with_register_fits : (c : CoreRegisters) (k v : ℕ) → CoreFits c → v < 2 ^ 32 → CoreFits (with_register c k v)
with_register_fits c k v h f =
    if_core (nat_lt k 8) _ _ (low_fits c c.pc k v h (h.pc_word, h.pc_even) f)
    (if_core (nat_lt k 13) _ _ (high_fits c (k - 8) v h f)
    (if_core (nat_eq k 13) _ _ (stack_fits c (v / 4 * 4) h (omega arith) (omega arith)) (link_fits c v h f)))

-- ---- data operations

after_fits : (o : Outcome) (c : CoreRegisters) (next d : ℕ) → OutcomeFits o → CoreFits c → IsPlace next → CoreFits (after_outcome o c next d)
after_fits (Gives v f) c next d o h n = flags_fit (low_at c next d v) f (low_fits c next d v h n o)
after_fits (Tests f) c next d o h n = flags_fit (at c next) f (at_fits c next h n)

shift_outcome : (op x n : ℕ) (f : Flags) → x < 2 ^ 32 → OutcomeFits (shift_by op x n f)
shift_outcome op x n f h =
    if_outcome (nat_eq op 0) _ _ (shift_left_fits x n) (if_outcome (nat_eq op 1) _ _ (shift_right_fits x n h) (shift_right_signed_fits x n h))

sum_outcome : (op x y : ℕ) → OutcomeFits (add_or_subtract op x y)
sum_outcome op x y = if_outcome (nat_eq op 0) _ _ (omega arith) (omega arith)

immediate_outcome : (op x n : ℕ) (f : Flags) → n < 2 ^ 32 → OutcomeFits (immediate op x n f)
immediate_outcome op x n f h =
    if_outcome (nat_eq op 0) _ _ h (if_outcome (nat_eq op 1) _ _ tt (if_outcome (nat_eq op 2) _ _ (omega arith) (omega arith)))

operation_outcome : (op x y : ℕ) (f : Flags) → x < 2 ^ 32 → y < 2 ^ 32 → OutcomeFits (operation op x y f)
operation_outcome op x y f h g =
    if_outcome (nat_eq op 0) _ _ (omega (arith, and_le_l x y))
    (if_outcome (nat_eq op 1) _ _ (xor_lt 32 x y h g)
    (if_outcome (nat_eq op 2) _ _ (shift_left_fits x y)
    (if_outcome (nat_eq op 3) _ _ (shift_right_fits x y h)
    (if_outcome (nat_eq op 4) _ _ (shift_right_signed_fits x y h)
    (if_outcome (nat_eq op 5) _ _ (omega arith)
    (if_outcome (nat_eq op 6) _ _ (omega arith)
    (if_outcome (nat_eq op 7) _ _ (rotate_right_fits x y h)
    (if_outcome (nat_eq op 8) _ _ tt
    (if_outcome (nat_eq op 9) _ _ (omega arith)
    (if_outcome (nat_eq op 10) _ _ tt
    (if_outcome (nat_eq op 11) _ _ tt
    (if_outcome (nat_eq op 12) _ _ (or_lt 32 x y h g)
    (if_outcome (nat_eq op 13) _ _ (omega arith)
    (if_outcome (nat_eq op 14) _ _ (bit_clear_fits x y h) (omega arith)))))))))))))))

-- ---- lists of registers

values_fit : (c : CoreRegisters) (ks : List ℕ) → CoreFits c → AreWords (values_of c ks)
values_fit c [] h = tt
values_fit c (k ∷ ks) h = (h.low_words k, values_fit c ks h)

append_fits : (vs : List ℕ) (v : ℕ) → AreWords vs → v < 2 ^ 32 → AreWords (vs ++ v ∷ [])
append_fits [] v h f = (f, tt)
append_fits (u ∷ us) v h f = (h.0, append_fits us v h.1 f)

link_words : (b : Bool) (vs : List ℕ) (v : ℕ) → AreWords vs → v < 2 ^ 32 → AreWords (if b then vs ++ v ∷ [] else vs)
link_words true vs v h f = append_fits vs v h f
link_words false vs v h f = h

pub filled_fits : (c : CoreRegisters) (ks vs : List ℕ) → CoreFits c → AreWords vs → CoreFits (filled c ks vs)
filled_fits c [] vs h f = h
filled_fits c (k ∷ ks) [] h f = h
filled_fits c (k ∷ ks) (v ∷ vs) h f = filled_fits _ ks vs (low_fits c c.pc k v h (h.pc_word, h.pc_even) f.0) f.1

last_fits : (vs : List ℕ) → AreWords vs → last_of vs < 2 ^ 32
last_fits [] f = omega arith
last_fits (v ∷ []) f = f.0
last_fits (v ∷ w ∷ vs) f = last_fits (w ∷ vs) f.1

push_fits : (c : CoreRegisters) (vs : List ℕ) (next : ℕ) → CoreFits c → AreWords vs → IsPlace next → ActFits (push vs next c)
push_fits c vs next h f n =
    let a = h.sp_aligned in
    (omega arith, f, at_fits _ next (stack_fits c (word (c.sp + 2 ^ 32 - 4 * length vs)) h (omega arith) (omega arith)) n)

popped_fits : (p next : ℕ) (c : CoreRegisters) (ks vs : List ℕ) → CoreFits c → AreWords vs → IsPlace next → MaybeFits (popped p next c ks vs)
popped_fits p next c ks vs h f n =
    let a = h.sp_aligned in
    let s = stack_fits c (word (c.sp + 4 * length vs)) h (omega arith) (omega arith) in
    let d = filled_fits _ ks vs s f in
    let l = last_fits vs f in
    if_maybe (nat_eq p 1) _ _ (if_maybe_by (nat_eq (last_of vs % 2) 1) _ _ (λ e. at_fits _ (last_of vs - 1) d (omega arith, odd_before (last_of vs) e)) tt) (at_fits _ next d n)

-- ---- instructions

jump_fits : (v : ℕ) (c : CoreRegisters) → v < 2 ^ 32 → CoreFits c → ActFits (jump v c)
jump_fits v c f h = if_act_by (nat_eq (v % 2) 1) _ _ (λ e. at_fits c (v - 1) h (omega arith, odd_before v e)) tt

load_fits : (w : ℕ) → w ≤ 4 → (c : CoreRegisters) (t a next : ℕ) → CoreFits c → a < 2 ^ 32 → IsPlace next → ActFits (load_into t w a next c)
load_fits w l c t a next h f n = (l, f, λ v g. low_fits c next t v h n g)

store_fits : (c : CoreRegisters) (t w a next : ℕ) → CoreFits c → a < 2 ^ 32 → IsPlace next → ActFits (store_from t w a next c)
store_fits c t w a next h f n = (f, h.low_words t, at_fits c next h n)

signed_byte : (v : ℕ) → of_z w32 (to_z w8 v) < 2 ^ 32
signed_byte v = search (nat_tests, arith)

signed_half : (v : ℕ) → of_z w32 (to_z w16 v) < 2 ^ 32
signed_half v = search (nat_tests, arith)

transfer_fits : (op t a next : ℕ) (c : CoreRegisters) → CoreFits c → a < 2 ^ 32 → IsPlace next → ActFits (transfer op t a next c)
transfer_fits op t a next c h f n =
    if_act (nat_eq op 0) _ _ (store_fits c t 4 a next h f n)
    (if_act (nat_eq op 1) _ _ (store_fits c t 2 a next h f n)
    (if_act (nat_eq op 2) _ _ (store_fits c t 1 a next h f n)
    (if_act (nat_eq op 3) _ _ (omega arith, f, λ v g. low_fits c next t (of_z w32 (to_z w8 v)) h n (signed_byte v))
    (if_act (nat_eq op 4) _ _ (load_fits 4 (omega arith) c t a next h f n)
    (if_act (nat_eq op 5) _ _ (load_fits 2 (omega arith) c t a next h f n)
    (if_act (nat_eq op 6) _ _ (load_fits 1 (omega arith) c t a next h f n)
    (omega arith, f, λ v g. low_fits c next t (of_z w32 (to_z w16 v)) h n (signed_half v))))))))

number_fits : (op k b t next : ℕ) (c : CoreRegisters) → CoreFits c → IsPlace next → ActFits (transfer_immediate op k b t next c)
number_fits op k b t next c h n =
    if_act (nat_eq op 0) _ _ (store_fits c t 4 (word (b + 4 * k)) next h (omega arith) n)
    (if_act (nat_eq op 1) _ _ (load_fits 4 (omega arith) c t (word (b + 4 * k)) next h (omega arith) n)
    (if_act (nat_eq op 2) _ _ (store_fits c t 1 (word (b + k)) next h (omega arith) n)
    (if_act (nat_eq op 3) _ _ (load_fits 1 (omega arith) c t (word (b + k)) next h (omega arith) n)
    (if_act (nat_eq op 4) _ _ (store_fits c t 2 (word (b + 2 * k)) next h (omega arith) n)
    (load_fits 2 (omega arith) c t (word (b + 2 * k)) next h (omega arith) n)))))

stack_relative_fits : (op t d k next : ℕ) (c : CoreRegisters) → CoreFits c → IsPlace next → ActFits (stack_relative op t d k next c)
stack_relative_fits op t d k next c h n =
    if_act (nat_eq op 0) _ _ (store_fits c t 4 (word (c.sp + 4 * k)) next h (omega arith) n)
    (if_act (nat_eq op 1) _ _ (load_fits 4 (omega arith) c t (word (c.sp + 4 * k)) next h (omega arith) n)
    (low_fits c next d (word (c.sp + 4 * k)) h n (omega arith)))

adjusted_fits : (op k : ℕ) (c : CoreRegisters) → CoreFits c → CoreFits (adjusted_stack op k c)
adjusted_fits op k c h =
    let a = h.sp_aligned in
    if_core (nat_eq op 0) _ _ (stack_fits c (word (c.sp + 4 * k)) h (omega arith) (omega arith)) (stack_fits c (word (c.sp + 2 ^ 32 - 4 * k)) h (omega arith) (omega arith))

high_operation_fits : (op m d next : ℕ) (c : CoreRegisters) → CoreFits c → IsPlace next → CoreFits (high_operation op m d next c)
high_operation_fits op m d next c h n =
    if_core (nat_eq op 0) _ _ (at_fits _ next (with_register_fits c d (add (register c d) (register c m)) h (omega arith)) n)
    (if_core (nat_eq op 1) _ _ (flags_fit (at c next) _ (at_fits c next h n))
    (at_fits _ next (with_register_fits c d (register c m) h (register_fits c m h)) n))

exchange_fits : (op v next : ℕ) (c : CoreRegisters) → CoreFits c → v < 2 ^ 32 → next + 1 < 2 ^ 32 → ActFits (exchange op v next c)
exchange_fits op v next c h f n = if_act (nat_eq op 0) _ _ f (jump_fits v _ f (link_fits c (next + 1) h n))

push_or_pop_fits : (op m p list next : ℕ) (c : CoreRegisters) → CoreFits c → IsPlace next → ActFits (push_or_pop op m p list next c)
push_or_pop_fits op m p list next c h n =
    if_act (nat_eq op 0) _ _
    (push_fits c (with_link m c (values_of c (listed 8 0 list))) next h (link_words (nat_eq m 1) (values_of c (listed 8 0 list)) c.lr (values_fit c (listed 8 0 list) h) h.lr_word) n)
    (h.sp_word, λ vs f. popped_fits p next c (listed 8 0 list) vs h f n)

multiple_fits : (op b list next : ℕ) (c : CoreRegisters) → CoreFits c → IsPlace next →
    ActFits (if nat_eq op 0 then store_multiple b (listed 8 0 list) next c else load_multiple b (listed 8 0 list) next c)
multiple_fits op b list next c h n =
    let d = low_fits c next b (word (low_register c b + 4 * length (listed 8 0 list))) h n (omega arith) in
    if_act (nat_eq op 0) _ _ (h.low_words b, values_fit c (listed 8 0 list) h, d)
    (h.low_words b, λ vs f. filled_fits _ (listed 8 0 list) vs d f)

if_number : (b : Bool) (x y : ℕ) → x < 2 ^ 32 → y < 2 ^ 32 → (if b then x else y) < 2 ^ 32
if_number b x y h g = if_below b x y (2 ^ 32) h g

pub act_fits : (x : Instr) (next : ℕ) (c : CoreRegisters) → InTable x → CoreFits c → next + 1 < 2 ^ 32 → next % 2 ≡ 0 → ActFits (act x next c)
unfolding act
act_fits (ShiftImmediate op imm5 m d) next c v h n e = after_fits (shift_by op (low_register c m) (immediate_amount op imm5) c.flags) c next d (shift_outcome op (low_register c m) (immediate_amount op imm5) c.flags (h.low_words m)) h (omega arith, e)
act_fits (AddSubRegister op m b d) next c v h n e = after_fits (add_or_subtract op (low_register c b) (low_register c m)) c next d (sum_outcome op (low_register c b) (low_register c m)) h (omega arith, e)
act_fits (AddSubImmediate op imm3 b d) next c v h n e = after_fits (add_or_subtract op (low_register c b) imm3) c next d (sum_outcome op (low_register c b) imm3) h (omega arith, e)
act_fits (DataImmediate op d imm8) next c v h n e = after_fits (immediate op (low_register c d) imm8 c.flags) c next d (immediate_outcome op (low_register c d) imm8 c.flags (omega (arith, v.2))) h (omega arith, e)
act_fits (DataRegister op m d) next c v h n e = after_fits (operation op (low_register c d) (low_register c m) c.flags) c next d (operation_outcome op (low_register c d) (low_register c m) c.flags (h.low_words d) (h.low_words m)) h (omega arith, e)
act_fits (HighRegister op m d) next c v h n e = high_operation_fits op m d next c h (omega arith, e)
act_fits (BranchExchange op m) next c v h n e = exchange_fits op (register c m) next c h (register_fits c m h) n
act_fits (LoadLiteral t imm8) next c v h n e = load_fits 4 (omega arith) c t (word ((next + 2) / 4 * 4 + 4 * imm8)) next h (omega arith) (omega arith, e)
act_fits (TransferRegister op m b t) next c v h n e = transfer_fits op t (add (low_register c b) (low_register c m)) next c h (omega arith) (omega arith, e)
act_fits (TransferImmediate op imm5 b t) next c v h n e = number_fits op imm5 (low_register c b) t next c h (omega arith, e)
act_fits (StackRelative op t d imm8) next c v h n e = stack_relative_fits op t d imm8 next c h (omega arith, e)
act_fits (AdjustStack op imm7) next c v h n e = at_fits _ next (adjusted_fits op imm7 c h) (omega arith, e)
act_fits (PushPop op m p list) next c v h n e = push_or_pop_fits op m p list next c h (omega arith, e)
act_fits (BreakpointNop op imm8) next c v h n e = if_act (nat_eq op 0) _ _ tt (at_fits c next h (omega arith, e))
act_fits (TransferMultiple op b list) next c v h n e = multiple_fits op b list next c h (omega arith, e)
act_fits (BranchConditional cond offset) next c v h n e = at_fits c _ h (if_place (holds cond c.flags) (moved (next + 2) offset) next (moved_place (next + 2) offset (omega arith) v.1.even) (omega arith, e))
act_fits (CallBranch op imm8 offset) next c v h n e = if_act (nat_eq op 0) _ _ tt (at_fits c (moved (next + 2) offset) h (moved_place (next + 2) offset (omega arith) v.2.even))
act_fits (BranchLink offset) next c v h n e = link_fits (at c (moved next offset)) (next + 1) (at_fits c (moved next offset) h (moved_place next offset e v.even)) n
act_fits (BranchWide offset) next c v h n e = at_fits c (moved next offset) h (moved_place next offset e v.even)
act_fits (MoveWide d value) next c v h n e = at_fits _ next (with_register_fits c d value h (omega (arith, v.1))) (omega arith, e)
act_fits (MoveTop d value) next c v h n e = at_fits _ next (with_register_fits c d (register c d % 2 ^ 16 + value * 2 ^ 16) h (omega (arith, v.1))) (omega arith, e)
act_fits (Divide op b d m) next c v h n e =
    at_fits _ next (with_register_fits c d _ h (if_number (nat_eq op 0) _ _ (unsigned_quotient_fits (register c b) (register c m) (register_fits c b h)) (signed_quotient_fits (register c b) (register c m)))) (omega arith, e)
act_fits (SpecialRegister op b d s) next c v h n e = if_act (nat_eq op 0) _ _ (register_fits c b h, at_fits c next h (omega arith, e)) (at_fits c next h (omega arith, e))
act_fits (Barrier op) next c v h n e = at_fits c next h (omega arith, e)
