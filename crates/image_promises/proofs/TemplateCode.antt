-- The instructions of each template stand in the instruction table, where registers, words of the frame and numbers are small enough.
use Rattle.std.proofs.Common.{◌≡◌, ℕ, zero, suc, pos, ◌+◌, ◌-◌, ◌^◌, ◌<◌, ◌≤◌, Bool, true, false, List, [], ◌∷◌, length, get_or, nat_le, Option, Some, None, refl, arith}
use Rattle.std.proofs.lemmas.Bool.Decides.{nat_tests}
use Rattle.machine_thumb.specs.declared.table.Instr.TheVariants.{CallBranch}
use Rattle.machine_thumb.specs.Table.{InTable, IsGeneral, svc}
use Rattle.machine_thumb.specs.Bytes.{EachInTable}
use Rattle.machine_thumb.proofs.Codes.{in_table-append}
use Rattle.machine_thumb.proofs.Offsets.{no_offset, two_offset}
use Rattle.ir_model.specs.Types.{PlainType, U8, U16, U32, Pointer, Array, Named, Callee}
use Rattle.ir_model.specs.declared.firmware.BinOp.{BinOp}
use Rattle.ir_model.specs.declared.firmware.BinOp.TheVariants as bin
use Rattle.ir_model.specs.declared.firmware.CmpOp.{CmpOp}
use Rattle.ir_model.specs.declared.firmware.CmpOp.TheVariants as cmp
use Rattle.code_model.specs.Places.{Lend}
use Rattle.code_model.specs.Words.{load_home, store_home, save_code, home_address, byte_into, word_into}
use Rattle.code_model.specs.Numbers.{const_code, move_code, operation, bin_code}
use Rattle.code_model.specs.Comparisons.{condition, cmp_code}
use Rattle.code_model.specs.Addresses.{scale_of, elem_code, field_code, load_at, store_at, load_code, store_code}
use Rattle.code_model.specs.Calls.{args_code, callee_code}
use Rattle.code_model.specs.Entry.{sub_by, sub_code, add_by, add_code, stores_code, frame_code, lend_code, enter_code, unlend_code, result_code, leave_code}
use Rattle.code_model.proofs.Scales.{scale_small}

-- ---- single instructions

pub load_in : (t k : ℕ) → t < 8 → k < 256 → InTable (load_home t k)
load_in t k a b = (omega arith, a, omega arith, b, λ e. refl, λ e. absurd (omega (arith, e)))

pub store_in : (t k : ℕ) → t < 8 → k < 256 → InTable (store_home t k)
store_in t k a b = (omega arith, a, omega arith, b, λ e. refl, λ e. absurd (omega (arith, e)))

pub address_in : (d k : ℕ) → d < 8 → k < 256 → InTable (home_address d k)
address_in d k a b = (omega arith, omega arith, a, b, λ e. absurd (omega (arith, e)), λ e. refl)

pub byte_in : (d n : ℕ) → d < 8 → n < 256 → InTable (byte_into d n)
byte_in d n a b = (omega arith, a, b)

pub supervisor_in : (n : ℕ) → n < 256 → InTable (svc n)
supervisor_in n l = (omega arith, l, no_offset, λ e. refl, λ e. absurd (omega (arith, e)))

general : (d : ℕ) → d < 13 → IsGeneral d
general d l = (omega (arith, l), λ e. absurd (omega (arith, l, e)))

pub word_in : (d n : ℕ) → d < 13 → n < 2 ^ 32 → EachInTable (word_into d n)
word_in d n l h = ((general d l, omega arith), ((general d l, omega (arith, h)), tt))

pub save_in : (to : Option ℕ) → ((k : ℕ) → to ≡ Some k → k < 256) → EachInTable (save_code to)
save_in None h = tt
save_in (Some k) h = (store_in 0 k (omega arith) (h k refl), tt)

-- ---- numbers

pub const_in : (to v : ℕ) → to < 256 → v < 2 ^ 32 → EachInTable (const_code to v)
const_in to v a b = let m = word_in 0 v (omega arith) b in (m.0, (m.1.0, (store_in 0 to (omega arith) a, tt)))

pub move_in : (to from : ℕ) → to < 256 → from < 256 → EachInTable (move_code to from)
move_in to from a b = (load_in 0 from (omega arith) b, (store_in 0 to (omega arith) a, tt))

operation_in : (op : BinOp) → EachInTable (operation op)
operation_in bin.Add = ((omega arith, omega arith, omega arith, omega arith), tt)
operation_in bin.Sub = ((omega arith, omega arith, omega arith, omega arith), tt)
operation_in bin.Mul = ((omega arith, omega arith, omega arith), tt)
operation_in bin.Udiv = ((omega arith, general 0 (omega arith), general 0 (omega arith), general 1 (omega arith)), tt)
operation_in bin.Sdiv = ((omega arith, general 0 (omega arith), general 0 (omega arith), general 1 (omega arith)), tt)
operation_in bin.Urem = ((omega arith, general 0 (omega arith), general 2 (omega arith), general 1 (omega arith)), ((omega arith, omega arith, omega arith), ((omega arith, omega arith, omega arith, omega arith), tt)))
operation_in bin.Srem = ((omega arith, general 0 (omega arith), general 2 (omega arith), general 1 (omega arith)), ((omega arith, omega arith, omega arith), ((omega arith, omega arith, omega arith, omega arith), tt)))
operation_in bin.And = ((omega arith, omega arith, omega arith), tt)
operation_in bin.Or = ((omega arith, omega arith, omega arith), tt)
operation_in bin.Xor = ((omega arith, omega arith, omega arith), tt)
operation_in bin.Bic = ((omega arith, omega arith, omega arith), tt)
operation_in bin.Shl = ((omega arith, omega arith, omega arith), tt)
operation_in bin.Shr = ((omega arith, omega arith, omega arith), tt)
operation_in bin.Sar = ((omega arith, omega arith, omega arith), tt)

pub bin_in : (op : BinOp) (to a b : ℕ) → to < 256 → a < 256 → b < 256 → EachInTable (bin_code op to a b)
bin_in op to a b x y z = (load_in 0 a (omega arith) y, (load_in 1 b (omega arith) z, in_table-append (operation op) _ (operation_in op) (store_in 0 to (omega arith) x, tt)))

condition_small : (op : CmpOp) → condition op < 14
condition_small cmp.Eq = omega arith
condition_small cmp.Ne = omega arith
condition_small cmp.Ult = omega arith
condition_small cmp.Ule = omega arith
condition_small cmp.Slt = omega arith
condition_small cmp.Sle = omega arith

short_in : InTable (CallBranch 1 0 (pos 0))
short_in = (omega arith, omega arith, no_offset, λ e. refl, λ e. refl)

pub cmp_in : (op : CmpOp) (to a b : ℕ) → to < 256 → a < 256 → b < 256 → EachInTable (cmp_code op to a b)
cmp_in op to a b x y z = (
  load_in 0 a (omega arith) y,
  (
    load_in 1 b (omega arith) z,
    (
      (omega arith, omega arith, omega arith),
      (
        (condition_small op, two_offset),
        (byte_in 0 0 (omega arith) (omega arith), (short_in, (byte_in 0 1 (omega arith) (omega arith), (store_in 0 to (omega arith) x, tt)))),
      ),
    ),
  ),
)

-- ---- addresses

pub elem_in : (to base index size : ℕ) → to < 256 → base < 256 → index < 256 → EachInTable (elem_code to base index size)
elem_in to base index n x y z =
    let m = word_in 2 (scale_of n) (omega arith) (scale_small n) in
    (load_in 0 base (omega arith) y, (load_in 1 index (omega arith) z, (m.0, (m.1.0, ((omega arith, omega arith, omega arith), ((omega arith, omega arith, omega arith, omega arith), (store_in 0 to (omega arith) x, tt)))))))

pub field_in : (to base offset : ℕ) → to < 256 → base < 256 → offset < 2 ^ 32 → EachInTable (field_code to base offset)
field_in to base n x y l = let m = word_in 1 n (omega arith) l in (load_in 0 base (omega arith) y, (m.0, (m.1.0, ((omega arith, omega arith, omega arith, omega arith), (store_in 0 to (omega arith) x, tt)))))

load_at_in : (t : PlainType) → InTable (load_at t)
load_at_in U8 = (omega arith, omega arith, omega arith, omega arith)
load_at_in U16 = (omega arith, omega arith, omega arith, omega arith)
load_at_in U32 = (omega arith, omega arith, omega arith, omega arith)
load_at_in (Pointer t) = (omega arith, omega arith, omega arith, omega arith)
load_at_in (Array n t) = (omega arith, omega arith, omega arith, omega arith)
load_at_in (Named n) = (omega arith, omega arith, omega arith, omega arith)
load_at_in (Callee a r) = (omega arith, omega arith, omega arith, omega arith)

store_at_in : (t : PlainType) → InTable (store_at t)
store_at_in U8 = (omega arith, omega arith, omega arith, omega arith)
store_at_in U16 = (omega arith, omega arith, omega arith, omega arith)
store_at_in U32 = (omega arith, omega arith, omega arith, omega arith)
store_at_in (Pointer t) = (omega arith, omega arith, omega arith, omega arith)
store_at_in (Array n t) = (omega arith, omega arith, omega arith, omega arith)
store_at_in (Named n) = (omega arith, omega arith, omega arith, omega arith)
store_at_in (Callee a r) = (omega arith, omega arith, omega arith, omega arith)

pub loads_in : (to from : ℕ) (t : PlainType) → to < 256 → from < 256 → EachInTable (load_code to from t)
loads_in to from t x y = (load_in 1 from (omega arith) y, (load_at_in t, (store_in 0 to (omega arith) x, tt)))

pub stores_to_in : (to from : ℕ) (t : PlainType) → to < 256 → from < 256 → EachInTable (store_code to from t)
stores_to_in to from t x y = (load_in 1 to (omega arith) x, (load_in 0 from (omega arith) y, (store_at_in t, tt)))

-- ---- calls

pub args_in : (r : ℕ) (as_ : List ℕ) → r + length as_ ≤ 8 → ((k : ℕ) → k < length as_ → get_or as_ k 0 < 256) → EachInTable (args_code r as_)
args_in r [] few h = tt
args_in r (a ∷ more) few h = (load_in r a (omega (arith, few)) (h 0 (omega arith)), args_in (suc r) more (omega (arith, few)) (λ k l. h (suc k) (omega (arith, l))))

pub callee_in : (h : ℕ) (as_ : List ℕ) → h < 256 → length as_ ≤ 4 → ((k : ℕ) → k < length as_ → get_or as_ k 0 < 256) → EachInTable (callee_code h as_)
callee_in h as_ l few r = (load_in 0 h (omega arith) l, ((omega arith, omega arith, omega arith, λ e. absurd (omega (arith, e))), args_in 0 as_ (omega (arith, few)) r))

-- ---- entry and return

sub_in : (once : Bool) (w : ℕ) → nat_le w 127 ≡ once → w ≤ 254 → EachInTable (sub_by once w)
sub_in true w e l = let s : w ≤ 127 = grind (arith, nat_tests, e) in ((omega arith, omega (arith, s)), tt)
sub_in false w e l = ((omega arith, omega arith), ((omega arith, omega (arith, l)), tt))

add_in : (once : Bool) (w : ℕ) → nat_le w 127 ≡ once → w ≤ 254 → EachInTable (add_by once w)
add_in true w e l = let s : w ≤ 127 = grind (arith, nat_tests, e) in ((omega arith, omega (arith, s)), tt)
add_in false w e l = ((omega arith, omega arith), ((omega arith, omega (arith, l)), tt))

stores_in : (t : ℕ → ℕ) (n k : ℕ) → ((j : ℕ) → j < k + n → t j < 8) → k + n ≤ 256 → EachInTable (stores_code t n k)
stores_in t zero k h m = tt
stores_in t (suc n) k h m = (store_in (t k) k (h k (omega arith)) (omega (arith, m)), stores_in t n (suc k) (λ j l. h j (omega (arith, l))) (omega (arith, m)))

frame_in : (n w : ℕ) → n ≤ 4 → w ≤ 254 → EachInTable (frame_code n w)
unfolding frame_code
frame_in n w few l = (
  (omega arith, omega arith, omega arith, omega arith, λ e. refl, λ e. absurd (omega (arith, e)), omega arith),
  in_table-append (sub_code w) _ (sub_in (nat_le w 127) w refl l)
      (in_table-append (stores_code (λ k. k) n 0) _ (stores_in (λ k. k) n 0 (λ j h. omega (arith, h, few)) (omega (arith, few)))
      (byte_in 0 0 (omega arith) (omega arith), stores_in (λ k. 0) (w - n) n (λ j h. omega arith) (omega (arith, few, l)))),
)

-- loans of words of the frame, by small numbers
abbrev pub LendsFit : List Lend → Type 0
LendsFit [] = Unit {0}
LendsFit (d ∷ ds) = (d.home < 256) × (d.number < 256) × LendsFit ds

lend_in : (ds : List Lend) → LendsFit ds → EachInTable (lend_code ds)
lend_in [] h = tt
lend_in (d ∷ ds) h = (address_in 0 d.home (omega arith) h.0, (byte_in 1 d.number (omega arith) h.1, (supervisor_in 2 (omega arith), lend_in ds h.2)))

pub enter_in : (n w : ℕ) (ds : List Lend) → n ≤ 4 → w ≤ 254 → LendsFit ds → EachInTable (enter_code n w ds)
enter_in n w ds few l h = in_table-append (frame_code n w) (lend_code ds) (frame_in n w few l) (lend_in ds h)

unlend_in : (ds : List Lend) → EachInTable (unlend_code ds)
unlend_in [] = tt
unlend_in (d ∷ ds) = in_table-append (unlend_code ds) _ (unlend_in ds) (supervisor_in 3 (omega arith), tt)

result_in : (r : Option ℕ) → ((k : ℕ) → r ≡ Some k → k < 256) → EachInTable (result_code r)
result_in None h = tt
result_in (Some k) h = (load_in 0 k (omega arith) (h k refl), tt)

pub leave_in : (w : ℕ) (ds : List Lend) (r : Option ℕ) → w ≤ 254 → ((k : ℕ) → r ≡ Some k → k < 256) → EachInTable (leave_code w ds r)
leave_in w ds r l h =
    in_table-append (unlend_code ds) _ (unlend_in ds)
    (in_table-append (result_code r) _ (result_in r h)
    (in_table-append (add_code w) _ (add_in (nat_le w 127) w refl l)
    ((omega arith, omega arith, omega arith, omega arith, λ e. absurd (omega (arith, e)), λ e. refl, omega arith), tt)))
