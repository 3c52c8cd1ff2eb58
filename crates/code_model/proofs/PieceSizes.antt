-- The code of each instruction, of each block's end and of an entry has the size that is told without addresses.
use Rattle.std.proofs.Common.{◌≡◌, ℕ, ℤ, zero, suc, ◌+◌, ◌*◌, ◌-◌, List, [], ◌∷◌, ◌++◌, length, Bool, true, false, Option, Some, None, nat_le, refl, arith}
use Rattle.std.specs.Prelude.{is_some}
use Rattle.machine_thumb.specs.Table.{encode, svc}
use Rattle.machine_thumb.specs.declared.table.Instr.{Instr}
use Rattle.machine_thumb.specs.declared.table.Instr.TheVariants.{BranchLink, BranchExchange, PushPop}
use Rattle.machine_thumb_asm.specs.declared.item.Item.TheVariants.{Half}
use Rattle.machine_thumb_asm.specs.Assembly.{total}
use Rattle.machine_thumb_asm.specs.Finished.{distance}
use Rattle.ir_model.specs.declared.firmware.BinOp.{BinOp}
use Rattle.ir_model.specs.declared.firmware.BinOp.TheVariants.{Add, Sub, Mul, Udiv, Sdiv, Urem, Srem, And, Or, Xor, Bic, Shl, Shr, Sar}
use Rattle.ir_model.specs.Types.{PlainType, U8, U16, U32, Pointer, Array, Named, Callee}
use Rattle.ir_model.specs.Resolved as ir
use Rattle.ir_model.specs.Resolved.{NumberedInst, NumberedTerm, NumberedFunc, TheGlobal, ThePeriph, TheLocal}
use Rattle.ir_model.specs.Signatures.{row_length}
use Rattle.code_model.specs.declared.places.Places.{Places}
use Rattle.code_model.specs.FrameShape.{FrameShape, frame_shape}
use Rattle.code_model.specs.Places.{Lend, entry_address}
use Rattle.code_model.specs.Words.{plain, save_code, word_into, byte_into}
use Rattle.code_model.specs.Numbers.{bin_code}
use Rattle.code_model.specs.Addresses.{addr_code, load_code, store_code}
use Rattle.code_model.specs.Calls.{args_code, call_code, cross_code, callee_code, icall_code, icross_code, call_items, icall_items}
use Rattle.code_model.specs.Entry.{sub_by, sub_code, add_by, add_code, stores_code, frame_code, lend_code, unlend_code, result_code, leave_code}
use Rattle.code_model.specs.Templates.{lends_of, entry_items, inst_items, term_items}
use Rattle.code_model.specs.Sizes.{bin_size, addr_size, save_size, call_size, icall_size, inst_size, adjust_size, term_size, entry_size}
use Rattle.code_model.specs.FunctionCode.{lent}
use Rattle.code_model.proofs.Totals.{total-plain-append}
use Rattle.machine_thumb_asm.proofs.Items.{total-append}
use Rattle.code_model.proofs.Filling.{args_total}

bin_total : (op : BinOp) (to a b : ℕ) → total (plain (bin_code op to a b)) ≡ bin_size op
unfolding encode
bin_total Add to a b = refl
bin_total Sub to a b = refl
bin_total Mul to a b = refl
bin_total Udiv to a b = refl
bin_total Sdiv to a b = refl
bin_total Urem to a b = refl
bin_total Srem to a b = refl
bin_total And to a b = refl
bin_total Or to a b = refl
bin_total Xor to a b = refl
bin_total Bic to a b = refl
bin_total Shl to a b = refl
bin_total Shr to a b = refl
bin_total Sar to a b = refl

addr_total : (s : FrameShape) (q : Places) (to : ℕ) (of : ir.Named) → total (plain (addr_code s q to of)) ≡ addr_size of
unfolding encode
addr_total s q to (TheGlobal x) = refl
addr_total s q to (ThePeriph w) = refl
addr_total s q to (TheLocal l) = refl

load_total : (to from : ℕ) (t : PlainType) → total (plain (load_code to from t)) ≡ 6
unfolding encode
load_total to from U8 = refl
load_total to from U16 = refl
load_total to from U32 = refl
load_total to from (Pointer t) = refl
load_total to from (Array n t) = refl
load_total to from (Named n) = refl
load_total to from (Callee a r) = refl

store_total : (to from : ℕ) (t : PlainType) → total (plain (store_code to from t)) ≡ 6
unfolding encode
store_total to from U8 = refl
store_total to from U16 = refl
store_total to from U32 = refl
store_total to from (Pointer t) = refl
store_total to from (Array n t) = refl
store_total to from (Named n) = refl
store_total to from (Callee a r) = refl

save_total : (to : Option ℕ) → total (plain (save_code to)) ≡ save_size to
unfolding encode
save_total None = refl
save_total (Some k) = refl

call_total : (as_ : List ℕ) (d : ℤ) → total (plain (call_code as_ d)) ≡ 2 * length as_ + 4
unfolding encode
call_total as_ d = let a = args_total 0 as_ in let b = total-plain-append (args_code 0 as_) (BranchLink d ∷ []) in omega arith

pub cross_total : (e : ℕ) (as_ : List ℕ) → total (plain (cross_code e as_)) ≡ 8 + 2 * length as_ + 2
unfolding encode
cross_total e as_ =
    let a = args_total 0 as_ in
    let b = total-plain-append (word_into 12 (e + 1) ++ args_code 0 as_) (svc 0 ∷ []) in
    omega arith

icall_total : (h : ℕ) (as_ : List ℕ) → total (plain (icall_code h as_)) ≡ 4 + 2 * length as_ + 2
unfolding encode
icall_total h as_ = let a = args_total 0 as_ in let b = total-plain-append (callee_code h as_) (BranchExchange 1 12 ∷ []) in omega arith

pub icross_total : (h : ℕ) (as_ : List ℕ) → total (plain (icross_code h as_)) ≡ 4 + 2 * length as_ + 2
unfolding encode
icross_total h as_ = let a = args_total 0 as_ in let b = total-plain-append (callee_code h as_) (svc 0 ∷ []) in omega arith

pub call_items_total : (at e : ℕ) (s to : Option ℕ) (as_ : List ℕ) → total (call_items at e s to as_) ≡ call_size (is_some s) as_ + save_size to
call_items_total at e None to as_ =
    let d : ℤ = distance (at + total (plain (args_code 0 as_))) e in
    let a = total-append (plain (call_code as_ d)) (plain (save_code to)) in
    let b = call_total as_ d in
    let c = save_total to in
    omega arith
call_items_total at e (Some n) to as_ =
    let a = total-append (plain (cross_code e as_)) (Half n ∷ plain (save_code to)) in
    let b = cross_total e as_ in
    let c = save_total to in
    omega arith

icall_items_total : (s to : Option ℕ) (h : ℕ) (as_ : List ℕ) → total (icall_items s to h as_) ≡ icall_size (is_some s) as_ + save_size to
icall_items_total None to h as_ =
    let a = total-append (plain (icall_code h as_)) (plain (save_code to)) in
    let b = icall_total h as_ in
    let c = save_total to in
    omega arith
icall_items_total (Some n) to h as_ =
    let a = total-append (plain (icross_code h as_)) (Half n ∷ plain (save_code to)) in
    let b = icross_total h as_ in
    let c = save_total to in
    omega arith

pub inst_total : (g : NumberedFunc) (q : Places) (at : ℕ) (s : Option ℕ) (i : NumberedInst) → total (inst_items g q at s i) ≡ inst_size (is_some s) i
unfolding inst_items inst_size encode
inst_total g q at s (ir.Const to v) = refl
inst_total g q at s (ir.Move to from) = refl
inst_total g q at s (ir.Bin op to a b) = bin_total op to a b
inst_total g q at s (ir.Cmp op to a b) = refl
inst_total g q at s (ir.Addr to of) = addr_total (frame_shape g) q to of
inst_total g q at s (ir.FAddr to f) = refl
inst_total g q at s (ir.Elem to base index size) = refl
inst_total g q at s (ir.Field to base offset) = refl
inst_total g q at s (ir.Load to from t) = load_total to from t
inst_total g q at s (ir.Store to from t) = store_total to from t
inst_total g q at s (ir.Call to f as_) = call_items_total at (entry_address q f) s to as_
inst_total g q at s (ir.ICall to h as_) = icall_items_total s to h as_

sub_by_total : (w : ℕ) (b : Bool) → nat_le w 127 ≡ b → total (plain (sub_by b w)) ≡ adjust_size w
unfolding encode
sub_by_total w true h = rw h refl
sub_by_total w false h = rw h refl

add_by_total : (w : ℕ) (b : Bool) → nat_le w 127 ≡ b → total (plain (add_by b w)) ≡ adjust_size w
unfolding encode
add_by_total w true h = rw h refl
add_by_total w false h = rw h refl

stores_total : (t : ℕ → ℕ) (n k : ℕ) → total (plain (stores_code t n k)) ≡ 2 * n
unfolding encode
stores_total t zero k = refl
stores_total t (suc n) k = let h = stores_total t n (suc k) in omega arith

frame_total : (n w : ℕ) → total (plain (frame_code n w)) ≡ 2 + adjust_size w + (2 * n + (2 + 2 * (w - n)))
unfolding frame_code encode
frame_total n w =
    let clear : List Instr = byte_into 0 0 ∷ stores_code (λ k. 0) (w - n) n in
    let a = total-plain-append (PushPop 0 1 0 0 ∷ sub_code w) (stores_code (λ k. k) n 0 ++ clear) in
    let b = total-plain-append (stores_code (λ k. k) n 0) clear in
    let c = stores_total (λ k. k) n 0 in
    let d = stores_total (λ k. 0) (w - n) n in
    let e = sub_by_total w (nat_le w 127) refl in
    omega arith

lend_total : (ds : List Lend) → total (plain (lend_code ds)) ≡ 6 * length ds
unfolding encode
lend_total [] = refl
lend_total (d ∷ ds) = let h = lend_total ds in omega arith

unlend_total : (ds : List Lend) → total (plain (unlend_code ds)) ≡ 2 * length ds
unfolding encode
unlend_total [] = refl
unlend_total (d ∷ ds) =
    let h = unlend_total ds in
    let a = total-plain-append (unlend_code ds) (svc 3 ∷ []) in
    omega arith

result_total : (r : Option ℕ) → total (plain (result_code r)) ≡ save_size r
unfolding encode
result_total None = refl
result_total (Some k) = refl

leave_total : (w : ℕ) (ds : List Lend) (r : Option ℕ) → total (plain (leave_code w ds r)) ≡ 2 * length ds + (save_size r + (adjust_size w + 2))
unfolding encode
leave_total w ds r =
    let pop : List Instr = PushPop 1 0 1 0 ∷ [] in
    let a = total-plain-append (unlend_code ds) (result_code r ++ (add_code w ++ pop)) in
    let b = total-plain-append (result_code r) (add_code w ++ pop) in
    let c = total-plain-append (add_code w) pop in
    let d = unlend_total ds in
    let e = result_total r in
    let f = add_by_total w (nat_le w 127) refl in
    omega arith

pub entry_total : (g : NumberedFunc) (q : Places) → total (entry_items g q) ≡ entry_size g (lent g q)
unfolding entry_size
entry_total g q =
    let n : ℕ = row_length g.params in
    let w : ℕ = (frame_shape g).words in
    let a = total-plain-append (frame_code n w) (lend_code (lends_of g q)) in
    let b = frame_total n w in
    let c = lend_total (lends_of g q) in
    omega arith

pub term_total : (g : NumberedFunc) (q : Places) (first : ℕ) (t : NumberedTerm) → total (term_items g q first t) ≡ term_size g (lent g q) t
unfolding term_items term_size encode
term_total g q first (ir.Jump b) = refl
term_total g q first (ir.Branch on a b) = refl
term_total g q first (ir.Ret r) = leave_total (frame_shape g).words (lends_of g q) r
