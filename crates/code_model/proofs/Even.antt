-- Sizes and offsets are even.
use Rattle.std.proofs.Common.{◌≡◌, ℕ, suc, ◌%◌, List, [], ◌∷◌, take, get_or, Bool, true, false, Option, Some, None, nat_le, refl, arith}
use Rattle.ir_model.specs.declared.firmware.BinOp.{BinOp}
use Rattle.ir_model.specs.declared.firmware.BinOp.TheVariants.{Add, Sub, Mul, Udiv, Sdiv, Urem, Srem, And, Or, Xor, Bic, Shl, Shr, Sar}
use Rattle.ir_model.specs.Resolved as ir
use Rattle.ir_model.specs.Resolved.{NumberedInst, NumberedTerm, NumberedBlock, NumberedFunc, TheGlobal, ThePeriph, TheLocal, no_block}
use Rattle.code_model.specs.declared.places.CallSite.{CallSite}
use Rattle.code_model.specs.FrameShape.{frame_shape}
use Rattle.code_model.specs.Places.{crosses}
use Rattle.code_model.specs.Sizes.{bin_size, addr_size, save_size, call_size, icall_size, inst_size, adjust_size, term_size, entry_size, insts_size, blocks_size, function_size, place_offset}
use Rattle.code_model.specs.Laws.{SizesAreEven}

bin_even : (op : BinOp) → bin_size op % 2 ≡ 0
bin_even Add = refl
bin_even Sub = refl
bin_even Mul = refl
bin_even Udiv = refl
bin_even Sdiv = refl
bin_even Urem = refl
bin_even Srem = refl
bin_even And = refl
bin_even Or = refl
bin_even Xor = refl
bin_even Bic = refl
bin_even Shl = refl
bin_even Shr = refl
bin_even Sar = refl

addr_even : (of : ir.Named) → addr_size of % 2 ≡ 0
addr_even (TheGlobal x) = refl
addr_even (ThePeriph w) = refl
addr_even (TheLocal l) = refl

save_even : (to : Option ℕ) → save_size to % 2 ≡ 0
save_even None = refl
save_even (Some k) = refl

call_even : (x : Bool) (as_ : List ℕ) → call_size x as_ % 2 ≡ 0
call_even true as_ = omega arith
call_even false as_ = omega arith

icall_even : (x : Bool) (as_ : List ℕ) → icall_size x as_ % 2 ≡ 0
icall_even true as_ = omega arith
icall_even false as_ = omega arith

pub inst_even : (x : Bool) (i : NumberedInst) → inst_size x i % 2 ≡ 0
unfolding inst_size
inst_even x (ir.Const to v) = refl
inst_even x (ir.Move to from) = refl
inst_even x (ir.Bin op to a b) = bin_even op
inst_even x (ir.Cmp op to a b) = refl
inst_even x (ir.Addr to of) = addr_even of
inst_even x (ir.FAddr to f) = refl
inst_even x (ir.Elem to base index size) = refl
inst_even x (ir.Field to base offset) = refl
inst_even x (ir.Load to from t) = refl
inst_even x (ir.Store to from t) = refl
inst_even x (ir.Call to f as_) = let a = call_even x as_ in let b = save_even to in omega arith
inst_even x (ir.ICall to h as_) = let a = icall_even x as_ in let b = save_even to in omega arith

adjust_by : (w : ℕ) (b : Bool) → nat_le w 127 ≡ b → adjust_size w % 2 ≡ 0
adjust_by w true h = rw h refl
adjust_by w false h = rw h refl

adjust_even : (w : ℕ) → adjust_size w % 2 ≡ 0
adjust_even w = adjust_by w (nat_le w 127) refl

pub term_even : (g : NumberedFunc) (n : ℕ) (t : NumberedTerm) → term_size g n t % 2 ≡ 0
unfolding term_size
term_even g n (ir.Jump b) = refl
term_even g n (ir.Branch on a b) = refl
term_even g n (ir.Ret r) = let a = save_even r in let b = adjust_even (frame_shape g).words in omega arith

pub entry_even : (g : NumberedFunc) (n : ℕ) → entry_size g n % 2 ≡ 0
unfolding entry_size
entry_even g n = let a = adjust_even (frame_shape g).words in omega arith

module _ (g : NumberedFunc) (sites : List CallSite) (n : ℕ) where
  pub insts_even : (b k : ℕ) (is : List NumberedInst) → insts_size g sites n b k is % 2 ≡ 0
  insts_even b k [] = refl
  insts_even b k (i ∷ is) = let h = insts_even b (suc k) is in let a = inst_even (crosses sites b k) i in omega arith

  blocks_even : (b : ℕ) (xs : List NumberedBlock) → blocks_size g sites n b xs % 2 ≡ 0
  blocks_even b [] = refl
  blocks_even b (x ∷ xs) =
      let h = blocks_even (suc b) xs in
      let i = insts_even b 0 x.insts in
      let t = term_even g n x.term in
      omega arith

  pub function_even : function_size g sites n % 2 ≡ 0
  function_even = let e = entry_even g n in let h = blocks_even 0 g.blocks in omega arith

  pub place_even : (b k : ℕ) → place_offset g sites n b k % 2 ≡ 0
  place_even b k =
      let e = entry_even g n in
      let h = blocks_even 0 (take b g.blocks) in
      let i = insts_even b 0 (take k (get_or g.blocks b no_block).insts) in
      omega arith

pub sizes_are_even : SizesAreEven
sizes_are_even = record { functions = function_even; places = place_even }
