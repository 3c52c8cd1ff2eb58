-- How many bytes the code of each instruction, of each block's end, of entries and of whole functions has. No address is needed:
-- a size depends on which calls may go to another compartment, and on how many locals are lent.
use Rattle.std.specs.Prelude.{ℕ, suc, ◌+◌, ◌*◌, ◌-◌, List, [], ◌∷◌, length, take, Bool, true, false, Option, Some, None, nat_le, if◌then◌else◌}
use Rattle.std.proofs.Math.ListN.{get_or}
use Rattle.ir_model.specs.declared.firmware.BinOp.{BinOp}
use Rattle.ir_model.specs.declared.firmware.BinOp.TheVariants.{Udiv, Sdiv, Urem, Srem}
use Rattle.ir_model.specs.Resolved as ir
use Rattle.ir_model.specs.Resolved.{NumberedInst, NumberedTerm, NumberedBlock, NumberedFunc, Here, Does, Named, TheLocal, no_block}
use Rattle.ir_model.specs.Signatures.{row_length, here_of}
use Rattle.code_model.specs.declared.places.CallSite.{CallSite}
use Rattle.code_model.specs.FrameShape.{frame_shape}
use Rattle.code_model.specs.Places.{crosses}

abbrev pub bin_size : BinOp → ℕ
bin_size Udiv = 10
bin_size Sdiv = 10
bin_size Urem = 14
bin_size Srem = 14
bin_size _ = 8

abbrev pub addr_size : Named → ℕ
addr_size (TheLocal l) = 4
addr_size _ = 10

-- where a result is kept, if it is
abbrev pub save_size : Option ℕ → ℕ
save_size None = 0
save_size (Some k) = 2

-- a call up to the address that it returns to: the words that load its arguments and its callee, and BL, BLX, or SVC with the
-- halfword of its site
abbrev pub call_size : (cross : Bool) → (args : List ℕ) → ℕ
call_size false args = 2 * length args + 4
call_size true args = 8 + 2 * length args + 4

abbrev pub icall_size : (cross : Bool) → (args : List ℕ) → ℕ
icall_size false args = 4 + 2 * length args + 2
icall_size true args = 4 + 2 * length args + 4

unfoldable pub inst_size : (cross : Bool) → NumberedInst → ℕ
inst_size x (ir.Const to v) = 10
inst_size x (ir.Move to from) = 4
inst_size x (ir.Bin op to a b) = bin_size op
inst_size x (ir.Cmp op to a b) = 16
inst_size x (ir.Addr to of) = addr_size of
inst_size x (ir.FAddr to f) = 10
inst_size x (ir.Elem to base index size) = 18
inst_size x (ir.Field to base offset) = 14
inst_size x (ir.Load to from t) = 6
inst_size x (ir.Store to from t) = 6
inst_size x (ir.Call to f args) = call_size x args + save_size to
inst_size x (ir.ICall to h args) = icall_size x args + save_size to

-- from the beginning of a call's code to the address that it returns to; 0 of what is no call
abbrev pub resume_size : (cross : Bool) → Here → ℕ
resume_size x (Does (ir.Call to f args)) = call_size x args
resume_size x (Does (ir.ICall to h args)) = icall_size x args
resume_size x _ = 0

-- SUB SP or ADD SP by a number of words
abbrev pub adjust_size : (words : ℕ) → ℕ
adjust_size w = if nat_le w 127 then 2 else 4

unfoldable pub term_size : NumberedFunc → (lent : ℕ) → NumberedTerm → ℕ
term_size g n (ir.Jump b) = 4
term_size g n (ir.Branch on a b) = 14
term_size g n (ir.Ret r) = 2 * n + (save_size r + (adjust_size (frame_shape g).words + 2))

-- PUSH, SUB SP, a store of each parameter, MOVS, a store of each other word, and three instructions for each lent local
unfoldable pub entry_size : NumberedFunc → (lent : ℕ) → ℕ
entry_size g n =
    2 + adjust_size (frame_shape g).words + (2 * row_length g.params + (2 + 2 * ((frame_shape g).words - row_length g.params))) + 6 * n

module _ (g : NumberedFunc) (sites : List CallSite) (lent : ℕ) where
  -- instructions of a block from a place on
  abbrev pub insts_size : (block place : ℕ) → List NumberedInst → ℕ
  insts_size b k [] = 0
  insts_size b k (i ∷ is) = inst_size (crosses sites b k) i + insts_size b (suc k) is

  abbrev pub block_size : (block : ℕ) → NumberedBlock → ℕ
  block_size b x = insts_size b 0 x.insts + term_size g lent x.term

  -- blocks from a number on
  abbrev pub blocks_size : (block : ℕ) → List NumberedBlock → ℕ
  blocks_size b [] = 0
  blocks_size b (x ∷ xs) = block_size b x + blocks_size (suc b) xs

  abbrev pub function_size : ℕ
  function_size = entry_size g lent + blocks_size 0 g.blocks

  -- how far behind the function's entry a block begins, and the code of a place in it
  abbrev pub block_offset : (block : ℕ) → ℕ
  block_offset b = entry_size g lent + blocks_size 0 (take b g.blocks)

  abbrev pub place_offset : (block place : ℕ) → ℕ
  place_offset b k = block_offset b + insts_size b 0 (take k (get_or g.blocks b no_block).insts)

  -- where a call returns to, and where the halfword of its site stands, which is the return address of its SVC
  abbrev pub resume_offset : (block place : ℕ) → ℕ
  resume_offset b k = place_offset b k + resume_size (crosses sites b k) (here_of g b k)

  abbrev pub site_offset : (block place : ℕ) → ℕ
  site_offset b k = resume_offset b k - 2
