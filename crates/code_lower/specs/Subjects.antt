-- Beyond the program's claim: only laws, proofs and functions inside the tool cite this file.
-- The function whose code is put, as the definitions see it.
use Rattle.std.specs.Prelude.{◌≡◌, ℕ, ◌+◌, ◌<◌, ◌≤◌, List, [], ◌∷◌, ◌++◌, length, map, drop, Option}
use Rattle.std.specs.List.{All, flat_map, range_with_len}
use Rattle.std.proofs.Math.ListN.{get_or}
use Rattle.machine_thumb_asm.specs.declared.item.Label.{Label}
use Rattle.machine_thumb_asm.specs.declared.item.Item.{Item}
use Rattle.machine_thumb_asm.specs.Assembly.{Assembly}
use Rattle.ir_model.specs.Resolved.{NumberedInst, NumberedBlock, NumberedFunc, no_block}
use Rattle.ir_program.specs.declared.program.Operation.{Operation}
use Rattle.ir_program.specs.Parts.{operation_of, routine_of}
use Rattle.ir_program.specs.Seen.{known_of}
use Rattle.code_lower.specs.declared.subject.Lent.{Lent}
use Rattle.code_lower.specs.declared.subject.Subject.{Subject}
use Rattle.code_model.specs.FrameShape.{frame_shape, local_starts}
use Rattle.code_model.specs.Places.{Lend}
use Rattle.code_model.specs.Words.{plain}
use Rattle.code_model.specs.Templates.{lends_of, inst_items, jump_items, test_code}
use Rattle.code_model.specs.FunctionCode.{block_pieces, blocks_pieces, blocks_labels}
use Rattle.code_model.specs.Fitting.{FuncFits}

abbrev pub lend_of : Lent → Lend
lend_of l = record { home = l.home; number = l.number }

abbrev pub IsSmallLend : Lent → Type 0
IsSmallLend l = (l.home < 256) × (l.number < 32)

-- `count` labels, numbered from `first` on
abbrev pub labels_from : (first count : ℕ) → List Label
labels_from n k = map (λ (i : ℕ). record { number = i }) (range_with_len n k)

abbrev pub first_label : List Label → ℕ
first_label [] = 0
first_label (l ∷ ls) = l.number

abbrev pub func_of : Subject → NumberedFunc
func_of s = routine_of (known_of s.program.now) s.routine.now

pub record IsSubject (s : Subject) : Type 0 where
  pub fits : FuncFits s.places.now (func_of s)
  pub words : s.words ≡ (frame_shape (func_of s)).words
  pub starts : s.starts.items ≡ local_starts (func_of s)
  pub near : All (λ (n : ℕ). n < 1024) s.starts.items
  pub lent : map lend_of s.lent.items ≡ lends_of (func_of s) s.places.now
  pub small : All IsSmallLend s.lent.items
  pub labels : s.labels.items ≡ labels_from (first_label s.labels.items) (length (func_of s).blocks)

abbrev pub inst_of : Subject → Operation → NumberedInst
inst_of s o = operation_of (known_of s.program.now) o

abbrev pub items_of : Subject → (at : ℕ) → (site : Option ℕ) → NumberedInst → List Item
items_of s at site i = inst_items (func_of s) s.places.now at site i

-- a branch on a register between two blocks
abbrev pub branch_items : (first on a b : ℕ) → List Item
branch_items first on a b = plain (test_code on) ++ (jump_items first a ++ jump_items first b)

-- the assembler has the labels of its blocks
abbrev pub HasLabels : Subject → Assembly → Type 0
HasLabels s a = first_label s.labels.items + length (func_of s).blocks ≤ length a.places

abbrev pub block_in : Subject → (block : ℕ) → NumberedBlock
block_in s b = get_or (func_of s).blocks b no_block

-- the code of a block from a place on, which stands at an address
abbrev pub block_rest : Subject → (at block place : ℕ) → List Item
block_rest s at b k =
    flat_map (λ (piece : List Item). piece) (block_pieces (func_of s) s.places.now (first_label s.labels.items) at b k (drop k (block_in s b).insts) (block_in s b).term)

abbrev pub block_items : Subject → (at block : ℕ) → List Item
block_items s at b = block_rest s at b 0

-- the code of the blocks from this one on, which begin at an address, and their labels
abbrev pub rest_items : Subject → (at block : ℕ) → List Item
rest_items s at b = flat_map (λ (piece : List Item). piece) (blocks_pieces (func_of s) s.places.now (first_label s.labels.items) at b (drop b (func_of s).blocks))

abbrev pub rest_labels : Subject → (at block : ℕ) → List (Option ℕ)
rest_labels s at b = blocks_labels (func_of s) s.places.now at b (drop b (func_of s).blocks)
