-- The code of a whole function: its entry, and the code of its blocks one behind the other.
use Rattle.std.specs.Prelude.{ℕ, suc, ◌+◌, List, [], ◌∷◌, ◌++◌, length, Option, Some}
use Rattle.std.specs.List.{flat_map}
use Rattle.machine_thumb_asm.specs.declared.item.Item.{Item}
use Rattle.ir_model.specs.Resolved.{NumberedInst, NumberedTerm, NumberedBlock, NumberedFunc, Here, Does, Ends}
use Rattle.code_model.specs.declared.places.Places.{Places}
use Rattle.code_model.specs.Places.{site_in, crosses}
use Rattle.code_model.specs.Templates.{lends_of, entry_items, inst_items, term_items}
use Rattle.code_model.specs.Sizes as sizes

module _ (g : NumberedFunc) (q : Places) where
  -- how many of its locals are lent
  abbrev pub lent : ℕ
  lent = length (lends_of g q)

  -- what stands at a place, at this address
  abbrev pub here_items : (first at block place : ℕ) → Here → List Item
  here_items first at b k (Does i) = inst_items g q at (site_in q.sites b k) i
  here_items first at b k (Ends t) = term_items g q first t

  -- the pieces of a block from a place on, which begin at an address: one for each instruction, and one for the block's end
  abbrev pub block_pieces : (first at block place : ℕ) → List NumberedInst → NumberedTerm → List (List Item)
  block_pieces first at b k [] t = term_items g q first t ∷ []
  block_pieces first at b k (i ∷ is) t =
      inst_items g q at (site_in q.sites b k) i ∷ block_pieces first (at + sizes.inst_size (crosses q.sites b k) i) b (suc k) is t

  -- the pieces of blocks from a number on
  abbrev pub blocks_pieces : (first at block : ℕ) → List NumberedBlock → List (List Item)
  blocks_pieces first at b [] = []
  blocks_pieces first at b (x ∷ xs) =
      block_pieces first at b 0 x.insts x.term ++ blocks_pieces first (at + sizes.block_size g q.sites lent b x) (suc b) xs

  -- the pieces of a function that stands at an address, its entry first
  abbrev pub function_pieces : (first at : ℕ) → List (List Item)
  function_pieces first at = entry_items g q ∷ blocks_pieces first (at + sizes.entry_size g lent) 0 g.blocks

  abbrev pub function_items : (first at : ℕ) → List Item
  function_items first at = flat_map (λ (piece : List Item). piece) (function_pieces first at)

  -- where blocks begin, as the places of labels
  abbrev pub blocks_labels : (at block : ℕ) → List NumberedBlock → List (Option ℕ)
  blocks_labels at b [] = []
  blocks_labels at b (x ∷ xs) = Some at ∷ blocks_labels (at + sizes.block_size g q.sites lent b x) (suc b) xs

  abbrev pub function_labels : (at : ℕ) → List (Option ℕ)
  function_labels at = blocks_labels (at + sizes.entry_size g lent) 0 g.blocks
