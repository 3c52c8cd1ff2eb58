-- The code of a whole function has the size that is told without addresses.
use Rattle.std.proofs.Common.{◌≡◌, ℕ, suc, ◌+◌, List, [], ◌∷◌, flat_map, refl, arith}
use Rattle.std.proofs.lemmas.List.Concat.{flat_map-append}
use Rattle.machine_thumb_asm.specs.declared.item.Item.{Item}
use Rattle.machine_thumb_asm.specs.Assembly.{total}
use Rattle.ir_model.specs.Resolved.{NumberedInst, NumberedTerm, NumberedBlock, NumberedFunc}
use Rattle.code_model.specs.declared.places.Places.{Places}
use Rattle.code_model.specs.Places.{site_in, crosses}
use Rattle.code_model.specs.Templates.{entry_items, inst_items, term_items}
use Rattle.code_model.specs.Sizes.{inst_size, term_size, insts_size, block_size, blocks_size, function_size, entry_size}
use Rattle.code_model.specs.FunctionCode.{lent, block_pieces, blocks_pieces, function_items}
use Rattle.code_model.specs.Laws.{SizesHold}
use Rattle.code_model.proofs.PieceSizes.{inst_total, term_total, entry_total}
use Rattle.machine_thumb_asm.proofs.Items.{total-append}

module _ (g : NumberedFunc) (q : Places) where
  pub block_total : (first at b k : ℕ) (is : List NumberedInst) (t : NumberedTerm) →
      total (flat_map (λ (piece : List Item). piece) (block_pieces g q first at b k is t)) ≡ insts_size g q.sites (lent g q) b k is + term_size g (lent g q) t
  block_total first at b k [] t = let h = term_total g q first t in let a = total-append (term_items g q first t) [] in omega arith
  block_total first at b k (i ∷ is) t =
      let next : ℕ = at + inst_size (crosses q.sites b k) i in
      let h = block_total first next b (suc k) is t in
      let a = total-append (inst_items g q at (site_in q.sites b k) i) (flat_map (λ (piece : List Item). piece) (block_pieces g q first next b (suc k) is t)) in
      let e = inst_total g q at (site_in q.sites b k) i in
      omega arith

  pub blocks_total : (first at b : ℕ) (xs : List NumberedBlock) →
      total (flat_map (λ (piece : List Item). piece) (blocks_pieces g q first at b xs)) ≡ blocks_size g q.sites (lent g q) b xs
  blocks_total first at b [] = refl
  blocks_total first at b (x ∷ xs) =
      let next : ℕ = at + block_size g q.sites (lent g q) b x in
      let h = blocks_total first next (suc b) xs in
      let here : List (List Item) = block_pieces g q first at b 0 x.insts x.term in
      let rest : List (List Item) = blocks_pieces g q first next (suc b) xs in
      let e = block_total first at b 0 x.insts x.term in
      let a = total-append (flat_map (λ (piece : List Item). piece) here) (flat_map (λ (piece : List Item). piece) rest) in
      rw (flat_map-append (λ (piece : List Item). piece) here rest) (omega arith)

  pub function_total : (first at : ℕ) → total (function_items g q first at) ≡ function_size g q.sites (lent g q)
  function_total first at =
      let next : ℕ = at + entry_size g (lent g q) in
      let h = blocks_total first next 0 g.blocks in
      let e = entry_total g q in
      let a = total-append (entry_items g q) (flat_map (λ (piece : List Item). piece) (blocks_pieces g q first next 0 g.blocks)) in
      omega arith

pub sizes_hold : SizesHold
sizes_hold = record { insts = inst_total; terms = term_total; entries = entry_total; functions = function_total }
