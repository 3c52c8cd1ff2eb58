-- Every branch of a function's code reaches its label.
use Rattle.std.proofs.Common.{◌≡◌, ℕ, zero, suc, ◌+◌, ◌<◌, ◌≤◌, ◌^◌, List, [], ◌∷◌, ◌++◌, length, get_or, flat_map, Option, Some, None, refl, ap, arith}
use Rattle.std.proofs.lemmas.List.Concat.{flat_map-append}
use Rattle.machine_thumb_asm.specs.declared.item.Item.{Item}
use Rattle.machine_thumb_asm.specs.Assembly.{total, put_at, place_of}
use Rattle.machine_thumb_asm.specs.Finished.{distance, first_far}
use Rattle.ir_model.specs.Resolved as ir
use Rattle.ir_model.specs.Resolved.{NumberedInst, NumberedTerm, NumberedBlock, NumberedFunc, no_block}
use Rattle.ir_model.specs.Signatures.{row_length}
use Rattle.code_model.specs.declared.places.Places.{Places}
use Rattle.code_model.specs.FrameShape.{frame_shape}
use Rattle.code_model.specs.Places.{entry_address, site_in, crosses}
use Rattle.code_model.specs.Words.{plain, save_code}
use Rattle.code_model.specs.Numbers.{const_code, move_code, bin_code}
use Rattle.code_model.specs.Comparisons.{cmp_code}
use Rattle.code_model.specs.Addresses.{addr_code, faddr_code, elem_code, field_code, load_code, store_code}
use Rattle.code_model.specs.Calls.{args_code, call_code, cross_code, icall_code, icross_code, call_items, icall_items}
use Rattle.code_model.specs.Entry.{leave_code, enter_code}
use Rattle.code_model.specs.Templates.{lends_of, entry_items, inst_items, jump_items, test_code, term_items}
use Rattle.code_model.specs.Sizes.{inst_size, entry_size, block_size, blocks_size, function_size}
use Rattle.code_model.specs.FunctionCode.{lent, block_pieces, blocks_pieces, blocks_labels, function_items, function_labels}
use Rattle.code_model.specs.Laws.{SizesHold}
use Rattle.code_lower_laws.specs.Reaching.{StandFrom, GoesInside, JumpsInside, FunctionsReach}
use Rattle.code_lower_laws.proofs.Reaching.{far-append, plain_near, both_near, half_near, long_near}
use Rattle.machine_thumb_asm.proofs.Items.{total-append}
use Rattle.code_model.proofs.FunctionSizes.{block_total}
use Rattle.code_model.proofs.Labels.{labels_length}

abbrev joined : List (List Item) → List Item
joined xs = flat_map (λ (piece : List Item). piece) xs

-- ---- labels

-- a block begins inside the code of the blocks
label_inside : (g : NumberedFunc) (q : Places) (at b : ℕ) (xs : List NumberedBlock) (i : ℕ) → i < length xs →
    (at ≤ put_at (get_or (blocks_labels g q at b xs) i None)) × (put_at (get_or (blocks_labels g q at b xs) i None) ≤ at + blocks_size g q.sites (lent g q) b xs)
label_inside g q at b [] i l = absurd (omega arith)
label_inside g q at b (x ∷ xs) zero l = (omega arith, omega arith)
label_inside g q at b (x ∷ xs) (suc i) l =
    let h = label_inside g q (at + block_size g q.sites (lent g q) b x) (suc b) xs i (omega arith) in
    let a = h.0 in
    let c = h.1 in
    (omega arith, omega arith)

-- ---- instructions have no branch to a label

call_near : (ps : List (Option ℕ)) (at entry : ℕ) (s to : Option ℕ) (as_ : List ℕ) → first_far ps at (call_items at entry s to as_) ≡ None
call_near ps at e None to as_ = both_near ps at (call_code as_ (distance (at + total (plain (args_code 0 as_))) e)) (save_code to)
call_near ps at e (Some s) to as_ = half_near ps at (cross_code e as_) s (save_code to)

icall_near : (ps : List (Option ℕ)) (at : ℕ) (s to : Option ℕ) (h : ℕ) (as_ : List ℕ) → first_far ps at (icall_items s to h as_) ≡ None
icall_near ps at None to h as_ = both_near ps at (icall_code h as_) (save_code to)
icall_near ps at (Some s) to h as_ = half_near ps at (icross_code h as_) s (save_code to)

inst_near : (ps : List (Option ℕ)) (g : NumberedFunc) (q : Places) (at : ℕ) (s : Option ℕ) (i : NumberedInst) → first_far ps at (inst_items g q at s i) ≡ None
unfolding inst_items
inst_near ps g q at s (ir.Const to v) = plain_near ps at (const_code to v)
inst_near ps g q at s (ir.Move to from) = plain_near ps at (move_code to from)
inst_near ps g q at s (ir.Bin op to a b) = plain_near ps at (bin_code op to a b)
inst_near ps g q at s (ir.Cmp op to a b) = plain_near ps at (cmp_code op to a b)
inst_near ps g q at s (ir.Addr to of) = plain_near ps at (addr_code (frame_shape g) q to of)
inst_near ps g q at s (ir.FAddr to f) = plain_near ps at (faddr_code q to f)
inst_near ps g q at s (ir.Elem to base index size) = plain_near ps at (elem_code to base index size)
inst_near ps g q at s (ir.Field to base offset) = plain_near ps at (field_code to base offset)
inst_near ps g q at s (ir.Load to from t) = plain_near ps at (load_code to from t)
inst_near ps g q at s (ir.Store to from t) = plain_near ps at (store_code to from t)
inst_near ps g q at s (ir.Call to f as_) = call_near ps at (entry_address q f) s to as_
inst_near ps g q at s (ir.ICall to h as_) = icall_near ps at s to h as_

-- ---- code between two addresses, where the labels lead too

module _ (hold : SizesHold) (g : NumberedFunc) (q : Places) (first : ℕ) (ps : List (Option ℕ)) (low high : ℕ)
    (leads : (b : ℕ) → b < length g.blocks → (low ≤ place_of ps (first + b)) × (place_of ps (first + b) ≤ high)) (near : high ≤ low + 2 ^ 20) where
  jump_near : (at b : ℕ) → low ≤ at → at ≤ high → b < length g.blocks → first_far ps at (jump_items first b) ≡ None
  jump_near at b l h i =
      let x = (leads b i).0 in
      let y = (leads b i).1 in
      long_near ps at first b (omega arith) (omega arith)

  branch_near : (at on a b : ℕ) → low ≤ at → at + total (plain (test_code on) ++ (jump_items first a ++ jump_items first b)) ≤ high → a < length g.blocks → b < length g.blocks →
      first_far ps at (plain (test_code on) ++ (jump_items first a ++ jump_items first b)) ≡ None
  branch_near at on a b l h i j =
      let m : ℕ = at + total (plain (test_code on)) in
      let t = total-append (plain (test_code on)) (jump_items first a ++ jump_items first b) in
      let x = jump_near m a (omega arith) (omega arith) i in
      let y = jump_near (m + 4) b (omega arith) (omega arith) j in
      far-append ps at m (plain (test_code on)) (jump_items first a ++ jump_items first b) refl (plain_near ps at (test_code on))
      (far-append ps m (m + 4) (jump_items first a) (jump_items first b) refl x y)

  term_near : (at : ℕ) (t : NumberedTerm) → low ≤ at → at + total (term_items g q first t) ≤ high → GoesInside g t → first_far ps at (term_items g q first t) ≡ None
  unfolding term_items
  term_near at (ir.Jump b) l h i = jump_near at b l (omega arith) i
  term_near at (ir.Branch on a b) l h i = branch_near at on a b l h i.0 i.1
  term_near at (ir.Ret r) l h i = plain_near ps at (leave_code (frame_shape g).words (lends_of g q) r)

  block_near : (at b k : ℕ) (is : List NumberedInst) (t : NumberedTerm) → low ≤ at → at + total (joined (block_pieces g q first at b k is t)) ≤ high → GoesInside g t →
      first_far ps at (joined (block_pieces g q first at b k is t)) ≡ None
  block_near at b k [] t l h i =
      let a = total-append (term_items g q first t) [] in
      let n = term_near at t l (omega arith) i in
      far-append ps at (at + total (term_items g q first t)) (term_items g q first t) [] refl n refl
  block_near at b k (x ∷ is) t l h i =
      let next : ℕ = at + inst_size (crosses q.sites b k) x in
      let piece : List Item = inst_items g q at (site_in q.sites b k) x in
      let rest : List Item = joined (block_pieces g q first next b (suc k) is t) in
      let a = total-append piece rest in
      let e = hold.insts g q at (site_in q.sites b k) x in
      let n = block_near next b (suc k) is t (omega arith) (omega arith) i in
      far-append ps at next piece rest (omega arith) (inst_near ps g q at (site_in q.sites b k) x) n

  blocks_near : (at b : ℕ) (xs : List NumberedBlock) → low ≤ at → at + total (joined (blocks_pieces g q first at b xs)) ≤ high →
      ((i : ℕ) → i < length xs → GoesInside g (get_or xs i no_block).term) → first_far ps at (joined (blocks_pieces g q first at b xs)) ≡ None
  blocks_near at b [] l h i = refl
  blocks_near at b (x ∷ xs) l h i =
      let next : ℕ = at + block_size g q.sites (lent g q) b x in
      let here : List (List Item) = block_pieces g q first at b 0 x.insts x.term in
      let rest : List (List Item) = blocks_pieces g q first next (suc b) xs in
      let parts = flat_map-append (λ (piece : List Item). piece) here rest in
      let s = ap total parts in
      let a = total-append (joined here) (joined rest) in
      let e = block_total g q first at b 0 x.insts x.term in
      let m = block_near at b 0 x.insts x.term l (omega arith) (i 0 (omega arith)) in
      let n = blocks_near next (suc b) xs (omega arith) (omega arith) (λ k j. i (suc k) (omega arith)) in
      rw parts (far-append ps at next (joined here) (joined rest) (omega arith) m n)

function_near : SizesHold → (g : NumberedFunc) (q : Places) (first at : ℕ) (ps : List (Option ℕ)) → StandFrom ps first (function_labels g q at) → JumpsInside g →
    function_size g q.sites (lent g q) ≤ 2 ^ 20 → first_far ps at (function_items g q first at) ≡ None
function_near hold g q first at ps labels inside small =
    let from : ℕ = at + entry_size g (lent g q) in
    let high : ℕ = at + function_size g q.sites (lent g q) in
    let rest : List Item = joined (blocks_pieces g q first from 0 g.blocks) in
    let e = hold.entries g q in
    let w = hold.functions g q first at in
    let a = total-append (entry_items g q) rest in
    let count = labels_length g q from 0 g.blocks in
    let leads : (b : ℕ) → b < length g.blocks → (at ≤ place_of ps (first + b)) × (place_of ps (first + b) ≤ high) =
    λ b l.
    let z = ap put_at (labels b (omega arith)) in
    let h = label_inside g q from 0 g.blocks b l in
    let x = h.0 in
    let y = h.1 in
    (omega arith, omega arith) in
    let n = blocks_near hold g q first ps at high leads (omega arith) from 0 g.blocks (omega arith) (omega arith) inside in
    far-append ps at from (entry_items g q) rest (omega arith) (plain_near ps at (enter_code (row_length g.params) (frame_shape g).words (lends_of g q))) n

pub functions_reach : SizesHold → FunctionsReach
functions_reach hold = function_near hold
