-- Blocks that are put piece by piece: what was put, and what is left.
use Rattle.std.proofs.Common.{◌≡◌, ℕ, suc, ◌+◌, ◌-◌, ◌%◌, ◌<◌, ◌≤◌, Option, Some, List, [], ◌∷◌, ◌++◌, length, get_or, take, drop, set, replicate, flat_map, None, refl, ap, sym, ◌∙◌, append_assoc, arith}
use Rattle.std.proofs.lemmas.List.{drop_more, length-map, get_or-map, length-drop, length-replicate, get_or-drop, get_or-replicate, drop-set-lt, drop-drop, drop-replicate, take_more_set}
use Rattle.std.proofs.lemmas.List.Elements.{All-weaker, All-get_or}
use Rattle.std.proofs.lemmas.List.Concat.{flat_map-append}
use Rattle.machine_thumb_asm.specs.declared.item.Item.{Item}
use Rattle.machine_thumb_asm.specs.Assembly.{Assembly, here, total}
use Rattle.ir_model.specs.Resolved.{NumberedInst, NumberedTerm, NumberedBlock, NumberedFunc, Const, no_block}
use Rattle.ir_program.specs.declared.program.Operation.{Operation}
use Rattle.ir_program.specs.declared.program.Sequence.{Sequence}
use Rattle.ir_program.specs.Parts.{operation_of, sequence_of}
use Rattle.ir_program.specs.Seen.{known_of}
use Rattle.code_model.specs.declared.places.Places.{Places}
use Rattle.code_lower.specs.declared.subject.Subject.{Subject}
use Rattle.code_model.specs.Places.{site_in, crosses}
use Rattle.code_model.specs.Templates.{inst_items}
use Rattle.code_model.specs.Sizes.{block_size}
use Rattle.code_model.specs.FunctionCode.{lent, block_pieces, blocks_pieces, blocks_labels}
use Rattle.code_model.specs.Fitting.{InstFits, BlockFits}
use Rattle.code_lower.specs.Subjects.{func_of, block_in, inst_of, items_of, IsSubject}
use Rattle.code_model.specs.Emitted.{with_more, HasRoom, IsNear, AreNear}
use Rattle.code_model.proofs.PieceSizes.{inst_total}
use Rattle.code_model.proofs.FunctionSizes.{block_total}
use Rattle.code_model.proofs.Even.{inst_even, insts_even, term_even}
use Rattle.code_lower.proofs.Putting.{here_more, first_fits, rest_fits, both_put}
use Rattle.machine_thumb_asm.proofs.Items.{total-append}

-- entries that are near all of some code are near each part of it
pub narrow : (from to low high : ℕ) (es : List ℕ) → from ≤ low → high ≤ to → AreNear from to es → AreNear low high es
narrow from to low high es f t h =
    All-weaker (IsNear from to) (IsNear low high) (λ e n. let b = n.behind in let c = n.before in record { even = n.even; behind = omega arith; before = omega arith }) es h

pub near_first : (at : ℕ) (xs ys : List Item) (es : List ℕ) → AreNear at (at + total (xs ++ ys)) es → AreNear at (at + total xs) es
near_first at xs ys es h = let e = total-append xs ys in narrow at (at + total (xs ++ ys)) at (at + total xs) es (omega arith) (omega arith) h

pub near_rest : (a b : Assembly) (xs ys : List Item) (es : List ℕ) → b ≡ with_more a xs → AreNear (here a) (here a + total (xs ++ ys)) es → AreNear (here b) (here b + total ys) es
near_rest a b xs ys es e h =
    let f = ap here e ∙ here_more a xs in
    let t = total-append xs ys in
    narrow (here a) (here a + total (xs ++ ys)) (here b) (here b + total ys) es (omega arith) (omega arith) h

module _ (g : NumberedFunc) (q : Places) (first : ℕ) where
  -- the code of a block from a place on, which stands at this address
  abbrev pub block_left : (at block place : ℕ) → List NumberedInst → NumberedTerm → List Item
  block_left at b k is t = flat_map (λ (piece : List Item). piece) (block_pieces g q first at b k is t)

  abbrev piece_at : (at block place : ℕ) → List NumberedInst → List Item
  piece_at at b k is = inst_items g q at (site_in q.sites b k) (get_or is k (Const 0 0))

  pub block_step : (at b k : ℕ) (is : List NumberedInst) (t : NumberedTerm) → k < length is →
      block_left at b k (drop k is) t ≡ piece_at at b k is ++ block_left (at + total (piece_at at b k is)) b (k + 1) (drop (k + 1) is) t
  block_step at b k is t h =
      let one : suc k ≡ k + 1 = omega arith in
      let e = inst_total g q at (site_in q.sites b k) (get_or is k (Const 0 0)) in
      ap (λ xs. block_left at b k xs t) (drop_more is k (Const 0 0) h)
      ∙ (ap (λ n. piece_at at b k is ++ block_left (at + n) b (suc k) (drop (k + 1) is) t) (sym e)
      ∙ ap (λ n. piece_at at b k is ++ block_left (at + total (piece_at at b k is)) b n (drop (k + 1) is) t) one)

  pub piece_even : (at b k : ℕ) (is : List NumberedInst) → total (piece_at at b k is) % 2 ≡ 0
  piece_even at b k is =
      let e = inst_total g q at (site_in q.sites b k) (get_or is k (Const 0 0)) in
      let f = inst_even (crosses q.sites b k) (get_or is k (Const 0 0)) in
      omega arith

  -- a piece of a block is put, which stands at the place
  module _ (a : Assembly) (b k : ℕ) (is : List NumberedInst) (t : NumberedTerm) (h : k < length is) (piece : List Item) (e : piece ≡ piece_at (here a) b k is) where
    abbrev left : List Item
    left = block_left (here a) b k (drop k is) t

    piece_parts : left ≡ piece ++ block_left (here a + total piece) b (k + 1) (drop (k + 1) is) t
    piece_parts = rw e (block_step (here a) b k is t h)

    pub piece_room : HasRoom a left → HasRoom a piece
    piece_room r = first_fits a left piece (block_left (here a + total piece) b (k + 1) (drop (k + 1) is) t) piece_parts r

    pub piece_near : (es : List ℕ) → AreNear (here a) (here a + total left) es → AreNear (here a) (here a + total piece) es
    piece_near es n = near_first (here a) piece (block_left (here a + total piece) b (k + 1) (drop (k + 1) is) t) es (rw piece_parts at n)

    module _ (n : Assembly) (f : n ≡ with_more a piece) where
      abbrev rest : List Item
      rest = block_left (here n) b (k + 1) (drop (k + 1) is) t

      rest_parts : left ≡ piece ++ rest
      rest_parts = piece_parts ∙ ap (λ m. piece ++ block_left m b (k + 1) (drop (k + 1) is) t) (sym (ap here f ∙ here_more a piece))

      pub rest_room : HasRoom a left → HasRoom n rest
      rest_room r = rest_fits a left piece rest rest_parts n f r

      pub rest_near : (es : List ℕ) → AreNear (here a) (here a + total left) es → AreNear (here n) (here n + total rest) es
      rest_near es m = near_rest a n piece rest es f (rw rest_parts at m)

      pub rest_whole : with_more n rest ≡ with_more a left
      rest_whole = both_put a left piece rest rest_parts n (with_more n rest) f refl

      pub rest_even : here a % 2 ≡ 0 → here n % 2 ≡ 0
      rest_even m =
          let l = ap here f ∙ here_more a piece in
          let v = ap total e in
          let w = piece_even (here a) b k is in
          omega arith

  -- the code of blocks, and their labels, from one on
  abbrev pub blocks_left : (at block : ℕ) → List NumberedBlock → List Item
  blocks_left at b xs = flat_map (λ (piece : List Item). piece) (blocks_pieces g q first at b xs)

  module _ (at b : ℕ) (xs : List NumberedBlock) (h : b < length xs) where
    abbrev this_block : List Item
    this_block = block_left at b 0 (get_or xs b no_block).insts (get_or xs b no_block).term

    block_is : block_size g q.sites (lent g q) b (get_or xs b no_block) ≡ total this_block
    block_is = sym (block_total g q first at b 0 (get_or xs b no_block).insts (get_or xs b no_block).term)

    pub blocks_step : blocks_left at b (drop b xs) ≡ this_block ++ blocks_left (at + total this_block) (b + 1) (drop (b + 1) xs)
    blocks_step =
        let one : suc b ≡ b + 1 = omega arith in
        let x : NumberedBlock = get_or xs b no_block in
        ap (λ ys. blocks_left at b ys) (drop_more xs b no_block h)
        ∙ (flat_map-append (λ (piece : List Item). piece) (block_pieces g q first at b 0 x.insts x.term) (blocks_pieces g q first (at + block_size g q.sites (lent g q) b x) (suc b) (drop (b + 1) xs))
        ∙ (ap (λ n. this_block ++ blocks_left (at + n) (suc b) (drop (b + 1) xs)) block_is
        ∙ ap (λ n. this_block ++ blocks_left (at + total this_block) n (drop (b + 1) xs)) one))

    pub labels_step : blocks_labels g q at b (drop b xs) ≡ Some at ∷ blocks_labels g q (at + total this_block) (b + 1) (drop (b + 1) xs)
    labels_step =
        let one : suc b ≡ b + 1 = omega arith in
        ap (λ ys. blocks_labels g q at b ys) (drop_more xs b no_block h)
        ∙ (ap (λ n. Some at ∷ blocks_labels g q (at + n) (suc b) (drop (b + 1) xs)) block_is
        ∙ ap (λ n. Some at ∷ blocks_labels g q (at + total this_block) n (drop (b + 1) xs)) one)

    pub block_even : total this_block % 2 ≡ 0
    block_even =
        let e = block_total g q first at b 0 (get_or xs b no_block).insts (get_or xs b no_block).term in
        let i = insts_even g q.sites (lent g q) b 0 (get_or xs b no_block).insts in
        let t = term_even g (lent g q) (get_or xs b no_block).term in
        omega arith

-- an instruction of a block as the code has it
module _ (s : Subject) (b : ℕ) (x : Sequence) (e : block_in s b ≡ sequence_of (known_of s.program.now) x) (k : ℕ) (o : Operation) (h : k < length x.operations) (is : o ≡ get_or x.operations k o) where
  pub count_is : k < length (block_in s b).insts
  count_is = let f = ap (λ (y : NumberedBlock). length y.insts) e ∙ length-map x.operations (operation_of (known_of s.program.now)) in omega arith

  pub inst_is : inst_of s o ≡ get_or (block_in s b).insts k (Const 0 0)
  inst_is =
      ap (operation_of (known_of s.program.now)) is
      ∙ (sym (get_or-map (operation_of (known_of s.program.now)) x.operations k o (Const 0 0) h) ∙ ap (λ (y : NumberedBlock). get_or y.insts k (Const 0 0)) (sym e))

  pub inst_fits : IsSubject s → b < length (func_of s).blocks → InstFits s.places.now (func_of s) (inst_of s o)
  inst_fits i l =
      let block = All-get_or (BlockFits s.places.now (func_of s)) (func_of s).blocks b no_block l i.fits.blocks in
      rw inst_is (All-get_or (InstFits s.places.now (func_of s)) (block_in s b).insts k (Const 0 0) count_is block.insts)

  pub code_is : (at : ℕ) (z : Option ℕ) → z ≡ site_in s.places.now.sites b k →
      items_of s at z (inst_of s o) ≡ inst_items (func_of s) s.places.now at (site_in s.places.now.sites b k) (get_or (block_in s b).insts k (Const 0 0))
  code_is at z f = ap (λ y. items_of s at y (inst_of s o)) f ∙ ap (λ i. items_of s at (site_in s.places.now.sites b k) i) inst_is

-- a whole block is put
module _ (g : NumberedFunc) (q : Places) (first : ℕ) (a : Assembly) (b : ℕ) (xs : List NumberedBlock) (h : b < length xs) where
  abbrev this : List Item
  this = this_block g q first (here a) b xs h

  abbrev all_left : List Item
  all_left = blocks_left g q first (here a) b (drop b xs)

  abbrev more_left : (at : ℕ) → List Item
  more_left at = blocks_left g q first at (b + 1) (drop (b + 1) xs)

  block_parts : all_left ≡ this ++ more_left (here a + total this)
  block_parts = blocks_step g q first (here a) b xs h

  pub this_room : HasRoom a all_left → HasRoom a this
  this_room r = first_fits a all_left this (more_left (here a + total this)) block_parts r

  pub this_near : (es : List ℕ) → AreNear (here a) (here a + total all_left) es → AreNear (here a) (here a + total this) es
  this_near es n = near_first (here a) this (more_left (here a + total this)) es (rw block_parts at n)

  module _ (n : Assembly) (base : n.base ≡ a.base) (items : n.items ≡ a.items ++ this) where
    behind : here n ≡ here a + total this
    behind = let t = total-append a.items this in let e = ap total items in omega arith

    whole_total : total all_left ≡ total this + total (more_left (here n))
    whole_total = ap total block_parts ∙ (total-append this (more_left (here a + total this)) ∙ ap (λ m. total this + total (more_left m)) (sym behind))

    pub more_room : HasRoom a all_left → HasRoom n (more_left (here n))
    more_room r = let s = r.below in let t = whole_total in let e = behind in record { below = omega arith }

    pub more_near : (es : List ℕ) → AreNear (here a) (here a + total all_left) es → AreNear (here n) (here n + total (more_left (here n))) es
    more_near es m =
        let t = whole_total in
        let e = behind in
        narrow (here a) (here a + total all_left) (here n) (here n + total (more_left (here n))) es (omega arith) (omega arith) m

    pub more_items : n.items ++ more_left (here n) ≡ a.items ++ all_left
    more_items =
        ap (λ is. is ++ more_left (here n)) items
        ∙ (append_assoc a.items this (more_left (here n)) ∙ ap (λ is. a.items ++ is) (ap (λ m. this ++ more_left m) behind ∙ sym block_parts))

    pub more_even : here a % 2 ≡ 0 → here n % 2 ≡ 0
    more_even m = let e = behind in let t = block_even g q first (here a) b xs h in omega arith

    pub more_labels : (ps : List (Option ℕ)) (i : ℕ) → i < length ps →
        take (i + 1) (set ps i (Some (here a))) ++ blocks_labels g q (here n) (b + 1) (drop (b + 1) xs) ≡ take i ps ++ blocks_labels g q (here a) b (drop b xs)
    more_labels ps i l =
        ap (λ ys. ys ++ blocks_labels g q (here n) (b + 1) (drop (b + 1) xs)) (take_more_set ps i (Some (here a)) l)
        ∙ (append_assoc (take i ps) (Some (here a) ∷ []) (blocks_labels g q (here n) (b + 1) (drop (b + 1) xs))
        ∙ ap (λ ys. take i ps ++ ys) (ap (λ m. Some (here a) ∷ blocks_labels g q m (b + 1) (drop (b + 1) xs)) behind ∙ sym (labels_step g q first (here a) b xs h)))

-- labels that are not put yet
pub free_length : (ps : List (Option ℕ)) (i n : ℕ) → drop i ps ≡ replicate n None → 0 < n → length ps ≡ i + n
free_length ps i n e l = let d = length-drop i ps in let f = ap length e ∙ length-replicate n None in omega arith

pub free_here : (ps : List (Option ℕ)) (i n : ℕ) → drop i ps ≡ replicate n None → 0 < n → get_or ps i None ≡ None
free_here ps i n e l =
    let m : i + 0 ≡ i = omega arith in
    ap (λ k. get_or ps k None) (sym m) ∙ (sym (get_or-drop i ps 0 None) ∙ (ap (λ ys. get_or ys 0 None) e ∙ get_or-replicate n 0 None None l))

pub free_next : (ps : List (Option ℕ)) (i n : ℕ) (v : Option ℕ) → drop i ps ≡ replicate n None → drop (i + 1) (set ps i v) ≡ replicate (n - 1) None
free_next ps i n v e =
    let l : i < i + 1 = omega arith in
    drop-set-lt (i + 1) ps i v l ∙ (sym (drop-drop 1 i ps) ∙ (ap (drop 1) e ∙ drop-replicate 1 n None))
