-- The code of a typed function has an encoding, where its places are those of a plan.
use Rattle.std.proofs.Common.{◌≡◌, ℕ, ℤ, suc, ◌+◌, ◌/◌, ◌%◌, ◌^◌, ◌<◌, ◌≤◌, true, List, [], ◌∷◌, ◌++◌, length, get_or, flat_map, nat_le, nat_lt, Option, Some, None, refl, sym, ap, ◌∙◌, subst, arith}
use Rattle.std.proofs.lemmas.List.Concat.{flat_map-append}
use Rattle.machine_thumb.specs.declared.table.Instr.{Instr}
use Rattle.machine_thumb.specs.declared.table.Instr.TheVariants.{BranchLink}
use Rattle.machine_thumb.specs.Table.{IsOffset, svc}
use Rattle.machine_thumb.specs.Bytes.{EachInTable}
use Rattle.machine_thumb.proofs.Codes.{in_table-append}
use Rattle.machine_thumb.proofs.Offsets.{two_offset}
use Rattle.machine_thumb_asm.specs.declared.item.Item.{Item}
use Rattle.machine_thumb_asm.specs.declared.item.Item.TheVariants.{Half}
use Rattle.machine_thumb_asm.specs.Assembly.{total}
use Rattle.machine_thumb_asm.specs.Finished.{distance}
use Rattle.ir_model.specs.Types.{PlainType, PlainResult, PlainTypes}
use Rattle.ir_model.specs.Resolved as ir
use Rattle.ir_model.specs.Resolved.{Program, NumberedInst, NumberedTerm, NumberedBlock, NumberedFunc, TheGlobal, ThePeriph, TheLocal, no_block}
use Rattle.ir_model.specs.Signatures.{row_length}
use Rattle.ir_laws.specs.Typed.{KeepsResult, CallTyped, InstTyped, EndTyped, HereTyped, FuncTyped}
use Rattle.code_model.specs.declared.places.Places.{Places}
use Rattle.code_model.specs.FrameShape.{frame_shape, local_starts}
use Rattle.code_model.specs.Places.{global_address, window_address, entry_address, site_in, crosses}
use Rattle.code_model.specs.Words.{plain, save_code, word_into}
use Rattle.code_model.specs.Numbers.{const_code, move_code, bin_code}
use Rattle.code_model.specs.Comparisons.{cmp_code}
use Rattle.code_model.specs.Addresses.{named_into, addr_code, faddr_code, elem_code, field_code, load_code, store_code}
use Rattle.code_model.specs.Entry.{enter_code, leave_code}
use Rattle.code_model.specs.Calls.{args_code, call_code, callee_code, icall_code, call_items, icall_items}
use Rattle.code_model.specs.Templates.{lends_of, entry_items, inst_items, term_items}
use Rattle.code_model.specs.Sizes.{inst_size, block_size, entry_size}
use Rattle.code_model.specs.FunctionCode.{lent, block_pieces, blocks_pieces, function_items}
use Rattle.code_model.specs.Laws.{SizesHold}
use Rattle.image_promises.proofs.Passing.{and_yes, le_yes, lt_yes}
use Rattle.image_promises.proofs.Encodable.{Encodable, encodable-append, plain_encodable, offset_in}
use Rattle.image_promises.proofs.TemplateCode.{LendsFit, load_in, store_in, address_in, supervisor_in, word_in, save_in, const_in, move_in, bin_in, cmp_in, elem_in, field_in, loads_in, stores_to_in, args_in, callee_in, enter_in, leave_in}
use Rattle.machine_thumb_asm.proofs.Items.{total-append}
use Rattle.code_model.proofs.Filling.{args_total}
use Rattle.code_model.proofs.FunctionSizes.{block_total}
use Rattle.code_lower_laws.proofs.Here.{does_at, ends_at}
use Rattle.machine_thumb_asm.proofs.Reaching.{total_even}

-- what a function's code finds outside: addresses are words, entries stand between two addresses, and sites have small numbers
pub record PlacesFit (low high count : ℕ) (q : Places) : Type 0 where
  pub globals : (x : ℕ) → global_address q x < 2 ^ 32
  pub windows : (x : ℕ) → window_address q x < 2 ^ 32
  pub from : (h : ℕ) → h < count → low ≤ entry_address q h
  pub to : (h : ℕ) → h < count → entry_address q h ≤ high
  pub even : (h : ℕ) → h < count → entry_address q h % 2 ≡ 0
  pub sites : (b k s : ℕ) → site_in q.sites b k ≡ Some s → s < 2 ^ 16

-- and what the function has itself: few registers and parameters, a small frame, and loans that fit into instructions
pub record FrameFits (g : NumberedFunc) (q : Places) : Type 0 where
  pub registers : length g.regs ≤ 120
  pub params : row_length g.params ≤ 4
  pub words : (frame_shape g).words ≤ 254
  pub starts : (l : ℕ) → get_or (local_starts g) l 0 / 4 < 256
  pub lends : LendsFit (lends_of g q)

-- arguments stand before the branch
args_before : (r : ℕ) (as_ : List ℕ) (offset : ℤ) → total (plain (args_code r as_)) ≤ total (plain (args_code r as_ ++ BranchLink offset ∷ []))
args_before r [] d = omega arith
args_before r (a ∷ more) d = let h = args_before (suc r) more d in omega (arith, h)

module _ (low high : ℕ) (near : high ≤ low + 2 ^ 21) (top : high < 2 ^ 31) (p : Program) (sizes : PlainType → ℕ) (g : NumberedFunc) (q : Places)
    (fit : PlacesFit low high (length p.funcs) q) (frame : FrameFits g q) where
  -- ---- registers

  register : (r : ℕ) → r < length g.regs → r < 256
  register r l = let m = frame.registers in omega (arith, l, m)

  kept : (to : Option ℕ) (r : PlainResult) → KeepsResult g to r → (k : ℕ) → to ≡ Some k → k < 256
  kept None r h k e = cc
  kept (Some x) r h k e = let same : x ≡ k = cc in subst (λ n. n < 256) same (register x h.2.there)

  saved : (to : Option ℕ) (r : PlainResult) → KeepsResult g to r → Encodable (plain (save_code to))
  saved to r h = plain_encodable (save_code to) (save_in to (kept to r h))

  args_fit : (to : Option ℕ) (as_ : List ℕ) (a : PlainTypes) (r : PlainResult) → CallTyped g to as_ a r → (k : ℕ) → k < length as_ → get_or as_ k 0 < 256
  args_fit to as_ a r c k l = register (get_or as_ k 0) (c.arguments k l).there

  -- ---- calls

  link_in : (from h : ℕ) → h < length p.funcs → low ≤ from → from ≤ high → from % 2 ≡ 0 → IsOffset (2 ^ 24) (distance from (entry_address q h))
  link_in from h l a b e =
      let f = fit.from h l in
      let t = fit.to h l in
      let v = fit.even h l in
      let x : nat_le (from + 4) (entry_address q h + 2 ^ 24) ≡ true = le_yes (omega (arith, b, f, near)) in
      let y : nat_lt (entry_address q h) (from + 4 + 2 ^ 24) ≡ true = lt_yes (omega (arith, a, t, near)) in
      offset_in from (entry_address q h) (omega (arith, b, top)) (omega (arith, t, top)) (and_yes x y) (v ∙ sym e)

  crossing : (code : List Instr) (s : ℕ) (to : Option ℕ) (r : PlainResult) → EachInTable code → s < 2 ^ 16 → KeepsResult g to r → Encodable (plain (code ++ svc 0 ∷ []) ++ Half s ∷ plain (save_code to))
  crossing code s to r h l keeps = encodable-append (plain (code ++ svc 0 ∷ [])) _ (plain_encodable (code ++ svc 0 ∷ []) (in_table-append code _ h (supervisor_in 0 (omega arith), tt))) (l, saved to r keeps)

  call_in : (at h : ℕ) (s to : Option ℕ) (as_ : List ℕ) (a : PlainTypes) (r : PlainResult) → h < length p.funcs → CallTyped g to as_ a r → low ≤ at → at + total (call_items at (entry_address q h) s to as_) ≤ high → at % 2 ≡ 0 →
      ((n : ℕ) → s ≡ Some n → n < 2 ^ 16) → Encodable (call_items at (entry_address q h) s to as_)
  call_in at h None to as_ a r l c from room even small =
      let few = c.few in
      let from_here : ℕ = at + total (plain (args_code 0 as_)) in
      let offset : ℤ = distance from_here (entry_address q h) in
      let t = args_total 0 as_ in
      let before = args_before 0 as_ offset in
      let parts = total-append (plain (call_code as_ offset)) (plain (save_code to)) in
      let link = link_in from_here h l (omega (arith, from)) (omega (arith, before, parts, room)) (omega (arith, t, even)) in
      encodable-append (plain (call_code as_ offset)) (plain (save_code to))
      (plain_encodable (call_code as_ offset) (in_table-append (args_code 0 as_) (BranchLink offset ∷ []) (args_in 0 as_ (omega (arith, few)) (args_fit to as_ a r c)) (link, tt)))
      (saved to r c.outcome)
  call_in at h (Some s) to as_ a r l c from room even small =
      let few = c.few in
      let t = fit.to h l in
      crossing (word_into 12 (entry_address q h + 1) ++ args_code 0 as_) s to r
      (in_table-append (word_into 12 (entry_address q h + 1)) _ (word_in 12 (entry_address q h + 1) (omega arith) (omega (arith, t, top))) (args_in 0 as_ (omega (arith, few)) (args_fit to as_ a r c)))
      (small s refl) c.outcome

  icall_in : (h : ℕ) (s to : Option ℕ) (as_ : List ℕ) (a : PlainTypes) (r : PlainResult) → h < 256 → CallTyped g to as_ a r → ((n : ℕ) → s ≡ Some n → n < 2 ^ 16) → Encodable (icall_items s to h as_)
  icall_in h None to as_ a r l c small =
      encodable-append (plain (icall_code h as_)) _ (plain_encodable (icall_code h as_) (in_table-append (callee_code h as_) _ (callee_in h as_ l c.few (args_fit to as_ a r c)) ((omega arith, omega arith), tt))) (saved to r c.outcome)
  icall_in h (Some s) to as_ a r l c small = crossing (callee_code h as_) s to r (callee_in h as_ l c.few (args_fit to as_ a r c)) (small s refl) c.outcome

  -- ---- instructions

  named_in : (of : ir.Named) → EachInTable (named_into (frame_shape g) q of)
  named_in (TheGlobal x) = word_in 0 (global_address q x) (omega arith) (fit.globals x)
  named_in (ThePeriph x) = word_in 0 (window_address q x) (omega arith) (fit.windows x)
  named_in (TheLocal l) = (address_in 0 _ (omega arith) (frame.starts l), tt)

  addr_in : (to : ℕ) (of : ir.Named) → to < 256 → EachInTable (addr_code (frame_shape g) q to of)
  addr_in to of l = in_table-append (named_into (frame_shape g) q of) _ (named_in of) (store_in 0 to (omega arith) l, tt)

  faddr_in : (to h : ℕ) → to < 256 → h < length p.funcs → EachInTable (faddr_code q to h)
  faddr_in to h l t = let e = fit.to h t in let m = word_in 0 (entry_address q h + 1) (omega arith) (omega (arith, e, top)) in (m.0, (m.1.0, (store_in 0 to (omega arith) l, tt)))

  inst_in : (at : ℕ) (s : Option ℕ) (i : NumberedInst) → InstTyped p sizes g i → low ≤ at → at + total (inst_items g q at s i) ≤ high → at % 2 ≡ 0 → ((n : ℕ) → s ≡ Some n → n < 2 ^ 16) → Encodable (inst_items g q at s i)
  unfolding inst_items
  inst_in at s (ir.Const to v) h from room even small = plain_encodable (const_code to v) (const_in to v (register to h.0.there) h.1)
  inst_in at s (ir.Move to x) h from room even small = plain_encodable (move_code to x) (move_in to x (register to h.1.there) (register x h.2.there))
  inst_in at s (ir.Bin op to a b) h from room even small = plain_encodable (bin_code op to a b) (bin_in op to a b (register to h.0.there) (register a h.1.there) (register b h.2.there))
  inst_in at s (ir.Cmp op to a b) h from room even small = plain_encodable (cmp_code op to a b) (cmp_in op to a b (register to h.0.there) (register a h.1.there) (register b h.2.there))
  inst_in at s (ir.Addr to of) h from room even small = plain_encodable (addr_code (frame_shape g) q to of) (addr_in to of (register to h.held.there))
  inst_in at s (ir.FAddr to f) h from room even small = plain_encodable (faddr_code q to f) (faddr_in to f (register to h.0.there) h.1)
  inst_in at s (ir.Elem to base index size) h from room even small = plain_encodable (elem_code to base index size) (elem_in to base index size (register to h.part.held.there) (register base h.part.from.there) (register index h.by.there))
  inst_in at s (ir.Field to base offset) h from room even small = let m = h.near in plain_encodable (field_code to base offset) (field_in to base offset (register to h.part.held.there) (register base h.part.from.there) (omega (arith, m)))
  inst_in at s (ir.Load to x t) h from room even small = plain_encodable (load_code to x t) (loads_in to x t (register to h.held.there) (register x h.from.there))
  inst_in at s (ir.Store to x t) h from room even small = plain_encodable (store_code to x t) (stores_to_in to x t (register to h.from.there) (register x h.held.there))
  inst_in at s (ir.Call to f as_) h from room even small = call_in at f s to as_ _ _ h.0 h.1 from room even small
  inst_in at s (ir.ICall to r as_) h from room even small = icall_in r s to as_ _ _ (register r h.held.there) h.call small

  term_in : (first : ℕ) (t : NumberedTerm) → EndTyped p sizes g t → Encodable (term_items g q first t)
  unfolding term_items
  term_in first (ir.Jump b) h = (tt, tt)
  term_in first (ir.Branch on a b) h = (load_in 0 on (omega arith) (register on h.0.there), ((omega arith, omega arith, omega arith), ((omega arith, two_offset), (tt, (tt, tt)))))
  term_in first (ir.Ret None) h = plain_encodable (leave_code (frame_shape g).words (lends_of g q) None) (leave_in (frame_shape g).words (lends_of g q) None frame.words (λ k e. cc))
  term_in first (ir.Ret (Some r)) h = plain_encodable (leave_code (frame_shape g).words (lends_of g q) (Some r)) (leave_in (frame_shape g).words (lends_of g q) (Some r) frame.words (λ k e. let same : r ≡ k = cc in subst (λ n. n < 256) same (register r h.2.there)))

  -- ---- blocks

  module _ (hold : SizesHold) (first : ℕ) where
    abbrev joined : List (List Item) → List Item
    joined xs = flat_map (λ (piece : List Item). piece) xs

    block_in : (at b k : ℕ) (is : List NumberedInst) (t : NumberedTerm) → ((j : ℕ) → j < length is → InstTyped p sizes g (get_or is j (ir.Const 0 0))) → EndTyped p sizes g t →
        low ≤ at → at + total (joined (block_pieces g q first at b k is t)) ≤ high → at % 2 ≡ 0 → Encodable (joined (block_pieces g q first at b k is t))
    block_in at b k [] t h e from room even = encodable-append (term_items g q first t) [] (term_in first t e) tt
    block_in at b k (i ∷ is) t h e from room even =
        let piece : List Item = inst_items g q at (site_in q.sites b k) i in
        let next : ℕ = at + inst_size (crosses q.sites b k) i in
        let rest : List Item = joined (block_pieces g q first next b (suc k) is t) in
        let z = hold.insts g q at (site_in q.sites b k) i in
        let a = total-append piece rest in
        let v = total_even piece in
        encodable-append piece rest (inst_in at (site_in q.sites b k) i (h 0 (omega arith)) from (omega (arith, room, a)) even (fit.sites b k))
        (block_in next b (suc k) is t (λ j l. h (suc j) (omega (arith, l))) e (omega (arith, from)) (omega (arith, room, a, z)) (omega (arith, even, z, v)))

    -- each instruction and the end of a block are typed
    record BlockTyped (x : NumberedBlock) : Type 0 where
      insts : (j : ℕ) → j < length x.insts → InstTyped p sizes g (get_or x.insts j (ir.Const 0 0))
      term : EndTyped p sizes g x.term

    blocks_in : (at b : ℕ) (xs : List NumberedBlock) → ((i : ℕ) → i < length xs → BlockTyped (get_or xs i no_block)) → low ≤ at → at + total (joined (blocks_pieces g q first at b xs)) ≤ high → at % 2 ≡ 0 →
        Encodable (joined (blocks_pieces g q first at b xs))
    blocks_in at b [] h from room even = tt
    blocks_in at b (x ∷ xs) h from room even =
        let next : ℕ = at + block_size g q.sites (lent g q) b x in
        let here : List (List Item) = block_pieces g q first at b 0 x.insts x.term in
        let rest : List (List Item) = blocks_pieces g q first next (suc b) xs in
        let parts = flat_map-append (λ (piece : List Item). piece) here rest in
        let s = ap total parts in
        let a = total-append (joined here) (joined rest) in
        let e = block_total g q first at b 0 x.insts x.term in
        let v = total_even (joined here) in
        let m = block_in at b 0 x.insts x.term (h 0 (omega arith)).insts (h 0 (omega arith)).term from (omega (arith, room, s, a)) even in
        let n = blocks_in next (suc b) xs (λ i l. h (suc i) (omega (arith, l))) (omega (arith, from)) (omega (arith, room, s, a, e)) (omega (arith, even, v, e)) in
        rw parts (encodable-append (joined here) (joined rest) m n)

    -- ---- the whole function

    typed_block : FuncTyped p sizes g → (b : ℕ) → BlockTyped (get_or g.blocks b no_block)
    typed_block typed b = record {
      insts = λ j l. subst (HereTyped p sizes g) (does_at (get_or g.blocks b no_block).insts (get_or g.blocks b no_block).term j (ir.Const 0 0) l) (typed.code b j);
      term = subst (HereTyped p sizes g) (ends_at (get_or g.blocks b no_block).insts (get_or g.blocks b no_block).term) (typed.code b (length (get_or g.blocks b no_block).insts));
    }

    pub function_encodable : FuncTyped p sizes g → (at : ℕ) → low ≤ at → at + total (function_items g q first at) ≤ high → at % 2 ≡ 0 → Encodable (function_items g q first at)
    function_encodable typed at from room even =
        let next : ℕ = at + entry_size g (lent g q) in
        let rest : List Item = joined (blocks_pieces g q first next 0 g.blocks) in
        let e = hold.entries g q in
        let a = total-append (entry_items g q) rest in
        let v = total_even (entry_items g q) in
        encodable-append (entry_items g q) rest (plain_encodable (enter_code (row_length g.params) (frame_shape g).words (lends_of g q)) (enter_in (row_length g.params) (frame_shape g).words (lends_of g q) frame.params frame.words frame.lends))
        (blocks_in next 0 g.blocks (λ b l. typed_block typed b) (omega (arith, from)) (omega (arith, room, a, e)) (omega (arith, even, v, e)))
