-- Sizes and offsets of a function do not depend on the cells of structs.
use Rattle.std.proofs.Common.{◌≡◌, ℕ, zero, suc, ◌+◌, ◌-◌, ◌*◌, ◌/◌, List, [], ◌∷◌, length, map, take, get_or, Bool, refl, ap, arith}
use Rattle.std.proofs.lemmas.List.{take-map}
use Rattle.ir_model.specs.Layout.{Known, rounded_up}
use Rattle.ir_model.specs.Resolved as ir
use Rattle.ir_model.specs.Resolved.{NumberedTerm, NumberedBlock, NumberedFunc, no_block, here_in}
use Rattle.ir_model.specs.Signatures.{row_length}
use Rattle.ir_program.specs.declared.program.Operation.{Operation}
use Rattle.ir_program.specs.declared.program.Operation.TheVariants as operation
use Rattle.ir_program.specs.declared.program.Sequence.{Sequence}
use Rattle.ir_program.specs.declared.program.Storage.{Storage}
use Rattle.ir_program.specs.declared.program.Routine.{Routine}
use Rattle.ir_program.specs.Storages.{shape_of}
use Rattle.ir_program.specs.Parts.{operation_of, exit_of, sequence_of, routine_of}
use Rattle.code_model.specs.declared.places.CallSite.{CallSite}
use Rattle.code_model.specs.FrameShape.{local_size, locals_size, frame_size, frame_shape}
use Rattle.code_model.specs.Places.{crosses}
use Rattle.code_model.specs.Sizes.{inst_size, term_size, entry_size, adjust_size, save_size, resume_size, insts_size, blocks_size, function_size, place_offset, site_offset}

pub same_locals : (ks : List Known) (ss : List Storage) → locals_size (map (shape_of ks) ss) ≡ locals_size (map (shape_of []) ss)
same_locals ks [] = refl
same_locals ks (s ∷ ss) = ap (λ n. local_size (shape_of [] s) + n) (same_locals ks ss)

pub same_frame_size : (ks : List Known) (r : Routine) → frame_size (routine_of ks r) ≡ frame_size (routine_of [] r)
same_frame_size ks r = ap (λ n. rounded_up (4 * length (routine_of [] r).regs + n + 4) 8) (same_locals ks r.locals)

pub same_words : (ks : List Known) (r : Routine) → (frame_shape (routine_of ks r)).words ≡ (frame_shape (routine_of [] r)).words
same_words ks r = ap (λ n. (n - 4) / 4) (same_frame_size ks r)

same_inst : (ks : List Known) (x : Bool) (o : Operation) → inst_size x (operation_of ks o) ≡ inst_size x (operation_of [] o)
unfolding inst_size
same_inst ks x (operation.Const to v) = refl
same_inst ks x (operation.Move to from) = refl
same_inst ks x (operation.Bin op to a b) = refl
same_inst ks x (operation.Cmp op to a b) = refl
same_inst ks x (operation.Addr to of) = refl
same_inst ks x (operation.FAddr to f) = refl
same_inst ks x (operation.Elem to base index t) = refl
same_inst ks x (operation.Field to base offset) = refl
same_inst ks x (operation.Load to from t) = refl
same_inst ks x (operation.Store to from t) = refl
same_inst ks x (operation.Call to f as_) = refl
same_inst ks x (operation.ICall to f as_) = refl

same_resume : (ks : List Known) (x : Bool) (t : NumberedTerm) (k : ℕ) (os : List Operation) →
    resume_size x (here_in (map (operation_of ks) os) t k) ≡ resume_size x (here_in (map (operation_of []) os) t k)
same_resume ks x t k [] = refl
same_resume ks x t zero (operation.Const to v ∷ os) = refl
same_resume ks x t zero (operation.Move to from ∷ os) = refl
same_resume ks x t zero (operation.Bin op to a b ∷ os) = refl
same_resume ks x t zero (operation.Cmp op to a b ∷ os) = refl
same_resume ks x t zero (operation.Addr to of ∷ os) = refl
same_resume ks x t zero (operation.FAddr to f ∷ os) = refl
same_resume ks x t zero (operation.Elem to base index u ∷ os) = refl
same_resume ks x t zero (operation.Field to base offset ∷ os) = refl
same_resume ks x t zero (operation.Load to from u ∷ os) = refl
same_resume ks x t zero (operation.Store to from u ∷ os) = refl
same_resume ks x t zero (operation.Call to f as_ ∷ os) = refl
same_resume ks x t zero (operation.ICall to f as_ ∷ os) = refl
same_resume ks x t (suc k) (o ∷ os) = same_resume ks x t k os

module _ (ks : List Known) (r : Routine) (sites : List CallSite) (lent : ℕ) where
  abbrev g : NumberedFunc
  g = routine_of ks r

  abbrev bare : NumberedFunc
  bare = routine_of [] r

  same_term : (t : NumberedTerm) → term_size g lent t ≡ term_size bare lent t
  unfolding term_size
  same_term (ir.Jump b) = refl
  same_term (ir.Branch on a b) = refl
  same_term (ir.Ret v) = ap (λ w. 2 * lent + (save_size v + (adjust_size w + 2))) (same_words ks r)

  same_entry : entry_size g lent ≡ entry_size bare lent
  unfolding entry_size
  same_entry = ap (λ w. 2 + adjust_size w + (2 * row_length bare.params + (2 + 2 * (w - row_length bare.params))) + 6 * lent) (same_words ks r)

  same_insts : (b k : ℕ) (os : List Operation) → insts_size g sites lent b k (map (operation_of ks) os) ≡ insts_size bare sites lent b k (map (operation_of []) os)
  same_insts b k [] = refl
  same_insts b k (o ∷ os) =
      let e = same_inst ks (crosses sites b k) o in
      let h = same_insts b (suc k) os in
      omega arith

  same_blocks : (b : ℕ) (xs : List Sequence) → blocks_size g sites lent b (map (sequence_of ks) xs) ≡ blocks_size bare sites lent b (map (sequence_of []) xs)
  same_blocks b [] = refl
  same_blocks b (x ∷ xs) =
      let e = same_insts b 0 x.operations in
      let t = same_term (exit_of x.exit) in
      let h = same_blocks (suc b) xs in
      omega arith

  pub same_function_size : function_size g sites lent ≡ function_size bare sites lent
  same_function_size = let e = same_entry in let h = same_blocks 0 r.blocks in omega arith

  -- up to a place in a block
  abbrev up_to : NumberedFunc → (b k : ℕ) → NumberedBlock → ℕ
  up_to f b k x = insts_size f sites lent b 0 (take k x.insts)

  same_in : (b k : ℕ) (x : Sequence) → up_to g b k (sequence_of ks x) ≡ up_to bare b k (sequence_of [] x)
  same_in b k x =
      let one = ap (λ is. insts_size g sites lent b 0 is) (take-map (operation_of ks) k x.operations) in
      let two = same_insts b 0 (take k x.operations) in
      let three = ap (λ is. insts_size bare sites lent b 0 is) (take-map (operation_of []) k x.operations) in
      omega (arith, one, two, three)

  same_at : (b k i : ℕ) (xs : List Sequence) → up_to g b k (get_or (map (sequence_of ks) xs) i no_block) ≡ up_to bare b k (get_or (map (sequence_of []) xs) i no_block)
  same_at b zero i [] = refl
  same_at b (suc k) i [] = refl
  same_at b k zero (x ∷ xs) = same_in b k x
  same_at b k (suc i) (x ∷ xs) = same_at b k i xs

  pub same_place_offset : (b k : ℕ) → place_offset g sites lent b k ≡ place_offset bare sites lent b k
  same_place_offset b k =
      let e = same_entry in
      let one = ap (λ ys. blocks_size g sites lent 0 ys) (take-map (sequence_of ks) b r.blocks) in
      let two = same_blocks 0 (take b r.blocks) in
      let three = ap (λ ys. blocks_size bare sites lent 0 ys) (take-map (sequence_of []) b r.blocks) in
      let four = same_at b k b r.blocks in
      omega (arith, e, one, two, three, four)

  -- from there to where a call returns
  abbrev resume_at : (b k : ℕ) → NumberedBlock → ℕ
  resume_at b k x = resume_size (crosses sites b k) (here_in x.insts x.term k)

  same_resume_at : (b k i : ℕ) (xs : List Sequence) → resume_at b k (get_or (map (sequence_of ks) xs) i no_block) ≡ resume_at b k (get_or (map (sequence_of []) xs) i no_block)
  same_resume_at b k i [] = refl
  same_resume_at b k zero (x ∷ xs) = same_resume ks (crosses sites b k) (exit_of x.exit) k x.operations
  same_resume_at b k (suc i) (x ∷ xs) = same_resume_at b k i xs

  pub same_site_offset : (b k : ℕ) → site_offset g sites lent b k ≡ site_offset bare sites lent b k
  same_site_offset b k =
      let one = same_place_offset b k in
      let two = same_resume_at b k b r.blocks in
      omega (arith, one, two)
