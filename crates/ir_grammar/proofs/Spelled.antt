-- The spelling of a firmware is its lines, put token by token.
use Rattle.std.proofs.Common.{◌≡◌, ℕ, ◌+◌, [], ◌∷◌, ◌++◌, List, Bool, true, false, refl, sym, ap, ◌∙◌, append_assoc, append-nil, Option, Some, None, flat_map, length}
use Rattle.std.proofs.lemmas.Grind.{flat_map-append}
use Rattle.ir_model.specs.declared.firmware.Block.{Block}
use Rattle.ir_model.specs.declared.firmware.Cell.{Cell}
use Rattle.ir_model.specs.declared.firmware.Cell.TheVariants as cell
use Rattle.ir_model.specs.declared.firmware.Inst.{Inst}
use Rattle.ir_model.specs.declared.firmware.Inst.TheVariants as inst
use Rattle.ir_model.specs.declared.firmware.Term.{Term}
use Rattle.ir_model.specs.declared.firmware.Term.TheVariants as term
use Rattle.ir_model.specs.declared.firmware.Peripheral.{Peripheral}
use Rattle.ir_model.specs.declared.token.Excess.{Excess}
use Rattle.ir_model.specs.declared.token.Keyword.TheVariants as key
use Rattle.ir_model.specs.declared.token.Mark.TheVariants as mark
use Rattle.ir_model.specs.declared.token.TextLimit.{TextLimit}
use Rattle.ir_model.specs.declared.token.TextLimit.TheVariants as limit
use Rattle.ir_model.specs.Types.{PlainType, U8, U16, U32, Pointer, Array, Named, Callee, PlainTypes, none, more, PlainResult, nothing, gives}
use Rattle.ir_model.specs.Plain.{PlainBinding, PlainStruct, PlainGlobal, PlainFunc, PlainFile, PlainFirmware}
use Rattle.ir_model.specs.Tokens.{Marked, Token, Name, Number, Key, Sign}
use Rattle.ir_model.specs.TextLimits.{field_limit, parameter_limit}
use Rattle.ir_model.specs.Lines.{Line, plain, name, type_tokens, row_tokens, more_tokens, result_tokens, binding_tokens, counted, more_bindings, bindings_tokens, cell_tokens, more_cells, init_tokens, arguments, more_arguments, inst_line, inst_lines, term_line, block_lines, local_lines, reg_lines, close_line, func_line, func_lines, funcs_lines, file_lines, struct_line, struct_lines, periph_lines, global_line, global_lines, global_start, lines_of}
use Rattle.ir_grammar.specs.Spelling.{Glyphs, separated, spell_type, spell_row, spell_more_row, spell_gives, spell_binding, spell_struct, spell_structs, spell_periphs, spell_cell, spell_cells, spell_init, spell_constant, spell_global, spell_globals, spell_args, spell_assigned, spell_inst, spell_term, spell_block, spell_head, spell_locals, spell_regs, spell_func, spell_file, spell_firmware}

module _ {X : Type 0} (g : Glyphs X) where
  -- tokens behind another, and then the rest
  abbrev pub behind : Line → List X → List X
  behind [] z = z
  behind (m ∷ ms) z = g.next m.token ++ behind ms z

  abbrev pub whole : Line → List X
  whole [] = []
  whole (m ∷ ms) = g.first m.token ++ behind ms g.line_end

  abbrev pub wholes : List Line → List X
  wholes ls = flat_map whole ls

  behind_append : (a b : Line) (z : List X) → behind (a ++ b) z ≡ behind a (behind b z)
  behind_append [] b z = refl
  behind_append (m ∷ ms) b z = ap (λ y. g.next m.token ++ y) (behind_append ms b z)

  -- a token in front of something that is put
  put : (t : Token) (a b z : List X) → a ≡ b ++ z → g.next t ++ a ≡ (g.next t ++ b) ++ z
  put t a b z e = ap (λ y. g.next t ++ y) e ∙ sym (append_assoc (g.next t) b z)

  mutual
    type_put : (x : Option Excess) (d : ℕ) (t : PlainType) (z : List X) → behind (type_tokens x d t) z ≡ spell_type g t ++ z
    type_put x d U8 z = refl
    type_put x d U16 z = refl
    type_put x d U32 z = refl
    type_put x d (Pointer t) z = put (Sign mark.Star) _ _ z (type_put None (d + 1) t z)
    type_put x d (Array n t) z = put (Sign mark.OpenSquare) _ _ z (put (Number n) _ _ z (put (Sign mark.CloseSquare) _ _ z (type_put None (d + 1) t z)))
    type_put x d (Named w) z = refl
    type_put x d (Callee a r) z =
        put (Key key.Fn) _ _ z (put (Sign mark.Open) _ _ z (behind_append (row_tokens (d + 1) a) (result_tokens (d + 1) r) z
        ∙ (row_put (d + 1) a _ ∙ (ap (λ y. spell_row g a ++ y) (result_put (d + 1) r z) ∙ sym (append_assoc (spell_row g a) (spell_gives g r) z)))))

    row_put : (d : ℕ) (ts : PlainTypes) (z : List X) → behind (row_tokens d ts) z ≡ spell_row g ts ++ z
    row_put d none z = refl
    row_put d (more t ts) z =
        behind_append (type_tokens None d t) (more_tokens d 1 ts) z
        ∙ (type_put None d t _ ∙ (ap (λ y. spell_type g t ++ y) (more_put d 1 ts z) ∙ sym (append_assoc (spell_type g t) (spell_more_row g ts) z)))

    more_put : (d k : ℕ) (ts : PlainTypes) (z : List X) → behind (more_tokens d k ts) z ≡ spell_more_row g ts ++ z
    more_put d k none z = refl
    more_put d k (more t ts) z =
        put (Sign mark.Comma) _ _ z (behind_append (type_tokens _ d t) (more_tokens d (k + 1) ts) z
        ∙ (type_put _ d t _ ∙ (ap (λ y. spell_type g t ++ y) (more_put d (k + 1) ts z) ∙ sym (append_assoc (spell_type g t) (spell_more_row g ts) z))))

    result_put : (d : ℕ) (r : PlainResult) (z : List X) → behind (result_tokens d r) z ≡ spell_gives g r ++ z
    result_put d nothing z = refl
    result_put d (gives t) z = put (Sign mark.Arrow) _ _ z (type_put None d t z)

  binding_put : (x : Option Excess) (s : PlainBinding) (z : List X) → behind (binding_tokens x s) z ≡ spell_binding g s ++ z
  binding_put x s z = put (Name s.name) _ _ z (put (Sign mark.Colon) _ _ z (type_put None 0 s.ty z))

  bindings_from : (l : TextLimit) (x : Option Excess) (k most : ℕ) (s : PlainBinding) (ss : List PlainBinding) (z : List X) → behind (binding_tokens x s ++ more_bindings l k most ss) z ≡ separated g (spell_binding g) (s ∷ ss) ++ z
  bindings_from l x k most s [] z = ap (λ y. behind y z) (append-nil (binding_tokens x s)) ∙ binding_put x s z
  bindings_from l x k most s (t ∷ ts) z =
      behind_append (binding_tokens x s) (more_bindings l k most (t ∷ ts)) z
      ∙ (binding_put x s _
      ∙ (ap (λ y. spell_binding g s ++ y) (put (Sign mark.Comma) _ _ z (bindings_from l (counted k most l None) (k + 1) most t ts z)) ∙ sym (append_assoc (spell_binding g s) _ z)))

  bindings_put : (l : TextLimit) (most : ℕ) (ss : List PlainBinding) (z : List X) → behind (bindings_tokens l most ss) z ≡ separated g (spell_binding g) ss ++ z
  bindings_put l most [] z = refl
  bindings_put l most (s ∷ ss) z = bindings_from l None 1 most s ss z

  struct_put : (k : ℕ) (s : PlainStruct) → whole (struct_line k s) ≡ spell_struct g s
  struct_put k s =
      ap (λ y. g.first (Key key.Struct) ++ (g.next (Name s.name) ++ (g.next (Sign mark.OpenBrace) ++ y)))
      (behind_append (bindings_tokens limit.Field field_limit s.fields) (plain (Sign mark.CloseBrace) ∷ []) g.line_end ∙ bindings_put limit.Field field_limit s.fields _)

  cell_put : (k : ℕ) (c : Cell) (z : List X) → behind (cell_tokens k c) z ≡ spell_cell g c ++ z
  cell_put k (cell.Word n) z = refl
  cell_put k (cell.Function f) z = put (Key key.Fn) _ _ z refl
  cell_put k (cell.Address x) z = put (Key key.Addr) _ _ z refl

  cells_put : (k j : ℕ) (c : Cell) (cs : List Cell) → behind (cell_tokens k c ++ more_cells j cs) g.line_end ≡ spell_cells g (c ∷ cs)
  cells_put k j c [] = behind_append (cell_tokens k c) (more_cells j []) g.line_end ∙ cell_put k c _
  cells_put k j c (e ∷ cs) =
      behind_append (cell_tokens k c) (more_cells j (e ∷ cs)) g.line_end
      ∙ (cell_put k c _ ∙ (ap (λ y. spell_cell g c ++ y) (put (Sign mark.Comma) _ _ _ (cells_put j (j + 1) e cs)) ∙ sym (append_assoc (spell_cell g c) _ _)))

  init_put : (cs : List Cell) → behind (init_tokens cs) g.line_end ≡ spell_init g cs
  init_put [] = refl
  init_put (c ∷ cs) = ap (λ y. g.next (Sign mark.Equal) ++ (g.next (Sign mark.OpenBrace) ++ y)) (cells_put 0 1 c cs)

  start_put : (c : Bool) (x : Option Excess) (m : Marked) (ms : Line) → whole (global_start c x ++ m ∷ ms) ≡ spell_constant g c ++ behind (m ∷ ms) g.line_end
  start_put true x m ms = sym (append_assoc (g.first (Key key.Const)) (g.next (Key key.Global)) _)
  start_put false x m ms = refl

  global_put : (k : ℕ) (d : PlainGlobal) → whole (global_line k d) ≡ spell_global g d
  global_put k d =
      let s : PlainBinding = record { name = d.name; ty = d.ty } in
      ap whole (append_assoc (global_start d.constant _) (binding_tokens None s) (init_tokens d.init))
      ∙ (start_put d.constant _ (name d.name) _
      ∙ (ap (λ y. spell_constant g d.constant ++ y) (behind_append (binding_tokens None s) (init_tokens d.init) g.line_end ∙ (binding_put None s _ ∙ ap (λ y. spell_binding g s ++ y) (init_put d.init)))
      ∙ sym (append_assoc (spell_constant g d.constant) (spell_binding g s) (spell_init g d.init))))

  args_from : (k : ℕ) (a : List ℕ) (as_ : List (List ℕ)) → g.next (Name a) ++ behind (more_arguments k as_) g.line_end ≡ spell_args g (a ∷ as_)
  args_from k a [] = refl
  args_from k a (b ∷ as_) = put (Name a) _ _ _ (put (Sign mark.Comma) _ _ _ (args_from (k + 1) b as_))

  arguments_put : (as_ : List (List ℕ)) → behind (arguments as_) g.line_end ≡ g.next (Sign mark.Open) ++ spell_args g as_
  arguments_put [] = refl
  arguments_put (a ∷ as_) = ap (λ y. g.next (Sign mark.Open) ++ y) (args_from 1 a as_)

  inst_put : (x : Option Excess) (i : Inst) → whole (inst_line x i) ≡ spell_inst g i
  inst_put x (inst.Call None f as_) = ap (λ y. g.first (Key key.Call) ++ (g.next (Name f) ++ y)) (arguments_put as_)
  inst_put x (inst.Call (Some to) f as_) = ap (λ y. spell_assigned g to (g.next (Key key.Call) ++ (g.next (Name f) ++ y))) (arguments_put as_)
  inst_put x (inst.ICall None f as_) = ap (λ y. g.first (Key key.Icall) ++ (g.next (Name f) ++ y)) (arguments_put as_)
  inst_put x (inst.ICall (Some to) f as_) = ap (λ y. spell_assigned g to (g.next (Key key.Icall) ++ (g.next (Name f) ++ y))) (arguments_put as_)
  inst_put x _ = refl

  term_put : (t : Term) → whole (term_line t) ≡ spell_term g t
  term_put (term.Ret None) = refl
  term_put (term.Ret (Some r)) = refl
  term_put _ = refl

  binding_line_put : (t : Token) (s : PlainBinding) → g.first t ++ behind (binding_tokens None s) g.line_end ≡ g.first t ++ (spell_binding g s ++ g.line_end)
  binding_line_put t s = ap (λ y. g.first t ++ y) (binding_put None s g.line_end)

  -- Lists of lines.
  join : (a b c d : List X) → a ≡ b → c ≡ d → a ++ c ≡ b ++ d
  join a b c d e f = cc

  wholes_append : (a b : List Line) (x y : List X) → wholes a ≡ x → wholes b ≡ y → wholes (a ++ b) ≡ x ++ y
  wholes_append a b x y e f = flat_map-append whole a b ∙ join _ _ _ _ e f

  wholes_close : (a : List Line) (x : List X) → wholes a ≡ x → wholes (a ++ close_line ∷ []) ≡ x ++ (g.first (Sign mark.CloseBrace) ++ g.line_end)
  wholes_close a x e = wholes_append a (close_line ∷ []) x _ e (append-nil (whole close_line))

  structs_put : (k : ℕ) (ss : List PlainStruct) → wholes (struct_lines k ss) ≡ spell_structs g ss
  structs_put k [] = refl
  structs_put k (s ∷ ss) = join _ _ _ _ (struct_put k s) (structs_put (k + 1) ss)

  periphs_put : (k : ℕ) (ps : List Peripheral) → wholes (periph_lines k ps) ≡ spell_periphs g ps
  periphs_put k [] = refl
  periphs_put k (p ∷ ps) = join _ _ _ _ refl (periphs_put (k + 1) ps)

  globals_put : (k : ℕ) (ds : List PlainGlobal) → wholes (global_lines k ds) ≡ spell_globals g ds
  globals_put k [] = refl
  globals_put k (d ∷ ds) = join _ _ _ _ (global_put k d) (globals_put (k + 1) ds)

  insts_put : (n : ℕ) (is : List Inst) → wholes (inst_lines n is) ≡ flat_map (spell_inst g) is
  insts_put n [] = refl
  insts_put n (i ∷ is) = join _ _ _ _ (inst_put _ i) (insts_put (n + 1) is)

  locals_put : (k : ℕ) (ss : List PlainBinding) → wholes (local_lines k ss) ≡ spell_locals g ss
  locals_put k [] = refl
  locals_put k (s ∷ ss) = join _ _ _ _ (binding_line_put (Key key.Local) s) (locals_put (k + 1) ss)

  regs_put : (k : ℕ) (ss : List PlainBinding) → wholes (reg_lines k ss) ≡ spell_regs g ss
  regs_put k [] = refl
  regs_put k (s ∷ ss) = join _ _ _ _ (binding_line_put (Key key.Reg) s) (regs_put (k + 1) ss)

  blocks_put : (k n : ℕ) (bs : List Block) → wholes (block_lines k n bs) ≡ flat_map (spell_block g) bs
  blocks_put k n [] = refl
  blocks_put k n (b ∷ bs) =
      ap (λ y. (g.first (Name b.label) ++ (g.next (Sign mark.Colon) ++ g.line_end)) ++ y)
      (wholes_append (inst_lines n b.insts ++ term_line b.term ∷ []) (block_lines (k + 1) (n + length b.insts) bs) _ _
      (wholes_append (inst_lines n b.insts) (term_line b.term ∷ []) _ _ (insts_put n b.insts) (append-nil (whole (term_line b.term)) ∙ term_put b.term))
      (blocks_put (k + 1) (n + length b.insts) bs))
      ∙ simp append_assoc

  head_put : (k : ℕ) (f : PlainFunc) → whole (func_line k f) ≡ g.first (Key key.Func) ++ spell_head g f.name f.params f.outcome
  head_put k f =
      ap (λ y. g.first (Key key.Func) ++ (g.next (Name f.name) ++ (g.next (Sign mark.Open) ++ y)))
      (behind_append (bindings_tokens limit.Param parameter_limit f.params ++ (plain (Sign mark.Close) ∷ result_tokens 0 f.outcome)) (plain (Sign mark.OpenBrace) ∷ []) g.line_end
      ∙ (behind_append (bindings_tokens limit.Param parameter_limit f.params) (plain (Sign mark.Close) ∷ result_tokens 0 f.outcome) _
      ∙ (bindings_put limit.Param parameter_limit f.params _
      ∙ (ap (λ y. separated g (spell_binding g) f.params ++ (g.next (Sign mark.Close) ++ y)) (result_put 0 f.outcome _) ∙ sym (append_assoc (separated g (spell_binding g) f.params) (g.next (Sign mark.Close)) _)))))

  func_put : (n : ℕ) (f : PlainFunc) → wholes (func_lines n f) ≡ spell_func g f
  func_put n f =
      join _ _ _ _ (head_put n f)
      (wholes_close (local_lines 0 f.locals ++ reg_lines (length f.params) f.regs ++ block_lines 0 0 f.blocks) _
      (wholes_append (local_lines 0 f.locals ++ reg_lines (length f.params) f.regs) (block_lines 0 0 f.blocks) _ _
      (wholes_append (local_lines 0 f.locals) (reg_lines (length f.params) f.regs) _ _ (locals_put 0 f.locals) (regs_put (length f.params) f.regs)) (blocks_put 0 0 f.blocks)))
      ∙ simp append_assoc

  funcs_put : (n : ℕ) (fs : List PlainFunc) → wholes (funcs_lines n fs) ≡ flat_map (spell_func g) fs
  funcs_put n [] = refl
  funcs_put n (f ∷ fs) = wholes_append (func_lines n f) (funcs_lines (n + 1) fs) _ _ (func_put n f) (funcs_put (n + 1) fs)

  files_put : (k n : ℕ) (fs : List PlainFile) → wholes (file_lines k n fs) ≡ flat_map (spell_file g) fs
  files_put k n [] = refl
  files_put k n (f ∷ fs) =
      ap (λ y. (g.first (Key key.File) ++ (g.next (Name f.name) ++ (g.next (Sign mark.OpenBrace) ++ g.line_end))) ++ y)
      (wholes_append (funcs_lines n f.funcs ++ close_line ∷ []) (file_lines (k + 1) (n + length f.funcs) fs) _ _
      (wholes_close (funcs_lines n f.funcs) _ (funcs_put n f.funcs)) (files_put (k + 1) (n + length f.funcs) fs))
      ∙ simp append_assoc

  pub firmware_put : (w : PlainFirmware) → wholes (lines_of w) ++ g.text_end ≡ spell_firmware g w
  unfolding lines_of
  firmware_put w =
      ap (λ y. y ++ g.text_end)
      (wholes_append (struct_lines 0 w.structs ++ periph_lines 0 w.periphs ++ global_lines 0 w.globals) (file_lines 0 0 w.files) _ _
      (wholes_append (struct_lines 0 w.structs ++ periph_lines 0 w.periphs) (global_lines 0 w.globals) _ _
      (wholes_append (struct_lines 0 w.structs) (periph_lines 0 w.periphs) _ _ (structs_put 0 w.structs) (periphs_put 0 w.periphs)) (globals_put 0 w.globals)) (files_put 0 0 w.files))
      ∙ simp append_assoc
