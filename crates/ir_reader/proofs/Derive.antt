-- What stands where something is expected agrees with the moves, one token at a time.
use Rattle.std.proofs.Common.{◌≡◌, ◌<◌, ℕ, ◌+◌, [], ◌∷◌, ◌++◌, List, Bool, true, false, refl, ap, sym, ◌∙◌, append_assoc, Option, Some, None, length, arith, nat_eq, rules, tests}
use Rattle.ir_model.specs.declared.firmware.Block.{Block}
use Rattle.ir_model.specs.declared.firmware.Cell.{Cell}
use Rattle.ir_model.specs.declared.firmware.Cell.TheVariants as cell
use Rattle.ir_model.specs.declared.firmware.Inst.{Inst}
use Rattle.ir_model.specs.declared.firmware.Inst.TheVariants as inst
use Rattle.ir_model.specs.declared.firmware.Term.{Term}
use Rattle.ir_model.specs.declared.firmware.Term.TheVariants as term
use Rattle.ir_model.specs.declared.firmware.Peripheral.{Peripheral}
use Rattle.ir_model.specs.declared.token.Excess.{Excess}
use Rattle.ir_model.specs.declared.token.Keyword.TheVariants as key
use Rattle.ir_model.specs.declared.token.Mark.{Mark}
use Rattle.ir_model.specs.declared.token.Mark.TheVariants as mark
use Rattle.ir_model.specs.declared.token.TextLimit.TheVariants as limit
use Rattle.ir_model.specs.Types.{PlainType, U8, U16, U32, Pointer, Array, Named, Callee, PlainTypes, PlainResult, nothing, gives}
use Rattle.ir_model.specs.Types as types
use Rattle.ir_model.specs.Plain.{PlainBinding, PlainStruct, PlainGlobal, PlainFunc, PlainFile}
use Rattle.ir_model.specs.Tokens.{Number, Key, Sign, Marked}
use Rattle.ir_model.specs.Lines.{Line, marked, plain, name, number, counted, length_excess, type_tokens, row_tokens, more_tokens, result_tokens, binding_tokens, more_bindings, bindings_tokens, cell_tokens, more_cells, init_tokens, arguments, more_arguments, inst_line, inst_lines, term_line, block_lines, local_lines, reg_lines, close_line, funcs_lines, file_lines, struct_line, struct_lines, periph_lines, global_lines, global_start}
use Rattle.ir_model.specs.Texts.{joined}
use Rattle.ir_reader.specs.Machine
use Rattle.ir_reader.specs.Machine.{Symbol, mark_number}
use Rattle.ir_reader.specs.Reading.{HasFields}
use Rattle.ir_reader.specs.Parts.{HasBlocks, AllHaveBlocks}
use Rattle.ir_reader.proofs.Lang
use Rattle.ir_reader.proofs.Lang.{behind_params, ret_tail, args_tokens, two, Langs, none, some, last, same, Follows, next, ends, skips}

pub joined-append : (a b : List Line) → joined (a ++ b) ≡ joined a ++ joined b
joined-append [] b = refl
joined-append (l ∷ ls) b = ap (λ z. l ++ z) (joined-append ls b) ∙ sym (append_assoc l (joined ls) (joined b))

-- the same with other brackets
nest : (st : List Symbol) (a b c : Line) → Langs st (a ++ (b ++ c)) → Langs st ((a ++ b) ++ c)
nest st a b c l = rw (append_assoc a b c) l

three : (a b c d : Line) → a ++ ((b ++ c) ++ d) ≡ ((a ++ b) ++ c) ++ d
three a b c d = simp append_assoc

pub func_flat : (s r : Line) (c o : Marked) (ls rs bs cs fs xs : List Line)
    → (s ++ c ∷ (r ++ o ∷ joined (ls ++ (rs ++ (bs ++ cs))))) ++ joined (fs ++ xs) ≡ ((s ++ (c ∷ r)) ++ o ∷ []) ++ joined (((((ls ++ rs) ++ bs) ++ cs) ++ fs) ++ xs)
func_flat s r c o ls rs bs cs fs xs = simp (append_assoc, joined-append)

-- types

follows_type : (x : Option Excess) (d : ℕ) (t : PlainType) → Follows (Machine.Ty x d) (type_tokens x d t)
follows_type x d U8 = next _ _ [] (λ b. refl) refl none
follows_type x d U16 = next _ _ [] (λ b. refl) refl none
follows_type x d U32 = next _ _ [] (λ b. refl) refl none
follows_type x d (Pointer t) = next _ _ (Machine.Ty None (d + 1) ∷ []) (λ b. refl) refl (last (Lang.type_is None (d + 1) t))
follows_type x d (Array n t) =
    next _ _ (Machine.Len ∷ Machine.Mk mark.CloseSquare ∷ Machine.Ty None (d + 1) ∷ []) (λ b. refl) refl (some (Lang.len_is n) (some (Lang.mark_is mark.CloseSquare) (last (Lang.type_is None (d + 1) t))))
follows_type x d (Named w) = next _ _ [] (λ b. refl) refl none
follows_type x d (Callee a r) = next _ _ (Machine.Mk mark.Open ∷ Machine.Row (d + 1) ∷ []) (λ b. refl) refl (some (Lang.mark_is mark.Open) (last (Lang.row_is (d + 1) a r)))

follows_row : (d : ℕ) (ts : PlainTypes) (r : PlainResult) → Follows (Machine.Row d) (row_tokens d ts ++ result_tokens d r)
follows_row d types.none r = next _ _ (Machine.Gives d ∷ []) (λ b. refl) refl (last (Lang.gives_is d r))
follows_row d (types.more U8 ts) r = next _ _ (Machine.MoreRow d 1 ∷ []) (λ b. refl) refl (last (Lang.more_row_is d 1 ts r))
follows_row d (types.more U16 ts) r = next _ _ (Machine.MoreRow d 1 ∷ []) (λ b. refl) refl (last (Lang.more_row_is d 1 ts r))
follows_row d (types.more U32 ts) r = next _ _ (Machine.MoreRow d 1 ∷ []) (λ b. refl) refl (last (Lang.more_row_is d 1 ts r))
follows_row d (types.more (Pointer t) ts) r =
    next _ _ (Machine.Ty None (d + 1) ∷ Machine.MoreRow d 1 ∷ []) (λ b. refl) refl
    (nest _ (type_tokens None (d + 1) t) (more_tokens d 1 ts) (result_tokens d r) (some (Lang.type_is None (d + 1) t) (last (Lang.more_row_is d 1 ts r))))
follows_row d (types.more (Array n t) ts) r =
    next _ _ (Machine.Len ∷ Machine.Mk mark.CloseSquare ∷ Machine.Ty None (d + 1) ∷ Machine.MoreRow d 1 ∷ []) (λ b. refl) refl
    (nest _ (marked (Number n) (length_excess n) ∷ plain (Sign mark.CloseSquare) ∷ type_tokens None (d + 1) t) (more_tokens d 1 ts) (result_tokens d r) (some (Lang.len_is n) (some (Lang.mark_is mark.CloseSquare) (some (Lang.type_is None (d + 1) t) (last (Lang.more_row_is d 1 ts r))))))
follows_row d (types.more (Named w) ts) r = next _ _ (Machine.MoreRow d 1 ∷ []) (λ b. refl) refl (last (Lang.more_row_is d 1 ts r))
follows_row d (types.more (Callee a q) ts) r =
    next _ _ (Machine.Mk mark.Open ∷ Machine.Row (d + 1) ∷ Machine.MoreRow d 1 ∷ []) (λ b. refl) refl
    (nest _ (plain (Sign mark.Open) ∷ (row_tokens (d + 1) a ++ result_tokens (d + 1) q)) (more_tokens d 1 ts) (result_tokens d r) (some (Lang.mark_is mark.Open) (some (Lang.row_is (d + 1) a q) (last (Lang.more_row_is d 1 ts r)))))

follows_more_row : (d k : ℕ) (ts : PlainTypes) (r : PlainResult) → Follows (Machine.MoreRow d k) (more_tokens d k ts ++ result_tokens d r)
follows_more_row d k types.none r = next _ _ (Machine.Gives d ∷ []) (λ b. refl) refl (last (Lang.gives_is d r))
follows_more_row d k (types.more t ts) r =
    next _ _ (Machine.Ty (counted k 4 limit.Param None) d ∷ Machine.MoreRow d (k + 1) ∷ []) (λ b. refl) refl
    (nest _ (type_tokens (counted k 4 limit.Param None) d t) (more_tokens d (k + 1) ts) (result_tokens d r) (some (Lang.type_is _ d t) (last (Lang.more_row_is d (k + 1) ts r))))

follows_gives : (d : ℕ) (r : PlainResult) → Follows (Machine.Gives d) (result_tokens d r)
follows_gives d nothing = skips d refl
follows_gives d (gives t) = next _ _ (Machine.Ty None d ∷ []) (λ b. refl) refl (last (Lang.type_is None d t))

-- lists in declarations

binding_langs : (x : Option Excess) (s : PlainBinding) (st : List Symbol) (ms : Line) → Langs st ms → Langs (Machine.Word x ∷ Machine.Mk mark.Colon ∷ Machine.Ty None 0 ∷ st) (binding_tokens x s ++ ms)
binding_langs x s st ms l = some (Lang.word_is x s.name) (some (Lang.mark_is mark.Colon) (some (Lang.type_is None 0 s.ty) l))

follows_more_fields : (k : ℕ) (ss : List PlainBinding) → Follows (Machine.MoreFields k) (more_bindings limit.Field k 64 ss ++ plain (Sign mark.CloseBrace) ∷ [])
follows_more_fields k [] = next _ _ [] (λ b. refl) refl none
follows_more_fields k (s ∷ ss) =
    next _ _ _ (λ b. refl) refl (nest _ (binding_tokens (counted k 64 limit.Field None) s) (more_bindings limit.Field (k + 1) 64 ss) (plain (Sign mark.CloseBrace) ∷ []) (binding_langs (counted k 64 limit.Field None) s _ _ (last (Lang.more_fields_is (k + 1) ss))))

body_langs : (n k : ℕ) (r : PlainResult) (ls rs : List PlainBinding) (b : Block) (bs : List Block) → n ≡ k
    → Langs (Machine.body k) (result_tokens 0 r ++ plain (Sign mark.OpenBrace) ∷ joined (local_lines 0 ls ++ (reg_lines n rs ++ (block_lines 0 0 (b ∷ bs) ++ close_line ∷ []))))
body_langs n k r ls rs b bs e = rw e (some (Lang.gives_is 0 r) (some (Lang.mark_is mark.OpenBrace) (last (Lang.locals_is 0 k ls rs b bs))))

follows_params : (ps : List PlainBinding) (r : PlainResult) (ls rs : List PlainBinding) (b : Block) (bs : List Block) → Follows Machine.Params (bindings_tokens limit.Param 4 ps ++ behind_params (length ps) r ls rs b bs)
follows_params [] r ls rs b bs = next _ _ (Machine.body 0) (λ b. refl) refl (body_langs 0 0 r ls rs b bs refl)
follows_params (s ∷ ss) r ls rs b bs =
    let e : length (s ∷ ss) ≡ 1 + length ss = omega arith in
    next _ _ (Machine.Mk mark.Colon ∷ Machine.Ty None 0 ∷ Machine.MoreParams 1 ∷ []) (λ b. refl) refl
    (nest _ (plain (Sign mark.Colon) ∷ type_tokens None 0 s.ty) (more_bindings limit.Param 1 4 ss) (behind_params (length (s ∷ ss)) r ls rs b bs)
    (some (Lang.mark_is mark.Colon) (some (Lang.type_is None 0 s.ty) (last (Lang.more_params_is 1 ss (length (s ∷ ss)) r ls rs b bs e)))))

follows_more_params : (k : ℕ) (ps : List PlainBinding) (n : ℕ) (r : PlainResult) (ls rs : List PlainBinding) (b : Block) (bs : List Block) → n ≡ k + length ps
    → Follows (Machine.MoreParams k) (more_bindings limit.Param k 4 ps ++ behind_params n r ls rs b bs)
follows_more_params k [] n r ls rs b bs e = let i : n ≡ k = omega arith in next _ _ (Machine.body k) (λ b. refl) refl (body_langs n k r ls rs b bs i)
follows_more_params k (s ∷ ss) n r ls rs b bs e =
    let i : n ≡ k + 1 + length ss = omega arith in
    next _ _ _ (λ b. refl) refl (nest _ (binding_tokens (counted k 4 limit.Param None) s) (more_bindings limit.Param (k + 1) 4 ss) (behind_params n r ls rs b bs) (binding_langs (counted k 4 limit.Param None) s _ _ (last (Lang.more_params_is (k + 1) ss n r ls rs b bs i))))

-- blocks

-- a label's colon and what stands behind it
block_langs : (k n : ℕ) (b : Block) (bs : List Block)
    → Langs (Machine.Mk mark.Colon ∷ Machine.Insts (k + 1) n ∷ []) (plain (Sign mark.Colon) ∷ joined (((inst_lines n b.insts ++ (term_line b.term ∷ [])) ++ block_lines (k + 1) (n + length b.insts) bs) ++ close_line ∷ []))
block_langs k n b bs = same _ _ _ (some (Lang.mark_is mark.Colon) (last (Lang.insts_is (k + 1) n b.insts b.term bs (n + length b.insts) refl))) (simp append_assoc)

follows_blocks : (k n : ℕ) (bs : List Block) → Follows (Machine.Blocks k n) (joined (block_lines k n bs ++ close_line ∷ []))
follows_blocks k n [] = next _ _ [] (λ b. refl) refl none
follows_blocks k n (b ∷ bs) = next _ _ (Machine.Mk mark.Colon ∷ Machine.Insts (k + 1) n ∷ []) (λ b. refl) refl (block_langs k n b bs)

follows_regs : (k : ℕ) (rs : List PlainBinding) (b : Block) (bs : List Block) → Follows (Machine.Regs k) (joined (reg_lines k rs ++ (block_lines 0 0 (b ∷ bs) ++ close_line ∷ [])))
follows_regs k [] b bs = next _ _ (Machine.Mk mark.Colon ∷ Machine.Insts 1 0 ∷ []) (λ b. refl) refl (block_langs 0 0 b bs)
follows_regs k (r ∷ rs) b bs = next _ _ _ (λ b. refl) refl (binding_langs None r _ _ (last (Lang.regs_is (k + 1) rs b bs)))

follows_locals : (k p : ℕ) (ls rs : List PlainBinding) (b : Block) (bs : List Block) → Follows (Machine.Locals k p) (joined (local_lines k ls ++ (reg_lines p rs ++ (block_lines 0 0 (b ∷ bs) ++ close_line ∷ []))))
follows_locals k p [] [] b bs = next _ _ (Machine.Mk mark.Colon ∷ Machine.Insts 1 0 ∷ []) (λ b. refl) refl (block_langs 0 0 b bs)
follows_locals k p [] (r ∷ rs) b bs = next _ _ _ (λ b. refl) refl (binding_langs None r _ _ (last (Lang.regs_is (p + 1) rs b bs)))
follows_locals k p (l ∷ ls) rs b bs = next _ _ _ (λ b. refl) refl (binding_langs None l _ _ (last (Lang.locals_is (k + 1) p ls rs b bs)))

follows_after_ret : (k n : ℕ) (r : Option (List ℕ)) (bs : List Block) → Follows (Machine.AfterRet k n) (ret_tail r ++ joined (block_lines k n bs ++ close_line ∷ []))
follows_after_ret k n None [] = next _ _ [] (λ b. refl) refl none
follows_after_ret k n None (b ∷ bs) = next _ _ (Machine.Mk mark.Colon ∷ Machine.Insts (k + 1) n ∷ []) (λ b. refl) refl (block_langs k n b bs)
follows_after_ret k n (Some r) [] = next _ _ (Machine.Blocks k n ∷ []) (λ b. refl) refl (last (Lang.blocks_is k n []))
follows_after_ret k n (Some r) (b ∷ bs) = next _ _ (Machine.Blocks k n ∷ []) (λ b. refl) refl (last (Lang.blocks_is k n (b ∷ bs)))

arguments_are : (as_ : List (List ℕ)) → arguments as_ ≡ plain (Sign mark.Open) ∷ args_tokens as_
arguments_are [] = refl
arguments_are (a ∷ as_) = refl

call_langs : (f : List ℕ) (as_ : List (List ℕ)) (st : List Symbol) (ms : Line) → Langs st ms → Langs (Machine.Word None ∷ Machine.Mk mark.Open ∷ Machine.Args ∷ st) ((name f ∷ arguments as_) ++ ms)
call_langs f as_ st ms l = rw (arguments_are as_) (some (Lang.word_is None f) (some (Lang.mark_is mark.Open) (some (Lang.args_is as_) l)))

two_langs : (a b : List ℕ) (st : List Symbol) (ms : Line) → Langs st ms → Langs (Machine.Word None ∷ Machine.Mk mark.Comma ∷ Machine.Word None ∷ st) (two a b ++ ms)
two_langs a b st ms l = some (Lang.word_is None a) (some (Lang.mark_is mark.Comma) (some (Lang.word_is None b) l))

-- what a register gets, behind the register
assigned_langs : (v : Line) (st : List Symbol) (ms : Line) → Lang.Lang Machine.Value v → Langs st ms → Langs (Machine.Mk mark.Equal ∷ Machine.Value ∷ st) (plain (Sign mark.Equal) ∷ (v ++ ms))
assigned_langs v st ms l r = some (Lang.mark_is mark.Equal) (some l r)

call_value : (f : List ℕ) (as_ : List (List ℕ)) → Lang.Lang Machine.Value (plain (Key key.Call) ∷ name f ∷ arguments as_)
call_value f as_ = rw (arguments_are as_) (Lang.call_is f as_)

icall_value : (f : List ℕ) (as_ : List (List ℕ)) → Lang.Lang Machine.Value (plain (Key key.Icall) ∷ name f ∷ arguments as_)
icall_value f as_ = rw (arguments_are as_) (Lang.icall_is f as_)

follows_inst : (k n : ℕ) (i : Inst) (ms : Line) → Langs (Machine.Insts k (n + 1) ∷ []) ms → Follows (Machine.Insts k n) (inst_line (Machine.inst_excess n) i ++ ms)
follows_inst k n (inst.Const to v) ms l = next _ _ _ (λ b. refl) refl (assigned_langs _ _ _ (Lang.const_is v) l)
follows_inst k n (inst.Move to from) ms l = next _ _ _ (λ b. refl) refl (assigned_langs _ _ _ (Lang.move_is from) l)
follows_inst k n (inst.Bin op to a b) ms l = next _ _ _ (λ b. refl) refl (assigned_langs _ _ _ (Lang.bin_is op a b) l)
follows_inst k n (inst.Cmp op to a b) ms l = next _ _ _ (λ b. refl) refl (assigned_langs _ _ _ (Lang.cmp_is op a b) l)
follows_inst k n (inst.Addr to of) ms l = next _ _ _ (λ b. refl) refl (assigned_langs _ _ _ (Lang.addr_is of) l)
follows_inst k n (inst.FAddr to of) ms l = next _ _ _ (λ b. refl) refl (assigned_langs _ _ _ (Lang.faddr_is of) l)
follows_inst k n (inst.Elem to a b) ms l = next _ _ _ (λ b. refl) refl (assigned_langs _ _ _ (Lang.elem_is a b) l)
follows_inst k n (inst.Field to a b) ms l = next _ _ _ (λ b. refl) refl (assigned_langs _ _ _ (Lang.field_is a b) l)
follows_inst k n (inst.Load to from) ms l = next _ _ _ (λ b. refl) refl (assigned_langs _ _ _ (Lang.load_is from) l)
follows_inst k n (inst.Store to from) ms l = next _ _ _ (λ b. refl) refl (two_langs to from _ _ l)
follows_inst k n (inst.Call None f as_) ms l = next _ _ _ (λ b. refl) refl (call_langs f as_ _ _ l)
follows_inst k n (inst.Call (Some to) f as_) ms l = next _ _ _ (λ b. refl) refl (assigned_langs _ _ _ (call_value f as_) l)
follows_inst k n (inst.ICall None f as_) ms l = next _ _ _ (λ b. refl) refl (call_langs f as_ _ _ l)
follows_inst k n (inst.ICall (Some to) f as_) ms l = next _ _ _ (λ b. refl) refl (assigned_langs _ _ _ (icall_value f as_) l)

blocks_at : (k m n : ℕ) (bs : List Block) → m ≡ n → Langs (Machine.Blocks k n ∷ []) (joined (block_lines k m bs ++ close_line ∷ []))
blocks_at k m n bs e = rw e (last (Lang.blocks_is k n bs))

after_ret_at : (k m n : ℕ) (r : Option (List ℕ)) (bs : List Block) → m ≡ n → Langs (Machine.AfterRet k n ∷ []) (ret_tail r ++ joined (block_lines k m bs ++ close_line ∷ []))
after_ret_at k m n r bs e = rw e (last (Lang.after_ret_is k n r bs))

follows_insts : (k n : ℕ) (is : List Inst) (t : Term) (bs : List Block) (m : ℕ) → m ≡ n + length is → Follows (Machine.Insts k n) (joined (inst_lines n is ++ (term_line t ∷ (block_lines k m bs ++ close_line ∷ []))))
follows_insts k n [] (term.Jump l) bs m e = let i : m ≡ n = omega arith in next _ _ (Machine.Word None ∷ Machine.Blocks k n ∷ []) (λ b. refl) refl (some (Lang.word_is None l) (blocks_at k m n bs i))
follows_insts k n [] (term.Branch on a b) bs m e =
    let i : m ≡ n = omega arith in
    next _ _ (Machine.Word None ∷ Machine.Word None ∷ Machine.Word None ∷ Machine.Blocks k n ∷ []) (λ b. refl) refl (some (Lang.word_is None on) (some (Lang.word_is None a) (some (Lang.word_is None b) (blocks_at k m n bs i))))
follows_insts k n [] (term.Ret None) bs m e = let i : m ≡ n = omega arith in next _ _ (Machine.AfterRet k n ∷ []) (λ b. refl) refl (after_ret_at k m n None bs i)
follows_insts k n [] (term.Ret (Some r)) bs m e = let i : m ≡ n = omega arith in next _ _ (Machine.AfterRet k n ∷ []) (λ b. refl) refl (after_ret_at k m n (Some r) bs i)
follows_insts k n (i ∷ is) t bs m e = let j : m ≡ n + 1 + length is = omega arith in follows_inst k n i _ (last (Lang.insts_is k (n + 1) is t bs m j))

follows_args : (as_ : List (List ℕ)) → Follows Machine.Args (args_tokens as_)
follows_args [] = next _ _ [] (λ b. refl) refl none
follows_args (a ∷ as_) = next _ _ (Machine.MoreArgs 1 ∷ []) (λ b. refl) refl (last (Lang.more_args_is 1 as_))

follows_more_args : (k : ℕ) (as_ : List (List ℕ)) → Follows (Machine.MoreArgs k) (more_arguments k as_)
follows_more_args k [] = next _ _ [] (λ b. refl) refl none
follows_more_args k (a ∷ as_) = next _ _ (Machine.Word (counted k 4 limit.Param None) ∷ Machine.MoreArgs (k + 1) ∷ []) (λ b. refl) refl (some (Lang.word_is _ a) (last (Lang.more_args_is (k + 1) as_)))

-- declarations

func_langs : (n : ℕ) (name_ : List ℕ) (ps : List PlainBinding) (r : PlainResult) (ls rs : List PlainBinding) (b : Block) (bs : List Block) (st : List Symbol) (ms : Line) → Langs st ms
    → Langs (Machine.Word None ∷ Machine.Mk mark.Open ∷ Machine.Params ∷ st) (name name_ ∷ plain (Sign mark.Open) ∷ ((bindings_tokens limit.Param 4 ps ++ behind_params (length ps) r ls rs b bs) ++ ms))
func_langs n name_ ps r ls rs b bs st ms l = some (Lang.word_is None name_) (some (Lang.mark_is mark.Open) (some (Lang.params_is ps r ls rs b bs) l))

follows_func : (k n : ℕ) (name_ : List ℕ) (ps : List PlainBinding) (r : PlainResult) (ls rs : List PlainBinding) (blocks : List Block) (fs : List PlainFunc) (files : List PlainFile) (m : ℕ)
    → 0 < length blocks → Langs (Machine.Funcs k (n + 1) ∷ []) (joined (funcs_lines (n + 1) fs ++ (close_line ∷ file_lines k m files)))
    → Follows (Machine.Funcs k n) (joined (funcs_lines n (record { name = name_; params = ps; outcome = r; locals = ls; regs = rs; blocks = blocks } ∷ fs) ++ (close_line ∷ file_lines k m files)))
follows_func k n name_ ps r ls rs [] fs files m h l = absurd (omega arith)
follows_func k n name_ ps r ls rs (b ∷ bs) fs files m h l =
    next _ _ (Machine.Word None ∷ Machine.Mk mark.Open ∷ Machine.Params ∷ Machine.Funcs k (n + 1) ∷ []) (λ b. refl) refl
    (same _ _ _ (func_langs n name_ ps r ls rs b bs _ _ l)
    (ap (λ z. name name_ ∷ plain (Sign mark.Open) ∷ z) (func_flat (bindings_tokens limit.Param 4 ps) (result_tokens 0 r) (plain (Sign mark.Close)) (plain (Sign mark.OpenBrace)) (local_lines 0 ls) (reg_lines (length ps) rs) (block_lines 0 0 (b ∷ bs)) (close_line ∷ []) (funcs_lines (n + 1) fs) (close_line ∷ file_lines k m files))))

files_at : (k m n : ℕ) (files : List PlainFile) → AllHaveBlocks files → m ≡ n → Langs (Machine.Files k n ∷ []) (joined (file_lines k m files))
files_at k m n files h e = rw e (last (Lang.files_is k n files h))

follows_funcs : (k n : ℕ) (fs : List PlainFunc) (files : List PlainFile) (m : ℕ) → m ≡ n + length fs → HasBlocks fs → AllHaveBlocks files
    → Follows (Machine.Funcs k n) (joined (funcs_lines n fs ++ (close_line ∷ file_lines k m files)))
follows_funcs k n [] files m e h g = let i : m ≡ n = omega arith in next _ _ (Machine.Files k n ∷ []) (λ b. refl) refl (files_at k m n files g i)
follows_funcs k n (f ∷ fs) files m e h g =
    let i : m ≡ n + 1 + length fs = omega arith in
    follows_func k n f.name f.params f.outcome f.locals f.regs f.blocks fs files m h.0 (last (Lang.funcs_is k (n + 1) fs files m i h.1 g))

-- a file behind its first word
file_langs : (k n : ℕ) (f : PlainFile) (fs : List PlainFile) → HasBlocks f.funcs → AllHaveBlocks fs
    → Langs (Machine.Word None ∷ Machine.Mk mark.OpenBrace ∷ Machine.Funcs (k + 1) n ∷ []) (name f.name ∷ plain (Sign mark.OpenBrace) ∷ joined ((funcs_lines n f.funcs ++ close_line ∷ []) ++ file_lines (k + 1) (n + length f.funcs) fs))
file_langs k n f fs h g =
    same _ _ _ (some (Lang.word_is None f.name) (some (Lang.mark_is mark.OpenBrace) (last (Lang.funcs_is (k + 1) n f.funcs fs (n + length f.funcs) refl h g)))) (simp append_assoc)

follows_files : (k n : ℕ) (fs : List PlainFile) → AllHaveBlocks fs → Follows (Machine.Files k n) (joined (file_lines k n fs))
follows_files k n [] h = ends refl refl
follows_files k n (f ∷ fs) h = next _ _ (Machine.Word None ∷ Machine.Mk mark.OpenBrace ∷ Machine.Funcs (k + 1) n ∷ []) (λ b. refl) refl (file_langs k n f fs h.0 h.1)

-- a global behind its first words
global_langs : (k : ℕ) (name_ : List ℕ) (t : PlainType) (init : List Cell) (gs : List PlainGlobal) (files : List PlainFile) → AllHaveBlocks files
    → Langs (Machine.global_rest k) (name name_ ∷ plain (Sign mark.Colon) ∷ (type_tokens None 0 t ++ (init_tokens init ++ joined (global_lines (k + 1) gs ++ file_lines 0 0 files))))
global_langs k name_ t init gs files h =
    some (Lang.word_is None name_) (some (Lang.mark_is mark.Colon) (some (Lang.type_is None 0 t) (last (Lang.init_is (k + 1) init gs files h))))

follows_globals : (k : ℕ) (gs : List PlainGlobal) (files : List PlainFile) → AllHaveBlocks files → Follows (Machine.Globals k) (joined (global_lines k gs ++ file_lines 0 0 files))
follows_globals k [] [] h = ends refl refl
follows_globals k [] (f ∷ fs) h = next _ _ (Machine.Word None ∷ Machine.Mk mark.OpenBrace ∷ Machine.Funcs 1 0 ∷ []) (λ b. refl) refl (file_langs 0 0 f fs h.0 h.1)
follows_globals k (g ∷ gs) files h = by_start g.constant
  where
    by_start : (c : Bool) → Follows (Machine.Globals k) (((global_start c (Machine.global_excess k) ++ (name g.name ∷ plain (Sign mark.Colon) ∷ type_tokens None 0 g.ty)) ++ init_tokens g.init) ++ joined (global_lines (k + 1) gs ++ file_lines 0 0 files))
    by_start true = next _ _ (Machine.Kw key.Global ∷ Machine.global_rest k) (λ b. refl) refl (nest _ (plain (Key key.Global) ∷ name g.name ∷ plain (Sign mark.Colon) ∷ type_tokens None 0 g.ty) (init_tokens g.init) (joined (global_lines (k + 1) gs ++ file_lines 0 0 files)) (some (Lang.key_is key.Global) (global_langs k g.name g.ty g.init gs files h)))
    by_start false = next _ _ (Machine.global_rest k) (λ b. refl) refl (nest _ (name g.name ∷ plain (Sign mark.Colon) ∷ type_tokens None 0 g.ty) (init_tokens g.init) (joined (global_lines (k + 1) gs ++ file_lines 0 0 files)) (global_langs k g.name g.ty g.init gs files h))

-- what stands where a global's first cells may
follows_init : (k : ℕ) (cs : List Cell) (gs : List PlainGlobal) (files : List PlainFile) → AllHaveBlocks files → Follows (Machine.Init k) (init_tokens cs ++ joined (global_lines k gs ++ file_lines 0 0 files))
follows_init k [] [] [] h = ends refl refl
follows_init k [] [] (f ∷ fs) h = next _ _ (Machine.Word None ∷ Machine.Mk mark.OpenBrace ∷ Machine.Funcs 1 0 ∷ []) (λ b. refl) refl (file_langs 0 0 f fs h.0 h.1)
follows_init k [] (g ∷ gs) files h = by_start g.constant
  where
    by_start : (c : Bool) → Follows (Machine.Init k) (((global_start c (Machine.global_excess k) ++ (name g.name ∷ plain (Sign mark.Colon) ∷ type_tokens None 0 g.ty)) ++ init_tokens g.init) ++ joined (global_lines (k + 1) gs ++ file_lines 0 0 files))
    by_start true = next _ _ (Machine.Kw key.Global ∷ Machine.global_rest k) (λ b. refl) refl (nest _ (plain (Key key.Global) ∷ name g.name ∷ plain (Sign mark.Colon) ∷ type_tokens None 0 g.ty) (init_tokens g.init) (joined (global_lines (k + 1) gs ++ file_lines 0 0 files)) (some (Lang.key_is key.Global) (global_langs k g.name g.ty g.init gs files h)))
    by_start false = next _ _ (Machine.global_rest k) (λ b. refl) refl (nest _ (name g.name ∷ plain (Sign mark.Colon) ∷ type_tokens None 0 g.ty) (init_tokens g.init) (joined (global_lines (k + 1) gs ++ file_lines 0 0 files)) (global_langs k g.name g.ty g.init gs files h))
follows_init k (c ∷ cs) gs files h =
    next _ _ (Machine.Mk mark.OpenBrace ∷ Machine.CellAt 0 ∷ Machine.MoreCells 1 ∷ Machine.Globals k ∷ []) (λ b. refl) refl
    (nest _ (plain (Sign mark.OpenBrace) ∷ cell_tokens 0 c) (more_cells 1 cs) (joined (global_lines k gs ++ file_lines 0 0 files)) (some (Lang.mark_is mark.OpenBrace) (some (Lang.cell_is 0 c) (some (Lang.more_cells_is 1 cs) (last (Lang.globals_is k gs files h))))))

follows_cell : (k : ℕ) (c : Cell) → Follows (Machine.CellAt k) (cell_tokens k c)
follows_cell k (cell.Word n) = next _ _ [] (λ b. refl) refl none
follows_cell k (cell.Function f) = next _ _ (Machine.Word None ∷ []) (λ b. refl) refl (last (Lang.word_is None f))
follows_cell k (cell.Address x) = next _ _ (Machine.Word None ∷ []) (λ b. refl) refl (last (Lang.word_is None x))

follows_more_cells : (k : ℕ) (cs : List Cell) → Follows (Machine.MoreCells k) (more_cells k cs)
follows_more_cells k [] = next _ _ [] (λ b. refl) refl none
follows_more_cells k (c ∷ cs) = next _ _ (Machine.CellAt k ∷ Machine.MoreCells (k + 1) ∷ []) (λ b. refl) refl (some (Lang.cell_is k c) (last (Lang.more_cells_is (k + 1) cs)))

periph_langs : (k : ℕ) (p : Peripheral) (ps : List Peripheral) (gs : List PlainGlobal) (files : List PlainFile) → AllHaveBlocks files
    → Langs (Machine.Word None ∷ Machine.Num ∷ Machine.Num ∷ Machine.Periphs (k + 1) ∷ []) (name p.name ∷ number p.base ∷ number p.size ∷ joined (periph_lines (k + 1) ps ++ (global_lines 0 gs ++ file_lines 0 0 files)))
periph_langs k p ps gs files h = some (Lang.word_is None p.name) (some (Lang.num_is p.base) (some (Lang.num_is p.size) (last (Lang.periphs_is (k + 1) ps gs files h))))

follows_periphs : (k : ℕ) (ps : List Peripheral) (gs : List PlainGlobal) (files : List PlainFile) → AllHaveBlocks files → Follows (Machine.Periphs k) (joined (periph_lines k ps ++ (global_lines 0 gs ++ file_lines 0 0 files)))
follows_periphs k [] [] [] h = ends refl refl
follows_periphs k [] [] (f ∷ fs) h = next _ _ (Machine.Word None ∷ Machine.Mk mark.OpenBrace ∷ Machine.Funcs 1 0 ∷ []) (λ b. refl) refl (file_langs 0 0 f fs h.0 h.1)
follows_periphs k [] (g ∷ gs) files h = by_start g.constant
  where
    by_start : (c : Bool) → Follows (Machine.Periphs k) (((global_start c (Machine.global_excess 0) ++ (name g.name ∷ plain (Sign mark.Colon) ∷ type_tokens None 0 g.ty)) ++ init_tokens g.init) ++ joined (global_lines 1 gs ++ file_lines 0 0 files))
    by_start true = next _ _ (Machine.Kw key.Global ∷ Machine.global_rest 0) (λ b. refl) refl (nest _ (plain (Key key.Global) ∷ name g.name ∷ plain (Sign mark.Colon) ∷ type_tokens None 0 g.ty) (init_tokens g.init) (joined (global_lines (1) gs ++ file_lines 0 0 files)) (some (Lang.key_is key.Global) (global_langs 0 g.name g.ty g.init gs files h)))
    by_start false = next _ _ (Machine.global_rest 0) (λ b. refl) refl (nest _ (name g.name ∷ plain (Sign mark.Colon) ∷ type_tokens None 0 g.ty) (init_tokens g.init) (joined (global_lines (1) gs ++ file_lines 0 0 files)) (global_langs 0 g.name g.ty g.init gs files h))
follows_periphs k (p ∷ ps) gs files h = next _ _ (Machine.Word None ∷ Machine.Num ∷ Machine.Num ∷ Machine.Periphs (k + 1) ∷ []) (λ b. refl) refl (periph_langs k p ps gs files h)

follows_structs : (k : ℕ) (ss : List PlainStruct) (ps : List Peripheral) (gs : List PlainGlobal) (files : List PlainFile) → HasFields ss → AllHaveBlocks files
    → Follows (Machine.Structs k) (joined (struct_lines k ss ++ (periph_lines 0 ps ++ (global_lines 0 gs ++ file_lines 0 0 files))))
follows_structs k [] [] [] [] e h = ends refl refl
follows_structs k [] [] [] (f ∷ fs) e h = next _ _ (Machine.Word None ∷ Machine.Mk mark.OpenBrace ∷ Machine.Funcs 1 0 ∷ []) (λ b. refl) refl (file_langs 0 0 f fs h.0 h.1)
follows_structs k [] [] (g ∷ gs) files e h = by_start g.constant
  where
    by_start : (c : Bool) → Follows (Machine.Structs k) (((global_start c (Machine.global_excess 0) ++ (name g.name ∷ plain (Sign mark.Colon) ∷ type_tokens None 0 g.ty)) ++ init_tokens g.init) ++ joined (global_lines 1 gs ++ file_lines 0 0 files))
    by_start true = next _ _ (Machine.Kw key.Global ∷ Machine.global_rest 0) (λ b. refl) refl (nest _ (plain (Key key.Global) ∷ name g.name ∷ plain (Sign mark.Colon) ∷ type_tokens None 0 g.ty) (init_tokens g.init) (joined (global_lines (1) gs ++ file_lines 0 0 files)) (some (Lang.key_is key.Global) (global_langs 0 g.name g.ty g.init gs files h)))
    by_start false = next _ _ (Machine.global_rest 0) (λ b. refl) refl (nest _ (name g.name ∷ plain (Sign mark.Colon) ∷ type_tokens None 0 g.ty) (init_tokens g.init) (joined (global_lines (1) gs ++ file_lines 0 0 files)) (global_langs 0 g.name g.ty g.init gs files h))
follows_structs k [] (p ∷ ps) gs files e h = next _ _ (Machine.Word None ∷ Machine.Num ∷ Machine.Num ∷ Machine.Periphs 1 ∷ []) (λ b. refl) refl (periph_langs 0 p ps gs files h)
follows_structs k (s ∷ ss) ps gs files e h = by_fields s.fields e.0
  where
    by_fields : (fields : List PlainBinding) → 0 < length fields
        → Follows (Machine.Structs k) (struct_line k (record { name = s.name; fields = fields }) ++ joined (struct_lines (k + 1) ss ++ (periph_lines 0 ps ++ (global_lines 0 gs ++ file_lines 0 0 files))))
    by_fields [] i = absurd (omega arith)
    by_fields (f ∷ fs) i =
        next _ _ (Machine.Word None ∷ Machine.Mk mark.OpenBrace ∷ Machine.Word None ∷ Machine.Mk mark.Colon ∷ Machine.Ty None 0 ∷ Machine.MoreFields 1 ∷ Machine.Structs (k + 1) ∷ []) (λ b. refl) refl
        (same _ _ _ (some (Lang.word_is None s.name) (some (Lang.mark_is mark.OpenBrace) (binding_langs None f _ _ (some (Lang.more_fields_is 1 fs) (last (Lang.structs_is (k + 1) ss ps gs files e.1 h))))))
        (three (name s.name ∷ plain (Sign mark.OpenBrace) ∷ binding_tokens None f) (more_bindings limit.Field 1 64 fs) (plain (Sign mark.CloseBrace) ∷ []) (joined (struct_lines (k + 1) ss ++ (periph_lines 0 ps ++ (global_lines 0 gs ++ file_lines 0 0 files))))))

nat_eq_same : (n : ℕ) → nat_eq n n ≡ true
nat_eq_same n = search (rules, tests)

follows_mark : (m : Mark) (b : Bool) → nat_eq (mark_number m) (mark_number m) ≡ b → b ≡ true → Follows (Machine.Mk m) (plain (Sign m) ∷ [])
follows_mark m b e h = next _ _ [] (λ b. rw (nat_eq_same (mark_number m)) refl) refl none

pub follows : (s : Symbol) (ms : Line) → Lang.Lang s ms → Follows s ms
follows s ms (Lang.word_is x w) = next _ _ [] (λ b. refl) refl none
follows s ms (Lang.mark_is m) = follows_mark m true (nat_eq_same (mark_number m)) refl
follows s ms (Lang.key_is k) = next _ _ [] (λ b. refl) refl none
follows s ms (Lang.num_is n) = next _ _ [] (λ b. refl) refl none
follows s ms (Lang.len_is n) = next _ _ [] (λ b. refl) refl none
follows s ms (Lang.type_is x d t) = follows_type x d t
follows s ms (Lang.row_is d ts r) = follows_row d ts r
follows s ms (Lang.more_row_is d k ts r) = follows_more_row d k ts r
follows s ms (Lang.gives_is d r) = follows_gives d r
follows s ms (Lang.more_fields_is k ss) = follows_more_fields k ss
follows s ms (Lang.params_is ps r ls rs b bs) = follows_params ps r ls rs b bs
follows s ms (Lang.more_params_is k ps n r ls rs b bs e) = follows_more_params k ps n r ls rs b bs e
follows s ms (Lang.locals_is k p ls rs b bs) = follows_locals k p ls rs b bs
follows s ms (Lang.regs_is k rs b bs) = follows_regs k rs b bs
follows s ms (Lang.first_is k n b bs) = next _ _ (Machine.Mk mark.Colon ∷ Machine.Insts (k + 1) n ∷ []) (λ b. refl) refl (block_langs k n b bs)
follows s ms (Lang.insts_is k n is t bs m e) = follows_insts k n is t bs m e
follows s ms (Lang.after_ret_is k n r bs) = follows_after_ret k n r bs
follows s ms (Lang.blocks_is k n bs) = follows_blocks k n bs
follows s ms (Lang.const_is n) = next _ _ [] (λ b. refl) refl none
follows s ms (Lang.move_is w) = next _ _ [] (λ b. refl) refl none
follows s ms (Lang.bin_is op a b) = next _ _ Machine.two_words (λ b. refl) refl (two_langs a b _ _ none)
follows s ms (Lang.cmp_is op a b) = next _ _ Machine.two_words (λ b. refl) refl (two_langs a b _ _ none)
follows s ms (Lang.addr_is a) = next _ _ (Machine.Word None ∷ []) (λ b. refl) refl (last (Lang.word_is None a))
follows s ms (Lang.faddr_is a) = next _ _ (Machine.Word None ∷ []) (λ b. refl) refl (last (Lang.word_is None a))
follows s ms (Lang.elem_is a b) = next _ _ Machine.two_words (λ b. refl) refl (two_langs a b _ _ none)
follows s ms (Lang.field_is a b) = next _ _ Machine.two_words (λ b. refl) refl (two_langs a b _ _ none)
follows s ms (Lang.load_is a) = next _ _ (Machine.Word None ∷ []) (λ b. refl) refl (last (Lang.word_is None a))
follows s ms (Lang.call_is f as_) = next _ _ Machine.call_rest (λ b. refl) refl (some (Lang.word_is None f) (some (Lang.mark_is mark.Open) (last (Lang.args_is as_))))
follows s ms (Lang.icall_is f as_) = next _ _ Machine.call_rest (λ b. refl) refl (some (Lang.word_is None f) (some (Lang.mark_is mark.Open) (last (Lang.args_is as_))))
follows s ms (Lang.args_is as_) = follows_args as_
follows s ms (Lang.more_args_is k as_) = follows_more_args k as_
follows s ms (Lang.funcs_is k n fs files m e h g) = follows_funcs k n fs files m e h g
follows s ms (Lang.files_is k n files h) = follows_files k n files h
follows s ms (Lang.globals_is k gs files h) = follows_globals k gs files h
follows s ms (Lang.init_is k cs gs files h) = follows_init k cs gs files h
follows s ms (Lang.cell_is k c) = follows_cell k c
follows s ms (Lang.more_cells_is k cs) = follows_more_cells k cs
follows s ms (Lang.periphs_is k ps gs files h) = follows_periphs k ps gs files h
follows s ms (Lang.structs_is k ss ps gs files e h) = follows_structs k ss ps gs files e h
