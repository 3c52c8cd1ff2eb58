-- What the moves take may stand: a token that they take, and behind it what is expected then.
use Rattle.std.proofs.Common.{◌≡◌, ◌<◌, ℕ, ◌+◌, [], ◌∷◌, ◌++◌, List, Bool, true, false, refl, sym, ap, ◌∙◌, subst, append_assoc, append-nil, Option, Some, None, length, arith}
use Rattle.ir_model.specs.declared.firmware.Block.{Block}
use Rattle.ir_model.specs.declared.firmware.Cell.TheVariants as cell
use Rattle.ir_model.specs.declared.firmware.Inst.{Inst}
use Rattle.ir_model.specs.declared.firmware.Inst.TheVariants as inst
use Rattle.ir_model.specs.declared.firmware.Term.TheVariants as term
use Rattle.ir_model.specs.declared.token.Excess.{Excess}
use Rattle.ir_model.specs.declared.token.Keyword.{Keyword}
use Rattle.ir_model.specs.declared.token.Keyword.TheVariants as key
use Rattle.ir_model.specs.declared.token.Mark.{Mark}
use Rattle.ir_model.specs.declared.token.Mark.TheVariants as mark
use Rattle.ir_model.specs.declared.token.TextLimit.TheVariants as limit
use Rattle.ir_model.specs.Types.{PlainType, U8, U16, U32, Pointer, Array, Named, Callee, PlainResult, nothing, gives}
use Rattle.ir_model.specs.Types as types
use Rattle.ir_model.specs.Plain.{PlainBinding, PlainFunc}
use Rattle.ir_model.specs.Tokens.{Token, Name, Number, Key, Operation, Comparison, Sign, Marked}
use Rattle.ir_model.specs.Lines.{Line, marked, plain, name, counted, word_excess, or_else, type_tokens, more_tokens, result_tokens, bindings_tokens, more_bindings, arguments, inst_line, inst_lines, local_lines, reg_lines, term_line, block_lines, close_line, funcs_lines, file_lines}
use Rattle.ir_model.specs.Texts.{joined}
use Rattle.ir_reader.specs.Machine
use Rattle.ir_reader.specs.Machine.{Symbol, Move, Go, Stop, Skip, To, step, move}
use Rattle.ir_reader.proofs.Lang
use Rattle.ir_reader.proofs.Lang.{behind_params, Langs, none, some}
use Rattle.ir_reader.proofs.Derive.{func_flat}
use Rattle.ir_reader.proofs.Values.{stepped}

-- what may stand by a move of this token
abbrev pub Allows : Symbol → Token → Move → Type 0
Allows s t (Go e more) = (a : Line) → Langs more a → Lang.Lang s (marked t e ∷ a)
Allows s t Stop = Unit {0}
Allows s t Skip = Lang.Lang s []

pub only : (s : Symbol) (a : Line) → Langs (s ∷ []) a → Lang.Lang s a
only s a (some {a = c} l none) = rw (append-nil c) l

at_end : (s : Symbol) (m : Marked) → Lang.Lang s (m ∷ []) → (a : Line) → Langs [] a → Lang.Lang s (m ∷ a)
at_end s m l a none = l

lang_same : (s : Symbol) (a b : Line) → Lang.Lang s a → a ≡ b → Lang.Lang s b
lang_same s a b l e = subst (λ (z : Line). Lang.Lang s z) e l

-- types

pointer_from : (x : Option Excess) (d : ℕ) (a : Line) → Lang.Lang (Machine.Ty None (d + 1)) a → Lang.Lang (Machine.Ty x d) (marked (Sign mark.Star) (Machine.type_excess x d) ∷ a)
pointer_from x d a (Lang.type_is y e t) = Lang.type_is x d (Pointer t)

array_from : (x : Option Excess) (d : ℕ) (a : Line) → Langs (Machine.Len ∷ Machine.Mk mark.CloseSquare ∷ Machine.Ty None (d + 1) ∷ []) a → Lang.Lang (Machine.Ty x d) (marked (Sign mark.OpenSquare) (Machine.type_excess x d) ∷ a)
array_from x d a (some (Lang.len_is n) (some (Lang.mark_is m) (some (Lang.type_is y e t) none))) = lang_same _ _ _ (Lang.type_is x d (Array n t)) (simp append-nil)

callee_from : (x : Option Excess) (d : ℕ) (a : Line) → Langs (Machine.Mk mark.Open ∷ Machine.Row (d + 1) ∷ []) a → Lang.Lang (Machine.Ty x d) (marked (Key key.Fn) (Machine.type_excess x d) ∷ a)
callee_from x d a (some (Lang.mark_is m) (some (Lang.row_is e ts r) none)) = lang_same _ _ _ (Lang.type_is x d (Callee ts r)) (simp append-nil)

allow_type_key : (x : Option Excess) (d : ℕ) (k : Keyword) → Allows (Machine.Ty x d) (Key k) (Machine.type_key x d k)
allow_type_key x d key.U8 = at_end _ _ (Lang.type_is x d U8)
allow_type_key x d key.U16 = at_end _ _ (Lang.type_is x d U16)
allow_type_key x d key.U32 = at_end _ _ (Lang.type_is x d U32)
allow_type_key x d key.Fn = callee_from x d
allow_type_key x d _ = tt

allow_type_mark : (x : Option Excess) (d : ℕ) (m : Mark) → Allows (Machine.Ty x d) (Sign m) (Machine.type_mark x d m)
allow_type_mark x d mark.Star = λ a l. pointer_from x d a (only _ a l)
allow_type_mark x d mark.OpenSquare = array_from x d
allow_type_mark x d _ = tt

allow_type : (x : Option Excess) (d : ℕ) (t : Token) → Allows (Machine.Ty x d) t (Machine.type_move x d t)
allow_type x d (Key k) = allow_type_key x d k
allow_type x d (Sign m) = allow_type_mark x d m
allow_type x d (Name w) = at_end _ _ (Lang.type_is x d (Named w))
allow_type x d _ = tt

-- two rows of symbols
pub record Divided (xs ys : List Symbol) (l : Line) : Type 0 where
  pub front : Line
  pub back : Line
  pub first : Langs xs front
  pub second : Langs ys back
  pub whole : l ≡ front ++ back

pub divide : (xs ys : List Symbol) (l : Line) → Langs (xs ++ ys) l → Divided xs ys l
divide [] ys l r = record { front = []; back = l; first = none; second = r; whole = refl }
divide (x ∷ xs) ys l (some {a = a} {b = b} p r) =
    let d = divide xs ys b r in
    record { front = a ++ d.front; back = d.back; first = some p d.first; second = d.second; whole = ap (λ z. a ++ z) d.whole ∙ sym (append_assoc a d.front d.back) }

row_from : (d : ℕ) (l a b : Line) → l ≡ a ++ b → Lang.Lang (Machine.Ty None d) a → Lang.Lang (Machine.MoreRow d 1) b → Lang.Lang (Machine.Row d) l
row_from d l a b e (Lang.type_is x y t) (Lang.more_row_is z k ts r) =
    lang_same _ _ _ (Lang.row_is d (types.more t ts) r) (append_assoc (type_tokens None d t) (more_tokens d 1 ts) (result_tokens d r) ∙ sym e)

allow_then_row : (d : ℕ) (t : Token) (m : Move) → Allows (Machine.Ty None d) t m → (m ≡ Skip → ⊥) → Allows (Machine.Row d) t (Machine.then_row d m)
allow_then_row d t (Go e more) h n =
    λ a l.
    let v = divide more (Machine.MoreRow d 1 ∷ []) a l in
    row_from d (marked t e ∷ a) (marked t e ∷ v.front) v.back (ap (λ z. marked t e ∷ z) v.whole) (h v.front v.first) (only _ v.back v.second)
allow_then_row d t Stop h n = tt
allow_then_row d t Skip h n = absurd (n refl)

key_not_skipped : (x : Option Excess) (d : ℕ) (k : Keyword) → Machine.type_key x d k ≡ Skip → ⊥
key_not_skipped x d key.U8 h = cc
key_not_skipped x d _ h = cc

mark_not_skipped : (x : Option Excess) (d : ℕ) (m : Mark) → Machine.type_mark x d m ≡ Skip → ⊥
mark_not_skipped x d mark.Star h = cc
mark_not_skipped x d _ h = cc

row_none : (d : ℕ) (a : Line) → Lang.Lang (Machine.Gives d) a → Lang.Lang (Machine.Row d) (plain (Sign mark.Close) ∷ a)
row_none d a (Lang.gives_is e r) = Lang.row_is d types.none r

allow_row_mark : (d : ℕ) (m : Mark) → Allows (Machine.Row d) (Sign m) (Machine.row_mark d m)
allow_row_mark d mark.Close = λ a l. row_none d a (only _ a l)
allow_row_mark d m = allow_then_row d (Sign m) (Machine.type_mark None d m) (allow_type_mark None d m) (mark_not_skipped None d m)

allow_row : (d : ℕ) (t : Token) → Allows (Machine.Row d) t (Machine.row_move d t)
allow_row d (Sign m) = allow_row_mark d m
allow_row d (Key k) = allow_then_row d (Key k) (Machine.type_key None d k) (allow_type_key None d k) (key_not_skipped None d k)
allow_row d (Name w) = allow_then_row d (Name w) (Machine.type_move None d (Name w)) (allow_type None d (Name w)) (λ h. cc)
allow_row d _ = tt

more_row_next : (d k : ℕ) (a : Line) → Langs (Machine.Ty (counted k 4 limit.Param None) d ∷ Machine.MoreRow d (k + 1) ∷ []) a → Lang.Lang (Machine.MoreRow d k) (plain (Sign mark.Comma) ∷ a)
more_row_next d k a (some (Lang.type_is x e t) (some (Lang.more_row_is f j ts r) none)) = lang_same _ _ _ (Lang.more_row_is d k (types.more t ts) r) (simp (append_assoc, append-nil))

more_row_none : (d k : ℕ) (a : Line) → Lang.Lang (Machine.Gives d) a → Lang.Lang (Machine.MoreRow d k) (plain (Sign mark.Close) ∷ a)
more_row_none d k a (Lang.gives_is e r) = Lang.more_row_is d k types.none r

allow_more_row : (d k : ℕ) (m : Mark) → Allows (Machine.MoreRow d k) (Sign m) (Machine.more_row_mark d k m)
allow_more_row d k mark.Comma = more_row_next d k
allow_more_row d k mark.Close = λ a l. more_row_none d k a (only _ a l)
allow_more_row d k _ = tt

gives_some : (d : ℕ) (a : Line) → Lang.Lang (Machine.Ty None d) a → Lang.Lang (Machine.Gives d) (plain (Sign mark.Arrow) ∷ a)
gives_some d a (Lang.type_is x e t) = Lang.gives_is d (gives t)

allow_gives : (d : ℕ) (m : Mark) → Allows (Machine.Gives d) (Sign m) (Machine.gives_mark d m)
allow_gives d mark.Arrow = λ a l. gives_some d a (only _ a l)
allow_gives d _ = Lang.gives_is d nothing

-- lists in declarations

abbrev binding : List ℕ → PlainType → PlainBinding
binding w t = record { name = w; ty = t }

fields_next : (k : ℕ) (a : Line) → Langs (Machine.Word (counted k 64 limit.Field None) ∷ Machine.Mk mark.Colon ∷ Machine.Ty None 0 ∷ Machine.MoreFields (k + 1) ∷ []) a → Lang.Lang (Machine.MoreFields k) (plain (Sign mark.Comma) ∷ a)
fields_next k a (some (Lang.word_is x w) (some (Lang.mark_is m) (some (Lang.type_is y d t) (some (Lang.more_fields_is j ss) none)))) = lang_same _ _ _ (Lang.more_fields_is k (binding w t ∷ ss)) (simp (append_assoc, append-nil))

allow_more_fields : (k : ℕ) (m : Mark) → Allows (Machine.MoreFields k) (Sign m) (Machine.more_fields_mark k m)
allow_more_fields k mark.Comma = fields_next k
allow_more_fields k mark.CloseBrace = at_end _ _ (Lang.more_fields_is k [])
allow_more_fields k _ = tt

params_none : (a : Line) → Langs (Machine.body 0) a → Lang.Lang Machine.Params (plain (Sign mark.Close) ∷ a)
params_none a (some (Lang.gives_is d r) (some (Lang.mark_is m) (some (Lang.locals_is k p ls rs b bs) none))) = lang_same _ _ _ (Lang.params_is [] r ls rs b bs) (simp append-nil)

params_from : (w : List ℕ) (t : PlainType) (b : Line) → Lang.Lang (Machine.MoreParams 1) b → Lang.Lang Machine.Params (name w ∷ plain (Sign mark.Colon) ∷ (type_tokens None 0 t ++ b))
params_from w t b (Lang.more_params_is k ps n r ls rs c cs e) =
    let q : n ≡ length (binding w t ∷ ps) = omega arith in
    rw q (lang_same _ _ _ (Lang.params_is (binding w t ∷ ps) r ls rs c cs) (ap (λ z. name w ∷ plain (Sign mark.Colon) ∷ z) (append_assoc (type_tokens None 0 t) (more_bindings limit.Param 1 4 ps) (behind_params (length (binding w t ∷ ps)) r ls rs c cs))))

params_some : (w : List ℕ) (a : Line) → Langs (Machine.Mk mark.Colon ∷ Machine.Ty None 0 ∷ Machine.MoreParams 1 ∷ []) a → Lang.Lang Machine.Params (name w ∷ a)
params_some w a (some (Lang.mark_is m) (some (Lang.type_is x d t) (some {a = b} r none))) = rw (append-nil b) (params_from w t b r)

allow_params_mark : (m : Mark) → Allows Machine.Params (Sign m) (Machine.params_mark m)
allow_params_mark mark.Close = params_none
allow_params_mark _ = tt

more_params_from : (k : ℕ) (w : List ℕ) (t : PlainType) (b : Line) → Lang.Lang (Machine.MoreParams (k + 1)) b
    → Lang.Lang (Machine.MoreParams k) (plain (Sign mark.Comma) ∷ marked (Name w) (or_else (counted k 4 limit.Param None) (word_excess w)) ∷ plain (Sign mark.Colon) ∷ (type_tokens None 0 t ++ b))
more_params_from k w t b (Lang.more_params_is j ps n r ls rs c cs e) =
    let q : n ≡ k + length (binding w t ∷ ps) = omega arith in
    lang_same _ _ _ (Lang.more_params_is k (binding w t ∷ ps) n r ls rs c cs q)
    (ap (λ z. plain (Sign mark.Comma) ∷ marked (Name w) (or_else (counted k 4 limit.Param None) (word_excess w)) ∷ plain (Sign mark.Colon) ∷ z) (append_assoc (type_tokens None 0 t) (more_bindings limit.Param (k + 1) 4 ps) (behind_params n r ls rs c cs)))

more_params_next : (k : ℕ) (a : Line) → Langs (Machine.Word (counted k 4 limit.Param None) ∷ Machine.Mk mark.Colon ∷ Machine.Ty None 0 ∷ Machine.MoreParams (k + 1) ∷ []) a → Lang.Lang (Machine.MoreParams k) (plain (Sign mark.Comma) ∷ a)
more_params_next k a (some (Lang.word_is x w) (some (Lang.mark_is m) (some (Lang.type_is y d t) (some {a = b} r none)))) = rw (append-nil b) (more_params_from k w t b r)

more_params_none : (k : ℕ) (a : Line) → Langs (Machine.body k) a → Lang.Lang (Machine.MoreParams k) (plain (Sign mark.Close) ∷ a)
more_params_none k a (some (Lang.gives_is d r) (some (Lang.mark_is m) (some (Lang.locals_is j p ls rs b bs) none))) =
    let q : k ≡ k + length {A = PlainBinding} [] = omega arith in
    lang_same _ _ _ (Lang.more_params_is k [] k r ls rs b bs q) (simp append-nil)

allow_more_params : (k : ℕ) (m : Mark) → Allows (Machine.MoreParams k) (Sign m) (Machine.more_params_mark k m)
allow_more_params k mark.Comma = more_params_next k
allow_more_params k mark.Close = more_params_none k
allow_more_params k _ = tt

-- blocks

block_shape : (i b c : List Line) (t : Line) → joined (((i ++ (t ∷ [])) ++ b) ++ c) ≡ joined (i ++ (t ∷ (b ++ c)))
block_shape i b c t = simp append_assoc

first_from : (k n : ℕ) (w : List ℕ) (b : Line) → Lang.Lang (Machine.Insts (k + 1) n) b → Lang.Lang (Machine.First k n) (marked (Name w) (or_else (counted k 1024 limit.Block None) (word_excess w)) ∷ plain (Sign mark.Colon) ∷ b)
first_from k n w b (Lang.insts_is j i is t bs m e) =
    rw e (lang_same _ _ _ (Lang.first_is k n (record { label = w; insts = is; term = t }) bs)
    (ap (λ z. marked (Name w) (or_else (counted k 1024 limit.Block None) (word_excess w)) ∷ plain (Sign mark.Colon) ∷ z) (block_shape (inst_lines n is) (block_lines (k + 1) (n + length is) bs) (close_line ∷ []) (term_line t))))

first_some : (k n : ℕ) (w : List ℕ) (a : Line) → Langs (Machine.Mk mark.Colon ∷ Machine.Insts (k + 1) n ∷ []) a → Lang.Lang (Machine.First k n) (marked (Name w) (or_else (counted k 1024 limit.Block None) (word_excess w)) ∷ a)
first_some k n w a (some (Lang.mark_is m) (some {a = b} r none)) = rw (append-nil b) (first_from k n w b r)

allow_first : (k n : ℕ) (t : Token) → Allows (Machine.First k n) t (Machine.first_move k n t)
allow_first k n (Name w) = first_some k n w
allow_first k n _ = tt

blocks_first : (k n : ℕ) (a : Line) → Lang.Lang (Machine.First k n) a → Lang.Lang (Machine.Blocks k n) a
blocks_first k n a (Lang.first_is j i b bs) = Lang.blocks_is k n (b ∷ bs)

allow_blocks_mark : (k n : ℕ) (m : Mark) → Allows (Machine.Blocks k n) (Sign m) (Machine.blocks_mark m)
allow_blocks_mark k n mark.CloseBrace = at_end _ _ (Lang.blocks_is k n [])
allow_blocks_mark k n _ = tt

allow_blocks : (k n : ℕ) (t : Token) → Allows (Machine.Blocks k n) t (Machine.blocks_move k n t)
allow_blocks k n (Name w) = λ a l. blocks_first k n _ (first_some k n w a l)
allow_blocks k n (Sign m) = allow_blocks_mark k n m
allow_blocks k n _ = tt

ret_blocks : (k n : ℕ) (a : Line) → Lang.Lang (Machine.Blocks k n) a → Lang.Lang (Machine.AfterRet k n) a
ret_blocks k n a (Lang.blocks_is j i bs) = Lang.after_ret_is k n None bs

ret_register : (k n : ℕ) (w : List ℕ) (a : Line) → Lang.Lang (Machine.Blocks k n) a → Lang.Lang (Machine.AfterRet k n) (name w ∷ a)
ret_register k n w a (Lang.blocks_is j i bs) = Lang.after_ret_is k n (Some w) bs

allow_ret_mark : (k n : ℕ) (m : Mark) → Allows (Machine.AfterRet k n) (Sign m) (Machine.blocks_mark m)
allow_ret_mark k n mark.CloseBrace = at_end _ _ (Lang.after_ret_is k n None [])
allow_ret_mark k n _ = tt

allow_after_ret : (k n : ℕ) (t : Token) (c : Bool) → Allows (Machine.AfterRet k n) t (Machine.after_ret_move k n t c)
allow_after_ret k n (Name w) true = λ a l. ret_blocks k n _ (blocks_first k n _ (first_some k n w a l))
allow_after_ret k n (Name w) false = λ a l. ret_register k n w a (only _ a l)
allow_after_ret k n (Sign m) true = allow_ret_mark k n m
allow_after_ret k n (Sign m) false = allow_ret_mark k n m
allow_after_ret k n _ true = tt
allow_after_ret k n _ false = tt

-- instructions

inst_from : (k n : ℕ) (i : Inst) (b : Line) → Lang.Lang (Machine.Insts k (n + 1)) b → Lang.Lang (Machine.Insts k n) (inst_line (Machine.inst_excess n) i ++ b)
inst_from k n i b (Lang.insts_is j h is t bs m e) =
    let q : m ≡ n + length (i ∷ is) = omega arith in
    Lang.insts_is k n (i ∷ is) t bs m q

-- an instruction that puts a value into a register
pub record Assigned (w : List ℕ) (v : Line) : Type 0 where
  pub made : Inst
  pub line : (x : Option Excess) → inst_line x made ≡ marked (Name w) (or_else x (word_excess w)) ∷ plain (Sign mark.Equal) ∷ v

call_line : (as_ : List (List ℕ)) → arguments as_ ≡ plain (Sign mark.Open) ∷ Lang.args_tokens as_
call_line [] = refl
call_line (a ∷ as_) = refl

assigned : (w : List ℕ) (v : Line) → Lang.Lang Machine.Value v → Assigned w v
assigned w v (Lang.const_is n) = record { made = inst.Const w n; line = λ x. refl }
assigned w v (Lang.move_is a) = record { made = inst.Move w a; line = λ x. refl }
assigned w v (Lang.bin_is op a b) = record { made = inst.Bin op w a b; line = λ x. refl }
assigned w v (Lang.cmp_is op a b) = record { made = inst.Cmp op w a b; line = λ x. refl }
assigned w v (Lang.addr_is a) = record { made = inst.Addr w a; line = λ x. refl }
assigned w v (Lang.faddr_is a) = record { made = inst.FAddr w a; line = λ x. refl }
assigned w v (Lang.elem_is a b) = record { made = inst.Elem w a b; line = λ x. refl }
assigned w v (Lang.field_is a b) = record { made = inst.Field w a b; line = λ x. refl }
assigned w v (Lang.load_is a) = record { made = inst.Load w a; line = λ x. refl }
assigned w v (Lang.call_is f as_) =
    record { made = inst.Call (Some w) f as_; line = λ x. ap (λ z. marked (Name w) (or_else x (word_excess w)) ∷ plain (Sign mark.Equal) ∷ plain (Key key.Call) ∷ name f ∷ z) (call_line as_) }
assigned w v (Lang.icall_is f as_) =
    record { made = inst.ICall (Some w) f as_; line = λ x. ap (λ z. marked (Name w) (or_else x (word_excess w)) ∷ plain (Sign mark.Equal) ∷ plain (Key key.Icall) ∷ name f ∷ z) (call_line as_) }

assign_some : (k n : ℕ) (w : List ℕ) (a : Line) → Langs (Machine.Mk mark.Equal ∷ Machine.Value ∷ Machine.Insts k (n + 1) ∷ []) a → Lang.Lang (Machine.Insts k n) (marked (Name w) (or_else (Machine.inst_excess n) (word_excess w)) ∷ a)
assign_some k n w a (some (Lang.mark_is m) (some {a = v} l (some {a = b} r none))) =
    let i = assigned w v l in
    lang_same _ _ _ (inst_from k n i.made b r) (ap (λ z. z ++ b) (i.line (Machine.inst_excess n)) ∙ ap (λ z. marked (Name w) (or_else (Machine.inst_excess n) (word_excess w)) ∷ plain (Sign mark.Equal) ∷ (v ++ z)) (sym (append-nil b)))

store_some : (k n : ℕ) (a : Line) → Langs (Machine.Word None ∷ Machine.Mk mark.Comma ∷ Machine.Word None ∷ Machine.Insts k (n + 1) ∷ []) a → Lang.Lang (Machine.Insts k n) (marked (Key key.Store) (Machine.inst_excess n) ∷ a)
store_some k n a (some (Lang.word_is x v) (some (Lang.mark_is m) (some (Lang.word_is y w) (some {a = b} r none)))) = rw (append-nil b) (inst_from k n (inst.Store v w) b r)

args_from : (f : List ℕ) (as_ : List (List ℕ)) (t : Marked) (b : Line) → (t ∷ name f ∷ arguments as_) ++ b ≡ t ∷ name f ∷ plain (Sign mark.Open) ∷ (Lang.args_tokens as_ ++ (b ++ []))
args_from f as_ t b = rw (append-nil b, call_line as_) refl

call_some : (k n : ℕ) (a : Line) → Langs (Machine.Word None ∷ Machine.Mk mark.Open ∷ Machine.Args ∷ Machine.Insts k (n + 1) ∷ []) a → Lang.Lang (Machine.Insts k n) (marked (Key key.Call) (Machine.inst_excess n) ∷ a)
call_some k n a (some (Lang.word_is x f) (some (Lang.mark_is m) (some (Lang.args_is as_) (some {a = b} r none)))) = lang_same _ _ _ (inst_from k n (inst.Call None f as_) b r) (args_from f as_ (marked (Key key.Call) (Machine.inst_excess n)) b)

icall_some : (k n : ℕ) (a : Line) → Langs (Machine.Word None ∷ Machine.Mk mark.Open ∷ Machine.Args ∷ Machine.Insts k (n + 1) ∷ []) a → Lang.Lang (Machine.Insts k n) (marked (Key key.Icall) (Machine.inst_excess n) ∷ a)
icall_some k n a (some (Lang.word_is x f) (some (Lang.mark_is m) (some (Lang.args_is as_) (some {a = b} r none)))) = lang_same _ _ _ (inst_from k n (inst.ICall None f as_) b r) (args_from f as_ (marked (Key key.Icall) (Machine.inst_excess n)) b)

none_more : (n : ℕ) → n ≡ n + length {A = Inst} []
none_more n = omega arith

jump_some : (k n : ℕ) (a : Line) → Langs (Machine.Word None ∷ Machine.Blocks k n ∷ []) a → Lang.Lang (Machine.Insts k n) (plain (Key key.Jump) ∷ a)
jump_some k n a (some (Lang.word_is x w) (some (Lang.blocks_is j i bs) none)) = lang_same _ _ _ (Lang.insts_is k n [] (term.Jump w) bs n (none_more n)) (simp append-nil)

branch_some : (k n : ℕ) (a : Line) → Langs (Machine.Word None ∷ Machine.Word None ∷ Machine.Word None ∷ Machine.Blocks k n ∷ []) a → Lang.Lang (Machine.Insts k n) (plain (Key key.Branch) ∷ a)
branch_some k n a (some (Lang.word_is x u) (some (Lang.word_is y v) (some (Lang.word_is z w) (some (Lang.blocks_is j i bs) none)))) = lang_same _ _ _ (Lang.insts_is k n [] (term.Branch u v w) bs n (none_more n)) (simp append-nil)

ret_some : (k n : ℕ) (a : Line) → Lang.Lang (Machine.AfterRet k n) a → Lang.Lang (Machine.Insts k n) (plain (Key key.Ret) ∷ a)
ret_some k n a (Lang.after_ret_is j i None bs) = Lang.insts_is k n [] (term.Ret None) bs n (none_more n)
ret_some k n a (Lang.after_ret_is j i (Some r) bs) = Lang.insts_is k n [] (term.Ret (Some r)) bs n (none_more n)

allow_inst_key : (k n : ℕ) (w : Keyword) → Allows (Machine.Insts k n) (Key w) (Machine.inst_key k n w)
allow_inst_key k n key.Store = store_some k n
allow_inst_key k n key.Call = call_some k n
allow_inst_key k n key.Icall = icall_some k n
allow_inst_key k n key.Jump = jump_some k n
allow_inst_key k n key.Branch = branch_some k n
allow_inst_key k n key.Ret = λ a l. ret_some k n a (only _ a l)
allow_inst_key k n _ = tt

allow_insts : (k n : ℕ) (t : Token) → Allows (Machine.Insts k n) t (Machine.inst_move k n t)
allow_insts k n (Name w) = assign_some k n w
allow_insts k n (Key w) = allow_inst_key k n w
allow_insts k n _ = tt

two_some : (m : Marked) → ((a b : List ℕ) → Lang.Lang Machine.Value (m ∷ Lang.two a b)) → (l : Line) → Langs Machine.two_words l → Lang.Lang Machine.Value (m ∷ l)
two_some m f l (some (Lang.word_is x a) (some (Lang.mark_is c) (some (Lang.word_is y b) none))) = f a b

one_some : (m : Marked) → ((a : List ℕ) → Lang.Lang Machine.Value (m ∷ name a ∷ [])) → (l : Line) → Langs (Machine.Word None ∷ []) l → Lang.Lang Machine.Value (m ∷ l)
one_some m f l (some (Lang.word_is x a) none) = f a

called_some : (m : Marked) → ((f : List ℕ) (as_ : List (List ℕ)) → Lang.Lang Machine.Value (m ∷ Lang.call_tokens f as_)) → (l : Line) → Langs Machine.call_rest l → Lang.Lang Machine.Value (m ∷ l)
called_some m g l (some (Lang.word_is x f) (some (Lang.mark_is c) (some (Lang.args_is as_) none))) = lang_same _ _ _ (g f as_) (simp append-nil)

allow_value_key : (w : Keyword) → Allows Machine.Value (Key w) (Machine.value_key w)
allow_value_key key.Addr = one_some _ Lang.addr_is
allow_value_key key.Faddr = one_some _ Lang.faddr_is
allow_value_key key.Elem = two_some _ Lang.elem_is
allow_value_key key.Field = two_some _ Lang.field_is
allow_value_key key.Load = one_some _ Lang.load_is
allow_value_key key.Call = called_some _ Lang.call_is
allow_value_key key.Icall = called_some _ Lang.icall_is
allow_value_key _ = tt

allow_value : (t : Token) → Allows Machine.Value t (Machine.value_move t)
allow_value (Number n) = at_end _ _ (Lang.const_is n)
allow_value (Name w) = at_end _ _ (Lang.move_is w)
allow_value (Operation op) = two_some _ (Lang.bin_is op)
allow_value (Comparison op) = two_some _ (Lang.cmp_is op)
allow_value (Key k) = allow_value_key k
allow_value _ = tt

args_first : (w : List ℕ) (a : Line) → Lang.Lang (Machine.MoreArgs 1) a → Lang.Lang Machine.Args (name w ∷ a)
args_first w a (Lang.more_args_is k as_) = Lang.args_is (w ∷ as_)

allow_args_mark : (m : Mark) → Allows Machine.Args (Sign m) (Machine.args_mark m)
allow_args_mark mark.Close = at_end _ _ (Lang.args_is [])
allow_args_mark _ = tt

allow_args : (t : Token) → Allows Machine.Args t (Machine.args_move t)
allow_args (Sign m) = allow_args_mark m
allow_args (Name w) = λ a l. args_first w a (only _ a l)
allow_args _ = tt

args_next : (k : ℕ) (a : Line) → Langs (Machine.Word (counted k 4 limit.Param None) ∷ Machine.MoreArgs (k + 1) ∷ []) a → Lang.Lang (Machine.MoreArgs k) (plain (Sign mark.Comma) ∷ a)
args_next k a (some (Lang.word_is x w) (some (Lang.more_args_is j as_) none)) = lang_same _ _ _ (Lang.more_args_is k (w ∷ as_)) (simp append-nil)

allow_more_args : (k : ℕ) (m : Mark) → Allows (Machine.MoreArgs k) (Sign m) (Machine.more_args_mark k m)
allow_more_args k mark.Comma = args_next k
allow_more_args k mark.Close = at_end _ _ (Lang.more_args_is k [])
allow_more_args k _ = tt

-- declarations

funcs_from : (k n : ℕ) (w : List ℕ) (ps : List PlainBinding) (r : PlainResult) (ls rs : List PlainBinding) (b : Block) (bs : List Block) (rest : Line) → Lang.Lang (Machine.Funcs k (n + 1)) rest
    → Lang.Lang (Machine.Funcs k n) (marked (Key key.Func) (counted n 1024 limit.Function None) ∷ name w ∷ plain (Sign mark.Open) ∷ ((bindings_tokens limit.Param 4 ps ++ behind_params (length ps) r ls rs b bs) ++ rest))
funcs_from k n w ps r ls rs b bs rest (Lang.funcs_is j i fs files m e h g) =
    let q : m ≡ n + length (record { name = w; params = ps; outcome = r; locals = ls; regs = rs; blocks = b ∷ bs } ∷ fs) = omega arith in
    let s : 0 < length (b ∷ bs) = omega arith in
    lang_same _ _ _ (Lang.funcs_is k n (record { name = w; params = ps; outcome = r; locals = ls; regs = rs; blocks = b ∷ bs } ∷ fs) files m q (s, h) g)
    (ap (λ z. marked (Key key.Func) (counted n 1024 limit.Function None) ∷ name w ∷ plain (Sign mark.Open) ∷ z)
    (sym (func_flat (bindings_tokens limit.Param 4 ps) (result_tokens 0 r) (plain (Sign mark.Close)) (plain (Sign mark.OpenBrace)) (local_lines 0 ls) (reg_lines (length ps) rs) (block_lines 0 0 (b ∷ bs)) (close_line ∷ []) (funcs_lines (n + 1) fs) (close_line ∷ file_lines k m files))))

funcs_some : (k n : ℕ) (a : Line) → Langs (Machine.Word None ∷ Machine.Mk mark.Open ∷ Machine.Params ∷ Machine.Funcs k (n + 1) ∷ []) a → Lang.Lang (Machine.Funcs k n) (marked (Key key.Func) (counted n 1024 limit.Function None) ∷ a)
funcs_some k n a (some (Lang.word_is x w) (some (Lang.mark_is m) (some (Lang.params_is ps r ls rs b bs) (some {a = c} l none)))) = rw (append-nil c) (funcs_from k n w ps r ls rs b bs c l)

allow_funcs_key : (k n : ℕ) (w : Keyword) → Allows (Machine.Funcs k n) (Key w) (Machine.funcs_key k n w)
allow_funcs_key k n key.Func = funcs_some k n
allow_funcs_key k n _ = tt

funcs_none : (k n : ℕ) (a : Line) → Lang.Lang (Machine.Files k n) a → Lang.Lang (Machine.Funcs k n) (plain (Sign mark.CloseBrace) ∷ a)
funcs_none k n a (Lang.files_is j i files g) =
    let q : n ≡ n + length {A = PlainFunc} [] = omega arith in
    Lang.funcs_is k n [] files n q tt g

allow_funcs_mark : (k n : ℕ) (m : Mark) → Allows (Machine.Funcs k n) (Sign m) (Machine.funcs_mark k n m)
allow_funcs_mark k n mark.CloseBrace = λ a l. funcs_none k n a (only _ a l)
allow_funcs_mark k n _ = tt

file_shape : (f g : List Line) → joined (f ++ (close_line ∷ g)) ≡ joined ((f ++ (close_line ∷ [])) ++ g)
file_shape f g = simp append_assoc

files_from : (k n : ℕ) (w : List ℕ) (b : Line) → Lang.Lang (Machine.Funcs (k + 1) n) b → Lang.Lang (Machine.Files k n) (marked (Key key.File) (counted k 1024 limit.File None) ∷ name w ∷ plain (Sign mark.OpenBrace) ∷ b)
files_from k n w b (Lang.funcs_is j i fs files m e h g) =
    rw e (lang_same _ _ _ (Lang.files_is k n (record { name = w; funcs = fs } ∷ files) (h, g))
    (ap (λ z. marked (Key key.File) (counted k 1024 limit.File None) ∷ name w ∷ plain (Sign mark.OpenBrace) ∷ z) (sym (file_shape (funcs_lines n fs) (file_lines (k + 1) (n + length fs) files)))))

files_some : (k n : ℕ) (a : Line) → Langs (Machine.Word None ∷ Machine.Mk mark.OpenBrace ∷ Machine.Funcs (k + 1) n ∷ []) a → Lang.Lang (Machine.Files k n) (marked (Key key.File) (counted k 1024 limit.File None) ∷ a)
files_some k n a (some (Lang.word_is x w) (some (Lang.mark_is m) (some {a = b} l none))) = rw (append-nil b) (files_from k n w b l)

allow_files_key : (k n : ℕ) (w : Keyword) → Allows (Machine.Files k n) (Key w) (Machine.files_key k n w)
allow_files_key k n key.File = files_some k n
allow_files_key k n _ = tt

-- what may stand for one symbol may stand for another
widened : (s q : Symbol) (t : Token) (m : Move) → ((a : Line) → Lang.Lang s a → Lang.Lang q a) → Allows s t m → Allows q t m
widened s q t (Go e more) f h = λ a l. f (marked t e ∷ a) (h a l)
widened s q t Stop f h = tt
widened s q t Skip f h = f [] h

globals_files : (k : ℕ) (a : Line) → Lang.Lang (Machine.Files 0 0) a → Lang.Lang (Machine.Globals k) a
globals_files k a (Lang.files_is i j files h) = Lang.globals_is k [] files h

init_globals : (k : ℕ) (a : Line) → Lang.Lang (Machine.Globals k) a → Lang.Lang (Machine.Init k) a
init_globals k a (Lang.globals_is j gs files h) = Lang.init_is k [] gs files h

periphs_globals : (k : ℕ) (a : Line) → Lang.Lang (Machine.Globals 0) a → Lang.Lang (Machine.Periphs k) a
periphs_globals k a (Lang.globals_is j gs files h) = Lang.periphs_is k [] gs files h

structs_periphs : (k : ℕ) (a : Line) → Lang.Lang (Machine.Periphs 0) a → Lang.Lang (Machine.Structs k) a
structs_periphs k a (Lang.periphs_is j ps gs files h) = Lang.structs_is k [] ps gs files tt h

const_some : (k : ℕ) (a : Line) → Langs (Machine.Kw key.Global ∷ Machine.global_rest k) a → Lang.Lang (Machine.Globals k) (marked (Key key.Const) (Machine.global_excess k) ∷ a)
const_some k a (some (Lang.key_is w) (some (Lang.word_is x n) (some (Lang.mark_is m) (some (Lang.type_is y d t) (some (Lang.init_is j cs gs files h) none))))) =
    lang_same _ _ _ (Lang.globals_is k (record { name = n; constant = true; ty = t; init = cs } ∷ gs) files h) (simp (append_assoc, append-nil))

global_some : (k : ℕ) (a : Line) → Langs (Machine.global_rest k) a → Lang.Lang (Machine.Globals k) (marked (Key key.Global) (Machine.global_excess k) ∷ a)
global_some k a (some (Lang.word_is x n) (some (Lang.mark_is m) (some (Lang.type_is y d t) (some (Lang.init_is j cs gs files h) none)))) =
    lang_same _ _ _ (Lang.globals_is k (record { name = n; constant = false; ty = t; init = cs } ∷ gs) files h) (simp (append_assoc, append-nil))

allow_globals_key : (k : ℕ) (w : Keyword) → Allows (Machine.Globals k) (Key w) (Machine.globals_key k w)
allow_globals_key k key.Const = const_some k
allow_globals_key k key.Global = global_some k
allow_globals_key k w = widened (Machine.Files 0 0) (Machine.Globals k) (Key w) (Machine.files_key 0 0 w) (globals_files k) (allow_files_key 0 0 w)

init_some : (k : ℕ) (a : Line) → Langs (Machine.Mk mark.OpenBrace ∷ Machine.CellAt 0 ∷ Machine.MoreCells 1 ∷ Machine.Globals k ∷ []) a → Lang.Lang (Machine.Init k) (plain (Sign mark.Equal) ∷ a)
init_some k a (some (Lang.mark_is m) (some (Lang.cell_is i c) (some (Lang.more_cells_is j cs) (some (Lang.globals_is h gs files g) none)))) = lang_same _ _ _ (Lang.init_is k (c ∷ cs) gs files g) (simp (append_assoc, append-nil))

allow_init_mark : (k : ℕ) (m : Mark) → Allows (Machine.Init k) (Sign m) (Machine.init_mark k m)
allow_init_mark k mark.Equal = init_some k
allow_init_mark k _ = tt

function_cell : (k : ℕ) (a : Line) → Langs (Machine.Word None ∷ []) a → Lang.Lang (Machine.CellAt k) (marked (Key key.Fn) (Machine.cell_excess k) ∷ a)
function_cell k a (some (Lang.word_is x w) none) = Lang.cell_is k (cell.Function w)

address_cell : (k : ℕ) (a : Line) → Langs (Machine.Word None ∷ []) a → Lang.Lang (Machine.CellAt k) (marked (Key key.Addr) (Machine.cell_excess k) ∷ a)
address_cell k a (some (Lang.word_is x w) none) = Lang.cell_is k (cell.Address w)

allow_cell_key : (k : ℕ) (w : Keyword) → Allows (Machine.CellAt k) (Key w) (Machine.cell_key k w)
allow_cell_key k key.Fn = function_cell k
allow_cell_key k key.Addr = address_cell k
allow_cell_key k _ = tt

allow_cell : (k : ℕ) (t : Token) → Allows (Machine.CellAt k) t (Machine.cell_move k t)
allow_cell k (Number n) = at_end _ _ (Lang.cell_is k (cell.Word n))
allow_cell k (Key w) = allow_cell_key k w
allow_cell k _ = tt

cells_next : (k : ℕ) (a : Line) → Langs (Machine.CellAt k ∷ Machine.MoreCells (k + 1) ∷ []) a → Lang.Lang (Machine.MoreCells k) (plain (Sign mark.Comma) ∷ a)
cells_next k a (some (Lang.cell_is i c) (some (Lang.more_cells_is j cs) none)) = lang_same _ _ _ (Lang.more_cells_is k (c ∷ cs)) (simp append-nil)

allow_more_cells : (k : ℕ) (m : Mark) → Allows (Machine.MoreCells k) (Sign m) (Machine.more_cells_mark k m)
allow_more_cells k mark.Comma = cells_next k
allow_more_cells k mark.CloseBrace = at_end _ _ (Lang.more_cells_is k [])
allow_more_cells k _ = tt

periph_some : (k : ℕ) (a : Line) → Langs (Machine.Word None ∷ Machine.Num ∷ Machine.Num ∷ Machine.Periphs (k + 1) ∷ []) a → Lang.Lang (Machine.Periphs k) (marked (Key key.Periph) (counted k 64 limit.Periph None) ∷ a)
periph_some k a (some (Lang.word_is x w) (some (Lang.num_is b) (some (Lang.num_is s) (some (Lang.periphs_is j ps gs files h) none)))) =
    lang_same _ _ _ (Lang.periphs_is k (record { name = w; base = b; size = s } ∷ ps) gs files h) (simp append-nil)

allow_periphs_key : (k : ℕ) (w : Keyword) → Allows (Machine.Periphs k) (Key w) (Machine.periphs_key k w)
allow_periphs_key k key.Periph = periph_some k
allow_periphs_key k w = widened (Machine.Globals 0) (Machine.Periphs k) (Key w) (Machine.globals_key 0 w) (periphs_globals k) (allow_globals_key 0 w)

struct_some : (k : ℕ) (a : Line) → Langs (Machine.Word None ∷ Machine.Mk mark.OpenBrace ∷ Machine.Word None ∷ Machine.Mk mark.Colon ∷ Machine.Ty None 0 ∷ Machine.MoreFields 1 ∷ Machine.Structs (k + 1) ∷ []) a
    → Lang.Lang (Machine.Structs k) (marked (Key key.Struct) (counted k 256 limit.Struct None) ∷ a)
struct_some k a (some (Lang.word_is x n) (some (Lang.mark_is m) (some (Lang.word_is y w) (some (Lang.mark_is o) (some (Lang.type_is z d t) (some (Lang.more_fields_is j fs) (some (Lang.structs_is i ss ps gs files e h) none))))))) =
    let s : 0 < length (binding w t ∷ fs) = omega arith in
    lang_same _ _ _ (Lang.structs_is k (record { name = n; fields = binding w t ∷ fs } ∷ ss) ps gs files (s, e) h) (simp (append_assoc, append-nil))

allow_structs_key : (k : ℕ) (w : Keyword) → Allows (Machine.Structs k) (Key w) (Machine.structs_key k w)
allow_structs_key k key.Struct = struct_some k
allow_structs_key k w = widened (Machine.Periphs 0) (Machine.Structs k) (Key w) (Machine.periphs_key 0 w) (structs_periphs k) (allow_periphs_key 0 w)

regs_first : (k : ℕ) (a : Line) → Lang.Lang (Machine.First 0 0) a → Lang.Lang (Machine.Regs k) a
regs_first k a (Lang.first_is i j b bs) = Lang.regs_is k [] b bs

reg_some : (k : ℕ) (a : Line) → Langs (Machine.Word None ∷ Machine.Mk mark.Colon ∷ Machine.Ty None 0 ∷ Machine.Regs (k + 1) ∷ []) a → Lang.Lang (Machine.Regs k) (marked (Key key.Reg) (counted k 120 limit.Register None) ∷ a)
reg_some k a (some (Lang.word_is x w) (some (Lang.mark_is m) (some (Lang.type_is y d t) (some (Lang.regs_is j rs b bs) none)))) = lang_same _ _ _ (Lang.regs_is k (binding w t ∷ rs) b bs) (simp append-nil)

allow_regs_key : (k : ℕ) (w : Keyword) → Allows (Machine.Regs k) (Key w) (Machine.regs_key k w)
allow_regs_key k key.Reg = reg_some k
allow_regs_key k _ = tt

allow_regs : (k : ℕ) (t : Token) → Allows (Machine.Regs k) t (Machine.regs_move k t)
allow_regs k (Key w) = allow_regs_key k w
allow_regs k (Name w) = λ a l. regs_first k _ (first_some 0 0 w a l)
allow_regs k _ = tt

locals_regs : (k p : ℕ) (a : Line) → Lang.Lang (Machine.Regs p) a → Lang.Lang (Machine.Locals k p) a
locals_regs k p a (Lang.regs_is j rs b bs) = Lang.locals_is k p [] rs b bs

local_some : (k p : ℕ) (a : Line) → Langs (Machine.Word None ∷ Machine.Mk mark.Colon ∷ Machine.Ty None 0 ∷ Machine.Locals (k + 1) p ∷ []) a → Lang.Lang (Machine.Locals k p) (marked (Key key.Local) (counted k 64 limit.Local None) ∷ a)
local_some k p a (some (Lang.word_is x w) (some (Lang.mark_is m) (some (Lang.type_is y d t) (some (Lang.locals_is j q ls rs b bs) none)))) = lang_same _ _ _ (Lang.locals_is k p (binding w t ∷ ls) rs b bs) (simp append-nil)

allow_locals_key : (k p : ℕ) (w : Keyword) → Allows (Machine.Locals k p) (Key w) (Machine.locals_key k p w)
allow_locals_key k p key.Local = local_some k p
allow_locals_key k p w = widened (Machine.Regs p) (Machine.Locals k p) (Key w) (Machine.regs_key p w) (locals_regs k p) (allow_regs_key p w)

allow_locals : (k p : ℕ) (t : Token) → Allows (Machine.Locals k p) t (Machine.locals_move k p t)
allow_locals k p (Key w) = allow_locals_key k p w
allow_locals k p (Name w) = λ a l. locals_regs k p _ (regs_first p _ (first_some 0 0 w a l))
allow_locals k p _ = tt

allow_mark : (m n : Mark) → Allows (Machine.Mk m) (Sign n) (Machine.only_mark m n)
allow_mark mark.OpenBrace mark.OpenBrace = at_end _ _ (Lang.mark_is mark.OpenBrace)
allow_mark mark.CloseBrace mark.CloseBrace = at_end _ _ (Lang.mark_is mark.CloseBrace)
allow_mark mark.Open mark.Open = at_end _ _ (Lang.mark_is mark.Open)
allow_mark mark.Close mark.Close = at_end _ _ (Lang.mark_is mark.Close)
allow_mark mark.OpenSquare mark.OpenSquare = at_end _ _ (Lang.mark_is mark.OpenSquare)
allow_mark mark.CloseSquare mark.CloseSquare = at_end _ _ (Lang.mark_is mark.CloseSquare)
allow_mark mark.Comma mark.Comma = at_end _ _ (Lang.mark_is mark.Comma)
allow_mark mark.Colon mark.Colon = at_end _ _ (Lang.mark_is mark.Colon)
allow_mark mark.Equal mark.Equal = at_end _ _ (Lang.mark_is mark.Equal)
allow_mark mark.Star mark.Star = at_end _ _ (Lang.mark_is mark.Star)
allow_mark mark.Arrow mark.Arrow = at_end _ _ (Lang.mark_is mark.Arrow)
allow_mark _ _ = tt

allow_global_key : (k w : Keyword) → Allows (Machine.Kw k) (Key w) (Machine.only_global w)
allow_global_key k key.Global = at_end _ _ (Lang.key_is k)
allow_global_key k _ = tt

-- each token that a symbol takes, with what may stand behind it
pub allow : (s : Symbol) (t : Token) (c : Bool) → Allows s t (move s t c)
allow (Machine.Word x) (Name w) c = at_end _ _ (Lang.word_is x w)
allow (Machine.Word x) _ c = tt
allow (Machine.Mk m) (Sign n) c = allow_mark m n
allow (Machine.Mk m) _ c = tt
allow (Machine.Kw k) (Key w) c = allow_global_key k w
allow (Machine.Kw k) _ c = tt
allow Machine.Num (Number n) c = at_end _ _ (Lang.num_is n)
allow Machine.Num _ c = tt
allow Machine.Len (Number n) c = at_end _ _ (Lang.len_is n)
allow Machine.Len _ c = tt
allow (Machine.Ty x d) t c = allow_type x d t
allow (Machine.Row d) t c = allow_row d t
allow (Machine.MoreRow d k) (Sign m) c = allow_more_row d k m
allow (Machine.MoreRow d k) _ c = tt
allow (Machine.Gives d) (Sign m) c = allow_gives d m
allow (Machine.Gives d) _ c = Lang.gives_is d nothing
allow (Machine.MoreFields k) (Sign m) c = allow_more_fields k m
allow (Machine.MoreFields k) _ c = tt
allow Machine.Params (Sign m) c = allow_params_mark m
allow Machine.Params (Name w) c = params_some w
allow Machine.Params _ c = tt
allow (Machine.MoreParams k) (Sign m) c = allow_more_params k m
allow (Machine.MoreParams k) _ c = tt
allow (Machine.Locals k p) t c = allow_locals k p t
allow (Machine.Regs k) t c = allow_regs k t
allow (Machine.First k n) t c = allow_first k n t
allow (Machine.Insts k n) t c = allow_insts k n t
allow (Machine.AfterRet k n) t c = allow_after_ret k n t c
allow (Machine.Blocks k n) t c = allow_blocks k n t
allow Machine.Value t c = allow_value t
allow Machine.Args t c = allow_args t
allow (Machine.MoreArgs k) (Sign m) c = allow_more_args k m
allow (Machine.MoreArgs k) _ c = tt
allow (Machine.Funcs k n) (Key w) c = allow_funcs_key k n w
allow (Machine.Funcs k n) (Sign m) c = allow_funcs_mark k n m
allow (Machine.Funcs k n) _ c = tt
allow (Machine.Files k n) (Key w) c = allow_files_key k n w
allow (Machine.Files k n) _ c = tt
allow (Machine.Globals k) (Key w) c = allow_globals_key k w
allow (Machine.Globals k) _ c = tt
allow (Machine.Init k) (Key w) c = widened (Machine.Globals k) (Machine.Init k) (Key w) (Machine.globals_key k w) (init_globals k) (allow_globals_key k w)
allow (Machine.Init k) (Sign m) c = allow_init_mark k m
allow (Machine.Init k) _ c = tt
allow (Machine.CellAt k) t c = allow_cell k t
allow (Machine.MoreCells k) (Sign m) c = allow_more_cells k m
allow (Machine.MoreCells k) _ c = tt
allow (Machine.Periphs k) (Key w) c = allow_periphs_key k w
allow (Machine.Periphs k) _ c = tt
allow (Machine.Structs k) (Key w) c = allow_structs_key k w
allow (Machine.Structs k) _ c = tt

-- a token that what is expected takes, and what may stand behind it
pub stands : (st : List Symbol) (t : Token) (c : Bool) (e : Option Excess) (stack : List Symbol) → step st t c ≡ To e stack → (x : Line) → Langs stack x → Langs st (marked t e ∷ x)
stands [] t c e stack h x l = cc
stands (s ∷ st) t c e stack h x l = by_move (move s t c) (allow s t c) h (stands st t c e stack)
  where
    taken : (more : List Symbol) (f : Option Excess) → ((a : Line) → Langs more a → Lang.Lang s (marked t f ∷ a)) → f ≡ e → more ++ st ≡ stack → Langs (s ∷ st) (marked t e ∷ x)
    taken more f a i j =
        let v = divide more st x (subst (λ (z : List Symbol). Langs z x) (sym j) l) in
        let r : Langs (s ∷ st) (marked t f ∷ (v.front ++ v.back)) = some (a v.front v.first) v.second in
        subst (λ (z : Line). Langs (s ∷ st) (marked t e ∷ z)) (sym v.whole) (subst (λ (z : Option Excess). Langs (s ∷ st) (marked t z ∷ (v.front ++ v.back))) i r)

    by_move : (m : Move) → Allows s t m → stepped st t c m ≡ To e stack → (step st t c ≡ To e stack → (x : Line) → Langs stack x → Langs st (marked t e ∷ x)) → Langs (s ∷ st) (marked t e ∷ x)
    by_move (Go f more) a g again = taken more f a (let i : f ≡ e = cc in i) (let j : more ++ st ≡ stack = cc in j)
    by_move Stop a g again = cc
    by_move Skip a g again = some a (again g x l)
