-- Some tokens stand there for all that is expected.
use Rattle.std.proofs.Common.{◌≡◌, ℕ, ◌+◌, [], ◌∷◌, ◌++◌, List, Bool, true, false, refl, ◌∙◌, subst, Option, None, length, arith}
use Rattle.base_names.specs.Names.{is_reserved, reserved, declaration_words, instruction_words, type_words, operation_words, comparison_words}
use Rattle.ir_model.specs.declared.firmware.Block.{Block}
use Rattle.ir_model.specs.declared.firmware.Cell.TheVariants as cell
use Rattle.ir_model.specs.declared.firmware.Inst.{Inst}
use Rattle.ir_model.specs.declared.firmware.Term.TheVariants as term
use Rattle.ir_model.specs.declared.token.Excess.{Excess}
use Rattle.ir_model.specs.declared.token.Mark.TheVariants as mark
use Rattle.base_laws.specs.Lists.{Each}
use Rattle.ir_model.specs.Types.{U8, nothing, gives}
use Rattle.ir_model.specs.Types as types
use Rattle.ir_model.specs.Plain.{PlainBinding, PlainFunc, PlainFile}
use Rattle.ir_model.specs.Tokens.{Token, Name, Sign, Marked}
use Rattle.ir_model.specs.Lines.{Line}
use Rattle.ir_model.specs.Texts.{tokens, begins_colon, is_colon, IsFree}
use Rattle.ir_reader.specs.Machine
use Rattle.ir_reader.specs.Machine.{Symbol, Go, move, is_last}
use Rattle.ir_reader.proofs.Derive.{follows}
use Rattle.ir_reader.proofs.Lang
use Rattle.ir_reader.proofs.Lang.{Langs, none, some, Follows, next, ends, skips}
use Rattle.ir_reader.proofs.Theorem.{split}
use Rattle.base_laws.proofs.Lists.{each_both}

abbrev pub Free : Marked → Type 0
Free m = IsFree m.token

-- a short name, and what has it
abbrev letter : List ℕ
letter = 97 ∷ []

letter_free : IsFree (Name letter)
unfolding is_reserved reserved declaration_words instruction_words type_words operation_words comparison_words
letter_free = (refl, refl)

abbrev short_block : Block
short_block = record { label = letter; insts = []; term = term.Ret None }

abbrev short_file : PlainFile
short_file = record { name = letter; funcs = [] }

abbrev takes_colon : Symbol → Bool
takes_colon (Machine.Mk m) = is_colon (Sign m)
takes_colon _ = false

-- some tokens that stand for a symbol
record Filled (s : Symbol) : Type 0 where
  first : Marked
  others : Line
  stands : Lang.Lang s (first ∷ others)
  free : Each Free (first ∷ others)
  colon : is_colon first.token ≡ takes_colon s

by : (s : Symbol) (m : Marked) (ms : Line) → Lang.Lang s (m ∷ ms) → Each Free (m ∷ ms) → is_colon m.token ≡ takes_colon s → Filled s
by s m ms l f c = record { first = m; others = ms; stands = l; free = f; colon = c }

none_behind : (A : Type 0) (n : ℕ) → n ≡ n + length {A = A} []
none_behind A n = omega arith

filled : (s : Symbol) → Filled s
filled (Machine.Word x) = by _ _ _ (Lang.word_is x letter) (letter_free, tt) refl
filled (Machine.Mk m) = by _ _ _ (Lang.mark_is m) (tt, tt) refl
filled (Machine.Kw k) = by _ _ _ (Lang.key_is k) (tt, tt) refl
filled Machine.Num = by _ _ _ (Lang.num_is 0) (tt, tt) refl
filled Machine.Len = by _ _ _ (Lang.len_is 1) (tt, tt) refl
filled (Machine.Ty x d) = by _ _ _ (Lang.type_is x d U8) (tt, tt) refl
filled (Machine.Row d) = by _ _ _ (Lang.row_is d types.none nothing) (tt, tt) refl
filled (Machine.MoreRow d k) = by _ _ _ (Lang.more_row_is d k types.none nothing) (tt, tt) refl
filled (Machine.Gives d) = by _ _ _ (Lang.gives_is d (gives U8)) (tt, (tt, tt)) refl
filled (Machine.MoreFields k) = by _ _ _ (Lang.more_fields_is k []) (tt, tt) refl
filled Machine.Params = by _ _ _ (Lang.params_is [] nothing [] [] short_block []) (tt, (tt, (letter_free, (tt, (tt, (tt, tt)))))) refl
filled (Machine.MoreParams k) = by _ _ _ (Lang.more_params_is k [] k nothing [] [] short_block [] (none_behind PlainBinding k)) (tt, (tt, (letter_free, (tt, (tt, (tt, tt)))))) refl
filled (Machine.Locals k p) = by _ _ _ (Lang.locals_is k p [] [] short_block []) (letter_free, (tt, (tt, (tt, tt)))) refl
filled (Machine.Regs k) = by _ _ _ (Lang.regs_is k [] short_block []) (letter_free, (tt, (tt, (tt, tt)))) refl
filled (Machine.First k n) = by _ _ _ (Lang.first_is k n short_block []) (letter_free, (tt, (tt, (tt, tt)))) refl
filled (Machine.Insts k n) = by _ _ _ (Lang.insts_is k n [] (term.Ret None) [] n (none_behind Inst n)) (tt, (tt, tt)) refl
filled (Machine.AfterRet k n) = by _ _ _ (Lang.after_ret_is k n None []) (tt, tt) refl
filled (Machine.Blocks k n) = by _ _ _ (Lang.blocks_is k n []) (tt, tt) refl
filled Machine.Value = by _ _ _ (Lang.const_is 0) (tt, tt) refl
filled Machine.Args = by _ _ _ (Lang.args_is []) (tt, tt) refl
filled (Machine.MoreArgs k) = by _ _ _ (Lang.more_args_is k []) (tt, tt) refl
filled (Machine.Funcs k n) = by _ _ _ (Lang.funcs_is k n [] [] n (none_behind PlainFunc n) tt tt) (tt, tt) refl
filled (Machine.Files k n) = by _ _ _ (Lang.files_is k n (short_file ∷ []) (tt, tt)) (tt, (letter_free, (tt, (tt, tt)))) refl
filled (Machine.Globals k) = by _ _ _ (Lang.globals_is k [] (short_file ∷ []) (tt, tt)) (tt, (letter_free, (tt, (tt, tt)))) refl
filled (Machine.Init k) = by _ _ _ (Lang.init_is k [] [] (short_file ∷ []) (tt, tt)) (tt, (letter_free, (tt, (tt, tt)))) refl
filled (Machine.CellAt k) = by _ _ _ (Lang.cell_is k (cell.Word 0)) (tt, tt) refl
filled (Machine.MoreCells k) = by _ _ _ (Lang.more_cells_is k []) (tt, tt) refl
filled (Machine.Periphs k) = by _ _ _ (Lang.periphs_is k [] [] (short_file ∷ []) (tt, tt)) (tt, (letter_free, (tt, (tt, tt)))) refl
filled (Machine.Structs k) = by _ _ _ (Lang.structs_is k [] [] [] (short_file ∷ []) tt (tt, tt)) (tt, (letter_free, (tt, (tt, tt)))) refl

-- and for a whole stack
pub record Completed (st : List Symbol) : Type 0 where
  pub line : Line
  pub stands : Langs st line
  pub free : Each Free line

pub complete : (st : List Symbol) → Completed st
complete [] = record { line = []; stands = none; free = tt }
complete (s ∷ st) =
    let f = filled s in
    let c = complete st in
    record { line = (f.first ∷ f.others) ++ c.line; stands = some f.stands c.stands; free = each_both Free (f.first ∷ f.others) c.line f.free c.free }

-- whether a colon may be first

colon_move : (s : Symbol) (t : Token) (c : Bool) (e : Option Excess) (more : List Symbol) → move s t c ≡ Go e more → is_colon t ≡ takes_colon s
colon_move (Machine.Mk mark.Colon) (Sign mark.Colon) c e more h = refl
colon_move (Machine.Mk mark.Colon) (Sign _) c e more h = cc
colon_move (Machine.Mk mark.Colon) _ c e more h = cc
colon_move (Machine.Mk _) (Sign mark.Colon) c e more h = cc
colon_move (Machine.Mk _) (Sign _) c e more h = refl
colon_move (Machine.Mk _) _ c e more h = refl
colon_move (Machine.AfterRet k n) (Sign mark.Colon) true e more h = cc
colon_move (Machine.AfterRet k n) (Sign mark.Colon) false e more h = cc
colon_move (Machine.AfterRet k n) (Sign _) c e more h = refl
colon_move (Machine.AfterRet k n) _ c e more h = refl
colon_move _ (Sign mark.Colon) c e more h = cc
colon_move _ (Sign _) c e more h = refl
colon_move _ _ c e more h = refl

lang_colon : (s : Symbol) (m : Marked) (ms : Line) → Lang.Lang s (m ∷ ms) → is_colon m.token ≡ takes_colon s
lang_colon s m ms l = by_follows (follows s (m ∷ ms) l)
  where
    by_follows : {n : Marked} {ns : Line} → Follows s (n ∷ ns) → is_colon n.token ≡ takes_colon s
    by_follows (next n ns more h f r) = colon_move s n.token _ n.excess more (h [])

-- whether a symbol may stand for nothing
data Emptiness (s : Symbol) : Type 0 where
  empty : Lang.Lang s [] → Emptiness s
  full : (Lang.Lang s [] → ⊥) → Emptiness s

full_from : (s : Symbol) → is_last s ≡ false → ((d : ℕ) → s ≡ Machine.Gives d → ⊥) → Lang.Lang s [] → ⊥
full_from s e g l = by_follows (follows s [] l)
  where
    by_follows : Follows s [] → ⊥
    by_follows (ends i j) = cc
    by_follows (skips d i) = g d i

emptiness : (s : Symbol) → Emptiness s
emptiness (Machine.Gives d) = empty (Lang.gives_is d nothing)
emptiness (Machine.Files k n) = empty (Lang.files_is k n [] tt)
emptiness (Machine.Globals k) = empty (Lang.globals_is k [] [] tt)
emptiness (Machine.Init k) = empty (Lang.init_is k [] [] [] tt)
emptiness (Machine.Periphs k) = empty (Lang.periphs_is k [] [] [] tt)
emptiness (Machine.Structs k) = empty (Lang.structs_is k [] [] [] [] tt tt)
emptiness s = full (full_from s refl (λ d e. cc))

-- tokens that stand there with a colon first or not, as wanted, or there are none
pub data Choice (st : List Symbol) (c : Bool) : Type 0 where
  some_such : (x : Line) → Langs st x → Each Free x → begins_colon (tokens x) ≡ c → Choice st c
  none_such : ((x : Line) → Langs st x → begins_colon (tokens x) ≡ c → ⊥) → Choice st c

other_first : (s : Symbol) (st : List Symbol) → takes_colon s ≡ false → Choice (s ∷ st) false
other_first s st h =
    let f = filled s in
    let c = complete st in
    some_such ((f.first ∷ f.others) ++ c.line) (some f.stands c.stands) (each_both Free (f.first ∷ f.others) c.line f.free c.free) (f.colon ∙ h)

no_colon : (s : Symbol) (st : List Symbol) (x : Line) → takes_colon s ≡ false → (Lang.Lang s [] → (b : Line) → Langs st b → begins_colon (tokens b) ≡ true → ⊥) → Langs (s ∷ st) x → begins_colon (tokens x) ≡ true → ⊥
no_colon s st x h n l e = let p = split s st x l in by_front p.a p.b p.first p.others p.whole
  where
    by_front : (a b : Line) → Lang.Lang s a → Langs st b → x ≡ a ++ b → ⊥
    by_front [] b f r i = n f b r (subst (λ (z : Line). begins_colon (tokens z) ≡ true) i e)
    by_front (m ∷ ms) b f r i =
        let g : is_colon m.token ≡ true = subst (λ (z : Line). begins_colon (tokens z) ≡ true) i e in
        let k = lang_colon s m ms f in
        cc

colon_later : (s : Symbol) (st : List Symbol) → takes_colon s ≡ false → Emptiness s → Choice st true → Choice (s ∷ st) true
colon_later s st h (empty l) (some_such x r f e) = some_such x (some l r) f e
colon_later s st h (empty l) (none_such n) = none_such (λ x r e. no_colon s st x h (λ f b. n b) r e)
colon_later s st h (full g) c = none_such (λ x r e. no_colon s st x h (λ f b q i. g f) r e)

colon_first : (st : List Symbol) → Choice (Machine.Mk mark.Colon ∷ st) true
colon_first st =
    let f = filled (Machine.Mk mark.Colon) in
    let c = complete st in
    some_such ((f.first ∷ f.others) ++ c.line) (some f.stands c.stands) (each_both Free (f.first ∷ f.others) c.line f.free c.free) f.colon

always_colon : (st : List Symbol) (x : Line) → Langs (Machine.Mk mark.Colon ∷ st) x → begins_colon (tokens x) ≡ false → ⊥
always_colon st x (some (Lang.mark_is m) r) e = cc

nothing_first : (x : Line) → Langs [] x → begins_colon (tokens x) ≡ true → ⊥
nothing_first x none e = cc

pub choose : (st : List Symbol) (c : Bool) → Choice st c
choose [] false = some_such [] none tt refl
choose [] true = none_such nothing_first
choose (Machine.Mk mark.Colon ∷ st) false = none_such (always_colon st)
choose (Machine.Mk mark.Colon ∷ st) true = colon_first st
choose (Machine.Mk m ∷ st) false = other_first (Machine.Mk m) st refl
choose (Machine.Mk m ∷ st) true = colon_later (Machine.Mk m) st refl (emptiness (Machine.Mk m)) (choose st true)
choose (s ∷ st) false = other_first s st refl
choose (s ∷ st) true = colon_later s st refl (emptiness s) (choose st true)
