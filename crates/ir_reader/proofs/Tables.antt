-- The reserved words, and the others.
use Rattle.std.proofs.Common.{◌≡◌, ℕ, ◌<◌, [], ◌∷◌, ◌++◌, List, Bool, true, false, ◌||◌, cond, refl, sym, ap, ◌∙◌, Option, Some, None, arith, length, map, nat_le}
use Rattle.std.specs.List.{list_any}
use Rattle.std.specs.Str.{bytes_eq}
use Rattle.std.proofs.lemmas.Bool.{leb-true}
use Rattle.std.proofs.lemmas.List.Folds.{list_any-append}
use Rattle.std.proofs.lemmas.Slice.Eq.{bytes_eq-Decides}
use Rattle.base_names.specs.Names.{is_reserved, reserved, declaration_words, instruction_words, type_words, operation_words, comparison_words}
use Rattle.ir_grammar.specs.declared.vocabulary.TheConstants.{KEYWORDS, OPERATIONS, COMPARISONS}
use Rattle.ir_model.specs.declared.firmware.BinOp.{BinOp}
use Rattle.ir_model.specs.declared.firmware.CmpOp.{CmpOp}
use Rattle.ir_model.specs.declared.token.Keyword.{Keyword}
use Rattle.ir_model.specs.declared.token.Keyword.TheVariants as key
use Rattle.ir_model.specs.declared.firmware.BinOp.TheVariants as op
use Rattle.ir_model.specs.declared.firmware.CmpOp.TheVariants as cmp
use Rattle.ir_model.specs.Tokens.{Token, Name, Number, Key, Operation, Comparison, Sign, keyword_bytes, operation_bytes, comparison_bytes}
use Rattle.ir_reader.specs.Found.{Is}
use Rattle.ir_reader.specs.Words.{spelled_so, keyword_of, operation_of, comparison_of, word_token}

abbrev found : {A : Type 0} → Option A → Bool
found None = false
found (Some x) = true

-- some word of a table is this one where the table has something for it
any_of : {A : Type 0} (f : A → List ℕ) (t : List A) (w : List ℕ) → list_any (bytes_eq w) (map f t) ≡ found (spelled_so f t w)
any_of f [] w = refl
any_of f (x ∷ xs) w = by_test (bytes_eq w (f x)) (any_of f xs w)
  where
    by_test : (b : Bool) → list_any (bytes_eq w) (map f xs) ≡ found (spelled_so f xs w) → (b || list_any (bytes_eq w) (map f xs)) ≡ found (cond b (Some x) (spelled_so f xs w))
    by_test true h = refl
    by_test false h = h

reserved_words : reserved ≡ map keyword_bytes KEYWORDS ++ (map operation_bytes OPERATIONS ++ map comparison_bytes COMPARISONS)
unfolding reserved declaration_words instruction_words type_words operation_words comparison_words
reserved_words = refl

abbrev reserved_is : Option Keyword → Option BinOp → Option CmpOp → Bool
reserved_is a b c = found a || (found b || found c)

-- a word is reserved where one of the tables has it
reserved_found : (w : List ℕ) → is_reserved w ≡ reserved_is (keyword_of w) (operation_of w) (comparison_of w)
unfolding is_reserved
reserved_found w =
    rw (
      reserved_words,
      list_any-append (bytes_eq w) (map keyword_bytes KEYWORDS) _,
      any_of keyword_bytes KEYWORDS w,
      list_any-append (bytes_eq w) (map operation_bytes OPERATIONS) _,
      any_of operation_bytes OPERATIONS w,
      any_of comparison_bytes COMPARISONS w,
    ) refl

abbrev word_is : List ℕ → Option Keyword → Option BinOp → Option CmpOp → Token
word_is w a b c =
    elim a [
      | Some k ↦ Key k
      | None ↦ elim b [ Some o ↦ Operation o | None ↦ elim c [ Some c ↦ Comparison c | None ↦ Name w ] ]
    ]

name_is : (w v : List ℕ) (a : Option Keyword) (b : Option BinOp) (c : Option CmpOp) → word_is w a b c ≡ Name v → (v ≡ w) × (reserved_is a b c ≡ false)
name_is w v (Some k) b c h = cc
name_is w v None (Some o) c h = cc
name_is w v None None (Some o) h = cc
name_is w v None None None h = (cc, refl)

-- a name is a word that is not reserved
pub name_free : (w v : List ℕ) → word_token w ≡ Name v → (v ≡ w) × (is_reserved w ≡ false)
name_free w v h = let n = name_is w v (keyword_of w) (operation_of w) (comparison_of w) h in (n.0, reserved_found w ∙ n.1)

is_name : (w : List ℕ) (a : Option Keyword) (b : Option BinOp) (c : Option CmpOp) → reserved_is a b c ≡ false → word_is w a b c ≡ Name w
is_name w (Some k) b c h = cc
is_name w None (Some o) c h = cc
is_name w None None (Some o) h = cc
is_name w None None None h = refl

pub free_name : (w : List ℕ) → is_reserved w ≡ false → word_token w ≡ Name w
free_name w h = is_name w (keyword_of w) (operation_of w) (comparison_of w) (sym (reserved_found w) ∙ h)

-- what is found of a table is spelled with these bytes
of_table : {A : Type 0} (f : A → List ℕ) (t : List A) (w : List ℕ) (x : A) → spelled_so f t w ≡ Some x → w ≡ f x
of_table f [] w x e = cc
of_table f (y ∷ ys) w x e = by_test (bytes_eq w (f y)) (bytes_eq-Decides w (f y)).0 (λ i. of_table f ys w x i) e
  where
    by_test : (b : Bool) → (b ≡ true → w ≡ f y) → (spelled_so f ys w ≡ Some x → w ≡ f x) → cond b (Some y) (spelled_so f ys w) ≡ Some x → w ≡ f x
    by_test true i again e = let same : y ≡ x = cc in i refl ∙ ap f same
    by_test false i again e = again e

-- the bytes spell the token
abbrev pub IsSpelled : List ℕ → Token → Type 0
IsSpelled w (Name v) = v ≡ w
IsSpelled w (Number n) = ⊥
IsSpelled w (Key k) = w ≡ keyword_bytes k
IsSpelled w (Operation o) = w ≡ operation_bytes o
IsSpelled w (Comparison c) = w ≡ comparison_bytes c
IsSpelled w (Sign m) = ⊥

word_spelled : (w : List ℕ) (a : Option Keyword) (b : Option BinOp) (c : Option CmpOp)
    → ((k : Keyword) → a ≡ Some k → w ≡ keyword_bytes k) → ((k : BinOp) → b ≡ Some k → w ≡ operation_bytes k) → ((k : CmpOp) → c ≡ Some k → w ≡ comparison_bytes k)
    → IsSpelled w (word_is w a b c)
word_spelled w (Some k) b c p q r = p k refl
word_spelled w None (Some o) c p q r = q o refl
word_spelled w None None (Some o) p q r = r o refl
word_spelled w None None None p q r = refl

pub word_is_spelled : (w : List ℕ) → IsSpelled w (word_token w)
word_is_spelled w =
    word_spelled w (keyword_of w) (operation_of w) (comparison_of w)
    (λ k e. of_table keyword_bytes KEYWORDS w k e) (λ k e. of_table operation_bytes OPERATIONS w k e) (λ k e. of_table comparison_bytes COMPARISONS w k e)

-- no reserved word has more than six bytes
short_keyword : (k : Keyword) → nat_le (length (keyword_bytes k)) 6 ≡ true
short_keyword key.Struct = refl
short_keyword _ = refl

short_operation : (k : BinOp) → nat_le (length (operation_bytes k)) 6 ≡ true
short_operation op.Add = refl
short_operation _ = refl

short_comparison : (k : CmpOp) → nat_le (length (comparison_bytes k)) 6 ≡ true
short_comparison cmp.Eq = refl
short_comparison _ = refl

long_is : (w : List ℕ) → 6 < length w → (t : Token) → IsSpelled w t → t ≡ Name w
long_is w l (Name v) e = ap Name e
long_is w l (Number n) e = absurd e
long_is w l (Key k) e = let q = ap length e in let s = leb-true (length (keyword_bytes k)) 6 (short_keyword k) in absurd (omega (arith, l, q, s))
long_is w l (Operation o) e = let q = ap length e in let s = leb-true (length (operation_bytes o)) 6 (short_operation o) in absurd (omega (arith, l, q, s))
long_is w l (Comparison c) e = let q = ap length e in let s = leb-true (length (comparison_bytes c)) 6 (short_comparison c) in absurd (omega (arith, l, q, s))
long_is w l (Sign m) e = absurd e

pub long_word : (w : List ℕ) → 6 < length w → Is (Name w) ≡ Is (word_token w)
long_word w l = ap Is (sym (long_is w l (word_token w) (word_is_spelled w)))

pub keyword_token : (k : Keyword) → word_token (keyword_bytes k) ≡ Key k
keyword_token key.Struct = refl
keyword_token _ = refl

pub operation_token : (k : BinOp) → word_token (operation_bytes k) ≡ Operation k
operation_token op.Add = refl
operation_token _ = refl

pub comparison_token : (k : CmpOp) → word_token (comparison_bytes k) ≡ Comparison k
comparison_token cmp.Eq = refl
comparison_token _ = refl
