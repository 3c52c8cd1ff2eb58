-- Beyond the program's claim: only laws, proofs and functions inside the tool cite this file.
-- The answer of a function that reads the front of a text.
use Rattle.std.specs.Prelude.{ℕ, List, [], ◌∷◌, ◌++◌, length, ◌≡◌, ◌<◌, Option, Some, None, Result, Ok, Err, Bool, true, false, not, nat_eq}
use Rattle.base_names.specs.Names.{is_word, is_reserved}
use Rattle.std.specs.Borrow.{Bor}
use Rattle.ir_model.specs.declared.token.Excess.{Excess}
use Rattle.ir_model.specs.declared.token.Keyword.{Keyword}
use Rattle.ir_model.specs.declared.token.Mark.{Mark}
use Rattle.base_laws.specs.Lists.{Each}
use Rattle.ir_model.specs.Plain.{PlainStruct}
use Rattle.ir_model.specs.TextLimits.{global_limit}
use Rattle.ir_model.specs.Tokens.{Name, Key, Sign}
use Rattle.ir_reader.specs.declared.error.FaultKind.TheVariants as kind
use Rattle.ir_reader.specs.declared.error.ReadError.{ReadError}
use Rattle.ir_reader.specs.declared.error.ReadError.TheVariants as errors
use Rattle.ir_reader.specs.Found.{Found, Is, Placed, finds, colon_first}
use Rattle.ir_reader.specs.Machine.{Symbol, fault, mark_number, key_number, Globals, Files, global_rest}
use Rattle.ir_grammar.specs.Spelling.{spell_constant}
use Rattle.ir_reader.specs.Spelling.{as_found}

-- the fault comes whatever is expected behind these
abbrev pub Fails : List Symbol → List Placed → ReadError → Type 0
Fails now old errors.Memory = Unit {0}
Fails now old (errors.Fault f) = (st : List Symbol) → fault (now ++ st) old ≡ Some f

-- behind what was read before, this spells the value, and in place of what was expected something else is expected behind it
pub record Passes {V : Type 0} (before : List Found) (spell : V → List Found) (now next : List Symbol) (old new : List Placed) (v : V) : Type 0 where
  pub spelled : before ++ finds old ≡ spell v ++ finds new
  pub passed : (st : List Symbol) → fault (now ++ st) old ≡ fault (next ++ st) new

abbrev pub unit : Unit {0}
unit = tt

-- the answer of a function that reads what is expected now
abbrev pub Reads : {X V : Type 0} → (X → V) → (V → List Found) → List Symbol → List Symbol → List Placed → (X → List Placed) → Result X ReadError → Type 0
Reads view spell now next old new (Ok x) = Passes [] spell now next old (new x) (view x)
Reads view spell now next old new (Err e) = Fails now old e

-- the same, where some of it was read before
abbrev pub ReadsBehind : {X V : Type 0} → List Found → (X → V) → (V → List Found) → List Symbol → List Symbol → List Placed → (X → List Placed) → Result X ReadError → Type 0
ReadsBehind before view spell now next old new (Ok x) = Passes before spell now next old (new x) (view x)
ReadsBehind before view spell now next old new (Err e) = Fails now old e

-- the same, where what is expected behind it goes by what was read
abbrev pub ReadsTo : {X V : Type 0} → (X → V) → (V → List Found) → List Symbol → (X → List Symbol) → List Placed → (X → List Placed) → Result X ReadError → Type 0
ReadsTo view spell now next old new (Ok x) = Passes [] spell now (next x) old (new x) (view x)
ReadsTo view spell now next old new (Err e) = Fails now old e

-- whether a token that passes this limit, or none, may be kept
abbrev pub Keeps : Option Excess → ℕ → Result (Unit {0}) ReadError → Type 0
Keeps x left (Ok u) = x ≡ None
Keeps x left (Err e) = (k : Excess) × (x ≡ Some k) × (e ≡ errors.Fault (record { kind = kind.Exceeds k; left = left }))

abbrev pub is_found_mark : Mark → Found → Bool
is_found_mark m (Is (Sign n)) = nat_eq (mark_number m) (mark_number n)
is_found_mark m _ = false

-- whether this mark is the first
abbrev pub mark_first : Mark → List Placed → Bool
mark_first m [] = false
mark_first m (p ∷ ps) = is_found_mark m p.found

-- the text behind a mark, if the mark is the first
abbrev pub BehindMark : Mark → List Placed → (List ℕ → List Placed) → Option (Bor (List ℕ)) → Type 0
BehindMark m old placed (Some rest) = (left : ℕ) × (old ≡ record { found = Is (Sign m); left = left } ∷ placed rest.now)
BehindMark m old placed None = mark_first m old ≡ false

abbrev pub is_found_key : Keyword → Found → Bool
is_found_key k (Is (Key w)) = nat_eq (key_number k) (key_number w)
is_found_key k _ = false

-- whether this reserved word is the first
abbrev pub key_first : Keyword → List Placed → Bool
key_first k [] = false
key_first k (p ∷ ps) = is_found_key k p.found

-- how many bytes begin with a reserved word, and the text behind it, if the word is the first
abbrev pub BehindKey : Keyword → List Placed → (List ℕ → List Placed) → Option (ℕ × Bor (List ℕ)) → Type 0
BehindKey k old placed (Some x) = old ≡ record { found = Is (Key k); left = x.0 } ∷ placed x.1.now
BehindKey k old placed None = key_first k old ≡ false

-- a global begins behind so many others, or a file
abbrev pub Starts : ℕ → List Placed → (List ℕ → List Placed) → Result (Option (Bool × Bor (List ℕ))) ReadError → Type 0
Starts k old placed (Ok (Some x)) = (k < global_limit) × Passes [] (spell_constant as_found) (Globals k ∷ []) (global_rest k) old (placed x.1.now) x.0
Starts k old placed (Ok None) = (st : List Symbol) → fault (Globals k ∷ st) old ≡ fault (Files 0 0 ∷ st) old
Starts k old placed (Err e) = Fails (Globals k ∷ []) old e

-- each struct has a field
abbrev pub HasFields : List PlainStruct → Type 0
HasFields ss = Each (λ (s : PlainStruct). 0 < length s.fields) ss

-- the same, behind any number of blocks and instructions
abbrev pub ReadsAt : {X V : Type 0} → (X → V) → (V → List Found) → (ℕ → ℕ → List Symbol) → (ℕ → ℕ → List Symbol) → List Placed → (X → List Placed) → Result X ReadError → Type 0
ReadsAt view spell now next old new (Ok x) = (k n : ℕ) → Passes [] spell (now k n) (next k n) old (new x) (view x)
ReadsAt view spell now next old new (Err e) = (k n : ℕ) → Fails (now k n) old e

-- whether a register may be the first, behind `ret`: a name that no colon follows
abbrev pub is_register : Found → Bool → Bool
is_register (Is (Name w)) c = not c
is_register _ c = false

abbrev pub register_first : List Placed → Bool
register_first [] = false
register_first (p ∷ ps) = is_register p.found (colon_first ps)

-- a word that is no label, how many bytes begin with it, and the text behind it, where one is there
abbrev pub BehindRet : List Placed → (List ℕ → List Placed) → Option (Bor (List ℕ) × ℕ × Bor (List ℕ)) → Type 0
BehindRet old placed (Some x) = (old ≡ record { found = Is (Name x.0.now); left = x.1 } ∷ placed x.2.now) × (colon_first (placed x.2.now) ≡ false) × (is_word x.0.now ≡ true) × (is_reserved x.0.now ≡ false)
BehindRet old placed None = register_first old ≡ false
