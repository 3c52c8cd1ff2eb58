-- The classes that are expected are those of the tokens that may stand there.
use Rattle.std.proofs.Common.{◌≡◌, [], ◌∷◌, ◌++◌, List, Bool, true, false, ◌||◌, ◌&&◌, refl, sym, ap, subst, ◌∙◌, Option, Some, None, is_some, if◌then◌else◌}
use Rattle.std.proofs.lemmas.List.Folds.{list_any-append}
use Rattle.ir_reader.specs.Machine
use Rattle.ir_reader.specs.Machine.{Progress, To, Stuck, step}
use Rattle.ir_expected_tokens.specs.declared.grammar.Class.{Class}
use Rattle.ir_expected_tokens.specs.declared.grammar.Class.TheVariants as class
use Rattle.ir_expected_tokens.specs.declared.grammar.Part.TheVariants as part
use Rattle.ir_expected_tokens.specs.declared.grammar.Symbol.{Symbol}
use Rattle.ir_expected_tokens.specs.declared.grammar.Symbol.TheVariants.{Part}
use Rattle.ir_expected_tokens.specs.Grammar.{Row, is_class}
use Rattle.ir_expected_tokens.specs.Expected.{may_be_missing, symbol_rows, behind_row, is_result, taken, classes, expected_of}
use Rattle.ir_expected_tokens.specs.Laws.{is_among, goes, ExpectedMayStand}
use Rattle.ir_expected_tokens.specs.Stuck.{token_class}
use Rattle.ir_expected_tokens.specs.Uncounted.{uncounted, all_uncounted}
use Rattle.ir_expected_tokens.proofs.Closed.{taken_by}
use Rattle.ir_expected_tokens.proofs.Agreement.{ComesTo, step_follows}

-- a result is expected before blocks alone
abbrev begins_blocks : List Symbol → Bool
begins_blocks (Part part.Blocks ∷ ss) = true
begins_blocks _ = false

abbrev is_before : Symbol → List Symbol → Bool
is_before (Part part.Result) ss = begins_blocks ss
is_before _ ss = true

abbrev well : List Symbol → Bool
well [] = true
well (s ∷ ss) = is_before s ss && well ss

uncounted_well : (s : Machine.Symbol) (us : List Symbol) → well (uncounted s ++ us) ≡ well us
uncounted_well (Machine.Word x) us = refl
uncounted_well _ us = refl

pub all_well : (ss : List Machine.Symbol) → well (all_uncounted ss) ≡ true
all_well [] = refl
all_well (s ∷ ss) = uncounted_well s (all_uncounted ss) ∙ all_well ss

both : (a b : Bool) → (a && b) ≡ true → (a ≡ true) × (b ≡ true)
both true b h = (refl, h)
both false b h = cc

-- rows
rows_stand : (rs : List Row) (c : Class) → is_some (behind_row rs c) ≡ is_among (classes rs) c
rows_stand [] c = refl
rows_stand (r ∷ rs) c = by_test (is_class r.0 c) (rows_stand rs c)
  where
    by_test : (t : Bool) → is_some (behind_row rs c) ≡ is_among (classes rs) c → is_some (if t then Some r.1 else behind_row rs c) ≡ (t || is_among (classes rs) c)
    by_test true h = refl
    by_test false h = h

joined : (o : Option (List Symbol)) (b u : Bool) (ss : List Symbol) (others : Option (List Symbol)) (cs : List Class) (c : Class) → is_some o ≡ b → is_some others ≡ is_among cs c
    → is_some (taken_by o u ss others) ≡ (b || is_among (if u then cs else []) c)
joined (Some more) true u ss others cs c h i = refl
joined (Some more) false u ss others cs c h i = cc
joined None true u ss others cs c h i = cc
joined None false true ss others cs c h i = i
joined None false false ss others cs c h i = refl

by_symbol : (s : Symbol) (ss : List Symbol) (c : Class) (colon : Bool) → is_result s c colon ≡ false → is_some (taken ss c colon) ≡ is_among (expected_of ss) c → is_some (taken (s ∷ ss) c colon) ≡ is_among (expected_of (s ∷ ss)) c
by_symbol s ss c colon h i =
    ap (λ z. is_some (taken_by (if z then Some [] else behind_row (symbol_rows s) c) (may_be_missing s) ss (taken ss c colon))) h
    ∙ (joined (behind_row (symbol_rows s) c) (is_among (classes (symbol_rows s)) c) (may_be_missing s) ss (taken ss c colon) (expected_of ss) c (rows_stand (symbol_rows s) c) i
    ∙ sym (list_any-append (λ d. is_class d c) (classes (symbol_rows s)) (if may_be_missing s then expected_of ss else [])))

result_only : (s : Symbol) (c : Class) (colon : Bool) → is_result s c colon ≡ true → (s ≡ Part part.Result) × (c ≡ class.Name)
result_only (Part part.Result) class.Name colon h = (refl, refl)
result_only _ _ colon h = cc

name_stands : (ss : List Symbol) → begins_blocks ss ≡ true → is_among (expected_of ss) class.Name ≡ true
name_stands (Part part.Blocks ∷ ss) h = refl
name_stands _ h = cc

by_result : (s : Symbol) (ss : List Symbol) (c : Class) (colon : Bool) → is_result s c colon ≡ true → (s ≡ Part part.Result) × (c ≡ class.Name) → is_before s ss ≡ true → is_some (taken (s ∷ ss) c colon) ≡ is_among (expected_of (s ∷ ss)) c
by_result s ss c colon h r w =
    let b : begins_blocks ss ≡ true = subst (λ z. is_before z ss ≡ true) r.0 w in
    let n : is_among (expected_of (Part part.Result ∷ ss)) class.Name ≡ true = name_stands ss b in
    let m : is_among (expected_of (s ∷ ss)) c ≡ true = rw (r.0, r.1) n in
    ap (λ z. is_some (taken_by (if z then Some [] else behind_row (symbol_rows s) c) (may_be_missing s) ss (taken ss c colon))) h ∙ sym m

pub fits : (ss : List Symbol) (c : Class) (colon : Bool) → well ss ≡ true → is_some (taken ss c colon) ≡ is_among (expected_of ss) c
fits [] c colon w = refl
fits (s ∷ ss) c colon w = by_test (is_result s c colon) refl (both (is_before s ss) (well ss) w) (λ v. fits ss c colon v)
  where
    by_test : (t : Bool) → is_result s c colon ≡ t → (is_before s ss ≡ true) × (well ss ≡ true) → (well ss ≡ true → is_some (taken ss c colon) ≡ is_among (expected_of ss) c) → is_some (taken (s ∷ ss) c colon) ≡ is_among (expected_of (s ∷ ss)) c
    by_test true h p again = by_result s ss c colon h (result_only s c colon h) p.0
    by_test false h p again = by_symbol s ss c colon h (again p.1)

step_taken : (s : Progress) (all : Option (List Symbol)) → ComesTo s all → is_some all ≡ goes s
step_taken (To x more) all h = ap is_some h
step_taken Stuck all h = ap is_some h

pub expected_may_stand : ExpectedMayStand
expected_may_stand stack t colon =
    sym (fits (all_uncounted stack) (token_class t) colon (all_well stack)) ∙ step_taken (step stack t colon) (taken (all_uncounted stack) (token_class t) colon) (step_follows stack t colon)
