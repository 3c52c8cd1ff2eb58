-- Things that are found by their numbers, and bits behind the last of a mask.
use Rattle.std.proofs.Common.{◌≡◌, ℕ, zero, suc, ◌+◌, ◌-◌, ◌%◌, ◌<◌, ◌≤◌, ◌^◌, Bool, true, false, List, [], ◌∷◌, ◌++◌, cond, filter, map, flat_map, get_or, length, Some, slice_get, ap, subst, ◌∙◌, sym, arith}
use Rattle.std.specs.Int.{bit_at}
use Rattle.std.proofs.lemmas.Option.{get_or_from_slice_get, slice_get_within, slice_get-get_or}
use Rattle.std.proofs.Math.Nat.{div-eq_of_lt, pow-le-pow_right}
use Rattle.std.proofs.Math.ListN.{get_or-eq_default}
use Rattle.std.proofs.lemmas.List.{length-map, get_or-map, get_or_append_left, get_or-append_right, map-append}
use Rattle.ir_model.specs.Plain.{PlainFile, PlainFunc, PlainBinding, PlainGlobal, func_of, file_of, binding_of, global_of}
use Rattle.ir_model.specs.declared.firmware.Block.{Block}
use Rattle.ir_model.specs.declared.firmware.Func.{Func}
use Rattle.ir_model.specs.declared.firmware.Binding.{Binding}
use Rattle.ir_model.specs.declared.firmware.Global.{Global}
use Rattle.ir_model.specs.declared.firmware.FileDecl.{FileDecl}
use Rattle.std.proofs.lemmas.List.FromFn.{length-range_with_len, get_or-range_with_len}
use Rattle.plan_model.specs.Lists.{numbers_below}
use Rattle.plan_report.specs.Names.{no_func_names, names_in, func_names_in}

-- what is made of a thing that was found
pub named : {X Y : Type 0} (f : X → Y) (xs : List X) (i : ℕ) (x : X) (d : Y) → slice_get xs i ≡ Some x → get_or (map f xs) i d ≡ f x
named f xs i x d e = get_or-map f xs i x d (slice_get_within xs i x e) ∙ ap f (get_or_from_slice_get xs i x x e)

-- and of what was made of it
pub named_twice : {X Y Z : Type 0} (g : Y → Z) (f : X → Y) (xs : List X) (i : ℕ) (x : X) (d : Z) → slice_get xs i ≡ Some x → get_or (map g (map f xs)) i d ≡ g (f x)
named_twice g f xs i x d e =
    let here : get_or (map f xs) i (f x) ≡ f x = named f xs i x (f x) e in
    let inside : i < length (map f xs) = omega (arith, slice_get_within xs i x e, length-map xs f) in
    get_or-map g (map f xs) i (f x) d inside ∙ ap g here

-- by its number, and of one that is not there

made_at : {X Y Z : Type 0} (g : Y → Z) (f : X → Y) (xs : List X) (i : ℕ) (x : X) (d : Z) → i < length xs → x ≡ get_or xs i x → get_or (map g (map f xs)) i d ≡ g (f x)
made_at g f xs i x d l e = named_twice g f xs i x d (slice_get-get_or xs i x l ∙ ap Some (sym e))

missing : {X Y Z : Type 0} (g : Y → Z) (f : X → Y) (xs : List X) (i : ℕ) (d : Z) → length xs ≤ i → get_or (map g (map f xs)) i d ≡ d
missing g f xs i d l = get_or-eq_default (map g (map f xs)) d (omega (arith, l, length-map xs f, length-map (map f xs) g))

pub global_found : (xs : List Global) (i : ℕ) (x : Global) → i < length xs → x ≡ get_or xs i x → x.name ≡ get_or (map (λ (g : PlainGlobal). g.name) (map global_of xs)) i []
global_found xs i x l e = sym (made_at (λ (g : PlainGlobal). g.name) global_of xs i x [] l e)

pub global_missing : (xs : List Global) (i : ℕ) → length xs ≤ i → [] ≡ get_or (map (λ (g : PlainGlobal). g.name) (map global_of xs)) i []
global_missing xs i l = sym (missing (λ (g : PlainGlobal). g.name) global_of xs i [] l)

pub file_found : (xs : List FileDecl) (i : ℕ) (x : FileDecl) → i < length xs → x ≡ get_or xs i x → x.name ≡ get_or (map (λ (d : PlainFile). d.name) (map file_of xs)) i []
file_found xs i x l e = sym (made_at (λ (d : PlainFile). d.name) file_of xs i x [] l e)

pub file_missing : (xs : List FileDecl) (i : ℕ) → length xs ≤ i → [] ≡ get_or (map (λ (d : PlainFile). d.name) (map file_of xs)) i []
file_missing xs i l = sym (missing (λ (d : PlainFile). d.name) file_of xs i [] l)

pub binding_found : (xs : List Binding) (i : ℕ) (x : Binding) → i < length xs → x ≡ get_or xs i x → x.name ≡ get_or (map (λ (s : PlainBinding). s.name) (map binding_of xs)) i []
binding_found xs i x l e = sym (made_at (λ (s : PlainBinding). s.name) binding_of xs i x [] l e)

pub binding_missing : (xs : List Binding) (i : ℕ) → length xs ≤ i → [] ≡ get_or (map (λ (s : PlainBinding). s.name) (map binding_of xs)) i []
binding_missing xs i l = sym (missing (λ (s : PlainBinding). s.name) binding_of xs i [] l)

-- the registers of a function, its parameters first
abbrev binding_names : List Binding → List (List ℕ)
binding_names ss = map (λ (s : PlainBinding). s.name) (map binding_of ss)

pub is_param : (ps rs : List Binding) (i : ℕ) (n : List ℕ) → i < length ps → n ≡ get_or (binding_names ps) i [] → n ≡ get_or (map (λ (s : PlainBinding). s.name) (map binding_of ps ++ map binding_of rs)) i []
is_param ps rs i n l e =
    let inside : i < length (binding_names ps) = omega (arith, l, length-map ps binding_of, length-map (map binding_of ps) (λ (s : PlainBinding). s.name)) in
    e ∙ sym (ap (λ ns. get_or ns i []) (map-append (λ (s : PlainBinding). s.name) (map binding_of ps) (map binding_of rs)) ∙ get_or_append_left (binding_names ps) (binding_names rs) [] i inside)

pub is_register : (ps rs : List Binding) (i : ℕ) (n : List ℕ) → length ps ≤ i → n ≡ get_or (binding_names rs) (i - length ps) [] → n ≡ get_or (map (λ (s : PlainBinding). s.name) (map binding_of ps ++ map binding_of rs)) i []
is_register ps rs i n l e =
    let size : length (binding_names ps) ≡ length ps = length-map (map binding_of ps) (λ (s : PlainBinding). s.name) ∙ length-map ps binding_of in
    e ∙ sym (ap (λ ns. get_or ns i []) (map-append (λ (s : PlainBinding). s.name) (map binding_of ps) (map binding_of rs)) ∙ get_or-append_right (binding_names ps) (binding_names rs) (length ps) i [] size l)

pub label_found : (xs : List Block) (i : ℕ) (x : Block) → i < length xs → x ≡ get_or xs i x → x.label ≡ get_or (map (λ (b : Block). b.label) xs) i []
label_found xs i x l e = sym (named (λ (b : Block). b.label) xs i x [] (slice_get-get_or xs i x l ∙ ap Some (sym e)))

pub label_missing : (xs : List Block) (i : ℕ) → length xs ≤ i → [] ≡ get_or (map (λ (b : Block). b.label) xs) i []
label_missing xs i l = sym (get_or-eq_default (map (λ (b : Block). b.label) xs) [] (omega (arith, l, length-map xs (λ (b : Block). b.label))))

-- the function of a number, which stands in the first file
pub in_first : (file : FileDecl) (more : List FileDecl) (n : ℕ) (f : Func) → n < length file.funcs → f ≡ get_or file.funcs n f
    → names_in (func_of f) ≡ func_names_in (map file_of (file ∷ more)) n
in_first file more n f l e =
    let mine : List PlainFunc = map func_of file.funcs in
    let rest : List PlainFunc = flat_map (λ (d : PlainFile). d.funcs) (map file_of more) in
    let inside : n < length mine = omega (arith, l, length-map file.funcs func_of) in
    let inside_too : n < length (map names_in mine) = omega (arith, inside, length-map mine names_in) in
    sym (ap (λ fs. get_or fs n no_func_names) (map-append names_in mine rest)
    ∙ (get_or_append_left (map names_in mine) (map names_in rest) no_func_names n inside_too
    ∙ (get_or-map names_in mine n (func_of f) no_func_names inside ∙ ap names_in (get_or-map func_of file.funcs n f (func_of f) l ∙ ap func_of (sym e)))))

pub first_of_files : (files : List FileDecl) (file : FileDecl) (n : ℕ) (f : Func) → 0 < length files → file ≡ get_or files 0 file → n < length file.funcs → f ≡ get_or file.funcs n f
    → names_in (func_of f) ≡ func_names_in (map file_of files) n
first_of_files [] file n f some e l is = absurd (omega arith)
first_of_files (x ∷ xs) file n f some e l is = subst (λ (y : FileDecl). names_in (func_of f) ≡ func_names_in (map file_of (y ∷ xs)) n) e (in_first file xs n f l is)

less : (mask bit : ℕ) → mask < 2 ^ 32 → 32 ≤ bit → mask < 2 ^ bit
less mask bit m b = let up : 2 ^ 32 ≤ 2 ^ bit = pow-le-pow_right {n = 2} (omega arith) b in omega (arith, m, up)

-- a number below 2^32 has no bit from 32 on
pub no_bit : (mask bit : ℕ) → mask < 2 ^ 32 → 32 ≤ bit → bit_at mask bit ≡ 0
no_bit mask bit m b = ap (λ q. q % 2) (div-eq_of_lt (less mask bit m b))

-- ---- numbers that pass a test stay below their bound

filter_below : (test : ℕ → Bool) (xs : List ℕ) (n i : ℕ) → ((k : ℕ) → k < length xs → get_or xs k 0 < n) → i < length (filter test xs) → get_or (filter test xs) i 0 < n
filter_below test [] n i h l = absurd (omega arith)
filter_below test (x ∷ xs) n i h l = by (test x) i (λ j. filter_below test xs n j (λ k m. h (suc k) (omega arith))) l
  where
    by : (b : Bool) (i : ℕ) → ((j : ℕ) → j < length (filter test xs) → get_or (filter test xs) j 0 < n)
        → i < length (cond b (x ∷ filter test xs) (filter test xs)) → get_or (cond b (x ∷ filter test xs) (filter test xs)) i 0 < n
    by true zero rest l = h 0 (omega arith)
    by true (suc i) rest l = rest i (omega arith)
    by false i rest l = rest i l

below : (n k : ℕ) → k < length (numbers_below n) → get_or (numbers_below n) k 0 < n
below n k l =
    let inside : k < n = omega (arith, l, length-range_with_len 0 n) in
    let e : get_or (numbers_below n) k 0 ≡ 0 + k = get_or-range_with_len 0 n k 0 inside in
    omega (arith, inside, e)

pub used_below : (test : ℕ → Bool) (n i : ℕ) → i < length (filter test (numbers_below n)) → get_or (filter test (numbers_below n)) i 0 < n
used_below test n i l = filter_below test (numbers_below n) n i (below n) l
