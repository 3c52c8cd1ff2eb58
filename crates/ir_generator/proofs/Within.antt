-- Every generated firmware is within the limits of a text.
use Rattle.std.proofs.Common.{ℕ, zero, suc, ◌≤◌, ◌<◌, ◌+◌, ◌*◌, ◌%◌, ◌≡◌, List, [], ◌∷◌, ◌++◌, refl, arith, length, min, map, Bool, true, false, ◌&&◌, Option, None, Some, nat_lt, nat_le}
use Rattle.std.specs.Prelude.{codes, nat_eq, not}
use Rattle.std.specs.List.{range_with_len, list_all}
use Rattle.std.specs.Fmt.{digits}
use Rattle.std.proofs.lemmas.Bool.Decides.{nat_tests}
use Rattle.std.proofs.lemmas.List.Elements.{All-head, All-tail, All-weaker}
use Rattle.base_names.specs.Names.{is_name, is_word, is_reserved, reserved, declaration_words, instruction_words, type_words, operation_words, comparison_words}
use Rattle.ir_model.specs.declared.firmware.Inst.TheVariants.{Store}
use Rattle.ir_model.specs.declared.firmware.Term.TheVariants.{Jump}
use Rattle.ir_model.specs.declared.token.Excess.{Excess}
use Rattle.ir_model.specs.Plain.{PlainFunc, PlainFile}
use Rattle.ir_model.specs.Tokens.{Token, Name, Number, Key, Operation, Comparison, Sign, Marked}
use Rattle.ir_model.specs.Lines.{Line, lines_of, periph_lines, global_line, global_lines, inst_lines, term_line, close_line, func_lines, funcs_lines, file_lines}
use Rattle.base_laws.specs.Lists.{Each}
use Rattle.ir_model.specs.Canonical.{IsProper, PassesNothing, IsWithinLimits}
use Rattle.ir_generator.specs.declared.choices.Body.{Body}
use Rattle.ir_generator.specs.declared.choices.Body.TheVariants.{Adds, Stores, Calls, Lends}
use Rattle.ir_generator.specs.declared.choices.Choice.{Choice}
use Rattle.ir_generator.specs.Choices.{IsWithin, AreWithin, choices}
use Rattle.ir_generator.specs.Names.{port_name, global_name, test_name, file_name}
use Rattle.ir_generator.specs.Functions.{test_func, main, call_test}
use Rattle.ir_generator.specs.Made.{port, global, main_file, held_from, test_file, support_file, firmware_by, made}
use Rattle.ir_generator.proofs.Bodies.{choices_within, choices_length}
use Rattle.ir_generator.proofs.Proper.{port_is_name, global_is_name, test_is_name, file_is_name, p_is_name, q_is_name, v_is_name, w_is_name, x_is_name, b0_is_name, b1_is_name, main_is_name, s0_is_name, first_file_is_name, last_file_is_name}
use Rattle.ir_generator.proofs.Apart.{equal_numbers, unequal_numbers, by_test}
use Rattle.ir_generator.proofs.Offers.{drawn_all}

-- a token passes nothing, and its word is a name
abbrev proper : Token → Bool
proper (Name w) = is_name w
proper (Number n) = true
proper (Key k) = true
proper (Operation o) = true
proper (Comparison o) = true
proper (Sign s) = true

abbrev nothing_passed : Option Excess → Bool
nothing_passed None = true
nothing_passed (Some x) = false

abbrev fine : Marked → Bool
fine m = proper m.token && nothing_passed m.excess

abbrev all_fine : List Line → Bool
all_fine ls = list_all (list_all fine) ls

left : (a b : Bool) → (a && b) ≡ true → a ≡ true
left true b h = refl
left false b h = h

right : (a b : Bool) → (a && b) ≡ true → b ≡ true
right true b h = h
right false b h = cc

together : (a b : Bool) → a ≡ true → b ≡ true → (a && b) ≡ true
together true b h k = k
together false b h k = h

fine_append : (xs ys : List Line) → all_fine xs ≡ true → all_fine ys ≡ true → all_fine (xs ++ ys) ≡ true
fine_append [] ys h k = k
fine_append (x ∷ xs) ys h k =
    together (list_all fine x) (all_fine (xs ++ ys)) (left (list_all fine x) (all_fine xs) h) (fine_append xs ys (right (list_all fine x) (all_fine xs) h) k)

is_proper : (t : Token) → proper t ≡ true → IsProper t
is_proper (Name w) h = h
is_proper (Number n) h = tt
is_proper (Key k) h = tt
is_proper (Operation o) h = tt
is_proper (Comparison o) h = tt
is_proper (Sign s) h = tt

passes_nothing : (x : Option Excess) → nothing_passed x ≡ true → x ≡ None
passes_nothing None h = refl
passes_nothing (Some x) h = cc

line_words : (l : Line) → list_all fine l ≡ true → Each (λ (m : Marked). IsProper m.token) l
line_words [] h = tt
line_words (m ∷ l) h =
    (is_proper m.token (left (proper m.token) (nothing_passed m.excess) (left (fine m) (list_all fine l) h)), line_words l (right (fine m) (list_all fine l) h))

line_tokens : (l : Line) → list_all fine l ≡ true → Each PassesNothing l
line_tokens [] h = tt
line_tokens (m ∷ l) h =
    (passes_nothing m.excess (right (proper m.token) (nothing_passed m.excess) (left (fine m) (list_all fine l) h)), line_tokens l (right (fine m) (list_all fine l) h))

words_of : (ls : List Line) → all_fine ls ≡ true → Each (Each (λ (m : Marked). IsProper m.token)) ls
words_of [] h = tt
words_of (l ∷ ls) h = (line_words l (left (list_all fine l) (all_fine ls) h), words_of ls (right (list_all fine l) (all_fine ls) h))

tokens_of : (ls : List Line) → all_fine ls ≡ true → Each (Each PassesNothing) ls
tokens_of [] h = tt
tokens_of (l ∷ ls) h = (line_tokens l (left (list_all fine l) (all_fine ls) h), tokens_of ls (right (list_all fine l) (all_fine ls) h))

-- names are short
short : (w : List ℕ) → is_name w ≡ true → nat_le (length w) 64 ≡ true
unfolding is_name
short w h = left (nat_le (length w) 64) (not (is_reserved w)) (right (is_word w) (nat_le (length w) 64 && not (is_reserved w)) h)

few : (k most : ℕ) → k < most → nat_lt k most ≡ true
few k most h = grind (arith, nat_tests)

ports_fine : all_fine (periph_lines 0 (map port (range_with_len 0 4))) ≡ true
unfolding digits is_name is_reserved reserved declaration_words instruction_words type_words operation_words comparison_words
ports_fine = refl

global_fine : (k : ℕ) → k < 200 → list_all fine (global_line k (global k)) ≡ true
global_fine k h =
    let n : is_name (global_name k) ≡ true = global_is_name k h in
    let s : nat_le (length (global_name k)) 64 ≡ true = short (global_name k) n in
    rw (few k 1024 (omega arith), n, s) refl

globals_fine : (m k : ℕ) → k + m ≤ 200 → all_fine (global_lines k (map global (range_with_len k m))) ≡ true
globals_fine zero k l = refl
globals_fine (suc m) k l =
    together (list_all fine (global_line k (global k))) (all_fine (global_lines (k + 1) (map global (range_with_len (k + 1) m)))) (global_fine k (omega arith)) (globals_fine m (k + 1) (omega arith))

named_p : is_name (codes "p") ≡ true
named_p = p_is_name

named_q : is_name (codes "q") ≡ true
named_q = q_is_name

named_v : is_name (codes "v") ≡ true
named_v = v_is_name

named_w : is_name (codes "w") ≡ true
named_w = w_is_name

named_x : is_name (codes "x") ≡ true
named_x = x_is_name

named_b0 : is_name (codes "b0") ≡ true
named_b0 = b0_is_name

named_b1 : is_name (codes "b1") ≡ true
named_b1 = b1_is_name

named_s0 : is_name (codes "s0") ≡ true
named_s0 = s0_is_name

main_name : is_name (codes "main") ≡ true
main_name = main_is_name

first_file : is_name (codes "m.c") ≡ true
first_file = first_file_is_name

last_file : is_name (codes "s.c") ≡ true
last_file = last_file_is_name

-- functions
test_fine : (n k : ℕ) (b : Body) → n < 1024 → k < 200 → IsWithin 200 b → all_fine (func_lines n (test_func k b)) ≡ true
test_fine n k (Adds a) u l h =
    let t : is_name (test_name k) ≡ true = test_is_name k l in
    let g : is_name (global_name a) ≡ true = global_is_name a h in
    rw (few n 1024 u, t, short (test_name k) t, g, short (global_name a) g, named_p, named_v, named_w, named_b0) refl
test_fine n k (Stores a) u l h =
    let t : is_name (test_name k) ≡ true = test_is_name k l in
    let g : is_name (port_name a) ≡ true = port_is_name a h in
    rw (few n 1024 u, t, short (test_name k) t, g, short (port_name a) g, named_p, named_v, named_b0) refl
test_fine n k (Calls a) u l h =
    let t : is_name (test_name k) ≡ true = test_is_name k l in
    let g : is_name (test_name a) ≡ true = test_is_name a h in
    rw (few n 1024 u, t, short (test_name k) t, g, short (test_name a) g, named_v, named_w, named_b0) refl
test_fine n k Lends u l h =
    let t : is_name (test_name k) ≡ true = test_is_name k l in
    rw (few n 1024 u, t, short (test_name k) t, named_p, named_v, named_x, named_b0, named_s0) refl

calls_fine : (m k n : ℕ) (behind : List Line) → k + m < 16384 → n + m ≤ 200 → all_fine behind ≡ true
    → all_fine (inst_lines k (map call_test (range_with_len n m) ++ Store (codes "q") (codes "v") ∷ []) ++ behind) ≡ true
calls_fine zero k n behind u l h = rw (few k 16384 (omega arith), named_q, named_v) h
calls_fine (suc m) k n behind u l h =
    let t : is_name (test_name n) ≡ true = test_is_name n (omega arith) in
    rw (few k 16384 (omega arith), t, short (test_name n) t, named_v) (calls_fine m (k + 1) (n + 1) behind (omega arith) (omega arith) h)

main_fine : (size : ℕ) → size ≤ 200 → all_fine (func_lines 0 (main size)) ≡ true
main_fine size u =
    let a : is_name (port_name 0) ≡ true = port_is_name 0 (omega arith) in
    let b : is_name (port_name 1) ≡ true = port_is_name 1 (omega arith) in
    rw (a, b, short (port_name 0) a, short (port_name 1) b, main_name, named_p, named_q, named_v, named_b0, named_b1)
    (fine_append ((inst_lines 3 (map call_test (range_with_len 0 size) ++ Store (codes "q") (codes "v") ∷ []) ++ term_line (Jump (codes "b1")) ∷ []) ++ []) (close_line ∷ [])
    (fine_append (inst_lines 3 (map call_test (range_with_len 0 size) ++ Store (codes "q") (codes "v") ∷ []) ++ term_line (Jump (codes "b1")) ∷ []) []
    (calls_fine size 3 0 (term_line (Jump (codes "b1")) ∷ []) (omega arith) (omega arith) (rw named_b1 refl)) refl) refl)

held_fine : (cs : List Choice) (k j n : ℕ) → AreWithin 200 cs → k + length cs ≤ 200 → n + length cs ≤ 1024 → all_fine (funcs_lines n (held_from k j cs)) ≡ true
held_fine [] k j n h l u = refl
held_fine (c ∷ cs) k j n h l u =
    let rest : AreWithin 200 cs = All-tail (λ y. IsWithin 200 y.body) c cs h in
    by_test (λ (fs : List PlainFunc). all_fine (funcs_lines n (fs ++ held_from (k + 1) j cs)) ≡ true) (nat_eq (k % 16) j) (test_func k c.body ∷ []) []
    (λ t. fine_append (func_lines n (test_func k c.body)) (funcs_lines (n + 1) (held_from (k + 1) j cs))
    (test_fine n k c.body (omega arith) (omega arith) (All-head (λ y. IsWithin 200 y.body) c cs h)) (held_fine cs (k + 1) j (n + 1) rest (omega arith) (omega arith)))
    (λ t. held_fine cs (k + 1) j n rest (omega arith) (omega arith))

-- a file has one function in sixteen; the next one that it has comes behind d others
held_few : (cs : List Choice) (k j d : ℕ) → (k + d) % 16 ≡ j → d < 16 → 16 * length (held_from k j cs) + d ≤ length cs + 15
held_few [] k j d e l = omega arith
held_few (c ∷ cs) k j zero e l =
    by_test (λ (fs : List PlainFunc). 16 * length (fs ++ held_from (k + 1) j cs) + 0 ≤ suc (length cs) + 15) (nat_eq (k % 16) j) (test_func k c.body ∷ []) []
    (λ t. let next : 16 * length (held_from (k + 1) j cs) + 15 ≤ length cs + 15 = held_few cs (k + 1) j 15 (omega arith) (omega arith) in omega arith)
    (λ t. absurd (unequal_numbers (k % 16) j t (omega arith)))
held_few (c ∷ cs) k j (suc d) e l =
    by_test (λ (fs : List PlainFunc). 16 * length (fs ++ held_from (k + 1) j cs) + suc d ≤ suc (length cs) + 15) (nat_eq (k % 16) j) (test_func k c.body ∷ []) []
    (λ t. let here : k % 16 ≡ j = equal_numbers (k % 16) j t in absurd (omega arith))
    (λ t. let next : 16 * length (held_from (k + 1) j cs) + d ≤ length cs + 15 = held_few cs (k + 1) j d (omega arith) (omega arith) in omega arith)

-- files
last_fine : (k n : ℕ) → k < 1024 → n < 1024 → all_fine (file_lines k n (support_file ∷ [])) ≡ true
last_fine k n u l = rw (few k 1024 u, last_file, few n 1024 l, named_p, named_w, named_b0, named_s0) refl

file_fine : (cs : List Choice) (k j n : ℕ) (more : List PlainFile) → k < 1024 → j < 16 → AreWithin 200 cs → length cs ≤ 200 → n + length cs ≤ 1024
    → all_fine (file_lines (k + 1) (n + length (held_from 0 j cs)) more) ≡ true → all_fine (file_lines k n (test_file cs j ∷ more)) ≡ true
file_fine cs k j n more a b h l u m =
    let t : is_name (file_name j) ≡ true = file_is_name j b in
    rw (few k 1024 a, t, short (file_name j) t)
    (fine_append (funcs_lines n (held_from 0 j cs) ++ close_line ∷ []) (file_lines (k + 1) (n + length (held_from 0 j cs)) more)
    (fine_append (funcs_lines n (held_from 0 j cs)) (close_line ∷ []) (held_fine cs 0 j n h (omega arith) u) refl) m)

files_fine : (cs : List Choice) (m k j n : ℕ) → AreWithin 200 cs → length cs ≤ 200 → j + m ≤ 16 → k + m < 1000 → n ≤ 14 * (j + 1)
    → all_fine (file_lines k n (map (test_file cs) (range_with_len j m) ++ support_file ∷ [])) ≡ true
files_fine cs zero k j n h l u a b = last_fine k n (omega arith) (omega arith)
files_fine cs (suc m) k j n h l u a b =
    let size : 16 * length (held_from 0 j cs) + j ≤ length cs + 15 = held_few cs 0 j j (omega arith) (omega arith) in
    file_fine cs k j n (map (test_file cs) (range_with_len (j + 1) m) ++ support_file ∷ []) (omega arith) (omega arith) h l (omega arith)
    (files_fine cs m (k + 1) (j + 1) (n + length (held_from 0 j cs)) h l (omega arith) (omega arith) (omega arith))

begins : (size : ℕ) (more : List PlainFile) → size ≤ 200 → all_fine (file_lines 1 1 more) ≡ true → all_fine (file_lines 0 0 (main_file size ∷ more)) ≡ true
begins size more u h =
    rw first_file
    (fine_append ((func_lines 0 (main size) ++ []) ++ close_line ∷ []) (file_lines 1 1 more)
    (fine_append (func_lines 0 (main size) ++ []) (close_line ∷ []) (fine_append (func_lines 0 (main size)) [] (main_fine size u) refl) refl) h)

has_blocks : (n : ℕ) (b : Body) → 0 < length (test_func n b).blocks
has_blocks n b = omega arith

by_choices : (size : ℕ) (cs : List Choice) → size ≤ 200 → length cs ≡ size → AreWithin size cs → AreWithin 200 cs → IsWithinLimits (firmware_by size cs)
unfolding lines_of
by_choices size cs l e h g =
    let files : all_fine (file_lines 0 0 (firmware_by size cs).files) ≡ true =
    begins size (map (test_file cs) (range_with_len 0 (min size 16)) ++ support_file ∷ []) l (files_fine cs (min size 16) 1 0 1 g (omega arith) (omega arith) (omega arith) (omega arith)) in
    let all : all_fine (lines_of (firmware_by size cs)) ≡ true =
    fine_append (periph_lines 0 (map port (range_with_len 0 4)) ++ global_lines 0 (map global (range_with_len 0 size))) (file_lines 0 0 (firmware_by size cs).files)
    (fine_append (periph_lines 0 (map port (range_with_len 0 4))) (global_lines 0 (map global (range_with_len 0 size))) ports_fine (globals_fine size 0 (omega arith))) files in
    record {
      words = words_of (lines_of (firmware_by size cs)) all;
      tokens = tokens_of (lines_of (firmware_by size cs)) all;
      structs = tt;
      functions = (omega arith, drawn_all (λ (f : PlainFunc). 0 < length f.blocks) has_blocks (omega arith) cs (min size 16) 0);
    }

weaker : (size : ℕ) (b : Body) → size ≤ 200 → IsWithin size b → IsWithin 200 b
weaker size (Adds a) l h = omega arith
weaker size (Stores a) l h = h
weaker size (Calls a) l h = omega arith
weaker size Lends l h = h

pub made_is_within : (seed size : ℕ) → 1 ≤ size → size ≤ 200 → IsWithinLimits (made seed size)
made_is_within seed size l u =
    let h : AreWithin size (choices seed size size) = choices_within seed size size l in
    by_choices size (choices seed size size) u (choices_length seed size size) h
    (All-weaker (λ c. IsWithin size c.body) (λ c. IsWithin 200 c.body) (λ c k. weaker size c.body u k) (choices seed size size) h)
