-- The tokens of a text from an item on begin as the item does.
use Rattle.std.proofs.Common.{◌≡◌, ◌≤◌, ◌<◌, ℕ, zero, suc, ◌+◌, ◌-◌, List, [], ◌∷◌, ◌++◌, length, take, drop, map, flat_map, Bool, true, false, not, ◌&&◌, Option, Some, None, refl, sym, ap, ◌∙◌, arith, append-nil, append_assoc, bytes_eq, nat_lt, if◌then◌else◌}
use Rattle.std.specs.List.{sum_by}
use Rattle.std.proofs.lemmas.List.Sums.{sum_by-cons}
use Rattle.std.proofs.lemmas.Slice.Eq.{bytes_eq-Decides}
use Rattle.std.proofs.lemmas.Bool.Decides.{nat_tests}
use Rattle.base_names.specs.Numbers.{has, number_of}
use Rattle.ir_model.specs.declared.firmware.Inst.{Inst}
use Rattle.ir_model.specs.declared.firmware.Inst.TheVariants as inst
use Rattle.ir_model.specs.declared.firmware.Term.{Term}
use Rattle.ir_model.specs.declared.firmware.Block.{Block}
use Rattle.ir_model.specs.declared.firmware.Peripheral.{Peripheral}
use Rattle.ir_model.specs.declared.token.Excess.{Excess}
use Rattle.ir_model.specs.declared.token.TextLimit.TheVariants as limit
use Rattle.ir_model.specs.declared.token.Keyword.TheVariants as key
use Rattle.ir_model.specs.declared.token.Mark.TheVariants.{OpenBrace}
use Rattle.ir_model.specs.TextLimits.{instruction_limit, file_limit}
use Rattle.ir_model.specs.Plain.{PlainStruct, PlainGlobal, PlainFunc, PlainFile}
use Rattle.ir_model.specs.Tokens.{Key, Sign, Marked}
use Rattle.ir_model.specs.Lines.{Line, marked, plain, name, counted, struct_line, struct_lines, periph_line, periph_lines, global_line, global_lines, inst_line, inst_lines, term_line, label_line, block_lines, func_lines, funcs_lines, file_lines, close_line}
use Rattle.ir_model.specs.Texts.{joined, tokens}
use Rattle.ir_text_places.specs.Items.{count}
use Rattle.ir_text_places.specs.Faulty.{Names, behind_first, has_twice, second_of, number_in}
use Rattle.ir_text_places.specs.Laws.{line_at}
use Rattle.ir_text_places.specs.Sizes.{funcs_size, file_size, func_start, inst_size, insts_size, block_size}
use Rattle.ir_text_places.proofs.Counted.{joined_append, count_append, count_more, inst_length, blocks_count, funcs_count, files_count}

-- ---- the item of a number

pub record AtNumber {A : Type 0} (f : A → List ℕ) (xs : List A) (k : ℕ) (n : List ℕ) : Type 0 where
  pub item : A
  pub more : List A
  pub there : drop k xs ≡ item ∷ more
  pub name : f item ≡ n

pub number_at : {A : Type 0} (f : A → List ℕ) (xs : List A) (n : List ℕ) → has (map f xs) n ≡ true → AtNumber f xs (number_of (map f xs) n) n
number_at f [] n h = cc
number_at {A} f (x ∷ xs) n h = by_test (bytes_eq (f x) n) refl (number_at f xs n) h
  where
    by_test : (b : Bool) → bytes_eq (f x) n ≡ b → (has (map f xs) n ≡ true → AtNumber f xs (number_of (map f xs) n) n) → (if b then true else has (map f xs) n) ≡ true
        → AtNumber f (x ∷ xs) (if b then zero else suc (number_of (map f xs) n)) n
    by_test true i ih g = record { item = x; more = xs; there = refl; name = (bytes_eq-Decides (f x) n).0 i }
    by_test false i ih g = let r = ih g in record { item = r.item; more = r.more; there = r.there; name = r.name }

pub drop_none : {A : Type 0} (k : ℕ) (xs : List A) → xs ≡ [] → drop k xs ≡ []
drop_none zero xs e = e
drop_none (suc k) [] e = refl
drop_none (suc k) (x ∷ xs) e = cc

drop_twice : {A : Type 0} (a b : ℕ) (xs : List A) → drop (a + b) xs ≡ drop b (drop a xs)
drop_twice zero b xs = let e : 0 + b ≡ b = omega arith in ap (λ n. drop n xs) e
drop_twice (suc a) b [] = drop_none (suc a + b) [] refl ∙ sym (drop_none b [] refl)
drop_twice (suc a) b (x ∷ xs) = let e : suc a + b ≡ suc (a + b) = omega arith in ap (λ n. drop n (x ∷ xs)) e ∙ drop_twice a b xs

drop_mapped : {A : Type 0} (f : A → List ℕ) (k : ℕ) (xs : List A) → drop k (map f xs) ≡ map f (drop k xs)
drop_mapped f zero xs = refl
drop_mapped f (suc k) [] = refl
drop_mapped f (suc k) (x ∷ xs) = drop_mapped f k xs

second_at : {A : Type 0} (f : A → List ℕ) (xs : List A) (n : List ℕ) → has (map f xs) n ≡ true → AtNumber f xs (second_of (map f xs) n) n
second_at {A} f xs n h = by_test (has_twice (map f xs) n) refl
  where
    by_test : (b : Bool) → has_twice (map f xs) n ≡ b → AtNumber f xs (if b then suc (number_of (map f xs) n) + number_of (behind_first (map f xs) n) n else number_of (map f xs) n) n
    by_test true i =
        let k : ℕ = suc (number_of (map f xs) n) in
        let e : behind_first (map f xs) n ≡ map f (drop k xs) = drop_mapped f k xs in
        let g : has (map f (drop k xs)) n ≡ true = ap (λ ms. has ms n) (sym e) ∙ i in
        let r = number_at f (drop k xs) n g in
        record {
          item = r.item;
          more = r.more;
          there = drop_twice k (number_of (behind_first (map f xs) n) n) xs ∙ (ap (λ ms. drop (number_of ms n) (drop k xs)) e ∙ r.there);
          name = r.name;
        }
    by_test false i = number_at f xs n h

pub in_row_at : {A : Type 0} (f : A → List ℕ) (xs : List A) (before : Names) (again : Bool) (n : List ℕ) → has (map f xs) n ≡ true → AtNumber f xs (number_in before (map f xs) again n) n
in_row_at {A} f xs before again n h = by_test (again && not (has before n))
  where
    by_test : (b : Bool) → AtNumber f xs (if b then second_of (map f xs) n else number_of (map f xs) n) n
    by_test true = second_at f xs n h
    by_test false = number_at f xs n h

-- ---- tokens behind lines

tokens_behind : (a b : List Marked) → drop (length a) (tokens (a ++ b)) ≡ tokens b
tokens_behind [] b = refl
tokens_behind (m ∷ a) b = tokens_behind a b

-- behind so many tokens as the first lines have
pub behind_lines : (ls a b : List Line) (k : ℕ) → ls ≡ a ++ b → k ≡ count a → drop k (tokens (joined ls)) ≡ tokens (joined b)
behind_lines ls a b k e c =
    ap (λ n. drop n (tokens (joined ls))) c
    ∙ (ap (λ z. drop (count a) (tokens (joined z))) e ∙ (ap (λ z. drop (count a) (tokens z)) (joined_append a b) ∙ tokens_behind (joined a) (joined b)))

-- ---- lines at a number

pub structs_at : (j k : ℕ) (ss : List PlainStruct) (s : PlainStruct) (more : List PlainStruct) → drop k ss ≡ s ∷ more
    → (m : ℕ) × (struct_lines j ss ≡ struct_lines j (take k ss) ++ struct_lines m (s ∷ more))
structs_at j zero ss s more e = (j, ap (struct_lines j) e)
structs_at j (suc k) [] s more e = cc
structs_at j (suc k) (x ∷ ss) s more e = let r = structs_at (j + 1) k ss s more e in (r.0, ap (λ z. struct_line j x ∷ z) r.1)

pub periphs_at : (j k : ℕ) (qs : List Peripheral) (q : Peripheral) (more : List Peripheral) → drop k qs ≡ q ∷ more
    → (m : ℕ) × (periph_lines j qs ≡ periph_lines j (take k qs) ++ periph_lines m (q ∷ more))
periphs_at j zero qs q more e = (j, ap (periph_lines j) e)
periphs_at j (suc k) [] q more e = cc
periphs_at j (suc k) (x ∷ qs) q more e = let r = periphs_at (j + 1) k qs q more e in (r.0, ap (λ z. periph_line j x ∷ z) r.1)

pub globals_at : (j k : ℕ) (gs : List PlainGlobal) (g : PlainGlobal) (more : List PlainGlobal) → drop k gs ≡ g ∷ more
    → (m : ℕ) × (global_lines j gs ≡ global_lines j (take k gs) ++ global_lines m (g ∷ more))
globals_at j zero gs g more e = (j, ap (global_lines j) e)
globals_at j (suc k) [] g more e = cc
globals_at j (suc k) (x ∷ gs) g more e = let r = globals_at (j + 1) k gs g more e in (r.0, ap (λ z. global_line j x ∷ z) r.1)

pub funcs_at : (j k : ℕ) (fs : List PlainFunc) (f : PlainFunc) (more : List PlainFunc) → drop k fs ≡ f ∷ more
    → (m : ℕ) × (funcs_lines j fs ≡ funcs_lines j (take k fs) ++ funcs_lines m (f ∷ more))
funcs_at j zero fs f more e = (j, ap (funcs_lines j) e)
funcs_at j (suc k) [] f more e = cc
funcs_at j (suc k) (x ∷ fs) f more e =
    let r = funcs_at (j + 1) k fs f more e in
    (r.0, ap (λ z. func_lines j x ++ z) r.1 ∙ sym (append_assoc (func_lines j x) (funcs_lines (j + 1) (take k fs)) (funcs_lines r.0 (f ∷ more))))

-- lines that begin with those of a part, behind lines with so many tokens
pub record LinesAt (ls : List Line) (k : ℕ) (part : List Line) : Type 0 where
  pub front : List Line
  pub behind : List Line
  pub lines : ls ≡ front ++ (part ++ behind)
  pub size : count front ≡ k

abbrev pub file_own : (before functions : ℕ) → PlainFile → List Line
file_own j n x = ((marked (Key key.File) (counted j file_limit limit.File None) ∷ name x.name ∷ plain (Sign OpenBrace) ∷ []) ∷ funcs_lines n x.funcs) ++ (close_line ∷ [])

file_size_own : (j n : ℕ) (x : PlainFile) → count (file_own j n x) ≡ file_size x
file_size_own j n x =
    let a = files_count j n (x ∷ []) in
    let b = sum_by-cons file_size x [] in
    let z : sum_by file_size [] ≡ 0 = refl in
    let d : count (file_lines j n (x ∷ [])) ≡ count (file_own j n x) = ap count (append-nil (file_own j n x)) in
    omega arith

pub files_at : (j n k : ℕ) (fs : List PlainFile) (f : PlainFile) (more : List PlainFile) → drop k fs ≡ f ∷ more
    → (m : ℕ) × (l : ℕ) × LinesAt (file_lines j n fs) (sum_by file_size (take k fs)) (file_lines m l (f ∷ more))
files_at j n zero fs f more e =
    (j, n, record { front = []; behind = []; lines = ap (file_lines j n) e ∙ sym (append-nil (file_lines j n (f ∷ more))); size = refl })
files_at j n (suc k) [] f more e = cc
files_at j n (suc k) (x ∷ fs) f more e =
    let r = files_at (j + 1) (n + length x.funcs) k fs f more e in
    let own : List Line = file_own j n x in (
      r.0,
      r.1,
      record {
        front = own ++ r.2.front;
        behind = r.2.behind;
        lines = ap (λ z. own ++ z) r.2.lines ∙ sym (append_assoc own r.2.front (file_lines r.0 r.1 (f ∷ more) ++ r.2.behind));
        size = let a = count_append own r.2.front in let b = file_size_own j n x in let c = r.2.size in let d = sum_by-cons file_size x (take k fs) in omega arith;
      },
    )

-- a part of a part
pub within : (ls : List Line) (k : ℕ) (part : List Line) (j : ℕ) (sub : List Line) → LinesAt ls k part → LinesAt part j sub → LinesAt ls (k + j) sub
within ls k part j sub a b =
    record {
      front = a.front ++ b.front;
      behind = b.behind ++ a.behind;
      lines = a.lines ∙ (ap (λ z. a.front ++ (z ++ a.behind)) b.lines ∙ simp append_assoc);
      size = let c = count_append a.front b.front in let d = a.size in let e = b.size in omega arith;
    }

-- ---- functions and their code

front_at : {A : Type 0} (k : ℕ) (xs ys : List A) → k < length xs → (x : A) × (more : List A) × (drop k xs ≡ x ∷ more) × (drop k (xs ++ ys) ≡ x ∷ (more ++ ys))
front_at k [] ys l = absurd (omega arith)
front_at zero (x ∷ xs) ys l = (x, xs, refl, refl)
front_at (suc k) (x ∷ xs) ys l = front_at k xs ys (omega arith)

past_front : {A : Type 0} (k : ℕ) (xs ys : List A) → length xs ≤ k → drop k (xs ++ ys) ≡ drop (k - length xs) ys
past_front k [] ys l = let e : k ≡ k - 0 = omega arith in ap (λ n. drop n ys) e
past_front zero (x ∷ xs) ys l = absurd (omega arith)
past_front (suc k) (x ∷ xs) ys l = let e : k - length xs ≡ suc k - suc (length xs) = omega arith in past_front k xs ys (omega arith) ∙ ap (λ n. drop n ys) e

same_head : {A : Type 0} (x y : A) (xs ys : List A) → x ∷ xs ≡ y ∷ ys → x ≡ y
same_head x y xs ys e = cc

spread : (first : Line) (a b c d e : List Line) → ((first ∷ (a ++ (b ++ c))) ++ d) ++ e ≡ (first ∷ a) ++ (b ++ (c ++ (d ++ e)))
spread first a b c d e = simp append_assoc

-- in the first file, and in a later one
func_here : (j n k : ℕ) (f : PlainFile) (fs : List PlainFile) (g : PlainFunc) (more : List PlainFunc) → drop k f.funcs ≡ g ∷ more
    → (m : ℕ) × LinesAt (file_lines j n (f ∷ fs)) (3 + funcs_size (take k f.funcs)) (func_lines m g)
func_here j n k f fs g more d =
    let r = funcs_at n k f.funcs g more d in
    let first : Line = marked (Key key.File) (counted j file_limit limit.File None) ∷ name f.name ∷ plain (Sign OpenBrace) ∷ [] in
    let later : List Line = file_lines (j + 1) (n + length f.funcs) fs in (
      r.0,
      record {
        front = first ∷ funcs_lines n (take k f.funcs);
        behind = funcs_lines (r.0 + 1) more ++ (close_line ∷ later);
        lines =
            ap (λ z. ((first ∷ z) ++ close_line ∷ []) ++ later) r.1 ∙ spread first (funcs_lines n (take k f.funcs)) (func_lines r.0 g) (funcs_lines (r.0 + 1) more) (close_line ∷ []) later;
        size = let a = funcs_count n (take k f.funcs) in omega arith;
      },
    )

func_later : (j n k m : ℕ) (f : PlainFile) (fs : List PlainFile) (g : PlainFunc) → LinesAt (file_lines (j + 1) (n + length f.funcs) fs) k (func_lines m g)
    → LinesAt (file_lines j n (f ∷ fs)) (file_size f + k) (func_lines m g)
func_later j n k m f fs g r =
    let own : List Line = file_own j n f in
    record {
      front = own ++ r.front;
      behind = r.behind;
      lines = ap (λ z. own ++ z) r.lines ∙ sym (append_assoc own r.front (func_lines m g ++ r.behind));
      size = let a = count_append own r.front in let b = file_size_own j n f in let c = r.size in omega arith;
    }

front_is : (k : ℕ) (xs ys : List PlainFunc) (g : PlainFunc) (gs : List PlainFunc) → k < length xs → drop k (xs ++ ys) ≡ g ∷ gs → (more : List PlainFunc) × (drop k xs ≡ g ∷ more)
front_is k xs ys g gs l e = let s = front_at k xs ys l in (s.1, s.2 ∙ ap (λ x. x ∷ s.1) (same_head s.0 g (s.1 ++ ys) gs (sym s.3 ∙ e)))

pub func_at : (j n k : ℕ) (fs : List PlainFile) (g : PlainFunc) (gs : List PlainFunc) → drop k (flat_map (λ (f : PlainFile). f.funcs) fs) ≡ g ∷ gs
    → (m : ℕ) × LinesAt (file_lines j n fs) (func_start k fs) (func_lines m g)
func_at j n k [] g gs e = let d = drop_none k (flat_map (λ (f : PlainFile). f.funcs) []) refl in cc
func_at j n k (f ∷ fs) g gs e = by_test (nat_lt k (length f.funcs)) refl (func_at (j + 1) (n + length f.funcs) (k - length f.funcs) fs g gs)
  where
    by_test : (b : Bool) → nat_lt k (length f.funcs) ≡ b
        → (drop (k - length f.funcs) (flat_map (λ (f : PlainFile). f.funcs) fs) ≡ g ∷ gs → (m : ℕ) × LinesAt (file_lines (j + 1) (n + length f.funcs) fs) (func_start (k - length f.funcs) fs) (func_lines m g))
        → (m : ℕ) × LinesAt (file_lines j n (f ∷ fs)) (if b then 3 + funcs_size (take k f.funcs) else file_size f + func_start (k - length f.funcs) fs) (func_lines m g)
    by_test true t ih =
        let s = front_is k f.funcs (flat_map (λ (f : PlainFile). f.funcs) fs) g gs (grind (arith, nat_tests)) e in
        func_here j n k f fs g s.0 s.1
    by_test false t ih =
        let r = ih (sym (past_front k f.funcs (flat_map (λ (f : PlainFile). f.funcs) fs) (grind (arith, nat_tests))) ∙ e) in
        (r.0, func_later j n (func_start (k - length f.funcs) fs) r.0 f fs g r.1)

abbrev block_own : (before instructions : ℕ) → Block → List Line
block_own j n b = (label_line j b.label ∷ inst_lines n b.insts) ++ term_line b.term ∷ []

block_size_own : (j n : ℕ) (b : Block) → count (block_own j n b) ≡ block_size b
block_size_own j n b =
    let a = blocks_count j n (b ∷ []) in
    let c = sum_by-cons block_size b [] in
    let z : sum_by block_size [] ≡ 0 = refl in
    let d : count (block_lines j n (b ∷ [])) ≡ count ((label_line j b.label ∷ inst_lines n b.insts) ++ term_line b.term ∷ []) =
    ap count (append-nil ((label_line j b.label ∷ inst_lines n b.insts) ++ term_line b.term ∷ [])) in
    omega arith

pub block_at : (j n k : ℕ) (bs : List Block) (b : Block) (more : List Block) → drop k bs ≡ b ∷ more
    → (m : ℕ) × (l : ℕ) × LinesAt (block_lines j n bs) (sum_by block_size (take k bs)) (label_line m b.label ∷ (inst_lines l b.insts ++ term_line b.term ∷ []))
block_at j n zero bs b more e = (j, n, record { front = []; behind = block_lines (j + 1) (n + length b.insts) more; lines = ap (block_lines j n) e; size = refl })
block_at j n (suc k) [] b more e = cc
block_at j n (suc k) (x ∷ bs) b more e =
    let r = block_at (j + 1) (n + length x.insts) k bs b more e in
    let own : List Line = block_own j n x in (
      r.0,
      r.1,
      record {
        front = own ++ r.2.front;
        behind = r.2.behind;
        lines = ap (λ z. own ++ z) r.2.lines ∙ sym (append_assoc own r.2.front _);
        size = let a = count_append own r.2.front in let c = block_size_own j n x in let d = r.2.size in let s = sum_by-cons block_size x (take k bs) in omega arith;
      },
    )

inst_tokens : (x : Option Excess) (i : Inst) → tokens (inst_line x i) ≡ tokens (inst_line None i)
inst_tokens x (inst.Call None f as_) = refl
inst_tokens x (inst.Call (Some to) f as_) = refl
inst_tokens x (inst.ICall None f as_) = refl
inst_tokens x (inst.ICall (Some to) f as_) = refl
inst_tokens x _ = refl

pub inst_at : (n i : ℕ) (is : List Inst) (t : Term) → i ≤ length is
    → (l : Line) × LinesAt (inst_lines n is ++ term_line t ∷ []) (insts_size (take i is)) (l ∷ []) × (tokens l ≡ tokens (line_at i is t))
inst_at n zero [] t l = (term_line t, record { front = []; behind = []; lines = refl; size = refl }, refl)
inst_at n (suc i) [] t l = absurd (omega arith)
inst_at n zero (x ∷ is) t l =
    let c : Option Excess = counted n instruction_limit limit.Instruction None in
    (inst_line c x, record { front = []; behind = inst_lines (n + 1) is ++ term_line t ∷ []; lines = refl; size = refl }, inst_tokens c x)
inst_at n (suc i) (x ∷ is) t l =
    let c : Option Excess = counted n instruction_limit limit.Instruction None in
    let r = inst_at (n + 1) i is t (omega arith) in (
      r.0,
      record {
        front = inst_line c x ∷ r.1.front;
        behind = r.1.behind;
        lines = ap (λ z. inst_line c x ∷ z) r.1.lines;
        size = let a = count_more (inst_line c x) r.1.front in let b = inst_length c x in let d = r.1.size in let s = sum_by-cons inst_size x (take i is) in omega arith;
      },
      r.2,
    )
