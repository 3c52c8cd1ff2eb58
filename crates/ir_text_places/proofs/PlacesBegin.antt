-- The tokens from the item of a fault on begin as that item does.
use Rattle.std.proofs.Common.{◌≡◌, ◌≤◌, ◌⊎◌, inl, inr, ℕ, zero, suc, ◌+◌, List, [], ◌∷◌, ◌++◌, length, take, drop, map, Bool, true, false, not, ◌&&◌, refl, sym, ap, ◌∙◌, subst, arith, append-nil, append_assoc, bytes_eq, if◌then◌else◌}
use Rattle.std.specs.List.{sum_by, Contains}
use Rattle.std.proofs.lemmas.Slice.Eq.{bytes_eq-Decides}
use Rattle.std.proofs.Math.Seq.{drop-append_seam}
use Rattle.base_names.specs.Numbers.{has, number_of}
use Rattle.ir_model.specs.declared.check.CheckKind.{CheckKind}
use Rattle.ir_model.specs.declared.check.CheckPlace.{CheckPlace}
use Rattle.ir_model.specs.declared.check.CheckPlace.TheVariants as place
use Rattle.ir_model.specs.declared.firmware.Block.{Block}
use Rattle.ir_model.specs.declared.firmware.Peripheral.{Peripheral}
use Rattle.ir_model.specs.declared.token.Keyword.TheVariants as key
use Rattle.ir_model.specs.Plain.{PlainStruct, PlainGlobal, PlainFunc, PlainFile, PlainFirmware, funcs_of, func_names}
use Rattle.ir_model.specs.Tokens.{Token, Name, Key, Marked}
use Rattle.ir_model.specs.Lines.{Line, struct_lines, periph_lines, global_line, global_lines, file_lines, func_line, func_lines, local_lines, reg_lines, block_lines, label_line, inst_lines, term_line, close_line, lines_of}
use Rattle.ir_model.specs.Texts.{joined, tokens}
use Rattle.ir_text_places.specs.declared.item.Item.TheVariants as item
use Rattle.ir_text_places.specs.Items.{count, declaration_lines, tokens_before}
use Rattle.ir_text_places.specs.Faulty.{is_again, is_of_field, periph_row, global_row, first_labels, code_at, item_at, item_of}
use Rattle.ir_text_places.specs.Stands.{tokens_of}
use Rattle.ir_text_places.specs.Laws.{BeginWith, BeginInCode, BeginAs, line_at, ItemsBegin}
use Rattle.ir_text_places.specs.Sizes.{front_size, insts_size, block_size, file_size, func_start, place_start, code_start, declarations_size}
use Rattle.ir_text_places.proofs.Counted.{joined_append, front_count, declarations_count, before_count}
use Rattle.ir_text_places.proofs.FaultNames.{FoundCode, Found, fault_found}
use Rattle.ir_text_places.proofs.Begins.{AtNumber, in_row_at, behind_lines, structs_at, periphs_at, globals_at, LinesAt, files_at, within, func_at, block_at, inst_at}

-- ---- tokens of lines

both_tokens : (a b : List Marked) → tokens (a ++ b) ≡ tokens a ++ tokens b
both_tokens [] b = refl
both_tokens (m ∷ a) b = ap (λ ts. m.token ∷ ts) (both_tokens a b)

-- tokens begin as the lines of a part do
begin_part : (front : List Token) (ls : List Line) (k : ℕ) (part : List Line) → LinesAt ls k part → BeginWith front (tokens (joined part)) → BeginWith front (drop k (tokens (joined ls)))
begin_part front ls k part a b = (
  b.0 ++ tokens (joined a.behind),
  behind_lines ls a.front (part ++ a.behind) k a.lines (sym a.size)
      ∙ (ap tokens (joined_append part a.behind) ∙ (both_tokens (joined part) (joined a.behind) ∙ (ap (λ ts. ts ++ tokens (joined a.behind)) b.1 ∙ append_assoc front b.0 (tokens (joined a.behind))))),
)

renamed : (k : List Token) (m n : List ℕ) (ts : List Token) → m ≡ n → BeginWith (k ++ Name m ∷ []) ts → BeginWith (k ++ Name n ∷ []) ts
renamed k m n ts e b = subst (λ (w : List ℕ). BeginWith (k ++ Name w ∷ []) ts) e b

global_begins : (j : ℕ) (g : PlainGlobal) (more : List Line)
    → BeginWith (Key key.Global ∷ Name g.name ∷ []) (tokens (joined (global_line j g ∷ more))) ⊎ BeginWith (Key key.Const ∷ Key key.Global ∷ Name g.name ∷ []) (tokens (joined (global_line j g ∷ more)))
global_begins j g more = by_constant g.constant g
  where
    by_constant : (b : Bool) (g : PlainGlobal) → BeginWith (Key key.Global ∷ Name g.name ∷ []) (tokens (joined (global_line j (record g { constant = b }) ∷ more)))
        ⊎ BeginWith (Key key.Const ∷ Key key.Global ∷ Name g.name ∷ []) (tokens (joined (global_line j (record g { constant = b }) ∷ more)))
    by_constant false g = inl (drop 2 (tokens (joined (global_line j (record g { constant = false }) ∷ more))), refl)
    by_constant true g = inr (drop 3 (tokens (joined (global_line j (record g { constant = true }) ∷ more))), refl)

in_first : (a b p g f : List Line) → (a ++ b) ++ p ++ g ++ f ≡ a ++ (b ++ (p ++ (g ++ f)))
in_first a b p g f = simp append_assoc

in_second : (s a b g f : List Line) → s ++ (a ++ b) ++ g ++ f ≡ (s ++ a) ++ (b ++ (g ++ f))
in_second s a b g f = simp append_assoc

in_third : (s p a b f : List Line) → s ++ p ++ (a ++ b) ++ f ≡ (s ++ p ++ a) ++ (b ++ f)
in_third s p a b f = simp append_assoc

module _ (w : PlainFirmware) where
  struct_part : (k : ℕ) (s : PlainStruct) (more : List PlainStruct) → drop k w.structs ≡ s ∷ more → (m : ℕ) × LinesAt (lines_of w) (count (struct_lines 0 (take k w.structs))) (struct_lines m (s ∷ more))
  unfolding lines_of
  struct_part k s more e =
      let r = structs_at 0 k w.structs s more e in (
        r.0,
        record {
          front = struct_lines 0 (take k w.structs);
          behind = periph_lines 0 w.periphs ++ (global_lines 0 w.globals ++ file_lines 0 0 w.files);
          lines = ap (λ z. z ++ periph_lines 0 w.periphs ++ global_lines 0 w.globals ++ file_lines 0 0 w.files) r.1 ∙ in_first (struct_lines 0 (take k w.structs)) (struct_lines r.0 (s ∷ more)) (periph_lines 0 w.periphs) (global_lines 0 w.globals) (file_lines 0 0 w.files);
          size = refl;
        },
      )

  periph_part : (k : ℕ) (q : Peripheral) (more : List Peripheral) → drop k w.periphs ≡ q ∷ more
      → (m : ℕ) × LinesAt (lines_of w) (count (struct_lines 0 w.structs ++ periph_lines 0 (take k w.periphs))) (periph_lines m (q ∷ more))
  unfolding lines_of
  periph_part k q more e =
      let r = periphs_at 0 k w.periphs q more e in (
        r.0,
        record {
          front = struct_lines 0 w.structs ++ periph_lines 0 (take k w.periphs);
          behind = global_lines 0 w.globals ++ file_lines 0 0 w.files;
          lines = ap (λ z. struct_lines 0 w.structs ++ z ++ global_lines 0 w.globals ++ file_lines 0 0 w.files) r.1 ∙ in_second (struct_lines 0 w.structs) (periph_lines 0 (take k w.periphs)) (periph_lines r.0 (q ∷ more)) (global_lines 0 w.globals) (file_lines 0 0 w.files);
          size = refl;
        },
      )

  global_part : (k : ℕ) (g : PlainGlobal) (more : List PlainGlobal) → drop k w.globals ≡ g ∷ more
      → (m : ℕ) × LinesAt (lines_of w) (count (struct_lines 0 w.structs ++ periph_lines 0 w.periphs ++ global_lines 0 (take k w.globals))) (global_lines m (g ∷ more))
  unfolding lines_of
  global_part k g more e =
      let r = globals_at 0 k w.globals g more e in (
        r.0,
        record {
          front = struct_lines 0 w.structs ++ periph_lines 0 w.periphs ++ global_lines 0 (take k w.globals);
          behind = file_lines 0 0 w.files;
          lines = ap (λ z. struct_lines 0 w.structs ++ periph_lines 0 w.periphs ++ z ++ file_lines 0 0 w.files) r.1 ∙ in_third (struct_lines 0 w.structs) (periph_lines 0 w.periphs) (global_lines 0 (take k w.globals)) (global_lines r.0 (g ∷ more)) (file_lines 0 0 w.files);
          size = refl;
        },
      )

  files_part : LinesAt (lines_of w) (declarations_size w) (file_lines 0 0 w.files)
  unfolding lines_of
  files_part =
      record {
        front = declaration_lines w;
        behind = [];
        lines = ap (λ z. declaration_lines w ++ z) (sym (append-nil (file_lines 0 0 w.files)));
        size = declarations_count w;
      }

  -- ---- places of code

  code_part : (m : ℕ) (f : PlainFunc) (k : ℕ) (b : Block) (more : List Block) (i : ℕ) → drop k f.blocks ≡ b ∷ more → i ≤ length b.insts
      → (l : Line) × LinesAt (func_lines m f) (front_size f + (sum_by block_size (take k f.blocks) + (2 + insts_size (take i b.insts)))) (l ∷ []) × (tokens l ≡ tokens (line_at i b.insts b.term))
  code_part m f k b more i e h =
      let top : List Line = (func_line m f ∷ local_lines 0 f.locals) ++ reg_lines (length f.params) f.regs in
      let blocks = block_at 0 0 k f.blocks b more e in
      let insts = inst_at blocks.1 i b.insts b.term h in
      let all : LinesAt (func_lines m f) (front_size f) (block_lines 0 0 f.blocks) =
      record { front = top; behind = close_line ∷ []; lines = append_assoc top (block_lines 0 0 f.blocks) (close_line ∷ []); size = front_count m (length f.params) f } in
      let code : LinesAt (label_line blocks.0 b.label ∷ (inst_lines blocks.1 b.insts ++ term_line b.term ∷ [])) 2 (inst_lines blocks.1 b.insts ++ term_line b.term ∷ []) =
      record { front = label_line blocks.0 b.label ∷ []; behind = []; lines = ap (λ z. label_line blocks.0 b.label ∷ z) (sym (append-nil (inst_lines blocks.1 b.insts ++ term_line b.term ∷ []))); size = refl } in
      let inside = within _ 2 _ (insts_size (take i b.insts)) (insts.0 ∷ []) code insts.1 in
      let deep = within _ (sum_by block_size (take k f.blocks)) _ (2 + insts_size (take i b.insts)) (insts.0 ∷ []) blocks.2 inside in
      (insts.0, within _ (front_size f) _ (sum_by block_size (take k f.blocks) + (2 + insts_size (take i b.insts))) (insts.0 ∷ []) all deep, insts.2)

  code_begins : (k : ℕ) (g : PlainFunc) (gs : List PlainFunc) → drop k (funcs_of w) ≡ g ∷ gs → (j : ℕ) (c : Block) (cs : List Block) → drop j g.blocks ≡ c ∷ cs → (i : ℕ) → i ≤ length c.insts
      → BeginWith (tokens (line_at i c.insts c.term)) (drop (tokens_before w (item.Code k j i)) (tokens_of w))
  code_begins k g gs d j c cs e i h =
      let r = func_at 0 0 k w.files g gs d in
      let code = code_part r.0 g j c cs i e h in
      let n : ℕ = front_size g + (sum_by block_size (take j g.blocks) + (2 + insts_size (take i c.insts))) in
      let deep = within (file_lines 0 0 w.files) (func_start k w.files) (func_lines r.0 g) n (code.0 ∷ []) r.1 code.1 in
      let all = within (lines_of w) (declarations_size w) (file_lines 0 0 w.files) (func_start k w.files + n) (code.0 ∷ []) files_part deep in
      let one : code_start j i (drop k (funcs_of w)) ≡ n =
      ap (code_start j i) d ∙ ap (λ bs. front_size g + (sum_by block_size (take j g.blocks) + place_start i bs)) e in
      let size : tokens_before w (item.Code k j i) ≡ declarations_size w + (func_start k w.files + n) =
      before_count w (item.Code k j i) ∙ ap (λ m. declarations_size w + (func_start k w.files + m)) one in
      let line : BeginWith (tokens (line_at i c.insts c.term)) (tokens (joined (code.0 ∷ []))) =
      ([], ap tokens (append-nil code.0) ∙ (code.2 ∙ sym (append-nil (tokens (line_at i c.insts c.term))))) in
      subst (λ (m : ℕ). BeginWith (tokens (line_at i c.insts c.term)) (drop m (tokens_of w))) (sym size)
      (begin_part (tokens (line_at i c.insts c.term)) (lines_of w) (declarations_size w + (func_start k w.files + n)) (code.0 ∷ []) all line)

  -- ---- each kind of item

  struct_begins : (k : ℕ) (n : List ℕ) → AtNumber (λ (s : PlainStruct). s.name) w.structs k n → BeginWith (Key key.Struct ∷ Name n ∷ []) (drop (tokens_before w (item.Struct k)) (tokens_of w))
  unfolding tokens_before
  struct_begins k n r =
      let p = struct_part k r.item r.more r.there in
      let part : List Line = struct_lines p.0 (r.item ∷ r.more) in
      renamed (Key key.Struct ∷ []) r.item.name n _ r.name
      (begin_part (Key key.Struct ∷ Name r.item.name ∷ []) (lines_of w) (count (struct_lines 0 (take k w.structs))) part p.1 (drop 2 (tokens (joined part)), refl))

  periph_begins : (k : ℕ) (n : List ℕ) → AtNumber (λ (q : Peripheral). q.name) w.periphs k n → BeginWith (Key key.Periph ∷ Name n ∷ []) (drop (tokens_before w (item.Periph k)) (tokens_of w))
  unfolding tokens_before
  periph_begins k n r =
      let p = periph_part k r.item r.more r.there in
      let part : List Line = periph_lines p.0 (r.item ∷ r.more) in
      renamed (Key key.Periph ∷ []) r.item.name n _ r.name
      (begin_part (Key key.Periph ∷ Name r.item.name ∷ []) (lines_of w) (count (struct_lines 0 w.structs ++ periph_lines 0 (take k w.periphs))) part p.1 (drop 2 (tokens (joined part)), refl))

  global_begins_at : (k : ℕ) (n : List ℕ) → AtNumber (λ (g : PlainGlobal). g.name) w.globals k n
      → BeginWith (Key key.Global ∷ Name n ∷ []) (drop (tokens_before w (item.Global k)) (tokens_of w)) ⊎ BeginWith (Key key.Const ∷ Key key.Global ∷ Name n ∷ []) (drop (tokens_before w (item.Global k)) (tokens_of w))
  unfolding tokens_before
  global_begins_at k n r =
      let p = global_part k r.item r.more r.there in
      let part : List Line = global_lines p.0 (r.item ∷ r.more) in
      let before : ℕ = count (struct_lines 0 w.structs ++ periph_lines 0 w.periphs ++ global_lines 0 (take k w.globals)) in
      elim (global_begins p.0 r.item (global_lines (p.0 + 1) r.more)) [
        | inl a ↦ inl (renamed (Key key.Global ∷ []) r.item.name n _ r.name (begin_part (Key key.Global ∷ Name r.item.name ∷ []) (lines_of w) before part p.1 a))
        | inr b ↦ inr (renamed (Key key.Const ∷ Key key.Global ∷ []) r.item.name n _ r.name (begin_part (Key key.Const ∷ Key key.Global ∷ Name r.item.name ∷ []) (lines_of w) before part p.1 b))
      ]

  file_begins : (k : ℕ) (n : List ℕ) → AtNumber (λ (f : PlainFile). f.name) w.files k n → BeginWith (Key key.File ∷ Name n ∷ []) (drop (tokens_before w (item.File k)) (tokens_of w))
  file_begins k n r =
      let p = files_at 0 0 k w.files r.item r.more r.there in
      let part : List Line = file_lines p.0 p.1 (r.item ∷ r.more) in
      let size : ℕ = declarations_size w + sum_by file_size (take k w.files) in
      let all = within (lines_of w) (declarations_size w) (file_lines 0 0 w.files) (sum_by file_size (take k w.files)) part files_part p.2 in
      subst (λ (m : ℕ). BeginWith (Key key.File ∷ Name n ∷ []) (drop m (tokens_of w))) (sym (before_count w (item.File k)))
      (renamed (Key key.File ∷ []) r.item.name n (drop size (tokens_of w)) r.name
      (begin_part (Key key.File ∷ Name r.item.name ∷ []) (lines_of w) size part all (drop 2 (tokens (joined part)), refl)))

  func_begins : (k : ℕ) (n : List ℕ) → AtNumber (λ (f : PlainFunc). f.name) (funcs_of w) k n → BeginWith (Key key.Func ∷ Name n ∷ []) (drop (tokens_before w (item.Func k)) (tokens_of w))
  func_begins k n r =
      let p = func_at 0 0 k w.files r.item r.more r.there in
      let part : List Line = func_lines p.0 r.item in
      let size : ℕ = declarations_size w + func_start k w.files in
      let all = within (lines_of w) (declarations_size w) (file_lines 0 0 w.files) (func_start k w.files) part files_part p.1 in
      subst (λ (m : ℕ). BeginWith (Key key.Func ∷ Name n ∷ []) (drop m (tokens_of w))) (sym (before_count w (item.Func k)))
      (renamed (Key key.Func ∷ []) r.item.name n (drop size (tokens_of w)) r.name
      (begin_part (Key key.Func ∷ Name r.item.name ∷ []) (lines_of w) size part all (drop 2 (tokens (joined part)), refl)))

-- ---- a place of code by its names

contains_split : {A : Type 0} (front behind : List A) (x : A) → Contains (front ++ x ∷ behind) x
contains_split [] behind x = (zero, omega arith, refl)
contains_split (y ∷ front) behind x = let r = contains_split front behind x in let l = r.1 in (suc r.0, omega arith, r.2)

number_new : {A : Type 0} (f : A → List ℕ) (front : List A) (x : A) (behind : List A) (n : List ℕ) → has (map f front) n ≡ false → f x ≡ n → number_of (map f (front ++ x ∷ behind)) n ≡ length front
number_new f [] x behind n h e = ap (λ (b : Bool). if b then zero else suc (number_of (map f behind) n)) ((bytes_eq-Decides (f x) n).1 e)
number_new {A} f (y ∷ front) x behind n h e = by_test (bytes_eq (f y) n) h (λ i. number_new f front x behind n i e)
  where
    by_test : (b : Bool) → (if b then true else has (map f front) n) ≡ false → (has (map f front) n ≡ false → number_of (map f (front ++ x ∷ behind)) n ≡ length front)
        → (if b then zero else suc (number_of (map f (front ++ x ∷ behind)) n)) ≡ suc (length front)
    by_test true i ih = cc
    by_test false i ih = ap suc (ih i)

module _ (w : PlainFirmware) where
  inst_begins : (f l : List ℕ) (i : ℕ) → FoundCode (funcs_of w) f l i → BeginInCode w f l i (drop (tokens_before w (code_at (funcs_of w) f l i)) (tokens_of w))
  inst_begins f l i c =
      let k : ℕ = number_of (func_names (funcs_of w)) f in
      let kn : k ≡ length c.funcs_before =
      ap (λ fs. number_of (func_names fs) f) c.funcs ∙ number_new (λ (g : PlainFunc). g.name) c.funcs_before c.func c.funcs_behind f c.new_func c.func_name in
      let d : drop k (funcs_of w) ≡ c.func ∷ c.funcs_behind =
      ap (λ n. drop n (funcs_of w)) kn ∙ (ap (drop (length c.funcs_before)) c.funcs ∙ drop-append_seam c.funcs_before (c.func ∷ c.funcs_behind)) in
      let j : ℕ = number_of (first_labels (drop k (funcs_of w))) l in
      let jn : j ≡ length c.blocks_before =
      ap (λ fs. number_of (first_labels fs) l) d
      ∙ (ap (λ bs. number_of (map (λ (b : Block). b.label) bs) l) c.blocks ∙ number_new (λ (b : Block). b.label) c.blocks_before c.block c.blocks_behind l c.new_label c.label) in
      let e : drop j c.func.blocks ≡ c.block ∷ c.blocks_behind =
      ap (λ n. drop n c.func.blocks) jn ∙ (ap (drop (length c.blocks_before)) c.blocks ∙ drop-append_seam c.blocks_before (c.block ∷ c.blocks_behind)) in
      record {
        func = c.func;
        block = c.block;
        in_firmware = subst (λ (fs : List PlainFunc). Contains fs c.func) (sym c.funcs) (contains_split c.funcs_before c.funcs_behind c.func);
        func_name = c.func_name;
        in_func = subst (λ (bs : List Block). Contains bs c.block) (sym c.blocks) (contains_split c.blocks_before c.blocks_behind c.block);
        label = c.label;
        in_block = c.in_block;
        begin = code_begins w k c.func c.funcs_behind d j c.block c.blocks_behind e i c.in_block;
      }

  place_begins : (k : CheckKind) (p : CheckPlace) → Found w p → BeginAs w p (drop (tokens_before w (item_at w k p)) (tokens_of w))
  place_begins k place.Whole h = tt
  place_begins k (place.Struct n) h = struct_begins w _ n (in_row_at (λ (s : PlainStruct). s.name) w.structs [] (is_again k n && not (is_of_field w n)) n h)
  place_begins k (place.Periph n) h = periph_begins w _ n (in_row_at (λ (q : Peripheral). q.name) w.periphs [] (is_again k n) n h)
  place_begins k (place.Global n) h = global_begins_at w _ n (in_row_at (λ (g : PlainGlobal). g.name) w.globals (periph_row w) (is_again k n) n h)
  place_begins k (place.File n) h = file_begins w _ n (in_row_at (λ (f : PlainFile). f.name) w.files [] (is_again k n) n h)
  place_begins k (place.Func n) h = func_begins w _ n (in_row_at (λ (f : PlainFunc). f.name) (funcs_of w) (periph_row w ++ global_row w) (is_again k n) n h)
  place_begins k (place.Inst f l i) h = inst_begins f l i h

pub items_begin : ItemsBegin
unfolding item_of
items_begin w e x = place_begins w e.kind e.place (fault_found w e x)
