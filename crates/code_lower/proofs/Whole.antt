-- A whole function is its entry and its blocks.
use Rattle.std.proofs.Common.{◌≡◌, ℕ, ◌+◌, ◌%◌, ◌<◌, ◌≤◌, ◌^◌, List, ◌++◌, length, take, replicate, Option, None, ap, sym, ◌∙◌, append_assoc, arith}
use Rattle.std.proofs.lemmas.List.{take_at}
use Rattle.std.proofs.lemmas.List.Elements.{All-get_or}
use Rattle.machine_thumb_asm.specs.declared.item.Item.{Item}
use Rattle.machine_thumb_asm.specs.Assembly.{Assembly, here, total}
use Rattle.ir_model.specs.Resolved.{NumberedFunc}
use Rattle.ir_model.specs.Signatures.{row_length}
use Rattle.code_model.specs.declared.places.Places.{Places}
use Rattle.code_lower.specs.declared.subject.Subject.{Subject}
use Rattle.code_model.specs.FrameShape.{frame_shape}
use Rattle.code_model.specs.Places.{entry_address}
use Rattle.code_model.specs.Templates.{entry_items}
use Rattle.code_model.specs.Sizes.{entry_size}
use Rattle.code_model.specs.FunctionCode.{lent, function_items, function_labels}
use Rattle.code_model.specs.Fitting.{FuncFits}
use Rattle.code_lower.specs.Subjects.{func_of, first_label, rest_items, rest_labels}
use Rattle.code_model.specs.Emitted.{with_function, size_in, HasRoom, IsNear, AreNear}
use Rattle.code_model.proofs.PieceSizes.{entry_total}
use Rattle.code_model.proofs.FunctionSizes.{function_total}
use Rattle.code_model.proofs.Even.{entry_even}
use Rattle.code_lower.proofs.Blocks.{narrow}
use Rattle.machine_thumb_asm.proofs.Items.{total-append}

-- the words of a frame that is small enough: at least as many as registers
pub words_few : (q : Places) (g : NumberedFunc) → FuncFits q g → (frame_shape g).words < 255
words_few q g f = let e = f.frame in omega arith

pub words_more : (q : Places) (g : NumberedFunc) → FuncFits q g → row_length g.params ≤ (frame_shape g).words
words_more q g f = let e = f.params_first in omega arith

-- a function that is put: an assembler before it, and with its entry and new labels behind
module _ (s : Subject) (a b : Assembly) (first : first_label s.labels.items ≡ length a.places) (base : b.base ≡ a.base)
    (items : b.items ≡ a.items ++ entry_items (func_of s) s.places.now) (places : b.places ≡ a.places ++ replicate (length (func_of s).blocks) None) where
  abbrev g : NumberedFunc
  g = func_of s

  abbrev q : Places
  q = s.places.now

  abbrev entry : List Item
  entry = entry_items g q

  pub behind_entry : here b ≡ here a + entry_size g (lent g q)
  behind_entry = let e = ap total items in let t = total-append a.items entry in let n = entry_total g q in omega arith

  pub whole_items : function_items g q (length a.places) (here a) ≡ entry ++ rest_items s (here b) 0
  whole_items =
      ap (λ n. function_items g q n (here a)) (sym first)
      ∙ ap (λ n. entry ++ rest_items s n 0) (sym behind_entry)

  pub whole_labels : function_labels g q (here a) ≡ rest_labels s (here b) 0
  whole_labels = ap (λ n. rest_labels s n 0) (sym behind_entry)

  whole_total : total entry + total (rest_items s (here b) 0) ≡ size_in q g
  whole_total =
      let e = ap total whole_items in
      let t = total-append entry (rest_items s (here b) 0) in
      let f = function_total g q (length a.places) (here a) in
      omega arith

  pub blocks_room : here a + size_in q g < 2 ^ 31 → HasRoom b (rest_items s (here b) 0)
  blocks_room h = let e = behind_entry in let t = whole_total in let n = entry_total g q in record { below = omega arith }

  pub blocks_near : (es : List ℕ) → AreNear (here a) (here a + size_in q g) es → AreNear (here b) (here b + total (rest_items s (here b) 0)) es
  blocks_near es h =
      let e = behind_entry in
      let t = whole_total in
      let n = entry_total g q in
      narrow (here a) (here a + size_in q g) (here b) (here b + total (rest_items s (here b) 0)) es (omega arith) (omega arith) h

  pub blocks_even : (f : ℕ) → f < length q.entries → entry_address q f ≡ here a → AreNear (here a) (here a + size_in q g) q.entries → here b % 2 ≡ 0
  blocks_even f l e h =
      let n = All-get_or (IsNear (here a) (here a + size_in q g)) q.entries f 0 l h in
      let v = n.even in
      let w = entry_even g (lent g q) in
      let x = behind_entry in
      omega arith

  pub whole_put : (c : Assembly) → c ≡ record b { items = b.items ++ rest_items s (here b) 0; places = take (first_label s.labels.items) b.places ++ rest_labels s (here b) 0 } →
      c ≡ with_function a g q
  whole_put c e =
      let xs : List Item = rest_items s (here b) 0 in
      let ys : List (Option ℕ) = rest_labels s (here b) 0 in
      let code = ap (λ (is : List Item). is ++ xs) items ∙ (append_assoc a.items entry xs ∙ ap (λ (is : List Item). a.items ++ is) (sym whole_items)) in
      let kept = ap (λ (ps : List (Option ℕ)). take (first_label s.labels.items) ps) places ∙ take_at a.places (replicate (length g.blocks) None) (first_label s.labels.items) (sym first) in
      let labels = ap (λ (ps : List (Option ℕ)). ps ++ ys) kept ∙ ap (λ (ps : List (Option ℕ)). a.places ++ ps) (sym whole_labels) in
      e ∙ (ap (λ (n : ℕ). record { base = n; items = b.items ++ xs; places = take (first_label s.labels.items) b.places ++ ys }) base
      ∙ (ap (λ (is : List Item). record { base = a.base; items = is; places = take (first_label s.labels.items) b.places ++ ys }) code
      ∙ ap (λ (ps : List (Option ℕ)). record { base = a.base; items = a.items ++ function_items g q (length a.places) (here a); places = ps }) labels))

-- the entry has room where the function has
pub entry_room : (g : NumberedFunc) (q : Places) (a b : Assembly) (n : ℕ) → here b ≡ here a → here a + size_in q g < 2 ^ 31 → HasRoom b (entry_items g q)
entry_room g q a b n e h =
    let t = function_total g q n (here a) in
    let x = entry_total g q in
    record { below = omega arith }
