-- The labels of a function lead to even addresses in its code.
use Rattle.std.proofs.Common.{◌≡◌, ℕ, zero, suc, ◌+◌, ◌%◌, ◌^◌, ◌<◌, List, [], ◌∷◌, ◌++◌, Option, Some, None, refl, arith}
use Rattle.ir_model.specs.Resolved.{NumberedInst, NumberedBlock, NumberedFunc}
use Rattle.code_model.specs.declared.places.Places.{Places}
use Rattle.code_model.specs.Places.{site_in}
use Rattle.code_model.specs.Templates.{entry_items, inst_items, term_items}
use Rattle.code_model.specs.Sizes.{entry_size, insts_size, block_size, blocks_size, function_size}
use Rattle.code_model.specs.FunctionCode.{lent, blocks_labels, function_labels}
use Rattle.code_model.specs.Laws.{SizesHold}
use Rattle.image_promises.proofs.Encodable.{LeadEven}
use Rattle.machine_thumb_asm.proofs.Reaching.{total_even}

abbrev pub EvenLabels : List (Option ℕ) → Type 0
EvenLabels [] = Unit {0}
EvenLabels (None ∷ ls) = EvenLabels ls
EvenLabels (Some a ∷ ls) = (a % 2 ≡ 0) × (a < 2 ^ 31) × EvenLabels ls

pub labels-append : (xs ys : List (Option ℕ)) → EvenLabels xs → EvenLabels ys → EvenLabels (xs ++ ys)
labels-append [] ys h k = k
labels-append (None ∷ xs) ys h k = labels-append xs ys h k
labels-append (Some a ∷ xs) ys h k = (h.0, h.1, labels-append xs ys h.2 k)

pub lead_even : (ls : List (Option ℕ)) → EvenLabels ls → LeadEven ls
lead_even [] h l = (refl, omega arith)
lead_even (None ∷ ls) h zero = (refl, omega arith)
lead_even (None ∷ ls) h (suc l) = lead_even ls h l
lead_even (Some a ∷ ls) h zero = (h.0, h.1)
lead_even (Some a ∷ ls) h (suc l) = lead_even ls h.2 l

module _ (hold : SizesHold) (g : NumberedFunc) (q : Places) where
  insts_even : (b k : ℕ) (is : List NumberedInst) → insts_size g q.sites (lent g q) b k is % 2 ≡ 0
  insts_even b k [] = refl
  insts_even b k (i ∷ is) =
      let h = insts_even b (suc k) is in
      let e = hold.insts g q 0 (site_in q.sites b k) i in
      let v = total_even (inst_items g q 0 (site_in q.sites b k) i) in
      omega (arith, h, e, v)

  block_even : (b : ℕ) (x : NumberedBlock) → block_size g q.sites (lent g q) b x % 2 ≡ 0
  block_even b x =
      let h = insts_even b 0 x.insts in
      let e = hold.terms g q 0 x.term in
      let v = total_even (term_items g q 0 x.term) in
      omega (arith, h, e, v)

  blocks_even : (at b : ℕ) (xs : List NumberedBlock) → at % 2 ≡ 0 → at + blocks_size g q.sites (lent g q) b xs < 2 ^ 31 → EvenLabels (blocks_labels g q at b xs)
  blocks_even at b [] e l = tt
  blocks_even at b (x ∷ xs) e l =
      let v = block_even b x in
      (e, omega (arith, l), blocks_even (at + block_size g q.sites (lent g q) b x) (suc b) xs (omega (arith, e, v)) (omega (arith, l)))

  pub function_even : (at : ℕ) → at % 2 ≡ 0 → at + function_size g q.sites (lent g q) < 2 ^ 31 → EvenLabels (function_labels g q at)
  function_even at e l =
      let h = hold.entries g q in
      let v = total_even (entry_items g q) in
      blocks_even (at + entry_size g (lent g q)) 0 g.blocks (omega (arith, e, h, v)) (omega (arith, l))
