-- The functions of a compartment as they stand one behind the other.
use Rattle.std.proofs.Common.{◌≡◌, ℕ, zero, suc, ◌+◌, ◌<◌, List, [], ◌∷◌, ◌++◌, length, flat_map, get_or, Option, Some, None, IsSome, refl, ap, sym, ◌∙◌, subst, length-append, append-nil, arith}
use Rattle.std.proofs.lemmas.List.Concat.{flat_map-append}
use Rattle.machine_thumb_asm.specs.declared.item.Item.{Item}
use Rattle.machine_thumb_asm.specs.declared.item.Item.TheVariants.{Plain, Branch, Half, Word}
use Rattle.machine_thumb_asm.specs.Assembly.{Assembly, AreItems, ArePut, here}
use Rattle.ir_model.specs.Resolved.{NumberedBlock, NumberedFunc, func_at}
use Rattle.code_model.specs.declared.places.Places.{Places}
use Rattle.code_model.specs.Sizes.{entry_size, block_size}
use Rattle.code_model.specs.FunctionCode.{lent, function_items, blocks_labels, function_labels}
use Rattle.code_model.specs.CompartmentCode.{filling, label_count, before, size_of, entry_of, places_of, filled_items}
use Rattle.image_entries.specs.declared.making.Making.{Making}
use Rattle.image_entries.specs.Making.{program_in, grouped, places_at}
use Rattle.image_linker.specs.Standing.{with_filled, standing}
use Rattle.code_model.proofs.Labels.{labels_length}

-- ---- labels

-- a compartment's functions have as many labels as blocks
pub labels_counted : (m : Making) (c : ℕ) (fs : List ℕ) → length (standing m c fs).places ≡ label_count (program_in m) (grouped m) fs
labels_counted m c [] = refl
labels_counted m c (f ∷ fs) =
    let p = program_in m in
    let q = places_of p (grouped m) (places_at m) f in
    let at = entry_of p (grouped m) (places_at m) f in
    omega (arith, length-append (function_labels (func_at p f) q at) (standing m c fs).places, labels_length (func_at p f) q (at + entry_size (func_at p f) (lent (func_at p f) q)) 0 (func_at p f).blocks, labels_counted m c fs)

-- all of them are put
abbrev AreSome : List (Option ℕ) → Type 0
AreSome [] = Unit {0}
AreSome (Some x ∷ xs) = AreSome xs
AreSome (None ∷ xs) = ⊥

some-append : (xs ys : List (Option ℕ)) → AreSome xs → AreSome ys → AreSome (xs ++ ys)
some-append [] ys h k = k
some-append (None ∷ xs) ys h k = elim h [ ]
some-append (Some x ∷ xs) ys h k = some-append xs ys h k

blocks_some : (g : NumberedFunc) (q : Places) (at b : ℕ) (xs : List NumberedBlock) → AreSome (blocks_labels g q at b xs)
blocks_some g q at b [] = tt
blocks_some g q at b (x ∷ xs) = blocks_some g q (at + block_size g q.sites (lent g q) b x) (suc b) xs

labels_some : (m : Making) (c : ℕ) (fs : List ℕ) → AreSome (standing m c fs).places
labels_some m c [] = tt
labels_some m c (f ∷ fs) =
    let p = program_in m in
    let g = func_at p f in
    let q = places_of p (grouped m) (places_at m) f in
    let at = entry_of p (grouped m) (places_at m) f in
    some-append (function_labels g q at) (standing m c fs).places (blocks_some g q (at + entry_size g (lent g q)) 0 g.blocks) (labels_some m c fs)

one_some : (xs : List (Option ℕ)) (k : ℕ) → AreSome xs → k < length xs → IsSome (get_or xs k None)
one_some [] k h l = absurd (omega arith)
one_some (None ∷ xs) k h l = elim h [ ]
one_some (Some x ∷ xs) zero h l = search
one_some (Some x ∷ xs) (suc k) h l = one_some xs k h (omega arith)

all_put : (places : List (Option ℕ)) (items : List Item) → AreSome places → AreItems (length places) items → ArePut places items
all_put places [] s h = tt
all_put places (Plain x ∷ items) s h = all_put places items s h.1
all_put places (Branch kind to ∷ items) s h = (one_some places to.number s h.0.1, all_put places items s h.1)
all_put places (Half x ∷ items) s h = all_put places items s h.1
all_put places (Word x ∷ items) s h = all_put places items s h.1

-- so the assembler may finish
pub standing_put : (m : Making) (c : ℕ) (fs : List ℕ) (a : Assembly) → a ≡ standing m c fs → AreItems (length a.places) a.items → ArePut a.places a.items
standing_put m c fs a e h = all_put a.places a.items (subst (λ (x : Assembly). AreSome x.places) (sym e) (labels_some m c fs)) h

-- ---- one function more

-- behind the others it stands as the definition has it
pub function_more : (m : Making) (c f : ℕ) (fs : List ℕ) (a b : Assembly) (q : Places) (size : ℕ) →
    a ≡ standing m c fs → q ≡ places_of (program_in m) (grouped m) (places_at m) f → here a ≡ entry_of (program_in m) (grouped m) (places_at m) f →
    fs ≡ before (program_in m) (grouped m) f → size ≡ size_of (program_in m) (grouped m) f → b ≡ with_filled a (func_at (program_in m) f) q size →
    b ≡ standing m c (fs ++ f ∷ [])
function_more m c f fs a b q size ea eq eh ef es eb =
    let p = program_in m in
    let gs = grouped m in
    let at = places_at m in
    let g = func_at p f in
    let s = standing m c fs in
    let F : ℕ → List Item = filled_items p gs at in
    let G : ℕ → List (Option ℕ) = λ h. function_labels (func_at p h) (places_of p gs at h) (entry_of p gs at h) in
    let make : Places → ℕ → ℕ → ℕ → Assembly =
    λ r n e z. record { base = s.base; items = s.items ++ (function_items g r n e ++ filling z); places = s.places ++ function_labels g r e } in
    let with_parts : List Item → List (Option ℕ) → Assembly = λ is ls. record { base = s.base; items = is; places = ls } in
    let count : length s.places ≡ label_count p gs (before p gs f) = labels_counted m c fs ∙ ap (label_count p gs) ef in
    let place : here s ≡ entry_of p gs at f = sym (ap here ea) ∙ eh in
    let items : s.items ++ F f ≡ flat_map F (fs ++ f ∷ []) = sym (flat_map-append F fs (f ∷ []) ∙ ap (λ xs. s.items ++ xs) (append-nil (F f))) in
    let labels : s.places ++ G f ≡ flat_map G (fs ++ f ∷ []) = sym (flat_map-append G fs (f ∷ []) ∙ ap (λ xs. s.places ++ xs) (append-nil (G f))) in
    eb
    ∙ ap (λ (x : Assembly). with_filled x g q size) ea
    ∙ ap (λ (r : Places). make r (length s.places) (here s) size) eq
    ∙ ap (λ n. make (places_of p gs at f) n (here s) size) count
    ∙ ap (λ e. make (places_of p gs at f) (label_count p gs (before p gs f)) e size) place
    ∙ ap (λ z. make (places_of p gs at f) (label_count p gs (before p gs f)) (entry_of p gs at f) z) es
    ∙ ap (λ is. with_parts is (s.places ++ G f)) items
    ∙ ap (λ ls. with_parts (flat_map F (fs ++ f ∷ [])) ls) labels
