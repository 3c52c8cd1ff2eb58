-- Every branch of a compartment's code reaches its label.
use Rattle.std.proofs.Common.{◌≡◌, ℕ, suc, ◌+◌, ◌%◌, ◌<◌, ◌≤◌, ◌^◌, List, [], ◌∷◌, ◌++◌, length, take, drop, get_or, flat_map, Bool, true, false, if◌then◌else◌, nat_eq, Option, None, refl, sym, ap, subst, ◌∙◌, arith, append_assoc, length-append}
use Rattle.std.proofs.Math.ListN.{get_or-append}
use Rattle.std.proofs.lemmas.Bool.{eqb-true}
use Rattle.std.proofs.lemmas.List.{get_or-append-add}
use Rattle.std.proofs.lemmas.List.Concat.{flat_map-append}
use Rattle.machine_thumb_asm.specs.declared.item.Item.{Item}
use Rattle.machine_thumb_asm.specs.Assembly.{total}
use Rattle.machine_thumb_asm.specs.Finished.{first_far}
use Rattle.ir_model.specs.Resolved.{Program, func_at}
use Rattle.code_model.specs.Sizes.{entry_size}
use Rattle.code_model.specs.FunctionCode.{lent, function_items, function_labels}
use Rattle.code_model.specs.CompartmentCode.{CodeGroups, CodePlaces, members_from, filling, compartment_of, members, before, size_of, total_size, label_count, entry_of, places_of, filled_items, compartment_labels}
use Rattle.code_model.specs.Laws.{SizesHold, SizesAreEven}
use Rattle.code_lower_laws.specs.Reaching.{StandFrom, JumpsInside, FunctionsReach, CompartmentsReach}
use Rattle.code_lower_laws.proofs.Reaching.{far-append}
use Rattle.code_model.proofs.Labels.{labels_length}
use Rattle.code_model.proofs.Compartments.{filled_total, total_append}

filling_near : (ps : List (Option ℕ)) (at n : ℕ) (b : Bool) → nat_eq (n % 4) 0 ≡ b → first_far ps at (filling n) ≡ None
filling_near ps at n true h = rw h refl
filling_near ps at n false h = rw h refl

module _ (hold : SizesHold) (even : SizesAreEven) (reach : FunctionsReach) (p : Program) (groups : CodeGroups) (places : CodePlaces) (inside : (f : ℕ) → JumpsInside (func_at p f)) where
  abbrev code_of : ℕ → List Item
  code_of f = function_items (func_at p f) (places_of p groups places f) (label_count p groups (before p groups f)) (entry_of p groups places f)

  abbrev labels_in : ℕ → List (Option ℕ)
  labels_in f = function_labels (func_at p f) (places_of p groups places f) (entry_of p groups places f)

  code_total : (f : ℕ) → total (code_of f) ≡ size_of p groups f
  code_total f = hold.functions (func_at p f) (places_of p groups places f) (label_count p groups (before p groups f)) (entry_of p groups places f)

  labels_in_length : (f : ℕ) → length (labels_in f) ≡ length (func_at p f).blocks
  labels_in_length f = labels_length (func_at p f) (places_of p groups places f) (entry_of p groups places f + entry_size (func_at p f) (lent (func_at p f) (places_of p groups places f))) 0 (func_at p f).blocks

  labels_count : (fs : List ℕ) → length (flat_map labels_in fs) ≡ label_count p groups fs
  labels_count [] = refl
  labels_count (f ∷ fs) =
      let a = length-append (labels_in f) (flat_map labels_in fs) in
      let b = labels_in_length f in
      omega (arith, labels_count fs)

  -- the labels of a function behind those of others
  labels_stand : (all first rest : List ℕ) (f : ℕ) → all ≡ first ++ (f ∷ rest) → StandFrom (flat_map labels_in all) (label_count p groups first) (labels_in f)
  labels_stand all first rest f parts b l =
      let e : flat_map labels_in all ≡ flat_map labels_in first ++ (labels_in f ++ flat_map labels_in rest) = ap (flat_map labels_in) parts ∙ flat_map-append labels_in first (f ∷ rest) in
      let c : label_count p groups first ≡ length (flat_map labels_in first) = sym (labels_count first) in
      ap (λ (xs : List (Option ℕ)). get_or xs (label_count p groups first + b) None) e
      ∙ (ap (λ (k : ℕ). get_or (flat_map labels_in first ++ (labels_in f ++ flat_map labels_in rest)) (k + b) None) c
      ∙ (get_or-append-add (flat_map labels_in first) (labels_in f ++ flat_map labels_in rest) b None
      ∙ get_or-append (labels_in f) (flat_map labels_in rest) None b l))

  -- a function that stands behind the first ones of its compartment
  one_near : (all first rest : List ℕ) (f c : ℕ) → all ≡ first ++ (f ∷ rest) → total_size p groups all ≤ 2 ^ 20 → compartment_of p groups f ≡ c → before p groups f ≡ first →
      first_far (flat_map labels_in all) (get_or places.bases c 0 + total_size p groups first) (filled_items p groups places f) ≡ None
  one_near all first rest f c parts small e b =
      let stands : get_or places.bases c 0 + total_size p groups first ≡ entry_of p groups places f = rw (b, e) refl in
      let t = ap (total_size p groups) parts in
      let s = total_append p groups first (f ∷ rest) in
      let n = code_total f in
      let labels : StandFrom (flat_map labels_in all) (label_count p groups (before p groups f)) (labels_in f) = subst (λ (k : List ℕ). StandFrom (flat_map labels_in all) (label_count p groups k) (labels_in f)) (sym b) (labels_stand all first rest f parts) in
      let near = reach (func_at p f) (places_of p groups places f) (label_count p groups (before p groups f)) (entry_of p groups places f) (flat_map labels_in all) labels (inside f) (omega arith) in
      let fill = filling_near (flat_map labels_in all) (entry_of p groups places f + total (code_of f)) (size_of p groups f) (nat_eq (size_of p groups f % 4) 0) refl in
      ap (λ (k : ℕ). first_far (flat_map labels_in all) k (filled_items p groups places f)) stands
      ∙ (far-append (flat_map labels_in all) (entry_of p groups places f) (entry_of p groups places f + total (code_of f)) (code_of f) (filling (size_of p groups f)) refl near fill)

  -- those from a place in the compartment on
  rest_near : (all : List ℕ) (c : ℕ) → total_size p groups all ≤ 2 ^ 20 → (first rest : List ℕ) → all ≡ first ++ rest →
      ((front : List ℕ) (f : ℕ) (behind : List ℕ) → all ≡ front ++ (f ∷ behind) → (compartment_of p groups f ≡ c) × (before p groups f ≡ front)) →
      first_far (flat_map labels_in all) (get_or places.bases c 0 + total_size p groups first) (flat_map (filled_items p groups places) rest) ≡ None
  rest_near all c small first [] parts there = refl
  rest_near all c small first (f ∷ fs) parts there =
      let x = there first f fs parts in
      let one = one_near all first fs f c parts small x.0 x.1 in
      let next : all ≡ (first ++ (f ∷ [])) ++ fs = parts ∙ sym (append_assoc first (f ∷ []) fs) in
      let t = total_append p groups first (f ∷ []) in
      let n = filled_total p groups places f in
      let more = rest_near all c small (first ++ (f ∷ [])) fs next there in
      far-append (flat_map labels_in all) (get_or places.bases c 0 + total_size p groups first) (get_or places.bases c 0 + total_size p groups (first ++ (f ∷ []))) (filled_items p groups places f) (flat_map (filled_items p groups places) fs) (omega arith) one more

-- ---- a member of a compartment, and those before it

record IsMember (n c : ℕ) (ds front : List ℕ) (f : ℕ) : Type 0 where
  place : ℕ
  number : f ≡ n + place
  inside : place < length ds
  here : get_or ds place 0 ≡ c
  before : members_from n (take place ds) c ≡ front

none_left : (front : List ℕ) (f : ℕ) (behind : List ℕ) → [] ≡ front ++ (f ∷ behind) → ⊥
none_left front f behind e = let l = ap length e in let a = length-append front (f ∷ behind) in omega arith

first_is : (n m : ℕ) (xs ys : List ℕ) → n ∷ xs ≡ m ∷ ys → n ≡ m
first_is n m xs ys e = ap (λ (l : List ℕ). get_or l 0 0) e

rest_is : (n m : ℕ) (xs ys : List ℕ) → n ∷ xs ≡ m ∷ ys → xs ≡ ys
rest_is n m xs ys e = ap (λ (l : List ℕ). drop 1 l) e

one_more : (n c d : ℕ) (ds front : List ℕ) (f : ℕ) (behind : List ℕ) (b : Bool) → nat_eq d c ≡ b → (if b then n ∷ members_from (suc n) ds c else members_from (suc n) ds c) ≡ front ++ (f ∷ behind) →
    ((front : List ℕ) → members_from (suc n) ds c ≡ front ++ (f ∷ behind) → IsMember (suc n) c ds front f) → IsMember n c (d ∷ ds) front f
one_more n c d ds front f behind false h e more =
    let r = more front e in
    let i = r.inside in
    let m = r.number in
    record { place = suc r.place; number = omega arith; inside = omega arith; here = r.here; before = rw h r.before }
one_more n c d ds [] f behind true h e more =
    let m = first_is n f (members_from (suc n) ds c) behind e in
    record { place = 0; number = omega arith; inside = omega arith; here = eqb-true d c h; before = refl }
one_more n c d ds (x ∷ front) f behind true h e more =
    let v = first_is n x (members_from (suc n) ds c) (front ++ (f ∷ behind)) e in
    let r = more front (rest_is n x (members_from (suc n) ds c) (front ++ (f ∷ behind)) e) in
    let i = r.inside in
    let m = r.number in
    record { place = suc r.place; number = omega arith; inside = omega arith; here = r.here; before = rw h (ap (λ (k : ℕ). k ∷ members_from (suc n) (take r.place ds) c) v ∙ ap (λ (l : List ℕ). x ∷ l) r.before) }

member : (n c : ℕ) (ds front : List ℕ) (f : ℕ) (behind : List ℕ) → members_from n ds c ≡ front ++ (f ∷ behind) → IsMember n c ds front f
member n c [] front f behind e = absurd (none_left front f behind e)
member n c (d ∷ ds) front f behind e = one_more n c d ds front f behind (nat_eq d c) refl e (λ (more : List ℕ). member (suc n) c ds more f behind)

placed : (p : Program) (groups : CodeGroups) (c f k : ℕ) (front : List ℕ) → f ≡ k → get_or groups.compartments k 0 ≡ c → members_from 0 (take k groups.compartments) c ≡ front →
    (compartment_of p groups f ≡ c) × (before p groups f ≡ front)
placed p groups c f k front e h b =
    let x : compartment_of p groups f ≡ c = ap (λ (n : ℕ). get_or groups.compartments n 0) e ∙ h in
    (x, ap (λ (n : ℕ). members_from 0 (take f groups.compartments) n) x ∙ (ap (λ (n : ℕ). members_from 0 (take n groups.compartments) c) e ∙ b))

member_of : (p : Program) (groups : CodeGroups) (c : ℕ) (front : List ℕ) (f : ℕ) (behind : List ℕ) → members p groups c ≡ front ++ (f ∷ behind) → (compartment_of p groups f ≡ c) × (before p groups f ≡ front)
member_of p groups c front f behind e =
    let m = member 0 c groups.compartments front f behind e in
    let n = m.number in
    placed p groups c f m.place front (omega arith) m.here m.before

pub compartments_reach : SizesHold → SizesAreEven → FunctionsReach → CompartmentsReach
compartments_reach hold even reach p groups places c inside small =
    let all : List ℕ = members p groups c in
    let base : ℕ = get_or places.bases c 0 in
    let z : base ≡ base + 0 = omega arith in
    ap (λ (k : ℕ). first_far (compartment_labels p groups places c) k (flat_map (filled_items p groups places) all)) z
    ∙ rest_near hold even reach p groups places inside all c small [] all refl (λ front f behind e. member_of p groups c front f behind e)
