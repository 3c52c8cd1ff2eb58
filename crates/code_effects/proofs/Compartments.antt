-- The code of a compartment.
use Rattle.std.proofs.Common.{◌≡◌, ℕ, zero, suc, ◌+◌, ◌<◌, List, [], ◌∷◌, ◌++◌, length, take, get_or, flat_map, Bool, true, false, if◌then◌else◌, nat_eq, Option, Some, None, refl, sym, ap, ◌∙◌, subst, arith, length-append}
use Rattle.std.proofs.Math.ListN.{get_or-append}
use Rattle.std.proofs.lemmas.Bool.Decides.{nat_tests}
use Rattle.std.proofs.lemmas.List.{get_or-append-add}
use Rattle.std.proofs.lemmas.List.Concat.{flat_map-append}
use Rattle.machine_thumb_asm.specs.declared.item.Item.{Item}
use Rattle.machine_thumb_asm.specs.Assembly.{total, put_at}
use Rattle.machine_devices.specs.declared.image.Image.{Image}
use Rattle.machine_model.specs.declared.state.ProtectionState.{ProtectionState}
use Rattle.machine_model.specs.State.{PermissionTest}
use Rattle.ir_model.specs.Resolved.{Program, func_at}
use Rattle.code_model.specs.declared.places.Places.{Places}
use Rattle.code_model.specs.Sizes.{entry_size, place_offset}
use Rattle.code_model.specs.FunctionCode.{lent, function_items, function_labels}
use Rattle.code_model.specs.CompartmentCode.{CodeGroups, CodePlaces, members_from, filling, compartment_of, members, before, sites_of, size_of, total_size, label_count, entry_of, places_of, filled_items}
use Rattle.code_model.specs.Laws.{SizesHold, SizesAreEven}
use Rattle.code_effects.specs.Items.{ItemsAt}
use Rattle.code_effects.specs.Compartments.{CompartmentsStand}
use Rattle.code_effects.proofs.Items.{parts_at, items_at}
use Rattle.code_effects.proofs.Functions.{functions_stand}
use Rattle.machine_thumb_asm.proofs.Items.{total-append}
use Rattle.code_model.proofs.Labels.{labels_length}
use Rattle.code_model.proofs.Compartments.{filled_total}

-- ---- a function among those of its compartment

record Split (all first : List ℕ) (f : ℕ) : Type 0 where
  rest : List ℕ
  parts : all ≡ first ++ (f ∷ rest)

one_more : (b : Bool) (n f : ℕ) (all first : List ℕ) → Split all first f → Split (if b then n ∷ all else all) (if b then n ∷ first else first) f
one_more true n f all first s = record { rest = s.rest; parts = ap (λ (l : List ℕ). n ∷ l) s.parts }
one_more false n f all first s = s

here_is : (n f : ℕ) (b : Bool) (more : List ℕ) → b ≡ true → n ≡ f → Split (if b then n ∷ more else more) [] f
here_is n f b more h e = record { rest = more; parts = rw (h, e) refl }

split_at : (n f k c : ℕ) (ds : List ℕ) → k < length ds → n + k ≡ f → get_or ds k 0 ≡ c → Split (members_from n ds c) (members_from n (take k ds) c) f
split_at n f k c [] l e h = absurd (omega arith)
split_at n f zero c (d ∷ ds) l e h = let t : nat_eq d c ≡ true = search (nat_tests, arith) in here_is n f (nat_eq d c) (members_from (suc n) ds c) t (omega arith)
split_at n f (suc k) c (d ∷ ds) l e h = one_more (nat_eq d c) n f (members_from (suc n) ds c) (members_from (suc n) (take k ds) c) (split_at (suc n) f k c ds (omega arith) (omega arith) h)

-- ---- sizes

module _ (hold : SizesHold) (even : SizesAreEven) (p : Program) (groups : CodeGroups) (places : CodePlaces) where
  items_total : (fs : List ℕ) → total (flat_map (filled_items p groups places) fs) ≡ total_size p groups fs
  items_total [] = refl
  items_total (f ∷ fs) = omega (arith, items_total fs, total-append (filled_items p groups places f) (flat_map (filled_items p groups places) fs), filled_total p groups places f)

  labels_count : (fs : List ℕ) → length (flat_map (λ (f : ℕ). function_labels (func_at p f) (places_of p groups places f) (entry_of p groups places f)) fs) ≡ label_count p groups fs
  labels_count [] = refl
  labels_count (f ∷ fs) =
      let q : Places = places_of p groups places f in
      let a = length-append (function_labels (func_at p f) q (entry_of p groups places f)) (flat_map (λ (f : ℕ). function_labels (func_at p f) (places_of p groups places f) (entry_of p groups places f)) fs) in
      let b = labels_length (func_at p f) q (entry_of p groups places f + entry_size (func_at p f) (lent (func_at p f) q)) 0 (func_at p f).blocks in
      omega (arith, labels_count fs)

  -- ---- what stands at an entry, and where labels lead

  function_at : (j : PermissionTest) (i : Image) (x : ProtectionState) (labels : List (Option ℕ)) (f base : ℕ) (all first : List ℕ) → Split all first f → base + total_size p groups first ≡ entry_of p groups places f →
      ItemsAt j i x labels base (flat_map (filled_items p groups places) all) →
      ItemsAt j i x labels (entry_of p groups places f) (function_items (func_at p f) (places_of p groups places f) (label_count p groups (before p groups f)) (entry_of p groups places f))
  function_at j i x labels f base all first s e h =
      let F = filled_items p groups places in
      let c : ItemsAt j i x labels base (flat_map F first ++ flat_map F (f ∷ s.rest)) = subst (λ (xs : List Item). ItemsAt j i x labels base xs) (ap (flat_map F) s.parts ∙ flat_map-append F first (f ∷ s.rest)) h in
      let d = (parts_at j i x labels (flat_map F first) (flat_map F (f ∷ s.rest)) base c).1 in
      let t = items_total first in
      let k = items_at j i x labels (flat_map F (f ∷ s.rest)) (base + total (flat_map F first)) (entry_of p groups places f) (omega arith) d in
      let m = (parts_at j i x labels (F f) (flat_map F s.rest) (entry_of p groups places f) k).0 in
      (parts_at j i x labels (function_items (func_at p f) (places_of p groups places f) (label_count p groups (before p groups f)) (entry_of p groups places f)) (filling (size_of p groups f)) (entry_of p groups places f) m).0

  label_leads : (f b : ℕ) (all first : List ℕ) → Split all first f → b < length (func_at p f).blocks →
      get_or (flat_map (λ (f : ℕ). function_labels (func_at p f) (places_of p groups places f) (entry_of p groups places f)) all) (label_count p groups first + b) None
      ≡ Some (entry_of p groups places f + place_offset (func_at p f) (sites_of p groups f) (lent (func_at p f) (places_of p groups places f)) b 0)
  label_leads f b all first s l =
      let L : ℕ → List (Option ℕ) = λ (f : ℕ). function_labels (func_at p f) (places_of p groups places f) (entry_of p groups places f) in
      let q : Places = places_of p groups places f in
      let e : flat_map L all ≡ flat_map L first ++ (L f ++ flat_map L s.rest) = ap (flat_map L) s.parts ∙ flat_map-append L first (f ∷ s.rest) in
      let c : label_count p groups first ≡ length (flat_map L first) = sym (labels_count first) in
      let n : length (L f) ≡ length (func_at p f).blocks = labels_length (func_at p f) q (entry_of p groups places f + entry_size (func_at p f) (lent (func_at p f) q)) 0 (func_at p f).blocks in
      ap (λ (xs : List (Option ℕ)). get_or xs (label_count p groups first + b) None) e
      ∙ (ap (λ (k : ℕ). get_or (flat_map L first ++ (L f ++ flat_map L s.rest)) (k + b) None) c
      ∙ (get_or-append-add (flat_map L first) (L f ++ flat_map L s.rest) b None
      ∙ (get_or-append (L f) (flat_map L s.rest) None b (omega arith)
      ∙ functions_stand.labels (func_at p f) q (entry_of p groups places f) b l)))

pub compartments_stand : SizesHold → SizesAreEven → CompartmentsStand
compartments_stand hold even = record {
  functions = λ j i x p groups places f l h.
      function_at hold even p groups places j i x _ f (get_or places.bases (compartment_of p groups f) 0) (members p groups (compartment_of p groups f)) (before p groups f)
      (split_at 0 f f (compartment_of p groups f) groups.compartments l (omega arith) refl) refl h;
  labels = λ p groups places f b l lb.
      ap put_at (label_leads hold even p groups places f b (members p groups (compartment_of p groups f)) (before p groups f) (split_at 0 f f (compartment_of p groups f) groups.compartments l (omega arith) refl) lb);
}
