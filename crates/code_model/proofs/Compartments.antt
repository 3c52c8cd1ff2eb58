-- The code of a compartment has its size, and entries stand at multiples of four.
use Rattle.std.proofs.Common.{◌≡◌, ℕ, ◌+◌, ◌%◌, List, [], ◌∷◌, ◌++◌, length, get_or, flat_map, nat_eq, refl, arith}
use Rattle.machine_thumb_asm.specs.declared.item.Item.{Item}
use Rattle.machine_thumb_asm.specs.Assembly.{total}
use Rattle.ir_model.specs.Resolved.{Program, func_at}
use Rattle.code_model.specs.FrameShape.{local_starts}
use Rattle.code_model.specs.Places.{lends_among}
use Rattle.code_model.specs.FunctionCode.{function_items}
use Rattle.code_model.specs.CompartmentCode.{CodeGroups, CodePlaces, filled_size, filling, members, before, sites_of, lends_of, size_of, total_size, label_count, entry_of, places_of, filled_items}
use Rattle.code_model.specs.Laws.{CompartmentsHold}
use Rattle.code_model.proofs.FunctionSizes.{function_total}
use Rattle.code_model.proofs.Even.{function_even}
use Rattle.machine_thumb_asm.proofs.Items.{total-append}
use Rattle.code_model.proofs.Filling.{filling_by}

module _ (p : Program) (groups : CodeGroups) where
  size_even : (f : ℕ) → size_of p groups f % 2 ≡ 0
  size_even f = function_even (func_at p f) (sites_of p groups f) (length (lends_among (local_starts (func_at p f)) (lends_of p groups f)))

  pub total_append : (xs ys : List ℕ) → total_size p groups (xs ++ ys) ≡ total_size p groups xs + total_size p groups ys
  total_append [] ys = omega arith
  total_append (x ∷ xs) ys = let h = total_append xs ys in omega (arith, h)

  filled : (fs : List ℕ) → total_size p groups fs % 4 ≡ 0
  filled [] = refl
  filled (f ∷ fs) = let h = filled fs in omega arith

  module _ (at : CodePlaces) where
    pub filled_total : (f : ℕ) → total (filled_items p groups at f) ≡ filled_size (size_of p groups f)
    filled_total f =
        let items : List Item = function_items (func_at p f) (places_of p groups at f) (label_count p groups (before p groups f)) (entry_of p groups at f) in
        let a = total-append items (filling (size_of p groups f)) in
        let b = function_total (func_at p f) (places_of p groups at f) (label_count p groups (before p groups f)) (entry_of p groups at f) in
        let c = filling_by (size_of p groups f) (nat_eq (size_of p groups f % 4) 0) refl (size_even f) in
        omega arith

    items_total : (fs : List ℕ) → total (flat_map (filled_items p groups at) fs) ≡ total_size p groups fs
    items_total [] = refl
    items_total (f ∷ fs) =
        let h = items_total fs in
        let a = total-append (filled_items p groups at f) (flat_map (filled_items p groups at) fs) in
        let b = filled_total f in
        omega arith

pub compartments_hold : CompartmentsHold
compartments_hold = record {
  sizes = λ p groups at c. items_total p groups at (members p groups c);
  filled = λ p groups c. filled p groups (members p groups c);
  entries = λ p groups at even f.
      let a = even (get_or groups.compartments f 0) in
      let b = filled p groups (before p groups f) in
      omega arith;
}
