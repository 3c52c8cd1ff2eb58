-- What the code makes is what the definitions say.
use Rattle.std.proofs.Common.{◌≡◌, ℕ, List, [], ◌∷◌, ◌++◌, length, map, flat_map, get_or, position, Option, refl, ap, sym, ◌∙◌, arith}
use Rattle.std.proofs.lemmas.List.{length-map}
use Rattle.std.proofs.lemmas.List.FromFn.{get_or-map-range_with_len, length-map-range_with_len}
use Rattle.ir_model.specs.Resolved.{Program, func_at}
use Rattle.ir_program.specs.Parts.{routine_of, variable_of, span_of}
use Rattle.ir_program.specs.Seen.{known_of}
use Rattle.plan_model.specs.declared.needs.SiteNeed.{SiteNeed}
use Rattle.plan_model.specs.declared.graph.Final.{Final}
use Rattle.plan_model.specs.Lists.{numbers_below}
use Rattle.plan_model.specs.Lending.{is_local}
use Rattle.code_model.specs.CompartmentCode.{CodePlaces, entry_of}
use Rattle.image_entries.specs.declared.numbers.Numbers.{Numbers}
use Rattle.image_model.specs.FirstWords.{first_words}
use Rattle.image_model.specs.LinkedTables.{Filled}
use Rattle.image_entries.specs.declared.making.Making.{Making}
use Rattle.image_blocks.specs.declared.fill.Filled as blocks
use Rattle.image_blocks.specs.Filling.{filled_of, object_places}
use Rattle.ir_model.specs.Checked.{IsChecked}
use Rattle.image_entries.specs.Grouped.{AreNumbers, AreSmall, HasEachLend, groups_in}
use Rattle.image_entries.specs.Making.{program_in, places_at, IsReady}
use Rattle.image_linker.specs.Parts.{AreAddresses, planned_places, words_in_blocks}

-- there is a number, or none, for each local
pub each_lend : (p : Program) (sites : List SiteNeed) (ls : List (ℕ × ℕ)) (x : Numbers) → AreNumbers p sites ls x → HasEachLend p x
each_lend p sites ls x are h l =
    let f : ℕ → List (Option ℕ) = λ k. map (λ j. position (is_local k j) ls) (numbers_below (length (func_at p k).locals)) in
    ap (λ xs. length (get_or xs h [])) are.lends_are
    ∙ ap (λ (ns : List (Option ℕ)). length ns) (get_or-map-range_with_len f 0 (length p.funcs) h h [] l (omega arith))
    ∙ length-map-range_with_len (λ j. position (is_local h j) ls) 0 (length (func_at p h).locals)

module _ (m : Making) (f : Final) (cs : m.compartments.now ≡ f.groups.of) (as_ : AreAddresses (program_in m) f m.plan.now m.numbers.now m.addresses.now) where
  pub places_are : planned_places (program_in m) f m.plan.now ≡ places_at m
  places_are =
      let make : List ℕ → List ℕ → CodePlaces = λ gs ws. record { bases = (places_at m).bases; globals = gs; windows = ws } in
      ap (λ gs. make gs (planned_places (program_in m) f m.plan.now).windows) (sym as_.globals_are) ∙ ap (λ ws. make m.addresses.now.globals ws) (sym as_.windows_are)

  -- numbers and addresses are ready for the code
  pub made_ready : (sites : List SiteNeed) (ls : List (ℕ × ℕ)) → IsChecked (program_in m) → AreNumbers (program_in m) sites ls m.numbers.now → AreSmall m.numbers.now → IsReady m
  made_ready sites ls typed are small = record {
    program = typed;
    compartments = ap (λ xs. length xs) cs ∙ as_.compartments ∙ length-map m.program.now.funcs (routine_of (known_of m.program.now));
    lends = each_lend (program_in m) sites ls m.numbers.now are;
    small = small;
    globals =
        ap (λ xs. length xs) as_.globals_are ∙ length-map-range_with_len _ 0 (length (program_in m).globals) ∙ length-map m.program.now.globals (variable_of (known_of m.program.now));
    windows = ap (λ xs. length xs) as_.windows_are ∙ length-map _ _ ∙ length-map m.program.now.periphs span_of;
    entries =
        as_.entries_are
        ∙ ap (λ j. map (entry_of (program_in m) (groups_in f.groups.of m.numbers.now) (planned_places (program_in m) f m.plan.now)) (numbers_below j)) (length-map m.program.now.funcs (routine_of (known_of m.program.now)))
        ∙ ap (λ at. map (entry_of (program_in m) (groups_in f.groups.of m.numbers.now) at) (numbers_below (length m.program.now.funcs))) places_are
        ∙ ap (λ xs. map (entry_of (program_in m) (groups_in xs m.numbers.now) (places_at m)) (numbers_below (length m.program.now.funcs))) (sym cs);
  }

-- ---- words of blocks

flat_mapped : {A B C : Type 0} (F : B → List C) (g : A → B) (xs : List A) → flat_map F (map g xs) ≡ flat_map (λ (x : A). F (g x)) xs
flat_mapped F g [] = refl
flat_mapped F g (x ∷ xs) = ap (λ ys. F (g x) ++ ys) (flat_mapped F g xs)

pub words_made : (m : Making) (bs : List blocks.Filled) (fs : List Filled) → map filled_of bs ≡ fs →
    flat_map (λ (b : blocks.Filled). first_words (program_in m) (object_places m.addresses.now) b.globals.now) bs ≡ words_in_blocks m fs
words_made m bs fs e = sym (flat_mapped (λ (b : Filled). first_words (program_in m) (object_places m.addresses.now) b.globals) filled_of bs) ∙ ap (words_in_blocks m) e
