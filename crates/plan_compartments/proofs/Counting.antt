-- There is a compartment for each function, under each policy.
use Rattle.std.proofs.Common.{◌≡◌, ℕ, List, [], ◌∷◌, length, map, refl, sym, ◌∙◌}
use Rattle.std.specs.List.{fold}
use Rattle.std.proofs.lemmas.List.{length-map}
use Rattle.std.proofs.lemmas.List.FromFn.{length-map-range_with_len}
use Rattle.ir_model.specs.Plain.{PlainFirmware, PlainFunc, funcs_of}
use Rattle.ir_model.specs.Resolve.{resolve, files_from}
use Rattle.plan_model.specs.declared.groups.FuncFacts.{FuncFacts}
use Rattle.plan_model.specs.declared.needs.Needs.{Needs}
use Rattle.plan_model.specs.declared.groups.Groups.{Groups}
use Rattle.plan_model.specs.Compartments.{AreCompartments}
use Rattle.plan_model.specs.Facts.{facts, facts_of}
use Rattle.plan_model.specs.Policies.{filename_groups, optimized_groups, peripheral_groups, by_name, move}
use Rattle.plan_model.specs.declared.policy.Policy.{Policy}
use Rattle.plan_model.specs.declared.policy.Policy.TheVariants.{Filename, Optimized, Peripheral}
use Rattle.plan_compartments.specs.Divisions.{division, groups_by}
use Rattle.ir_laws.proofs.Resolved.{as_many}
use Rattle.plan_policies.proofs.Moves.{length_moved as each_moved}

each_fact : (w : PlainFirmware) (n : Needs) → length (facts w n) ≡ length n.funcs
unfolding facts
each_fact w n = length-map-range_with_len (facts_of (map (λ (f : PlainFunc). f.name) (funcs_of w)) (files_from 0 w.files) n) 0 (length n.funcs)

all_moved : (fs : List FuncFacts) (groups : List ℕ) → length (fold move groups fs) ≡ length groups
all_moved [] groups = refl
all_moved (f ∷ fs) groups = all_moved fs (move groups f) ∙ each_moved groups f

each_group : (policy : Policy) (fs : List FuncFacts) → length (groups_by policy fs) ≡ length fs
unfolding optimized_groups peripheral_groups
each_group Filename fs = length-map fs (λ (f : FuncFacts). f.file)
each_group Optimized fs = all_moved (by_name fs) (filename_groups fs) ∙ length-map fs (λ (f : FuncFacts). f.file)
each_group Peripheral fs = length-map fs _

-- a division is one into compartments
pub are_compartments : (policy : Policy) (w : PlainFirmware) (n : Needs) (g : Groups) → length n.funcs ≡ length (funcs_of w) → g ≡ division policy w n
    → AreCompartments (resolve w) g
are_compartments policy w n g e same =
    record {
      groups = groups_by policy (facts w n);
      each = each_group policy (facts w n) ∙ (each_fact w n ∙ (e ∙ sym (as_many w)));
      are = same;
    }
