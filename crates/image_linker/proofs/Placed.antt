-- What the parts of an image are, by the definitions of its code.
use Rattle.std.proofs.Common.{◌≡◌, ℕ, List, Option, length, map, ap, ◌∙◌}
use Rattle.ir_model.specs.Resolved.{Program}
use Rattle.plan_model.specs.declared.needs.Needs.{Needs}
use Rattle.plan_model.specs.declared.graph.Final.{Final}
use Rattle.plan_model.specs.declared.plan.Plan.{Plan}
use Rattle.plan_model.specs.declared.plan.Board.{Board}
use Rattle.plan_model.specs.Crossing.{crossing_sites}
use Rattle.plan_model.specs.Lending.{lent, lend_number}
use Rattle.plan_model.specs.Lists.{numbers_below}
use Rattle.code_model.specs.declared.places.CallSite.{CallSite}
use Rattle.code_model.specs.CompartmentCode.{CodeGroups, entry_of}
use Rattle.code_model.specs.Planned.{code_groups, call_sites, planned_entry}
use Rattle.image_entries.specs.declared.numbers.Numbers.{Numbers}
use Rattle.image_entries.specs.Grouped.{AreNumbers, groups_in}
use Rattle.image_linker.specs.declared.linking.LinkParts.{LinkParts}
use Rattle.image_linker.specs.Parts.{planned_places}
use Rattle.image_linker.specs.LinkParts.{AreLinkParts}

-- which calls may go to another compartment, and which locals are lent
pub groups_made : (p : Program) (n : Needs) (f : Final) (x : Numbers) → AreNumbers p (crossing_sites n f.groups) (lent n f.groups) x → groups_in f.groups.of x ≡ code_groups p n f.groups
unfolding lend_number
groups_made p n f x are =
    let make : List (List CallSite) → List (List (Option ℕ)) → CodeGroups = λ ss ls. record { compartments = f.groups.of; sites = ss; lends = ls } in
    ap (λ ss. make ss x.lends) are.sites_are ∙ ap (λ ls. make (map (call_sites n f.groups) (numbers_below (length p.funcs))) ls) are.lends_are

-- the entries of all functions
pub planned_entries : (p : Program) (n : Needs) (f : Final) (l : Plan) (b : Board) (x : LinkParts) → AreLinkParts p n f l b x →
    x.addresses.entries ≡ map (planned_entry p n f l) (numbers_below (length p.funcs))
planned_entries p n f l b x are =
    are.addresses.entries_are
    ∙ ap (λ gs. map (entry_of p gs (planned_places p f l)) (numbers_below (length p.funcs))) (groups_made p n f x.numbers are.numbers)
