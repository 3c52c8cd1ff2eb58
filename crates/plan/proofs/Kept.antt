-- Joins leave the compartments as they are.
use Rattle.std.proofs.Common.{◌≡◌, ℕ, Option, Some, None, option_map, refl, sym, ap, ◌∙◌}
use Rattle.std.proofs.lemmas.Option.{same_Some, none-some}
use Rattle.ir_model.specs.Resolved.{Program}
use Rattle.plan_model.specs.declared.needs.Needs.{Needs}
use Rattle.plan_model.specs.declared.groups.Groups.{Groups}
use Rattle.plan_model.specs.declared.graph.Graph.{Graph}
use Rattle.plan_model.specs.declared.graph.Final.{Final}
use Rattle.plan_model.specs.Choices.{Pair}
use Rattle.plan_model.specs.InitialGraph.{initial_graph}
use Rattle.plan_model.specs.FinalGraph.{Merges, stays, joins, IsFinal}
use Rattle.plan_model.specs.Merging.{first_too_rich, region_pair, cover_pair, covers_at, with_joined_regions, with_joined_covers, relieved, relieved_if, next}

abbrev groups_in : Graph → Groups
groups_in g = g.groups

by_covers : (g h : Graph) (c : ℕ) (o : Option Pair) → option_map (with_joined_covers g c) o ≡ Some h → h.groups ≡ g.groups
by_covers g h c None e = absurd (none-some h e)
by_covers g h c (Some q) e = ap groups_in (sym (same_Some (with_joined_covers g c q) h e))

by_pair : (p : Program) (g h : Graph) (c : ℕ) (o : Option Pair) → relieved p g c o ≡ Some h → h.groups ≡ g.groups
by_pair p g h c None e = by_covers g h c (cover_pair (covers_at g c)) e
by_pair p g h c (Some q) e = ap groups_in (sym (same_Some (with_joined_regions g q) h e))

by_compartment : (p : Program) (g h : Graph) (o : Option ℕ) → relieved_if p g o ≡ Some h → h.groups ≡ g.groups
by_compartment p g h None e = absurd (none-some h e)
by_compartment p g h (Some c) e = by_pair p g h c (region_pair p g.regions c) e

by_next : (p : Program) (slots : ℕ) (g h : Graph) → next p slots g ≡ Some h → h.groups ≡ g.groups
unfolding next
by_next p slots g h e = by_compartment p g h (first_too_rich slots g) e

by_all : (p : Program) (slots : ℕ) (g h : Graph) → Merges p slots g h → h.groups ≡ g.groups
by_all p slots g h stays = refl
by_all p slots g k (joins {h = h} e m) = by_all p slots h k m ∙ by_next p slots g h e

-- the final graph has the compartments of the first one
pub final_groups : (p : Program) (n : Needs) (g : Groups) (slots : ℕ) (f : Final) → IsFinal p n g slots f → f.groups ≡ g
unfolding initial_graph
final_groups p n g slots f m = ap (λ (x : Final). x.groups) m.is ∙ by_all p slots (initial_graph p n g) m.last m.reached
