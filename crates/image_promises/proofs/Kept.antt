-- What joins in a graph leave as it was.
use Rattle.std.proofs.Common.{◌≡◌, ℕ, Option, Some, None, option_map, refl, ap, ◌∙◌, subst}
use Rattle.std.proofs.lemmas.Option.{same_Some, none-some}
use Rattle.ir_model.specs.Resolved.{Program}
use Rattle.plan_model.specs.declared.graph.Graph.{Graph}
use Rattle.plan_model.specs.declared.graph.Final.{Final}
use Rattle.plan_model.specs.Choices.{Pair}
use Rattle.plan_model.specs.FinalGraph.{Merges, stays, joins, IsMerged}
use Rattle.plan_model.specs.Merging.{first_too_rich, region_pair, cover_pair, covers_at, with_joined_regions, with_joined_covers, relieved, relieved_if, next}

-- compartments, masks and the globals of no region
pub record Keeps (g h : Graph) : Type 0 where
  pub groups : h.groups ≡ g.groups
  pub masks : h.masks ≡ g.masks
  pub reads : h.reads ≡ g.reads
  pub unwritten : h.unwritten ≡ g.unwritten

-- what holds of each join, holds of a graph and what comes next
module _ (p : Program) (P : Graph → Graph → Type 0) (regions : (g : Graph) (q : Pair) (c : ℕ) → region_pair p g.regions c ≡ Some q → P g (with_joined_regions g q))
    (covers : (g : Graph) (c : ℕ) (q : Pair) → cover_pair (covers_at g c) ≡ Some q → P g (with_joined_covers g c q)) where
  by_covers : (g h : Graph) (c : ℕ) (o : Option Pair) → cover_pair (covers_at g c) ≡ o → option_map (with_joined_covers g c) o ≡ Some h → P g h
  by_covers g h c None f e = absurd (none-some h e)
  by_covers g h c (Some q) f e = subst (P g) (same_Some (with_joined_covers g c q) h e) (covers g c q f)

  by_pair : (g h : Graph) (c : ℕ) (o : Option Pair) → region_pair p g.regions c ≡ o → relieved p g c o ≡ Some h → P g h
  by_pair g h c None f e = by_covers g h c (cover_pair (covers_at g c)) refl e
  by_pair g h c (Some q) f e = subst (P g) (same_Some (with_joined_regions g q) h e) (regions g q c f)

  by_compartment : (g h : Graph) (o : Option ℕ) → relieved_if p g o ≡ Some h → P g h
  by_compartment g h None e = absurd (none-some h e)
  by_compartment g h (Some c) e = by_pair g h c (region_pair p g.regions c) refl e

  pub by_next : (slots : ℕ) (g h : Graph) → next p slots g ≡ Some h → P g h
  unfolding next
  by_next slots g h e = by_compartment g h (first_too_rich slots g) e

kept_next : (p : Program) (slots : ℕ) (g h : Graph) → next p slots g ≡ Some h → Keeps g h
kept_next p slots g h e =
    by_next p Keeps (λ a q c f. record { groups = refl; masks = refl; reads = refl; unwritten = refl }) (λ a c q f. record { groups = refl; masks = refl; reads = refl; unwritten = refl }) slots g h e

pub kept_all : (p : Program) (slots : ℕ) (g h : Graph) → Merges p slots g h → Keeps g h
kept_all p slots g h stays = record { groups = refl; masks = refl; reads = refl; unwritten = refl }
kept_all p slots g k (joins {h = h} e m) =
    let a = kept_next p slots g h e in
    let b = kept_all p slots h k m in
    record { groups = b.groups ∙ a.groups; masks = b.masks ∙ a.masks; reads = b.reads ∙ a.reads; unwritten = b.unwritten ∙ a.unwritten }

-- so the final graph has them from the first one
pub kept_final : (p : Program) (slots : ℕ) (g : Graph) (f : Final) → IsMerged p slots g f → Keeps g (record { groups = f.groups; regions = f.regions; unwritten = f.unwritten; covers = f.covers; masks = f.masks; reads = f.reads })
kept_final p slots g f m =
    let k = kept_all p slots g m.last m.reached in
    record {
      groups = ap (λ (x : Final). x.groups) m.is ∙ k.groups;
      masks = ap (λ (x : Final). x.masks) m.is ∙ k.masks;
      reads = ap (λ (x : Final). x.reads) m.is ∙ k.reads;
      unwritten = ap (λ (x : Final). x.unwritten) m.is ∙ k.unwritten;
    }
