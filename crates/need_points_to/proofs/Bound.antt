-- The steps of a search are within the bound of the program.
use Rattle.std.proofs.Common.{◌≡◌, ℕ, suc, ◌+◌, ◌*◌, ◌≤◌, true, List, length, sym, subst}
use Rattle.std.specs.Prelude.{Contains}
use Rattle.std.specs.List.{sum_by}
use Rattle.std.proofs.Math.Path.{fun_ext}
use Rattle.ir_model.specs.Resolved.{Program}
use Rattle.ir_model.specs.State.{Object}
use Rattle.ir_program.specs.Seen.{program_of}
use Rattle.ir_laws.specs.Sets.{Node, ObjectSets}
use Rattle.need_sets.specs.Numbers.{object_number, numbering_of}
use Rattle.need_numbers.specs.Rows.{Lists}
use Rattle.need_sets.specs.Sets.{Sets, sets_of, row_of}
use Rattle.need_sets.specs.Pairs.{sets_by}
use Rattle.need_sets.specs.declared.system.System.{System}
use Rattle.need_sets.specs.Rules.{Relation}
use Rattle.need_sets.specs.Solutions.{ObeysAll, is_in, IsBounded}
use Rattle.need_sets.specs.Demands.{demands_of}
use Rattle.need_sets.specs.Gathered.{Represents}
use Rattle.need_points_to.specs.Edges.{IsEdge, named_count, IsWithinBound}
use Rattle.need_points_to.proofs.Back.{object_from}
use Rattle.need_points_to.proofs.Edges.{is_number, AreReal, real_rules, real_from, needed_edge}
use Rattle.need_points_to.proofs.Least.{by_obeys}
use Rattle.need_points_to.proofs.Summing.{edges_bound}

pub within_bound : (w : System) (p : Program) (rows : Lists) (count : ℕ) → program_of w.program.now ≡ p → w.numbering ≡ numbering_of p → Represents (numbering_of p) w.rules (demands_of p)
    → ((Q : Relation) → ObeysAll w Q → (n o : ℕ) → is_in rows n o ≡ true → Q n o ≡ true) → IsBounded w rows count
    → (s : Sets) → ((n : Node) (o : Object) → sets_of s n o ≡ sets_by (numbering_of p) rows n o) → IsWithinBound p s count
within_bound w p rows count e f r least b s same = record { bound = at }
  where
    real : AreReal p rows
    real = real_from p rows (least (λ n j. is_number (object_number (numbering_of p) (object_from (numbering_of p) j)) j) (by_obeys w p (λ n j. is_number (object_number (numbering_of p) (object_from (numbering_of p) j)) j) e f (real_rules p w.rules r)))

    sets : sets_of s ≡ sets_by (numbering_of p) rows
    sets = fun_ext (λ n. fun_ext (λ o. same n o))

    at : (es : List (Node × Node)) → ((x y : Node) → IsEdge p (sets_of s) x y → Contains es (x, y)) → count ≤ 3 * (named_count p + sum_by (λ (e : Node × Node). suc (length (row_of s e.0))) es)
    at es all =
        subst (λ k. count ≤ 3 * (k + sum_by (λ (e : Node × Node). suc (length (row_of s e.0))) es)) r.facts
        (edges_bound p s rows same real (length rows) (length w.rules.facts.items) count b.edges b.once b.apart (λ i j h. needed_edge p w rows i j e f r real (b.needed i j h)) b.steps es
        (λ x y h. all x y (subst (λ (S : ObjectSets). IsEdge p S x y) (sym sets) h)))
