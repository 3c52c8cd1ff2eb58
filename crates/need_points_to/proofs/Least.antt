-- What a search finds are the least sets of a program.
use Rattle.std.proofs.Common.{◌≡◌, ℕ, true, Option, Some, None, refl, sym, ap, ◌∙◌, subst}
use Rattle.std.proofs.Math.Path.{fun_ext}
use Rattle.std.proofs.lemmas.Bool.{false≢true}
use Rattle.ir_model.specs.Resolved.{Program}
use Rattle.ir_model.specs.State.{Object}
use Rattle.ir_program.specs.Seen.{program_of}
use Rattle.ir_laws.specs.Sets.{Node, ObjectSets}
use Rattle.plan_model.specs.PointsTo.{IsLeast}
use Rattle.need_sets.specs.Numbers.{GroupCounts, object_number, node_number, numbering_of}
use Rattle.need_numbers.specs.Rows.{Lists}
use Rattle.need_sets.specs.Pairs.{is_pair, sets_by}
use Rattle.need_sets.specs.declared.system.System.{System}
use Rattle.need_sets.specs.Rules.{Relation, Obeys, lists_in}
use Rattle.need_sets.specs.Solutions.{ObeysAll, is_in}
use Rattle.need_sets.specs.Demands.{demands_of}
use Rattle.need_sets.specs.Gathered.{Represents}
use Rattle.need_points_to.proofs.Back.{node_from, object_back, node_back}
use Rattle.need_points_to.proofs.Bridge.{by_numbers, all_met, all_obeyed}
use Rattle.need_points_to.proofs.Demanded.{closed_from, met_from}

-- the numbers of a pair
pub record IsPairOf (rows : Lists) (a b : Option ℕ) : Type 0 where
  pub node : ℕ
  pub object : ℕ
  pub node_is : a ≡ Some node
  pub object_is : b ≡ Some object
  pub has : is_in rows node object ≡ true

pub pair_of : (rows : Lists) (a b : Option ℕ) → is_pair rows a b ≡ true → IsPairOf rows a b
pair_of rows None b e = absurd (false≢true e)
pair_of rows (Some i) None e = absurd (false≢true e)
pair_of rows (Some i) (Some j) e = record { node = i; object = j; node_is = refl; object_is = refl; has = e }

-- the program and the numbering of a system
obeys_by : (w : System) (p : Program) (Q : Relation) → program_of w.program.now ≡ p → w.numbering ≡ numbering_of p → ObeysAll w Q → Obeys p (numbering_of p) w.rules.facts.items w.rules.copies.items (lists_in w.rules.triggers) Q
obeys_by w p Q e f h =
    subst (λ (x : Program). Obeys x (numbering_of p) w.rules.facts.items w.rules.copies.items (lists_in w.rules.triggers) Q) e
    (subst (λ (c : GroupCounts). Obeys (program_of w.program.now) c w.rules.facts.items w.rules.copies.items (lists_in w.rules.triggers) Q) f h)

pub by_obeys : (w : System) (p : Program) (Q : Relation) → program_of w.program.now ≡ p → w.numbering ≡ numbering_of p → Obeys p (numbering_of p) w.rules.facts.items w.rules.copies.items (lists_in w.rules.triggers) Q → ObeysAll w Q
by_obeys w p Q e f h =
    subst (λ (c : GroupCounts). Obeys (program_of w.program.now) c w.rules.facts.items w.rules.copies.items (lists_in w.rules.triggers) Q) (sym f)
    (subst (λ (x : Program). Obeys x (numbering_of p) w.rules.facts.items w.rules.copies.items (lists_in w.rules.triggers) Q) (sym e) h)

pub least_found : (w : System) (p : Program) (rows : Lists) → program_of w.program.now ≡ p → w.numbering ≡ numbering_of p → Represents (numbering_of p) w.rules (demands_of p) → ObeysAll w (is_in rows)
    → ((Q : Relation) → ObeysAll w Q → (n o : ℕ) → is_in rows n o ≡ true → Q n o ≡ true) → IsLeast p (sets_by (numbering_of p) rows)
least_found w p rows e f r h least = record {
  closed = closed_from p (sets_by (numbering_of p) rows) (all_met p w.rules rows r (obeys_by w p (is_in rows) e f h));
  least = λ S q n o i.
      let a = pair_of rows (node_number (numbering_of p) n) (object_number (numbering_of p) o) i in
      let b = least (by_numbers p S) (by_obeys w p (by_numbers p S) e f (all_obeyed p w.rules S r (met_from p S q))) a.node a.object a.has in
      sym (ap (λ m. S m o) (node_back (numbering_of p) n a.node a.node_is))
      ∙ (sym (ap (S (node_from (numbering_of p) a.node)) (object_back (numbering_of p) o a.object a.object_is)) ∙ b);
}

-- equal sets are the least
pub least_same : (p : Program) (S T : ObjectSets) → ((n : Node) (o : Object) → T n o ≡ S n o) → IsLeast p S → IsLeast p T
least_same p S T e h = subst (IsLeast p) (sym (fun_ext (λ n. fun_ext (λ o. e n o)))) h
