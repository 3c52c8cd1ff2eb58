use Rattle.std.proofs.Common.{ap, ◌∙◌, ◌++◌, ◌∷◌, [], List, ℕ}
use Rattle.ir_model.specs.declared.object.ObjId.{ObjId}
use Rattle.need_sets.specs.Sets.{rows_by}
use Rattle.need_sets.proofs.Shares.{rows_grow}
use Rattle.need_sets.proofs.shared_rows.SharedRows.push.Goals as goal

pub returns-clause-pushed : goal.returns-clause-pushed
returns-clause-pushed c =
    ap (λ (ns : List ℕ). rows_by c.share.new.lists.items ns) c.in_ok-push.ensures.items
    ∙ (rows_grow c.self.inside.lists.items c.share.new.lists.items c.self.inside.numbers.items c.self.inside.known.items c.in_ok-number.number c.args.row.items c.self.invariant c.share.ensures.longer c.in_ok-number.ensures.equal
    ∙ ap (λ (rows : List (List ObjId)). rows ++ c.args.row.items ∷ []) c.self.view_is)
