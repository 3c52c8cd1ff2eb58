use Rattle.std.proofs.Common.{◌≤◌, ◌⊎◌, inl, inr, length, arith}
use Rattle.std.proofs.lemmas.Bool.{cases_lt}
use Rattle.std.proofs.lemmas.Result.{on_ok_weaker}
use Rattle.need_constraints.proofs.Gathering.{gathers_same}
use Rattle.need_constraints.proofs.Reading.{values_read}
use Rattle.need_constraints.proofs.generator.Generator.put_global.Goals as goal

pub returns : goal.returns
returns c =
    let d : (length c.as_slice-values.result.now ≤ c.min-count.result) ⊎ (c.index-as_slice-global.result.storage.cells ≤ c.min-count.result) =
    elim (cases_lt (length c.as_slice-values.result.now) c.index-as_slice-global.result.storage.cells) [ inl h ↦ inl (omega arith) | inr h ↦ inr (omega arith) ] in
    on_ok_weaker c.put_values.result
    (λ h. gathers_same c.args.self.now.numbering c.args.rules.now c.put_values.new.rules _ _
    (values_read c.args.self.now.program.now c.as_slice.result.now c.args.global c.index-as_slice-global.result c.as_slice-values.result.now c.min-count.result c.as_slice.ensures c.index-as_slice-global.is c.requires c.as_slice-values.ensures (omega arith) (omega arith) d) h)
    c.put_values.ensures
