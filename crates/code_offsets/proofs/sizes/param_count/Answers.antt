use Rattle.std.proofs.Common.{map, sym, ◌∙◌}
use Rattle.std.proofs.lemmas.List.{length-map}
use Rattle.ir_model.specs.Plain.{binding_of}
use Rattle.code_offsets.proofs.sizes.param_count.Goals as goal
use Rattle.ir_laws.proofs.Resolved.{rows_length}

pub returns : goal.returns
returns c =
    let ps = c.args.routine.now.source.now.params in
    c.len.ensures ∙ sym (rows_length (map binding_of ps) ∙ length-map ps binding_of)
