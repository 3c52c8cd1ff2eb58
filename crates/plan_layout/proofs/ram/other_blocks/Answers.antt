use Rattle.std.proofs.Common.{◌≡◌, List, [], ◌∷◌, ◌++◌, ap, ◌∙◌}
use Rattle.ir_program.specs.Seen.{program_of}
use Rattle.plan_layout.specs.declared.ram.UsedBlock.{UsedBlock}
use Rattle.plan_layout.proofs.Steps.{other_blocks_are}
use Rattle.plan_layout.proofs.ram.other_blocks.Goals as goal

pub returns : goal.returns
returns c =
    let m = c.full.result in
    let first : c.push.new.self.items ≡ m ∷ [] = c.in_ok-push.ensures.items ∙ ap (λ (xs : List UsedBlock). xs ++ m ∷ []) c.new-blocks.ensures.items in
    other_blocks_are (program_of c.args.program.now) c.args.fin.now m c.push.new.self.items c.add_regions.new.blocks.items c.add_unwritten.new.blocks.items c.as_slice.result.now c.as_slice-2.result.now
    first c.full.ensures c.as_slice.ensures c.as_slice-2.ensures c.in_ok-add_regions.ensures c.in_ok-add_unwritten.ensures
