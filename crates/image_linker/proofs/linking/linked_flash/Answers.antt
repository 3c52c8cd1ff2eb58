use Rattle.std.proofs.Common.{◌≡◌, ℕ, Vec, Global, ◌∙◌}
use Rattle.std.proofs.lemmas.Result.{IfOk-weaker}
use Rattle.ir_program.specs.Seen.{program_of}
use Rattle.image_model.specs.LinkedImage.{flash_of}
use Rattle.image_entries.specs.declared.making.Making.{Making}
use Rattle.image_linker.specs.Placing.{flash_with}
use Rattle.image_linker.proofs.Linked.{made_ready}
use Rattle.image_linker.proofs.Same.{flash_made}
use Rattle.image_linker.proofs.linking.linked_flash.Goals as goal

pub flash-requires : goal.flash-requires
flash-requires c =
    let are = c.in_ok-parts.ensures in
    made_ready _ _ c.as_slice.ensures are.addresses _ _ c.requires are.numbers are.small

pub returns : goal.returns
returns c =
    let here = c.args.program.ref_ptr in
    let f = c.args.graph.now in
    let b = c.args.board.now in
    let are = c.in_ok-parts.ensures in
    let m : Making =
    record {
      program = c.args.program;
      plan = c.args.plan;
      compartments = c.as_slice.result;
      numbers = record { ref_ptr = here; now = c.in_ok-parts.parts.numbers };
      addresses = record { ref_ptr = here; now = c.in_ok-parts.parts.addresses };
    } in
    let t = c.in_ok-parts.parts.tables in
    let same = flash_made m c.args.needs.now f b c.as_slice.ensures are.addresses are.numbers t are.tables in
    IfOk-weaker c.flash.result (λ (bytes : Vec ℕ Global). bytes.items ≡ flash_with m b.flash_base t f.groups.count)
    (λ (bytes : Vec ℕ Global). bytes.items ≡ flash_of (program_of c.args.program.now) c.args.needs.now f c.args.plan.now b) (λ bytes h. h ∙ same) c.flash.ensures
