use Rattle.image_linker.specs.Placing.{with_code_of}
use Rattle.image_linker.proofs.Bytes.{folded_more}
use Rattle.image_linker.proofs.flash.put_codes.Goals as goal

pub loop-compartment-preserved : goal.loop-compartment-preserved
loop-compartment-preserved c =
    folded_more (with_code_of c.args.making.now c.args.base) c.loop-compartment.compartment c.args.flash.now c.loop-compartment.flash c.put_code.new.flash c.loop-compartment.invariant c.in_ok-put_code.ensures
