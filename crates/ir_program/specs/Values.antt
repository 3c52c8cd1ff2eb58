-- Beyond the program's claim: only laws, proofs and functions inside the tool cite this file.
-- Values of the code as the definition's.
use Rattle.ir_model.specs.Resolved as plain
use Rattle.ir_program.specs.declared.value.Instance as instances
use Rattle.ir_program.specs.declared.value.Instance.TheVariants as instance
use Rattle.ir_program.specs.declared.value.Value as values
use Rattle.ir_program.specs.declared.value.Value.TheVariants as value

abbrev pub instance_of : instances.Instance → plain.Instance
instance_of (instance.Global g) = plain.OfGlobal g
instance_of (instance.Periph p) = plain.OfPeriph p
instance_of (instance.Local l f n) = plain.OfLocal f n l

abbrev pub value_of : values.Value → plain.Value
value_of (value.Number n) = plain.Number n
value_of (value.Code f) = plain.Code f
value_of value.Null = plain.Null
value_of (value.AtGlobal g k) = plain.At (plain.OfGlobal g) k
value_of (value.AtPeriph p k) = plain.At (plain.OfPeriph p) k
value_of (value.AtLocal l f k n) = plain.At (plain.OfLocal f n l) k
