use Rattle.example_code.proofs.Sensor.{computes_sizes, computes_code}
use Rattle.example_code.proofs.functions.sensor.Goals as goal

pub returns-clause-sizes : goal.returns-clause-sizes
returns-clause-sizes c = computes_sizes

pub returns-clause-code : goal.returns-clause-code
returns-clause-code c = computes_code
