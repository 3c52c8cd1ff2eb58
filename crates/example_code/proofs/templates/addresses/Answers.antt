use Rattle.example_code.proofs.Addresses.{computes_addresses}
use Rattle.example_code.proofs.templates.addresses.Goals as goal

pub returns : goal.returns
returns c = computes_addresses
