-- Beyond the program's claim: only laws, proofs and functions inside the tool cite this file.
-- Nodes of the code as the definition's.
use Rattle.ir_model.specs.Objects.{object_by}
use Rattle.ir_laws.specs.Sets as plain
use Rattle.need_sets.specs.declared.node.Node as nodes
use Rattle.need_sets.specs.declared.node.Node.TheVariants as node

abbrev pub node_by : nodes.Node → plain.Node
node_by (node.Reg f r) = plain.Register f r
node_by (node.Content o) = plain.Content (object_by o)
node_by (node.Result f) = plain.Outcome f
