use Rattle.std.proofs.Common.{◌≡◌, ℕ, suc, ◌+◌, List, [], ◌∷◌, length, refl, ap}
use Rattle.ir_model.specs.Resolved.{NumberedBlock, NumberedFunc}
use Rattle.code_model.specs.declared.places.Places.{Places}
use Rattle.code_model.specs.Sizes.{block_size}
use Rattle.code_model.specs.FunctionCode.{lent, blocks_labels}

pub labels_length : (g : NumberedFunc) (q : Places) (at b : ℕ) (xs : List NumberedBlock) → length (blocks_labels g q at b xs) ≡ length xs
labels_length g q at b [] = refl
labels_length g q at b (x ∷ xs) = ap suc (labels_length g q (at + block_size g q.sites (lent g q) b x) (suc b) xs)
