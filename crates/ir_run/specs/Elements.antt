-- Beyond the program's claim: only laws, proofs and functions inside the tool cite this file.
-- Elements of arrays that a step goes to.
use Rattle.std.specs.Prelude.{◌≡◌, ℕ, ◌≤◌, [], ◌∷◌}
use Rattle.ir_model.specs.Typing.{object_limit}
use Rattle.ir_model.specs.Resolved.{Program, Instance, At, NumberedInst, Elem, Here, Does, Ends, here}
use Rattle.ir_model.specs.State.{Frame, SourceState, Running, Ended}
use Rattle.ir_model.specs.Step.{register}

-- where the base of `elem` is not null, an element is no larger than an object
abbrev pub HasSmallElement : Frame → NumberedInst → Type 0
HasSmallElement fr (Elem to base index size) = (o : Instance) (k : ℕ) → register fr base ≡ At o k → size ≤ object_limit
HasSmallElement fr _ = Unit {0}

abbrev pub HasSmallElementHere : Frame → Here → Type 0
HasSmallElementHere fr (Does i) = HasSmallElement fr i
HasSmallElementHere fr (Ends t) = Unit {0}

-- the same, of what stands at the place of the running frame
abbrev pub HasSmallElements : Program → SourceState → Type 0
HasSmallElements p (Running [] m) = Unit {0}
HasSmallElements p (Running (fr ∷ rest) m) = HasSmallElementHere fr (here p fr.func fr.block fr.place)
HasSmallElements p (Ended e) = Unit {0}
