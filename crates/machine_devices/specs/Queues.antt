-- Beyond the program's claim: only laws, proofs and functions inside the tool cite this file.
-- The queues of a tape, and what a row puts into them.
use Rattle.std.specs.Prelude.{◌≡◌, ℕ, map, List, [], ◌∷◌, ◌++◌, Some, None, Result, Ok, Err}
use Rattle.std.proofs.Math.ListN.{set}
use Rattle.machine_devices.specs.declared.image.Window.{Window}
use Rattle.machine_devices.specs.declared.tape.TapeFault.{TapeFault}
use Rattle.machine_devices.specs.declared.tape.TapeFault.TheVariants.{NoMemory}
use Rattle.machine_devices.specs.Input.{queue}
use Rattle.machine_devices.specs.Tape.{Row, words_named, row_fault}

-- the queues after a word was put last in one of them
abbrev pub pushed : List (List ℕ) → (number word : ℕ) → List (List ℕ)
pushed queues k x = set queues k (queue queues k ++ x ∷ [])

-- a queue without words for each window
abbrev pub all_empty : List Window → List (List ℕ)
all_empty windows = map (λ w. []) windows

-- the queues of windows, with the word of a row behind those that each has
abbrev pub with_row : Row → List Window → List (List ℕ) → List (List ℕ)
with_row r [] queues = queues
with_row r (w ∷ ws) [] = []
with_row r (w ∷ ws) (q ∷ qs) = (q ++ words_named w.name (r ∷ [])) ∷ with_row r ws qs

-- what reading a line with this row answers, and the queues before and after
abbrev pub Puts : Row → (line : ℕ) → List Window → (old new : List (List ℕ)) → {T : Type 0} → Result T TapeFault → Type 0
Puts r n windows old new (Ok u) = (row_fault r n windows ≡ None) × (new ≡ with_row r windows old)
Puts r n windows old new (Err NoMemory) = Unit {0}
Puts r n windows old new (Err e) = row_fault r n windows ≡ Some e
