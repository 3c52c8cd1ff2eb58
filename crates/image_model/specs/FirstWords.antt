-- What start-up fills a block of RAM with: each cell of its globals holds its first value, and there are zeros between.
use Rattle.std.specs.Prelude.{ℕ, ◌+◌, ◌*◌, List, [], ◌∷◌, replicate}
use Rattle.std.specs.List.{fold}
use Rattle.base_words.specs.Arithmetic.{word}
use Rattle.base_words.specs.Bytes.{write}
use Rattle.machine_model.specs.Stack.{words_at}
use Rattle.ir_model.specs.Types.{width_of}
use Rattle.ir_model.specs.Layout.{CellPlace}
use Rattle.ir_model.specs.Resolved.{Program, global_at, Value, Number, Code, Null, At, OfGlobal, OfPeriph, OfLocal}
use Rattle.plan_model.specs.Blocks.{offset_in_region}
use Rattle.plan_model.specs.TableSize.{words_in}
use Rattle.code_model.specs.declared.places.Places.{Places}
use Rattle.code_model.specs.Places.{global_address, window_address, entry_address}

-- the word of a value: of a function it is the entry with bit 0 set. No global holds the address of a local at first
abbrev pub first_word : Places → Value → ℕ
first_word q (Number n) = n
first_word q (Code f) = entry_address q f + 1
first_word q Null = 0
first_word q (At (OfGlobal x) k) = word (global_address q x + k)
first_word q (At (OfPeriph w) k) = word (window_address q w + k)
first_word q (At (OfLocal f n l) k) = 0

-- a memory with these values in cells that lie so many bytes behind an offset
abbrev pub with_cells : Places → (at : ℕ) → List CellPlace → List Value → (memory : List ℕ) → List ℕ
with_cells q at [] vs mem = mem
with_cells q at (c ∷ cs) [] mem = mem
with_cells q at (c ∷ cs) (v ∷ vs) mem = with_cells q at cs vs (write (width_of c.ty) (at + c.at) (first_word q v) mem)

module _ (p : Program) (q : Places) where
  -- a memory with the first values of a global at an offset
  abbrev pub with_global : (global at : ℕ) → (memory : List ℕ) → List ℕ
  with_global x at mem = with_cells q at (global_at p x).shape.cells (global_at p x).init mem

  -- the block of these globals
  abbrev pub first_bytes : (globals : List ℕ) → List ℕ
  first_bytes xs = fold (λ mem x. with_global x (offset_in_region p xs x) mem) (replicate (4 * words_in p xs) 0) xs

  -- as words
  unfoldable pub first_words : (globals : List ℕ) → List ℕ
  first_words xs = words_at (words_in p xs) 0 (first_bytes xs)
