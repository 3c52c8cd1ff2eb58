-- Beyond the program's claim: only laws, proofs and functions inside the tool cite this file.
-- What an assembler holds once more code was put, and what is asked for before.
use Rattle.std.specs.Prelude.{◌≡◌, ℕ, ◌+◌, ◌%◌, ◌<◌, ◌≤◌, ◌^◌, List, ◌++◌, length, Some}
use Rattle.std.proofs.Math.ListN.{set}
use Rattle.std.specs.List.{All}
use Rattle.machine_thumb_asm.specs.declared.item.Item.{Item}
use Rattle.machine_thumb_asm.specs.Assembly.{Assembly, here, total}
use Rattle.ir_model.specs.Resolved.{NumberedFunc}
use Rattle.code_model.specs.declared.places.Places.{Places}
use Rattle.code_model.specs.Sizes.{function_size}
use Rattle.code_model.specs.FunctionCode.{lent, function_items, function_labels}

-- with more pieces behind
abbrev pub with_more : Assembly → List Item → Assembly
with_more a xs = record a { items = a.items ++ xs }

-- addresses stay below 2^31 where these are put
pub record HasRoom (a : Assembly) (xs : List Item) : Type 0 where
  pub below : here a + total xs < 2 ^ 31

-- an entry is even, and less than 2^20 bytes from each address from this one on to before that one
pub record IsNear (from to entry : ℕ) : Type 0 where
  pub even : entry % 2 ≡ 0
  pub behind : entry < from + 2 ^ 20
  pub before : to ≤ entry + 2 ^ 20

abbrev pub AreNear : (from to : ℕ) → (entries : List ℕ) → Type 0
AreNear from to es = All (IsNear from to) es

-- with a block behind, whose label has this number
abbrev pub with_block : Assembly → (label : ℕ) → List Item → Assembly
with_block a l xs = record a { items = a.items ++ xs; places = set a.places l (Some (here a)) }

-- with a whole function behind, and labels for its blocks
abbrev pub with_function : Assembly → NumberedFunc → Places → Assembly
with_function a g q = record a { items = a.items ++ function_items g q (length a.places) (here a); places = a.places ++ function_labels g q (here a) }

-- the bytes of a function whose code has these places
abbrev pub size_in : Places → NumberedFunc → ℕ
size_in q g = function_size g q.sites (lent g q)
