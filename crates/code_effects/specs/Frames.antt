-- Beyond the program's claim: only laws, proofs and functions inside the tool cite this file.
-- The frame of a running function, and the code of its instructions where it stands. Words of a frame are counted from the stack
-- pointer on, which stands `o` bytes behind RAM's base.
use Rattle.std.specs.Prelude.{ℕ, ◌+◌, ◌*◌, List, [], Option, is_some}
use Rattle.base_words.specs.Bytes.{read, write}
use Rattle.machine_devices.specs.declared.image.Image.{Image}
use Rattle.machine_model.specs.State.{PermissionTest}
use Rattle.machine_model.specs.Stack.{Room}
use Rattle.ir_model.specs.Resolved.{NumberedInst, NumberedTerm, NumberedFunc}
use Rattle.code_model.specs.declared.places.Places.{Places}
use Rattle.code_model.specs.Templates.{entry_items, inst_items, term_items}
use Rattle.code_model.specs.Sizes.{inst_size}
use Rattle.code_effects.specs.Points.{Point}
use Rattle.code_effects.specs.Items.{ItemsAt}

-- n words from the stack pointer on may be read and written
abbrev pub HasFrame : PermissionTest → Image → Point → (o n : ℕ) → Type 0
HasFrame j i p o n = Room j i p.context.protection p.sp o n

-- what word k holds: register k of the function, where it has that register
abbrev pub home : (o : ℕ) → Point → (k : ℕ) → ℕ
home o p k = read 4 (o + 4 * k) p.ram

-- the code of an instruction stands at an address. `site` is the site of a call that may go to another compartment
abbrev pub HasInst : PermissionTest → Image → NumberedFunc → Places → (labels : List (Option ℕ)) → Point → (at : ℕ) → (site : Option ℕ) → NumberedInst → Type 0
HasInst j i g q labels p at site y = ItemsAt j i p.context.protection labels at (inst_items g q at site y)

-- behind it, with v in word k
abbrev pub behind : (o : ℕ) → Point → (site : Option ℕ) → NumberedInst → (k v : ℕ) → Point
behind o p site y k v = record p { registers = []; pc = p.pc + inst_size (is_some site) y; ram = write 4 (o + 4 * k) v p.ram }

-- the code of a block's end stands at an address. Block b of the function is label first + b
abbrev pub HasTerm : PermissionTest → Image → NumberedFunc → Places → (labels : List (Option ℕ)) → (first : ℕ) → Point → (at : ℕ) → NumberedTerm → Type 0
HasTerm j i g q labels first p at t = ItemsAt j i p.context.protection labels at (term_items g q first t)

-- and that of a function's entry
abbrev pub HasEntry : PermissionTest → Image → NumberedFunc → Places → (labels : List (Option ℕ)) → Point → (at : ℕ) → Type 0
HasEntry j i g q labels p at = ItemsAt j i p.context.protection labels at (entry_items g q)
