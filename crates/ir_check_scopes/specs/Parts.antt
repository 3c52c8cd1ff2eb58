-- Beyond the program's claim: only laws, proofs and functions inside the tool cite this file.
-- The check of an object's size, and whether an address is of a type.
use Rattle.std.specs.Prelude.{ℕ, List, [], ◌∷◌, map, nat_le, Bool, if◌then◌else◌}
use Rattle.ir_model.specs.declared.check.CheckKind.TheVariants.{ObjectTooLarge}
use Rattle.ir_model.specs.declared.check.CheckPlace.{CheckPlace}
use Rattle.ir_model.specs.declared.firmware.Peripheral.{Peripheral}
use Rattle.ir_model.specs.Types.{PlainType}
use Rattle.ir_model.specs.Plain.{PlainFirmware}
use Rattle.ir_model.specs.Layout.{known, shape}
use Rattle.base_names.specs.Numbers.{has}
use Rattle.ir_model.specs.Rules.{is_port, is_address, global_type}
use Rattle.ir_model.specs.Typing.{Checks, check, object_limit}

abbrev pub size_check : PlainFirmware → CheckPlace → PlainType → Checks
size_check w p t = check (nat_le (shape (known w.structs) t).size object_limit) ObjectTooLarge p ∷ []

-- the address of a peripheral, or else of a global, is of a type
abbrev pub address_fits : PlainFirmware → List ℕ → PlainType → Bool
address_fits w x t =
    if has (map (λ (q : Peripheral). q.name) w.periphs) x then is_port t else is_address (global_type w.globals x) t
