-- The lines of a call that does not fit: what was called by its arguments and the result that it keeps, and what had to be; and those of a block's end.
use Rattle.std.specs.Prelude.{ℕ, List, [], ◌++◌, map, codes, Option, Some, None}
use Rattle.ir_model.specs.declared.firmware.Inst.{Inst}
use Rattle.ir_model.specs.declared.firmware.Inst.TheVariants as inst
use Rattle.ir_model.specs.declared.firmware.Term.{Term}
use Rattle.ir_model.specs.declared.firmware.Term.TheVariants as term
use Rattle.ir_model.specs.Types.{PlainType, Callee, types_from}
use Rattle.ir_model.specs.Plain.{PlainFunc, PlainFirmware}
use Rattle.ir_model.specs.Resolve.{type_named}
use Rattle.ir_model.specs.Rules.{returned_type}
use Rattle.ir_check_details.specs.Words.{found, found_type, expected, expected_type, expected_result}
use Rattle.ir_check_details.specs.Found.{func_in}
use Rattle.ir_check_details.specs.Instructions.{found_register, number_lines, numbers_lines, move_lines, addr_lines, faddr_lines, elem_lines, field_lines, access_lines, expected_func}

-- the type of a function that takes these registers, and gives what is kept, if something is
abbrev pub called_type : PlainFunc → (to : Option (List ℕ)) → (args : List (List ℕ)) → PlainType
called_type f to as_ = Callee (types_from (map (type_named f) as_)) (returned_type f to)

-- a call of a function by its name
abbrev pub call_lines : PlainFirmware → PlainFunc → (to : Option (List ℕ)) → (func : List ℕ) → (args : List (List ℕ)) → List ℕ
call_lines w f to g as_ = found_type (called_type f to as_) ++ expected_func (func_in w.files g)

-- a register that is no function
abbrev pub no_function_lines : PlainFunc → (func : List ℕ) → List ℕ
no_function_lines f g = found_register f g ++ expected (codes "a function")

-- a call of what a register holds, by its type
abbrev pub icall_lines : PlainFunc → (to : Option (List ℕ)) → (func : List ℕ) → (args : List (List ℕ)) → PlainType → List ℕ
icall_lines f to g as_ (Callee a r) = found_type (called_type f to as_) ++ expected_type (Callee a r)
icall_lines f to g as_ _ = no_function_lines f g

-- a register that is returned, or nothing
abbrev pub found_returned : PlainFunc → Option (List ℕ) → List ℕ
found_returned f None = found (codes "nothing")
found_returned f (Some r) = found_register f r

-- the end of a function
abbrev pub ret_lines : PlainFunc → Option (List ℕ) → List ℕ
ret_lines f v = found_returned f v ++ expected_result f.outcome

-- an instruction, and a block's end
abbrev pub inst_lines : PlainFirmware → PlainFunc → Inst → List ℕ
inst_lines w f (inst.Const to v) = number_lines f to
inst_lines w f (inst.Move to from) = move_lines f to from
inst_lines w f (inst.Bin op to a b) = numbers_lines f to a b
inst_lines w f (inst.Cmp op to a b) = numbers_lines f to a b
inst_lines w f (inst.Addr to x) = addr_lines w f to x
inst_lines w f (inst.FAddr to g) = faddr_lines w f to g
inst_lines w f (inst.Elem to base i) = elem_lines f to base i
inst_lines w f (inst.Field to base n) = field_lines w f to base n (type_named f base)
inst_lines w f (inst.Load to from) = access_lines f from to
inst_lines w f (inst.Store to from) = access_lines f to from
inst_lines w f (inst.Call to g as_) = call_lines w f to g as_
inst_lines w f (inst.ICall to g as_) = icall_lines f to g as_ (type_named f g)

abbrev pub term_lines : PlainFunc → Term → List ℕ
term_lines f (term.Jump b) = []
term_lines f (term.Branch on a b) = number_lines f on
term_lines f (term.Ret v) = ret_lines f v
