-- Every generated firmware is typed.
use Rattle.std.proofs.Common.{ℕ, ◌≤◌, ◌≡◌, ◌∙◌, List, [], ◌∷◌, ◌++◌, refl, arith, length, min, map, None, false}
use Rattle.std.specs.Prelude.{codes}
use Rattle.std.specs.List.{range_with_len}
use Rattle.std.specs.Fmt.{digits}
use Rattle.base_names.specs.Numbers.{has}
use Rattle.ir_check_scopes.proofs.Order.{first_append}
use Rattle.ir_model.specs.declared.firmware.Peripheral.{Peripheral}
use Rattle.ir_model.specs.declared.check.CheckKind.TheVariants.{NoMain}
use Rattle.ir_model.specs.declared.check.CheckPlace.TheVariants as place
use Rattle.ir_model.specs.Plain.{PlainFile, PlainGlobal, PlainFirmware}
use Rattle.ir_model.specs.Typing.{first_failing, Checks, check, checks, periph_checks, globals_checks, file_checks, funcs_checks, has_main, fault_of, IsTyped}
use Rattle.ir_generator.specs.declared.choices.Choice.{Choice}
use Rattle.ir_generator.specs.Choices.{AreWithin, choices}
use Rattle.ir_generator.specs.Names.{test_name}
use Rattle.ir_generator.specs.Functions.{main}
use Rattle.ir_generator.specs.Made.{port, global, main_file, test_file, support_file, firmware_by, made}
use Rattle.ir_generator.proofs.Bodies.{choices_within, choices_length}
use Rattle.ir_generator.proofs.Apart.{absent_append, absent_behind}
use Rattle.ir_generator.proofs.Globals.{globals_pass, others_absent}
use Rattle.ir_generator.proofs.Files.{Before, files_pass}
use Rattle.ir_generator.proofs.CheckedFunctions.{functions_pass}
use Rattle.ir_generator.proofs.Offers.{offers, drawn}

both : (a b : Checks) → first_failing a ≡ None → first_failing b ≡ None → first_failing (a ++ b) ≡ None
both a b p q = first_append a b p ∙ q

ports_pass : first_failing (periph_checks [] (map port (range_with_len 0 4))) ≡ None
unfolding digits
ports_pass = refl

abbrev port_names : List (List ℕ)
port_names = map (λ (q : Peripheral). q.name) (map port (range_with_len 0 4))

abbrev global_names : ℕ → List (List ℕ)
global_names size = map (λ (g : PlainGlobal). g.name) (map global (range_with_len 0 size))

abbrev later : (size : ℕ) → List Choice → List PlainFile
later size cs = map (test_file cs) (range_with_len 0 (min size 16)) ++ support_file ∷ []

before : (size : ℕ) → Before 0 (codes "m.c" ∷ []) ((port_names ++ global_names size) ++ codes "main" ∷ [])
before size =
    record {
      files = λ i a b. refl;
      last = refl;
      tests = λ n a b. absent_behind (port_names ++ global_names size) (codes "main") (test_name n) (absent_append port_names (global_names size) (test_name n) refl (others_absent size 0 (test_name n) (λ j. refl))) refl;
      support = absent_behind (port_names ++ global_names size) (codes "main") (codes "s0") (absent_append port_names (global_names size) (codes "s0") refl (others_absent size 0 (codes "s0") (λ j. refl))) refl;
    }

first_file : (size : ℕ) (seen : List (List ℕ)) (more : List PlainFile) → has seen (codes "main") ≡ false
    → first_failing (file_checks (codes "m.c" ∷ []) (seen ++ codes "main" ∷ []) more) ≡ None → first_failing (file_checks [] seen (main_file size ∷ more)) ≡ None
first_file size seen more h p = rw h p

all_files : (size : ℕ) (cs : List Choice) → length cs ≤ 200 → first_failing (file_checks [] (port_names ++ global_names size) (main_file size ∷ later size cs)) ≡ None
all_files size cs l =
    first_file size (port_names ++ global_names size) (later size cs)
    (absent_append port_names (global_names size) (codes "main") refl (others_absent size 0 (codes "main") (λ j. refl)))
    (files_pass cs (min size 16) 0 (codes "m.c" ∷ []) ((port_names ++ global_names size) ++ codes "main" ∷ []) l (omega arith) (before size))

by_choices : (size : ℕ) (cs : List Choice) → size ≤ 200 → length cs ≡ size → AreWithin size cs → IsTyped (firmware_by size cs)
unfolding fault_of checks
by_choices size cs l e h =
    let w : PlainFirmware = firmware_by size cs in
    let at_end : Checks = check (has_main w) NoMain place.Whole ∷ [] in
    let by_functions : Checks = funcs_checks w (main size ∷ drawn cs 0 (min size 16)) in
    let by_files : Checks = file_checks [] (port_names ++ global_names size) (main_file size ∷ later size cs) in
    let by_globals : Checks = globals_checks w port_names (map global (range_with_len 0 size)) in
    let by_ports : Checks = periph_checks [] (map port (range_with_len 0 4)) in
    both (((by_ports ++ by_globals) ++ by_files) ++ by_functions) at_end
    (both ((by_ports ++ by_globals) ++ by_files) by_functions
    (both (by_ports ++ by_globals) by_files
    (both by_ports by_globals ports_pass (globals_pass w size 0 port_names (omega arith) (λ n a b. refl)))
    (all_files size cs (omega arith)))
    (functions_pass w size (offers size cs e) cs (min size 16) h)) refl

pub made_is_typed : (seed size : ℕ) → 1 ≤ size → size ≤ 200 → IsTyped (made seed size)
made_is_typed seed size l u = by_choices size (choices seed size size) u (choices_length seed size size) (choices_within seed size size l)
