-- What the groups of a program have.
use Rattle.std.proofs.Common.{◌≡◌, ℕ, ◌+◌, ◌≤◌, List, [], ◌∷◌, ◌++◌, length, map, take, refl, ap, append_assoc, length-append, arith}
use Rattle.std.proofs.lemmas.List.{length-map, take_all}
use Rattle.std.specs.Borrow.{Bor}
use Rattle.ir_model.specs.declared.types.Ty as types
use Rattle.ir_model.specs.Types.{type_of}
use Rattle.ir_model.specs.Layout.{Known}
use Rattle.ir_model.specs.Resolved.{Program, NumberedFunc}
use Rattle.ir_program.specs.declared.program.Program as programs
use Rattle.ir_program.specs.declared.program.Routine.{Routine}
use Rattle.ir_program.specs.Parts.{routine_of, variable_of, span_of}
use Rattle.ir_program.specs.Seen.{program_of, known_of}
use Rattle.ir_program.specs.Storages.{shape_of}
use Rattle.need_sets.specs.Numbers.{object_groups, node_groups}

locals_are : (ks : List Known) (rs : List Routine) → map (λ (f : NumberedFunc). length f.locals) (map (routine_of ks) rs) ≡ map (λ (r : Routine). length r.locals) rs
locals_are ks [] = refl
locals_are ks (r ∷ rs) = let e = length-map r.locals (shape_of ks) in let f = locals_are ks rs in cc

registers_are : (ks : List Known) (rs : List Routine) → map (λ (f : NumberedFunc). length f.regs) (map (routine_of ks) rs) ≡ map (λ (r : Routine). length r.registers) rs
registers_are ks [] = refl
registers_are ks (r ∷ rs) = let e : length (routine_of ks r).regs ≡ length r.registers = length-map r.registers (λ (t : Bor types.Ty). type_of t.now) in let f = registers_are ks rs in cc

pub object_groups_are : (p : programs.Program) (g g0 : List ℕ) (n i : ℕ) → g ≡ g0 ++ n ∷ [] → n ≡ length p.funcs → length p.funcs ≤ i → g0 ≡ length p.globals ∷ length p.periphs ∷ map (λ (r : Routine). length r.locals) (take i p.funcs) → g ≡ object_groups (program_of p)
object_groups_are p g g0 n i e f l h =
    let a = length-map p.globals (variable_of (known_of p)) in
    let b = length-map p.periphs span_of in
    let d = length-map p.funcs (routine_of (known_of p)) in
    let m = locals_are (known_of p) p.funcs in
    let t = ap (map (λ (r : Routine). length r.locals)) (take_all i p.funcs l) in cc

pub node_groups_are : (p : programs.Program) (g g0 g1 : List ℕ) (o n i : ℕ) → g ≡ g1 ++ n ∷ [] → g1 ≡ g0 ++ o ∷ [] → n ≡ length p.funcs → length p.funcs ≤ i → g0 ≡ map (λ (r : Routine). length r.registers) (take i p.funcs) → g ≡ node_groups (program_of p) o
node_groups_are p g g0 g1 o n i e e1 f l h =
    let d = length-map p.funcs (routine_of (known_of p)) in
    let m = registers_are (known_of p) p.funcs in
    let t = ap (map (λ (r : Routine). length r.registers)) (take_all i p.funcs l) in
    let q = append_assoc g0 (o ∷ []) (n ∷ []) in cc

-- the groups of objects are those of globals and of peripherals, one of each function's locals, and that of functions
pub object_group_count : (p : Program) (groups : List ℕ) (funcs : ℕ) → groups ≡ object_groups p → funcs ≡ length p.funcs → length groups ≡ 3 + funcs
object_group_count p groups funcs e f =
    let a = length-append (map (λ (f : NumberedFunc). length f.locals) p.funcs) (length p.funcs ∷ []) in
    let b = length-map p.funcs (λ (f : NumberedFunc). length f.locals) in
    let d : length groups ≡ length (object_groups p) = ap length e in
    omega (arith, a, b, d, f)
