-- The three policies. Each gives the number of a group to each function.
use Rattle.std.specs.Prelude.{ℕ, List, [], ◌∷◌, map, get_or, set, Option, Some, None, if◌then◌else◌, nat_eq}
use Rattle.std.specs.List.{list_all, fold, position_or_len}
use Rattle.std.specs.Ordering.{nat_cmp, is_lt}
use Rattle.std.specs.Cmp.Lexicographic.{slice_cmp}
use Rattle.plan_model.specs.declared.groups.FuncFacts.{FuncFacts}
use Rattle.plan_model.specs.Lists.{in_order, is_empty, distinct, same_numbers}

-- ---- filename

-- the functions of a file are a group
abbrev pub filename_groups : List FuncFacts → List ℕ
filename_groups fs = map (λ (f : FuncFacts). f.file) fs

-- ---- optimized

-- the functions in byte order of their names
abbrev pub by_name : List FuncFacts → List FuncFacts
by_name fs = in_order (λ (a b : FuncFacts). is_lt (slice_cmp nat_cmp a.name b.name)) fs

-- the group in which all these functions stand, if there is one
abbrev pub common_group : (groups : List ℕ) → (funcs : List ℕ) → Option ℕ
common_group groups [] = None
common_group groups (f ∷ fs) =
    if list_all (λ h. nat_eq (get_or groups h 0) (get_or groups f 0)) fs then Some (get_or groups f 0) else None

-- a function stands in that group, if there is one
abbrev pub moved_to : (groups : List ℕ) → (func : ℕ) → Option ℕ → List ℕ
moved_to groups f None = groups
moved_to groups f (Some g) = set groups f g

-- a function without peripherals, whose callers all stand in one group at that moment, stands in that group then
abbrev pub move : (groups : List ℕ) → FuncFacts → List ℕ
move groups f = if is_empty f.periphs then moved_to groups f.index (common_group groups f.callers) else groups

-- the groups of `filename`, after the move of each function in its turn, by the byte order of names
unfoldable pub optimized_groups : List FuncFacts → List ℕ
optimized_groups fs = fold move (filename_groups fs) (by_name fs)

-- ---- peripheral

-- the different lists of peripherals, in the order of the first function of each
abbrev pub periph_lists : List FuncFacts → List (List ℕ)
periph_lists fs = distinct same_numbers (map (λ (f : FuncFacts). f.periphs) fs)

-- functions of equal peripherals are a group; groups are numbered in the order of their first functions
unfoldable pub peripheral_groups : List FuncFacts → List ℕ
peripheral_groups fs = map (λ (f : FuncFacts). position_or_len (λ qs. same_numbers qs f.periphs) (periph_lists fs)) fs
