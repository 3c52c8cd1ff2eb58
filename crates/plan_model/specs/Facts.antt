-- What a policy knows of each function.
use Rattle.std.specs.Prelude.{ℕ, ◌&&◌, not, List, [], length, map, filter, get_or, nat_eq}
use Rattle.ir_model.specs.Plain.{PlainFirmware, PlainFunc, funcs_of}
use Rattle.ir_model.specs.Resolve.{files_from}
use Rattle.plan_model.specs.declared.needs.Needs.{Needs}
use Rattle.plan_model.specs.declared.groups.FuncFacts.{FuncFacts}
use Rattle.plan_model.specs.Lists.{numbers_below, has}
use Rattle.plan_model.specs.Needs.{need_of}

-- each other function that has this one as a callee
abbrev pub callers_of : Needs → (func : ℕ) → List ℕ
callers_of n f = filter (λ h. not (nat_eq h f) && has (need_of n h).callees f) (numbers_below (length n.funcs))

-- one function's, by the names of all and the numbers of their files
abbrev pub facts_of : (names : List (List ℕ)) → (files : List ℕ) → Needs → (func : ℕ) → FuncFacts
facts_of names files n f =
    record { index = f; name = get_or names f []; file = get_or files f 0; periphs = (need_of n f).periphs; callers = callers_of n f }

-- those of all functions, in order
abbrev pub all_facts : (names : List (List ℕ)) → (files : List ℕ) → Needs → List FuncFacts
all_facts names files n = map (facts_of names files n) (numbers_below (length n.funcs))

-- those of a firmware
unfoldable pub facts : PlainFirmware → Needs → List FuncFacts
facts w n = all_facts (map (λ (f : PlainFunc). f.name) (funcs_of w)) (files_from 0 w.files) n
