use Rattle.std.proofs.Common.{◌≡◌, ◌++◌, map, flat_map, take, drop}
use Rattle.ir_model.specs.Plain.{PlainFile, PlainFunc, file_of}
use Rattle.ir_model.specs.Resolve.{files_from}
use Rattle.plan_policies.specs.declared.origins.Origin.{Origin}
use Rattle.plan_policies.proofs.origins.origins.Given as goal

-- the functions so far, and the files of those that are left
abbrev pub invariant-loop-i : goal.invariant-loop-i
invariant-loop-i l = record {
  names : map (λ (o : Origin). o.name.now) l.origins.items ≡ map (λ (f : PlainFunc). f.name) (flat_map (λ (f : PlainFile). f.funcs) (map file_of (take l.i l.files)));
  files : map (λ (o : Origin). o.file) l.origins.items ++ files_from l.i (map file_of (drop l.i l.files)) ≡ files_from 0 (map file_of l.files);
}
