use Rattle.std.proofs.Common.{◌≡◌, ◌++◌, map, take, replicate}
use Rattle.ir_model.specs.declared.firmware.Func.{Func}
use Rattle.plan_policies.specs.declared.origins.Origin.{Origin}
use Rattle.plan_policies.proofs.origins.push_origins.Given as goal

abbrev pub invariant-loop-func : goal.invariant-loop-func
invariant-loop-func l = record {
  names : map (λ (o : Origin). o.name.now) l.origins.items ≡ map (λ (o : Origin). o.name.now) l.initial.origins.items ++ map (λ (f : Func). f.name) (take l.func-index l.funcs);
  files : map (λ (o : Origin). o.file) l.origins.items ≡ map (λ (o : Origin). o.file) l.initial.origins.items ++ replicate l.func-index l.file;
}
