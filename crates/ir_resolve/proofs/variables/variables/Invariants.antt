use Rattle.std.proofs.Common.{◌≡◌, map, take}
use Rattle.ir_model.specs.Plain.{global_of, struct_of}
use Rattle.ir_model.specs.Layout.{known}
use Rattle.ir_model.specs.Resolve as resolving
use Rattle.ir_program.specs.Parts.{variable_of, cell_count, global_count}
use Rattle.ir_resolve.specs.Scopes.{scope_of}
use Rattle.ir_resolve.proofs.variables.variables.Given as goal

abbrev pub invariant-loop-i : goal.invariant-loop-i
invariant-loop-i l = record {
  exact : map (variable_of (known (map struct_of l.scope.layouts))) l.variables.items ≡ map (resolving.resolved_global (scope_of l.scope)) (map global_of (take l.i l.globals));
  cells : map global_count l.variables.items ≡ map cell_count (map (resolving.resolved_global (scope_of l.scope)) (map global_of (take l.i l.globals)));
}
