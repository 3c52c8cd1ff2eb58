use Rattle.std.proofs.Common.{◌≡◌, map, take}
use Rattle.ir_model.specs.Plain.{func_of, struct_of}
use Rattle.ir_model.specs.Layout.{known}
use Rattle.ir_model.specs.Resolve as resolving
use Rattle.ir_program.specs.Parts.{routine_of, local_counts, cell_counts}
use Rattle.ir_resolve.specs.Scopes.{scope_of}
use Rattle.ir_resolve.proofs.routines.routines.Given as goal

abbrev pub invariant-loop-i : goal.invariant-loop-i
invariant-loop-i l = record {
  exact : map (routine_of (known (map struct_of l.scope.layouts))) l.routines.items ≡ map (resolving.resolved_func (scope_of l.scope)) (map (λ f. func_of f.now) (take l.i l.funcs));
  cells : map local_counts l.routines.items ≡ map cell_counts (map (resolving.resolved_func (scope_of l.scope)) (map (λ f. func_of f.now) (take l.i l.funcs)));
}
