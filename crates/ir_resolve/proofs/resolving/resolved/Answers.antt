use Rattle.std.proofs.Common.{arith, refl, ap, subst, sym, map, ◌∙◌}
use Rattle.std.proofs.lemmas.List.{length-map}
use Rattle.ir_model.specs.Plain.{firmware_of, file_of, func_of}
use Rattle.ir_model.specs.Resolve.{Scope}
use Rattle.ir_model.proofs.Limits.{few_files}
use Rattle.ir_resolve.specs.Scopes.{AreSmallGlobals, AreSmallFuncs}
use Rattle.ir_resolve.proofs.Small.{few_names, small_globals, small_funcs}
use Rattle.ir_resolve.proofs.resolving.resolved.Goals as goal

pub numbered-requires-clause-few : goal.numbered-requires-clause-few
numbered-requires-clause-few c = few_names (firmware_of c.args.firmware.now) c.in_ok-scope.scope c.requires.within c.in_ok-scope.ensures

pub numbered-requires-clause-globals : goal.numbered-requires-clause-globals
numbered-requires-clause-globals c =
    subst (λ ks. AreSmallGlobals ks c.args.firmware.now.globals) (sym (ap (λ (s : Scope). s.known) c.in_ok-scope.ensures))
    (small_globals (firmware_of c.args.firmware.now) c.args.firmware.now.globals (c.sizes.ensures (firmware_of c.args.firmware.now) c.requires.typed) refl)

pub numbered-requires-clause-funcs : goal.numbered-requires-clause-funcs
numbered-requires-clause-funcs c =
    subst (λ ks. AreSmallFuncs ks c.as_slice-2.result.now) (sym (ap (λ (s : Scope). s.known) c.in_ok-scope.ensures))
    (small_funcs (firmware_of c.args.firmware.now) c.as_slice-2.result.now c.requires.within (c.sizes.ensures (firmware_of c.args.firmware.now) c.requires.typed)
    (ap (map (λ f. func_of f.now)) c.as_slice-2.ensures.value ∙ c.in_ok-sources.ensures))

pub numbered-requires-clause-files : goal.numbered-requires-clause-files
numbered-requires-clause-files c =
    let n = length-map c.args.firmware.now.files file_of in
    let f = few_files (firmware_of c.args.firmware.now) c.requires.within in
    omega arith
