use Rattle.std.proofs.Common.{rules, ◌≡◌, ◌++◌, ◌∙◌, ap, map, get_or, length, replicate}
use Rattle.ir_model.specs.declared.firmware.Func.{Func}
use Rattle.plan_policies.specs.declared.origins.Origin.{Origin}
use Rattle.plan_policies.proofs.Files.{names_more, numbers_more}
use Rattle.plan_policies.proofs.origins.origins.Goals as goal

pub loop-i-preserved : goal.loop-i-preserved
loop-i-preserved c =
    let there = c.loop-i-test.true in
    let file : c.index-files-i.result ≡ get_or c.as_slice-files.result.now c.loop-i.i c.index-files-i.result = c.index-files-i.is in
    let funcs : c.as_slice.result.now ≡ (get_or c.as_slice-files.result.now c.loop-i.i c.index-files-i.result).funcs = cc in
    record {
      names = names_more c.as_slice-files.result.now c.loop-i.i c.index-files-i.result _ _ there c.loop-i.invariant.names (c.in_ok-push_origins.ensures.names ∙ ap (λ fs. map (λ (o : Origin). o.name.now) c.loop-i.origins.items ++ map (λ (f : Func). f.name) fs) funcs);
      files = numbers_more c.as_slice-files.result.now c.loop-i.i c.index-files-i.result (map (λ (o : Origin). o.file) c.loop-i.origins.items) _ _ c.in-Ok.file there (search rules) c.loop-i.invariant.files (c.in_ok-push_origins.ensures.files ∙ ap (λ fs. map (λ (o : Origin). o.file) c.loop-i.origins.items ++ replicate (length fs) c.in-Ok.file) funcs);
    }
