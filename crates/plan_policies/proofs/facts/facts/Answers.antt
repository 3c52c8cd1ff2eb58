use Rattle.std.proofs.Common.{rules, ◌≡◌, ◌∙◌, ◌<◌, ap, map, sym, subst, arith, ℕ, List, length}
use Rattle.std.proofs.lemmas.List.{length-map}
use Rattle.ir_model.specs.Plain.{PlainFunc, firmware_of, funcs_of}
use Rattle.plan_model.specs.Facts.{facts, all_facts}
use Rattle.std.specs.List.{All}
use Rattle.plan_model.specs.declared.groups.FuncFacts.{FuncFacts}
use Rattle.plan_policies.specs.Functions.{AreFunctions}
use Rattle.plan_policies.proofs.Below.{facts_below}
use Rattle.plan_policies.specs.declared.origins.Origin.{Origin}
use Rattle.ir_model.specs.Resolve.{files_from}
use Rattle.plan_policies.proofs.Told.{names_of, files_of, fact_read, told_are_functions, length_told, all_told}
use Rattle.plan_policies.proofs.facts.facts.Goals as goal
use Rattle.plan_model.proofs.Numbers.{mapped_more}

each_origin : (os : List Origin) (fs : List PlainFunc) (n : ℕ) → map (λ (o : Origin). o.name.now) os ≡ map (λ (f : PlainFunc). f.name) fs → n ≡ length fs → n ≡ length os
each_origin os fs n e l =
    let a = length-map os (λ (o : Origin). o.name.now) in
    let b = length-map fs (λ (f : PlainFunc). f.name) in
    let m = ap length e in
    omega arith

pub loop-index-preserved : goal.loop-index-preserved
loop-index-preserved c =
    let each = each_origin c.in_ok-origins.origins.items (funcs_of (firmware_of c.args.firmware.now)) (length c.args.needs.now.funcs) (search rules) c.requires in
    let there : c.loop-index.index < length c.in_ok-origins.origins.items = omega arith in
    mapped_more _ c.loop-index.index c.loop-index.facts.items _ c.in_ok-fact.field-0 c.loop-index.invariant
    (fact_read c.in_ok-origins.origins.items c.args.needs.now c.loop-index.index c.index.result.now c.in_ok-fact.field-0 there c.index.ensures c.in_ok-fact.ensures) c.in_ok-push.ensures.items

exactly : goal.returns-clause-exact
unfolding facts
exactly c =
    let whole : c.loop-index.index ≡ length c.args.needs.now.funcs = omega arith in
    let names : names_of c.in_ok-origins.origins.items ≡ map (λ (f : PlainFunc). f.name) (funcs_of (firmware_of c.args.firmware.now)) = search rules in
    let files : files_of c.in_ok-origins.origins.items ≡ files_from 0 (firmware_of c.args.firmware.now).files = search rules in
    all_told c.in_ok-origins.origins.items c.args.needs.now c.loop-index.index c.loop-index.facts.items c.loop-index.invariant whole
    ∙ (ap (λ ns. all_facts ns (files_of c.in_ok-origins.origins.items) c.args.needs.now) names ∙ ap (λ ks. all_facts (map (λ (f : PlainFunc). f.name) (funcs_of (firmware_of c.args.firmware.now))) ks c.args.needs.now) files)

pub returns-clause-exact : goal.returns-clause-exact
returns-clause-exact c = exactly c

pub returns-clause-files : goal.returns-clause-files
returns-clause-files c =
    subst (λ fs. All (λ (f : FuncFacts). f.file < length (firmware_of c.args.firmware.now).files) fs) (sym (exactly c)) (facts_below (firmware_of c.args.firmware.now) c.args.needs.now c.requires)

pub returns-clause-functions : goal.returns-clause-functions
returns-clause-functions c =
    let whole : c.loop-index.index ≡ length c.args.needs.now.funcs = omega arith in
    subst AreFunctions (sym (all_told c.in_ok-origins.origins.items c.args.needs.now c.loop-index.index c.loop-index.facts.items c.loop-index.invariant whole)) (told_are_functions _ _ c.args.needs.now)

pub returns-clause-each : goal.returns-clause-each
returns-clause-each c =
    let whole : c.loop-index.index ≡ length c.args.needs.now.funcs = omega arith in
    ap length (all_told c.in_ok-origins.origins.items c.args.needs.now c.loop-index.index c.loop-index.facts.items c.loop-index.invariant whole) ∙ (length_told _ _ c.args.needs.now ∙ c.requires)
