use Rattle.std.proofs.Common.{◌≡◌, ◌++◌, ℕ, List, flat_map, ap, ◌∙◌}
use Rattle.monitor_model.specs.declared.tables.CompRecord.{CompRecord}
use Rattle.monitor_model.specs.declared.tables.SiteRecord.{SiteRecord}
use Rattle.monitor_model.specs.declared.tables.TargetRecord.{TargetRecord}
use Rattle.monitor_model.specs.declared.tables.InitRecord.{InitRecord}
use Rattle.monitor_model.specs.Area as areas
use Rattle.image_linker.proofs.Bytes.{put_behind}
use Rattle.image_linker.proofs.flash.put_area.Goals as goal

pub returns : goal.returns
returns c =
    let t = c.args.t.now in
    let w0 = c.args.words.now.items in
    let w1 = c.put_head.new.words.items in
    let w2 = c.put_compartments.new.words.items in
    let w3 = c.put_sites.new.words.items in
    let w4 = c.put_targets.new.words.items in
    let w5 = c.extend_from_slice.new.self.items in
    let w6 = c.put_inits.new.words.items in
    let comps = flat_map areas.compartment_words t.comps in
    let sites = flat_map areas.site_words t.sites in
    let targets = flat_map areas.target_words t.targets in
    let inits = flat_map areas.init_words t.inits in
    let e2 : w2 ≡ w1 ++ comps = c.in_ok-put_compartments.ensures ∙ ap (λ (xs : List CompRecord). w1 ++ flat_map areas.compartment_words xs) c.as_slice.ensures in
    let e3 : w3 ≡ w2 ++ sites = c.in_ok-put_sites.ensures ∙ ap (λ (xs : List SiteRecord). w2 ++ flat_map areas.site_words xs) c.as_slice-2.ensures in
    let e4 : w4 ≡ w3 ++ targets = c.in_ok-put_targets.ensures ∙ ap (λ (xs : List TargetRecord). w3 ++ flat_map areas.target_words xs) c.as_slice-3.ensures in
    let e5 : w5 ≡ w4 ++ t.lends = c.in_ok-extend_from_slice.ensures.items ∙ ap (λ (xs : List ℕ). w4 ++ xs) c.as_slice-4.ensures in
    let e6 : w6 ≡ w5 ++ inits = c.in_ok-put_inits.ensures ∙ ap (λ (xs : List InitRecord). w5 ++ flat_map areas.init_words xs) c.as_slice-5.ensures in
    let chain : w6 ++ c.as_slice-6.result.now ≡ w0 ++ areas.area t =
    ap (λ (xs : List ℕ). w6 ++ xs) c.as_slice-6.ensures
    ∙ put_behind w5 w6 inits t.words e6
    ∙ put_behind w4 w5 t.lends (inits ++ t.words) e5
    ∙ put_behind w3 w4 targets (t.lends ++ (inits ++ t.words)) e4
    ∙ put_behind w2 w3 sites (targets ++ (t.lends ++ (inits ++ t.words))) e3
    ∙ put_behind w1 w2 comps (sites ++ (targets ++ (t.lends ++ (inits ++ t.words)))) e2
    ∙ put_behind w0 w1 (areas.head t) (comps ++ (sites ++ (targets ++ (t.lends ++ (inits ++ t.words))))) c.in_ok-put_head.ensures in
    c.in_ok-extend_from_slice-2.ensures.items ∙ chain
