-- What the parts of an image are, by the definitions of the lines.
use Rattle.std.proofs.Common.{◌≡◌, ℕ, ◌+◌, List, [], ◌∷◌, length, map, get_or, ap, refl, ◌∙◌}
use Rattle.ir_model.specs.Resolved.{Program, NumberedFunc, func_at}
use Rattle.plan_model.specs.declared.needs.SiteNeed.{SiteNeed}
use Rattle.plan_model.specs.declared.needs.Needs.{Needs}
use Rattle.plan_model.specs.declared.graph.Final.{Final}
use Rattle.plan_model.specs.declared.plan.Plan.{Plan}
use Rattle.plan_model.specs.declared.plan.Board.{Board}
use Rattle.plan_model.specs.Crossing.{crossing_sites}
use Rattle.plan_model.specs.Lending.{lent}
use Rattle.code_model.specs.FrameShape.{local_starts}
use Rattle.code_model.specs.Places.{lends_among}
use Rattle.code_model.specs.Sizes.{place_offset}
use Rattle.code_model.specs.FunctionCode as code
use Rattle.code_model.specs.CompartmentCode.{CodeGroups, size_of}
use Rattle.code_model.specs.Planned.{code_groups}
use Rattle.monitor_model.specs.declared.tables.SiteRecord.{SiteRecord}
use Rattle.image_model.specs.LinkedTables.{planned_places, return_address, site_records, tables_of}
use Rattle.image_entries.specs.Grouped.{HasEachLend, groups_in}
use Rattle.image_linker.specs.declared.linking.LinkParts.{LinkParts}
use Rattle.image_linker.specs.LinkParts.{AreLinkParts}
use Rattle.image_linker.proofs.Linked.{each_lend}
use Rattle.image_linker.proofs.Placed.{groups_made}
use Rattle.image_symbols.specs.declared.rising.Lying.{Lying}

-- a thing of this number, by the addresses of all
abbrev pub lying_at : (addresses : List ℕ) → (number : ℕ) → Lying
lying_at as_ k = record { number = k; address = get_or as_ k 0 }

module _ (p : Program) (n : Needs) (f : Final) (l : Plan) (b : Board) (x : LinkParts) (are : AreLinkParts p n f l b x) where
  -- a number, or none, for each local
  pub lends_made : HasEachLend p x.numbers
  lends_made = each_lend p (crossing_sites n f.groups) (lent n f.groups) x.numbers are.numbers

  -- the bytes of a function
  pub size_made : (size func : ℕ) → ((cs : List ℕ) → size ≡ size_of p (groups_in cs x.numbers) func) → size ≡ size_of p (code_groups p n f.groups) func
  size_made size func h = h f.groups.of ∙ ap (λ gs. size_of p gs func) (groups_made p n f x.numbers are.numbers)

  -- how far behind its function's entry a place stands
  pub offset_made : (func block place : ℕ)
      → place_offset (func_at p func) (get_or x.numbers.sites func []) (length (lends_among (local_starts (func_at p func)) (get_or x.numbers.lends func []))) block place
      ≡ place_offset (func_at p func) (planned_places p n f l func).sites (code.lent (func_at p func) (planned_places p n f l func)) block place
  offset_made func block place =
      let g : NumberedFunc = func_at p func in
      let offset : CodeGroups → ℕ = λ gs. place_offset g (get_or gs.sites func []) (length (lends_among (local_starts g) (get_or gs.lends func []))) block place in
      ap offset (groups_made p n f x.numbers are.numbers)

  abbrev ret : SiteRecord → ℕ
  ret s = s.ret

  records_return : (k : ℕ) (ss : List SiteNeed) → map ret (site_records p n f l k ss) ≡ map (return_address p n f l) ss
  records_return k [] = refl
  records_return k (s ∷ ss) = ap (λ rs. return_address p n f l s ∷ rs) (records_return (k + length s.targets) ss)

  -- where the crossing sites return to
  pub returns_made : map ret x.tables.sites ≡ map (return_address p n f l) (crossing_sites n f.groups)
  unfolding tables_of
  returns_made = ap (λ t. map ret t.sites) are.tables ∙ records_return 0 (crossing_sites n f.groups)
