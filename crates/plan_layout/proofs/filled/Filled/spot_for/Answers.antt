use Rattle.std.proofs.Common.{◌≡◌, ◌<◌, true, List, length, get_or, Some, option_map, sym, ap, ◌∙◌, arith}
use Rattle.plan_model.specs.RamBlocks.{same_use}
use Rattle.plan_model.specs.RamPlacement.{PlacedBlock}
use Rattle.plan_layout.specs.declared.ram.Purpose.TheVariants.{Stack}
use Rattle.plan_layout.specs.declared.filled.Located.{Located}
use Rattle.plan_layout.specs.Filling.{use_seen, located_seen}
use Rattle.plan_layout.proofs.Searches.{find_here, find_none}
use Rattle.plan_layout.proofs.filled.Filled.spot_for.Goals as goal

abbrev nowhere : Located
nowhere = record { purpose = Stack; spot = record { base = 0; size = 0 } }

pub returns-then-is : goal.returns-then-is
returns-then-is c =
    let test = λ (b : PlacedBlock). same_use b.use_of (use_seen c.args.purpose) in
    let items = c.args.self.now.blocks.items in
    let i = c.loop-located.located-index in
    let e = c.deref-located-items.ensures.value in
    let there : i < length items = omega arith in
    let passes = λ (ls : List Located). same_use (use_seen (get_or ls i nowhere).purpose) (use_seen c.args.purpose) in
    let here : passes items ≡ true = ap passes (sym e) ∙ (sym c.is.ensures ∙ c.if-is.true) in
    let found = find_here located_seen test items i nowhere there (λ k l. c.loop-located.invariant k nowhere l) here in
    ap (λ (ls : List Located). Some (get_or ls i nowhere).spot) e ∙ sym (ap (option_map (λ (b : PlacedBlock). b.spot)) found)

pub returns : goal.returns
returns c =
    let test = λ (b : PlacedBlock). same_use b.use_of (use_seen c.args.purpose) in
    let items = c.args.self.now.blocks.items in
    let e = c.deref-located-items.ensures.value in
    let size = ap length e in
    sym (ap (option_map (λ (b : PlacedBlock). b.spot)) (find_none located_seen test items nowhere (λ k l. c.loop-located.invariant k nowhere (omega arith))))
