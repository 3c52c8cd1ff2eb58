use Rattle.std.proofs.Common.{◌+◌, ℕ, ◌∷◌, get_or, ap, sym, ◌∙◌}
use Rattle.std.proofs.lemmas.List.{get_or_default}
use Rattle.machine_protection.specs.declared.region.Region.{Region}
use Rattle.machine_protection.specs.declared.words.Rights.TheVariants.{Background}
use Rattle.image_blocks.specs.declared.slots.SlotUse.{SlotUse}
use Rattle.image_blocks.specs.Uses.{slots_left}
use Rattle.image_blocks.proofs.SlotLists.{used_next, free_next}
use Rattle.image_blocks.proofs.slots.slot_at.Goals as goal

pub returns-then-place-uses : goal.returns-then-place-uses
returns-then-place-uses c = λ count lt.
    let r : ℕ → Region = λ n. record { rbar = 16 + n; rasr = 0 } in
    free_next c.args.k count c.args.uses.now lt c.if-place-uses.true ∙ ap (λ n. r n ∷ slots_left (c.args.k + 1) count c.args.uses.now) (sym c.from.ensures)

pub returns : goal.returns
returns c = λ count lt.
    let us = c.args.uses.now in
    let k = c.args.k in
    let nothing : SlotUse = record { base = 0; size = 0; srd = 0; rights = Background } in
    let u = get_or us k nothing in
    let is = get_or_default us k nothing u c.if-place-uses.false in
    used_next k count us u lt c.if-place-uses.false is ∙ ap (λ (g : Region). g ∷ slots_left (k + 1) count us) (sym c.in_ok-words.ensures)
