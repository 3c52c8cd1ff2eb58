use Rattle.std.proofs.Common.{◌≡◌, ◌∙◌, ℕ, refl, subst}
use Rattle.ir_model.specs.declared.check.CheckKind.{CheckKind}
use Rattle.ir_model.specs.declared.check.CheckPlace.{CheckPlace}
use Rattle.ir_model.specs.Plain.{PlainFirmware, firmware_of}
use Rattle.ir_text_places.specs.Items.{tokens_before}
use Rattle.ir_text_places.specs.Faulty.{item_at, item_of}
use Rattle.ir_text_places.specs.Stands.{Stands}
use Rattle.ir_text_places.proofs.place.item_place.Goals as goal

item_is : (w : PlainFirmware) (k : CheckKind) (p : CheckPlace) → tokens_before w (item_at w k p) ≡ tokens_before w (item_of w (record { kind = k; place = p }))
unfolding item_of
item_is w k p = refl

pub returns : goal.returns
returns c =
    let w : PlainFirmware = firmware_of c.args.firmware.now in
    let s = c.token_place.ensures w c.requires.text in
    subst (λ (k : ℕ). Stands w c.args.text.now k c.token_place.result) (c.in_ok-before.ensures ∙ item_is w c.args.kind.now c.args.place.now) s
