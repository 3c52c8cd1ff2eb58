-- A check that goes from slot to slot: where one passes, what is left decides.
use Rattle.std.proofs.Common.{◌≡◌, ℕ, suc, ◌+◌, ◌<◌, Bool, true, ◌&&◌, List, length, drop, get_or, sym, ap, ◌∙◌, arith}
use Rattle.std.proofs.lemmas.List.{at_drop_more}
use Rattle.machine_protection.specs.declared.region.Region.{Region}
use Rattle.machine_devices.specs.declared.image.Image.{Image}
use Rattle.monitor_model.specs.declared.tables.Tables.{Tables}
use Rattle.monitor_model.specs.RegionChecks.{is_slot, are_slots}

pub slot_passes : (i : Image) (t : Tables) (gs : List Region) (k : ℕ) (d : Region) → k < length gs → is_slot i t (4 + k) (get_or gs k d) ≡ true
    → are_slots i t (4 + (k + 1)) (drop (k + 1) gs) ≡ are_slots i t (4 + k) (drop k gs)
slot_passes i t gs k d lt e =
    let s : 4 + (k + 1) ≡ suc (4 + k) = omega arith in
    let f : Bool → Bool = λ b. b && are_slots i t (suc (4 + k)) (drop (k + 1) gs) in
    ap (λ m. are_slots i t m (drop (k + 1) gs)) s ∙ sym (at_drop_more (are_slots i t (4 + k)) gs k d lt ∙ ap f e)
