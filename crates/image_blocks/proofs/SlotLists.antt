-- Slots, one more.
use Rattle.std.proofs.Common.{◌≡◌, ℕ, suc, ◌+◌, ◌-◌, ◌<◌, ◌≤◌, List, ◌∷◌, length, map, drop, get_or, ap, sym, ◌∙◌, arith}
use Rattle.std.proofs.lemmas.List.{drop_more, drop_all}
use Rattle.machine_protection.specs.RegionWords.{region_of}
use Rattle.plan_model.specs.Slots as slots
use Rattle.image_blocks.specs.declared.slots.SlotUse.{SlotUse}
use Rattle.image_blocks.specs.Uses.{use_of, slots_left}

-- a slot with a use
pub used_next : (k count : ℕ) (us : List SlotUse) (u : SlotUse) → k < count → k < length us → u ≡ get_or us k u →
    slots_left k count us ≡ region_of (4 + k) u.base u.size u.srd u.rights ∷ slots_left (k + 1) count us
used_next k count us u lt there is =
    let e : count - k ≡ suc (count - (k + 1)) = omega (arith, lt) in
    let n : suc (4 + k) ≡ 4 + (k + 1) = omega arith in
    ap (λ m. slots.slots_from (4 + k) m (map use_of (drop k us))) e
    ∙ ap (λ xs. slots.slots_from (4 + k) (suc (count - (k + 1))) (map use_of xs)) (drop_more us k u there)
    ∙ ap (λ (x : SlotUse). region_of (4 + k) x.base x.size x.srd x.rights ∷ slots.slots_from (suc (4 + k)) (count - (k + 1)) (map use_of (drop (k + 1) us))) (sym is)
    ∙ ap (λ m. region_of (4 + k) u.base u.size u.srd u.rights ∷ slots.slots_from m (count - (k + 1)) (map use_of (drop (k + 1) us))) n

-- a free one
pub free_next : (k count : ℕ) (us : List SlotUse) → k < count → length us ≤ k → slots_left k count us ≡ slots.free_slot (4 + k) ∷ slots_left (k + 1) count us
free_next k count us lt le =
    let e : count - k ≡ suc (count - (k + 1)) = omega (arith, lt) in
    let n : suc (4 + k) ≡ 4 + (k + 1) = omega arith in
    ap (λ m. slots.slots_from (4 + k) m (map use_of (drop k us))) e
    ∙ ap (λ xs. slots.slots_from (4 + k) (suc (count - (k + 1))) (map use_of xs)) (drop_all k us le)
    ∙ ap (λ xs. slots.free_slot (4 + k) ∷ slots.slots_from (suc (4 + k)) (count - (k + 1)) (map use_of xs)) (sym (drop_all (k + 1) us (omega (arith, le))))
    ∙ ap (λ m. slots.free_slot (4 + k) ∷ slots.slots_from m (count - (k + 1)) (map use_of (drop (k + 1) us))) n
