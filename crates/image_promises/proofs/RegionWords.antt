-- The words of regions.
use Rattle.std.proofs.Common.{ℕ, zero, suc, ◌+◌, ◌-◌, ◌*◌, ◌^◌, ◌<◌, ◌≤◌, Bool, true, false, List, [], ◌∷◌, length, take, map, flat_map, cond, lit<, arith, pow_pos}
use Rattle.std.proofs.lemmas.Nat.{trailing_le}
use Rattle.std.proofs.lemmas.List.{length-map, length-take}
use Rattle.std.proofs.Math.Nat.{pow-suc}
use Rattle.std.proofs.Math.Pow.{pow_mono}
use Rattle.base_laws.specs.Lists.{Each}
use Rattle.machine_protection.specs.declared.words.Rights.{Rights}
use Rattle.machine_protection.specs.declared.words.Rights.TheVariants.{Background, Code, Stack, Ram, Device}
use Rattle.machine_protection.specs.RegionWords.{rights_word, region_of}
use Rattle.plan_model.specs.Blocks.{has_eighths, open_eighths, subregions_out}
use Rattle.plan_model.specs.declared.needs.Needs.{Needs}
use Rattle.plan_model.specs.InitialGraph.{number_of_bits, mask_where}
use Rattle.plan_model.specs.Slots.{SlotUse, slots_from}
use Rattle.monitor_model.specs.Area.{region_words}
use Rattle.image_promises.proofs.WordLists.{AreWords, both_words}

rights_at_most : (r : Rights) → rights_word r ≤ 0x13060001
rights_at_most Background = lit< tt
rights_at_most Code = lit< tt
rights_at_most Stack = omega arith
rights_at_most Ram = omega arith
rights_at_most Device = lit< tt

-- of a block below 2 ^ 31
pub region_fits : (slot base size srd : ℕ) (rights : Rights) → slot < 16 → base < 0x80000000 → srd < 256 → AreWords (region_words (region_of slot base size srd rights))
unfolding region_of
region_fits slot base size srd rights few low byte =
    let z = trailing_le 32 size in
    let r = rights_at_most rights in (omega (arith, few, low), (omega (arith, z, r, byte), tt))

pub out_is_byte : (size bytes : ℕ) → subregions_out size bytes < 256
unfolding subregions_out
out_is_byte size bytes = by (has_eighths size) (open_eighths size bytes)
  where
    by : (b : Bool) (n : ℕ) → cond b (2 ^ 8 - 2 ^ n) 0 < 256
    by true n = let q = pow_pos n in omega (arith, q)
    by false n = lit< tt

-- ---- slots

pub record IsLow (u : SlotUse) : Type 0 where
  pub base : u.base < 0x80000000
  pub byte : u.srd < 256

pub slots_fit : (n k : ℕ) (us : List SlotUse) → n + k ≤ 16 → Each IsLow us → AreWords (flat_map region_words (slots_from n k us))
slots_fit n zero us h e = tt
slots_fit n (suc k) [] h e = (omega (arith, h), (lit< tt, slots_fit (suc n) k [] (omega (arith, h)) tt))
slots_fit n (suc k) (u ∷ us) h e =
    let low = e.0 in
    both_words (region_words (region_of n u.base u.size u.srd u.rights)) (flat_map region_words (slots_from (suc n) k us))
    (region_fits n u.base u.size u.srd u.rights (omega (arith, h)) low.base low.byte) (slots_fit (suc n) k us (omega (arith, h)) e.1)

-- ---- masks

pub bits_below : (bs : List Bool) → number_of_bits bs < 2 ^ length bs
bits_below [] = lit< tt
bits_below (b ∷ bs) = by b (bits_below bs)
  where
    by : (b : Bool) → number_of_bits bs < 2 ^ length bs → cond b 1 0 + 2 * number_of_bits bs < 2 ^ suc (length bs)
    by true h = let e = pow-suc 2 (length bs) in omega (arith, e, h)
    by false h = let e = pow-suc 2 (length bs) in omega (arith, e, h)

pub mask_fits : (n : Needs) (does : ℕ × ℕ → Bool) → mask_where n does < 2 ^ 32
mask_fits n does =
    let h = bits_below (map does (take 32 n.lendable)) in
    let m = length-map (take 32 n.lendable) does in
    let t = length-take 32 n.lendable in
    let few : length (map does (take 32 n.lendable)) ≤ 32 = omega (arith, m, t) in
    let up = pow_mono {i = length (map does (take 32 n.lendable))} {j = 32} few in
    omega (arith, h, up)
