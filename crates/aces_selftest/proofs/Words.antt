-- The initial words of an image are few.
use Rattle.std.proofs.Common.{ℕ, ◌+◌, ◌≤◌, List, ◌++◌, length, flat_map, arith, length-append}
use Rattle.machine_devices.specs.declared.image.Image.{Image}
use Rattle.machine_devices.specs.Rules.{ObeysRules}
use Rattle.monitor_model.specs.declared.tables.Tables.{Tables}
use Rattle.monitor_model.specs.Area.{HasTables, area, head, compartment_words, site_words, target_words, init_words}

behind : (xs ys : List ℕ) (n : ℕ) → n ≤ length ys → n ≤ length (xs ++ ys)
behind xs ys n h = let e = length-append xs ys in omega (arith, e, h)

in_area : (t : Tables) → length t.words ≤ length (area t)
in_area t =
    behind (head t) _ _
    (behind (flat_map compartment_words t.comps) _ _
    (behind (flat_map site_words t.sites) _ _
    (behind (flat_map target_words t.targets) _ _
    (behind t.lends _ _
    (behind (flat_map init_words t.inits) t.words (length t.words) (omega arith))))))

-- they lie in flash, which has at most a MiB
pub few_words : (i : Image) (t : Tables) → ObeysRules i → HasTables i t → length t.words ≤ 0x100000
few_words i t rules h =
    let a = in_area t in
    let b = h.from_base in
    let c = h.inside in
    let d = rules.flash_most in
    omega (arith, a, b, c, d)
