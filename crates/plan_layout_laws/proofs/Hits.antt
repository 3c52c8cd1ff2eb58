-- How often an address lies in ranges.
use Rattle.std.proofs.Common.{◌≡◌, ℕ, zero, suc, ◌+◌, ◌*◌, ◌/◌, ◌<◌, ◌≤◌, Bool, true, false, ◌&&◌, cond, List, [], ◌∷◌, ◌++◌, length, get_or, set, nat_lt, refl, ap, ◌∙◌, lt-ltb, le-ltb, arith}
use Rattle.std.proofs.Math.Nat.{mul-le-mul_left}
use Rattle.std.proofs.lemmas.Bool.{cases_lt, and_parts, ltb-true}
use mathlib.Core.Logic.{⊎_elim}
use Rattle.plan_model.specs.Blocks.{has_eighths, open_eighths}
use Rattle.plan_model.specs.RamBlocks.{RamBlock, holds_globals}
use Rattle.plan_model.specs.RamPlacement.{Tail, tail_of}

-- ---- one range

pub hit : (from to x : ℕ) → ℕ
hit from to x = cond (nat_lt x from) 0 (cond (nat_lt x to) 1 0)

pub hit_inside : (from to x : ℕ) → from ≤ x → x < to → hit from to x ≡ 1
unfolding hit
hit_inside from to x l h = ap (λ b. cond b 0 (cond (nat_lt x to) 1 0)) (le-ltb x from l) ∙ ap (λ b. cond b 1 0) (lt-ltb x to h)

pub hit_below : (from to x : ℕ) → x < from → hit from to x ≡ 0
unfolding hit
hit_below from to x l = ap (λ b. cond b 0 (cond (nat_lt x to) 1 0)) (lt-ltb x from l)

pub hit_above : (from to x : ℕ) → to ≤ x → hit from to x ≡ 0
unfolding hit
hit_above from to x l = ⊎_elim (λ h. hit_below from to x h) (λ h. high h) (cases_lt x from)
  where
    high : from ≤ x → hit from to x ≡ 0
    high h = ap (λ b. cond b 0 (cond (nat_lt x to) 1 0)) (le-ltb x from h) ∙ ap (λ b. cond b 1 0) (le-ltb x to l)

pub hit_once : (from to x : ℕ) → hit from to x ≤ 1
hit_once from to x =
    ⊎_elim (λ h. let e = hit_below from to x h in omega arith)
    (λ l. ⊎_elim (λ h. let e = hit_inside from to x l h in omega arith) (λ h. let e = hit_above from to x h in omega arith) (cases_lt x to))
    (cases_lt x from)

-- two that stand one behind the other
pub hit_joined : (from mid to x : ℕ) → from ≤ mid → mid ≤ to → hit from mid x + hit mid to x ≡ hit from to x
hit_joined from mid to x l h =
    ⊎_elim (λ b. let e = hit_below from mid x b in let f = hit_below mid to x (omega arith) in let g = hit_below from to x b in omega arith)
    (λ a. ⊎_elim
    (λ b. let e = hit_inside from mid x a b in let f = hit_below mid to x b in let g = hit_inside from to x a (omega arith) in omega arith)
    (λ c. ⊎_elim
    (λ b. let e = hit_above from mid x c in let f = hit_inside mid to x c b in let g = hit_inside from to x a b in omega arith)
    (λ d. let e = hit_above from mid x c in let f = hit_above mid to x d in let g = hit_above from to x d in omega arith)
    (cases_lt x to))
    (cases_lt x mid))
    (cases_lt x from)

-- a range that begins later
pub hit_later : (from later to x : ℕ) → from ≤ later → hit later to x ≤ hit from to x
hit_later from later to x l =
    ⊎_elim (λ b. let e = hit_below later to x b in omega arith)
    (λ a. ⊎_elim
    (λ b. let e = hit_inside later to x a b in let f = hit_inside from to x (omega arith) b in omega arith)
    (λ c. let e = hit_above later to x c in omega arith)
    (cases_lt x to))
    (cases_lt x later)

-- ---- tails

abbrev pub tails_hit : List Tail → (x : ℕ) → ℕ
tails_hit [] x = 0
tails_hit (t ∷ ts) x = hit t.from t.to x + tails_hit ts x

pub tails_joined : (ts us : List Tail) (x : ℕ) → tails_hit (ts ++ us) x ≡ tails_hit ts x + tails_hit us x
tails_joined [] us x = omega arith
tails_joined (t ∷ ts) us x = let ih = tails_joined ts us x in omega arith

pub tails_set : (ts : List Tail) (k : ℕ) (t d : Tail) (x : ℕ) → k < length ts
    → tails_hit (set ts k t) x + hit (get_or ts k d).from (get_or ts k d).to x ≡ tails_hit ts x + hit t.from t.to x
tails_set [] k t d x l = absurd (omega arith)
tails_set (u ∷ ts) zero t d x l = omega arith
tails_set (u ∷ ts) (suc k) t d x l = let ih = tails_set ts k t d x (omega arith) in omega arith

-- ---- blocks: what they hold, and their own tails

abbrev pub has_tail : RamBlock → Bool
has_tail b = holds_globals b.use_of && (has_eighths b.size && nat_lt (open_eighths b.size b.bytes) 8)

-- the bytes of a block that are not its tail's
abbrev pub held : RamBlock → ℕ
held b = cond (has_tail b) (b.size / 8 * open_eighths b.size b.bytes) b.size

open_few : (b : RamBlock) → has_tail b ≡ true → open_eighths b.size b.bytes ≤ 8
open_few b e =
    let (g, h) = and_parts (holds_globals b.use_of) (has_eighths b.size && nat_lt (open_eighths b.size b.bytes) 8) e in
    let (i, j) = and_parts (has_eighths b.size) (nat_lt (open_eighths b.size b.bytes) 8) h in
    let l = ltb-true (open_eighths b.size b.bytes) 8 j in
    omega arith

pub block_hit : (base : ℕ) (b : RamBlock) (x : ℕ) → tails_hit (tail_of base b) x + hit base (base + held b) x ≡ hit base (base + b.size) x
block_hit base b x = by (has_tail b) refl
  where
    by : (c : Bool) → has_tail b ≡ c
        → tails_hit (cond c (record { from = base + b.size / 8 * open_eighths b.size b.bytes; to = base + b.size } ∷ []) []) x + hit base (base + cond c (b.size / 8 * open_eighths b.size b.bytes) b.size) x
        ≡ hit base (base + b.size) x
    by true e =
        let few = open_few b e in
        let le = mul-le-mul_left (b.size / 8) few in
        let split = hit_joined base (base + b.size / 8 * open_eighths b.size b.bytes) (base + b.size) x (omega arith) (omega arith) in
        omega arith
    by false e = omega arith
