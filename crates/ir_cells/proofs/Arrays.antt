-- The cell of an array at an offset, by the measure of its element.
use Rattle.std.proofs.Common.{◌≡◌, ℕ, ◌*◌, ◌/◌, ◌%◌, ◌^◌, ◌<◌, ◌≤◌, ◌⊎◌, inl, inr, [], length, refl, sym, ap, ◌∙◌, arith, None}
use Rattle.std.proofs.lemmas.Bool.{cases_lt}
use Rattle.std.proofs.lemmas.Nat.{div-add-mod'}
use Rattle.std.proofs.Math.Nat.{zero-mul, mul-le-mul_right}
use Rattle.ir_model.specs.Types.{PlainType}
use Rattle.ir_model.specs.Layout.{Shape, copies, array_of, cell_at}
use Rattle.ir_layouts.specs.declared.measure.Measure.{Measure}
use Rattle.ir_layouts.specs.Measures.{IsMeasure}
use Rattle.ir_layouts.proofs.Sizes.{Good}
use Rattle.ir_cells.proofs.Pieces.{further, cell_copies, cell_past_copies}
use Rattle.ir_layouts.proofs.Capped.{capped_small, capped_large}

no_multiple : (n s : ℕ) → s ≡ 0 → n * s ≡ 0
no_multiple n s e = grind arith

-- an element without bytes
pub number_nowhere : (n a : ℕ) (t : PlainType) (m : Measure) (s : Shape) → IsMeasure m s → Good s → m.size ≡ 0 → cell_at (array_of n s).cells a t ≡ None
number_nowhere n a t m s h g z = by_size (cases_lt s.size (2 ^ 32))
  where
    by_size : (s.size < 2 ^ 32) ⊎ (2 ^ 32 ≤ s.size) → cell_at (array_of n s).cells a t ≡ None
    by_size (inl l) =
        let e = capped_small s.size (omega arith) in
        let e2 : s.size ≡ 0 = sym e ∙ (sym h.0 ∙ z) in
        let p = no_multiple n s.size e2 in
        cell_past_copies n a s.size s.cells t g.inside (omega (arith, p))
    by_size (inr l) = let e = capped_large s.size l in let f : m.size ≡ 2 ^ 32 = h.0 ∙ e in absurd (omega (arith, f, z))

nothing : (a : ℕ) (t : PlainType) → cell_at [] a t ≡ None
unfolding cell_at
nothing a t = refl

-- an offset behind the last element
pub number_past : (n a place : ℕ) (t : PlainType) (m : Measure) (s : Shape) → IsMeasure m s → Good s → 0 < m.size → a < 2 ^ 32 → place ≡ a / m.size → n ≤ place
    → cell_at (array_of n s).cells a t ≡ None
number_past n a place t m s h g p b q l = by_size (cases_lt s.size (2 ^ 32))
  where
    by_size : (s.size < 2 ^ 32) ⊎ (2 ^ 32 ≤ s.size) → cell_at (array_of n s).cells a t ≡ None
    by_size (inl k) =
        let e : m.size ≡ s.size = h.0 ∙ capped_small s.size (omega arith) in
        let d = div-add-mod' a m.size in
        let f = mul-le-mul_right {m = n} {n = place} s.size l in
        let g2 : place * s.size ≡ a / m.size * m.size = cc in
        cell_past_copies n a s.size s.cells t g.inside (omega (arith, f, d, g2))
    by_size (inr k) =
        let e : m.size ≡ 2 ^ 32 = h.0 ∙ capped_large s.size k in
        let d : place ≡ 0 = q ∙ (ap (λ x. a / x) e ∙ omega arith) in
        let z : n ≡ 0 = omega arith in
        ap (λ x. cell_at (copies x 0 s.size s.cells) a t) z ∙ nothing a t

-- an element's cell
pub number_of_element : (n a place rest : ℕ) (t : PlainType) (m : Measure) (s : Shape) → IsMeasure m s → Good s → 0 < m.size → a < 2 ^ 32 → place ≡ a / m.size → rest ≡ a % m.size
    → place < n → cell_at (array_of n s).cells a t ≡ further (place * m.cells) (cell_at s.cells rest t)
number_of_element n a place rest t m s h g p b q r l = by_size (cases_lt s.size (2 ^ 32))
  where
    by_size : (s.size < 2 ^ 32) ⊎ (2 ^ 32 ≤ s.size) → cell_at (array_of n s).cells a t ≡ further (place * m.cells) (cell_at s.cells rest t)
    by_size (inl k) =
        let e : m.size ≡ s.size = h.0 ∙ capped_small s.size (omega arith) in
        let c : m.cells ≡ length s.cells = h.1.1 ∙ capped_small (length s.cells) (omega (arith, g.fewer)) in
        let d = div-add-mod' a m.size in
        let w : a % m.size < m.size = omega arith in
        let f : place * s.size ≡ a / m.size * m.size = cc in
        cell_copies n place 0 s.size rest a s.cells t g.inside (omega (arith, w, r, e)) l (omega (arith, d, f, r))
        ∙ ap (λ x. further (place * x) (cell_at s.cells rest t)) (sym c)
    by_size (inr k) =
        let e : m.size ≡ 2 ^ 32 = h.0 ∙ capped_large s.size k in
        let d : place ≡ 0 = q ∙ (ap (λ x. a / x) e ∙ omega arith) in
        let w : rest ≡ a = r ∙ (ap (λ x. a % x) e ∙ omega arith) in
        let u : place * s.size ≡ 0 = ap (λ x. x * s.size) d ∙ zero-mul s.size in
        let v : place * length s.cells ≡ place * m.cells = ap (λ x. x * length s.cells) d ∙ (zero-mul (length s.cells) ∙ (sym (zero-mul m.cells) ∙ ap (λ x. x * m.cells) (sym d))) in
        cell_copies n place 0 s.size rest a s.cells t g.inside (omega (arith, w, b, k)) l (omega (arith, u, w))
        ∙ ap (λ x. further x (cell_at s.cells rest t)) v
