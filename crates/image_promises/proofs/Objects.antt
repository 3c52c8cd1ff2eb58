-- The cells of several objects that lie at given places, object by object.
use Rattle.std.proofs.Common.{◌≡◌, ℕ, suc, ◌<◌, ◌≤◌, ◌+◌, inl, List, [], ◌∷◌, ◌++◌, length, get_or, refl, subst, arith}
use Rattle.ir_model.specs.Types.{width_of}
use Rattle.ir_model.specs.Layout.{CellPlace, Shape, empty}
use Rattle.ir_laws.specs.Laws.{IsLaidOut}
use Rattle.ir_laws.proofs.Layouts.{positive_width, last_end}
use Rattle.refine.specs.Areas.{Area, Beside, Laid}
use Rattle.base_laws.specs.Lists.{Each}
use Rattle.refine.specs.Relation.{cells_at, objects_at}
use Rattle.base_laws.proofs.Lists.{each_both, each_to}

-- ---- lists of areas

-- of two lists, each of the one keeps off each of the other
laid_behind : (cs ds : List Area) → Laid cs → Laid ds → Each (λ c. Each (Beside c) ds) cs → Laid (cs ++ ds)
laid_behind [] ds l m e = m
laid_behind (c ∷ cs) ds l m e = (each_both (Beside c) cs ds l.0 e.0, laid_behind cs ds l.1 m e.1)

-- ---- one object

-- a cell of an object of so many bytes from an offset on, of which none is empty
pub record IsIn (from size : ℕ) (c : Area) : Type 0 where
  pub low : from ≤ c.at
  pub high : c.at + c.width ≤ from + size
  pub some : 0 < c.width

cells_in : (o from to : ℕ) (cs : List CellPlace) → IsLaidOut from to cs → Each (λ (c : Area). (o + from ≤ c.at) × (c.at + c.width ≤ o + to) × (0 < c.width)) (cells_at o cs)
cells_in o from to [] h = tt
cells_in o from to (c ∷ cs) h =
    let start = h.0 in
    let rest = cells_in o (c.at + width_of c.ty) to cs h.1 in
    let room = last_end (c.at + width_of c.ty) to cs h.1 in
    let some = positive_width c.ty in (
      (omega (arith, start), omega (arith, room), some),
      each_to (λ (d : Area). (o + (c.at + width_of c.ty) ≤ d.at) × (d.at + d.width ≤ o + to) × (0 < d.width)) (λ (d : Area). (o + from ≤ d.at) × (d.at + d.width ≤ o + to) × (0 < d.width)) (cells_at o cs)
          (λ d i. let low = i.0 in (omega (arith, low, start), i.1, i.2)) rest,
    )

pub cells_inside : (o size : ℕ) (cs : List CellPlace) → IsLaidOut 0 size cs → Each (IsIn o size) (cells_at o cs)
cells_inside o size cs h =
    each_to (λ (c : Area). (o + 0 ≤ c.at) × (c.at + c.width ≤ o + size) × (0 < c.width)) (IsIn o size) (cells_at o cs)
    (λ c i. let low = i.0 in record { low = omega (arith, low); high = i.1; some = i.2 }) (cells_in o 0 size cs h)

pub cells_laid : (o from to : ℕ) (cs : List CellPlace) → IsLaidOut from to cs → Laid (cells_at o cs)
cells_laid o from to [] h = tt
cells_laid o from to (c ∷ cs) h = (
  each_to (λ (d : Area). (o + (c.at + width_of c.ty) ≤ d.at) × (d.at + d.width ≤ o + to) × (0 < d.width)) (Beside (record { at = o + c.at; width = width_of c.ty })) (cells_at o cs)
      (λ d i. let low = i.0 in inl (omega (arith, low))) (cells_in o (c.at + width_of c.ty) to cs h.1),
  cells_laid o (c.at + width_of c.ty) to cs h.1,
)

-- ---- objects

-- what holds of each cell of each object
pub each_object : (P : Area → Type 0) (ss : List ℕ) (hs : List Shape)
    → ((x : ℕ) → x < length ss → x < length hs → Each P (cells_at (0 + get_or ss x 0) (get_or hs x empty).cells)) → Each P (objects_at 0 ss hs)
each_object P [] hs e = tt
each_object P (s ∷ ss) [] e = tt
each_object P (s ∷ ss) (h ∷ hs) e =
    each_both P (cells_at (0 + s) h.cells) (objects_at 0 ss hs) (e 0 (omega arith) (omega arith)) (each_object P ss hs (λ x l m. e (suc x) (omega arith) (omega arith)))

-- one of a list of areas
data Among (c : Area) : List Area → Type 0 where
  here : {d : Area} {ds : List Area} → d ≡ c → Among c (d ∷ ds)
  later : {d : Area} {ds : List Area} → Among c ds → Among c (d ∷ ds)

each_among : (P : Area → Type 0) (cs : List Area) → ((c : Area) → Among c cs → P c) → Each P cs
each_among P [] h = tt
each_among P (c ∷ cs) h = (h c (here refl), each_among P cs (λ d i. h d (later i)))

among_each : (P : Area → Type 0) (cs : List Area) → Each P cs → (c : Area) → Among c cs → P c
among_each P [] e c i = elim i [ ]
among_each P (d ∷ cs) e c (here q) = subst P q e.0
among_each P (d ∷ cs) e c (later i) = among_each P cs e.1 c i

-- cells of objects are apart where those of each are, and those of each two
pub objects_laid : (ss : List ℕ) (hs : List Shape)
    → ((x : ℕ) → x < length ss → x < length hs → Laid (cells_at (0 + get_or ss x 0) (get_or hs x empty).cells))
    → ((x y : ℕ) → x < y → y < length ss → y < length hs
    → Each (λ c. Each (Beside c) (cells_at (0 + get_or ss y 0) (get_or hs y empty).cells)) (cells_at (0 + get_or ss x 0) (get_or hs x empty).cells))
    → Laid (objects_at 0 ss hs)
objects_laid [] hs l a = tt
objects_laid (s ∷ ss) [] l a = tt
objects_laid (s ∷ ss) (h ∷ hs) l a =
    laid_behind (cells_at (0 + s) h.cells) (objects_at 0 ss hs) (l 0 (omega arith) (omega arith))
    (objects_laid ss hs (λ x i j. l (suc x) (omega arith) (omega arith)) (λ x y lt i j. a (suc x) (suc y) (omega arith) (omega arith) (omega arith)))
    (each_among (λ c. Each (Beside c) (objects_at 0 ss hs)) (cells_at (0 + s) h.cells)
    (λ c i. each_object (Beside c) ss hs
    (λ y j k. among_each (λ d. Each (Beside d) (cells_at (0 + get_or ss y 0) (get_or hs y empty).cells)) (cells_at (0 + s) h.cells) (a 0 (suc y) (omega arith) (omega arith) (omega arith)) c i)))
