-- A function's frame as it is laid out: its areas lie apart and inside.
use Rattle.std.proofs.Common.{◌≡◌, ℕ, zero, suc, ◌+◌, ◌*◌, ◌≤◌, List, [], ◌∷◌, ◌++◌, subst, arith, inl, inr}
use Rattle.ir_model.specs.Types.{width_of}
use Rattle.ir_model.specs.Layout.{CellPlace, Shape}
use Rattle.ir_laws.specs.Laws.{IsLaidOut}
use Rattle.refine.specs.Areas.{Area, Beside, Laid, Inside, Off}
use Rattle.base_laws.specs.Lists.{Each}
use Rattle.base_laws.proofs.Lists.{each_both, each_to}
use Rattle.refine.proofs.Areas.{laid_join}
use Rattle.refine.specs.Relation.{homes, cells_at, objects_at}

-- rows of cells one behind the other, each inside its size behind its start
abbrev pub Rows : (from to : ℕ) → (starts sizes : List ℕ) → List Shape → Type 0
Rows from to [] [] [] = from ≤ to
Rows from to (s ∷ ss) (z ∷ zs) (h ∷ hs) = (from ≤ s) × IsLaidOut 0 z h.cells × Rows (s + z) to ss zs hs
Rows from to _ _ _ = ⊥

record Lies (lo hi : ℕ) (cs : List Area) : Type 0 where
  laid : Laid cs
  inside : Each (Inside lo hi) cs
  order : lo ≤ hi

cells_lie : (o from to : ℕ) (cs : List CellPlace) → IsLaidOut from to cs → Lies (o + from) (o + to) (cells_at o cs)
cells_lie o from to [] l = record { laid = tt; inside = tt; order = omega arith }
cells_lie o from to (c ∷ cs) l =
    let r = cells_lie o (c.at + width_of c.ty) to cs l.1 in
    let f = l.0 in
    let h = r.order in
    record {
      laid = (each_to (Inside (o + (c.at + width_of c.ty)) (o + to)) (Beside (record { at = o + c.at; width = width_of c.ty })) (cells_at o cs) (λ d i. inl (omega (arith, i.0))) r.inside, r.laid);
      inside = ((omega arith, omega arith), each_to (Inside (o + (c.at + width_of c.ty)) (o + to)) (Inside (o + from) (o + to)) (cells_at o cs) (λ d i. (omega (arith, i.0), i.1)) r.inside);
      order = omega arith;
    }

both : (lo mid hi : ℕ) (cs ds : List Area) → Lies lo mid cs → Lies mid hi ds → Lies lo hi (cs ++ ds)
both lo mid hi cs ds a b =
    let p = a.order in
    let q = b.order in
    record {
      laid = laid_join lo mid cs ds a.laid b.laid a.inside (each_to (Inside mid hi) (Off lo mid) ds (λ d i. inr i.0) b.inside);
      inside = each_both (Inside lo hi) cs ds (each_to (Inside lo mid) (Inside lo hi) cs (λ d i. (i.0, omega (arith, i.1))) a.inside) (each_to (Inside mid hi) (Inside lo hi) ds (λ d i. (omega (arith, i.0), i.1)) b.inside);
      order = omega arith;
    }

wider : (lo lo2 hi : ℕ) (cs : List Area) → lo ≤ lo2 → Lies lo2 hi cs → Lies lo hi cs
wider lo lo2 hi cs l a = let p = a.order in record { laid = a.laid; inside = each_to (Inside lo2 hi) (Inside lo hi) cs (λ d i. (omega (arith, i.0), i.1)) a.inside; order = omega arith }

objects_lie : (o from to : ℕ) (ss zs : List ℕ) (css : List Shape) → Rows from to ss zs css → Lies (o + from) (o + to) (objects_at o ss css)
objects_lie o from to [] [] [] r = record { laid = tt; inside = tt; order = omega arith }
objects_lie o from to [] [] (cs ∷ css) r = absurd r
objects_lie o from to [] (z ∷ zs) css r = absurd r
objects_lie o from to (s ∷ ss) [] css r = absurd r
objects_lie o from to (s ∷ ss) (z ∷ zs) [] r = absurd r
objects_lie o from to (s ∷ ss) (z ∷ zs) (cs ∷ css) r =
    let a = cells_lie (o + s) 0 z cs.cells r.1 in
    let b = objects_lie o (s + z) to ss zs css r.2 in
    let p : o + (s + z) ≡ o + s + z = omega arith in
    let f = r.0 in
    wider (o + from) (o + s + 0) (o + to) _ (omega arith) (both (o + s + 0) (o + s + z) (o + to) (cells_at (o + s) cs.cells) (objects_at o ss css) a (subst (λ (n : ℕ). Lies n (o + to) (objects_at o ss css)) p b))

homes_lie : (n o : ℕ) → Lies o (o + 4 * n) (homes o n)
homes_lie zero o = record { laid = tt; inside = tt; order = omega arith }
homes_lie (suc n) o =
    let r = homes_lie n (o + 4) in
    record {
      laid = (each_to (Inside (o + 4) (o + 4 + 4 * n)) (Beside (record { at = o; width = 4 })) (homes (o + 4) n) (λ d i. inl (omega (arith, i.0))) r.inside, r.laid);
      inside = ((omega arith, omega arith), each_to (Inside (o + 4) (o + 4 + 4 * n)) (Inside o (o + 4 * suc n)) (homes (o + 4) n) (λ d i. (omega (arith, i.0), omega (arith, i.1))) r.inside);
      order = omega arith;
    }

-- registers, locals, and the return address behind so many words
pub record FrameLies (o regs words : ℕ) (ss : List ℕ) (css : List Shape) : Type 0 where
  pub laid : Laid (homes o regs ++ (objects_at o ss css ++ record { at = o + 4 * words; width = 4 } ∷ []))
  pub inside : Each (Inside o (o + 4 * words + 4)) (homes o regs ++ (objects_at o ss css ++ record { at = o + 4 * words; width = 4 } ∷ []))
  pub locals_inside : Each (Inside (o + 4 * regs) (o + 4 * words)) (objects_at o ss css)

pub frame_lies : (o regs words : ℕ) (ss zs : List ℕ) (css : List Shape) → Rows (4 * regs) (4 * words) ss zs css → FrameLies o regs words ss css
frame_lies o regs words ss zs css r =
    let a = homes_lie regs o in
    let b = objects_lie o (4 * regs) (4 * words) ss zs css r in
    let q = b.order in
    let c : Lies (o + 4 * words) (o + 4 * words + 4) (record { at = o + 4 * words; width = 4 } ∷ []) = record { laid = (tt, tt); inside = ((omega arith, omega arith), tt); order = omega arith } in
    let d = both o (o + 4 * regs) (o + 4 * words + 4) (homes o regs) (objects_at o ss css ++ record { at = o + 4 * words; width = 4 } ∷ []) a
    (both (o + 4 * regs) (o + 4 * words) (o + 4 * words + 4) (objects_at o ss css) (record { at = o + 4 * words; width = 4 } ∷ []) b c) in
    record { laid = d.laid; inside = d.inside; locals_inside = b.inside }
