-- The areas of live frames: they lie apart, and out of the reach of what runs below them.
use Rattle.std.proofs.Common.{◌≡◌, ℕ, zero, suc, ◌+◌, ◌-◌, ◌*◌, ◌/◌, ◌%◌, ◌<◌, ◌≤◌, Bool, true, false, if◌then◌else◌, Option, Some, None, List, [], ◌∷◌, ◌++◌, length, map, get_or, set, refl, sym, ap, ◌∙◌, subst, arith, inl, inr, ⊎_elim, length-append}
use Rattle.std.proofs.Math.Nat.{div-mul-le_self}
use Rattle.std.proofs.lemmas.Bool.{cases_lt}
use Rattle.std.proofs.lemmas.List.{length-map, get_or-map}
use Rattle.base_words.specs.Bytes.{read, cut}
use Rattle.ir_model.specs.Types.{PlainType, width_of, is_integer}
use Rattle.ir_model.specs.Layout.{CellPlace, Shape, empty}
use Rattle.ir_model.specs.Resolve.{zero_of}
use Rattle.ir_model.specs.Resolved.{Value, Number, Null}
use Rattle.ir_model.specs.Signatures.{cell_in}
use Rattle.ir_model.specs.State.{Frame, entered, zero_cells, zero_local, frame_of}
use Rattle.ir_model.specs.Step.{with_register}
use Rattle.ir_laws.specs.Moves.{Where, wheres}
use Rattle.ir_laws.specs.States.{Alike}
use Rattle.ir_laws.proofs.Values.{entered_length}
use Rattle.monitor_model.specs.Setting.{Setting}
use Rattle.monitor_model.specs.Threads.{stack_end}
use Rattle.refine.specs.Areas.{Area, Laid, Has, IsAt, Inside, Off, IsWordIn}
use Rattle.base_laws.specs.Lists.{Each}
use Rattle.base_laws.proofs.Lists.{each_both, each_to, each_left, each_right}
use Rattle.refine.proofs.Areas.{laid_join, has_join, read_zero, cut_zero, spot_front, spot_back}
use Rattle.refine.proofs.Thread.{IsSafe}
use Rattle.refine.specs.Builds.{Build, func, words_at, starts_at}
use Rattle.refine.specs.Relation.{homes, cells_at, objects_at, own, word_of, words_of, object_words, site_of, waiting_by, areas, own_words, link, held, IsWhole, ceiling_by, AllFit}
use Rattle.refine.proofs.Facts.{GoodShape, Facts}

module _ (k : Build) (places : ℕ → ℕ) (facts : Facts k) where
  abbrev g : Setting
  g = k.setting

  -- what runs below the frames stays below this
  abbrev pub floor : List Where → ℕ
  floor [] = stack_end g
  floor (c ∷ rest) = places c.number

  -- a call across leaves room for an exception where a whole eighth of the stack is left
  pub crossing_room : (p : ℕ) → g.stack < g.stack + (p - 32 - g.stack) / g.eighth * g.eighth → g.stack + 32 ≤ p
  crossing_room p h = let d = div-mul-le_self (p - 32 - g.stack) g.eighth in omega arith

  rounded : (p : ℕ) → g.stack + 32 ≤ p → g.stack + (p - 32 - g.stack) / g.eighth * g.eighth + 32 ≤ p
  rounded p h = let d = div-mul-le_self (p - 32 - g.stack) g.eighth in omega arith

  under : (p : ℕ) → g.stack ≤ p → g.stack + (p - 32 - g.stack) / g.eighth * g.eighth ≤ p
  under p h = let d = div-mul-le_self (p - 32 - g.stack) g.eighth in omega arith

  pub ceiling_floor : (x : Option ℕ) (fs : List Where) → AllFit k places fs → ceiling_by k places x fs ≤ floor fs
  ceiling_floor x [] f = omega arith
  ceiling_floor None (c ∷ rest) f = omega arith
  ceiling_floor (Some s) (c ∷ rest) f = under (places c.number) f.0.room

  waiting_safe : (x : Option ℕ) (fs : List Where) (p : ℕ) → AllFit k places fs → g.stack < ceiling_by k places x fs → floor fs ≤ stack_end g → g.stack ≤ p → p ≤ ceiling_by k places x fs → Each (IsSafe g p) (waiting_by k places x fs)
  waiting_safe None fs p f so t l h = tt
  waiting_safe (Some s) [] p f so t l h = tt
  waiting_safe (Some s) (c ∷ rest) p f so t l h =
      let rm = crossing_room (places c.number) so in
      let r = rounded (places c.number) rm in
      let ap_ = facts.rules.apart in
      ((inr (omega arith), ⊎_elim (λ y. inr (omega arith)) (λ y. inl (omega arith)) ap_), ((inr (omega arith), ⊎_elim (λ y. inr (omega arith)) (λ y. inl (omega arith)) ap_), tt))

  pub lower_safe : (p q : ℕ) (cs : List Area) → p ≤ q → Each (IsSafe g q) cs → Each (IsSafe g p) cs
  lower_safe p q cs h e = each_to (IsSafe g q) (IsSafe g p) cs (λ c s. (⊎_elim (λ y. inl y) (λ y. inr (omega arith)) s.0, s.1)) e

  pub record Safe (fs : List Where) : Type 0 where
    pub inside : floor fs ≤ stack_end g
    pub each : Each (IsSafe g (floor fs)) (areas k places fs)

  pub safe : (fs : List Where) → AllFit k places fs → Safe fs
  safe [] f = record { inside = omega arith; each = facts.globals_off }
  safe (fr ∷ rest) f =
      let s = safe rest f.1 in
      let top = s.inside in
      let p : ℕ = places fr.number in
      let cf = ceiling_floor (site_of k rest) rest f.1 in
      let en = f.0.ends in
      let rm = f.0.room in
      let sh = facts.shapes fr.func in
      let ap_ = facts.rules.apart in
      record {
        inside = omega arith;
        each = each_both (IsSafe g p) (own k fr.func p) (waiting_by k places (site_of k rest) rest ++ areas k places rest)
            (each_to (Inside p (p + 4 * (words_at k fr.func) + 4)) (IsSafe g p) (own k fr.func p) (λ c i. (inr i.0, ⊎_elim (λ y. inr (omega (arith, i.0))) (λ y. inl (omega (arith, i.1))) ap_)) (sh.inside p))
            (each_both (IsSafe g p) (waiting_by k places (site_of k rest) rest) (areas k places rest)
            (waiting_safe (site_of k rest) rest p f.1 f.0.some top (omega arith) (omega arith))
            (lower_safe p (floor rest) (areas k places rest) (omega arith) s.each));
      }

  waiting_laid : (x : Option ℕ) (fs : List Where) → AllFit k places fs → g.stack < ceiling_by k places x fs → Laid (waiting_by k places x fs)
  waiting_laid None fs f so = tt
  waiting_laid (Some s) [] f so = tt
  waiting_laid (Some s) (c ∷ rest) f so = let r = crossing_room (places c.number) so in ((inl (omega arith), tt), (tt, tt))

  waiting_inside : (x : Option ℕ) (fs : List Where) → AllFit k places fs → g.stack < ceiling_by k places x fs → Each (Inside (ceiling_by k places x fs) (floor fs)) (waiting_by k places x fs)
  waiting_inside None fs f so = tt
  waiting_inside (Some s) [] f so = tt
  waiting_inside (Some s) (c ∷ rest) f so =
      let r = rounded (places c.number) (crossing_room (places c.number) so) in
      ((omega arith, omega arith), ((omega arith, omega arith), tt))

  off_of : (lo hi q : ℕ) (cs : List Area) → g.stack ≤ lo → hi ≤ q → Each (IsSafe g q) cs → Each (Off lo hi) cs
  off_of lo hi q cs l h e = each_to (IsSafe g q) (Off lo hi) cs (λ c s. ⊎_elim (λ y. inl (omega arith)) (λ y. inr (omega arith)) s.0) e

  -- all areas lie apart
  pub all_laid : (fs : List Where) → AllFit k places fs → Laid (areas k places fs)
  all_laid [] f = facts.globals_laid
  all_laid (fr ∷ rest) f =
      let s = safe rest f.1 in
      let p : ℕ = places fr.number in
      let x : Option ℕ = site_of k rest in
      let cf = ceiling_floor x rest f.1 in
      let en = f.0.ends in
      let rm = f.0.room in
      let so = f.0.some in
      let sh = facts.shapes fr.func in
      laid_join p (p + 4 * (words_at k fr.func) + 4) (own k fr.func p) (waiting_by k places x rest ++ areas k places rest) (sh.laid p)
      (laid_join (ceiling_by k places x rest) (floor rest) (waiting_by k places x rest) (areas k places rest) (waiting_laid x rest f.1 so) (all_laid rest f.1) (waiting_inside x rest f.1 so) (off_of (ceiling_by k places x rest) (floor rest) (floor rest) (areas k places rest) (omega arith) (omega arith) s.each))
      (sh.inside p)
      (each_both (Off p (p + 4 * (words_at k fr.func) + 4)) (waiting_by k places x rest) (areas k places rest)
      (each_to (Inside (ceiling_by k places x rest) (floor rest)) (Off p (p + 4 * (words_at k fr.func) + 4)) (waiting_by k places x rest) (λ c i. inr (omega (arith, i.0))) (waiting_inside x rest f.1 so))
      (off_of p (p + 4 * (words_at k fr.func) + 4) (floor rest) (areas k places rest) (omega arith) (omega arith) s.each))

-- ---- what a new frame holds

pub has_homes : (n o : ℕ) (ws ram : List ℕ) → length ws ≡ n → ((i : ℕ) → i < n → read 4 (o + 4 * i) ram ≡ cut 4 (get_or ws i 0)) → o + 4 * n ≤ length ram → Has ram (homes o n) ws
has_homes zero o [] ram l r h = tt
has_homes zero o (w ∷ ws) ram l r h = absurd (omega arith)
has_homes (suc n) o [] ram l r h = absurd (omega arith)
has_homes (suc n) o (w ∷ ws) ram l r h =
    let z : o + 4 * 0 ≡ o = omega arith in (
      ap (λ (a : ℕ). read 4 a ram) (sym z) ∙ r 0 (omega arith),
      omega arith,
      has_homes n (o + 4) ws ram (omega arith) (λ i u. let y : o + 4 + 4 * i ≡ o + 4 * suc i = omega arith in ap (λ (a : ℕ). read 4 a ram) y ∙ r (suc i) (omega arith)) (omega arith),
    )

byte_zero : (i a : ℕ) (m : List ℕ) → read 4 a m ≡ 0 → i < 4 → read 1 (a + i) m ≡ 0
unfolding read
byte_zero zero a m h l = let z : a + 0 ≡ a = omega arith in rw z (omega arith)
byte_zero (suc zero) a m h l = omega arith
byte_zero (suc (suc zero)) a m h l = let z : a + 2 ≡ a + 1 + 1 = omega arith in rw z (omega arith)
byte_zero (suc (suc (suc zero))) a m h l = let z : a + 3 ≡ a + 1 + 1 + 1 = omega arith in rw z (omega arith)
byte_zero (suc (suc (suc (suc i)))) a m h l = absurd (omega arith)

bytes_zero : (o n w i : ℕ) (m : List ℕ) → ((j : ℕ) → n ≤ j → j < w → read 4 (o + 4 * j) m ≡ 0) → o + 4 * n ≤ i → i < o + 4 * w → read 1 i m ≡ 0
bytes_zero o n w i m h l u =
    let j : ℕ = (i - o) / 4 in
    let b : ℕ = (i - o) % 4 in
    let e : o + 4 * j + b ≡ i = omega arith in
    let r = byte_zero b (o + 4 * j) m (h j (omega arith) (omega arith)) (omega arith) in
    rw e at r

module _ (k : Build) (places : ℕ → ℕ) where
  zero_word : (t : PlainType) → word_of k places (zero_of t) ≡ 0
  zero_word t = by (is_integer t)
    where
      by : (b : Bool) → word_of k places (if b then Number 0 else Null) ≡ 0
      by true = refl
      by false = refl

  has_zero_cells : (o lo hi : ℕ) (cs : List CellPlace) (ram : List ℕ) → Each (Inside lo hi) (cells_at o cs) → ((i : ℕ) → lo ≤ i → i < hi → read 1 i ram ≡ 0) → hi ≤ length ram → Has ram (cells_at o cs) (words_of k places (zero_cells cs))
  has_zero_cells o lo hi [] ram e z l = tt
  has_zero_cells o lo hi (c ∷ cs) ram e z l = (
    read_zero (width_of c.ty) (o + c.at) ram (λ i u. z (o + c.at + i) (omega (arith, e.0.0)) (omega (arith, e.0.1))) ∙ sym (cut_zero (width_of c.ty)) ∙ ap (λ (v : ℕ). cut (width_of c.ty) v) (sym (zero_word c.ty)),
    omega (arith, e.0.1),
    has_zero_cells o lo hi cs ram e.1 z l,
  )

  has_zero_objects : (o lo hi : ℕ) (ss : List ℕ) (css : List Shape) (ram : List ℕ) → length ss ≡ length css → Each (Inside lo hi) (objects_at o ss css) → ((i : ℕ) → lo ≤ i → i < hi → read 1 i ram ≡ 0) → hi ≤ length ram →
      Has ram (objects_at o ss css) (object_words k places (map zero_local css))
  has_zero_objects o lo hi [] [] ram n e z l = tt
  has_zero_objects o lo hi [] (cs ∷ css) ram n e z l = absurd (omega arith)
  has_zero_objects o lo hi (s ∷ ss) [] ram n e z l = absurd (omega arith)
  has_zero_objects o lo hi (s ∷ ss) (cs ∷ css) ram n e z l =
      has_join (cells_at (o + s) cs.cells) (objects_at o ss css) (words_of k places (zero_cells cs.cells)) (object_words k places (map zero_local css)) ram
      (has_zero_cells (o + s) lo hi cs.cells ram (each_left (Inside lo hi) (cells_at (o + s) cs.cells) (objects_at o ss css) e) z l)
      (has_zero_objects o lo hi ss css ram (omega arith) (each_right (Inside lo hi) (cells_at (o + s) cs.cells) (objects_at o ss css) e) z l)

  entered_left : (vs : List Value) (ts : List PlainType) (i : ℕ) → i < length vs → i < length ts → get_or (words_of k places (entered vs ts)) i 0 ≡ get_or (words_of k places vs) i 0
  entered_left [] ts i l u = absurd (omega arith)
  entered_left (v ∷ vs) [] i l u = absurd (omega arith)
  entered_left (v ∷ vs) (t ∷ ts) zero l u = refl
  entered_left (v ∷ vs) (t ∷ ts) (suc i) l u = entered_left vs ts i (omega arith) (omega arith)

  entered_right : (vs : List Value) (ts : List PlainType) (i : ℕ) → length vs ≤ i → get_or (words_of k places (entered vs ts)) i 0 ≡ 0
  entered_right vs [] i l = by vs
    where
      by : (vs : List Value) → get_or (words_of k places (entered vs [])) i 0 ≡ 0
      by [] = refl
      by (v ∷ vs) = refl
  entered_right [] (t ∷ ts) zero l = zero_word t
  entered_right [] (t ∷ ts) (suc i) l = entered_right [] ts i (omega arith)
  entered_right (v ∷ vs) (t ∷ ts) zero l = absurd (omega arith)
  entered_right (v ∷ vs) (t ∷ ts) (suc i) l = entered_right vs ts i (omega arith)

  -- a new frame
  pub own_has : (f o n : ℕ) (vs : List Value) (l : ℕ) (ram : List ℕ) → GoodShape k f → length vs ≡ n → n ≤ length (func k f).regs →
      ((i : ℕ) → i < n → read 4 (o + 4 * i) ram ≡ cut 4 (get_or (words_of k places vs) i 0)) → ((i : ℕ) → n ≤ i → i < (words_at k f) → read 4 (o + 4 * i) ram ≡ 0) → read 4 (o + 4 * (words_at k f)) ram ≡ cut 4 l →
      o + 4 * (words_at k f) + 4 ≤ length ram → Has ram (own k f o) (own_words k places (frame_of k.program f 0 vs) l)
  own_has f o n vs l ram sh ln few args zeros back fits =
      let ts : List PlainType = (func k f).regs in
      let w : ℕ = (words_at k f) in
      let ob = sh.registers in
      let lr : length (words_of k places (entered vs ts)) ≡ length ts = length-map (entered vs ts) (word_of k places) ∙ entered_length vs ts in
      let regs : Has ram (homes o (length ts)) (words_of k places (entered vs ts)) = has_homes (length ts) o (words_of k places (entered vs ts)) ram lr
      (λ i u. ⊎_elim
      (λ y. args i y ∙ ap (λ (v : ℕ). cut 4 v) (sym (entered_left vs ts i (omega arith) u)))
      (λ y. zeros i y (omega arith) ∙ sym (cut_zero 4) ∙ ap (λ (v : ℕ). cut 4 v) (sym (entered_right vs ts i (omega arith))))
      (cases_lt i n))
      (omega arith) in
      let locals = has_zero_objects o (o + 4 * length ts) (o + 4 * w) (starts_at k f) (func k f).locals ram sh.starts (sh.locals_inside o)
      (λ i a b. bytes_zero o (length ts) w i ram (λ j c d. zeros j (omega arith) d) a b) (omega arith) in
      has_join (homes o (length ts)) (objects_at o (starts_at k f) (func k f).locals ++ record { at = o + 4 * w; width = 4 } ∷ []) (words_of k places (entered vs ts)) (object_words k places (map zero_local (func k f).locals) ++ l ∷ []) ram regs
      (has_join (objects_at o (starts_at k f) (func k f).locals) (record { at = o + 4 * w; width = 4 } ∷ []) (object_words k places (map zero_local (func k f).locals)) (l ∷ []) ram locals (back, omega arith, tt))

-- ---- one register

home_spot : (n o r v : ℕ) (ws : List ℕ) → length ws ≡ n → r < n → IsWordIn (homes o n) ws (record { at = o + 4 * r; width = 4 }) (get_or ws r 0) v (set ws r v)
home_spot zero o r v ws l h = absurd (omega arith)
home_spot (suc n) o r v [] l h = absurd (omega arith)
home_spot (suc n) o zero v (w ∷ ws) l h = record { index = 0; is_at = let z : o ≡ o + 4 * 0 = omega arith in ap (λ (a : ℕ). record { at = a; width = 4 }) z; holds = refl; sets = refl }
home_spot (suc n) o (suc r) v (w ∷ ws) l h =
    let s = home_spot n (o + 4) r v ws (omega arith) (omega arith) in
    let z : o + 4 + 4 * r ≡ o + 4 * suc r = omega arith in
    record {
      index = suc s.index;
      is_at = subst (λ (a : ℕ). IsAt (homes (o + 4) n) s.index (record { at = a; width = 4 })) z s.is_at;
      holds = s.holds;
      sets = ap (λ (xs : List ℕ). w ∷ xs) s.sets;
    }

map_set : (f : Value → ℕ) (vs : List Value) (r : ℕ) (v : Value) → map f (set vs r v) ≡ set (map f vs) r (f v)
map_set f [] r v = refl
map_set f (x ∷ vs) zero v = refl
map_set f (x ∷ vs) (suc r) v = ap (λ (xs : List ℕ). f x ∷ xs) (map_set f vs r v)

pub length_homes : (n o : ℕ) → length (homes o n) ≡ n
length_homes zero o = refl
length_homes (suc n) o = ap suc (length_homes n (o + 4))

length_cells : (o : ℕ) (cs : List CellPlace) → length (cells_at o cs) ≡ length cs
length_cells o [] = refl
length_cells o (c ∷ cs) = ap suc (length_cells o cs)

module _ (k : Build) (places : ℕ → ℕ) where
  pub length_objects : (o : ℕ) (ss : List ℕ) (css : List Shape) (vss : List (List Value)) → length ss ≡ length css → Alike vss css → length (objects_at o ss css) ≡ length (object_words k places vss)
  length_objects o [] [] [] l a = refl
  length_objects o [] [] (vs ∷ vss) l a = absurd a
  length_objects o [] (cs ∷ css) vss l a = absurd (omega arith)
  length_objects o (s ∷ ss) [] vss l a = absurd (omega arith)
  length_objects o (s ∷ ss) (cs ∷ css) [] l a = absurd a
  length_objects o (s ∷ ss) (cs ∷ css) (vs ∷ vss) l a =
      let r = length_objects o ss css vss (omega arith) a.1 in
      let e = length-append (cells_at (o + s) cs.cells) (objects_at o ss css) in
      let d = length-append (words_of k places vs) (object_words k places vss) in
      let c = length_cells (o + s) cs.cells in
      let b = length-map vs (word_of k places) in
      omega (arith, a.0)

  pub own_length : (fr : Frame) (o l : ℕ) → GoodShape k fr.func → IsWhole k fr → length (own k fr.func o) ≡ length (own_words k places fr l)
  own_length fr o l sh wh =
      let ss : List ℕ = (starts_at k fr.func) in
      let css : List Shape = (func k fr.func).locals in
      let obs = length_objects o ss css fr.locals sh.starts wh.locals in
      let n : ℕ = length (func k fr.func).regs in
      let z : List Area = record { at = o + 4 * (words_at k fr.func); width = 4 } ∷ [] in
      let a = length-append (homes o n) (objects_at o ss css ++ z) in
      let b = length-append (objects_at o ss css) z in
      let c = length-append (words_of k places fr.regs) (object_words k places fr.locals ++ l ∷ []) in
      let d = length-append (object_words k places fr.locals) (l ∷ []) in
      let e = length_homes n o in
      let f = length-map fr.regs (word_of k places) in
      let w = wh.regs in
      omega arith

  -- register r of the running function
  pub register_spot : (fr : Frame) (rest : List Frame) (ss : List ℕ) (gs : List (List Value)) (r : ℕ) (v : Value) → GoodShape k fr.func → IsWhole k fr → r < length fr.regs →
      IsWordIn (areas k places (wheres (fr ∷ rest))) (held k places ss (fr ∷ rest) gs) (record { at = places fr.number + 4 * r; width = 4 }) (word_of k places (get_or fr.regs r (Number 0))) (word_of k places v)
      (held k places ss (with_register fr r v ∷ rest) gs)
  register_spot fr rest ss gs r v sh wh h =
      let n : ℕ = length (func k fr.func).regs in
      let o : ℕ = places fr.number in
      let lw : length (words_of k places fr.regs) ≡ n = length-map fr.regs (word_of k places) ∙ wh.regs in
      let s = home_spot n o r (word_of k places v) (words_of k places fr.regs) lw (omega arith) in
      let s2 : IsWordIn (homes o n) (words_of k places fr.regs) (record { at = o + 4 * r; width = 4 }) (word_of k places (get_or fr.regs r (Number 0))) (word_of k places v) (words_of k places (set fr.regs r v)) =
      record { index = s.index; is_at = s.is_at; holds = s.holds ∙ get_or-map (word_of k places) fr.regs r (Number 0) 0 h; sets = s.sets ∙ sym (map_set (word_of k places) fr.regs r v) } in
      spot_front (own k fr.func o) (waiting_by k places (site_of k (wheres rest)) (wheres rest) ++ areas k places (wheres rest)) (own_words k places fr (link k places (wheres rest))) _ _ _ _ _ (own_length fr o (link k places (wheres rest)) sh wh)
      (spot_front (homes o n) _ (words_of k places fr.regs) _ _ _ _ _ (length_homes n o ∙ sym lw) s2)

-- ---- cells of locals

cell_spot : (o n : ℕ) (v : ℕ) (cs : List CellPlace) (ws : List ℕ) → length cs ≡ length ws → n < length cs → (c : CellPlace) → cell_in cs n ≡ c → IsWordIn (cells_at o cs) ws (record { at = o + c.at; width = width_of c.ty }) (get_or ws n 0) v (set ws n v)
cell_spot o n v [] ws l h c e = absurd (omega arith)
cell_spot o n v (d ∷ cs) [] l h c e = absurd (omega arith)
cell_spot o zero v (d ∷ cs) (w ∷ ws) l h c e = record { index = 0; is_at = ap (λ (x : CellPlace). record { at = o + x.at; width = width_of x.ty }) e; holds = refl; sets = refl }
cell_spot o (suc n) v (d ∷ cs) (w ∷ ws) l h c e =
    let s = cell_spot o n v cs ws (omega arith) (omega arith) c e in
    record { index = suc s.index; is_at = s.is_at; holds = s.holds; sets = ap (λ (xs : List ℕ). w ∷ xs) s.sets }

module _ (k : Build) (places : ℕ → ℕ) where
  -- cell n of object i of a row of objects
  pub object_spot : (o i n : ℕ) (v : Value) (ss : List ℕ) (css : List Shape) (vss : List (List Value)) (c : CellPlace) → length ss ≡ length css → Alike vss css → i < length css → n < length (get_or css i empty).cells → cell_in (get_or css i empty).cells n ≡ c →
      IsWordIn (objects_at o ss css) (object_words k places vss) (record { at = o + get_or ss i 0 + c.at; width = width_of c.ty }) (word_of k places (get_or (get_or vss i []) n (Number 0))) (word_of k places v)
      (object_words k places (set vss i (set (get_or vss i []) n v)))
  object_spot o i n v ss [] vss c l a h m e = absurd (omega arith)
  object_spot o i n v [] (cs ∷ css) vss c l a h m e = absurd (omega arith)
  object_spot o i n v (s ∷ ss) (cs ∷ css) [] c l a h m e = absurd a
  object_spot o zero n v (s ∷ ss) (cs ∷ css) (vs ∷ vss) c l a h m e =
      let lm = length-map vs (word_of k places) in
      let s0 = cell_spot (o + s) n (word_of k places v) cs.cells (words_of k places vs) (omega (arith, a.0)) m c e in
      let s1 : IsWordIn (cells_at (o + s) cs.cells) (words_of k places vs) (record { at = o + s + c.at; width = width_of c.ty }) (word_of k places (get_or vs n (Number 0))) (word_of k places v) (words_of k places (set vs n v)) =
      record { index = s0.index; is_at = s0.is_at; holds = s0.holds ∙ get_or-map (word_of k places) vs n (Number 0) 0 (omega (arith, a.0)); sets = s0.sets ∙ sym (map_set (word_of k places) vs n v) } in
      spot_front (cells_at (o + s) cs.cells) (objects_at o ss css) (words_of k places vs) (object_words k places vss) _ _ _ _ (length_cells (o + s) cs.cells ∙ sym a.0 ∙ sym lm) s1
  object_spot o (suc i) n v (s ∷ ss) (cs ∷ css) (vs ∷ vss) c l a h m e =
      let lm = length-map vs (word_of k places) in
      spot_back (cells_at (o + s) cs.cells) (objects_at o ss css) (words_of k places vs) (object_words k places vss) _ _ _ _ (length_cells (o + s) cs.cells ∙ sym a.0 ∙ sym lm)
      (object_spot o i n v ss css vss c (omega arith) a.1 (omega arith) m e)
