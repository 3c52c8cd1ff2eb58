-- Cells of locals and globals among the areas, and loans of locals.
use Rattle.std.proofs.Common.{◌≡◌, ℕ, ◌+◌, ◌*◌, ◌<◌, Bool, true, false, if◌then◌else◌, nat_eq, ◌&&◌, Option, Some, None, List, [], ◌∷◌, ◌++◌, length, get_or, set, refl, sym, ap, ◌∙◌, subst, arith, ◌⊎◌, inl, inr}
use Rattle.std.proofs.lemmas.Bool.Decides.{nat_tests}
use Rattle.std.proofs.lemmas.List.{length-map}
use Rattle.base_words.specs.Bytes.{write, cut}
use Rattle.base_words.proofs.Bytes.{write-cut}
use Rattle.machine_model.specs.Confinement.{AnyOf}
use Rattle.ir_model.specs.Types.{PlainType, width_of, is_integer}
use Rattle.ir_model.specs.Layout.{CellPlace, Shape, empty}
use Rattle.ir_model.specs.Resolved.{Value, Number, Code, Null, At, cells_of_local}
use Rattle.ir_model.specs.Signatures.{cell_in}
use Rattle.ir_model.specs.State.{Frame}
use Rattle.ir_model.specs.Step.{with_local, frame_in, is_frame, cut_to}
use Rattle.ir_laws.specs.Moves.{Where, wheres}
use Rattle.ir_laws.specs.States.{Alike, global_shapes}
use Rattle.code_model.specs.Places.{Lend}
use Rattle.monitor_model.specs.Block.{MonitorBlock, Loan, lent}
use Rattle.monitor_model.specs.Setting.{Setting}
use Rattle.refine.specs.Areas.{Area, IsWordIn}
use Rattle.refine.specs.Owned.{all_lent, loan_of}
use Rattle.refine.proofs.Areas.{spot_front, spot_back}
use Rattle.refine.specs.Builds.{Build, func, words_at, starts_at, lends_at, global_starts}
use Rattle.refine.specs.Relation.{own, objects_at, homes, object_words, word_of, words_of, site_of, waiting_by, waiting_words, statuses_behind, first_or_zero, areas, held, own_words, link, beneath, block_of, IsWhole, AllWhole}
use Rattle.refine.proofs.Facts.{Facts}
use Rattle.refine.proofs.Frames.{own_length, length_homes, length_objects, object_spot}
use Rattle.ir_laws.proofs.Moving.{wheres_stay}

pub is_it : (fr : Frame) (f n : ℕ) → is_frame fr f n ≡ true → (fr.number ≡ n) × (fr.func ≡ f)
is_it fr f n h = by (nat_eq fr.number n) (nat_eq fr.func f) refl refl h
  where
    by : (a b : Bool) → nat_eq fr.number n ≡ a → nat_eq fr.func f ≡ b → a && b ≡ true → (fr.number ≡ n) × (fr.func ≡ f)
    by true true p q h = (grind (arith, nat_tests), grind (arith, nat_tests))
    by true false p q h = cc
    by false b p q h = cc

abbrev pub IsLend : Lend → List Lend → Type 0
IsLend d [] = ⊥
IsLend d (x ∷ xs) = (x ≡ d) ⊎ IsLend d xs

any_kept : (P : Loan → Type 0) (g : Setting) (o : ℕ) (m : MonitorBlock) (ds : List Lend) → AnyOf P m.loans → AnyOf P (all_lent g o m ds).loans
any_kept P g o m [] a = a
any_kept P g o m (d ∷ ds) a = any_kept P g o (lent m (loan_of g o d)) ds (inr a)

any_lent : (P : Loan → Type 0) (g : Setting) (o : ℕ) (m : MonitorBlock) (ds : List Lend) (d : Lend) → IsLend d ds → P (loan_of g o d) → AnyOf P (all_lent g o m ds).loans
any_lent P g o m [] d i p = absurd i
any_lent P g o m (x ∷ ds) d (inl e) p = any_kept P g o (lent m (loan_of g o x)) ds (inl (subst (λ (y : Lend). P (loan_of g o y)) (sym e) p))
any_lent P g o m (x ∷ ds) d (inr i) p = any_lent P g o (lent m (loan_of g o x)) ds d i p

module _ (k : Build) (places : ℕ → ℕ) (facts : Facts k) where
  beneath_loans : (P : Loan → Type 0) (x : Option ℕ) (f : ℕ) (ws : List Where) (b : MonitorBlock) → AnyOf P b.loans → AnyOf P (beneath k places x f ws b).loans
  beneath_loans P None f ws b a = a
  beneath_loans P (Some s) f [] b a = a
  beneath_loans P (Some s) f (c ∷ ws) b a = a

  -- a lendable local of a live frame is lent
  pub loan_there : (P : Loan → Type 0) (fs : List Frame) (f n : ℕ) (h : Frame) (d : Lend) → frame_in fs f n ≡ Some h → IsLend d (lends_at k f) → P (loan_of k.setting (places n) d) → AnyOf P (block_of k places (wheres fs)).loans
  loan_there P [] f n h d e i p = cc
  loan_there P (fr ∷ rest) f n h d e i p = by (is_frame fr f n) refl e (λ q. loan_there P rest f n h d q i p)
    where
      by : (b : Bool) → is_frame fr f n ≡ b → (if b then Some fr else frame_in rest f n) ≡ Some h → (frame_in rest f n ≡ Some h → AnyOf P (block_of k places (wheres rest)).loans) → AnyOf P (block_of k places (wheres (fr ∷ rest))).loans
      by true q e ih =
          let t = is_it fr f n q in
          any_lent P k.setting (places fr.number) (beneath k places (site_of k (wheres rest)) fr.func (wheres rest) (block_of k places (wheres rest))) (lends_at k fr.func) d
          (subst (λ (y : ℕ). IsLend d (lends_at k y)) (sym t.1) i) (subst (λ (y : ℕ). P (loan_of k.setting (places y) d)) (sym t.0) p)
      by false q e ih =
          any_kept P k.setting (places fr.number) (beneath k places (site_of k (wheres rest)) fr.func (wheres rest) (block_of k places (wheres rest))) (lends_at k fr.func)
          (beneath_loans P (site_of k (wheres rest)) fr.func (wheres rest) (block_of k places (wheres rest)) (ih e))

  pub length_waiting : (x : Option ℕ) (ws : List Where) (s : ℕ) → length (waiting_by k places x ws) ≡ length (waiting_words k places x s ws)
  length_waiting None ws s = refl
  length_waiting (Some y) [] s = refl
  length_waiting (Some y) (c ∷ ws) s = refl

  -- a cell of a local of the first frame
  head_spot : (fr : Frame) (rest : List Frame) (ss : List ℕ) (gl : List (List Value)) (l j : ℕ) (v : Value) (c : CellPlace) → IsWhole k fr → l < length (func k fr.func).locals →
      j < length (cells_of_local k.program fr.func l) → cell_in (cells_of_local k.program fr.func l) j ≡ c →
      IsWordIn (areas k places (wheres (fr ∷ rest))) (held k places ss (fr ∷ rest) gl) (record { at = places fr.number + get_or (starts_at k fr.func) l 0 + c.at; width = width_of c.ty }) (word_of k places (get_or (get_or fr.locals l []) j (Number 0))) (word_of k places v)
      (held k places ss (record fr { locals = set fr.locals l (set (get_or fr.locals l []) j v) } ∷ rest) gl)
  head_spot fr rest ss gl l j v c wh ll lj lc =
      let o : ℕ = places fr.number in
      let ws : List Where = wheres rest in
      let sh = facts.shapes fr.func in
      let n : ℕ = length (func k fr.func).regs in
      let starts : List ℕ = (starts_at k fr.func) in
      let cells : List Shape = (func k fr.func).locals in
      let z : List Area = record { at = o + 4 * (words_at k fr.func); width = 4 } ∷ [] in
      let li : ℕ = link k places ws in
      let s0 = object_spot k places o l j v starts cells fr.locals c sh.starts wh.locals ll lj lc in
      let s1 = spot_front (objects_at o starts cells) z (object_words k places fr.locals) (li ∷ []) _ _ _ _ (length_objects k places o starts cells fr.locals sh.starts wh.locals) s0 in
      let s2 = spot_back (homes o n) (objects_at o starts cells ++ z) (words_of k places fr.regs) (object_words k places fr.locals ++ li ∷ []) _ _ _ _ (length_homes n o ∙ sym wh.regs ∙ sym (length-map fr.regs (word_of k places))) s1 in
      spot_front (own k fr.func o) (waiting_by k places (site_of k ws) ws ++ areas k places ws) (own_words k places fr li) _ _ _ _ _ (own_length k places fr o li sh wh) s2

  -- a cell of a local of a live frame
  pub local_spot : (fs : List Frame) (ss : List ℕ) (gl : List (List Value)) (f n l j : ℕ) (v : Value) (h : Frame) (c : CellPlace) → frame_in fs f n ≡ Some h → AllWhole k fs → l < length (func k f).locals →
      j < length (cells_of_local k.program f l) → cell_in (cells_of_local k.program f l) j ≡ c →
      IsWordIn (areas k places (wheres fs)) (held k places ss fs gl) (record { at = places n + get_or (starts_at k f) l 0 + c.at; width = width_of c.ty }) (word_of k places (get_or (get_or h.locals l []) j (Number 0))) (word_of k places v)
      (held k places ss (with_local fs f n l (set (get_or h.locals l []) j v)) gl)
  local_spot [] ss gl f n l j v h c e wh ll lj lc = cc
  local_spot (fr ∷ rest) ss gl f n l j v h c e wh ll lj lc = by (is_frame fr f n) refl e (λ q. local_spot rest (statuses_behind (site_of k (wheres rest)) ss) gl f n l j v h c q wh.1 ll lj lc)
    where
      by : (b : Bool) → is_frame fr f n ≡ b → (if b then Some fr else frame_in rest f n) ≡ Some h →
          (frame_in rest f n ≡ Some h → IsWordIn (areas k places (wheres rest)) (held k places (statuses_behind (site_of k (wheres rest)) ss) rest gl) (record { at = places n + get_or (starts_at k f) l 0 + c.at; width = width_of c.ty }) (word_of k places (get_or (get_or h.locals l []) j (Number 0))) (word_of k places v)
          (held k places (statuses_behind (site_of k (wheres rest)) ss) (with_local rest f n l (set (get_or h.locals l []) j v)) gl)) →
          IsWordIn (areas k places (wheres (fr ∷ rest))) (held k places ss (fr ∷ rest) gl) (record { at = places n + get_or (starts_at k f) l 0 + c.at; width = width_of c.ty }) (word_of k places (get_or (get_or h.locals l []) j (Number 0))) (word_of k places v)
          (held k places ss (if b then record fr { locals = set fr.locals l (set (get_or h.locals l []) j v) } ∷ rest else fr ∷ with_local rest f n l (set (get_or h.locals l []) j v)) gl)
      by true q e ih =
          let t = is_it fr f n q in
          let y : fr ≡ h = cc in
          let s = head_spot fr rest ss gl l j v c wh.0 (subst (λ (z : ℕ). l < length (func k z).locals) (sym t.1) ll) (subst (λ (z : ℕ). j < length (cells_of_local k.program z l)) (sym t.1) lj)
          (subst (λ (z : ℕ). cell_in (cells_of_local k.program z l) j ≡ c) (sym t.1) lc) in
          let s1 = subst (λ (z : Frame). IsWordIn (areas k places (wheres (fr ∷ rest))) (held k places ss (fr ∷ rest) gl) (record { at = places fr.number + get_or (starts_at k fr.func) l 0 + c.at; width = width_of c.ty }) (word_of k places (get_or (get_or z.locals l []) j (Number 0))) (word_of k places v)
          (held k places ss (record fr { locals = set fr.locals l (set (get_or z.locals l []) j v) } ∷ rest) gl)) y s in
          let a : places fr.number + get_or (starts_at k fr.func) l 0 + c.at ≡ places n + get_or (starts_at k f) l 0 + c.at = ap (λ (z : ℕ). places z + get_or (starts_at k fr.func) l 0 + c.at) t.0 ∙ ap (λ (z : ℕ). places n + get_or (starts_at k z) l 0 + c.at) t.1 in
          subst (λ (z : ℕ). IsWordIn (areas k places (wheres (fr ∷ rest))) (held k places ss (fr ∷ rest) gl) (record { at = z; width = width_of c.ty }) (word_of k places (get_or (get_or h.locals l []) j (Number 0))) (word_of k places v)
          (held k places ss (record fr { locals = set fr.locals l (set (get_or h.locals l []) j v) } ∷ rest) gl)) a s1
      by false q e ih =
          let ws : List Where = wheres rest in
          let vs : List Value = set (get_or h.locals l []) j v in
          let c0 : Area = record { at = places n + get_or (starts_at k f) l 0 + c.at; width = width_of c.ty } in
          let s = spot_back (own k fr.func (places fr.number)) (waiting_by k places (site_of k ws) ws ++ areas k places ws) (own_words k places fr (link k places ws)) _ _ _ _ _ (own_length k places fr (places fr.number) (link k places ws) (facts.shapes fr.func) wh.0)
          (spot_back (waiting_by k places (site_of k ws) ws) (areas k places ws) (waiting_words k places (site_of k ws) (first_or_zero ss) ws) _ _ _ _ _ (length_waiting (site_of k ws) ws (first_or_zero ss)) (ih e)) in
          subst (λ (z : List Where). IsWordIn (areas k places (wheres (fr ∷ rest))) (held k places ss (fr ∷ rest) gl) c0 (word_of k places (get_or (get_or h.locals l []) j (Number 0))) (word_of k places v)
          (own_words k places fr (link k places z) ++ (waiting_words k places (site_of k z) (first_or_zero ss) z ++ held k places (statuses_behind (site_of k z) ss) (with_local rest f n l vs) gl))) (sym (wheres_stay rest f n l vs)) s

  -- a cell of a global
  pub global_spot : (fs : List Frame) (ss : List ℕ) (gl : List (List Value)) (g j : ℕ) (v : Value) (c : CellPlace) → length (global_starts k) ≡ length (global_shapes k.program) → Alike gl (global_shapes k.program) → AllWhole k fs → g < length (global_shapes k.program) → j < length (get_or (global_shapes k.program) g empty).cells → cell_in (get_or (global_shapes k.program) g empty).cells j ≡ c →
      IsWordIn (areas k places (wheres fs)) (held k places ss fs gl) (record { at = 0 + get_or (global_starts k) g 0 + c.at; width = width_of c.ty }) (word_of k places (get_or (get_or gl g []) j (Number 0))) (word_of k places v)
      (held k places ss fs (set gl g (set (get_or gl g []) j v)))
  global_spot [] ss gl g j v c l a wh lg lj lc = object_spot k places 0 g j v (global_starts k) (global_shapes k.program) gl c l a lg lj lc
  global_spot (fr ∷ rest) ss gl g j v c l a wh lg lj lc =
      let ws : List Where = wheres rest in
      let r = global_spot rest (statuses_behind (site_of k ws) ss) gl g j v c l a wh.1 lg lj lc in
      spot_back (own k fr.func (places fr.number)) (waiting_by k places (site_of k ws) ws ++ areas k places ws) (own_words k places fr (link k places ws)) _ _ _ _ _ (own_length k places fr (places fr.number) (link k places ws) (facts.shapes fr.func) wh.0)
      (spot_back (waiting_by k places (site_of k ws) ws) (areas k places ws) (waiting_words k places (site_of k ws) (first_or_zero ss) ws) _ _ _ _ _ (length_waiting (site_of k ws) ws (first_or_zero ss)) r)

module _ (k : Build) (places : ℕ → ℕ) where
  pub stored_value : (t : PlainType) (a : ℕ) (v : Value) (m : List ℕ) → write (width_of t) a (word_of k places v) m ≡ write (width_of t) a (word_of k places (cut_to t v)) m
  stored_value t a (Number n) m = by (is_integer t)
    where
      by : (b : Bool) → write (width_of t) a n m ≡ write (width_of t) a (if b then cut (width_of t) n else n) m
      by true = sym (write-cut (width_of t) a n m)
      by false = refl
  stored_value t a (Code f) m = refl
  stored_value t a Null m = refl
  stored_value t a (At o at) m = refl
