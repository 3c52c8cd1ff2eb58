-- Frames within the stack limit that lie at their positions have ample room; where the first of some frames has to lie.
use Rattle.std.proofs.Common.{◌≡◌, ℕ, zero, suc, ◌+◌, ◌-◌, ◌*◌, ◌/◌, ◌%◌, ◌≤◌, Option, Some, None, List, [], ◌∷◌, length, refl, sym, ap, ◌∙◌, arith}
use Rattle.std.proofs.Math.Nat.{suc-mul}
use Rattle.ir_laws.specs.Moves.{Where}
use Rattle.code_model.specs.FrameShape.{frame_size, frame_shape}
use Rattle.monitor_model.specs.Block.{MonitorBlock}
use Rattle.refine_model.specs.StackLimit as limit
use Rattle.refine.specs.Builds.{Build, func, words_at, lends_at}
use Rattle.refine.specs.Relation.{site_of, ceiling_by, beneath, block_of, AllAmple}
use Rattle.refine.proofs.Facts.{Facts}
use Rattle.refine.proofs.Blocks.{all_lent_is}

pub times_eight : (q e : ℕ) → e % 8 ≡ 0 → q * e % 8 ≡ 0
times_eight zero e h = let z : 0 * e ≡ 0 = omega arith in ap (λ (x : ℕ). x % 8) z
times_eight (suc q) e h =
    let r = times_eight q e h in
    let m = suc-mul q e in
    omega arith

an_eighth : (e : ℕ) → 8 * e / 8 ≡ e
an_eighth e = omega arith

module _ (k : Build) where
  -- the stack's size
  abbrev pub stack_size : ℕ
  stack_size = 8 * k.setting.eighth

  abbrev pub position : List Where → ℕ
  position ws = limit.position k.program k.needs k.groups stack_size ws

  abbrev pub HaveRoom : List Where → Type 0
  HaveRoom ws = limit.HaveRoom k.program k.needs k.groups stack_size ws

  -- the frame's bytes
  pub frame_bytes : (f : ℕ) → frame_size (func k f) ≡ 4 * words_at k f + 4
  unfolding words_at
  frame_bytes f = omega arith

  pub words_are : (f : ℕ) → (frame_shape (func k f)).words ≡ words_at k f
  unfolding words_at
  words_are f = refl

  -- each frame lies at its position
  abbrev pub Placed : (places : ℕ → ℕ) → List Where → Type 0
  Placed places [] = Unit {0}
  Placed places (w ∷ ws) = (places w.number ≡ k.setting.stack + position (w ∷ ws)) × Placed places ws

module _ (k : Build) (places : ℕ → ℕ) (facts : Facts k) where
  beneath_loans : (x : Option ℕ) (f : ℕ) (ws : List Where) (b : MonitorBlock) → length (beneath k places x f ws b).loans ≡ length b.loans
  beneath_loans None f ws b = refl
  beneath_loans (Some s) f [] b = refl
  beneath_loans (Some s) f (c ∷ ws) b = refl

  loans_are : (ws : List Where) → length (block_of k places ws).loans ≤ limit.lent_locals k.program k.needs k.groups (stack_size k) ws
  loans_are [] = omega arith
  loans_are (w ∷ ws) =
      let a = (all_lent_is k.setting (places w.number) (beneath k places (site_of k ws) w.func ws (block_of k places ws)) (lends_at k w.func)).loans in
      let b = beneath_loans (site_of k ws) w.func ws (block_of k places ws) in
      let i = loans_are ws in
      let l = (facts.shapes w.func).lent in
      omega arith

  abbrev limit_by : Option ℕ → ℕ → ℕ
  limit_by x q = limit.limit_by k.program k.needs k.groups (stack_size k) x q

  -- where a callee's frame ends
  pub ceiling_is : (x : Option ℕ) (ws : List Where) → Placed k places ws → (ws ≡ [] → x ≡ None) → ceiling_by k places x ws ≡ k.setting.stack + limit_by x (position k ws)
  ceiling_is None [] p e = refl
  ceiling_is (Some s) [] p e = let z = e refl in cc
  ceiling_is None (c ∷ rest) p e = p.0
  ceiling_is (Some s) (c ∷ rest) p e =
      let q = p.0 in
      let z : places c.number - 32 - k.setting.stack ≡ position k (c ∷ rest) - 32 = omega arith in
      ap (λ (y : ℕ). k.setting.stack + y / k.setting.eighth * k.setting.eighth) z ∙ ap (λ (y : ℕ). k.setting.stack + (position k (c ∷ rest) - 32) / y * y) (sym (an_eighth k.setting.eighth))

  pub none_at_end : (ws : List Where) → ws ≡ [] → site_of k ws ≡ None
  none_at_end [] e = refl
  none_at_end (c ∷ rest) e = cc

  pub ample_of : (ws : List Where) → HaveRoom k ws → Placed k places ws → AllAmple k places ws
  ample_of [] w p = tt
  ample_of (v ∷ ws) w p =
      let c = ceiling_is (site_of k ws) ws p.1 (none_at_end ws) in
      let r = w.0.space in
      let q = p.0 in
      let b = frame_bytes k v.func in
      let l = loans_are (v ∷ ws) in
      let lm = w.0.loans in (
        record {
          ends = omega arith;
          room = omega arith;
          loans = omega arith;
        },
        ample_of ws w.1 p.1,
      )
