-- Locals of waiting frames: which functions reach which, and that a local that is not lendable is the running frame's own.
use Rattle.std.proofs.Common.{◌≡◌, ◌≢◌, ℕ, ◌<◌, Bool, true, false, List, [], ◌∷◌, length, Some, nat_eq, refl, sym, subst, ◌∙◌}
use Rattle.std.specs.Prelude.{if◌then◌else◌, Contains}
use Rattle.std.proofs.lemmas.Bool.{eqb-true, eq-eqb, false≢true, and_parts, and_from}
use Rattle.ir_model.specs.Types.{PlainType}
use Rattle.ir_model.specs.Resolved.{Program, func_at}
use Rattle.ir_model.specs.State.{Frame, LocalObject}
use Rattle.ir_model.specs.Step.{is_frame, frame_in}
use Rattle.ir_laws.specs.Sets.{ObjectSets, IsRead, IsWritten}
use Rattle.ir_laws.specs.States.{Waits, FramesFit}
use Rattle.plan_model.specs.declared.needs.Needs.{Needs}
use Rattle.plan_model.specs.Calls.{IsCallee, Reaches, directly, further}
use Rattle.plan_model.specs.Lendable.{LendCause, OthersWrite, OthersRead, CallsItself}
use Rattle.plan_model.specs.Lending.{is_local, lent, lend_number}
use Rattle.plan_model.specs.Needs.{AreNeeds}
use Rattle.need_laws.specs.Laws.{WaitingFramesReach, IsOwn, FramesAreOwn, OtherLocalsAreLendable, LendableLocalsHaveNumbers}
use Rattle.need_lists.proofs.Members.{none_found}

-- ---- which functions reach which

reaches_last : {p : Program} {S : ObjectSets} {f g h : ℕ} → Reaches p S f g → IsCallee p S g h → Reaches p S f h
reaches_last (directly c) d = further c (directly d)
reaches_last (further c r) d = further c (reaches_last r d)

frame_func : (fr : Frame) (f n : ℕ) → is_frame fr f n ≡ true → fr.func ≡ f
frame_func fr f n e = eqb-true fr.func f (and_parts (nat_eq fr.number n) (nat_eq fr.func f) e).1

frame_number : (fr : Frame) (f n : ℕ) → is_frame fr f n ≡ true → fr.number ≡ n
frame_number fr f n e = eqb-true fr.number n (and_parts (nat_eq fr.number n) (nat_eq fr.func f) e).0

module _ (p : Program) (z : PlainType → ℕ) (S : ObjectSets) where
  pub below_reaches : (fs : List Frame) (g f n : ℕ) (h : Frame) → Waits p z S g fs → FramesFit p z S fs → frame_in fs f n ≡ Some h → Reaches p S f g
  below_reaches [] g f n h w fit e = cc
  below_reaches (c ∷ rest) g f n h w fit e = by (is_frame c f n) refl e (λ q. below_reaches rest c.func f n h fit.1 fit.2 q)
    where
      by : (b : Bool) → is_frame c f n ≡ b → (if b then Some c else frame_in rest f n) ≡ Some h → (frame_in rest f n ≡ Some h → Reaches p S f c.func) → Reaches p S f g
      by true t e ih = subst (λ (x : ℕ). Reaches p S x g) (frame_func c f n t) (directly (c.block, c.place, w.calls))
      by false t e ih = reaches_last (ih e) (c.block, c.place, w.calls)

  -- a frame of a function that does not reach itself is the running one, if that is of the function
  pub own_frame : (fr : Frame) (rest : List Frame) (n : ℕ) (h : Frame) → FramesFit p z S (fr ∷ rest) → (Reaches p S fr.func fr.func → ⊥) → frame_in (fr ∷ rest) fr.func n ≡ Some h → IsOwn fr fr.func n h
  own_frame fr rest n h fit apart e = by (is_frame fr fr.func n) refl e
    where
      by : (b : Bool) → is_frame fr fr.func n ≡ b → (if b then Some fr else frame_in rest fr.func n) ≡ Some h → IsOwn fr fr.func n h
      by true t e = record { func = refl; number = frame_number fr fr.func n t; same = cc }
      by false t e = absurd (apart (below_reaches rest fr.func fr.func n h fit.1 fit.2 e))

pub waiting_frames_reach : WaitingFramesReach
waiting_frames_reach p sizes S fs g f number h w fit e = below_reaches p sizes S fs g f number h w fit e

pub frames_are_own : FramesAreOwn
frames_are_own p sizes S fr rest number h fit apart e = own_frame p sizes S fr rest number h fit apart e

-- ---- locals that are not lendable

same_by : (b : Bool) (x y : ℕ) → nat_eq x y ≡ b → (x ≢ y → ⊥) → x ≡ y
same_by true x y e h = eqb-true x y e
same_by false x y e h = absurd (h (λ q. false≢true (sym e ∙ eq-eqb x y q)))

module _ (p : Program) (z : PlainType → ℕ) (S : ObjectSets) (closed : Bool) (n : Needs) (needs : AreNeeds p S closed n) where
  -- without a cause, no frame but the running one is reached
  own_by : (fr : Frame) (rest : List Frame) (f number l : ℕ) (h : Frame) → FramesFit p z S (fr ∷ rest) → (LendCause p S closed f l → ⊥) → (fr.func ≢ f → ⊥) → frame_in (fr ∷ rest) f number ≡ Some h → IsOwn fr f number h
  own_by fr rest f number l h fit none other e =
      let q = same_by (nat_eq fr.func f) fr.func f refl other in
      let r = own_frame p z S fr rest number h fit (λ c. none (CallsItself (subst (λ (x : ℕ). Reaches p S x x) q c))) (subst (λ (x : ℕ). frame_in (fr ∷ rest) x number ≡ Some h) (sym q) e) in
      record { func = q; number = r.number; same = r.same }

  no_cause : (f l : ℕ) → l < length (func_at p f).locals → (Contains n.lendable (f, l) → ⊥) → LendCause p S closed f l → ⊥
  no_cause f l there none c = none (needs.lendable.all (f, l) (record { there = there; cause = c }))

  pub stores_own : (fr : Frame) (rest : List Frame) (f number l : ℕ) (h : Frame) → FramesFit p z S (fr ∷ rest) → l < length (func_at p f).locals
      → (Contains n.lendable (f, l) → ⊥) → IsWritten p S fr.func (LocalObject f l) → frame_in (fr ∷ rest) f number ≡ Some h → IsOwn fr f number h
  stores_own fr rest f number l h fit there none w e =
      let c = no_cause f l there none in own_by fr rest f number l h fit c (λ d. c (OthersWrite fr.func d w)) e

  pub loads_own : (fr : Frame) (rest : List Frame) (f number l : ℕ) (h : Frame) → closed ≡ true → FramesFit p z S (fr ∷ rest) → l < length (func_at p f).locals
      → (Contains n.lendable (f, l) → ⊥) → IsRead p S fr.func (LocalObject f l) → frame_in (fr ∷ rest) f number ≡ Some h → IsOwn fr f number h
  loads_own fr rest f number l h board fit there none r e =
      let c = no_cause f l there none in own_by fr rest f number l h fit c (λ d. c (OthersRead fr.func board d r)) e

pub other_locals_are_lendable : OtherLocalsAreLendable
other_locals_are_lendable p sizes S closed n needs = record { stores = stores_own p sizes S closed n needs; loads = loads_own p sizes S closed n needs }

-- ---- numbers of lent locals

is_itself : (f l : ℕ) → is_local f l (f, l) ≡ true
is_itself f l = and_from (nat_eq f f) (nat_eq l l) (eq-eqb f f refl) (eq-eqb l l refl)

pub lendable_locals_have_numbers : LendableLocalsHaveNumbers
unfolding lend_number
lendable_locals_have_numbers n g f l many none h =
    none_found (is_local f l) (f, l) (lent n g) none (subst (λ (b : Bool). Contains (if b then n.lendable else []) (f, l)) (sym many) h) (is_itself f l)
