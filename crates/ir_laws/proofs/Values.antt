-- Values that fit their types: zeros, and numbers that are widened where they are loaded and cut where they are stored.
use Rattle.std.proofs.Common.{◌≡◌, ℕ, suc, ◌*◌, ◌^◌, ◌<◌, ◌≤◌, Bool, true, false, List, [], ◌∷◌, length, refl, sym, ap, subst, arith}
use Rattle.std.specs.Prelude.{if◌then◌else◌}
use Rattle.base_words.specs.Bytes.{cut}
use Rattle.ir_model.specs.Types.{PlainType, U8, U16, U32, Pointer, Array, Named, Callee, is_integer, width_of}
use Rattle.ir_model.specs.Resolved.{Program, Value, Number, Null}
use Rattle.ir_model.specs.Resolve.{zero_of}
use Rattle.ir_model.specs.State.{Object, FunctionObject, object_of, entered}
use Rattle.ir_model.specs.Step.{number_in, cut_to}
use Rattle.ir_model.specs.Signatures.{widened}
use Rattle.ir_laws.specs.Typed.{Fits, number, null, at, code}
use Rattle.ir_laws.specs.Sets.{carries}
use Rattle.ir_laws.proofs.Words.{cut_fits}

-- how many numbers a type of integers has
pub integer_room : (t : PlainType) → is_integer t ≡ true → (0 < 2 ^ (8 * width_of t)) × (2 ^ (8 * width_of t) ≤ 2 ^ 32)
integer_room U8 h = (omega arith, omega arith)
integer_room U16 h = (omega arith, omega arith)
integer_room U32 h = (omega arith, omega arith)
integer_room (Pointer t) h = cc
integer_room (Array n t) h = cc
integer_room (Named n) h = cc
integer_room (Callee a r) h = cc

-- a register for each type
pub entered_length : (vs : List Value) (ts : List PlainType) → length (entered vs ts) ≡ length ts
entered_length vs [] = refl
entered_length [] (t ∷ ts) = ap suc (entered_length [] ts)
entered_length (v ∷ vs) (t ∷ ts) = ap suc (entered_length vs ts)

module _ (p : Program) (sizes : PlainType → ℕ) where
  abbrev FitsType : (Object → Bool) → PlainType → Value → Type 0
  FitsType X t v = Fits p sizes X t v

  -- where one set has what another has, if the type carries objects
  pub flow : {X Y : Object → Bool} {t : PlainType} {v : Value} → (carries t ≡ true → (o : Object) → X o ≡ true → Y o ≡ true) → FitsType X t v → FitsType Y t v
  flow h (number n e l) = number n e l
  flow h (null e) = null e
  flow h (at o k e l i s) = at o k (h refl (object_of o) e) l i s
  flow h (code g s e i) = code g s (h refl (FunctionObject g) e) i

  pub typed_as : {X : Object → Bool} {t u : PlainType} {v : Value} → t ≡ u → FitsType X t v → FitsType X u v
  typed_as {X = X} {v = v} e h = subst (λ t. FitsType X t v) e h

  pub word_of : {X : Object → Bool} {v : Value} → FitsType X U32 v → number_in v < 2 ^ 32
  word_of (number n e l) = l
  word_of (null e) = cc

  zero_by : (X : Object → Bool) (t : PlainType) (b : Bool) → is_integer t ≡ b → FitsType X t (if b then Number 0 else Null)
  zero_by X t true e = number 0 e (integer_room t e).0
  zero_by X t false e = null e

  pub zero_fits : (X : Object → Bool) (t : PlainType) → FitsType X t (zero_of t)
  zero_fits X t = zero_by X t (is_integer t) refl

  to_word : {X : Object → Bool} (t : PlainType) (v : Value) → is_integer t ≡ true → FitsType X t v → FitsType X U32 v
  to_word t v i (number n e l) = let r = (integer_room t i).1 in number n refl (omega arith)
  to_word t v i (null e) = cc
  to_word t v i (at o k e l h s) = cc
  to_word t v i (code g s e h) = cc

  pub widen : {X : Object → Bool} (t : PlainType) (v : Value) → FitsType X t v → FitsType X (widened t) v
  widen {X = X} t v h = pick (is_integer t) refl
    where
      pick : (b : Bool) → is_integer t ≡ b → FitsType X (if b then U32 else t) v
      pick true e = to_word t v e h
      pick false e = h

  cut_word : {X : Object → Bool} (t : PlainType) (v : Value) → is_integer t ≡ true → FitsType X U32 v → FitsType X t (cut_to t v)
  cut_word {X = X} t v i (number n e l) =
      subst (λ (b : Bool). FitsType X t (Number (if b then cut (width_of t) n else n))) (sym i) (number (cut (width_of t) n) i (cut_fits t n i))
  cut_word t v i (null e) = cc

  cut_other : {X : Object → Bool} (t : PlainType) (v : Value) → is_integer t ≡ false → FitsType X t v → FitsType X t (cut_to t v)
  cut_other t v i (number n e l) = cc
  cut_other t v i (null e) = null e
  cut_other t v i (at o k e l h s) = at o k e l h s
  cut_other t v i (code g s e h) = code g s e h

  pub narrow : {X : Object → Bool} (t : PlainType) (v : Value) → FitsType X (widened t) v → FitsType X t (cut_to t v)
  narrow {X = X} t v h = pick (is_integer t) refl h
    where
      pick : (b : Bool) → is_integer t ≡ b → FitsType X (if b then U32 else t) v → FitsType X t (cut_to t v)
      pick true e h = cut_word t v e h
      pick false e h = cut_other t v e h
