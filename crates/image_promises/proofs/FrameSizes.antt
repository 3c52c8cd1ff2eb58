-- The frame of each function of a typed firmware is small enough for its code.
use Rattle.std.proofs.Common.{◌≡◌, ℕ, zero, suc, ◌+◌, ◌*◌, ◌/◌, ◌<◌, ◌≤◌, List, [], ◌∷◌, length, get_or, replicate, Option, Some, None, refl, arith}
use Rattle.std.specs.Prelude.{IfSome}
use Rattle.std.proofs.lemmas.List.{length-replicate}
use Rattle.std.proofs.lemmas.List.Elements.{All-from_get_or}
use Rattle.ir_model.specs.Layout.{Shape}
use Rattle.ir_model.specs.Plain.{PlainFirmware}
use Rattle.ir_model.specs.Resolved.{Program, NumberedFunc, func_at}
use Rattle.ir_model.specs.Resolve.{resolve}
use Rattle.ir_model.specs.Canonical.{IsWithinLimits}
use Rattle.ir_model.specs.Typing.{IsTyped}
use Rattle.ir_model.specs.Signatures.{row_length}
use Rattle.code_model.specs.declared.places.CallSite.{CallSite}
use Rattle.code_model.specs.declared.places.Places.{Places}
use Rattle.code_model.specs.FrameShape.{local_size, locals_size, frame_size, starts_from, local_starts, frame_shape}
use Rattle.code_model.specs.Places.{lends_among}
use Rattle.code_lower_laws.specs.Fitting.{HasEach, TypedFunctionsFit}
use Rattle.image_promises.proofs.TemplateCode.{LendsFit}

-- ---- registers, parameters and the frame are the same whatever the places are

nothing_there : (n i : ℕ) → IfSome (get_or (replicate n None) i None) (λ (k : ℕ). k < 32)
nothing_there zero i = tt
nothing_there (suc n) zero = tt
nothing_there (suc n) (suc i) = nothing_there n i

pub record IsSmall (g : NumberedFunc) : Type 0 where
  pub registers : length g.regs ≤ 120
  pub params : row_length g.params ≤ 4
  pub frame : frame_size g ≤ 992

module _ (fits : TypedFunctionsFit) (w : PlainFirmware) (typed : IsTyped w) (within : IsWithinLimits w) where
  abbrev p : Program
  p = resolve w

  -- places that have each thing
  abbrev some_places : (func : ℕ) → Places
  some_places f =
      record {
        globals = replicate (length p.globals) 0;
        windows = replicate (length p.periphs) 0;
        entries = replicate (length p.funcs) 0;
        sites = [];
        lends = replicate (length (func_at p f).locals) None;
      }

  has_each : (f : ℕ) → HasEach p f (some_places f)
  has_each f =
      record {
        globals = length-replicate (length p.globals) 0;
        windows = length-replicate (length p.periphs) 0;
        entries = length-replicate (length p.funcs) 0;
        sites = All-from_get_or (λ (s : CallSite). s.number < 4096) [] (record { block = 0; place = 0; number = 0 }) (λ i l. absurd (omega (arith, l)));
        lends = length-replicate (length (func_at p f).locals) None;
        lend_numbers = All-from_get_or (λ (n : Option ℕ). IfSome n (λ k. k < 32)) (replicate (length (func_at p f).locals) None) None (λ i l. nothing_there (length (func_at p f).locals) i);
      }

  pub small : (f : ℕ) → f < length p.funcs → IsSmall (func_at p f)
  small f l = let h = fits w typed within f l (some_places f) (has_each f) in record { registers = h.registers; params = h.params; frame = h.frame }

-- ---- what stands in the frame

starts_below : (n : ℕ) (ss : List Shape) (l : ℕ) → get_or (starts_from n ss) l 0 ≤ n + locals_size ss
starts_below n [] l = omega arith
starts_below n (s ∷ ss) zero = omega arith
starts_below n (s ∷ ss) (suc l) = let h = starts_below (n + local_size s) ss l in omega (arith, h)

pub words_few : (g : NumberedFunc) → frame_size g ≤ 992 → (frame_shape g).words ≤ 254
words_few g h = omega (arith, h)

pub starts_few : (g : NumberedFunc) → frame_size g ≤ 992 → (l : ℕ) → get_or (local_starts g) l 0 / 4 < 256
starts_few g h l = let s = starts_below (4 * length g.regs) g.locals l in omega (arith, h, s)

pub lends_fit : (ss : List ℕ) (ns : List (Option ℕ)) → ((i : ℕ) → get_or ss i 0 / 4 < 256) → ((i k : ℕ) → get_or ns i None ≡ Some k → k < 256) → LendsFit (lends_among ss ns)
lends_fit [] ns a b = tt
lends_fit (s ∷ ss) [] a b = tt
lends_fit (s ∷ ss) (None ∷ ns) a b = lends_fit ss ns (λ i. a (suc i)) (λ i. b (suc i))
lends_fit (s ∷ ss) (Some n ∷ ns) a b = (a 0, b 0 n refl, lends_fit ss ns (λ i. a (suc i)) (λ i. b (suc i)))
