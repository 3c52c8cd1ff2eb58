-- Lists that grow by one number at a time.
use Rattle.std.proofs.Common.{ℕ, ◌+◌, ◌<◌, ◌%◌, ◌≡◌, List, [], ◌∷◌, ◌++◌, map, length, get_or, drop, sym, ap, ◌∙◌, append_assoc, arith}
use Rattle.std.specs.List.{range_with_len}
use Rattle.std.proofs.lemmas.Bool.Decides.{nat_tests}
use Rattle.std.proofs.lemmas.List.{at_drop_more, map_push}
use Rattle.std.proofs.lemmas.List.FromFn.{map-range_with_len_more}
use Rattle.machine_devices.specs.Queues.{pushed}
use Rattle.ir_model.specs.Plain.{PlainFunc}
use Rattle.ir_generator.specs.declared.choices.Choice.{Choice}
use Rattle.ir_generator.specs.Functions.{test_func}
use Rattle.ir_generator.specs.Made.{held_here, held_from}

pub counted_more : {Y : Type 0} (f : ℕ → Y) (base old : List Y) (k : ℕ) → old ≡ base ++ map f (range_with_len 0 k) → old ++ f k ∷ [] ≡ base ++ map f (range_with_len 0 (k + 1))
counted_more f base old k e =
    ap (λ z. z ++ f k ∷ []) e ∙ (append_assoc base (map f (range_with_len 0 k)) (f k ∷ []) ∙ ap (λ z. base ++ z) (sym (map-range_with_len_more f 0 k k (omega arith))))

-- a function that stands in the file, and one that does not
pub held_when : (n j : ℕ) (c : Choice) → n % 16 ≡ j → held_here n j c ≡ test_func n c.body ∷ []
held_when n j c e = grind (arith, nat_tests)

pub held_not : (n j : ℕ) (c : Choice) → (n % 16 ≡ j → ⊥) → held_here n j c ≡ []
held_not n j c e = grind (arith, nat_tests)

-- the functions of one more choice
pub held_more : (j k : ℕ) (cs : List Choice) (d : Choice) (old new : List PlainFunc) → k < length cs → old ++ held_from k j (drop k cs) ≡ held_from 0 j cs
    → new ≡ old ++ held_here k j (get_or cs k d) → new ++ held_from (k + 1) j (drop (k + 1) cs) ≡ held_from 0 j cs
held_more j k cs d old new l h e =
    ap (λ fs. fs ++ held_from (k + 1) j (drop (k + 1) cs)) e
    ∙ (append_assoc old (held_here k j (get_or cs k d)) (held_from (k + 1) j (drop (k + 1) cs))
    ∙ (ap (λ fs. old ++ fs) (sym (at_drop_more (held_from k j) cs k d l)) ∙ h))

-- a word more on the tape
pub taped_more : (f : ℕ → ℕ) (k x : ℕ) → x ≡ f k → pushed (map f (range_with_len 0 k) ∷ [] ∷ [] ∷ [] ∷ []) 0 x ≡ map f (range_with_len 0 (k + 1)) ∷ [] ∷ [] ∷ [] ∷ []
taped_more f k x e = rw (e, map-range_with_len_more f 0 k k (omega arith))

pub ruleset growing_rules = (map-range_with_len_more, map_push, append_assoc)

pub ruleset held_rules = (held_when, held_not, map_push)
