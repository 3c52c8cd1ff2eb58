-- The scan of the regions from the lowest number up.
use Rattle.std.proofs.Common.{◌≡◌, ℕ, ◌+◌, ◌<◌, Bool, true, false, cond, List, [], ◌∷◌, ◌++◌, Option, Some, None, length, take, get_or, refl, ap, ◌∙◌}
use Rattle.std.proofs.lemmas.List.{take_more}
use Rattle.machine_protection.specs.declared.region.Region.{Region}
use Rattle.machine_protection.specs.Regions.{holds}
use Rattle.machine_protection.specs.Protection.{or_this, deciding}

first_one : (b : Bool) (g : Region) → or_this b g None ≡ cond b (Some g) None
first_one true g = refl
first_one false g = refl

one_more : (b c : Bool) (x g : Region) (o : Option Region) → or_this b x (cond c (Some g) o) ≡ cond c (Some g) (or_this b x o)
one_more b true x g o = refl
one_more b false x g o = refl

-- one more region at the end overrules those before it
deciding-append : (gs : List Region) (g : Region) (a : ℕ) → deciding (gs ++ g ∷ []) a ≡ cond (holds g a) (Some g) (deciding gs a)
unfolding deciding
deciding-append [] g a = first_one (holds g a) g
deciding-append (x ∷ gs) g a = ap (or_this (holds x a) x) (deciding-append gs g a) ∙ one_more (holds x a) (holds g a) x g (deciding gs a)

-- the scan one region further
pub deciding_more : (gs : List Region) (i : ℕ) (d : Region) (a : ℕ) → i < length gs → deciding (take (i + 1) gs) a ≡ cond (holds (get_or gs i d) a) (Some (get_or gs i d)) (deciding (take i gs) a)
deciding_more gs i d a lt = ap (λ xs. deciding xs a) (take_more gs i d lt) ∙ deciding-append (take i gs) (get_or gs i d) a

-- the scan before the first region
pub deciding_empty : (a : ℕ) → deciding [] a ≡ None
unfolding deciding
deciding_empty a = refl
