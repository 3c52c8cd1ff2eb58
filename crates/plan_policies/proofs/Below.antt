-- The numbers of groups are below the number of files, or of functions.
use Rattle.std.proofs.Common.{◌≡◌, ℕ, suc, ◌<◌, ◌≤◌, ◌+◌, Bool, true, false, not, ◌&&◌, List, [], ◌∷◌, cond, nat_eq, length, map, get_or, replicate, Some, None, refl, sym, ap, subst, ◌∙◌, arith}
use Rattle.std.specs.List.{All, fold, list_any, list_all, position_or_len}
use Rattle.std.proofs.lemmas.Bool.{eq-eqb, cases_eq}
use Rattle.std.proofs.lemmas.List.{get_or-map, length-map}
use Rattle.std.proofs.lemmas.List.Folds.{list_any_at}
use Rattle.std.proofs.lemmas.List.FromFn.{length-range_with_len, get_or-range_with_len}
use Rattle.std.proofs.lemmas.List.Elements.{All-nil, All-cons, All-head, All-tail, All-append, All-map, All-set, All-weaker, All-get_or, All-from_get_or, All-replicate}
use mathlib.Core.Logic.{⊎_elim}
use Rattle.ir_model.specs.Plain.{PlainFirmware, PlainFile, PlainFunc, funcs_of}
use Rattle.ir_model.specs.Resolve.{files_from}
use Rattle.plan_model.specs.declared.needs.Needs.{Needs}
use Rattle.plan_model.specs.declared.groups.FuncFacts.{FuncFacts}
use Rattle.plan_model.specs.Facts.{facts, facts_of}
use Rattle.plan_model.specs.Lists.{numbers_below, in_order, placed, is_empty, distinct, same_numbers}
use Rattle.plan_model.specs.Policies.{filename_groups, by_name, common_group, moved_to, move, optimized_groups, periph_lists, peripheral_groups}
use Rattle.plan_policies.specs.Functions.{AreFunctions, HasCallersBelow}
use Rattle.plan_policies.proofs.Distinct.{any_distinct, found_any}
use Rattle.plan_policies.proofs.Moves.{length_moved}
use Rattle.plan_policies.proofs.Periphs.{same_through}
use Rattle.base_laws.proofs.Lists.{few_kept as at_most}
use Rattle.ir_laws.proofs.Resolved.{files_count as length_files}

-- ---- files

files_below : (k : ℕ) (fs : List PlainFile) → All (λ f. f < k + length fs) (files_from k fs)
files_below k [] = All-nil (λ f. f < k + 0)
files_below k (f ∷ fs) =
    All-append (λ x. x < k + suc (length fs)) (replicate (length f.funcs) k) (files_from (suc k) fs)
    (All-replicate (λ x. x < k + suc (length fs)) (length f.funcs) k (omega arith))
    (All-weaker (λ x. x < suc k + length fs) (λ x. x < k + suc (length fs)) (λ x h. omega (arith, h)) (files_from (suc k) fs) (files_below (suc k) fs))

-- each function's file is one of the firmware's
pub facts_below : (w : PlainFirmware) (n : Needs) → length n.funcs ≡ length (funcs_of w) → All (λ (f : FuncFacts). f.file < length w.files) (facts w n)
unfolding facts
facts_below w n e =
    All-map (λ (f : FuncFacts). f.file < length w.files) (facts_of (map (λ (f : PlainFunc). f.name) (funcs_of w)) (files_from 0 w.files) n) (numbers_below (length n.funcs))
    (All-from_get_or (λ f. get_or (files_from 0 w.files) f 0 < length w.files) (numbers_below (length n.funcs)) 0 (λ i l. each i (let size = length-range_with_len 0 (length n.funcs) in omega arith)))
  where
    each : (i : ℕ) → i < length n.funcs → get_or (files_from 0 w.files) (get_or (numbers_below (length n.funcs)) i 0) 0 < length w.files
    each i l =
        let item : get_or (numbers_below (length n.funcs)) i 0 ≡ i = get_or-range_with_len 0 (length n.funcs) i 0 l ∙ (let z : 0 + i ≡ i = omega arith in z) in
        let size = length_files 0 w.files in
        let there : i < length (files_from 0 w.files) = omega arith in
        let low = All-get_or (λ f. f < 0 + length w.files) (files_from 0 w.files) i 0 there (files_below 0 w.files) in
        subst (λ j. get_or (files_from 0 w.files) j 0 < length w.files) (sym item) (omega arith)

pub filename_below : (count : ℕ) (fs : List FuncFacts) → All (λ (f : FuncFacts). f.file < count) fs → All (λ g. g < count) (filename_groups fs)
filename_below count fs h = All-map (λ g. g < count) (λ (f : FuncFacts). f.file) fs h

-- ---- moves

all_placed : {X : Type 0} (P : X → Type 0) (lt : X → X → Bool) (x : X) (ys : List X) → P x → All P ys → All P (placed lt x ys)
all_placed P lt x [] h hs = All-cons P x [] h (All-nil P)
all_placed P lt x (y ∷ ys) h hs = by (lt y x) (all_placed P lt x ys h (All-tail P y ys hs))
  where
    by : (b : Bool) → All P (placed lt x ys) → All P (cond b (y ∷ placed lt x ys) (x ∷ y ∷ ys))
    by true ih = All-cons P y (placed lt x ys) (All-head P y ys hs) ih
    by false ih = All-cons P x (y ∷ ys) h hs

pub all_in_order : {X : Type 0} (P : X → Type 0) (lt : X → X → Bool) (xs : List X) → All P xs → All P (in_order lt xs)
all_in_order P lt [] h = All-nil P
all_in_order P lt (x ∷ xs) h = all_placed P lt x (in_order lt xs) (All-head P x xs h) (all_in_order P lt xs (All-tail P x xs h))

module _ (count functions : ℕ) where
  abbrev Below : List ℕ → Type 0
  Below groups = All (λ g. g < count) groups

  moved_below : (groups : List ℕ) (f : FuncFacts) → length groups ≡ functions → HasCallersBelow functions f → Below groups → Below (move groups f)
  moved_below groups f e callers h = by (is_empty f.periphs)
    where
      stands : (fs : List ℕ) → All (λ c. c < functions) fs → Below (moved_to groups f.index (common_group groups fs))
      stands [] hs = h
      stands (c ∷ cs) hs = pick (list_all (λ k. nat_eq (get_or groups k 0) (get_or groups c 0)) cs)
        where
          pick : (b : Bool) → Below (moved_to groups f.index (cond b (Some (get_or groups c 0)) None))
          pick true = All-set (λ g. g < count) groups f.index (get_or groups c 0) (All-get_or (λ g. g < count) groups c 0 (let low = All-head (λ k. k < functions) c cs hs in omega arith) h) h
          pick false = h

      by : (b : Bool) → Below (cond b (moved_to groups f.index (common_group groups f.callers)) groups)
      by true = stands f.callers callers
      by false = h

  moves_below : (fs : List FuncFacts) (groups : List ℕ) → All (HasCallersBelow functions) fs → length groups ≡ functions → Below groups → Below (fold move groups fs)
  moves_below [] groups hs e h = h
  moves_below (f ∷ fs) groups hs e h =
      moves_below fs (move groups f) (All-tail (HasCallersBelow functions) f fs hs) (length_moved groups f ∙ e)
      (moved_below groups f e (All-head (HasCallersBelow functions) f fs hs) h)

pub optimized_below : (count : ℕ) (fs : List FuncFacts) → AreFunctions fs → All (λ (f : FuncFacts). f.file < count) fs → All (λ g. g < count) (optimized_groups fs)
unfolding optimized_groups
optimized_below count fs functions h =
    moves_below count (length fs) (by_name fs) (filename_groups fs) (all_in_order (HasCallersBelow (length fs)) _ fs functions.callers)
    (length-map fs (λ (f : FuncFacts). f.file)) (filename_below count fs h)

-- ---- lists of peripherals

same_itself : (ns : List ℕ) → same_numbers ns ns ≡ true
same_itself [] = refl
same_itself (n ∷ ns) = ap (λ b. b && same_numbers ns ns) (eq-eqb n n refl) ∙ same_itself ns

fewer_distinct : {X : Type 0} (same : X → X → Bool) (xs : List X) → length (distinct same xs) ≤ length xs
fewer_distinct same [] = omega arith
fewer_distinct same (x ∷ xs) = let few = at_most (λ y. not (same x y)) (distinct same xs) in let ih = fewer_distinct same xs in omega arith

place_at_most : {X : Type 0} (p : X → Bool) (xs : List X) → position_or_len p xs ≤ length xs
place_at_most p [] = omega arith
place_at_most p (x ∷ xs) = by (p x) (place_at_most p xs)
  where
    by : (b : Bool) → position_or_len p xs ≤ length xs → cond (not b) (1 + position_or_len p xs) 0 ≤ suc (length xs)
    by true ih = omega arith
    by false ih = omega arith

-- where one passes, its place is in the list
place_below : {X : Type 0} (p : X → Bool) (xs : List X) → list_any p xs ≡ true → position_or_len p xs < length xs
place_below p xs h =
    let most = place_at_most p xs in
    ⊎_elim (λ e. let wrong : true ≡ false = sym h ∙ (found_any p xs ∙ ap not (eq-eqb (position_or_len p xs) (length xs) e)) in cc) (λ ne. omega (arith, ne)) (cases_eq (position_or_len p xs) (length xs))

pub peripheral_below : (fs : List FuncFacts) → All (λ g. g < length fs) (peripheral_groups fs)
unfolding peripheral_groups
peripheral_below fs =
    All-map (λ g. g < length fs) (λ (f : FuncFacts). position_or_len (λ qs. same_numbers qs f.periphs) (periph_lists fs)) fs (λ k d l. each k d l)
  where
    each : (k : ℕ) (d : FuncFacts) → k < length fs → position_or_len (λ qs. same_numbers qs (get_or fs k d).periphs) (periph_lists fs) < length fs
    each k d l =
        let mine : List ℕ = (get_or fs k d).periphs in
        let item : get_or (map (λ (f : FuncFacts). f.periphs) fs) k mine ≡ mine = get_or-map (λ (f : FuncFacts). f.periphs) fs k d mine l in
        let size = length-map fs (λ (f : FuncFacts). f.periphs) in
        let there : list_any (λ x. same_numbers x mine) (map (λ (f : FuncFacts). f.periphs) fs) ≡ true =
        list_any_at (λ x. same_numbers x mine) (map (λ (f : FuncFacts). f.periphs) fs) k mine (omega arith) (ap (λ x. same_numbers x mine) item ∙ same_itself mine) in
        let found = place_below (λ x. same_numbers x mine) (periph_lists fs) (any_distinct same_numbers (map (λ (f : FuncFacts). f.periphs) fs) mine (λ x z. same_through x z mine) ∙ there) in
        let few = fewer_distinct same_numbers (map (λ (f : FuncFacts). f.periphs) fs) in
        omega arith
