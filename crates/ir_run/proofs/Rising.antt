-- Frames by their numbers: from the bottom on the numbers rise, so that at most one frame has a number.
use Rattle.std.proofs.Common.{◌≡◌, ℕ, zero, suc, ◌<◌, ◌≤◌, ◌≢◌, List, [], ◌∷◌, ◌++◌, length, get_or, set, map, reverse, true, false, Some, None, Ok, Err, refl, sym, ap, subst, ◌∙◌, arith}
use Rattle.std.specs.List.Sorted.{IsBinarySearchResult, IsNonDecreasingBy}
use Rattle.std.specs.Ordering.{nat_cmp, ordering_index}
use Rattle.std.proofs.lemmas.List.{reverse-append, map-append}
use Rattle.std.proofs.lemmas.Cmp.{ranked}
use Rattle.std.proofs.lemmas.Bool.Decides.{nat_tests}
use Rattle.ir_model.specs.Resolved.{Value}
use Rattle.ir_model.specs.State as state
use Rattle.ir_model.specs.Step.{is_frame, frame_in, with_local}
use Rattle.ir_laws.specs.Laws.{IsOrdered}
use Rattle.ir_program.specs.declared.value.Value.{Value as Held}
use Rattle.ir_program.specs.Values.{value_of}
use Rattle.ir_run.specs.declared.frame.Frame.{Frame}
use Rattle.ir_run.specs.Acts.{frame_of}
use Rattle.ir_run.specs.Found.{IsPlace}
use Rattle.ir_run.proofs.Writing.{written_global}

-- the frames that wait, the one that called last first
abbrev waiting : List Frame → List state.Frame
waiting xs = map frame_of (reverse xs)

-- the bottom frame is the last
waiting-cons : (x : Frame) (xs : List Frame) → waiting (x ∷ xs) ≡ waiting xs ++ frame_of x ∷ []
waiting-cons x xs = ap (map frame_of) (reverse-append (x ∷ []) xs) ∙ map-append frame_of (reverse xs) (x ∷ [])

-- numbers from the bottom on
abbrev pub AreRising : List Frame → Type 0
AreRising xs = (i j : ℕ) (d : Frame) → i < j → j < length xs → (get_or xs i d).number < (get_or xs j d).number

without_last : (m : ℕ) (fs : List state.Frame) (g : state.Frame) → IsOrdered m (fs ++ g ∷ []) → IsOrdered m fs
without_last m [] g o = tt
without_last m (f ∷ fs) g o = (o.0, without_last f.number fs g o.1)

last_two : (m : ℕ) (fs : List state.Frame) (f g : state.Frame) → IsOrdered m ((fs ++ f ∷ []) ++ g ∷ []) → g.number < f.number
last_two m [] f g o = o.1.0
last_two m (e ∷ fs) f g o = last_two e.number fs f g o.1

-- the bottom frame has the least number
bottom_least : (m : ℕ) (x : Frame) (xs : List Frame) → IsOrdered m (waiting xs ++ frame_of x ∷ []) → (k : ℕ) (d : Frame) → k < length xs → x.number < (get_or xs k d).number
bottom_least m x [] o k d l = absurd (omega arith)
bottom_least m x (y ∷ xs) o zero d l =
    last_two m (waiting xs) (frame_of y) (frame_of x) (subst (λ fs. IsOrdered m (fs ++ frame_of x ∷ [])) (waiting-cons y xs) o)
bottom_least m x (y ∷ xs) o (suc k) d l =
    let split : IsOrdered m ((waiting xs ++ frame_of y ∷ []) ++ frame_of x ∷ []) = subst (λ fs. IsOrdered m (fs ++ frame_of x ∷ [])) (waiting-cons y xs) o in
    let below : x.number < y.number = last_two m (waiting xs) (frame_of y) (frame_of x) split in
    let above : y.number < (get_or xs k d).number = bottom_least m y xs (without_last m (waiting xs ++ frame_of y ∷ []) (frame_of x) split) k d (omega arith) in
    omega (arith, below, above)

rising : (m : ℕ) (xs : List Frame) → IsOrdered m (waiting xs) → AreRising xs
rising m [] o i j d l h = absurd (omega arith)
rising m (x ∷ xs) o i zero d l h = absurd (omega arith)
rising m (x ∷ xs) o zero (suc j) d l h = bottom_least m x xs (subst (IsOrdered m) (waiting-cons x xs) o) j d (omega arith)
rising m (x ∷ xs) o (suc i) (suc j) d l h =
    rising m xs (without_last m (waiting xs) (frame_of x) (subst (IsOrdered m) (waiting-cons x xs) o)) i j d (omega arith) (omega arith)

module _ (f n : ℕ) where
  -- look-ups and writes in frames that stand in front of others
  found_behind : (fs gs : List state.Frame) → frame_in fs f n ≡ None → frame_in (fs ++ gs) f n ≡ frame_in gs f n
  found_behind [] gs e = refl
  found_behind (x ∷ fs) gs e = let ih = found_behind fs gs in grind (arith, nat_tests)

  found_before : (fs gs : List state.Frame) (h : state.Frame) → frame_in fs f n ≡ Some h → frame_in (fs ++ gs) f n ≡ Some h
  found_before [] gs h e = cc
  found_before (x ∷ fs) gs h e = let ih = found_before fs gs h in grind (arith, nat_tests)

  written_behind : (l : ℕ) (vs : List Value) (fs gs : List state.Frame) → frame_in fs f n ≡ None → with_local (fs ++ gs) f n l vs ≡ fs ++ with_local gs f n l vs
  written_behind l vs [] gs e = refl
  written_behind l vs (x ∷ fs) gs e = let ih = written_behind l vs fs gs in grind (arith, nat_tests)

  written_before : (l : ℕ) (vs : List Value) (fs gs : List state.Frame) (h : state.Frame) → frame_in fs f n ≡ Some h → with_local (fs ++ gs) f n l vs ≡ with_local fs f n l vs ++ gs
  written_before l vs [] gs h e = cc
  written_before l vs (x ∷ fs) gs h e = let ih = written_before l vs fs gs h in grind (arith, nat_tests)

  -- no frame is the one looked for
  none_found : (xs : List Frame) → ((k : ℕ) (d : Frame) → k < length xs → is_frame (frame_of (get_or xs k d)) f n ≡ false) → frame_in (waiting xs) f n ≡ None
  none_found [] others = refl
  none_found (x ∷ xs) others =
      let none : frame_in (waiting xs) f n ≡ None = none_found xs (λ k d l. others (suc k) d (omega arith)) in
      rw (waiting-cons x xs, found_behind (waiting xs) (frame_of x ∷ []) none, others 0 x (omega arith))

  -- the frame at a place is the one looked for, and none above it is
  found_at : (xs : List Frame) (i : ℕ) → i < length xs → ((d : Frame) → is_frame (frame_of (get_or xs i d)) f n ≡ true)
      → ((k : ℕ) (d : Frame) → i < k → k < length xs → is_frame (frame_of (get_or xs k d)) f n ≡ false)
      → (d : Frame) → frame_in (waiting xs) f n ≡ Some (frame_of (get_or xs i d))
  found_at [] i l is others d = absurd (omega arith)
  found_at (x ∷ xs) zero l is others d =
      let none : frame_in (waiting xs) f n ≡ None = none_found xs (λ k d l. others (suc k) d (omega arith) (omega arith)) in
      rw (waiting-cons x xs, found_behind (waiting xs) (frame_of x ∷ []) none, is x)
  found_at (x ∷ xs) (suc i) l is others d =
      let here : frame_in (waiting xs) f n ≡ Some (frame_of (get_or xs i d)) = found_at xs i (omega arith) is (λ k d a b. others (suc k) d (omega arith) (omega arith)) d in
      ap (λ fs. frame_in fs f n) (waiting-cons x xs) ∙ found_before (waiting xs) (frame_of x ∷ []) (frame_of (get_or xs i d)) here

  written_at : (xs : List Frame) (i : ℕ) → i < length xs → ((d : Frame) → is_frame (frame_of (get_or xs i d)) f n ≡ true)
      → ((k : ℕ) (d : Frame) → i < k → k < length xs → is_frame (frame_of (get_or xs k d)) f n ≡ false)
      → (d : Frame) (y : Frame) (l : ℕ) (vs : List Value) → frame_of y ≡ record (frame_of (get_or xs i d)) { locals = set (map (map value_of) (get_or xs i d).locals) l vs }
      → waiting (set xs i y) ≡ with_local (waiting xs) f n l vs
  written_at [] i l is others d y k vs e = absurd (omega arith)
  written_at (x ∷ xs) zero l is others d y k vs e =
      let none : frame_in (waiting xs) f n ≡ None = none_found xs (λ k d l. others (suc k) d (omega arith) (omega arith)) in
      waiting-cons y xs
      ∙ (ap (λ fr. waiting xs ++ fr ∷ []) e
      ∙ rw (waiting-cons x xs, written_behind k vs (waiting xs) (frame_of x ∷ []) none, is x))
  written_at (x ∷ xs) (suc i) l is others d y k vs e =
      let above : (k : ℕ) (d : Frame) → i < k → k < length xs → is_frame (frame_of (get_or xs k d)) f n ≡ false = λ k d a b. others (suc k) d (omega arith) (omega arith) in
      let here : frame_in (waiting xs) f n ≡ Some (frame_of (get_or xs i d)) = found_at xs i (omega arith) is above d in
      waiting-cons x (set xs i y)
      ∙ (ap (λ fs. fs ++ frame_of x ∷ []) (written_at xs i (omega arith) is above d y k vs e)
      ∙ (sym (written_before k vs (waiting xs) (frame_of x ∷ []) (frame_of (get_or xs i d)) here)
      ∙ ap (λ fs. with_local fs f n k vs) (sym (waiting-cons x xs))))

  module _ (xs : List Frame) (m : ℕ) (ordered : IsOrdered m (waiting xs)) where
    -- at the place of the number no other frame has it
    others_differ : (i : ℕ) → i < length xs → ((d : Frame) → (get_or xs i d).number ≡ n) → (k : ℕ) (d : Frame) → i < k → k < length xs → is_frame (frame_of (get_or xs k d)) f n ≡ false
    others_differ i l same k d a b =
        let e : (get_or xs i d).number ≡ n = same d in
        let above : (get_or xs i d).number < (get_or xs k d).number = rising m xs ordered i k d a b in
        grind (arith, nat_tests)

    pub is_place : (i : ℕ) → i < length xs → ((d : Frame) → (get_or xs i d).number ≡ n) → ((d : Frame) → (get_or xs i d).func ≡ f) → IsPlace xs f n i
    is_place i l number func =
        let is : (d : Frame) → is_frame (frame_of (get_or xs i d)) f n ≡ true = λ d. let e : (get_or xs i d).number ≡ n = number d in let g : (get_or xs i d).func ≡ f = func d in grind (arith, nat_tests) in
        record {
          inside = l;
          found = found_at xs i l is (others_differ i l number);
          written = written_at xs i l is (others_differ i l number);
        }

    -- the place has the number, but its frame is of another function
    pub none_of_function : (i : ℕ) → i < length xs → ((d : Frame) → (get_or xs i d).number ≡ n) → ((d : Frame) → (get_or xs i d).func ≢ f) → frame_in (waiting xs) f n ≡ None
    none_of_function i l number func = none_found xs (λ k d a.
        let e : (get_or xs i d).number ≡ n = number d in
        let g : (get_or xs i d).func ≢ f = func d in
        let lower : k < i → (get_or xs k d).number < (get_or xs i d).number = λ b. rising m xs ordered k i d b l in
        let higher : i < k → (get_or xs i d).number < (get_or xs k d).number = λ b. rising m xs ordered i k d b a in
        let equal : k ≡ i → (get_or xs k d).func ≡ (get_or xs i d).func = λ b. ap (λ j. (get_or xs j d).func) b in
        grind (arith, nat_tests))

    -- a search by number that ends between two places finds no frame
    comparisons_rise : IsNonDecreasingBy (λ (y : Frame). ordering_index (nat_cmp y.number n)) xs
    comparisons_rise i j d a l =
        let up : i < j → (get_or xs i d).number < (get_or xs j d).number = λ b. rising m xs ordered i j d b l in
        let equal : i ≡ j → (get_or xs i d).number ≡ (get_or xs j d).number = λ b. ap (λ k. (get_or xs k d).number) b in
        let le : (get_or xs i d).number ≤ (get_or xs j d).number = grind arith in
        grind (arith, nat_tests)

    pub none_at_gap : (i : ℕ) → IsBinarySearchResult (λ (y : Frame). nat_cmp y.number n) xs (Err i) → frame_in (waiting xs) f n ≡ None
    none_at_gap i r = none_found xs (λ k d a.
        let lower : k < i → (get_or xs k d).number < n = λ b. ranked _ n _ (sym ((r comparisons_rise).0 k d (omega arith) b)) in
        let higher : i ≤ k → n < (get_or xs k d).number = λ b. ranked _ n _ (sym ((r comparisons_rise).1 k d b a)) in
        grind (arith, nat_tests))

-- the element that a search finds has the number
pub number_at : (xs : List Frame) (n i : ℕ) → IsBinarySearchResult (λ (y : Frame). nat_cmp y.number n) xs (Ok i) → (d : Frame) → (get_or xs i d).number ≡ n
number_at xs n i r d = ranked _ n _ (sym (r d))

-- a write of a cell of a local of the frame at a place
pub put_at : (xs : List Frame) (f n i l k : ℕ) (v : Held) (x : Frame) (locals : List (List Held)) → IsPlace xs f n i → x ≡ get_or xs i x → locals ≡ set x.locals l (set (get_or x.locals l []) k v)
    → (held : state.Frame) → frame_in (waiting xs) f n ≡ Some held
    → map frame_of (reverse (set xs i (record x { locals = locals }))) ≡ with_local (waiting xs) f n l (set (get_or held.locals l []) k (value_of v))
put_at xs f n i l k v x locals place e w held h =
    let vs : List Value = set (get_or held.locals l []) k (value_of v) in
    let found : Some (frame_of (get_or xs i x)) ≡ Some held = sym (place.found x) ∙ h in
    let at : frame_of (get_or xs i x) ≡ held = cc in
    let same : frame_of x ≡ held = ap frame_of e ∙ at in
    let cell : map (map value_of) locals ≡ set (map (map value_of) x.locals) l vs =
    written_global x.locals locals l k v w
    ∙ ap (λ (fr : state.Frame). set (map (map value_of) x.locals) l (set (get_or fr.locals l []) k (value_of v))) same in
    place.written x (record x { locals = locals }) l vs
    (ap (λ ls. record (frame_of x) { locals = ls }) cell
    ∙ ap (λ (z : Frame). record (frame_of z) { locals = set (map (map value_of) z.locals) l vs }) e)
