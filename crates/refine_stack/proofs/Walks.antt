-- Walks by calls that join the same functions.
use Rattle.std.proofs.Common.{ℕ, inl, inr, List, [], ◌∷◌}
use Rattle.refine_stack.specs.Cycles.{IsWalk, IsReached, HasNoCycle, IsFirst, IsCycle}

module _ (J K : ℕ → ℕ → Type 0) (to : (f h : ℕ) → J f h → K f h) (back : (f h : ℕ) → K f h → J f h) where
  pub walk_to : (f : ℕ) (xs : List ℕ) (h : ℕ) → IsWalk J f xs h → IsWalk K f xs h
  walk_to f [] h w = to f h w
  walk_to f (x ∷ xs) h w = (to f x w.0, walk_to x xs h w.1)

  pub walk_back : (f : ℕ) (xs : List ℕ) (h : ℕ) → IsWalk K f xs h → IsWalk J f xs h
  walk_back f [] h w = back f h w
  walk_back f (x ∷ xs) h w = (back f x w.0, walk_back x xs h w.1)

  reached_to : (main f : ℕ) → IsReached J main f → IsReached K main f
  reached_to main f (inl e) = inl e
  reached_to main f (inr w) = inr (w.0, walk_to main w.0 f w.1)

  reached_back : (main f : ℕ) → IsReached K main f → IsReached J main f
  reached_back main f (inl e) = inl e
  reached_back main f (inr w) = inr (w.0, walk_back main w.0 f w.1)

  first_to : (f : ℕ) (xs : List ℕ) (h : ℕ) → IsFirst J f xs h → IsFirst K f xs h
  first_to f [] h w = tt
  first_to f (x ∷ xs) h w = ((λ y ys j k e. w.0 y ys (back f y j) (walk_back y ys h k) e), first_to x xs h w.1)

  pub cycle_to : (main : ℕ) (path : List ℕ) → IsCycle J main path → IsCycle K main path
  cycle_to main path c = record {
    func = c.func;
    between = c.between;
    is = c.is;
    reached = reached_to main c.func c.reached;
    walk = walk_to c.func c.between c.func c.walk;
    lowest = λ f r s. c.lowest f (reached_back main f r) (s.0, walk_back f s.0 f s.1);
    shortest = λ xs w. c.shortest xs (walk_back c.func xs c.func w);
    first = first_to c.func c.between c.func c.first;
  }

  pub none_to : (main : ℕ) → HasNoCycle J main → HasNoCycle K main
  none_to main none f r s = none f (reached_back main f r) (s.0, walk_back f s.0 f s.1)
