-- The frames of a state are a call path, and where no function that is reached reaches itself they are of functions that differ.
use Rattle.std.proofs.Common.{◌≡◌, ℕ, ◌+◌, Bool, true, false, ◌&&◌, List, [], ◌∷◌, ◌++◌, Option, Some, None, nat_eq, refl, sym, subst, ◌∙◌, inl, inr, zero-add}
use Rattle.std.specs.Prelude.{Contains, get_or}
use Rattle.std.proofs.lemmas.Bool.{eqb-true, and_parts}
use Rattle.std.proofs.lemmas.List.{get_or_default}
use Rattle.std.proofs.lemmas.List.Quantifiers.{position-Some}
use Rattle.ir_model.specs.Types.{PlainType}
use Rattle.ir_model.specs.Resolved.{Program, here}
use Rattle.ir_model.specs.State.{Frame}
use Rattle.ir_laws.specs.Sets.{ObjectSets, CallsAt}
use Rattle.ir_laws.specs.States.{FramesFit}
use Rattle.ir_laws.specs.Moves.{Where, wheres}
use Rattle.plan_model.specs.declared.needs.SiteNeed.{SiteNeed}
use Rattle.plan_model.specs.declared.needs.Needs.{Needs}
use Rattle.plan_model.specs.declared.groups.Groups.{Groups}
use Rattle.plan_model.specs.Calls.{IsSiteOf, call_places}
use Rattle.plan_model.specs.Needs.{AreNeeds}
use Rattle.plan_model.specs.Crossing.{crosses, crossing_sites, stands_at, site_number}
use Rattle.need_laws.specs.Reached.{HasTarget}
use Rattle.need_laws.proofs.Listed.{call_has_target}
use Rattle.need_laws.proofs.Inside.{stands_here}
use Rattle.need_lists.proofs.Members.{filtered, from_filter, none_found, comes_of}
use Rattle.refine_model.specs.StackLimit.{site_of}
use Rattle.refine_stack.specs.Paths.{Calls, frame_bytes, taken_above, IsPath}
use Rattle.refine_stack.specs.Cycles.{Joins, IsWalk, IsReached, HasNoCycle}
use Rattle.aces_stack.proofs.Loans.{AreOthers, Differ}

-- ---- sites at a place

-- the parts of a place
pub record StandsAt (f b k : ℕ) (s : SiteNeed) : Type 0 where
  pub func : s.func ≡ f
  pub block : s.block ≡ b
  pub inst : s.inst ≡ k

stands_parts : (f b k : ℕ) (s : SiteNeed) → stands_at f b k s ≡ true → StandsAt f b k s
stands_parts f b k s h =
    let x = and_parts (nat_eq s.func f) (nat_eq s.block b && nat_eq s.inst k) h in
    let y = and_parts (nat_eq s.block b) (nat_eq s.inst k) x.1 in
    record { func = eqb-true s.func f x.0; block = eqb-true s.block b y.0; inst = eqb-true s.inst k y.1 }

-- whether a number stands there
abbrev pub has_number : Option ℕ → Bool
has_number None = false
has_number (Some i) = true

module _ (p : Program) (S : ObjectSets) (closed : Bool) (n : Needs) (g : Groups) (needs : AreNeeds p S closed n) where
  -- every site at a place has each target of the call there
  targets_at : (f b k h : ℕ) (s : SiteNeed) → CallsAt p S f (here p f b k) h → Contains n.sites s → StandsAt f b k s → Contains s.targets h
  targets_at f b k h s calls listed at =
      let c = comes_of (IsSiteOf p S) s (call_places p) n.sites needs.sites listed in
      let r = c.related in
      let ef : f ≡ c.other.func = sym at.func ∙ r.func in
      let eb : b ≡ c.other.block = sym at.block ∙ r.block in
      let ek : k ≡ c.other.inst = sym at.inst ∙ r.inst in
      r.targets.all h
      (subst (λ (i : ℕ). CallsAt p S c.other.func (here p c.other.func c.other.block i) h) ek
      (subst (λ (i : ℕ). CallsAt p S c.other.func (here p c.other.func i k) h) eb
      (subst (λ (i : ℕ). CallsAt p S i (here p i b k) h) ef calls)))

  -- a call is one of `Calls`, by whether its place is a crossing site's
  call_is : (f b k h : ℕ) → CallsAt p S f (here p f b k) h → (x : Option ℕ) → site_number n g f b k ≡ x → Calls n g f h (has_number x)
  unfolding site_number
  call_is f b k h calls None e = by (crosses g t.site) refl
    where
      t : HasTarget n f b k h
      t = call_has_target p S closed n needs f b k h calls

      by : (c : Bool) → crosses g t.site ≡ c → Calls n g f h false
      by true q = absurd (none_found (stands_at f b k) t.site (crossing_sites n g) e (filtered (crosses g) t.site n.sites t.listed q) (stands_here f b k t.site t.func t.block t.inst))
      by false q = record { site = t.site; listed = t.listed; func = t.func; target = t.target; goes = q }
  call_is f b k h calls (Some i) e =
      let t = call_has_target p S closed n needs f b k h calls in
      let found = position-Some (stands_at f b k) (crossing_sites n g) i t.site e in
      let s : SiteNeed = get_or (crossing_sites n g) i t.site in
      let inside : Contains (crossing_sites n g) s = (i, found.0, get_or_default (crossing_sites n g) i s t.site found.0) in
      let parts = from_filter (crosses g) s n.sites inside in
      let at = stands_parts f b k s found.1 in
      record { site = s; listed = parts.0; func = at.func; target = targets_at f b k h s calls parts.0 at; goes = parts.1 }

  joins : (f b k h : ℕ) → CallsAt p S f (here p f b k) h → Joins n f h
  joins f b k h calls =
      let t = call_has_target p S closed n needs f b k h calls in
      record { site = t.site; listed = t.listed; func = t.func; target = t.target }

-- ---- walks

module _ (J : ℕ → ℕ → Type 0) where
  pub walk_on : (f : ℕ) (xs : List ℕ) (h k : ℕ) → IsWalk J f xs h → J h k → IsWalk J f (xs ++ h ∷ []) k
  walk_on f [] h k w j = (w, j)
  walk_on f (x ∷ xs) h k w j = (w.0, walk_on x xs h k w.1 j)

  pub reached_on : (main f h : ℕ) → IsReached J main f → J f h → IsReached J main h
  reached_on main f h (inl e) j = inr ([], subst (λ (i : ℕ). J i h) e j)
  reached_on main f h (inr w) j = inr (w.0 ++ f ∷ [], walk_on main w.0 f h w.1 j)

-- ---- frames

module _ (p : Program) (z : PlainType → ℕ) (S : ObjectSets) (closed : Bool) (n : Needs) (g : Groups) (stack : ℕ) (needs : AreNeeds p S closed n) where
  abbrev pub taken_by : Option ℕ → ℕ → ℕ
  taken_by x t = taken_above stack (has_number x) t

  -- what frames take
  abbrev pub taken : List Where → ℕ
  taken [] = 0
  taken (w ∷ ws) = taken_by (site_of p n g stack ws) (taken ws) + frame_bytes p w.func

  abbrev pub funcs : List Frame → List ℕ
  funcs [] = []
  funcs (fr ∷ rest) = fr.func ∷ funcs rest

  pub frames_are_path : (fr : Frame) (rest : List Frame) → FramesFit p z S (fr ∷ rest) → IsPath p n g stack (funcs (fr ∷ rest)) (taken (wheres (fr ∷ rest)))
  frames_are_path fr [] fit = (fit.1, zero-add (frame_bytes p fr.func))
  frames_are_path fr (c ∷ rest) fit =
      let x = site_number n g c.func c.block c.place in
      (has_number x, taken (wheres (c ∷ rest)), call_is p S closed n g needs c.func c.block c.place fr.func fit.1.calls x refl, frames_are_path c rest fit.2, refl)

  frame_joins : (fr c : Frame) (rest : List Frame) → FramesFit p z S (fr ∷ c ∷ rest) → Joins n c.func fr.func
  frame_joins fr c rest fit = joins p S closed n g needs c.func c.block c.place fr.func fit.1.calls

  pub frames_are_reached : (fr : Frame) (rest : List Frame) → FramesFit p z S (fr ∷ rest) → IsReached (Joins n) p.main fr.func
  frames_are_reached fr [] fit = inl fit.1
  frames_are_reached fr (c ∷ rest) fit = reached_on (Joins n) p.main c.func fr.func (frames_are_reached c rest fit.2) (frame_joins fr c rest fit)

  -- no waiting frame is of a function that does not come to itself
  others : (fr : Frame) (rest : List Frame) (h : ℕ) → FramesFit p z S (fr ∷ rest) → ((xs : List ℕ) → IsWalk (Joins n) h xs h → ⊥) → (xs : List ℕ) → IsWalk (Joins n) fr.func xs h → AreOthers h (wheres rest)
  others fr [] h fit apart xs w = tt
  others fr (c ∷ rest) h fit apart xs w =
      let j = frame_joins fr c rest fit in
      ((λ e. apart (fr.func ∷ xs) (subst (λ (i : ℕ). Joins n i fr.func) e j, w)), others c rest h fit.2 apart (fr.func ∷ xs) (j, w))

  others_below : (fr : Frame) (rest : List Frame) → FramesFit p z S (fr ∷ rest) → ((xs : List ℕ) → IsWalk (Joins n) fr.func xs fr.func → ⊥) → AreOthers fr.func (wheres rest)
  others_below fr [] fit apart = tt
  others_below fr (c ∷ rest) fit apart =
      let j = frame_joins fr c rest fit in
      ((λ e. apart [] (subst (λ (i : ℕ). Joins n i fr.func) e j)), others c rest fr.func fit.2 apart [] j)

  pub frames_differ : HasNoCycle (Joins n) p.main → (fs : List Frame) → FramesFit p z S fs → Differ (wheres fs)
  frames_differ none [] fit = tt
  frames_differ none (fr ∷ rest) fit =
      (others_below fr rest fit (λ xs w. none fr.func (frames_are_reached fr rest fit) (xs, w)), frames_differ none rest fit.2)
