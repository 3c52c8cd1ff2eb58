-- The targets of the calls that needs list: which they are, and that they are there.
use Rattle.std.proofs.Common.{◌≡◌, ℕ, zero, suc, ◌<◌, Bool, true, false, List, [], ◌∷◌, length, get_or, sym, subst, arith}
use Rattle.std.specs.Prelude.{Contains}
use Rattle.std.specs.List.{AllZip, All, list_any}
use Rattle.std.specs.Ordering.{nat_cmp}
use Rattle.std.proofs.lemmas.List.Elements.{Contains-get_or, All-filter, filter_passes}
use Rattle.ir_model.specs.Types.{PlainType}
use Rattle.ir_model.specs.Resolved.{Program, Call, ICall, Here, Does, func_at, here}
use Rattle.ir_model.specs.State.{FunctionObject}
use Rattle.ir_laws.specs.Typed.{HereTyped, Typed}
use Rattle.ir_laws.specs.Sets.{ObjectSets, Register, CallsAt}
use Rattle.plan_model.specs.declared.needs.SiteNeed.{SiteNeed}
use Rattle.plan_model.specs.declared.needs.Needs.{Needs}
use Rattle.plan_model.specs.declared.groups.Groups.{Groups}
use Rattle.plan_model.specs.Lists.{ListsExactly}
use Rattle.plan_model.specs.Calls.{CallPlace, call_places, IsSiteOf}
use Rattle.plan_model.specs.Needs.{AreNeeds}
use Rattle.plan_model.specs.Crossing.{crosses, crossing_sites}
use Rattle.need_laws.specs.Checked.{AreSets}

-- what an item of the second list goes with
paired : {X Y : Type 0} (R : X → Y → Type 0) (xs : List X) (ys : List Y) (k : ℕ) (y : Y) → AllZip R xs ys → k < length ys → get_or ys k y ≡ y → (x : X) × R x y
paired R [] [] k y a lt e = absurd (omega (arith, lt))
paired R [] (z ∷ zs) k y a lt e = absurd a
paired R (x ∷ xs) [] k y a lt e = absurd a
paired R (x ∷ xs) (z ∷ zs) zero y a lt e = (x, subst (λ v. R x v) e a.0)
paired R (x ∷ xs) (z ∷ zs) (suc k) y a lt e = paired R xs zs k y a.1 (omega (arith, lt)) e

-- what may be called at a place
abbrev pub CallsOf : Program → ObjectSets → (f b k : ℕ) → List ℕ → Type 0
CallsOf p S f b k ts = ListsExactly nat_cmp (CallsAt p S f (here p f b k)) ts

-- a site of the needs lists what may be called at its place
pub targets_exactly : (p : Program) (S : ObjectSets) (closed : Bool) (n : Needs) → AreNeeds p S closed n → (s : SiteNeed) → Contains n.sites s
    → CallsOf p S s.func s.block s.inst s.targets
targets_exactly p S closed n needs s c =
    let q = paired (IsSiteOf p S) (call_places p) n.sites c.0 s needs.sites c.1 c.2 in
    let at : CallPlace = q.0 in
    let is : IsSiteOf p S at s = q.1 in
    subst (λ f. CallsOf p S f s.block s.inst s.targets) (sym is.func)
    (subst (λ b. CallsOf p S at.func b s.inst s.targets) (sym is.block) (subst (λ k. CallsOf p S at.func at.block k s.targets) (sym is.inst) is.targets))

pub targets_at : (p : Program) (S : ObjectSets) (closed : Bool) (n : Needs) → AreNeeds p S closed n → (s : SiteNeed) → Contains n.sites s
    → (f b k : ℕ) → s.func ≡ f → s.block ≡ b → s.inst ≡ k → CallsOf p S f b k s.targets
targets_at p S closed n needs s c f b k ef eb ek =
    subst (λ z. CallsOf p S z b k s.targets) ef (subst (λ z. CallsOf p S s.func z k s.targets) eb (subst (λ z. CallsOf p S s.func s.block z s.targets) ek (targets_exactly p S closed n needs s c)))

-- what may be called is there
pub called_there : (p : Program) (sizes : PlainType → ℕ) (S : ObjectSets) → Typed p sizes → AreSets p S → (f b k h : ℕ) → CallsAt p S f (here p f b k) h → h < length p.funcs
called_there p sizes S typed sets f b k h c = by (here p f b k) ((typed.funcs f).code b k) c
  where
    by : (x : Here) → HereTyped p sizes (func_at p f) x → CallsAt p S f x h → h < length p.funcs
    by (Does (Call to g args)) t c = subst (λ z. z < length p.funcs) (sym c) t.0
    by (Does (ICall to r args)) t c = sets.there (Register f r) (FunctionObject h) c.0
    by _ t c = absurd c

pub target_there : (p : Program) (sizes : PlainType → ℕ) (S : ObjectSets) → Typed p sizes → AreSets p S → (closed : Bool) (n : Needs) → AreNeeds p S closed n
    → (s : SiteNeed) → Contains n.sites s → (h : ℕ) → Contains s.targets h → h < length p.funcs
target_there p sizes S typed sets closed n needs s c h i =
    called_there p sizes S typed sets s.func s.block s.inst h ((targets_exactly p S closed n needs s c).each h i)

-- ---- crossing sites

-- each is a site of the needs
pub crossing_listed : (n : Needs) (g : Groups) (s : SiteNeed) → Contains (crossing_sites n g) s → Contains n.sites s
crossing_listed n g s c =
    let all : All (λ x. Contains n.sites x) (crossing_sites n g) = All-filter (crosses g) (λ x. Contains n.sites x) n.sites (λ k d lt. Contains-get_or n.sites k d lt) in
    subst (λ x. Contains n.sites x) c.2 (all c.0 s c.1)

-- and has a target
pub crossing_some : (n : Needs) (g : Groups) (s : SiteNeed) → Contains (crossing_sites n g) s → 0 < length s.targets
crossing_some n g s c = some s (subst (λ x. crosses g x ≡ true) c.2 (filter_passes (crosses g) n.sites c.0 s c.1))
  where
    any : (ts : List ℕ) (test : ℕ → Bool) → list_any test ts ≡ true → 0 < length ts
    any [] test e = absurd (let f : false ≡ true = e in cc)
    any (t ∷ ts) test e = omega arith

    some : (x : SiteNeed) → crosses g x ≡ true → 0 < length x.targets
    some x e = any x.targets _ e
