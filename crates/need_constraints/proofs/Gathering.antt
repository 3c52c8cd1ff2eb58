-- Rules gather demands, one after another.
use Rattle.std.proofs.Common.{◌≡◌, ℕ, ◌+◌, ◌<◌, ◌≤◌, Bool, true, false, cond, List, [], ◌∷◌, ◌++◌, length, get_or, take, map, refl, sym, ap, ◌∙◌, subst, arith, inl, inr, append_assoc}
use Rattle.std.specs.Prelude.{count_by}
use Rattle.std.specs.List.{flat_map, range_with_len}
use Rattle.std.proofs.lemmas.List.{append-nil, map_more, take_all}
use Rattle.std.proofs.lemmas.List.Concat.{flat_map-append}
use Rattle.std.proofs.lemmas.List.Elements.{Contains-append_left, Contains-append_cases, Contains-push}
use Rattle.std.proofs.lemmas.List.Sums.{sum_by-append}
use Rattle.need_sets.specs.Numbers.{GroupCounts}
use Rattle.need_sets.specs.declared.rules.Rules.{Rules}
use Rattle.need_sets.specs.declared.rules.Trigger.TheVariants as trigger
use Rattle.need_sets.specs.Demands.{Demand, HasObject, PassesOn, LoadsTo, StoresFrom, GivesTo, TakesFrom, where_carried}
use Rattle.need_sets.specs.Gathered.{Item, Fact, Copy, Asks, IsNumbered, is_fact, IsAdded, names_object, IsMet, IsAskedBy, Represents, Gathers}
use Rattle.base_laws.proofs.Lists.{only_one as only}
use Rattle.plan_model.proofs.Numbers.{flat_numbers}

pub gathers_none : (c : GroupCounts) (r : Rules) → Gathers c r r []
gathers_none c r = record { more = λ before h. subst (Represents c r) (sym (append-nil before)) h }

pub gathers_more : (c : GroupCounts) (r s t : Rules) (a b : List Demand) → Gathers c r s a → Gathers c s t b → Gathers c r t (a ++ b)
gathers_more c r s t a b x y = record { more = λ before h. subst (Represents c t) (append_assoc before a b) (y.more (before ++ a) (x.more before h)) }

pub gathers_same : (c : GroupCounts) (r s : Rules) (a b : List Demand) → a ≡ b → Gathers c r s a → Gathers c r s b
gathers_same c r s a b e x = subst (Gathers c r s) e x

count_is : (c : GroupCounts) (d : Demand) (x : Item) → IsNumbered c d x → count_by names_object (d ∷ []) ≡ is_fact x
count_is c (HasObject n o) (Fact x) h = refl
count_is c (PassesOn a b) (Copy e) h = refl
count_is c (LoadsTo n to) (Asks i (trigger.Load j)) h = refl
count_is c (StoresFrom n from) (Asks i (trigger.Store j)) h = refl
count_is c (GivesTo n t from k) (Asks i (trigger.Argument u j m)) h = refl
count_is c (TakesFrom n t to) (Asks i (trigger.Outcome u j)) h = refl
count_is c _ _ h = absurd h

pub represents_one : (c : GroupCounts) (r s : Rules) (ds : List Demand) (d : Demand) (x : Item) → IsNumbered c d x → IsAdded r s x → Represents c r ds → Represents c s (ds ++ d ∷ [])
represents_one c r s ds d x n a h = record {
  all = λ e i. elim (Contains-append_cases ds (d ∷ []) e i) [
    | inl j ↦ (let m = h.all e j in record { item = m.item; is = m.is; there = a.kept m.item m.there })
    | inr j ↦ subst (IsMet c s) (only d e j) (record { item = x; is = n; there = a.added })
  ];
  each = λ y i. elim (a.cases y i) [
    | inl j ↦ (let m = h.each y j in record { demand = m.demand; listed = Contains-append_left ds (d ∷ []) m.demand m.listed; is = m.is })
    | inr e ↦ subst (IsAskedBy c (ds ++ d ∷ [])) e (record { demand = d; listed = Contains-push ds d; is = n })
  ];
  facts = (let p = sum_by-append (λ e. cond (names_object e) 1 0) ds (d ∷ []) in let q = count_is c d x n in let b = a.facts in let z = h.facts in omega arith);
}

pub gathers_one : (c : GroupCounts) (r s : Rules) (d : Demand) (x : Item) → IsNumbered c d x → IsAdded r s x → Gathers c r s (d ∷ [])
gathers_one c r s d x n a = record { more = λ before h. represents_one c r s before d x n a h }

-- where values carry objects, and where they do not
pub gathers_carried : (c : GroupCounts) (r s : Rules) (b : Bool) (d : Demand) (x : Item) → b ≡ true → IsNumbered c d x → IsAdded r s x → Gathers c r s (where_carried b d)
gathers_carried c r s b d x e n a = subst (λ y. Gathers c r s (where_carried y d)) (sym e) (gathers_one c r s d x n a)

pub gathers_idle : (c : GroupCounts) (r : Rules) (b : Bool) (d : Demand) → b ≡ false → Gathers c r r (where_carried b d)
gathers_idle c r b d e = subst (λ y. Gathers c r r (where_carried y d)) (sym e) (gathers_none c r)

-- ---- loops

-- a loop over numbers gathers what each asks
pub numbers_more : (c : GroupCounts) (r s t : Rules) (g : ℕ → List Demand) (n : ℕ) → Gathers c r s (flat_map g (range_with_len 0 n)) → Gathers c s t (g n) → Gathers c r t (flat_map g (range_with_len 0 (n + 1)))
numbers_more c r s t g n x y = gathers_same c r t (flat_map g (range_with_len 0 n) ++ g n) (flat_map g (range_with_len 0 (n + 1))) (flat_numbers g n) (gathers_more c r s t (flat_map g (range_with_len 0 n)) (g n) x y)

pub numbers_all : (c : GroupCounts) (r s : Rules) (g : ℕ → List Demand) (n m : ℕ) → n ≡ m → Gathers c r s (flat_map g (range_with_len 0 n)) → Gathers c r s (flat_map g (range_with_len 0 m))
numbers_all c r s g n m e x = subst (λ k. Gathers c r s (flat_map g (range_with_len 0 k))) e x

flat_more : {X Y Z : Type 0} (f : X → Y) (g : Y → List Z) (xs : List X) (i : ℕ) (d : X) → i < length xs
    → flat_map g (map f (take i xs)) ++ g (f (get_or xs i d)) ≡ flat_map g (map f (take (i + 1) xs))
flat_more f g xs i d h =
    sym (ap (flat_map g) (map_more f xs i d h) ∙ (flat_map-append g (map f (take i xs)) (f (get_or xs i d) ∷ []) ∙ ap (λ l. flat_map g (map f (take i xs)) ++ l) (append-nil (g (f (get_or xs i d))))))

-- a loop over a list gathers what each of its items asks
pub items_more : {X Y : Type 0} (c : GroupCounts) (r s t : Rules) (f : X → Y) (g : Y → List Demand) (xs : List X) (i : ℕ) (x : X) → i < length xs → x ≡ get_or xs i x
    → Gathers c r s (flat_map g (map f (take i xs))) → Gathers c s t (g (f x)) → Gathers c r t (flat_map g (map f (take (i + 1) xs)))
items_more c r s t f g xs i x l e a b =
    gathers_same c r t (flat_map g (map f (take i xs)) ++ g (f x)) (flat_map g (map f (take (i + 1) xs)))
    (ap (λ y. flat_map g (map f (take i xs)) ++ g (f y)) e ∙ flat_more f g xs i x l)
    (gathers_more c r s t (flat_map g (map f (take i xs))) (g (f x)) a b)

pub items_all : {X Y : Type 0} (c : GroupCounts) (r s : Rules) (f : X → Y) (g : Y → List Demand) (xs : List X) (i : ℕ) → length xs ≤ i
    → Gathers c r s (flat_map g (map f (take i xs))) → Gathers c r s (flat_map g (map f xs))
items_all c r s f g xs i l x = gathers_same c r s (flat_map g (map f (take i xs))) (flat_map g (map f xs)) (ap (λ l. flat_map g (map f l)) (take_all i xs l)) x
