-- Areas of RAM that lie apart, and what stays in them.
use Rattle.std.proofs.Common.{◌≡◌, ℕ, zero, suc, ◌+◌, ◌<◌, ◌≤◌, List, [], ◌∷◌, ◌++◌, length, get_or, set, refl, ap, ◌∙◌, subst, arith, inl, inr, ⊎_elim}
use Rattle.base_words.specs.Bytes.{read, write, cut}
use Rattle.base_words.proofs.Bytes.{length-write, read_below, read_above, read_same}
use Rattle.refine.specs.Areas.{Area, Beside, Laid, Has, IsAt, Inside, Off, IsWordIn}
use Rattle.base_laws.specs.Lists.{Each}
use Rattle.base_laws.proofs.Lists.{each_both, each_to}
use Rattle.refine.proofs.Joined.{get_front as get_join}

-- ---- words stay where what changes keeps off

-- reads of areas of a list are the same
abbrev pub Alike : (old new : List ℕ) → List Area → Type 0
Alike old new cs = Each (λ (c : Area). read c.width c.at new ≡ read c.width c.at old) cs

pub has_alike : (cs : List Area) (vs : List ℕ) (old new : List ℕ) → length new ≡ length old → Alike old new cs → Has old cs vs → Has new cs vs
has_alike [] [] old new l a h = tt
has_alike [] (v ∷ vs) old new l a h = h
has_alike (c ∷ cs) [] old new l a h = h
has_alike (c ∷ cs) (v ∷ vs) old new l a h = (a.0 ∙ h.0, omega (arith, h.1), has_alike cs vs old new l a.1 h.2)

kept_beside : (c : Area) (cs : List Area) (vs : List ℕ) (v : ℕ) (ram : List ℕ) → Each (Beside c) cs → Has ram cs vs → Has (write c.width c.at v ram) cs vs
kept_beside c [] [] v ram b h = tt
kept_beside c [] (x ∷ xs) v ram b h = h
kept_beside c (d ∷ ds) [] v ram b h = h
kept_beside c (d ∷ ds) (x ∷ xs) v ram b h = (
  ⊎_elim (λ l. read_above d.width d.at c.width c.at v ram l) (λ l. read_below d.width d.at c.width c.at v ram l) b.0 ∙ h.0,
  (let l = length-write c.width c.at v ram in omega (arith, h.1)),
  kept_beside c ds xs v ram b.1 h.2,
)

beside_at : (c : Area) (cs : List Area) (k : ℕ) (d : Area) → Each (Beside c) cs → IsAt cs k d → Beside c d
beside_at c [] k d b i = absurd i
beside_at c (e ∷ es) zero d b i = subst (λ y. Beside c y) i b.0
beside_at c (e ∷ es) (suc k) d b i = beside_at c es k d b.1 i

-- one store, to whatever the k-th area is
pub stored : (cs : List Area) (vs : List ℕ) (k : ℕ) (c : Area) (v : ℕ) (ram : List ℕ) → Laid cs → Has ram cs vs → IsAt cs k c → Has (write c.width c.at v ram) cs (set vs k v)
stored [] vs k c v ram l h i = absurd i
stored (d ∷ ds) [] k c v ram l h i = absurd h
stored (d ∷ ds) (x ∷ xs) zero c v ram l h i =
    subst (λ y. Has (write y.width y.at v ram) (d ∷ ds) (v ∷ xs)) i (read_same d.width d.at v ram h.1, (let e = length-write d.width d.at v ram in omega (arith, h.1)), kept_beside d ds xs v ram l.0 h.2)
stored (d ∷ ds) (x ∷ xs) (suc k) c v ram l h i =
    let b = beside_at d ds k c l.0 i in
    let e = length-write c.width c.at v ram in (
      ⊎_elim (λ q. read_below d.width d.at c.width c.at v ram q) (λ q. read_above d.width d.at c.width c.at v ram q) b ∙ h.0,
      omega (arith, h.1),
      stored ds xs k c v ram l.1 h.2 i,
    )

-- one load
pub loaded : (cs : List Area) (vs : List ℕ) (k : ℕ) (c : Area) (ram : List ℕ) → Has ram cs vs → IsAt cs k c → read c.width c.at ram ≡ cut c.width (get_or vs k 0)
loaded [] vs k c ram h i = absurd i
loaded (d ∷ ds) [] k c ram h i = absurd h
loaded (d ∷ ds) (x ∷ xs) zero c ram h i = subst (λ y. read y.width y.at ram ≡ cut y.width x) i h.0
loaded (d ∷ ds) (x ∷ xs) (suc k) c ram h i = loaded ds xs k c ram h.2 i

pub stored_spot : (cs : List Area) (vs us : List ℕ) (c : Area) (old new : ℕ) (ram : List ℕ) → Laid cs → Has ram cs vs → IsWordIn cs vs c old new us → Has (write c.width c.at new ram) cs us
stored_spot cs vs us c old new ram l h s = subst (λ (x : List ℕ). Has (write c.width c.at new ram) cs x) s.sets (stored cs vs s.index c new ram l h s.is_at)

pub loaded_spot : (cs : List Area) (vs us : List ℕ) (c : Area) (old new : ℕ) (ram : List ℕ) → Has ram cs vs → IsWordIn cs vs c old new us → read c.width c.at ram ≡ cut c.width old
loaded_spot cs vs us c old new ram h s = loaded cs vs s.index c ram h s.is_at ∙ ap (λ (x : ℕ). cut c.width x) s.holds

-- ---- lists behind lists

pub has_join : (cs ds : List Area) (vs xs : List ℕ) (ram : List ℕ) → Has ram cs vs → Has ram ds xs → Has ram (cs ++ ds) (vs ++ xs)
has_join [] ds [] xs ram h g = g
has_join [] ds (v ∷ vs) xs ram h g = absurd h
has_join (c ∷ cs) ds [] xs ram h g = absurd h
has_join (c ∷ cs) ds (v ∷ vs) xs ram h g = (h.0, h.1, has_join cs ds vs xs ram h.2 g)

pub has_rest : (cs ds : List Area) (vs xs : List ℕ) (ram : List ℕ) → length cs ≡ length vs → Has ram (cs ++ ds) (vs ++ xs) → Has ram ds xs
has_rest [] ds [] xs ram l h = h
has_rest [] ds (v ∷ vs) xs ram l h = absurd (omega arith)
has_rest (c ∷ cs) ds [] xs ram l h = absurd (omega arith)
has_rest (c ∷ cs) ds (v ∷ vs) xs ram l h = has_rest cs ds vs xs ram (omega arith) h.2

-- what lies inside a range lies apart from what keeps off it
pub laid_join : (lo hi : ℕ) (cs ds : List Area) → Laid cs → Laid ds → Each (Inside lo hi) cs → Each (Off lo hi) ds → Laid (cs ++ ds)
laid_join lo hi [] ds a b i f = b
laid_join lo hi (c ∷ cs) ds a b i f = (
  each_both (Beside c) cs ds a.0 (each_to (Off lo hi) (Beside c) ds (λ d o. ⊎_elim (λ y. inr (omega (arith, i.0))) (λ y. inl (omega (arith, i.0))) o) f),
  laid_join lo hi cs ds a.1 b i.1 f,
)

-- ---- spots

at_join : (cs ds : List Area) (k : ℕ) (c : Area) → IsAt cs k c → IsAt (cs ++ ds) k c
at_join [] ds k c i = absurd i
at_join (d ∷ cs) ds zero c i = i
at_join (d ∷ cs) ds (suc k) c i = at_join cs ds k c i

at_least : (cs : List Area) (k : ℕ) (c : Area) → IsAt cs k c → k < length cs
at_least [] k c i = absurd i
at_least (d ∷ cs) zero c i = omega arith
at_least (d ∷ cs) (suc k) c i = let e = at_least cs k c i in omega arith

at_skip : (cs ds : List Area) (k : ℕ) (c : Area) → IsAt ds k c → IsAt (cs ++ ds) (length cs + k) c
at_skip [] ds k c i = let e : k ≡ 0 + k = omega arith in subst (λ (n : ℕ). IsAt ds n c) e i
at_skip (d ∷ cs) ds k c i = let e : suc (length cs + k) ≡ suc (length cs) + k = omega arith in subst (λ (n : ℕ). IsAt ((d ∷ cs) ++ ds) n c) e (at_skip cs ds k c i)

set_join : (vs xs : List ℕ) (k v : ℕ) → k < length vs → set (vs ++ xs) k v ≡ set vs k v ++ xs
set_join [] xs k v h = absurd (omega arith)
set_join (x ∷ vs) xs zero v h = refl
set_join (x ∷ vs) xs (suc k) v h = ap (λ l. x ∷ l) (set_join vs xs k v (omega arith))

set_skip : (xs ys : List ℕ) (i v : ℕ) → set (xs ++ ys) (length xs + i) v ≡ xs ++ set ys i v
set_skip [] ys i v = let e : 0 + i ≡ i = omega arith in ap (λ (n : ℕ). set ys n v) e
set_skip (x ∷ xs) ys i v = let e : suc (length xs) + i ≡ suc (length xs + i) = omega arith in ap (λ (n : ℕ). set (x ∷ xs ++ ys) n v) e ∙ ap (λ l. x ∷ l) (set_skip xs ys i v)

get_skip : (xs ys : List ℕ) (i : ℕ) → get_or (xs ++ ys) (length xs + i) 0 ≡ get_or ys i 0
get_skip [] ys i = let e : 0 + i ≡ i = omega arith in ap (λ (n : ℕ). get_or ys n 0) e
get_skip (x ∷ xs) ys i = let e : suc (length xs) + i ≡ suc (length xs + i) = omega arith in ap (λ (n : ℕ). get_or (x ∷ xs ++ ys) n 0) e ∙ get_skip xs ys i

pub spot_front : (cs ds : List Area) (vs xs us : List ℕ) (c : Area) (old new : ℕ) → length cs ≡ length vs → IsWordIn cs vs c old new us → IsWordIn (cs ++ ds) (vs ++ xs) c old new (us ++ xs)
spot_front cs ds vs xs us c old new l s =
    let b = at_least cs s.index c s.is_at in
    record {
      index = s.index;
      is_at = at_join cs ds s.index c s.is_at;
      holds = get_join vs xs s.index (omega arith) ∙ s.holds;
      sets = set_join vs xs s.index new (omega arith) ∙ ap (λ (z : List ℕ). z ++ xs) s.sets;
    }

pub spot_back : (cs ds : List Area) (vs xs us : List ℕ) (c : Area) (old new : ℕ) → length cs ≡ length vs → IsWordIn ds xs c old new us → IsWordIn (cs ++ ds) (vs ++ xs) c old new (vs ++ us)
spot_back cs ds vs xs us c old new l s =
    record {
      index = length cs + s.index;
      is_at = at_skip cs ds s.index c s.is_at;
      holds = ap (λ (n : ℕ). get_or (vs ++ xs) (n + s.index) 0) l ∙ get_skip vs xs s.index ∙ s.holds;
      sets = ap (λ (n : ℕ). set (vs ++ xs) (n + s.index) new) l ∙ set_skip vs xs s.index new ∙ ap (λ (z : List ℕ). vs ++ z) s.sets;
    }

-- ---- bytes that are zero

pub read_zero : (w a : ℕ) (m : List ℕ) → ((i : ℕ) → i < w → read 1 (a + i) m ≡ 0) → read w a m ≡ 0
unfolding read
read_zero zero a m h = refl
read_zero (suc w) a m h =
    let e = h 0 (omega arith) in
    let z : a + 0 ≡ a = omega arith in
    let e2 = rw z at e in
    let r = read_zero w (a + 1) m (λ i lt. let q : a + 1 + i ≡ a + suc i = omega arith in rw q (h (suc i) (omega arith))) in
    omega arith

pub cut_zero : (w : ℕ) → cut w 0 ≡ 0
unfolding cut
cut_zero zero = refl
cut_zero (suc w) = let e = cut_zero w in rw e refl

pub has_front : (cs ds : List Area) (vs xs : List ℕ) (ram : List ℕ) → length cs ≡ length vs → Has ram (cs ++ ds) (vs ++ xs) → Has ram cs vs
has_front [] ds [] xs ram l h = tt
has_front [] ds (v ∷ vs) xs ram l h = absurd (omega arith)
has_front (c ∷ cs) ds [] xs ram l h = absurd (omega arith)
has_front (c ∷ cs) ds (v ∷ vs) xs ram l h = (h.0, h.1, has_front cs ds vs xs ram (omega arith) h.2)

pub fits_at : (cs : List Area) (vs : List ℕ) (k : ℕ) (c : Area) (ram : List ℕ) → Has ram cs vs → IsAt cs k c → c.at + c.width ≤ length ram
fits_at [] vs k c ram h i = absurd i
fits_at (d ∷ ds) [] k c ram h i = absurd h
fits_at (d ∷ ds) (x ∷ xs) zero c ram h i = subst (λ (y : Area). y.at + y.width ≤ length ram) i h.1
fits_at (d ∷ ds) (x ∷ xs) (suc k) c ram h i = fits_at ds xs k c ram h.2 i
