-- Places in groups.
use Rattle.std.proofs.Common.{◌≡◌, ℕ, zero, suc, ◌+◌, ◌^◌, ◌<◌, List, [], ◌∷◌, take, get_or, arith, length, Option, Some, None, nat_lt, refl, sym, ap, ◌∙◌}
use Rattle.std.specs.List.{sum}
use Rattle.std.proofs.lemmas.Bool.{ltb-true}
use Rattle.std.proofs.lemmas.List.Sums.{sum_by-cons}
use Rattle.need_numbers.specs.Groups.{AreNumbered, place_of, start_of}
use Rattle.base_laws.proofs.Lists.{sum_below as place_below}
use Rattle.base_laws.proofs.Options.{guarded}

index_is : (xs : List ℕ) (k x : ℕ) → k < length xs → x ≡ get_or xs k x → x ≡ get_or xs k 0
index_is [] k x l e = absurd (omega arith)
index_is (y ∷ xs) zero x l e = e
index_is (y ∷ xs) (suc k) x l e = index_is xs k x (omega arith) e

pub place_fits : (counts starts : List ℕ) (total g i c s : ℕ) → AreNumbered counts starts total → g < length counts → c ≡ get_or counts g c → i < c → s ≡ get_or starts g s → s + i < 2 ^ 32
place_fits counts starts total g i c s n l e m f =
    let h = place_below counts g i (let q = index_is counts g c l e in omega arith) in
    let t : g < length starts = let u = n.count in omega arith in
    let q = index_is starts g s t f ∙ n.each g l in
    let b = n.fits in omega arith

-- an item has its place alone
same_place : (cs : List ℕ) (g h i j : ℕ) → i < get_or cs g 0 → j < get_or cs h 0 → sum (take g cs) + i ≡ sum (take h cs) + j → (g ≡ h) × (i ≡ j)
same_place [] g h i j l m e = absurd (omega arith)
same_place (c ∷ cs) zero zero i j l m e = (refl, omega arith)
same_place (c ∷ cs) zero (suc h) i j l m e = let f = sum_by-cons (λ x. x) c (take h cs) in absurd (omega arith)
same_place (c ∷ cs) (suc g) zero i j l m e = let f = sum_by-cons (λ x. x) c (take g cs) in absurd (omega arith)
same_place (c ∷ cs) (suc g) (suc h) i j l m e =
    let f = sum_by-cons (λ x. x) c (take g cs) in
    let q = sum_by-cons (λ x. x) c (take h cs) in
    let r = same_place cs g h i j l m (omega arith) in (ap suc r.0, r.1)

pub some_is : (x y : ℕ) → Some x ≡ Some y → x ≡ y
some_is x y e = cc

pub none_is : (r : Option ℕ) (x : ℕ) → r ≡ None → r ≡ Some x → ⊥
none_is r x n e = cc

pub place_at : (cs : List ℕ) (g i k : ℕ) → place_of cs g i ≡ Some k → (i < get_or cs g 0) × (sum (take g cs) + i ≡ k)
place_at cs g i k e =
    let h = guarded (nat_lt i (get_or cs g 0)) (Some (start_of cs g + i)) k e in
    (ltb-true i (get_or cs g 0) h.0, some_is (start_of cs g + i) k h.1)

pub alone : (cs : List ℕ) (g h i j k : ℕ) → place_of cs g i ≡ Some k → place_of cs h j ≡ Some k → (g ≡ h) × (i ≡ j)
alone cs g h i j k e f =
    let p = place_at cs g i k e in
    let q = place_at cs h j k f in same_place cs g h i j p.0 q.0 (p.1 ∙ sym q.1)
