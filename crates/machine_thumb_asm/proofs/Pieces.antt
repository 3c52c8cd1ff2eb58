-- Lists of pieces: their sizes and the places between them.
use Rattle.std.proofs.Common.{◌≡◌, ℕ, zero, suc, ◌+◌, ◌<◌, ◌≤◌, ◌^◌, List, [], ◌∷◌, ◌++◌, length, take, Option, Some, None, refl, ap, ◌∙◌, arith, length-append}
use Rattle.std.proofs.Math.ListN.{get_or}
use Rattle.machine_thumb_asm.specs.declared.item.Item.{Item}
use Rattle.machine_thumb_asm.specs.declared.item.Item.TheVariants.{Plain, Branch, Half, Word}
use Rattle.machine_thumb_asm.specs.Assembly.{Assembly, size_of, total, here, IsItem, AreItems, IsAssembly}
use Rattle.machine_thumb_asm.proofs.Items.{total-append}

pub items-append : (n : ℕ) (xs ys : List Item) → AreItems n xs → AreItems n ys → AreItems n (xs ++ ys)
items-append n [] ys a b = b
items-append n (x ∷ xs) ys a b = (a.0, items-append n xs ys a.1 b)

-- more labels
item-more : (n m : ℕ) (x : Item) → n ≤ m → IsItem n x → IsItem m x
item-more n m (Plain x) l h = h
item-more n m (Branch kind to) l h = let b = h.1 in (h.0, omega arith)
item-more n m (Half w) l h = h
item-more n m (Word w) l h = h

pub items-more : (n m : ℕ) (xs : List Item) → n ≤ m → AreItems n xs → AreItems m xs
items-more n m [] l h = tt
items-more n m (x ∷ xs) l h = (item-more n m x l h.0, items-more n m xs l h.1)

-- a place between pieces is one when more pieces are put behind them
pub still_between : (xs ys : List Item) (k : ℕ) → (j : ℕ) × (total (take k xs) ≡ total (take j (xs ++ ys)))
still_between [] [] zero = (0, refl)
still_between [] [] (suc k) = (0, refl)
still_between [] (y ∷ ys) zero = (0, refl)
still_between [] (y ∷ ys) (suc k) = (0, refl)
still_between (x ∷ xs) ys zero = (0, refl)
still_between (x ∷ xs) ys (suc k) = let r = still_between xs ys k in (suc r.0, ap (λ n. size_of x + n) r.1)

-- a label that was put is one of the list
pub put_before : (ps : List (Option ℕ)) (l p : ℕ) → get_or (ps ++ None ∷ []) l None ≡ Some p → get_or ps l None ≡ Some p
put_before [] zero p e = e
put_before [] (suc l) p e = e
put_before (q ∷ ps) zero p e = e
put_before (q ∷ ps) (suc l) p e = put_before ps l p e

pub labelled : (a : Assembly) → IsAssembly a → IsAssembly (record a { places = a.places ++ None ∷ [] })
labelled a h =
    let e = length-append a.places (None ∷ []) in
    record {
      items = items-more (length a.places) (length (a.places ++ None ∷ [])) a.items (omega arith) h.items;
      places = λ l p g. h.places l p (put_before a.places l p g);
      room = h.room;
    }

pub grown : (a : Assembly) (x : Item) (next : ℕ) → IsAssembly a → IsItem (length a.places) x → next ≡ here a → here a + size_of x < 2 ^ 31
    → let b : Assembly = record a { items = a.items ++ x ∷ [] } in (next + size_of x ≡ here b) × IsAssembly b
grown a x next h i n r =
    let t = total-append a.items (x ∷ []) in (
      omega arith,
      record {
        items = items-append (length a.places) a.items (x ∷ []) h.items (i, tt);
        places = λ l p g.
            let b = h.places l p g in
            let c = still_between a.items (x ∷ []) b.0 in
            (c.0, b.1 ∙ ap (λ n. a.base + n) c.1);
        room = omega arith;
      },
    )
