-- There is an extent exactly where every struct counts as declared and the size is within the limit.
use Rattle.std.proofs.Common.{◌≡◌, ℕ, ◌+◌, ◌-◌, ◌*◌, ◌<◌, ◌≤◌, ◌⊎◌, inl, inr, Bool, true, false, ◌&&◌, List, [], ◌∷◌, ◌++◌, refl, sym, ap, ◌∙◌, Option, Some, None, option_and_then, bytes_eq, if◌then◌else◌, subst, arith}
use Rattle.std.proofs.lemmas.Bool.{cases_lt, le-leb}
use Rattle.std.proofs.lemmas.Bool.Decides.{leb_tells}
use Rattle.std.proofs.lemmas.Nat.{div-add-mod'}
use Rattle.ir_model.specs.declared.extent.Extent.{Extent}
use Rattle.ir_model.specs.declared.extent.TheConstants.{SIZE_LIMIT}
use Rattle.ir_model.specs.Types.{PlainType, U8, U16, U32, Pointer, Array, Named, Callee}
use Rattle.ir_model.specs.Plain.{PlainBinding, PlainStruct}
use Rattle.ir_model.specs.Layout.{Shape, Known, empty, shape, shape_named, array_of, rounded_up, with_field, laid_out, field_places, known, known_behind}
use Rattle.ir_model.specs.Extents.{Sized, extent_named, limited, of_many, extent, behind, closed, extent_behind, fields_extent, nothing_yet, sized_behind, sized, Counted, counted_named, is_counted, are_counted, counted_behind, counted, HasElements, EachHasElements, AllHaveElements}
use Rattle.ir_model.proofs.Alignments.{positive_first}

abbrev extent_of : Shape → Extent
extent_of s = record { size = s.size; align = s.align }

-- an extent by a shape, where every struct counts or not
abbrev pub Tied : Option Extent → Shape → Bool → Type 0
Tied o s false = o ≡ None
Tied o s true = (s.size ≤ SIZE_LIMIT → o ≡ Some (extent_of s)) × (SIZE_LIMIT < s.size → o ≡ None)

within : (e : Extent) → e.size ≤ SIZE_LIMIT → limited e ≡ Some e
within e h = ap (λ b. if b then Some e else None) (le-leb e.size SIZE_LIMIT h)

beyond : (e : Extent) → SIZE_LIMIT < e.size → limited e ≡ None
beyond e h = elim (leb_tells e.size SIZE_LIMIT) [ inl t ↦ absurd (omega (arith, t.1)) | inr f ↦ ap (λ b. if b then Some e else None) f.0 ]

pub many_at_least : (n s : ℕ) → 0 < n → s ≤ n * s
many_at_least n s h = grind arith

pub rounded_at_least : (n a : ℕ) → 0 < a → n ≤ rounded_up n a
rounded_at_least n a h = let e = div-add-mod' (n + (a - 1)) a in grind (arith, e)

tie_many : (n : ℕ) (o : Option Extent) (s : Shape) (c : Bool) → 0 < n → Tied o s c → Tied (option_and_then (of_many n) o) (array_of n s) c
tie_many n o s false p h = ap (λ o. option_and_then (of_many n) o) h
tie_many n o s true p h = (λ l. small l, λ l. large l (cases_lt SIZE_LIMIT s.size))
  where
    small : n * s.size ≤ SIZE_LIMIT → option_and_then (of_many n) o ≡ Some (extent_of (array_of n s))
    small l =
        let m = many_at_least n s.size p in
        let k : s.size ≤ SIZE_LIMIT = omega (arith, m, l) in
        ap (λ o. option_and_then (of_many n) o) (h.0 k) ∙ within (record { size = n * s.size; align = s.align }) l

    large : SIZE_LIMIT < n * s.size → (SIZE_LIMIT < s.size) ⊎ (s.size ≤ SIZE_LIMIT) → option_and_then (of_many n) o ≡ None
    large l (inl g) = ap (λ o. option_and_then (of_many n) o) (h.1 g)
    large l (inr g) = ap (λ o. option_and_then (of_many n) o) (h.0 g) ∙ beyond (record { size = n * s.size; align = s.align }) l

-- one more field
tie_field : (ms : List Known) (b o : Option Extent) (s : Shape) (t : PlainType) (c d : Bool) → 0 < (shape ms t).align → Tied b s c → Tied o (shape ms t) d
    → Tied (option_and_then (λ b. option_and_then (behind b) o) b) (with_field ms s t) (c && d)
tie_field ms b o s t false d p h g = ap (λ b. option_and_then (λ b. option_and_then (behind b) o) b) h
tie_field ms b o s t true false p h g = ap (λ o. option_and_then (λ b. option_and_then (behind b) o) b) g ∙ no_field b
  where
    no_field : (b : Option Extent) → option_and_then (λ b. option_and_then (behind b) None) b ≡ None
    no_field None = refl
    no_field (Some e) = refl
tie_field ms b o s t true true p h g = (small, λ l. large l (cases_lt SIZE_LIMIT s.size) (cases_lt SIZE_LIMIT (shape ms t).size))
  where
    both : s.size ≤ SIZE_LIMIT → (shape ms t).size ≤ SIZE_LIMIT
        → option_and_then (λ b. option_and_then (behind b) o) b ≡ limited (extent_of (with_field ms s t))
    both l m =
        ap (λ b. option_and_then (λ b. option_and_then (behind b) o) b) (h.0 l) ∙ ap (λ o. option_and_then (behind (extent_of s)) o) (g.0 m)

    small : (with_field ms s t).size ≤ SIZE_LIMIT → option_and_then (λ b. option_and_then (behind b) o) b ≡ Some (extent_of (with_field ms s t))
    small l =
        let r = rounded_at_least s.size (shape ms t).align p in
        let k : s.size ≤ SIZE_LIMIT = omega (arith, r, l) in
        let m : (shape ms t).size ≤ SIZE_LIMIT = omega (arith, r, l) in
        both k m ∙ within (extent_of (with_field ms s t)) l

    no_field : (b : Option Extent) → option_and_then (λ b. option_and_then (behind b) None) b ≡ None
    no_field None = refl
    no_field (Some e) = refl

    large : SIZE_LIMIT < (with_field ms s t).size → (SIZE_LIMIT < s.size) ⊎ (s.size ≤ SIZE_LIMIT) → (SIZE_LIMIT < (shape ms t).size) ⊎ ((shape ms t).size ≤ SIZE_LIMIT)
        → option_and_then (λ b. option_and_then (behind b) o) b ≡ None
    large l (inl k) m = ap (λ b. option_and_then (λ b. option_and_then (behind b) o) b) (h.1 k)
    large l (inr k) (inl m) = ap (λ o. option_and_then (λ b. option_and_then (behind b) o) b) (g.1 m) ∙ no_field b
    large l (inr k) (inr m) = both k m ∙ beyond (extent_of (with_field ms s t)) l

tie_closed : (b : Option Extent) (s : Shape) (c : Bool) → 0 < s.align → Tied b s c → Tied (option_and_then closed b) (record s { size = rounded_up s.size s.align }) c
tie_closed b s false p h = ap (λ b. option_and_then closed b) h
tie_closed b s true p h = (small, λ l. large l (cases_lt SIZE_LIMIT s.size))
  where
    small : rounded_up s.size s.align ≤ SIZE_LIMIT → option_and_then closed b ≡ Some (record { size = rounded_up s.size s.align; align = s.align })
    small l =
        let r = rounded_at_least s.size s.align p in
        let k : s.size ≤ SIZE_LIMIT = omega (arith, r, l) in
        ap (λ b. option_and_then closed b) (h.0 k) ∙ within (record { size = rounded_up s.size s.align; align = s.align }) l

    large : SIZE_LIMIT < rounded_up s.size s.align → (SIZE_LIMIT < s.size) ⊎ (s.size ≤ SIZE_LIMIT) → option_and_then closed b ≡ None
    large l (inl k) = ap (λ b. option_and_then closed b) (h.1 k)
    large l (inr k) = ap (λ b. option_and_then closed b) (h.0 k) ∙ beyond (record { size = rounded_up s.size s.align; align = s.align }) l

-- the same structs in the three lists, each with its extent tied to its shape
abbrev pub AllTied : List Sized → List Known → List Counted → Type 0
AllTied [] [] [] = Unit {0}
AllTied (k ∷ ks) (m ∷ ms) (c ∷ cs) = (k.name ≡ c.name) × (m.name ≡ c.name) × (Tied k.extent m.shape c.counts) × (0 < m.shape.align) × AllTied ks ms cs
AllTied _ _ _ = ⊥

all_tied_more : (ks : List Sized) (ms : List Known) (cs : List Counted) (k : Sized) (m : Known) (c : Counted) → AllTied ks ms cs
    → k.name ≡ c.name → m.name ≡ c.name → Tied k.extent m.shape c.counts → 0 < m.shape.align → AllTied (ks ++ k ∷ []) (ms ++ m ∷ []) (cs ++ c ∷ [])
all_tied_more [] [] [] k m c h d e f g = (d, e, f, g, tt)
all_tied_more [] [] (c ∷ cs) k m d h e f g i = absurd h
all_tied_more [] (m ∷ ms) [] k n d h e f g i = absurd h
all_tied_more [] (m ∷ ms) (c ∷ cs) k n d h e f g i = absurd h
all_tied_more (j ∷ ks) [] [] k m d h e f g i = absurd h
all_tied_more (j ∷ ks) [] (c ∷ cs) k m d h e f g i = absurd h
all_tied_more (j ∷ ks) (n ∷ ms) [] k m d h e f g i = absurd h
all_tied_more (j ∷ ks) (n ∷ ms) (b ∷ cs) k m c h d e f g = (h.0, h.1, h.2, h.3, all_tied_more ks ms cs k m c h.4 d e f g)

tie_first : (a b c : Bool) (x y : Option Extent) (s t : Shape) (d e : Bool) → a ≡ c → b ≡ c → Tied x s d → Tied y t e
    → Tied (if a then x else y) (if b then s else t) (if c then d else e)
tie_first true true true x y s t d e f g h i = h
tie_first false false false x y s t d e f g h i = i
tie_first true _ false x y s t d e f g h i = cc
tie_first false _ true x y s t d e f g h i = cc
tie_first true false true x y s t d e f g h i = cc
tie_first false true false x y s t d e f g h i = cc

tie_named : (ks : List Sized) (ms : List Known) (cs : List Counted) (n : List ℕ) → AllTied ks ms cs → Tied (extent_named ks n) (shape_named ms n) (counted_named cs n)
tie_named [] [] [] n h = refl
tie_named [] [] (c ∷ cs) n h = absurd h
tie_named [] (m ∷ ms) [] n h = absurd h
tie_named [] (m ∷ ms) (c ∷ cs) n h = absurd h
tie_named (k ∷ ks) [] [] n h = absurd h
tie_named (k ∷ ks) [] (c ∷ cs) n h = absurd h
tie_named (k ∷ ks) (m ∷ ms) [] n h = absurd h
tie_named (k ∷ ks) (m ∷ ms) (c ∷ cs) n h =
    tie_first (bytes_eq k.name n) (bytes_eq m.name n) (bytes_eq c.name n) k.extent (extent_named ks n) m.shape (shape_named ms n) c.counts (counted_named cs n)
    (ap (λ w. bytes_eq w n) h.0) (ap (λ w. bytes_eq w n) h.1) h.2 (tie_named ks ms cs n h.4)

positive_named : (ks : List Sized) (ms : List Known) (cs : List Counted) (n : List ℕ) → AllTied ks ms cs → 0 < (shape_named ms n).align
positive_named [] [] [] n h = omega arith
positive_named [] [] (c ∷ cs) n h = absurd h
positive_named [] (m ∷ ms) [] n h = absurd h
positive_named [] (m ∷ ms) (c ∷ cs) n h = absurd h
positive_named (k ∷ ks) [] [] n h = absurd h
positive_named (k ∷ ks) [] (c ∷ cs) n h = absurd h
positive_named (k ∷ ks) (m ∷ ms) [] n h = absurd h
positive_named (k ∷ ks) (m ∷ ms) (c ∷ cs) n h = positive_first (bytes_eq m.name n) m.shape (shape_named ms n) h.3 (positive_named ks ms cs n h.4)

positive : (ks : List Sized) (ms : List Known) (cs : List Counted) (t : PlainType) → AllTied ks ms cs → 0 < (shape ms t).align
positive ks ms cs U8 h = omega arith
positive ks ms cs U16 h = omega arith
positive ks ms cs U32 h = omega arith
positive ks ms cs (Pointer t) h = omega arith
positive ks ms cs (Array n t) h = positive ks ms cs t h
positive ks ms cs (Named n) h = positive_named ks ms cs n h
positive ks ms cs (Callee a r) h = omega arith

tie_cell : (e : Extent) → e.size ≤ 4 → (e.size ≤ SIZE_LIMIT → Some e ≡ Some e) × (SIZE_LIMIT < e.size → Some e ≡ None)
tie_cell e h = (λ l. refl, λ l. absurd (omega arith))

tie : (ks : List Sized) (ms : List Known) (cs : List Counted) (t : PlainType) → AllTied ks ms cs → HasElements t → Tied (extent ks t) (shape ms t) (is_counted cs t)
tie ks ms cs U8 h e = tie_cell (record { size = 1; align = 1 }) (omega arith)
tie ks ms cs U16 h e = tie_cell (record { size = 2; align = 2 }) (omega arith)
tie ks ms cs U32 h e = tie_cell (record { size = 4; align = 4 }) (omega arith)
tie ks ms cs (Pointer t) h e = tie_cell (record { size = 4; align = 4 }) (omega arith)
tie ks ms cs (Array n t) h e = tie_many n (extent ks t) (shape ms t) (is_counted cs t) e.0 (tie ks ms cs t h e.1)
tie ks ms cs (Named n) h e = tie_named ks ms cs n h
tie ks ms cs (Callee a r) h e = tie_cell (record { size = 4; align = 4 }) (omega arith)

tied_same : (o : Option Extent) (s : Shape) (c d : Bool) → c ≡ d → Tied o s c → Tied o s d
tied_same o s c d e h = subst (λ b. Tied o s b) e h

and_true : (b : Bool) → b && true ≡ b
and_true true = refl
and_true false = refl

and_and : (a b c : Bool) → a && b && c ≡ a && (b && c)
and_and true b c = refl
and_and false b c = refl

tie_fields : (ks : List Sized) (ms : List Known) (cs : List Counted) (b : Option Extent) (s : Shape) (c : Bool) (fs : List PlainBinding) → AllTied ks ms cs → EachHasElements fs
    → 0 < s.align → Tied b s c → Tied (extent_behind ks b fs) (laid_out ms s fs) (c && are_counted cs fs) × (0 < (laid_out ms s fs).align)
tie_fields ks ms cs b s c [] a e p h = (tied_same (option_and_then closed b) (laid_out ms s []) c (c && true) (sym (and_true c)) (tie_closed b s c p h), p)
tie_fields ks ms cs b s c (f ∷ fs) a e p h =
    let q = positive ks ms cs f.ty a in
    let r = tie_fields ks ms cs (option_and_then (λ b. option_and_then (behind b) (extent ks f.ty)) b) (with_field ms s f.ty) (c && is_counted cs f.ty) fs a e.1
    (omega (arith, p, q)) (tie_field ms b (extent ks f.ty) s f.ty c (is_counted cs f.ty) q h (tie ks ms cs f.ty a e.0)) in (
      tied_same (extent_behind ks b (f ∷ fs)) (laid_out ms s (f ∷ fs)) (c && is_counted cs f.ty && are_counted cs fs) (c && (is_counted cs f.ty && are_counted cs fs))
          (and_and c (is_counted cs f.ty) (are_counted cs fs)) r.0,
      r.1,
    )

all_tied_behind : (ks : List Sized) (ms : List Known) (cs : List Counted) (ss : List PlainStruct) → AllTied ks ms cs → AllHaveElements ss
    → AllTied (sized_behind ks ss) (known_behind ms ss) (counted_behind cs ss)
all_tied_behind ks ms cs [] a e = a
all_tied_behind ks ms cs (s ∷ ss) a e =
    let r = tie_fields ks ms cs (Some nothing_yet) empty true s.fields a e.0 (omega arith) (λ l. refl, λ l. absurd (omega arith)) in
    all_tied_behind (ks ++ record { name = s.name; extent = fields_extent ks s.fields } ∷ [])
    (ms ++ record { name = s.name; shape = laid_out ms empty s.fields; fields = field_places ms empty s.fields } ∷ [])
    (cs ++ record { name = s.name; counts = are_counted cs s.fields } ∷ []) ss
    (all_tied_more ks ms cs (record { name = s.name; extent = fields_extent ks s.fields })
    (record { name = s.name; shape = laid_out ms empty s.fields; fields = field_places ms empty s.fields })
    (record { name = s.name; counts = are_counted cs s.fields }) a refl refl r.0 r.1) e.1

pub extent_tied : (ss : List PlainStruct) (t : PlainType) → AllHaveElements ss → HasElements t
    → Tied (extent (sized ss) t) (shape (known ss) t) (is_counted (counted ss) t)
unfolding sized known counted
extent_tied ss t a e = tie (sized_behind [] ss) (known_behind [] ss) (counted_behind [] ss) t (all_tied_behind [] [] [] ss tt a) e
