-- The ranges of a table, one behind the other, and that each obeys the rules.
use Rattle.std.proofs.Common.{◌≡◌, ℕ, ◌+◌, ◌<◌, ◌≤◌, ℤ, pos, negsuc, Bool, true, false, cond, List, [], ◌∷◌, ◌++◌, length, nat_lt, String, Global, string_bytes, Option, Some, None, Result, Ok, Err, refl, sym, ap, subst, ◌∙◌, ltb-false, arith}
use Rattle.std.proofs.lemmas.Bool.{and_parts, leb-true}
use Rattle.std.proofs.lemmas.List.{append_assoc}
use Rattle.base_laws.specs.Lists.{Each}
use Rattle.base_names.specs.Names.{is_name}
use Rattle.plan_model.specs.declared.denied_ranges.Denied.{Denied}
use Rattle.plan_model.specs.Denied.{IsDenied}
use Rattle.plan_model.specs.declared.plan.Spot.{Spot}
use Rattle.toml.specs.declared.value.Value.{Value}
use Rattle.toml.specs.Data.{Data, Members, no_members, member, get_member, as_table}
use Rattle.toml.specs.View.{view, members_view, items_view}
use Rattle.plan_board.specs.declared.key.Key.TheVariants.{Deny}
use Rattle.plan_board.specs.declared.fault.BoardFault.{BoardFault}
use Rattle.plan_board.specs.declared.fault.BoardFault.TheVariants.{Range}
use Rattle.plan_board.specs.Keys.{word_of}
use Rattle.plan_board.specs.Denied.{is_deniable, spot_of, range_at, range_by, range_of, two_of, two_in, with_range, ranges_of, named, table_ranges, ranges_by, denied_of}

-- ---- the members of a map

abbrev pub Entry : Type 0
Entry = String Global × Value

pub named_here : (e : Entry) (es : List Entry) → is_name (string_bytes e.0) ≡ true → named (members_view (e ∷ es)) ≡ (string_bytes e.0, view e.1) ∷ named (members_view es)
named_here e es t = ap (λ (b : Bool). cond b ((string_bytes e.0, view e.1) ∷ named (members_view es)) (named (members_view es))) t

-- ---- arrays that are not of two

pub few_items : (vs : List Value) → length vs < 2 → None ≡ two_in (items_view vs)
few_items [] l = refl
few_items (v ∷ []) l = refl
few_items (v ∷ w ∷ vs) l = absurd (omega (arith, l))

pub many_items : (vs : List Value) → 2 < length vs → None ≡ two_in (items_view vs)
many_items [] l = absurd (omega (arith, l))
many_items (v ∷ []) l = absurd (omega (arith, l))
many_items (v ∷ w ∷ []) l = absurd (omega (arith, l))
many_items (v ∷ w ∷ x ∷ vs) l = refl

-- ---- ranges behind those that were read

abbrev pub after : List Denied → Result (List Denied) BoardFault → Result (List Denied) BoardFault
after ds (Ok es) = Ok (ds ++ es)
after ds (Err e) = Err e

pub after_one : (ds : List Denied) (d : Denied) (r : Result (List Denied) BoardFault) → after ds (with_range (Ok d) r) ≡ after (ds ++ d ∷ []) r
after_one ds d (Ok es) = ap (λ (xs : List Denied). let r : Result (List Denied) BoardFault = Ok xs in r) (sym (append_assoc ds (d ∷ []) es))
after_one ds d (Err e) = refl

-- one more
pub named_more : (ds : List Denied) (e : Entry) (left : List Entry) (d : Denied) → is_name (string_bytes e.0) ≡ true → range_of (string_bytes e.0) (view e.1) ≡ Ok d
    → after ds (ranges_of (named (members_view (e ∷ left)))) ≡ after (ds ++ d ∷ []) (ranges_of (named (members_view left)))
named_more ds e left d t q =
    ap (λ (xs : List (List ℕ × Data)). after ds (ranges_of xs)) (named_here e left t)
    ∙ (ap (λ (r : Result Denied BoardFault). after ds (with_range r (ranges_of (named (members_view left))))) q ∙ after_one ds d (ranges_of (named (members_view left))))

-- ---- rules

deniable : (b n : ℕ) (s : Spot) → cond (is_deniable b n) (Some (record { base = b; size = n })) None ≡ Some s → is_deniable s.base s.size ≡ true
deniable b n s e = by (is_deniable b n) refl e
  where
    by : (t : Bool) → is_deniable b n ≡ t → cond t (Some (record { base = b; size = n })) None ≡ Some s → is_deniable s.base s.size ≡ true
    by true t h = let same : (let x : Spot = record { base = b; size = n } in x) ≡ s = cc in subst (λ (x : Spot). is_deniable x.base x.size ≡ true) same t
    by false t h = cc

spot_is : (b n : ℤ) (s : Spot) → spot_of b n ≡ Some s → is_deniable s.base s.size ≡ true
spot_is (pos b) (pos n) s e = deniable b n s e
spot_is (pos b) (negsuc n) s e = cc
spot_is (negsuc b) n s e = cc

range_at_is : (w : List ℕ) (o : Option Spot) (d : Denied) → is_name w ≡ true → ((s : Spot) → o ≡ Some s → is_deniable s.base s.size ≡ true) → range_at w o ≡ Ok d → IsDenied d
range_at_is w None d t f e = cc
range_at_is w (Some s) d t f e =
    let same : (let x : Denied = record { name = w; base = s.base; size = s.size } in x) ≡ d = cc in
    let (a, g) = and_parts _ _ (f s refl) in
    let (b, c) = and_parts _ _ g in
    subst IsDenied same (record { named = t; some = leb-true 1 s.size a; place = (leb-true 0x40000000 s.base b, leb-true (s.base + s.size) 0x60000000 c) })

range_by_is : (w : List ℕ) (o : Option (ℤ × ℤ)) (d : Denied) → is_name w ≡ true → range_by w o ≡ Ok d → IsDenied d
range_by_is w None d t e = cc
range_by_is w (Some x) d t e = range_at_is w (spot_of x.0 x.1) d t (spot_is x.0 x.1) e

parts : (r : Result Denied BoardFault) (rs : Result (List Denied) BoardFault) (ds : List Denied) → with_range r rs ≡ Ok ds → (d : Denied) × (es : List Denied) × (r ≡ Ok d) × (rs ≡ Ok es) × (d ∷ es ≡ ds)
parts (Err e) rs ds h = cc
parts (Ok d) (Err e) ds h = cc
parts (Ok d) (Ok es) ds h = (d, es, refl, refl, cc)

ranges_are : (ms : Members) (ds : List Denied) → ranges_of (named ms) ≡ Ok ds → Each IsDenied ds × (length ds ≡ length (named ms))
ranges_are no_members ds e = let same : [] ≡ ds = cc in subst (λ (xs : List Denied). Each IsDenied xs × (length xs ≡ 0)) same (tt, refl)
ranges_are (member w v ms) ds e = by (λ es h. ranges_are ms es h) (is_name w) refl e
  where
    by : ((es : List Denied) → ranges_of (named ms) ≡ Ok es → Each IsDenied es × (length es ≡ length (named ms))) → (b : Bool) → is_name w ≡ b → ranges_of (cond b ((w, v) ∷ named ms) (named ms)) ≡ Ok ds → Each IsDenied ds × (length ds ≡ length (cond b ((w, v) ∷ named ms) (named ms)))
    by ih false t h = ih ds h
    by ih true t h =
        let x = parts (range_of w v) (ranges_of (named ms)) ds h in
        let z = ih x.1 x.3 in
        let count = z.1 in
        subst (λ (xs : List Denied). Each IsDenied xs × (length xs ≡ length ((w, v) ∷ named ms))) x.4 ((range_by_is w (two_of v) x.0 t x.2, z.0), omega (arith, count))

pub denied_obeys : (ms : Members) (ds : List Denied) → denied_of ms ≡ Ok ds → Each IsDenied ds × (length ds ≤ 64)
unfolding denied_of
denied_obeys ms ds e = by (get_member (word_of Deny) ms) e
  where
    counted : (b : Bool) (t : Members) → nat_lt 64 (length (named t)) ≡ b → cond b (Err (Range Deny)) (ranges_of (named t)) ≡ Ok ds → Each IsDenied ds × (length ds ≤ 64)
    counted true t n h = cc
    counted false t n h = let z = ranges_are t ds h in let few = ltb-false 64 (length (named t)) n in let count = z.1 in (z.0, omega (arith, few, count))

    inside : (o : Option Members) → table_ranges o ≡ Ok ds → Each IsDenied ds × (length ds ≤ 64)
    inside None h = cc
    inside (Some t) h = counted (nat_lt 64 (length (named t))) t refl h

    by : (o : Option Data) → ranges_by o ≡ Ok ds → Each IsDenied ds × (length ds ≤ 64)
    by None h = let same : [] ≡ ds = cc in subst (λ (xs : List Denied). Each IsDenied xs × (length xs ≤ 64)) same (tt, omega arith)
    by (Some d) h = inside (as_table d) h
