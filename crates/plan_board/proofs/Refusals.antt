-- What comes of a document, by its fields and its further keys.
use Rattle.std.proofs.Common.{◌≡◌, ℕ, ℤ, List, [], ◌∷◌, length, Bool, true, false, nat_lt, Option, Some, None, Result, Ok, Err, sym, ap, subst, ◌∙◌, cond}
use Rattle.std.specs.Prelude.{◌≢◌}
use Rattle.plan_model.specs.declared.plan.Board.{Board}
use Rattle.toml.specs.Data.{Members}
use Rattle.plan_board.specs.declared.document.KeyFault.{KeyFault}
use Rattle.plan_board.specs.declared.document.KeyFault.TheVariants.{Missing, Kind, Range}
use Rattle.plan_board.specs.declared.fault.BoardFault.{BoardFault}
use Rattle.plan_board.specs.declared.fault.BoardFault.TheVariants as fault
use Rattle.plan_model.specs.declared.denied_ranges.Denied.{Denied}
use Rattle.plan_model.specs.declared.plan.Spot.{Spot}
use Rattle.toml.specs.Data.{Data, get_member, as_table}
use Rattle.plan_board.specs.declared.key.Key.TheVariants.{Deny}
use Rattle.plan_board.specs.Keys.{word_of}
use Rattle.plan_board.specs.Denied.{range_at, range_by, range_of, two_of, spot_of, with_range, ranges_of, named, table_ranges, ranges_by, denied_of}
use Rattle.plan_board.specs.Fields.{board_of}
use Rattle.plan_board.specs.Extra.{extra_of}
use Rattle.plan_board.specs.Reading.{board_fault, reading, reading_by, with_denied, IsFurther, IsFaultIn, IsFault, IsDocument}

pub key_refused : (ms : Members) (f : KeyFault) → Err f ≡ board_of ms → IsFaultIn ms (board_fault f)
unfolding reading
key_refused ms (Missing k) e = ap (λ r. reading_by (with_denied r (denied_of ms)) (extra_of ms)) (sym e)
key_refused ms (Kind k) e = ap (λ r. reading_by (with_denied r (denied_of ms)) (extra_of ms)) (sym e)
key_refused ms (Range k) e = ap (λ r. reading_by (with_denied r (denied_of ms)) (extra_of ms)) (sym e)

pub fields_are : (ms : Members) (b : Board) (ds : List Denied) → Ok b ≡ board_of ms → denied_of ms ≡ Ok ds → with_denied (board_of ms) (denied_of ms) ≡ Ok (record b { denied = ds })
fields_are ms b ds e d = ap (λ r. with_denied r (denied_of ms)) (sym e) ∙ ap (with_denied (Ok b)) d

pub read_is : (ms : Members) (b : Board) → with_denied (board_of ms) (denied_of ms) ≡ Ok b → extra_of ms ≡ None → reading ms ≡ Ok b
unfolding reading
read_is ms b e n = ap (λ r. reading_by r (extra_of ms)) e ∙ ap (reading_by (Ok b)) n

pub extra_refused : (ms : Members) (b : Board) (f : BoardFault) → with_denied (board_of ms) (denied_of ms) ≡ Ok b → IsFurther ms f → IsFaultIn ms f
unfolding reading
extra_refused ms b f e h = by f h
  where
    is : (path : List ℕ) → extra_of ms ≡ Some path → reading ms ≡ Err (fault.Extra path)
    is path n = ap (λ r. reading_by r (extra_of ms)) e ∙ ap (reading_by (Ok b)) n

    by : (f : BoardFault) → IsFurther ms f → IsFaultIn ms f
    by fault.NoMemory h = tt
    by fault.NotToml h = let x = h (λ e. cc) in let g : fault.NotToml ≡ fault.Extra x.0 = x.2 in cc
    by (fault.Missing k) h = let x = h (λ e. cc) in let g : fault.Missing k ≡ fault.Extra x.0 = x.2 in cc
    by (fault.Kind k) h = let x = h (λ e. cc) in let g : fault.Kind k ≡ fault.Extra x.0 = x.2 in cc
    by (fault.Range k) h = let x = h (λ e. cc) in let g : fault.Range k ≡ fault.Extra x.0 = x.2 in cc
    by (fault.DeniedKind p) h = let x = h (λ e. cc) in let g : fault.DeniedKind p ≡ fault.Extra x.0 = x.2 in cc
    by (fault.DeniedRange p) h = let x = h (λ e. cc) in let g : fault.DeniedRange p ≡ fault.Extra x.0 = x.2 in cc
    by (fault.Extra p) h =
        let x = h (λ e. cc) in
        let same : x.0 ≡ p = (let g : fault.Extra p ≡ fault.Extra x.0 = x.2 in cc) in
        subst (λ (q : List ℕ). reading ms ≡ Err (fault.Extra q)) same (is x.0 x.1)

-- what is denied is never refused as a text that is no document
spot_refused : (w : List ℕ) (o : Option Spot) → range_at w o ≡ Err fault.NotToml → ⊥
spot_refused w None e = cc
spot_refused w (Some s) e = cc

pair_refused : (w : List ℕ) (o : Option (ℤ × ℤ)) → range_by w o ≡ Err fault.NotToml → ⊥
pair_refused w None e = cc
pair_refused w (Some x) e = spot_refused w (spot_of x.0 x.1) e

both_refused : (r : Result Denied BoardFault) (rs : Result (List Denied) BoardFault) → (r ≡ Err fault.NotToml → ⊥) → (rs ≡ Err fault.NotToml → ⊥) → with_range r rs ≡ Err fault.NotToml → ⊥
both_refused (Err x) rs f g e = f (let same : x ≡ fault.NotToml = cc in ap (λ (y : BoardFault). let r : Result Denied BoardFault = Err y in r) same)
both_refused (Ok d) (Err x) f g e = g e
both_refused (Ok d) (Ok ds) f g e = cc

ranges_refused : (xs : List (List ℕ × Data)) → ranges_of xs ≡ Err fault.NotToml → ⊥
ranges_refused [] e = cc
ranges_refused (x ∷ xs) e = both_refused (range_of x.0 x.1) (ranges_of xs) (pair_refused x.0 (two_of x.1)) (ranges_refused xs) e

never_not_toml : (ms : Members) → denied_of ms ≡ Err fault.NotToml → ⊥
unfolding denied_of
never_not_toml ms e = by (get_member (word_of Deny) ms) e
  where
    counted : (b : Bool) (xs : List (List ℕ × Data)) → cond b (Err (fault.Range Deny)) (ranges_of xs) ≡ Err fault.NotToml → ⊥
    counted true xs h = cc
    counted false xs h = ranges_refused xs h

    inside : (o : Option Members) → table_ranges o ≡ Err fault.NotToml → ⊥
    inside None h = cc
    inside (Some t) h = counted (nat_lt 64 (length (named t))) (named t) h

    by : (o : Option Data) → ranges_by o ≡ Err fault.NotToml → ⊥
    by None h = cc
    by (Some d) h = inside (as_table d) h

pub denied_refused : (ms : Members) (b : Board) (f : BoardFault) → Ok b ≡ board_of ms → (f ≢ fault.NoMemory → denied_of ms ≡ Err f) → IsFaultIn ms f
unfolding reading
denied_refused ms b f e d = by f (λ n. ap (λ r. reading_by (with_denied r (denied_of ms)) (extra_of ms)) (sym e) ∙ ap (λ r. reading_by (with_denied (Ok b) r) (extra_of ms)) (d n)) d
  where
    by : (f : BoardFault) → (f ≢ fault.NoMemory → reading ms ≡ Err f) → (f ≢ fault.NoMemory → denied_of ms ≡ Err f) → IsFaultIn ms f
    by fault.NoMemory h d = tt
    by fault.NotToml h d = absurd (never_not_toml ms (d (λ x. cc)))
    by (fault.Missing k) h d = h (λ x. cc)
    by (fault.Kind k) h d = h (λ x. cc)
    by (fault.Range k) h d = h (λ x. cc)
    by (fault.DeniedKind p) h d = h (λ x. cc)
    by (fault.DeniedRange p) h d = h (λ x. cc)
    by (fault.Extra p) h d = h (λ x. cc)

-- a refused document refuses its text
pub text_refused : (text : List ℕ) (ms : Members) (f : BoardFault) → IsDocument text ms → IsFaultIn ms f → IsFault text f
text_refused text ms fault.NoMemory d r = tt
text_refused text ms fault.NotToml d r = absurd r
text_refused text ms (fault.Missing k) d r = (ms, d, r)
text_refused text ms (fault.Kind k) d r = (ms, d, r)
text_refused text ms (fault.Range k) d r = (ms, d, r)
text_refused text ms (fault.DeniedKind p) d r = (ms, d, r)
text_refused text ms (fault.DeniedRange p) d r = (ms, d, r)
text_refused text ms (fault.Extra p) d r = (ms, d, r)
