-- The end of a text stays what is expected last.
use Rattle.std.proofs.Common.{subst, ◌≡◌, [], ◌∷◌, ◌++◌, List, Bool, true, false, refl, sym, ap, ◌∙◌, Option, Some, None, if◌then◌else◌}
use Rattle.ir_model.specs.declared.token.Keyword.{Keyword}
use Rattle.ir_model.specs.declared.token.Keyword.TheVariants as key
use Rattle.ir_model.specs.declared.token.Mark.{Mark}
use Rattle.ir_model.specs.declared.token.Mark.TheVariants as mark
use Rattle.ir_model.specs.Tokens as model
use Rattle.ir_expected_tokens.specs.declared.grammar.Class.{Class}
use Rattle.ir_expected_tokens.specs.declared.grammar.Class.TheVariants as class
use Rattle.ir_expected_tokens.specs.declared.grammar.Part.TheVariants as part
use Rattle.ir_expected_tokens.specs.declared.grammar.Symbol.{Symbol}
use Rattle.ir_expected_tokens.specs.declared.grammar.Symbol.TheVariants.{Token, Part}
use Rattle.ir_expected_tokens.specs.Grammar.{is_class}
use Rattle.ir_expected_tokens.specs.Expected.{may_be_missing, behind, taken}
use Rattle.ir_expected_tokens.specs.Laws.{is_end_symbol, closed}
use Rattle.ir_expected_tokens.specs.Stuck.{token_class}

-- what is taken where a symbol has these behind it, or may be missing
abbrev pub taken_by : Option (List Symbol) → Bool → List Symbol → Option (List Symbol) → Option (List Symbol)
taken_by o u ss others = elim o [ Some more ↦ Some (more ++ ss) | None ↦ (if u then others else None) ]

closed_behind : (more : List Symbol) (s : Symbol) (ss : List Symbol) → closed (s ∷ ss) ≡ true → closed (more ++ s ∷ ss) ≡ true
closed_behind [] s ss h = h
closed_behind (m ∷ []) s ss h = h
closed_behind (m ∷ n ∷ more) s ss h = closed_behind (n ∷ more) s ss h

key_goes_on : (k : Keyword) → is_class class.End (class.Key k) ≡ false
key_goes_on key.Struct = refl
key_goes_on _ = refl

sign_goes_on : (m : Mark) → is_class class.End (class.Mark m) ≡ false
sign_goes_on mark.OpenBrace = refl
sign_goes_on _ = refl

pub token_goes_on : (t : model.Token) → is_class class.End (token_class t) ≡ false
token_goes_on (model.Name w) = refl
token_goes_on (model.Number n) = refl
token_goes_on (model.Key k) = key_goes_on k
token_goes_on (model.Operation o) = refl
token_goes_on (model.Comparison o) = refl
token_goes_on (model.Sign m) = sign_goes_on m

abbrev only : Bool → Option (List Symbol)
only t = if t then Some [] else None

-- no token stands for the end
end_alone : (s : Symbol) (c : Class) (colon : Bool) (more : List Symbol) → is_end_symbol s ≡ true → is_class class.End c ≡ false → behind s c colon ≡ Some more → ⊥
end_alone (Token class.End) c colon more e h b =
    let n : behind (Token class.End) c colon ≡ None = ap only h in
    let q : ◌≡◌ {A = Option (List Symbol)} None (Some more) = sym n ∙ b in
    cc
end_alone _ c colon more e h b = cc

by_missing : (u : Bool) (all : Option (List Symbol)) (more : List Symbol) → ◌≡◌ {A = Option (List Symbol)} (if u then all else None) (Some more) → all ≡ Some more
by_missing true all more e = e
by_missing false all more e = cc

by_behind : (s : Symbol) (ss : List Symbol) (c : Class) (colon : Bool) (more : List Symbol) → is_class class.End c ≡ false → closed (s ∷ ss) ≡ true
    → (closed ss ≡ true → taken ss c colon ≡ Some more → closed more ≡ true)
    → (o : Option (List Symbol)) → behind s c colon ≡ o → taken_by o (may_be_missing s) ss (taken ss c colon) ≡ Some more → closed more ≡ true
by_behind s [] c colon more h w again (Some m) b e = absurd (end_alone s c colon m w h b)
by_behind s (t ∷ ss) c colon more h w again (Some m) b e = let same : m ++ t ∷ ss ≡ more = cc in subst (λ z. closed z ≡ true) same (closed_behind m t ss w)
by_behind s [] c colon more h w again None b e = let k = by_missing (may_be_missing s) (taken [] c colon) more e in cc
by_behind s (t ∷ ss) c colon more h w again None b e = again w (by_missing (may_be_missing s) (taken (t ∷ ss) c colon) more e)

-- the end stays the last behind a token
pub closed_after : (ss : List Symbol) (c : Class) (colon : Bool) (more : List Symbol) → is_class class.End c ≡ false → closed ss ≡ true → taken ss c colon ≡ Some more → closed more ≡ true
closed_after [] c colon more h w e = cc
closed_after (s ∷ ss) c colon more h w e = by_behind s ss c colon more h w (λ v k. closed_after ss c colon more h v k) (behind s c colon) refl e

pub gives_closed : (us : List Symbol) → closed (Part part.Gives ∷ us) ≡ true → closed us ≡ true
gives_closed [] h = cc
gives_closed (u ∷ us) h = h
