-- Words ask for one request.
use Rattle.std.specs.Fmt.{decimal}
use Rattle.std.proofs.lemmas.Fmt.{decimal_injective}
use Rattle.std.proofs.Common.{◌≡◌, ℕ, ◌<◌, ◌^◌, ◌+◌, ◌*◌, List, [], ◌∷◌, length, get_or, map, refl, ap, sym, ◌∙◌, arith, nat_eq, if◌then◌else◌}
use Rattle.plan_model.specs.declared.policy.Policy.{Policy}
use Rattle.plan_model.specs.declared.policy.Policy.TheVariants.{Filename, Optimized, Peripheral}
use Rattle.aces_words.specs.Requests.{Request, Run, Bin, Watch, State, Audit, Tables, Check, Why, Source, Where, Compile, Listing, Stack, Who, Symbols, Explain, ExplainPlan, Help, Selftest, words_of, IsWithin, Asks}
use Rattle.plan_model.specs.PolicyWords.{policy_word}

policies_are_one : (p q : Policy) → policy_word p ≡ policy_word q → p ≡ q
policies_are_one Filename Filename h = refl
policies_are_one Filename Optimized h = let e : 8 ≡ 9 = ap length h in absurd (omega (arith, e))
policies_are_one Filename Peripheral h = let e : 8 ≡ 10 = ap length h in absurd (omega (arith, e))
policies_are_one Optimized Filename h = let e : 9 ≡ 8 = ap length h in absurd (omega (arith, e))
policies_are_one Optimized Optimized h = refl
policies_are_one Optimized Peripheral h = let e : 9 ≡ 10 = ap length h in absurd (omega (arith, e))
policies_are_one Peripheral Filename h = let e : 10 ≡ 8 = ap length h in absurd (omega (arith, e))
policies_are_one Peripheral Optimized h = let e : 10 ≡ 9 = ap length h in absurd (omega (arith, e))
policies_are_one Peripheral Peripheral h = refl

-- what a word behind the command's stands for
data Field : Type 0 where
  Text : List ℕ → Field
  By : Policy → Field
  Count : ℕ → Field

abbrev word_of : Field → List ℕ
word_of (Text t) = t
word_of (By p) = policy_word p
word_of (Count n) = decimal n

abbrev kind_of : Field → ℕ
kind_of (Text t) = 0
kind_of (By p) = 1
kind_of (Count n) = 2

abbrev fits : Field → Type 0
fits (Text t) = Unit {0}
fits (By p) = Unit {0}
fits (Count n) = n < 2 ^ 32

abbrev all_fit : List Field → Type 0
all_fit [] = Unit {0}
all_fit (f ∷ fs) = fits f × all_fit fs

same_field : (f g : Field) → kind_of f ≡ kind_of g → word_of f ≡ word_of g → fits f → fits g → f ≡ g
same_field (Text t) (Text u) k e h j = ap Text e
same_field (Text t) (By q) k e h j = let d : 0 ≡ 1 = k in absurd (omega (arith, d))
same_field (Text t) (Count n) k e h j = let d : 0 ≡ 2 = k in absurd (omega (arith, d))
same_field (By p) (Text u) k e h j = let d : 1 ≡ 0 = k in absurd (omega (arith, d))
same_field (By p) (By q) k e h j = ap By (policies_are_one p q e)
same_field (By p) (Count n) k e h j = let d : 1 ≡ 2 = k in absurd (omega (arith, d))
same_field (Count m) (Text u) k e h j = let d : 2 ≡ 0 = k in absurd (omega (arith, d))
same_field (Count m) (By q) k e h j = let d : 2 ≡ 1 = k in absurd (omega (arith, d))
same_field (Count m) (Count n) k e h j = ap Count (decimal_injective m n (omega (arith, h)) (omega (arith, j)) e)

same_fields : (fs gs : List Field) → map kind_of fs ≡ map kind_of gs → map word_of fs ≡ map word_of gs → all_fit fs → all_fit gs → fs ≡ gs
same_fields [] [] k e h j = refl
same_fields [] (g ∷ gs) k e h j = let d : 0 ≡ length (map kind_of (g ∷ gs)) = ap length k in absurd (omega (arith, d))
same_fields (f ∷ fs) [] k e h j = let d : length (map kind_of (f ∷ fs)) ≡ 0 = ap length k in absurd (omega (arith, d))
same_fields (f ∷ fs) (g ∷ gs) k e h j =
    let k0 : kind_of f ≡ kind_of g = cc in
    let e0 : word_of f ≡ word_of g = cc in
    let k1 : map kind_of fs ≡ map kind_of gs = cc in
    let e1 : map word_of fs ≡ map word_of gs = cc in
    let x : f ≡ g = same_field f g k0 e0 h.0 j.0 in
    let y : fs ≡ gs = same_fields fs gs k1 e1 h.1 j.1 in
    cc

abbrev fields_of : Request → List Field
fields_of (Run image tape steps) = Text image ∷ Text tape ∷ Count steps ∷ []
fields_of (Bin image file) = Text image ∷ Text file ∷ []
fields_of (Watch image tape steps address) = Text image ∷ Text tape ∷ Count steps ∷ Text address ∷ []
fields_of (State image tape steps) = Text image ∷ Text tape ∷ Count steps ∷ []
fields_of (Audit image) = Text image ∷ []
fields_of (Tables image) = Text image ∷ []
fields_of (Check firmware) = Text firmware ∷ []
fields_of (Why firmware) = Text firmware ∷ []
fields_of (Source firmware policy tape steps) = Text firmware ∷ By policy ∷ Text tape ∷ Count steps ∷ []
fields_of (Where firmware policy tape steps) = Text firmware ∷ By policy ∷ Text tape ∷ Count steps ∷ []
fields_of (Compile firmware board policy image) = Text firmware ∷ Text board ∷ By policy ∷ Text image ∷ []
fields_of (Listing firmware board policy) = Text firmware ∷ Text board ∷ By policy ∷ []
fields_of (Stack firmware board policy) = Text firmware ∷ Text board ∷ By policy ∷ []
fields_of (Who firmware board policy) = Text firmware ∷ Text board ∷ By policy ∷ []
fields_of (Symbols firmware board policy) = Text firmware ∷ Text board ∷ By policy ∷ []
fields_of (Explain firmware) = Text firmware ∷ []
fields_of (ExplainPlan firmware board policy) = Text firmware ∷ Text board ∷ By policy ∷ []
fields_of Help = []
fields_of (Selftest seed size) = Count seed ∷ Count size ∷ []

-- the number of words, with the first and the fourth letter of a command's word, tells which it is
abbrev code_of : List (List ℕ) → ℕ
code_of [] = 0
code_of (w ∷ ws) = length ws + 8 * (get_or w 3 0 + 256 * get_or w 0 0)

abbrev code : Request → ℕ
code (Run image tape steps) = 233475
code (Bin image file) = 200706
code (Watch image tape steps address) = 244508
code (State image tape steps) = 236451
code (Audit image) = 199497
code (Tables image) = 238433
code (Check firmware) = 203545
code (Why firmware) = 243713
code (Source firmware policy tape steps) = 236436
code (Where firmware policy tape steps) = 244628
code (Compile firmware board policy image) = 203652
code (Listing firmware board policy) = 222115
code (Stack firmware board policy) = 236315
code (Who firmware board policy) = 243715
code (Symbols firmware board policy) = 236307
code (Explain firmware) = 207713
code (ExplainPlan firmware board policy) = 207715
code Help = 213888
code (Selftest seed size) = 236338

has_code : (r : Request) → code_of (words_of r) ≡ code r
has_code (Run image tape steps) = refl
has_code (Bin image file) = refl
has_code (Watch image tape steps address) = refl
has_code (State image tape steps) = refl
has_code (Audit image) = refl
has_code (Tables image) = refl
has_code (Check firmware) = refl
has_code (Why firmware) = refl
has_code (Source firmware policy tape steps) = refl
has_code (Where firmware policy tape steps) = refl
has_code (Compile firmware board policy image) = refl
has_code (Listing firmware board policy) = refl
has_code (Stack firmware board policy) = refl
has_code (Who firmware board policy) = refl
has_code (Symbols firmware board policy) = refl
has_code (Explain firmware) = refl
has_code (ExplainPlan firmware board policy) = refl
has_code Help = refl
has_code (Selftest seed size) = refl

-- the words behind the command's
abbrev behind : List (List ℕ) → List (List ℕ)
behind [] = []
behind (w ∷ ws) = ws

has_words : (r : Request) → behind (words_of r) ≡ map word_of (fields_of r)
has_words (Run image tape steps) = refl
has_words (Bin image file) = refl
has_words (Watch image tape steps address) = refl
has_words (State image tape steps) = refl
has_words (Audit image) = refl
has_words (Tables image) = refl
has_words (Check firmware) = refl
has_words (Why firmware) = refl
has_words (Source firmware policy tape steps) = refl
has_words (Where firmware policy tape steps) = refl
has_words (Compile firmware board policy image) = refl
has_words (Listing firmware board policy) = refl
has_words (Stack firmware board policy) = refl
has_words (Who firmware board policy) = refl
has_words (Symbols firmware board policy) = refl
has_words (Explain firmware) = refl
has_words (ExplainPlan firmware board policy) = refl
has_words Help = refl
has_words (Selftest seed size) = refl

abbrev kinds : (code : ℕ) → List ℕ
kinds c =
    if nat_eq c 233475 then 0 ∷ 0 ∷ 2 ∷ [] else
    if nat_eq c 200706 then 0 ∷ 0 ∷ [] else
    if nat_eq c 244508 then 0 ∷ 0 ∷ 2 ∷ 0 ∷ [] else
    if nat_eq c 236451 then 0 ∷ 0 ∷ 2 ∷ [] else
    if nat_eq c 199497 then 0 ∷ [] else
    if nat_eq c 238433 then 0 ∷ [] else
    if nat_eq c 203545 then 0 ∷ [] else
    if nat_eq c 243713 then 0 ∷ [] else
    if nat_eq c 236436 then 0 ∷ 1 ∷ 0 ∷ 2 ∷ [] else
    if nat_eq c 244628 then 0 ∷ 1 ∷ 0 ∷ 2 ∷ [] else
    if nat_eq c 203652 then 0 ∷ 0 ∷ 1 ∷ 0 ∷ [] else
    if nat_eq c 222115 then 0 ∷ 0 ∷ 1 ∷ [] else
    if nat_eq c 236315 then 0 ∷ 0 ∷ 1 ∷ [] else
    if nat_eq c 243715 then 0 ∷ 0 ∷ 1 ∷ [] else
    if nat_eq c 236307 then 0 ∷ 0 ∷ 1 ∷ [] else
    if nat_eq c 207713 then 0 ∷ [] else
    if nat_eq c 207715 then 0 ∷ 0 ∷ 1 ∷ [] else
    if nat_eq c 236338 then 2 ∷ 2 ∷ [] else
    if nat_eq c 213888 then [] else
    []

has_kinds : (r : Request) → map kind_of (fields_of r) ≡ kinds (code r)
has_kinds (Run image tape steps) = refl
has_kinds (Bin image file) = refl
has_kinds (Watch image tape steps address) = refl
has_kinds (State image tape steps) = refl
has_kinds (Audit image) = refl
has_kinds (Tables image) = refl
has_kinds (Check firmware) = refl
has_kinds (Why firmware) = refl
has_kinds (Source firmware policy tape steps) = refl
has_kinds (Where firmware policy tape steps) = refl
has_kinds (Compile firmware board policy image) = refl
has_kinds (Listing firmware board policy) = refl
has_kinds (Stack firmware board policy) = refl
has_kinds (Who firmware board policy) = refl
has_kinds (Symbols firmware board policy) = refl
has_kinds (Explain firmware) = refl
has_kinds (ExplainPlan firmware board policy) = refl
has_kinds Help = refl
has_kinds (Selftest seed size) = refl

-- the request of a code with its fields
abbrev text : ℕ → List Field → List ℕ
text k fs = elim (get_or fs k (Text [])) [ Text t ↦ t | By p ↦ [] | Count n ↦ [] ]

abbrev policy : ℕ → List Field → Policy
policy k fs = elim (get_or fs k (Text [])) [ Text t ↦ Filename | By p ↦ p | Count n ↦ Filename ]

abbrev count : ℕ → List Field → ℕ
count k fs = elim (get_or fs k (Text [])) [ Text t ↦ 0 | By p ↦ 0 | Count n ↦ n ]

abbrev request : (code : ℕ) → List Field → Request
request c fs =
    if nat_eq c 233475 then Run (text 0 fs) (text 1 fs) (count 2 fs) else
    if nat_eq c 200706 then Bin (text 0 fs) (text 1 fs) else
    if nat_eq c 244508 then Watch (text 0 fs) (text 1 fs) (count 2 fs) (text 3 fs) else
    if nat_eq c 236451 then State (text 0 fs) (text 1 fs) (count 2 fs) else
    if nat_eq c 199497 then Audit (text 0 fs) else
    if nat_eq c 238433 then Tables (text 0 fs) else
    if nat_eq c 203545 then Check (text 0 fs) else
    if nat_eq c 243713 then Why (text 0 fs) else
    if nat_eq c 236436 then Source (text 0 fs) (policy 1 fs) (text 2 fs) (count 3 fs) else
    if nat_eq c 244628 then Where (text 0 fs) (policy 1 fs) (text 2 fs) (count 3 fs) else
    if nat_eq c 203652 then Compile (text 0 fs) (text 1 fs) (policy 2 fs) (text 3 fs) else
    if nat_eq c 222115 then Listing (text 0 fs) (text 1 fs) (policy 2 fs) else
    if nat_eq c 236315 then Stack (text 0 fs) (text 1 fs) (policy 2 fs) else
    if nat_eq c 243715 then Who (text 0 fs) (text 1 fs) (policy 2 fs) else
    if nat_eq c 236307 then Symbols (text 0 fs) (text 1 fs) (policy 2 fs) else
    if nat_eq c 207713 then Explain (text 0 fs) else
    if nat_eq c 207715 then ExplainPlan (text 0 fs) (text 1 fs) (policy 2 fs) else
    if nat_eq c 236338 then Selftest (count 0 fs) (count 1 fs) else
    Help

is_request : (r : Request) → request (code r) (fields_of r) ≡ r
is_request (Run image tape steps) = refl
is_request (Bin image file) = refl
is_request (Watch image tape steps address) = refl
is_request (State image tape steps) = refl
is_request (Audit image) = refl
is_request (Tables image) = refl
is_request (Check firmware) = refl
is_request (Why firmware) = refl
is_request (Source firmware policy tape steps) = refl
is_request (Where firmware policy tape steps) = refl
is_request (Compile firmware board policy image) = refl
is_request (Listing firmware board policy) = refl
is_request (Stack firmware board policy) = refl
is_request (Who firmware board policy) = refl
is_request (Symbols firmware board policy) = refl
is_request (Explain firmware) = refl
is_request (ExplainPlan firmware board policy) = refl
is_request Help = refl
is_request (Selftest seed size) = refl

fields_fit : (r : Request) → IsWithin r → all_fit (fields_of r)
fields_fit (Run image tape steps) h = (tt, (tt, (h, tt)))
fields_fit (Bin image file) h = (tt, (tt, tt))
fields_fit (Watch image tape steps address) h = (tt, (tt, (h.0, (tt, tt))))
fields_fit (State image tape steps) h = (tt, (tt, (h, tt)))
fields_fit (Audit image) h = (tt, tt)
fields_fit (Tables image) h = (tt, tt)
fields_fit (Check firmware) h = (tt, tt)
fields_fit (Why firmware) h = (tt, tt)
fields_fit (Source firmware policy tape steps) h = (tt, (tt, (tt, (h, tt))))
fields_fit (Where firmware policy tape steps) h = (tt, (tt, (tt, (h, tt))))
fields_fit (Compile firmware board policy image) h = (tt, (tt, (tt, (tt, tt))))
fields_fit (Listing firmware board policy) h = (tt, (tt, (tt, tt)))
fields_fit (Stack firmware board policy) h = (tt, (tt, (tt, tt)))
fields_fit (Who firmware board policy) h = (tt, (tt, (tt, tt)))
fields_fit (Symbols firmware board policy) h = (tt, (tt, (tt, tt)))
fields_fit (Explain firmware) h = (tt, tt)
fields_fit (ExplainPlan firmware board policy) h = (tt, (tt, (tt, tt)))
fields_fit Help h = tt
fields_fit (Selftest seed size) h = (h.0, (omega (arith, h.2), tt))

pub requests_are_one : (words : List (List ℕ)) (r s : Request) → Asks words r → Asks words s → r ≡ s
requests_are_one words r s h k =
    let e : words_of r ≡ words_of s = h.spelled ∙ sym k.spelled in
    let c : code r ≡ code s = sym (has_code r) ∙ ap code_of e ∙ has_code s in
    let t : map kind_of (fields_of r) ≡ map kind_of (fields_of s) = has_kinds r ∙ ap kinds c ∙ sym (has_kinds s) in
    let w : map word_of (fields_of r) ≡ map word_of (fields_of s) = sym (has_words r) ∙ ap behind e ∙ has_words s in
    let f : fields_of r ≡ fields_of s = same_fields (fields_of r) (fields_of s) t w (fields_fit r h.within) (fields_fit s k.within) in
    sym (is_request r) ∙ ap (λ v. request v (fields_of r)) c ∙ ap (request (code s)) f ∙ is_request s
