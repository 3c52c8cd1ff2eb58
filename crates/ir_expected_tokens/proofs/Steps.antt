-- Steps of a text's reading, and pieces of bytes.
use Rattle.std.proofs.Common.{◌≡◌, ◌<◌, ℕ, ◌+◌, [], ◌∷◌, ◌++◌, List, flat_map, true, false, refl, ap, ◌∙◌, length, take, suc, Option, Some, None, arith}
use Rattle.std.specs.List.{prefix_len, take_while}
use Rattle.std.proofs.lemmas.List.Concat.{flat_map-append}
use Rattle.base_names.specs.Names.{continues_word}
use Rattle.ir_reader.specs.declared.token.Token.{Token}
use Rattle.ir_reader.specs.declared.token.Token.TheVariants as code
use Rattle.ir_reader.specs.Found.{Placed, found_of, colon_first}
use Rattle.ir_reader.specs.Scan.{placed, later, BeginsWith}
use Rattle.ir_reader.proofs.Scanning.{take_run}
use Rattle.ir_expected_tokens.specs.declared.grammar.Class.{Class}
use Rattle.ir_expected_tokens.specs.declared.grammar.Symbol.{Symbol}
use Rattle.ir_expected_tokens.specs.Stuck.{is_end, after, stuck}
use Rattle.ir_expected_tokens.specs.SyntaxLines.{spaced}

pub later_goes_on : (t : Token) (rest : List ℕ) → is_end (found_of t) ≡ false → later t rest ≡ placed rest
later_goes_on code.End rest h = cc
later_goes_on (code.Name w) rest h = refl
later_goes_on _ rest h = refl

pub later_ends : (t : Token) (rest : List ℕ) → is_end (found_of t) ≡ true → later t rest ≡ []
later_ends code.End rest h = refl
later_ends (code.Name w) rest h = cc
later_ends _ rest h = cc

-- what a place comes to, where this is expected behind it, or it cannot stand there
abbrev pub going : List Symbol → Placed → List Placed → Option (List Symbol) → Option (List Symbol × Placed)
going ss p ps (Some more) = stuck more ps
going ss p ps None = Some (ss, p)

from_here : (ss : List Symbol) (text : List ℕ) (t : Token) (left : ℕ) (rest : List ℕ) (o : Option (List Symbol)) → BeginsWith text t left rest → after ss (found_of t) (colon_first (later t rest)) ≡ o
    → stuck ss (placed text) ≡ going ss (record { found = found_of t; left = left }) (later t rest) o
from_here ss text t left rest o b n = ap (stuck ss) b ∙ ap (going ss (record { found = found_of t; left = left }) (later t rest)) n

-- a token that may not stand there
pub stuck_here : (ss : List Symbol) (text : List ℕ) (t : Token) (left : ℕ) (rest : List ℕ) → BeginsWith text t left rest → after ss (found_of t) (colon_first (later t rest)) ≡ None
    → stuck ss (placed text) ≡ Some (ss, record { found = found_of t; left = left })
stuck_here ss text t left rest b n = from_here ss text t left rest None b n

-- a token that may
stuck_behind : (ss more : List Symbol) (text : List ℕ) (t : Token) (left : ℕ) (rest : List ℕ) → BeginsWith text t left rest → after ss (found_of t) (colon_first (later t rest)) ≡ Some more
    → stuck ss (placed text) ≡ stuck more (later t rest)
stuck_behind ss more text t left rest b n = from_here ss text t left rest (Some more) b n

pub goes_on : (ss more : List Symbol) (text : List ℕ) (t : Token) (left : ℕ) (rest : List ℕ) → BeginsWith text t left rest → after ss (found_of t) (colon_first (later t rest)) ≡ Some more
    → is_end (found_of t) ≡ false → stuck ss (placed text) ≡ stuck more (placed rest)
goes_on ss more text t left rest b n e = stuck_behind ss more text t left rest b n ∙ ap (stuck more) (later_goes_on t rest e)

pub ends : (ss more : List Symbol) (text : List ℕ) (t : Token) (left : ℕ) (rest : List ℕ) → BeginsWith text t left rest → after ss (found_of t) (colon_first (later t rest)) ≡ Some more
    → is_end (found_of t) ≡ true → stuck ss (placed text) ≡ None
ends ss more text t left rest b n e = stuck_behind ss more text t left rest b n ∙ ap (stuck more) (later_ends t rest e)

pub fewer : (text : List ℕ) (t : Token) (left : ℕ) (rest : List ℕ) → BeginsWith text t left rest → is_end (found_of t) ≡ false → length (placed rest) < length (placed text)
fewer text t left rest b e = rw (b, later_goes_on t rest e) (omega arith)

pub take_first : (text : List ℕ) (b : ℕ) (bs : List ℕ) (n : ℕ) → text ≡ b ∷ bs → n ≡ 1 + prefix_len continues_word bs → take n text ≡ b ∷ take_while continues_word bs
take_first text b bs n e h =
    let k : n ≡ suc (prefix_len continues_word bs) = omega arith in
    rw (e, k) (ap (λ z. b ∷ z) (take_run bs))

-- the words of some classes and others
pub words_both : (cs ds : List Class) → flat_map spaced (cs ++ ds) ≡ flat_map spaced cs ++ flat_map spaced ds
words_both cs ds = flat_map-append spaced cs ds
