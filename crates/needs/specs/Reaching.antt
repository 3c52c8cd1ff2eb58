-- Beyond the program's claim: only laws, proofs and functions inside the tool cite this file.
-- Which of a number of functions lead to which, as rows of flags.
use Rattle.std.specs.Prelude.{◌≡◌, ◌↔◌, ℕ, ◌<◌, Bool, true, false, ◌||◌, ◌&&◌, List, [], length, get_or, Contains}
use Rattle.plan_model.specs.declared.needs.FuncNeed.{FuncNeed}
use Rattle.plan_model.specs.Needs.{no_need}

-- row f has function g
abbrev pub leads : List (List Bool) → (f g : ℕ) → Bool
leads rows f g = get_or (get_or rows f []) g false

-- by one step or more
pub data Leads (rows : List (List Bool)) : (f g : ℕ) → Type 0 where
  at_once : {f g : ℕ} → leads rows f g ≡ true → Leads rows f g
  then_on : {f g h : ℕ} → Leads rows f g → Leads rows g h → Leads rows f h

-- rows are as many as each has flags
pub record IsSquare (n : ℕ) (rows : List (List Bool)) : Type 0 where
  pub count : length rows ≡ n
  pub each : (f : ℕ) → f < n → length (get_or rows f []) ≡ n

-- each row that has k gets what row k has
abbrev pub IsPassed : (k : ℕ) → (old new : List (List Bool)) → Type 0
IsPassed k old new = (f g : ℕ) → leads new f g ≡ (leads old f g || (leads old f k && leads old k g))

-- the rows have what was there at first, nothing that it does not lead to, and what is reached through the first `through`
pub record IsClosedBy (through : ℕ) (first rows : List (List Bool)) : Type 0 where
  pub kept : (f g : ℕ) → leads first f g ≡ true → leads rows f g ≡ true
  pub sound : (f g : ℕ) → leads rows f g ≡ true → Leads first f g
  pub closed : (f k g : ℕ) → k < through → leads rows f k ≡ true → leads rows k g ≡ true → leads rows f g ≡ true

-- the rows of callees that are there
abbrev pub HasCallees : List FuncNeed → List (List Bool) → Type 0
HasCallees ns rows = (f g : ℕ) → f < length ns → g < length ns → leads rows f g ≡ true ↔ Contains (get_or ns f no_need).callees g

-- one function calls another that is there
abbrev pub Calls : List FuncNeed → (f g : ℕ) → Type 0
Calls ns f g = (f < length ns) × (g < length ns) × Contains (get_or ns f no_need).callees g

-- by one call or more
pub data Recurs (ns : List FuncNeed) : (f g : ℕ) → Type 0 where
  by_call : {f g : ℕ} → Calls ns f g → Recurs ns f g
  by_calls : {f g h : ℕ} → Recurs ns f g → Recurs ns g h → Recurs ns f h

abbrev pub AreRecursive : List FuncNeed → List Bool → Type 0
AreRecursive ns flags = (f : ℕ) → f < length ns → get_or flags f false ≡ true ↔ Recurs ns f f
