-- What the code of a function needs from outside, looked up. What is not there has a default.
use Rattle.std.specs.Prelude.{ℕ, ◌/◌, List, [], ◌∷◌, Bool, ◌&&◌, Option, Some, None, is_some, nat_eq, if◌then◌else◌}
use Rattle.std.proofs.Math.ListN.{get_or}
use Rattle.code_model.specs.declared.places.CallSite.{CallSite}
use Rattle.code_model.specs.declared.places.Places.{Places}

abbrev pub global_address : Places → ℕ → ℕ
global_address q x = get_or q.globals x 0

abbrev pub window_address : Places → ℕ → ℕ
window_address q w = get_or q.windows w 0

abbrev pub entry_address : Places → ℕ → ℕ
entry_address q f = get_or q.entries f 0

-- the number of the site of a call that may go to another compartment
abbrev pub site_in : List CallSite → (block place : ℕ) → Option ℕ
site_in [] b k = None
site_in (s ∷ ss) b k = if nat_eq s.block b && nat_eq s.place k then Some s.number else site_in ss b k

abbrev pub crosses : List CallSite → (block place : ℕ) → Bool
crosses ss b k = is_some (site_in ss b k)

-- a local that is lent: the first of its words in the frame, and the number by which it is lent
pub record Lend : Type 0 where
  pub home : ℕ
  pub number : ℕ

-- of the locals that begin there and have these numbers, those that are lent
abbrev pub lends_among : (starts : List ℕ) → List (Option ℕ) → List Lend
lends_among [] ns = []
lends_among (s ∷ ss) [] = []
lends_among (s ∷ ss) (None ∷ ns) = lends_among ss ns
lends_among (s ∷ ss) (Some n ∷ ns) = record { home = s / 4; number = n } ∷ lends_among ss ns
