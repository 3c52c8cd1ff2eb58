-- Beyond the program's claim: only laws, proofs and functions inside the tool cite this file.
-- What the source holds, as areas of RAM that lie apart.
use Rattle.std.specs.Prelude.{◌≡◌, ℕ, zero, suc, ◌+◌, ◌≤◌, ◌⊎◌, List, [], ◌∷◌, length}
use Rattle.std.proofs.Math.ListN.{get_or, set}
use Rattle.base_laws.specs.Lists.{Each}
use Rattle.base_words.specs.Bytes.{read, cut}

pub record Area : Type 0 where
  pub at : ℕ
  pub width : ℕ

abbrev pub Beside : Area → Area → Type 0
Beside c d = (c.at + c.width ≤ d.at) ⊎ (d.at + d.width ≤ c.at)

-- areas lie apart
abbrev pub Laid : List Area → Type 0
Laid [] = Unit {0}
Laid (c ∷ cs) = Each (Beside c) cs × Laid cs

-- RAM has these words, each cut to its area
abbrev pub Has : (ram : List ℕ) → List Area → List ℕ → Type 0
Has ram [] [] = Unit {0}
Has ram [] (v ∷ vs) = ⊥
Has ram (c ∷ cs) [] = ⊥
Has ram (c ∷ cs) (v ∷ vs) = (read c.width c.at ram ≡ cut c.width v) × (c.at + c.width ≤ length ram) × Has ram cs vs

-- the area of this number
abbrev pub IsAt : List Area → ℕ → Area → Type 0
IsAt [] k c = ⊥
IsAt (d ∷ ds) zero c = d ≡ c
IsAt (d ∷ ds) (suc k) c = IsAt ds k c

abbrev pub Inside : (lo hi : ℕ) → Area → Type 0
Inside lo hi c = (lo ≤ c.at) × (c.at + c.width ≤ hi)

-- an area that keeps off a range
abbrev pub Off : (lo hi : ℕ) → Area → Type 0
Off lo hi c = (c.at + c.width ≤ lo) ⊎ (hi ≤ c.at)

-- one of the words is in this area; another word in its place gives these words
pub record IsWordIn (cs : List Area) (vs : List ℕ) (c : Area) (old new : ℕ) (us : List ℕ) : Type 0 where
  pub index : ℕ
  pub is_at : IsAt cs index c
  pub holds : get_or vs index 0 ≡ old
  pub sets : set vs index new ≡ us
