-- What reading a source whole tells.
use Rattle.std.proofs.Common.{◌≡◌, ◌∙◌, ℕ, ◌<◌, ◌≤◌, ◌⊎◌, inl, inr, List, [], length, Bool, Some, Result, Ok, Err, IsTrue, IsSomeAnd, sym, append-nil}
use Rattle.base_outside.specs.declared.reading.ReadRefusal.{ReadRefusal}
use Rattle.base_outside.specs.declared.reading.ReadRefusal.TheVariants.{TooLong, Failed, NoMemory}
use Rattle.base_outside.specs.Calls.{Call}
use Rattle.base_outside.specs.Reading.{ReadsWhole, AsksSize}
use Rattle.aces_files.specs.Known.{Held}
use Rattle.aces_files.specs.CarriesOut.{IsKnown, IsKnownLarge}

-- calls that read it whole and no others
pub known_alone : (told : Bool) (held : Held) (calls : List Call) (name : List ℕ) (limit : ℕ) (bytes : List ℕ) → ReadsWhole name limit calls bytes
    → (IsTrue told → held name ≡ Some bytes) → length bytes ≤ limit → IsKnown told held calls (record { name = name; limit = limit }) bytes
known_alone told held calls name limit bytes h there within = (
  record { before = []; reads = calls; after = []; among = sym (append-nil calls); whole = h },
  λ t. record { there = there t; within = within },
)

-- one call, which asked for its size
pub large_alone : (told : Bool) (held : Held) (calls : List Call) (name : List ℕ) (limit : ℕ) → ((size : ℕ) × AsksSize name size calls × (limit < size))
    → (IsTrue told → IsSomeAnd (held name) (λ bytes. limit < length bytes)) → IsKnownLarge told held calls (record { name = name; limit = limit })
large_alone told held calls name limit h large = (record { before = []; size = h.0; last = h.1; exceeds = h.2 }, large)

-- where it is refused for another reason, what holds unless it failed holds
pub long_not_failed : {T : Type 0} (P : Type 0) (r : Result T ReadRefusal) → r ≡ Err TooLong → (r ≡ Err Failed) ⊎ P → P
long_not_failed P r h k = elim k [ inl f ↦ let wrong : Err TooLong ≡ Err Failed = sym h ∙ f in cc | inr p ↦ p ]

pub want_not_failed : {T : Type 0} (P : Type 0) (r : Result T ReadRefusal) → r ≡ Err NoMemory → (r ≡ Err Failed) ⊎ P → P
want_not_failed P r h k = elim k [ inl f ↦ let wrong : Err NoMemory ≡ Err Failed = sym h ∙ f in cc | inr p ↦ p ]

pub read_not_failed : {T : Type 0} (P : Type 0) (t : T) (r : Result T ReadRefusal) → r ≡ Ok t → (r ≡ Err Failed) ⊎ P → P
read_not_failed P t r h k = elim k [ inl f ↦ let wrong : Ok t ≡ Err Failed = sym h ∙ f in cc | inr p ↦ p ]
