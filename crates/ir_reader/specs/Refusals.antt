-- Beyond the program's claim: only laws, proofs and functions inside the tool cite this file.
-- What a refusal says of the bytes.
use Rattle.std.specs.Prelude.{◌≡◌, ℕ, ◌+◌, ◌-◌, List, [], ◌∷◌, length, take, count_by, Some, IsUtf8, nat_eq}
use Rattle.std.specs.List.{suffix_len}
use Rattle.ir_model.specs.declared.token.Excess.TheVariants as excess
use Rattle.ir_model.specs.declared.token.Pos.{Pos}
use Rattle.ir_model.specs.Texts.{NotUtf8At, is_inside_line}
use Rattle.ir_reader.specs.declared.error.Fault.{Fault}
use Rattle.ir_reader.specs.declared.error.FaultKind.TheVariants as kind
use Rattle.ir_reader.specs.declared.fault.TextFault.{TextFault}
use Rattle.ir_reader.specs.declared.fault.TextFault.TheVariants as text
use Rattle.ir_reader.specs.Machine.{fault, Structs}
use Rattle.ir_reader.specs.Scan.{placed}

-- the place from which on so many bytes are left
pub record IsAt (bytes : List ℕ) (left : ℕ) (pos : Pos) : Type 0 where
  pub line : pos.line ≡ 1 + count_by (λ b. nat_eq b 10) (take (length bytes - left) bytes)
  pub col : pos.col ≡ 1 + suffix_len is_inside_line (take (length bytes - left) bytes)

abbrev pub IsPlacedFault : List ℕ → Fault → TextFault → Type 0
IsPlacedFault bytes f (text.Syntax pos) = (f.kind ≡ kind.Syntax) × IsAt bytes f.left pos
IsPlacedFault bytes f (text.NumberTooWide pos) = (f.kind ≡ kind.Exceeds excess.TooWide) × IsAt bytes f.left pos
IsPlacedFault bytes f (text.Limit which pos) = (f.kind ≡ kind.Exceeds (excess.Passes which)) × IsAt bytes f.left pos
IsPlacedFault bytes f (text.Utf8 at) = ⊥
IsPlacedFault bytes f text.NoMemory = ⊥

abbrev pub IsNotUtf8 : List ℕ → TextFault → Type 0
IsNotUtf8 bytes (text.Utf8 at) = NotUtf8At bytes at
IsNotUtf8 bytes (text.Syntax pos) = ⊥
IsNotUtf8 bytes (text.NumberTooWide pos) = ⊥
IsNotUtf8 bytes (text.Limit which pos) = ⊥
IsNotUtf8 bytes text.NoMemory = ⊥

-- the fault at which the moves stop stands there
pub record Stops (bytes : List ℕ) (e : TextFault) : Type 0 where
  pub utf8 : IsUtf8 bytes
  pub at : Fault
  pub stop : fault (Structs 0 ∷ []) (placed bytes) ≡ Some at
  pub place : IsPlacedFault bytes at e

abbrev pub Refuses : List ℕ → TextFault → Type 0
Refuses bytes (text.Utf8 at) = NotUtf8At bytes at
Refuses bytes (text.Syntax pos) = Stops bytes (text.Syntax pos)
Refuses bytes (text.NumberTooWide pos) = Stops bytes (text.NumberTooWide pos)
Refuses bytes (text.Limit which pos) = Stops bytes (text.Limit which pos)
Refuses bytes text.NoMemory = Unit {0}
