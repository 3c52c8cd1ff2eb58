-- Beyond the program's claim: only laws, proofs and functions inside the tool cite this file.
-- Sizes and alignments where a size may pass the limit, and where a struct may not be declared.
use Rattle.std.specs.Prelude.{Bool, ◌&&◌, true, false, ℕ, ◌+◌, ◌*◌, ◌<◌, List, [], ◌∷◌, ◌++◌, if◌then◌else◌, max, Option, Some, None, option_and_then, nat_le, bytes_eq}
use Rattle.base_laws.specs.Lists.{Each}
use Rattle.ir_model.specs.declared.extent.Extent.{Extent}
use Rattle.ir_model.specs.declared.extent.TheConstants.{SIZE_LIMIT}
use Rattle.ir_model.specs.Types.{PlainType, U8, U16, U32, Pointer, Array, Named, Callee}
use Rattle.ir_model.specs.Plain.{PlainBinding, PlainStruct}
use Rattle.ir_model.specs.Layout.{rounded_up}

-- a struct that counts as declared, with its extent where it has one
pub record Sized : Type 0 where
  pub name : List ℕ
  pub extent : Option Extent

-- by the first struct of a name
abbrev pub extent_named : List Sized → List ℕ → Option Extent
extent_named [] n = None
extent_named (k ∷ ks) n = if bytes_eq k.name n then k.extent else extent_named ks n

abbrev pub limited : Extent → Option Extent
limited e = if nat_le e.size SIZE_LIMIT then Some e else None

abbrev pub of_many : ℕ → Extent → Option Extent
of_many n e = limited (record { size = n * e.size; align = e.align })

abbrev pub one_cell : ℕ → Option Extent
one_cell n = Some (record { size = n; align = n })

-- the extent of a type by the structs that count as declared
abbrev pub extent : List Sized → PlainType → Option Extent
extent ks U8 = one_cell 1
extent ks U16 = one_cell 2
extent ks U32 = one_cell 4
extent ks (Pointer t) = one_cell 4
extent ks (Array n t) = option_and_then (of_many n) (extent ks t)
extent ks (Named n) = extent_named ks n
extent ks (Callee a r) = one_cell 4

-- a field behind what is laid out
abbrev pub behind : Extent → Extent → Option Extent
behind s e = limited (record { size = rounded_up s.size e.align + e.size; align = max s.align e.align })

abbrev pub closed : Extent → Option Extent
closed s = limited (record { size = rounded_up s.size s.align; align = s.align })

-- fields behind what is laid out, which may be nothing already
abbrev pub extent_behind : List Sized → Option Extent → List PlainBinding → Option Extent
extent_behind ks s [] = option_and_then closed s
extent_behind ks s (f ∷ fs) = extent_behind ks (option_and_then (λ b. option_and_then (behind b) (extent ks f.ty)) s) fs

abbrev pub nothing_yet : Extent
nothing_yet = record { size = 0; align = 1 }

abbrev pub fields_extent : List Sized → List PlainBinding → Option Extent
fields_extent ks fs = extent_behind ks (Some nothing_yet) fs

abbrev pub sized_behind : List Sized → List PlainStruct → List Sized
sized_behind ks [] = ks
sized_behind ks (s ∷ ss) = sized_behind (ks ++ record { name = s.name; extent = fields_extent ks s.fields } ∷ []) ss

-- the structs, each by those before it
unfoldable pub sized : List PlainStruct → List Sized
sized ss = sized_behind [] ss

-- the size and alignment of a type, where every struct in it that is behind no pointer and no `fn` counts as declared, and
-- no size passes the limit
abbrev pub pair_of : Option Extent → Option (ℕ × ℕ)
pair_of None = None
pair_of (Some e) = Some (e.size, e.align)

abbrev pub layout_of : List PlainStruct → PlainType → Option (ℕ × ℕ)
layout_of ss t = pair_of (extent (sized ss) t)

-- whether every struct in a type that is behind no pointer and no `fn` counts as declared
pub record Counted : Type 0 where
  pub name : List ℕ
  pub counts : Bool

abbrev pub counted_named : List Counted → List ℕ → Bool
counted_named [] n = false
counted_named (k ∷ ks) n = if bytes_eq k.name n then k.counts else counted_named ks n

abbrev pub is_counted : List Counted → PlainType → Bool
is_counted ks (Array n t) = is_counted ks t
is_counted ks (Named n) = counted_named ks n
is_counted ks _ = true

abbrev pub are_counted : List Counted → List PlainBinding → Bool
are_counted ks [] = true
are_counted ks (f ∷ fs) = is_counted ks f.ty && are_counted ks fs

abbrev pub counted_behind : List Counted → List PlainStruct → List Counted
counted_behind ks [] = ks
counted_behind ks (s ∷ ss) = counted_behind (ks ++ record { name = s.name; counts = are_counted ks s.fields } ∷ []) ss

unfoldable pub counted : List PlainStruct → List Counted
counted ss = counted_behind [] ss

-- every array has an element
abbrev pub HasElements : PlainType → Type 0
HasElements (Array n t) = (0 < n) × HasElements t
HasElements _ = Unit {0}

abbrev pub EachHasElements : List PlainBinding → Type 0
EachHasElements fs = Each (λ (f : PlainBinding). HasElements f.ty) fs

abbrev pub AllHaveElements : List PlainStruct → Type 0
AllHaveElements ss = Each (λ (s : PlainStruct). EachHasElements s.fields) ss
