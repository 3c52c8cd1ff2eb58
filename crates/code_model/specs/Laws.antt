-- Beyond the program's claim: only laws, proofs and functions inside the tool cite this file.
-- What holds of all code: statements of laws.
use Rattle.std.specs.Prelude.{◌≡◌, ℕ, ◌+◌, ◌%◌, ◌<◌, ◌≤◌, List, [], ◌∷◌, ◌++◌, length, Option, Some, is_some}
use Rattle.std.proofs.Math.ListN.{get_or}
use Rattle.machine_thumb_asm.specs.declared.item.Item.{Item}
use Rattle.machine_thumb_asm.specs.declared.item.Item.TheVariants.{Half}
use Rattle.machine_thumb_asm.specs.Assembly.{total}
use Rattle.ir_model.specs.Plain.{PlainFunc}
use Rattle.ir_model.specs.Frames as frames
use Rattle.ir_model.specs.Resolved.{Program, NumberedInst, NumberedTerm, NumberedFunc, Call, ICall, Here, Does, no_block}
use Rattle.ir_model.specs.Resolve.{Scope, resolved_func}
use Rattle.ir_model.specs.Signatures.{here_of}
use Rattle.code_model.specs.FramePlaces as named
use Rattle.plan_model.specs.declared.needs.Needs.{Needs}
use Rattle.plan_model.specs.declared.groups.Groups.{Groups}
use Rattle.plan_model.specs.Crossing.{site_number}
use Rattle.code_model.specs.declared.places.CallSite.{CallSite}
use Rattle.code_model.specs.declared.places.Places.{Places}
use Rattle.code_model.specs.FrameShape.{frame_size, local_starts}
use Rattle.code_model.specs.Places.{site_in}
use Rattle.code_model.specs.Templates.{entry_items, inst_items, term_items}
use Rattle.code_model.specs.Sizes.{inst_size, term_size, entry_size, function_size, place_offset, site_offset}
use Rattle.code_model.specs.FunctionCode.{lent, here_items, function_items}
use Rattle.code_model.specs.CompartmentCode.{CodeGroups, CodePlaces, entry_of, compartment_size, compartment_items}
use Rattle.code_model.specs.Planned.{call_sites}

-- the frame by numbers is the frame by names
pub record FramesAgree : Type 0 where
  pub size : (s : Scope) (f : PlainFunc) → frame_size (resolved_func s f) ≡ frames.frame_size s.known f
  pub starts : (s : Scope) (f : PlainFunc) → local_starts (resolved_func s f) ≡ named.local_offsets s.known f

-- pieces and functions have the sizes that are told without addresses
pub record SizesHold : Type 0 where
  pub insts : (g : NumberedFunc) (q : Places) (at : ℕ) (s : Option ℕ) (i : NumberedInst) → total (inst_items g q at s i) ≡ inst_size (is_some s) i
  pub terms : (g : NumberedFunc) (q : Places) (first : ℕ) (t : NumberedTerm) → total (term_items g q first t) ≡ term_size g (lent g q) t
  pub entries : (g : NumberedFunc) (q : Places) → total (entry_items g q) ≡ entry_size g (lent g q)
  pub functions : (g : NumberedFunc) (q : Places) (first at : ℕ) → total (function_items g q first at) ≡ function_size g q.sites (lent g q)

pub record SizesAreEven : Type 0 where
  pub functions : (g : NumberedFunc) (sites : List CallSite) (n : ℕ) → function_size g sites n % 2 ≡ 0
  pub places : (g : NumberedFunc) (sites : List CallSite) (n b k : ℕ) → place_offset g sites n b k % 2 ≡ 0

-- a piece that stands among others, `offset` bytes behind the first
pub record StandsAt (whole : List Item) (offset : ℕ) (piece : List Item) : Type 0 where
  pub front : List Item
  pub rest : List Item
  pub parts : whole ≡ front ++ (piece ++ rest)
  pub behind : total front ≡ offset

abbrev pub IsCall : Here → Type 0
IsCall (Does (Call to f args)) = Unit {0}
IsCall (Does (ICall to h args)) = Unit {0}
IsCall _ = ⊥

pub record PiecesStand : Type 0 where
  pub entries : (g : NumberedFunc) (q : Places) (first at : ℕ) → StandsAt (function_items g q first at) 0 (entry_items g q)
  pub places : (g : NumberedFunc) (q : Places) (first at b k : ℕ) → b < length g.blocks → k ≤ length (get_or g.blocks b no_block).insts →
      StandsAt (function_items g q first at) (place_offset g q.sites (lent g q) b k) (here_items g q first (at + place_offset g q.sites (lent g q) b k) b k (here_of g b k))
  pub sites : (g : NumberedFunc) (q : Places) (first at b k s : ℕ) → b < length g.blocks → k ≤ length (get_or g.blocks b no_block).insts →
      IsCall (here_of g b k) → site_in q.sites b k ≡ Some s → StandsAt (function_items g q first at) (site_offset g q.sites (lent g q) b k) (Half s ∷ [])

-- the code of a compartment has its size, a multiple of four, and entries are at multiples of four where compartments are
pub record CompartmentsHold : Type 0 where
  pub sizes : (p : Program) (groups : CodeGroups) (places : CodePlaces) (c : ℕ) → total (compartment_items p groups places c) ≡ compartment_size p groups c
  pub filled : (p : Program) (groups : CodeGroups) (c : ℕ) → compartment_size p groups c % 4 ≡ 0
  pub entries : (p : Program) (groups : CodeGroups) (places : CodePlaces) → ((c : ℕ) → get_or places.bases c 0 % 4 ≡ 0) → (f : ℕ) → entry_of p groups places f % 4 ≡ 0

-- a call's site in a function's code is the crossing site that stands there
abbrev pub SitesAgree : Type 0
SitesAgree = (n : Needs) (g : Groups) (f b k : ℕ) → site_in (call_sites n g f) b k ≡ site_number n g f b k
