-- Beyond the program's claim: only laws, proofs and functions inside the tool cite this file.
-- What the code of addresses, of elements and of fields does.
use Rattle.std.specs.Prelude.{◌≡◌, ℕ, ◌+◌, ◌*◌, ◌^◌, ◌<◌, ◌≤◌, List, [], Option}
use Rattle.std.proofs.Math.ListN.{get_or}
use Rattle.base_words.specs.Arithmetic.{word}
use Rattle.machine_devices.specs.declared.image.Image.{Image}
use Rattle.machine_model.specs.State.{PermissionTest}
use Rattle.ir_model.specs.Resolved.{NumberedFunc, Named, TheGlobal, ThePeriph, TheLocal, Addr, FAddr, Elem, Field}
use Rattle.code_model.specs.declared.places.Places.{Places}
use Rattle.code_model.specs.Places.{global_address, window_address, entry_address}
use Rattle.code_model.specs.FrameShape.{local_starts}
use Rattle.code_model.specs.Addresses.{scale_of}
use Rattle.code_effects.specs.Points.{Point, Leads}
use Rattle.code_effects.specs.Frames.{HasFrame, home, HasInst, behind}
use Rattle.ir_model.specs.Typing.{object_limit}

-- where the objects that `addr` names stand
abbrev pub named_address : NumberedFunc → Places → (sp : ℕ) → Named → ℕ
named_address g q sp (TheGlobal x) = global_address q x
named_address g q sp (ThePeriph w) = window_address q w
named_address g q sp (TheLocal l) = sp + get_or (local_starts g) l 0

-- an address of 32 bits; a local begins in the frame of n words, or at its end
abbrev pub CanName : NumberedFunc → Places → (n : ℕ) → Named → Type 0
CanName g q n (TheGlobal x) = global_address q x < 2 ^ 32
CanName g q n (ThePeriph w) = window_address q w < 2 ^ 32
CanName g q n (TheLocal l) = get_or (local_starts g) l 0 ≤ 4 * n

-- ADD or MOVW and MOVT; STR
abbrev pub addr_steps : Named → ℕ
addr_steps (TheLocal l) = 2
addr_steps _ = 3

module _ (j : PermissionTest) (i : Image) (g : NumberedFunc) (q : Places) (labels : List (Option ℕ)) (site : Option ℕ) (p : Point) (o n : ℕ) where
  pub record AddressEffects : Type 0 where
    pub addr : (to : ℕ) (of : Named) → HasFrame j i p o n → to < n → CanName g q n of → HasInst j i g q labels p p.pc site (Addr to of) →
        Leads j i (addr_steps of) p (behind o p site (Addr to of) to (named_address g q p.sp of)) []
    -- the entry with bit 0 set
    pub faddr : (to f : ℕ) → HasFrame j i p o n → to < n → entry_address q f + 1 < 2 ^ 32 → HasInst j i g q labels p p.pc site (FAddr to f) →
        Leads j i 3 p (behind o p site (FAddr to f) to (entry_address q f + 1)) []
    -- the scale is the size of an element, up to the largest object's
    pub elem : (to base index size : ℕ) → HasFrame j i p o n → to < n → base < n → index < n → HasInst j i g q labels p p.pc site (Elem to base index size) →
        Leads j i 7 p (behind o p site (Elem to base index size) to (word (home o p base + home o p index * scale_of size))) []
    pub field : (to base offset : ℕ) → HasFrame j i p o n → to < n → base < n → offset < 2 ^ 32 → HasInst j i g q labels p p.pc site (Field to base offset) →
        Leads j i 5 p (behind o p site (Field to base offset) to (word (home o p base + offset))) []

-- elements and fields of an object that stands at an address: as the source counts its offsets, modulo 2^32
pub record OffsetsAgree : Type 0 where
  pub moved : (address at more : ℕ) → word (word (address + at) + more) ≡ word (address + word (at + more))
  pub scaled : (size : ℕ) → size ≤ object_limit → scale_of size ≡ size
  -- an element is never that large in any object, and then the code leaves the pointer as it is
  pub too_large : (size : ℕ) → object_limit < size → scale_of size ≡ 0
