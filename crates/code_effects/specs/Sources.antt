-- Beyond the program's claim: only laws, proofs and functions inside the tool cite this file.
-- The code of an instruction that sets a register does what the source's step does: where the words of the frame are those of the
-- source's registers, it leads to the frame with the new value's word in that register.
use Rattle.std.specs.Prelude.{◌≡◌, ℕ, ◌+◌, ◌^◌, ◌<◌, ◌≤◌, List, [], Option}
use Rattle.base_words.specs.Arithmetic.{word}
use Rattle.machine_devices.specs.declared.image.Image.{Image}
use Rattle.machine_model.specs.State.{PermissionTest}
use Rattle.ir_model.specs.Resolved.{Value, Number, Code, Null, At, Instance, OfGlobal, OfPeriph, OfLocal, Named, TheGlobal, ThePeriph, TheLocal, NumberedFunc, NumberedInst, Const, Move, Bin, Cmp, Addr, FAddr, Elem, Field}
use Rattle.ir_model.specs.State.{Frame}
use Rattle.ir_model.specs.Step.{register, Sets, act}
use Rattle.ir_model.specs.Typing.{object_limit}
use Rattle.code_model.specs.declared.places.Places.{Places}
use Rattle.code_model.specs.Places.{entry_address}
use Rattle.code_effects.specs.Points.{Point, Leads}
use Rattle.code_effects.specs.Frames.{HasFrame, home, HasInst, behind}
use Rattle.code_effects.specs.Addresses.{named_address, CanName}

-- the word that stands for a value, by the addresses of objects
abbrev pub word_of : Places → (address : Instance → ℕ) → Value → ℕ
word_of q address (Number n) = n
word_of q address (Code f) = entry_address q f + 1
word_of q address Null = 0
word_of q address (At of at) = word (address of + at)

abbrev pub IsNumber : Value → Type 0
IsNumber (Number n) = Unit {0}
IsNumber _ = ⊥

-- the object that `addr` names in a frame
abbrev pub object_of : Frame → Named → Instance
object_of fr (TheGlobal x) = OfGlobal x
object_of fr (ThePeriph w) = OfPeriph w
object_of fr (TheLocal l) = OfLocal fr.func fr.number l

-- the words of the frame are those of its first `count` registers
pub record Shows (q : Places) (address : Instance → ℕ) (fr : Frame) (count o : ℕ) (p : Point) : Type 0 where
  pub registers : (k : ℕ) → k < count → home o p k ≡ word_of q address (register fr k)

-- what types and places promise of an instruction: its registers are the function's, numbers are words, operands of operations are
-- numbers, objects stand where code expects them, and an element is no larger than any object
abbrev pub IsSound : NumberedFunc → Places → (address : Instance → ℕ) → Frame → (sp count n : ℕ) → NumberedInst → Type 0
IsSound g q address fr sp r n (Const to v) = (to < r) × (v < 2 ^ 32)
IsSound g q address fr sp r n (Move to from) = (to < r) × (from < r)
IsSound g q address fr sp r n (Bin op to a b) = (to < r) × (a < r) × (b < r) × IsNumber (register fr a) × IsNumber (register fr b)
IsSound g q address fr sp r n (Cmp op to a b) = (to < r) × (a < r) × (b < r) × IsNumber (register fr a) × IsNumber (register fr b)
IsSound g q address fr sp r n (Addr to of) = (to < r) × CanName g q n of × (named_address g q sp of < 2 ^ 32) × (address (object_of fr of) ≡ named_address g q sp of)
IsSound g q address fr sp r n (FAddr to f) = (to < r) × (entry_address q f + 1 < 2 ^ 32)
IsSound g q address fr sp r n (Elem to base index size) = (to < r) × (base < r) × (index < r) × IsNumber (register fr index) × (size ≤ object_limit)
IsSound g q address fr sp r n (Field to base offset) = (to < r) × (base < r) × (offset < 2 ^ 32)
IsSound g q address fr sp r n _ = ⊥

module _ (j : PermissionTest) (i : Image) (g : NumberedFunc) (q : Places) (labels : List (Option ℕ)) (site : Option ℕ) (p : Point) (o n : ℕ) where
  -- in at most seven steps
  pub record SetsWord (y : NumberedInst) (to v : ℕ) : Type 0 where
    pub count : ℕ
    pub least : 1 ≤ count
    pub most : count ≤ 7
    pub leads : Leads j i count p (behind o p site y to v) []

  abbrev pub SourceEffects : Type 0
  SourceEffects = (address : Instance → ℕ) (fr : Frame) (r : ℕ) (y : NumberedInst) (to : ℕ) (v : Value) → act fr y ≡ Sets to v → IsSound g q address fr p.sp r n y → Shows q address fr r o p →
      r ≤ n → HasFrame j i p o n → p.pc < 2 ^ 30 → HasInst j i g q labels p p.pc site y → SetsWord y to (word_of q address v)
