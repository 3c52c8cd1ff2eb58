-- Beyond the program's claim: only laws, proofs and functions inside the tool cite this file.
-- What the code at a function's entry does. `w` words of the frame lie below the return address.
use Rattle.std.specs.Prelude.{◌≡◌, ℕ, suc, ◌+◌, ◌*◌, ◌^◌, ◌<◌, ◌≤◌, ◌⊎◌, List, [], ◌∷◌, length, Option, nat_le, if◌then◌else◌}
use Rattle.std.proofs.Math.ListN.{get_or}
use Rattle.base_words.specs.Bytes.{read, cut}
use Rattle.machine_thumb.specs.Table.{svc}
use Rattle.machine_devices.specs.declared.image.Image.{Image}
use Rattle.machine_model.specs.State.{PermissionTest}
use Rattle.machine_model.specs.Code.{Stands}
use Rattle.machine_model.specs.Stack.{Room}
use Rattle.ir_model.specs.Resolved.{NumberedFunc}
use Rattle.ir_model.specs.Signatures.{row_length}
use Rattle.code_model.specs.declared.places.Places.{Places}
use Rattle.code_model.specs.FrameShape.{frame_shape}
use Rattle.code_model.specs.Places.{Lend}
use Rattle.code_model.specs.Templates.{lends_of}
use Rattle.code_model.specs.Sizes.{entry_size}
use Rattle.code_effects.specs.Points.{Point, known, Leads}
use Rattle.code_effects.specs.Frames.{HasEntry}

-- a frame o bytes behind RAM's base: the arguments are in its first words, the other words below the return address are clear, and
-- the bytes beside it stay
pub record Entered (o w link : ℕ) (arguments : List ℕ) (old new : List ℕ) : Type 0 where
  pub as_long : length new ≡ length old
  pub given : (k : ℕ) → k < length arguments → read 4 (o + 4 * k) new ≡ cut 4 (get_or arguments k 0)
  pub cleared : (k : ℕ) → length arguments ≤ k → k < w → read 4 (o + 4 * k) new ≡ 0
  pub return_address : read 4 (o + 4 * w) new ≡ cut 4 link
  pub beside : (u a : ℕ) → (a + u ≤ o) ⊎ (o + 4 * (w + 1) ≤ a) → read u a new ≡ read u a old

-- PUSH, SUB once or twice, a store of each argument, MOVS, and a store of each other word
abbrev pub entry_steps : (words : ℕ) → ℕ
entry_steps w = if nat_le w 127 then 3 + w else 4 + w

abbrev pub no_lend : Lend
no_lend = record { home = 0; number = 0 }

-- the frame stands from `to` on, right below the caller's stack pointer
pub record FrameMade (j : PermissionTest) (i : Image) (g : NumberedFunc) (p : Point) (o to : ℕ) (arguments : List ℕ) : Type 0 where
  pub ram : List ℕ
  pub entered : Entered o (frame_shape g).words p.lr arguments p.ram ram
  pub leads : Leads j i (entry_steps (frame_shape g).words) (record p { registers = known arguments }) (record p { registers = []; sp = to; pc = p.pc + entry_size g 0; ram = ram }) []

module _ (j : PermissionTest) (i : Image) (g : NumberedFunc) (q : Places) (labels : List (Option ℕ)) (p : Point) (o to : ℕ) where
  pub record EntryEffects : Type 0 where
    -- up to the first lend: all of it where no local is lent
    pub frame : (arguments : List ℕ) → length arguments ≡ row_length g.params → length arguments ≤ (frame_shape g).words → to + 4 * ((frame_shape g).words + 1) ≡ p.sp →
        length p.ram ≡ i.ram_size → Room j i p.context.protection to o ((frame_shape g).words + 1) → HasEntry j i g q labels p p.pc → FrameMade j i g p o to arguments
    -- up to the SVC of a lend: the local's address in r0, and its number in r1
    pub lend : (at k : ℕ) → k < length (lends_of g q) → p.sp + 4 * (get_or (lends_of g q) k no_lend).home < 2 ^ 32 → HasEntry j i g q labels p at →
        Leads j i 2 (record p { pc = at + entry_size g k })
        (record p { registers = known ((p.sp + 4 * (get_or (lends_of g q) k no_lend).home) ∷ (get_or (lends_of g q) k no_lend).number ∷ []); pc = at + entry_size g k + 4 }) []
    pub lend_stands : (at k : ℕ) → k < length (lends_of g q) → HasEntry j i g q labels p at → Stands j i p.context.protection (at + entry_size g k + 4) (svc 2)
    -- behind it the next lend begins, or the first block
    pub next_lend : (at k : ℕ) → at + entry_size g k + 4 + 2 ≡ at + entry_size g (suc k)
