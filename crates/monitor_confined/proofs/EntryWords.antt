-- The words that an exception's entry pushes below a thread's stack pointer, as its handler finds them in RAM.
use Rattle.std.proofs.Common.{◌≡◌, ℕ, ◌+◌, ◌-◌, ◌*◌, ◌^◌, ◌<◌, ◌≤◌, true, List, length, get_or, ap, ap₂, ◌∙◌, arith}
use Rattle.base_words.specs.Bytes.{write_all}
use Rattle.base_words.proofs.Bytes.{length-write_all}
use Rattle.machine_devices.specs.declared.image.Image.{Image}
use Rattle.machine_devices.specs.Rules.{ObeysRules}
use Rattle.machine_bus.specs.Locations.{location, InFlash}
use Rattle.machine_bus.proofs.Offsets.{flash_at}
use Rattle.machine_model.specs.declared.state.FaultStatus.{FaultStatus}
use Rattle.machine_model.specs.State.{State, by_mpu}
use Rattle.machine_model.specs.Exceptions.{frame_at, frame_of, entered, is_frame_open}
use Rattle.machine_model.specs.Stack.{words_at, cut_words}
use Rattle.machine_model.specs.Shape.{StateFits}
use Rattle.machine_model.specs.EntryFrame.{OpenFrame, OpenFramesAreWords}
use Rattle.monitor_model.specs.Outcomes.{frame_in, stacked}

abbrev pub WordsAreRead : Type 0
WordsAreRead = (vs : List ℕ) (o : ℕ) (ram : List ℕ) → o + 4 * length vs ≤ length ram → words_at (length vs) o (write_all 4 o vs ram) ≡ cut_words vs

-- the laws of frames
pub record FrameLaws : Type 0 where
  pub pushed : WordsAreRead
  pub in_ram : OpenFramesAreWords

pub offset_is : (b o a : ℕ) → b + o ≡ a → a - b ≡ o
offset_is b o a e = omega arith

-- what lies in flash lies low
pub flash_low : (i : Image) → ObeysRules i → (a o : ℕ) → location i a ≡ InFlash o → a < 2 ^ 30
flash_low i rules a o e =
    let f = flash_at i a o e in
    let at = f.0 in
    let lt = f.1 in
    let high = rules.flash_highest in
    let most = rules.flash_most in
    omega (arith, at, lt, high, most)

module _ (laws : FrameLaws) (i : Image) (rules : ObeysRules i) (s : State) (fits : StateFits i s) (opened : is_frame_open by_mpu i s ≡ true) where
  pub frame : OpenFrame by_mpu i s.core s.protection s.status s.ram s.queues
  frame = laws.in_ram by_mpu i s.core s.protection s.status s.ram s.queues rules fits.core.sp_aligned opened

  -- the frame's place in RAM
  pub frame_offset : frame_at s.core.sp - i.ram_base ≡ frame.offset
  frame_offset = offset_is i.ram_base frame.offset (frame_at s.core.sp) frame.frame.words.is_at

  module _ (n ret : ℕ) (u : FaultStatus) where
    pub entered_ram : (entered true i n ret u s).to.ram ≡ write_all 4 frame.offset (frame_of s.core ret) s.ram
    entered_ram = ap (λ (x : State). x.ram) (frame.entry n ret u)

    pub entered_length : length (entered true i n ret u s).to.ram ≡ i.ram_size
    entered_length = ap length entered_ram ∙ length-write_all 4 frame.offset (frame_of s.core ret) s.ram ∙ fits.ram_count

    pub frame_words : frame_in i (frame_at s.core.sp) (entered true i n ret u s).to.ram ≡ cut_words (frame_of s.core ret)
    frame_words =
        let fit = frame.frame.words.fits in
        let long = fits.ram_count in
        let room : frame.offset + 32 ≤ length s.ram = omega (arith, fit, long) in
        ap₂ (λ o r. words_at 8 o r) frame_offset entered_ram ∙ laws.pushed (frame_of s.core ret) frame.offset s.ram room

    pub frame_word : (k : ℕ) → stacked i (frame_at s.core.sp) (entered true i n ret u s).to.ram k ≡ get_or (cut_words (frame_of s.core ret)) k 0
    frame_word k = ap (λ (ws : List ℕ). get_or ws k 0) frame_words
