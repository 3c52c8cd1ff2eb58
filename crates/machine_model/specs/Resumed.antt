-- Beyond the program's claim: only laws, proofs and functions inside the tool cite this file.
-- A thread behind an exception, and the registers of the handler that it did not keep.
use Rattle.std.specs.Prelude.{List, [], ◌∷◌, ◌≡◌, ℕ, ◌/◌, ◌%◌, ◌^◌, ◌<◌, ◌*◌, Bool, true, nat_eq}
use Rattle.base_words.specs.declared.conditions.Flags.{Flags}
use Rattle.machine_model.specs.Exceptions.{stacked_status, flags_of, is_thread}
use Rattle.std.proofs.Math.ListN.{get_or, set}
use Rattle.machine_bus.specs.Locations.{choose}
use Rattle.machine_model.specs.declared.state.CoreRegisters.{CoreRegisters}

-- the thread's r0 to r3, r12, stack pointer, link and flags, at the return address; the handler's r4 to r11 and main stack
abbrev pub resumed : (thread handler : CoreRegisters) → (return_address : ℕ) → CoreRegisters
resumed c h ret = record {
  low = set (set (set (set h.low 0 (get_or c.low 0 0)) 1 (get_or c.low 1 0)) 2 (get_or c.low 2 0)) 3 (get_or c.low 3 0);
  high = set h.high 4 (get_or c.high 4 0);
  sp = c.sp;
  other_sp = choose c.on_psp h.sp h.other_sp;
  on_psp = c.on_psp;
  lr = c.lr;
  pc = ret / 2 * 2;
  flags = c.flags;
}

-- a stacked xPSR tells the flags and the pad, and that it is a thread's
pub record TellsThread (f : Flags) (pad : Bool) : Type 0 where
  pub flags : flags_of (stacked_status f pad) ≡ f
  pub pad_bit : nat_eq (stacked_status f pad / 2 ^ 9 % 2) 1 ≡ pad
  pub thread : is_thread (stacked_status f pad) ≡ true
  pub fits : stacked_status f pad < 2 ^ 32

-- the registers that an entry saves
abbrev pub saved_of : CoreRegisters → List ℕ
saved_of c = get_or c.low 0 0 ∷ get_or c.low 1 0 ∷ get_or c.low 2 0 ∷ get_or c.low 3 0 ∷ get_or c.high 4 0 ∷ c.lr ∷ []
