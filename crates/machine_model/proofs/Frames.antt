-- What an exception entry pushes is what the return takes back.
use Rattle.std.proofs.Common.{List, length, ◌≡◌, ◌≢◌, ℕ, ◌+◌, ◌*◌, ◌/◌, ◌%◌, ◌^◌, ◌<◌, ◌≤◌, Bool, true, false, List, nat_eq, refl, ap, ◌∙◌, arith}
use Rattle.std.proofs.lemmas.Bool.Decides.{nat_tests}
use Rattle.base_words.specs.declared.conditions.Flags.{Flags}
use Rattle.base_words.specs.Arithmetic.{word}
use Rattle.machine_model.specs.declared.state.CoreRegisters.{CoreRegisters}
use Rattle.machine_model.specs.State.{bit_of}
use Rattle.machine_model.specs.Exceptions.{has_pad, frame_at, with_pad, frame_of, unstacked}
use Rattle.machine_model.specs.Resumed.{resumed, TellsThread, saved_of}
use Rattle.base_words.specs.Bytes.{write_all}
use Rattle.machine_model.specs.Stack.{words_at, AreWords}
use Rattle.machine_model.proofs.Stack.{words_written, cut_words-words}

pub bit_below : (b : Bool) → bit_of b < 2
bit_below true = omega arith
bit_below false = omega arith

bit_back : (b : Bool) → nat_eq (bit_of b) 1 ≡ b
bit_back true = refl
bit_back false = refl

bit_is : (n : ℕ) (b : Bool) → n ≡ bit_of b → nat_eq n 1 ≡ b
bit_is n b e = ap (λ k. nat_eq k 1) e ∙ bit_back b

-- the sum of the bits of a stacked xPSR
bits : (n z c v p : ℕ) → n < 2 → z < 2 → c < 2 → v < 2 → p < 2 →
    let x : ℕ = 2 ^ 31 * n + 2 ^ 30 * z + 2 ^ 29 * c + 2 ^ 28 * v + 2 ^ 24 + 2 ^ 9 * p in
    (x / 2 ^ 31 % 2 ≡ n) × (x / 2 ^ 30 % 2 ≡ z) × (x / 2 ^ 29 % 2 ≡ c) × (x / 2 ^ 28 % 2 ≡ v) × (x / 2 ^ 24 % 2 ≡ 1) × (x / 2 ^ 9 % 2 ≡ p) × (x % 2 ^ 9 ≡ 0) × (x < 2 ^ 32)
bits n z c v p a b d e g = (omega arith, omega arith, omega arith, omega arith, omega arith, omega arith, omega arith, omega arith)

abbrev record_of : (n z c v : Bool) → Flags
record_of n z c v = record { negative = n; is_zero = z; carry = c; overflow = v }

join_flags : (n z c v m y d w : Bool) → n ≡ m → z ≡ y → c ≡ d → v ≡ w → record_of n z c v ≡ record_of m y d w
join_flags n z c v m y d w p q r s = rw (p, q, r, s) refl

same_flags : (f g : Flags) → f.negative ≡ g.negative → f.is_zero ≡ g.is_zero → f.carry ≡ g.carry → f.overflow ≡ g.overflow → f ≡ g
same_flags f g a b c d = join_flags f.negative f.is_zero f.carry f.overflow g.negative g.is_zero g.carry g.overflow a b c d

pub status_tells : (f : Flags) (pad : Bool) → TellsThread f pad
status_tells f pad =
    let b = bits (bit_of f.negative) (bit_of f.is_zero) (bit_of f.carry) (bit_of f.overflow) (bit_of pad) (bit_below f.negative) (bit_below f.is_zero) (bit_below f.carry) (bit_below f.overflow) (bit_below pad) in
    record {
      flags = same_flags _ f (bit_is _ f.negative b.0) (bit_is _ f.is_zero b.1) (bit_is _ f.carry b.2) (bit_is _ f.overflow b.3);
      pad_bit = bit_is _ pad b.5;
      thread = let t = b.4 in let z = b.6 in rw (t, z) refl;
      fits = b.7;
    }

-- the stack pointer comes back
sp_back_by : (sp : ℕ) (b : Bool) → nat_eq (sp % 8) 0 ≡ b → sp % 4 ≡ 0 → 36 ≤ sp → sp < 2 ^ 32 → with_pad (has_pad sp) (word (frame_at sp + 32)) ≡ sp
sp_back_by sp true e aligned room fits = rw e (omega arith)
sp_back_by sp false e aligned room fits =
    let n : sp % 8 ≢ 0 = grind (arith, nat_tests) in
    rw e (omega arith)

pub sp_back : (sp : ℕ) → sp % 4 ≡ 0 → 36 ≤ sp → sp < 2 ^ 32 → with_pad (has_pad sp) (word (frame_at sp + 32)) ≡ sp
sp_back sp aligned room fits = sp_back_by sp (nat_eq (sp % 8) 0) refl aligned room fits

-- the words that an entry pushes, taken back, are the thread
abbrev pub core_of : (low high : List ℕ) (sp other : ℕ) (psp : Bool) (lr pc : ℕ) (f : Flags) → CoreRegisters
core_of low high sp other psp lr pc f = record { low = low; high = high; sp = sp; other_sp = other; on_psp = psp; lr = lr; pc = pc; flags = f }

join_core : (low high : List ℕ) (other lr pc : ℕ) (psp : Bool) (s u : ℕ) (f g : Flags) → s ≡ u → f ≡ g →
    core_of low high s other psp lr pc f ≡ core_of low high u other psp lr pc g
join_core low high other lr pc psp s u f g a b = rw (a, b) refl

pub unstacked_frame : (c h : CoreRegisters) (ret : ℕ) → c.sp % 4 ≡ 0 → 36 ≤ c.sp → c.sp < 2 ^ 32 → unstacked c.on_psp h (frame_at c.sp) (frame_of c ret) ≡ resumed c h ret
unstacked_frame c h ret aligned room fits =
    let t = status_tells c.flags (has_pad c.sp) in
    let s = ap (λ b. with_pad b (word (frame_at c.sp + 32))) t.pad_bit ∙ sp_back c.sp aligned room fits in
    join_core _ _ _ _ _ _ _ _ _ _ s t.flags

-- what an entry pushed is read as it was
pub frame_read : (c : CoreRegisters) (ret o : ℕ) (ram : List ℕ) → AreWords (saved_of c) → ret < 2 ^ 32 → o + 32 ≤ length ram →
    words_at 8 o (write_all 4 o (frame_of c ret) ram) ≡ frame_of c ret
frame_read c ret o ram h r room =
    let t = status_tells c.flags (has_pad c.sp) in
    let small : AreWords (frame_of c ret) = (h.0, (h.1.0, (h.1.1.0, (h.1.1.1.0, (h.1.1.1.1.0, (h.1.1.1.1.1.0, (r, (t.fits, tt)))))))) in
    words_written (frame_of c ret) o ram (omega arith) ∙ cut_words-words (frame_of c ret) small
