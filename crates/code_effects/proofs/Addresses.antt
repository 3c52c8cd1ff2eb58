-- The code of addresses, of elements and of fields.
use Rattle.std.proofs.Common.{◌≡◌, ℕ, zero, suc, ◌+◌, ◌*◌, ◌/◌, ◌%◌, ◌^◌, ◌<◌, ◌≤◌, List, [], ◌∷◌, length, get_or, Option, refl, subst, arith}
use Rattle.std.proofs.lemmas.Bool.Decides.{nat_tests}
use Rattle.base_words.specs.Arithmetic.{word, add, multiply}
use Rattle.base_words.specs.Flags.{result_flags, add_flags}
use Rattle.base_words.specs.Bytes.{write}
use Rattle.machine_devices.specs.declared.image.Image.{Image}
use Rattle.machine_model.specs.State.{PermissionTest}
use Rattle.machine_model.specs.Code.{CodeAt}
use Rattle.machine_model.proofs.Exec.{stay, next_step, onward}
use Rattle.machine_model.proofs.InstructionEffects.{operation_gives}
use Rattle.machine_model.proofs.Transfers.{ldr_sp, str_sp, add_d_sp}
use Rattle.machine_model.proofs.Constants.{word_into, adds}
use Rattle.ir_model.specs.Layout.{Shape}
use Rattle.ir_model.specs.Resolved.{NumberedFunc, Named, TheGlobal, ThePeriph, TheLocal, Addr, FAddr, Elem, Field}
use Rattle.code_model.specs.declared.places.Places.{Places}
use Rattle.code_model.specs.FrameShape.{local_size, starts_from, local_starts}
use Rattle.code_model.specs.Places.{global_address, window_address, entry_address}
use Rattle.code_model.specs.Words.{save, home_address}
use Rattle.code_model.specs.Addresses.{scale_of}
use Rattle.code_model.specs.Templates.{inst_items}
use Rattle.code_model.specs.Sizes.{inst_size}
use Rattle.code_effects.specs.Points.{Point, Leads}
use Rattle.code_effects.specs.Frames.{HasFrame, home, HasInst, behind}
use Rattle.code_effects.specs.Addresses.{named_address, CanName, addr_steps, AddressEffects, OffsetsAgree}
use Rattle.code_effects.proofs.Moves.{number_by}
use Rattle.code_effects.proofs.Joined.{landed, leads_by}
use Rattle.code_effects.proofs.Registers.{holds_nothing}
use Rattle.code_model.proofs.Scales.{scale_small}

-- locals begin at whole words
starts_are_words : (from : ℕ) (ls : List Shape) (l : ℕ) → from % 4 ≡ 0 → get_or (starts_from from ls) l 0 % 4 ≡ 0
starts_are_words from [] l h = refl
starts_are_words from (s ∷ ss) zero h = h
starts_are_words from (s ∷ ss) (suc l) h = starts_are_words (from + local_size s) ss l (omega arith)

module _ (j : PermissionTest) (i : Image) (p : Point) (o n : ℕ) where
  -- the address of a word of the frame
  local_by : (to k : ℕ) → HasFrame j i p o n → to < n → k ≤ n → CodeAt j i p.context.protection p.pc (home_address 0 k ∷ save to ∷ []) →
      Leads j i 2 p (record p { registers = []; pc = p.pc + 4; ram = write 4 (o + 4 * to) (p.sp + 4 * k) p.ram }) []
  local_by to k room lt le code =
      let w = room.words in
      let v : ℕ = p.sp + 4 * k in
      let fits : p.sp + 4 * k < 2 ^ 32 = omega (arith, w.is_at, w.fits, w.low) in
      leads_by j i 2 p _ [] (λ a b c rest f h.
      landed j i 2 _ p.context [] (v ∷ b ∷ c ∷ rest) p.sp p.lr (p.pc + 2 + 2) (p.pc + 4) f (write 4 (o + 4 * to) v p.ram) p.queues [] (omega arith) (holds_nothing (v ∷ b ∷ c ∷ rest) (omega arith))
      (next_step (add_d_sp j i p.context (a ∷ b ∷ c ∷ rest) p.sp p.lr p.pc f p.ram p.queues 0 k fits code.0)
      (next_step (str_sp j i p.context (v ∷ b ∷ c ∷ rest) p.sp p.lr (p.pc + 2) f p.ram p.queues 0 to o n room lt code.1.0) (stay j i))))

module _ (j : PermissionTest) (i : Image) (g : NumberedFunc) (q : Places) (labels : List (Option ℕ)) (site : Option ℕ) (p : Point) (o n : ℕ) where
  pub addr : (to : ℕ) (of : Named) → HasFrame j i p o n → to < n → CanName g q n of → HasInst j i g q labels p p.pc site (Addr to of) →
      Leads j i (addr_steps of) p (behind o p site (Addr to of) to (named_address g q p.sp of)) []
  unfolding inst_items inst_size
  addr to (TheGlobal x) room lt fits code = number_by j i p o n to (global_address q x) room lt fits code
  addr to (ThePeriph w) room lt fits code = number_by j i p o n to (window_address q w) room lt fits code
  addr to (TheLocal l) room lt fits code =
      let s : ℕ = get_or (local_starts g) l 0 in
      let even : s % 4 ≡ 0 = starts_are_words (4 * length g.regs) g.locals l (omega arith) in
      let e : p.sp + 4 * (s / 4) ≡ p.sp + s = omega arith in
      subst (λ (a : ℕ). Leads j i 2 p (record p { registers = []; pc = p.pc + 4; ram = write 4 (o + 4 * to) a p.ram }) []) e (local_by j i p o n to (s / 4) room lt (omega arith) code)

  pub faddr : (to f : ℕ) → HasFrame j i p o n → to < n → entry_address q f + 1 < 2 ^ 32 → HasInst j i g q labels p p.pc site (FAddr to f) →
      Leads j i 3 p (behind o p site (FAddr to f) to (entry_address q f + 1)) []
  unfolding inst_items inst_size
  faddr to f room lt fits code = number_by j i p o n to (entry_address q f + 1) room lt fits code

  pub elem : (to base index size : ℕ) → HasFrame j i p o n → to < n → base < n → index < n → HasInst j i g q labels p p.pc site (Elem to base index size) →
      Leads j i 7 p (behind o p site (Elem to base index size) to (word (home o p base + home o p index * scale_of size))) []
  unfolding inst_items inst_size
  elem to base index size room lt lb li code =
      let y : ℕ = home o p base in
      let z : ℕ = home o p index in
      let s : ℕ = scale_of size in
      let m : ℕ = multiply z s in
      let e : word (y + z * s) ≡ add y m = omega arith in
      let small = scale_small size in
      rw e (leads_by j i 7 p _ [] (λ a b c rest f h.
      landed j i 7 _ p.context [] (add y m ∷ m ∷ s ∷ rest) p.sp p.lr (p.pc + 2 + 2 + 4 + 4 + 2 + 2 + 2) (p.pc + 18) (add_flags y m 0) (write 4 (o + 4 * to) (add y m) p.ram) p.queues [] (omega arith) (holds_nothing (add y m ∷ m ∷ s ∷ rest) (omega arith))
      (next_step (ldr_sp j i p.context (a ∷ b ∷ c ∷ rest) p.sp p.lr p.pc f p.ram p.queues 0 base o n room lb code.0)
      (next_step (ldr_sp j i p.context (y ∷ b ∷ c ∷ rest) p.sp p.lr (p.pc + 2) f p.ram p.queues 1 index o n room li code.1.0)
      (onward j i (word_into j i p.context (y ∷ z ∷ c ∷ rest) p.sp p.lr (p.pc + 2 + 2) f p.ram p.queues 2 s (omega arith) (omega arith) small code.1.1.0 code.1.1.1.0)
      (next_step (operation_gives j i p.context (y ∷ z ∷ s ∷ rest) p.sp p.lr (p.pc + 2 + 2 + 4 + 4) f p.ram p.queues 13 2 1 m (result_flags f m) refl code.1.1.1.1.0)
      (next_step (adds j i p.context (y ∷ m ∷ s ∷ rest) p.sp p.lr (p.pc + 2 + 2 + 4 + 4 + 2) (result_flags f m) p.ram p.queues 1 0 0 code.1.1.1.1.1.0)
      (next_step (str_sp j i p.context (add y m ∷ m ∷ s ∷ rest) p.sp p.lr (p.pc + 2 + 2 + 4 + 4 + 2 + 2) (add_flags y m 0) p.ram p.queues 0 to o n room lt code.1.1.1.1.1.1.0) (stay j i)))))))))

  pub field : (to base offset : ℕ) → HasFrame j i p o n → to < n → base < n → offset < 2 ^ 32 → HasInst j i g q labels p p.pc site (Field to base offset) →
      Leads j i 5 p (behind o p site (Field to base offset) to (word (home o p base + offset))) []
  unfolding inst_items inst_size
  field to base k room lt lb fits code =
      let y : ℕ = home o p base in
      leads_by j i 5 p _ [] (λ a b c rest f h.
      landed j i 5 _ p.context [] (add y k ∷ k ∷ c ∷ rest) p.sp p.lr (p.pc + 2 + 4 + 4 + 2 + 2) (p.pc + 14) (add_flags y k 0) (write 4 (o + 4 * to) (add y k) p.ram) p.queues [] (omega arith) (holds_nothing (add y k ∷ k ∷ c ∷ rest) (omega arith))
      (next_step (ldr_sp j i p.context (a ∷ b ∷ c ∷ rest) p.sp p.lr p.pc f p.ram p.queues 0 base o n room lb code.0)
      (onward j i (word_into j i p.context (y ∷ b ∷ c ∷ rest) p.sp p.lr (p.pc + 2) f p.ram p.queues 1 k (omega arith) (omega arith) fits code.1.0 code.1.1.0)
      (next_step (adds j i p.context (y ∷ k ∷ c ∷ rest) p.sp p.lr (p.pc + 2 + 4 + 4) f p.ram p.queues 1 0 0 code.1.1.1.0)
      (next_step (str_sp j i p.context (add y k ∷ k ∷ c ∷ rest) p.sp p.lr (p.pc + 2 + 4 + 4 + 2) (add_flags y k 0) p.ram p.queues 0 to o n room lt code.1.1.1.1.0) (stay j i))))))

pub address_effects : (j : PermissionTest) (i : Image) (g : NumberedFunc) (q : Places) (labels : List (Option ℕ)) (site : Option ℕ) (p : Point) (o n : ℕ) → AddressEffects j i g q labels site p o n
address_effects j i g q labels site p o n = record {
  addr = addr j i g q labels site p o n;
  faddr = faddr j i g q labels site p o n;
  elem = elem j i g q labels site p o n;
  field = field j i g q labels site p o n;
}

moved_word : (address at more : ℕ) → word (word (address + at) + more) ≡ word (address + word (at + more))
moved_word address at more = omega arith

pub offsets_agree : OffsetsAgree
offsets_agree = record {
  moved = moved_word;
  scaled = λ size h. search (nat_tests, arith);
  too_large = λ size h. search (nat_tests, arith);
}
