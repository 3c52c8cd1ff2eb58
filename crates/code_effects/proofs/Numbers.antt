-- The code of numbers, of copies, and of operations on two numbers.
use Rattle.std.specs.Prelude.{bit_and, bit_or, bit_xor}
use Rattle.std.proofs.Common.{◌≡◌, ℕ, ◌+◌, ◌*◌, ◌^◌, ◌<◌, List, [], ◌∷◌, Option, refl, arith}
use Rattle.base_words.specs.declared.conditions.Flags.{Flags}
use Rattle.base_words.specs.Arithmetic.{add, subtract, multiply, unsigned_quotient, signed_quotient, unsigned_remainder, signed_remainder, bit_clear, shift_left, shift_right, shift_right_signed, shifted_left_carry, shifted_right_carry, shifted_right_signed_carry}
use Rattle.base_words.specs.Flags.{result_flags, add_flags, compare_flags}
use Rattle.base_words.specs.Bytes.{write}
use Rattle.base_words.proofs.Bytes.{read_fits}
use Rattle.machine_thumb.specs.declared.table.Instr.{Instr}
use Rattle.machine_thumb.specs.declared.table.Instr.TheVariants.{AddSubRegister, DataRegister, Divide}
use Rattle.machine_devices.specs.declared.image.Image.{Image}
use Rattle.machine_model.specs.State.{PermissionTest}
use Rattle.machine_model.specs.declared.answers.Outcome.TheVariants.{Gives}
use Rattle.machine_model.specs.DataOperations.{operation as operated}
use Rattle.machine_model.specs.Code.{size, Stands, CodeAt, StepsQuietly}
use Rattle.machine_model.specs.RunningCode.{works}
use Rattle.machine_model.proofs.Exec.{stay, next_step}
use Rattle.machine_model.proofs.InstructionEffects.{operation_gives, udiv, sdiv}
use Rattle.machine_model.proofs.Transfers.{ldr_sp, str_sp}
use Rattle.machine_model.proofs.Constants.{adds, subs}
use Rattle.ir_model.specs.declared.firmware.BinOp.{BinOp}
use Rattle.ir_model.specs.declared.firmware.BinOp.TheVariants.{Add, Sub, Mul, Udiv, Sdiv, Urem, Srem, And, Or, Xor, Bic, Shl, Shr, Sar}
use Rattle.ir_model.specs.Resolved.{NumberedFunc, Const, Move, Bin}
use Rattle.ir_model.specs.Step.{binary}
use Rattle.code_model.specs.declared.places.Places.{Places}
use Rattle.code_model.specs.Words.{load_home, save}
use Rattle.code_model.specs.Templates.{inst_items}
use Rattle.code_model.specs.Sizes.{inst_size}
use Rattle.code_effects.specs.Points.{Point, Leads}
use Rattle.code_effects.specs.Frames.{HasFrame, home, HasInst, behind}
use Rattle.code_effects.specs.Numbers.{bin_steps, NumberEffects}
use Rattle.code_effects.proofs.Moves.{number_by}
use Rattle.code_effects.proofs.Joined.{landed, leads_by}
use Rattle.code_effects.proofs.Registers.{holds_nothing}

module _ (j : PermissionTest) (i : Image) (g : NumberedFunc) (q : Places) (labels : List (Option ℕ)) (site : Option ℕ) (p : Point) (o n : ℕ) where
  pub const : (to v : ℕ) → HasFrame j i p o n → to < n → v < 2 ^ 32 → HasInst j i g q labels p p.pc site (Const to v) → Leads j i 3 p (behind o p site (Const to v) to v) []
  unfolding inst_items inst_size
  const to v room lt fits code = number_by j i p o n to v room lt fits code

  pub move : (to from : ℕ) → HasFrame j i p o n → to < n → from < n → HasInst j i g q labels p p.pc site (Move to from) → Leads j i 2 p (behind o p site (Move to from) to (home o p from)) []
  unfolding inst_items inst_size
  move to from room lt lf code =
      let v : ℕ = home o p from in
      leads_by j i 2 p _ [] (λ a b c rest f h.
      landed j i 2 _ p.context [] (v ∷ b ∷ c ∷ rest) p.sp p.lr (p.pc + 2 + 2) (p.pc + 4) f (write 4 (o + 4 * to) v p.ram) p.queues [] (omega arith) (holds_nothing (v ∷ b ∷ c ∷ rest) (omega arith))
      (next_step (ldr_sp j i p.context (a ∷ b ∷ c ∷ rest) p.sp p.lr p.pc f p.ram p.queues 0 from o n room lf code.0)
      (next_step (str_sp j i p.context (v ∷ b ∷ c ∷ rest) p.sp p.lr (p.pc + 2) f p.ram p.queues 0 to o n room lt code.1.0) (stay j i))))

  -- one instruction on r0 and r1 that gives its result in r0
  record OneStep (a b c : ℕ) (rest : List ℕ) (f : Flags) (y : Instr) (v : ℕ) : Type 0 where
    flags : Flags
    steps : StepsQuietly j i (works p.context (a ∷ b ∷ c ∷ rest) p.sp p.lr (p.pc + 2 + 2) f p.ram p.queues) (works p.context (v ∷ b ∷ c ∷ rest) p.sp p.lr (p.pc + 2 + 2 + size y) flags p.ram p.queues)

  abbrev Gives1 : (a b : ℕ) → Instr → (v : ℕ) → Type 0
  Gives1 a b y v = (c : ℕ) (rest : List ℕ) (f : Flags) → Stands j i p.context.protection (p.pc + 2 + 2) y → OneStep a b c rest f y v

  one : (y : Instr) (to a b v z : ℕ) → HasFrame j i p o n → to < n → a < n → b < n → 2 + 2 + size y + 2 ≡ z → Gives1 (home o p a) (home o p b) y v →
      CodeAt j i p.context.protection p.pc (load_home 0 a ∷ load_home 1 b ∷ y ∷ save to ∷ []) →
      Leads j i 4 p (record p { registers = []; pc = p.pc + z; ram = write 4 (o + 4 * to) v p.ram }) []
  one y to a b v z room lt la lb e gives code =
      let va : ℕ = home o p a in
      let vb : ℕ = home o p b in
      leads_by j i 4 p _ [] (λ d0 d1 d2 rest f h.
      let s = gives d2 rest f code.1.1.0 in
      landed j i 4 _ p.context [] (v ∷ vb ∷ d2 ∷ rest) p.sp p.lr (p.pc + 2 + 2 + size y + 2) (p.pc + z) s.flags (write 4 (o + 4 * to) v p.ram) p.queues [] (omega arith) (holds_nothing (v ∷ vb ∷ d2 ∷ rest) (omega arith))
      (next_step (ldr_sp j i p.context (d0 ∷ d1 ∷ d2 ∷ rest) p.sp p.lr p.pc f p.ram p.queues 0 a o n room la code.0)
      (next_step (ldr_sp j i p.context (va ∷ d1 ∷ d2 ∷ rest) p.sp p.lr (p.pc + 2) f p.ram p.queues 1 b o n room lb code.1.0)
      (next_step s.steps
      (next_step (str_sp j i p.context (v ∷ vb ∷ d2 ∷ rest) p.sp p.lr (p.pc + 2 + 2 + size y) s.flags p.ram p.queues 0 to o n room lt code.1.1.1.0) (stay j i))))))

  data_gives : (op a b v : ℕ) (g : Flags → Flags) → ((f : Flags) → operated op a b f ≡ Gives v (g f)) → Gives1 a b (DataRegister op 1 0) v
  data_gives op a b v g e = λ c rest f st. record { flags = g f; steps = operation_gives j i p.context (a ∷ b ∷ c ∷ rest) p.sp p.lr (p.pc + 2 + 2) f p.ram p.queues op 1 0 v (g f) (e f) st }

  -- a remainder by a quotient in r2
  record Quotient (a b c : ℕ) (rest : List ℕ) (f : Flags) (d : ℕ) : Type 0 where
    steps : StepsQuietly j i (works p.context (a ∷ b ∷ c ∷ rest) p.sp p.lr (p.pc + 2 + 2) f p.ram p.queues) (works p.context (a ∷ b ∷ d ∷ rest) p.sp p.lr (p.pc + 2 + 2 + 4) f p.ram p.queues)

  rest_of : (kind to a b d : ℕ) → HasFrame j i p o n → to < n → a < n → b < n →
      ((c : ℕ) (rest : List ℕ) (f : Flags) → Stands j i p.context.protection (p.pc + 2 + 2) (Divide kind 0 2 1) → Quotient (home o p a) (home o p b) c rest f d) →
      CodeAt j i p.context.protection p.pc (load_home 0 a ∷ load_home 1 b ∷ Divide kind 0 2 1 ∷ DataRegister 13 1 2 ∷ AddSubRegister 1 2 0 0 ∷ save to ∷ []) →
      Leads j i 6 p (record p { registers = []; pc = p.pc + 14; ram = write 4 (o + 4 * to) (subtract (home o p a) (multiply d (home o p b))) p.ram }) []
  rest_of kind to a b d room lt la lb gives code =
      let va : ℕ = home o p a in
      let vb : ℕ = home o p b in
      let m : ℕ = multiply d vb in
      let v : ℕ = subtract va m in
      leads_by j i 6 p _ [] (λ d0 d1 d2 rest f h.
      let s = gives d2 rest f code.1.1.0 in
      landed j i 6 _ p.context [] (v ∷ vb ∷ m ∷ rest) p.sp p.lr (p.pc + 2 + 2 + 4 + 2 + 2 + 2) (p.pc + 14) (compare_flags va m) (write 4 (o + 4 * to) v p.ram) p.queues [] (omega arith) (holds_nothing (v ∷ vb ∷ m ∷ rest) (omega arith))
      (next_step (ldr_sp j i p.context (d0 ∷ d1 ∷ d2 ∷ rest) p.sp p.lr p.pc f p.ram p.queues 0 a o n room la code.0)
      (next_step (ldr_sp j i p.context (va ∷ d1 ∷ d2 ∷ rest) p.sp p.lr (p.pc + 2) f p.ram p.queues 1 b o n room lb code.1.0)
      (next_step s.steps
      (next_step (operation_gives j i p.context (va ∷ vb ∷ d ∷ rest) p.sp p.lr (p.pc + 2 + 2 + 4) f p.ram p.queues 13 1 2 m (result_flags f m) refl code.1.1.1.0)
      (next_step (subs j i p.context (va ∷ vb ∷ m ∷ rest) p.sp p.lr (p.pc + 2 + 2 + 4 + 2) (result_flags f m) p.ram p.queues 2 0 0 (omega arith) code.1.1.1.1.0)
      (next_step (str_sp j i p.context (v ∷ vb ∷ m ∷ rest) p.sp p.lr (p.pc + 2 + 2 + 4 + 2 + 2) (compare_flags va m) p.ram p.queues 0 to o n room lt code.1.1.1.1.1.0) (stay j i))))))))

  pub bin : (op : BinOp) (to a b : ℕ) → HasFrame j i p o n → to < n → a < n → b < n → HasInst j i g q labels p p.pc site (Bin op to a b) →
      Leads j i (bin_steps op) p (behind o p site (Bin op to a b) to (binary op (home o p a) (home o p b))) []
  unfolding inst_items inst_size binary unsigned_remainder signed_remainder
  bin Add to a b room lt la lb code = one (AddSubRegister 0 1 0 0) to a b (add (home o p a) (home o p b)) 8 room lt la lb refl
      (λ c rest f st. record { flags = add_flags (home o p a) (home o p b) 0; steps = adds j i p.context (home o p a ∷ home o p b ∷ c ∷ rest) p.sp p.lr (p.pc + 2 + 2) f p.ram p.queues 1 0 0 st }) code
  bin Sub to a b room lt la lb code = one (AddSubRegister 1 1 0 0) to a b (subtract (home o p a) (home o p b)) 8 room lt la lb refl
      (λ c rest f st. record {
        flags = compare_flags (home o p a) (home o p b);
        steps = subs j i p.context (home o p a ∷ home o p b ∷ c ∷ rest) p.sp p.lr (p.pc + 2 + 2) f p.ram p.queues 1 0 0 (omega (arith, read_fits 4 (o + 4 * b) p.ram)) st;
      }) code
  bin Mul to a b room lt la lb code = let v : ℕ = multiply (home o p a) (home o p b) in
      one (DataRegister 13 1 0) to a b v 8 room lt la lb refl (data_gives 13 (home o p a) (home o p b) v (λ f. result_flags f v) (λ f. refl)) code
  bin Udiv to a b room lt la lb code = one (Divide 0 0 0 1) to a b (unsigned_quotient (home o p a) (home o p b)) 10 room lt la lb refl
      (λ c rest f st. record { flags = f; steps = udiv j i p.context (home o p a ∷ home o p b ∷ c ∷ rest) p.sp p.lr (p.pc + 2 + 2) f p.ram p.queues 0 0 1 (omega arith) (omega arith) (omega arith) st }) code
  bin Sdiv to a b room lt la lb code = one (Divide 1 0 0 1) to a b (signed_quotient (home o p a) (home o p b)) 10 room lt la lb refl
      (λ c rest f st. record { flags = f; steps = sdiv j i p.context (home o p a ∷ home o p b ∷ c ∷ rest) p.sp p.lr (p.pc + 2 + 2) f p.ram p.queues 0 0 1 (omega arith) (omega arith) (omega arith) st }) code
  bin Urem to a b room lt la lb code = rest_of 0 to a b (unsigned_quotient (home o p a) (home o p b)) room lt la lb
      (λ c rest f st. record { steps = udiv j i p.context (home o p a ∷ home o p b ∷ c ∷ rest) p.sp p.lr (p.pc + 2 + 2) f p.ram p.queues 0 2 1 (omega arith) (omega arith) (omega arith) st }) code
  bin Srem to a b room lt la lb code = rest_of 1 to a b (signed_quotient (home o p a) (home o p b)) room lt la lb
      (λ c rest f st. record { steps = sdiv j i p.context (home o p a ∷ home o p b ∷ c ∷ rest) p.sp p.lr (p.pc + 2 + 2) f p.ram p.queues 0 2 1 (omega arith) (omega arith) (omega arith) st }) code
  bin And to a b room lt la lb code = let v : ℕ = bit_and (home o p a) (home o p b) in
      one (DataRegister 0 1 0) to a b v 8 room lt la lb refl (data_gives 0 (home o p a) (home o p b) v (λ f. result_flags f v) (λ f. refl)) code
  bin Or to a b room lt la lb code = let v : ℕ = bit_or (home o p a) (home o p b) in
      one (DataRegister 12 1 0) to a b v 8 room lt la lb refl (data_gives 12 (home o p a) (home o p b) v (λ f. result_flags f v) (λ f. refl)) code
  bin Xor to a b room lt la lb code = let v : ℕ = bit_xor (home o p a) (home o p b) in
      one (DataRegister 1 1 0) to a b v 8 room lt la lb refl (data_gives 1 (home o p a) (home o p b) v (λ f. result_flags f v) (λ f. refl)) code
  bin Bic to a b room lt la lb code = let v : ℕ = bit_clear (home o p a) (home o p b) in
      one (DataRegister 14 1 0) to a b v 8 room lt la lb refl (data_gives 14 (home o p a) (home o p b) v (λ f. result_flags f v) (λ f. refl)) code
  bin Shl to a b room lt la lb code = let v : ℕ = shift_left (home o p a) (home o p b) in
      one (DataRegister 2 1 0) to a b v 8 room lt la lb refl (data_gives 2 (home o p a) (home o p b) v (λ f. record (result_flags f v) { carry = shifted_left_carry (home o p a) (home o p b) f.carry }) (λ f. refl)) code
  bin Shr to a b room lt la lb code = let v : ℕ = shift_right (home o p a) (home o p b) in
      one (DataRegister 3 1 0) to a b v 8 room lt la lb refl (data_gives 3 (home o p a) (home o p b) v (λ f. record (result_flags f v) { carry = shifted_right_carry (home o p a) (home o p b) f.carry }) (λ f. refl)) code
  bin Sar to a b room lt la lb code = let v : ℕ = shift_right_signed (home o p a) (home o p b) in
      one (DataRegister 4 1 0) to a b v 8 room lt la lb refl (data_gives 4 (home o p a) (home o p b) v (λ f. record (result_flags f v) { carry = shifted_right_signed_carry (home o p a) (home o p b) f.carry }) (λ f. refl)) code

pub number_effects : (j : PermissionTest) (i : Image) (g : NumberedFunc) (q : Places) (labels : List (Option ℕ)) (site : Option ℕ) (p : Point) (o n : ℕ) → NumberEffects j i g q labels site p o n
number_effects j i g q labels site p o n = record {
  const = const j i g q labels site p o n;
  move = move j i g q labels site p o n;
  bin = bin j i g q labels site p o n;
}
