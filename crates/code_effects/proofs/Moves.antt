-- A number into a word of the frame, and r0 into one.
use Rattle.std.proofs.Common.{◌≡◌, ℕ, ◌+◌, ◌*◌, ◌^◌, ◌<◌, [], ◌∷◌, ◌++◌, refl, sym, subst, arith}
use Rattle.base_words.specs.Bytes.{write}
use Rattle.machine_devices.specs.declared.image.Image.{Image}
use Rattle.machine_model.specs.State.{PermissionTest}
use Rattle.machine_model.specs.Code.{Stands, CodeAt}
use Rattle.machine_model.proofs.Exec.{stay, next_step, onward}
use Rattle.machine_model.proofs.Transfers.{str_sp}
use Rattle.machine_model.proofs.Constants.{word_into}
use Rattle.code_model.specs.Words.{word_into as word_code, save}
use Rattle.code_effects.specs.Points.{Point, known, Leads, Arrives, state_at}
use Rattle.code_effects.specs.Frames.{HasFrame}
use Rattle.code_effects.proofs.Joined.{landed, leads_by, leads_from}
use Rattle.code_effects.proofs.Registers.{holds_nothing}

module _ (j : PermissionTest) (i : Image) (p : Point) (o n : ℕ) where
  -- a number by MOVW and MOVT
  pub number_by : (to v : ℕ) → HasFrame j i p o n → to < n → v < 2 ^ 32 → CodeAt j i p.context.protection p.pc (word_code 0 v ++ save to ∷ []) →
      Leads j i 3 p (record p { registers = []; pc = p.pc + 10; ram = write 4 (o + 4 * to) v p.ram }) []
  number_by to v room lt fits code = leads_by j i 3 p _ [] (λ a b c rest f h.
      landed j i 3 _ p.context [] (v ∷ b ∷ c ∷ rest) p.sp p.lr (p.pc + 4 + 4 + 2) (p.pc + 10) f (write 4 (o + 4 * to) v p.ram) p.queues [] (omega arith) (holds_nothing (v ∷ b ∷ c ∷ rest) (omega arith))
      (onward j i (word_into j i p.context (a ∷ b ∷ c ∷ rest) p.sp p.lr p.pc f p.ram p.queues 0 v (omega arith) (omega arith) fits code.0 code.1.0)
      (next_step (str_sp j i p.context (v ∷ b ∷ c ∷ rest) p.sp p.lr (p.pc + 4 + 4) f p.ram p.queues 0 to o n room lt code.1.1.0) (stay j i))))

  -- what is known of r0
  pub save_by : (at k v : ℕ) → HasFrame j i p o n → k < n → Stands j i p.context.protection at (save k) →
      Leads j i 1 (record p { registers = known (v ∷ []); pc = at }) (record p { registers = []; pc = at + 2; ram = write 4 (o + 4 * k) v p.ram }) []
  save_by at k v room lt st =
      let from : Point = record p { registers = known (v ∷ []); pc = at } in
      let to : Point = record p { registers = []; pc = at + 2; ram = write 4 (o + 4 * k) v p.ram } in
      leads_from j i 1 from to [] (λ a b c rest f h holds.
      let e : v ≡ a = sym (holds.each 0 v refl) in
      subst (λ (u : ℕ). Arrives j i 1 (state_at from (u ∷ b ∷ c ∷ rest) f) to []) e
      (landed j i 1 _ p.context [] (v ∷ b ∷ c ∷ rest) p.sp p.lr (at + 2) (at + 2) f (write 4 (o + 4 * k) v p.ram) p.queues [] refl (holds_nothing (v ∷ b ∷ c ∷ rest) (omega arith))
      (next_step (str_sp j i p.context (v ∷ b ∷ c ∷ rest) p.sp p.lr at f p.ram p.queues 0 k o n room lt st) (stay j i))))
