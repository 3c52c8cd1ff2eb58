-- The code of a return.
use Rattle.std.proofs.Common.{◌≡◌, ℕ, ◌+◌, ◌-◌, ◌*◌, ◌%◌, ◌^◌, ◌<◌, Bool, true, false, nat_le, if◌then◌else◌, List, [], ◌∷◌, ◌++◌, length, Option, Some, None, refl, inl, inr, subst, arith}
use Rattle.std.proofs.lemmas.Bool.{cases_lt}
use Rattle.std.proofs.lemmas.Bool.Decides.{nat_tests}
use Rattle.machine_thumb.specs.declared.table.Instr.TheVariants.{PushPop}
use Rattle.machine_thumb.specs.Table.{svc}
use Rattle.machine_devices.specs.declared.image.Image.{Image}
use Rattle.machine_model.specs.State.{PermissionTest}
use Rattle.machine_model.specs.Code.{Stands, CodeAt}
use Rattle.machine_model.specs.Running.{code_size}
use Rattle.machine_model.proofs.Exec.{stay, next_step}
use Rattle.machine_model.proofs.CodeParts.{code_size-append, code_at-append}
use Rattle.machine_model.proofs.Transfers.{ldr_sp, add_sp, pop_pc}
use Rattle.ir_model.specs.Resolved.{NumberedFunc, Ret}
use Rattle.code_model.specs.declared.places.Places.{Places}
use Rattle.code_model.specs.FrameShape.{frame_shape}
use Rattle.code_model.specs.Places.{Lend}
use Rattle.code_model.specs.Entry.{add_by, add_code, unlend_code, result_code, leave_code}
use Rattle.code_model.specs.Templates.{lends_of, term_items}
use Rattle.code_model.specs.FunctionCode.{lent}
use Rattle.code_effects.specs.Points.{Point, known, Leads}
use Rattle.code_effects.specs.Frames.{HasFrame, home, HasTerm}
use Rattle.code_effects.specs.Calls.{IsBelow, keep_steps}
use Rattle.code_effects.specs.Returns.{return_steps, result_known, ReturnEffects}
use Rattle.code_effects.proofs.Entry.{last_room}
use Rattle.code_effects.proofs.Items.{plain_code}
use Rattle.code_effects.proofs.Joined.{arrives_at, join, landed, leads_by}
use Rattle.code_effects.proofs.Registers.{holds_by, holds_nothing}

unlend_size : (ds : List Lend) → code_size (unlend_code ds) ≡ 2 * length ds
unlend_size [] = refl
unlend_size (d ∷ ds) = omega (arith, unlend_size ds, code_size-append (unlend_code ds) (svc 3 ∷ []))

module _ (j : PermissionTest) (i : Image) (p : Point) where
  unlend_at : (ds : List Lend) (k at : ℕ) → k < length ds → CodeAt j i p.context.protection at (unlend_code ds) → Stands j i p.context.protection (at + 2 * k) (svc 3)
  unlend_at [] k at l code = absurd (omega arith)
  unlend_at (d ∷ ds) k at l code =
      let c = code_at-append j i p.context.protection (unlend_code ds) (svc 3 ∷ []) at code in
      let s = unlend_size ds in
      elim (cases_lt k (length ds)) [
        | inl lt ↦ unlend_at ds k at lt c.0
        | inr le ↦
            let z : at + code_size (unlend_code ds) ≡ at + 2 * k = omega arith in
            subst (λ (a : ℕ). Stands j i p.context.protection a (svc 3)) z c.1.0
      ]

module _ (j : PermissionTest) (i : Image) (p : Point) (o w : ℕ) where
  -- the result into r0
  result_by : (at : ℕ) (r : Option ℕ) → HasFrame j i p o (w + 1) → IsBelow (w + 1) r → CodeAt j i p.context.protection at (result_code r) →
      Leads j i (keep_steps r) (record p { pc = at }) (record p { registers = result_known o p r; pc = at + code_size (result_code r) }) []
  result_by at None room below code = leads_by j i 0 _ _ [] (λ a b c rest f h.
      landed j i 0 _ p.context [] (a ∷ b ∷ c ∷ rest) p.sp p.lr at (at + 0) f p.ram p.queues [] (omega arith) (holds_nothing (a ∷ b ∷ c ∷ rest) (omega arith)) (stay j i))
  result_by at (Some k) room below code =
      let v : ℕ = home o p k in
      leads_by j i 1 _ _ [] (λ a b c rest f h.
      landed j i 1 _ p.context (known (v ∷ [])) (v ∷ b ∷ c ∷ rest) p.sp p.lr (at + 2) (at + 2) f p.ram p.queues [] refl (holds_by _ (v ∷ b ∷ c ∷ rest) (omega arith) (refl, tt))
      (next_step (ldr_sp j i p.context (a ∷ b ∷ c ∷ rest) p.sp p.lr at f p.ram p.queues 0 k o (w + 1) room below code.0) (stay j i)))

  -- ADD SP once or twice, and POP
  pop_by : (b : Bool) (registers : List (Option ℕ)) (at to : ℕ) → nat_le w 127 ≡ b → HasFrame j i p o (w + 1) → home o p w ≡ to + 1 → to % 2 ≡ 0 → CodeAt j i p.context.protection at (add_by b w ++ PushPop 1 0 1 0 ∷ []) →
      Leads j i (if b then 2 else 3) (record p { registers = registers; pc = at }) (record p { registers = registers; sp = p.sp + 4 * (w + 1); pc = to }) []
  pop_by true registers at to e room is even code =
      let ws = room.words in
      let fits : p.sp + 4 * w < 2 ^ 32 = omega (arith, ws.is_at, ws.fits, ws.low) in
      let last = last_room j i p.context.protection p.sp (p.sp + 4 * w) o w room refl in
      record {
        arrives = λ low f h.
            arrives_at j i 2 _ p.context registers low (p.sp + 4 * w + 4) (p.sp + 4 * (w + 1)) p.lr p.lr to to f p.ram p.queues [] (omega arith) refl refl h
            (next_step (add_sp j i p.context low p.sp p.lr at f p.ram p.queues w fits code.0)
            (next_step (pop_pc j i p.context low (p.sp + 4 * w) p.lr (at + 2) f p.ram p.queues (o + 4 * w) to last is even code.1.0) (stay j i)));
      }
  pop_by false registers at to e room is even code =
      let ws = room.words in
      let q : 127 < w = grind (arith, nat_tests) in
      let fits : p.sp + 4 * 127 < 2 ^ 32 = omega (arith, ws.is_at, ws.fits, ws.low) in
      let fits2 : p.sp + 4 * 127 + 4 * (w - 127) < 2 ^ 32 = omega (arith, ws.is_at, ws.fits, ws.low) in
      let last = last_room j i p.context.protection p.sp (p.sp + 4 * 127 + 4 * (w - 127)) o w room (omega arith) in
      record {
        arrives = λ low f h.
            arrives_at j i 3 _ p.context registers low (p.sp + 4 * 127 + 4 * (w - 127) + 4) (p.sp + 4 * (w + 1)) p.lr p.lr to to f p.ram p.queues [] (omega arith) refl refl h
            (next_step (add_sp j i p.context low p.sp p.lr at f p.ram p.queues 127 fits code.0)
            (next_step (add_sp j i p.context low (p.sp + 4 * 127) p.lr (at + 2) f p.ram p.queues (w - 127) fits2 code.1.0)
            (next_step (pop_pc j i p.context low (p.sp + 4 * 127 + 4 * (w - 127)) p.lr (at + 2 + 2) f p.ram p.queues (o + 4 * w) to last is even code.1.1.0) (stay j i))));
      }

module _ (j : PermissionTest) (i : Image) (g : NumberedFunc) (q : Places) (labels : List (Option ℕ)) (first : ℕ) (p : Point) (o at : ℕ) where
  unlend_here : (r : Option ℕ) (k : ℕ) → k < lent g q → HasTerm j i g q labels first p at (Ret r) → Stands j i p.context.protection (at + 2 * k) (svc 3)
  unfolding term_items
  unlend_here r k l code =
      let w : ℕ = (frame_shape g).words in
      let c = plain_code j i p.context.protection labels (leave_code w (lends_of g q) r) at code in
      let d = code_at-append j i p.context.protection (unlend_code (lends_of g q)) (result_code r ++ (add_code w ++ PushPop 1 0 1 0 ∷ [])) at c in
      unlend_at j i p (lends_of g q) k at l d.0

  leave_here : (r : Option ℕ) (to : ℕ) → HasFrame j i p o ((frame_shape g).words + 1) → IsBelow ((frame_shape g).words + 1) r →
      home o p (frame_shape g).words ≡ to + 1 → to % 2 ≡ 0 → HasTerm j i g q labels first p at (Ret r) →
      Leads j i (return_steps (frame_shape g).words r) (record p { pc = at + 2 * lent g q })
      (record p { registers = result_known o p r; sp = p.sp + 4 * ((frame_shape g).words + 1); pc = to }) []
  unfolding term_items
  leave_here r to room below is even code =
      let w : ℕ = (frame_shape g).words in
      let from : ℕ = at + 2 * lent g q in
      let c = plain_code j i p.context.protection labels (leave_code w (lends_of g q) r) at code in
      let rest = result_code r ++ (add_code w ++ PushPop 1 0 1 0 ∷ []) in
      let d = code_at-append j i p.context.protection (unlend_code (lends_of g q)) rest at c in
      let s = unlend_size (lends_of g q) in
      let z : at + code_size (unlend_code (lends_of g q)) ≡ from = omega arith in
      let d1 : CodeAt j i p.context.protection from rest = subst (λ (a : ℕ). CodeAt j i p.context.protection a rest) z d.1 in
      let e = code_at-append j i p.context.protection (result_code r) (add_code w ++ PushPop 1 0 1 0 ∷ []) from d1 in
      join j i (keep_steps r) (if nat_le w 127 then 2 else 3) (record p { pc = from }) (record p { registers = result_known o p r; pc = from + code_size (result_code r) })
      (record p { registers = result_known o p r; sp = p.sp + 4 * (w + 1); pc = to }) [] []
      (result_by j i p o w from r room below e.0) (pop_by j i p o w (nat_le w 127) (result_known o p r) (from + code_size (result_code r)) to refl room is even e.1)

pub return_effects : (j : PermissionTest) (i : Image) (g : NumberedFunc) (q : Places) (labels : List (Option ℕ)) (first : ℕ) (p : Point) (o at : ℕ) → ReturnEffects j i g q labels first p o at
return_effects j i g q labels first p o at = record { unlend_stands = unlend_here j i g q labels first p o at; leave = leave_here j i g q labels first p o at }
