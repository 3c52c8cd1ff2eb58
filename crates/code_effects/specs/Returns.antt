-- Beyond the program's claim: only laws, proofs and functions inside the tool cite this file.
-- What the code of a return does. `w` words of the frame lie below the return address.
use Rattle.std.specs.Prelude.{◌≡◌, ℕ, ◌+◌, ◌*◌, ◌%◌, ◌<◌, List, [], ◌∷◌, Option, Some, None, nat_le, if◌then◌else◌}
use Rattle.machine_thumb.specs.Table.{svc}
use Rattle.machine_devices.specs.declared.image.Image.{Image}
use Rattle.machine_model.specs.State.{PermissionTest}
use Rattle.machine_model.specs.Code.{Stands}
use Rattle.ir_model.specs.Resolved.{NumberedFunc, Ret}
use Rattle.code_model.specs.declared.places.Places.{Places}
use Rattle.code_model.specs.FrameShape.{frame_shape}
use Rattle.code_model.specs.FunctionCode.{lent}
use Rattle.code_effects.specs.Points.{Point, known, Leads}
use Rattle.code_effects.specs.Frames.{HasFrame, home, HasTerm}
use Rattle.code_effects.specs.Calls.{IsBelow, keep_steps}

-- LDR where there is a result; ADD once or twice; POP
abbrev pub return_steps : (words : ℕ) → Option ℕ → ℕ
return_steps w r = keep_steps r + (if nat_le w 127 then 2 else 3)

-- what is known of r0 then
abbrev pub result_known : (o : ℕ) → Point → Option ℕ → List (Option ℕ)
result_known o p None = []
result_known o p (Some k) = known (home o p k ∷ [])

module _ (j : PermissionTest) (i : Image) (g : NumberedFunc) (q : Places) (labels : List (Option ℕ)) (first : ℕ) (p : Point) (o at : ℕ) where
  pub record ReturnEffects : Type 0 where
    -- an SVC for each lent local
    pub unlend_stands : (r : Option ℕ) (k : ℕ) → k < lent g q → HasTerm j i g q labels first p at (Ret r) → Stands j i p.context.protection (at + 2 * k) (svc 3)
    -- from behind the last of them: all of it where no local is lent. The caller's stack pointer is back, and the run goes on at the
    -- return address without its bit 0
    pub leave : (r : Option ℕ) (to : ℕ) → HasFrame j i p o ((frame_shape g).words + 1) → IsBelow ((frame_shape g).words + 1) r → home o p (frame_shape g).words ≡ to + 1 → to % 2 ≡ 0 →
        HasTerm j i g q labels first p at (Ret r) →
        Leads j i (return_steps (frame_shape g).words r) (record p { pc = at + 2 * lent g q }) (record p { registers = result_known o p r; sp = p.sp + 4 * ((frame_shape g).words + 1); pc = to }) []
