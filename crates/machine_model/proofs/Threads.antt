-- SVC and BX lr as whole steps between threads and handlers.
use Rattle.std.proofs.Common.{◌≡◌, ℕ, ◌+◌, ◌/◌, ◌*◌, ◌%◌, ◌^◌, true, false, List, [], ◌∷◌, get_or, set, nat_eq, refl, ap, ◌∙◌, pos}
use Rattle.base_words.specs.Arithmetic.{word}
use Rattle.base_words.specs.declared.conditions.Flags.{Flags}
use Rattle.base_words.specs.Bytes.{write_all}
use Rattle.machine_thumb.specs.declared.table.Instr.TheVariants.{BranchExchange, CallBranch}
use Rattle.machine_protection.specs.declared.region.Access.TheVariants.{Read}
use Rattle.machine_devices.specs.declared.image.Image.{Image}
use Rattle.machine_model.specs.State.{State, PermissionTest}
use Rattle.machine_model.specs.Act.{Exchanges}
use Rattle.machine_model.specs.Instructions.{act}
use Rattle.machine_model.specs.Exceptions.{frame_at, frame_of, entry_core, vector, supervisor_call, return_on_psp, return_on_msp, is_thread, flags_of, with_pad, unstacked}
use Rattle.machine_model.specs.Code.{Stands, live, StepsQuietly}
use Rattle.machine_model.specs.Stack.{Words, words_at, May, ExceptionFrame}
use Rattle.machine_model.specs.RunningCode.{Context, body, works}
use Rattle.machine_model.proofs.Entries.{calls, returns_to_psp, returns_to_msp}

pub steps_to : {j : PermissionTest} {i : Image} {s t u : State} → StepsQuietly j i s t → t ≡ u → StepsQuietly j i s u
steps_to a e = record { leads = a.leads ∙ e; quiet = a.quiet }

module _ (j : PermissionTest) (i : Image) (x : Context) (low : List ℕ) (sp lr pc : ℕ) (f : Flags) (ram : List ℕ) (queues : List (List ℕ)) where
  entry_from_psp : (n : ℕ) → x.on_psp ≡ true →
      entry_core i n (body x low sp lr pc f) ≡ body (record x { other_sp = frame_at sp; on_psp = false }) low x.other_sp return_on_psp (vector i n) f
  entry_from_psp n h = rw h refl

  entry_from_msp : (n : ℕ) → x.on_psp ≡ false →
      entry_core i n (body x low sp lr pc f) ≡ body (record x { on_psp = false }) low (frame_at sp) return_on_msp (vector i n) f
  entry_from_msp n h = rw h refl

  -- SVC of a thread on PSP, and on MSP
  pub svc_from_psp : (n o : ℕ) → x.on_psp ≡ true → x.protection.handler ≡ false → ExceptionFrame j i x.protection sp o → Stands j i x.protection pc (CallBranch 0 n (pos 0)) →
      StepsQuietly j i (works x low sp lr pc f ram queues)
      (works (record x { other_sp = frame_at sp; on_psp = false; protection = record x.protection { handler = true } }) low x.other_sp return_on_psp (vector i supervisor_call) f
      (write_all 4 o (frame_of (body x low sp lr pc f) (pc + 2)) ram) queues)
  unfolding act
  svc_from_psp n o m h r st =
      steps_to (calls j i (body x low sp lr pc f) x.protection x.status ram queues (CallBranch 0 n (pos 0)) o (pc + 2) refl h r st)
      (ap (λ c. live c (record x.protection { handler = true }) x.status (write_all 4 o (frame_of (body x low sp lr pc f) (pc + 2)) ram) queues) (entry_from_psp supervisor_call m))

  pub svc_from_msp : (n o : ℕ) → x.on_psp ≡ false → x.protection.handler ≡ false → ExceptionFrame j i x.protection sp o → Stands j i x.protection pc (CallBranch 0 n (pos 0)) →
      StepsQuietly j i (works x low sp lr pc f ram queues)
      (works (record x { on_psp = false; protection = record x.protection { handler = true } }) low (frame_at sp) return_on_msp (vector i supervisor_call) f
      (write_all 4 o (frame_of (body x low sp lr pc f) (pc + 2)) ram) queues)
  unfolding act
  svc_from_msp n o m h r st =
      steps_to (calls j i (body x low sp lr pc f) x.protection x.status ram queues (CallBranch 0 n (pos 0)) o (pc + 2) refl h r st)
      (ap (λ c. live c (record x.protection { handler = true }) x.status (write_all 4 o (frame_of (body x low sp lr pc f) (pc + 2)) ram) queues) (entry_from_msp supervisor_call m))

  -- BX lr of a handler, by the words of the frame
  pub bx_to_psp : (o a b c d e link ret status : ℕ) → lr ≡ return_on_psp → x.protection.handler ≡ true → Words i x.other_sp o 8 → May j (record x.protection { handler = false }) Read x.other_sp 8 →
      words_at 8 o ram ≡ a ∷ b ∷ c ∷ d ∷ e ∷ link ∷ ret ∷ status ∷ [] → is_thread status ≡ true → Stands j i x.protection pc (BranchExchange 0 14) →
      StepsQuietly j i (works x low sp lr pc f ram queues)
      (works (record x { high = set x.high 4 e; other_sp = sp; on_psp = true; protection = record x.protection { handler = false } }) (set (set (set (set low 0 a) 1 b) 2 c) 3 d)
      (with_pad (nat_eq (status / 2 ^ 9 % 2) 1) (word (x.other_sp + 32))) link (ret / 2 * 2) (flags_of status) ram queues)
  unfolding act
  bx_to_psp o a b c d e link ret status is h w m ws thread st =
      steps_to (returns_to_psp j i (body x low sp lr pc f) x.protection x.status ram queues (BranchExchange 0 14) o (ap Exchanges is) h w m (ap (λ vs. is_thread (get_or vs 7 0)) ws ∙ thread) st)
      (ap (λ vs. live (unstacked true (body x low sp lr pc f) x.other_sp vs) (record x.protection { handler = false }) x.status ram queues) ws)

  pub bx_to_msp : (o a b c d e link ret status : ℕ) → lr ≡ return_on_msp → x.protection.handler ≡ true → Words i sp o 8 → May j (record x.protection { handler = false }) Read sp 8 →
      words_at 8 o ram ≡ a ∷ b ∷ c ∷ d ∷ e ∷ link ∷ ret ∷ status ∷ [] → is_thread status ≡ true → Stands j i x.protection pc (BranchExchange 0 14) →
      StepsQuietly j i (works x low sp lr pc f ram queues)
      (works (record x { high = set x.high 4 e; on_psp = false; protection = record x.protection { handler = false } }) (set (set (set (set low 0 a) 1 b) 2 c) 3 d)
      (with_pad (nat_eq (status / 2 ^ 9 % 2) 1) (word (sp + 32))) link (ret / 2 * 2) (flags_of status) ram queues)
  unfolding act
  bx_to_msp o a b c d e link ret status is h w m ws thread st =
      steps_to (returns_to_msp j i (body x low sp lr pc f) x.protection x.status ram queues (BranchExchange 0 14) o (ap Exchanges is) h w m (ap (λ vs. is_thread (get_or vs 7 0)) ws ∙ thread) st)
      (ap (λ vs. live (unstacked false (body x low sp lr pc f) sp vs) (record x.protection { handler = false }) x.status ram queues) ws)
