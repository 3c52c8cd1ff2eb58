-- Single accesses: where nothing lies, where a system register lies, and by the form of the instruction.
use Rattle.std.proofs.Common.{◌≡◌, ◌≢◌, ℕ, suc, ◌+◌, ◌-◌, ◌%◌, ◌^◌, Bool, true, false, not, ◌||◌, ⊎_elim, ◌∷◌, length, nat_eq, refl, sym, ap, ◌∙◌, subst, arith}
use Rattle.std.proofs.lemmas.Bool.{eqb-true, or_cases}
use Rattle.std.proofs.lemmas.Bool.Decides.{nat_tests}
use Rattle.base_words.specs.Arithmetic.{word}
use Rattle.machine_protection.specs.declared.region.Access.{Access}
use Rattle.machine_protection.specs.declared.region.Access.TheVariants.{Read, Write, Fetch}
use Rattle.machine_protection.specs.declared.TheConstants.{MPU_TYPE, MPU_CTRL, MPU_RNR, MPU_RBAR, MPU_RASR}
use Rattle.machine_devices.specs.declared.image.Image.{Image}
use Rattle.machine_bus.specs.Locations.{Nowhere, location, is_memory, choose}
use Rattle.machine_model.specs.declared.TheConstants.{CCR, SHCSR, CFSR, MMFAR}
use Rattle.machine_model.specs.declared.answers.Verdict.TheVariants.{ToBus}
use Rattle.machine_model.specs.declared.answers.Verdicts.TheVariants.{BadOne}
use Rattle.machine_model.specs.declared.state.CoreRegisters.{CoreRegisters}
use Rattle.machine_model.specs.declared.state.StopReason.TheVariants.{Bus}
use Rattle.machine_model.specs.declared.answers.Fetched.TheVariants.{NotMapped}
use Rattle.machine_model.specs.State.{State, PermissionTest}
use Rattle.machine_model.specs.Instructions.{act}
use Rattle.machine_model.specs.System.{in_system, is_system_register}
use Rattle.machine_model.specs.Tests.{verdict, verdicts}
use Rattle.machine_model.specs.Exceptions.{has_pad}
use Rattle.machine_model.specs.Perform.{after_loads, after_stores, perform}
use Rattle.machine_model.specs.Step.{fetch, fetched, running, turn}
use Rattle.machine_model.specs.Accessed.{StopsAtNothing, NothingStops, SystemRegistersAreReached, FramesAreAligned, TransfersHaveWidths}
use Rattle.machine_model.proofs.ToSystem.{to_system}

-- ---- where nothing lies

not_memory : (kind : Access) → is_memory kind Nowhere ≡ false
not_memory Read = refl
not_memory Write = refl
not_memory Fetch = refl

module _ (j : PermissionTest) (i : Image) (s : State) (a : ℕ) (nothing : location i a ≡ Nowhere) where
  first_bad : (kind : Access) (n : ℕ) → verdict j s.protection kind 4 a ≡ ToBus → verdicts j i s.protection kind a (suc n) ≡ BadOne Bus
  unfolding verdicts
  first_bad kind n e =
      let m : is_memory kind (location i a) ≡ false = ap (is_memory kind) nothing ∙ not_memory kind in
      rw (e, m) refl

  not_mapped : s.core.pc ≡ a → j s.protection Fetch a ≡ true → fetch j i s ≡ NotMapped
  unfolding fetch
  not_mapped p may =
      let f : j s.protection Fetch s.core.pc ≡ true = ap (j s.protection Fetch) p ∙ may in
      let n : location i s.core.pc ≡ Nowhere = ap (location i) p ∙ nothing in
      rw (f, n) refl

  stops_at_nothing : StopsAtNothing j i s a
  unfolding perform turn
  stops_at_nothing = record {
    loads = λ w go e. rw (e, nothing) refl;
    stores = λ w v c e. rw (e, nothing) refl;
    loads_many = λ n go e. ap (λ v. after_loads v j i a (suc n) s go) (first_bad Read n e);
    stores_many = λ v vs c e. ap (λ x. after_stores x j i a (v ∷ vs) s c) (first_bad Write (length vs) e);
    fetches = λ live p may. ap (λ o. running o j i s) live ∙ ap (λ f. fetched f j i s) (not_mapped p may);
  }

pub nothing_stops : NothingStops
nothing_stops = stops_at_nothing

-- ---- system registers

-- at each of its registers' addresses the system control space has an aligned word
abbrev IsWordThere : ℕ → Type 0
IsWordThere a = (a % 4 ≡ 0) × (in_system a ≡ true)

is_there : (a n : ℕ) → IsWordThere n → nat_eq a n ≡ true → IsWordThere a
is_there a n w e = subst IsWordThere (sym (eqb-true a n e)) w

one_of : (a n : ℕ) (y : Bool) → IsWordThere n → (y ≡ true → IsWordThere a) → nat_eq a n || y ≡ true → IsWordThere a
one_of a n y w g h = ⊎_elim (is_there a n w) g (or_cases (nat_eq a n) y h)

words_there : (a : ℕ) → is_system_register a ≡ true → IsWordThere a
words_there a h =
    ⊎_elim
    (one_of a MPU_TYPE _ (refl, refl) (one_of a MPU_CTRL _ (refl, refl) (one_of a MPU_RNR _ (refl, refl) (one_of a MPU_RBAR _ (refl, refl) (is_there a MPU_RASR (refl, refl))))))
    (one_of a CCR _ (refl, refl) (one_of a SHCSR _ (refl, refl) (one_of a CFSR _ (refl, refl) (is_there a MMFAR (refl, refl)))))
    (or_cases _ _ h)

pub system_registers_are_reached : SystemRegistersAreReached
system_registers_are_reached j p kind a u r = let w = words_there a r in to_system j p kind a w.0 w.1 u r

-- ---- frames

frame_aligned : (pad : Bool) (sp : ℕ) → has_pad sp ≡ pad → sp % 4 ≡ 0 → word (sp + 2 ^ 32 - choose pad 36 32) % 8 ≡ 0
frame_aligned pad sp e h = by pad e
  where
    by : (b : Bool) → not (nat_eq (sp % 8) 0) ≡ b → word (sp + 2 ^ 32 - choose b 36 32) % 8 ≡ 0
    by true t = let n : sp % 8 ≢ 0 = grind (arith, nat_tests) in omega (arith, h, n)
    by false t = let n : sp % 8 ≡ 0 = grind (arith, nat_tests) in omega (arith, n)

pub frames_are_aligned : FramesAreAligned
frames_are_aligned sp h = frame_aligned (has_pad sp) sp refl h

-- ---- forms

pub transfers_have_widths : (next : ℕ) (c : CoreRegisters) → TransfersHaveWidths next c
unfolding act
transfers_have_widths next c = record {
  str = λ k n t. refl;
  ldr = λ k n t. refl;
  strb = λ k n t. refl;
  ldrb = λ k n t. refl;
  strh = λ k n t. refl;
  ldrh = λ k n t. refl;
  str_sum = λ m n t. refl;
  strh_sum = λ m n t. refl;
  strb_sum = λ m n t. refl;
  ldrsb_sum = λ m n t. refl;
  ldr_sum = λ m n t. refl;
  ldrh_sum = λ m n t. refl;
  ldrb_sum = λ m n t. refl;
  ldrsh_sum = λ m n t. refl;
  str_sp = λ t d k. refl;
  ldr_sp = λ t d k. refl;
  ldr_pc = λ t k. refl;
}
