-- The entry of a function whose frame does not fit, and an SVC without room: the machine stops.
use Rattle.std.proofs.Common.{◌≡◌, ℕ, zero, suc, ◌+◌, ◌-◌, ◌*◌, ◌%◌, ◌^◌, ◌<◌, ◌≤◌, Bool, true, false, nat_le, if◌then◌else◌, List, [], ◌∷◌, ◌++◌, get_or, set, Option, refl, sym, subst, arith, ⊎_elim}
use Rattle.std.proofs.lemmas.Bool.{cases_lt}
use Rattle.std.proofs.lemmas.Bool.Decides.{nat_tests}
use Rattle.base_words.specs.Bytes.{write}
use Rattle.base_words.specs.Arithmetic.{word}
use Rattle.base_words.specs.declared.conditions.Flags.{Flags}
use Rattle.base_words.specs.Flags.{result_flags}
use Rattle.machine_thumb.specs.declared.table.Instr.{Instr}
use Rattle.machine_thumb.specs.declared.table.Instr.TheVariants.{TransferImmediate}
use Rattle.machine_thumb.specs.Table.{svc}
use Rattle.machine_protection.specs.declared.region.Access.TheVariants.{Read, Write}
use Rattle.machine_devices.specs.declared.image.Image.{Image}
use Rattle.machine_model.specs.declared.state.End.TheVariants.{Stop}
use Rattle.machine_model.specs.declared.state.StopReason.TheVariants.{Stacking}
use Rattle.machine_model.specs.State.{State, PermissionTest, by_mpu}
use Rattle.machine_model.specs.Code.{Stands, CodeAt, Runs}
use Rattle.machine_model.specs.Exceptions.{frame_at}
use Rattle.machine_model.specs.Running.{code_size}
use Rattle.machine_model.specs.Shape.{StateFits}
use Rattle.machine_model.specs.RunningCode.{Context, works, IsLoad, IsStore}
use Rattle.machine_model.proofs.Exec.{stay, next_step, onward}
use Rattle.machine_model.proofs.CodeParts.{code_at-append}
use Rattle.machine_model.proofs.InstructionEffects.{movs}
use Rattle.machine_model.proofs.Transfers.{sub_sp, push_lr}
use Rattle.ir_model.specs.Resolved.{NumberedFunc}
use Rattle.ir_model.specs.Signatures.{row_length}
use Rattle.code_model.specs.declared.places.Places.{Places}
use Rattle.code_model.specs.FrameShape.{frame_shape}
use Rattle.code_model.specs.Words.{byte_into}
use Rattle.code_model.specs.Entry.{sub_by, stores_code, frame_code, lend_code, enter_code}
use Rattle.code_model.specs.Templates.{lends_of, entry_items}
use Rattle.code_effects.proofs.Items.{plain_code}
use Rattle.code_effects.proofs.Entry.{frame_by}
use Rattle.monitor_model.specs.Block.{MonitorBlock}
use Rattle.monitor_model.specs.Setting.{Setting}
use Rattle.monitor_model.specs.Threads.{base}
use Rattle.monitor_model.specs.Law.{Law}
use Rattle.refine.specs.CodeLaws.{CodeLaws}
use Rattle.refine.specs.Owned.{Owns, MemoryRules}
use Rattle.refine.proofs.Thread.{runs_here, room}
use Rattle.refine.specs.Guard.{StackLaw}
use Rattle.refine.specs.Ends.{NoFrame}
use Rattle.refine.specs.Entries.{EndsShort, most_words}
use Rattle.monitor_sound.proofs.Room.{frame_is}
use Rattle.refine.proofs.Refusals.{closed_frame, IsShut, stopped, str_stops, push_lr_stops, svc_stops, transfer_store_stops, transfer_load_stops}

-- SUB SP, once or twice
module _ (j : PermissionTest) (i : Image) (x : Context) (low : List ℕ) (lr : ℕ) (f : Flags) (ram : List ℕ) (queues : List (List ℕ)) where
  subs : (b : Bool) (w : ℕ) → nat_le w 127 ≡ b → (sp to pc : ℕ) → to + 4 * w ≡ sp → sp < 2 ^ 32 → CodeAt j i x.protection pc (sub_by b w) →
      Runs j i (if b then 1 else 2) (works x low sp lr pc f ram queues) (works x low to lr (pc + code_size (sub_by b w)) f ram queues) []
  subs true w e sp to pc h l code = next_step (sub_sp j i x low sp lr pc f ram queues w to h l code.0) (stay j i)
  subs false w e sp to pc h l code =
      let q : 127 < w = grind (arith, nat_tests) in
      let z : pc + 2 + 2 ≡ pc + 4 = omega arith in
      subst (λ (a : ℕ). Runs j i 2 (works x low sp lr pc f ram queues) (works x low to lr a f ram queues) []) z
      (next_step (sub_sp j i x low sp lr pc f ram queues 127 (to + 4 * (w - 127)) (omega arith) l code.0)
      (next_step (sub_sp j i x low (to + 4 * (w - 127)) lr (pc + 2) f ram queues (w - 127) to refl (omega arith) code.1.0) (stay j i)))

  -- a run that stops, at any one state
  pub record Halted (count : ℕ) (from : State) : Type 0 where
    pub at : State
    pub runs : Runs j i count from (stopped at) []

  -- the first store into a frame that lies below the stack: of the first parameter, or behind a MOVS of 0
  first_store : (n w sp pc : ℕ) → 1 ≤ w → n ≤ w → sp % 4 ≡ 0 → sp < 0xE0000000 → j x.protection Write sp ≡ false →
      ((low : List ℕ) (pc : ℕ) (f : Flags) → IsShut j i (works x low sp lr pc f ram queues)) →
      CodeAt j i x.protection pc (stores_code (λ k. k) n 0 ++ (byte_into 0 0 ∷ stores_code (λ k. 0) (w - n) n)) →
      (k : ℕ) × (1 ≤ k) × (k ≤ 2) × Halted k (works x low sp lr pc f ram queues)
  first_store zero zero sp pc some few al below nope shut code = absurd (omega (arith, some))
  first_store zero (suc w) sp pc some few al below nope shut code =
      let is : word (sp + 4 * 0) ≡ sp = omega (arith, below) in
      let z : suc w - 0 ≡ suc w = omega arith in
      let all = subst (λ (v : ℕ). CodeAt j i x.protection pc (byte_into 0 0 ∷ stores_code (λ k. 0) v 0)) z code in
      let s1 = movs j i x low sp lr pc f ram queues 0 0 all.0 in
      let s2 = str_stops j i x (set low 0 0) sp lr (pc + 2) (result_flags f 0) ram queues (shut (set low 0 0) (pc + 2) (result_flags f 0)) 0 0 sp is al below nope all.1.0 in
      (2, omega arith, omega arith, record { at = works x (set low 0 0) sp lr (pc + 2) (result_flags f 0) ram queues; runs = next_step s1 (next_step s2 (stay j i)) })
  first_store (suc n) w sp pc some few al below nope shut code =
      let is : word (sp + 4 * 0) ≡ sp = omega (arith, below) in
      let s1 = str_stops j i x low sp lr pc f ram queues (shut low pc f) 0 0 sp is al below nope code.0 in
      (1, omega arith, omega arith, record { at = works x low sp lr pc f ram queues; runs = next_step s1 (stay j i) })

module _ (g : Setting) (Inv : MonitorBlock → Context → List ℕ → Type 0) (law : Law g Inv) (rules : MemoryRules g) (stack : StackLaw g Inv) where
  -- with a stack pointer that has less than an exception's frame below it, and lies at most 992 bytes below the stack
  shut_at : (m : MonitorBlock) (x : Context) (held : List ℕ) → Inv m x held → (low : List ℕ) (sp lr pc : ℕ) (f : Flags) (ram : List ℕ) (queues : List (List ℕ)) →
      sp % 8 ≡ 0 → sp < base g + g.stack + 32 → base g + g.stack ≤ sp + 992 → IsShut by_mpu g.image (works x low sp lr pc f ram queues)
  shut_at m x held i low sp lr pc f ram queues al lo hi =
      let rl = rules.image.ram_lowest in
      let rh = rules.image.ram_highest in
      let rm = rules.image.ram_most in
      let fits = rules.fits in
      let e : frame_at sp ≡ sp - 32 = frame_is sp al (omega arith) (omega arith) in
      let no : by_mpu x.protection Write (sp - 32) ≡ false = stack.refuses m x held (sp - 32) i (omega arith) (omega arith) in
      record {
        thread = stack.thread m x held i;
        enabled = stack.enabled m x held i;
        shut = closed_frame by_mpu g.image (works x low sp lr pc f ram queues) (subst (λ (a : ℕ). by_mpu x.protection Write a ≡ false) (sym e) no);
      }

  pub call_stops : (m : MonitorBlock) (x : Context) (low : List ℕ) (o lr pc n : ℕ) (f : Flags) (ram : List ℕ) (queues : List (List ℕ)) → Inv m x ram →
      StateFits g.image (works x low (base g + o) lr pc f ram queues) → o % 8 ≡ 0 → g.stack ≤ o → base g + o ≤ m.top → o < g.stack + 32 →
      Stands by_mpu g.image x.protection pc (svc n) → EndsShort g 1 (works x low (base g + o) lr pc f ram queues)
  call_stops m x low o lr pc n f ram queues i ft al lo hi less st =
      let ra = rules.image.ram_aligned in
      let h = shut_at m x ram i low (base g + o) lr pc f ram queues (omega arith) (omega arith) (omega arith) in
      let s = svc_stops by_mpu g.image x low (base g + o) lr pc f ram queues h n st in
      record {
        count = 1;
        least = omega arith;
        within = omega arith;
        last = stopped (works x low (base g + o) lr pc f ram queues);
        end = Stop Stacking pc;
        over = refl;
        names = NoFrame pc;
        runs = next_step s (stay by_mpu g.image);
      }

  -- an access that is refused, with less than an exception's frame left
  pub store_ends : (m : MonitorBlock) (x : Context) (low : List ℕ) (o lr pc op w a : ℕ) (f : Flags) (ram : List ℕ) (queues : List (List ℕ)) → Inv m x ram → o % 8 ≡ 0 → g.stack ≤ o → o < g.stack + 32 →
      IsStore op w → get_or low 1 0 ≡ a → a % w ≡ 0 → a < 0xE0000000 → by_mpu x.protection Write a ≡ false → Stands by_mpu g.image x.protection pc (TransferImmediate op 0 1 0) → EndsShort g 1 (works x low (base g + o) lr pc f ram queues)
  store_ends m x low o lr pc op w a f ram queues i al lo less is at aligned below nope st =
      let ra = rules.image.ram_aligned in
      let h = shut_at m x ram i low (base g + o) lr pc f ram queues (omega arith) (omega arith) (omega arith) in
      let s = transfer_store_stops by_mpu g.image x low (base g + o) lr pc f ram queues h op w 1 0 a is at aligned below nope st in
      record { count = 1; least = omega arith; within = omega arith; last = stopped (works x low (base g + o) lr pc f ram queues); end = Stop Stacking pc; over = refl; names = NoFrame pc; runs = next_step s (stay by_mpu g.image) }

  pub load_ends : (m : MonitorBlock) (x : Context) (low : List ℕ) (o lr pc op w a : ℕ) (f : Flags) (ram : List ℕ) (queues : List (List ℕ)) → Inv m x ram → o % 8 ≡ 0 → g.stack ≤ o → o < g.stack + 32 →
      IsLoad op w → get_or low 1 0 ≡ a → a % w ≡ 0 → a < 0xE0000000 → by_mpu x.protection Read a ≡ false → Stands by_mpu g.image x.protection pc (TransferImmediate op 0 1 0) → EndsShort g 1 (works x low (base g + o) lr pc f ram queues)
  load_ends m x low o lr pc op w a f ram queues i al lo less is at aligned below nope st =
      let ra = rules.image.ram_aligned in
      let h = shut_at m x ram i low (base g + o) lr pc f ram queues (omega arith) (omega arith) (omega arith) in
      let s = transfer_load_stops by_mpu g.image x low (base g + o) lr pc f ram queues h op w 1 0 a is at aligned below nope st in
      record { count = 1; least = omega arith; within = omega arith; last = stopped (works x low (base g + o) lr pc f ram queues); end = Stop Stacking pc; over = refl; names = NoFrame pc; runs = next_step s (stay by_mpu g.image) }

  ended : (most count : ℕ) (from at : State) → 1 ≤ count → count ≤ most → Runs by_mpu g.image count from (stopped at) [] → EndsShort g most from
  ended most count from at l u r = record { count = count; least = l; within = u; last = stopped at; end = Stop Stacking at.core.pc; over = refl; names = NoFrame at.core.pc; runs = r }

  module _ (laws : CodeLaws) (fn : NumberedFunc) (q : Places) (labels : List (Option ℕ)) where
    entry_code : (m : MonitorBlock) (x : Context) (ram : List ℕ) (at w : ℕ) → (frame_shape fn).words ≡ w → Inv m x ram → Owns g m.current labels at (entry_items fn q) →
        CodeAt by_mpu g.image x.protection at (frame_by (nat_le w 127) (row_length fn.params) w)
    unfolding frame_by frame_code
    entry_code m x ram at w is i own =
        let code = runs_here g Inv law rules laws m x ram labels at (entry_items fn q) i own in
        let n : ℕ = row_length fn.params in
        let all = plain_code by_mpu g.image x.protection labels (enter_code n (frame_shape fn).words (lends_of fn q)) at code in
        let part = (code_at-append by_mpu g.image x.protection (frame_code n (frame_shape fn).words) (lend_code (lends_of fn q)) at all).0 in
        subst (λ (v : ℕ). CodeAt by_mpu g.image x.protection at (frame_code n v)) is part

    by_form : (b : Bool) (w : ℕ) → nat_le w 127 ≡ b → 1 ≤ w → w ≤ most_words → (4 * w + 4) % 8 ≡ 0 → row_length fn.params ≤ w →
        (m : MonitorBlock) (x : Context) (low : List ℕ) (o lr at : ℕ) (f : Flags) (ram : List ℕ) (queues : List (List ℕ)) → Inv m x ram →
        StateFits g.image (works x low (base g + o) lr at f ram queues) → o % 8 ≡ 0 → g.stack ≤ o → base g + o ≤ m.top → o < g.stack + (4 * w + 4) →
        CodeAt by_mpu g.image x.protection at (frame_by b (row_length fn.params) w) → EndsShort g 5 (works x low (base g + o) lr at f ram queues)
    unfolding frame_by
    by_form b w form some most even few m x low o lr at f ram queues i ft al lo hi less code =
        ⊎_elim none room_left (cases_lt o (g.stack + 4))
      where
        j : PermissionTest
        j = by_mpu

        n : ℕ
        n = row_length fn.params

        -- nothing is left: PUSH is refused
        none : o < g.stack + 4 → EndsShort g 5 (works x low (base g + o) lr at f ram queues)
        none u =
            let sa = rules.stack_aligned in
            let ra = rules.image.ram_aligned in
            let rl = rules.image.ram_lowest in
            let rh = rules.image.ram_highest in
            let rm = rules.image.ram_most in
            let tp = law.keeps.top_inside m x ram i in
            let fits = rules.fits in
            let h = shut_at m x ram i low (base g + o) lr at f ram queues (omega arith) (omega arith) (omega arith) in
            let no = stack.refuses m x ram (base g + o - 4) i (omega arith) (omega arith) in
            let s = push_lr_stops by_mpu g.image x low (base g + o) lr at f ram queues h (base g + o - 4) (omega arith) (omega arith) (omega arith) (omega arith) no code.0 in
            ended 5 1 _ (works x low (base g + o) lr at f ram queues) (omega arith) (omega arith) (next_step s (stay by_mpu g.image))

        -- else it is made, and the first store of the frame is refused
        room_left : g.stack + 4 ≤ o → EndsShort g 5 (works x low (base g + o) lr at f ram queues)
        room_left u =
            let sa = rules.stack_aligned in
            let ra = rules.image.ram_aligned in
            let rl = rules.image.ram_lowest in
            let rh = rules.image.ram_highest in
            let rm = rules.image.ram_most in
            let tp = law.keeps.top_inside m x ram i in
            let fits = rules.fits in
            let to : ℕ = base g + o - (4 * w + 4) in
            let ram1 : List ℕ = write 4 (o - 4) lr ram in
            let sub : List Instr = sub_by b w in
            let r0 = room g Inv law rules laws m x ram (o - 4) 1 i (omega arith) (omega arith) (omega arith) in
            let at4 : base g + (o - 4) + 4 ≡ base g + o = omega arith in
            let s1 = push_lr by_mpu g.image x low (base g + o) lr at f ram queues (base g + (o - 4)) (o - 4) at4 r0 code.0 in
            let pS = code_at-append by_mpu g.image x.protection sub (stores_code (λ k. k) n 0 ++ (byte_into 0 0 ∷ stores_code (λ k. 0) (w - n) n)) (at + 2) code.1 in
            let s2 = subs by_mpu g.image x low lr f ram1 queues b w form (base g + (o - 4)) to (at + 2) (omega arith) (omega arith) pS.0 in
            let no = stack.refuses m x ram to i (omega arith) (omega arith) in
            let s3 = first_store by_mpu g.image x low lr f ram1 queues n w to (at + 2 + code_size sub) some few (omega arith) (omega arith) no
            (λ low pc f. shut_at m x ram i low to lr pc f ram1 queues (omega arith) (omega arith) (omega arith)) pS.1 in
            let many : (if b then 1 else 2) ≤ 2 = two b in
            ended 5 (suc ((if b then 1 else 2) + s3.0)) _ s3.3.at (omega arith) (let k = s3.2 in omega (arith, many, k)) (next_step s1 (onward by_mpu g.image s2 s3.3.runs))
          where
            two : (b : Bool) → (if b then 1 else 2) ≤ 2
            two true = omega arith
            two false = omega arith

    pub entry_by : (w : ℕ) → (frame_shape fn).words ≡ w → 1 ≤ w → w ≤ most_words → (4 * w + 4) % 8 ≡ 0 → row_length fn.params ≤ w →
        (m : MonitorBlock) (x : Context) (low : List ℕ) (o lr at : ℕ) (f : Flags) (ram : List ℕ) (queues : List (List ℕ)) → Inv m x ram →
        StateFits g.image (works x low (base g + o) lr at f ram queues) → o % 8 ≡ 0 → g.stack ≤ o → base g + o ≤ m.top → o < g.stack + (4 * w + 4) →
        Owns g m.current labels at (entry_items fn q) → EndsShort g 5 (works x low (base g + o) lr at f ram queues)
    entry_by w is some most even few m x low o lr at f ram queues i ft al lo hi less own =
        by_form (nat_le w 127) w refl some most even few m x low o lr at f ram queues i ft al lo hi less (entry_code m x ram at w is i own)

  pub entry_stops : (laws : CodeLaws) (fn : NumberedFunc) (q : Places) (labels : List (Option ℕ)) (w : ℕ) → (frame_shape fn).words ≡ w → 1 ≤ w → w ≤ most_words → (4 * w + 4) % 8 ≡ 0 → row_length fn.params ≤ w →
      (m : MonitorBlock) (x : Context) (low : List ℕ) (o lr at : ℕ) (f : Flags) (ram : List ℕ) (queues : List (List ℕ)) → Inv m x ram →
      StateFits g.image (works x low (base g + o) lr at f ram queues) → o % 8 ≡ 0 → g.stack ≤ o → base g + o ≤ m.top → o < g.stack + (4 * w + 4) →
      Owns g m.current labels at (entry_items fn q) → EndsShort g 5 (works x low (base g + o) lr at f ram queues)
  entry_stops laws fn q labels = entry_by laws fn q labels
