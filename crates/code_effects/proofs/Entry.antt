-- The entry of a function: its frame, and what lends its locals.
use Rattle.std.proofs.Common.{◌≡◌, ℕ, zero, suc, ◌+◌, ◌-◌, ◌*◌, ◌^◌, ◌<◌, ◌≤◌, Bool, true, false, nat_le, if◌then◌else◌, List, [], ◌∷◌, ◌++◌, length, get_or, set, Option, refl, sym, ap, ◌∙◌, subst, arith, inl, inr, ⊎_elim}
use Rattle.std.proofs.lemmas.Bool.{cases_lt}
use Rattle.std.proofs.lemmas.Bool.Decides.{nat_tests}
use Rattle.base_words.specs.Bytes.{read, write, cut}
use Rattle.base_words.proofs.Bytes.{length-write, read_same}
use Rattle.base_words.specs.declared.conditions.Flags.{Flags}
use Rattle.base_words.specs.Flags.{result_flags}
use Rattle.machine_thumb.specs.declared.table.Instr.{Instr}
use Rattle.machine_thumb.specs.declared.table.Instr.TheVariants.{PushPop}
use Rattle.machine_thumb.specs.Table.{svc}
use Rattle.machine_devices.specs.declared.image.Image.{Image}
use Rattle.machine_model.specs.declared.state.ProtectionState.{ProtectionState}
use Rattle.machine_model.specs.State.{State, PermissionTest}
use Rattle.machine_model.specs.Code.{Stands, CodeAt, StepsQuietly, Runs}
use Rattle.machine_model.specs.Running.{code_size}
use Rattle.machine_model.specs.Stack.{Room}
use Rattle.machine_model.specs.RunningCode.{Context, works}
use Rattle.machine_model.proofs.Exec.{stay, next_step, onward}
use Rattle.machine_model.proofs.CodeParts.{code_size-append, code_at-append}
use Rattle.machine_model.proofs.InstructionEffects.{movs}
use Rattle.machine_model.proofs.Transfers.{str_sp, add_d_sp, sub_sp, push_lr}
use Rattle.ir_model.specs.Resolved.{NumberedFunc}
use Rattle.ir_model.specs.Signatures.{row_length}
use Rattle.code_model.specs.declared.places.Places.{Places}
use Rattle.code_model.specs.FrameShape.{frame_shape}
use Rattle.code_model.specs.Places.{Lend}
use Rattle.code_model.specs.Words.{byte_into, home_address}
use Rattle.code_model.specs.Entry.{sub_by, stores_code, frame_code, lend_code, enter_code}
use Rattle.code_model.specs.Templates.{lends_of}
use Rattle.code_model.specs.Sizes.{adjust_size, entry_size}
use Rattle.code_effects.specs.Points.{Point, AreAsKnown, known, Leads}
use Rattle.code_effects.specs.Frames.{HasEntry}
use Rattle.code_effects.specs.Entry.{Entered, no_lend, FrameMade, EntryEffects}
use Rattle.code_effects.proofs.Items.{plain_code}
use Rattle.code_effects.proofs.Joined.{arrives_at, counted, ends_at, landed, leads_by}
use Rattle.code_effects.proofs.Registers.{holds_by, holds_nothing, known_holds}
use Rattle.code_effects.proofs.Kept.{Kept, kept_none, kept_write}

-- ---- memory outside of a range stays

kept_on : (lo hi lo2 hi2 : ℕ) (m n p : List ℕ) → Kept lo hi m n → Kept lo2 hi2 n p → lo ≤ lo2 → hi2 ≤ hi → Kept lo hi m p
kept_on lo hi lo2 hi2 m n p k l a c = record {
  reads = λ w x g. l.reads w x (⊎_elim (λ y. inl (omega arith)) (λ y. inr (omega arith)) g) ∙ k.reads w x g;
  as_long = l.as_long ∙ k.as_long;
}

-- these values into words from word k on
stored : (o : ℕ) (value : ℕ → ℕ) (n k : ℕ) → List ℕ → List ℕ
stored o value zero k ram = ram
stored o value (suc n) k ram = stored o value n (suc k) (write 4 (o + 4 * k) (value k) ram)

-- they have the values, the rest stays
record Put (o k n : ℕ) (value : ℕ → ℕ) (old new : List ℕ) : Type 0 where
  words : (m : ℕ) → k ≤ m → m < k + n → read 4 (o + 4 * m) new ≡ cut 4 (value m)
  kept : Kept (o + 4 * k) (o + 4 * (k + n)) old new

put_stored : (o : ℕ) (value : ℕ → ℕ) (n k : ℕ) (ram : List ℕ) → o + 4 * (k + n) ≤ length ram → Put o k n value ram (stored o value n k ram)
unfolding stored
put_stored o value zero k ram fits = record { words = λ m l u. absurd (omega arith); kept = kept_none _ _ ram }
put_stored o value (suc n) k ram fits =
    let ram1 : List ℕ = write 4 (o + 4 * k) (value k) ram in
    let l1 : length ram1 ≡ length ram = length-write 4 (o + 4 * k) (value k) ram in
    let c = put_stored o value n (suc k) ram1 (omega arith) in
    record {
      words = λ m l u. ⊎_elim
          (λ y. let q : m ≡ k = omega arith in rw q (c.kept.reads 4 (o + 4 * k) (inl (omega arith)) ∙ read_same 4 (o + 4 * k) (value k) ram (omega arith)))
          (λ y. c.words m (omega arith) (omega arith))
          (cases_lt m (suc k));
      kept = kept_on (o + 4 * k) (o + 4 * (k + suc n)) (o + 4 * suc k) (o + 4 * (suc k + n)) ram ram1 _ (kept_write (o + 4 * k) (o + 4 * (k + suc n)) ram ram 4 (o + 4 * k) (value k) (kept_none _ _ ram) (omega arith) (omega arith)) c.kept (omega arith) (omega arith);
    }

-- a frame of w words below the return address, the first n of them arguments
frame_ram : (o n w link : ℕ) (value : ℕ → ℕ) → List ℕ → List ℕ
frame_ram o n w link value ram = stored o (λ k. 0) (w - n) n (stored o value n 0 (write 4 (o + 4 * w) link ram))

cut_nothing : cut 4 0 ≡ 0
unfolding cut
cut_nothing = refl

frame_entered : (o w link : ℕ) (vs ram : List ℕ) → length vs ≤ w → o + 4 * (w + 1) ≤ length ram → Entered o w link vs ram (frame_ram o (length vs) w link (λ k. get_or vs k 0) ram)
unfolding frame_ram
frame_entered o w link vs ram nw fits =
    let n : ℕ = length vs in
    let ram1 : List ℕ = write 4 (o + 4 * w) link ram in
    let l1 : length ram1 ≡ length ram = length-write 4 (o + 4 * w) link ram in
    let k1 : Kept o (o + 4 * (w + 1)) ram ram1 = kept_write o (o + 4 * (w + 1)) ram ram 4 (o + 4 * w) link (kept_none _ _ ram) (omega arith) (omega arith) in
    let s3 = put_stored o (λ k. get_or vs k 0) n 0 ram1 (omega arith) in
    let ram3 : List ℕ = stored o (λ k. get_or vs k 0) n 0 ram1 in
    let l3 : length ram3 ≡ length ram1 = s3.kept.as_long in
    let k3 : Kept o (o + 4 * (w + 1)) ram ram3 = kept_on o (o + 4 * (w + 1)) (o + 4 * 0) (o + 4 * (0 + n)) ram ram1 ram3 k1 s3.kept (omega arith) (omega arith) in
    let s5 = put_stored o (λ k. 0) (w - n) n ram3 (omega arith) in
    let k5 = kept_on o (o + 4 * (w + 1)) (o + 4 * n) (o + 4 * (n + (w - n))) ram ram3 (stored o (λ k. 0) (w - n) n ram3) k3 s5.kept (omega arith) (omega arith) in
    record {
      as_long = k5.as_long;
      given = λ k l. s5.kept.reads 4 (o + 4 * k) (inl (omega arith)) ∙ s3.words k (omega arith) (omega arith);
      cleared = λ k l u. s5.words k l (omega arith) ∙ cut_nothing;
      return_address = s5.kept.reads 4 (o + 4 * w) (inr (omega arith)) ∙ s3.kept.reads 4 (o + 4 * w) (inr (omega arith)) ∙ read_same 4 (o + 4 * w) link ram (omega arith);
      beside = λ u a h. k5.reads u a h;
    }

-- ---- sizes

stores_size : (t : ℕ → ℕ) (n k : ℕ) → code_size (stores_code t n k) ≡ 2 * n
stores_size t zero k = refl
stores_size t (suc n) k = omega (arith, stores_size t n (suc k))

sub_size : (b : Bool) (w : ℕ) → code_size (sub_by b w) ≡ (if b then 2 else 4)
sub_size true w = refl
sub_size false w = refl

-- the code of the frame, by which form of SUB it has
unfoldable pub frame_by : (b : Bool) (n w : ℕ) → List Instr
frame_by b n w = (PushPop 0 1 0 0 ∷ sub_by b w) ++ (stores_code (λ k. k) n 0 ++ (byte_into 0 0 ∷ stores_code (λ k. 0) (w - n) n))

frame_size : (n w : ℕ) → code_size (frame_code n w) ≡ 2 + adjust_size w + (2 * n + (2 + 2 * (w - n)))
unfolding frame_code
frame_size n w =
    let a = code_size-append (sub_by (nat_le w 127) w) (stores_code (λ k. k) n 0 ++ (byte_into 0 0 ∷ stores_code (λ k. 0) (w - n) n)) in
    let b = code_size-append (stores_code (λ k. k) n 0) (byte_into 0 0 ∷ stores_code (λ k. 0) (w - n) n) in
    let c = stores_size (λ k. k) n 0 in
    let d = stores_size (λ k. 0) (w - n) n in
    let e : code_size (sub_by (nat_le w 127) w) ≡ adjust_size w = sub_size (nat_le w 127) w in
    omega arith

-- ---- stores into the frame

-- the last of n + 1 words
pub last_room : (j : PermissionTest) (i : Image) (p : ProtectionState) (sp at o n : ℕ) → Room j i p sp o (n + 1) → sp + 4 * n ≡ at → Room j i p at (o + 4 * n) 1
last_room j i p sp at o n r e =
    let w = r.words in
    record {
      words = record { is_at = omega (arith, w.is_at); aligned = omega (arith, w.aligned); fits = omega (arith, w.fits); low = w.low };
      reads = λ k lt. let z : at + 4 * k ≡ sp + 4 * n = omega arith in rw z (r.reads n (omega arith));
      writes = λ k lt. let z : at + 4 * k ≡ sp + 4 * n = omega arith in rw z (r.writes n (omega arith));
    }

module _ (j : PermissionTest) (i : Image) (x : Context) where
  puts : (low : List ℕ) (sp lr : ℕ) (f : Flags) (queues : List (List ℕ)) (o most : ℕ) (t value : ℕ → ℕ) (n k pc : ℕ) (ram : List ℕ) → Room j i x.protection sp o most → k + n ≤ most →
      ((m : ℕ) → m < k + n → get_or low (t m) 0 ≡ value m) → CodeAt j i x.protection pc (stores_code t n k) →
      Runs j i n (works x low sp lr pc f ram queues) (works x low sp lr (pc + code_size (stores_code t n k)) f (stored o value n k ram) queues) []
  unfolding stored
  puts low sp lr f queues o most t value zero k pc ram r h is code = let e : pc ≡ pc + 0 = omega arith in ends_at j i 0 _ x low sp lr pc (pc + 0) f ram queues [] e (stay j i)
  puts low sp lr f queues o most t value (suc n) k pc ram r h is code =
      let ram1 : List ℕ = write 4 (o + 4 * k) (value k) ram in
      let c = puts low sp lr f queues o most t value n (suc k) (pc + 2) ram1 r (omega arith) (λ m l. is m (omega arith)) code.1 in
      let e : pc + 2 + code_size (stores_code t n (suc k)) ≡ pc + (2 + code_size (stores_code t n (suc k))) = omega arith in
      ends_at j i (suc n) _ x low sp lr _ _ f (stored o value n (suc k) ram1) queues [] e
      (stores_value (str_sp j i x low sp lr pc f ram queues (t k) k o most r (omega arith) code.0) (is k (omega arith)) c)
    where
      stores_value : {u : State} {v : ℕ} → StepsQuietly j i (works x low sp lr pc f ram queues) (works x low sp lr (pc + 2) f (write 4 (o + 4 * k) v ram) queues) → v ≡ value k →
          Runs j i n (works x low sp lr (pc + 2) f (write 4 (o + 4 * k) (value k) ram) queues) u [] → Runs j i (suc n) (works x low sp lr pc f ram queues) u []
      stores_value s e g = next_step (rw e at s) g

  -- SUB SP, once or twice
  subs : (b : Bool) (w : ℕ) → nat_le w 127 ≡ b → (low : List ℕ) (sp to lr pc : ℕ) (f : Flags) (ram : List ℕ) (queues : List (List ℕ)) → to + 4 * w ≡ sp → sp < 2 ^ 32 → CodeAt j i x.protection pc (sub_by b w) →
      Runs j i (if b then 1 else 2) (works x low sp lr pc f ram queues) (works x low to lr (pc + code_size (sub_by b w)) f ram queues) []
  subs true w e low sp to lr pc f ram queues h l code = next_step (sub_sp j i x low sp lr pc f ram queues w to h l code.0) (stay j i)
  subs false w e low sp to lr pc f ram queues h l code =
      let q : 127 < w = grind (arith, nat_tests) in
      let z : pc + 2 + 2 ≡ pc + 4 = omega arith in
      ends_at j i 2 _ x low to lr (pc + 2 + 2) (pc + 4) f ram queues [] z (next_step (sub_sp j i x low sp lr pc f ram queues 127 (to + 4 * (w - 127)) (omega arith) l code.0)
      (next_step (sub_sp j i x low (to + 4 * (w - 127)) lr (pc + 2) f ram queues (w - 127) to refl (omega arith) code.1.0) (stay j i)))

first_set : (low : List ℕ) (a : ℕ) → length low ≡ 8 → (get_or (set low 0 a) 0 0 ≡ a) × (length (set low 0 a) ≡ 8)
first_set [] a h = absurd (omega arith)
first_set (x ∷ r) a h = (refl, h)

steps_are : (b : Bool) (n w : ℕ) → n ≤ w → suc ((if b then 1 else 2) + (n + suc (w - n))) ≡ (if b then 3 + w else 4 + w)
steps_are true n w h = omega arith
steps_are false n w h = omega arith

-- ---- the frame

module _ (j : PermissionTest) (i : Image) (p : Point) (o to : ℕ) where
  made : (b : Bool) (w : ℕ) (vs low : List ℕ) (f : Flags) → nat_le w 127 ≡ b → AreAsKnown (known vs) low → length vs ≤ w → to + 4 * (w + 1) ≡ p.sp → Room j i p.context.protection to o (w + 1) →
      CodeAt j i p.context.protection p.pc (frame_by b (length vs) w) →
      Runs j i (suc ((if b then 1 else 2) + (length vs + suc (w - length vs)))) (works p.context low p.sp p.lr p.pc f p.ram p.queues)
      (works p.context (set low 0 0) to p.lr (p.pc + code_size (frame_by b (length vs) w)) (result_flags f 0) (frame_ram o (length vs) w p.lr (λ k. get_or vs k 0) p.ram) p.queues) []
  unfolding frame_by frame_ram
  made b w vs low f e holds nw top room code =
      let n : ℕ = length vs in
      let ws = room.words in
      let x : Context = p.context in
      let sub : List Instr = sub_by b w in
      let ram1 : List ℕ = write 4 (o + 4 * w) p.lr p.ram in
      let ram3 : List ℕ = stored o (λ k. get_or vs k 0) n 0 ram1 in
      let s1 = push_lr j i x low p.sp p.lr p.pc f p.ram p.queues (to + 4 * w) (o + 4 * w) (omega arith) (last_room j i x.protection to (to + 4 * w) o w room refl) code.0 in
      let pS = code_at-append j i x.protection sub (stores_code (λ k. k) n 0 ++ (byte_into 0 0 ∷ stores_code (λ k. 0) (w - n) n)) (p.pc + 2) code.1 in
      let pc2 : ℕ = p.pc + 2 + code_size sub in
      let s2 = subs j i x b w e low (to + 4 * w) to p.lr (p.pc + 2) f ram1 p.queues refl (omega (arith, ws.is_at, ws.fits, ws.low)) pS.0 in
      let pT = code_at-append j i x.protection (stores_code (λ k. k) n 0) (byte_into 0 0 ∷ stores_code (λ k. 0) (w - n) n) pc2 pS.1 in
      let s3 = puts j i x low to p.lr f p.queues o (w + 1) (λ k. k) (λ k. get_or vs k 0) n 0 pc2 ram1 room (omega arith) (λ m l. known_holds vs low holds m (omega arith)) pT.0 in
      let pc3 : ℕ = pc2 + code_size (stores_code (λ k. k) n 0) in
      let s4 = movs j i x low to p.lr pc3 f ram3 p.queues 0 0 pT.1.0 in
      let z = first_set low 0 holds.eight in
      let s5 = puts j i x (set low 0 0) to p.lr (result_flags f 0) p.queues o (w + 1) (λ k. 0) (λ k. 0) (w - n) n (pc3 + 2) ram3 room (omega arith) (λ m l. z.0) pT.1.1 in
      let zs = code_size-append sub (stores_code (λ k. k) n 0 ++ (byte_into 0 0 ∷ stores_code (λ k. 0) (w - n) n)) in
      let zt = code_size-append (stores_code (λ k. k) n 0) (byte_into 0 0 ∷ stores_code (λ k. 0) (w - n) n) in
      let e2 : pc3 + 2 + code_size (stores_code (λ k. 0) (w - n) n) ≡ p.pc + (2 + code_size (sub ++ (stores_code (λ k. k) n 0 ++ (byte_into 0 0 ∷ stores_code (λ k. 0) (w - n) n)))) = omega arith in
      ends_at j i _ _ x (set low 0 0) to p.lr _ _ (result_flags f 0) (stored o (λ k. 0) (w - n) n ram3) p.queues [] e2
      (next_step s1 (onward j i s2 (onward j i s3 (next_step s4 s5))))

-- ---- the template

module _ (j : PermissionTest) (i : Image) (g : NumberedFunc) (q : Places) (labels : List (Option ℕ)) (p : Point) (o to : ℕ) where
  entry_code_at : (at : ℕ) → HasEntry j i g q labels p at →
      CodeAt j i p.context.protection at (frame_code (row_length g.params) (frame_shape g).words)
      × CodeAt j i p.context.protection (at + code_size (frame_code (row_length g.params) (frame_shape g).words)) (lend_code (lends_of g q))
  entry_code_at at code =
      let n : ℕ = row_length g.params in
      let w : ℕ = (frame_shape g).words in
      code_at-append j i p.context.protection (frame_code n w) (lend_code (lends_of g q)) at (plain_code j i p.context.protection labels (enter_code n w (lends_of g q)) at code)

  frame_code_at : (n w at : ℕ) → CodeAt j i p.context.protection at (frame_code n w) → CodeAt j i p.context.protection at (frame_by (nat_le w 127) n w)
  unfolding frame_code frame_by
  frame_code_at n w at code = code

  frame_by_size : (n w : ℕ) → code_size (frame_by (nat_le w 127) n w) ≡ code_size (frame_code n w)
  unfolding frame_code frame_by
  frame_by_size n w = refl

  entry_begins : entry_size g 0 ≡ code_size (frame_code (row_length g.params) (frame_shape g).words)
  unfolding entry_size
  entry_begins = let e = frame_size (row_length g.params) (frame_shape g).words in omega arith

  the_frame : (vs : List ℕ) → length vs ≡ row_length g.params → length vs ≤ (frame_shape g).words → to + 4 * ((frame_shape g).words + 1) ≡ p.sp →
      length p.ram ≡ i.ram_size → Room j i p.context.protection to o ((frame_shape g).words + 1) → HasEntry j i g q labels p p.pc → FrameMade j i g p o to vs
  the_frame vs count nw top long room code =
      let w : ℕ = (frame_shape g).words in
      let ws = room.words in
      let c = subst (λ (n : ℕ). CodeAt j i p.context.protection p.pc (frame_code n w)) (sym count) (entry_code_at p.pc code).0 in
      let d = frame_code_at (length vs) w p.pc c in
      let s1 = frame_by_size (length vs) w in
      let s2 : code_size (frame_code (length vs) w) ≡ code_size (frame_code (row_length g.params) w) = ap (λ (n : ℕ). code_size (frame_code n w)) count in
      let s3 = entry_begins in
      record {
        ram = frame_ram o (length vs) w p.lr (λ k. get_or vs k 0) p.ram;
        entered = frame_entered o w p.lr vs p.ram nw (omega (arith, ws.fits));
        leads = record {
          arrives = λ low f h.
              counted j i _ _ (steps_are (nat_le w 127) (length vs) w nw)
              (arrives_at j i (suc ((if nat_le w 127 then 1 else 2) + (length vs + suc (w - length vs)))) _ p.context [] (set low 0 0) to to p.lr p.lr (p.pc + code_size (frame_by (nat_le w 127) (length vs) w)) (p.pc + entry_size g 0) (result_flags f 0) _ p.queues [] refl refl (omega arith)
              (holds_nothing (set low 0 0) (first_set low 0 h.eight).1)
              (made j i p o to (nat_le w 127) w vs low f refl h nw top room d));
        };
      }

  -- ---- lends

  lend_at : (ds : List Lend) (k at : ℕ) → k < length ds → CodeAt j i p.context.protection at (lend_code ds) →
      CodeAt j i p.context.protection (at + 6 * k) (home_address 0 (get_or ds k no_lend).home ∷ byte_into 1 (get_or ds k no_lend).number ∷ svc 2 ∷ [])
  lend_at [] k at l code = absurd (omega arith)
  lend_at (d ∷ ds) zero at l code =
      let z : at ≡ at + 0 = omega arith in
      subst (λ (a : ℕ). CodeAt j i p.context.protection a (home_address 0 d.home ∷ byte_into 1 d.number ∷ svc 2 ∷ [])) z (code.0, (code.1.0, (code.1.1.0, tt)))
  lend_at (d ∷ ds) (suc k) at l code =
      let e : Lend = get_or ds k no_lend in
      let z : at + 2 + 2 + 2 + 6 * k ≡ at + 6 * suc k = omega arith in
      subst (λ (a : ℕ). CodeAt j i p.context.protection a (home_address 0 e.home ∷ byte_into 1 e.number ∷ svc 2 ∷ [])) z (lend_at ds k (at + 2 + 2 + 2) (omega arith) code.1.1.1)

  entry_goes_on : (k : ℕ) → entry_size g k ≡ code_size (frame_code (row_length g.params) (frame_shape g).words) + 6 * k
  unfolding entry_size
  entry_goes_on k = let e = frame_size (row_length g.params) (frame_shape g).words in omega arith

  this_lend : (at k : ℕ) → k < length (lends_of g q) → HasEntry j i g q labels p at →
      CodeAt j i p.context.protection (at + entry_size g k) (home_address 0 (get_or (lends_of g q) k no_lend).home ∷ byte_into 1 (get_or (lends_of g q) k no_lend).number ∷ svc 2 ∷ [])
  this_lend at k l code =
      let d : Lend = get_or (lends_of g q) k no_lend in
      let n : ℕ = code_size (frame_code (row_length g.params) (frame_shape g).words) in
      let e = entry_goes_on k in
      let z : at + n + 6 * k ≡ at + entry_size g k = omega arith in
      subst (λ (a : ℕ). CodeAt j i p.context.protection a (home_address 0 d.home ∷ byte_into 1 d.number ∷ svc 2 ∷ [])) z (lend_at (lends_of g q) k (at + n) l (entry_code_at at code).1)

  lend_by : (at home number : ℕ) → p.sp + 4 * home < 2 ^ 32 → CodeAt j i p.context.protection at (home_address 0 home ∷ byte_into 1 number ∷ svc 2 ∷ []) →
      Leads j i 2 (record p { pc = at }) (record p { registers = known ((p.sp + 4 * home) ∷ number ∷ []); pc = at + 4 }) []
  lend_by at home number fits code =
      let v : ℕ = p.sp + 4 * home in
      leads_by j i 2 _ _ [] (λ a b c rest f h.
      landed j i 2 _ p.context (known (v ∷ number ∷ [])) (v ∷ number ∷ c ∷ rest) p.sp p.lr (at + 2 + 2) (at + 4) (result_flags f number) p.ram p.queues [] (omega arith) (holds_by _ (v ∷ number ∷ c ∷ rest) (omega arith) (refl, (refl, tt)))
      (next_step (add_d_sp j i p.context (a ∷ b ∷ c ∷ rest) p.sp p.lr at f p.ram p.queues 0 home fits code.0)
      (next_step (movs j i p.context (v ∷ b ∷ c ∷ rest) p.sp p.lr (at + 2) f p.ram p.queues 1 number code.1.0) (stay j i))))

  lend_here : (at k : ℕ) → k < length (lends_of g q) → HasEntry j i g q labels p at → Stands j i p.context.protection (at + entry_size g k + 4) (svc 2)
  lend_here at k l code =
      let z : at + entry_size g k + 2 + 2 ≡ at + entry_size g k + 4 = omega arith in
      subst (λ (a : ℕ). Stands j i p.context.protection a (svc 2)) z (this_lend at k l code).1.1.0

  lend_behind : (at k : ℕ) → at + entry_size g k + 4 + 2 ≡ at + entry_size g (suc k)
  lend_behind at k = omega (arith, entry_goes_on k, entry_goes_on (suc k))

pub entry_effects : (j : PermissionTest) (i : Image) (g : NumberedFunc) (q : Places) (labels : List (Option ℕ)) (p : Point) (o to : ℕ) → EntryEffects j i g q labels p o to
entry_effects j i g q labels p o to = record {
  frame = the_frame j i g q labels p o to;
  lend = λ at k l fits code. lend_by j i g q labels p o to (at + entry_size g k) (get_or (lends_of g q) k no_lend).home (get_or (lends_of g q) k no_lend).number fits (this_lend j i g q labels p o to at k l code);
  lend_stands = lend_here j i g q labels p o to;
  next_lend = lend_behind j i g q labels p o to;
}
