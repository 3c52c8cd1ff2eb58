-- Parts of enter: the return address rises, the caller's words are saved, and the block's words become the callee's.
use Rattle.std.proofs.Common.{◌≡◌, ℕ, ◌+◌, ◌-◌, ◌*◌, ◌%◌, ◌^◌, ◌<◌, ◌≤◌, inl, inr, true, List, length, refl, ap, ◌∙◌, arith}
use Rattle.base_words.specs.Arithmetic.{add}
use Rattle.base_words.specs.Bytes.{read, write}
use Rattle.machine_devices.specs.declared.image.Image.{Image}
use Rattle.machine_model.specs.declared.state.ProtectionState.{ProtectionState}
use Rattle.machine_model.specs.declared.state.FaultStatus.{FaultStatus}
use Rattle.machine_model.specs.State.{by_mpu}
use Rattle.monitor_steps.specs.Steps.{PrivilegedSteps}
use Rattle.monitor_steps.specs.Core.{Core}
use Rattle.monitor_steps.specs.Effect.{Outcome}
use Rattle.monitor_steps.proofs.Gives.{word_fits}
use Rattle.monitor_steps.proofs.Within.{GivesWithin, const_within, copy_within, alu_within, at_within, more_within}
use Rattle.monitor_model.specs.declared.tables.Tables.{Tables}
use Rattle.monitor_model.specs.Placed.{Placed}
use Rattle.monitor_program.specs.Constants.{Constants, constants_with}
use Rattle.monitor_program.specs.Svc.{raise, save, entered}
use Rattle.monitor_laws.proofs.Numbers.{shl4}
use Rattle.monitor_laws.proofs.Off.{core, IsOff}
use Rattle.monitor_laws.proofs.Opened.{block_load_within, block_store_within, on_msp, HandlerPremises}
use Rattle.monitor_laws.proofs.HandlerWords.{write_psp_within, Changed, changed_in, changed_none, InStack, entry_store_within, frame_load_within, frame_store_within}
use Rattle.monitor_laws.proofs.LeaveWords.{beside, stored, entry_is, whole_word}

module _ (i : Image) (t : Tables) (p : Placed i t) where
  abbrev block : ℕ
  block = t.monitor - i.ram_base

  -- the saved entry numbered d has these words of the caller
  pub record Saves (psp d : ℕ) (old new : List ℕ) : Type 0 where
    pub psp_is : read 4 (block + (16 * d + 32)) new ≡ psp
    pub current_is : read 4 (block + (16 * d + 36)) new ≡ read 4 (block + 0) old
    pub top_is : read 4 (block + (16 * d + 40)) new ≡ read 4 (block + 4) old
    pub mark_is : read 4 (block + (16 * d + 44)) new ≡ read 4 (block + 16) old
    pub changed : Changed (block + (16 * d + 32)) (block + (16 * d + 48)) old new

  saves : (psp d : ℕ) (m m1 m2 m3 m4 : List ℕ) (v1 v2 v3 : ℕ) → d < 8 → length m ≡ i.ram_size → psp < 2 ^ 32 →
      m1 ≡ write 4 (block + (16 * d + 32)) psp m → length m1 ≡ length m → v1 ≡ read 4 (block + 0) m1 → m2 ≡ write 4 (block + (16 * d + 36)) v1 m1 → length m2 ≡ length m1 →
      v2 ≡ read 4 (block + 4) m2 → m3 ≡ write 4 (block + (16 * d + 40)) v2 m2 → length m3 ≡ length m2 → v3 ≡ read 4 (block + 16) m3 → m4 ≡ write 4 (block + (16 * d + 44)) v3 m3 → Saves psp d m m4
  saves psp d m m1 m2 m3 m4 v1 v2 v3 few zm ps w1 z1 e1 w2 z2 e2 w3 z3 e3 w4 = record {
    psp_is = beside (b + (16 * d + 32)) (b + (16 * d + 44)) v3 m3 m4 w4 (inl (omega arith)) ∙ beside (b + (16 * d + 32)) (b + (16 * d + 40)) v2 m2 m3 w3 (inl (omega arith)) ∙ beside (b + (16 * d + 32)) (b + (16 * d + 36)) v1 m1 m2 w2 (inl (omega arith)) ∙ stored (b + (16 * d + 32)) psp m m1 w1 (omega (arith, room, few)) ps;
    current_is = beside (b + (16 * d + 36)) (b + (16 * d + 44)) v3 m3 m4 w4 (inl (omega arith)) ∙ beside (b + (16 * d + 36)) (b + (16 * d + 40)) v2 m2 m3 w3 (inl (omega arith)) ∙ stored (b + (16 * d + 36)) v1 m1 m2 w2 (omega (arith, room, few, z1)) (let f = word_fits (b + 0) m1 in omega (arith, e1, f)) ∙ e1 ∙ to1 (b + 0) (omega arith);
    top_is = beside (b + (16 * d + 40)) (b + (16 * d + 44)) v3 m3 m4 w4 (inl (omega arith)) ∙ stored (b + (16 * d + 40)) v2 m2 m3 w3 (omega (arith, room, few, z1, z2)) (let f = word_fits (b + 4) m2 in omega (arith, e2, f)) ∙ e2 ∙ to2 (b + 4) (omega arith);
    mark_is = stored (b + (16 * d + 44)) v3 m3 m4 w4 (omega (arith, room, few, z1, z2, z3)) (let f = word_fits (b + 16) m3 in omega (arith, e3, f)) ∙ e3 ∙ beside (b + 16) (b + (16 * d + 40)) v2 m2 m3 w3 (inl (omega arith)) ∙ to2 (b + 16) (omega arith);
    changed = moves;
  }
    where
      b : ℕ
      b = block

      room : block + 1024 ≤ length m
      room = let x = p.block_inside.0 in let y = p.block_inside.1 in omega (arith, zm, x, y)

      to1 : (a : ℕ) → a + 4 ≤ block + 32 → read 4 a m1 ≡ read 4 a m
      to1 a h = beside a (block + (16 * d + 32)) psp m m1 w1 (inl (omega (arith, h)))

      to2 : (a : ℕ) → a + 4 ≤ block + 32 → read 4 a m2 ≡ read 4 a m
      to2 a h = beside a (block + (16 * d + 36)) v1 m1 m2 w2 (inl (omega (arith, h))) ∙ to1 a h

      moves : Changed (block + (16 * d + 32)) (block + (16 * d + 48)) m m4
      moves =
          let lo : ℕ = block + (16 * d + 32) in
          let hi : ℕ = block + (16 * d + 48) in
          let c1 = changed_in lo hi (block + (16 * d + 32)) psp m m m1 (changed_none lo hi m) (omega arith) (omega arith) w1 in
          let c2 = changed_in lo hi (block + (16 * d + 36)) v1 m m1 m2 c1 (omega arith) (omega arith) w2 in
          let c3 = changed_in lo hi (block + (16 * d + 40)) v2 m m2 m3 c2 (omega arith) (omega arith) w3 in
          changed_in lo hi (block + (16 * d + 44)) v3 m m3 m4 c3 (omega arith) (omega arith) w4

  -- the block's five first words are the callee's
  pub record Counted (d current top : ℕ) (old new : List ℕ) : Type 0 where
    pub current_is : read 4 (block + 0) new ≡ current
    pub top_is : read 4 (block + 4) new ≡ top
    pub depth : read 4 (block + 8) new ≡ d + 1
    pub loans : read 4 (block + 12) new ≡ read 4 (block + 12) old
    pub mark_is : read 4 (block + 16) new ≡ read 4 (block + 12) old
    pub changed : Changed block (block + 20) old new

  counted : (d current top : ℕ) (m m1 m2 m3 m4 : List ℕ) (v : ℕ) → d < 8 → current < 2 ^ 16 → top < 2 ^ 32 → length m ≡ i.ram_size →
      m1 ≡ write 4 (block + 8) (d + 1) m → length m1 ≡ length m → m2 ≡ write 4 (block + 0) current m1 → length m2 ≡ length m1 → m3 ≡ write 4 (block + 4) top m2 → length m3 ≡ length m2 → v ≡ read 4 (block + 12) m3 → m4 ≡ write 4 (block + 16) v m3 → Counted d current top m m4
  counted d current top m m1 m2 m3 m4 v few lc lt zm w1 z1 w2 z2 w3 z3 e4 w4 = record {
    current_is = beside (block + 0) (block + 16) v m3 m4 w4 (inl (omega arith)) ∙ beside (block + 0) (block + 4) top m2 m3 w3 (inl (omega arith)) ∙ stored (block + 0) current m1 m2 w2 (omega (arith, room, z1)) (omega (arith, lc));
    top_is = beside (block + 4) (block + 16) v m3 m4 w4 (inl (omega arith)) ∙ stored (block + 4) top m2 m3 w3 (omega (arith, room, z1, z2)) lt;
    depth = beside (block + 8) (block + 16) v m3 m4 w4 (inl (omega arith)) ∙ beside (block + 8) (block + 4) top m2 m3 w3 (inr (omega arith)) ∙ beside (block + 8) (block + 0) current m1 m2 w2 (inr (omega arith)) ∙ stored (block + 8) (d + 1) m m1 w1 (omega (arith, room)) (omega (arith, few));
    loans = beside (block + 12) (block + 16) v m3 m4 w4 (inl (omega arith)) ∙ loans3;
    mark_is = stored (block + 16) v m3 m4 w4 (omega (arith, room, z1, z2, z3)) (let f = word_fits (block + 12) m3 in omega (arith, e4, f)) ∙ e4 ∙ loans3;
    changed = moves;
  }
    where
      room : block + 1024 ≤ length m
      room = let x = p.block_inside.0 in let y = p.block_inside.1 in omega (arith, zm, x, y)

      loans3 : read 4 (block + 12) m3 ≡ read 4 (block + 12) m
      loans3 = beside (block + 12) (block + 4) top m2 m3 w3 (inr (omega arith)) ∙ beside (block + 12) (block + 0) current m1 m2 w2 (inr (omega arith)) ∙ beside (block + 12) (block + 8) (d + 1) m m1 w1 (inr (omega arith))

      moves : Changed block (block + 20) m m4
      moves =
          let lo : ℕ = block in
          let hi : ℕ = block + 20 in
          let c1 = changed_in lo hi (block + 8) (d + 1) m m m1 (changed_none lo hi m) (omega arith) (omega arith) w1 in
          let c2 = changed_in lo hi (block + 0) current m m1 m2 c1 (omega arith) (omega arith) w2 in
          let c3 = changed_in lo hi (block + 4) top m m2 m3 c2 (omega arith) (omega arith) w3 in
          changed_in lo hi (block + 16) v m m3 m4 c3 (omega arith) (omega arith) w4

module _ (premises : HandlerPremises) where
  open premises use {installed, installed.{image as i, tables as t, placed as p, stub}, Good, Allowed, entry_top}

  abbrev k : Constants
  k = constants_with stub t

  abbrev W : ℕ → PrivilegedSteps → List PrivilegedSteps → Core → (Outcome → Type 0) → Type 0
  W n s ks c Q = GivesWithin by_mpu i Good Allowed n s ks c Q

  abbrev here : ℕ
  here = t.monitor - i.ram_base

  module _ {msp psp : ℕ} {u : FaultStatus} where
    -- the return address rises by 2
    pub raise_within : (o top ret : ℕ) {b : ℕ} {s : PrivilegedSteps} {ks : List PrivilegedSteps} {Q : Outcome → Type 0} {q : ProtectionState} {m : List ℕ} {a1 a2 a3 a4 a5 a6 a7 : ℕ} → IsOff true q → psp ≡ i.ram_base + o → InStack i t o top → i.ram_base + (o + 32) ≤ entry_top → read 4 (here + 4) m ≡ top → read 4 (o + 24) m ≡ ret → ret < 2 ^ 31 →
        ((v4 : ℕ) (m1 : List ℕ) → m1 ≡ write 4 (o + 24) (ret + 2) m → length m1 ≡ length m → W b s ks (core msp psp q u m1 psp a1 a2 a3 v4 a5 2 a7) Q) → W (8 + b) (raise s) ks (core msp psp q u m psp a1 a2 a3 a4 a5 a6 a7) Q
    raise_within o top ret {b} {s} {ks} {Q} {m} off ep io below et er lt f =
        more_within
        (frame_load_within premises o top 6 off io below ep refl et (λ v4 e4.
        const_within (alu_within (λ x ex.
        let xe : x ≡ ret + 2 = plus_two v4 x (e4 ∙ er) ex in
        frame_store_within premises o top 6 off io ep refl et (λ m1 w1 z1. f x m1 (w1 ∙ ap (λ v. write 4 (o + 24) v m) xe) z1))))) (omega arith)
      where
        plus_two : (v x : ℕ) → v ≡ ret → x ≡ add v 2 → x ≡ ret + 2
        plus_two v x a b = omega (arith, a, b, lt)

    -- PSP, CUR, TOP and MARK into the saved entry numbered DEPTH
    pub save_within : (d : ℕ) {b : ℕ} {s : PrivilegedSteps} {ks : List PrivilegedSteps} {Q : Outcome → Type 0} {q : ProtectionState} {m : List ℕ} {a2 a3 a4 a5 a6 a7 : ℕ} → IsOff true q → d < 8 → read 4 (here + 8) m ≡ d → length m ≡ i.ram_size → psp < 2 ^ 32 →
        ((v6 v7 : ℕ) (m4 : List ℕ) → Saves i t p psp d m m4 → W b s ks (core msp psp q u m4 psp k.block a2 a3 d a5 v6 v7) Q) → W (19 + b) (save s) ks (core msp psp q u m psp k.block a2 a3 a4 a5 a6 a7) Q
    save_within d {b} {s} {ks} {Q} {q} {m} {a2} {a3} {a5} off few ed zm ps f =
        more_within
        (block_load_within premises 2 off refl refl (λ v4 e4.
        let de : v4 ≡ d = e4 ∙ ed in
        const_within (copy_within (alu_within (λ x ex.
        let xe : x ≡ 16 * d = shl4 v4 x ex (low28 v4 de) ∙ ap (λ d. 16 * d) de in
        alu_within (λ y ey.
        let ye : y ≡ t.monitor + 16 * d = entry_is installed y x d ey xe few in
        entry_store_within premises d 8 off ye few refl (λ m1 w1 z1.
        block_load_within premises 0 off refl refl (λ v1 x1.
        entry_store_within premises d 9 off ye few refl (λ m2 w2 z2.
        block_load_within premises 1 off refl refl (λ v2 x2.
        entry_store_within premises d 10 off ye few refl (λ m3 w3 z3.
        block_load_within premises 4 off refl refl (λ v3 x3.
        entry_store_within premises d 11 off ye few refl (λ m4 w4 z4.
        at_within (ap (λ x. core msp psp q u m4 psp k.block a2 a3 x a5 y v3) de) (f y v3 m4 (saves i t p psp d m m1 m2 m3 m4 v1 v2 v3 few zm ps w1 z1 x1 w2 z2 x2 w3 z3 x3 w4))))))))))))))) (omega arith)
      where
        low28 : (v : ℕ) → v ≡ d → v < 2 ^ 28
        low28 v e = omega (arith, e, few)

    -- one entry more is saved, the callee runs, and PSP is that of its frame, at offset fo
    pub entered_within : (d current top fo : ℕ) {b : ℕ} {s : PrivilegedSteps} {ks : List PrivilegedSteps} {Q : Outcome → Type 0} {q : ProtectionState} {m : List ℕ} {a0 a2 a7 : ℕ} → IsOff true q → d < 8 → current < 2 ^ 16 → top < 2 ^ 32 → length m ≡ i.ram_size → fo % 4 ≡ 0 →
        ((m4 : List ℕ) (v7 : ℕ) → Counted i t p d current top m m4 → W b s ks (core msp (i.ram_base + fo) q u m4 a0 k.block a2 top (d + 1) current (i.ram_base + fo) v7) Q) → W (12 + b) (entered s) ks (core msp psp q u m a0 k.block a2 top d current (i.ram_base + fo) a7) Q
    entered_within d current top fo {b} {s} {ks} {Q} {q} {m} {a0} {a2} off few lc lt zm al f =
        more_within
        (const_within (alu_within (λ x ex.
        let xe : x ≡ d + 1 = plus_one x ex in
        block_store_within premises 2 off refl refl (λ m1 w1 z1.
        block_store_within premises 0 off refl refl (λ m2 w2 z2.
        block_store_within premises 1 off refl refl (λ m3 w3 z3.
        block_load_within premises 3 off refl refl (λ v e4.
        block_store_within premises 4 off refl refl (λ m4 w4 z4.
        write_psp_within (on_msp q off.privileged)
        (at_within (ap (λ s. core msp s q u m4 a0 k.block a2 top x current (i.ram_base + fo) v) (whole_word installed (i.ram_base + fo) fo refl al) ∙ ap (λ x. core msp (i.ram_base + fo) q u m4 a0 k.block a2 top x current (i.ram_base + fo) v) xe)
        (f m4 v (counted i t p d current top m m1 m2 m3 m4 v few lc lt zm (w1 ∙ ap (λ x. write 4 (here + 8) x m) xe) z1 w2 z2 w3 z3 e4 w4))))))))))) (omega arith)
      where
        plus_one : (x : ℕ) → x ≡ add d 1 → x ≡ d + 1
        plus_one x e = omega (arith, e, few)
