-- A part of enter: the callee's frame below the new TOP.
use Rattle.std.proofs.Common.{◌≡◌, ℕ, ◌+◌, ◌-◌, ◌*◌, ◌^◌, ◌<◌, ◌≤◌, ◌⊎◌, inl, inr, ⊎_elim, true, List, length, nat_lt, refl, ap, ◌∙◌, arith}
use Rattle.std.proofs.lemmas.Bool.Decides.{nat_tests}
use Rattle.base_words.specs.Arithmetic.{subtract}
use Rattle.base_words.specs.declared.memory.Width.TheVariants.{Word}
use Rattle.base_words.specs.Bytes.{read, write}
use Rattle.machine_model.specs.declared.state.ProtectionState.{ProtectionState}
use Rattle.machine_model.specs.declared.state.FaultStatus.{FaultStatus}
use Rattle.machine_model.specs.State.{by_mpu}
use Rattle.monitor_steps.specs.Steps.{PrivilegedSteps, Store}
use Rattle.monitor_steps.specs.Core.{Core, low_register, with_ram}
use Rattle.monitor_steps.specs.Effect.{Outcome}
use Rattle.monitor_steps.proofs.Gives.{word_fits}
use Rattle.monitor_steps.proofs.Within.{GivesWithin, const_within, alu_within, at_within, more_within}
use Rattle.monitor_program.specs.Constants.{Constants, constants_with}
use Rattle.monitor_program.specs.Svc.{frame}
use Rattle.monitor_laws.proofs.Off.{core, IsOff}
use Rattle.monitor_laws.proofs.Placement.{writable}
use Rattle.monitor_laws.proofs.HandlerWords.{Changed, changed_in, changed_none, InStack, apart_from_block, frame_load_within, frame_store_within}
use Rattle.monitor_laws.proofs.LeaveWords.{beside, stored}
use Rattle.monitor_laws.proofs.Opened.{HandlerPremises}

-- the callee's frame at offset fo, of the caller's at offset o
pub record Framed (link o fo entry : ℕ) (old new : List ℕ) : Type 0 where
  pub r0_is : read 4 (fo + 0) new ≡ read 4 (o + 0) old
  pub r1_is : read 4 (fo + 4) new ≡ read 4 (o + 4) old
  pub r2_is : read 4 (fo + 8) new ≡ read 4 (o + 8) old
  pub r3_is : read 4 (fo + 12) new ≡ read 4 (o + 12) old
  pub r12_is : read 4 (fo + 16) new ≡ 0
  pub link_is : read 4 (fo + 20) new ≡ link
  pub return_is : read 4 (fo + 24) new ≡ entry
  pub status_is : read 4 (fo + 28) new ≡ 0x01000000
  pub changed : Changed fo (fo + 32) old new

-- eight stores, one behind the other
record Stores (fo : ℕ) (m m1 m2 m3 m4 m5 m6 m7 m8 : List ℕ) (v0 v1 v2 v3 v4 v5 v6 v7 : ℕ) : Type 0 where
  pub w1 : m1 ≡ write 4 (fo + 0) v0 m
  pub w2 : m2 ≡ write 4 (fo + 4) v1 m1
  pub w3 : m3 ≡ write 4 (fo + 8) v2 m2
  pub w4 : m4 ≡ write 4 (fo + 12) v3 m3
  pub w5 : m5 ≡ write 4 (fo + 16) v4 m4
  pub w6 : m6 ≡ write 4 (fo + 20) v5 m5
  pub w7 : m7 ≡ write 4 (fo + 24) v6 m6
  pub w8 : m8 ≡ write 4 (fo + 28) v7 m7
  pub z1 : length m1 ≡ length m
  pub z2 : length m2 ≡ length m1
  pub z3 : length m3 ≡ length m2
  pub z4 : length m4 ≡ length m3
  pub z5 : length m5 ≡ length m4
  pub z6 : length m6 ≡ length m5
  pub z7 : length m7 ≡ length m6
  pub z8 : length m8 ≡ length m7

framed : (link o fo entry : ℕ) (m m1 m2 m3 m4 m5 m6 m7 m8 : List ℕ) (v0 v1 v2 v3 : ℕ) → fo + 32 ≤ o → o + 32 ≤ length m → link < 2 ^ 32 → entry < 2 ^ 32 → Stores fo m m1 m2 m3 m4 m5 m6 m7 m8 v0 v1 v2 v3 0 link entry 0x01000000 →
    v0 ≡ read 4 (o + 0) m → v1 ≡ read 4 (o + 4) m1 → v2 ≡ read 4 (o + 8) m2 → v3 ≡ read 4 (o + 12) m3 → Framed link o fo entry m m8
framed link o fo entry m m1 m2 m3 m4 m5 m6 m7 m8 v0 v1 v2 v3 apart room small low s e0 e1 e2 e3 = record {
  r0_is = to8 (fo + 0) (omega arith) ∙ at7 (fo + 0) (omega arith) ∙ at6 (fo + 0) (omega arith) ∙ at5 (fo + 0) (omega arith) ∙ at4 (fo + 0) (omega arith) ∙ at3 (fo + 0) (omega arith) ∙ at2 (fo + 0) (omega arith) ∙ stored (fo + 0) v0 m m1 s.w1 (omega (arith, apart, room)) (let f = word_fits (o + 0) m in omega (arith, e0, f)) ∙ e0;
  r1_is = to8 (fo + 4) (omega arith) ∙ at7 (fo + 4) (omega arith) ∙ at6 (fo + 4) (omega arith) ∙ at5 (fo + 4) (omega arith) ∙ at4 (fo + 4) (omega arith) ∙ at3 (fo + 4) (omega arith) ∙ stored (fo + 4) v1 m1 m2 s.w2 (omega (arith, apart, room, y1)) (let f = word_fits (o + 4) m1 in omega (arith, e1, f)) ∙ e1 ∙ far1 (o + 4) (omega arith);
  r2_is = to8 (fo + 8) (omega arith) ∙ at7 (fo + 8) (omega arith) ∙ at6 (fo + 8) (omega arith) ∙ at5 (fo + 8) (omega arith) ∙ at4 (fo + 8) (omega arith) ∙ stored (fo + 8) v2 m2 m3 s.w3 (omega (arith, apart, room, y1, y2)) (let f = word_fits (o + 8) m2 in omega (arith, e2, f)) ∙ e2 ∙ far2 (o + 8) (omega arith);
  r3_is = to8 (fo + 12) (omega arith) ∙ at7 (fo + 12) (omega arith) ∙ at6 (fo + 12) (omega arith) ∙ at5 (fo + 12) (omega arith) ∙ stored (fo + 12) v3 m3 m4 s.w4 (omega (arith, apart, room, y1, y2, y3)) (let f = word_fits (o + 12) m3 in omega (arith, e3, f)) ∙ e3 ∙ beside (o + 12) (fo + 8) v2 m2 m3 s.w3 (inr (omega (arith, apart))) ∙ far2 (o + 12) (omega arith);
  r12_is = to8 (fo + 16) (omega arith) ∙ at7 (fo + 16) (omega arith) ∙ at6 (fo + 16) (omega arith) ∙ stored (fo + 16) 0 m4 m5 s.w5 (omega (arith, apart, room, y1, y2, y3, y4)) (omega arith);
  link_is = to8 (fo + 20) (omega arith) ∙ at7 (fo + 20) (omega arith) ∙ stored (fo + 20) link m5 m6 s.w6 (omega (arith, apart, room, y1, y2, y3, y4, y5)) small;
  return_is = to8 (fo + 24) (omega arith) ∙ stored (fo + 24) entry m6 m7 s.w7 (omega (arith, apart, room, y1, y2, y3, y4, y5, y6)) low;
  status_is = stored (fo + 28) 0x01000000 m7 m8 s.w8 (omega (arith, apart, room, y1, y2, y3, y4, y5, y6, y7)) (omega arith);
  changed =
      let hi : ℕ = fo + 32 in
      let c1 = changed_in fo hi (fo + 0) v0 m m m1 (changed_none fo hi m) (omega arith) (omega arith) s.w1 in
      let c2 = changed_in fo hi (fo + 4) v1 m m1 m2 c1 (omega arith) (omega arith) s.w2 in
      let c3 = changed_in fo hi (fo + 8) v2 m m2 m3 c2 (omega arith) (omega arith) s.w3 in
      let c4 = changed_in fo hi (fo + 12) v3 m m3 m4 c3 (omega arith) (omega arith) s.w4 in
      let c5 = changed_in fo hi (fo + 16) 0 m m4 m5 c4 (omega arith) (omega arith) s.w5 in
      let c6 = changed_in fo hi (fo + 20) link m m5 m6 c5 (omega arith) (omega arith) s.w6 in
      let c7 = changed_in fo hi (fo + 24) entry m m6 m7 c6 (omega arith) (omega arith) s.w7 in
      changed_in fo hi (fo + 28) 0x01000000 m m7 m8 c7 (omega arith) (omega arith) s.w8;
}
  where
    y1 : length m1 ≡ length m
    y1 = s.z1

    y2 : length m2 ≡ length m1
    y2 = s.z2

    y3 : length m3 ≡ length m2
    y3 = s.z3

    y4 : length m4 ≡ length m3
    y4 = s.z4

    y5 : length m5 ≡ length m4
    y5 = s.z5

    y6 : length m6 ≡ length m5
    y6 = s.z6

    y7 : length m7 ≡ length m6
    y7 = s.z7

    -- a word below a store
    to8 : (a : ℕ) → a + 4 ≤ fo + 28 → read 4 a m8 ≡ read 4 a m7
    to8 a h = beside a (fo + 28) 0x01000000 m7 m8 s.w8 (inl h)

    at7 : (a : ℕ) → a + 4 ≤ fo + 24 → read 4 a m7 ≡ read 4 a m6
    at7 a h = beside a (fo + 24) entry m6 m7 s.w7 (inl h)

    at6 : (a : ℕ) → a + 4 ≤ fo + 20 → read 4 a m6 ≡ read 4 a m5
    at6 a h = beside a (fo + 20) link m5 m6 s.w6 (inl h)

    at5 : (a : ℕ) → a + 4 ≤ fo + 16 → read 4 a m5 ≡ read 4 a m4
    at5 a h = beside a (fo + 16) 0 m4 m5 s.w5 (inl h)

    at4 : (a : ℕ) → a + 4 ≤ fo + 12 → read 4 a m4 ≡ read 4 a m3
    at4 a h = beside a (fo + 12) v3 m3 m4 s.w4 (inl h)

    at3 : (a : ℕ) → a + 4 ≤ fo + 8 → read 4 a m3 ≡ read 4 a m2
    at3 a h = beside a (fo + 8) v2 m2 m3 s.w3 (inl h)

    at2 : (a : ℕ) → a + 4 ≤ fo + 4 → read 4 a m2 ≡ read 4 a m1
    at2 a h = beside a (fo + 4) v1 m1 m2 s.w2 (inl h)

    -- the caller's frame is above
    far1 : (a : ℕ) → o ≤ a → read 4 a m1 ≡ read 4 a m
    far1 a h = beside a (fo + 0) v0 m m1 s.w1 (inr (omega (arith, h, apart)))

    far2 : (a : ℕ) → o ≤ a → read 4 a m2 ≡ read 4 a m
    far2 a h = beside a (fo + 4) v1 m1 m2 s.w2 (inr (omega (arith, h, apart))) ∙ far1 a h

module _ (premises : HandlerPremises) where
  open premises use {installed, installed.{image as i, tables as t, placed as p, has_tables as has, stub}, Good, Allowed, entry_top}

  abbrev k : Constants
  k = constants_with stub t

  abbrev W : ℕ → PrivilegedSteps → List PrivilegedSteps → Core → (Outcome → Type 0) → Type 0
  W n s ks c Q = GivesWithin by_mpu i Good Allowed n s ks c Q

  abbrev here : ℕ
  here = t.monitor - i.ram_base

  -- a store into the open stack leaves TOP as it is
  kept_store_within : (o top off : ℕ) {n from b : ℕ} {s : PrivilegedSteps} {ks : List PrivilegedSteps} {c : Core} {Q : Outcome → Type 0} → IsOff true c.protection → InStack i t o top → low_register c b ≡ i.ram_base + o → nat_lt off 8 ≡ true → read 4 (here + 4) c.ram ≡ top →
      ((m : List ℕ) → m ≡ write 4 (o + 4 * off) (low_register c from) c.ram → length m ≡ length c.ram → read 4 (here + 4) m ≡ top → W n s ks (with_ram c m) Q) → W (1 + n) (Store Word from b off s) ks c Q
  kept_store_within o top off {from = from} {b = b} {c = c} q io e h et f =
      frame_store_within premises o top off q io e h et (λ m w z. f m w z (beside (here + 4) (o + 4 * off) (low_register c from) c.ram m w (away off h) ∙ et))
    where
      away : (off : ℕ) → nat_lt off 8 ≡ true → (here + 4 + 4 ≤ o + 4 * off) ⊎ (o + 4 * off + 4 ≤ here + 4)
      away off h =
          let z : off < 8 = grind (arith, nat_tests, h) in
          ⊎_elim (λ x. inl (omega (arith, x))) (λ x. inr (omega (arith, x, z))) (apart_from_block i t o top p io)

  module _ {msp psp : ℕ} {u : FaultStatus} where
    -- the new TOP is behind the frame at offset fo; the entry has bit 0 set in the caller's r12
    pub frame_within : (o fo top entry new_top : ℕ) {b : ℕ} {s : PrivilegedSteps} {ks : List PrivilegedSteps} {Q : Outcome → Type 0} {q : ProtectionState} {m : List ℕ} {a1 a2 a4 a5 a6 a7 : ℕ} → IsOff true q → psp ≡ i.ram_base + o → InStack i t o top → i.ram_base + (o + 32) ≤ entry_top → InStack i t fo top → fo + 32 ≤ o → new_top ≡ i.ram_base + (fo + 32) → read 4 (here + 4) m ≡ top → read 4 (o + 16) m ≡ entry + 1 → k.stub_entry < 2 ^ 32 → length m ≡ i.ram_size →
        ((m8 : List ℕ) → Framed k.stub_entry o fo entry m m8 → W b s ks (core msp psp q u m8 psp a1 1 new_top a4 a5 (i.ram_base + fo) 0x01000000) Q) → W (33 + b) (frame k s) ks (core msp psp q u m psp a1 a2 new_top a4 a5 a6 a7) Q
    frame_within o fo top entry new_top {b} {s} {ks} {Q} {q} {m} {a1} {a4} {a5} off ep io below jo apart et3 et ee small zm f =
        more_within
        (const_within (alu_within (λ x ex.
        let xe : x ≡ i.ram_base + fo = frame_at_is x ex in
        frame_load_within premises o top 0 off io below ep refl et (λ v0 e0.
        kept_store_within fo top 0 off jo xe refl et (λ m1 w1 z1 t1.
        frame_load_within premises o top 1 off io below ep refl t1 (λ v1 e1.
        kept_store_within fo top 1 off jo xe refl t1 (λ m2 w2 z2 t2.
        frame_load_within premises o top 2 off io below ep refl t2 (λ v2 e2.
        kept_store_within fo top 2 off jo xe refl t2 (λ m3 w3 z3 t3.
        frame_load_within premises o top 3 off io below ep refl t3 (λ v3 e3.
        kept_store_within fo top 3 off jo xe refl t3 (λ m4 w4 z4 t4.
        const_within (kept_store_within fo top 4 off jo xe refl t4 (λ m5 w5 z5 t5.
        const_within (kept_store_within fo top 5 off jo xe refl t5 (λ m6 w6 z6 t6.
        frame_load_within premises o top 4 off io below ep refl t6 (λ v7 e7.
        const_within (alu_within (λ y ey.
        let ye : y ≡ entry = entry_is v7 y (e7 ∙ far m m1 m2 m3 m4 m5 m6 v0 v1 v2 v3 w1 w2 w3 w4 w5 w6 ∙ ee) ey in
        kept_store_within fo top 6 off jo xe refl t6 (λ m7 w7 z7 t7.
        const_within (kept_store_within fo top 7 off jo xe refl t7 (λ m8 w8 z8 t8.
        at_within (ap (λ x. core msp psp q u m8 psp a1 1 new_top a4 a5 x 0x01000000) xe)
        (f m8 (framed k.stub_entry o fo entry m m1 m2 m3 m4 m5 m6 m7 m8 v0 v1 v2 v3 apart room small low (record { w1 = w1; w2 = w2; w3 = w3; w4 = w4; w5 = w5; w6 = w6; w7 = w7 ∙ ap (λ y. write 4 (fo + 24) y m6) ye; w8 = w8; z1 = z1; z2 = z2; z3 = z3; z4 = z4; z5 = z5; z6 = z6; z7 = z7; z8 = z8 }) e0 e1 e2 e3))))))))))))))))))))))) (omega arith)
      where
        low : entry < 2 ^ 32
        low = let f = word_fits (o + 16) m in omega (arith, ee, f)

        inside : i.ram_base + (o + 32) ≤ i.ram_base + i.ram_size
        inside = let h = io.high in let e = io.ends in let a = (writable installed).stack_inside.1 in omega (arith, h, e, a)

        frame_at_is : (x : ℕ) → x ≡ subtract new_top 32 → x ≡ i.ram_base + fo
        frame_at_is x e = let h = inside in let r = p.rules.ram_highest in let z = p.rules.ram_most in omega (arith, e, et3, h, apart, r, z)

        room : o + 32 ≤ length m
        room = let h = inside in omega (arith, h, zm)

        entry_is : (v y : ℕ) → v ≡ entry + 1 → y ≡ subtract v 1 → y ≡ entry
        entry_is v y a b = let f = word_fits (o + 16) m in omega (arith, a, b, ee, f)

        far : (m m1 m2 m3 m4 m5 m6 : List ℕ) (v0 v1 v2 v3 : ℕ) → m1 ≡ write 4 (fo + 0) v0 m → m2 ≡ write 4 (fo + 4) v1 m1 → m3 ≡ write 4 (fo + 8) v2 m2 → m4 ≡ write 4 (fo + 12) v3 m3 → m5 ≡ write 4 (fo + 16) 0 m4 → m6 ≡ write 4 (fo + 20) k.stub_entry m5 → read 4 (o + 16) m6 ≡ read 4 (o + 16) m
        far m m1 m2 m3 m4 m5 m6 v0 v1 v2 v3 a b c d e h =
            beside (o + 16) (fo + 20) k.stub_entry m5 m6 h (inr (omega (arith, apart))) ∙ beside (o + 16) (fo + 16) 0 m4 m5 e (inr (omega (arith, apart))) ∙ beside (o + 16) (fo + 12) v3 m3 m4 d (inr (omega (arith, apart))) ∙ beside (o + 16) (fo + 8) v2 m2 m3 c (inr (omega (arith, apart))) ∙ beside (o + 16) (fo + 4) v1 m1 m2 b (inr (omega (arith, apart))) ∙ beside (o + 16) (fo + 0) v0 m m1 a (inr (omega (arith, apart)))
