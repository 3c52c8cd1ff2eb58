-- A part of enter: the site's record by the halfword at the return address, or halt 2.
use Rattle.std.proofs.Common.{◌≡◌, ℕ, zero, suc, ◌+◌, ◌-◌, ◌*◌, ◌%◌, ◌^◌, ◌<◌, ◌≤◌, true, List, length, refl, sym, ap, ◌∙◌, arith}
use Rattle.std.specs.Prelude.{flat_map}
use Rattle.std.proofs.lemmas.Bool.{ltb-true, eqb-true, ltb-false}
use Rattle.base_words.specs.Arithmetic.{add}
use Rattle.base_words.specs.declared.memory.Width.TheVariants.{Half, Word}
use Rattle.base_words.specs.Bytes.{read}
use Rattle.machine_devices.specs.Rules.{ObeysRules}
use Rattle.machine_model.specs.declared.state.ProtectionState.{ProtectionState}
use Rattle.machine_model.specs.declared.state.FaultStatus.{FaultStatus}
use Rattle.machine_model.specs.State.{by_mpu}
use Rattle.monitor_steps.specs.Steps.{PrivilegedSteps, Load}
use Rattle.monitor_steps.specs.Core.{Core, low_register, with_low}
use Rattle.monitor_steps.specs.Effect.{Outcome, Halted}
use Rattle.monitor_steps.proofs.Within.{GivesWithin, const_within, copy_within, alu_within, at_within, more_within, must_within, load_flash_within}
use Rattle.monitor_model.specs.Records.{site_at, no_site, number_of_slots}
use Rattle.monitor_model.specs.Layout.{head_at}
use Rattle.monitor_model.specs.Area.{compartment_words, site_words, head, area}
use Rattle.monitor_program.specs.Constants.{Constants, constants_with}
use Rattle.monitor_program.specs.Svc.{site}
use Rattle.monitor_laws.proofs.Numbers.{shl2, product}
use Rattle.monitor_laws.proofs.Off.{core, IsOff, open_while_off}
use Rattle.monitor_laws.proofs.FlashWords.{Has, flash_has, has_front, has_back, has_record, records_length}
use Rattle.monitor_laws.proofs.Tables.{counts, three_words}
use Rattle.monitor_laws.proofs.Opened.{eq_false, HandlerPremises}
use Rattle.monitor_laws.proofs.Placement.{writable}

module _ (premises : HandlerPremises) where
  open premises use {installed, installed.{image as i, tables as t, placed as p, has_tables as has, stub}, Good, Allowed, handles}

  abbrev k : Constants
  k = constants_with stub t

  abbrev W : ℕ → PrivilegedSteps → List PrivilegedSteps → Core → (Outcome → Type 0) → Type 0
  W n s ks c Q = GivesWithin by_mpu i Good Allowed n s ks c Q

  rules : ObeysRules i
  rules = p.rules

  abbrev sites_offset : ℕ
  sites_offset = head_at t - i.flash_base + 4 * 8 + 4 * length (flat_map compartment_words t.comps)

  has_sites : Has i sites_offset (flat_map site_words t.sites)
  has_sites =
      let whole = flash_has i (head_at t) (area t) has in
      let a = has_back i (head_at t - i.flash_base) (head t) _ whole in
      let b = has_back i (head_at t - i.flash_base + 4 * 8) (flat_map compartment_words t.comps) _ a in
      has_front i sites_offset (flat_map site_words t.sites) _ b

  has_site : (n : ℕ) → n < length t.sites → Has i (sites_offset + 4 * (3 * n)) (site_words (site_at t n))
  has_site n lt = has_record i site_words 3 t.sites no_site sites_offset (three_words t.sites) has_sites n lt

  -- all records lie in flash, so they are few
  few_sites : (n : ℕ) → length t.sites ≡ n → n < 2 ^ 20
  few_sites zero e = omega arith
  few_sites (suc n) e = let h = (has_site n (omega (arith, e))).2.2.1 in let r = rules.flash_most in omega (arith, h, r)

  sites_is : k.sites ≡ length t.sites
  sites_is = let f = few_sites (length t.sites) refl in omega (arith, f)

  sites_at_is : (n : ℕ) → n < length t.sites → k.sites_at ≡ i.flash_base + sites_offset
  sites_at_is n lt =
      let c = records_length compartment_words (2 * number_of_slots t + 4) t.comps (counts i t (writable installed) stub) in
      let m = product (number_of_slots t) (length t.comps) in
      let e = p.tables_first in
      let h = rules.flash_highest in
      let r = rules.flash_most in
      let x = (has_site n lt).1 in
      omega (arith, c, m, e, h, r, x)

  sites_aligned : (n : ℕ) → (sites_offset + 4 * (3 * n)) % 4 ≡ 0
  sites_aligned n = let e = p.tables_first in omega (arith, e)

  -- a word of flash, whose base's address a register has
  pub flash_word_within : (o off : ℕ) {n to b : ℕ} {s : PrivilegedSteps} {ks : List PrivilegedSteps} {c : Core} {Q : Outcome → Type 0} → IsOff true c.protection → low_register c b ≡ i.flash_base + o → o % 4 ≡ 0 → o + 4 * off + 4 ≤ length i.flash →
      ((v : ℕ) → v ≡ read 4 (o + 4 * off) i.flash → W n s ks (with_low c to v) Q) → W (1 + n) (Load Word to b off s) ks c Q
  flash_word_within o off {b = b} {c = c} q e al hi f =
      load_flash_within rules (o + 4 * off) {z = Word} (open_while_off c.protection q.control) (omega (arith, e)) (let a = rules.flash_aligned in omega (arith, al, a)) (omega (arith, hi)) (handles.plain.flash c 4 (o + 4 * off) hi) f

  half_within : (o : ℕ) {n to b : ℕ} {s : PrivilegedSteps} {ks : List PrivilegedSteps} {c : Core} {Q : Outcome → Type 0} → IsOff true c.protection → low_register c b ≡ i.flash_base + o → o % 2 ≡ 0 → o + 2 ≤ length i.flash →
      ((v : ℕ) → v ≡ read 2 o i.flash → W n s ks (with_low c to v) Q) → W (1 + n) (Load Half to b 0 s) ks c Q
  half_within o {b = b} {c = c} q e al hi f =
      load_flash_within rules o {z = Half} (open_while_off c.protection q.control) (omega (arith, e)) (let a = rules.flash_aligned in omega (arith, al, a)) (omega (arith, hi)) (handles.plain.flash c 2 o hi) f

  module _ {msp psp : ℕ} {u : FaultStatus} where
    -- the return address is that of flash offset ro; halt 2 where the halfword there is no site's number, or the site's return address another
    pub site_within : (ret ro : ℕ) {b : ℕ} {s : PrivilegedSteps} {ks : List PrivilegedSteps} {Q : Outcome → Type 0} {q : ProtectionState} {m : List ℕ} {a0 a1 a2 a3 a5 a6 a7 : ℕ} → IsOff true q → ret ≡ i.flash_base + ro → ro % 2 ≡ 0 → ro + 2 ≤ length i.flash →
        ((d : Core) → d.ram ≡ m → (read 2 ro i.flash < length t.sites → (site_at t (read 2 ro i.flash)).ret ≡ ret → ⊥) → Q (Halted 2 d)) →
        ((v7 : ℕ) → read 2 ro i.flash < length t.sites → (site_at t (read 2 ro i.flash)).ret ≡ ret → W b s ks (core msp psp q u m a0 a1 a2 a3 ret (site_at t (read 2 ro i.flash)).first (site_at t (read 2 ro i.flash)).count v7) Q) →
        W (37 + b) (site k s) ks (core msp psp q u m a0 a1 a2 a3 ret a5 a6 a7) Q
    site_within ret ro {b} {s} {ks} {Q} {q} {m} {a0} {a1} {a2} {a3} off er even room refuse f =
        more_within
        (half_within ro off er even room (λ v5 e5.
        const_within
        (must_within (λ x. refuse _ refl (λ lt e. absurd (too_high v5 e5 (ltb-false _ _ x) lt))) (λ x.
        let lt : number < length t.sites = low v5 e5 (ltb-true _ _ x) in
        const_within (copy_within (alu_within (λ r er4.
        let r4 : r ≡ 4 * number = shl2 v5 r er4 (small28 v5 e5 lt) ∙ ap (λ n. 4 * n) e5 in
        alu_within (λ c ec. alu_within (λ d ed. const_within (alu_within (λ a ea.
        let ra : a ≡ i.flash_base + (sites_offset + 4 * (3 * number)) = place a r c d r4 ec ed ea lt in
        flash_word_within (sites_offset + 4 * (3 * number)) 0 off ra (sites_aligned number) (inside 0 lt (omega arith)) (λ v7 e7.
        must_within (λ y. refuse _ refl (λ z e. absurd (eq_false _ _ y (e7 ∙ first_word lt ∙ e)))) (λ y.
        flash_word_within (sites_offset + 4 * (3 * number)) 1 off ra (sites_aligned number) (inside 1 lt (omega arith)) (λ w5 f5.
        flash_word_within (sites_offset + 4 * (3 * number)) 2 off ra (sites_aligned number) (inside 2 lt (omega arith)) (λ w6 f6.
        at_within (ap (λ x. core msp psp q u m a0 a1 a2 a3 ret x w6 v7) (f5 ∙ (has_site number lt).2.0) ∙ ap (λ x. core msp psp q u m a0 a1 a2 a3 ret (site_at t number).first x v7) (f6 ∙ third_word lt))
        (f v7 lt (sym (first_word lt) ∙ sym e7 ∙ eqb-true _ _ y))))))))))))))))) (omega arith)
      where
        number : ℕ
        number = read 2 ro i.flash

        record_at : ℕ
        record_at = sites_offset + 4 * (3 * number)

        too_high : (v : ℕ) → v ≡ number → k.sites ≤ v → number < length t.sites → ⊥
        too_high v e h lt = let s = sites_is in omega (arith, e, h, lt, s)

        low : (v : ℕ) → v ≡ number → v < k.sites → number < length t.sites
        low v e h = let s = sites_is in omega (arith, e, h, s)

        small28 : (v : ℕ) → v ≡ number → number < length t.sites → v < 2 ^ 28
        small28 v e lt = let f = few_sites (length t.sites) refl in omega (arith, e, lt, f)

        place : (a r c d : ℕ) → r ≡ 4 * number → c ≡ add r r → d ≡ add c r → a ≡ add d k.sites_at → number < length t.sites → a ≡ i.flash_base + (sites_offset + 4 * (3 * number))
        place a r c d er ec ed ea lt =
            let s = sites_at_is number lt in
            let x = (has_site number lt).1 in
            let h = rules.flash_highest in
            let z = rules.flash_most in
            omega (arith, er, ec, ed, ea, s, x, h, z)

        inside : (off : ℕ) → number < length t.sites → off ≤ 2 → sites_offset + 4 * (3 * number) + 4 * off + 4 ≤ length i.flash
        inside off lt h = let x = (has_site number lt).2.2.1 in omega (arith, x, h)

        first_word : (lt : number < length t.sites) → read 4 (sites_offset + 4 * (3 * number) + 4 * 0) i.flash ≡ (site_at t number).ret
        first_word lt = (let z : record_at + 4 * 0 ≡ record_at = omega arith in ap (λ o. read 4 o i.flash) z) ∙ (has_site number lt).0

        third_word : (lt : number < length t.sites) → read 4 (sites_offset + 4 * (3 * number) + 4 * 2) i.flash ≡ (site_at t number).count
        third_word lt = (let z : record_at + 4 * 2 ≡ record_at + 4 + 4 = omega arith in ap (λ o. read 4 o i.flash) z) ∙ (has_site number lt).2.2.0
