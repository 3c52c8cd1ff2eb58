-- A thread's step over another RAM that looks alike.
use Rattle.std.proofs.Common.{◌≡◌, ℕ, zero, suc, ◌+◌, ◌%◌, ◌<◌, ◌≤◌, inl, inr, Bool, true, false, ◌&&◌, List, Option, Some, None, nat_eq, refl, sym, ap, ◌∙◌, subst, arith}
use Rattle.base_words.specs.Arithmetic.{word}
use Rattle.machine_thumb.specs.declared.table.Instr.{Instr}
use Rattle.machine_thumb.specs.Decoded.{decoded}
use Rattle.machine_protection.specs.declared.region.Access.TheVariants.{Read, Fetch}
use Rattle.machine_protection.specs.Protection.{permits}
use Rattle.machine_protection.proofs.Alike.{bytes_are_alike}
use Rattle.machine_devices.specs.declared.image.Image.{Image}
use Rattle.machine_devices.specs.Rules.{ObeysRules}
use Rattle.machine_bus.specs.declared.answer.Loaded.{Loaded}
use Rattle.machine_bus.specs.declared.answer.Loaded.TheVariants.{Value, Device, NoInput, Unmapped}
use Rattle.machine_bus.specs.Bus.{load_at}
use Rattle.machine_bus.specs.Locations.{InRam, location, is_memory}
use Rattle.machine_bus.proofs.Offsets.{ram_at}
use Rattle.machine_model.specs.declared.state.CoreRegisters.{CoreRegisters}
use Rattle.machine_model.specs.declared.state.End.{End}
use Rattle.machine_model.specs.declared.state.End.TheVariants.{Stop}
use Rattle.machine_model.specs.declared.state.StopReason.{StopReason}
use Rattle.machine_model.specs.declared.state.StopReason.TheVariants.{Usage}
use Rattle.machine_model.specs.declared.answers.Fetched.{Fetched}
use Rattle.machine_model.specs.declared.answers.Fetched.TheVariants.{Took}
use Rattle.machine_model.specs.declared.answers.Verdict.{Verdict}
use Rattle.machine_model.specs.declared.answers.Verdict.TheVariants.{ToBus, ToSystem, Refused, Bad}
use Rattle.machine_model.specs.declared.answers.Verdicts.{Verdicts}
use Rattle.machine_model.specs.declared.answers.Verdicts.TheVariants.{AllGood, RefusedAt, BadOne}
use Rattle.machine_model.specs.State.{State, Touched, Turn, by_mpu, is_unprivileged}
use Rattle.machine_model.specs.Act.{Act, Changes, Loads, Stores, LoadsMany, StoresMany, GetsSpecial, SetsSpecial, Exchanges, Calls, Halts, Stops}
use Rattle.machine_model.specs.Asked.{asked_loads, frame_loads}
use Rattle.machine_model.specs.Exceptions.{words_from, data_status, entered, fault_by, is_fault_enabled, is_frame_open, mem_manage, return_on_psp, return_on_msp}
use Rattle.machine_model.specs.Instructions.{act}
use Rattle.machine_model.specs.Locality.{Agree, AgreeOnReads, IsSameTurn, StepsReadWhatTheyList}
use Rattle.machine_model.specs.Perform.{perform, loaded, after_load, after_loads}
use Rattle.machine_model.specs.Step.{fetch, fetched, performed, running, turn}
use Rattle.machine_model.specs.Tests.{tested, verdict, verdicts, and_then}
use Rattle.machine_model.specs.System.{in_system, is_system_register}
use Rattle.machine_model.proofs.Tested.{verdict_to_bus, verdict_system}
use Rattle.base_laws.specs.Lists.{Each}
use Rattle.base_laws.proofs.Lists.{each_to}
use Rattle.monitor_model.specs.declared.tables.Tables.{Tables}
use Rattle.monitor_model.specs.Placed.{Placed}
use Rattle.monitor_model.specs.Block.{MonitorBlock}
use Rattle.monitor_model.specs.Invariant.{InvariantHolds}
use Rattle.monitor_model.specs.Reach.{AllBytes, LoadKind, OfSlot, OfStack}
use Rattle.monitor_model.proofs.Invariants.{runs_unprivileged}
use Rattle.monitor_confined.specs.Reaches.{IsRead, Reaches, ThreadsReach}
use Rattle.monitor_confined.specs.ThreadSteps.{ThreadStepsAreConfined}
use Rattle.monitor_runs.specs.Unread.{LooksAlike}

-- ---- no test of an access stops a machine for usage

one_no_usage : (a b c d e : Bool) (r : StopReason) → tested a b c d e ≡ Bad r → r ≡ Usage → ⊥
one_no_usage false b c d e r q u = cc
one_no_usage true true true d e r q u = cc
one_no_usage true true false true e r q u = cc
one_no_usage true true false false e r q u = cc
one_no_usage true false c d false r q u = cc
one_no_usage true false c d true r q u = cc

good_first : (v : Verdict) (m : Bool) (a : ℕ) (vs : Verdicts) → (v ≡ ToSystem → ⊥) → and_then v m a vs ≡ AllGood → (v ≡ ToBus) × (vs ≡ AllGood)
good_first ToBus true a vs out e = (refl, e)
good_first ToBus false a vs out e = cc
good_first ToSystem m a vs out e = absurd (out refl)
good_first Refused m a vs out e = cc
good_first (Bad r) m a vs out e = cc

bad_first : (v : Verdict) (m : Bool) (a : ℕ) (vs : Verdicts) (r : StopReason) → ((x : StopReason) → v ≡ Bad x → x ≡ Usage → ⊥) → (vs ≡ BadOne r → r ≡ Usage → ⊥) → and_then v m a vs ≡ BadOne r → r ≡ Usage → ⊥
bad_first ToBus true a vs r one more e u = more e u
bad_first ToBus false a vs r one more e u = cc
bad_first ToSystem m a vs r one more e u = more e u
bad_first Refused m a vs r one more e u = cc
bad_first (Bad x) m a vs r one more e u = let z : x ≡ r = cc in one x refl (z ∙ u)

module _ (i : Image) (t : Tables) (p : Placed i t) (m : MonitorBlock) (s : State) (h : InvariantHolds i t m s) (reach : Reaches i t s) (closed : i.closed ≡ true) (live : s.ending ≡ None) (other : List ℕ) (alike : LooksAlike i t s other) where
  rules : ObeysRules i
  rules = p.rules

  -- flash is not RAM
  no_flash : (a o : ℕ) → i.flash_base ≤ a → a < i.flash_base + 0x100000 → location i a ≡ InRam o → ⊥
  no_flash a o lo hi e =
      let at = (ram_at i a o e).0 in
      let f = rules.flash_highest in
      let r = rules.ram_lowest in
      omega (arith, lo, hi, at, f, r)

  -- an access of which each byte may be loaded
  kinds_agree : (x : Touched) → AllBytes (LoadKind i t s) x → Agree i s.ram other x
  kinds_agree x kinds o e k lt =
      let at = (ram_at i x.address o e).0 in
      let z : x.address + k ≡ i.ram_base + (o + k) = omega (arith, at) in
      alike.bytes (o + k) (inl (subst (LoadKind i t s) z (kinds k lt)))

  -- a word that the unit permits to be read
  word_agrees : (a : ℕ) → verdict by_mpu s.protection Read 4 a ≡ ToBus → Agree i s.ram other (record { width = 4; address = a })
  unfolding by_mpu
  word_agrees a v o e k lt =
      let b = verdict_to_bus by_mpu s.protection Read 4 a v in
      let may : permits s.protection.mpu true Read a ≡ true = subst (λ (u : Bool). permits s.protection.mpu u Read a ≡ true) (runs_unprivileged h.inv) b.2 in
      let byte : permits s.protection.mpu true Read (a + k) ≡ true = bytes_are_alike s.protection.mpu true Read 4 a k (inr (inr refl)) b.0 lt ∙ may in
      let at = (ram_at i a o e).0 in
      let inside = (ram_at i a o e).1 in
      let z : a + k ≡ i.ram_base + (o + k) = omega (arith, at) in
      let f = rules.flash_highest in
      let r = rules.ram_lowest in
      alike.bytes (o + k) (inl (subst (LoadKind i t s) z (by (reach.loads closed (a + k) byte) (λ hi. omega (arith, at, f, r, hi)))))
    where
      by : IsRead i t s (a + k) → (a + k < i.flash_base + 0x100000 → ⊥) → LoadKind i t s (a + k)
      by (inl f) never = OfSlot f
      by (inr (inl f)) never = OfStack f
      by (inr (inr f)) never = absurd (never f.1)

  words_agree : (n a : ℕ) → verdicts by_mpu i s.protection Read a n ≡ AllGood → Each (Agree i s.ram other) (words_from a n)
  unfolding verdicts words_from
  words_agree zero a e = tt
  words_agree (suc n) a e =
      let g = good_first (verdict by_mpu s.protection Read 4 a) (is_memory Read (location i a)) a (verdicts by_mpu i s.protection Read (word (a + 4)) n) (verdict_system by_mpu s.protection Read 4 a (runs_unprivileged h.inv)) e in
      (word_agrees a g.0, words_agree n (word (a + 4)) g.1)

  -- ---- a machine that stops for what an instruction loaded

  abbrev IsUsage : Turn → Type 0
  IsUsage u = u.to.ending ≡ Some (Stop Usage s.core.pc)

  goes_on : s.ending ≡ Some (Stop Usage s.core.pc) → ⊥
  goes_on e = by s.ending live e
    where
      by : (o : Option End) → o ≡ None → o ≡ Some (Stop Usage s.core.pc) → ⊥
      by None a b = cc
      by (Some x) a b = cc

  stop_no_usage : (r : StopReason) → (r ≡ Usage → ⊥) → Some (Stop r s.core.pc) ≡ Some (Stop Usage s.core.pc) → ⊥
  stop_no_usage r never e = never cc

  fault_no_usage : (hd on : Bool) (a : ℕ) → hd ≡ false → IsUsage (fault_by hd on by_mpu i (data_status a s.status) s) → ⊥
  fault_no_usage true on a e u = cc
  fault_no_usage false false a e u = cc
  fault_no_usage false true a e u = by (is_frame_open by_mpu i s) u
    where
      by : (b : Bool) → IsUsage (entered b i mem_manage s.core.pc (data_status a s.status) s) → ⊥
      by true u = goes_on u
      by false u = cc

  verdict_no_usage : (w a : ℕ) (r : StopReason) → verdict by_mpu s.protection Read w a ≡ Bad r → r ≡ Usage → ⊥
  unfolding verdict
  verdict_no_usage w a r e u = one_no_usage (nat_eq (a % w) 0) (in_system a) (is_unprivileged s.protection) (nat_eq w 4 && is_system_register a) (by_mpu s.protection Read a) r e u

  verdicts_no_usage : (n a : ℕ) (r : StopReason) → verdicts by_mpu i s.protection Read a n ≡ BadOne r → r ≡ Usage → ⊥
  unfolding verdicts
  verdicts_no_usage zero a r e u = cc
  verdicts_no_usage (suc n) a r e u =
      bad_first (verdict by_mpu s.protection Read 4 a) (is_memory Read (location i a)) a (verdicts by_mpu i s.protection Read (word (a + 4)) n) r (λ x. verdict_no_usage 4 a x) (λ q. verdicts_no_usage n (word (a + 4)) r q) e u

  bus_no_usage : (l : Loaded) (w a : ℕ) (go : ℕ → CoreRegisters) → IsUsage (loaded l i w a s go) → ⊥
  bus_no_usage (Value v) w a go u = goes_on u
  bus_no_usage (Device k o v) w a go u = goes_on u
  bus_no_usage NoInput w a go u = cc
  bus_no_usage Unmapped w a go u = cc

  load_no_usage : (v : Verdict) (w a : ℕ) (go : ℕ → CoreRegisters) → verdict by_mpu s.protection Read w a ≡ v → IsUsage (after_load v by_mpu i w a s go) → ⊥
  load_no_usage ToBus w a go e u = bus_no_usage (load_at (location i a) i s.ram s.queues w) w a go u
  load_no_usage ToSystem w a go e u = goes_on u
  load_no_usage Refused w a go e u = fault_no_usage s.protection.handler (is_fault_enabled s.status) a h.inv.thread u
  load_no_usage (Bad r) w a go e u = stop_no_usage r (verdict_no_usage w a r e) u

  many_agree : (v : Verdicts) (a n : ℕ) (go : List ℕ → Option CoreRegisters) → verdicts by_mpu i s.protection Read a n ≡ v → IsUsage (after_loads v by_mpu i a n s go) → Each (Agree i s.ram other) (words_from a n)
  many_agree AllGood a n go e u = words_agree n a e
  many_agree (RefusedAt x) a n go e u = absurd (fault_no_usage s.protection.handler (is_fault_enabled s.status) x h.inv.thread u)
  many_agree (BadOne r) a n go e u = absurd (stop_no_usage r (verdicts_no_usage n a r e) u)

  no_frame : (hd x y : Bool) → hd ≡ false → Each (Agree i s.ram other) (frame_loads (hd && x) (hd && y) s.core)
  no_frame true x y e = cc
  no_frame false x y e = tt

  act_agrees : (x : Act) → IsUsage (perform by_mpu i x s) → Each (Agree i s.ram other) (asked_loads s x)
  unfolding perform
  act_agrees (Changes c) u = tt
  act_agrees (Loads w a go) u = absurd (load_no_usage (verdict by_mpu s.protection Read w a) w a go refl u)
  act_agrees (Stores w a v c) u = tt
  act_agrees (LoadsMany a n go) u = many_agree (verdicts by_mpu i s.protection Read a n) a n go refl u
  act_agrees (StoresMany a vs c) u = tt
  act_agrees (GetsSpecial n d c) u = tt
  act_agrees (SetsSpecial n v c) u = tt
  act_agrees (Exchanges v) u = no_frame s.protection.handler (nat_eq v return_on_psp) (nat_eq v return_on_msp) h.inv.thread
  act_agrees (Calls next) u = tt
  act_agrees (Halts n) u = tt
  act_agrees (Stops r) u = tt

  turn_is : (a b count : ℕ) (x : Instr) → fetch by_mpu i s ≡ Took a b count → decoded a b ≡ Some x → turn by_mpu i s ≡ perform by_mpu i (act x (s.core.pc + count) s.core) s
  unfolding turn
  turn_is a b count x f d =
      ap (λ (e : Option End). running e by_mpu i s) live ∙ ap (λ (y : Fetched). fetched y by_mpu i s) f ∙ ap (λ (o : Option Instr). performed o by_mpu i (s.core.pc + count) s) d

  -- ---- the step

  fetch_agrees : (a : ℕ) → by_mpu s.protection Fetch a ≡ true → Agree i s.ram other (record { width = 2; address = a })
  unfolding by_mpu
  fetch_agrees a e o q k lt =
      let f = reach.fetches a (subst (λ (u : Bool). permits s.protection.mpu u Fetch a ≡ true) (runs_unprivileged h.inv) e) in
      let few = rules.flash_most in
      let from = f.0 in
      let to = f.1 in
      absurd (no_flash a o f.0 (omega (arith, from, to, few)) q)

  agrees : Each (AllBytes (LoadKind i t s)) (turn by_mpu i s).loads → AgreeOnReads by_mpu i s other
  agrees loads = record {
    size = alike.size;
    first = λ e. fetch_agrees s.core.pc e;
    second = λ a f long e. fetch_agrees (s.core.pc + 2) e;
    loads = each_to (AllBytes (LoadKind i t s)) (Agree i s.ram other) (turn by_mpu i s).loads kinds_agree loads;
    compartment = λ e q some o at k lt.
        let b = (ram_at i i.monitor o at).0 in
        let is = p.is_monitor in
        alike.bytes (o + k) (inr (omega (arith, b, is), omega (arith, b, is, lt)));
    stopped = λ ended a b count x f d. act_agrees (act x (s.core.pc + count) s.core) (ap (λ (u : Turn). u.to.ending) (sym (turn_is a b count x f d)) ∙ ended);
  }

pub step_ignores : StepsReadWhatTheyList → ThreadsReach → ThreadStepsAreConfined → (i : Image) (t : Tables) (p : Placed i t) (m : MonitorBlock) (s : State) → InvariantHolds i t m s → i.closed ≡ true → s.ending ≡ None →
    (other : List ℕ) → LooksAlike i t s other → IsSameTurn i other (turn by_mpu i s) (turn by_mpu i (record s { ram = other }))
step_ignores law reach confined i t p m s h closed live other alike =
    law by_mpu i s other p.rules (agrees i t p m s h (reach i t m s p h) closed live other alike ((confined i t m s p h).loads closed))
