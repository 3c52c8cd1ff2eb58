-- The effect of the steps that write a compartment's tables, from any core.
use Rattle.std.proofs.Common.{◌≡◌, ℕ, ◌^◌, ◌<◌, ◌≤◌, false, List, [], ◌∷◌, length, get_or, refl, sym, ap, ◌∙◌, arith}
use Rattle.machine_protection.specs.Configured.{written}
use Rattle.machine_devices.specs.declared.image.Image.{Image}
use Rattle.machine_model.specs.declared.state.ProtectionState.{ProtectionState}
use Rattle.machine_model.specs.State.{by_mpu}
use Rattle.monitor_steps.specs.Steps.{PrivilegedSteps, End}
use Rattle.monitor_steps.specs.Core.{Core, low_register}
use Rattle.monitor_steps.specs.Effect.{Outcome, Went}
use Rattle.monitor_steps.specs.Ticks.{ticks}
use Rattle.monitor_steps.specs.Safe.{Rule}
use Rattle.monitor_steps.proofs.Gives.{gives_effect}
use Rattle.monitor_steps.proofs.Within.{GivesWithin, ticks_all, end_within, at_within}
use Rattle.monitor_model.specs.Records.{compartment_at}
use Rattle.monitor_program.specs.Constants.{constants_with}
use Rattle.monitor_program.specs.Opening.{tables_of}
use Rattle.monitor_laws.specs.RegionsWritten.{HasWritten, TablesAreWritten}
use Rattle.monitor_laws.proofs.Off.{core, IsOff, Allows}
use Rattle.monitor_laws.proofs.Written.{tables_within}
use Rattle.monitor_laws.proofs.Tables.{shaped, has_compartment, record_at, top_is, unit_is}

-- what a bound tells of the list itself
pub ticks_of : (i : Image) (Good : ProtectionState → Type 0) (Allowed : Rule) (n : ℕ) (s : PrivilegedSteps) (c : Core) (Q : Outcome → Type 0) → GivesWithin by_mpu i Good Allowed n s [] c Q → ticks by_mpu i s c ≤ n
unfolding ticks_all
ticks_of i Good Allowed n s c Q w = w.spent

-- eight registers by their numbers
pub eight : (l : List ℕ) → length l ≡ 8 → l ≡ get_or l 0 0 ∷ get_or l 1 0 ∷ get_or l 2 0 ∷ get_or l 3 0 ∷ get_or l 4 0 ∷ get_or l 5 0 ∷ get_or l 6 0 ∷ get_or l 7 0 ∷ []
eight (a ∷ b ∷ c ∷ d ∷ e ∷ f ∷ g ∷ h ∷ []) n = refl
eight [] n = absurd (omega (arith, n))
eight (a ∷ []) n = absurd (omega (arith, n))
eight (a ∷ b ∷ []) n = absurd (omega (arith, n))
eight (a ∷ b ∷ c ∷ []) n = absurd (omega (arith, n))
eight (a ∷ b ∷ c ∷ d ∷ []) n = absurd (omega (arith, n))
eight (a ∷ b ∷ c ∷ d ∷ e ∷ []) n = absurd (omega (arith, n))
eight (a ∷ b ∷ c ∷ d ∷ e ∷ f ∷ []) n = absurd (omega (arith, n))
eight (a ∷ b ∷ c ∷ d ∷ e ∷ f ∷ g ∷ []) n = absurd (omega (arith, n))
eight (a ∷ b ∷ c ∷ d ∷ e ∷ f ∷ g ∷ h ∷ i ∷ l) n = absurd (omega (arith, n))

abbrev any : Rule
any kind c w a = Unit {0}

abbrev every : ProtectionState → Type 0
every p = Unit {0}

-- a core is its parts
by_parts : (c : Core) (a3 a5 : ℕ) → length c.low ≡ 8 → c.on_psp ≡ false → low_register c 3 ≡ a3 → low_register c 5 ≡ a5 →
    c ≡ core c.sp c.other_sp c.protection c.status c.ram (get_or c.low 0 0) (get_or c.low 1 0) (get_or c.low 2 0) a3 (get_or c.low 4 0) a5 (get_or c.low 6 0) (get_or c.low 7 0)
by_parts c a3 a5 n m e3 e5 =
    ap (λ l. record c { low = l }) (eight c.low n)
    ∙ ap (λ b. record { low = get_or c.low 0 0 ∷ get_or c.low 1 0 ∷ get_or c.low 2 0 ∷ get_or c.low 3 0 ∷ get_or c.low 4 0 ∷ get_or c.low 5 0 ∷ get_or c.low 6 0 ∷ get_or c.low 7 0 ∷ []; sp = c.sp; other_sp = c.other_sp; on_psp = b; protection = c.protection; status = c.status; ram = c.ram }) m
    ∙ ap (λ x. core c.sp c.other_sp c.protection c.status c.ram (get_or c.low 0 0) (get_or c.low 1 0) (get_or c.low 2 0) x (get_or c.low 4 0) (get_or c.low 5 0) (get_or c.low 6 0) (get_or c.low 7 0)) e3
    ∙ ap (λ x. core c.sp c.other_sp c.protection c.status c.ram (get_or c.low 0 0) (get_or c.low 1 0) (get_or c.low 2 0) a3 (get_or c.low 4 0) x (get_or c.low 6 0) (get_or c.low 7 0)) e5

pub tables_are_written : TablesAreWritten
tables_are_written i t stub current top c w m =
    let g = gives_effect given.gives in
    let d = g.0.0 in
    record { after = d; goes = g.0.1; written = g.0.2; within = ticks_of i every any 140 (tables_of (constants_with stub t) End) c Done given }
  where
    Done : Outcome → Type 0
    Done o = (d : Core) × (o ≡ Went d) × HasWritten i t current top c d

    off : IsOff c.protection.handler c.protection
    off = record { mode = refl; privileged = m.privileged; control = m.off }

    allows : Allows i any c.protection.handler
    allows = record { flash = λ c w o h. tt; system = λ c a h al s. tt }

    few : current < 2 ^ 16
    few = let a = m.current_in in let b = w.few in omega (arith, a, b)

    n : ℕ
    n = m.is_top.0

    most : n ≤ 8
    most = let a = m.is_top.3 in omega (arith, a)

    given : GivesWithin by_mpu i every any 140 (tables_of (constants_with stub t) End) [] c Done
    given =
        at_within (by_parts c top current m.low_count m.on_msp m.top_is m.current_is)
        (tables_within i w.rules (constants_with stub t) every any c.protection.handler allows (λ q o. tt) current (record_at i t w stub current) n top (compartment_at t current).code (compartment_at t current).slots off (shaped i t w stub) (has_compartment i t w stub current m.current_in) few m.is_top.2 most (top_is i t w stub n top m.is_top.1)
        (λ p v2 v6 v7 e o. end_within (
          _,
          refl,
          record {
            regions = ap (λ q. q.mpu.regions) e ∙ unit_is i t w stub n top current m.others c.protection.mpu most m.current_in m.is_top.1 m.count m.regions;
            control = o.control;
            handler = ap (λ q. q.handler) e;
            privileged = ap (λ q. q.unprivileged) e;
            r1 = refl;
            r3 = sym m.top_is;
            r4 = refl;
            r5 = sym m.current_is;
            stacks = (refl, refl, sym m.on_msp);
            status = refl;
            ram = refl;
          },
        )))
