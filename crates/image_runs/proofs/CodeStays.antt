-- Rules and soundness of an image with other code, and all that follows from them.
use Rattle.std.proofs.Common.{◌≡◌, ℕ, ◌+◌, ◌-◌, ◌%◌, ◌≤◌, inl, inr, ⊎_elim, List, length, drop, sym, ap, ◌∙◌, subst, arith}
use Rattle.machine_devices.specs.declared.image.Image.{Image}
use Rattle.machine_devices.specs.Rules.{IsStack}
use Rattle.monitor_model.specs.declared.tables.Tables.{Tables}
use Rattle.monitor_model.specs.Layout.{area_end}
use Rattle.monitor_model.specs.MonitorCode.{MonitorCode}
use Rattle.monitor_program.specs.TheCode.{monitor_code}
use Rattle.monitor_program.specs.CodeSize.{PagesAreFull}
use Rattle.monitor_model.specs.FromFlash.{tables_of}
use Rattle.monitor_model.specs.Sound.{Sound}
use Rattle.monitor_model.specs.Promises.{OfSoundImages}
use Rattle.monitor_model.proofs.ReadFrom.{read_from}
use Rattle.monitor_laws.proofs.Checked.{NoneFails, none_fails, header_is, head_is}
use Rattle.image_runs.specs.OtherCode.{with_flash, KeepsTables, WithOtherCode}
use Rattle.image_runs.specs.Laws.{HasPages, RulesStay, SoundnessStays, SoundImagesStaySound}
use Rattle.image_runs.proofs.Alike.{Alike}
use Rattle.image_runs.proofs.ReadAlike.{area_behind, tables_alike, area_is}
use Rattle.image_runs.proofs.ChecksAlike.{failures_same}
use Rattle.monitor_laws.proofs.SoundImages.{read_tables}

-- ---- the rules

stack_stays : (i : Image) (flash : List ℕ) → IsStack i → IsStack (with_flash i flash)
stack_stays i flash s = record { size = s.size; aligned = s.aligned; place = s.place }

pub rules_stay : RulesStay
rules_stay i flash r long = record {
  flash_aligned = r.flash_aligned;
  flash_highest = r.flash_highest;
  flash_least = let h = r.flash_least in omega (arith, h, long);
  flash_most = let h = r.flash_most in omega (arith, h, long);
  flash_words = ap (λ n. n % 4) long ∙ r.flash_words;
  ram_aligned = r.ram_aligned;
  ram_lowest = r.ram_lowest;
  ram_highest = r.ram_highest;
  ram_least = r.ram_least;
  ram_most = r.ram_most;
  ram_blocks = r.ram_blocks;
  monitor = r.monitor;
  regions = r.regions;
  stack = ⊎_elim (λ z. inl z) (λ s. inr (stack_stays i flash s)) r.stack;
  count = r.count;
  windows = r.windows;
}

-- ---- soundness

same_tables : (code : MonitorCode) (i : Image) (t : Tables) → HasPages code → Sound code i t → (flash : List ℕ) → KeepsTables i t flash → t ≡ read_from code (with_flash i flash)
same_tables code i t pages s flash k = e ∙ tables_alike code i flash n alike (omega (arith, whole)) (omega (arith, whole, pages.entry)) (omega (arith, whole, pages.compartment)) (omega (arith, whole))
  where
    e : t ≡ read_from code i
    e = read_tables code i t s

    n : ℕ
    n = area_end t - i.flash_base

    nf : NoneFails code i t
    nf = none_fails code i t s

    room : 4096 + 32 ≤ length i.flash
    room = (header_is i nf.header).room

    some : 1 ≤ length (read_from code i).comps
    some = subst (λ (t : Tables). 1 ≤ length t.comps) e (head_is i t nf.tables).some

    whole : n ≡ 4096 + area_behind (i.regions - 4) (drop 4096 i.flash)
    whole =
        let a = ap area_end e in
        let b = area_is code i room some in
        omega (arith, a, b)

    base : t.base ≡ i.flash_base
    base = ap (λ (t : Tables). t.base) e

    alike : Alike n i.flash flash
    alike x lt = sym (k.same x (let a = ap area_end e in let b = area_is code i room some in omega (arith, a, b, lt, base)))

tables_stand : (code : MonitorCode) (i : Image) (t : Tables) → t ≡ read_from code i → t ≡ tables_of code i
unfolding tables_of
tables_stand code i t e = e

pub soundness_stays : SoundnessStays
soundness_stays code i t pages s flash k = record { tables = tables_stand code (with_flash i flash) t (same_tables code i t pages s flash k); none_fails = failures_same i t flash k.as_long code room alike ∙ s.none_fails }
  where
    nf : NoneFails code i t
    nf = none_fails code i t s

    room : length (code.page t) ≤ length i.flash
    room = let h = (header_is i nf.header).room in let p = pages.full t in omega (arith, h, p)

    alike : Alike (length (code.page t)) i.flash flash
    alike x lt = sym (k.same x (let p = pages.full t in omega (arith, lt, p)))

-- ---- with the monitor's own code

monitor_has_pages : PagesAreFull → HasPages monitor_code
monitor_has_pages full = record { full = full; entry = omega arith; compartment = omega arith }

pub all_stay_sound : RulesStay → SoundnessStays → PagesAreFull → SoundImagesStaySound
all_stay_sound rules sound full i t r s flash k =
    record { rules = rules i flash r k.as_long; sound = sound monitor_code i t (monitor_has_pages full) s flash k }

-- what every sound image has a sound image has with other code
pub with_other_code : (P : Image → Tables → Type 0) → SoundImagesStaySound → OfSoundImages monitor_code P → OfSoundImages monitor_code (WithOtherCode P)
with_other_code P stay law i t r s flash k =
    let x = stay i t r s flash k in
    law (with_flash i flash) t x.rules x.sound
