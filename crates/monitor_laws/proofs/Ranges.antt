-- The ranges that start-up fills, as the copying takes them.
use Rattle.std.proofs.Common.{◌≡◌, ℕ, ◌+◌, ◌-◌, ◌*◌, ◌/◌, ◌%◌, ◌<◌, ◌≤◌, inl, inr, true, false, List, [], ◌∷◌, length, arith}
use Rattle.std.proofs.lemmas.Bool.Decides.{nat_tests}
use Rattle.std.proofs.lemmas.List.Sums.{sum_by-cons}
use Rattle.std.specs.Prelude.{sum_by}
use Rattle.machine_protection.specs.declared.region.Access.TheVariants.{Read, Write, Fetch}
use Rattle.machine_devices.specs.declared.image.Image.{Image}
use Rattle.machine_model.specs.System.{in_system}
use Rattle.machine_model.specs.Confinement.{AnyOf}
use Rattle.base_laws.specs.Lists.{Each}
use Rattle.monitor_steps.specs.Core.{Core}
use Rattle.monitor_steps.specs.Safe.{Rule}
use Rattle.monitor_model.specs.declared.tables.InitRecord.{InitRecord}
use Rattle.monitor_model.specs.declared.tables.Tables.{Tables}
use Rattle.monitor_model.specs.Records.{words_in}
use Rattle.monitor_model.specs.Reach.{StartKind, ToBlock, ToSystem, ToInit}
use Rattle.monitor_laws.specs.StartUp.{IsInit}
use Rattle.monitor_laws.proofs.Off.{Allows}
use Rattle.monitor_laws.proofs.Copies.{IsCopied}

-- every byte of a store is of a kind that start-up may store to
abbrev pub StartRule : Tables → Rule
StartRule t Read c w a = Unit {0}
StartRule t Write c w a = (k : ℕ) → k < w → StartKind t (a + k)
StartRule t Fetch c w a = Unit {0}

-- the bytes of a word are all in the system's space
pub still : (a k : ℕ) → a % 4 ≡ 0 → in_system a ≡ true → k < 4 → in_system (a + k) ≡ true
still a k al s lt = search (arith, nat_tests)

pub starts_allow : (i : Image) (t : Tables) → Allows i (StartRule t) false
starts_allow i t = record { flash = λ c w o h. tt; system = λ c a h al s. λ k lt. ToSystem (still a k al s lt) }

pub starts_write_block : (t : Tables) (c : Core) (o : ℕ) → o + 4 ≤ 1024 → StartRule t Write c 4 (t.monitor + o)
starts_write_block t c o h = λ k lt. ToBlock (omega arith, omega (arith, h, lt))

abbrev Fills : (a : ℕ) → InitRecord → Type 0
Fills a n = (n.at ≤ a) × (a < n.end)

copied_each : (i : Image) (t : Tables) (xs : List InitRecord) → ((a : ℕ) → AnyOf (Fills a) xs → AnyOf (Fills a) t.inits) → Each (IsInit i) xs → Each (IsCopied i (StartRule t)) xs
copied_each i t [] up e = tt
copied_each i t (x ∷ xs) up e = (first e.0, copied_each i t xs (λ a h. up a (inr h)) e.1)
  where
    words : (a b : ℕ) → a % 4 ≡ 0 → b % 4 ≡ 0 → a < b → (b ≡ a + 4 * ((b - a) / 4)) × (1 ≤ (b - a) / 4)
    words a b h g lt = (omega (arith, h, g, lt), omega (arith, h, g, lt))

    first : IsInit i x → IsCopied i (StartRule t) x
    first n =
        let w = words x.at x.end n.at_aligned n.end_aligned n.some in
        record {
          at_aligned = n.at_aligned;
          from_aligned = n.from_aligned;
          whole = w.0;
          some = w.1;
          in_ram = n.in_ram.0;
          ram_room = let r = n.in_ram.1 in let s = n.some in omega (arith, r, s);
          in_flash = n.in_flash.0;
          flash_room = let r = n.in_flash.1 in let s = n.some in let e = w.0 in room (x.end - x.at) (words_in x) r e s;
          may_write = λ c a lo hi. λ k lt. ToInit (up (a + k) (inl (omega (arith, lo), omega (arith, hi, lt))));
        }
      where
        room : (z w : ℕ) → x.from + z ≤ i.flash_base + length i.flash → x.end ≡ x.at + 4 * w → x.at < x.end → x.from + 4 * w ≤ i.flash_base + length i.flash
        room z w a b c = omega (arith, a, b, c)

pub all_copied : (i : Image) (t : Tables) → Each (IsInit i) t.inits → Each (IsCopied i (StartRule t)) t.inits
all_copied i t e = copied_each i t t.inits (λ a h. h) e

-- no range has more words than all of them
small_each : (n : ℕ) (xs : List InitRecord) → sum_by words_in xs ≤ n → Each (λ x. words_in x ≤ n) xs
small_each n [] h = tt
small_each n (x ∷ xs) h = (one (words_in x) (sum_by words_in xs) (sum_by words_in (x ∷ xs)) (sum_by-cons words_in x xs) h, small_each n xs (rest (words_in x) (sum_by words_in xs) (sum_by words_in (x ∷ xs)) (sum_by-cons words_in x xs) h))
  where
    one : (a b s : ℕ) → s ≡ a + b → s ≤ n → a ≤ n
    one a b s e l = omega (arith, e, l)

    rest : (a b s : ℕ) → s ≡ a + b → s ≤ n → b ≤ n
    rest a b s e l = omega (arith, e, l)

pub all_small : (n : ℕ) (xs : List InitRecord) → n ≡ sum_by words_in xs → Each (λ x. words_in x ≤ n) xs
all_small n xs e = small_each n xs (omega (arith, e))
