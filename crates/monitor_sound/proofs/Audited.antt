-- What the checks of the page, of the tables' size and of the ranges with initial words tell of a sound image.
use Rattle.std.proofs.Common.{◌≡◌, ℕ, ◌+◌, ◌-◌, ◌*◌, ◌%◌, ◌≤◌, true, ◌&&◌, List, [], ◌∷◌, ◌++◌, length, nat_eq, nat_lt, nat_le, None, arith}
use Rattle.std.proofs.lemmas.Bool.{eqb-true, leb-true, and_parts as both}
use Rattle.machine_devices.specs.declared.image.Image.{Image}
use Rattle.machine_devices.specs.Rules.{block_size}
use Rattle.base_laws.specs.Lists.{Each}
use Rattle.base_ranges.specs.Ranges.{is_inside, are_apart}
use Rattle.base_ranges.proofs.Decisions.{decides_inside, decides_apart}
use Rattle.monitor_model.specs.declared.tables.InitRecord.{InitRecord}
use Rattle.monitor_model.specs.declared.tables.Tables.{Tables}
use Rattle.monitor_model.specs.Layout.{area_end, tables_size, initial_words_at, inits_at, head_at}
use Rattle.monitor_model.specs.RegionChecks.{is_data_range}
use Rattle.monitor_model.specs.Checks.{must, tables_fail, is_init, inits_from}
use Rattle.monitor_model.specs.MonitorCode.{MonitorCode}
use Rattle.monitor_model.specs.Sound.{Sound}
use Rattle.monitor_sound.specs.Simulation.{IsRange}
use Rattle.monitor_laws.proofs.Checked.{must_none, and_none, begins_with, none_fails}

whole : (e a : ℕ) → e % 4 ≡ 0 → a % 4 ≡ 0 → (e - a) % 4 ≡ 0
whole e a h k = omega arith

module _ (i : Image) (t : Tables) where
  range_is : (w : ℕ) (n : InitRecord) → is_init i t w n ≡ true → IsRange i t n
  range_is w n h =
      let a = both (nat_eq (n.at % 4) 0) (nat_eq (n.end % 4) 0 && (nat_lt n.at n.end && (is_data_range i t n.at (n.end - n.at) && nat_eq n.from w))) h in
      let b = both (nat_eq (n.end % 4) 0) (nat_lt n.at n.end && (is_data_range i t n.at (n.end - n.at) && nat_eq n.from w)) a.1 in
      let c = both (nat_lt n.at n.end) (is_data_range i t n.at (n.end - n.at) && nat_eq n.from w) b.1 in
      let d = both (is_data_range i t n.at (n.end - n.at)) (nat_eq n.from w) c.1 in
      let e = both (is_inside n.at (n.end - n.at) i.ram_base i.ram_size) (are_apart n.at (n.end - n.at) t.stack.base t.stack.size && are_apart n.at (n.end - n.at) t.monitor block_size) d.0 in
      let f = both (are_apart n.at (n.end - n.at) t.stack.base t.stack.size) (are_apart n.at (n.end - n.at) t.monitor block_size) e.1 in
      record {
        whole = whole n.end n.at (eqb-true (n.end % 4) 0 b.0) (eqb-true (n.at % 4) 0 a.0);
        in_ram = (decides_inside n.at (n.end - n.at) i.ram_base i.ram_size).0 e.0;
        off_block = (decides_apart n.at (n.end - n.at) t.monitor block_size).0 f.1;
      }

  ranges_are : (w a : ℕ) (ns : List InitRecord) → inits_from i t w a ns ≡ None → Each (IsRange i t) ns
  ranges_are w a [] h = tt
  ranges_are w a (n ∷ ns) h =
      let p = and_none (must (is_init i t w n) a) (inits_from i t (w + (n.end - n.at)) (a + 12) ns) h in
      (range_is w n (must_none (is_init i t w n) a p.0), ranges_are (w + (n.end - n.at)) (a + 12) ns p.1)

  -- the tables' block has room for all words of the tables
  size_is : tables_fail i t ≡ None → area_end t ≤ t.base + tables_size t
  size_is h =
      let a = and_none (must (nat_le 1 (length t.comps) && nat_le (length t.comps) 64) (head_at t)) _ h in
      let b = and_none (must (nat_le (length t.sites) 4096) (head_at t + 4)) _ a.1 in
      let c = and_none (must (nat_le (length t.targets) (64 * length t.sites)) (head_at t + 8)) _ b.1 in
      let d = and_none (must (nat_le (length t.lends) 32) (head_at t + 12)) _ c.1 in
      let e = and_none (must (nat_eq t.stack.base i.stack_base) (head_at t + 20)) _ d.1 in
      let f = and_none (must (nat_eq t.stack.size i.stack_size) (head_at t + 24)) _ e.1 in
      let g = and_none (must (nat_eq t.monitor i.monitor) (head_at t + 28)) _ f.1 in
      let k = must_none (is_inside t.base (tables_size t) i.flash_base (length i.flash) && nat_le (area_end t) (t.base + tables_size t)) (head_at t) g.1 in
      leb-true (area_end t) (t.base + tables_size t) (both (is_inside t.base (tables_size t) i.flash_base (length i.flash)) (nat_le (area_end t) (t.base + tables_size t)) k).1

pub record Audited (code : MonitorCode) (i : Image) (t : Tables) : Type 0 where
  pub behind : List ℕ
  pub has_page : i.flash ≡ code.page t ++ behind
  pub room : area_end t ≤ t.base + tables_size t
  pub ranges : Each (IsRange i t) t.inits

pub audited : (code : MonitorCode) (i : Image) (t : Tables) → Sound code i t → Audited code i t
audited code i t s =
    let n = none_fails code i t s in
    let p = begins_with (code.page t) i.flash t.base n.page in
    record { behind = p.0; has_page = p.1; room = size_is i t n.tables; ranges = ranges_are i t (initial_words_at t) (inits_at t) t.inits n.inits }
