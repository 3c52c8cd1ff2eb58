-- The image obeys the rules of images.
use Rattle.std.proofs.Common.{◌≡◌, inl, inr, [], ◌∷◌, length, refl, sym, arith}
use Rattle.base_names.specs.Names.{is_name, is_reserved, reserved, declaration_words, instruction_words, type_words, operation_words, comparison_words}
use Rattle.machine_thumb.specs.Table.{encode}
use Rattle.machine_devices.specs.Rules.{ObeysRules, IsWindow}
use Rattle.machine_devices.specs.declared.image.Window.{Window}
use Rattle.monitor_program.specs.Page.{page}
use Rattle.monitor_model.specs.Sound.{Sound}
use Rattle.monitor_program.specs.TheCode.{monitor_code}
use Rattle.example_monitor.specs.LentImage.{tables}
use Rattle.example_monitor.specs.Joined.{whole_image, ComputesJoined}

flash_length : length whole_image.flash ≡ 8384
unfolding page encode
flash_length = refl

abbrev timer : Window
timer = record { name = 84 ∷ 73 ∷ 77 ∷ []; base = 0x40010000; size = 1024 }

is_window : IsWindow timer
unfolding is_name is_reserved reserved declaration_words instruction_words type_words operation_words comparison_words
is_window = record {
  named = refl;
  range = record { power = (10, (omega arith), (omega arith), refl); aligned = refl; place = (omega arith, omega arith) };
}

pub obeys_rules : ObeysRules whole_image
obeys_rules =
    let n = flash_length in
    record {
      flash_aligned = refl;
      flash_highest = omega arith;
      flash_least = omega (arith, n);
      flash_most = omega (arith, n);
      flash_words = omega (arith, n);
      ram_aligned = refl;
      ram_lowest = omega arith;
      ram_highest = omega arith;
      ram_least = omega arith;
      ram_most = omega arith;
      ram_blocks = refl;
      monitor = inr (refl, (omega arith, omega arith));
      regions = inl refl;
      stack = inr (record { size = (11, (omega arith), (omega arith), refl); aligned = refl; place = (omega arith, omega arith) });
      count = omega arith;
      windows = (is_window, tt, tt);
    }

pub is_sound : ComputesJoined → Sound monitor_code whole_image tables
is_sound c = record { tables = sym c.read_back; none_fails = c.sound }
