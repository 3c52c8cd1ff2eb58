-- Beyond the program's claim: only laws, proofs and functions inside the tool cite this file.
-- The image of the firmware that lends a local, with the monitor's own code.
use Rattle.std.specs.Prelude.{◌≡◌, ◌++◌, None, replicate}
use Rattle.machine_devices.specs.declared.image.Image.{Image}
use Rattle.monitor_program.specs.Page.{page, bytes_of_words}
use Rattle.monitor_program.specs.TheCode.{monitor_code}
use Rattle.monitor_model.specs.FromFlash.{tables_of}
use Rattle.monitor_model.specs.Sound.{first_failure}
use Rattle.example_monitor.specs.LentImage.{tables, area_words, code_words, image_with}

abbrev pub whole_image : Image
whole_image = image_with (page tables ++ bytes_of_words (area_words ++ (replicate 969 0xFFFFFFFF ++ code_words)))

pub record ComputesJoined : Type 0 where
  pub read_back : tables_of monitor_code whole_image ≡ tables
  pub sound : first_failure monitor_code whole_image tables ≡ None
