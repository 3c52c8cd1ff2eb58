-- Beyond the program's claim: only laws, proofs and functions inside the tool cite this file.
-- The checks of that image, which is sound, and of images that differ from it in one place.
use Rattle.std.specs.Prelude.{◌≡◌, ℕ, ◌+◌, [], ◌∷◌, ◌++◌, true, Option, Some, None, take}
use Rattle.std.proofs.Math.ListN.{set}
use Rattle.machine_devices.specs.declared.image.Image.{Image}
use Rattle.monitor_model.specs.declared.sound.AuditCheck.{AuditCheck}
use Rattle.monitor_model.specs.declared.sound.AuditCheck.TheVariants as check
use Rattle.monitor_model.specs.MonitorCode.{MonitorCode}
use Rattle.monitor_model.specs.FromFlash.{tables_of}
use Rattle.monitor_model.specs.Sound.{Failure, first_failure}
use Rattle.example_monitor.specs.LentImage.{area_words, image, image_with, flash_with, code}

-- the first check that fails of an image and the tables in its flash
abbrev pub audit_by : MonitorCode → Image → Option Failure
audit_by c i = first_failure c i (tables_of c i)

abbrev pub audit : Image → Option Failure
audit i = audit_by code i

abbrev pub fails : AuditCheck → (at : ℕ) → Option Failure
fails c a = Some (record { check = c; at = a })

-- the image with another word, by its number, behind the page; and with another one behind that
abbrev pub with_word : (number word : ℕ) → Image
with_word k w = image_with (flash_with (set area_words k w))

abbrev pub with_words : (number first second : ℕ) → Image
with_words k w v = image_with (flash_with (set (set area_words k w) (k + 1) v))

-- the image with a range of RAM of two words, 7 and 8, that stand behind the record
abbrev pub with_init : (at end from : ℕ) → Image
with_init a e f = image_with (flash_with (set area_words 4 1 ++ a ∷ e ∷ f ∷ 7 ∷ 8 ∷ []))

pub record ComputesAudits : Type 0 where
  pub sound : audit image ≡ None
  -- no monitor's block, no stack, both at one place, flash that ends before the eight words, and flash that ends behind them
  pub no_monitor : audit (record image { monitor = 0 }) ≡ fails check.Header 0x08000000
  pub no_stack : audit (record image { stack_base = 0; stack_size = 0 }) ≡ fails check.Header 0x08000000
  pub overlapping : audit (record image { monitor = 0x20000400 }) ≡ fails check.Header 0x08000000
  pub short : audit (image_with (take 4124 image.flash)) ≡ fails check.Header 0x08000000
  pub records_outside : audit (image_with (take 4128 image.flash)) ≡ fails check.Tables 0x08001000
  -- counts and places
  pub no_compartment : audit (with_word 0 0) ≡ fails check.Tables 0x08001000
  pub many_compartments : audit (with_word 0 65) ≡ fails check.Tables 0x08001000
  pub many_targets : audit (with_word 2 129) ≡ fails check.Tables 0x08001008
  pub many_lends : audit (with_word 3 33) ≡ fails check.Tables 0x0800100C
  pub other_stack : audit (with_word 5 0x20000800) ≡ fails check.Tables 0x08001014
  pub other_size : audit (with_word 6 1024) ≡ fails check.Tables 0x08001018
  pub other_block : audit (with_word 7 0x20000C00) ≡ fails check.Tables 0x0800101C
  -- a byte of the page
  pub other_code : audit_by (record code { page = λ t. set (take 4096 image.flash) 4 1 }) image ≡ fails check.Code 0x08000004
  -- region 2 with another number; a cover beyond the peripherals; a data slot on the monitor's block, beside it, and one of which
  -- the eighths on that block are taken out, all of them and all but one; a slot that is only read, on an open and on a closed
  -- board; a mask with a number beyond the lendable locals
  pub other_number : audit (with_word 8 0x08002013) ≡ fails check.Regions 0x08001020
  pub far_cover : audit (with_word 10 0x60000014) ≡ fails check.Regions 0x08001020
  pub on_block : audit (with_words 22 0x20000814 0x13060013) ≡ fails check.Regions 0x08001050
  pub beside_block : audit (with_words 22 0x20000C14 0x13060013) ≡ None
  pub taken_out : audit (with_words 22 0x20000814 0x13060F15) ≡ None
  pub one_left : audit (with_words 22 0x20000814 0x13060715) ≡ fails check.Regions 0x08001050
  pub read_only : audit (with_words 22 0x20000C14 0x12060013) ≡ fails check.Regions 0x08001050
  pub closed_read_only : audit (record (with_words 22 0x20000C14 0x12060013) { closed = true }) ≡ None
  pub other_mask : audit (with_word 30 2) ≡ fails check.Regions 0x08001050
  -- a site without targets, one whose target is beyond the list; a target in no compartment, and at an even address; main at
  -- none
  pub no_target : audit (with_word 46 0) ≡ fails check.Sites 0x080010B0
  pub far_target : audit (with_word 48 2) ≡ fails check.Sites 0x080010BC
  pub no_such_compartment : audit (with_word 51 3) ≡ fails check.Sites 0x080010C8
  pub even_entry : audit (with_word 52 0x080020A0) ≡ fails check.Sites 0x080010D0
  pub no_main : audit_by (record code { main_entry_at = 0 }) image ≡ fails check.Sites 0x08000000
  -- sizes of the lendable local
  pub no_size : audit (with_word 54 0) ≡ fails check.Lends 0x080010D8
  pub greatest_size : audit (with_word 54 65536) ≡ None
  pub great_size : audit (with_word 54 65537) ≡ fails check.Lends 0x080010D8
  -- a range of RAM; one at no multiple of 4, an empty one, one in the stack, and one whose words stand elsewhere
  pub init : audit (with_init 0x20000C00 0x20000C08 0x080010E8) ≡ None
  pub unaligned_init : audit (with_init 0x20000C02 0x20000C08 0x080010E8) ≡ fails check.Inits 0x080010DC
  pub empty_init : audit (with_init 0x20000C00 0x20000C00 0x080010E8) ≡ fails check.Inits 0x080010DC
  pub stack_init : audit (with_init 0x20000700 0x20000708 0x080010E8) ≡ fails check.Inits 0x080010DC
  pub other_words : audit (with_init 0x20000C00 0x20000C08 0x080010EC) ≡ fails check.Inits 0x080010DC
