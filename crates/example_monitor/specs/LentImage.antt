-- Beyond the program's claim: only laws, proofs and functions inside the tool cite this file.
-- The tables and the image of a firmware of three compartments: main lends a local word to the function that is called by the
-- function that it calls. The words of the image are those that an independent model of the compiler made for a board of
-- 262,144 bytes of flash and 65,536 of RAM, with a stack of 2,048 bytes; the monitor's code is left out.
use Rattle.std.specs.Prelude.{ℕ, List, [], ◌∷◌, ◌++◌, false, replicate}
use Rattle.machine_devices.specs.declared.image.Image.{Image}
use Rattle.monitor_model.specs.declared.tables.Tables.{Tables}
use Rattle.monitor_model.specs.MonitorCode.{MonitorCode}
use Rattle.monitor_program.specs.Page.{bytes_of_words}

abbrev pub tables : Tables
tables = record {
  base = 0x08000000;
  comps =
      record {
        code = record { rbar = 0x08002012; rasr = 0x0602000D };
        -- main's peripheral; the other slots are free
        slots =
            record { rbar = 0x40010014; rasr = 0x13010013 }
            ∷ record { rbar = 0x15; rasr = 0 }
            ∷ record { rbar = 0x16; rasr = 0 }
            ∷ record { rbar = 0x17; rasr = 0 }
            ∷ [];
        mask = 0;
        reads = 0;
      }
      ∷ record {
        code = record { rbar = 0x08002092; rasr = 0x06020009 };
        slots =
            record { rbar = 0x14; rasr = 0 } ∷ record { rbar = 0x15; rasr = 0 } ∷ record { rbar = 0x16; rasr = 0 } ∷ record { rbar = 0x17; rasr = 0 } ∷ [];
        mask = 0;
        reads = 0;
      }
      ∷ record {
        code = record { rbar = 0x080020B2; rasr = 0x06020009 };
        slots =
            record { rbar = 0x14; rasr = 0 } ∷ record { rbar = 0x15; rasr = 0 } ∷ record { rbar = 0x16; rasr = 0 } ∷ record { rbar = 0x17; rasr = 0 } ∷ [];
        -- it stores into the lent word
        mask = 1;
        reads = 0;
      }
      ∷ [];
  sites = record { ret = 0x08002026; first = 0; count = 1 } ∷ record { ret = 0x08002094; first = 1; count = 1 } ∷ [];
  targets = record { entry = 0x08002081; compartment = 1 } ∷ record { entry = 0x080020A1; compartment = 2 } ∷ [];
  lends = 4 ∷ [];
  inits = [];
  words = [];
  stack = record { base = 0x20000000; size = 2048 };
  monitor = 0x20000800;
  main = 0x08002001;
  main_comp = 0;
  closed = false;
}

-- the words of the image from offset 4,096 on
abbrev pub area_words : List ℕ
area_words =
    3 ∷ 2 ∷ 2 ∷ 1 ∷ 0 ∷ 0x20000000 ∷ 0x800 ∷ 0x20000800
    ∷ 0x08002012 ∷ 0x0602000D ∷ 0x40010014 ∷ 0x13010013 ∷ 0x15 ∷ 0 ∷ 0x16 ∷ 0 ∷ 0x17 ∷ 0 ∷ 0 ∷ 0
    ∷ 0x08002092 ∷ 0x06020009 ∷ 0x14 ∷ 0 ∷ 0x15 ∷ 0 ∷ 0x16 ∷ 0 ∷ 0x17 ∷ 0 ∷ 0 ∷ 0
    ∷ 0x080020B2 ∷ 0x06020009 ∷ 0x14 ∷ 0 ∷ 0x15 ∷ 0 ∷ 0x16 ∷ 0 ∷ 0x17 ∷ 0 ∷ 1 ∷ 0
    ∷ 0x08002026 ∷ 0 ∷ 1
    ∷ 0x08002094 ∷ 1 ∷ 1
    ∷ 0x08002081 ∷ 1
    ∷ 0x080020A1 ∷ 2
    ∷ 4
    ∷ []

-- the code of the three compartments, from offset 8,192 on
abbrev pub code_words : List ℕ
code_words =
    0xB085B500 ∷ 0x90002000 ∷ 0x90029001 ∷ 0x90049003 ∷ 0x2100A803 ∷ 0xA803DF02 ∷ 0xF2429000 ∷ 0xF6C00C81
    ∷ 0x98000C00 ∷ 0xDF00 ∷ 0x68089900 ∷ 0xF2409002 ∷ 0xF2C40000 ∷ 0x90010001 ∷ 0x98029901 ∷ 0xDF036008
    ∷ 0xBD00B005 ∷ replicate 15 0xFFFFFFFF
    ++ 0xB081B500 ∷ 0x20009000 ∷ 0x0CA1F242 ∷ 0x0C00F6C0 ∷ 0xDF009800 ∷ 0xB0010001 ∷ 0xBF00BD00 ∷ 0xFFFFFFFF
    ∷ 0xB083B500 ∷ 0x20009000 ∷ 0x90029001 ∷ 0x002AF240 ∷ 0x0000F2C0 ∷ 0x99009001 ∷ 0x60089801 ∷ 0xBD00B003
    ∷ []

-- in place of the monitor's code: at 64 MOVW and MOVT of r5, with main's compartment, at 72 those of r7, with its entry
abbrev pub page_words : List ℕ
page_words = replicate 16 0 ++ 0x0500F240 ∷ 0x0500F2C0 ∷ 0x0701F242 ∷ 0x0700F6C0 ∷ replicate 1004 0

abbrev pub code : MonitorCode
code = record { page = λ t. bytes_of_words page_words; stub = λ t. 0x08000FF0; main_entry_at = 72; main_compartment_at = 64 }

-- flash with these words behind the page
abbrev pub flash_with : (area : List ℕ) → List ℕ
flash_with area = bytes_of_words (page_words ++ (area ++ (replicate 969 0xFFFFFFFF ++ code_words)))

abbrev pub image_with : (flash : List ℕ) → Image
image_with flash = record {
  flash_base = 0x08000000;
  flash = flash;
  ram_base = 0x20000000;
  ram_size = 65536;
  monitor = 0x20000800;
  stack_base = 0x20000000;
  stack_size = 2048;
  regions = 8;
  closed = false;
  windows = record { name = 84 ∷ 73 ∷ 77 ∷ []; base = 0x40010000; size = 1024 } ∷ [];
}

abbrev pub image : Image
image = image_with (flash_with area_words)
