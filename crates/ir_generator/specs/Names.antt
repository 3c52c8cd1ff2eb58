-- The names in a generated firmware.
use Rattle.std.specs.Prelude.{ℕ, List, ◌++◌, codes}
use Rattle.std.specs.Fmt.{decimal}

abbrev pub port_name : ℕ → List ℕ
port_name n = codes "P" ++ decimal n

abbrev pub global_name : ℕ → List ℕ
global_name n = codes "g" ++ decimal n

abbrev pub test_name : ℕ → List ℕ
test_name n = codes "t" ++ decimal n

abbrev pub file_name : ℕ → List ℕ
file_name n = codes "f" ++ decimal n ++ codes ".c"
