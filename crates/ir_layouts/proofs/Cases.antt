-- Both cases of a test.
use Rattle.std.proofs.Common.{◌≡◌, Bool, true, false, refl}

by_test : {P : Type 0} (b c : Bool) → b ≡ c → (b ≡ true → P) → (b ≡ false → P) → P
by_test b true e yes_ no_ = yes_ e
by_test b false e yes_ no_ = no_ e

pub by_case : {P : Type 0} (b : Bool) → (b ≡ true → P) → (b ≡ false → P) → P
by_case b f g = by_test b b refl f g
