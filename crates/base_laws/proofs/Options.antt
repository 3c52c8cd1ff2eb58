-- Options and results that hold something, and those that hold nothing.
use Rattle.std.proofs.Common.{◌≡◌, Bool, true, false, Option, Some, None, Result, Ok, Err, OnOk, IsSome, option_map, if◌then◌else◌, refl}

pub one_some : {X : Type 0} (o : Option X) (x y : X) → o ≡ Some x → o ≡ Some y → x ≡ y
one_some o x y a b = cc

pub some_is : {A : Type 0} (o : Option A) → IsSome o → (x : A) × (o ≡ Some x)
some_is (Some x) h = (x, refl)
some_is None h = cc

pub none_mapped : {X Y : Type 0} (f : X → Y) (o : Option X) → option_map f o ≡ None → o ≡ None
none_mapped f None h = refl
none_mapped f (Some x) h = cc

-- what is there under a test
pub guarded : {X : Type 0} (b : Bool) (r : Option X) (x : X) → (if b then r else None) ≡ Some x → (b ≡ true) × (r ≡ Some x)
guarded true r x e = (refl, e)
guarded false r x e = cc

pub on_ok : {T E P Q : Type 0} (r : Result T E) → (P → Q) → OnOk r P → OnOk r Q
on_ok (Ok x) f p = f p
on_ok (Err e) f p = p
