-- A file is refused for one reason.
use Rattle.std.proofs.Common.{◌≡◌, ◌∙◌, Result, Ok, Err, sym}
use Rattle.base_outside.specs.declared.reading.ReadRefusal.{ReadRefusal}
use Rattle.base_outside.specs.declared.reading.ReadRefusal.TheVariants.{TooLong, Failed, NoMemory}

err_is_one : {T : Type 0} (r : Result T ReadRefusal) (x y : ReadRefusal) → r ≡ Err x → r ≡ Err y → x ≡ y
err_is_one r x y h k = let both : Err x ≡ Err y = sym h ∙ k in cc

pub failed_not_length : {T : Type 0} (r : Result T ReadRefusal) (x : ReadRefusal) → r ≡ Err x → x ≡ Failed → r ≡ Err TooLong → ⊥
failed_not_length r x h f k = let wrong : Failed ≡ TooLong = sym f ∙ err_is_one r x TooLong h k in cc

pub failed_not_memory : {T : Type 0} (r : Result T ReadRefusal) (x : ReadRefusal) → r ≡ Err x → x ≡ Failed → r ≡ Err NoMemory → ⊥
failed_not_memory r x h f k = let wrong : Failed ≡ NoMemory = sym f ∙ err_is_one r x NoMemory h k in cc

pub memory_not_failed : {T : Type 0} (r : Result T ReadRefusal) (x : ReadRefusal) → r ≡ Err x → x ≡ NoMemory → r ≡ Err Failed → ⊥
memory_not_failed r x h f k = let wrong : NoMemory ≡ Failed = sym f ∙ err_is_one r x Failed h k in cc

pub memory_not_length : {T : Type 0} (r : Result T ReadRefusal) (x : ReadRefusal) → r ≡ Err x → x ≡ NoMemory → r ≡ Err TooLong → ⊥
memory_not_length r x h f k = let wrong : NoMemory ≡ TooLong = sym f ∙ err_is_one r x TooLong h k in cc

pub read_not_refused : {T : Type 0} (v : T) (x : ReadRefusal) → Ok v ≡ Err x → ⊥
read_not_refused v x h = cc

pub length_not_memory : {T : Type 0} (r : Result T ReadRefusal) → r ≡ Err TooLong → r ≡ Err NoMemory → ⊥
length_not_memory r h k = let wrong : TooLong ≡ NoMemory = err_is_one r TooLong NoMemory h k in cc

pub length_not_failed : {T : Type 0} (r : Result T ReadRefusal) → r ≡ Err TooLong → r ≡ Err Failed → ⊥
length_not_failed r h k = let wrong : TooLong ≡ Failed = err_is_one r TooLong Failed h k in cc
