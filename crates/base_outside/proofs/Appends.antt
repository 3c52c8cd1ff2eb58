-- What an `append` on files in memory does is what an `append` on any files may do.
use Rattle.std.proofs.Common.{◌≡◌, ◌≢◌, ◌⊎◌, ◌∙◌, ℕ, List, ◌++◌, take, true, Option, Some, None, IsSomeAnd, IfSome, IsNone, Result, Ok, Err, OnOk, OnErr, IsErr, IsTrue, inl, inr, refl, ap, arith}
use Rattle.std.specs.Option.{option_map}
use Rattle.base_outside.specs.Counts.{Rose}
use Rattle.base_outside.specs.Contents.{HoldsPrefix}
use Rattle.base_outside.specs.Memory.{Entry, held_in, Rewrites, faults_after}

-- what the clauses of `append` say, with the bytes held before as `bytes` and those that a failing call adds
-- as the first n of the piece
pub record IsAppend {T E : Type 0} (old new : List Entry) (name piece : List ℕ) (n before after : ℕ)
    (bytes : Option (List ℕ)) (result : Result T E) : Type 0 where
  pub is_held : held_in old name ≡ bytes
  pub ok : OnOk result (IsSomeAnd bytes (λ b. Rewrites old new name (b ++ piece)))
  pub err : OnErr result (IfSome bytes (λ b. Rewrites old new name (b ++ take n piece)))
  pub missing : IsNone bytes → new ≡ old
  pub faults : after ≡ faults_after before result bytes

pub adds_all : {T E : Type 0} (old new : List Entry) (name piece : List ℕ) (n before after : ℕ)
    (bytes : Option (List ℕ)) (result : Result T E) → IsAppend old new name piece n before after bytes result →
    OnOk result (held_in new name ≡ option_map (λ b. b ++ piece) bytes)
adds_all old new name piece n before after None (Ok value) t = absurd t.ok
adds_all old new name piece n before after (Some b) (Ok value) t = t.ok.there
adds_all old new name piece n before after bytes (Err error) t = tt

pub elsewhere : {T E : Type 0} (old new : List Entry) (name piece : List ℕ) (n before after : ℕ)
    (bytes : Option (List ℕ)) (result : Result T E) → IsAppend old new name piece n before after bytes result →
    (other : List ℕ) → other ≢ name → held_in new other ≡ held_in old other
elsewhere old new name piece n before after None result t other h = ap (λ entries. held_in entries other) (t.missing refl)
elsewhere old new name piece n before after (Some b) (Ok value) t other h = t.ok.elsewhere other h
elsewhere old new name piece n before after (Some b) (Err error) t other h = t.err.elsewhere other h

pub cause : {T E : Type 0} (old new : List Entry) (name piece : List ℕ) (n before after : ℕ)
    (bytes : Option (List ℕ)) (result : Result T E) → IsAppend old new name piece n before after bytes result →
    OnErr result (Rose before after ⊎ (IsTrue true × IsNone bytes))
cause old new name piece n before after bytes (Ok value) t = tt
cause old new name piece n before after None (Err error) t = inr (refl, refl)
cause old new name piece n before after (Some b) (Err error) t = inl (λ h. omega (arith, t.faults))

pub missing : {T E : Type 0} (old new : List Entry) (name piece : List ℕ) (n before after : ℕ)
    (bytes : Option (List ℕ)) (result : Result T E) → IsAppend old new name piece n before after bytes result →
    IsNone bytes → IsErr result × (after ≡ before)
missing old new name piece n before after None (Ok value) t h = absurd t.ok
missing old new name piece n before after None (Err error) t h = (refl, t.faults)
missing old new name piece n before after (Some b) result t h = cc

pub adds_prefix : {T E : Type 0} (old new : List Entry) (name piece : List ℕ) (n before after : ℕ)
    (bytes : Option (List ℕ)) (result : Result T E) → IsAppend old new name piece n before after bytes result →
    OnErr result (HoldsPrefix bytes (held_in new name) piece)
adds_prefix old new name piece n before after bytes (Ok value) t = tt
adds_prefix old new name piece n before after None (Err error) t =
    (0, ap (λ entries. held_in entries name) (t.missing refl) ∙ t.is_held)
adds_prefix old new name piece n before after (Some b) (Err error) t = (n, t.err.there)
