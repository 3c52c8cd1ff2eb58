-- The lengths of the monitor's lists, which depend on the number of slots and on the kind of board alone.
use Rattle.std.proofs.Common.{◌≡◌, ℕ, zero, suc, ◌+◌, ◌-◌, ◌<◌, ◌≤◌, min, Bool, true, false, List, ◌++◌, length, replicate, refl, sym, ◌∙◌, arith, length-append}
use Rattle.std.proofs.lemmas.List.{length-replicate}
use Rattle.machine_thumb.specs.Bytes.{code_bytes}
use Rattle.machine_model.proofs.CodeParts.{code_size-append, length-code_bytes}
use Rattle.monitor_steps.specs.Code.{code}
use Rattle.monitor_steps.proofs.CodeParts.{code_has_its_length}
use Rattle.machine_protection.specs.Registers.{blank}
use Rattle.monitor_model.specs.declared.tables.Tables.{Tables}
use Rattle.monitor_model.specs.Records.{number_of_slots}
use Rattle.monitor_model.specs.Layout.{page_size}
use Rattle.monitor_program.specs.Constants.{Constants, most_slots, constants_with}
use Rattle.monitor_program.specs.Svc.{svc}
use Rattle.monitor_program.specs.MemFault.{memfault}
use Rattle.monitor_program.specs.Reset.{reset}
use Rattle.monitor_program.specs.Page.{vectors_size, stub_offset, constants, leave_stub, monitor_code, vectors, bytes_of_words, used_bytes, filled_up, page}
use Rattle.monitor_program.specs.CodeSize.{stub_size, CodeFits, StubIsThere, PagesAreFull}

-- constants whose numbers are all 0
abbrev zeros : Constants
zeros = record {
  slots = 0;
  block = 0;
  loans_at = 0;
  block_end = 0;
  stack = 0;
  stack_end = 0;
  eighth = 0;
  compartments_at = 0;
  sites_at = 0;
  sites = 0;
  targets_at = 0;
  lends_at = 0;
  lends = 0;
  inits_at = 0;
  inits = 0;
  words = 0;
  background = blank;
  tables = blank;
  stack_region = blank;
  main = 0;
  main_compartment = 0;
  stub_entry = 0;
  closed = false;
}

abbrev pub of_kind : Constants → (slots : ℕ) → (closed : Bool) → Constants
of_kind c n b = record c { slots = n; closed = b }

-- what holds for each of so many numbers of slots, from 0 on, and for both kinds of board
abbrev pub OfKinds : (count : ℕ) → (ℕ → Bool → Type 0) → Type 0
OfKinds zero P = Unit {0}
OfKinds (suc k) P = P 0 true × P 0 false × OfKinds k (λ n. P (suc n))

pub of_kinds : (count : ℕ) (P : ℕ → Bool → Type 0) → OfKinds count P → (n : ℕ) (b : Bool) → n < count → P n b
of_kinds zero P each n b h = absurd (omega (arith, h))
of_kinds (suc k) P each zero true h = each.0
of_kinds (suc k) P each zero false h = each.1
of_kinds (suc k) P each (suc n) b h = of_kinds k (λ n. P (suc n)) each.2 n b (omega (arith, h))

-- no other number counts
same_length : (n : ℕ) (b : Bool) (c : Constants) → n ≤ most_slots → stub_offset (of_kind c n b) ≡ stub_offset (of_kind zeros n b)
same_length n b c h = of_kinds 13 (λ n b. stub_offset (of_kind c n b) ≡ stub_offset (of_kind zeros n b)) (refl, refl, (refl, refl, (refl, refl, (refl, refl, (refl, refl, (refl, refl, (refl, refl, (refl, refl, (refl, refl, (refl, refl, (refl, refl, (refl, refl, (refl, refl, tt))))))))))))) n b (omega (arith, h))

fits : (n : ℕ) (b : Bool) → n ≤ most_slots → stub_offset (of_kind zeros n b) + stub_size ≤ page_size
fits n b h = of_kinds 13 (λ n b. stub_offset (of_kind zeros n b) + stub_size ≤ page_size) (omega arith, omega arith, (omega arith, omega arith, (omega arith, omega arith, (omega arith, omega arith, (omega arith, omega arith, (omega arith, omega arith, (omega arith, omega arith, (omega arith, omega arith, (omega arith, omega arith, (omega arith, omega arith, (omega arith, omega arith, (omega arith, omega arith, (omega arith, omega arith, tt))))))))))))) n b (omega (arith, h))

few : (t : Tables) → min most_slots (number_of_slots t) ≤ most_slots
few t = omega arith

pub stub_is_there : StubIsThere
stub_is_there t = same_length (constants t).slots t.closed (constants t) (few t) ∙ sym (same_length (constants t).slots t.closed (constants_with 0 t) (few t))

pub code_fits : CodeFits
code_fits t =
    let e = same_length (constants t).slots t.closed (constants t) (few t) in
    let f = fits (constants t).slots t.closed (few t) in
    omega (arith, e, f)

-- the bytes that are not erased
used_length : (t : Tables) (c : Constants) → length (used_bytes t c) ≡ stub_offset c + stub_size
used_length t c =
    let v : length (bytes_of_words (vectors t c)) ≡ vectors_size = refl in
    let b = length-code_bytes (monitor_code c) in
    let r = code_size-append (code (reset c)) (code (svc c) ++ (code (memfault c) ++ leave_stub)) in
    let s = code_size-append (code (svc c)) (code (memfault c) ++ leave_stub) in
    let m = code_size-append (code (memfault c)) leave_stub in
    let x = code_has_its_length (reset c) in
    let y = code_has_its_length (svc c) in
    let z = code_has_its_length (memfault c) in
    let a = length-append (bytes_of_words (vectors t c)) (code_bytes (monitor_code c)) in
    omega (arith, v, b, r, s, m, x, y, z, a)

filled_length : (size : ℕ) (bytes : List ℕ) → length bytes ≤ size → length (filled_up size bytes) ≡ size
filled_length size bytes h =
    let a = length-append bytes (replicate (size - length bytes) 0xFF) in
    let r = length-replicate {A = ℕ} (size - length bytes) 0xFF in
    omega (arith, a, r, h)

pub pages_are_full : PagesAreFull
unfolding page
pages_are_full t =
    let u = used_length t (constants t) in
    let f = code_fits t in
    filled_length page_size (used_bytes t (constants t)) (omega (arith, u, f))
