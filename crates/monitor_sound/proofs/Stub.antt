-- The leave stub of a sound image stands in flash, in the tables' block.
use Rattle.std.proofs.Common.{◌≡◌, ℕ, ◌+◌, ◌-◌, ◌≤◌, List, ◌++◌, length, get_or, replicate, sym, ap, ap₂, ◌∙◌, subst, arith, length-append, append_assoc}
use Rattle.machine_thumb.specs.Table as table
use Rattle.machine_thumb.specs.Bytes.{code_bytes}
use Rattle.machine_thumb.proofs.Codes.{code_bytes-append}
use Rattle.machine_devices.specs.declared.image.Image.{Image}
use Rattle.machine_devices.specs.Rules.{ObeysRules}
use Rattle.machine_model.specs.Code.{Lies}
use Rattle.machine_model.specs.CodeBytes.{FlashHasBytes, BytesAreCode}
use Rattle.machine_model.proofs.CodeParts.{length-code_bytes}
use Rattle.monitor_steps.specs.Code.{code}
use Rattle.monitor_steps.proofs.CodeParts.{code_has_its_length}
use Rattle.monitor_model.specs.declared.tables.Tables.{Tables}
use Rattle.monitor_program.specs.CodeSize.{CodeFits, StubIsThere}
use Rattle.monitor_program.specs.Constants.{Constants}
use Rattle.monitor_model.specs.Layout.{area_end, tables_size}
use Rattle.monitor_program.specs.MemFault.{memfault}
use Rattle.monitor_program.specs.Page.{vectors, bytes_of_words, used_bytes, leave_stub, stub_offset, stub_address, constants, page}
use Rattle.monitor_model.specs.Placed.{Placed}
use Rattle.monitor_program.specs.Reset.{reset}
use Rattle.monitor_program.specs.Svc.{svc}
use Rattle.monitor_program.specs.TheCode.{monitor_code}
use Rattle.monitor_program.proofs.Fields.{stub_in}
use Rattle.monitor_sound.specs.Accesses.{StubStands}
use Rattle.monitor_sound.proofs.Audited.{Audited}
use Rattle.monitor_laws.proofs.PageCode.{middle}

-- lists joined in another order
four_joined : (f a b c s g r : List ℕ) → ((f ++ (a ++ (b ++ (c ++ s)))) ++ g) ++ r ≡ (f ++ (a ++ (b ++ c))) ++ (s ++ (g ++ r))
four_joined f a b c s g r =
    append_assoc (f ++ (a ++ (b ++ (c ++ s)))) g r
    ∙ ap (λ (l : List ℕ). l ++ (g ++ r)) (ap (λ (l : List ℕ). f ++ l) (ap (λ (l : List ℕ). a ++ l) (sym (append_assoc b c s)) ∙ sym (append_assoc a (b ++ c) s)) ∙ sym (append_assoc f (a ++ (b ++ c)) s))
    ∙ append_assoc (f ++ (a ++ (b ++ c))) s (g ++ r)

module _ (i : Image) (t : Tables) (rules : ObeysRules i) (rest : List ℕ) (has : i.flash ≡ page t ++ rest) where
  abbrev k : Constants
  k = constants t

  abbrev before : List ℕ
  before = bytes_of_words (vectors t k) ++ (code_bytes (code (reset k)) ++ (code_bytes (code (svc k)) ++ code_bytes (code (memfault k))))

  abbrev behind : List ℕ
  behind = replicate (4096 - length (used_bytes t k)) 0xFF ++ rest

  parted : i.flash ≡ before ++ (code_bytes leave_stub ++ behind)
  unfolding page
  parted =
      let f : List ℕ = bytes_of_words (vectors t k) in
      let a : List ℕ = code_bytes (code (reset k)) in
      let b : List ℕ = code_bytes (code (svc k)) in
      let c : List ℕ = code_bytes (code (memfault k)) in
      let s : List ℕ = code_bytes leave_stub in
      let g : List ℕ = replicate (4096 - length (used_bytes t k)) 0xFF in
      let codes : code_bytes (code (reset k) ++ (code (svc k) ++ (code (memfault k) ++ leave_stub))) ≡ a ++ (b ++ (c ++ s)) =
      code_bytes-append (code (reset k)) (code (svc k) ++ (code (memfault k) ++ leave_stub))
      ∙ ap (λ (l : List ℕ). a ++ l) (code_bytes-append (code (svc k)) (code (memfault k) ++ leave_stub) ∙ ap (λ (l : List ℕ). b ++ l) (code_bytes-append (code (memfault k)) leave_stub)) in
      has ∙ ap (λ (l : List ℕ). ((f ++ l) ++ g) ++ rest) codes ∙ four_joined f a b c s g rest

  before_length : length before ≡ stub_offset k
  before_length =
      let f : List ℕ = bytes_of_words (vectors t k) in
      let a : List ℕ = code_bytes (code (reset k)) in
      let b : List ℕ = code_bytes (code (svc k)) in
      let c : List ℕ = code_bytes (code (memfault k)) in
      let la = length-code_bytes (code (reset k)) ∙ code_has_its_length (reset k) in
      let lb = length-code_bytes (code (svc k)) ∙ code_has_its_length (svc k) in
      let lc = length-code_bytes (code (memfault k)) ∙ code_has_its_length (memfault k) in
      let x = length-append f (a ++ (b ++ c)) in
      let y = length-append a (b ++ c) in
      let z = length-append b c in
      omega (arith, la, lb, lc, x, y, z)

  holds_stub : FlashHasBytes i (stub_offset k) (code_bytes leave_stub)
  holds_stub = record {
    fits = room;
    holds = λ n h. ap₂ (λ (l : List ℕ) (o : ℕ). get_or l (o + n) 0) parted (sym before_length) ∙ middle before (code_bytes leave_stub) behind n h;
  }
    where
      room : stub_offset k + length (code_bytes leave_stub) ≤ length i.flash
      room =
          let a = length-append before (code_bytes leave_stub ++ behind) in
          let b = length-append (code_bytes leave_stub) behind in
          let l = ap (λ (l : List ℕ). length l) parted in
          let o = before_length in
          omega (arith, a, b, l, o)

  pub stub_lies : BytesAreCode → Lies i (i.flash_base + stub_offset k) (table.svc 1)
  stub_lies law = (law i (stub_offset k) leave_stub rules stub_in holds_stub).0

page_room : (t : Tables) → area_end t ≤ t.base + tables_size t → 4096 ≤ tables_size t
page_room t h = omega (arith, h)

pub stub_stands : BytesAreCode → CodeFits → StubIsThere → (i : Image) (t : Tables) → ObeysRules i → Placed i t → Audited monitor_code i t → StubStands i t (stub_address t)
stub_stands law fits there i t rules p a =
    let z = there t in
    let b = fits t in
    let e = p.tables_first in
    let big = page_room t a.room in
    let at : i.flash_base + stub_offset (constants t) ≡ stub_address t = ap₂ (λ (x y : ℕ). x + y) (sym e) z in
    record {
      from_base = omega arith;
      inside = omega (arith, z, b, big);
      lies = subst (λ (n : ℕ). Lies i n (table.svc 1)) at (stub_lies i t rules a.behind a.has_page law);
    }
