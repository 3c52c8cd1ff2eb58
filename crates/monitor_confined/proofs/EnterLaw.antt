-- Enter makes a change of the block: the call of a site, to one of its targets.
use Rattle.std.specs.Prelude.{if◌then◌else◌, Contains}
use Rattle.std.proofs.Common.{◌≡◌, ℕ, suc, ◌+◌, ◌-◌, ◌*◌, ◌/◌, ◌%◌, ◌^◌, ◌<◌, ◌≤◌, Bool, true, false, ◌&&◌, List, [], ◌∷◌, length, drop, get_or, Option, Some, None, nat_eq, nat_lt, refl, sym, ap, ap₂, ◌∙◌, subst, arith, div-mul-le_self}
use Rattle.std.proofs.lemmas.Option.{slice_get-get_or}
use Rattle.std.proofs.lemmas.Bool.Decides.{nat_tests}
use Rattle.base_words.specs.Bytes.{read, write_all}
use Rattle.base_words.proofs.Bytes.{cut_small, length-write}
use Rattle.machine_devices.specs.declared.image.Image.{Image}
use Rattle.machine_bus.specs.Locations.{Location, InRam, InFlash, InWindow, Nowhere, location}
use Rattle.machine_model.specs.declared.state.CoreRegisters.{CoreRegisters}
use Rattle.machine_model.specs.State.{State, by_mpu}
use Rattle.base_laws.specs.Lists.{Each}
use Rattle.machine_model.specs.Exceptions.{supervisor_call, frame_at, is_frame_open}
use Rattle.machine_model.specs.Stack.{cut_words}
use Rattle.machine_model.specs.Code.{HoldsHalf}
use Rattle.monitor_model.specs.declared.tables.TargetRecord.{TargetRecord}
use Rattle.monitor_model.specs.declared.tables.SiteRecord.{SiteRecord}
use Rattle.monitor_model.specs.declared.tables.Tables.{Tables}
use Rattle.monitor_model.specs.Records.{nobody, no_site, site_at, targets_of, or_this, last_with_entry, rounded, eighth}
use Rattle.monitor_model.specs.Placed.{Placed, IsCompartment, IsEntry}
use Rattle.monitor_model.specs.Block.{MonitorBlock, entered}
use Rattle.monitor_model.specs.BlockWords.{current}
use Rattle.monitor_model.specs.Invariant.{InvariantHolds}
use Rattle.monitor_model.specs.Confined.{IsSvc}
use Rattle.monitor_model.specs.Handlers.{FrameIsOpen, Change, Enters, at_svc}
use Rattle.monitor_model.specs.Outcomes.{Outcome, Halts, Resumes, r12_place, return_place, frame_in, moved_on}
use Rattle.monitor_model.specs.SvcOutcome.{word, callee_frame, new_top, enter_to, enter_by, enter_at}
use Rattle.monitor_model.specs.MonitorLaw.{GoesOn}
use Rattle.monitor_confined.proofs.EntryWords.{FrameLaws, flash_low, entered_length, frame_word}
use Rattle.base_laws.proofs.Lists.{each_at, each_drop, each_take}

pub if_resumes : (b : Bool) (x : Outcome) (k : ℕ) (n : MonitorBlock) (q : ℕ) (fr : List ℕ) → (if b then x else Halts k) ≡ Resumes n q fr → (b ≡ true) × (x ≡ Resumes n q fr)
if_resumes true x k n q fr e = (refl, e)
if_resumes false x k n q fr e = cc

pub both : (x y : Bool) → x && y ≡ true → (x ≡ true) × (y ≡ true)
both true y e = (refl, e)
both false y e = cc

-- its parts are told
pub same_parts : (a b : MonitorBlock) (p q : ℕ) (x y : List ℕ) → Resumes a p x ≡ Resumes b q y → (a ≡ b) × (p ≡ q) × (x ≡ y)
same_parts a b p q x y e =
    let f : a ≡ b = cc in
    let g : p ≡ q = cc in
    let h : x ≡ y = cc in
    (f, g, h)

-- ---- targets

-- the target that was found is one of them, with this entry, and is what all of them are
pub record IsFound (P : TargetRecord → Type 0) (xs : List TargetRecord) (e : ℕ) (g : TargetRecord) : Type 0 where
  pub among : Contains xs g
  pub has_entry : g.entry ≡ e
  pub fact : P g

pub found_in : (P : TargetRecord → Type 0) (xs : List TargetRecord) (e : ℕ) (g : TargetRecord) → Each P xs → last_with_entry e xs ≡ Some g → IsFound P xs e g
found_in P [] e g h q = cc
found_in P (x ∷ xs) e g h q = by (last_with_entry e xs) (nat_eq x.entry e) refl (λ r. found_in P xs e g h.1 r) q
  where
    by : (o : Option TargetRecord) (b : Bool) → nat_eq x.entry e ≡ b → (o ≡ Some g → IsFound P xs e g) → or_this o b x ≡ Some g → IsFound P (x ∷ xs) e g
    by (Some y) b r rest q =
        let f = rest q in
        let a = f.among in
        let lt = a.1 in
        record { among = (suc a.0, omega (arith, lt), a.2); has_entry = f.has_entry; fact = f.fact }
    by None true r rest q =
        let z : x ≡ g = cc in
        let en : x.entry ≡ e = search (nat_tests, arith) in
        record { among = (0, omega arith, z); has_entry = ap (λ (y : TargetRecord). y.entry) (sym z) ∙ en; fact = subst P z h.0 }
    by None false r rest q = cc

odd_back : (e : ℕ) → e % 2 ≡ 1 → e / 2 * 2 / 2 * 2 + 1 ≡ e
odd_back e o = omega arith

pub rounded_below : (b e p : ℕ) → b ≤ p → b + (p - b) / e * e ≤ p
rounded_below b e p le = let z : (p - b) / e * e ≤ p - b = div-mul-le_self (p - b) e in omega (arith, z, le)

frame_inside : (top base size : ℕ) → top ≤ base + size → 32 ≤ size → top - 32 - base + 32 ≤ size
frame_inside top base size h some = omega arith

module _ (laws : FrameLaws) (i : Image) (t : Tables) (p : Placed i t) (stub : ℕ) (s u : State) (m : MonitorBlock) (h : InvariantHolds i t m s) (opened : is_frame_open by_mpu i s ≡ true) (svc : IsSvc i t 0 s) (inside : FrameIsOpen i t m (frame_at s.core.sp)) (below : m.top ≤ t.stack.base + t.stack.size) where
  abbrev psp : ℕ
  psp = frame_at s.core.sp

  abbrev memory : List ℕ
  memory = (at_svc i s).ram

  pub return_word : word i t stub m psp memory return_place ≡ s.core.pc + 2
  return_word =
      let low = flash_low i p.rules s.core.pc svc.offset svc.is_in_flash in
      let small : s.core.pc + 2 < 256 ^ 4 = omega (arith, low) in
      frame_word laws i p.rules s h.fits opened supervisor_call (s.core.pc + 2) s.status return_place ∙ cut_small 4 (s.core.pc + 2) small

  -- an entry lies in flash
  pub entry_low : (entry c : ℕ) → IsEntry t entry c → entry < 2 ^ 30
  entry_low entry c e =
      let f = (each_at (IsCompartment i t) t.comps nobody c p.comps e.compartment_in).code.in_flash entry e.in_code in
      let x = f.1 in
      let high = p.rules.flash_highest in
      let most = p.rules.flash_most in
      omega (arith, x, high, most)

  -- the callee's frame is read as it was written
  pub callee_words : (g : TargetRecord) → frame_in i (new_top i t stub m psp memory - 32) (write_all 4 (new_top i t stub m psp memory - 32 - i.ram_base) (callee_frame i t stub m psp memory g) (moved_on i psp memory)) ≡ cut_words (callee_frame i t stub m psp memory g)
  callee_words g =
      let lo = inside.from_base in
      let hi = inside.below_top in
      let under = rounded_below t.stack.base (eighth t) psp lo in
      let location = p.stack.place.1 in
      let base = p.stack_base in
      let size = p.stack_size in
      let least = p.rules.ram_least in
      let top : new_top i t stub m psp memory ≤ i.ram_base + i.ram_size = omega (arith, under, hi, below, location, base, size) in
      let long : length (moved_on i psp memory) ≡ i.ram_size = length-write 4 (psp - i.ram_base + 4 * return_place) (word i t stub m psp memory return_place + 2) memory ∙ entered_length laws i p.rules s h.fits opened supervisor_call (s.core.pc + 2) s.status in
      let fit = frame_inside (new_top i t stub m psp memory) i.ram_base i.ram_size top (omega (arith, least)) in
      laws.pushed (callee_frame i t stub m psp memory g) (new_top i t stub m psp memory - 32 - i.ram_base) (moved_on i psp memory)
      (subst (λ (l : ℕ). new_top i t stub m psp memory - 32 - i.ram_base + 32 ≤ l) (sym long) fit)

  module _ (n : MonitorBlock) (q : ℕ) (after : List ℕ) (on : GoesOn i t s u m n q after) where
    -- where the callee begins
    begins : (g : TargetRecord) → IsEntry t g.entry g.compartment →
        new_top i t stub m psp memory - 32 ≡ q → write_all 4 (new_top i t stub m psp memory - 32 - i.ram_base) (callee_frame i t stub m psp memory g) (moved_on i psp memory) ≡ after →
        u.core.pc + 1 ≡ g.entry
    begins g e at is =
        let low = entry_low g.entry g.compartment e in
        let ws : cut_words (callee_frame i t stub m psp memory g) ≡ frame_in i q after = sym (callee_words g) ∙ ap₂ (λ a r. frame_in i a r) at is in
        let small : g.entry / 2 * 2 < 256 ^ 4 = omega (arith, low) in
        let six : get_or (frame_in i q after) 6 0 ≡ g.entry / 2 * 2 = sym (ap (λ (l : List ℕ). get_or l 6 0) ws) ∙ cut_small 4 (g.entry / 2 * 2) small in
        let pc : u.core.pc ≡ get_or (frame_in i q after) 6 0 / 2 * 2 = ap (λ (c : CoreRegisters). c.pc) on.core in
        ap (λ (a : ℕ). a + 1) (pc ∙ ap (λ (a : ℕ). a / 2 * 2) six) ∙ odd_back g.entry e.odd

    enter_to_change : (number : ℕ) → HoldsHalf i (s.core.pc + 2) number → number < length t.sites → (site_at t number).ret ≡ s.core.pc + 2 →
        (o : Option TargetRecord) → last_with_entry (word i t stub m psp memory r12_place) (targets_of t (site_at t number)) ≡ o →
        enter_to i t stub m psp memory o ≡ Resumes n q after → Change i t s u m n
    enter_to_change number half in_sites returns None found e = cc
    enter_to_change number half in_sites returns (Some g) found e =
        let site : SiteRecord = site_at t number in
        let a = if_resumes (nat_lt t.stack.base (new_top i t stub m psp memory)) (Resumes (entered m g.compartment (new_top i t stub m psp memory) psp) (new_top i t stub m psp memory - 32) (write_all 4 (new_top i t stub m psp memory - 32 - i.ram_base) (callee_frame i t stub m psp memory g) (moved_on i psp memory))) 5 n q after e in
        let z = a.0 in
        let some : t.stack.base < rounded t psp = search (nat_tests, arith) in
        let w = same_parts (entered m g.compartment (new_top i t stub m psp memory) psp) n (new_top i t stub m psp memory - 32) q (write_all 4 (new_top i t stub m psp memory - 32 - i.ram_base) (callee_frame i t stub m psp memory g) (moved_on i psp memory)) after a.1 in
        let f = found_in (λ (x : TargetRecord). IsEntry t x.entry x.compartment) (targets_of t site) (word i t stub m psp memory r12_place) g
        (each_take (λ (x : TargetRecord). IsEntry t x.entry x.compartment) site.count (drop site.first t.targets) (each_drop (λ (x : TargetRecord). IsEntry t x.entry x.compartment) site.first t.targets p.targets)) found in
        let to : current i t u.ram ≡ g.compartment = on.is_left.is_block.current_is ∙ ap (λ (b : MonitorBlock). b.current) (sym w.0) in
        subst (λ (b : MonitorBlock). Change i t s u m b) w.0 (Enters g.compartment inside some f.fact.compartment_in (record {
          is_svc = svc;
          number = number;
          site = site;
          is_site = slice_get-get_or t.sites number no_site in_sites;
          returns = returns;
          has_number = half;
          target = g;
          is_target = f.among;
          arrives = to;
          begins = begins g f.fact w.1 w.2;
        }))

    enter_by_change : (number : ℕ) → HoldsHalf i (s.core.pc + 2) number → enter_by i t stub m psp memory number ≡ Resumes n q after → Change i t s u m n
    enter_by_change number half e =
        let b1 : Bool = nat_lt number (length t.sites) in
        let b2 : Bool = nat_eq (site_at t number).ret (word i t stub m psp memory return_place) in
        let a = if_resumes (b1 && b2) (enter_to i t stub m psp memory (last_with_entry (word i t stub m psp memory r12_place) (targets_of t (site_at t number)))) 2 n q after e in
        let b = both b1 b2 a.0 in
        let in_sites : number < length t.sites = let z = b.0 in search (nat_tests, arith) in
        let returns : (site_at t number).ret ≡ word i t stub m psp memory return_place = let z = b.1 in search (nat_tests, arith) in
        enter_to_change number half in_sites (returns ∙ return_word) (last_with_entry (word i t stub m psp memory r12_place) (targets_of t (site_at t number))) refl a.1

    enter_at_change : (l : Location) → location i (s.core.pc + 2) ≡ l → enter_at i t stub m psp memory l ≡ Resumes n q after → Change i t s u m n
    enter_at_change (InRam o) here e = cc
    enter_at_change (InFlash o) here e = enter_by_change (read 2 o i.flash) (record { offset = o; is_in_flash = here; is_half = refl }) e
    enter_at_change (InWindow k o) here e = cc
    enter_at_change Nowhere here e = cc

    pub enter_change : enter_at i t stub m psp memory (location i (word i t stub m psp memory return_place)) ≡ Resumes n q after → Change i t s u m n
    enter_change e = enter_at_change (location i (word i t stub m psp memory return_place)) (ap (λ a. location i a) (sym return_word)) e
