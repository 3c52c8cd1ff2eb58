-- A thread's accesses are of the kinds that confinement allows, and its step keeps the invariant or comes to a handler.
use Rattle.std.proofs.Common.{◌≡◌, ◌≢◌, ℕ, ◌+◌, ◌-◌, ◌*◌, ◌^◌, ◌<◌, ◌≤◌, ◌⊎◌, inl, inr, ⊎_elim, Bool, true, List, [], ◌∷◌, length, Some, None, bit_or, refl, sym, ap, ◌∙◌, subst, arith}
use Rattle.std.proofs.lemmas.Bool.{cases_lt}
use Rattle.base_words.specs.Bytes.{read}
use Rattle.base_words.proofs.Bytes.{read_alike}
use Rattle.machine_protection.specs.declared.region.Region.{Region}
use Rattle.machine_protection.specs.declared.region.Access.TheVariants.{Read, Write, Fetch}
use Rattle.machine_protection.specs.Regions.{holds, permission}
use Rattle.machine_protection.specs.Protection.{permits}
use Rattle.machine_devices.specs.declared.image.Image.{Image}
use Rattle.base_ranges.specs.Ranges.{AreApart}
use Rattle.machine_devices.specs.Rules.{block_size}
use Rattle.machine_bus.specs.Locations.{Location, InRam, InFlash, InWindow, Nowhere, location}
use Rattle.machine_bus.specs.Access.{further}
use Rattle.machine_bus.specs.Bus.{fetch_at}
use Rattle.machine_bus.proofs.Placed.{place_further}
use Rattle.machine_bus.proofs.Offsets.{in_flash, ram_at, flash_alone}
use Rattle.machine_model.specs.declared.state.FaultStatus.{FaultStatus}
use Rattle.machine_model.specs.State.{State, Touched, Turn, by_mpu}
use Rattle.machine_model.specs.Exceptions.{vector_offset, mem_manage, supervisor_call}
use Rattle.machine_model.specs.Step.{turn}
use Rattle.machine_model.specs.Code.{HoldsHalf}
use Rattle.machine_model.specs.Shape.{StateFits, StepsKeepShape}
use Rattle.machine_model.specs.Confinement.{AnyOf, Misses, IsVectorRead}
use Rattle.base_laws.specs.Lists.{Each}
use Rattle.machine_model.specs.Asked.{IsFetched}
use Rattle.machine_model.specs.ThreadStep.{IsReached, Plain, IsFetchFault, IsDataFault, ThreadStep, Ends, Goes, Calls, Faults, UnprivilegedStepsAreThreadSteps, UnprivilegedAccessesAreReached}
use Rattle.monitor_model.specs.declared.tables.Tables.{Tables}
use Rattle.monitor_model.specs.Records.{nobody}
use Rattle.monitor_model.specs.Placed.{Placed, IsCompartment, IsSlot}
use Rattle.monitor_model.specs.Block.{Loan, Saved, MonitorBlock}
use Rattle.monitor_model.specs.BlockWords.{block_word, current, top, words_end, HasSaved, HasLoans, IsBlock}
use Rattle.monitor_model.specs.Invariant.{InvariantHolds}
use Rattle.monitor_model.specs.Reach.{AllBytes, running, StoreKind, BySlot, ByStack, LoadKind, OfFlash, OfSlot, OfStack}
use Rattle.monitor_model.specs.Confined.{IsProtected}
use Rattle.monitor_model.specs.Handlers.{IsFault}
use Rattle.monitor_model.proofs.Invariants.{runs_unprivileged, few_callers}
use Rattle.monitor_confined.specs.Reaches.{ThreadsReach, Reaches}
use Rattle.monitor_confined.specs.ThreadSteps.{ThreadStepsAreConfined, ThreadStepsLead, LeadsOn, Ends as LeadsToEnd, Goes as LeadsToThread, Calls as LeadsToSvc, Faults as LeadsToFault}
use Rattle.monitor_confined.proofs.Reaches.{current_word, regions_word, open_inside}
use Rattle.base_laws.proofs.Lists.{each_to, each_at}

further_mapped : (l : Location) (k : ℕ) → l ≢ Nowhere → further k l ≢ Nowhere
further_mapped (InRam o) k h e = cc
further_mapped (InFlash o) k h e = cc
further_mapped (InWindow q o) k h e = cc
further_mapped Nowhere k h e = absurd (h refl)

pub slot_off : (i : Image) (t : Tables) (gs : List Region) (a : ℕ) → Each (IsSlot i t) gs →
    AnyOf (λ (g : Region). (holds g a ≡ true) × (permission g ≡ 3)) gs → AreApart a 1 t.monitor block_size
slot_off i t [] a h f = absurd f
slot_off i t (g ∷ gs) a h (inl f) = (h.0 a f.0).off_block
slot_off i t (g ∷ gs) a h (inr f) = slot_off i t gs a h.1 f

-- ---- words of the block that stay

module _ (i : Image) (t : Tables) (old new : List ℕ) (same : (o : ℕ) → o + 4 ≤ words_end → block_word i t new o ≡ block_word i t old o) where
  saved_stay : (es : List Saved) → length es ≤ 8 → HasSaved i t old es → HasSaved i t new es
  saved_stay [] le h = tt
  saved_stay (e ∷ es) le h =
      let n : ℕ = length es in (
        record {
          psp = same (32 + 16 * n) (omega arith) ∙ h.0.psp;
          current = same (32 + 16 * n + 4) (omega arith) ∙ h.0.current;
          top = same (32 + 16 * n + 8) (omega arith) ∙ h.0.top;
          mark = same (32 + 16 * n + 12) (omega arith) ∙ h.0.mark;
        },
        saved_stay es (omega arith) h.1,
      )

  loans_stay : (ls : List Loan) → length ls ≤ 32 → HasLoans i t old ls → HasLoans i t new ls
  loans_stay [] le h = tt
  loans_stay (l ∷ ls) le h =
      let n : ℕ = length ls in (
        record {
          address = same (160 + 12 * n) (omega arith) ∙ h.0.address;
          end = same (160 + 12 * n + 4) (omega arith) ∙ h.0.end;
          number = same (160 + 12 * n + 8) (omega arith) ∙ h.0.number;
        },
        loans_stay ls (omega arith) h.1,
      )

  pub block_stays : (m : MonitorBlock) → length m.saved ≤ 8 → length m.loans ≤ 32 → IsBlock i t old m → IsBlock i t new m
  block_stays m few_saved few_loans h = record {
    current_is = same 0 (omega arith) ∙ h.current_is;
    top_is = same 4 (omega arith) ∙ h.top_is;
    depth_is = same 8 (omega arith) ∙ h.depth_is;
    loan_count_is = same 12 (omega arith) ∙ h.loan_count_is;
    mark_is = same 16 (omega arith) ∙ h.mark_is;
    has_saved = saved_stay m.saved few_saved h.has_saved;
    has_loans = loans_stay m.loans few_loans h.has_loans;
  }

-- ---- a state of the invariant

module _ (i : Image) (t : Tables) (m : MonitorBlock) (s : State) (p : Placed i t) (h : InvariantHolds i t m s) (r : Reaches i t s) where
  protected : IsProtected i t s
  protected = record { thread = h.inv.thread; unprivileged = h.inv.unprivileged; on_psp = h.inv.on_psp; control = h.inv.control; regions = regions_word i t m s h }

  -- ---- kinds of addresses

  store_kind : (a : ℕ) → permits s.protection.mpu true Write a ≡ true → StoreKind i t s a
  store_kind a e = ⊎_elim (λ f. BySlot f) (λ f. ByStack f) (r.stores a e)

  stores_kind : (x : Touched) → IsReached i s.protection.mpu Write x → AllBytes (StoreKind i t s) x
  stores_kind x y k lt = store_kind (x.address + k) (y.permitted k lt)

  load_kind : i.closed ≡ true → (a : ℕ) → location i a ≢ Nowhere → permits s.protection.mpu true Read a ≡ true → LoadKind i t s a
  load_kind closed a mapped e = elim (r.loads closed a e) [
    | inl f ↦ OfSlot f
    | inr (inl f) ↦ OfStack f
    | inr (inr f) ↦ OfFlash (a - i.flash_base) (flash_alone i a p.rules f.0 f.1 mapped)
  ]

  vector_kind : (n : ℕ) → n < 16 → (x : Touched) → x ≡ record { width = 4; address = i.flash_base + vector_offset n } → AllBytes (LoadKind i t s) x
  vector_kind n few x e k lt =
      let least = p.rules.flash_least in
      let width : x.width ≡ 4 = ap (λ (y : Touched). y.width) e in
      let at : x.address ≡ i.flash_base + 4 * n = ap (λ (y : Touched). y.address) e in
      OfFlash (4 * n + k) (in_flash i (x.address + k) (4 * n + k) p.rules (omega (arith, at)) (omega (arith, width, lt, few, least)))

  loads_kind : i.closed ≡ true → (x : Touched) → IsReached i s.protection.mpu Read x ⊎ IsVectorRead i x → AllBytes (LoadKind i t s) x
  loads_kind closed x (inl y) k lt =
      load_kind closed (x.address + k) (λ none. further_mapped (location i x.address) k y.mapped (sym (place_further i x.address x.width k p.rules y.width y.aligned lt) ∙ none)) (y.permitted k lt)
  loads_kind closed x (inr (inl e)) k lt = vector_kind mem_manage (omega arith) x e k lt
  loads_kind closed x (inr (inr e)) k lt = vector_kind supervisor_call (omega arith) x e k lt

  -- ---- the block

  store_off : (a : ℕ) → permits s.protection.mpu true Write a ≡ true → AreApart a 1 t.monitor block_size
  store_off a e = ⊎_elim
      (λ f. slot_off i t (running i t s).slots a (each_at (IsCompartment i t) t.comps nobody (current i t s.ram) p.comps (current_word i t m s h)).slots f)
      (λ f. let lo = f.0 in let hi = open_inside i t m s h a f.1 in ⊎_elim (λ d. inr (omega (arith, d, lo))) (λ d. inl (omega (arith, d, hi))) p.apart)
      (r.stores a e)

  -- no store touches it
  misses_block : (k : ℕ) (x : Touched) → t.monitor - i.ram_base ≤ k → k < t.monitor - i.ram_base + 1024 → IsReached i s.protection.mpu Write x → Misses i k x
  misses_block k x lo hi y o e =
      let is = (ram_at i x.address o e).0 in
      let inside = p.block_inside.0 in
      ⊎_elim (λ lt. inl lt) (λ le. ⊎_elim
      (λ lt. absurd (
      let d : k - o < x.width = omega (arith, lt, le) in
      let here : x.address + (k - o) ≡ i.ram_base + k = omega (arith, is, le) in
      let off = subst (λ (a : ℕ). AreApart a 1 t.monitor block_size) here (store_off (x.address + (k - o)) (y.permitted (k - o) d)) in
      ⊎_elim (λ a. omega (arith, a, lo, hi, inside)) (λ a. omega (arith, a, lo, hi, inside)) off))
      (λ le2. inr le2) (cases_lt k (o + x.width))) (cases_lt k o)

  word_stays : (tn : Turn) → Plain i s tn → (o : ℕ) → o + 4 ≤ 1024 → block_word i t tn.to.ram o ≡ block_word i t s.ram o
  word_stays tn plain o le =
      let at : ℕ = t.monitor - i.ram_base in
      read_alike 4 (at + o) tn.to.ram s.ram (λ k lt.
      plain.ram (at + o + k) (each_to (IsReached i s.protection.mpu Write) (Misses i (at + o + k)) tn.stores
      (λ x y. misses_block (at + o + k) x (omega arith) (omega (arith, le, lt)) y) plain.stores))

  -- ---- where it leads

  goes_holds : (tn : Turn) → Plain i s tn → StateFits i tn.to → InvariantHolds i t m tn.to
  goes_holds tn plain fits = record {
    inv = record {
      is_block = block_stays i t s.ram tn.to.ram (λ o le. word_stays tn plain o (omega (arith, le))) m (few_callers h.inv.orderly) h.inv.orderly.few h.inv.is_block;
      orderly = h.inv.orderly;
      thread = ap (λ q. q.handler) plain.protection ∙ h.inv.thread;
      unprivileged = ap (λ q. q.unprivileged) plain.protection ∙ h.inv.unprivileged;
      on_psp = plain.stacks.in_use ∙ h.inv.on_psp;
      control = ap (λ q. q.mpu.control) plain.protection ∙ h.inv.control;
      regions = ap (λ q. q.mpu.regions) plain.protection ∙ h.inv.regions;
      no_fault = ap (λ q. q.cfsr) plain.status ∙ h.inv.no_fault;
      enabled = ap (λ q. q.shcsr) plain.status ∙ h.inv.enabled;
      msp = plain.stacks.other ∙ h.inv.msp;
      high_five = fits.core.high_count;
      as_long = fits.ram_count;
    };
    fits = fits;
  }

  may_fetch : (a : ℕ) → by_mpu s.protection Fetch a ≡ true → permits s.protection.mpu true Fetch a ≡ true
  unfolding by_mpu
  may_fetch a e = subst (λ (u : Bool). permits s.protection.mpu u Fetch a ≡ true) (runs_unprivileged h.inv) e

  -- what a thread fetched stands in flash
  fetched_flash : (half : ℕ) → IsFetched by_mpu i s half → HoldsHalf i s.core.pc half
  fetched_flash half f =
      let z = r.fetches s.core.pc (may_fetch s.core.pc f.permitted) in
      let lo = z.0 in
      let hi = z.1 in
      let o : ℕ = s.core.pc - i.flash_base in
      let l : location i s.core.pc ≡ InFlash o = in_flash i s.core.pc o p.rules (omega (arith, lo)) (omega (arith, lo, hi)) in
      let e : Some (read 2 o i.flash) ≡ Some half = sym (ap (λ q. fetch_at q i s.ram) l) ∙ f.is_half in
      record { offset = o; is_in_flash = l; is_half = (let z : read 2 o i.flash ≡ half = cc in z) }

  -- its status was clear
  fault_of : (u : FaultStatus) → u.mmfar < 2 ^ 32 → IsFetchFault i s u ⊎ IsDataFault i s u → IsFault i s u
  fault_of u lt (inl f) = inl (f.status ∙ ap (λ c. record s.status { cfsr = bit_or c 1 }) h.inv.no_fault)
  fault_of u lt (inr f) =
      inr (f.address, f.taken.first, subst (λ (a : ℕ). a < 2 ^ 32) (ap (λ (x : FaultStatus). x.mmfar) f.status) lt, fetched_flash f.taken.first f.taken.begins, f.status ∙ ap (λ c. record s.status { cfsr = bit_or c 0x82; mmfar = f.address }) h.inv.no_fault)

  leads : StateFits i (turn by_mpu i s).to → s.ending ≡ None → ThreadStep i s (turn by_mpu i s) → LeadsOn i t m s
  leads fits live (Ends e q) = LeadsToEnd e q
  leads fits live (Goes x next k plain) = LeadsToThread (goes_holds (turn by_mpu i s) plain fits) (plain.ending ∙ live)
  leads fits live (Calls n few f frame q) = LeadsToSvc n few (fetched_flash (0xDF00 + n) f) frame (ap (λ (x : Turn). x.to) q)
  leads fits live (Faults u f on frame q) = LeadsToFault u (fault_of u (subst (λ (x : Turn). StateFits i x.to) q fits).status.mmfar_word f) frame (ap (λ (x : Turn). x.to) q)

pub steps_are_confined : UnprivilegedAccessesAreReached → ThreadsReach → ThreadStepsAreConfined
steps_are_confined accesses reach i t m s p h =
    let r = reach i t m s p h in
    let a = accesses i s (runs_unprivileged h.inv) h.fits.core.sp_aligned in
    record {
      protection = protected i t m s p h r;
      stores = each_to (IsReached i s.protection.mpu Write) (AllBytes (StoreKind i t s)) (turn by_mpu i s).stores (stores_kind i t m s p h r) a.stores;
      loads = λ closed. each_to (λ x. IsReached i s.protection.mpu Read x ⊎ IsVectorRead i x) (AllBytes (LoadKind i t s)) (turn by_mpu i s).loads (loads_kind i t m s p h r closed) a.loads;
    }

pub steps_lead : UnprivilegedStepsAreThreadSteps → StepsKeepShape → ThreadsReach → ThreadStepsLead
steps_lead steps shape reach i t m s p h live =
    let r = reach i t m s p h in
    leads i t m s p h r (shape by_mpu i s p.rules h.fits) live (steps i s (runs_unprivileged h.inv) live)
