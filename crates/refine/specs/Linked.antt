-- Beyond the program's claim: only laws, proofs and functions inside the tool cite this file.
-- What the linker promises of what it built.
use Rattle.std.specs.Prelude.{◌≡◌, ℕ, ◌+◌, ◌-◌, ◌%◌, ◌^◌, ◌<◌, ◌≤◌, List, [], ◌∷◌, length, map, true, false, Some}
use Rattle.std.proofs.Math.ListN.{get_or}
use Rattle.base_words.specs.Bytes.{read, cut}
use Rattle.machine_bus.specs.Locations.{location, InWindow}
use Rattle.machine_model.specs.Confinement.{AnyOf}
use Rattle.ir_model.specs.Layout.{rounded_up}
use Rattle.ir_model.specs.Resolved.{NumberedGlobal, global_at, window_at, local_at}
use Rattle.ir_model.specs.State.{GlobalObject, PeriphObject, LocalObject}
use Rattle.plan_model.specs.Lending.{lend_number}
use Rattle.plan_model.specs.Needs.{need_of}
use Rattle.need_laws.specs.Reached.{IsListed, HasTarget}
use Rattle.code_model.specs.CompartmentCode.{compartment_size, compartment_items, compartment_labels}
use Rattle.code_effects.specs.Items.{ItemsIn}
use Rattle.monitor_model.specs.declared.tables.InitRecord.{InitRecord}
use Rattle.monitor_model.specs.Threads.{base, stack_end, KeepsOff}
use Rattle.refine.specs.Areas.{Area, Laid}
use Rattle.base_laws.specs.Lists.{Each}
use Rattle.refine.specs.Owned.{MemoryRules}
use Rattle.refine.specs.Builds.{Build, groups_of, func, compartment_of, entry_at, half_at, site_at}
use Rattle.refine.specs.Relation.{global_areas, object_words}

module _ (k : Build) where
  -- ---- code

  pub record HasCode : Type 0 where
    -- each function stands in a compartment
    pub count : length k.groups.of ≡ length k.program.funcs
    pub each : (f : ℕ) → f < length k.program.funcs → compartment_of k f < k.groups.count
    -- the code of each compartment stands at its place, which is a multiple of 4, and is its own
    pub lies : (c : ℕ) → c < k.groups.count →
        ItemsIn k.setting.image (compartment_labels k.program (groups_of k) k.places c) (get_or k.places.bases c 0) (compartment_items k.program (groups_of k) k.places c)
    pub inside : (c a : ℕ) → c < k.groups.count → get_or k.places.bases c 0 ≤ a → a < get_or k.places.bases c 0 + compartment_size k.program (groups_of k) c → k.setting.has_code c a ≡ true
    pub aligned : (c : ℕ) → get_or k.places.bases c 0 % 4 ≡ 0
    -- the record of a crossing site has each function that may be called there
    pub targets : (f b p s h : ℕ) → f < length k.program.funcs → site_at k f b p ≡ Some s → HasTarget k.needs f b p h →
        k.setting.has_target s (half_at k f b p) (entry_at k h) (compartment_of k h) ≡ true
    pub main : k.setting.main ≡ entry_at k k.program.main
    pub main_compartment : k.setting.main_compartment ≡ compartment_of k k.program.main
    pub stub_even : k.setting.stub % 2 ≡ 0
    pub stub_low : k.setting.stub + 1 < 2 ^ 32

  -- ---- globals

  -- an init record brings the word of each area
  abbrev pub InFlash : List Area → List ℕ → Type 0
  InFlash [] [] = Unit {0}
  InFlash [] (v ∷ vs) = ⊥
  InFlash (c ∷ cs) [] = ⊥
  InFlash (c ∷ cs) (v ∷ vs) =
      AnyOf (λ (n : InitRecord). (n.at ≤ base k.setting + c.at) × (base k.setting + c.at + c.width ≤ n.end)
      × (read c.width (n.from - k.setting.image.flash_base + (base k.setting + c.at - n.at)) k.setting.image.flash ≡ cut c.width v)) k.setting.inits
      × InFlash cs vs

  pub record HasGlobals : Type 0 where
    pub count : length k.places.globals ≡ length k.program.globals
    -- each lies in RAM, and each of their cells at a multiple of its width
    pub from_base : (x : ℕ) → x < length k.program.globals → base k.setting ≤ get_or k.places.globals x 0
    pub to_end : (x : ℕ) → x < length k.program.globals → get_or k.places.globals x 0 + (global_at k.program x).shape.size ≤ base k.setting + k.setting.image.ram_size
    pub inside : Each (λ (c : Area). c.at + c.width ≤ k.setting.image.ram_size) (global_areas k)
    pub aligned : Each (λ (c : Area). (base k.setting + c.at) % c.width ≡ 0) (global_areas k)
    -- their cells lie apart, and off the stack and the monitor's block
    pub laid : Laid (global_areas k)
    pub off : Each (λ (c : Area). KeepsOff k.setting (stack_end k.setting) c.at c.width) (global_areas k)
    pub initial : (places : ℕ → ℕ) → InFlash (global_areas k) (object_words k places (map (λ (g : NumberedGlobal). g.init) k.program.globals))
    -- a compartment may load and store what its functions' needs list
    pub loads : (f x j : ℕ) → f < length k.program.funcs → IsListed (need_of k.needs f).read (GlobalObject x) → x < length k.program.globals →
        j < (global_at k.program x).shape.size → k.setting.may_load (compartment_of k f) (get_or k.places.globals x 0 + j) ≡ true
    pub stores : (f x j : ℕ) → f < length k.program.funcs → IsListed (need_of k.needs f).written (GlobalObject x) → x < length k.program.globals →
        j < (global_at k.program x).shape.size → k.setting.may_store (compartment_of k f) (get_or k.places.globals x 0 + j) ≡ true

  -- ---- windows

  pub record HasWindows : Type 0 where
    pub bases : (q : ℕ) → q < length k.program.periphs → get_or k.places.windows q 0 ≡ (window_at k.program q).base
    pub aligned : (q : ℕ) → q < length k.program.periphs → get_or k.places.windows q 0 % 4 ≡ 0
    pub leads : (q at : ℕ) → q < length k.program.periphs → at < (window_at k.program q).size → location k.setting.image ((window_at k.program q).base + at) ≡ InWindow q at
    pub loads : (f q j : ℕ) → f < length k.program.funcs → IsListed (need_of k.needs f).read (PeriphObject q) → q < length k.program.periphs →
        j < (window_at k.program q).size → k.setting.may_load (compartment_of k f) ((window_at k.program q).base + j) ≡ true
    pub stores : (f q j : ℕ) → f < length k.program.funcs → IsListed (need_of k.needs f).written (PeriphObject q) → q < length k.program.periphs →
        j < (window_at k.program q).size → k.setting.may_store (compartment_of k f) ((window_at k.program q).base + j) ≡ true

  -- ---- locals that are lent

  pub record HasLoans : Type 0 where
    -- their size in the tables has all of the local and no more than its words
    pub there : (f l n : ℕ) → l < length (func k f).locals → lend_number k.needs k.groups f l ≡ Some n → n < length k.setting.sizes
    pub least : (f l n : ℕ) → l < length (func k f).locals → lend_number k.needs k.groups f l ≡ Some n → (local_at k.program f l).size ≤ get_or k.setting.sizes n 0
    pub most : (f l n : ℕ) → l < length (func k f).locals → lend_number k.needs k.groups f l ≡ Some n → get_or k.setting.sizes n 0 ≤ rounded_up (local_at k.program f l).size 4
    -- the masks of a compartment have what its functions' needs list
    pub stores : (f h l n : ℕ) → f < length k.program.funcs → IsListed (need_of k.needs f).written (LocalObject h l) → lend_number k.needs k.groups h l ≡ Some n →
        k.setting.has_loan (compartment_of k f) n ≡ true
    pub loads : k.setting.image.closed ≡ true → (f h l n : ℕ) → f < length k.program.funcs → IsListed (need_of k.needs f).read (LocalObject h l) → lend_number k.needs k.groups h l ≡ Some n →
        k.setting.has_read_loan (compartment_of k f) n ≡ true
    -- all of RAM may be loaded on an open board
    pub open_loads : k.setting.image.closed ≡ false → (c o : ℕ) → o < k.setting.image.ram_size → k.setting.may_load c (base k.setting + o) ≡ true

  pub record Linked : Type 0 where
    pub rules : MemoryRules k.setting
    pub code : HasCode
    pub globals : HasGlobals
    pub windows : HasWindows
    pub loans : HasLoans
    -- the needs are those for the image's kind of board
    pub kind : k.needs.closed ≡ k.setting.image.closed
