-- Beyond the program's claim: only laws, proofs and functions inside the tool cite this file.
-- What the code of loads and stores does, by where the pointer leads.
use Rattle.std.specs.Prelude.{◌≡◌, ℕ, ◌+◌, ◌*◌, ◌%◌, ◌<◌, List, [], ◌∷◌, Option, Some, None, true, is_some}
use Rattle.std.proofs.Math.ListN.{get_or, set}
use Rattle.base_words.specs.Bytes.{read, write, cut}
use Rattle.machine_thumb.specs.declared.table.Instr.TheVariants.{TransferImmediate}
use Rattle.machine_protection.specs.declared.region.Access.{Access}
use Rattle.machine_protection.specs.declared.region.Access.TheVariants.{Read, Write}
use Rattle.machine_devices.specs.declared.image.Image.{Image}
use Rattle.machine_bus.specs.Locations.{Location, InRam, InFlash, InWindow, location}
use Rattle.machine_model.specs.declared.state.End.TheVariants.{InputEnd}
use Rattle.machine_model.specs.State.{PermissionTest}
use Rattle.machine_model.specs.Code.{Stands}
use Rattle.machine_model.specs.Events.{input_event, output_event}
use Rattle.machine_model.specs.RunningCode.{IsLoad, IsStore}
use Rattle.ir_model.specs.Types.{PlainType, width_of}
use Rattle.ir_model.specs.Resolved.{NumberedFunc, Load, Store}
use Rattle.code_model.specs.declared.places.Places.{Places}
use Rattle.code_model.specs.Addresses.{load_at, store_at}
use Rattle.code_model.specs.Sizes.{inst_size}
use Rattle.code_effects.specs.Points.{Point, known, Leads, Finishes}
use Rattle.code_effects.specs.Frames.{HasFrame, home, HasInst, behind}

-- an access that protection allows, of an address that is a multiple of its width and leads to this location
pub record Reach (j : PermissionTest) (i : Image) (p : Point) (kind : Access) (width address : ℕ) (to : Location) : Type 0 where
  pub aligned : address % width ≡ 0
  pub low : address < 0xE0000000
  pub allowed : j p.context.protection kind address ≡ true
  pub leads : location i address ≡ to

-- behind a store
abbrev pub behind_store : Point → (site : Option ℕ) → (to from : ℕ) → PlainType → Point
behind_store p site to from t = record p { registers = []; pc = p.pc + inst_size (is_some site) (Store to from t) }

module _ (j : PermissionTest) (i : Image) (g : NumberedFunc) (q : Places) (labels : List (Option ℕ)) (site : Option ℕ) (p : Point) (o n : ℕ) where
  pub record LoadEffects : Type 0 where
    pub ram : (to from at : ℕ) (t : PlainType) → HasFrame j i p o n → to < n → from < n → HasInst j i g q labels p p.pc site (Load to from t) →
        Reach j i p Read (width_of t) (home o p from) (InRam at) → Leads j i 3 p (behind o p site (Load to from t) to (read (width_of t) at p.ram)) []
    pub flash : (to from at : ℕ) (t : PlainType) → HasFrame j i p o n → to < n → from < n → HasInst j i g q labels p p.pc site (Load to from t) →
        Reach j i p Read (width_of t) (home o p from) (InFlash at) → Leads j i 3 p (behind o p site (Load to from t) to (read (width_of t) at i.flash)) []
    -- the window's next recorded word, and none: the run ends
    pub window : (to from w at u : ℕ) (us : List ℕ) (t : PlainType) → HasFrame j i p o n → to < n → from < n → HasInst j i g q labels p p.pc site (Load to from t) →
        Reach j i p Read (width_of t) (home o p from) (InWindow w at) → get_or p.queues w [] ≡ u ∷ us →
        Leads j i 3 p (record (behind o p site (Load to from t) to (cut (width_of t) u)) { queues = set p.queues w us }) (input_event i p.ram w at (width_of t) u ∷ [])
    pub nothing : (to from w at : ℕ) (t : PlainType) → HasFrame j i p o n → from < n → HasInst j i g q labels p p.pc site (Load to from t) →
        Reach j i p Read (width_of t) (home o p from) (InWindow w at) → get_or p.queues w [] ≡ [] → Finishes j i 2 p InputEnd []
    -- up to the access itself, where a handler makes it, and from there on, where v is what it loaded
    pub before : (to from : ℕ) (t : PlainType) → HasFrame j i p o n → from < n → HasInst j i g q labels p p.pc site (Load to from t) →
        Leads j i 1 p (record p { registers = None ∷ Some (home o p from) ∷ []; pc = p.pc + 2 }) []
    pub access : (to from at : ℕ) (t : PlainType) → HasInst j i g q labels p at site (Load to from t) → Stands j i p.context.protection (at + 2) (load_at t)
    pub after : (to from at v : ℕ) (t : PlainType) → HasFrame j i p o n → to < n → HasInst j i g q labels p at site (Load to from t) →
        Leads j i 1 (record p { registers = known (v ∷ []); pc = at + 4 }) (record p { registers = []; pc = at + inst_size (is_some site) (Load to from t); ram = write 4 (o + 4 * to) v p.ram }) []

  pub record StoreEffects : Type 0 where
    pub ram : (to from at : ℕ) (t : PlainType) → HasFrame j i p o n → to < n → from < n → HasInst j i g q labels p p.pc site (Store to from t) →
        Reach j i p Write (width_of t) (home o p to) (InRam at) → Leads j i 3 p (record (behind_store p site to from t) { ram = write (width_of t) at (home o p from) p.ram }) []
    pub window : (to from w at : ℕ) (t : PlainType) → HasFrame j i p o n → to < n → from < n → HasInst j i g q labels p p.pc site (Store to from t) →
        Reach j i p Write (width_of t) (home o p to) (InWindow w at) → Leads j i 3 p (behind_store p site to from t) (output_event i p.ram w at (width_of t) (home o p from) ∷ [])
    -- up to the access itself, where a handler makes it
    pub before : (to from : ℕ) (t : PlainType) → HasFrame j i p o n → to < n → from < n → HasInst j i g q labels p p.pc site (Store to from t) →
        Leads j i 2 p (record p { registers = known (home o p from ∷ home o p to ∷ []); pc = p.pc + 4 }) []
    pub access : (to from at : ℕ) (t : PlainType) → HasInst j i g q labels p at site (Store to from t) → Stands j i p.context.protection (at + 4) (store_at t)

-- the access has the width of its type
pub record AccessesHaveWidths : Type 0 where
  pub loads : (t : PlainType) → (op : ℕ) × (load_at t ≡ TransferImmediate op 0 1 0) × IsLoad op (width_of t)
  pub stores : (t : PlainType) → (op : ℕ) × (store_at t ≡ TransferImmediate op 0 1 0) × IsStore op (width_of t)
