-- The code of loads and stores.
use Rattle.std.proofs.Common.{◌≡◌, ℕ, ◌+◌, ◌*◌, ◌<◌, List, [], ◌∷◌, get_or, set, Option, Some, None, refl, subst, arith}
use Rattle.base_words.specs.declared.conditions.Flags.{Flags}
use Rattle.base_words.specs.Arithmetic.{word}
use Rattle.base_words.specs.Bytes.{read, write, cut}
use Rattle.base_words.proofs.Bytes.{read_fits}
use Rattle.machine_thumb.specs.declared.table.Instr.{Instr}
use Rattle.machine_thumb.specs.declared.table.Instr.TheVariants.{TransferImmediate}
use Rattle.machine_protection.specs.declared.region.Access.TheVariants.{Read, Write}
use Rattle.machine_devices.specs.declared.image.Image.{Image}
use Rattle.machine_bus.specs.Locations.{InRam, InFlash, InWindow}
use Rattle.machine_model.specs.declared.state.End.TheVariants.{InputEnd}
use Rattle.machine_model.specs.State.{PermissionTest}
use Rattle.machine_model.specs.Code.{Stands, CodeAt, StepsQuietly}
use Rattle.machine_model.specs.Events.{input_event, output_event, ended}
use Rattle.machine_model.specs.RunningCode.{works, IsLoad, IsStore}
use Rattle.machine_model.proofs.Exec.{stay, next_step, next_event}
use Rattle.machine_model.proofs.Transfers.{ldr_sp, str_sp, load_ram, load_flash, load_window, load_nothing, store_ram, store_window, loads_words, loads_halves, loads_bytes, stores_words, stores_halves, stores_bytes}
use Rattle.ir_model.specs.Types.{PlainType, U8, U16, U32, Pointer, Array, Named, Callee, width_of}
use Rattle.ir_model.specs.Resolved.{NumberedFunc, Load, Store}
use Rattle.code_model.specs.declared.places.Places.{Places}
use Rattle.code_model.specs.Words.{load_home, save}
use Rattle.code_model.specs.Addresses.{load_at, store_at, load_code, store_code}
use Rattle.code_model.specs.Templates.{inst_items}
use Rattle.code_model.specs.Sizes.{inst_size}
use Rattle.code_effects.specs.Points.{Point, known, Leads, Finishes}
use Rattle.code_effects.specs.Frames.{HasFrame, home, HasInst}
use Rattle.code_effects.specs.Accesses.{Reach, LoadEffects, StoreEffects, AccessesHaveWidths}
use Rattle.code_effects.proofs.Items.{plain_code}
use Rattle.code_effects.proofs.Moves.{save_by}
use Rattle.code_effects.proofs.Joined.{finishes_by, landed, leads_by}
use Rattle.code_effects.proofs.Registers.{holds_by, holds_nothing}

load_form : (t : PlainType) → (op : ℕ) × (load_at t ≡ TransferImmediate op 0 1 0) × IsLoad op (width_of t)
load_form U8 = (3, refl, loads_bytes)
load_form U16 = (5, refl, loads_halves)
load_form U32 = (1, refl, loads_words)
load_form (Pointer t) = (1, refl, loads_words)
load_form (Array n t) = (1, refl, loads_words)
load_form (Named s) = (1, refl, loads_words)
load_form (Callee a r) = (1, refl, loads_words)

store_form : (t : PlainType) → (op : ℕ) × (store_at t ≡ TransferImmediate op 0 1 0) × IsStore op (width_of t)
store_form U8 = (2, refl, stores_bytes)
store_form U16 = (4, refl, stores_halves)
store_form U32 = (0, refl, stores_words)
store_form (Pointer t) = (0, refl, stores_words)
store_form (Array n t) = (0, refl, stores_words)
store_form (Named s) = (0, refl, stores_words)
store_form (Callee a r) = (0, refl, stores_words)

pub accesses_have_widths : AccessesHaveWidths
accesses_have_widths = record { loads = load_form; stores = store_form }

module _ (j : PermissionTest) (i : Image) (p : Point) (o n : ℕ) where
  abbrev LoadCode : (at op to from : ℕ) → Type 0
  LoadCode at op to from = CodeAt j i p.context.protection at (load_home 1 from ∷ TransferImmediate op 0 1 0 ∷ save to ∷ [])

  abbrev StoreCode : (at op to from : ℕ) → Type 0
  StoreCode at op to from = CodeAt j i p.context.protection at (load_home 1 to ∷ load_home 0 from ∷ TransferImmediate op 0 1 0 ∷ [])

  -- r1 is the address
  address_is : (w k : ℕ) → word (home o p k + w * 0) ≡ home o p k
  address_is w k = omega (arith, read_fits 4 (o + 4 * k) p.ram)

  -- a load that tells nothing
  record Fetches (op v from : ℕ) : Type 0 where
    step : (a c : ℕ) (rest : List ℕ) (f : Flags) → Stands j i p.context.protection (p.pc + 2) (TransferImmediate op 0 1 0) →
        StepsQuietly j i (works p.context (a ∷ home o p from ∷ c ∷ rest) p.sp p.lr (p.pc + 2) f p.ram p.queues) (works p.context (v ∷ home o p from ∷ c ∷ rest) p.sp p.lr (p.pc + 2 + 2) f p.ram p.queues)

  quiet_load : (op to from v : ℕ) → HasFrame j i p o n → to < n → from < n → LoadCode p.pc op to from → Fetches op v from →
      Leads j i 3 p (record p { registers = []; pc = p.pc + 6; ram = write 4 (o + 4 * to) v p.ram }) []
  quiet_load op to from v room lt lf code s =
      let y : ℕ = home o p from in
      leads_by j i 3 p _ [] (λ a b c rest f h.
      landed j i 3 _ p.context [] (v ∷ y ∷ c ∷ rest) p.sp p.lr (p.pc + 2 + 2 + 2) (p.pc + 6) f (write 4 (o + 4 * to) v p.ram) p.queues [] (omega arith) (holds_nothing (v ∷ y ∷ c ∷ rest) (omega arith))
      (next_step (ldr_sp j i p.context (a ∷ b ∷ c ∷ rest) p.sp p.lr p.pc f p.ram p.queues 1 from o n room lf code.0)
      (next_step (s.step a c rest f code.1.0)
      (next_step (str_sp j i p.context (v ∷ y ∷ c ∷ rest) p.sp p.lr (p.pc + 2 + 2) f p.ram p.queues 0 to o n room lt code.1.1.0) (stay j i)))))

  ram_load : (op w to from at : ℕ) → IsLoad op w → HasFrame j i p o n → to < n → from < n → LoadCode p.pc op to from → Reach j i p Read w (home o p from) (InRam at) →
      Leads j i 3 p (record p { registers = []; pc = p.pc + 6; ram = write 4 (o + 4 * to) (read w at p.ram) p.ram }) []
  ram_load op w to from at is room lt lf code r =
      let y : ℕ = home o p from in
      quiet_load op to from (read w at p.ram) room lt lf code (record {
        step = λ a c rest f st. load_ram j i p.context (a ∷ y ∷ c ∷ rest) p.sp p.lr (p.pc + 2) f p.ram p.queues op w 0 1 0 y at is (address_is w from) r.aligned r.low r.allowed r.leads st;
      })

  flash_load : (op w to from at : ℕ) → IsLoad op w → HasFrame j i p o n → to < n → from < n → LoadCode p.pc op to from → Reach j i p Read w (home o p from) (InFlash at) →
      Leads j i 3 p (record p { registers = []; pc = p.pc + 6; ram = write 4 (o + 4 * to) (read w at i.flash) p.ram }) []
  flash_load op w to from at is room lt lf code r =
      let y : ℕ = home o p from in
      quiet_load op to from (read w at i.flash) room lt lf code (record {
        step = λ a c rest f st. load_flash j i p.context (a ∷ y ∷ c ∷ rest) p.sp p.lr (p.pc + 2) f p.ram p.queues op w 0 1 0 y at is (address_is w from) r.aligned r.low r.allowed r.leads st;
      })

  window_load : (op w to from k at u : ℕ) (us : List ℕ) → IsLoad op w → HasFrame j i p o n → to < n → from < n → LoadCode p.pc op to from → Reach j i p Read w (home o p from) (InWindow k at) → get_or p.queues k [] ≡ u ∷ us →
      Leads j i 3 p (record p { registers = []; pc = p.pc + 6; ram = write 4 (o + 4 * to) (cut w u) p.ram; queues = set p.queues k us }) (input_event i p.ram k at w u ∷ [])
  window_load op w to from k at u us is room lt lf code r some =
      let y : ℕ = home o p from in
      leads_by j i 3 p _ _ (λ a b c rest f h.
      landed j i 3 _ p.context [] (cut w u ∷ y ∷ c ∷ rest) p.sp p.lr (p.pc + 2 + 2 + 2) (p.pc + 6) f (write 4 (o + 4 * to) (cut w u) p.ram) (set p.queues k us) _ (omega arith) (holds_nothing (cut w u ∷ y ∷ c ∷ rest) (omega arith))
      (next_step (ldr_sp j i p.context (a ∷ b ∷ c ∷ rest) p.sp p.lr p.pc f p.ram p.queues 1 from o n room lf code.0)
      (next_event (load_window j i p.context (a ∷ y ∷ c ∷ rest) p.sp p.lr (p.pc + 2) f p.ram p.queues op w 0 1 0 y k at u us is (address_is w from) r.aligned r.low r.allowed r.leads some code.1.0)
      (next_step (str_sp j i p.context (cut w u ∷ y ∷ c ∷ rest) p.sp p.lr (p.pc + 2 + 2) f p.ram (set p.queues k us) 0 to o n room lt code.1.1.0) (stay j i)))))

  no_load : (op w to from k at : ℕ) → IsLoad op w → HasFrame j i p o n → from < n → LoadCode p.pc op to from → Reach j i p Read w (home o p from) (InWindow k at) → get_or p.queues k [] ≡ [] → Finishes j i 2 p InputEnd []
  no_load op w to from k at is room lf code r none =
      let y : ℕ = home o p from in
      finishes_by j i 2 p InputEnd [] (λ a b c rest f h. record {
        last = ended InputEnd (works p.context (a ∷ y ∷ c ∷ rest) p.sp p.lr (p.pc + 2) f p.ram p.queues);
        over = refl;
        runs = next_step (ldr_sp j i p.context (a ∷ b ∷ c ∷ rest) p.sp p.lr p.pc f p.ram p.queues 1 from o n room lf code.0)
            (next_step (load_nothing j i p.context (a ∷ y ∷ c ∷ rest) p.sp p.lr (p.pc + 2) f p.ram p.queues op w 0 1 0 y k at is (address_is w from) r.aligned r.low r.allowed r.leads none code.1.0) (stay j i));
      })

  before_load : (op to from : ℕ) → HasFrame j i p o n → from < n → LoadCode p.pc op to from → Leads j i 1 p (record p { registers = None ∷ Some (home o p from) ∷ []; pc = p.pc + 2 }) []
  before_load op to from room lf code =
      let y : ℕ = home o p from in
      leads_by j i 1 p _ [] (λ a b c rest f h.
      landed j i 1 _ p.context (None ∷ Some y ∷ []) (a ∷ y ∷ c ∷ rest) p.sp p.lr (p.pc + 2) (p.pc + 2) f p.ram p.queues [] refl (holds_by _ (a ∷ y ∷ c ∷ rest) (omega arith) (refl, tt))
      (next_step (ldr_sp j i p.context (a ∷ b ∷ c ∷ rest) p.sp p.lr p.pc f p.ram p.queues 1 from o n room lf code.0) (stay j i)))

  -- ---- stores

  ram_store : (op w to from at : ℕ) → IsStore op w → HasFrame j i p o n → to < n → from < n → StoreCode p.pc op to from → Reach j i p Write w (home o p to) (InRam at) →
      Leads j i 3 p (record p { registers = []; pc = p.pc + 6; ram = write w at (home o p from) p.ram }) []
  ram_store op w to from at is room lt lf code r =
      let y : ℕ = home o p to in
      let v : ℕ = home o p from in
      leads_by j i 3 p _ [] (λ a b c rest f h.
      landed j i 3 _ p.context [] (v ∷ y ∷ c ∷ rest) p.sp p.lr (p.pc + 2 + 2 + 2) (p.pc + 6) f (write w at v p.ram) p.queues [] (omega arith) (holds_nothing (v ∷ y ∷ c ∷ rest) (omega arith))
      (next_step (ldr_sp j i p.context (a ∷ b ∷ c ∷ rest) p.sp p.lr p.pc f p.ram p.queues 1 to o n room lt code.0)
      (next_step (ldr_sp j i p.context (a ∷ y ∷ c ∷ rest) p.sp p.lr (p.pc + 2) f p.ram p.queues 0 from o n room lf code.1.0)
      (next_step (store_ram j i p.context (v ∷ y ∷ c ∷ rest) p.sp p.lr (p.pc + 2 + 2) f p.ram p.queues op w 0 1 0 y at is (address_is w to) r.aligned r.low r.allowed r.leads code.1.1.0) (stay j i)))))

  window_store : (op w to from k at : ℕ) → IsStore op w → HasFrame j i p o n → to < n → from < n → StoreCode p.pc op to from → Reach j i p Write w (home o p to) (InWindow k at) →
      Leads j i 3 p (record p { registers = []; pc = p.pc + 6 }) (output_event i p.ram k at w (home o p from) ∷ [])
  window_store op w to from k at is room lt lf code r =
      let y : ℕ = home o p to in
      let v : ℕ = home o p from in
      leads_by j i 3 p _ _ (λ a b c rest f h.
      landed j i 3 _ p.context [] (v ∷ y ∷ c ∷ rest) p.sp p.lr (p.pc + 2 + 2 + 2) (p.pc + 6) f p.ram p.queues _ (omega arith) (holds_nothing (v ∷ y ∷ c ∷ rest) (omega arith))
      (next_step (ldr_sp j i p.context (a ∷ b ∷ c ∷ rest) p.sp p.lr p.pc f p.ram p.queues 1 to o n room lt code.0)
      (next_step (ldr_sp j i p.context (a ∷ y ∷ c ∷ rest) p.sp p.lr (p.pc + 2) f p.ram p.queues 0 from o n room lf code.1.0)
      (next_event (store_window j i p.context (v ∷ y ∷ c ∷ rest) p.sp p.lr (p.pc + 2 + 2) f p.ram p.queues op w 0 1 0 y k at is (address_is w to) r.aligned r.low r.allowed r.leads code.1.1.0) (stay j i)))))

  before_store : (op to from : ℕ) → HasFrame j i p o n → to < n → from < n → StoreCode p.pc op to from → Leads j i 2 p (record p { registers = known (home o p from ∷ home o p to ∷ []); pc = p.pc + 4 }) []
  before_store op to from room lt lf code =
      let y : ℕ = home o p to in
      let v : ℕ = home o p from in
      leads_by j i 2 p _ [] (λ a b c rest f h.
      landed j i 2 _ p.context (known (v ∷ y ∷ [])) (v ∷ y ∷ c ∷ rest) p.sp p.lr (p.pc + 2 + 2) (p.pc + 4) f p.ram p.queues [] (omega arith) (holds_by _ (v ∷ y ∷ c ∷ rest) (omega arith) (refl, (refl, tt)))
      (next_step (ldr_sp j i p.context (a ∷ b ∷ c ∷ rest) p.sp p.lr p.pc f p.ram p.queues 1 to o n room lt code.0)
      (next_step (ldr_sp j i p.context (a ∷ y ∷ c ∷ rest) p.sp p.lr (p.pc + 2) f p.ram p.queues 0 from o n room lf code.1.0) (stay j i))))

module _ (j : PermissionTest) (i : Image) (g : NumberedFunc) (q : Places) (labels : List (Option ℕ)) (site : Option ℕ) (p : Point) where
  -- the code with the access as it is in the table
  loads_here : (at to from : ℕ) (t : PlainType) → HasInst j i g q labels p at site (Load to from t) → LoadCode j i p 0 0 at (load_form t).0 to from
  unfolding inst_items
  loads_here at to from t code = subst (λ (y : Instr). CodeAt j i p.context.protection at (load_home 1 from ∷ y ∷ save to ∷ [])) (load_form t).1 (plain_code j i p.context.protection labels (load_code to from t) at code)

  stores_here : (at to from : ℕ) (t : PlainType) → HasInst j i g q labels p at site (Store to from t) → StoreCode j i p 0 0 at (store_form t).0 to from
  unfolding inst_items
  stores_here at to from t code = subst (λ (y : Instr). CodeAt j i p.context.protection at (load_home 1 to ∷ load_home 0 from ∷ y ∷ [])) (store_form t).1 (plain_code j i p.context.protection labels (store_code to from t) at code)

  the_load : (to from at : ℕ) (t : PlainType) → HasInst j i g q labels p at site (Load to from t) → Stands j i p.context.protection (at + 2) (load_at t)
  unfolding inst_items
  the_load to from at t code = code.1.0

  the_store : (to from at : ℕ) (t : PlainType) → HasInst j i g q labels p at site (Store to from t) → Stands j i p.context.protection (at + 4) (store_at t)
  unfolding inst_items
  the_store to from at t code = let z : at + 2 + 2 ≡ at + 4 = omega arith in subst (λ (a : ℕ). Stands j i p.context.protection a (store_at t)) z code.1.1.0

  after_load : (o n to from at v : ℕ) (t : PlainType) → HasFrame j i p o n → to < n → HasInst j i g q labels p at site (Load to from t) →
      Leads j i 1 (record p { registers = known (v ∷ []); pc = at + 4 }) (record p { registers = []; pc = at + 6; ram = write 4 (o + 4 * to) v p.ram }) []
  after_load o n to from at v t room lt code =
      let z : at + 2 + 2 ≡ at + 4 = omega arith in
      let y : at + 4 + 2 ≡ at + 6 = omega arith in
      let st = subst (λ (a : ℕ). Stands j i p.context.protection a (save to)) z (loads_here at to from t code).1.1.0 in
      subst (λ (a : ℕ). Leads j i 1 (record p { registers = known (v ∷ []); pc = at + 4 }) (record p { registers = []; pc = a; ram = write 4 (o + 4 * to) v p.ram }) []) y (save_by j i p o n (at + 4) to v room lt st)

pub load_effects : (j : PermissionTest) (i : Image) (g : NumberedFunc) (q : Places) (labels : List (Option ℕ)) (site : Option ℕ) (p : Point) (o n : ℕ) → LoadEffects j i g q labels site p o n
unfolding inst_size
load_effects j i g q labels site p o n = record {
  ram = λ to from at t room lt lf code r. ram_load j i p o n (load_form t).0 (width_of t) to from at (load_form t).2 room lt lf (loads_here j i g q labels site p p.pc to from t code) r;
  flash = λ to from at t room lt lf code r. flash_load j i p o n (load_form t).0 (width_of t) to from at (load_form t).2 room lt lf (loads_here j i g q labels site p p.pc to from t code) r;
  window = λ to from w at u us t room lt lf code r some. window_load j i p o n (load_form t).0 (width_of t) to from w at u us (load_form t).2 room lt lf (loads_here j i g q labels site p p.pc to from t code) r some;
  nothing = λ to from w at t room lf code r none. no_load j i p o n (load_form t).0 (width_of t) to from w at (load_form t).2 room lf (loads_here j i g q labels site p p.pc to from t code) r none;
  before = λ to from t room lf code. before_load j i p o n (load_form t).0 to from room lf (loads_here j i g q labels site p p.pc to from t code);
  access = the_load j i g q labels site p;
  after = after_load j i g q labels site p o n;
}

pub store_effects : (j : PermissionTest) (i : Image) (g : NumberedFunc) (q : Places) (labels : List (Option ℕ)) (site : Option ℕ) (p : Point) (o n : ℕ) → StoreEffects j i g q labels site p o n
unfolding inst_size
store_effects j i g q labels site p o n = record {
  ram = λ to from at t room lt lf code r. ram_store j i p o n (store_form t).0 (width_of t) to from at (store_form t).2 room lt lf (stores_here j i g q labels site p p.pc to from t code) r;
  window = λ to from w at t room lt lf code r. window_store j i p o n (store_form t).0 (width_of t) to from w at (store_form t).2 room lt lf (stores_here j i g q labels site p p.pc to from t code) r;
  before = λ to from t room lt lf code. before_store j i p o n (store_form t).0 to from room lt lf (stores_here j i g q labels site p p.pc to from t code);
  access = the_store j i g q labels site p;
}
