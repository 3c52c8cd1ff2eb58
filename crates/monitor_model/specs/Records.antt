-- The records of the tables by their numbers, and what both the handlers and the auditor read from them.
use Rattle.std.specs.Prelude.{ℕ, ◌+◌, ◌-◌, ◌*◌, ◌/◌, Bool, true, false, List, [], ◌∷◌, length, take, drop, Option, Some, None, nat_eq}
use Rattle.std.proofs.Math.ListN.{get_or}
use Rattle.machine_protection.specs.Registers.{blank}
use Rattle.monitor_model.specs.declared.tables.CompRecord.{CompRecord}
use Rattle.monitor_model.specs.declared.tables.SiteRecord.{SiteRecord}
use Rattle.monitor_model.specs.declared.tables.TargetRecord.{TargetRecord}
use Rattle.monitor_model.specs.declared.tables.InitRecord.{InitRecord}
use Rattle.monitor_model.specs.declared.tables.Tables.{Tables}

-- ---- compartments

-- beyond the last compartment, one that may reach nothing
abbrev pub nobody : CompRecord
nobody = record { code = blank; slots = []; mask = 0; reads = 0 }

abbrev pub compartment_at : Tables → (number : ℕ) → CompRecord
compartment_at t c = get_or t.comps c nobody

-- all compartments have the same number of slots; it counts as 4 where there is no compartment
abbrev pub slots_of_first : List CompRecord → ℕ
slots_of_first [] = 4
slots_of_first (c ∷ cs) = length c.slots

abbrev pub number_of_slots : Tables → ℕ
number_of_slots t = slots_of_first t.comps

-- ---- sites and their targets

-- beyond the last site, one without a target
abbrev pub no_site : SiteRecord
no_site = record { ret = 0; first = 0; count = 0 }

abbrev pub site_at : Tables → (number : ℕ) → SiteRecord
site_at t n = get_or t.sites n no_site

abbrev pub targets_of : Tables → SiteRecord → List TargetRecord
targets_of t s = take s.count (drop s.first t.targets)

-- the last of the targets that share an entry counts
abbrev pub or_this : Option TargetRecord → (has_entry : Bool) → TargetRecord → Option TargetRecord
or_this (Some later) b x = Some later
or_this None true x = Some x
or_this None false x = None

abbrev pub last_with_entry : (entry : ℕ) → List TargetRecord → Option TargetRecord
last_with_entry e [] = None
last_with_entry e (x ∷ xs) = or_this (last_with_entry e xs) (nat_eq x.entry e) x

-- ---- lendable locals and initial words

-- the size of a lendable local in bytes
abbrev pub lend_size : Tables → (number : ℕ) → ℕ
lend_size t n = get_or t.lends n 0

-- how many words start-up copies into a range: none where it is empty
abbrev pub words_in : InitRecord → ℕ
words_in n = (n.end - n.at) / 4

-- ---- the stack of all compartments

abbrev pub stack_end : Tables → ℕ
stack_end t = t.stack.base + t.stack.size

-- an eighth of the stack, the bytes of one of its region's subregions
abbrev pub eighth : Tables → ℕ
eighth t = t.stack.size / 8

-- an address of the stack, its distance from the stack's base rounded down to a multiple of an eighth
abbrev pub rounded : Tables → (address : ℕ) → ℕ
rounded t a = t.stack.base + (a - t.stack.base) / eighth t * eighth t
