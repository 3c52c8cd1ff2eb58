-- The words of the tables behind the monitor's code, and that flash has them.
use Rattle.std.specs.Prelude.{◌≡◌, ℕ, ◌+◌, ◌-◌, ◌*◌, ◌≤◌, List, [], ◌∷◌, ◌++◌, length, flat_map}
use Rattle.machine_protection.specs.declared.region.Region.{Region}
use Rattle.machine_devices.specs.declared.image.Image.{Image}
use Rattle.machine_model.specs.Stack.{words_at}
use Rattle.monitor_model.specs.declared.tables.CompRecord.{CompRecord}
use Rattle.monitor_model.specs.declared.tables.SiteRecord.{SiteRecord}
use Rattle.monitor_model.specs.declared.tables.TargetRecord.{TargetRecord}
use Rattle.monitor_model.specs.declared.tables.InitRecord.{InitRecord}
use Rattle.monitor_model.specs.declared.tables.Tables.{Tables}
use Rattle.monitor_model.specs.Layout.{head_at}

-- the words of each record, in the order in which the monitor reads them
abbrev pub region_words : Region → List ℕ
region_words g = g.rbar ∷ g.rasr ∷ []

abbrev pub compartment_words : CompRecord → List ℕ
compartment_words c = region_words c.code ++ (flat_map region_words c.slots ++ c.mask ∷ c.reads ∷ [])

abbrev pub site_words : SiteRecord → List ℕ
site_words s = s.ret ∷ s.first ∷ s.count ∷ []

abbrev pub target_words : TargetRecord → List ℕ
target_words g = g.entry ∷ g.compartment ∷ []

abbrev pub init_words : InitRecord → List ℕ
init_words n = n.at ∷ n.end ∷ n.from ∷ []

-- the counts of the five kinds of record, and the places of the stack and of the monitor's block
abbrev pub head : Tables → List ℕ
head t =
    length t.comps ∷ length t.sites ∷ length t.targets ∷ length t.lends ∷ length t.inits
    ∷ t.stack.base ∷ t.stack.size ∷ t.monitor ∷ []

-- all of them, and the initial words
abbrev pub area : Tables → List ℕ
area t =
    head t
    ++ (flat_map compartment_words t.comps
    ++ (flat_map site_words t.sites
    ++ (flat_map target_words t.targets
    ++ (t.lends
    ++ (flat_map init_words t.inits
    ++ t.words)))))

-- the words from an address of flash on are these
pub record FlashHas (i : Image) (address : ℕ) (words : List ℕ) : Type 0 where
  pub from_base : i.flash_base ≤ address
  pub inside : address + 4 * length words ≤ i.flash_base + length i.flash
  pub words_are : words_at (length words) (address - i.flash_base) i.flash ≡ words

-- the table area in an image's flash is that of these tables
abbrev pub HasTables : Image → Tables → Type 0
HasTables i t = FlashHas i (head_at t) (area t)
