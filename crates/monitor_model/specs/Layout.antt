-- Where the parts of the tables' block stand in flash, and how many bytes it has. Addresses are absolute.
use Rattle.std.specs.Prelude.{ℕ, ◌+◌, ◌-◌, ◌*◌, ◌^◌, List, [], ◌∷◌, length, max, sum_by}
use Rattle.machine_protection.specs.Regions.{size_log}
use Rattle.plan_model.specs.Blocks.{block_size_for}
use Rattle.monitor_model.specs.declared.tables.CompRecord.{CompRecord}
use Rattle.monitor_model.specs.declared.tables.Tables.{Tables}
use Rattle.monitor_model.specs.Records.{number_of_slots, words_in}

-- the vector words and the monitor's code are the first 4,096 bytes of the block
abbrev pub page_size : ℕ
page_size = 4096

-- behind them eight words: the five counts, the stack's base and size, and the monitor's block
abbrev pub head_at : Tables → ℕ
head_at t = t.base + page_size

abbrev pub head_size : ℕ
head_size = 32

-- then the records: of compartments, with both words of region 2 and of each slot and with both masks
abbrev pub compartment_size : Tables → ℕ
compartment_size t = 8 * number_of_slots t + 16

abbrev pub compartments_at : Tables → ℕ
compartments_at t = head_at t + head_size

-- of sites, three words each
abbrev pub sites_at : Tables → ℕ
sites_at t = compartments_at t + compartment_size t * length t.comps

-- of targets, two words each
abbrev pub targets_at : Tables → ℕ
targets_at t = sites_at t + 12 * length t.sites

-- of lendable locals, one word each
abbrev pub lends_at : Tables → ℕ
lends_at t = targets_at t + 8 * length t.targets

-- of ranges with initial words, three words each
abbrev pub inits_at : Tables → ℕ
inits_at t = lends_at t + 4 * length t.lends

-- and then the initial words, of which start-up copies so many
abbrev pub initial_words_at : Tables → ℕ
initial_words_at t = inits_at t + 12 * length t.inits

unfoldable pub initial_word_count : Tables → ℕ
initial_word_count t = sum_by words_in t.inits

abbrev pub area_end : Tables → ℕ
area_end t = initial_words_at t + 4 * initial_word_count t

-- ---- the size of the block

-- the bytes of the greatest code region
abbrev pub greatest_code : List CompRecord → ℕ
greatest_code [] = 0
greatest_code (c ∷ cs) = max (2 ^ size_log c.code) (greatest_code cs)

-- the tables' block is no smaller than any code region, so it stands first in flash
unfoldable pub tables_size : Tables → ℕ
tables_size t = max (block_size_for (area_end t - t.base)) (greatest_code t.comps)
