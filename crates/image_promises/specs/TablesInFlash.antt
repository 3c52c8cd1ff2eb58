-- Beyond the program's claim: only laws, proofs and functions inside the tool cite this file.
-- What flash has of the tables of every planned firmware: statements of laws.
use Rattle.std.specs.Prelude.{◌≡◌, ℕ, ◌+◌, ◌*◌, ◌^◌, ◌<◌, length, slice_index}
use Rattle.base_words.specs.Bytes.{read}
use Rattle.base_laws.specs.Lists.{Each}
use Rattle.monitor_model.specs.Area.{area}
use Rattle.monitor_model.specs.Layout.{page_size}
use Rattle.monitor_program.specs.TheCode.{monitor_code}
use Rattle.monitor_model.specs.FromFlash.{moved_word_at, tables_of}
use Rattle.image_promises.specs.Laws.{OfPlanned}

-- each word of the tables has 32 bits
abbrev pub WordsFit : Type 0
WordsFit = OfPlanned (λ i t. Each (λ w. w < 2 ^ 32) (area t))

-- flash has the words of the tables behind the page, as they are
abbrev pub WordsStand : Type 0
WordsStand = OfPlanned (λ i t. (k : ℕ) → k < length (area t) → read 4 (page_size + 4 * k) i.flash ≡ slice_index (area t) k)

-- the tables that are read from flash are those that were linked, where start-up's code has the entry and the compartment of `main`
abbrev pub TablesReadBack : Type 0
TablesReadBack = OfPlanned (λ i t. moved_word_at monitor_code.main_entry_at i.flash ≡ t.main → moved_word_at monitor_code.main_compartment_at i.flash ≡ t.main_comp → t ≡ tables_of monitor_code i)
