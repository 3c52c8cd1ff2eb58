-- Keys that no board has.
use Rattle.std.specs.Prelude.{ℕ, List, [], ◌∷◌, Option, Some, None, Bool, not, find, option_map, option_and_then, bytes_eq}
use Rattle.std.specs.List.{list_any}
use Rattle.base_names.specs.Names.{is_name}
use Rattle.plan_model.specs.Choices.{first_some}
use Rattle.toml.specs.Data.{Members, no_members, member, get_member, as_table}
use Rattle.plan_board.specs.declared.key.Key.{Key}
use Rattle.plan_board.specs.declared.key.Key.TheVariants.{Flash, FlashBase, FlashSize, Ram, RamBase, RamSize, RamStack, RamLowest, Mpu, MpuRegions, MpuReads, Deny}
use Rattle.plan_board.specs.declared.extra.FurtherKey.{FurtherKey}
use Rattle.plan_board.specs.Keys.{word_of, behind}

-- the keys of a table, which stand in byte order
abbrev pub words_of : Members → List (List ℕ)
words_of no_members = []
words_of (member w d ms) = w ∷ words_of ms

-- the word of one of these keys
abbrev pub is_known : List Key → (word : List ℕ) → Bool
is_known ks w = list_any (λ k. bytes_eq (word_of k) w) ks

-- the first key of a table that is none of these
abbrev pub extra_word : List Key → Members → Option (List ℕ)
extra_word ks ms = find (λ w. not (is_known ks w)) (words_of ms)

-- the first in a table of the document, if the table is there, with the table before it
abbrev pub inner_extra : (table : Key) → List Key → Members → Option (List ℕ)
inner_extra t ks ms = option_map (behind t) (option_and_then (extra_word ks) (option_and_then as_table (get_member (word_of t) ms)))

-- the first key of the table `deny` that is no name
abbrev pub unnamed_word : Members → Option (List ℕ)
unnamed_word ms = find (λ w. not (is_name w)) (words_of ms)

abbrev pub unnamed_extra : Members → Option (List ℕ)
unnamed_extra ms = option_map (behind Deny) (option_and_then unnamed_word (option_and_then as_table (get_member (word_of Deny) ms)))

-- the first of the document, then of `deny`, of `flash`, of `mpu` and of `ram`
abbrev pub extra_of : Members → Option (List ℕ)
extra_of ms =
    first_some
    (extra_word (Deny ∷ Flash ∷ Mpu ∷ Ram ∷ []) ms
    ∷ unnamed_extra ms
    ∷ inner_extra Flash (FlashBase ∷ FlashSize ∷ []) ms
    ∷ inner_extra Mpu (MpuRegions ∷ MpuReads ∷ []) ms
    ∷ inner_extra Ram (RamBase ∷ RamSize ∷ RamStack ∷ RamLowest ∷ []) ms
    ∷ [])

-- as it is printed
abbrev pub path_by : Option Key → (word : List ℕ) → List ℕ
path_by None w = w
path_by (Some t) w = behind t w

abbrev pub path_of : FurtherKey → List ℕ
path_of e = path_by e.table e.word.now
