-- The image of a self-test, and the tables in its flash.
use Rattle.std.proofs.Common.{◌≡◌, ℕ, ◌≤◌, List, length, refl, sym, ap, ◌∙◌, subst}
use Rattle.std.proofs.lemmas.List.{length-map}
use Rattle.machine_devices.specs.declared.image.Image.{Image}
use Rattle.machine_devices.specs.declared.image.Window.{Window}
use Rattle.ir_program.specs.Windows.{window_of}
use Rattle.ir_generator.specs.Made.{made}
use Rattle.ir_generator.specs.Taped.{taped}
use Rattle.plan_model.specs.declared.groups.Groups.{Groups}
use Rattle.plan_model.specs.Crossing.{crossing_sites}
use Rattle.monitor_model.specs.declared.tables.Tables.{Tables}
use Rattle.monitor_model.specs.Layout.{initial_word_count}
use Rattle.monitor_model.specs.Placed.{SoundImagesArePlaced}
use Rattle.monitor_model.specs.Sound.{Sound}
use Rattle.monitor_program.specs.TheCode.{monitor_code}
use Rattle.image_promises.specs.Planned.{planned_tables}
use Rattle.image_promises.specs.Whole.{PlannedImagesAreSound}
use Rattle.image_promises.specs.PlannedAudits.{PlannedImagesAreAnsweredYes}
use Rattle.monitor_audit.specs.declared.answer.Audit.TheVariants.{Yes}
use Rattle.monitor_audit.specs.Answers.{own_tables, IsAudit}
use Rattle.aces_selftest.specs.TestBoard.{test_board}
use Rattle.aces_selftest.specs.Answers.{IsTestImage, groups_of, words_of}
use Rattle.aces_selftest.proofs.Words.{few_words}

compartments_in : (c s d r : ℕ) → Yes c s ≡ Yes d r → c ≡ d
compartments_in c s d r h = cc

sites_in : (c s d r : ℕ) → Yes c s ≡ Yes d r → s ≡ r
sites_in c s d r h = cc

module _ (seed size : ℕ) (i : Image) (by : IsTestImage seed size i) where
  abbrev tables : Tables
  tables = planned_tables (made seed size) by.needs by.image.graph test_board

  -- ---- its tables are those that were linked

  module _ (law : PlannedImagesAreSound) where
    is_sound : Sound monitor_code i tables
    is_sound = subst (λ j. Sound monitor_code j tables) (sym by.image.linked) (law (made seed size) by.needs by.image.graph test_board by.image.planned)

    own : tables ≡ own_tables i
    own = is_sound.tables

    pub own_sound : Sound monitor_code i (own_tables i)
    own_sound = subst (Sound monitor_code i) own is_sound

    -- ---- their initial words

    pub few : SoundImagesArePlaced → length (own_tables i).words ≤ 0x100000
    few placed = few_words i (own_tables i) by.image.rules (placed monitor_code i (own_tables i) by.image.rules own_sound).1

    pub words : SoundImagesArePlaced → length (own_tables i).words ≡ words_of seed size i by
    words placed = (placed monitor_code i (own_tables i) by.image.rules own_sound).0.word_count ∙ ap initial_word_count (sym own)

    -- ---- their numbers

    answered : PlannedImagesAreAnsweredYes
        → Yes (length (own_tables i).comps) (length (own_tables i).sites) ≡ Yes by.image.graph.groups.count (length (crossing_sites by.needs by.image.graph.groups))
    answered says =
        says (made seed size) by.needs by.image.graph test_board by.image.planned (Yes (length (own_tables i).comps) (length (own_tables i).sites))
        (subst (λ j. IsAudit j (Yes (length (own_tables i).comps) (length (own_tables i).sites))) by.image.linked (own_sound, refl, refl))

    pub compartments : PlannedImagesAreAnsweredYes → length (own_tables i).comps ≡ (groups_of seed size i by).count
    compartments says = compartments_in _ _ _ _ (answered says) ∙ ap (λ (g : Groups). g.count) by.image.groups

    pub sites : PlannedImagesAreAnsweredYes → length (own_tables i).sites ≡ length (crossing_sites by.needs (groups_of seed size i by))
    sites says = sites_in _ _ _ _ (answered says) ∙ ap (λ (g : Groups). length (crossing_sites by.needs g)) by.image.groups

  -- ---- its windows are the four peripherals

  pub queues : length (taped seed size) ≡ length i.windows
  queues = sym (ap (λ (ws : List Window). length ws) by.image.board.windows ∙ length-map (made seed size).periphs window_of ∙ refl)
