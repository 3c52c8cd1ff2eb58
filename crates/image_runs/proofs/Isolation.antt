-- A run of an image that keeps its memory is isolated, whatever code the image has behind the planned tables.
use Rattle.monitor_model.specs.declared.tables.Tables.{Tables}
use Rattle.monitor_model.specs.BlockWords.{current, loan_number}
use Rattle.monitor_model.specs.Confined.{later}
use Rattle.image_promises.specs.Planned.{planned_tables}
use Rattle.image_promises.specs.Permissions.{SlotsArePermitted, SlotsHoldPermissions}
use Rattle.image_promises.proofs.PlannedPremises.{PlannedPremises, planned_of}
use Rattle.image_promises.proofs.GlobalPlaces.{GlobalLaws}
use Rattle.image_promises.specs.Needed.{MasksAreNeeded, PlannedMasksAreNeeded}
use Rattle.image_runs.specs.Own.{SlotsAreOwn, PlannedSlotsAreOwn}
use Rattle.image_runs.specs.Isolated.{LoansAreNeeded, IsIsolated, KeptRunsAreIsolated}
use Rattle.image_runs.proofs.KeptRuns.{KeptRun}
use Rattle.image_runs.proofs.Globals.{globals_stay, globals_change}
use Rattle.image_runs.proofs.Readers.{globals_read, no_global_read}
use Rattle.image_runs.proofs.Regions.{regions_stay}
use Rattle.image_runs.proofs.Accesses.{accesses_are_permitted}

module _ (globals : GlobalLaws) (planned : PlannedPremises)
    (slots : SlotsArePermitted planned.firmware planned.needs planned.final planned.board)
    (own : SlotsAreOwn planned.firmware planned.needs planned.final planned.board)
    (masks : MasksAreNeeded planned.firmware planned.needs planned.final planned.board)
    (run : KeptRun planned) where
  open planned use {firmware as w, needs as n, final as f, board as b}
  open run use {image as i, board, first, keeps}

  abbrev t : Tables
  t = planned_tables w n f b

  -- what is lent to the acting compartment
  loans_needed : LoansAreNeeded w n f b i t first
  loans_needed k l a acts h =
      let ram = (later i t first k).ram in
      let z = masks (current i t ram) (loan_number i t ram l) h.in_mask in
      ((keeps.bounded k acts).lent l a h.live h.from_address h.below_end, z.0, z.1, z.2)

  is_isolated : IsIsolated w n f b i t first
  is_isolated =
      record {
        globals_stay = globals_stay globals planned slots i board.ram_base first keeps;
        globals_change = globals_change globals planned slots i board.ram_base first keeps;
        regions_stay = regions_stay globals.plans planned own i board.ram_base first keeps;
        stack_stays = keeps.stack_stays;
        loans = loans_needed;
        globals_read = globals_read globals planned slots run;
        no_global_read = no_global_read globals planned slots run;
        reads = keeps.reads;
        monitor_reads = keeps.monitor_reads;
        accesses = accesses_are_permitted planned slots run;
      }

pub kept_runs_are_isolated : GlobalLaws → SlotsHoldPermissions → PlannedSlotsAreOwn → PlannedMasksAreNeeded → KeptRunsAreIsolated
kept_runs_are_isolated globals slots own masks w n f b is i rules board first keeps =
    is_isolated globals (planned_of is) (slots w n f b is) (own w n f b is) (masks w n f b is)
    (record { image = i; rules = rules; board = board; first = first; keeps = keeps })
