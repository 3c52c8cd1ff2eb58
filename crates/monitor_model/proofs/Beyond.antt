-- Records that stand for those beyond the last of a list.
use Rattle.monitor_model.specs.declared.tables.InitRecord.{InitRecord}
use Rattle.monitor_model.specs.declared.tables.TargetRecord.{TargetRecord}

abbrev pub no_target : TargetRecord
no_target = record { entry = 0; compartment = 0 }

abbrev pub no_init : InitRecord
no_init = record { at = 0; end = 0; from = 0 }
