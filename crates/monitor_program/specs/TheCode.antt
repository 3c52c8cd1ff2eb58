-- The monitor's own code, as the definitions that speak of any code take it.
use Rattle.monitor_model.specs.MonitorCode.{MonitorCode}
use Rattle.monitor_program.specs.Page.{page, stub_address, main_entry_at, main_compartment_at}

abbrev pub monitor_code : MonitorCode
monitor_code = record { page = page; stub = stub_address; main_entry_at = main_entry_at; main_compartment_at = main_compartment_at }
