-- The windows of a firmware's peripherals.
use Rattle.std.specs.Prelude.{List, map}
use Rattle.machine_devices.specs.declared.image.Window.{Window}
use Rattle.ir_model.specs.declared.firmware.Peripheral.{Peripheral}
use Rattle.ir_model.specs.Plain.{PlainFirmware}

abbrev pub window_of : Peripheral → Window
window_of q = record { name = q.name; base = q.base; size = q.size }

abbrev pub windows_of : PlainFirmware → List Window
windows_of w = map window_of w.periphs
