use Rattle.aces_cli.proofs.perform.perform.Goals as goal

pub returns-in-Image : goal.returns-in-Image
returns-in-Image g c = rw c.in-Image.is c.on_image.ensures

pub returns-in-Firmware : goal.returns-in-Firmware
returns-in-Firmware g c = rw c.in-Firmware.is c.on_firmware.ensures

pub returns-in-Plan : goal.returns-in-Plan
returns-in-Plan g c = rw c.in-Plan.is c.on_plan.ensures

pub returns-in-Help : goal.returns-in-Help
returns-in-Help g c = rw c.in-Help.is c.print_help.ensures

pub returns-in-Selftest : goal.returns-in-Selftest
returns-in-Selftest g c = rw c.in-Selftest.is c.print_selftest.ensures
