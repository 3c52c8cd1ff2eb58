-- Beyond the program's claim: only laws, proofs and functions inside the tool cite this file.
-- Places as the code names them.
use Rattle.machine_bus.specs.Locations.{Location, InRam, InFlash, InWindow, Nowhere as Nothing}
use Rattle.machine_bus.specs.declared.target.Target.{Target}
use Rattle.machine_bus.specs.declared.target.Target.TheVariants.{Ram, Flash, Window, Nowhere}

abbrev pub place_of : Target → Location
place_of (Ram o) = InRam o
place_of (Flash o) = InFlash o
place_of (Window k o) = InWindow k o
place_of Nowhere = Nothing
