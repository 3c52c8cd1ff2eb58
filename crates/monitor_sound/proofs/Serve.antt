-- The law of the simulation, from its parts.
use Rattle.monitor_sound.specs.Simulation.{PlacedLawsServeSimulation}
use Rattle.monitor_sound.proofs.ThreadLaws.{ThreadLaws}
use Rattle.monitor_sound.proofs.Places.{keeps, permits}
use Rattle.monitor_sound.proofs.CallRules.{lend, unlend}
use Rattle.monitor_sound.proofs.Enter.{enter}
use Rattle.monitor_sound.proofs.Leave.{leave, end_of_main}
use Rattle.monitor_sound.proofs.Loans.{stores, loads}
use Rattle.monitor_sound.proofs.Starting.{begins}

pub laws_serve_simulation : ThreadLaws → PlacedLawsServeSimulation
laws_serve_simulation laws code i t p stands ranges law starts apart = record {
  keeps = keeps laws code i t p;
  permits = permits laws code i t p stands;
  reach = record {
    stores = λ m x low o lr pc f ram queues op w a c is z r1 al there off lent. stores laws code i t p law m x low o lr pc f ram queues op w a c z r1 al there off is lent;
    loads = λ m x low o lr pc f ram queues op w a c is z r1 al there off lent. loads laws code i t p law m x low o lr pc f ram queues op w a c z r1 al there off is lent;
  };
  calls = record {
    lend = λ m x low o lr pc f ram queues l z r0 r1 few known al size from to. lend laws code i t p law m x low o lr pc f ram queues l z r0 r1 few known al size from to;
    unlend = λ m l x low o lr pc f ram queues z marks. unlend laws code i t p law m l x low o lr pc f ram queues z marks;
    enter = λ m x low o lr pc f ram queues site entry target top z half hit r12 even some tops.
        enter laws code i t p law stands m x low o lr pc f ram queues site entry target top z half hit r12 even some tops;
    leave = λ m c top o x low lr f ram queues ret status v r fits above is_ret is_status even thread no_pad.
        leave laws code i t p law stands m c top o x low lr f ram queues ret status v r fits above is_ret is_status even thread no_pad;
    ends = λ x low lr f ram queues v fits. end_of_main laws code i t p law stands x low lr f ram queues v fits;
  };
  begins = λ queues first r. begins laws code i t p starts ranges apart queues first r;
}
