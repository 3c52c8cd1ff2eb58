-- The promises of sound images, from the laws of placed tables.
use Rattle.machine_model.specs.CodeBytes.{BytesAreCode}
use Rattle.monitor_program.specs.CodeSize.{CodeFits, StubIsThere}
use Rattle.monitor_model.specs.MonitorCode.{MonitorCode}
use Rattle.monitor_program.specs.TheCode.{monitor_code}
use Rattle.monitor_model.specs.Placed.{SoundImagesArePlaced}
use Rattle.monitor_model.specs.Invariant.{Invariant}
use Rattle.monitor_model.specs.Law.{Law}
use Rattle.monitor_model.specs.Setting.{setting_of}
use Rattle.monitor_model.specs.Promises.{RangesAreApart, OfSoundImages, HandlersKeepTheLaw, ImagesStart, LawsConfine, SoundImagesAreConfined, LawsServeSimulation, AccessesHaveTheirEffect}
use Rattle.monitor_confined.specs.FromLaw.{PlacedLawsConfine}
use Rattle.monitor_confined.specs.WholeRuns.{HandlersConfineImages}
use Rattle.monitor_sound.specs.Accesses.{PlacedAccessesHaveTheirEffect}
use Rattle.monitor_sound.specs.Simulation.{PlacedLawsServeSimulation}
use Rattle.monitor_handlers.specs.SvcLaw.{SvcLaw}
use Rattle.monitor_handlers.specs.FaultLaw.{FaultLaw}
use Rattle.monitor_sound.proofs.Audited.{audited}
use Rattle.monitor_sound.specs.Accesses.{StubStands}
use Rattle.monitor_program.specs.Page.{stub_address}
use Rattle.monitor_sound.proofs.Stub.{stub_stands}

-- the two halves of the monitor's law
pub handlers_keep : OfSoundImages monitor_code (λ i t. SvcLaw i t (monitor_code.stub t)) → OfSoundImages monitor_code FaultLaw → HandlersKeepTheLaw monitor_code
handlers_keep calls faults i t rules s = record { svc = calls i t rules s; memfault = faults i t rules s }

pub laws_confine : SoundImagesArePlaced → PlacedLawsConfine → (code : MonitorCode) → LawsConfine code
laws_confine placed confine code i t rules s law = confine i t (code.stub t) (placed code i t rules s).0 law

pub are_confined : SoundImagesArePlaced → ImagesStart monitor_code → HandlersConfineImages → LawsConfine monitor_code → HandlersKeepTheLaw monitor_code → SoundImagesAreConfined monitor_code
are_confined placed start images confine keep i t rules s =
    let p = placed monitor_code i t rules s in
    images i t (monitor_code.stub t) p.0 p.1 (start i t rules s) (confine i t rules s (keep i t rules s))

pub accesses_have_their_effect : SoundImagesArePlaced → BytesAreCode → CodeFits → StubIsThere → PlacedAccessesHaveTheirEffect → HandlersKeepTheLaw monitor_code → AccessesHaveTheirEffect monitor_code
accesses_have_their_effect placed bytes fits there law keep i t rules s =
    let p = (placed monitor_code i t rules s).0 in
    law i t (monitor_code.stub t) p (stub_stands bytes fits there i t rules p (audited monitor_code i t s)) (keep i t rules s)

pub laws_serve : SoundImagesArePlaced → BytesAreCode → CodeFits → StubIsThere → PlacedLawsServeSimulation → LawsServeSimulation monitor_code
laws_serve placed bytes fits there law i t rules s keeps starts apart =
    let p = (placed monitor_code i t rules s).0 in
    let a = audited monitor_code i t s in
    law monitor_code i t p (stub_stands bytes fits there i t rules p a) a.ranges keeps starts apart

pub serve_simulation : HandlersKeepTheLaw monitor_code → ImagesStart monitor_code → LawsServeSimulation monitor_code → OfSoundImages monitor_code (λ i t. RangesAreApart t.inits → Law (setting_of monitor_code i t) (Invariant i t))
serve_simulation keep start serve i t rules s apart = serve i t rules s (keep i t rules s) (start i t rules s) apart

pub stubs : SoundImagesArePlaced → BytesAreCode → CodeFits → StubIsThere → OfSoundImages monitor_code (λ i t. StubStands i t (stub_address t))
stubs placed bytes fits there i t rules s = stub_stands bytes fits there i t rules (placed monitor_code i t rules s).0 (audited monitor_code i t s)
