-- Sound images tell who runs.
use Rattle.machine_model.specs.Locality.{StepsReadWhatTheyList}
use Rattle.monitor_model.specs.Block.{first_block}
use Rattle.monitor_model.specs.Confined.{later}
use Rattle.monitor_model.specs.Placed.{SoundImagesArePlaced}
use Rattle.monitor_model.specs.Promises.{HandlersKeepTheLaw, ImagesStart}
use Rattle.monitor_program.specs.TheCode.{monitor_code}
use Rattle.monitor_confined.specs.Reaches.{ThreadsReach}
use Rattle.monitor_confined.specs.ThreadSteps.{ThreadStepsAreConfined}
use Rattle.monitor_runs.specs.WhoRuns.{SoundImagesTellWhoRuns}
use Rattle.monitor_runs.specs.Unread.{SoundImagesIgnoreUnreadBytes}
use Rattle.monitor_runs.proofs.Segments.{RunLaws}
use Rattle.monitor_runs.proofs.Inductions.{holds_at}
use Rattle.monitor_runs.proofs.ThreadRuns.{who_runs}
use Rattle.monitor_runs.proofs.UnreadSteps.{step_ignores}

pub sound_images_tell : RunLaws → SoundImagesArePlaced → ImagesStart monitor_code → HandlersKeepTheLaw monitor_code → SoundImagesTellWhoRuns
sound_images_tell laws placed starts keep i t rules sound queues first reset =
    let p = (placed monitor_code i t rules sound).0 in
    let s = starts i t rules sound queues first reset in
    who_runs laws i t p (monitor_code.stub t) (keep i t rules sound) first s.start_up s.begun.holds s.at_main.pc s.at_main.sp

pub sound_images_ignore : StepsReadWhatTheyList → ThreadsReach → ThreadStepsAreConfined → RunLaws → SoundImagesArePlaced → ImagesStart monitor_code → HandlersKeepTheLaw monitor_code → SoundImagesIgnoreUnreadBytes
sound_images_ignore reads reach confined laws placed starts keep i t rules sound queues first reset n other closed started thread live alike =
    let p = (placed monitor_code i t rules sound).0 in
    let s = starts i t rules sound queues first reset in
    let x = holds_at laws i t p (monitor_code.stub t) (keep i t rules sound) first s.start_up (first_block t) s.begun.holds n started thread in
    step_ignores reads reach confined i t p x.0 (later i t first n) x.1 closed live other alike
