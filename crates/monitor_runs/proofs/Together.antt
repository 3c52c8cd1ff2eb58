-- Sound images have all three parts.
use Rattle.monitor_model.specs.Promises.{OfSoundImages}
use Rattle.monitor_program.specs.TheCode.{monitor_code}
use Rattle.monitor_runs.specs.WhoRuns.{SoundImagesTellWhoRuns, WhoRunsComesBack}
use Rattle.monitor_runs.specs.Unread.{SoundImagesIgnoreUnreadBytes}
use Rattle.monitor_runs.specs.Runs.{TellsWhoRuns}

pub sound_images_tell : SoundImagesTellWhoRuns → WhoRunsComesBack → SoundImagesIgnoreUnreadBytes → OfSoundImages monitor_code TellsWhoRuns
sound_images_tell tell back ignore i t rules sound queues first reset =
    let who = tell i t rules sound queues first reset in
    (who, back i t first who, ignore i t rules sound queues first reset)
