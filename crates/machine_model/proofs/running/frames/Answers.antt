use Rattle.machine_model.proofs.Stack.{words_written}
use Rattle.machine_model.proofs.Frames.{unstacked_frame, status_tells, frame_read}
use Rattle.machine_model.proofs.EntryFrame.{open_frame}
use Rattle.machine_model.proofs.running.frames.Goals as goal

pub returns-clause-pushed : goal.returns-clause-pushed
returns-clause-pushed c = words_written

pub returns-clause-taken_back : goal.returns-clause-taken_back
returns-clause-taken_back c = unstacked_frame

pub returns-clause-of_thread : goal.returns-clause-of_thread
returns-clause-of_thread c = status_tells

pub returns-clause-read_back : goal.returns-clause-read_back
returns-clause-read_back c = frame_read

pub returns-clause-in_ram : goal.returns-clause-in_ram
returns-clause-in_ram c = open_frame
