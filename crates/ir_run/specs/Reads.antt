-- What is read of the state of a run: where its frames stand, and what the registers of the running one hold.
use Rattle.std.specs.Prelude.{List, [], ◌∷◌}
use Rattle.ir_model.specs.Resolved.{Value}
use Rattle.ir_model.specs.State.{Frame, SourceState, Running, Ended}
use Rattle.ir_run.specs.declared.reads.FramePlace.{FramePlace}

abbrev pub spot_of : Frame → FramePlace
spot_of fr = record { func = fr.func; block = fr.block; place = fr.place }

-- the running frame first; a run that has ended has none
abbrev pub frames_of : SourceState → List Frame
frames_of (Running frames m) = frames
frames_of (Ended how) = []

-- those of the first of these frames
abbrev pub registers_of : List Frame → List Value
registers_of [] = []
registers_of (fr ∷ rest) = fr.regs
