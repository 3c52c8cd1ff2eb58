-- The code of entries and returns.
use Rattle.std.proofs.Common.{refl}
use Rattle.machine_thumb.specs.Table.{encode}
use Rattle.code_model.specs.Entry.{frame_code}
use Rattle.code_model.specs.Sizes.{entry_size}
use Rattle.example_code.specs.Frames.{ComputesFrames}

pub computes_frames : ComputesFrames
unfolding encode frame_code entry_size
computes_frames = record {
  mixed_size = refl;
  mixed_shape = refl;
  mixed_lends = refl;
  mixed_entry = refl;
  mixed_entry_size = refl;
  mixed_return = refl;
  near_size = refl;
  near_words = refl;
  near_return = refl;
  far_size = refl;
  far_words = refl;
  far_return = refl;
  far_entry = refl;
  far_entry_size = refl;
}
