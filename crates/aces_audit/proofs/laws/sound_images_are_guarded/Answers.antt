use Rattle.aces_audit.proofs.laws.sound_images_are_guarded.Goals as goal

pub returns : goal.returns
returns c = λ i t rules sound. record {
  confined = c.sound_images_are_confined.ensures i t rules sound;
  who_runs = c.sound_runs.ensures i t rules sound;
  memory = c.runs_keep_memory.ensures i t rules sound;
}
