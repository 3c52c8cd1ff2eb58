use Rattle.base_outside.proofs.mem_files.MemFiles.count_call.Goals as goal

pub returns-clause-failing : goal.returns-clause-failing
returns-clause-failing c = rw (← c.self.view_is, ← c.deref.ensures.value) c.is_among-fails.ensures
