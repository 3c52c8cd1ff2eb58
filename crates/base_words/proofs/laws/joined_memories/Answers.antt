use Rattle.base_words.proofs.Bytes.{read-append_left, read-append_right}
use Rattle.base_words.proofs.laws.joined_memories.Goals as goal

pub returns-clause-first : goal.returns-clause-first
returns-clause-first c = read-append_left

pub returns-clause-second : goal.returns-clause-second
returns-clause-second c = read-append_right
