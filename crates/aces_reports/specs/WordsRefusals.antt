-- Beyond the program's claim: only laws, proofs and functions inside the tool cite this file.
-- The answer where the system does not give the words.
use Rattle.std.specs.Prelude.{ℕ, List}
use Rattle.aces_reports.specs.declared.words_refusal.WordsRefusal.{WordsRefusal}
use Rattle.aces_reports.specs.declared.words_refusal.WordsRefusal.TheVariants.{NotText, NoMemory}
use Rattle.aces_reports.specs.FaultLines.{usage_line, memory_line}

abbrev pub refusal_status : WordsRefusal → ℕ
refusal_status NotText = 2
refusal_status NoMemory = 6

abbrev pub refusal_line : WordsRefusal → List ℕ
refusal_line NotText = usage_line
refusal_line NoMemory = memory_line
