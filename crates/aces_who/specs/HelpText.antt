-- What `help` prints: the program's name with its number, the commands with their words, what words may be, and the statuses.
use Rattle.std.specs.Prelude.{ℕ, List, [], ◌∷◌, ◌++◌, flat_map, codes}
use Rattle.machine_lines.specs.Lines.{line_feed}

abbrev pub help_lines : List (List ℕ)
help_lines =
    codes "aces 1"
    ∷ codes "aces compile FIRMWARE BOARD POLICY IMAGE: writes the image of a firmware for a board"
    ∷ codes "aces run IMAGE TAPE N: runs an image on recorded input for at most N machine steps"
    ∷ codes "aces bin IMAGE FILE: writes the flash bytes of an image"
    ∷ codes "aces check FIRMWARE: checks a firmware, or tells its first fault"
    ∷ codes "aces source FIRMWARE POLICY TAPE N: runs the source on recorded input for at most N steps"
    ∷ codes "aces list FIRMWARE BOARD POLICY: the compartments on a board, and what lies where"
    ∷ codes "aces stack FIRMWARE BOARD POLICY: how much of the stack the calls need"
    ∷ codes "aces audit IMAGE: checks an image from anyone"
    ∷ codes "aces tables IMAGE: what the tables of an image say"
    ∷ codes "aces watch IMAGE TAPE N ADDRESS: runs an image up to its first access at an address"
    ∷ codes "aces state IMAGE TAPE N: what the machine holds after at most N steps"
    ∷ codes "aces help: these lines"
    ∷ codes "aces who FIRMWARE BOARD POLICY: who may write, read and use what, and who needs it"
    ∷ codes "aces why FIRMWARE: what each load, store and call may reach"
    ∷ codes "aces symbols FIRMWARE BOARD POLICY: what lies where in an image, for a debugger"
    ∷ codes "aces where FIRMWARE POLICY TAPE N: where the source stands after at most N steps"
    ∷ codes "aces selftest SEED SIZE: runs source and image of a generated firmware, and compares both"
    ∷ codes "aces explain FIRMWARE: the first fault of a firmware with its place, what was found, and the rule"
    ∷ codes "aces explain FIRMWARE BOARD POLICY: the same, and what a board's text or its room refuses"
    ∷ codes "POLICY is filename, optimized or peripheral"
    ∷ codes "N is from 0 to 4294967295, in decimal digits without a leading zero"
    ∷ codes "SEED is as N, and SIZE is from 1 to 200"
    ∷ codes "ADDRESS is from 0 to 4294967295, as firmwares have numbers: 4096 or 0x1000"
    ∷ codes "status 0: done"
    ∷ codes "status 1: a fault in a file, or a limit that a firmware passes"
    ∷ codes "status 2: words of no request"
    ∷ codes "status 3: a board has no room, or denies what a firmware reaches"
    ∷ codes "status 4: a file was not read"
    ∷ codes "status 5: a file or the output was not written"
    ∷ codes "status 6: memory ran out"
    ∷ codes "status 7: a run ended badly, or a self-test differs"
    ∷ codes "status 8: a no of stack, audit or tables"
    ∷ codes "status 9: the system did not give the words"
    ∷ []

abbrev pub help_text : List ℕ
help_text = flat_map (λ line. line ++ line_feed) help_lines
