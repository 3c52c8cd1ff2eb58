-- Beyond the program's claim: only laws, proofs and functions inside the tool cite this file.
-- The ends that a machine comes to by itself, and what a step that ends it does.
use Rattle.std.specs.Prelude.{◌≡◌, ◌⊎◌}
use Rattle.machine_devices.specs.declared.image.Image.{Image}
use Rattle.machine_model.specs.declared.state.End.{End}
use Rattle.machine_model.specs.declared.state.End.TheVariants.{Halt, InputEnd, Limit, Stop, Refused}
use Rattle.machine_model.specs.State.{State, Turn, PermissionTest, ends}
use Rattle.machine_model.specs.Step.{turn}

-- an end of the machine's own: only runs answer the other two
abbrev pub IsOwn : End → Type 0
IsOwn (Halt n) = Unit {0}
IsOwn InputEnd = Unit {0}
IsOwn Limit = ⊥
IsOwn (Stop r a) = Unit {0}
IsOwn Refused = ⊥

-- a step that ends the machine does nothing else: it has no event, and neither stores nor loads
abbrev pub EndsOrGoesOn : State → Turn → Type 0
EndsOrGoesOn s t = (t.to.ending ≡ s.ending) ⊎ ((e : End) × IsOwn e × (t ≡ ends e s))

abbrev pub StepsEndOrGoOn : Type 0
StepsEndOrGoOn = (j : PermissionTest) (i : Image) (s : State) → EndsOrGoesOn s (turn j i s)
