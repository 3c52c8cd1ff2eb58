-- The keys of a table's members are those of its map.
use Rattle.std.proofs.Common.{◌≡◌, List, [], ◌∷◌, map, String, Global, string_bytes, refl, ap}
use Rattle.std.specs.Map.{keys_of}
use Rattle.toml.specs.declared.value.Value.{Value}
use Rattle.toml.specs.View.{members_view}
use Rattle.plan_board.specs.Extra.{words_of}

pub words_seen : (es : List (String Global × Value)) → words_of (members_view es) ≡ map string_bytes (keys_of es)
words_seen [] = refl
words_seen (e ∷ es) = ap (λ ws. string_bytes e.0 ∷ ws) (words_seen es)
