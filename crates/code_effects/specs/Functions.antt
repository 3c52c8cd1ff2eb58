-- Beyond the program's claim: only laws, proofs and functions inside the tool cite this file.
-- The code of a whole function that stands at an address: where the code of each place stands, and how places follow each other.
use Rattle.std.specs.Prelude.{◌≡◌, ℕ, suc, ◌+◌, ◌<◌, ◌≤◌, List, length, Option, Some, None}
use Rattle.std.proofs.Math.ListN.{get_or}
use Rattle.machine_devices.specs.declared.image.Image.{Image}
use Rattle.machine_model.specs.declared.state.ProtectionState.{ProtectionState}
use Rattle.machine_model.specs.State.{PermissionTest}
use Rattle.ir_model.specs.Resolved.{NumberedInst, NumberedFunc, Does, no_block}
use Rattle.ir_model.specs.Signatures.{here_of}
use Rattle.code_model.specs.declared.places.Places.{Places}
use Rattle.code_model.specs.declared.places.CallSite.{CallSite}
use Rattle.code_model.specs.Places.{crosses}
use Rattle.code_model.specs.Templates.{entry_items}
use Rattle.code_model.specs.Sizes.{inst_size, entry_size, place_offset}
use Rattle.code_model.specs.FunctionCode.{lent, here_items, function_items, function_labels}
use Rattle.code_effects.specs.Items.{ItemsAt}

module _ (j : PermissionTest) (i : Image) (p : ProtectionState) (g : NumberedFunc) (q : Places) (labels : List (Option ℕ)) (first at : ℕ) where
  pub record PlacesStand : Type 0 where
    pub entry : ItemsAt j i p labels at (entry_items g q)
    pub places : (b k : ℕ) → b < length g.blocks → k ≤ length (get_or g.blocks b no_block).insts →
        ItemsAt j i p labels (at + place_offset g q.sites (lent g q) b k) (here_items g q first (at + place_offset g q.sites (lent g q) b k) b k (here_of g b k))

pub record FunctionsStand : Type 0 where
  -- the code of each place of a function stands where the function stands
  pub stand : (j : PermissionTest) (i : Image) (p : ProtectionState) (g : NumberedFunc) (q : Places) (labels : List (Option ℕ)) (first at : ℕ) →
      ItemsAt j i p labels at (function_items g q first at) → PlacesStand j i p g q labels first at
  -- the first block stands behind the entry, and the next place behind an instruction
  pub first_place : (g : NumberedFunc) (sites : List CallSite) (n : ℕ) → place_offset g sites n 0 0 ≡ entry_size g n
  pub next_place : (g : NumberedFunc) (sites : List CallSite) (n b k : ℕ) (y : NumberedInst) → here_of g b k ≡ Does y →
      place_offset g sites n b (suc k) ≡ place_offset g sites n b k + inst_size (crosses sites b k) y
  -- a block's label is the address of its first place
  pub labels : (g : NumberedFunc) (q : Places) (at b : ℕ) → b < length g.blocks → get_or (function_labels g q at) b None ≡ Some (at + place_offset g q.sites (lent g q) b 0)
