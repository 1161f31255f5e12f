-- How many members an object has.
use Rattle.std.proofs.Common.{◌≡◌, List, [], ◌∷◌, length, String, refl, ap, suc}
use Rattle.std.specs.declared.alloc.Global.{Global}
use Rattle.serde_json.specs.declared.value.Value.{Value}
use Rattle.serde_json.specs.View.{members_view}
use Rattle.recorder.specs.Reading.{count_members}

-- as many as the map has
pub count_members_length : (ms : List (String Global × Value)) → count_members (members_view ms) ≡ length ms
count_members_length [] = refl
count_members_length (m ∷ ms) = ap suc (count_members_length ms)
