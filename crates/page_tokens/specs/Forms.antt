-- How the start of a page stands in the JSON that a token encodes.
use Rattle.std.specs.Prelude.{◌≡◌, [], ◌∷◌, Some, codes}
use Rattle.schema_values.specs.declared.json_value.Json.{Json, Text as Words, Object}
use Rattle.schema_values.specs.Get.{get_of}
use Rattle.schema_values.specs.Member.{member}

-- the object that is made of the JSON of a selector, and which JSON stands for one in an object that is read
pub record Form : Type 1 where
  pub object : Json → Json
  pub HasStart : Json → Json → Type 0

-- the object `{"v":"v1","page_start":S}`; of other members nothing is asked
abbrev pub v1 : Form
v1 = record {
  object = λ start. Object (member (codes "v") (Words (codes "v1")) ∷ member (codes "page_start") start ∷ []);
  HasStart = λ json start.
      (get_of (codes "v") json ≡ Some (Words (codes "v1"))) × (get_of (codes "page_start") json ≡ Some start);
}
