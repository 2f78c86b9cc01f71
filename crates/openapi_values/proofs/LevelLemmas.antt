-- The value that has a number, a list or an object as its level.
use Rattle.std.proofs.Common.{◌≡◌, ℤ, List, Some, sym, ◌∙◌, ap}
use Rattle.schema_values.specs.declared.json_value.Json.{Json, Int, List as ListOf, Object, out-Json, roll-Json, roll-out-Json}
use Rattle.schema_values.specs.declared.json_value.Json.TheOpen.{Json-F}
use Rattle.schema_values.specs.declared.json_value.Json.TheVariants.{rolls-Int, rolls-List, rolls-Object}
use Rattle.schema_values.specs.declared.json_value.Member.{Member}
use Rattle.openapi_values.specs.Levels.{Level, as_number, as_list, as_object}

number_rolled : (x : Level Json) (n : ℤ) → as_number x ≡ Some n → roll-Json x ≡ Int n
number_rolled (Json-F.Int m) n f = rolls-Int m ∙ ap Int (cc f)
number_rolled Json-F.Null n f = absurd (cc f)
number_rolled (Json-F.Bool b) n f = absurd (cc f)
number_rolled (Json-F.Text t) n f = absurd (cc f)
number_rolled (Json-F.List xs) n f = absurd (cc f)
number_rolled (Json-F.Object ms) n f = absurd (cc f)

list_rolled : (x : Level Json) (ys : List Json) → as_list x ≡ Some ys → roll-Json x ≡ ListOf ys
list_rolled (Json-F.List xs) ys f = rolls-List xs ∙ ap ListOf (cc f)
list_rolled Json-F.Null ys f = absurd (cc f)
list_rolled (Json-F.Bool b) ys f = absurd (cc f)
list_rolled (Json-F.Int n) ys f = absurd (cc f)
list_rolled (Json-F.Text t) ys f = absurd (cc f)
list_rolled (Json-F.Object ms) ys f = absurd (cc f)

object_rolled : (x : Level Json) (ns : List Member) → as_object x ≡ Some ns → roll-Json x ≡ Object ns
object_rolled (Json-F.Object ms) ns f = rolls-Object ms ∙ ap Object (cc f)
object_rolled Json-F.Null ns f = absurd (cc f)
object_rolled (Json-F.Bool b) ns f = absurd (cc f)
object_rolled (Json-F.Int n) ns f = absurd (cc f)
object_rolled (Json-F.Text t) ns f = absurd (cc f)
object_rolled (Json-F.List xs) ns f = absurd (cc f)

pub number_is : (j : Json) (n : ℤ) → as_number (out-Json j) ≡ Some n → j ≡ Int n
number_is j n f = sym (roll-out-Json j) ∙ number_rolled (out-Json j) n f

pub list_is : (j : Json) (ys : List Json) → as_list (out-Json j) ≡ Some ys → j ≡ ListOf ys
list_is j ys f = sym (roll-out-Json j) ∙ list_rolled (out-Json j) ys f

pub object_is : (j : Json) (ns : List Member) → as_object (out-Json j) ≡ Some ns → j ≡ Object ns
object_is j ns f = sym (roll-out-Json j) ∙ object_rolled (out-Json j) ns f
