-- What a look-up of this library lends, seen as the value that stands under the name.
use Rattle.std.specs.Str.{chars}
use Rattle.schema_values.specs.declared.variables.VariableValue.{VariableValue}
use Rattle.schema_values.specs.declared.variables.VariableValue.TheVariants.{String, Components}
use Rattle.flat_maps.specs.declared.given.Given.{Given}
use Rattle.flat_maps.specs.declared.given.Given.TheVariants.{One, Several}

-- the characters of the text that is lent, or the texts
abbrev pub given_of : Given → VariableValue
given_of (One text) = String (chars text.now)
given_of (Several texts) = Components texts.now
