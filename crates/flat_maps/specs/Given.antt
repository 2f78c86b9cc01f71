-- What stands under a name: one text, or a list of texts, as the components that are left of a path.
use Rattle.std.specs.Prelude.{ℕ, List, Option, Some, None}
use Rattle.request_words.specs.HeaderLines.{lower}
use Rattle.schema_values.specs.declared.variables.VariableValue.{VariableValue}
use Rattle.schema_values.specs.declared.variables.VariableValue.TheVariants.{String, Components}

-- the text, where it is one
abbrev pub one_text : VariableValue → Option (List ℕ)
one_text (String text) = Some text
one_text (Components texts) = None

-- the texts, where they are a list
abbrev pub text_list : VariableValue → Option (List (List ℕ))
text_list (String text) = None
text_list (Components texts) = Some texts

-- what stands under each name, nothing under some
abbrev pub Names : Type 0
Names = List ℕ → Option VariableValue

-- the same, where each name is compared with its ASCII letters in lower case, as the name of a header is (RFC 9110,
-- section 5.1)
abbrev pub lowered : Names → Names
lowered names name = names (lower name)
