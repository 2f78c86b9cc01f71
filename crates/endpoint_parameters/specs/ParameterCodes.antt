-- What contracts see of a parameter in the code, and its code.
use Rattle.std.specs.Prelude.{◌≡◌, ◌⊎◌, Bool, refl}
use Rattle.std.proofs.Common.{inl, inr}
use Rattle.std.specs.Coded.{Coded, code_by, coded⊎}
use Rattle.descriptors.specs.contracts.desc.Field as fields
use Rattle.descriptors.specs.declared.desc.Field.{Field}
use Rattle.endpoint_parameters.specs.Parameters.{Parameter, in_path, in_query, in_header}
use Rattle.endpoint_parameters.specs.Parameters.{is_in_path, is_in_query, is_in_header}
use Rattle.endpoint_parameters.specs.declared.parameter.Place.{Place}
use Rattle.endpoint_parameters.specs.declared.parameter.Place.TheVariants.{Path, Query, Header}

-- a parameter as a choice of fields
abbrev pub choice_of : Parameter → Field ⊎ (Field ⊎ Field)
choice_of (in_path field) = inl field
choice_of (in_query field) = inr (inl field)
choice_of (in_header field) = inr (inr field)

-- the parameter of a choice
abbrev pub parameter_of : Field ⊎ (Field ⊎ Field) → Parameter
parameter_of (inl field) = in_path field
parameter_of (inr (inl field)) = in_query field
parameter_of (inr (inr field)) = in_header field

-- a parameter comes back from its choice
pub comes_back : (p : Parameter) → parameter_of (choice_of p) ≡ p
comes_back (in_path field) = refl
comes_back (in_query field) = refl
comes_back (in_header field) = refl

-- the code of a parameter
abbrev pub parameter_code : Coded Parameter
parameter_code = code_by (Field ⊎ (Field ⊎ Field))
    (coded⊎ fields.the_row.coded (coded⊎ fields.the_row.coded fields.the_row.coded)) choice_of parameter_of comes_back

-- a field as a parameter in a place
abbrev pub parameter_at : Place → Field → Parameter
parameter_at Path = in_path
parameter_at Query = in_query
parameter_at Header = in_header

-- whether a parameter stands in a place
abbrev pub is_in : Place → Parameter → Bool
is_in Path = is_in_path
is_in Query = is_in_query
is_in Header = is_in_header
