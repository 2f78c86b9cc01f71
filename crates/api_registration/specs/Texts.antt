-- What errors of registering are printed as, in UTF-8.
use Rattle.std.specs.Prelude.{ℕ, List, ◌++◌, codes}
use Rattle.std.specs.List.{flat_map}
use Rattle.std.specs.Str.{encode_utf8_all}
use Rattle.api_registration.specs.declared.error.ApiDescriptionBuildErrors.{ApiDescriptionBuildErrors}
use Rattle.api_registration.specs.declared.error.ApiDescriptionRegisterError.{ApiDescriptionRegisterError}

-- as `failed to register endpoint 'O': M`, with the operation id and the message
abbrev pub error_text : ApiDescriptionRegisterError → List ℕ
error_text error =
    codes "failed to register endpoint '" ++ encode_utf8_all error.operation_id
    ++ codes "': " ++ encode_utf8_all error.message

-- as a line `  - registering 'O' failed: M`
abbrev pub error_line : ApiDescriptionRegisterError → List ℕ
error_line error =
    codes "  - registering '" ++ encode_utf8_all error.operation_id
    ++ codes "' failed: " ++ encode_utf8_all error.message ++ codes "\n"

-- a heading, and a line for each
abbrev pub errors_text : ApiDescriptionBuildErrors → List ℕ
errors_text refused = codes "failed to register endpoints: \n" ++ flat_map error_line refused.errors
