-- The header lines of errors: each has a name in lower case and a value (RFC 9110, section 5).
use Rattle.std.specs.Prelude.{ℕ, List, [], ◌∷◌, ◌++◌, Some, unwrap_or}
use Rattle.std.specs.Borrow.{Fml, Lends, MutBor}
use Rattle.http_header.specs.FieldValue.{plain_value}
use Rattle.http_header.specs.Token.{lowercase}
use Rattle.header_lists.specs.contracts.header_list.HeaderList as header_list
use Rattle.header_lists.specs.HeaderLists.{Line}
use Rattle.http_status.specs.contracts.error.HttpError as http_error
use Rattle.http_status.specs.declared.error.HttpError.{HttpError}

-- the line of a name, as it is written, and a value
abbrev pub header_line : List ℕ → List ℕ → Line
header_line name value = (lowercase name, plain_value value)

-- the lines that an error brings along
abbrev pub own_lines : HttpError → List Line
own_lines error = unwrap_or error.headers []

-- the error with these lines in place of its own
abbrev pub with_lines : HttpError → List Line → HttpError
with_lines error lines = record error { headers = Some lines }

-- the error with a line behind its own
abbrev pub with_line : HttpError → List ℕ → List ℕ → HttpError
with_line error name value = with_lines error (own_lines error ++ header_line name value ∷ [])

-- the error has the lines that are last written through the list
abbrev pub LendsLines : MutBor HttpError → MutBor (List Line) → Fml
LendsLines error lines = Lends http_error.the_row header_list.the_row error lines (with_lines error.now)
