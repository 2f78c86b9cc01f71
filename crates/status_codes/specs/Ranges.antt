-- Which numbers are status codes of errors. A status code has three digits, of which the first gives its
-- class (RFC 9110, section 15); `IsStatusCode` of `http` takes those from 100 to 999.
use Rattle.std.specs.Prelude.{◌≡◌, ℕ, ◌≤◌, List}
use Rattle.http.specs.StatusCode.{IsStatusCode, code_digits}

-- an error by the client, 4xx (RFC 9110, section 15.5)
abbrev pub IsClientErrorStatus : ℕ → Type 0
IsClientErrorStatus n = (400 ≤ n) × (n ≤ 499)

-- an error by the server, 5xx (RFC 9110, section 15.6)
abbrev pub IsServerErrorStatus : ℕ → Type 0
IsServerErrorStatus n = (500 ≤ n) × (n ≤ 599)

-- an error by the client or the server (RFC 9110, sections 15.5 and 15.6)
abbrev pub IsErrorStatus : ℕ → Type 0
IsErrorStatus n = (400 ≤ n) × (n ≤ 599)

-- a status code outside a range
abbrev pub IsOutside : (ℕ → Type 0) → ℕ → Type 0
IsOutside Range n = IsStatusCode n × ¬ Range n

-- the bytes are the three digits of a code in a range
abbrev pub IsTextOf : (ℕ → Type 0) → List ℕ → Type 0
IsTextOf Range bytes = (n : ℕ) × Range n × (bytes ≡ code_digits n)
