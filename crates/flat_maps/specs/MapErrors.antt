-- What an error of a map of texts says. The errors are those of this library.
use Rattle.std.specs.Prelude.{◌≡◌, ⊤, ℕ, List, codes}
use Rattle.std.specs.Str.{encode_utf8_all}
use Rattle.std.specs.declared.result.Result.{Result}
use Rattle.std.specs.declared.result.Result.TheVariants.{Ok, Err}
use Rattle.flat_maps.specs.declared.map_error.MapError.{MapError}
use Rattle.flat_maps.specs.declared.map_error.MapError.TheVariants.{Refused, OutOfMemory}

-- a fact of the text, where the error is a refusal
abbrev pub IfRefused : MapError → (List ℕ → Type 0) → Type 0
IfRefused (Refused text) Fact = Fact text
IfRefused OutOfMemory Fact = ⊤

-- the error is a refusal with this text, unless memory ran out
abbrev pub Refuses : MapError → List ℕ → Type 0
Refuses error text = IfRefused error (λ told. told ≡ text)

-- the error is what is told, unless memory ran out
abbrev pub IsToldBy : {V : Type 0} → MapError → Result V (List ℕ) → Type 0
IsToldBy (Refused text) told = told ≡ Err text
IsToldBy OutOfMemory told = ⊤

-- the answer, as it is seen, is what is told: a value, or the text of a refusal, unless memory ran out
abbrev pub AnswersAs : {T V : Type 0} → (T → V) → Result T MapError → Result V (List ℕ) → Type 0
AnswersAs seen (Ok value) told = told ≡ Ok (seen value)
AnswersAs seen (Err error) told = IsToldBy error told

-- what an error is shown as, in UTF-8: what is told of a refusal
abbrev pub error_text : MapError → List ℕ
error_text (Refused text) = encode_utf8_all text
error_text OutOfMemory = codes "out of memory"
