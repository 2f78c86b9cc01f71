-- What has a start in the first form, by the look-ups of its two members.
use Rattle.std.proofs.Common.{◌≡◌, Option, Some, None, codes, option_map, sym}
use Rattle.std.specs.Prelude.{MatchOption}
use Rattle.schema_values.specs.declared.json_value.Json.{Json, Text as Words}
use Rattle.schema_values.specs.Get.{get_of}
use Rattle.page_tokens.specs.Forms.{v1}

-- nothing starts in it
abbrev pub HasNoStart : Json → Type 0
HasNoStart json = (start : Json) → v1.HasStart json start → ⊥

pub no_version : (json : Json) → get_of (codes "v") json ≡ None → HasNoStart json
no_version json none start has = absurd (cc (none, has.0))

pub other_version : (json version : Json) → get_of (codes "v") json ≡ Some version → (version ≡ Words (codes "v1") → ⊥) → HasNoStart json
other_version json version is other start has = let same : version ≡ Words (codes "v1") = cc (is, has.0) in other same

pub start_found : {R : Type 0} (value : R → Json) (found : Option R) (json : Json) → get_of (codes "v") json ≡ Some (Words (codes "v1")) → option_map value found ≡ get_of (codes "page_start") json
    → MatchOption found (HasNoStart json) (λ start. v1.HasStart json (value start))
start_found value None json version is = λ start has. absurd (cc (is, has.1))
start_found value (Some start) json version is = (version, sym is)
