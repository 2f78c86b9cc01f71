-- How the members of an object come one after the other.
use Rattle.std.proofs.Common.{◌≡◌, ℕ, List, [], ◌∷◌, ◌++◌, Option, Some, None, append_assoc, refl, sym, ap, ◌∙◌}
use Rattle.schema_values.specs.declared.json_value.Json.{Json, Object}
use Rattle.schema_values.specs.declared.json_value.Member.{Member}
use Rattle.openapi_values.specs.Objects.{Entry, present, members_of, object_of}

present-append : (name : List ℕ) (value : Option Json) (ms rest : List Member) → present name value ms ++ rest ≡ present name value (ms ++ rest)
present-append name None ms rest = refl
present-append name (Some v) ms rest = refl

pub members_of-append : (es fs : List Entry) → members_of (es ++ fs) ≡ members_of es ++ members_of fs
members_of-append [] fs = refl
members_of-append (e ∷ es) fs =
    ap (present e.0 e.1) (members_of-append es fs) ∙ sym (present-append e.0 e.1 (members_of es) (members_of fs))

-- the new members are the old ones and those of the entries
pub record Adds (old : List Member) (es : List Entry) (new : List Member) : Type 0 where
  pub are : new ≡ old ++ members_of es

pub first : (name : List ℕ) (is value : Option Json) (old new : List Member) → new ≡ old ++ present name value [] → value ≡ is → Adds old ((name, is) ∷ []) new
first name is value old new n v = record { are = n ∙ ap (λ x. old ++ present name x []) v }

pub joined : {old : List Member} {es : List Entry} {mid : List Member} → Adds old es mid → (fs : List Entry) (new : List Member) → new ≡ mid ++ members_of fs → Adds old (es ++ fs) new
joined {old} {es} {mid} a fs new n =
    record { are = n ∙ ap (λ ms. ms ++ members_of fs) a.are ∙ append_assoc old (members_of es) (members_of fs) ∙ ap (λ ms. old ++ ms) (sym (members_of-append es fs)) }

pub added : {old : List Member} {es : List Entry} {mid : List Member} → Adds old es mid → (name : List ℕ) (is value : Option Json) (new : List Member) → new ≡ mid ++ present name value [] → value ≡ is
    → Adds old (es ++ (name, is) ∷ []) new
added a name is value new n v = joined a ((name, is) ∷ []) new (first name is value _ new n v).are

pub object : {none : List Member} {es : List Entry} {members : List Member} → none ≡ [] → Adds none es members → Object members ≡ object_of es
object {none} {es} {members} n a = ap Object (a.are ∙ ap (λ ms. ms ++ members_of es) n)
