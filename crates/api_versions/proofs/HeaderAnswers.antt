-- A request has one version, or one fault.
use Rattle.std.specs.Prelude.{◌≡◌, ◌⊎◌, List, ℕ, Option, Some, None, Ok, Err, Result, IfOk, IsOkAnd}
use Rattle.std.proofs.Common.{refl, sym, ap, ◌∙◌, inl, inr}
use Rattle.std.proofs.lemmas.Bool.{cases_Bool, true≢false}
use Rattle.std.proofs.lemmas.List.Sums.{AllPass-from_list_all, list_all-from_AllPass}
use Rattle.http_header.specs.FieldValue.{FieldValue, IsVisibleAscii, is_visible_text}
use Rattle.http_header.specs.Token.{is_visible_or_blank}
use Rattle.semver.specs.Identifiers.{parts_of}
use Rattle.semver.specs.Parse.{Parts, version_parts}
use Rattle.semver.specs.declared.Version.{Version}
use Rattle.semver.specs.declared.error.Error.{Error as VersionError}
use Rattle.http_status.specs.declared.error.HttpError.{HttpError}
use Rattle.http_status.specs.declared.refusal.HttpRefusal.{HttpRefusal}
use Rattle.http_status.specs.declared.refusal.HttpRefusal.TheVariants.{Http, OutOfMemory}
use Rattle.api_versions.specs.Order.{is_below}
use Rattle.api_versions.specs.HeaderVersions.{AnswersFault, HasVersion, HasFault, HeaderPolicy, VersionFault}
use Rattle.api_versions.specs.HeaderVersions.{fault_error, missing, not_ascii, not_a_version, not_served}

-- one version is read
one_read : (text : List ℕ) (version other : Parts) → version_parts text ≡ Ok version
    → version_parts text ≡ Ok other → version ≡ other
one_read text version other read also = cc (sym read ∙ also)

-- what has a version has no fault
pub no_fault : (policy : HeaderPolicy) (first : Option FieldValue) (version : Parts) (fault : VersionFault)
    → HasVersion policy first version → ¬ HasFault policy first fault
no_fault policy None version missing given at = cc (sym given ∙ at)
no_fault policy None version not_ascii given at = at
no_fault policy None version not_a_version given at = at
no_fault policy None version (not_served other) given at = at
no_fault policy (Some value) version missing given at = at
no_fault policy (Some value) version not_ascii given at = at given.visible
no_fault policy (Some value) version not_a_version given at = at.1 version given.read
no_fault policy (Some value) version (not_served other) given at =
    let same = one_read value.bytes version other given.read at.read in
    cc (sym given.served ∙ ap (is_below policy.max_version) same ∙ at.above)

-- one version is given
pub one_version : (policy : HeaderPolicy) (first : Option FieldValue) (version other : Parts)
    → HasVersion policy first version → HasVersion policy first other → version ≡ other
one_version policy None version other given also =
    let same : Some version ≡ Some other = sym given ∙ also in cc same
one_version policy (Some value) version other given also =
    one_read value.bytes version other given.read also.read

-- one fault stands
pub one_fault : (policy : HeaderPolicy) (first : Option FieldValue) (fault other : VersionFault)
    → HasFault policy first fault → HasFault policy first other → fault ≡ other
one_fault policy None missing missing at also = refl
one_fault policy None missing not_ascii at also = absurd also
one_fault policy None missing not_a_version at also = absurd also
one_fault policy None missing (not_served w) at also = absurd also
one_fault policy None not_ascii other at also = absurd at
one_fault policy None not_a_version other at also = absurd at
one_fault policy None (not_served v) other at also = absurd at
one_fault policy (Some value) missing other at also = absurd at
one_fault policy (Some value) not_ascii missing at also = absurd also
one_fault policy (Some value) not_ascii not_ascii at also = refl
one_fault policy (Some value) not_ascii not_a_version at also = absurd (at also.0)
one_fault policy (Some value) not_ascii (not_served w) at also = absurd (at also.visible)
one_fault policy (Some value) not_a_version missing at also = absurd also
one_fault policy (Some value) not_a_version not_ascii at also = absurd (also at.0)
one_fault policy (Some value) not_a_version not_a_version at also = refl
one_fault policy (Some value) not_a_version (not_served w) at also = absurd (at.1 w also.read)
one_fault policy (Some value) (not_served v) missing at also = absurd also
one_fault policy (Some value) (not_served v) not_ascii at also = absurd (also at.visible)
one_fault policy (Some value) (not_served v) not_a_version at also = absurd (also.1 v at.read)
one_fault policy (Some value) (not_served v) (not_served w) at also =
    ap not_served (one_read value.bytes v w at.read also.read)

-- where answers come by their causes alone, a version is given where there is one, or memory runs out
pub given_by : (policy : HeaderPolicy) (first : Option FieldValue) (result : Result Version HttpRefusal)
    → IfOk result (λ version. HasVersion policy first (parts_of version))
    → ((error : HttpError) → result ≡ Err (Http error) → AnswersFault policy first error)
    → (version : Parts) → HasVersion policy first version
    → IsOkAnd result (λ given. parts_of given ≡ version) ⊎ (result ≡ Err OutOfMemory)
given_by policy first (Ok given) ok refused version gives =
    inl (one_version policy first (parts_of given) version ok gives)
given_by policy first (Err (Http error)) ok refused version gives =
    let answer = refused error refl in absurd (no_fault policy first version answer.fault gives answer.stands)
given_by policy first (Err OutOfMemory) ok refused version gives = inr refl

-- and each fault is told where it stands, or memory runs out
pub told_by : (policy : HeaderPolicy) (first : Option FieldValue) (result : Result Version HttpRefusal)
    → IfOk result (λ version. HasVersion policy first (parts_of version))
    → ((error : HttpError) → result ≡ Err (Http error) → AnswersFault policy first error)
    → (fault : VersionFault) → HasFault policy first fault
    → (result ≡ Err (Http (fault_error policy.name fault))) ⊎ (result ≡ Err OutOfMemory)
told_by policy first (Ok given) ok refused fault stands =
    absurd (no_fault policy first (parts_of given) fault ok stands)
told_by policy first (Err (Http error)) ok refused fault stands =
    let answer = refused error refl in
    let same = one_fault policy first answer.fault fault answer.stands stands in
    inl (ap (λ e. Err (Http e)) (answer.told ∙ ap (fault_error policy.name) same))
told_by policy first (Err OutOfMemory) ok refused fault stands = inr refl

-- a version was read: it is served, or above the greatest
served_or_not : (policy : HeaderPolicy) (value : FieldValue) (version : Parts)
    → IsVisibleAscii value.bytes → version_parts value.bytes ≡ Ok version
    → ((given : Parts) × HasVersion policy (Some value) given)
    ⊎ ((fault : VersionFault) × HasFault policy (Some value) fault)
served_or_not policy value version visible read = elim (cases_Bool (is_below policy.max_version version)) [
  | inl above ↦ inr (not_served version, record { visible = visible; read = read; above = above })
  | inr served ↦ inl (version, record { visible = visible; read = read; served = served })
]

by_reading : (policy : HeaderPolicy) (value : FieldValue) (reading : Result Parts VersionError)
    → IsVisibleAscii value.bytes → version_parts value.bytes ≡ reading
    → ((given : Parts) × HasVersion policy (Some value) given)
    ⊎ ((fault : VersionFault) × HasFault policy (Some value) fault)
by_reading policy value (Ok version) visible read = served_or_not policy value version visible read
by_reading policy value (Err error) visible read =
    inr (not_a_version, (visible, λ version also. cc (sym also ∙ read)))

without_value : (policy : HeaderPolicy) (version : Option Parts) → policy.on_missing ≡ version
    → ((given : Parts) × HasVersion policy None given) ⊎ ((fault : VersionFault) × HasFault policy None fault)
without_value policy (Some version) is = inl (version, is)
without_value policy None is = inr (missing, is)

-- a request has a version or a fault
pub some_answer : (policy : HeaderPolicy) (first : Option FieldValue)
    → ((given : Parts) × HasVersion policy first given) ⊎ ((fault : VersionFault) × HasFault policy first fault)
some_answer policy None = without_value policy policy.on_missing refl
some_answer policy (Some value) = elim (cases_Bool (is_visible_text value.bytes)) [
  | inl visible ↦ by_reading policy value (version_parts value.bytes)
      (AllPass-from_list_all is_visible_or_blank value.bytes visible) refl
  | inr hidden ↦ inr (
    not_ascii,
    λ visible. true≢false (sym (list_all-from_AllPass is_visible_or_blank value.bytes visible) ∙ hidden),
  )
]

-- the same of errors
pub some_told : (policy : HeaderPolicy) (first : Option FieldValue)
    → ((given : Parts) × HasVersion policy first given) ⊎ ((error : HttpError) × AnswersFault policy first error)
some_told policy first = elim (some_answer policy first) [
  | inl given ↦ inl given
  | inr faulty ↦ inr (
    fault_error policy.name faulty.0,
    record { fault = faulty.0; stands = faulty.1; told = refl },
  )
]

pub one_error : (policy : HeaderPolicy) (first : Option FieldValue) (error other : HttpError)
    → AnswersFault policy first error → AnswersFault policy first other → error ≡ other
one_error policy first error other answer also =
    let same = one_fault policy first answer.fault also.fault answer.stands also.stands in
    answer.told ∙ ap (fault_error policy.name) same ∙ sym also.told
