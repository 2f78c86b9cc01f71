-- The schemas without a fault are those of what is asked for.
use Rattle.std.proofs.Common.{◌≡◌, ℕ, List, Option, None, refl}
use Rattle.schema_values.specs.declared.schema.Schema.{Schema}
use Rattle.schema_util.specs.References.{Names}
use Rattle.schema_util.specs.Scalars.{Asked, Fault, FirstFault, accepted, rejected, breaks, goes_on, of_members, FirstFaultAmong, none_left, at_first, at_rest, IsOf, by_type, behind_reference, by_members, AreOf, no_more, one_more}

module _ (asked : Asked) (names : Names) where
  mutual
    pub faultless_is : {met : List (List ℕ)} {schema : Schema} {fault : Option Fault} → FirstFault asked names met schema fault → fault ≡ None → IsOf asked names met schema
    faultless_is (accepted e) none = by_type e
    faultless_is (rejected e) none = absurd (cc none)
    faultless_is (breaks text why e f) none = absurd (cc none)
    faultless_is (goes_on text name next fault e f more) none = behind_reference text name next e f (faultless_is more none)
    faultless_is (of_members members fault e all) none = by_members members e (faultless_are all none)

    faultless_are : {met : List (List ℕ)} {members : List Schema} {fault : Option Fault} → FirstFaultAmong asked names met members fault → fault ≡ None → AreOf asked names met members
    faultless_are none_left none = no_more
    faultless_are (at_first fault first) none = absurd (cc none)
    faultless_are (at_rest fault first rest) none = one_more (faultless_is first refl) (faultless_are rest none)

  mutual
    pub is_faultless : {met : List (List ℕ)} {schema : Schema} → IsOf asked names met schema → FirstFault asked names met schema None
    is_faultless (by_type e) = accepted e
    is_faultless (behind_reference text name next e f more) = goes_on text name next None e f (is_faultless more)
    is_faultless (by_members members e all) = of_members members None e (are_faultless all)

    are_faultless : {met : List (List ℕ)} {members : List Schema} → AreOf asked names met members → FirstFaultAmong asked names met members None
    are_faultless no_more = none_left
    are_faultless (one_more first rest) = at_rest None (is_faultless first) (are_faultless rest)
