-- Accepted endpoints may be listed together at a version.
use Rattle.std.proofs.Common.{◌≡◌, Bool, true, false, List, []}
use Rattle.std.proofs.Common.{is_some, IsTrue, refl, ◌∙◌, ap, subst, arith, inl}
use Rattle.std.proofs.lemmas.Bool.{and_parts}
use Rattle.std.proofs.lemmas.List.Elements.{All-contains, All-contains_itself}
use Rattle.std.proofs.lemmas.List.Kept.{AllPairs-filter}
use Rattle.std.specs.Prelude.{◌≢◌, All, AllPairs, Contains}
use Rattle.semver.specs.Parse.{Parts}
use Rattle.openapi_values.specs.Admits.{method_member}
use Rattle.descriptors.specs.contracts.table.Definition as definitions
use Rattle.descriptors.specs.declared.table.Definition.{Definition}
use Rattle.descriptors.specs.Definitions.{entry_of}
use Rattle.descriptors.proofs.CallerLemmas.{entry_name}
use Rattle.typed_values.proofs.CallerLemmas.{entry_inside}
use Rattle.handler_shapes.specs.ShapeChecks.{ShapePasses}
use Rattle.handler_shapes.specs.ShapeLengths.{ShapeHasShortLengths}
use Rattle.api_versions.specs.Overlaps.{Overlaps}
use Rattle.api_declarations.specs.Serving.{holds, is_listed}
use Rattle.api_declarations.specs.Values.{DeclarationValue}
use Rattle.api_declarations.proofs.CallerLemmas.{held}
use Rattle.endpoint_parameters.proofs.CallerLemmas.{none_holds}
use Rattle.api_registration.specs.declared.cause.RegisterCause.TheVariants as cause
use Rattle.api_registration.specs.Accepted.{AreRegistered, MayStandBehind}
use Rattle.endpoint_checks.specs.Clashes.{DefinesOtherwise, DiffersIn}
use Rattle.api_registration.proofs.CallerLemmas.{apart_behind, each_accepted, may_passes, pairs_accepted}
use Rattle.api_documents.specs.Accepted.{HasListedMethod, MayBeListed, TablesAgree}
use Rattle.api_documents.specs.ErrorNames.{same_code}
use Rattle.api_documents.specs.Listed.{listed, path_of}
use Rattle.api_documents.proofs.CallerLemmas.{chosen, same_code-is, same_code-refl}
use Rattle.api_agreement.proofs.Elements.{is_there}

-- ---- definitions of one name

same_definition : (x y : Definition) → ¬ (x ≢ y) → x ≡ y
same_definition x y not_other =
    by_test (same_code (definitions.the_row.coded.code x) (definitions.the_row.coded.code y)) refl
  where
    by_test : (b : Bool) → same_code (definitions.the_row.coded.code x) (definitions.the_row.coded.code y) ≡ b → x ≡ y
    by_test true is = definitions.the_row.coded.inj x y (same_code-is _ _ is)
    by_test false is =
        absurd (not_other (λ same.
        let itself : same_code (definitions.the_row.coded.code x) (definitions.the_row.coded.code y) ≡ true =
        subst (λ z. same_code (definitions.the_row.coded.code x) (definitions.the_row.coded.code z) ≡ true) same
        (same_code-refl _) in absurd (cc (is, itself))))

module _ (version : Parts) where
  abbrev Shown : DeclarationValue → Type 0
  Shown d = is_listed version d ≡ true

  -- what two accepted endpoints meet, where both are listed
  record StandTogether (d other : DeclarationValue) : Type 0 where
    apart : Shown d → Shown other → path_of d ≡ path_of other → d.method ≡ other.method → ⊥
    agree : Shown d → Shown other → TablesAgree d.shape.table other.shape.table

  shown_parts : (d : DeclarationValue) → Shown d → IsTrue d.visible × IsTrue (holds d.versions version)
  shown_parts d shown = and_parts d.visible (holds d.versions version) shown

  -- both hold the version
  overlap : (d other : DeclarationValue) → Shown d → Shown other → Overlaps d.versions other.versions
  overlap d other shown other_shown = inl (record {
    version = version;
    in_left = (held d.versions version).0 (shown_parts d shown).1;
    in_right = (held other.versions version).0 (shown_parts other other_shown).1;
  })

  module _ (before : List DeclarationValue) (e : DeclarationValue) (may : MayStandBehind before e)
      (other : DeclarationValue) (c : Contains before other) where
    clash : Shown other → Shown e → path_of other ≡ path_of e → other.method ≡ e.method → ⊥
    clash other_shown shown same_path same_method =
        apart_behind before e may other c same_path
        (record { method = same_method; versions = overlap e other shown other_shown })

    same_tables : Shown other → Shown e → TablesAgree other.shape.table e.shape.table
    same_tables other_shown shown name x y found own =
        same_definition x y (λ differ.
        none_holds (DiffersIn other.shape.table) e.shape.table
        (λ definition first.
        none_holds (DefinesOtherwise e) before
        (λ z clashing. may.1.none cause.DefinitionClash (_, (z, clashing, refl))) other c (record {
          visible = (shown_parts e shown).0;
          other_visible = (shown_parts other other_shown).0;
          versions = overlap e other shown other_shown;
          definition = definition;
          first = first;
        }))
        y (entry_inside e.shape.table name y own)
        (x, ap (entry_of other.shape.table) (entry_name e.shape.table name y own) ∙ found, differ))

    together : StandTogether other e
    together = record { apart = clash; agree = same_tables }

  method_known : (before : List DeclarationValue) (e : DeclarationValue) → MayStandBehind before e → HasListedMethod e
  method_known before e may = let there =
      is_there (method_member e.method) (λ is. may.1.none cause.BadMethod (_, (is, refl))) in ap is_some there.1

  module _ (ds : List DeclarationValue) (registered : AreRegistered ds) where
    -- what holds of all holds of those that are listed
    of_listed : (P : DeclarationValue → Type 0) → All P ds → All P (listed version ds)
    of_listed P all =
        λ k d h. All-contains P ds _ all
        (chosen (is_listed version) ds _ (All-contains_itself (listed version ds) k d h)).0

    all_shown : All Shown (listed version ds)
    all_shown = λ k d h. (chosen (is_listed version) ds _ (All-contains_itself (listed version ds) k d h)).1

    all_together : AllPairs StandTogether (listed version ds)
    all_together =
        AllPairs-filter StandTogether (is_listed version) ds
        (pairs_accepted MayStandBehind StandTogether together [] ds registered.accepted)

    pub may_be_listed : MayBeListed (listed version ds)
    may_be_listed = record {
      methods =
          of_listed HasListedMethod
          (each_accepted MayStandBehind HasListedMethod method_known [] ds registered.accepted);
      apart = λ i j d up low. (all_together i j d up low).apart (all_shown i d (omega (arith, up, low)))
          (all_shown j d low);
      definitions =
          λ i j d up low. (all_together i j d up low).agree (all_shown i d (omega (arith, up, low)))
          (all_shown j d low);
      passing =
          of_listed (λ d. ShapePasses d.shape)
          (each_accepted MayStandBehind (λ d. ShapePasses d.shape) may_passes [] ds registered.accepted);
      lengths = of_listed (λ d. ShapeHasShortLengths d.shape) registered.lengths;
    }
