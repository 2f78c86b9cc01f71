-- The parameters that are listed for fields are theirs.
use Rattle.std.proofs.Common.{◌≡◌, ◌↔◌, ℕ, List, codes, IsTrue, refl, sym, ◌∙◌, ap, subst}
use Rattle.descriptors.specs.declared.desc.Desc.{Desc, Option as OptionOf, Ref, out-Desc}
use Rattle.descriptors.specs.declared.desc.Desc.TheOpen.{Desc-F}
use Rattle.descriptors.specs.declared.desc.Desc.TheVariants as desc
use Rattle.descriptors.specs.declared.desc.Desc.TheViews.{roll-Desc, roll-out-Desc}
use Rattle.descriptors.specs.declared.desc.Field.{Field}
use Rattle.descriptors.specs.declared.desc.Presence.{Presence}
use Rattle.descriptors.specs.declared.desc.Presence.TheVariants.{Required, Nullable, Skipped, Default}
use Rattle.descriptors.specs.declared.table.Definition.{Definition}
use Rattle.typed_values.specs.Levels.{DescLevel}
use Rattle.typed_values.specs.Schemas.{in_header, in_query}
use Rattle.written_texts.specs.FieldParameters.{field_parameters, header_parameters, is_required, parameter_of, path_parameters, query_parameters}
use Rattle.written_texts.specs.ListedFields.{HeaderShows, IsParameterOf, ListsFields, PathShows, QueryShows, header_inner, header_own, path_own, query_own, query_reference}

-- ---- what a place shows of a type

is_option : (d x : Desc) → out-Desc d ≡ Desc-F.Option x → d ≡ OptionOf x
is_option d x e = sym (roll-out-Desc d) ∙ ap roll-Desc e ∙ desc.rolls-Option x

is_reference : (d : Desc) (name : List ℕ) → out-Desc d ≡ Desc-F.Ref name → d ≡ Ref name
is_reference d name e = sym (roll-out-Desc d) ∙ ap roll-Desc e ∙ desc.rolls-Ref name

header_shows : (d : Desc) → HeaderShows d (in_header d)
header_shows d = by_form (out-Desc d) refl
  where
    by_form : (z : DescLevel) → out-Desc d ≡ z → HeaderShows d (in_header d)
    by_form (Desc-F.Option x) e = rw e (subst (λ y. HeaderShows y x) (sym (is_option d x e)) (header_inner x))
    by_form _ e = rw e (header_own d (λ x is. absurd (cc (e, ap out-Desc is ∙ desc.outs-Option x))))

query_shows : (d : Desc) → QueryShows d (in_query d)
query_shows d = by_form (out-Desc d) refl
  where
    -- no option over a reference
    itself : (y : Desc) → out-Desc d ≡ Desc-F.Option y → ((name : List ℕ) → out-Desc y ≡ Desc-F.Ref name → ⊥) → QueryShows d d
    itself y e none = query_own d (λ name is.
        let over : y ≡ Ref name = cc (e, ap out-Desc is ∙ desc.outs-Option (Ref name)) in
        none name (ap out-Desc over ∙ desc.outs-Ref name))

    by_inner : (y : Desc) (z : DescLevel) → out-Desc y ≡ z → out-Desc d ≡ Desc-F.Option y → QueryShows d (in_query d)
    by_inner y (Desc-F.Ref name) f e =
        let over : y ≡ Ref name = is_reference y name f in
        let is : d ≡ OptionOf (Ref name) = is_option d y e ∙ ap OptionOf over in
        rw (e, f) (subst (λ w. QueryShows w y) (sym is) (subst (λ w. QueryShows (OptionOf (Ref name)) w) (sym over) (query_reference name)))
    by_inner y _ f e = rw (e, f) (itself y e (λ name g. absurd (cc (f, g))))

    by_form : (z : DescLevel) → out-Desc d ≡ z → QueryShows d (in_query d)
    by_form (Desc-F.Option y) e = by_inner y (out-Desc y) refl e
    by_form _ e = rw e (query_own d (λ name is. absurd (cc (e, ap out-Desc is ∙ desc.outs-Option (Ref name)))))

-- ---- the parameter of a field

required_where : (p : Presence) → IsTrue (is_required p) ↔ (p ≡ Required)
required_where Required = (λ h. refl, λ h. refl)
required_where Nullable = (λ h. absurd (cc h), λ h. absurd (cc h))
required_where Skipped = (λ h. absurd (cc h), λ h. absurd (cc h))
required_where (Default tree) = (λ h. absurd (cc h), λ h. absurd (cc h))

module _ (Shows : Desc → Desc → Type 0) (place : List ℕ) (shown : Desc → Desc) (shows : (d : Desc) → Shows d (shown d)) (table : List Definition) where
  of_field : (f : Field) → IsParameterOf Shows place table f (parameter_of place shown table f)
  of_field f = record {
    location = refl;
    name = refl;
    description = refl;
    required = required_where f.presence;
    schema = (shown f.desc, shows f.desc, refl);
  }

  listed : (fs : List Field) → ListsFields (IsParameterOf Shows place table) fs (field_parameters place shown table fs)
  listed fs = record { of_field = parameter_of place shown table; in_order = refl; each = of_field }

pub path_listed : (table : List Definition) (fs : List Field) → ListsFields (IsParameterOf PathShows (codes "path") table) fs (path_parameters table fs)
path_listed = listed PathShows (codes "path") (λ d. d) path_own

pub query_listed : (table : List Definition) (fs : List Field) → ListsFields (IsParameterOf QueryShows (codes "query") table) fs (query_parameters table fs)
query_listed = listed QueryShows (codes "query") in_query query_shows

pub header_listed : (table : List Definition) (fs : List Field) → ListsFields (IsParameterOf HeaderShows (codes "header") table) fs (header_parameters table fs)
header_listed = listed HeaderShows (codes "header") in_header header_shows
