-- Parts of a schema that are written as the table of schemas has it.
use Rattle.std.proofs.Common.{◌≡◌, ℕ, List, [], ◌∷◌, ◌++◌, Option, Some, None, Bool, true, false, ◌⊎◌, inl, inr, refl, sym, ◌∙◌, ap, subst, codes}
use Rattle.schema_values.specs.declared.json_value.Json.{Json, List as Items, Object}
use Rattle.schema_values.specs.declared.json_value.Member.{Member}
use Rattle.schema_values.specs.Member.{member}
use Rattle.openapi_values.specs.SchemaJson.{schema_json}
use Rattle.typed_values.specs.SchemaTable.{Drawn, Remarks, annotated, annotations, defaulted, described, drawn_json, reference}
use Rattle.schema_values.specs.Parts.{Parts}
use Rattle.typed_values.specs.Schemas.{object_of, annotatable, with_null, with_default, with_description}
use Rattle.written_schemas.proofs.Notes.{before_members}
use Rattle.written_schemas.proofs.SchemaForms.{of_reference, kept, unmarked}
use Rattle.written_schemas.proofs.SchemaMembers.{beside, remarks_of, written_beside, written_reference, all_of_members}

-- ---- parts that are drawn so

abbrev pub IsShown : Bool → Remarks → Type 0
IsShown nullable r = (nullable ≡ true) ⊎ (((text : List ℕ) × r.description ≡ Some text) ⊎ ((json : Json) × r.default ≡ Some json))

-- a reference has an annotation
abbrev pub IsAnnotated : Drawn → Type 0
IsAnnotated w = w.is_reference ≡ true → IsShown w.nullable w.remarks

-- the members behind annotations; a reference with annotations stands in an `allOf` of one
abbrev pub standing : Bool → List Member → List Member
standing true members = member (codes "allOf") (Items (Object members ∷ [])) ∷ []
standing false members = members

-- the parts have the annotations and the members of the table
pub record Dressed (p : Parts) (w : Drawn) : Type 0 where
  pub no_reference : p.reference ≡ None
  pub is_unmarked : p ≡ unmarked p
  pub no_title_drawn : w.title ≡ None
  pub same_null : p.nullable ≡ w.nullable
  pub same_remarks : remarks_of p ≡ w.remarks
  pub stand : beside p ≡ standing w.is_reference w.members

pub record Bare (p : Parts) (w : Drawn) : Type 0 where
  pub name : List ℕ
  pub parts_are : p ≡ of_reference name
  pub drawn_is : w ≡ reference name

abbrev pub Shows : Parts → Drawn → Type 0
Shows p w = Bare p w ⊎ (Dressed p w × IsAnnotated w)

-- ---- what parts that are drawn so are written as

around_reference : (nullable : Bool) (given : Option (List ℕ)) (r : Remarks) (ms : List Member) → IsShown nullable r
    → annotated (annotations nullable given r) true ms ≡ annotations nullable given r ++ standing true ms
around_reference nullable given r ms h = by_cases nullable given r.description r.default h
  where
    by_cases : (nullable : Bool) (given description : Option (List ℕ)) (default : Option Json) → IsShown nullable (record { description = description; default = default })
        → annotated (annotations nullable given (record { description = description; default = default })) true ms
        ≡ annotations nullable given (record { description = description; default = default }) ++ standing true ms
    by_cases true given description default h = refl
    by_cases false (Some title) description default h = refl
    by_cases false None (Some text) default h = refl
    by_cases false None None (Some json) h = refl
    by_cases false None None None (inl e) = absurd (cc e)
    by_cases false None None None (inr (inl h)) = absurd (cc h.1)
    by_cases false None None None (inr (inr h)) = absurd (cc h.1)

stands : (nullable : Bool) (given : Option (List ℕ)) (r : Remarks) (is_reference : Bool) (ms : List Member) → (is_reference ≡ true → IsShown nullable r)
    → annotated (annotations nullable given r) is_reference ms ≡ annotations nullable given r ++ standing is_reference ms
stands nullable given r true ms shown = around_reference nullable given r ms (shown refl)
stands nullable given r false ms shown = before_members (annotations nullable given r) ms

pub written_under : (given : Option (List ℕ)) (p : Parts) (w : Drawn) → Dressed p w → IsAnnotated w → schema_json given (object_of p) ≡ drawn_json (record w { title = given })
written_under given p w d annotated =
    written_beside given p d.no_reference d.is_unmarked
    ∙ ap (λ (n : Bool). Object (annotations n given (remarks_of p) ++ beside p)) d.same_null
    ∙ ap (λ (r : Remarks). Object (annotations w.nullable given r ++ beside p)) d.same_remarks
    ∙ ap (λ (ms : List Member). Object (annotations w.nullable given w.remarks ++ ms)) d.stand
    ∙ ap Object (sym (stands w.nullable given w.remarks w.is_reference w.members annotated))

pub written_bare : (given : Option (List ℕ)) (p : Parts) (w : Drawn) → Bare p w → schema_json given (object_of p) ≡ drawn_json w
written_bare given p w b = ap (λ (q : Parts). schema_json given (object_of q)) b.parts_are ∙ written_reference given b.name ∙ ap drawn_json (sym b.drawn_is)

pub written_so : (p : Parts) (w : Drawn) → Shows p w → schema_json None (object_of p) ≡ drawn_json w
written_so p w (inl b) = written_bare None p w b
written_so p w (inr (d, annotated)) = written_under None p w d annotated ∙ ap (λ (t : Option (List ℕ)). drawn_json (record w { title = t })) (sym d.no_title_drawn)

-- ---- a further annotation

dressed_reference : (name : List ℕ) → Dressed (annotatable (of_reference name)) (reference name)
dressed_reference name = record {
  no_reference = refl;
  is_unmarked = refl;
  no_title_drawn = refl;
  same_null = refl;
  same_remarks = refl;
  stand = all_of_members name;
}

module _ (p : Parts) (w : Drawn) where
  dressed : Shows p w → Dressed (annotatable p) w
  dressed (inl b) =
      subst (λ (q : Parts). Dressed (annotatable q) w) (sym b.parts_are)
      (subst (λ (v : Drawn). Dressed (annotatable (of_reference b.name)) v) (sym b.drawn_is) (dressed_reference b.name))
  dressed (inr (d, annotated)) = subst (λ (q : Parts). Dressed q w) (sym (kept p d.no_reference)) d

  pub null_shows : Shows p w → Shows (with_null p) (record w { nullable = true; truth = None })
  null_shows h = let d = dressed h in inr (
    record {
      no_reference = d.no_reference;
      is_unmarked = ap (λ (q : Parts). record q { nullable = true }) d.is_unmarked;
      no_title_drawn = d.no_title_drawn;
      same_null = refl;
      same_remarks = d.same_remarks;
      stand = d.stand;
    },
    λ is. inl refl,
  )

  pub described_shows : (description : Option (List ℕ)) → Shows p w → Shows (with_description description p) (described description w)
  described_shows None h = h
  described_shows (Some text) h = let d = dressed h in inr (
    record {
      no_reference = d.no_reference;
      is_unmarked = ap (λ (q : Parts). record q { description = Some text }) d.is_unmarked;
      no_title_drawn = d.no_title_drawn;
      same_null = d.same_null;
      same_remarks = ap (λ (r : Remarks). record r { description = Some text }) d.same_remarks;
      stand = d.stand;
    },
    λ is. inr (inl (text, refl)),
  )

  pub defaulted_shows : (default : Option Json) → Shows p w → Shows (with_default default p) (defaulted default w)
  defaulted_shows None h = h
  defaulted_shows (Some json) h = let d = dressed h in inr (
    record {
      no_reference = d.no_reference;
      is_unmarked = ap (λ (q : Parts). record q { default = Some json }) d.is_unmarked;
      no_title_drawn = d.no_title_drawn;
      same_null = d.same_null;
      same_remarks = ap (λ (r : Remarks). record r { default = Some json }) d.same_remarks;
      stand = d.stand;
    },
    λ is. inr (inr (json, refl)),
  )
