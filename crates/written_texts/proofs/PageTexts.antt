-- The parameters that an operation in pages lists, and what pages ask besides.
use Rattle.std.proofs.Common.{◌≡◌, ◌↔◌, ℕ, suc, ◌+◌, pos, Bool, true, false, ◌&&◌, ◌||◌, not, List, [], ◌∷◌, ◌++◌, map, Option, Some, None, is_ok, codes, IsTrue, refl, sym, ◌∙◌, ap, subst, arith, inl, inr}
use Rattle.std.proofs.lemmas.Bool.{and_from, and_parts, or_left, or_right}
use Rattle.std.proofs.lemmas.List.Folds.{list_all-map, list_any-append}
use Rattle.std.proofs.Math.Bool.{and-true}
use Rattle.std.specs.List.{list_all}
use Rattle.std.specs.Prelude.{Contains}
use Rattle.schema_values.specs.declared.json_value.Json.{Json, Object}
use Rattle.schema_values.specs.declared.json_value.Member.{Member}
use Rattle.schema_values.proofs.CallerLemmas.{contains_cases}
use Rattle.request_words.specs.declared.pairs.NamedText.{NamedText}
use Rattle.request_words.specs.declared.request.WireRequest.{WireRequest}
use Rattle.request_words.specs.Pairs.{query_pairs, values_of, last_value, has_pair}
use Rattle.openapi_values.specs.declared.parameter.Parameter.{Parameter}
use Rattle.openapi_values.specs.Listed.{listed_holds, lists_name, listed_pages_hold}
use Rattle.openapi_values.specs.Pages.{has_token, listed_if_there}
use Rattle.openapi_values.specs.RequestParameters.{stands_or_not, values_hold}
use Rattle.openapi_values.specs.Room.{values}
use Rattle.openapi_values.specs.TextAdmits.{text_within, text_admitted}
use Rattle.descriptors.specs.declared.desc.Desc.{Desc, Int, Option as OptionOf, Struct as StructOf, Text as Words}
use Rattle.descriptors.specs.declared.desc.Desc.TheOpen.{Desc-F}
use Rattle.descriptors.specs.declared.desc.Desc.TheVariants as desc
use Rattle.descriptors.specs.declared.desc.Field.{Field}
use Rattle.descriptors.specs.declared.desc.IntKind.TheVariants.{U32}
use Rattle.descriptors.specs.declared.table.Definition.{Definition}
use Rattle.descriptors.specs.declared.tree.Tree.{Tree}
use Rattle.typed_values.specs.Denotes.{Told, just, nodes, nodes_of_table, room}
use Rattle.typed_values.specs.Guarded.{IsGuarded}
use Rattle.typed_values.specs.Levels.{DescLevel}
use Rattle.typed_values.specs.SchemaTable.{Drawn, annotations, no_remarks, drawn, drawn_json, plain, schema_json}
use Rattle.typed_values.proofs.CallerLemmas.{ok_just}
use Rattle.flat_maps.specs.declared.repeats.Repeats.TheVariants.{Refuse}
use Rattle.flat_maps.specs.Flat.{resolved_at, resolved_by, resolved, under_struct, flat_fields, flat_told, FlatDenotes}
use Rattle.flat_maps.specs.Pairs.{last_values, pairs_fields, pairs_told}
use Rattle.scalar_texts.specs.Texts.{text_told}
use Rattle.scalar_texts.proofs.CallerLemmas.{text_row}
use Rattle.written_schemas.proofs.CallerLemmas.{drawn_row, all_sorted, any_sorted}
use Rattle.written_texts.specs.FieldParameters.{parameter_of}
use Rattle.written_texts.specs.FlatStructs.{IsFlatStruct, DefinesFields}
use Rattle.written_texts.specs.PageParameters.{scan_parameter, limit_field, token_field, parameter_name, page_parameters, first_page_names, PageParametersHold, HasLimit, NoneNamed}
use Rattle.written_texts.proofs.Places.{AgreesOn, pairs_told_where}
use Rattle.written_texts.proofs.ScalarTexts.{number_text, words_text}
use Rattle.written_texts.proofs.ScanTexts.{scans_hold, first_scans, later_scans}
use Rattle.written_texts.proofs.SchemaSteps.{one_more}
use Rattle.written_texts.proofs.Whole.{holds_where}

-- ---- `limit` and `page_token`, whose types are options without a table

pub none_guarded : IsGuarded []
none_guarded e c = absurd (omega (arith, c.1))

-- the schema of an option over what has no annotations
option_schema : (x : Desc) (ms : List Member) → drawn [] x ≡ plain ms → schema_json [] (OptionOf x) ≡ Object (annotations true None no_remarks ++ ms)
option_schema x ms e =
    ap drawn_json (drawn_row [] (OptionOf x) (Desc-F.Option x) (desc.outs-Option x) ∙ ap (λ (s : Drawn). record s { nullable = true; truth = None }) e)

module _ (doc : Json) (text : List ℕ) where
  option_text : (x : Desc) (ms : List Member) (told : Told) → drawn [] x ≡ plain ms → text_told [] text x ≡ told
      → ((k : ℕ) → text_within doc text (suc k) (Object (annotations true None no_remarks ++ ms)) ≡ is_ok told)
      → text_admitted doc (schema_json [] (OptionOf x)) text ≡ is_ok (text_told [] text (OptionOf x))
  option_text x ms told e same step =
      ap (λ (s : Json). text_admitted doc s text) (option_schema x ms e)
      ∙ step (values doc + values (Object (annotations true None no_remarks ++ ms)))
      ∙ sym (ok_just told)
      ∙ ap (λ (o : Told). is_ok (just o)) (sym same)
      ∙ ap (λ (o : Told). is_ok o) (sym (text_row [] text none_guarded (OptionOf x) (Desc-F.Option x) (desc.outs-Option x)))

  pub limit_text : text_admitted doc (schema_json [] limit_field.desc) text ≡ is_ok (text_told [] text limit_field.desc)
  limit_text =
      let x = Int U32 (Some (pos 1)) None in
      option_text x _ _ (drawn_row [] x (Desc-F.Int U32 (Some (pos 1)) None) (desc.outs-Int U32 (Some (pos 1)) None))
      (text_row [] text none_guarded x (Desc-F.Int U32 (Some (pos 1)) None) (desc.outs-Int U32 (Some (pos 1)) None))
      (λ k. one_more doc text k _ ∙ number_text doc (text_within doc text k) text true None no_remarks U32 (Some (pos 1)) None)

  -- any text may be a token
  token_text : text_admitted doc (schema_json [] token_field.desc) text ≡ true
  token_text =
      let x = Words None None None in
      option_text x _ _ (drawn_row [] x (Desc-F.Text None None None) (desc.outs-Text None None None))
      (text_row [] text none_guarded x (Desc-F.Text None None None) (desc.outs-Text None None None))
      (λ k. one_more doc text k _ ∙ words_text doc (text_within doc text k) text true None no_remarks None None None)
      ∙ ap (λ (o : Told). is_ok o) (text_row [] text none_guarded token_field.desc (Desc-F.Option x) (desc.outs-Option x))
      ∙ ap (λ (o : Told). is_ok (just o)) (text_row [] text none_guarded x (Desc-F.Text None None None) (desc.outs-Text None None None))

module _ (doc : Json) (pairs : List NamedText) where
  -- `limit` is a struct's one field
  limit_at : (n : ℕ) → resolved_at [] (suc n) (StructOf (limit_field ∷ []) false) ≡ Some (StructOf (limit_field ∷ []) false)
  unfolding resolved_at
  limit_at n = ap (λ (z : DescLevel). resolved_by [] (resolved_at [] n) (StructOf (limit_field ∷ []) false) z) (desc.outs-Struct (limit_field ∷ []) false)

  limit_there : resolved [] (StructOf (limit_field ∷ []) false) ≡ Some (StructOf (limit_field ∷ []) false)
  unfolding resolved room
  limit_there = limit_at (nodes_of_table [] + nodes (StructOf (limit_field ∷ []) false))

  limit_fields : flat_fields (resolved [] (StructOf (limit_field ∷ []) false)) ≡ Some (limit_field ∷ [])
  limit_fields = ap flat_fields limit_there ∙ rw (desc.outs-Struct (limit_field ∷ []) false) refl

  abbrev pub limit_holds : Bool
  limit_holds = values_hold (text_admitted doc (schema_json [] limit_field.desc)) false (values_of (codes "limit") pairs)

  limit_told : limit_holds ≡ is_ok (pairs_told [] Refuse pairs (StructOf (limit_field ∷ []) false))
  limit_told =
      sym (and-true limit_holds)
      ∙ pairs_told_where [] (λ f. text_admitted doc (schema_json [] f.desc)) (limit_field ∷ []) one pairs
      ∙ ap (λ o. is_ok (under_struct (pairs_fields [] Refuse pairs) o)) (sym limit_fields)
    where
      one : (f : Field) → Contains (limit_field ∷ []) f → AgreesOn [] (text_admitted doc (schema_json [] f.desc)) f
      one f c text = elim (contains_cases limit_field [] f c) [
        | inl same ↦ subst (λ (g : Field). text_admitted doc (schema_json [] g.desc) text ≡ is_ok (text_told [] text g.desc)) same (limit_text doc text)
        | inr none ↦ absurd (omega (arith, none.1))
      ]

  pub limit_where : IsTrue limit_holds ↔ HasLimit pairs
  limit_where = holds_where limit_holds (pairs_told [] Refuse pairs (StructOf (limit_field ∷ []) false)) limit_told

  token_holds : (o : Option (List ℕ)) → stands_or_not (text_admitted doc (schema_json [] token_field.desc)) false o ≡ true
  token_holds None = refl
  token_holds (Some text) = token_text doc text

-- ---- all parameters

module _ (doc : Json) (table : List Definition) (request : WireRequest) (before : List Parameter) (fs : List Field) (after : List Parameter) where
  abbrev pairs : List NamedText
  pairs = query_pairs request.query

  abbrev unsorted : List Parameter
  unsorted = parameter_of (codes "query") (λ desc. desc) [] limit_field ∷ parameter_of (codes "query") (λ desc. desc) [] token_field ∷ map (scan_parameter table) fs

  listed_are : list_all (listed_holds doc request true) (page_parameters table fs) ≡ (limit_holds doc pairs && scans_hold doc table pairs fs)
  listed_are =
      all_sorted parameter_name (listed_holds doc request true) unsorted
      ∙ ap (λ (b : Bool). limit_holds doc pairs && (b && list_all (listed_holds doc request true) (map (scan_parameter table) fs))) (token_holds doc pairs (last_value (codes "page_token") pairs))
      ∙ ap (λ (b : Bool). limit_holds doc pairs && b) (list_all-map (listed_holds doc request true) (scan_parameter table) fs)

  -- what the operation lists
  abbrev all : List Parameter
  all = before ++ page_parameters table fs ++ after

  lists : (name : List ℕ) → lists_name unsorted name ≡ true → listed_if_there (lists_name all) pairs name ≡ true
  lists name there =
      let here : lists_name (page_parameters table fs) name ≡ true = any_sorted parameter_name _ unsorted ∙ there in
      let later : lists_name (before ++ page_parameters table fs) name ≡ true = list_any-append _ before (page_parameters table fs) ∙ or_right _ _ here in
      let anywhere : lists_name all name ≡ true = list_any-append _ (before ++ page_parameters table fs) after ∙ or_left _ _ later in
      ap (λ (b : Bool). b || not (has_pair pairs name)) anywhere

  pages_are : listed_pages_hold request all (first_page_names fs) ≡ (has_token pairs || list_all (has_pair pairs) (first_page_names fs))
  pages_are =
      ap (λ (b : Bool). b && (listed_if_there (lists_name all) pairs (codes "page_token") && (has_token pairs || list_all (has_pair pairs) (first_page_names fs)))) (lists (codes "limit") refl)
      ∙ ap (λ (b : Bool). b && (has_token pairs || list_all (has_pair pairs) (first_page_names fs))) (lists (codes "page_token") refl)

  module _ (no_limit : NoneNamed (codes "limit") fs) where
    pub later_pages : NoneNamed (codes "page_token") fs → has_token pairs ≡ true → PageParametersHold doc table request before fs after ↔ HasLimit pairs
    later_pages no_token some = (
      λ h. let (limit, scans) = and_parts _ _ (sym listed_are ∙ h.listed) in (limit_where doc pairs).0 limit,
      λ h. record {
        listed = listed_are ∙ and_from _ _ ((limit_where doc pairs).1 h) (later_scans doc table pairs fs no_limit no_token some);
        pages = pages_are ∙ ap (λ (b : Bool). b || list_all (has_pair pairs) (first_page_names fs)) some;
      },
    )

    module _ (desc : Desc) (flat : IsFlatStruct table desc fs) (defines : DefinesFields doc table fs) (none : has_token pairs ≡ false) where
      scans_where : IsTrue (scans_hold doc table pairs fs && list_all (has_pair pairs) (first_page_names fs)) ↔ ((tree : Tree) × FlatDenotes table desc (last_values pairs) tree)
      scans_where = holds_where _ (flat_told table (last_values pairs) desc) (first_scans doc table pairs fs desc flat defines no_limit none)

      names_are : listed_pages_hold request all (first_page_names fs) ≡ list_all (has_pair pairs) (first_page_names fs)
      names_are = pages_are ∙ ap (λ (b : Bool). b || list_all (has_pair pairs) (first_page_names fs)) none

      pub first_pages : PageParametersHold doc table request before fs after ↔ (HasLimit pairs × ((tree : Tree) × FlatDenotes table desc (last_values pairs) tree))
      first_pages = (
        λ h.
            let (limit, scans) = and_parts _ _ (sym listed_are ∙ h.listed) in
            ((limit_where doc pairs).0 limit, scans_where.0 (and_from _ _ scans (sym names_are ∙ h.pages))),
        λ h.
            let (scans, names) = and_parts _ _ (scans_where.1 h.1) in
            record { listed = listed_are ∙ and_from _ _ ((limit_where doc pairs).1 h.0) scans; pages = names_are ∙ names },
      )
