-- What the query of an operation in pages denotes: a limit, and for the first page what is scanned.
use Rattle.std.proofs.Common.{◌≡◌, ℕ, pos, Bool, true, false, ◌&&◌, not, cond, List, [], ◌∷◌, Option, Some, None}
use Rattle.std.proofs.Common.{is_ok, codes, refl, sym, ◌∙◌, ap, arith}
use Rattle.std.proofs.Math.Bool.{and-true}
use Rattle.std.specs.declared.result.Result.TheVariants.{Ok, Err}
use Rattle.request_words.specs.declared.pairs.NamedText.{NamedText}
use Rattle.request_words.specs.Pairs.{are_some, is_doubled, last_text, last_value, values_of}
use Rattle.openapi_values.specs.Pages.{has_token}
use Rattle.descriptors.specs.declared.desc.Desc.{Desc, Int, Struct as StructOf}
use Rattle.descriptors.specs.declared.desc.Desc.TheOpen.{Desc-F}
use Rattle.descriptors.specs.declared.desc.Desc.TheVariants as desc
use Rattle.descriptors.specs.declared.desc.IntKind.TheVariants.{U32}
use Rattle.typed_values.specs.declared.fault.FaultKind.{FaultKind}
use Rattle.typed_values.specs.declared.fault.FaultKind.TheVariants.{BadLimit}
use Rattle.typed_values.specs.Denotes.{Told}
use Rattle.typed_values.specs.Guarded.{IsGuarded}
use Rattle.typed_values.proofs.CallerLemmas.{ok_just}
use Rattle.flat_maps.specs.declared.repeats.Repeats.TheVariants.{Refuse}
use Rattle.flat_maps.specs.Flat.{fields_told, flat_fields, flat_told, looked_up, resolved, under_struct}
use Rattle.flat_maps.specs.Pairs.{last_values, pairs_fields, pairs_told}
use Rattle.scalar_texts.specs.Texts.{number_of_text, text_told}
use Rattle.flat_maps.proofs.CallerLemmas.{ok_doubled, ok_fields, ok_given, resolved_row, text_row}
use Rattle.written_texts.specs.PageParameters.{limit_field}
use Rattle.api_extract.specs.PageQueries.{PageTypes, as_choice, behind_limit, doubled_limit, limit_told, limit_value}
use Rattle.api_extract.specs.PageQueries.{or_refused, page_query_told, page_told}

-- ---- `limit`

none_guarded : IsGuarded []
none_guarded e c = absurd (omega (arith, c.1))

abbrev of_limit : Desc
of_limit = StructOf (limit_field ∷ []) false

limit_fields : flat_fields (resolved [] of_limit) ≡ Some (limit_field ∷ [])
limit_fields =
    ap flat_fields
    (resolved_row [] none_guarded of_limit (Desc-F.Struct (limit_field ∷ []) false)
    (desc.outs-Struct (limit_field ∷ []) false))
    ∙ rw (desc.outs-Struct (limit_field ∷ []) false) refl

ok_refused : (kind : FaultKind) (o : Told) → is_ok (or_refused kind o) ≡ is_ok o
ok_refused kind (Ok tree) = refl
ok_refused kind (Err trouble) = refl

abbrev least : Desc
least = Int U32 (Some (pos 1)) None

-- a text as a limit is a number from 1 on
limit_text : (text : List ℕ) → is_ok (text_told [] text limit_field.desc) ≡ is_ok (limit_value (Some text))
limit_text text =
    ap is_ok (text_row [] text none_guarded limit_field.desc (Desc-F.Option least) (desc.outs-Option least))
    ∙ ok_just (text_told [] text least)
    ∙ ap is_ok
    (text_row [] text none_guarded least (Desc-F.Int U32 (Some (pos 1)) None)
    (desc.outs-Int U32 (Some (pos 1)) None))
    ∙ sym (ok_refused BadLimit (number_of_text U32 (Some (pos 1)) None text))
    ∙ sym (ok_just (or_refused BadLimit (number_of_text U32 (Some (pos 1)) None text)))

module _ (pairs : List NamedText) where
  one_field : (o : Option (List ℕ)) → last_value (codes "limit") pairs ≡ o
      → is_ok (fields_told (looked_up [] (last_values pairs)) (limit_field ∷ [])) ≡ is_ok (limit_value o)
  one_field None is =
      ok_fields (looked_up [] (last_values pairs)) (limit_field ∷ [])
      ∙ and-true _
      ∙ rw is refl
  one_field (Some text) is =
      ok_fields (looked_up [] (last_values pairs)) (limit_field ∷ [])
      ∙ and-true _
      ∙ rw is (ok_given limit_field (text_told [] text limit_field.desc) ∙ limit_text text)

  by_doubled : (b : Bool) (o : Told) → is_ok (cond b doubled_limit o) ≡ (not b && is_ok o)
  by_doubled true o = refl
  by_doubled false o = refl

  -- the pair `limit` denotes what the field of its name does
  pub limit_same : is_ok (limit_told pairs) ≡ is_ok (pairs_told [] Refuse pairs of_limit)
  limit_same =
      by_doubled (is_doubled pairs (codes "limit")) (limit_value (last_value (codes "limit") pairs))
      ∙ ap (λ (b : Bool). not (is_doubled pairs (codes "limit")) && b)
      (sym (one_field (last_value (codes "limit") pairs) refl))
      ∙ ap (λ (b : Bool). b && is_ok (fields_told (looked_up [] (last_values pairs)) (limit_field ∷ [])))
      (sym (and-true (not (is_doubled pairs (codes "limit")))))
      ∙ sym (ok_doubled pairs (limit_field ∷ []) (fields_told (looked_up [] (last_values pairs)) (limit_field ∷ [])))
      ∙ ap (λ o. is_ok (under_struct (pairs_fields [] Refuse pairs) o)) (sym limit_fields)

-- ---- the page

ok_behind : (limit page : Told) → is_ok (behind_limit limit page) ≡ (is_ok limit && is_ok page)
ok_behind (Ok limit) (Ok page) = refl
ok_behind (Ok limit) (Err trouble) = refl
ok_behind (Err trouble) page = refl

ok_choice : (place : ℕ) (o : Told) → is_ok (as_choice place o) ≡ is_ok o
ok_choice place (Ok tree) = refl
ok_choice place (Err trouble) = refl

none_last : (texts : List (List ℕ)) → are_some texts ≡ false → last_text texts ≡ None
none_last [] none = refl
none_last (text ∷ texts) none = absurd (cc none)

module _ (types : PageTypes) (pairs : List NamedText) where
  -- what denotes a page has a limit that denotes something
  pub in_limit : is_ok (page_query_told types pairs)
      ≡ (is_ok (limit_told pairs) && is_ok (page_told types pairs (last_value (codes "page_token") pairs)))
  in_limit = ok_behind (limit_told pairs) (page_told types pairs (last_value (codes "page_token") pairs))

  -- for the first page there is what is scanned
  pub on_first : has_token pairs ≡ false
      → is_ok (page_query_told types pairs)
      ≡ (is_ok (limit_told pairs) && is_ok (flat_told types.table (last_values pairs) types.scan))
  on_first none =
      in_limit
      ∙ ap (λ (o : Option (List ℕ)). is_ok (limit_told pairs) && is_ok (page_told types pairs o))
      (none_last (values_of (codes "page_token") pairs) none)
      ∙ ap (λ (b : Bool). is_ok (limit_told pairs) && b)
      (ok_choice 0 (flat_told types.table (last_values pairs) types.scan))
