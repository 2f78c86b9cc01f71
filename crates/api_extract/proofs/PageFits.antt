-- The page and the limit that a query denotes are of what they are read under.
use Rattle.std.proofs.Common.{◌≡◌, ℕ, ℤ, pos, negsuc, Bool, true, false, ◌&&◌, cond, nat_lt, int_le, codes, List, [], ◌∷◌, length, Option, Some, None, option_and_then, refl, sym, subst}
use Rattle.std.specs.Str.{encode_utf8_all}
use Rattle.std.proofs.lemmas.Bool.{and_parts, leb-true}
use Rattle.std.specs.declared.result.Result.{Result}
use Rattle.std.specs.declared.result.Result.TheVariants.{Ok, Err}
use Rattle.base64.specs.declared.decode.DecodeError.{DecodeError}
use Rattle.base64.specs.Engines.{url_safe}
use Rattle.base64.specs.GeneralPurpose.{decode_of}
use Rattle.schema_values.specs.declared.json_value.Json.{Json}
use Rattle.schema_values.specs.Reading.{Reads}
use Rattle.schema_values.specs.Sound.{IsSound}
use Rattle.request_words.specs.declared.pairs.NamedText.{NamedText}
use Rattle.request_words.specs.Pairs.{is_doubled, last_value}
use Rattle.descriptors.specs.declared.desc.Desc.{Desc}
use Rattle.descriptors.specs.declared.desc.IntKind.TheVariants.{U32}
use Rattle.descriptors.specs.declared.table.Definition.{Definition}
use Rattle.descriptors.specs.declared.tree.Tree.{Tree, None as Nothing, Int as Number, Some as Just, Fields as Parts, Variant as Choice, out-Tree}
use Rattle.descriptors.specs.declared.tree.Tree.TheOpen.{Tree-F}
use Rattle.descriptors.specs.declared.tree.Tree.TheVariants as tree
use Rattle.typed_values.specs.declared.fault.FaultKind.{FaultKind}
use Rattle.typed_values.specs.declared.fault.FaultKind.TheVariants.{BadText, BadLimit, TokenTooLarge, TokenCorrupted}
use Rattle.typed_values.specs.Bounds.{is_number_of}
use Rattle.typed_values.specs.Checks.{TablePasses, DescPasses}
use Rattle.typed_values.specs.Denotes.{Told, just, if_holds, refused, told}
use Rattle.typed_values.specs.Fits.{Fits}
use Rattle.typed_values.proofs.CallerLemmas.{denoted_fits}
use Rattle.flat_maps.specs.declared.repeats.Repeats.TheVariants.{Last}
use Rattle.flat_maps.specs.Pairs.{pairs_told}
use Rattle.scalar_texts.specs.Texts.{kind_name, number_in, number_of_text, number_or_fault}
use Rattle.flat_maps.proofs.CallerLemmas.{pairs_fit}
use Rattle.handler_shapes.specs.declared.arguments.Arg.{Arg}
use Rattle.handler_shapes.specs.declared.arguments.Arg.TheVariants.{Tree as OfTree}
use Rattle.handler_shapes.specs.Arguments.{IsItemCount, LimitFits, PageFits, PagedFits}
use Rattle.page_tokens.proofs.CallerLemmas.{start_sound}
use Rattle.api_extract.specs.PageQueries.{PageTypes, as_choice, behind_limit, bytes_told, decoded_told, doubled_limit, limit_told, limit_value, or_refused, page_query_told, page_told, start_of, started_told}
use Rattle.api_extract.specs.Readings.{value_read}
use Rattle.api_extract.specs.Refusals.{told_as}
use Rattle.api_extract.proofs.ReadValues.{value_reads}
use Rattle.api_extract.proofs.TokenLemmas.{has_start}

-- ---- the tree that is told

told_kept : (kind : FaultKind) (o : Told) (t : Tree) → or_refused kind o ≡ Ok t → o ≡ Ok t
told_kept kind (Ok s) t e = e
told_kept kind (Err trouble) t e = absurd (cc e)

-- an argument of what is told is a tree of it
pub record IsTreeOf (o : Told) (arg : Arg) : Type 0 where
  pub tree : Tree
  pub told : o ≡ Ok tree
  pub is : OfTree tree ≡ arg

pub tree_told : (prefix : List ℕ) (o : Told) (arg : Arg) → told_as prefix o ≡ Ok arg → IsTreeOf o arg
tree_told prefix (Ok tree) arg e = record { tree = tree; told = refl; is = cc e }
tree_told prefix (Err trouble) arg e = absurd (cc e)

-- ---- the limit

whole_count : (n : ℤ) → is_number_of U32 (Some (pos 1)) None n ≡ true → IsItemCount (Tree-F.Int n)
whole_count (pos n) h =
    let within = and_parts (int_le (pos 0) (pos n) && int_le (pos n) (pos 4294967295)) (int_le (pos 1) (pos n) && true) h in
    let kind = and_parts (int_le (pos 0) (pos n)) (int_le (pos n) (pos 4294967295)) within.0 in
    let bounds = and_parts (int_le (pos 1) (pos n)) true within.1 in
    (leb-true 1 n bounds.0, leb-true n 4294967295 kind.1)
whole_count (negsuc n) h = absurd (cc h)

-- the tree of a number of items
number_fits : (text : List ℕ) (o : Option ℤ) (t : Tree) → number_or_fault U32 (Some (pos 1)) None text o ≡ Ok t → IsItemCount (out-Tree t)
number_fits text None t e = absurd (cc e)
number_fits text (Some n) t e = by_bounds (is_number_of U32 (Some (pos 1)) None n) refl e
  where
    by_bounds : (b : Bool) → is_number_of U32 (Some (pos 1)) None n ≡ b → if_holds b (BadText text (kind_name U32)) (Ok (Number n)) ≡ Ok t → IsItemCount (out-Tree t)
    by_bounds true is e =
        let same : Number n ≡ t = cc e in
        subst (λ (s : Tree). IsItemCount (out-Tree s)) same (subst IsItemCount (sym (tree.outs-Int n)) (whole_count n is))
    by_bounds false is e = absurd (cc e)

limit_fits : (o : Option (List ℕ)) (t : Tree) → limit_value o ≡ Ok t → LimitFits (out-Tree t)
limit_fits None t e = let same : Nothing ≡ t = cc e in subst (λ (s : Tree). LimitFits (out-Tree s)) same (subst LimitFits (sym tree.outs-None) tt)
limit_fits (Some text) t e = by_number (number_of_text U32 (Some (pos 1)) None text) refl e
  where
    by_number : (o : Told) → number_of_text U32 (Some (pos 1)) None text ≡ o → just (or_refused BadLimit o) ≡ Ok t → LimitFits (out-Tree t)
    by_number (Ok n) is e =
        let same : Just n ≡ t = cc e in
        subst (λ (s : Tree). LimitFits (out-Tree s)) same (subst LimitFits (sym (tree.outs-Some n)) (number_fits text (number_in U32 text) n is))
    by_number (Err trouble) is e = absurd (cc e)

limit_of_pairs : (pairs : List NamedText) (t : Tree) → limit_told pairs ≡ Ok t → LimitFits (out-Tree t)
limit_of_pairs pairs t e = by_doubled (is_doubled pairs (codes "limit")) e
  where
    by_doubled : (b : Bool) → cond b doubled_limit (limit_value (last_value (codes "limit") pairs)) ≡ Ok t → LimitFits (out-Tree t)
    by_doubled true e = absurd (cc e)
    by_doubled false e = limit_fits (last_value (codes "limit") pairs) t e

-- ---- the page

-- a tree that JSON denotes which was read
json_fits : (table : List Definition) (desc : Desc) (json : Json) → TablePasses table → DescPasses table desc → IsSound json → (t : Tree) → told table desc json desc ≡ Ok t → Fits table desc t
json_fits table desc json passes right sound t e = denoted_fits table desc json t passes right sound e

module _ (table : List Definition) (selector : Desc) (passes : TablePasses table) (right : DescPasses table selector) where
  started_fits : (bytes : List ℕ) (json : Json) → Reads bytes json → (o : Option Json) → start_of json ≡ o → (t : Tree) → started_told table selector o ≡ Ok t → Fits table selector t
  started_fits bytes json reads None is t e = absurd (cc e)
  started_fits bytes json reads (Some start) is t e =
      json_fits table selector start passes right (start_sound bytes json start reads (has_start json start is)) t (told_kept TokenCorrupted (told table selector start selector) t e)

  read_fits : (bytes : List ℕ) (o : Option Json) → value_read bytes ≡ o → (t : Tree) → started_told table selector (option_and_then start_of o) ≡ Ok t → Fits table selector t
  read_fits bytes None is t e = absurd (cc e)
  read_fits bytes (Some json) is t e = started_fits bytes json (value_reads bytes json is) (start_of json) refl t e

  decoded_fits : (r : Result (List ℕ) DecodeError) (t : Tree) → decoded_told table selector r ≡ Ok t → Fits table selector t
  decoded_fits (Ok bytes) t e = read_fits bytes (value_read bytes) refl t e
  decoded_fits (Err error) t e = absurd (cc e)

  token_fits : (token : List ℕ) (t : Tree) → bytes_told table selector token ≡ Ok t → Fits table selector t
  token_fits token t e = by_size (nat_lt 512 (length token)) e
    where
      by_size : (b : Bool) → cond b (refused TokenTooLarge) (decoded_told table selector (decode_of url_safe token)) ≡ Ok t → Fits table selector t
      by_size true e = absurd (cc e)
      by_size false e = decoded_fits (decode_of url_safe token) t e

choice_told : (place : ℕ) (o : Told) (t : Tree) → as_choice place o ≡ Ok t → (s : Tree) × (o ≡ Ok s) × (Choice place s ≡ t)
choice_told place (Ok s) t e = (s, refl, cc e)
choice_told place (Err trouble) t e = absurd (cc e)

-- what a query in pages is read under passes its checks
pub record TypesPass (types : PageTypes) : Type 0 where
  pub table : TablePasses types.table
  pub scan : DescPasses types.table types.scan
  pub selector_table : TablePasses types.selector_table
  pub selector : DescPasses types.selector_table types.selector

module _ (types : PageTypes) (pass : TypesPass types) where
  page_fits : (pairs : List NamedText) (o : Option (List ℕ)) (t : Tree) → page_told types pairs o ≡ Ok t → PageFits types.table types.scan types.selector_table types.selector (out-Tree t)
  page_fits pairs None t e =
      let (s, is, same) = choice_told 0 (pairs_told types.table Last pairs types.scan) t e in
      let fit = pairs_fit types.table types.scan Last pairs s pass.table pass.scan is in
      subst (λ (u : Tree). PageFits types.table types.scan types.selector_table types.selector (out-Tree u)) same (
      subst (PageFits types.table types.scan types.selector_table types.selector) (sym (tree.outs-Variant 0 s)) fit)
  page_fits pairs (Some token) t e =
      let (s, is, same) = choice_told 1 (bytes_told types.selector_table types.selector (encode_utf8_all token)) t e in
      let fit = token_fits types.selector_table types.selector pass.selector_table pass.selector (encode_utf8_all token) s is in
      subst (λ (u : Tree). PageFits types.table types.scan types.selector_table types.selector (out-Tree u)) same (
      subst (PageFits types.table types.scan types.selector_table types.selector) (sym (tree.outs-Variant 1 s)) fit)

  both_fit : (limit page : Told) → ((t : Tree) → limit ≡ Ok t → LimitFits (out-Tree t)) → ((t : Tree) → page ≡ Ok t → PageFits types.table types.scan types.selector_table types.selector (out-Tree t))
      → (t : Tree) → behind_limit limit page ≡ Ok t → PagedFits types.table types.scan types.selector_table types.selector (out-Tree t)
  both_fit (Ok limit) (Ok page) limits pages t e =
      let same : Parts (page ∷ limit ∷ []) ≡ t = cc e in
      subst (λ (u : Tree). PagedFits types.table types.scan types.selector_table types.selector (out-Tree u)) same (
      subst (PagedFits types.table types.scan types.selector_table types.selector) (sym (tree.outs-Fields (page ∷ limit ∷ []))) (pages page refl, limits limit refl))
  both_fit (Ok limit) (Err trouble) limits pages t e = absurd (cc e)
  both_fit (Err trouble) page limits pages t e = absurd (cc e)

  pub page_query_fits : (pairs : List NamedText) (t : Tree) → page_query_told types pairs ≡ Ok t → PagedFits types.table types.scan types.selector_table types.selector (out-Tree t)
  page_query_fits pairs t e =
      both_fit (limit_told pairs) (page_told types pairs (last_value (codes "page_token") pairs)) (limit_of_pairs pairs) (page_fits pairs (last_value (codes "page_token") pairs)) t e
