-- What a token reads as, as a function and as relations.
use Rattle.std.proofs.Common.{◌≡◌, ℕ, ◌≤◌, List, length, Bool, true, false, cond, nat_lt, codes, Option, Some, None, option_and_then, refl, sym, ◌∙◌, ap}
use Rattle.std.proofs.lemmas.Bool.{le-ltb, lt-ltb, ltb-false}
use Rattle.std.specs.declared.result.Result.{Result}
use Rattle.std.specs.declared.result.Result.TheVariants.{Ok, Err}
use Rattle.base64.specs.declared.decode.DecodeError.{DecodeError}
use Rattle.base64.specs.Engines.{url_safe}
use Rattle.base64.specs.GeneralPurpose.{decode_of}
use Rattle.schema_values.specs.declared.json_value.Json.{Json, Text as Words, out-Json}
use Rattle.schema_values.specs.declared.json_value.Json.TheOpen.{Json-F}
use Rattle.schema_values.specs.declared.json_value.Json.TheVariants.{outs-Text, rolls-Text}
use Rattle.schema_values.specs.declared.json_value.Json.TheViews.{roll-Json, roll-out-Json}
use Rattle.schema_values.specs.declared.json_value.Member.{Member}
use Rattle.schema_values.specs.Get.{get_of}
use Rattle.schema_values.specs.Reading.{Reads}
use Rattle.std.proofs.lemmas.Slice.Eq.{bytes_eq-Decides}
use Rattle.descriptors.specs.declared.desc.Desc.{Desc}
use Rattle.descriptors.specs.declared.table.Definition.{Definition}
use Rattle.descriptors.specs.declared.tree.Tree.{Tree}
use Rattle.typed_values.specs.declared.fault.FaultKind.TheVariants.{TokenTooLarge, TokenCorrupted}
use Rattle.typed_values.specs.Denotes.{Told, refused, told}
use Rattle.page_tokens.specs.declared.token_error.TokenError.{TokenError}
use Rattle.page_tokens.specs.declared.token_error.TokenError.TheVariants as errors
use Rattle.page_tokens.specs.Forms.{v1}
use Rattle.page_tokens.specs.Tokens.{HoldsNone, HoldsStart, IsTokenRefused, TokenReads}
use Rattle.api_extract.specs.Readings.{value_read}
use Rattle.api_extract.specs.PageQueries.{IsTokenFault, bytes_told, decoded_told, is_v1, is_v1_level, or_refused, start_of, started_told}
use Rattle.api_extract.proofs.ReadValues.{read_value, value_reads}

-- ---- the start in an object

is_first : is_v1 (Some (Words (codes "v1"))) ≡ true
is_first = ap is_v1_level (outs-Text (codes "v1"))

pub start_has : (json start : Json) → v1.HasStart json start → start_of json ≡ Some start
start_has json start has = ap (λ (b : Bool). cond b (get_of (codes "page_start") json) None) (ap is_v1 has.0 ∙ is_first) ∙ has.1

first_version : (o : Option Json) → is_v1 o ≡ true → o ≡ Some (Words (codes "v1"))
first_version None e = absurd (cc e)
first_version (Some json) e = ap Some (sym (roll-out-Json json) ∙ by_level (out-Json json) e)
  where
    by_level : (x : Json-F Json Member) → is_v1_level x ≡ true → roll-Json x ≡ Words (codes "v1")
    by_level (Json-F.Text text) e = ap (λ (t : List ℕ). roll-Json (Json-F.Text t)) ((bytes_eq-Decides text (codes "v1")).0 e) ∙ rolls-Text (codes "v1")
    by_level _ e = absurd (cc e)

pub has_start : (json start : Json) → start_of json ≡ Some start → v1.HasStart json start
has_start json start e = by_version (is_v1 (get_of (codes "v") json)) refl e
  where
    by_version : (b : Bool) → is_v1 (get_of (codes "v") json) ≡ b → cond b (get_of (codes "page_start") json) None ≡ Some start → v1.HasStart json start
    by_version true is e = (first_version (get_of (codes "v") json) is, e)
    by_version false is e = absurd (cc e)

module _ (table : List Definition) (selector : Desc) where
  -- ---- the tree of bytes

  pub held_told : (bytes : List ℕ) (tree : Tree) → HoldsStart v1 table selector bytes tree → started_told table selector (option_and_then start_of (value_read bytes)) ≡ Ok tree
  held_told bytes tree holds =
      ap (λ (o : Option Json). started_told table selector (option_and_then start_of o)) (read_value bytes holds.json holds.reads)
      ∙ ap (started_told table selector) (start_has holds.json holds.start holds.has_start)
      ∙ ap (or_refused TokenCorrupted) holds.denotes

  pub none_told : (bytes : List ℕ) → HoldsNone v1 table selector bytes → started_told table selector (option_and_then start_of (value_read bytes)) ≡ refused TokenCorrupted
  none_told bytes none = by_value (value_read bytes) refl
    where
      by_told : (json start : Json) → Reads bytes json → v1.HasStart json start → (o : Told) → told table selector start selector ≡ o → or_refused TokenCorrupted o ≡ refused TokenCorrupted
      by_told json start reads has (Ok tree) e = absurd (none tree (record { json = json; start = start; reads = reads; has_start = has; denotes = e }))
      by_told json start reads has (Err trouble) e = refl

      by_start : (json : Json) → Reads bytes json → (o : Option Json) → start_of json ≡ o → started_told table selector o ≡ refused TokenCorrupted
      by_start json reads None e = refl
      by_start json reads (Some start) e = by_told json start reads (has_start json start e) (told table selector start selector) refl

      by_value : (o : Option Json) → value_read bytes ≡ o → started_told table selector (option_and_then start_of o) ≡ refused TokenCorrupted
      by_value None e = refl
      by_value (Some json) e = by_start json (value_reads bytes json e) (start_of json) refl

  -- ---- the tree of a token

  within : (token : List ℕ) → length token ≤ 512 → bytes_told table selector token ≡ decoded_told table selector (decode_of url_safe token)
  within token small = ap (λ (b : Bool). cond b (refused TokenTooLarge) (decoded_told table selector (decode_of url_safe token))) (le-ltb 512 (length token) small)

  corrupted : (token : List ℕ) → length token ≤ 512 → (bytes : List ℕ) → decode_of url_safe token ≡ Ok bytes → HoldsNone v1 table selector bytes → bytes_told table selector token ≡ refused TokenCorrupted
  corrupted token small bytes e none = within token small ∙ ap (decoded_told table selector) e ∙ none_told bytes none

  pub token_reads : (token : List ℕ) (tree : Tree) → TokenReads v1 table selector token tree → bytes_told table selector token ≡ Ok tree
  token_reads token tree reads = within token reads.small ∙ ap (decoded_told table selector) reads.decodes ∙ held_told reads.bytes tree reads.holds

  -- a token is told as the fault that it is refused for
  pub token_told : (token : List ℕ) (error : TokenError) → IsTokenRefused v1 table selector token error
      → IsTokenFault error (bytes_told table selector token)
  token_told token (errors.TooLarge size) h =
      ap (λ (b : Bool). cond b (refused TokenTooLarge) (decoded_told table selector (decode_of url_safe token)))
      (lt-ltb 512 (length token) h.0)
  token_told token errors.NotBase64 h = within token h.0 ∙ ap (decoded_told table selector) h.1.1
  token_told token errors.Corrupted h = corrupted token h.0 h.1 h.2 h.3
  token_told token errors.OutOfMemory h = tt

  -- ---- and the other way round

  kept : (o : Told) (tree : Tree) → or_refused TokenCorrupted o ≡ Ok tree → o ≡ Ok tree
  kept (Ok t) tree e = e
  kept (Err trouble) tree e = absurd (cc e)

  started_holds : (bytes : List ℕ) (json : Json) → Reads bytes json → (o : Option Json) → start_of json ≡ o → (tree : Tree) → started_told table selector o ≡ Ok tree → HoldsStart v1 table selector bytes tree
  started_holds bytes json reads None is tree e = absurd (cc e)
  started_holds bytes json reads (Some start) is tree e =
      record { json = json; start = start; reads = reads; has_start = has_start json start is; denotes = kept (told table selector start selector) tree e }

  read_holds : (bytes : List ℕ) (o : Option Json) → value_read bytes ≡ o → (tree : Tree) → started_told table selector (option_and_then start_of o) ≡ Ok tree → HoldsStart v1 table selector bytes tree
  read_holds bytes None is tree e = absurd (cc e)
  read_holds bytes (Some json) is tree e = started_holds bytes json (value_reads bytes json is) (start_of json) refl tree e

  decoded_reads : (token : List ℕ) → length token ≤ 512 → (r : Result (List ℕ) DecodeError) → decode_of url_safe token ≡ r → (tree : Tree) → decoded_told table selector r ≡ Ok tree → TokenReads v1 table selector token tree
  decoded_reads token small (Ok bytes) is tree e = record { bytes = bytes; small = small; decodes = is; holds = read_holds bytes (value_read bytes) refl tree e }
  decoded_reads token small (Err error) is tree e = absurd (cc e)

  pub told_reads : (token : List ℕ) (tree : Tree) → bytes_told table selector token ≡ Ok tree → TokenReads v1 table selector token tree
  told_reads token tree e = by_size (nat_lt 512 (length token)) refl e
    where
      by_size : (b : Bool) → nat_lt 512 (length token) ≡ b → cond b (refused TokenTooLarge) (decoded_told table selector (decode_of url_safe token)) ≡ Ok tree → TokenReads v1 table selector token tree
      by_size true is e = absurd (cc e)
      by_size false is e = decoded_reads token (ltb-false 512 (length token) is) (decode_of url_safe token) refl tree e
