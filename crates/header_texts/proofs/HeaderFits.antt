-- Where header lines denote a tree, the shown values of the last lines denote it as flat names, and it fits.
use Rattle.std.proofs.Common.{◌≡◌, ℕ, ◌+◌, Bool, true, false, cond, List, [], ◌∷◌, Option, Some, None, option_map, option_and_then, refl, sym, ◌∙◌, ap, ap₂}
use Rattle.std.specs.Str.{encode_utf8_all}
use Rattle.std.specs.declared.result.Result.{Result}
use Rattle.std.specs.declared.result.Result.TheVariants.{Ok, Err}
use Rattle.schema_values.specs.declared.variables.VariableValue.TheVariants.{String}
use Rattle.request_words.specs.declared.request.HeaderLine.{HeaderLine}
use Rattle.request_words.specs.HeaderLines.{all_shown, last_line, shown_text}
use Rattle.descriptors.specs.declared.desc.Desc.{Desc}
use Rattle.descriptors.specs.declared.desc.Field.{Field}
use Rattle.descriptors.specs.declared.desc.Presence.{Presence}
use Rattle.descriptors.specs.declared.desc.Presence.TheVariants.{Required, Nullable, Skipped, Default}
use Rattle.descriptors.specs.declared.table.Definition.{Definition}
use Rattle.descriptors.specs.declared.tree.Tree.{Tree, Fields as Parts}
use Rattle.typed_values.specs.declared.fault.FaultKind.TheVariants.{HeaderBytes}
use Rattle.typed_values.specs.declared.fault.Place.TheVariants.{Name}
use Rattle.typed_values.specs.Checks.{TablePasses, DescPasses}
use Rattle.typed_values.specs.Denotes.{Told, below, if_present, by_presence, and_then, all_told, as_tree, if_holds, refused}
use Rattle.typed_values.specs.Faults.{Trouble}
use Rattle.typed_values.specs.Fits.{Fits}
use Rattle.flat_maps.specs.Flat.{resolved, fields_told, flat_fields, given_told, looked_up, under_struct, FlatDenotes}
use Rattle.scalar_texts.specs.Texts.{text_told}
use Rattle.flat_maps.proofs.CallerLemmas.{flat_fits}
use Rattle.header_texts.specs.HeaderTexts.{line_told, header_told, shown_names, HeadersDenote}

-- a value with a byte that is not shown gives no tree
hidden_field : (p : Presence) (name : List ℕ) (t : Tree) → if_present p (below (Name name) (refused HeaderBytes)) ≡ Ok t → ⊥
hidden_field Required name t e = cc e
hidden_field Nullable name t e = cc e
hidden_field Skipped name t e = cc e
hidden_field (Default tree) name t e = cc e

module _ (table : List Definition) (lines : List HeaderLine) where
  -- a field that has a tree has the same one of the shown value
  same_field : (f : Field) (t : Tree) → by_presence f (header_told table lines f) ≡ Ok t → by_presence f (looked_up table (shown_names lines) f) ≡ Ok t
  same_field f t = by_line (last_line (encode_utf8_all f.name) lines)
    where
      by_shown : (value : List ℕ) (b : Bool) → all_shown value ≡ b → by_presence f (Some (line_told table f.desc value)) ≡ Ok t
          → by_presence f (option_map (given_told table f.desc) (option_map String (shown_text value))) ≡ Ok t
      by_shown value true h e =
          ap (λ (b : Bool). by_presence f (option_map (given_told table f.desc) (option_map String (cond b (Some value) None)))) h
          ∙ sym (ap (λ (b : Bool). by_presence f (Some (if_holds b HeaderBytes (text_told table value f.desc)))) h)
          ∙ e
      by_shown value false h e =
          absurd (hidden_field f.presence f.name t (sym (ap (λ (b : Bool). by_presence f (Some (if_holds b HeaderBytes (text_told table value f.desc)))) h) ∙ e))

      by_line : (o : Option (List ℕ)) → by_presence f (option_map (line_told table f.desc) o) ≡ Ok t
          → by_presence f (option_map (given_told table f.desc) (option_map String (option_and_then shown_text o))) ≡ Ok t
      by_line None e = e
      by_line (Some value) e = by_shown value (all_shown value) refl e

  same_rest : (i : ℕ) (fs : List Field) (ts : List Tree) → all_told (λ i f. by_presence f (header_told table lines f)) i fs ≡ Ok ts → all_told (λ i f. by_presence f (looked_up table (shown_names lines) f)) i fs ≡ Ok ts
  same_rest i [] ts e = e
  same_rest i (f ∷ fs) ts e =
      by_told (by_presence f (header_told table lines f)) refl (all_told (λ i f. by_presence f (header_told table lines f)) (i + 1) fs) refl (λ us q. same_rest (i + 1) fs us q) e
    where
      by_told : (one : Told) → by_presence f (header_told table lines f) ≡ one → (rest : Result (List Tree) Trouble) → all_told (λ i f. by_presence f (header_told table lines f)) (i + 1) fs ≡ rest
          → ((us : List Tree) → all_told (λ i f. by_presence f (header_told table lines f)) (i + 1) fs ≡ Ok us → all_told (λ i f. by_presence f (looked_up table (shown_names lines) f)) (i + 1) fs ≡ Ok us)
          → and_then one rest ≡ Ok ts → all_told (λ i f. by_presence f (looked_up table (shown_names lines) f)) i (f ∷ fs) ≡ Ok ts
      by_told (Ok t) p (Ok us) q later e = ap₂ and_then (same_field f t p) (later us q) ∙ e
      by_told (Ok t) p (Err k) q later e = absurd (cc e)
      by_told (Err k) p rest q later e = absurd (cc e)

  same_fields : (fs : List Field) (t : Tree) → fields_told (header_told table lines) fs ≡ Ok t → fields_told (looked_up table (shown_names lines)) fs ≡ Ok t
  same_fields fs t e = by_all (all_told (λ i f. by_presence f (header_told table lines f)) 0 fs) refl e
    where
      by_all : (r : Result (List Tree) Trouble) → all_told (λ i f. by_presence f (header_told table lines f)) 0 fs ≡ r → as_tree Parts r ≡ Ok t → fields_told (looked_up table (shown_names lines)) fs ≡ Ok t
      by_all (Ok ts) q e = ap (as_tree Parts) (same_rest 0 fs ts q) ∙ e
      by_all (Err k) q e = absurd (cc e)

  pub headers_flat : (d : Desc) (t : Tree) → HeadersDenote table d lines t → FlatDenotes table d (shown_names lines) t
  headers_flat d t = by_fields (flat_fields (resolved table d))
    where
      by_fields : (o : Option (List Field)) → under_struct (fields_told (header_told table lines)) o ≡ Ok t → under_struct (fields_told (looked_up table (shown_names lines))) o ≡ Ok t
      by_fields None e = e
      by_fields (Some fs) e = same_fields fs t e

-- a tree that header lines denote is a value of the descriptor
pub headers_fit : (table : List Definition) (d : Desc) (lines : List HeaderLine) (t : Tree) → TablePasses table → DescPasses table d → HeadersDenote table d lines t → Fits table d t
headers_fit table d lines t passes right e = flat_fits table d (shown_names lines) t passes right (headers_flat table lines d t e)
