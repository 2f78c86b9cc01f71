-- What the values of a line say, they say of one thing alone.
use Rattle.std.proofs.Common.{◌≡◌, ℕ, List, [], ◌∷◌, false, length, codes, Option, Some, None, refl, sym}
use Rattle.std.proofs.Common.{bytes_eq, ap, ap₂, subst, ◌∙◌}
use Rattle.schema_values.specs.declared.json_value.Json.{Json}
use Rattle.schema_values.specs.declared.json_value.Json.TheOpen.{Json-F}
use Rattle.schema_values.specs.declared.json_value.Json.TheVariants as jsons
use Rattle.schema_values.specs.declared.json_value.Member.{Member}
use Rattle.typed_values.specs.Denotes.{value_named}
use Rattle.request_lines.specs.RequestLines.{WrittenFrame, WrittenLine, as_hex, as_text}
use Rattle.request_lines.specs.Said.{AreItems, AreMembers, IsText, KeepsOthers, SaysFrame, SaysHead, SaysLine}
use Rattle.request_lines.specs.Said.{SaysTarget}
use Rattle.request_lines.proofs.ValueForms.{list_out, object_out, text_out}

-- ---- a value is one thing

pub text_same : (json : Json) (a b : List ℕ) → json ≡ jsons.Text a → json ≡ jsons.Text b → a ≡ b
text_same json a b p q =
    let levels : Json-F.Text a ≡ Json-F.Text b = sym ((text_out json a).1 p) ∙ (text_out json b).1 q in cc levels

pub list_same : (json : Json) (xs ys : List Json) → json ≡ jsons.List xs → json ≡ jsons.List ys → xs ≡ ys
list_same json xs ys p q =
    let levels : Json-F.List xs ≡ Json-F.List ys = sym ((list_out json xs).1 p) ∙ (list_out json ys).1 q in cc levels

pub object_same : (json : Json) (ms ns : List Member) → json ≡ jsons.Object ms → json ≡ jsons.Object ns → ms ≡ ns
object_same json ms ns p q =
    let levels : Json-F.Object ms ≡ Json-F.Object ns = sym ((object_out json ms).1 p) ∙ (object_out json ns).1 q in
    cc levels

text_no_object : (json : Json) (text : List ℕ) (ms : List Member) → json ≡ jsons.Text text → json ≡ jsons.Object ms → ⊥
text_no_object json text ms p q =
    let levels : Json-F.Text text ≡ Json-F.Object ms = sym ((text_out json text).1 p) ∙ (object_out json ms).1 q in
    absurd (cc levels)

pub some_text_same : (value : Option Json) (a b : List ℕ) → value ≡ Some (jsons.Text a) → value ≡ Some (jsons.Text b)
    → a ≡ b
some_text_same value a b p q =
    let both : Some (jsons.Text a) ≡ Some (jsons.Text b) = sym p ∙ q in
    let texts : jsons.Text b ≡ jsons.Text a = cc both in
    sym (text_same (jsons.Text b) b a refl texts)

pub items_same : (value : Option Json) (xs ys : List Json) → AreItems value xs → AreItems value ys → xs ≡ ys
items_same None xs ys p q = p ∙ sym q
items_same (Some json) xs ys p q = list_same json xs ys p q

pub members_same : (value : Option Json) (ms ns : List Member) → AreMembers value ms → AreMembers value ns → ms ≡ ns
members_same None ms ns p q = p ∙ sym q
members_same (Some json) ms ns p q = object_same json ms ns p q

-- ---- frames

-- an object says digits, and nothing else a frame
pub object_says : (json : Json) (members : List Member) (written : WrittenFrame) → json ≡ jsons.Object members
    → SaysFrame json written
    → (digits : List ℕ) × (written ≡ as_hex digits) × (value_named members (codes "hex") ≡ Some (jsons.Text digits))
object_says json members (as_text text) is said = absurd (text_no_object json text members said is)
object_says json members (as_hex digits) is said = (
  digits,
  refl,
  subst (λ (ms : List Member). value_named ms (codes "hex") ≡ Some (jsons.Text digits))
      (object_same json said.0 members said.1 is) said.2,
)

-- ---- header lines

module _ (json : Json) (items : List Json) (one two : Json) (is : json ≡ jsons.List items)
    (are : items ≡ one ∷ two ∷ []) where
  -- two texts are a line
  pub two_say : (name value : List ℕ) → IsText one name → IsText two value → SaysLine json (name, value)
  two_say name value first second = is ∙ ap jsons.List (are ∙ ap₂ (λ (x y : Json). x ∷ y ∷ []) first second)

-- a line is a list of two
pub line_length : (json : Json) (items : List Json) (line : WrittenLine) → json ≡ jsons.List items
    → SaysLine json line → length items ≡ 2
line_length json items line is said =
    ap length (list_same json items (jsons.Text line.0 ∷ jsons.Text line.1 ∷ []) is said)

-- ---- the head

-- members of which the same stand under the names of a head say the same head
head_kept : (ms ns : List Member) (method target : List ℕ) (lines : List WrittenLine)
    → value_named ms (codes "method") ≡ value_named ns (codes "method")
    → value_named ms (codes "uri") ≡ value_named ns (codes "uri")
    → value_named ms (codes "headers") ≡ value_named ns (codes "headers") → SaysHead ms method target lines
    → SaysHead ns method target lines
head_kept ms ns method target lines same_method same_uri same_headers says = record {
  method_said = sym same_method ∙ says.method_said;
  target_said = subst (λ (v : Option Json). SaysTarget v target) same_uri says.target_said;
  headers = says.headers;
  headers_are = subst (λ (v : Option Json). AreItems v says.headers) same_headers says.headers_are;
  headers_said = says.headers_said;
}

-- members from which the values of four other names were taken
module _ (ms ns os ps qs : List Member) (template : KeepsOthers (codes "template") ms ns)
    (id : KeepsOthers (codes "request_id") ns os) (frames : KeepsOthers (codes "frames") os ps)
    (variables : KeepsOthers (codes "variables") ps qs) where
  left_of : (name : List ℕ) → bytes_eq (codes "template") name ≡ false → bytes_eq (codes "request_id") name ≡ false
      → bytes_eq (codes "frames") name ≡ false → bytes_eq (codes "variables") name ≡ false
      → value_named qs name ≡ value_named ms name
  left_of name a b d e = variables name e ∙ frames name d ∙ id name b ∙ template name a

  pub head_before : (method target : List ℕ) (lines : List WrittenLine) → SaysHead qs method target lines
      → SaysHead ms method target lines
  head_before method target lines says =
      head_kept qs ms method target lines (left_of (codes "method") refl refl refl refl)
      (left_of (codes "uri") refl refl refl refl) (left_of (codes "headers") refl refl refl refl) says

  pub head_behind : (method target : List ℕ) (lines : List WrittenLine) → SaysHead ms method target lines
      → SaysHead qs method target lines
  head_behind method target lines says =
      head_kept ms qs method target lines (sym (left_of (codes "method") refl refl refl refl))
      (sym (left_of (codes "uri") refl refl refl refl)) (sym (left_of (codes "headers") refl refl refl refl)) says
