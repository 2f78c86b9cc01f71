-- An object's text, as its members are written one by one.
use Rattle.std.proofs.Common.{◌≡◌, ℕ, List, [], ◌∷◌, ◌++◌, map, length, sym, ap, ◌∙◌, append-nil, append_assoc, arith}
use Rattle.std.proofs.lemmas.List.{map-append, length-map}
use Rattle.schema_values.specs.declared.json_value.Json.{Object}
use Rattle.schema_values.specs.declared.json_value.Member.{Member}
use Rattle.schema_values.specs.Print.{compact_of, comma_before, joined, quoted}
use Rattle.schema_values.specs.PrintMember.{compact_member}
use Rattle.schema_values.proofs.PrintLemmas.{compact-Object, joined_from-push, bracketed}

-- a comma where members stand before, a name and a colon
pub name_written : (out comma name colon : List ℕ) → ((out ++ comma) ++ name) ++ colon ≡ out ++ (comma ++ (name ++ colon))
name_written out comma name colon = simp append_assoc

value_behind : (out comma name colon value : List ℕ) → (out ++ (comma ++ (name ++ colon))) ++ value ≡ out ++ (comma ++ (name ++ (colon ++ value)))
value_behind out comma name colon value = simp append_assoc

-- a value behind its name makes a member
pub value_written : (out : List ℕ) (index : ℕ) (name : List ℕ) (value : List ℕ)
    → (out ++ (comma_before index ++ (quoted name ++ 58 ∷ []))) ++ value ≡ out ++ (comma_before index ++ (quoted name ++ 58 ∷ value))
value_written out index name value = value_behind out (comma_before index) (quoted name) (58 ∷ []) value

-- one more member goes behind a comma, unless it is the first
pub joined_members-push : (ms : List Member) (m : Member)
    → joined (map compact_member (ms ++ m ∷ [])) ≡ joined (map compact_member ms) ++ (comma_before (length ms) ++ compact_member m)
joined_members-push ms m =
    ap joined (map-append compact_member ms (m ∷ []))
    ∙ joined_from-push 0 (length ms) (map compact_member ms) (compact_member m) (omega (arith, length-map ms compact_member))

-- before the first member nothing is written
pub no_member_written : (start : List ℕ) → start ≡ start ++ joined (map compact_member [])
no_member_written start = sym (append-nil start)

-- a member that is written behind others
pub member_written : (ms : List Member) (m : Member) (start before after : List ℕ) → before ≡ start ++ joined (map compact_member ms)
    → after ≡ before ++ (comma_before (length ms) ++ compact_member m) → after ≡ start ++ joined (map compact_member (ms ++ m ∷ []))
member_written ms m start before after was now =
    now ∙ ap (λ out. out ++ (comma_before (length ms) ++ compact_member m)) was
    ∙ append_assoc start (joined (map compact_member ms)) (comma_before (length ms) ++ compact_member m)
    ∙ ap (λ texts. start ++ texts) (sym (joined_members-push ms m))

-- members between braces are an object
pub object_written : (ms : List Member) (start before after : List ℕ) → before ≡ (start ++ 123 ∷ []) ++ joined (map compact_member ms)
    → after ≡ before ++ 125 ∷ [] → after ≡ start ++ compact_of (Object ms)
object_written ms start before after was now =
    now ∙ ap (λ out. out ++ 125 ∷ []) was ∙ bracketed start (joined (map compact_member ms)) 123 125 ∙ ap (λ text. start ++ text) (sym (compact-Object ms))
