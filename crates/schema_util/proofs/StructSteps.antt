-- The steps by which a struct's members are given.
use Rattle.std.proofs.Common.{◌≡◌, ◌++◌, ◌<◌, ◌≤◌, ℕ, Bool, List, [], ◌∷◌, Option, Some, None, Result, Ok, Err, IfSome, drop, get_or, length, ◌+◌, add-one, true, ◌⊎◌, inl, inr, refl, sym, ◌∙◌, ap, subst, append_assoc, append-nil}
use Rattle.std.proofs.Math.ListN.{drop_of_length-le}
use Rattle.std.specs.Borrow.{Bor}
use Rattle.std.specs.Str.{encode_utf8_all}
use Rattle.schema_values.specs.declared.schema.ObjectParts.{ObjectParts}
use Rattle.schema_values.specs.declared.schema.Schema.{Schema, Object}
use Rattle.schema_values.specs.declared.schema.SchemaObject.{SchemaObject}
use Rattle.schema_values.specs.declared.schema.Subschemas.{Subschemas}
use Rattle.schema_util.specs.declared.form.Form.{Form}
use Rattle.schema_util.specs.declared.form.Form.TheVariants as code
use Rattle.schema_util.specs.Code.{form_value, HasGiven, HaveGiven}
use Rattle.schema_util.specs.Forms.{SchemaForm, schema_form, form_of, reference, struct}
use Rattle.schema_util.specs.References.{Names, reference_of, reference_in, follow}
use Rattle.schema_util.specs.StructMembers.{flattened, behind, own_members, is_enumeration, is_no_object, Misfit, Gives, goes_on, adds, GiveAll, none_left, stops, then_rest}
use Rattle.schema_util.specs.declared.struct_members.StructMember.{StructMember}
use Rattle.schema_util.proofs.Levels.{form_of_object}
use Rattle.schema_util.proofs.ScalarSteps.{next_member}

behind_twice : (own more : List StructMember) (end : Result (List StructMember) Misfit) → behind own (behind more end) ≡ behind (own ++ more) end
behind_twice own more (Ok rest) = ap Ok (sym (append_assoc own more rest))
behind_twice own more (Err why) = refl

-- the form of a schema that the code has looked into
pub formed : (s : Schema) (o got : SchemaObject) (form : SchemaForm) → s ≡ Object o → got ≡ o → form ≡ form_of got → schema_form s ≡ form
formed s o got form is same seen = ap schema_form is ∙ form_of_object o ∙ ap form_of (sym same) ∙ sym seen

-- values, or subschemas alone, are an enumeration
pub enumerated : (form : Form) → ((subschemas : Bor Subschemas) × (form ≡ code.Combination subschemas)) ⊎ (form ≡ code.Values) → is_enumeration (form_value form) ≡ true
enumerated form (inl found) = ap (λ f. is_enumeration (form_value f)) found.1
enumerated form (inr is) = ap (λ f. is_enumeration (form_value f)) is

-- a schema without parts, or with others, is that of no object
pub without_object : (form : Form) → (form ≡ code.Bare) ⊎ (form ≡ code.Other) → is_no_object (form_value form) ≡ true
without_object form (inl is) = ap (λ f. is_no_object (form_value f)) is
without_object form (inr is) = ap (λ f. is_no_object (form_value f)) is

pub refers_to : (s : Schema) (r text : List ℕ) → schema_form s ≡ reference r → encode_utf8_all r ≡ text → reference_of s ≡ Some text
refers_to s r text form same = ap reference_in form ∙ ap Some same

module _ (names : Names) (met : List (List ℕ)) (required : Bool) (s : Schema) where
  -- a reference is followed
  pub reference_given : (text name : List ℕ) (next : Schema) → reference_of s ≡ Some text → follow names met text ≡ Ok (name, next) → (old new : List StructMember)
      → HasGiven names (name ∷ met) required next old new → HasGiven names met required s old new
  reference_given text name next e f old new (more, gives, is) = (more, goes_on text name next (Ok more) e f gives, is)

  pub reference_refused : (text name : List ℕ) (next : Schema) → reference_of s ≡ Some text → follow names met text ≡ Ok (name, next) → (o : Option Misfit)
      → IfSome o (λ why. Gives names (name ∷ met) required next (Err why)) → IfSome o (λ why. Gives names met required s (Err why))
  reference_refused text name next e f None h = tt
  reference_refused text name next e f (Some why) h = goes_on text name next (Err why) e f h

  -- a struct's own members come, and then those beside them
  module _ (object : Option ObjectParts) (subschemas : Option Subschemas) (may_require : Bool) (schemas : List Schema) (form : schema_form s ≡ struct object subschemas)
      (found : flattened required subschemas ≡ Some (may_require, schemas)) where
    pub struct_given : (old middle new : List StructMember) → middle ≡ old ++ own_members required object → HaveGiven names met may_require schemas middle new
        → HasGiven names met required s old new
    struct_given old middle new own (more, all, is) =
        (own_members required object ++ more, adds object subschemas may_require schemas (Ok more) form found all, is ∙ ap (λ ms. ms ++ more) own ∙ append_assoc old (own_members required object) more)

    pub struct_refused : (o : Option Misfit) → IfSome o (λ why. GiveAll names met may_require schemas (Err why)) → IfSome o (λ why. Gives names met required s (Err why))
    struct_refused None h = tt
    struct_refused (Some why) h = adds object subschemas may_require schemas (Err why) form found h

module _ (names : Names) (met : List (List ℕ)) (required : Bool) (schemas : List Schema) (initial : List StructMember) where
  -- the first schemas have given members
  abbrev pub HaveSoFar : ℕ → List StructMember → Type 0
  HaveSoFar i members = (done : List StructMember) × (members ≡ initial ++ done) × ((end : Result (List StructMember) Misfit)
      → GiveAll names met required (drop i schemas) end → GiveAll names met required schemas (behind done end))

  module _ (i : ℕ) (s : Schema) (members : List StructMember) (inside : i < length schemas) (is : s ≡ get_or schemas i s) (before : HaveSoFar i members) where
    pub one_more : (new : List StructMember) → HasGiven names met required s members new → HaveSoFar (i + 1) new
    one_more new (more, gives, given) =
        let (done, so_far, rest) = before in (
          done ++ more,
          given ∙ ap (λ ms. ms ++ more) so_far ∙ append_assoc initial done more,
          λ end all. subst (GiveAll names met required schemas) (behind_twice done more end)
              (rest (behind more end) (rw (next_member schemas i s inside is) (then_rest more end gives (rw add-one at all)))),
        )

    pub one_stops : (o : Option Misfit) → IfSome o (λ why. Gives names met required s (Err why)) → IfSome o (λ why. GiveAll names met required schemas (Err why))
    one_stops None h = tt
    one_stops (Some why) h = before.2 (Err why) (rw (next_member schemas i s inside is) (stops why h))

  pub all_given : (i : ℕ) (members : List StructMember) → length schemas ≤ i → HaveSoFar i members → HaveGiven names met required schemas initial members
  all_given i members past (done, so_far, rest) =
      (done, subst (λ ms. GiveAll names met required schemas (Ok ms)) (append-nil done) (rest (Ok []) (rw (drop_of_length-le schemas past) none_left)), so_far)
