-- A text among texts: in an ordered list of them, and in lists one behind another.
use Rattle.std.proofs.Common.{◌≡◌, ℕ, Bool, true, ◌||◌, List, [], ◌∷◌, refl, sym, ◌∙◌, ap}
use Rattle.std.specs.Prelude.{Contains, bytes_eq}
use Rattle.std.specs.declared.cmp.Ordering.{Ordering}
use Rattle.std.specs.declared.cmp.Ordering.TheVariants.{Less, Equal, Greater}
use Rattle.std.specs.BTreeMap.{is_at}
use Rattle.std.specs.BTreeSet.{insert_key}
use Rattle.std.specs.List.{flat_map, list_any}
use Rattle.std.specs.Ordering.{is_eq, match_ordering}
use Rattle.std.proofs.Math.Bool.{or-false, or_self_left, or_comm, or_assoc}
use Rattle.std.proofs.lemmas.Cmp.{nat_list_cmp_total, tied_itself}
use Rattle.std.proofs.lemmas.List.Folds.{list_any-append, list_any_at}
use Rattle.std.proofs.lemmas.Map.Text.{is_eq-slice_cmp}
use Rattle.std.proofs.lemmas.Slice.Eq.{bytes_eq-Decides}
use Rattle.api_documents.specs.ErrorNames.{is_taken}
use Rattle.api_documents.specs.Ordered.{in_text_order, is_among, text_order, with_texts}

pub at_itself : (text : List ℕ) → is_at (text_order text) text ≡ true
at_itself text = ap is_eq (tied_itself nat_list_cmp_total text)

pub same_text : (a b : List ℕ) → is_at (text_order a) b ≡ true → a ≡ b
same_text a b h = (bytes_eq-Decides a b).0 (sym (is_eq-slice_cmp a b) ∙ h)

pub any_contained : {X : Type 0} (p : X → Bool) (xs : List X) (x : X)
    → Contains xs x → p x ≡ true → list_any p xs ≡ true
any_contained p xs x c h = list_any_at p xs c.0 x c.1 (ap p c.2 ∙ h)

or_swapped : (a b c : Bool) → (a || (b || c)) ≡ (b || (a || c))
or_swapped a b c = sym (or_assoc a b c) ∙ ap (λ (x : Bool). x || c) (or_comm a b) ∙ or_assoc b a c

-- a text beside the first of others, by how it compares
abbrev placed : List ℕ → List ℕ → List (List ℕ) → Ordering → List (List ℕ)
placed text first rest o =
    match_ordering o (text ∷ first ∷ rest) (first ∷ rest) (first ∷ insert_key text_order rest text)

module _ (name : List ℕ) where
  among_key : (names : List (List ℕ)) (text : List ℕ)
      → is_among name (insert_key text_order names text) ≡ (is_at (text_order name) text || is_among name names)
  among_key [] text = refl
  among_key (first ∷ rest) text = by_order (text_order text first) refl (among_key rest text)
    where
      by_order : (o : Ordering) → text_order text first ≡ o
          → is_among name (insert_key text_order rest text) ≡ (is_at (text_order name) text || is_among name rest)
          → is_among name (placed text first rest o) ≡ (is_at (text_order name) text || is_among name (first ∷ rest))
      by_order Less e h = refl
      by_order Equal e h =
          sym (or_self_left (is_at (text_order name) first) (is_among name rest))
          ∙ ap (λ (t : List ℕ). is_at (text_order name) t || is_among name (first ∷ rest))
          (sym (same_text text first (ap is_eq e)))
      by_order Greater e h =
          ap (λ (b : Bool). is_at (text_order name) first || b) h
          ∙ or_swapped (is_at (text_order name) first) (is_at (text_order name) text) (is_among name rest)

  pub among_texts : (more names : List (List ℕ))
      → is_among name (with_texts names more) ≡ (is_among name names || is_among name more)
  among_texts [] names = sym (or-false (is_among name names))
  among_texts (text ∷ more) names =
      among_texts more (insert_key text_order names text)
      ∙ ap (λ (b : Bool). b || is_among name more)
      (among_key names text ∙ or_comm (is_at (text_order name) text) (is_among name names))
      ∙ or_assoc (is_among name names) (is_at (text_order name) text) (is_among name more)

  pub among_joined : {X : Type 0} (f : X → List (List ℕ)) (xs : List X)
      → is_among name (flat_map f xs) ≡ list_any (λ x. is_among name (f x)) xs
  among_joined f [] = refl
  among_joined f (x ∷ xs) =
      list_any-append (is_at (text_order name)) (f x) (flat_map f xs)
      ∙ ap (λ (b : Bool). is_among name (f x) || b) (among_joined f xs)

-- whether a name is taken is told by the names in order
pub among_taken : (name : List ℕ) (names : List (List ℕ)) → is_among name (in_text_order names) ≡ is_taken names name
among_taken name names = among_texts name names [] ∙ each names
  where
    each : (texts : List (List ℕ)) → is_among name texts ≡ is_taken texts name
    each [] = refl
    each (text ∷ texts) =
        ap (λ (b : Bool). b || is_among name texts) (is_eq-slice_cmp name text)
        ∙ ap (λ (b : Bool). bytes_eq name text || b) (each texts)
