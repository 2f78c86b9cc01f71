-- The values of the lines of a name, after the lines change.
use Rattle.std.proofs.Common.{◌≡◌, ◌⊎◌, ℕ, ◌-◌, Bool, true, false, not, ◌||◌, cond, List, [], ◌∷◌, ◌++◌, length}
use Rattle.std.proofs.Common.{map, filter, bytes_eq, Some, refl, sym, ap, ◌∙◌, arith, inl, inr, suc, append-nil}
use Rattle.std.specs.Prelude.{slice_get, if◌then◌else◌}
use Rattle.std.specs.declared.option.Option.{Option}
use Rattle.std.specs.List.{list_any}
use Rattle.std.proofs.lemmas.Bool.{cases_Bool, cond-true, cond-false, false_from_ne_true}
use Rattle.std.proofs.lemmas.List.{map-append}
use Rattle.std.proofs.lemmas.List.Elements.{filter-append}
use Rattle.std.proofs.lemmas.Slice.Eq.{bytes_eq-Decides}
use Rattle.http_header.specs.FieldValue.{FieldValue}
use Rattle.http_header.specs.Token.{lowercase}
use Rattle.header_lists.specs.HeaderLists.{Line, extended, first_of, has_line, inserted, is_line_of}
use Rattle.header_lists.specs.HeaderLists.{is_same_name, last_of, values_of, without}
use Rattle.header_lists.proofs.Filters.{filter-none, filter-both}

-- ---- names
same_lowered : (name other : List ℕ) → is_same_name name other ≡ true → lowercase name ≡ lowercase other
same_lowered name other same = (bytes_eq-Decides (lowercase name) (lowercase other)).0 same

lowered_same : (name other : List ℕ) → lowercase name ≡ lowercase other → is_same_name name other ≡ true
lowered_same name other same = (bytes_eq-Decides (lowercase name) (lowercase other)).1 same

-- a line of one name is none of another
line_of_one : (name other : List ℕ) (line : Line) → is_same_name name other ≡ false → is_line_of name line ≡ true
    → is_line_of other line ≡ false
line_of_one name other line apart here =
    false_from_ne_true (is_line_of other line) (λ there.
    let both : lowercase name ≡ lowercase other =
    sym (same_lowered line.0 name here) ∙ same_lowered line.0 other there in
    absurd (cc (apart, lowered_same name other both)))

-- ---- values
values-same : (name other : List ℕ) (lines : List Line) → is_same_name name other ≡ true
    → values_of other lines ≡ values_of name lines
values-same name other lines same =
    ap (λ (lowered : List ℕ). map (λ line. line.1) (filter (λ line. bytes_eq (lowercase line.0) lowered) lines))
    (sym (same_lowered name other same))

pub values-append : (name : List ℕ) (lines more : List Line)
    → values_of name (lines ++ more) ≡ values_of name lines ++ values_of name more
values-append name lines more =
    ap (map (λ line. line.1)) (filter-append (is_line_of name) lines more)
    ∙ map-append (λ line. line.1) (filter (is_line_of name) lines) (filter (is_line_of name) more)

values-here : (name : List ℕ) (line : Line) (lines : List Line) → is_line_of name line ≡ true
    → values_of name (line ∷ lines) ≡ line.1 ∷ values_of name lines
values-here name line lines here =
    ap (map (λ line. line.1))
    (cond-true (is_line_of name line) (line ∷ filter (is_line_of name) lines) (filter (is_line_of name) lines) here)

values-other : (name : List ℕ) (line : Line) (lines : List Line) → is_line_of name line ≡ false
    → values_of name (line ∷ lines) ≡ values_of name lines
values-other name line lines other =
    ap (map (λ line. line.1))
    (cond-false (is_line_of name line) (line ∷ filter (is_line_of name) lines) (filter (is_line_of name) lines) other)

-- a name has a value exactly where one of the lines has the name
values-none : (name : List ℕ) (lines : List Line) → has_line name lines ≡ false → values_of name lines ≡ []
values-none name [] none = refl
values-none name (line ∷ lines) none =
    elim (cases_Bool (is_line_of name line)) [
      | inl here ↦ absurd (cc (none, ap (λ (b : Bool). b || has_line name lines) here))
      | inr other ↦
          values-other name line lines other
          ∙ values-none name lines (sym (ap (λ (b : Bool). b || has_line name lines) other) ∙ none)
    ]

values-some : (name : List ℕ) (lines : List Line) → has_line name lines ≡ true
    → (value : FieldValue) × (values : List FieldValue) × (values_of name lines ≡ value ∷ values)
values-some name [] some = absurd (cc some)
values-some name (line ∷ lines) some =
    elim (cases_Bool (is_line_of name line)) [
      | inl here ↦ (line.1, values_of name lines, values-here name line lines here)
      | inr other ↦
          let more = values-some name lines (sym (ap (λ (b : Bool). b || has_line name lines) other) ∙ some) in
          (more.0, more.1, values-other name line lines other ∙ more.2)
    ]

-- ---- first and last
last-push : {X : Type 0} (xs : List X) (x : X) → slice_get (xs ++ x ∷ []) (length (xs ++ x ∷ []) - 1) ≡ Some x
last-push [] x = refl
last-push (y ∷ []) x = refl
last-push (y ∷ z ∷ xs) x =
    let less : length (y ∷ z ∷ (xs ++ x ∷ [])) - 1 ≡ suc (length (z ∷ (xs ++ x ∷ [])) - 1) = omega arith in
    ap (slice_get (y ∷ z ∷ (xs ++ x ∷ []))) less ∙ last-push (z ∷ xs) x

abbrev first_in : List FieldValue → Option FieldValue
first_in values = slice_get values 0

abbrev last_in : List FieldValue → Option FieldValue
last_in values = slice_get values (length values - 1)

-- ---- a line behind the others
module _ (name other : List ℕ) (value : FieldValue) (lines : List Line) where
  pub append-more : is_same_name name other ≡ true
      → values_of other (lines ++ (name, value) ∷ []) ≡ values_of other lines ++ value ∷ []
  append-more same =
      values-append other lines ((name, value) ∷ [])
      ∙ ap (λ (vs : List FieldValue). values_of other lines ++ vs) (values-here other (name, value) [] same)

  pub append-others : is_same_name name other ≡ false
      → values_of other (lines ++ (name, value) ∷ []) ≡ values_of other lines
  append-others apart =
      values-append other lines ((name, value) ∷ [])
      ∙ ap (λ (vs : List FieldValue). values_of other lines ++ vs) (values-other other (name, value) [] apart)
      ∙ append-nil (values_of other lines)

  pub append-first : is_same_name name other ≡ true
      → first_of other (lines ++ (name, value) ∷ [])
      ≡ (if has_line other lines then first_of other lines else Some value)
  append-first same = ap first_in (append-more same) ∙ by_lines (cases_Bool (has_line other lines))
    where
      by_lines : (has_line other lines ≡ true) ⊎ (has_line other lines ≡ false)
          → first_in (values_of other lines ++ value ∷ [])
          ≡ (if has_line other lines then first_of other lines else Some value)
      by_lines (inl some) =
          let at = values-some other lines some in
          ap (λ (vs : List FieldValue). first_in (vs ++ value ∷ [])) at.2 ∙ ap first_in (sym at.2)
          ∙ sym (cond-true (has_line other lines) (first_of other lines) (Some value) some)
      by_lines (inr none) =
          ap (λ (vs : List FieldValue). first_in (vs ++ value ∷ [])) (values-none other lines none)
          ∙ sym (cond-false (has_line other lines) (first_of other lines) (Some value) none)

  pub append-last : is_same_name name other ≡ true → last_of other (lines ++ (name, value) ∷ []) ≡ Some value
  append-last same = ap last_in (append-more same) ∙ last-push (values_of other lines) value

-- ---- one line in the place of those of its name
not_line : (name : List ℕ) (line : Line) → is_line_of name line ≡ true → not (is_line_of name line) ≡ false
not_line name line here = ap not here

values-without : (name : List ℕ) (lines : List Line) → values_of name (without name lines) ≡ []
values-without name lines =
    ap (map (λ line. line.1)) (filter-none (is_line_of name) (λ line. not (is_line_of name line)) (not_line name) lines)

values-without_other : (name other : List ℕ) (lines : List Line) → is_same_name name other ≡ false
    → values_of other (without name lines) ≡ values_of other lines
values-without_other name other lines apart =
    ap (map (λ line. line.1)) (filter-both (is_line_of other) (λ line. not (is_line_of name line))
    (λ line there. ap not (line_of_one other name line (other_way apart) there)) lines)
  where
    other_way : is_same_name name other ≡ false → is_same_name other name ≡ false
    other_way apart =
        false_from_ne_true (is_same_name other name)
        (λ same. absurd (cc (apart, lowered_same name other (sym (same_lowered other name same)))))

insert-own : (name : List ℕ) (value : FieldValue) (lines : List Line)
    → values_of name (inserted name value lines) ≡ value ∷ []
insert-own name value [] = values-here name (name, value) [] (lowered_same name name refl)
insert-own name value (line ∷ lines) =
    elim (cases_Bool (is_line_of name line)) [
      | inl here ↦
          ap (values_of name)
          (cond-true (is_line_of name line) ((name, value) ∷ without name lines)
          (line ∷ inserted name value lines) here)
          ∙ values-here name (name, value) (without name lines) (lowered_same name name refl)
          ∙ ap (λ (vs : List FieldValue). value ∷ vs) (values-without name lines)
      | inr other ↦
          ap (values_of name)
          (cond-false (is_line_of name line) ((name, value) ∷ without name lines)
          (line ∷ inserted name value lines) other)
          ∙ values-other name line (inserted name value lines) other
          ∙ insert-own name value lines
    ]

module _ (name other : List ℕ) (value : FieldValue) where
  pub insert-one : (lines : List Line) → is_same_name name other ≡ true
      → values_of other (inserted name value lines) ≡ value ∷ []
  insert-one lines same = values-same name other (inserted name value lines) same ∙ insert-own name value lines

  pub insert-others : (lines : List Line) → is_same_name name other ≡ false
      → values_of other (inserted name value lines) ≡ values_of other lines
  insert-others [] apart = values-other other (name, value) [] apart
  insert-others (line ∷ lines) apart =
      elim (cases_Bool (is_line_of name line)) [
        | inl here ↦
            ap (values_of other)
            (cond-true (is_line_of name line) ((name, value) ∷ without name lines)
            (line ∷ inserted name value lines) here)
            ∙ values-other other (name, value) (without name lines) apart
            ∙ values-without_other name other lines apart
            ∙ sym (values-other other line lines (line_of_one name other line apart here))
        | inr not_here ↦
            ap (values_of other)
            (cond-false (is_line_of name line) ((name, value) ∷ without name lines)
            (line ∷ inserted name value lines) not_here)
            ∙ behind line (inserted name value lines) lines (insert-others lines apart)
      ]
    where
      behind : (line : Line) (before after : List Line) → values_of other before ≡ values_of other after
          → values_of other (line ∷ before) ≡ values_of other (line ∷ after)
      behind line before after same =
          elim (cases_Bool (is_line_of other line)) [
            | inl there ↦
                values-here other line before there ∙ ap (λ (vs : List FieldValue). line.1 ∷ vs) same
                ∙ sym (values-here other line after there)
            | inr apart ↦ values-other other line before apart ∙ same ∙ sym (values-other other line after apart)
          ]

  pub insert-first : (lines : List Line) → is_same_name name other ≡ true
      → first_of other (inserted name value lines) ≡ Some value
  insert-first lines same = ap first_in (insert-one lines same)

  pub insert-last : (lines : List Line) → is_same_name name other ≡ true
      → last_of other (inserted name value lines) ≡ Some value
  insert-last lines same = ap last_in (insert-one lines same)

-- ---- lines in the place of those of their names
has_line-same : (name other : List ℕ) (lines : List Line) → is_same_name name other ≡ true
    → has_line name lines ≡ has_line other lines
has_line-same name other lines same =
    ap (λ (lowered : List ℕ). list_any (λ line. bytes_eq (lowercase line.0) lowered) lines)
    (same_lowered name other same)

module _ (name : List ℕ) (lines added : List Line) where
  pub extend-values : values_of name (extended lines added)
      ≡ (if has_line name added then values_of name added else values_of name lines)
  extend-values =
      values-append name (filter (λ line. not (has_line line.0 added)) lines) added
      ∙ elim (cases_Bool (has_line name added)) [
        | inl some ↦
            ap (λ (ls : List Line). map (λ line. line.1) ls ++ values_of name added)
            (filter-none (is_line_of name) (λ line. not (has_line line.0 added))
            (λ line here. ap not (has_line-same line.0 name added here ∙ some)) lines)
            ∙ sym (cond-true (has_line name added) (values_of name added) (values_of name lines) some)
        | inr none ↦
            ap (λ (ls : List Line). map (λ line. line.1) ls ++ values_of name added)
            (filter-both (is_line_of name) (λ line. not (has_line line.0 added))
            (λ line here. ap not (has_line-same line.0 name added here ∙ none)) lines)
            ∙ ap (λ (vs : List FieldValue). values_of name lines ++ vs) (values-none name added none)
            ∙ append-nil (values_of name lines)
            ∙ sym (cond-false (has_line name added) (values_of name added) (values_of name lines) none)
      ]

  within : (f : List FieldValue → Option FieldValue) → (b : Bool) (xs ys : List FieldValue)
      → f (cond b xs ys) ≡ cond b (f xs) (f ys)
  within f true xs ys = refl
  within f false xs ys = refl

  pub extend-first : first_of name (extended lines added)
      ≡ (if has_line name added then first_of name added else first_of name lines)
  extend-first =
      ap first_in extend-values ∙ within first_in (has_line name added) (values_of name added) (values_of name lines)

  pub extend-last : last_of name (extended lines added)
      ≡ (if has_line name added then last_of name added else last_of name lines)
  extend-last =
      ap last_in extend-values ∙ within last_in (has_line name added) (values_of name added) (values_of name lines)

-- ---- lines that are gone through from the last one
module _ (name : List ℕ) (lines : List Line) (line : Line) where
  pub last_of-here : is_line_of name line ≡ true → last_of name (lines ++ line ∷ []) ≡ Some line.1
  last_of-here here = append-last line.0 name line.1 lines here
