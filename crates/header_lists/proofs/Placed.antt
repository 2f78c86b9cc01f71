-- A line that is put in the place of the first one of its name.
use Rattle.std.proofs.Common.{◌≡◌, ℕ, ◌+◌, ◌<◌, ◌≤◌, Bool, true, false, not, ◌||◌, cond, List, [], ◌∷◌, ◌++◌}
use Rattle.std.proofs.Common.{length, Some, None, refl, sym, ap, ◌∙◌, arith, inl, inr, suc}
use Rattle.std.specs.List.{insert, position, position_from}
use Rattle.std.proofs.lemmas.Bool.{cases_Bool, cond-true, cond-false}
use Rattle.std.proofs.lemmas.Iterator.Adapters.{position_from-zero}
use Rattle.std.proofs.lemmas.List.Filters.{length-filter_both}
use Rattle.http_header.specs.FieldValue.{FieldValue}
use Rattle.header_lists.specs.HeaderLists.{Line, has_line, inserted, is_line_of, without}

-- the line stands at this place among those that stay, of which there are fewer
pub record IsPlaced (name : List ℕ) (value : FieldValue) (lines : List Line) (place : ℕ) : Type 0 where
  pub placed : inserted name value lines ≡ insert (without name lines) place (name, value)
  pub within : place ≤ length (without name lines)
  pub fewer : length (without name lines) < length lines

module _ (name : List ℕ) (value : FieldValue) (line : Line) (lines : List Line) where
  without-here : is_line_of name line ≡ true → without name (line ∷ lines) ≡ without name lines
  without-here here = ap (λ (b : Bool). cond (not b) (line ∷ without name lines) (without name lines)) here

  without-other : is_line_of name line ≡ false → without name (line ∷ lines) ≡ line ∷ without name lines
  without-other other = ap (λ (b : Bool). cond (not b) (line ∷ without name lines) (without name lines)) other

  inserted-here : is_line_of name line ≡ true
      → inserted name value (line ∷ lines) ≡ (name, value) ∷ without name lines
  inserted-here here =
      cond-true (is_line_of name line) ((name, value) ∷ without name lines) (line ∷ inserted name value lines) here

  inserted-other : is_line_of name line ≡ false
      → inserted name value (line ∷ lines) ≡ line ∷ inserted name value lines
  inserted-other other =
      cond-false (is_line_of name line) ((name, value) ∷ without name lines) (line ∷ inserted name value lines) other

  found-here : (i : ℕ) → is_line_of name line ≡ true → position_from (is_line_of name) i (line ∷ lines) ≡ Some i
  found-here i here =
      cond-true (is_line_of name line) (Some i) (position_from (is_line_of name) (i + 1) lines) here

  found-other : (i : ℕ) → is_line_of name line ≡ false
      → position_from (is_line_of name) i (line ∷ lines) ≡ position_from (is_line_of name) (i + 1) lines
  found-other i other =
      cond-false (is_line_of name line) (Some i) (position_from (is_line_of name) (i + 1) lines) other

module _ (name : List ℕ) (value : FieldValue) where
  first_placed : (line : Line) (lines : List Line) → is_line_of name line ≡ true → IsPlaced name value (line ∷ lines) 0
  first_placed line lines here =
      let gone = without-here name value line lines here in
      let fewer = length-filter_both (is_line_of name) (λ line. not (is_line_of name line)) (λ _. refl) lines in
      record {
        placed = inserted-here name value line lines here ∙ ap (λ (ls : List Line). (name, value) ∷ ls) (sym gone);
        within = omega arith;
        fewer = omega (arith, ap length gone, fewer);
      }

  later_placed : (line : Line) (lines : List Line) (place : ℕ) → is_line_of name line ≡ false
      → IsPlaced name value lines place → IsPlaced name value (line ∷ lines) (suc place)
  later_placed line lines place other rest =
      let stays = without-other name value line lines other in
      record {
        placed =
            inserted-other name value line lines other
            ∙ ap (λ (ls : List Line). line ∷ ls) rest.placed
            ∙ ap (λ (ls : List Line). insert ls (suc place) (name, value)) (sym stays);
        within = omega (arith, ap length stays, rest.within);
        fewer = omega (arith, ap length stays, rest.fewer);
      }

  placed_from : (lines : List Line) (i n : ℕ) → position_from (is_line_of name) i lines ≡ Some n
      → (place : ℕ) × (n ≡ i + place) × IsPlaced name value lines place
  placed_from [] i n found = absurd (cc found)
  placed_from (line ∷ lines) i n found =
      elim (cases_Bool (is_line_of name line)) [
        | inl here ↦
            let same : n ≡ i = cc (found, found-here name value line lines i here) in
            (0, omega (arith, same), first_placed line lines here)
        | inr other ↦
            let later = placed_from lines (i + 1) n (sym (found-other name value line lines i other) ∙ found) in
            (suc later.0, omega (arith, later.1), later_placed line lines later.0 other later.2)
      ]

  -- the place that is found in a copy of the lines
  pub line_placed : (lines copy : List Line) (place : ℕ) → Some place ≡ position (is_line_of name) copy
      → copy ≡ lines → IsPlaced name value lines place
  line_placed lines copy place found same =
      let is = ap (position (is_line_of name)) same ∙ position_from-zero (is_line_of name) lines in
      let there = placed_from lines 0 place (sym (found ∙ is)) in
      let same_place : place ≡ there.0 = omega (arith, there.1) in
      rw same_place there.2

  -- where there is no line of the name, one is added behind the others
  added_from : (lines : List Line) (i : ℕ) → position_from (is_line_of name) i lines ≡ None
      → (inserted name value lines ≡ lines ++ (name, value) ∷ []) × (has_line name lines ≡ false)
  added_from [] i none = (refl, refl)
  added_from (line ∷ lines) i none =
      elim (cases_Bool (is_line_of name line)) [
        | inl here ↦ absurd (cc (none, found-here name value line lines i here))
        | inr other ↦
            let rest = added_from lines (i + 1) (sym (found-other name value line lines i other) ∙ none) in (
              inserted-other name value line lines other ∙ ap (λ (ls : List Line). line ∷ ls) rest.0,
              ap (λ (b : Bool). b || has_line name lines) other ∙ rest.1,
            )
      ]

  -- where none is found in a copy of the lines
  pub line_added : (lines copy : List Line) → None ≡ position (is_line_of name) copy → copy ≡ lines
      → (inserted name value lines ≡ lines ++ (name, value) ∷ []) × (has_line name lines ≡ false)
  line_added lines copy none same =
      let is = ap (position (is_line_of name)) same ∙ position_from-zero (is_line_of name) lines in
      added_from lines 0 (sym (none ∙ is))
