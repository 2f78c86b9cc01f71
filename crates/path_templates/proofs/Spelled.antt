-- A path is the template of the segments that are read from it, and of no others.
use Rattle.std.proofs.Common.{◌≡◌, ◌↔◌, ◌==◌, ℕ, suc, ◌+◌, Bool, true, false, not, ◌&&◌, List, [], ◌∷◌, ◌++◌, Option}
use Rattle.std.proofs.Common.{Some, None, append-nil, arith, ap, codes, drop, inl, inr, length, map, refl, subst, sym}
use Rattle.std.proofs.Common.{take, ◌∙◌}
use Rattle.std.specs.Prelude.{bytes_eq, if◌then◌else◌, option_and_then}
use Rattle.std.specs.List.{list_all, prefix_len}
use Rattle.std.specs.Cmp.{unsigned_Decides}
use Rattle.std.proofs.lemmas.Bool.{and_from, and_parts, cases_Bool, not-true}
use Rattle.std.proofs.lemmas.List.{take-append-drop}
use Rattle.std.proofs.Math.Seq.{drop-append_seam, take-append_seam}
use Rattle.std.proofs.lemmas.Slice.Eq.{bytes_eq-Decides}
use Rattle.schema_values.specs.SoundTest.{are_distinct}
use Rattle.path_templates.specs.Segments.{before_others, closed_by, if_arranged, literal_of, name_length, onto_first}
use Rattle.path_templates.specs.Segments.{pieces, segment_of, segments_behind, segments_in, segments_of}
use Rattle.path_templates.specs.Segments.{segments_trimmed, variable_of}
use Rattle.path_templates.specs.Templates.{IsReadAs, IsTemplateOf, are_arranged, begins_name, behind_slashes}
use Rattle.path_templates.specs.Templates.{continues_name, is_literal, is_literal_character, is_segment}
use Rattle.path_templates.specs.Templates.{is_variable_name, is_wildcard_last, names_of, segment_text, template_text}
use Rattle.path_templates.specs.Templates.{trimmed}
use Rattle.path_templates.specs.declared.segment.PathSegment.{PathSegment}
use Rattle.path_templates.specs.declared.segment.PathSegment.TheVariants.{Literal, VarnameSegment, VarnameWildcard}

-- each is a segment, and they may stand together
abbrev are_segments : List PathSegment → Bool
are_segments ss = list_all is_segment ss && are_arranged ss

same_number : (c d : ℕ) → (c == d) ≡ true → c ≡ d
same_number c d e = (unsigned_Decides c d).0 e

-- ---- what is read is right, and is spelled so

closed_spelled : (name ending : List ℕ) (s : PathSegment) → is_variable_name name ≡ true
    → closed_by name ending ≡ Some s → (is_segment s ≡ true) × (segment_text s ≡ 123 ∷ (name ++ ending))
closed_spelled name ending s right e = elim (cases_Bool (bytes_eq ending (codes "}"))) [
  | inl one ↦
      let is : Some (VarnameSegment name) ≡ Some s = sym (rw one refl) ∙ e in
      let same : VarnameSegment name ≡ s = cc is in
      rw (← same) (right, ap (λ x. 123 ∷ (name ++ x)) (sym ((bytes_eq-Decides ending (codes "}")).0 one)))
  | inr other ↦ elim (cases_Bool (bytes_eq ending (codes ":.*}"))) [
    | inl all ↦
        let is : Some (VarnameWildcard name) ≡ Some s = sym (rw (other, all) refl) ∙ e in
        let same : VarnameWildcard name ≡ s = cc is in
        rw (← same) (right, ap (λ x. 123 ∷ (name ++ x)) (sym ((bytes_eq-Decides ending (codes ":.*}")).0 all)))
    | inr none ↦ let never : None ≡ Some s = sym (rw (other, none) refl) ∙ e in absurd (cc never)
  ]
]

variable_spelled : (cs : List ℕ) (s : PathSegment) → variable_of cs ≡ Some s
    → (is_segment s ≡ true) × (segment_text s ≡ 123 ∷ cs)
variable_spelled cs s e = elim (cases_Bool (is_variable_name (take (name_length cs) cs))) [
  | inl right ↦
      let is : closed_by (take (name_length cs) cs) (drop (name_length cs) cs) ≡ Some s = sym (rw right refl) ∙ e in
      let both = closed_spelled (take (name_length cs) cs) (drop (name_length cs) cs) s right is in
      (both.0, both.1 ∙ ap (λ x. 123 ∷ x) (take-append-drop (name_length cs) cs))
  | inr other ↦ let never : None ≡ Some s = sym (rw other refl) ∙ e in absurd (cc never)
]

literal_spelled : (text : List ℕ) (s : PathSegment) → literal_of text ≡ Some s
    → (is_segment s ≡ true) × (segment_text s ≡ text)
literal_spelled text s e = elim (cases_Bool (is_literal text)) [
  | inl right ↦
      let is : Some (Literal text) ≡ Some s = sym (rw right refl) ∙ e in
      let same : Literal text ≡ s = cc is in
      rw (← same) (right, refl)
  | inr other ↦ let never : None ≡ Some s = sym (rw other refl) ∙ e in absurd (cc never)
]

segment_spelled : (p : List ℕ) (s : PathSegment) → segment_of p ≡ Some s → (is_segment s ≡ true) × (segment_text s ≡ p)
segment_spelled [] s e = absurd (cc e)
segment_spelled (c ∷ cs) s e = elim (cases_Bool (c == 123)) [
  | inl opens ↦
      let is : variable_of cs ≡ Some s = sym (rw opens refl) ∙ e in
      let both = variable_spelled cs s is in
      (both.0, both.1 ∙ ap (λ x. x ∷ cs) (sym (same_number c 123 opens)))
  | inr other ↦ let is : literal_of (c ∷ cs) ≡ Some s = sym (rw other refl) ∙ e in literal_spelled (c ∷ cs) s is
]

-- where some pieces are segments, the first is one and the others are
record AreParts (first : Option PathSegment) (others : Option (List PathSegment))
    (all : List PathSegment) : Type 0 where
  segment : PathSegment
  rest : List PathSegment
  first_is : first ≡ Some segment
  others_are : others ≡ Some rest
  all_are : all ≡ segment ∷ rest

parts_of : (first : Option PathSegment) (others : Option (List PathSegment)) (all : List PathSegment)
    → option_and_then (λ s. before_others s others) first ≡ Some all → AreParts first others all
parts_of None others all e = absurd (cc e)
parts_of (Some s) None all e = absurd (cc e)
parts_of (Some s) (Some ss) all e =
    let is : s ∷ ss ≡ all = cc e in
    record { segment = s; rest = ss; first_is = refl; others_are = refl; all_are = sym is }

segments_spelled : (ps : List (List ℕ)) (ss : List PathSegment) → segments_in ps ≡ Some ss
    → (list_all is_segment ss ≡ true) × (map segment_text ss ≡ ps)
segments_spelled [] ss e = let is : [] ≡ ss = cc e in rw (← is) (refl, refl)
segments_spelled (p ∷ ps) ss e =
    let parts = parts_of (segment_of p) (segments_in ps) ss e in
    let first = segment_spelled p parts.segment parts.first_is in
    let others = segments_spelled ps parts.rest parts.others_are in
    let texts = ap (λ x. x ∷ map segment_text parts.rest) first.1 ∙ ap (λ x. p ∷ x) others.1 in
    rw parts.all_are (and_from _ _ first.0 others.0, texts)

-- pieces, each behind a slash
abbrev joined : List (List ℕ) → List ℕ
joined [] = []
joined (p ∷ ps) = 47 ∷ (p ++ joined ps)

joined_onto : (c : ℕ) (ps : List (List ℕ)) (rest : List ℕ) → joined ps ≡ 47 ∷ rest
    → joined (onto_first c ps) ≡ 47 ∷ c ∷ rest
joined_onto c [] rest e = absurd (cc e)
joined_onto c (p ∷ ps) rest e = let is : p ++ joined ps ≡ rest = cc e in ap (λ x. 47 ∷ c ∷ x) is

joined_pieces : (cs : List ℕ) → joined (pieces cs) ≡ 47 ∷ cs
joined_pieces [] = refl
joined_pieces (c ∷ cs) = elim (cases_Bool (c == 47)) [
  | inl here ↦ rw here (ap (λ x. 47 ∷ x) (joined_pieces cs) ∙ ap (λ x. 47 ∷ x ∷ cs) (sym (same_number c 47 here)))
  | inr other ↦ rw other (joined_onto c (pieces cs) cs (joined_pieces cs))
]

behind_joined : (ss : List PathSegment) → behind_slashes ss ≡ joined (map segment_text ss)
behind_joined [] = refl
behind_joined (s ∷ ss) = ap (λ x. 47 ∷ (segment_text s ++ x)) (behind_joined ss)

-- what is behind slashes is the text of a template, where there is anything
text_behind : (ss : List PathSegment) (rest : List ℕ) → behind_slashes ss ≡ 47 ∷ rest → 47 ∷ rest ≡ template_text ss
text_behind [] rest e = absurd (cc e)
text_behind (s ∷ ss) rest e = sym e

arranged_spelled : (cs : List ℕ) (o : Option (List PathSegment)) (ss : List PathSegment) → o ≡ segments_in (pieces cs)
    → option_and_then if_arranged o ≡ Some ss
    → (are_segments ss ≡ true) × (47 ∷ cs ≡ template_text ss)
arranged_spelled cs None ss is e = absurd (cc e)
arranged_spelled cs (Some qs) ss is e = elim (cases_Bool (are_arranged qs)) [
  | inl right ↦
      let found : Some qs ≡ Some ss = sym (rw right refl) ∙ e in
      let same : qs ≡ ss = cc found in
      let spelled = segments_spelled (pieces cs) qs (sym is) in
      let behind : behind_slashes qs ≡ 47 ∷ cs = behind_joined qs ∙ ap joined spelled.1 ∙ joined_pieces cs in
      rw (← same) (and_from _ _ spelled.0 right, text_behind qs cs behind)
  | inr other ↦ let never : None ≡ Some ss = sym (rw other refl) ∙ e in absurd (cc never)
]

behind_spelled : (cs : List ℕ) (ss : List PathSegment) → segments_behind cs ≡ Some ss
    → (are_segments ss ≡ true) × (47 ∷ cs ≡ template_text ss)
behind_spelled [] ss e = let is : [] ≡ ss = cc e in rw (← is) (refl, refl)
behind_spelled (c ∷ cs) ss e = arranged_spelled (c ∷ cs) (segments_in (pieces (c ∷ cs))) ss refl e

read_spelled : (path : List ℕ) (ss : List PathSegment) → segments_trimmed path ≡ Some ss
    → (are_segments ss ≡ true) × (path ≡ template_text ss)
read_spelled [] ss e = absurd (cc e)
read_spelled (c ∷ cs) ss e = elim (cases_Bool (c == 47)) [
  | inl here ↦
      let is : segments_behind cs ≡ Some ss = sym (rw here refl) ∙ e in
      let both = behind_spelled cs ss is in
      (both.0, ap (λ x. x ∷ cs) (same_number c 47 here) ∙ both.1)
  | inr other ↦ let never : None ≡ Some ss = sym (rw other refl) ∙ e in absurd (cc never)
]

-- ---- what is right is read again

-- a text without a slash
abbrev IsPlain : List ℕ → Type 0
IsPlain text = list_all (λ c. not (c == 47)) text ≡ true

continues_no_slash : (c : ℕ) → continues_name c ≡ true → not (c == 47) ≡ true
continues_no_slash c right = elim (cases_Bool (c == 47)) [
  | inl here ↦
      let never : continues_name 47 ≡ true = subst (λ d. continues_name d ≡ true) (same_number c 47 here) right in
      absurd (cc never)
  | inr other ↦ rw other refl
]

each_further : (p q : ℕ → Bool) → ((c : ℕ) → p c ≡ true → q c ≡ true) → (cs : List ℕ) → list_all p cs ≡ true
    → list_all q cs ≡ true
each_further p q further [] all = refl
each_further p q further (c ∷ cs) all =
    let both = and_parts _ _ all in and_from _ _ (further c both.0) (each_further p q further cs both.1)

literal_no_slash : (c : ℕ) → is_literal_character c ≡ true → not (c == 47) ≡ true
literal_no_slash c right = (and_parts _ _ right).0

begins_continues : (c : ℕ) → begins_name c ≡ true → continues_name c ≡ true
begins_continues c right = rw right refl

name_continues : (name : List ℕ) → is_variable_name name ≡ true → list_all continues_name name ≡ true
name_continues [] right = refl
name_continues (c ∷ cs) right = let both = and_parts _ _ right in and_from _ _ (begins_continues c both.0) both.1

plain_append : (text other : List ℕ) → IsPlain text → IsPlain other → IsPlain (text ++ other)
plain_append [] other first second = second
plain_append (c ∷ cs) other first second =
    let both = and_parts _ _ first in and_from _ _ both.0 (plain_append cs other both.1 second)

name_plain : (name ending : List ℕ) → is_variable_name name ≡ true → IsPlain ending → IsPlain (123 ∷ (name ++ ending))
name_plain name ending right plain =
    plain_append name ending
    (each_further continues_name (λ c. not (c == 47)) continues_no_slash name (name_continues name right)) plain

segment_plain : (s : PathSegment) → is_segment s ≡ true → IsPlain (segment_text s)
segment_plain (Literal []) right = refl
segment_plain (Literal (c ∷ cs)) right =
    each_further is_literal_character (λ c. not (c == 47)) literal_no_slash (c ∷ cs) right
segment_plain (VarnameSegment name) right = name_plain name (codes "}") right refl
segment_plain (VarnameWildcard name) right = name_plain name (codes ":.*}") right refl

pieces_plain : (text : List ℕ) → IsPlain text → pieces text ≡ text ∷ []
pieces_plain [] plain = refl
pieces_plain (c ∷ cs) plain =
    let both = and_parts _ _ plain in rw (not-true (c == 47) both.0, pieces_plain cs both.1) refl

pieces_cut : (text rest : List ℕ) → IsPlain text → pieces (text ++ 47 ∷ rest) ≡ text ∷ pieces rest
pieces_cut [] rest plain = refl
pieces_cut (c ∷ cs) rest plain =
    let both = and_parts _ _ plain in rw (not-true (c == 47) both.0, pieces_cut cs rest both.1) refl

pieces_back : (s : PathSegment) (ss : List PathSegment) → is_segment s ≡ true → list_all is_segment ss ≡ true
    → pieces (segment_text s ++ behind_slashes ss) ≡ map segment_text (s ∷ ss)
pieces_back s [] right all =
    ap pieces (append-nil (segment_text s)) ∙ pieces_plain (segment_text s) (segment_plain s right)
pieces_back s (t ∷ ss) right all =
    let both = and_parts _ _ all in
    pieces_cut (segment_text s) (segment_text t ++ behind_slashes ss) (segment_plain s right)
    ∙ ap (λ x. segment_text s ∷ x) (pieces_back t ss both.0 both.1)

-- as much of a text as may stand in a name
prefix_all : (name : List ℕ) (d : ℕ) (rest : List ℕ) → list_all continues_name name ≡ true → continues_name d ≡ false
    → prefix_len continues_name (name ++ d ∷ rest) ≡ length name
prefix_all [] d rest all stops = rw stops refl
prefix_all (c ∷ cs) d rest all stops =
    let both = and_parts (continues_name c) (list_all continues_name cs) all in
    let next : 1 + length cs ≡ suc (length cs) = omega arith in
    rw (both.0, prefix_all cs d rest both.1 stops) next

variable_back : (name : List ℕ) (d : ℕ) (rest : List ℕ) → is_variable_name name ≡ true → continues_name d ≡ false
    → variable_of (name ++ d ∷ rest) ≡ closed_by name (d ∷ rest)
variable_back name d rest right stops =
    let prefix = prefix_all name d rest (name_continues name right) stops in
    let long : name_length (name ++ d ∷ rest) ≡ length name =
    ap (λ n. length (take n (name ++ d ∷ rest))) prefix ∙ ap length (take-append_seam name (d ∷ rest)) in
    rw (long, take-append_seam name (d ∷ rest), drop-append_seam name (d ∷ rest), right) refl

segment_back : (s : PathSegment) → is_segment s ≡ true → segment_of (segment_text s) ≡ Some s
segment_back (Literal []) right = absurd (cc right)
segment_back (Literal (c ∷ cs)) right =
    let first = (and_parts _ _ (and_parts _ _ (and_parts _ _ right).0).1).0 in
    ap (λ b. if b then variable_of cs else literal_of (c ∷ cs)) (not-true (c == 123) first)
    ∙ ap (λ b. if b then Some (Literal (c ∷ cs)) else None) right
segment_back (VarnameSegment name) right = variable_back name 125 [] right refl
segment_back (VarnameWildcard name) right = variable_back name 58 (46 ∷ 42 ∷ 125 ∷ []) right refl

segments_back : (ss : List PathSegment) → list_all is_segment ss ≡ true → segments_in (map segment_text ss) ≡ Some ss
segments_back [] all = refl
segments_back (s ∷ ss) all = let both = and_parts _ _ all in rw (segment_back s both.0, segments_back ss both.1) refl

-- a segment's text is not empty
begun : (s : PathSegment) → is_segment s ≡ true → (c : ℕ) × (cs : List ℕ) × (segment_text s ≡ c ∷ cs)
begun (Literal []) right = absurd (cc right)
begun (Literal (c ∷ cs)) right = (c, cs, refl)
begun (VarnameSegment name) right = (123, name ++ codes "}", refl)
begun (VarnameWildcard name) right = (123, name ++ codes ":.*}", refl)

behind_begun : (text : List ℕ) → ((c : ℕ) × (cs : List ℕ) × (text ≡ c ∷ cs))
    → segments_behind text ≡ option_and_then if_arranged (segments_in (pieces text))
behind_begun text (c, cs, is) = rw is refl

spelled_read : (ss : List PathSegment) → are_segments ss ≡ true → segments_trimmed (template_text ss) ≡ Some ss
spelled_read [] right = refl
spelled_read (s ∷ ss) right =
    let both = and_parts (list_all is_segment (s ∷ ss)) (are_arranged (s ∷ ss)) right in
    let each = and_parts (is_segment s) (list_all is_segment ss) both.0 in
    let (c, cs, is) = begun s each.0 in
    let text = segment_text s ++ behind_slashes ss in
    let starts : text ≡ c ∷ (cs ++ behind_slashes ss) = ap (λ x. x ++ behind_slashes ss) is in
    behind_begun text (c, cs ++ behind_slashes ss, starts)
    ∙ ap (option_and_then if_arranged) (ap segments_in (pieces_back s ss each.0 each.1) ∙ segments_back (s ∷ ss) both.0)
    ∙ rw both.1 refl

pub spelled : (path : List ℕ) (ss : List PathSegment) → (segments_of path ≡ Some ss) ↔ IsTemplateOf path ss
spelled path ss = (
  λ e.
      let both = read_spelled (trimmed path) ss e in
      let right = and_parts (list_all is_segment ss) (are_arranged ss) both.0 in
      let arranged = and_parts (is_wildcard_last ss) (are_distinct (names_of ss)) right.1 in
      record { each = right.0; last = arranged.0; distinct = arranged.1; spelled = both.1 },
  λ t. ap segments_trimmed t.spelled ∙ spelled_read ss (and_from _ _ t.each (and_from _ _ t.last t.distinct)),
)

-- a path is read as the segments that are read from it
pub read_as : (path : List ℕ) (found : Option (List PathSegment)) → found ≡ segments_of path → IsReadAs path found
read_as path None is = λ segments t. let never : None ≡ Some segments = is ∙ (spelled path segments).1 t in cc never
read_as path (Some segments) is = (spelled path segments).0 (sym is)
