-- Descriptors are the same exactly where their codes are.
use Rattle.std.proofs.Common.{◌≡◌, ◌↔◌, true, refl, ap, subst}
use Rattle.std.proofs.lemmas.Bool.{and_from, and_parts, eq-eqb, eqb-true, false≢true}
use Rattle.descriptors.specs.contracts.desc.Desc as descs
use Rattle.descriptors.specs.declared.desc.Desc.{Desc}
use Rattle.api_documents.specs.ErrorNames.{same_code, same_desc}
use base.Stored.{Gv, gnil, gnum, gcons}

pub same_code-refl : (x : Gv) → same_code x x ≡ true
unfolding same_code
same_code-refl gnil = refl
same_code-refl (gnum n) = eq-eqb n n refl
same_code-refl (gcons a b) = and_from _ _ (same_code-refl a) (same_code-refl b)

pub same_code-is : (x y : Gv) → same_code x y ≡ true → x ≡ y
unfolding same_code
same_code-is gnil gnil e = refl
same_code-is gnil (gnum n) e = absurd (false≢true e)
same_code-is gnil (gcons a b) e = absurd (false≢true e)
same_code-is (gnum m) gnil e = absurd (false≢true e)
same_code-is (gnum m) (gnum n) e = ap gnum (eqb-true m n e)
same_code-is (gnum m) (gcons a b) e = absurd (false≢true e)
same_code-is (gcons a b) gnil e = absurd (false≢true e)
same_code-is (gcons a b) (gnum n) e = absurd (false≢true e)
same_code-is (gcons a b) (gcons c d) e =
    let both = and_parts (same_code a c) (same_code b d) e in
    let first = same_code-is a c both.0 in
    let second = same_code-is b d both.1 in
    λ i. gcons (first i) (second i)

pub same_desc-is : (a b : Desc) → (same_desc a b ≡ true) ↔ (a ≡ b)
unfolding same_desc
same_desc-is a b = (
  λ e. descs.the_row.coded.inj a b (same_code-is _ _ e),
  λ same. subst (λ d. same_code (descs.the_row.coded.code a) (descs.the_row.coded.code d) ≡ true) same
      (same_code-refl _),
)
