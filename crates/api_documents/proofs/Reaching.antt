-- Names that are reached: once a step adds none, none is added later.
use Rattle.std.proofs.Common.{◌≡◌, ℕ, zero, suc, ◌+◌, ◌-◌, ◌≤◌, List, [], ◌∷◌, length, refl, sym, ◌∙◌, ap, arith, ◌⊎◌}
use Rattle.std.proofs.Common.{inl, inr}
use Rattle.std.specs.BTreeSet.{insert_key}
use Rattle.std.specs.Ordering.{match_ordering}
use Rattle.std.specs.declared.cmp.Ordering.TheVariants.{Less, Equal, Greater}
use Rattle.descriptors.specs.declared.table.Definition.{Definition}
use Rattle.api_documents.specs.Ordered.{text_order, with_texts}
use Rattle.api_documents.specs.References.{reached_within, referred_by}

-- a text that is added makes the list longer, or was there
Adds : List (List ℕ) → List (List ℕ) → Type 0
Adds more texts = (more ≡ texts) ⊎ (length more ≡ suc (length texts))

adds_later : (first : List ℕ) (rest more : List (List ℕ)) → Adds more rest → Adds (first ∷ more) (first ∷ rest)
unfolding Adds
adds_later first rest more (inl e) = inl (ap (λ texts. first ∷ texts) e)
adds_later first rest more (inr e) = inr (ap suc e)

text_added : (texts : List (List ℕ)) (text : List ℕ) → Adds (insert_key text_order texts text) texts
unfolding Adds
text_added [] text = inr refl
text_added (first ∷ rest) text =
    let later = insert_key text_order rest text in
    elim (text_order text first)
    as (λ o. Adds (match_ordering o (text ∷ first ∷ rest) (first ∷ rest) (first ∷ later)) (first ∷ rest)) [
      | Less ↦ inr refl
      | Equal ↦ inl refl
      | Greater ↦ adds_later first rest later (text_added rest text)
    ]

no_shorter : (more texts : List (List ℕ)) → length texts ≤ length (with_texts texts more)
unfolding Adds
no_shorter [] texts = omega arith
no_shorter (text ∷ more) texts =
    let added = text_added texts text in
    let rest = no_shorter more (insert_key text_order texts text) in
    elim added [ inl e ↦ omega (arith, rest, ap length e) | inr e ↦ omega (arith, rest, e) ]

-- where the list is as long as before, it is as before
pub same_length : (more texts : List (List ℕ))
    → length (with_texts texts more) ≡ length texts → with_texts texts more ≡ texts
unfolding Adds
same_length [] texts e = refl
same_length (text ∷ more) texts e =
    let rest = no_shorter more (insert_key text_order texts text) in
    elim (text_added texts text) [
      | inl same ↦ same_length more (insert_key text_order texts text) (e ∙ ap length (sym same)) ∙ same
      | inr longer ↦ absurd (omega (arith, rest, e, longer))
    ]

module _ (table : List Definition) (roots : List (List ℕ)) where
  abbrev reached : ℕ → List (List ℕ)
  reached = reached_within table roots

  reached_later : (n : ℕ) → reached (suc n) ≡ reached n → (k m : ℕ) → m ≡ k + n → reached m ≡ reached n
  reached_later n same zero m e = let q : m ≡ n = omega (arith, e) in ap reached q
  reached_later n same (suc k) m e =
      let q : m ≡ suc (k + n) = omega (arith, e) in
      let before = reached_later n same k (k + n) refl in
      ap reached q
      ∙ ap (λ (names : List (List ℕ)). with_texts names (referred_by names table)) before
      ∙ same

  -- once a step adds none, all are there
  pub all_reached : (n m : ℕ) → n ≤ m → reached (suc n) ≡ reached n → reached m ≡ reached (suc n)
  all_reached n m le same = let q : m ≡ (m - n) + n = omega (arith, le) in reached_later n same (m - n) m q ∙ sym same
