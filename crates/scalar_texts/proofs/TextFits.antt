-- A tree that a text denotes is a value of the descriptor.
use Rattle.std.proofs.Common.{◌≡◌, ℕ, zero, suc, true, List, Option, Some, None, refl, sym, ◌∙◌, ap, subst, MatchOption}
use Rattle.std.specs.Prelude.{⊤}
use Rattle.descriptors.specs.declared.desc.Desc.{Desc, Null as NullDesc, out-Desc}
use Rattle.descriptors.specs.declared.desc.Desc.TheOpen.{Desc-F}
use Rattle.descriptors.specs.declared.desc.Desc.TheVariants as desc
use Rattle.descriptors.specs.declared.desc.Desc.TheViews.{roll-Desc, roll-out-Desc}
use Rattle.descriptors.specs.declared.table.Definition.{Definition}
use Rattle.descriptors.specs.declared.tree.Tree.{Tree, Unit as Nought}
use Rattle.descriptors.specs.declared.tree.Tree.TheVariants as tree
use Rattle.descriptors.specs.Definitions.{definition}
use Rattle.descriptors.proofs.CallerLemmas.{entry_found}
use Rattle.typed_values.specs.Checks.{TablePasses}
use Rattle.typed_values.specs.Denotes.{at_definition, room}
use Rattle.typed_values.specs.Fits.{nought_fits, if_there, fits_under, Fits}
use Rattle.typed_values.specs.Guarded.{IsGuarded}
use Rattle.typed_values.specs.Levels.{DescLevel}
use Rattle.typed_values.specs.Parts.{the_whole, in_option, StandsIn, IsPart, of_whole, of_table}
use Rattle.typed_values.specs.Resting.{RestsBy, Rests}
use Rattle.typed_values.proofs.CallerLemmas.{guarded_rests, fits_bool, fits_char, fits_int, fits_text, fits_enumeration, fits_option, fits_ref, nought_row}
use Rattle.scalar_texts.specs.Texts.{text_told, TextDenotes}
use Rattle.scalar_texts.proofs.ScalarFits.{Gives, truth_gives, number_gives, words_give, character_gives, name_gives, just_gives}
use Rattle.scalar_texts.proofs.TextSteps.{text_row}

-- what a part is made of, or what it refers to, is a part
pub option_part : {table : List Definition} {whole d : Desc} (x : Desc) → IsPart table whole d → out-Desc d ≡ Desc-F.Option x → IsPart table whole x
option_part x (of_whole s) e = of_whole (in_option x s e)
option_part x (of_table y c s) e = of_table y c (in_option x s e)

pub named_part : (table : List Definition) (whole : Desc) (name : List ℕ) (y : Desc) → definition table name ≡ Some y → IsPart table whole y
named_part table whole name y f = let (e, i) = entry_found table name y f in of_table e i.inside (subst (λ (x : Desc). StandsIn e.desc x) i.is the_whole)

module _ (table : List Definition) (whole : Desc) (guarded : IsGuarded table) where
  pub rests : (d : Desc) → IsPart table whole d → Rests table (room table whole) d
  rests = guarded_rests table whole guarded

  nought_is_null : fits_under table whole Nought NullDesc ≡ true
  nought_is_null = nought_row table whole Nought ∙ ap nought_fits tree.outs-Unit

  module _ (text : List ℕ) where
    abbrev Agrees : Desc → Type 0
    Agrees d = Gives (text_told table text d) (λ t. fits_under table whole t d)

    found_gives : (n : ℕ) → ((d : Desc) → Rests table n d → IsPart table whole d → Agrees d) → (o : Option Desc) → ((d : Desc) → o ≡ Some d → IsPart table whole d) → MatchOption o ⊤ (Rests table n)
        → Gives (at_definition (text_told table text) o) (λ t. if_there (fits_under table whole t) o)
    found_gives n next None part h t e = absurd (cc e)
    found_gives n next (Some d) part h t e = next d h (part d refl) t e

    row_gives : (n : ℕ) → ((d : Desc) → Rests table n d → IsPart table whole d → Agrees d) → (d : Desc) → IsPart table whole d → (x : DescLevel) → out-Desc d ≡ x → RestsBy table (Rests table n) x → Agrees d
    row_gives n next d part Desc-F.Bool e h t q =
        fits_bool table whole t d (rests d part) (sym (roll-out-Desc d) ∙ ap roll-Desc e ∙ desc.rolls-Bool) ∙ truth_gives text t (sym (text_row table text guarded d _ e) ∙ q)
    row_gives n next d part Desc-F.Char e h t q =
        fits_char table whole t d (rests d part) (sym (roll-out-Desc d) ∙ ap roll-Desc e ∙ desc.rolls-Char) ∙ character_gives text t (sym (text_row table text guarded d _ e) ∙ q)
    row_gives n next d part (Desc-F.Int kind min max) e h t q =
        fits_int table whole t d (rests d part) kind min max (sym (roll-out-Desc d) ∙ ap roll-Desc e ∙ desc.rolls-Int kind min max) ∙ number_gives kind min max text t (sym (text_row table text guarded d _ e) ∙ q)
    row_gives n next d part (Desc-F.Text min max format) e h t q =
        fits_text table whole t d (rests d part) min max format (sym (roll-out-Desc d) ∙ ap roll-Desc e ∙ desc.rolls-Text min max format) ∙ words_give min max text t (sym (text_row table text guarded d _ e) ∙ q)
    row_gives n next d part (Desc-F.Enumeration ns) e h t q =
        fits_enumeration table whole t d (rests d part) ns (sym (roll-out-Desc d) ∙ ap roll-Desc e ∙ desc.rolls-Enumeration ns)
        ∙ name_gives (λ s. fits_under table whole s NullDesc) ns text nought_is_null t (sym (text_row table text guarded d _ e) ∙ q)
    row_gives n next d part (Desc-F.Option x) e h t q =
        fits_option table whole t d (rests d part) x (sym (roll-out-Desc d) ∙ ap roll-Desc e ∙ desc.rolls-Option x)
        ∙ just_gives (λ s. fits_under table whole s x) (text_told table text x) (next x h (option_part x part e)) t (sym (text_row table text guarded d _ e) ∙ q)
    row_gives n next d part (Desc-F.Ref name) e h t q =
        fits_ref table whole t d (rests d part) name (definition table name) (sym (roll-out-Desc d) ∙ ap roll-Desc e ∙ desc.rolls-Ref name) refl
        ∙ found_gives n next (definition table name) (λ y f. named_part table whole name y f) h t (sym (text_row table text guarded d _ e) ∙ q)
    row_gives n next d part _ e h t q = absurd (cc (sym (text_row table text guarded d _ e) ∙ q))

    gives_within : (n : ℕ) (d : Desc) → Rests table n d → IsPart table whole d → Agrees d
    unfolding Rests
    gives_within zero d h part = absurd h
    gives_within (suc n) d h part = row_gives n (gives_within n) d part (out-Desc d) refl h

    -- each tree that a text denotes under a part is a value of it
    pub text_gives : (d : Desc) → IsPart table whole d → Gives (text_told table text d) (λ t. fits_under table whole t d)
    text_gives d part = gives_within (room table whole) d (rests d part) part

-- a tree that a text denotes is a value of the descriptor
pub text_fits : (table : List Definition) (d : Desc) (text : List ℕ) (t : Tree) → TablePasses table → TextDenotes table d text t → Fits table d t
text_fits table d text t passes e = text_gives table d passes.guarded text d (of_whole the_whole) t e
