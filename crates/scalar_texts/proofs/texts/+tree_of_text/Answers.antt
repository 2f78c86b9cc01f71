use Rattle.std.proofs.Common.{sym, ◌∙◌, ap, arith}
use Rattle.std.specs.Str.{chars}
use Rattle.descriptors.specs.declared.desc.Desc.{out-Desc}
use Rattle.descriptors.specs.declared.desc.Desc.TheVariants as desc
use Rattle.typed_values.specs.Denotes.{at_definition}
use Rattle.scalar_texts.specs.Texts.{text_told}
use Rattle.scalar_texts.proofs.Passing.{option_passes, definition_passes, few_names}
use Rattle.scalar_texts.proofs.Steps.{fewer_inside, fewer_behind}
use Rattle.scalar_texts.proofs.TextSteps.{text_row, no_text}
use Rattle.scalar_texts.proofs.texts.+tree_of_text.Goals as goal

pub name_of_text-requires : goal.name_of_text-requires
name_of_text-requires t c = rw c.as_slice.ensures (few_names c.args.table.now c.requires.1.1.0 c.args.desc.now c.requires.1.1.1 c.in-Enumeration.names c.in-Enumeration.is)

pub tree_of_text-requires : goal.tree_of_text-requires
tree_of_text-requires t c =
    let less = fewer_inside c.args.table.now c.requires.1.1.0.guarded c.args.desc.now c.in-Option.inner (ap out-Desc c.in-Option.is ∙ desc.outs-Option c.in-Option.inner) in
    rw c.get.ensures (omega (arith, c.requires.1.0, less), (c.requires.1.1.0, option_passes c.args.table.now c.requires.1.1.0 c.args.desc.now c.requires.1.1.1 c.in-Option.inner c.in-Option.is))

pub tree_of_text-requires-in-Some : goal.tree_of_text-requires-in-Some
tree_of_text-requires-in-Some t c =
    let name = c.in-Ref.name in
    let found = sym c.in-Some.ensures in
    let less = fewer_behind c.args.table.now c.requires.1.1.0.guarded c.args.desc.now name c.in-Some.definition.now (ap out-Desc c.in-Ref.is ∙ desc.outs-Ref name) found in
    (omega (arith, c.requires.1.0, less), (c.requires.1.1.0, definition_passes c.args.table.now c.requires.1.1.0 name c.in-Some.definition.now found))

pub returns-in-Bool : goal.returns-in-Bool
returns-in-Bool t c = rw (text_row c.args.table.now (chars c.args.text.now) c.requires.1.1.0.guarded c.args.desc.now _ (ap out-Desc c.in-Bool.is ∙ desc.outs-Bool)) c.truth_of_text.ensures

pub returns-in-Char : goal.returns-in-Char
returns-in-Char t c = rw (text_row c.args.table.now (chars c.args.text.now) c.requires.1.1.0.guarded c.args.desc.now _ (ap out-Desc c.in-Char.is ∙ desc.outs-Char)) c.character_of_text.ensures

pub returns-in-Int : goal.returns-in-Int
returns-in-Int t c =
    rw (text_row c.args.table.now (chars c.args.text.now) c.requires.1.1.0.guarded c.args.desc.now _ (ap out-Desc c.in-Int.is ∙ desc.outs-Int c.in-Int.kind c.in-Int.min c.in-Int.max)) c.number_of_text.ensures

pub returns-in-Text : goal.returns-in-Text
returns-in-Text t c =
    rw (text_row c.args.table.now (chars c.args.text.now) c.requires.1.1.0.guarded c.args.desc.now _ (ap out-Desc c.in-Text.is ∙ desc.outs-Text c.in-Text.min c.in-Text.max c.in-Text.format)) c.words_of_text.ensures

pub returns-in-Enumeration : goal.returns-in-Enumeration
returns-in-Enumeration t c =
    rw (text_row c.args.table.now (chars c.args.text.now) c.requires.1.1.0.guarded c.args.desc.now _ (ap out-Desc c.in-Enumeration.is ∙ desc.outs-Enumeration c.in-Enumeration.names), ← c.as_slice.ensures) c.name_of_text.ensures

pub returns-in-Option : goal.returns-in-Option
returns-in-Option t c =
    rw (text_row c.args.table.now (chars c.args.text.now) c.requires.1.1.0.guarded c.args.desc.now _ (ap out-Desc c.in-Option.is ∙ desc.outs-Option c.in-Option.inner), ← c.get.ensures)
    (c.in_some.ensures (text_told c.args.table.now (chars c.args.text.now) c.get.result.now) c.tree_of_text.ensures)

pub returns-in-Some : goal.returns-in-Some
returns-in-Some t c =
    let told = text_told c.args.table.now (chars c.args.text.now) in
    rw (text_row c.args.table.now (chars c.args.text.now) c.requires.1.1.0.guarded c.args.desc.now _ (ap out-Desc c.in-Ref.is ∙ desc.outs-Ref c.in-Ref.name) ∙ ap (at_definition told) (sym c.in-Some.ensures)) c.tree_of_text-in-Some.ensures

pub returns-in-None : goal.returns-in-None
returns-in-None t c =
    let told = text_told c.args.table.now (chars c.args.text.now) in
    rw (text_row c.args.table.now (chars c.args.text.now) c.requires.1.1.0.guarded c.args.desc.now _ (ap out-Desc c.in-Ref.is ∙ desc.outs-Ref c.in-Ref.name) ∙ ap (at_definition told) (sym c.in-None.ensures)) c.refused.ensures.told

pub returns-in_default : goal.returns-in_default
returns-in_default t c =
    rw (no_text c.args.table.now (chars c.args.text.now) c.requires.1.1.0.guarded c.args.desc.now c.in_default.not-Bool c.in_default.not-Char c.in_default.not-Int c.in_default.not-Text c.in_default.not-Enumeration c.in_default.not-Option c.in_default.not-Ref)
    c.refused-in_default.ensures.told
