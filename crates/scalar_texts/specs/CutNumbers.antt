-- The number of a text, cut where its size is beyond 64 bits, so that it is beyond all kinds of numbers.
use Rattle.std.specs.Prelude.{ℤ, ℕ, List, Option, None, ◌&&◌, if◌then◌else◌}
use Rattle.request_words.specs.CutNumbers.{cut_number_of}
use Rattle.request_words.specs.Numbers.{has_minus}
use Rattle.descriptors.specs.declared.desc.IntKind.{IntKind}
use Rattle.scalar_texts.specs.Texts.{has_no_sign}

-- none where a minus stands before a number of a kind that has no sign
abbrev pub cut_in : IntKind → List ℕ → Option ℤ
cut_in kind text = if has_no_sign kind && has_minus text then None else cut_number_of text
