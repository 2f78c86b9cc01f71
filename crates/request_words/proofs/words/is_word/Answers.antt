use Rattle.std.proofs.Common.{◌≡◌, sym, ◌∙◌}
use Rattle.std.proofs.lemmas.Slice.Eq.{bytes_eq-Decides}
use Rattle.request_words.proofs.WordLemmas.{same_test, chars-word}
use Rattle.request_words.proofs.words.is_word.Goals as goal

pub returns : goal.returns
returns c =
    let word = chars-word c.args.word.now c.requires in
    same_test _ _ (c.args.text.now ≡ c.args.word.now)
    (λ h. c.equals_str.ensures.0 h ∙ word) (λ e. c.equals_str.ensures.1 (e ∙ sym word))
    (bytes_eq-Decides c.args.text.now c.args.word.now).0 (bytes_eq-Decides c.args.text.now c.args.word.now).1
