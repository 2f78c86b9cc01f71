use Rattle.std.proofs.Common.{◌≡◌, ℕ, ◌+◌, Bool, List, false, true, ◌++◌, ◌∙◌, ap, length, sym}
use Rattle.std.specs.Fmt.{decimal}
use Rattle.api_documents.specs.ErrorNames.{given_names, is_taken}
use Rattle.api_documents.specs.Ordered.{in_text_order, is_among}
use Rattle.api_documents.proofs.Among.{among_taken}
use Rattle.api_documents.proofs.FreeNumbers.{free_here, free_later}
use Rattle.api_documents.proofs.error_names.free_number.Goals as goal

-- whether a text is among names in order tells whether it is taken
told : (names keys : List (List ℕ)) (made text : List ℕ) (found answer : Bool) → keys ≡ in_text_order names
    → made ≡ text → found ≡ is_among made keys → found ≡ answer → is_taken names text ≡ answer
told names keys made text found answer ordered is finds answers =
    sym (among_taken text names) ∙ ap (is_among text) (sym ordered) ∙ ap (λ name. is_among name keys) (sym is)
    ∙ sym finds ∙ answers

pub loop-tried-preserved : goal.loop-tried-preserved
loop-tried-preserved c =
    let names = given_names c.args.named.now in
    let text = c.args.name.now ++ decimal (c.loop-tried.tried + 2) in
    let taken : is_taken names text ≡ true =
    told names c.args.taken.now.keys c.in_ok-numbered.field-0 text c.contains-in-loop-tried.result true c.requires
    c.in_ok-numbered.ensures c.contains-in-loop-tried.ensures c.if-not-contains.false in
    c.loop-tried.invariant
    ∙ free_later names c.args.name.now c.loop-tried.tried (length c.args.named.now) c.loop-tried-test.true taken

pub returns-then-not-contains : goal.returns-then-not-contains
returns-then-not-contains c =
    let names = given_names c.args.named.now in
    let text = c.args.name.now ++ decimal (c.loop-tried.tried + 2) in
    let free : is_taken names text ≡ false =
    told names c.args.taken.now.keys c.in_ok-numbered.field-0 text c.contains-in-loop-tried.result false c.requires
    c.in_ok-numbered.ensures c.contains-in-loop-tried.ensures c.if-not-contains.true in
    sym (c.loop-tried.invariant
    ∙ free_here names c.args.name.now c.loop-tried.tried (length c.args.named.now) c.loop-tried-test.true free)
