use Rattle.std.proofs.Common.{◌≡◌, IfOk, sym, ◌∙◌, ap, subst}
use Rattle.std.proofs.lemmas.Result.{IfOk-weaker}
use Rattle.std.specs.declared.result.Result.{Result}
use Rattle.std.specs.declared.result.Result.TheVariants.{Ok}
use Rattle.schema_values.specs.declared.json_value.Json.{Json}
use Rattle.schema_values.specs.Sound.{IsSound}
use Rattle.descriptors.specs.declared.tree.Tree.{Tree}
use Rattle.typed_values.specs.Denotes.{JsonDenotes}
use Rattle.typed_values.specs.Encoding.{json_of_tree}
use Rattle.typed_values.proofs.WrittenBack.{read_back}
use Rattle.typed_values.proofs.encode.encode_json.Goals as goal

-- what holds of the JSON that the definition gives holds of what is written
if_written : {E : Type 0} (r : Result Json E) (P : Json → Type 0) (json : Json) → IfOk r (λ found. found ≡ json) → P json → IfOk r P
if_written r P json is holds = IfOk-weaker r _ P (λ found e. subst P (sym e) holds) is

pub returns-clause-sound : goal.returns-clause-sound
returns-clause-sound c =
    let (sound, gives) = read_back c.args.table.now c.args.desc.now c.requires.table c.requires.desc c.args.tree.now c.requires.fits in
    if_written c.written.result IsSound (json_of_tree c.args.table.now c.args.desc.now c.args.tree.now) c.written.ensures sound

pub returns-clause-denotes : goal.returns-clause-denotes
returns-clause-denotes c =
    let (sound, gives) = read_back c.args.table.now c.args.desc.now c.requires.table c.requires.desc c.args.tree.now c.requires.fits in
    if_written c.written.result (λ json. (read : Tree) × JsonDenotes c.args.table.now c.args.desc.now json read)
    (json_of_tree c.args.table.now c.args.desc.now c.args.tree.now) c.written.ensures (gives.0, gives.1)

pub returns-clause-again : goal.returns-clause-again
returns-clause-again c none =
    let (sound, gives) = read_back c.args.table.now c.args.desc.now c.requires.table c.requires.desc c.args.tree.now c.requires.fits in
    if_written c.written.result (λ json. JsonDenotes c.args.table.now c.args.desc.now json c.args.tree.now)
    (json_of_tree c.args.table.now c.args.desc.now c.args.tree.now) c.written.ensures (gives.1 ∙ ap Ok (gives.2 none))
