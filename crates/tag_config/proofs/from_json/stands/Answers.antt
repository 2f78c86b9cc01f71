use Rattle.std.proofs.Common.{◌≡◌, Option, Some, None, ap, refl, ◌∙◌}
use Rattle.std.specs.Prelude.{is_some, option_map}
use Rattle.schema_values.specs.Get.{get_of}
use Rattle.schema_values.proofs.CallerLemmas.{chars-all_ascii}
use Rattle.tag_config.proofs.from_json.stands.Goals as goal

is_some-map : {A B : Type 0} (f : A → B) (found : Option A) → is_some found ≡ is_some (option_map f found)
is_some-map f None = refl
is_some-map f (Some x) = refl

pub returns : goal.returns
returns c =
    c.is_some.ensures
    ∙ is_some-map _ c.get.result
    ∙ ap is_some (c.get.ensures ∙ ap (λ name. get_of name c.args.json.now) (chars-all_ascii c.args.name.now c.requires))
