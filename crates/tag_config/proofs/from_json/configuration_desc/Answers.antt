use Rattle.std.proofs.Common.{refl}
use Rattle.tag_config.proofs.from_json.configuration_desc.Goals as goal

pub returns : goal.returns
returns c =
    rw (c.in_ok-push-3.ensures.ok, c.in_ok-push-2.ensures.ok, c.in_ok-push.ensures.ok, c.new-fields.ensures, c.in_ok-field-3.ensures, c.in_ok-tags_desc.ensures, c.in_ok-field-2.ensures, c.in_ok-descriptor.ensures, c.in_ok-field.ensures)
    refl
