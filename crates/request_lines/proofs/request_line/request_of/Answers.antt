use Rattle.std.proofs.Common.{◌∙◌, List, Option, codes, refl, subst, sym}
use Rattle.std.specs.List.{AllZip}
use Rattle.std.proofs.lemmas.Result.{err_from_is_err_and}
use Rattle.schema_values.specs.declared.json_value.Json.{Json}
use Rattle.schema_values.specs.declared.json_value.Member.{Member}
use Rattle.schema_values.specs.Member.{name_of}
use Rattle.schema_values.specs.Order.{sorted_by}
use Rattle.typed_values.specs.Denotes.{value_named}
use Rattle.request_lines.specs.Said.{AreItems, AreMembers, IsFrameOf, SaysEntry}
use Rattle.request_lines.proofs.MadeLemmas.{frames_made, frames_said}
use Rattle.request_lines.proofs.NamedValues.{distinct_in}
use Rattle.request_lines.proofs.SaidLemmas.{head_before, head_behind, items_same, members_same}
use Rattle.request_lines.proofs.request_line.request_of.Goals as goal

pub variables_of-requires : goal.variables_of-requires
variables_of-requires c =
    let inner = c.in_ok-members_named.field-0 in
    let kept = c.in_ok-items_named.ensures.others (codes "variables") refl
    ∙ c.in_ok-request_id.ensures.others (codes "variables") refl
    ∙ c.in_ok-template.ensures.others (codes "variables") refl in
    distinct_in c.args.members.now.items (codes "variables") inner c.requires
    (subst (λ (v : Option Json). AreMembers v inner) kept c.in_ok-members_named.ensures.members)

pub returns-in_err-template-clause-bad : goal.returns-in_err-template-clause-bad
returns-in_err-template-clause-bad c bad said says at request frames made =
    c.in_err-template.ensures.bad said.template says.template

pub returns-in_err-request_id-clause-bad : goal.returns-in_err-request_id-clause-bad
returns-in_err-request_id-clause-bad c bad said says at request frames made =
    c.in_err-request_id.ensures.bad said.request_id
    (c.in_ok-template.ensures.others (codes "request_id") refl ∙ says.request_id)

pub returns-in_err-items_named-clause-bad : goal.returns-in_err-items_named-clause-bad
returns-in_err-items_named-clause-bad c bad said says at request frames made =
    let kept = c.in_ok-request_id.ensures.others (codes "frames") refl
    ∙ c.in_ok-template.ensures.others (codes "frames") refl in
    c.in_err-items_named.ensures.bad says.frames
    (subst (λ (v : Option Json). AreItems v says.frames) (sym kept) says.frames_are)

pub returns-in_err-frames-clause-bad : goal.returns-in_err-frames-clause-bad
returns-in_err-frames-clause-bad c bad said says at request frames made =
    let items = c.in_ok-items_named.field-0 in
    let kept = c.in_ok-request_id.ensures.others (codes "frames") refl
    ∙ c.in_ok-template.ensures.others (codes "frames") refl in
    let told = err_from_is_err_and c.from_residual-in_err-frames.result c.from_residual-in_err-frames.ensures.1 in
    let same = items_same (value_named c.args.members.now.items (codes "frames")) says.frames items says.frames_are
    (subst (λ (v : Option Json). AreItems v items) kept c.in_ok-items_named.ensures.items) in
    c.in_err-frames.ensures.bad (cc (told.1, told.2, bad)) frames
    (subst (λ (js : List Json). AllZip IsFrameOf js frames) same
    (frames_said says.frames said.frames frames says.frames_said made.framed))

pub returns-in_err-members_named-clause-bad : goal.returns-in_err-members_named-clause-bad
returns-in_err-members_named-clause-bad c bad said says at request frames made =
    let kept = c.in_ok-items_named.ensures.others (codes "variables") refl
    ∙ c.in_ok-request_id.ensures.others (codes "variables") refl
    ∙ c.in_ok-template.ensures.others (codes "variables") refl in
    c.in_err-members_named.ensures.bad says.variables
    (subst (λ (v : Option Json). AreMembers v says.variables) (sym kept) says.variables_are)

pub returns-in_err-variables-clause-bad : goal.returns-in_err-variables-clause-bad
returns-in_err-variables-clause-bad c bad said says at request frames made =
    let inner = c.in_ok-members_named.field-0 in
    let kept = c.in_ok-items_named.ensures.others (codes "variables") refl
    ∙ c.in_ok-request_id.ensures.others (codes "variables") refl
    ∙ c.in_ok-template.ensures.others (codes "variables") refl in
    let told = err_from_is_err_and c.from_residual-in_err-variables.result c.from_residual-in_err-variables.ensures.1 in
    let same = members_same (value_named c.args.members.now.items (codes "variables")) says.variables inner
    says.variables_are (subst (λ (v : Option Json). AreMembers v inner) kept c.in_ok-members_named.ensures.members) in
    c.in_err-variables.ensures.bad (cc (told.1, told.2, bad)) said.variables
    (subst (λ (ms : List Member). AllZip SaysEntry (sorted_by name_of ms) said.variables) same says.variables_said)

pub returns-in_err-info-clause-bad : goal.returns-in_err-info-clause-bad
returns-in_err-info-clause-bad c bad said says at request frames made =
    let told = err_from_is_err_and c.from_residual-in_err-info.result c.from_residual-in_err-info.ensures.1 in
    c.in_err-info.ensures.bad (cc (told.1, told.2, bad)) request.info (
      said.method,
      said.uri,
      said.headers,
      head_behind c.args.members.now.items c.text_named.new.members.items
          c.text_named-2.new.members.items c.items_named.new.members.items c.members_named.new.members.items
          c.in_ok-template.ensures.others c.in_ok-request_id.ensures.others c.in_ok-items_named.ensures.others
          c.in_ok-members_named.ensures.others said.method said.uri said.headers says.head,
      made.head,
    )

pub returns-clause-made : goal.returns-clause-made
returns-clause-made c =
    let items = c.in_ok-items_named.field-0 in
    let inner = c.in_ok-members_named.field-0 in
    let in_template = c.in_ok-template.ensures.others in
    let in_id = c.in_ok-request_id.ensures.others in
    let in_frames = c.in_ok-items_named.ensures.others in
    let in_variables = c.in_ok-members_named.ensures.others in
    let (method, target, lines, says, head) = c.in_ok-info.ensures.head in
    let (written, frames_say, framed) = frames_made items c.in_ok-frames.frames c.in_ok-frames.ensures.frames in (
      record {
        method = method;
        template = c.in_ok-template.template;
        request_id = c.in_ok-request_id.request_id;
        uri = target;
        variables = c.in_ok-variables.variables.entries;
        headers = lines;
        frames = written;
      },
      record {
        head = head_before c.args.members.now.items c.text_named.new.members.items c.text_named-2.new.members.items
            c.items_named.new.members.items c.members_named.new.members.items in_template in_id in_frames
            in_variables method target lines says;
        template = c.in_ok-template.ensures.text;
        request_id = sym (in_template (codes "request_id") refl) ∙ c.in_ok-request_id.ensures.text;
        variables = inner;
        variables_are = subst (λ (v : Option Json). AreMembers v inner)
            (in_frames (codes "variables") refl ∙ in_id (codes "variables") refl
            ∙ in_template (codes "variables") refl)
            c.in_ok-members_named.ensures.members;
        variables_said = c.in_ok-variables.ensures.variables;
        frames = items;
        frames_are = subst (λ (v : Option Json). AreItems v items)
            (in_id (codes "frames") refl ∙ in_template (codes "frames") refl) c.in_ok-items_named.ensures.items;
        frames_said = frames_say;
      },
      record { head = head; made = rw c.in_ok-version.ensures refl; framed = framed },
    )
