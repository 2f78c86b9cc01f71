use Rattle.std.proofs.Common.{◌≡◌, ◌≤◌, ◌∙◌, ap, chars, length, rules, string_bytes, sym}
use Rattle.std.specs.Str.{encode_utf8_all}
use Rattle.base64.specs.Engines.{url_safe}
use Rattle.base64.specs.GeneralPurpose.{encode_of}
use Rattle.schema_values.specs.Print.{compact_of}
use Rattle.page_tokens.specs.Encoded.{encoding_of}
use Rattle.page_tokens.proofs.Letters.{chars-encode_of, consistent, encode_utf8_all-encode_of}
use Rattle.page_tokens.proofs.encoding.encoded.Goals as goal

pub returns-clause-text : goal.returns-clause-text
returns-clause-text c =
    let written : string_bytes c.in_ok-token.token ≡ encoding_of c.args.json.now =
    c.in_ok-token.ensures.text ∙ ap (encode_of url_safe) (c.as_bytes.ensures ∙ ap encode_utf8_all c.in_ok-text.ensures.text) in
    c.from_string.ensures ∙ ap chars written ∙ chars-encode_of (encode_utf8_all (compact_of c.args.json.now))

pub returns-clause-bytes : goal.returns-clause-bytes
returns-clause-bytes c = ap encode_utf8_all (returns-clause-text c) ∙ encode_utf8_all-encode_of (encode_utf8_all (compact_of c.args.json.now))

pub returns-clause-small : goal.returns-clause-small
returns-clause-small c =
    let written : string_bytes c.in_ok-token.token ≡ encoding_of c.args.json.now =
    c.in_ok-token.ensures.text ∙ ap (encode_of url_safe) (c.as_bytes.ensures ∙ ap encode_utf8_all c.in_ok-text.ensures.text) in
    let same = returns-clause-bytes c ∙ sym written in
    let short : length (string_bytes c.in_ok-token.token) ≤ 512 = search rules in
    rw same short

pub returns-clause-again : goal.returns-clause-again
returns-clause-again c sound shallow =
    let written : string_bytes c.in_ok-token.token ≡ encoding_of c.args.json.now =
    c.in_ok-token.ensures.text ∙ ap (encode_of url_safe) (c.as_bytes.ensures ∙ ap encode_utf8_all c.in_ok-text.ensures.text) in
    let same = returns-clause-bytes c ∙ sym written in
    record {
      bytes = encode_utf8_all c.in_ok-text.text;
      small = returns-clause-small c;
      decodes = rw (same, ← c.as_bytes.ensures) (c.in_ok-token.ensures.round_trip consistent);
      reads = c.in_ok-text.ensures.reads_back sound shallow;
    }
