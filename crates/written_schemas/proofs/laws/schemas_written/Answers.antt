use Rattle.typed_values.specs.Schemas.{in_header, in_query}
use Rattle.written_schemas.proofs.NotRefused.{never_refused}
use Rattle.written_schemas.proofs.Written.{written_plain, written_titled}
use Rattle.written_schemas.proofs.laws.schemas_written.Goals as goal

pub returns : goal.returns
returns c = record {
  accepted = never_refused;
  plain = written_plain;
  titled = λ table desc name. written_titled table name desc;
  header_accepted = λ table desc. never_refused table (in_header desc);
  header_plain = λ table desc. written_plain table (in_header desc);
  header_titled = λ table desc name. written_titled table name (in_header desc);
  query_accepted = λ table desc. never_refused table (in_query desc);
  query_plain = λ table desc. written_plain table (in_query desc);
  query_titled = λ table desc name. written_titled table name (in_query desc);
}
