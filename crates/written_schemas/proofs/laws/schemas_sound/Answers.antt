use Rattle.typed_values.specs.Schemas.{in_header, in_query}
use Rattle.written_schemas.proofs.SoundSchemas.{in_header_stands, in_query_stands, plain_sound, schema_described_sound, schema_titled_sound, shown_plain_sound, shown_titled_sound}
use Rattle.written_schemas.proofs.laws.schemas_sound.Goals as goal

pub returns : goal.returns
returns c = record {
  plain = plain_sound;
  titled = λ table desc name passes right short. schema_titled_sound table desc passes right short name;
  described = λ table desc text passes right short. schema_described_sound table desc passes right short text;
  header_plain = λ table desc passes right short. shown_plain_sound table desc (in_header desc) passes right short (in_header_stands desc);
  header_titled = λ table desc name passes right short. shown_titled_sound table desc (in_header desc) passes right short (in_header_stands desc) name;
  query_plain = λ table desc passes right short. shown_plain_sound table desc (in_query desc) passes right short (in_query_stands desc);
  query_titled = λ table desc name passes right short. shown_titled_sound table desc (in_query desc) passes right short (in_query_stands desc) name;
}
