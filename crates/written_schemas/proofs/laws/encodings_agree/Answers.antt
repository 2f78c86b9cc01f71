use Rattle.typed_values.proofs.CallerLemmas.{read_back}
use Rattle.written_schemas.proofs.Whole.{plain_agrees, titled_agrees, described_agrees}
use Rattle.written_schemas.proofs.laws.encodings_agree.Goals as goal

pub returns : goal.returns
returns c = record {
  plain = λ doc table desc tree written fits.
      let (sound, gives) = read_back table desc written.table_passes written.desc_passes tree fits in
      (plain_agrees doc table desc written _ sound).1 (gives.0, gives.1);
  titled = λ doc table desc name tree written fits.
      let (sound, gives) = read_back table desc written.table_passes written.desc_passes tree fits in
      (titled_agrees doc table desc written name _ sound).1 (gives.0, gives.1);
  described = λ doc table desc text tree written fits.
      let (sound, gives) = read_back table desc written.table_passes written.desc_passes tree fits in
      (described_agrees doc table desc written text _ sound).1 (gives.0, gives.1);
}
