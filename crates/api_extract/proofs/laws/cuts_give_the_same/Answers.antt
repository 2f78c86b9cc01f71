use Rattle.api_extract.proofs.Cuts.{same_of_all, same_of_each, same_refusal, same_unstreamed}
use Rattle.api_extract.proofs.laws.cuts_give_the_same.Goals as goal

pub returns : goal.returns
returns c = record {
  each = λ terms request one other slot cuts none. same_of_each terms request one other cuts slot none;
  all = λ terms slots request one other cuts. same_of_all terms request one other cuts slots;
  refused = λ terms slots request one other error cuts is. same_refusal terms request one other cuts slots error is;
  unstreamed = λ terms slots request one other cuts none. same_unstreamed terms request one other cuts slots none;
}
