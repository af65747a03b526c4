use Rattle.std.proofs.Common.{◌∷◌, refl, ◌∙◌, arith}
use Rattle.shared_ledger.proofs.Whole.{word_alone, fails_alone}
use Rattle.shared_ledger.proofs.laws.whole_books_tell_the_words.Goals as goal

pub returns : goal.returns
returns c = record {
  word = λ roots root words book spent kept low whole.
      kept.xors root low ∙ word_alone (book ∷ spent) 0 book refl kept.numbered kept.spent whole root;
  failed = λ roots root words book spent kept low whole.
      let word = kept.fails root low in
      let e = fails_alone (book ∷ spent) 0 book refl kept.numbered kept.spent whole root in
      (λ is. omega arith, λ some. omega arith);
}
