-- One piece more of a text, and the digits in front of it.
pub use Rattle.report_grammar.proofs.Fronts.{digits_taken}
pub use Rattle.report_grammar.proofs.Pieces.{none_there, one_more, one_piece, after}
