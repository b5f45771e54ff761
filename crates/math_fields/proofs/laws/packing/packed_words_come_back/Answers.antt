use Rattle.math_fields.proofs.Packing.{words_of-elements_of, length-elements_of, length-words_of}
use Rattle.math_fields.proofs.laws.packing.packed_words_come_back.Goals as goal

pub returns : goal.returns
returns c = record { words = words_of-elements_of; element_count = length-elements_of; word_count = length-words_of }
