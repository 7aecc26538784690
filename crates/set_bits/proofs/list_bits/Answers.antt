use Rattle.set_bits.proofs.BitsLaws.{word_inside, list_room, list_rest, list_all}
use Rattle.set_bits.proofs.list_bits.Goals as goal

pub word_from-requires : goal.word_from-requires
word_from-requires c = let h = c.requires in word_inside h

pub list_word-count-requires : goal.list_word-count-requires
list_word-count-requires c = list_room c.requires c.numbers_end-end.ensures c.word_from.ensures

pub list_words-requires : goal.list_words-requires
list_words-requires c = list_rest c.requires c.numbers_end-end.ensures c.word_from.ensures c.list_word-count.ensures c.list_word-count.auto.list

pub returns : goal.returns
returns c = list_all c.requires c.numbers_end-end.ensures c.word_from.ensures c.list_word-count.ensures c.list_words.ensures
