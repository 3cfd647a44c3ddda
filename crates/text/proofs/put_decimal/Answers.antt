-- `text::put_decimal` meets its contract: the digits that the code lends are the decimal. Assumes nothing.
use Rattle.text.specs.Laws.{put_digits}
use Rattle.text.proofs.put_decimal.Goals as goal

pub returns : goal.returns
returns c =
    put_digits _ _ _ _ _ _ c.requires.1 c.leading_zeros-zeros.ensures.0 c.digit_of.ensures
    c.digit_of-2.ensures c.digit_of-3.ensures c.digit_of-4.ensures c.put.ensures
